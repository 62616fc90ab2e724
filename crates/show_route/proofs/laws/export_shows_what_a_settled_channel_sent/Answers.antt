use Rattle.std.proofs.Common.{length, map}
use Rattle.attrs.specs.History.{content_at}
use Rattle.export_core.specs.Histories.{change_of, course_of}
use Rattle.export_core.specs.Keys.{key_of}
use Rattle.export_core.specs.Passing.{value_by}
use Rattle.export_core.specs.Sends.{last_value, sends}
use Rattle.show_route.proofs.Settling.{shows-what-is-sent}
use Rattle.show_route.proofs.laws.export_shows_what_a_settled_channel_sent.Goals as goal

pub returns : goal.returns
returns c query spec verdict history rows log net attrs all any one tells shows settled =
    shows-what-is-sent query spec verdict (content_at (length history) (map change_of history)) rows shows net attrs all any
    ((course_of spec history).best (key_of net) (length history)) (last_value (sends (key_of net) log))
    (c.course_tells_best.ensures spec history net (length history) one tells)
    (c.settled_is_present.ensures (value_by spec verdict) (course_of spec history) log settled (key_of net))
