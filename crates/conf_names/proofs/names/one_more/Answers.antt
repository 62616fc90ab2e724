use Rattle.conf_names.specs.Seen.{known_of}
use Rattle.conf_names.proofs.Wholes.{one_more_first}
use Rattle.conf_names.proofs.names.one_more.Goals as goal

pub returns : goal.returns
returns c names is =
    one_more_first (known_of c.args.text.now c.args.declared.now) c.args.at c.place_of-place.result c.args.name names c.args.is_taken c.is_full.result c.args.first.now c.note_if.new.first c.name_too_long.new.first c.note_if-2.new.first
    is c.place_of-place.ensures c.is_full.ensures c.note_if.ensures (c.name_too_long.ensures c.args.declared.now) c.note_if-2.ensures
