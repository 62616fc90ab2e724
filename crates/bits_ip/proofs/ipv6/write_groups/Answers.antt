use Rattle.std.proofs.Common.{◌∙◌}
use Rattle.std.proofs.lemmas.Result.{on_ok_weaker}
use Rattle.bits_ip.proofs.Groups.{groups_written}
use Rattle.bits_ip.proofs.ipv6.write_groups.Goals as goal

pub returns-in_ok-write_hex-in-len1-up-clause-written : goal.returns-in_ok-write_hex-in-len1-up-clause-written
returns-in_ok-write_hex-in-len1-up-clause-written g c = on_ok_weaker c.write_more_groups.result (λ e. e ∙ groups_written c.args.groups.now (g.W.TextOut.written c.args.out.now) _ c.in-len1-up.len_at_least c.in_ok-write_hex-in-len1-up.ensures.written) c.write_more_groups.ensures.written
