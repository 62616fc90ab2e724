use Rattle.std.proofs.Common.{◌≡◌, drop, length, sym, ap, ◌∙◌, arith}
use Rattle.std.proofs.lemmas.Option.{same_Some, slice_get_within}
use Rattle.sys_run.proofs.phase.report_log.Goals as goal

pub item_at-from-requires : goal.item_at-from-requires
item_at-from-requires g c = let h = c.requires.logged in slice_get_within c.args.logged.now c.args.number h.0 h.1

pub copy_behind-requires : goal.copy_behind-requires
copy_behind-requires g c =
    let h = c.requires.logged in
    let same : c.item_at-from.result ≡ h.0 = same_Some c.item_at-from.result h.0 (sym c.item_at-from.ensures ∙ h.1) in
    let le = h.2 in
    let items = ap length c.items.ensures in
    omega (arith, same, le, items)

pub returns : goal.returns
returns g c = record {
  name = c.in_ok-name.ensures;
  pipe = c.is_pipe.ensures;
  began = c.item_at-from.result;
  begun = c.item_at-from.ensures;
  items = c.in_ok-items.ensures ∙ ap (drop c.item_at-from.result) c.items.ensures;
}
