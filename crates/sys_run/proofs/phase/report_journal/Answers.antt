use Rattle.std.proofs.Common.{◌≡◌, ◌∙◌, ap, arith, map, sym}
use Rattle.std.proofs.lemmas.Option.{same_Some, slice_get_within}
use Rattle.export_core.specs.Histories.{change_of}
use Rattle.sys_run.proofs.ReportingLoops.{drop_map}
use Rattle.sys_run.proofs.phase.report_journal.Goals as goal

pub item_at-from-requires : goal.item_at-from-requires
item_at-from-requires c = let h = c.requires.heads in slice_get_within c.args.heads.now c.args.number h.0 h.1

pub since-requires : goal.since-requires
since-requires c =
    let h = c.requires.heads in
    let same : c.item_at-from.result ≡ h.0 = same_Some c.item_at-from.result h.0 (sym c.item_at-from.ensures ∙ h.1) in
    let le = h.2 in
    omega (arith, same, le)

pub returns : goal.returns
returns c = record {
  name = c.in_ok-name.ensures;
  from_is = c.item_at-from.ensures;
  entries = c.in_ok-entries.ensures ∙ ap (map change_of) c.since.ensures ∙ drop_map change_of c.item_at-from.result c.args.table.now.entries.items;
}
