use Rattle.std.proofs.Common.{◌≡◌, List, [], ◌∷◌, ◌++◌, map, sym, ap, ◌∙◌, append_assoc, rules}
use Rattle.std.proofs.lemmas.List.{append-nil, nil_from_length}
use Rattle.attrs.specs.declared.attributes.Attrs.{Attrs}
use Rattle.export_core.specs.declared.log.Key.{Key}
use Rattle.report.specs.declared.phase.Standing.{Standing}
use Rattle.core_setup.specs.Reports.{standing_of}
use Rattle.room_report.proofs.Looping.{map_push}
use Rattle.room_report.proofs.exports.list_standing.Goals as goal

pub loop-key-preserved : goal.loop-key-preserved
loop-key-preserved c =
    let done = c.loop-key.yielded in
    let value : Key × Attrs = (c.in-Some.key, c.in-Some.attrs) in (
      c.in_ok-push.ensures.pushed ∙ ap (λ (l : List Standing). l ++ standing_of value ∷ []) c.loop-key.invariant.0 ∙ sym (map_push standing_of done value),
      append_assoc done (value ∷ []) c.next.new.self.rest.items ∙ ap (λ (l : List (Key × Attrs)). done ++ l) (sym c.in-Some.ensures.steps.0) ∙ c.loop-key.invariant.1,
    )

pub returns : goal.returns
returns c =
    let none : c.loop-key.key-iterator.rest.items ≡ [] = search (rules, nil_from_length) in
    let whole : c.loop-key.yielded ≡ c.args.values.items =
    sym (append-nil c.loop-key.yielded) ∙ ap (λ (l : List (Key × Attrs)). c.loop-key.yielded ++ l) (sym none) ∙ c.loop-key.invariant.1 in
    c.loop-key.invariant.0 ∙ ap (map standing_of) whole
