use Rattle.std.proofs.Common.{◌∙◌, ◌++◌, ◌∷◌, [], sym, ap, subst, List, ℕ, take, arith}
use Rattle.std.proofs.lemmas.List.{length-take-le, take_all, take_more}
use Rattle.std.specs.Map.{lookup}
use Rattle.script_lines.specs.NamePlaces.{ArePlaces, is_key}
use Rattle.script_lines.proofs.name_list.places.Goals as goal

pub loop-number-init : goal.loop-number-init
loop-number-init c = λ name. ap (λ l. lookup (is_key name) l) c.new-places.ensures.empty

pub loop-number-preserved : goal.loop-number-preserved
loop-number-preserved c =
    subst (λ (names : List (List ℕ)). ArePlaces names c.note.new.places.entries)
    (sym (take_more c.args.names.now c.loop-number.number c.index-names-number.result (omega (arith, c.loop-number-test.true))
    ∙ ap (λ (n : List ℕ). take c.loop-number.number c.args.names.now ++ n ∷ []) (sym c.index-names-number.is ∙ sym c.as_slice.ensures)))
    (c.in_ok-note.ensures (take c.loop-number.number c.args.names.now) (sym (length-take-le c.loop-number.number c.args.names.now (omega (arith, c.loop-number-test.true)))) c.loop-number.invariant)

pub returns : goal.returns
returns c =
    subst (λ (names : List (List ℕ)). ArePlaces names c.loop-number.places.entries) (take_all c.loop-number.number c.args.names.now c.loop-number-test.false)
    c.loop-number.invariant
