-- How a cursor goes on in its journal.
use Rattle.std.proofs.Common.{◌≡◌, ◌<◌, ◌≤◌, Bool, List, [], arith, refl, sym, subst, ◌∙◌, append-nil}
use mathlib.Core.List.{IsPrefix}
use Rattle.atomic_table.specs.Seated.{TableId}
use Rattle.jour_rule.specs.Moves.{position_of}
use Rattle.jour_rule.specs.declared.views.Entry.{Entry}
use Rattle.jour_rule.specs.declared.views.View.{View as Seat}
use Rattle.jour.specs.Seats.{front, journal, known, number_of}
use Rattle.jour.proofs.Told.{prefix_then}
use Rattle.table_shared.specs.Opening.{TableOpening}
use Rattle.export_lock.specs.Kept.{ReadsOn}

abbrev Reader : Type 0
Reader = (TableId × Seat TableOpening) × Bool

-- it stays where it is
pub reads_none : (a : Reader) → ReadsOn a a
reads_none a = record {
  here = refl;
  number = refl;
  mode = refl;
  prefix = ([], append-nil (front a.0.1));
  above = omega arith;
  sure = λ _. refl;
}

-- it looks for an entry
pub looks : (a b : Reader) → journal b.0 ≡ journal a.0 → front b.0.1 ≡ front a.0.1 → number_of b.0.1.role ≡ number_of a.0.1.role → b.1 ≡ a.1 → known a.0.1 ≤ known b.0.1 → (position_of a.0.1.role < known a.0.1 → known b.0.1 ≡ known a.0.1) → ReadsOn a b
looks a b here same number mode known sure = record {
  here = here;
  number = number;
  mode = mode;
  prefix = subst (λ (z : List Entry). IsPrefix (front a.0.1) z) (sym same) ([], append-nil (front a.0.1));
  above = known;
  sure = sure;
}

-- and moves past it
pub moves_on : (a b c : Reader) → ReadsOn a b → journal c.0 ≡ journal b.0 → number_of c.0.1.role ≡ number_of b.0.1.role → c.1 ≡ b.1 → IsPrefix (front b.0.1) (front c.0.1) → known c.0.1 ≡ known b.0.1 → ReadsOn a c
moves_on a b c r here number mode prefix same =
    let above = r.above in
    record {
      here = here ∙ r.here;
      number = number ∙ r.number;
      mode = mode ∙ r.mode;
      prefix = prefix_then (front a.0.1) (front b.0.1) (front c.0.1) r.prefix prefix;
      above = omega (arith, above, same);
      sure = λ less. same ∙ r.sure less;
    }
