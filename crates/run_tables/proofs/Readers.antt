-- The readers of a table, as code reads them.
use Rattle.std.proofs.Common.{◌≡◌, ℕ, zero, suc, ◌<◌, inl, inr, Bool, true, false, List, [], ◌∷◌, length, Some, None, refl, sym, ap, ◌∙◌, arith}
use Rattle.std.specs.Prelude.{◌==◌, ◌&&◌, ◌||◌, nat_lt, slice_get}
use Rattle.std.specs.declared.alloc.Global.{Global}
use Rattle.std.specs.declared.vec.Vec.{Vec}
use Rattle.std.proofs.lemmas.Bool.Decides.{eqb_tells, nat_tests}
use Rattle.bits_ip.specs.Prefix.{Net}
use Rattle.attrs.specs.declared.judge.Verdict.{Verdict}
use Rattle.attrs.specs.declared.route.Route.{Route}
use Rattle.export_core.specs.Candidates.{among}
use Rattle.core_machine.specs.Machine.{State}
use Rattle.core_machine.specs.Rules.{Rules}
use Rattle.core_setup.specs.Channels.{channels}
use Rattle.core_setup.specs.Protocols.{rules_of}
use Rattle.core_setup.specs.Setup.{Setup}
use Rattle.core_setup.proofs.PairLemmas.{get_here, one_here}
use Rattle.run_tables.specs.Routes.{AreReaders, AreRoutes, numbers_in, readers_at}
use Rattle.run_tables.specs.declared.routes.Routes.{Routes}
use Rattle.run_tables.proofs.Routing.{ReadersAre, readers_length, tables_length}

among_get : (xs : List ℕ) (place c : ℕ) → slice_get xs place ≡ Some c → among c xs ≡ true
among_get [] place c e = absurd (let bad : None ≡ Some c = e in cc)
among_get (x ∷ xs) zero c e = elim (eqb_tells x c) [
  | inl w ↦ ap (λ b. b || among c xs) w.0
  | inr w ↦ absurd (w.1 (let same : x ≡ c = cc in same))
]
among_get (x ∷ xs) (suc place) c e = ap (λ b. (x == c) || b) (among_get xs place c e) ∙ or_true (x == c) where
  or_true : (b : Bool) → (b || true) ≡ true
  or_true true = refl
  or_true false = refl

both : (a b : Bool) → (a && b) ≡ true → (a ≡ true) × (b ≡ true)
both true true e = (refl, refl)
both true false e = absurd (let bad : false ≡ true = e in cc)
both false b e = absurd (let bad : false ≡ true = e in cc)

below : (a b : ℕ) → nat_lt a b ≡ true → a < b
below a b e = grind (arith, nat_tests)

-- a reader is one of the channels, and reads the table
pub reader_is : (rules : Rules) (count table : ℕ) (numbers : List ℕ) (place c : ℕ) → AreReaders rules count table numbers → slice_get numbers place ≡ Some c → (c < count) × (rules.reads c ≡ table)
reader_is rules count table numbers place c readers at =
    let is = both (nat_lt c count) (rules.reads c == table) (sym (readers.are c) ∙ among_get numbers place c at) in (
      below c count is.0,
      elim (eqb_tells (rules.reads c) table) [
        | inl w ↦ w.1
        | inr w ↦ absurd (let bad : false ≡ true = sym w.0 ∙ is.1 in cc)
      ],
    )

module _ {J : Type 0} (verdict : J → Net → Route → Verdict) (setup : Setup) (s : State) (r : Routes J) (are : AreRoutes verdict setup s r) (table : ℕ) (w : table < length r.tables.items) where
  pub record HasReaders : Type 0 where
    pub numbers : Vec ℕ Global
    pub there : slice_get r.readers.items table ≡ Some numbers
    pub are_readers : AreReaders (rules_of setup) (length (channels setup)) table numbers.items
    pub listed : readers_at table r ≡ numbers.items

  pub readers_there : table < length r.readers.items
  readers_there =
      let a = readers_length verdict setup s r are in
      let b = tables_length verdict setup s r are in
      omega (arith, a, b, w)

  pub readers_of : HasReaders
  readers_of =
      let got = get_here r.readers.items table readers_there in
      let is = one_here (ReadersAre setup) setup.tables r.readers.items are.readers table got.0 got.1 in
      record { numbers = got.0; there = got.1; are_readers = is.2; listed = ap numbers_in got.1 }
