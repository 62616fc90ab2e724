-- What a protocol's lock says of it, once its hands have ended.
use Rattle.std.proofs.Common.{◌≡◌, ℕ, List, ◌++◌, reverse, Some, None, sym, ap, subst, ◌∙◌, append-nil}
use Rattle.std.specs.Prelude.{Option, IfSome}
use Rattle.std.specs.List.{AllByRecursion}
use Rattle.std.proofs.lemmas.List.{reverse-reverse}
use Rattle.attrs.specs.declared.judge.Verdict.{Verdict}
use Rattle.attrs.specs.declared.route.Change.{Change}
use Rattle.attrs.specs.declared.route.Route.{Route}
use Rattle.bits_ip.specs.Prefix.{Net}
use Rattle.jour_rule.specs.declared.views.Terms.{Terms}
use Rattle.jour.specs.Seats.{front, journal}
use Rattle.atomic_table.specs.Seated.{TableId}
use Rattle.phase_legal.specs.Changes.{changes_in, given}
use Rattle.phase_legal.specs.Shown.{HandView}
use Rattle.import_lock.specs.Kept.{IsFree, IsImports, IsStamped, IsUnlessLost}
use Rattle.import_lock.specs.Terms.{ImportTerms, ops_told, past_ops, rules_in}
use Rattle.import_lock.specs.declared.state.ImportState.{ImportState}
use Rattle.phase_close.specs.Left.{Gave, IsProtocolLeft, IsStampLeft}
use Rattle.phase_close.specs.Retired.{IsRetired}
use Rattle.phase_close.specs.declared.protocol.ProtocolLeft.{ProtocolLeft}

if_some : {A : Type 0} (P Q : A → Type 0) → ((x : A) → P x → Q x) → (o : Option A) → IfSome o P → IfSome o Q
if_some P Q f None p = tt
if_some P Q f (Some x) p = f x p

module _ {J : Type 0} (verdict : J → Net → Route → Verdict) (key : ImportTerms) (state : ImportState J) (hands : List HandView) (none : state.fault ≡ None)
    (retired : AllByRecursion (IsRetired (journal state.turns) (front state.turns.1)) hands) where
  abbrev pub left_now : ProtocolLeft J
  left_now = record { importer = state.importer; ops = state.ops; port = state.port; stamp = state.stamp }

  -- nothing waits any more
  gave_all : (made : List (ℕ × Change)) → IsFree verdict key made state → Gave key (front state.turns.1) made
  gave_all made f =
      let all = given (rules_in key) key.number (past_ops key) (ops_told key (front state.turns.1)) in
      sym (reverse-reverse all) ∙ ap reverse (sym f.importing.sent ∙ ap (λ z. changes_in made ++ z) (f.rest none) ∙ append-nil (changes_in made))

  free_left : (made : List (ℕ × Change)) → IsFree verdict key made state → IsProtocolLeft verdict key hands left_now
  free_left made f = let i = f.importing in
      record {
        list = front state.turns.1;
        made = made;
        imports = record {
          source = i.source;
          terms = i.terms;
          turns = record {
            by_hands = i.hands;
            retired = subst (λ (z : TableId × Terms ℕ). AllByRecursion (IsRetired z (front state.turns.1)) hands) i.turns retired;
            lines = i.lines;
            over = i.over;
          };
          importer_is = i.importer;
          family = i.family;
          port_is = i.port;
          port_number = i.port_number;
          says = i.says;
          gave = gave_all made f;
        };
        marks = i.marks;
        stamped =
            if_some (IsStamped verdict key made (ops_told key (front state.turns.1)) state) (IsStampLeft key (front state.turns.1) made)
            (λ s p. (p.number, record { are = p.are; behind = p.behind }))
            state.stamp (f.stamped none);
      }

  pub is_left : IsImports verdict key state → IsProtocolLeft verdict key hands left_now
  is_left is =
      let held = subst (λ z. IsUnlessLost z ((made : List (ℕ × Change)) × IsFree verdict key made state)) none is in
      free_left held.0 held.1
