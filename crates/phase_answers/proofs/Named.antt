-- What a query names is there, and what is answered by equal parts is one answer.
use Rattle.std.proofs.Common.{◌≡◌, ◌<◌, ℕ, Global, IfOk, Result, Ok, Err, Vec, true, List, [], ◌∷◌, length, map, Option, None, Some, is_some, refl, sym, ap, subst, ◌∙◌}
use Rattle.std.specs.Prelude.{IfSome, option_and_then, option_copied, option_map, slice_get}
use denote.Bor.{Bor}
use Rattle.attrs.specs.History.{Content}
use Rattle.attrs.specs.declared.route.Row.{Row}
use Rattle.show_route.specs.Senders.{sender_of}
use Rattle.show_route.specs.Shown.{Choice, IsReply, Sender}
use Rattle.show_route.specs.Views.{IsView}
use Rattle.show_route.specs.declared.query.Query.{Query}
use Rattle.core_setup.specs.Queries.{exports_at, exports_in}
use Rattle.core_setup.specs.Setup.{Body, Exports, ExportsFrom, IsPipe, IsSource, Protocol}
use Rattle.core_setup.proofs.PairLemmas.{get_here}
use Rattle.sys_run.specs.Parts.{protocol_seen}
use Rattle.sys_run.specs.declared.parts.ProtocolParts.{ProtocolParts}

some_mapped : {X Y : Type 0} (f : X → Y) (o : Option X) → is_some (option_map f o) ≡ is_some o
some_mapped f None = refl
some_mapped f (Some x) = refl

some_looked : {X : Type 0} (look : ℕ → Option X) (o : Option ℕ) → IfSome o (λ n. is_some (look n) ≡ true) → is_some o ≡ is_some (option_and_then look o)
some_looked look None there = refl
some_looked look (Some n) there = sym there

pub choice_there : {J : Type 0} (says : J → Choice) (choices : List Choice) (number : Option ℕ) (choice : Option (Bor J)) → IfSome number (λ n. n < length choices)
    → option_map says (option_copied choice) ≡ option_and_then (λ (n : ℕ). slice_get choices n) number → is_some number ≡ is_some choice
choice_there says choices number choice fits is =
    some_looked (λ (n : ℕ). slice_get choices n) number (within number fits) ∙ sym (ap is_some is) ∙ some_mapped says (option_copied choice) ∙ some_mapped (λ j. j.now) choice
  where
    within : (o : Option ℕ) → IfSome o (λ n. n < length choices) → IfSome o (λ n. is_some (slice_get choices n) ≡ true)
    within None w = tt
    within (Some n) w = ap is_some (get_here choices n w).1

module _ (table : ℕ) (protocols : List Protocol) where
  exporting : (body : Body) → ExportsFrom table body → is_some (exports_in body) ≡ true
  exporting (IsSource p) is = is.1
  exporting (IsPipe p) is = absurd is

  exports_there : (o : Option ℕ) → IfSome o (λ n. (p : Protocol) × (slice_get protocols n ≡ Some p) × ExportsFrom table p.body) → IfSome o (λ n. is_some (exports_at protocols n) ≡ true)
  exports_there None fits = tt
  exports_there (Some n) fits = ap (λ o. is_some (option_and_then (λ (p : Protocol). exports_in p.body) o)) fits.1 ∙ exporting fits.0.body fits.2

  pub export_there : {T : Type 0} (sent : T → Sender) (number : Option ℕ) (through : Option T) (export : Option (Bor T))
      → IfSome number (λ n. (p : Protocol) × (slice_get protocols n ≡ Some p) × ExportsFrom table p.body)
      → option_map sent through ≡ option_map (λ (e : Exports). sender_of e.spec e.filter) (option_and_then (exports_at protocols) number)
      → option_copied export ≡ through → is_some number ≡ is_some export
  export_there sent number through export fits is lent =
      some_looked (exports_at protocols) number (exports_there number fits) ∙ sym (some_mapped (λ (e : Exports). sender_of e.spec e.filter) (option_and_then (exports_at protocols) number)) ∙ sym (ap is_some is) ∙ some_mapped sent through
      ∙ ap is_some (sym lent) ∙ some_mapped (λ t. t.now) export

-- the same answer over the rows that are lent, and to the names that are lent
module _ (ns ms : List (List ℕ)) (n m : List ℕ) (c d : Option Choice) (x y : Option Sender) (query : Query) (lent rows : List Row) (total : ℕ) where
  replied : (content : Content) (text : List ℕ) → ns ≡ ms → n ≡ m → c ≡ d → x ≡ y → IsReply ns n query c x content text → IsReply ms m query d y content text
  replied content text e f g h is =
      subst (λ x. IsReply ms m query d x content text) h
      (subst (λ c. IsReply ms m query c x content text) g (subst (λ n. IsReply ms n query c x content text) f (subst (λ ns. IsReply ns n query c x content text) e is)))

  pub answered : {Y : Type 0} (r : Result (Vec ℕ Global) Y) → ns ≡ ms → n ≡ m → c ≡ d → x ≡ y → lent ≡ rows
      → IfOk r (λ text. (content : Content) → IsView query.pick lent total content → IsReply ns n query c x content text.items)
      → IfOk r (λ text. (content : Content) → IsView query.pick rows total content → IsReply ms m query d y content text.items)
  answered (Ok text) e f g h i told = λ content view. replied content text.items e f g h (told content (subst (λ rows. IsView query.pick rows total content) (sym i) view))
  answered (Err fault) e f g h i told = tt

-- protocols are seen under their names
pub names_seen : {J : Type 0} (says : J → Choice) (protocols : List (ProtocolParts J)) → map (λ (p : ProtocolParts J). p.name) protocols ≡ map (λ (p : Protocol). p.name) (map (protocol_seen says) protocols)
names_seen says [] = refl
names_seen says (p ∷ protocols) = ap (λ names. p.name ∷ names) (names_seen says protocols)
