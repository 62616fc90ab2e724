-- What is put through a port, and what an outlet tells of it.
use Rattle.std.proofs.Common.{◌≡◌, ◌==◌, ◌<◌, ℕ, Bool, true, false, ◌&&◌, List, [], ◌∷◌, ◌++◌, map, reverse, drop, length, Option, Some, None, arith, refl, sym, ap, subst, ◌∙◌, append-nil, append_assoc}
use Rattle.std.specs.Prelude.{Contains, IfSome, option_map, slice_get}
use Rattle.std.specs.List.{list_any}
use Rattle.std.proofs.lemmas.List.{map-append, reverse-append}
use Rattle.std.proofs.lemmas.Bool.{eqb-true}
use Rattle.std.proofs.lemmas.Map.Views.{Contains-from_any}
use Rattle.std.proofs.lemmas.Option.{slice_get-get_or}
use mathlib.Core.List.{IsPrefix}
use base.Stored.{Gv, gnil, gnum, gcons, coded×, coded_list}
use Rattle.atomic_table.specs.Seated.{TableId}
use Rattle.attrs.specs.contracts.route.Src as sources_row
use Rattle.attrs.specs.declared.attributes.Attrs.{Attrs}
use Rattle.attrs.specs.declared.route.Route.{Route}
use Rattle.attrs.specs.declared.route.Src.{Src}
use Rattle.bits_ip.specs.Address.{family_of}
use Rattle.bits_ip.specs.declared.address.Family.{Family}
use Rattle.bits_ip.specs.declared.address.Family.TheVariants.{V4, V6}
use Rattle.export_core.specs.declared.log.Sending.{Sending}
use Rattle.export_core.specs.declared.outlet.PushFault.{PushFault}
use Rattle.export_core.specs.declared.outlet.PushFault.TheVariants.{Blocked, Ended, Memory}
use Rattle.jour_rule.specs.declared.views.Terms.{Terms}
use Rattle.jour_rule.specs.declared.views.View.{View as Seat}
use Rattle.jour.specs.Seats.{front, journal, number_of}
use Rattle.table_shared.specs.Answers.{IsFault, MayMake}
use Rattle.table_shared.specs.Opening.{TableOpening, sources_of}
use Rattle.table_shared.specs.contracts.port.Port as port_row
use Rattle.table_shared.specs.declared.answers.UpdateFault.{UpdateFault}
use Rattle.table_shared.specs.declared.answers.UpdateFault.TheVariants as updates
use Rattle.export_lock.specs.Outlets.{AreGiven, AreSourcesOf, IsPutting, IsRefused, Putting, Puts, Refuses, Rests, SeesOn, name_of, numbered, put_change, refusal_of, same_family, source_at, spelled, takes_of, told_by}

-- ---- what is taken

pub family_is : (a b : Family) → same_family a b ≡ true → a ≡ b
family_is V4 V4 e = refl
family_is V6 V6 e = refl
family_is V4 V6 e = absurd (let bad : false ≡ true = e in cc)
family_is V6 V4 e = absurd (let bad : false ≡ true = e in cc)

pub family_self : (a : Family) → same_family a a ≡ true
family_self V4 = refl
family_self V6 = refl

both_true : (a b : Bool) → (a && b) ≡ true → (a ≡ true) × (b ≡ true)
both_true true b e = (refl, e)
both_true false b e = absurd (let bad : false ≡ true = e in cc)

pub source_there : (sources : List Src) (num : ℕ) → num < length sources → slice_get sources num ≡ Some (source_at sources num)
source_there sources num inside = slice_get-get_or sources num (record { num = num; def_med = 0; def_lp = 0 }) inside

pub may_put : (sources : List Src) (x : Sending) (port : Seat TableOpening) → AreSourcesOf sources port → Contains (sources_of port.seen.terms.opening (number_of port.role)) x.key.num → family_of x.key.net.addr ≡ port.seen.terms.opening.family → MayMake port (put_change sources x)
may_put sources x port are has family = record { family = family; source = has; route = by_value x.value } where
  by_value : (v : Option Attrs) → IfSome {T = Route} (option_map (λ (attrs : Attrs). record { src = source_at sources x.key.num; attrs = attrs }) v) (λ route. route.src.num ≡ x.key.num)
  by_value None = tt
  by_value (Some v) = are.placed x.key.num (source_at sources x.key.num) (source_there sources x.key.num (are.all x.key.num has))

-- ---- what a port sees

prefix_then : {A : Type 0} (xs ys zs : List A) → IsPrefix xs ys → IsPrefix ys zs → IsPrefix xs zs
prefix_then xs ys zs p q = (p.0 ++ q.0, sym (append_assoc xs p.0 q.0) ∙ ap (λ l. l ++ q.0) p.1 ∙ q.1)

pub sees_self : (a : TableId × Seat TableOpening) → SeesOn a a
sees_self a = record { here = refl; number = refl; least = omega arith; prefix = ([], append-nil (front a.1)) }

pub sees_then : (a b c : TableId × Seat TableOpening) → SeesOn a b → SeesOn b c → SeesOn a c
sees_then a b c p q = record {
  here = q.here ∙ p.here;
  number = q.number ∙ p.number;
  least = (let one = p.least in let two = q.least in omega (arith, one, two));
  prefix = prefix_then (front a.1) (front b.1) (front c.1) p.prefix q.prefix;
}

pub rests_self : (a : TableId × Seat TableOpening) → Rests a a
rests_self a = record { sees = sees_self a; receipts = refl }

rests_then : (a b c : TableId × Seat TableOpening) → Rests a b → Rests b c → Rests a c
rests_then a b c p q = record { sees = sees_then a b c p.sees q.sees; receipts = q.receipts ∙ p.receipts }

module _ (sources : List Src) where
  pub refuses_rests : (x : Sending) (fault : PushFault) (old new : TableId × Seat TableOpening) → Refuses sources x fault old new → Rests old new
  refuses_rests x (Blocked cursor at head) old new is = record { sees = is.0; receipts = is.1.receipts }
  refuses_rests x (Ended head) old new is = record { sees = is.0; receipts = is.1.receipts }
  refuses_rests x Memory old new is = subst (λ z. Rests old z) (sym is) (rests_self old)

  pub refused_by : (x : Sending) (fault : UpdateFault) (old new : TableId × Seat TableOpening) → SeesOn old new → IsFault (put_change sources x) old.1 new.1 fault → Refuses sources x (refusal_of fault) old new
  refused_by x (updates.Full cursor at head) old new sees is = (sees, is)
  refused_by x (updates.Ended head) old new sees is = (sees, is)
  refused_by x updates.Memory old new sees is = λ i. ((sees.here i).0, is i)

  -- ---- what was given

  pub given_sees : (xs : List Sending) (old new : TableId × Seat TableOpening) → AreGiven sources xs old new → SeesOn old new
  given_sees [] old new g = g.sees
  given_sees (x ∷ xs) old new g = sees_then old g.1 new (sees_then old g.0 g.1 (given_sees xs old g.0 g.2) g.3.sees) g.4.sees

  given_rests : (xs : List Sending) (old mid new : TableId × Seat TableOpening) → AreGiven sources xs old mid → Rests mid new → AreGiven sources xs old new
  given_rests [] old mid new g r = rests_then old mid new g r
  given_rests (x ∷ xs) old mid new g r = (g.0, g.1, g.2, g.3, rests_then g.1 mid new g.4 r)

  given_more : (xs : List Sending) (x : Sending) (old mid new : TableId × Seat TableOpening) → AreGiven sources (reverse xs) old mid → Puts sources x mid new → AreGiven sources (reverse (xs ++ x ∷ [])) old new
  given_more xs x old mid new g p = subst (λ l. AreGiven sources l old new) (sym (reverse-append xs (x ∷ []))) (mid, new, g, p, rests_self new)

  fault_on : (fault : Option PushFault) (old mid new : TableId × Seat TableOpening) → SeesOn mid new → IfSome fault (λ f. IsRefused sources f old mid) → IfSome fault (λ f. IsRefused sources f old new)
  fault_on None old mid new sees is = tt
  fault_on (Some f) old mid new sees is = record { sending = is.sending; before = is.before; after = is.after; first = is.first; refused = is.refused; last = sees_then is.after mid new is.last sees }

-- ---- an outlet

pub putting_begun : (table : TableId × Terms TableOpening) (sources : List Src) (port : TableId × Seat TableOpening) → journal port ≡ table → AreSourcesOf sources port.1
    → IsPutting table (record { begun = port; sources = sources; given = []; refusals = 0; fault = None; port = port })
putting_begun table sources port here are = record { table_is = here; sources = are; given = rests_self port; fault = tt }

module _ (table : TableId × Terms TableOpening) (o : Putting) (is : IsPutting table o) where
  pub sees_begun : SeesOn o.begun o.port
  sees_begun = given_sees o.sources (reverse o.given) o.begun o.port is.given

  pub port_here : journal o.port ≡ table
  port_here = sees_begun.here ∙ is.table_is

  opening_same : o.port.1.seen.terms.opening ≡ o.begun.1.seen.terms.opening
  opening_same = ap (λ (j : TableId × Terms TableOpening). j.1.opening) sees_begun.here

  sources_same : sources_of o.begun.1.seen.terms.opening (number_of o.begun.1.role) ≡ sources_of o.port.1.seen.terms.opening (number_of o.port.1.role)
  sources_same = λ i. sources_of (sym opening_same i) (sym sees_begun.number i)

  pub port_sources : AreSourcesOf o.sources o.port.1
  port_sources = record { placed = is.sources.placed; all = λ num has. is.sources.all num (subst (λ l. Contains l num) (sym sources_same) has) }

  pub port_source : (num : ℕ) (family : Family) → takes_of o num family ≡ true → Contains (sources_of o.port.1.seen.terms.opening (number_of o.port.1.role)) num
  port_source num family takes =
      let both : (list_any (λ x. num == x) (sources_of o.begun.1.seen.terms.opening (number_of o.begun.1.role)) ≡ true) × (same_family family o.begun.1.seen.terms.opening.family ≡ true) = both_true _ _ takes in
      subst (λ l. Contains l num) sources_same (Contains-from_any {eq = λ a b. a == b} (λ x y e. eqb-true x y e) num (sources_of o.begun.1.seen.terms.opening (number_of o.begun.1.role)) both.0)

  pub port_family : (num : ℕ) (family : Family) → takes_of o num family ≡ true → family ≡ o.port.1.seen.terms.opening.family
  port_family num family takes =
      let both : (list_any (λ x. num == x) (sources_of o.begun.1.seen.terms.opening (number_of o.begun.1.role)) ≡ true) × (same_family family o.begun.1.seen.terms.opening.family ≡ true) = both_true _ _ takes in
      family_is family o.begun.1.seen.terms.opening.family both.1 ∙ ap (λ z. z.family) (sym opening_same)

  pub put_kept : (x : Sending) (new : TableId × Seat TableOpening) → Puts o.sources x o.port new → IsPutting table (record { begun = o.begun; sources = o.sources; given = o.given ++ x ∷ []; refusals = o.refusals; fault = o.fault; port = new })
  put_kept x new p = record {
    table_is = is.table_is;
    sources = is.sources;
    given = given_more o.sources o.given x o.begun o.port new is.given p;
    fault = fault_on o.sources o.fault o.begun o.port new p.sees is.fault;
  }

  pub refused_kept : (x : Sending) (fault : PushFault) (refusals : ℕ) (new : TableId × Seat TableOpening) → Refuses o.sources x fault o.port new
      → IsPutting table (record { begun = o.begun; sources = o.sources; given = o.given; refusals = refusals; fault = Some fault; port = new })
  refused_kept x fault refusals new r = record {
    table_is = is.table_is;
    sources = is.sources;
    given = given_rests o.sources (reverse o.given) o.begun o.port new is.given (refuses_rests o.sources x fault o.port new r);
    fault = record { sending = x; before = o.port; after = new; first = sees_begun; refused = r; last = sees_self new };
  }

-- ---- what it tells

abbrev first_number : List Sending → ℕ
first_number [] = 0
first_number (x ∷ xs) = x.at

pub spelled_more : (g : Gv) (xs ys : List Sending) → spelled g xs ++ ys ≡ spelled g (xs ++ ys)
spelled_more gnil xs ys = refl
spelled_more (gnum n) xs ys = refl
spelled_more (gcons a b) xs ys = ap (λ l. numbered 2 ∷ l) (spelled_more a (spelled b xs) ys ∙ ap (spelled a) (spelled_more b xs ys))

spelled_once : (g h : Gv) (xs ys : List Sending) → spelled g xs ≡ spelled h ys → (g ≡ h) × (xs ≡ ys)
spelled_once gnil gnil xs ys e = (refl, ap (drop 1) e)
spelled_once (gnum m) (gnum n) xs ys e = (ap (λ l. gnum (first_number (drop 1 l))) e, ap (drop 2) e)
spelled_once (gcons a b) (gcons c d) xs ys e =
    let one : (a ≡ c) × (spelled b xs ≡ spelled d ys) = spelled_once a c (spelled b xs) (spelled d ys) (ap (drop 1) e) in
    let two : (b ≡ d) × (xs ≡ ys) = spelled_once b d xs ys one.1 in
    ((λ i. gcons (one.0 i) (two.0 i)), two.1)
spelled_once gnil (gnum n) xs ys e = absurd (let bad : 0 ≡ 1 = ap first_number e in omega (arith, bad))
spelled_once gnil (gcons a b) xs ys e = absurd (let bad : 0 ≡ 2 = ap first_number e in omega (arith, bad))
spelled_once (gnum n) gnil xs ys e = absurd (let bad : 1 ≡ 0 = ap first_number e in omega (arith, bad))
spelled_once (gnum n) (gcons a b) xs ys e = absurd (let bad : 1 ≡ 2 = ap first_number e in omega (arith, bad))
spelled_once (gcons a b) gnil xs ys e = absurd (let bad : 2 ≡ 0 = ap first_number e in omega (arith, bad))
spelled_once (gcons a b) (gnum n) xs ys e = absurd (let bad : 2 ≡ 1 = ap first_number e in omega (arith, bad))

-- what a history for proofs has, with one more
pub logged : (items all : List (Sending × Unit {0})) (x : Sending) → all ≡ items ++ (x, tt) ∷ [] → map (λ (p : Sending × Unit {0}). p.0) all ≡ map (λ (p : Sending × Unit {0}). p.0) items ++ x ∷ []
logged items all x is = ap (map (λ (p : Sending × Unit {0}). p.0)) is ∙ map-append (λ (p : Sending × Unit {0}). p.0) items ((x, tt) ∷ [])

pub told_more : (o new : Putting) (x : Sending) → new.begun ≡ o.begun → new.sources ≡ o.sources → new.given ≡ o.given ++ x ∷ [] → told_by new ≡ option_map (λ sent. sent ++ x ∷ []) (told_by o)
told_more o new x begun sources given =
    ap Some
    (ap (λ (z : ((TableId × Seat TableOpening) × List Src) × List Sending). spelled (name_of z.0) z.1) (λ i. ((begun i, sources i), given i))
    ∙ sym (spelled_more (name_of (o.begun, o.sources)) o.given (x ∷ [])))

pub some_one : (xs ys : List Sending) → Some xs ≡ Some ys → xs ≡ ys
some_one xs ys is = cc

-- what is told says by which port and sources, and what was given
pub record IsSameOutlet (a b : Putting) (sent : List Sending) : Type 0 where
  pub begun : b.begun ≡ a.begun
  pub sources : b.sources ≡ a.sources
  pub given : b.given ≡ sent

pub known_again : (a b : Putting) (more : List Sending) → a.given ≡ [] → told_by b ≡ option_map (λ sent. sent ++ more) (told_by a) → IsSameOutlet a b more
known_again a b more none e =
    let lists : spelled (name_of (b.begun, b.sources)) b.given ≡ spelled (name_of (a.begun, a.sources)) (a.given ++ more) =
    some_one (spelled (name_of (b.begun, b.sources)) b.given) (spelled (name_of (a.begun, a.sources)) a.given ++ more) e ∙ spelled_more (name_of (a.begun, a.sources)) a.given more in
    let both = spelled_once (name_of (b.begun, b.sources)) (name_of (a.begun, a.sources)) b.given (a.given ++ more) lists in
    let same : (b.begun, b.sources) ≡ (a.begun, a.sources) = (coded× port_row.the_row.coded (coded_list sources_row.the_row.coded)).inj (b.begun, b.sources) (a.begun, a.sources) both.0 in
    record { begun = ap (λ p. p.0) same; sources = ap (λ p. p.1) same; given = both.1 ∙ ap (λ l. l ++ more) none }
