-- Changes that wait are real, may be made by the port, and enter its receipts.
use Rattle.std.proofs.Common.{◌≡◌, ◌≢◌, ℕ, zero, suc, ◌+◌, ◌<◌, ◌≤◌, arith, length-append, List, [], ◌∷◌, ◌++◌, length, map, reverse, drop, Option, Some, None, refl, sym, ap, subst, ◌∙◌, append-nil, append_assoc}
use Rattle.std.specs.Prelude.{Contains, slice_get, IfSome, option_map, unwrap_or}
use Rattle.std.specs.List.{AllByRecursion}
use Rattle.std.proofs.Math.Nat.{le_refl}
use Rattle.std.proofs.lemmas.Bool.{eq-eqb}
use mathlib.Core.List.{IsPrefix}
use Rattle.atomic_table.specs.Seated.{TableId}
use Rattle.std.proofs.lemmas.List.{map-append, reverse-append, reverse-reverse}
use Rattle.attrs.specs.History.{Content, IsReal, after, empty, last_of}
use Rattle.attrs.specs.declared.journal.JEntry.{JEntry}
use Rattle.attrs.specs.declared.judge.Verdict.{Verdict}
use Rattle.attrs.specs.declared.route.Change.{Change}
use Rattle.attrs.specs.declared.route.Route.{Route}
use Rattle.bits_ip.specs.Address.{family_of}
use Rattle.bits_ip.specs.Prefix.{Net}
use Rattle.bits_ip.specs.declared.address.Family.{Family}
use Rattle.import_core.specs.declared.operation.Op.{Op}
use Rattle.jour_rule.specs.declared.views.Entry.{Entry}
use Rattle.jour_rule.specs.declared.views.View.{View as Seat}
use Rattle.jour_rule.specs.Journal.{receipts}
use Rattle.jour.specs.Seats.{front, head_of, journal, number_of, own}
use Rattle.core_machine.specs.Histories.{IsFrom, content_of}
use Rattle.core_machine.specs.Rules.{IsRules, Rules, changes}
use Rattle.core_machine.proofs.Contents.{some_same}
use Rattle.core_setup.specs.Announced.{IsOfFamily, fixed_at, fixed_in}
use Rattle.core_setup.specs.Protocols.{effect_at, rules_of}
use Rattle.core_setup.specs.Setup.{IsSetup, Protocol, Setup, Source}
use Rattle.core_setup.proofs.Numbered.{all_append}
use Rattle.table_shared.specs.Answers.{IsEntered, IsFault, IsSame, MayMake, with_best}
use Rattle.table_shared.specs.declared.answers.UpdateFault.{UpdateFault}
use Rattle.table_shared.specs.declared.answers.UpdateFault.TheVariants as faults
use Rattle.table_shared.specs.Opening.{TableOpening, sources_of}
use Rattle.table_shared.specs.Records.{AreRecords, AreSaid, at_first, change_of, content_after}
use Rattle.table_shared.proofs.Records.{after_both}
use Rattle.phase_legal.specs.Changes.{AreMade, changes_in, given}
use Rattle.core_setup.specs.Reports.{dones}
use Rattle.phase_legal.specs.Turns.{AreByHands, place_of}
use Rattle.phase_legal.proofs.Made.{given_on}
use Rattle.import_lock.specs.Calls.{HasSent, OnlySends}
use Rattle.import_lock.specs.Kept.{IsImporter, IsImporting, left}
use Rattle.import_lock.specs.Terms.{AreTerms, ImportTerms, ops_told, past_ops, rules_in}
use Rattle.import_lock.specs.declared.state.ImportState.{ImportState}

-- ---- lists

all_later : {X : Type 0} (P : X → Type 0) (xs ys : List X) → AllByRecursion P (xs ++ ys) → AllByRecursion P ys
all_later P [] ys all = all
all_later P (x ∷ xs) ys all = all_later P xs ys all.1

all_first : {X : Type 0} (P : X → Type 0) (xs ys : List X) → AllByRecursion P (xs ++ ys) → AllByRecursion P xs
all_first P [] ys all = tt
all_first P (x ∷ xs) ys all = (all.0, all_first P xs ys all.1)

-- what holds of a list read backwards holds of it
all_back : {X : Type 0} (P : X → Type 0) (xs : List X) → AllByRecursion P (reverse xs) → AllByRecursion P xs
all_back P [] all = tt
all_back P (x ∷ xs) all =
    let both = subst (AllByRecursion P) (reverse-append (x ∷ []) xs) all in
    ((all_later P (reverse xs) (x ∷ []) both).0, all_back P xs (all_first P (reverse xs) (x ∷ []) both))

-- receipts and what they say, with some more
made_more : (rs more : List (ℕ × List ℕ)) (made also : List (ℕ × Change)) → AreMade rs made → AreMade more also → AreMade (rs ++ more) (made ++ also)
made_more [] more [] also are are' = are'
made_more [] more (m ∷ made) also are are' = absurd are
made_more (r ∷ rs) more [] also are are' = absurd are
made_more (r ∷ rs) more (m ∷ made) also are are' = (are.0, made_more rs more made also are.1 are')

-- the records that receipts say
said_by : (rs : List (ℕ × List ℕ)) (made : List (ℕ × Change)) → AreMade rs made → (mine : List JEntry) × AreSaid rs mine × (map change_of mine ≡ changes_in made)
said_by [] [] are = ([], tt, refl)
said_by [] (m ∷ made) are = absurd are
said_by (r ∷ rs) [] are = absurd are
said_by (r ∷ rs) (m ∷ made) are =
    let rest = said_by rs made are.1 in
    let this : (said : JEntry) × _ × (change_of said ≡ m.1) = are.0.1 in
    (this.0 ∷ rest.0, (this.1, rest.1), λ i. this.2 i ∷ rest.2 i)

waits_suc : {X : Type 0} (xs : List X) (n : ℕ) (x : X) → slice_get xs n ≡ Some x → drop n xs ≡ x ∷ drop (suc n) xs
waits_suc [] n x at = absurd (let e : None ≡ Some x = at in cc)
waits_suc (y ∷ xs) zero x at = ap (λ z. z ∷ xs) (some_same at)
waits_suc (y ∷ xs) (suc n) x at = waits_suc xs n x at

-- what waits behind a number of changes
pub waits_by : {X : Type 0} (xs ys : List X) (n : ℕ) (x : X) → ys ≡ xs → slice_get ys n ≡ Some x → drop n xs ≡ x ∷ drop (n + 1) xs
waits_by xs ys n x same at = waits_suc xs n x (ap (λ z. slice_get z n) (sym same) ∙ at) ∙ ap (λ m. x ∷ drop m xs) (let e : suc n ≡ n + 1 = omega arith in e)

-- a change in a real list differs from what stands before it
real_at : (start : Content) (xs more : List Change) (c : Change) → IsReal start (xs ++ c ∷ more) → after start xs c.net c.num ≢ c.new
real_at start [] more c real = real.0
real_at start (x ∷ xs) more c real = λ e. real_at (after start (x ∷ [])) xs more c real.1 ((λ i. sym (after_both start (x ∷ []) xs) i c.net c.num) ∙ e)

-- ---- what operations give

module _
    (told : (setup : Setup) (i : ℕ) (earlier : List Op) (op : Op) → IsSetup setup → AllByRecursion (IsFrom i) ((rules_of setup).gives i earlier op).changes)
    (fits : (p : Option Protocol) (family : Family) (earlier : List Op) (op : Op) → AllByRecursion (λ f. family_of f.net.addr ≡ family) (fixed_at p) → AllByRecursion (IsOfFamily family) (op ∷ earlier) → AllByRecursion (λ c. family_of c.net.addr ≡ family) (effect_at p earlier op).changes) where
  given_from : (setup : Setup) (i : ℕ) (past ops : List Op) → IsSetup setup → AllByRecursion (IsFrom i) (given (rules_of setup) i past ops)
  given_from setup i past [] is = tt
  given_from setup i past (op ∷ ops) is = all_append (IsFrom i) ((rules_of setup).gives i (ops ++ past) op).changes (given (rules_of setup) i past ops) (told setup i (ops ++ past) op is) (given_from setup i past ops is)

  module _ (key : ImportTerms) (source : Source) (terms : AreTerms key source) where
    abbrev family : Family
    family = key.port.1.opening.family

    fixed_are : AllByRecursion (λ f. family_of f.net.addr ≡ key.port.1.opening.family) (fixed_at (Some terms.protocol))
    fixed_are = subst (λ z. AllByRecursion (λ f. family_of f.net.addr ≡ key.port.1.opening.family) (fixed_in z)) (sym terms.body) terms.fixed

    given_fits : (ops : List Op) → AllByRecursion (IsOfFamily key.port.1.opening.family) ops → AllByRecursion (λ c. family_of c.net.addr ≡ key.port.1.opening.family) (given (rules_in key) key.number (past_ops key) ops)
    given_fits [] all = tt
    given_fits (op ∷ ops) all =
        all_append (λ c. family_of c.net.addr ≡ key.port.1.opening.family) ((rules_in key).gives key.number (ops ++ past_ops key) op).changes (given (rules_in key) key.number (past_ops key) ops)
        (subst (λ z. AllByRecursion (λ c. family_of c.net.addr ≡ key.port.1.opening.family) (effect_at z (ops ++ past_ops key) op).changes) (sym terms.protocol_is)
        (fits (Some terms.protocol) key.port.1.opening.family (ops ++ past_ops key) op fixed_are (all.0, all_append (IsOfFamily key.port.1.opening.family) ops (past_ops key) all.1 terms.past)))
        (given_fits ops all.1)

  module _ {J : Type 0} (verdict : J → Net → Route → Verdict) (key : ImportTerms) (made : List (ℕ × Change)) (a : ImportState J) (o : IsImporting verdict key made a) (c : Change) (others : List Change) (waits : left a ≡ c ∷ others) where
    -- what the operations give, backwards, has it behind what was made
    given_is : given (rules_in key) key.number (past_ops key) (ops_told key (front a.turns.1)) ≡ reverse (changes_in made ++ c ∷ others)
    given_is =
        sym (reverse-reverse (given (rules_in key) key.number (past_ops key) (ops_told key (front a.turns.1))))
        ∙ ap reverse (sym o.sent) ∙ ap (λ z. reverse (changes_in made ++ z)) waits

    is_from : IsFrom key.number c
    is_from = (all_later (IsFrom key.number) (changes_in made) (c ∷ others) (all_back (IsFrom key.number) (changes_in made ++ c ∷ others)
        (subst (AllByRecursion (IsFrom key.number)) given_is (given_from key.phase.setup key.number (past_ops key) (ops_told key (front a.turns.1)) o.terms.setup)))).0

    is_fit : family_of c.net.addr ≡ key.port.1.opening.family
    is_fit = (all_later (λ d. family_of d.net.addr ≡ key.port.1.opening.family) (changes_in made) (c ∷ others) (all_back (λ d. family_of d.net.addr ≡ key.port.1.opening.family) (changes_in made ++ c ∷ others)
        (subst (AllByRecursion (λ d. family_of d.net.addr ≡ key.port.1.opening.family)) given_is (given_fits key o.source o.terms (ops_told key (front a.turns.1)) o.family)))).0

    opening_is : a.port.1.seen.terms.opening ≡ key.port.1.opening
    opening_is = ap (λ z. z.1.opening) o.port

    -- the port may make the first change that waits
    pub may_make : MayMake a.port.1 c
    may_make = record {
      family = is_fit ∙ ap (λ z. z.family) (sym opening_is);
      source = subst (λ z. Contains (sources_of z (number_of a.port.1.role)) c.num) (sym opening_is)
          (subst (λ z. Contains (sources_of key.port.1.opening z) c.num) (sym o.port_number)
          (subst (λ z. Contains (sources_of key.port.1.opening key.port_number) z) (sym is_from.change) o.terms.mine));
      route = subst (λ z. IfSome c.new (λ route. route.src.num ≡ z)) (sym is_from.change) is_from.route;
    }

    -- The table hasn't got it yet: what its port has made, behind what stood before, differs.
    pub never_same :
        ((setup : Setup) → IsSetup setup → IsRules (rules_of setup))
        → ((opening : TableOpening) (entries : List Entry) (said mine : List JEntry) (start port num : ℕ) (net : Net) → AreRecords opening (at_first opening) entries said → AreSaid (receipts start port entries) mine
        → ((other : ℕ) → Contains (sources_of opening other) num → other ≡ port) → content_after opening said net num ≡ after (at_first opening) (map change_of mine) net num)
        → (new : Seat TableOpening) (at : ℕ) → new.seen.terms ≡ a.port.1.seen.terms → number_of new.role ≡ number_of a.port.1.role → IsSame c a.port.1 new at → ⊥
    never_same rules alone new at terms number same =
        let g : Rules = rules_in key in
        let i : ℕ = key.number in
        let past : List Op = past_ops key in
        let ops : List Op = ops_told key (front a.turns.1) in
        let M : List Change = changes_in made in
        let owed = rules key.phase.setup o.terms.setup in
        let h : List Change = changes g i past in
        let stands = same.stands in
        let opening : TableOpening = new.seen.terms.opening in
        let opens : opening ≡ key.port.1.opening = ap (λ z. z.opening) terms ∙ opening_is in
        let mine = said_by (own new) made (subst (λ z. AreMade z made) (sym same.receipts) o.says) in
        let only : (other : ℕ) → Contains (sources_of opening other) c.num → other ≡ number_of new.role =
        λ other has. o.terms.alone.alone other c.num (subst (λ z. Contains (sources_of z other) c.num) opens has) (eq-eqb c.num i is_from.change) ∙ sym o.port_number ∙ sym number in
        let now : after (at_first opening) M c.net c.num ≡ c.new =
        ap (λ z. after (at_first opening) z c.net c.num) (sym mine.2)
        ∙ sym (alone opening (front new) stands.0 mine.0 new.seen.terms.start (number_of new.role) c.num c.net stands.1 mine.1 only)
        ∙ stands.2 in
        let first : at_first opening c.net c.num ≡ content_of h c.net c.num =
        ap (λ z. at_first z c.net c.num) opens ∙ ap (at_first key.port.1.opening c.net) is_from.change ∙ o.terms.opening c.net ∙ sym (owed.made i past c.net) ∙ ap (content_of h c.net) (sym is_from.change) in
        let real : IsReal empty (reverse h ++ M ++ c ∷ others) =
        subst (IsReal empty)
        (ap reverse (given_on g i past ops ∙ ap (λ z. z ++ h) given_is) ∙ reverse-append (reverse (M ++ c ∷ others)) h ∙ ap (λ z. reverse h ++ z) (reverse-reverse (M ++ c ∷ others)) ∙ sym (append_assoc (reverse h) M (c ∷ others)))
        (owed.real i (ops ++ past)) in
        let differs = real_at empty (reverse h ++ M) others c real in
        differs ((λ j. after_both empty (reverse h) M j c.net c.num) ∙ ap (unwrap_or (last_of c.net c.num M)) (sym first) ∙ now)

-- ---- what only sending changes

length_prefix : {X : Type 0} (xs ys : List X) → IsPrefix xs ys → length xs ≤ length ys
length_prefix xs ys p = let n = length-append xs p.0 in let e = ap length p.1 in omega (arith, n, e)

module _ {J : Type 0} where
  pub sends_self : (a : ImportState J) → OnlySends a a
  sends_self a = record { importer = refl; ops = refl; turns = refl; stamp = refl; fault = refl; port = refl; port_number = refl; head = le_refl (head_of a.port.1) }

  pub sends_by : (a : ImportState J) (port : TableId × Seat TableOpening) (sent : ℕ) → journal port ≡ journal a.port → number_of port.1.role ≡ number_of a.port.1.role → IsPrefix (front a.port.1) (front port.1)
      → OnlySends a (record { importer = a.importer; port = port; ops = a.ops; backlog = a.backlog; sent = sent; turns = a.turns; stamp = a.stamp; fault = a.fault })
  sends_by a port sent here number p = record {
    importer = refl;
    ops = refl;
    turns = refl;
    stamp = refl;
    fault = refl;
    port = here;
    port_number = number;
    head = (let start = ap (λ j. j.1.start) here in let n = length_prefix (front a.port.1) (front port.1) p in omega (arith, start, n));
  }

-- ---- what is kept

module _ {J : Type 0} (verdict : J → Net → Route → Verdict) (key : ImportTerms) where
  -- the port's receipts and what waits are all that changed
  kept_by : (a b : ImportState J) (made new : List (ℕ × Change)) → OnlySends a b → AreMade (own b.port.1) new → changes_in new ++ left b ≡ changes_in made ++ left a → IsImporting verdict key made a → IsImporting verdict key new b
  kept_by a b made new s says all o = record {
    source = o.source;
    terms = o.terms;
    importer = subst (λ z. IsImporter verdict o.source (ops_told key (front b.turns.1) ++ past_ops key) z) (sym s.importer)
        (subst (λ z. IsImporter verdict o.source (ops_told key (front z.1) ++ past_ops key) a.importer) (sym s.turns) o.importer);
    port = s.port ∙ o.port;
    port_number = s.port_number ∙ o.port_number;
    turns = ap journal s.turns ∙ o.turns;
    marks = ap (option_map journal) s.stamp ∙ o.marks;
    hands = subst (λ z. AreByHands key.phase.lines key.phase.starter (front z.1)) (sym s.turns) o.hands;
    lines = ap (map (λ r. r.line)) s.ops ∙ o.lines ∙ ap (λ z. map place_of (front z.1)) (sym s.turns);
    over = ap (map (λ r. r.over)) s.ops ∙ o.over ∙ ap (λ z. reverse (map (λ d. d.over) (dones (rules_in key) key.number (past_ops key) (ops_told key (front z.1))))) (sym s.turns);
    family = subst (λ z. AllByRecursion (IsOfFamily key.port.1.opening.family) (ops_told key (front z.1))) (sym s.turns) o.family;
    says = says;
    sent = all ∙ o.sent ∙ ap (λ z. reverse (given (rules_in key) key.number (past_ops key) (ops_told key (front z.1)))) (sym s.turns);
  }

  -- nothing went
  pub sent_none : (a b : ImportState J) (made : List (ℕ × Change)) → OnlySends a b → own b.port.1 ≡ own a.port.1 → left b ≡ left a → IsImporting verdict key made a → HasSent verdict key made a b
  sent_none a b made s receipts waits o = record {
    more = [];
    importing = subst (λ z. IsImporting verdict key z b) (sym (append-nil made))
        (kept_by a b made made s (subst (λ z. AreMade z made) (sym receipts) o.says) (ap (λ z. changes_in made ++ z) waits) o);
    above = tt;
  }

  -- the first that waited went
  pub sent_one : (a b : ImportState J) (made : List (ℕ × Change)) (c : Change) (at : ℕ) → OnlySends a b → left a ≡ c ∷ left b → IsEntered c a.port.1 b.port.1 at → head_of a.port.1 < at → IsImporting verdict key made a → HasSent verdict key made a b
  sent_one a b made c at s waits e above o = record {
    more = (at, c) ∷ [];
    importing = kept_by a b made (made ++ (at, c) ∷ []) s
        (subst (λ z. AreMade z (made ++ (at, c) ∷ [])) (sym e.receipt) (made_more (own a.port.1) ((at, e.words) ∷ []) made ((at, c) ∷ []) o.says ((refl, (with_best e.best c, e.spelled, refl)), tt)))
        (ap (λ z. z ++ left b) (map-append (λ (m : ℕ × Change). m.1) made ((at, c) ∷ [])) ∙ append_assoc (changes_in made) (c ∷ []) (left b) ∙ ap (λ z. changes_in made ++ z) (sym waits))
        o;
    above = (above, tt);
  }

-- a fault leaves the receipts
pub fault_leaves : (c : Change) (old new : Seat TableOpening) (fault : UpdateFault) → IsFault c old new fault → own new ≡ own old
fault_leaves c old new (faults.Full cursor at head) is = is.receipts
fault_leaves c old new (faults.Ended head) is = is.receipts
fault_leaves c old new faults.Memory is = ap own is
