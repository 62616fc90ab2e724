-- What marks say of the changes that a port has made stays right, a new one is right, and in the
-- whole history they are the signals of the operations.
use Rattle.std.proofs.Common.{◌≡◌, ℕ, zero, suc, ◌+◌, ◌<◌, ◌≤◌, ◌⊎◌, inl, inr, Bool, true, false, cond, List, [], ◌∷◌, ◌++◌, length, map, reverse, Option, Some, None, refl, sym, ap, subst, ◌∙◌, arith, append-nil, append_assoc, length-append}
use Rattle.std.specs.Prelude.{Contains, ◌==◌, nat_lt, is_some, if◌then◌else◌}
use Rattle.std.proofs.lemmas.List.{reverse-append}
use Rattle.std.proofs.lemmas.Bool.{cases_Bool}
use Rattle.std.proofs.lemmas.Bool.Decides.{nat_tests, eqb_tells}
use Rattle.attrs.specs.History.{Content, after}
use Rattle.attrs.specs.declared.journal.JEntry.{JEntry}
use Rattle.attrs.specs.declared.route.Change.{Change}
use Rattle.export_core.specs.Logs.{stretch}
use Rattle.export_core.specs.declared.log.LogItem.{LogItem}
use Rattle.export_core.specs.declared.log.LogItem.TheVariants.{Up, Down, Reload, Sent}
use Rattle.import_core.specs.declared.operation.Op.{Op}
use Rattle.jour_rule.specs.declared.views.Entry.{Entry}
use Rattle.jour_rule.specs.Journal.{receipts}
use Rattle.rec_words.specs.Entries.{Spells}
use Rattle.core_machine.specs.Histories.{front, own}
use Rattle.core_machine.specs.Rules.{Rules, Signal, Stay, Rise, Fall, Renew, changes, is_up, signalled}
use Rattle.core_machine.specs.Signals.{AreSignals, IsPlace, Notice, notices, with_signal, without_sends}
use Rattle.core_machine.proofs.Contents.{if_true, if_false, front_more}
use Rattle.table_shared.specs.Opening.{TableOpening, sources_of}
use Rattle.table_shared.specs.Records.{AreRecords, at_first, change_of}
use Rattle.phase_legal.specs.Changes.{AreAbove, AreWithin, IsAlone, changes_in, entered, given, made_by}
use Rattle.phase_legal.specs.Stamps.{AreFrom, AreStamps, AreUpTo, HasPort, IsStamp, IsStampPlace, notices_from, opens, up_to}
use Rattle.phase_legal.proofs.Made.{given_on, made_here, made_one}

lt_is : (a b : ℕ) → a < b → nat_lt a b ≡ true
lt_is a b w = grind (arith, nat_tests)

lt_not : (a b : ℕ) → b ≤ a → nat_lt a b ≡ false
lt_not a b w = grind (arith, nat_tests)

-- ---- what was made up to a position

-- a change above the position adds nothing there
up_more : (h at : ℕ) (c : Change) (made : List (ℕ × Change)) → h < at → up_to h (made ++ (at, c) ∷ []) ≡ up_to h made
up_more h at c [] w = if_true (nat_lt h at) [] (c ∷ []) (lt_is h at w)
up_more h at c (m ∷ made) w = elim (nat_lt h m.0) as (λ b. (if b then up_to h (made ++ (at, c) ∷ []) else m.1 ∷ up_to h (made ++ (at, c) ∷ [])) ≡ (if b then up_to h made else m.1 ∷ up_to h made)) [
  | true ↦ up_more h at c made w
  | false ↦ ap (λ z. m.1 ∷ z) (up_more h at c made w)
]

pub up_above : (h n : ℕ) (made more : List (ℕ × Change)) → h ≤ n → AreAbove n more → up_to h (made ++ more) ≡ up_to h made
up_above h n made [] w above = ap (up_to h) (append-nil made)
up_above h n made (m ∷ more) w above =
    ap (up_to h) (sym (append_assoc made (m ∷ []) more)) ∙ up_above h n (made ++ m ∷ []) more w above.1 ∙ up_more h m.0 m.1 made (let a = above.0 in omega (arith, w, a))

-- all of it, at the head of what the port has seen
pub up_all : (h : ℕ) (made : List (ℕ × Change)) → AreWithin h made → up_to h made ≡ changes_in made
up_all h [] within = refl
up_all h (m ∷ made) within = if_false (nat_lt h m.0) (up_to h made) (m.1 ∷ up_to h made) (lt_not h m.0 within.0) ∙ ap (λ z. m.1 ∷ z) (up_all h made within.1)

-- ---- marks stay right, and a new one is right

place_stays : (rules : Rules) (i n h : ℕ) (past ops : List Op) (target : Option ℕ) (made more : List (ℕ × Change)) → AreAbove n more → h ≤ n → IsStampPlace rules i past made h ops target → IsStampPlace rules i past (made ++ more) h ops target
place_stays rules i n h past ops None made more above w is = ap reverse (up_above h n made more w above) ∙ is
place_stays rules i n h past ops (Some table) made more above w is = is

pub stamps_stay : (rules : Rules) (i n : ℕ) (past : List Op) (target : Option ℕ) (made more : List (ℕ × Change)) (items : List LogItem) (ns : List Notice) → AreAbove n more → AreUpTo n items → AreStamps rules i past target made items ns → AreStamps rules i past target (made ++ more) items ns
stamps_stay rules i n past target made more [] [] above up are = tt
stamps_stay rules i n past target made more [] (s ∷ ns) above up are = absurd are
stamps_stay rules i n past target made more (x ∷ items) [] above up are = absurd are
stamps_stay rules i n past target made more (Up h ∷ items) (s ∷ ns) above up are =
    ((are.0.0, place_stays rules i n h past s.ops target made more above up.0 are.0.1), stamps_stay rules i n past target made more items ns above up.1 are.1)
stamps_stay rules i n past target made more (Down ∷ items) (s ∷ ns) above up are = (are.0, stamps_stay rules i n past target made more items ns above up are.1)
stamps_stay rules i n past target made more (Reload ∷ items) (s ∷ ns) above up are = (are.0, stamps_stay rules i n past target made more items ns above up are.1)
stamps_stay rules i n past target made more (Sent y ∷ items) (s ∷ ns) above up are = absurd are.0

-- an up at the head of what the port has seen, where all that the operations give is made
pub new_stamp : (rules : Rules) (i h : ℕ) (past : List Op) (op : Op) (earlier : List Op) (target : Option ℕ) (made : List (ℕ × Change)) → AreWithin h made → reverse (changes_in made) ≡ given rules i past (op ∷ earlier)
    → IsStamp rules i past target made (Up h) (record { signal = Rise; ops = op ∷ earlier })
new_stamp rules i h past op earlier None made within is = (refl, ap reverse (up_all h made within) ∙ is)
new_stamp rules i h past op earlier (Some table) made within is = (refl, λ none. absurd (let e : op ∷ earlier ≡ [] = none in cc))

pub all_up_to : (n m : ℕ) (items : List LogItem) → n ≤ m → AreUpTo n items → AreUpTo m items
all_up_to n m [] w up = tt
all_up_to n m (Up h ∷ items) w up = ((let a = up.0 in omega (arith, w, a)), all_up_to n m items w up.1)
all_up_to n m (Down ∷ items) w up = all_up_to n m items w up
all_up_to n m (Reload ∷ items) w up = all_up_to n m items w up
all_up_to n m (Sent y ∷ items) w up = all_up_to n m items w up

-- ---- whether the channel is up

-- its marks tell it
pub stamps_open : (rules : Rules) (i : ℕ) (past ops : List Op) (target : Option ℕ) (made : List (ℕ × Change)) (items : List LogItem) → AreStamps rules i past target made items (notices_from rules i past ops) → opens (is_up rules i past) items ≡ is_up rules i (ops ++ past)
stamps_open rules i past [] target made [] are = refl
stamps_open rules i past [] target made (x ∷ items) are = absurd are
stamps_open rules i past (op ∷ ops) target made items are = step (λ ys more. stamps_open rules i past ops target made ys more) (rules.gives i (ops ++ past) op).signal (op ∷ ops) items are
  where
    step : ((ys : List LogItem) → AreStamps rules i past target made ys (notices_from rules i past ops) → opens (is_up rules i past) ys ≡ is_up rules i (ops ++ past)) → (s : Signal) (all : List Op) (items : List LogItem)
        → AreStamps rules i past target made items (with_signal s all (notices_from rules i past ops)) → opens (is_up rules i past) items ≡ signalled s (is_up rules i (ops ++ past))
    step ih Stay all xs are = ih xs are
    step ih Rise all [] are = absurd are
    step ih Rise all (Up h ∷ xs) are = refl
    step ih Rise all (Down ∷ xs) are = absurd (let e : Rise ≡ Fall = are.0 in cc)
    step ih Rise all (Reload ∷ xs) are = absurd (let e : Rise ≡ Renew = are.0 in cc)
    step ih Rise all (Sent y ∷ xs) are = absurd are.0
    step ih Fall all [] are = absurd are
    step ih Fall all (Up h ∷ xs) are = absurd (let e : Fall ≡ Rise = are.0.0 in cc)
    step ih Fall all (Down ∷ xs) are = refl
    step ih Fall all (Reload ∷ xs) are = absurd (let e : Fall ≡ Renew = are.0 in cc)
    step ih Fall all (Sent y ∷ xs) are = absurd are.0
    step ih Renew all [] are = absurd are
    step ih Renew all (Up h ∷ xs) are = absurd (let e : Renew ≡ Rise = are.0.0 in cc)
    step ih Renew all (Down ∷ xs) are = absurd (let e : Renew ≡ Fall = are.0 in cc)
    step ih Renew all (Reload ∷ xs) are = ih xs are.1
    step ih Renew all (Sent y ∷ xs) are = absurd are.0

pub opens_on : (up : Bool) (xs ys : List LogItem) → opens up (xs ++ ys) ≡ opens (opens up ys) xs
opens_on up [] ys = refl
opens_on up (Up h ∷ xs) ys = refl
opens_on up (Down ∷ xs) ys = refl
opens_on up (Reload ∷ xs) ys = opens_on up xs ys
opens_on up (Sent y ∷ xs) ys = opens_on up xs ys

-- a channel is up where the signals of its log leave it so
pub stretch_opens : (log : List LogItem) → is_some (stretch log) ≡ opens false (without_sends log)
stretch_opens [] = refl
stretch_opens (Up h ∷ log) = refl
stretch_opens (Down ∷ log) = refl
stretch_opens (Reload ∷ log) = stretch_opens log
stretch_opens (Sent y ∷ log) = stretch_opens log

-- ---- the whole history

less_or : (a b : ℕ) → (a < b) ⊎ (b ≤ a)
less_or a zero = inr (omega arith)
less_or zero (suc b) = inl (omega arith)
less_or (suc a) (suc b) = elim (less_or a b) [ inl w ↦ inl (omega (arith, w)) | inr w ↦ inr (omega (arith, w)) ]

front_within : (h : ℕ) (p : List Change) → length p ≤ h → front h p ≡ p
front_within h [] w = refl
front_within h (c ∷ p) w = if_true (nat_lt (length p) h) (c ∷ p) (front h p) (lt_is (length p) h (omega (arith, w)))

front_on : (h : ℕ) (new before : List Change) → h ≤ length before → front h (new ++ before) ≡ front h before
front_on h [] before w = refl
front_on h (c ∷ new) before w = front_more h c (new ++ before) (let l = length-append new before in omega (arith, l, w)) ∙ front_on h new before w

up_step : (h n : ℕ) (c : Change) (b : Bool) (made : List (ℕ × Change)) → up_to h (cond b ((suc n, c) ∷ made) made) ≡ cond b (if nat_lt h (suc n) then up_to h made else c ∷ up_to h made) (up_to h made)
up_step h n c true made = refl
up_step h n c false made = refl

module _ (i k : ℕ) (opening : TableOpening) (alone : IsAlone (λ num. num == i) opening k) where
  mine_is : (port num : ℕ) → Contains (sources_of opening port) num → port ≡ k → (num == i) ≡ true
  mine_is port num has e = alone.mine num (subst (λ z. Contains (sources_of opening z) num) e has)

  other_is : (port num : ℕ) → Contains (sources_of opening port) num → (port ≡ k → ⊥) → (num == i) ≡ false
  other_is port num has o = elim (cases_Bool (num == i)) [ inl t ↦ absurd (o (alone.alone port num has t)) | inr f ↦ f ]

  -- one entry more below the rest
  own_step : (h port : ℕ) (c : Change) (p s : List Change) → Contains (sources_of opening port) c.num
      → reverse s ++ own i (front h (c ∷ p)) ≡ reverse (cond (port == k) (if nat_lt h (suc (length p)) then s else c ∷ s) s) ++ own i (front h p)
  own_step h port c p s has = elim (less_or (length p) h) [
    | inl w ↦
        let whole : front h (c ∷ p) ≡ c ∷ p = if_true (nat_lt (length p) h) (c ∷ p) (front h p) (lt_is (length p) h w) in
        let rest : front h p ≡ p = front_within h p (omega (arith, w)) in
        let test : nat_lt h (suc (length p)) ≡ false = lt_not h (suc (length p)) (omega (arith, w)) in
        ap (λ z. reverse s ++ own i z) whole
        ∙ elim (eqb_tells port k) [
          | inl v ↦
              ap (λ z. reverse s ++ z) (if_true (c.num == i) (c ∷ own i p) (own i p) (mine_is port c.num has v.1))
              ∙ sym (append_assoc (reverse s) (c ∷ []) (own i p))
              ∙ ap (λ z. z ++ own i p) (sym (reverse-append (c ∷ []) s))
              ∙ ap (λ z. reverse z ++ own i p) (sym (if_false (nat_lt h (suc (length p))) s (c ∷ s) test))
              ∙ ap (λ b. reverse (cond b (if nat_lt h (suc (length p)) then s else c ∷ s) s) ++ own i p) (sym v.0)
          | inr v ↦
              ap (λ z. reverse s ++ z) (if_false (c.num == i) (c ∷ own i p) (own i p) (other_is port c.num has v.1))
              ∙ ap (λ b. reverse (cond b (if nat_lt h (suc (length p)) then s else c ∷ s) s) ++ own i p) (sym v.0)
        ]
        ∙ ap (λ z. reverse (cond (port == k) (if nat_lt h (suc (length p)) then s else c ∷ s) s) ++ own i z) (sym rest)
    | inr w ↦
        let less : front h (c ∷ p) ≡ front h p = if_false (nat_lt (length p) h) (c ∷ p) (front h p) (lt_not (length p) h w) in
        let test : nat_lt h (suc (length p)) ≡ true = lt_is h (suc (length p)) (omega (arith, w)) in
        ap (λ z. reverse s ++ own i z) less
        ∙ ap (λ z. reverse z ++ own i (front h p)) (elim (port == k) as (λ b. s ≡ cond b (if nat_lt h (suc (length p)) then s else c ∷ s) s) [ true ↦ sym (if_true (nat_lt h (suc (length p))) s (c ∷ s) test) | false ↦ refl ])
  ]

  -- a source's changes up to a position are those of its port up to there, and those of before
  pub own_up_to : (h : ℕ) (content : Content) (es : List Entry) (said : List JEntry) (p : List Change) → AreRecords opening content es said
      → own i (front h (reverse (map change_of said) ++ p)) ≡ reverse (up_to h (made_by (length p) k (entered es said))) ++ own i (front h p)
  own_up_to h content [] [] p are = refl
  own_up_to h content [] (s ∷ ss) p are = absurd are
  own_up_to h content (e ∷ es) [] p are = absurd are
  own_up_to h content (e ∷ es) (s ∷ ss) p are =
      let made : List (ℕ × Change) = made_by (suc (length p)) k (entered es ss) in
      ap (λ z. own i (front h (z ++ p))) (reverse-append (change_of s ∷ []) (map change_of ss))
      ∙ ap (λ z. own i (front h z)) (append_assoc (reverse (map change_of ss)) (change_of s ∷ []) p)
      ∙ own_up_to h (after content (change_of s ∷ [])) es ss (change_of s ∷ p) are.1
      ∙ own_step h e.maker (change_of s) p (up_to h made) are.0.source
      ∙ ap (λ z. reverse z ++ own i (front h p)) (sym (up_step h (length p) (change_of s) (e.maker == k) made))

  module _ (rules : Rules) (content : Content) (es : List Entry) (said : List JEntry) (before : List Change) (past : List Op) (are : AreRecords opening content es said) (exact : own i before ≡ changes rules i past) where
    -- the position of an up is at or behind the operations so far and before all later ones
    pub up_is_right : (h : ℕ) (ops : List Op) → length before ≤ h → reverse (up_to h (made_by (length before) k (entered es said))) ≡ given rules i past ops → own i (front h (reverse (map change_of said) ++ before)) ≡ changes rules i (ops ++ past)
    up_is_right h ops w is =
        own_up_to h content es said before are
        ∙ ap (λ z. reverse (up_to h (made_by (length before) k (entered es said))) ++ own i z) (front_within h before w)
        ∙ ap (λ z. reverse (up_to h (made_by (length before) k (entered es said))) ++ z) exact
        ∙ ap (λ z. z ++ changes rules i past) is
        ∙ sym (given_on rules i past ops)

-- ---- of a channel

module _ (rules : Rules) (c : ℕ) (history before : List Change) (past : List Op) (made : List (ℕ × Change))
    (right : rules.target c ≡ None → (h : ℕ) (ops : List Op) → length before ≤ h → reverse (up_to h made) ≡ given rules (rules.owner c) past ops → own (rules.owner c) (front h history) ≡ changes rules (rules.owner c) (ops ++ past)) where
  place_is : (target : Option ℕ) → rules.target c ≡ target → (h : ℕ) (ops : List Op) → length before ≤ h → IsStampPlace rules (rules.owner c) past made h ops target → IsPlace rules history c h (ops ++ past) target
  place_is None e h ops w is = right e h ops w is
  place_is (Some table) e h ops w is = λ none. is (first ops none)
    where
      first : (xs : List Op) → xs ++ past ≡ [] → xs ≡ []
      first [] none = refl
      first (x ∷ xs) none = absurd (let two : x ∷ (xs ++ past) ≡ [] = none in cc)

  pub stamps_are_signals : (items : List LogItem) (ns : List Notice) → AreFrom (length before) items → AreStamps rules (rules.owner c) past (rules.target c) made items ns
      → AreSignals rules history c items (map (λ (n : Notice). record { signal = n.signal; ops = n.ops ++ past }) ns)
  stamps_are_signals [] [] low are = tt
  stamps_are_signals [] (n ∷ ns) low are = absurd are
  stamps_are_signals (x ∷ items) [] low are = absurd are
  stamps_are_signals (Up h ∷ items) (n ∷ ns) low are = ((are.0.0, place_is (rules.target c) refl h n.ops low.0 are.0.1), stamps_are_signals items ns low.1 are.1)
  stamps_are_signals (Down ∷ items) (n ∷ ns) low are = (are.0, stamps_are_signals items ns low are.1)
  stamps_are_signals (Reload ∷ items) (n ∷ ns) low are = (are.0, stamps_are_signals items ns low are.1)
  stamps_are_signals (Sent y ∷ items) (n ∷ ns) low are = absurd are.0

-- signals of before stay right as changes come
place_on : (rules : Rules) (c h : ℕ) (new before : List Change) (ops : List Op) (target : Option ℕ) → h ≤ length before → IsPlace rules before c h ops target → IsPlace rules (new ++ before) c h ops target
place_on rules c h new before ops None w is = ap (own (rules.owner c)) (front_on h new before w) ∙ is
place_on rules c h new before ops (Some table) w is = is

pub signals_stay : (rules : Rules) (c : ℕ) (new before : List Change) (items : List LogItem) (ns : List Notice) → AreUpTo (length before) items → AreSignals rules before c items ns → AreSignals rules (new ++ before) c items ns
signals_stay rules c new before [] [] up are = tt
signals_stay rules c new before [] (n ∷ ns) up are = absurd are
signals_stay rules c new before (x ∷ items) [] up are = absurd are
signals_stay rules c new before (Up h ∷ items) (n ∷ ns) up are = ((are.0.0, place_on rules c h new before n.ops (rules.target c) up.0 are.0.1), signals_stay rules c new before items ns up.1 are.1)
signals_stay rules c new before (Down ∷ items) (n ∷ ns) up are = (are.0, signals_stay rules c new before items ns up are.1)
signals_stay rules c new before (Reload ∷ items) (n ∷ ns) up are = (are.0, signals_stay rules c new before items ns up are.1)
signals_stay rules c new before (Sent y ∷ items) (n ∷ ns) up are = absurd are.0

signals_join : (rules : Rules) (c : ℕ) (history : List Change) (xs ys : List LogItem) (ns ms : List Notice) → AreSignals rules history c xs ns → AreSignals rules history c ys ms → AreSignals rules history c (xs ++ ys) (ns ++ ms)
signals_join rules c history [] ys [] ms are more = more
signals_join rules c history [] ys (n ∷ ns) ms are more = absurd are
signals_join rules c history (x ∷ xs) ys [] ms are more = absurd are
signals_join rules c history (x ∷ xs) ys (n ∷ ns) ms are more = (are.0, signals_join rules c history xs ys ns ms are.1 more)

-- the notices of all operations are those of the phase, and then those of before
pub notices_split : (rules : Rules) (i : ℕ) (past ops : List Op) → notices rules i (ops ++ past) ≡ map (λ (n : Notice). record { signal = n.signal; ops = n.ops ++ past }) (notices_from rules i past ops) ++ notices rules i past
notices_split rules i past [] = refl
notices_split rules i past (op ∷ ops) = step (rules.gives i (ops ++ past) op).signal (op ∷ ops) (notices_split rules i past ops)
  where
    step : (s : Signal) (all : List Op) → notices rules i (ops ++ past) ≡ map (λ (n : Notice). record { signal = n.signal; ops = n.ops ++ past }) (notices_from rules i past ops) ++ notices rules i past
        → with_signal s (all ++ past) (notices rules i (ops ++ past)) ≡ map (λ (n : Notice). record { signal = n.signal; ops = n.ops ++ past }) (with_signal s all (notices_from rules i past ops)) ++ notices rules i past
    step Stay all rest = rest
    step Rise all rest = ap (λ z. record { signal = Rise; ops = all ++ past } ∷ z) rest
    step Fall all rest = ap (λ z. record { signal = Fall; ops = all ++ past } ∷ z) rest
    step Renew all rest = ap (λ z. record { signal = Renew; ops = all ++ past } ∷ z) rest

module _ (one : (words : List ℕ) (a b : JEntry) → Spells a words → Spells b words → a ≡ b) where
  pub signals_are_legal :
      (rules : Rules) (c : ℕ) (past ops : List Op) (before : List Change) (opening : TableOpening) (es : List Entry) (said : List JEntry) (made : List (ℕ × Change)) (items earlier : List LogItem)
      → (rules.target c ≡ None → HasPort rules c past before opening es said made)
      → AreFrom (length before) items → AreStamps rules (rules.owner c) past (rules.target c) made items (notices_from rules (rules.owner c) past ops)
      → AreUpTo (length before) earlier → AreSignals rules before c earlier (notices rules (rules.owner c) past)
      → AreSignals rules (reverse (map change_of said) ++ before) c (items ++ earlier) (notices rules (rules.owner c) (ops ++ past))
  signals_are_legal rules c past ops before opening es said made items earlier port low are most were =
      let i : ℕ = rules.owner c in
      let history : List Change = reverse (map change_of said) ++ before in
      let right : rules.target c ≡ None → (h : ℕ) (ops : List Op) → length before ≤ h → reverse (up_to h made) ≡ given rules i past ops → own i (front h history) ≡ changes rules i (ops ++ past) =
      λ e h os w is.
      let p = port e in
      up_is_right i p.port opening p.alone rules (at_first opening) es said before past p.records p.exact h os w
      (ap (λ z. reverse (up_to h z)) (made_one one (receipts (length before) p.port es) (made_by (length before) p.port (entered es said)) made (made_here opening (at_first opening) (length before) p.port es said p.records) p.says) ∙ is) in
      subst (λ (z : List Notice). AreSignals rules history c (items ++ earlier) z) (sym (notices_split rules i past ops))
      (signals_join rules c history items earlier (map (λ (n : Notice). record { signal = n.signal; ops = n.ops ++ past }) (notices_from rules i past ops)) (notices rules i past)
      (stamps_are_signals rules c history before past made right items (notices_from rules i past ops) low are)
      (signals_stay rules c (reverse (map change_of said)) before earlier (notices rules i past) most were))
