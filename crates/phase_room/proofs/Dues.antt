-- A channel may take the mark that its protocol's operation is due, since both locks tell of the one
-- journal of marks.
use Rattle.std.proofs.Common.{◌≡◌, ℕ, suc, ◌+◌, ◌<◌, ◌≤◌, ◌^◌, arith, List, [], ◌∷◌, ◌++◌, false, length, map, reverse, Option, Some, None, refl, sym, ap, subst, ◌∙◌, append-nil}
use Rattle.std.specs.Prelude.{IfErr, IfOk, IfSome, option_map}
use Rattle.std.specs.declared.result.Result.{Result}
use Rattle.std.specs.declared.result.Result.TheVariants.{Ok, Err}
use Rattle.std.proofs.lemmas.List.{length-map, length-reverse}
use Rattle.atomic_table.specs.Seated.{TableId}
use Rattle.attrs.specs.declared.judge.Verdict.{Verdict}
use Rattle.attrs.specs.declared.route.Change.{Change}
use Rattle.attrs.specs.declared.route.Route.{Route}
use Rattle.bits_ip.specs.Prefix.{Net}
use Rattle.export_core.specs.Standing.{is_open}
use Rattle.export_core.specs.declared.log.LogItem.{LogItem}
use Rattle.import_core.specs.declared.operation.Op.{Op}
use Rattle.import_core.specs.declared.step.Mark.{Mark}
use Rattle.import_core.specs.declared.step.Mark.TheVariants.{Stay as MarkStay}
use Rattle.jour_rule.specs.declared.views.Entry.{Entry}
use Rattle.jour_rule.specs.declared.views.Terms.{Terms}
use Rattle.jour_rule.specs.declared.views.View.{View as Seat}
use Rattle.jour.specs.Seats.{front, head_of, journal, own}
use Rattle.core_machine.specs.Lines.{Turn}
use Rattle.core_machine.specs.Rules.{Fits, IsRules, Rules, Signal, Stay, Rise, Fall, Renew, is_up}
use Rattle.core_machine.specs.Signals.{with_signal, without_sends}
use Rattle.core_setup.specs.Protocols.{rules_of, signal_of}
use Rattle.core_setup.specs.Setup.{IsSetup, Setup}
use Rattle.core_setup.proofs.Numbered.{none_some, some_same}
use Rattle.table_shared.specs.Opening.{TableOpening}
use Rattle.phase_legal.specs.Stamps.{AreStamps, item_in, items_in, items_of, mark_words, notices_from, opens}
use Rattle.phase_legal.specs.Turns.{place_of, told, turns_told, words_in}
use Rattle.phase_legal.proofs.Stamping.{opens_on, stamps_open, stretch_opens}
use Rattle.import_lock.specs.Calls.{IsDue}
use Rattle.import_lock.specs.Kept.{IsFree, IsImports, IsStamped, IsUnlessLost, items_of_stamp, left}
use Rattle.import_lock.specs.Terms.{ImportTerms, ops_told, past_ops, rules_in}
use Rattle.import_lock.specs.declared.state.ImportState.{ImportState}
use Rattle.import_lock.specs.declared.state.OpFault.{OpFault}
use Rattle.import_lock.specs.declared.state.OpRecord.{OpRecord}
use Rattle.import_lock.specs.declared.state.OpFault.TheVariants.{Memory}
use Rattle.import_lock.proofs.Marking.{marked, nothing_due}
use Rattle.export_lock.specs.Kept.{Goes, IsExports, MayMark}
use Rattle.export_lock.specs.Terms.{ExportTerms}
use Rattle.export_lock.specs.declared.state.ExportState.{ExportState}
use Rattle.phase_room.specs.Together.{AreTogether}
use Rattle.phase_room.proofs.Opening.{unless_lost}

-- there are no more marks than operations
stamps_few : (rules : Rules) (i : ℕ) (past ops : List Op) (made : List (ℕ × Change)) (items : List LogItem) → AreStamps rules i past None made items (notices_from rules i past ops) → length items ≤ length ops
stamps_few rules i past [] made [] are = omega arith
stamps_few rules i past [] made (x ∷ items) are = absurd are
stamps_few rules i past (op ∷ ops) made items are = step (λ ys more. stamps_few rules i past ops made ys more) (rules.gives i (ops ++ past) op).signal (op ∷ ops) items are
  where
    more : (x : LogItem) (ys : List LogItem) → length ys ≤ length ops → length (x ∷ ys) ≤ suc (length ops)
    more x ys few = omega (arith, few)

    step : ((ys : List LogItem) → AreStamps rules i past None made ys (notices_from rules i past ops) → length ys ≤ length ops) → (s : Signal) (all : List Op) (items : List LogItem)
        → AreStamps rules i past None made items (with_signal s all (notices_from rules i past ops)) → length items ≤ suc (length ops)
    step ih Stay all xs are = let few = ih xs are in omega (arith, few)
    step ih Rise all [] are = absurd are
    step ih Rise all (x ∷ xs) are = more x xs (ih xs are.1)
    step ih Fall all [] are = absurd are
    step ih Fall all (x ∷ xs) are = more x xs (ih xs are.1)
    step ih Renew all [] are = absurd are
    step ih Renew all (x ∷ xs) are = more x xs (ih xs are.1)

module _ {J : Type 0} (verdict : J → Net → Route → Verdict) (key : ImportTerms) (channel : ExportTerms) (made : List (ℕ × Change)) (op : Op) (earlier : List Op) (mark : Mark) (a : ImportState J) (b : ExportState J) (s : TableId × Seat ℕ)
    (rules_are : (setup : Setup) → IsSetup setup → IsRules (rules_of setup)) (due : IsDue verdict key made op earlier mark a) (stamp : a.stamp ≡ Some s) (exports : IsExports verdict channel b) (together : AreTogether key channel) (short : length a.ops.items < 2 ^ 63) where
  stamped : IsStamped verdict key made earlier a s
  stamped = subst (λ z. IfSome z (IsStamped verdict key made earlier a)) stamp due.stamped

  turns_long : length (front a.turns.1) ≡ length a.ops.items
  turns_long =
      sym (length-map (front a.turns.1) place_of) ∙ ap length (sym due.importing.lines) ∙ length-map a.ops.items (λ (r : OpRecord). r.line)

  told_long : length (ops_told key (front a.turns.1)) ≡ length (front a.turns.1)
  told_long =
      length-map (turns_told key.phase.lines (front a.turns.1)) (λ (t : Turn). t.op)
      ∙ length-reverse (map (told key.phase.lines) (front a.turns.1))
      ∙ length-map (front a.turns.1) (told key.phase.lines)

  earlier_few : suc (length earlier) < 2 ^ 63
  earlier_few = let e = ap length due.told in let f = told_long in let h = turns_long in omega (arith, e, f, h, short)

  items_few : length (items_of_stamp s) ≤ length earlier
  items_few = stamps_few (rules_in key) key.number (past_ops key) earlier made (items_of_stamp s) stamped.are

  items_long : (es : List Entry) → length (items_in es) ≡ length es
  items_long es = length-reverse (map (λ (e : Entry). item_in e.words) es) ∙ length-map es (λ (e : Entry). item_in e.words)

  start_is : b.marks.1.seen.terms.start ≡ 0
  start_is = ap (λ z. z.1.start) exports.marks ∙ together.start

  end_is : items_in (front b.marks.1) ≡ items_of_stamp s → head_of b.marks.1 + 1 < 2 ^ 63
  end_is all =
      let e = ap length all in
      let f = items_long (front b.marks.1) in
      let few = items_few in
      let less = earlier_few in
      let start = start_is in
      omega (arith, e, f, few, less, start)

  up_is : items_in (front b.marks.1) ≡ items_of_stamp s → is_open b.exporter.log ≡ is_up (rules_in key) key.number (earlier ++ past_ops key)
  up_is all =
      stretch_opens (reverse b.exporter.log)
      ∙ ap (opens false) exports.marked
      ∙ opens_on false (items_in (front b.marks.1)) (without_sends channel.log)
      ∙ ap (λ z. opens z (items_in (front b.marks.1))) together.up
      ∙ ap (opens (is_up (rules_in key) key.number (past_ops key))) all
      ∙ stamps_open (rules_in key) key.number (past_ops key) earlier None made (items_of_stamp s) stamped.are

  fits_is : items_in (front b.marks.1) ≡ items_of_stamp s → Fits (signal_of mark) (is_open b.exporter.log)
  fits_is all =
      subst (λ z. Fits z (is_open b.exporter.log)) (sym due.signal)
      (subst (Fits ((rules_in key).gives key.number (earlier ++ past_ops key) op).signal) (sym (up_is all))
      ((rules_are key.phase.setup due.importing.terms.setup).fits key.number (earlier ++ past_ops key) op))

  here_is : journal s ≡ journal b.marks
  here_is = some_same (ap (option_map journal) (sym stamp) ∙ due.importing.marks ∙ together.marks) ∙ sym exports.marks

  pub may_mark : MayMark verdict false key.port (signal_of mark) s b
  may_mark = record {
    held = record { key = channel; exporting = exports };
    table_is = exports.here ∙ together.table;
    here = here_is;
    number = stamped.number;
    end = end_is;
    fits = fits_is;
  }

if_some : {A : Type 0} (x : Option A) (P : A → Type 0) → ((a : A) → x ≡ Some a → P a) → IfSome x P
if_some None P f = tt
if_some (Some a) P f = f a refl

if_marks : {A B : Type 0} (f : A → B) (x : Option A) (m : B) (P : Type 0) → option_map f x ≡ Some m → IfSome x (λ _. P) → P
if_marks f None m P e p = none_some e
if_marks f (Some a) m P e p = p

none_of : {A B : Type 0} (f : A → B) (x : Option A) → option_map f x ≡ None → x ≡ None
none_of f None e = refl
none_of f (Some a) e = none_some (sym e)

module _ {J : Type 0} (verdict : J → Net → Route → Verdict) where
  -- where there is no channel, nothing is to be marked
  pub unmarked_keeps : (mine : ImportTerms) (its : List (ℕ × Change)) (last : Op) (before : List Op) (mark : Mark) (a : ImportState J) → IsDue verdict mine its last before mark a → mine.marks ≡ None → left a ≡ []
      → (key : ImportTerms) (made : List (ℕ × Change)) (op : Op) (ops : List Op) → IsDue verdict key made op ops mark a → IsImports verdict key a
  unmarked_keeps mine its last before mark a is none rest key made op ops due =
      unless_lost a.fault _ (made, nothing_due verdict key made op ops mark a due rest (none_of journal a.stamp (is.importing.marks ∙ none)))

  -- where the operation left the channel as it was, the stamp has marked all
  stays_due : (key : ImportTerms) (made : List (ℕ × Change)) (op : Op) (earlier : List Op) (mark : Mark) (a : ImportState J) → IsDue verdict key made op earlier mark a → left a ≡ [] → signal_of mark ≡ Stay → IsFree verdict key made a
  stays_due key made op earlier mark a due rest stay = go a.stamp refl
    where
      said : (s : TableId × Seat ℕ) → words_in (own s.1) ≡ words_in (own s.1) ++ map mark_words (items_of (signal_of mark) (head_of a.port.1))
      said s = sym (append-nil (words_in (own s.1))) ∙ ap (λ z. words_in (own s.1) ++ map mark_words (items_of z (head_of a.port.1))) (sym stay)

      same : (z : Option (TableId × Seat ℕ)) → a.stamp ≡ z
          → record { importer = a.importer; port = a.port; ops = a.ops; backlog = a.backlog; sent = a.sent; turns = a.turns; stamp = z; fault = a.fault } ≡ a
      same z is = ap (λ y. record { importer = a.importer; port = a.port; ops = a.ops; backlog = a.backlog; sent = a.sent; turns = a.turns; stamp = y; fault = a.fault }) (sym is)

      go : (z : Option (TableId × Seat ℕ)) → a.stamp ≡ z → IsFree verdict key made a
      go None is = nothing_due verdict key made op earlier mark a due rest is
      go (Some s) is =
          subst (IsFree verdict key made) (same (Some s) is)
          (marked verdict key made op earlier mark a due rest s s a.port is refl refl refl refl refl (omega arith) (said s))

  pub stayed_keeps : (mark : Mark) (a : ImportState J) → mark ≡ MarkStay → left a ≡ []
      → (key : ImportTerms) (made : List (ℕ × Change)) (op : Op) (ops : List Op) → IsDue verdict key made op ops mark a → IsImports verdict key a
  stayed_keeps mark a is rest key made op ops due =
      unless_lost a.fault _ (made, stays_due key made op ops mark a due rest (ap signal_of is))

  -- of any stamp that the value has
  pub may_any : (key : ImportTerms) (channel : ExportTerms) (made : List (ℕ × Change)) (op : Op) (earlier : List Op) (mark : Mark) (a : ImportState J) (b : ExportState J) (table : TableId × Terms TableOpening) → ((setup : Setup) → IsSetup setup → IsRules (rules_of setup))
      → IsDue verdict key made op earlier mark a → IsExports verdict channel b → AreTogether key channel → length a.ops.items < 2 ^ 63 → key.port ≡ table → IfSome a.stamp (λ s. MayMark verdict false table (signal_of mark) s b)
  may_any key channel made op earlier mark a b table rules_are due exports together short here =
      if_some a.stamp (λ s. MayMark verdict false table (signal_of mark) s b)
      (λ s is. subst (λ z. MayMark verdict false z (signal_of mark) s b) here (may_mark verdict key channel made op earlier mark a b s rules_are due is exports together short))

  -- and so it has taken the mark
  pub goes_on : (key : ImportTerms) (channel : ExportTerms) (made : List (ℕ × Change)) (op : Op) (earlier : List Op) (mark : Mark) (a : ImportState J) (b n : ExportState J)
      → IsDue verdict key made op earlier mark a → AreTogether key channel → IfSome a.stamp (λ _. Goes verdict b n) → IsExports verdict channel b → IsExports verdict channel n
  goes_on key channel made op earlier mark a b n due together goes exports =
      if_marks journal a.stamp channel.marks (Goes verdict b n) (due.importing.marks ∙ together.marks) goes channel exports

  pub marked_keeps : {A : Type 0} (r : Result A OpFault) (a n : ImportState J) (mark : Mark) → IfOk r (λ _. (key : ImportTerms) (made : List (ℕ × Change)) (op : Op) (ops : List Op) → IsDue verdict key made op ops mark a → IsFree verdict key made n)
      → IfErr r (λ fault. (fault ≡ Memory) × (n.fault ≡ Some Memory)) → (key : ImportTerms) (made : List (ℕ × Change)) (op : Op) (ops : List Op) → IsDue verdict key made op ops mark a → IsImports verdict key n
  marked_keeps (Ok x) a n mark kept lost key made op ops due = unless_lost n.fault _ (made, kept key made op ops due)
  marked_keeps (Err fault) a n mark kept lost key made op ops due = subst (λ z. IsUnlessLost z ((m : List (ℕ × Change)) × IsFree verdict key m n)) (sym lost.1) tt

  pub fresh : (key : ImportTerms) (a : ImportState J) → a.fault ≡ None → IsImports verdict key a → (made : List (ℕ × Change)) × IsFree verdict key made a
  fresh key a none kept = subst (λ z. IsUnlessLost z ((made : List (ℕ × Change)) × IsFree verdict key made a)) none kept

pub any_ok : {A E : Type 0} (r : Result A E) (P : Type 0) → P → IfOk r (λ _. P)
any_ok (Ok x) P p = p
any_ok (Err e) P p = tt
