-- The mark of an operation, once all that was given is sent.
use Rattle.std.proofs.Common.{◌≡◌, ℕ, ◌+◌, ◌≤◌, arith, List, [], ◌∷◌, ◌++◌, map, reverse, Some, None, refl, sym, ap, subst, ◌∙◌, append-nil}
use Rattle.std.specs.Prelude.{IfSome, option_map}
use Rattle.std.proofs.Math.Nat.{le_refl}
use Rattle.std.proofs.lemmas.List.{map-append, reverse-append, reverse-reverse}
use Rattle.atomic_table.specs.Seated.{TableId}
use Rattle.attrs.specs.declared.judge.Verdict.{Verdict}
use Rattle.attrs.specs.declared.route.Change.{Change}
use Rattle.attrs.specs.declared.route.Route.{Route}
use Rattle.bits_ip.specs.Prefix.{Net}
use Rattle.export_core.specs.declared.log.LogItem.{LogItem}
use Rattle.import_core.specs.declared.operation.Op.{Op}
use Rattle.import_core.specs.declared.step.Mark.{Mark}
use Rattle.jour_rule.specs.declared.views.View.{View as Seat}
use Rattle.jour.specs.Seats.{front, head_of, journal, number_of, own}
use Rattle.core_machine.specs.Rules.{Rules, Signal, Stay, Rise, Fall, Renew}
use Rattle.core_machine.specs.Signals.{Notice, with_signal}
use Rattle.core_setup.specs.Protocols.{signal_of}
use Rattle.table_shared.specs.Opening.{TableOpening}
use Rattle.phase_legal.specs.Changes.{AreMade, AreWithin, changes_in, given}
use Rattle.phase_legal.specs.Stamps.{AreFrom, AreStamps, AreUpTo, item_in, items_of, mark_words, notices_from}
use Rattle.phase_legal.specs.Turns.{words_in}
use Rattle.phase_legal.proofs.Made.{made_within}
use Rattle.phase_legal.proofs.Stamping.{all_up_to, new_stamp}
use Rattle.import_lock.specs.Calls.{IsDue}
use Rattle.import_lock.specs.Kept.{AreStamped, IsFree, IsImporting, IsStamped, items_of_stamp, left}
use Rattle.import_lock.specs.Terms.{ImportTerms, ops_told, past_ops, rules_in}
use Rattle.import_lock.specs.declared.state.ImportState.{ImportState}

item_back : (s : Signal) (h : ℕ) → reverse (map item_in (map mark_words (items_of s h))) ≡ items_of s h
item_back Stay h = refl
item_back Rise h = refl
item_back Fall h = refl
item_back Renew h = refl

-- the items of a stamp with one mark more
items_more : (s : Signal) (h : ℕ) (words more : List (List ℕ)) → more ≡ words ++ map mark_words (items_of s h) → reverse (map item_in more) ≡ items_of s h ++ reverse (map item_in words)
items_more s h words more is =
    ap (λ z. reverse (map item_in z)) is
    ∙ ap reverse (map-append item_in words (map mark_words (items_of s h)))
    ∙ reverse-append (map item_in words) (map item_in (map mark_words (items_of s h)))
    ∙ ap (λ z. z ++ reverse (map item_in words)) (item_back s h)

up_more : (s : Signal) (h n : ℕ) (items : List LogItem) → n ≤ h → AreUpTo n items → AreUpTo h (items_of s h ++ items)
up_more Stay h n items le up = all_up_to n h items le up
up_more Rise h n items le up = (le_refl h, all_up_to n h items le up)
up_more Fall h n items le up = all_up_to n h items le up
up_more Renew h n items le up = all_up_to n h items le up

from_more : (s : Signal) (h n : ℕ) (items : List LogItem) → n ≤ h → AreFrom n items → AreFrom n (items_of s h ++ items)
from_more Stay h n items le from = from
from_more Rise h n items le from = (le, from)
from_more Fall h n items le from = from
from_more Renew h n items le from = from

stamps_more : (rules : Rules) (i h : ℕ) (past : List Op) (op : Op) (earlier : List Op) (made : List (ℕ × Change)) (items : List LogItem) (ns : List Notice) (s : Signal) → AreWithin h made → reverse (changes_in made) ≡ given rules i past (op ∷ earlier)
    → AreStamps rules i past None made items ns → AreStamps rules i past None made (items_of s h ++ items) (with_signal s (op ∷ earlier) ns)
stamps_more rules i h past op earlier made items ns Stay within gave are = are
stamps_more rules i h past op earlier made items ns Rise within gave are = (new_stamp rules i h past op earlier None made within gave, are)
stamps_more rules i h past op earlier made items ns Fall within gave are = (refl, are)
stamps_more rules i h past op earlier made items ns Renew within gave are = (refl, are)

module _ {J : Type 0} where
  -- the same value, where the port has seen more and the stamp has marked
  abbrev pub with_mark : TableId × Seat TableOpening → TableId × Seat ℕ → ImportState J → ImportState J
  with_mark port stamp a = record { importer = a.importer; port = port; ops = a.ops; backlog = a.backlog; sent = a.sent; turns = a.turns; stamp = Some stamp; fault = a.fault }

module _ {J : Type 0} (verdict : J → Net → Route → Verdict) (key : ImportTerms) (made : List (ℕ × Change)) (op : Op) (earlier : List Op) (mark : Mark) (a : ImportState J) (due : IsDue verdict key made op earlier mark a) (rest : left a ≡ []) where
  stamped_now : a.stamp ≡ None → AreStamped verdict key made (op ∷ earlier) a
  stamped_now none = subst (λ z. IfSome z (IsStamped verdict key made (op ∷ earlier) a)) (sym none) tt

  -- a protocol without a channel
  pub nothing_due : a.stamp ≡ None → IsFree verdict key made a
  nothing_due none = record {
    importing = due.importing;
    rest = λ _. rest;
    stamped = λ _. subst (λ z. AreStamped verdict key made z a) (sym due.told) (stamped_now none);
    so_far = record { late = []; before = op ∷ earlier; few = omega arith; all = due.told; stamped = stamped_now none };
  }

  module _ (s t : TableId × Seat ℕ) (port : TableId × Seat TableOpening) (some : a.stamp ≡ Some s) (here : journal t ≡ journal s) (number : number_of t.1.role ≡ number_of s.1.role)
      (port_here : journal port ≡ journal a.port) (port_number : number_of port.1.role ≡ number_of a.port.1.role) (receipts_are : own port.1 ≡ own a.port.1) (head : head_of a.port.1 ≤ head_of port.1)
      (said : words_in (own t.1) ≡ words_in (own s.1) ++ map mark_words (items_of (signal_of mark) (head_of port.1))) where
    says : AreMade (own port.1) made
    says = subst (λ z. AreMade z made) (sym receipts_are) due.importing.says

    importing_on : IsImporting verdict key made (with_mark port t a)
    importing_on = record {
      source = due.importing.source;
      terms = due.importing.terms;
      importer = due.importing.importer;
      port = port_here ∙ due.importing.port;
      port_number = port_number ∙ due.importing.port_number;
      turns = due.importing.turns;
      marks = ap Some here ∙ sym (ap (option_map journal) some) ∙ due.importing.marks;
      hands = due.importing.hands;
      lines = due.importing.lines;
      over = due.importing.over;
      family = due.importing.family;
      says = says;
      sent = due.importing.sent;
    }

    gave : reverse (changes_in made) ≡ given (rules_in key) key.number (past_ops key) (op ∷ earlier)
    gave =
        ap reverse (sym (append-nil (changes_in made)) ∙ ap (λ z. changes_in made ++ z) (sym rest) ∙ due.importing.sent)
        ∙ reverse-reverse (given (rules_in key) key.number (past_ops key) (ops_told key (front a.turns.1)))
        ∙ ap (given (rules_in key) key.number (past_ops key)) due.told

    start : key.port.1.start ≤ head_of port.1
    start = let e = ap (λ z. z.1.start) (port_here ∙ due.importing.port) in omega (arith, e)

    were : IsStamped verdict key made earlier a s
    were = subst (λ z. IfSome z (IsStamped verdict key made earlier a)) some due.stamped

    items_are : items_of_stamp t ≡ items_of (signal_of mark) (head_of port.1) ++ items_of_stamp s
    items_are = items_more (signal_of mark) (head_of port.1) (words_in (own s.1)) (words_in (own t.1)) said

    are_now : AreStamps (rules_in key) key.number (past_ops key) None made (items_of (signal_of mark) (head_of port.1) ++ items_of_stamp s) (with_signal (signal_of mark) (op ∷ earlier) (notices_from (rules_in key) key.number (past_ops key) earlier))
    are_now = stamps_more (rules_in key) key.number (head_of port.1) (past_ops key) op earlier made (items_of_stamp s) (notices_from (rules_in key) key.number (past_ops key) earlier) (signal_of mark)
        (made_within port.1.seen.terms.start (number_of port.1.role) (front port.1) made says) gave were.are

    stamped_more : IsStamped verdict key made (op ∷ earlier) (with_mark port t a) t
    stamped_more = record {
      number = number ∙ were.number;
      are = subst (λ z. AreStamps (rules_in key) key.number (past_ops key) None made z (notices_from (rules_in key) key.number (past_ops key) (op ∷ earlier))) (sym items_are)
          (subst (λ z. AreStamps (rules_in key) key.number (past_ops key) None made (items_of (signal_of mark) (head_of port.1) ++ items_of_stamp s) (with_signal z (op ∷ earlier) (notices_from (rules_in key) key.number (past_ops key) earlier))) due.signal are_now);
      seen = subst (AreUpTo (head_of port.1)) (sym items_are) (up_more (signal_of mark) (head_of port.1) (head_of a.port.1) (items_of_stamp s) head were.seen);
      behind = subst (AreFrom key.port.1.start) (sym items_are) (from_more (signal_of mark) (head_of port.1) key.port.1.start (items_of_stamp s) start were.behind);
    }

    pub marked : IsFree verdict key made (with_mark port t a)
    marked = record {
      importing = importing_on;
      rest = λ _. rest;
      stamped = λ _. subst (λ z. AreStamped verdict key made z (with_mark port t a)) (sym due.told) stamped_more;
      so_far = record { late = []; before = op ∷ earlier; few = omega arith; all = due.told; stamped = stamped_more };
    }
