-- Steps that send, one after another, and an operation as a whole.
use Rattle.std.proofs.Common.{◌≡◌, ◌≢◌, ℕ, ◌+◌, ◌≤◌, arith, List, [], ◌∷◌, ◌++◌, Option, Some, None, sym, ap, subst, ◌∙◌, append-nil, append_assoc}
use Rattle.std.specs.Prelude.{Bool, IfErr, IfSome}
use Rattle.std.specs.declared.result.Result.{Result}
use Rattle.std.specs.declared.result.Result.TheVariants.{Ok, Err}
use Rattle.atomic_table.specs.Seated.{TableId}
use Rattle.attrs.specs.declared.judge.Verdict.{Verdict}
use Rattle.attrs.specs.declared.route.Change.{Change}
use Rattle.attrs.specs.declared.route.Route.{Route}
use Rattle.bits_ip.specs.Prefix.{Net}
use Rattle.import_core.specs.declared.operation.Op.{Op}
use Rattle.import_core.specs.declared.step.Mark.{Mark}
use Rattle.jour_rule.specs.declared.views.View.{View as Seat}
use Rattle.jour.specs.Seats.{front, head_of, journal, number_of}
use Rattle.phase_legal.specs.Changes.{AreAbove}
use Rattle.phase_legal.specs.Stamps.{notices_from}
use Rattle.phase_legal.proofs.Stamping.{stamps_stay, all_up_to}
use Rattle.import_lock.specs.Calls.{HasSent, HasTurned, IsDue, IsHeld, IsTold, OnlyPlans, OnlySends, OnlyTurns, Sends}
use Rattle.import_lock.specs.Kept.{AreStamped, IsFree, IsImporting, IsImports, IsStamped, IsUnlessLost, items_of_stamp}
use Rattle.import_lock.specs.Terms.{ImportTerms, IsLineOf, ops_told, past_ops, rules_in}
use Rattle.import_lock.specs.declared.state.ImportState.{ImportState}
use Rattle.import_lock.specs.declared.state.OpFault.{OpFault}
use Rattle.import_lock.specs.declared.state.OpFault.TheVariants.{Ended, Memory}
use Rattle.import_lock.proofs.Sending.{sends_self}

-- what holds of each fault holds of the answer's
pub any_err : {A B : Type 0} (r : Result A B) (P : B → Type 0) → ((f : B) → P f) → IfErr r P
any_err (Ok x) P all = tt
any_err (Err f) P all = all f

above_both : (n m : ℕ) (xs ys : List (ℕ × Change)) → n ≤ m → AreAbove n xs → AreAbove m ys → AreAbove n (xs ++ ys)
above_both n m [] [] le a b = tt
above_both n m [] (y ∷ ys) le a b = ((let b0 = b.0 in omega (arith, le, b0)), above_both n m [] ys le a b.1)
above_both n m (x ∷ xs) ys le a b = (a.0, above_both n m xs ys le a.1 b)

module _ {J : Type 0} where
  only_then : (a b c : ImportState J) → OnlySends a b → OnlySends b c → OnlySends a c
  only_then a b c p q = record {
    importer = q.importer ∙ p.importer;
    ops = q.ops ∙ p.ops;
    turns = q.turns ∙ p.turns;
    stamp = q.stamp ∙ p.stamp;
    fault = q.fault ∙ p.fault;
    port = q.port ∙ p.port;
    port_number = q.port_number ∙ p.port_number;
    head = (let h = p.head in let k = q.head in omega (arith, h, k));
  }

module _ {J : Type 0} (verdict : J → Net → Route → Verdict) where
  sent_then : (key : ImportTerms) (made : List (ℕ × Change)) (a b c : ImportState J) → OnlySends a b → (s : HasSent verdict key made a b) → HasSent verdict key (made ++ s.more) b c → HasSent verdict key made a c
  sent_then key made a b c only s t = record {
    more = s.more ++ t.more;
    importing = subst (λ z. IsImporting verdict key z c) (append_assoc made s.more t.more) t.importing;
    above = above_both (head_of a.port.1) (head_of b.port.1) s.more t.more only.head s.above t.above;
  }

  pub sends_nothing : (a : ImportState J) → Sends verdict a a
  sends_nothing a = record {
    only = sends_self a;
    kept = λ key made o. record { more = []; importing = subst (λ z. IsImporting verdict key z a) (sym (append-nil made)) o; above = tt };
  }

  pub sends_then : (a b c : ImportState J) → Sends verdict a b → Sends verdict b c → Sends verdict a c
  sends_then a b c p q = record {
    only = only_then a b c p.only q.only;
    kept = λ key made o.
        let s = p.kept key made o in
        sent_then key made a b c p.only s (q.kept key (made ++ s.more) s.importing);
  }

  pub held_on : (a b : ImportState J) → Sends verdict a b → IsHeld verdict a → IsHeld verdict b
  held_on a b p held =
      let s = p.kept held.key held.made held.importing in
      record { key = held.key; made = held.made ++ s.more; importing = s.importing }

-- ---- an operation as a whole

module _ {J : Type 0} where
  pub only_planned : (a b : ImportState J) → OnlyPlans a b → OnlyTurns a b
  only_planned a b p = record {
    stamp = p.stamp;
    port = ap journal p.port;
    port_number = ap (λ z. number_of z.1.role) p.port;
    head = (let e = ap (λ z. head_of z.1) p.port in omega (arith, e));
  }

  pub turns_only : (a b c : ImportState J) → OnlyPlans a b → OnlySends b c → OnlyTurns a c
  turns_only a b c p s = record {
    stamp = s.stamp ∙ p.stamp;
    port = s.port ∙ ap journal p.port;
    port_number = s.port_number ∙ ap (λ z. number_of z.1.role) p.port;
    head = (let e = ap (λ z. head_of z.1) p.port in let h = s.head in omega (arith, e, h));
  }

  -- the same value with a fault
  abbrev pub with_fault : OpFault → ImportState J → ImportState J
  with_fault f a = record { importer = a.importer; port = a.port; ops = a.ops; backlog = a.backlog; sent = a.sent; turns = a.turns; stamp = a.stamp; fault = Some f }

  pub faulted : (a b : ImportState J) (f : OpFault) → OnlyTurns a b → OnlyTurns a (with_fault f b)
  faulted a b f o = record { stamp = o.stamp; port = o.port; port_number = o.port_number; head = o.head }

module _ {J : Type 0} (verdict : J → Net → Route → Verdict) where
  pub turned : (key : ImportTerms) (made : List (ℕ × Change)) (op : Op) (mark : Mark) (over : Bool) (a b c : ImportState J) → OnlyPlans a b → IsTold key op mark over a b → IsImporting verdict key made b → Sends verdict b c
      → HasTurned verdict key made op a c
  turned key made op mark over a b c p t o sends =
      let s = sends.kept key made o in
      record {
        sent = record { more = s.more; importing = s.importing; above = subst (λ z. AreAbove (head_of z.1) s.more) p.port s.above };
        ops = ap (λ z. ops_told key (front z.1)) sends.only.turns ∙ t.ops;
      }

  pub told_on : (key : ImportTerms) (op : Op) (mark : Mark) (over : Bool) (a b c : ImportState J) → IsTold key op mark over a b → Sends verdict b c → IsTold key op mark over a c
  told_on key op mark over a b c t sends = record { ops = ap (λ z. ops_told key (front z.1)) sends.only.turns ∙ t.ops; tells = t.tells }

  -- the fault is no part of what the importing side keeps
  refault : (key : ImportTerms) (made : List (ℕ × Change)) (a : ImportState J) (f : OpFault) → IsImporting verdict key made a → IsImporting verdict key made (with_fault f a)
  refault key made a f o = record {
    source = o.source;
    terms = o.terms;
    importer = o.importer;
    port = o.port;
    port_number = o.port_number;
    turns = o.turns;
    marks = o.marks;
    hands = o.hands;
    lines = o.lines;
    over = o.over;
    family = o.family;
    says = o.says;
    sent = o.sent;
  }

  -- marks stay right as the port makes more above all that it had seen
  pub stamped_on : (key : ImportTerms) (made more : List (ℕ × Change)) (ops : List Op) (a b : ImportState J) → b.stamp ≡ a.stamp → head_of a.port.1 ≤ head_of b.port.1 → AreAbove (head_of a.port.1) more
      → AreStamped verdict key made ops a → AreStamped verdict key (made ++ more) ops b
  stamped_on key made more ops a b stamp head above all = subst (λ z. IfSome z (IsStamped verdict key (made ++ more) ops b)) (sym stamp) (go a.stamp all)
    where
      go : (s : Option (TableId × Seat ℕ)) → IfSome s (IsStamped verdict key made ops a) → IfSome s (IsStamped verdict key (made ++ more) ops b)
      go None is = tt
      go (Some s) is = record {
        number = is.number;
        are = stamps_stay (rules_in key) key.number (head_of a.port.1) (past_ops key) None made more (items_of_stamp s) (notices_from (rules_in key) key.number (past_ops key) ops) above is.seen is.are;
        seen = all_up_to (head_of a.port.1) (head_of b.port.1) (items_of_stamp s) head is.seen;
        behind = is.behind;
      }

  -- a fault of positions keeps all, and of memory nothing is said
  pub failed_keeps : (key : ImportTerms) (hand place : ℕ) (op : Op) (fault : OpFault) (a b : ImportState J) → IsImports verdict key a → a.fault ≡ None → IsLineOf key hand place op → OnlyTurns a b
      → (fault ≢ Memory → (k : ImportTerms) (made : List (ℕ × Change)) → IsImporting verdict k made a → IsLineOf k hand place op → HasTurned verdict k made op a b)
      → IsImports verdict key (with_fault fault b)
  failed_keeps key hand place op Memory a b free none line only failed = tt
  failed_keeps key hand place op (Ended head) a b free none line only failed =
      let f : (made : List (ℕ × Change)) × IsFree verdict key made a = subst (λ z. IsUnlessLost z ((made : List (ℕ × Change)) × IsFree verdict key made a)) none free in
      let t = failed (λ e. cc) key f.0 f.1.importing line in (
        f.0 ++ t.sent.more,
        record {
          importing = refault key (f.0 ++ t.sent.more) b (Ended head) t.sent.importing;
          rest = λ no. absurd (let e : Some (Ended head) ≡ None = no in cc);
          stamped = λ no. absurd (let e : Some (Ended head) ≡ None = no in cc);
          so_far = record {
            late = op ∷ [];
            before = ops_told key (front a.turns.1);
            few = omega arith;
            all = t.ops;
            stamped = stamped_on key f.0 t.sent.more (ops_told key (front a.turns.1)) a (with_fault (Ended head) b) only.stamp only.head t.sent.above (f.1.stamped none);
          };
        },
      )

  -- once all is sent the channel is due the mark
  pub due_of : (key : ImportTerms) (made : List (ℕ × Change)) (op : Op) (mark : Mark) (over : Bool) (a b : ImportState J) → IsFree verdict key made a → a.fault ≡ None → OnlyTurns a b
      → HasTurned verdict key made op a b × IsTold key op mark over a b → (more : List (ℕ × Change)) × IsDue verdict key (made ++ more) op (ops_told key (front a.turns.1)) mark b
  due_of key made op mark over a b free none only did = (
    did.0.sent.more,
    record {
      importing = did.0.sent.importing;
      told = did.1.ops;
      signal = did.1.tells.signal;
      stamped = stamped_on key made did.0.sent.more (ops_told key (front a.turns.1)) a b only.stamp only.head did.0.sent.above (free.stamped none);
    },
  )
