-- A channel as it is held, and what steps of its exporter do to it.
use Rattle.std.proofs.Common.{◌≡◌, ℕ, suc, ◌+◌, ◌-◌, Bool, true, false, List, Option, Some, None, refl, sym, ◌∙◌, ap, subst, arith, length, if◌then◌else◌}
use Rattle.std.specs.Prelude.{◌==◌, ◌&&◌}
use Rattle.bits_ip.specs.Prefix.{Net}
use Rattle.bits_ip.specs.declared.address.Family.{Family}
use Rattle.attrs.specs.declared.judge.Verdict.{Verdict}
use Rattle.attrs.specs.declared.route.Change.{Change}
use Rattle.attrs.specs.declared.route.Route.{Route}
use Rattle.export_core.specs.Calls.{ended}
use Rattle.core_machine.specs.Channels.{IsFed, closed, is_open, opened, push_one, renewed, take_one, times}
use Rattle.core_machine.specs.Channels as machine
use Rattle.core_machine.specs.Room.{lags, roomed}
use Rattle.core_machine.specs.Rules.{Rules}
use Rattle.core_machine.proofs.Contents.{if_false, if_true, none_some}
use Rattle.run_tables.specs.Channels.{IsChannel, IsExporter, IsOver, Reads, ReadsUp, cursor_of, if_up, left_of}
use Rattle.run_tables.specs.declared.channel.Channel.{Channel}
use Rattle.run_tables.specs.declared.table.Table.{Table}
use Rattle.run_tables.specs.Tables.{IsTable}
use Rattle.run_tables.proofs.Journals.{head_is}
use Rattle.run_tables.proofs.Runs.{push_cursor, takes_left, takes_open}
use Rattle.run_tables.proofs.Steps.{down_is}

-- ---- the machine's channels

pub open_of : (ch : machine.Channel) (p : ℕ) → cursor_of ch ≡ Some p → is_open ch ≡ true
open_of ch p e = on (is_open ch) e where
  on : (b : Bool) → (if b then Some ch.position else None) ≡ Some p → b ≡ true
  on true e = refl
  on false e = absurd (none_some e)

pub position_of : (ch : machine.Channel) (p : ℕ) → cursor_of ch ≡ Some p → ch.position ≡ p
position_of ch p e = on (is_open ch) e where
  on : (b : Bool) → (if b then Some ch.position else None) ≡ Some p → ch.position ≡ p
  on true e = cc
  on false e = absurd (none_some e)

pub open_does : (f : machine.Channel → machine.Channel) (ch : machine.Channel) → is_open ch ≡ true → if_up f ch ≡ f ch
open_does f ch up = if_true (is_open ch) (f ch) ch up

pub shut_does : (f : machine.Channel → machine.Channel) (ch : machine.Channel) → is_open ch ≡ false → if_up f ch ≡ ch
shut_does f ch shut = if_false (is_open ch) (f ch) ch shut

module _ (rules : Rules) (c : ℕ) (h : List Change) where
  -- one take more
  take_more : (n : ℕ) (ch : machine.Channel) → if_up (take_one rules c h) (if_up (times n (take_one rules c h)) ch) ≡ if_up (times (n + 1) (take_one rules c h)) ch
  take_more n ch = on (is_open ch) refl where
    next : suc n ≡ n + 1
    next = omega arith

    on : (b : Bool) → is_open ch ≡ b → if_up (take_one rules c h) (if_up (times n (take_one rules c h)) ch) ≡ if_up (times (n + 1) (take_one rules c h)) ch
    on true e =
        ap (if_up (take_one rules c h)) (open_does (times n (take_one rules c h)) ch e) ∙ open_does (take_one rules c h) (times n (take_one rules c h) ch) (takes_open rules c h n ch ∙ e)
        ∙ ap (λ k. times k (take_one rules c h) ch) next ∙ sym (open_does (times (n + 1) (take_one rules c h)) ch e)
    on false e =
        ap (if_up (take_one rules c h)) (shut_does (times n (take_one rules c h)) ch e) ∙ shut_does (take_one rules c h) ch e
        ∙ sym (shut_does (times (n + 1) (take_one rules c h)) ch e)

  -- as many as are left do what so many do
  left_times : (cursor : Option ℕ) (head count : ℕ) (ch : machine.Channel) → head ≡ length h → cursor ≡ cursor_of ch
      → if_up (times (left_of cursor head count) (take_one rules c h)) ch ≡ if_up (times count (take_one rules c h)) ch
  left_times cursor head count ch at was =
      ap (λ (o : Option ℕ). if_up (times (left_of o head count) (take_one rules c h)) ch) was
      ∙ ap (λ (n : ℕ). if_up (times (left_of (cursor_of ch) n count) (take_one rules c h)) ch) at ∙ on (is_open ch) where
        on : (b : Bool) → (if b then times (left_of (if b then Some ch.position else None) (length h) count) (take_one rules c h) ch else ch) ≡ (if b then times count (take_one rules c h) ch else ch)
        on true = takes_left rules c h count ch
        on false = refl

-- ---- as they are held

module _ {J : Type 0} (verdict : J → Net → Route → Verdict) (rules : Rules) (c : ℕ) (h : List Change) (family : Option Family) where
  -- with another exporter and cursor
  pub held_as : (old new : Channel J) (ch ch' : machine.Channel) → new.table ≡ old.table → new.target ≡ old.target → IsChannel verdict rules c family h old ch
      → new.cursor ≡ cursor_of ch' → IsExporter verdict rules c family h new.exporter ch' → IsChannel verdict rules c family h new ch'
  held_as old new ch ch' table target m cursor exporter = record {
    table = table ∙ m.table;
    target = target ∙ m.target;
    cursor = cursor;
    exporter = exporter;
  }

  module _ (old new : Channel J) (ch : machine.Channel) (p : ℕ) (was : old.cursor ≡ Some p) (table : new.table ≡ old.table) (target : new.target ≡ old.target)
      (m : IsChannel verdict rules c family h old ch) where
    pub up_of : is_open ch ≡ true
    up_of = open_of ch p (sym m.cursor ∙ was)

    pub take_kept : (next : ℕ) → new.cursor ≡ Some next
        → (is_open ch ≡ true → IsExporter verdict rules c family h old.exporter ch → IsExporter verdict rules c family h new.exporter (take_one rules c h ch) × (Some next ≡ cursor_of (take_one rules c h ch)))
        → IsChannel verdict rules c family h new (if_up (take_one rules c h) ch)
    take_kept next cursor takes =
        let t = takes up_of m.exporter in
        subst (IsChannel verdict rules c family h new) (sym (open_does (take_one rules c h) ch up_of))
        (held_as old new ch (take_one rules c h ch) table target m (cursor ∙ t.1) t.0)

  pub push_kept : (old new : Channel J) (ch : machine.Channel) → new.table ≡ old.table → new.target ≡ old.target → new.cursor ≡ old.cursor
      → IsChannel verdict rules c family h old ch → IsExporter verdict rules c family h new.exporter (push_one rules c h ch) → IsChannel verdict rules c family h new (push_one rules c h ch)
  push_kept old new ch table target cursor m e =
      held_as old new ch (push_one rules c h ch) table target m (cursor ∙ m.cursor ∙ sym (push_cursor rules c h ch)) e

  pub left_kept : (old new : Channel J) (ch : machine.Channel) (head count : ℕ) → head ≡ length h → IsChannel verdict rules c family h old ch
      → IsChannel verdict rules c family h new (if_up (times (left_of old.cursor head count) (take_one rules c h)) ch) → IsChannel verdict rules c family h new (if_up (times count (take_one rules c h)) ch)
  left_kept old new ch head count at was m = subst (IsChannel verdict rules c family h new) (left_times rules c h old.cursor head count ch at was.cursor) m

  -- ---- stretches

  pub risen : (old new : Channel J) (ch : machine.Channel) (head : ℕ) → head ≡ length h → new.table ≡ old.table → new.target ≡ old.target → new.cursor ≡ Some head
      → IsChannel verdict rules c family h old ch
      → (x : machine.Channel) × IsFed rules c h false (opened (length h) ch) x × IsExporter verdict rules c family h new.exporter x
      → (x : machine.Channel) × IsFed rules c h false (opened (length h) ch) x × IsChannel verdict rules c family h new x
  risen old new ch head at table target cursor m r = (r.0, r.1, held_as old new ch r.0 table target m (cursor ∙ ap Some at ∙ sym (ap cursor_of r.1.2)) r.2)

  pub renewed_is : (old new : Channel J) (ch : machine.Channel) → new.table ≡ old.table → new.target ≡ old.target → new.cursor ≡ old.cursor
      → IsChannel verdict rules c family h old ch
      → (x : machine.Channel) × IsFed rules c h true (renewed ch) x × IsExporter verdict rules c family h new.exporter x
      → (x : machine.Channel) × IsFed rules c h true (renewed ch) x × IsChannel verdict rules c family h new x
  renewed_is old new ch table target cursor m r = (r.0, r.1, held_as old new ch r.0 table target m (cursor ∙ m.cursor ∙ sym (ap cursor_of r.1.2)) r.2)

  pub fallen : (old new : Channel J) (ch : machine.Channel) → new.table ≡ old.table → new.target ≡ old.target → new.cursor ≡ None → new.exporter ≡ ended old.exporter
      → IsChannel verdict rules c family h old ch → IsChannel verdict rules c family h new (closed ch)
  fallen old new ch table target cursor e m =
      held_as old new ch (closed ch) table target m cursor (down_is verdict rules c h family old.exporter new.exporter ch e m.exporter)

-- ---- takes, one after another

module _ {J : Type 0} (verdict : J → Net → Route → Verdict) (table : Table) where
  pub record TakenSoFar (old new : Channel J) (n : ℕ) : Type 0 where
    pub takes :
        (rules : Rules) (c : ℕ) (family : Family) (h : List Change) (ch : machine.Channel)
        → IsTable rules family h table → IsChannel verdict rules c (Some family) h old ch
        → IsChannel verdict rules c (Some family) h new (if_up (times n (take_one rules c h)) ch)

  pub none_taken : (old : Channel J) → TakenSoFar old old 0
  none_taken old = record { takes = λ rules c family h ch is m. subst (IsChannel verdict rules c (Some family) h old) (sym (same (is_open ch) ch)) m } where
    same : (b : Bool) (ch : machine.Channel) → (if b then ch else ch) ≡ ch
    same true ch = refl
    same false ch = refl

  pub one_take : (old mid new : Channel J) (n : ℕ) → TakenSoFar old mid n
      → ((rules : Rules) (c : ℕ) (family : Family) (h : List Change) (ch : machine.Channel) → IsTable rules family h table → IsChannel verdict rules c (Some family) h mid ch → IsChannel verdict rules c (Some family) h new (if_up (take_one rules c h) ch))
      → TakenSoFar old new (n + 1)
  one_take old mid new n far step = record {
    takes = λ rules c family h ch is m. subst (IsChannel verdict rules c (Some family) h new) (take_more rules c h n ch)
        (step rules c family h (if_up (times n (take_one rules c h)) ch) is (far.takes rules c family h ch is m));
  }

  pub all_takes : (old new : Channel J) (n head count : ℕ) → TakenSoFar old new n → n ≡ left_of old.cursor head count → head ≡ length table.entries.items
      → (rules : Rules) (c : ℕ) (family : Family) (h : List Change) (ch : machine.Channel) → IsTable rules family h table → IsChannel verdict rules c (Some family) h old ch
      → IsChannel verdict rules c (Some family) h new (if_up (times count (take_one rules c h)) ch)
  all_takes old new n head count far same at rules c family h ch is m =
      left_kept verdict rules c h (Some family) old new ch head count (at ∙ head_is rules family h table is) m
      (subst (λ (k : ℕ). IsChannel verdict rules c (Some family) h new (if_up (times k (take_one rules c h)) ch)) same (far.takes rules c family h ch is m))

  pub still_reads : (old mid : Channel J) (n : ℕ) → Reads verdict old table → TakenSoFar old mid n → Reads verdict mid table
  still_reads old mid n r far = record {
    rules = r.rules;
    c = r.c;
    family = r.family;
    history = r.history;
    ch = if_up (times n (take_one r.rules r.c r.history)) r.ch;
    rules_are = r.rules_are;
    is = r.is;
    channel = far.takes r.rules r.c r.family r.history r.ch r.is r.channel;
  }

  -- conditions
  pub taker_over : (held : Channel J) (p : ℕ) → held.cursor ≡ Some p → Reads verdict held table → IsOver verdict held.exporter table true
  taker_over held p some r = record {
    rules = r.rules;
    c = r.c;
    family = r.family;
    history = r.history;
    ch = r.ch;
    rules_are = r.rules_are;
    is = r.is;
    is_up = open_of r.ch p (sym r.channel.cursor ∙ some);
    exporter = r.channel.exporter;
  }

  pub taker_here : (held : Channel J) (p : ℕ) → held.cursor ≡ Some p → Reads verdict held table → held.exporter.position ≡ p
  taker_here held p some r = r.channel.exporter.matches.like.resembles.position ∙ position_of r.ch p (sym r.channel.cursor ∙ some)

  pub reader_over : (held : Channel J) (up : Bool) → ReadsUp verdict held table up → IsOver verdict held.exporter table up
  reader_over held up r = record {
    rules = r.reads.rules;
    c = r.reads.c;
    family = r.reads.family;
    history = r.reads.history;
    ch = r.reads.ch;
    rules_are = r.reads.rules_are;
    is = r.reads.is;
    is_up = r.is_up;
    exporter = r.reads.channel.exporter;
  }

-- ---- room

module _ {J : Type 0} (verdict : J → Net → Route → Verdict) (rules : Rules) (c : ℕ) (h : List Change) (family : Option Family) (held : Channel J) (ch : machine.Channel) where
  both_up : (a b : Bool) → (a && b) ≡ true → a ≡ true
  both_up true b e = refl
  both_up false b e = absurd (let bad : false ≡ true = e in cc)

  pub room_taken : lags rules h ch ≡ true → IsChannel verdict rules c family h held (if_up (take_one rules c h) ch) → IsChannel verdict rules c family h held (roomed rules c h ch)
  room_taken lag m =
      subst (IsChannel verdict rules c family h held)
      (open_does (take_one rules c h) ch (both_up (is_open ch) (length h - ch.position == rules.cells) lag) ∙ sym (if_true (lags rules h ch) (take_one rules c h ch) ch lag)) m

  pub room_there : lags rules h ch ≡ false → IsChannel verdict rules c family h held ch → IsChannel verdict rules c family h held (roomed rules c h ch)
  room_there none m = subst (IsChannel verdict rules c family h held) (sym (if_false (lags rules h ch) (take_one rules c h ch) ch none)) m
