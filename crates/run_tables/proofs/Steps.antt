-- An exporter and its channel of the machine, step by step.
use Rattle.std.proofs.Common.{◌≡◌, ℕ, ◌+◌, ◌≤◌, ◌<◌, Bool, true, false, List, [], ◌∷◌, Option, Some, None, refl, sym, ◌∙◌, ap, subst, arith, inl, inr, length, reverse, is_some, option_map}
use Rattle.std.specs.Prelude.{IsSome, slice_get, if◌then◌else◌}
use Rattle.std.specs.Map.{keys_of}
use Rattle.std.proofs.lemmas.Bool.{cases_lt}
use Rattle.std.proofs.lemmas.List.{reverse-append}
use Rattle.bits_ip.specs.Address.{family_of}
use Rattle.bits_ip.specs.Prefix.{Net}
use Rattle.bits_ip.specs.declared.address.Family.{Family}
use Rattle.attrs.specs.declared.attributes.Attrs.{Attrs}
use Rattle.attrs.specs.declared.journal.JEntry.{JEntry}
use Rattle.attrs.specs.declared.judge.Verdict.{Verdict}
use Rattle.attrs.specs.declared.route.Change.{Change}
use Rattle.attrs.specs.declared.route.Route.{Route}
use Rattle.export_core.specs.declared.exporter.Pushed.{Pushed}
use Rattle.export_core.specs.declared.exporter.Pushed.TheVariants as answers
use Rattle.export_core.specs.declared.log.Key.{Key}
use Rattle.export_core.specs.declared.log.LogItem.TheVariants.{Sent}
use Rattle.export_core.specs.declared.log.Sending.{Sending}
use Rattle.export_core.specs.declared.marks.Mark.{Mark}
use Rattle.export_core.specs.declared.passing.ExportSpec.{ExportSpec}
use Rattle.export_core.specs.Calls.{Pushes, PushesOut, Takes, ended}
use Rattle.export_core.specs.Histories.{change_of}
use Rattle.export_core.specs.Logs.{highest, stretch}
use Rattle.export_core.specs.Marks as exporter
use Rattle.export_core.specs.Passing.{passed}
use Rattle.export_core.specs.Standing.{is_open as is_log_open}
use Rattle.export_core.specs.States.{State, value_for}
use Rattle.core_machine.specs.Channels.{Channel, IsFed, closed, is_open, opened, push_one, take_one, taken}
use Rattle.core_machine.specs.Histories.{content_of, entry, front}
use Rattle.core_machine.specs.Marks.{Marked, find, marked_keys}
use Rattle.core_machine.specs.Match.{Matches, mark_of}
use Rattle.core_machine.specs.Pipes.{candidate, is_pipe, passes}
use Rattle.core_machine.specs.Rules.{Rules}
use Rattle.core_machine.proofs.Bound.{take_position}
use Rattle.core_machine.proofs.Contents.{entry_lt, if_true, none_some, some_same}
use Rattle.core_machine.proofs.Fed.{down_matches}
use Rattle.core_machine.proofs.MarkSteps.{find_here}
use Rattle.core_machine.proofs.Matching.{push_matches, quiet_enters, sent_enters, take_matches}
use Rattle.core_machine.proofs.OneChannel.{pipe_candidate, take_log}
use Rattle.run_tables.specs.Channels.{IsExporter, IsOfProtocol, TellsPush, cursor_of}
use Rattle.run_tables.specs.declared.table.Table.{Table}
use Rattle.run_tables.specs.Tables.{IsTable}
use Rattle.run_tables.proofs.Journals.{read_is, sourced_front, sourced_none}
use Rattle.run_tables.proofs.Runs.{push_highest, take_open}

module _ {J : Type 0} (verdict : J → Net → Route → Verdict) (rules : Rules) (c : ℕ) (h : List Change) where
  -- the log says of both whether they are up
  pub log_open : (e : State J) (ch : Channel) → reverse e.log ≡ ch.log → is_log_open e.log ≡ is_open ch
  log_open e ch same = ap (λ l. is_some (stretch l)) same

  pub same_family : (family : Option Family) (old new : ExportSpec) → new ≡ old → family ≡ Some old.family → family ≡ Some new.family
  same_family family old new same is = is ∙ ap (λ (spec : ExportSpec). Some spec.family) (sym same)

  -- ---- takes

  module _ (family : Family) (t : Table) (pos : ℕ) (e : State J) (ch : Channel) (is : IsTable rules family h t) (up : is_open ch ≡ true) (here : e.position ≡ pos) (m : IsExporter verdict rules c (Some family) h e ch) where
    place : pos ≡ ch.position
    place = sym here ∙ m.matches.like.resembles.position

    pub take_is : (read : JEntry) (e' : State J) → slice_get t.entries.items pos ≡ Some read → Takes (pos + 1) read e e'
        → IsExporter verdict rules c (Some family) h e' (take_one rules c h ch) × (Some (pos + 1) ≡ cursor_of (take_one rules c h ch))
    take_is read e' there takes =
        let at : slice_get t.entries.items ch.position ≡ Some read = subst (λ p. slice_get t.entries.items p ≡ Some read) place there in
        let next : entry ch.position h ≡ Some (change_of read) = read_is rules family h t is ch.position ∙ ap (option_map change_of) at in
        let now = take_one rules c h ch in (
          record {
            matches = take_matches verdict rules c h read e e' ch (pos + 1) up (ap (λ n. n + 1) (sym here)) (record { change = next; best = is.best ch.position read at }) takes m.matches;
            family_is = same_family (Some family) e.spec e'.spec takes.spec m.family_is;
            told = subst (λ l. highest l ≤ length h) (sym (take_log rules c h ch)) m.told;
          },
          ap (λ n. Some (n + 1)) place ∙ ap Some (sym (take_position rules c h ch (entry_lt ch.position h (change_of read) next))) ∙ sym (if_true (is_open now) (Some now.position) None (take_open rules c h ch ∙ up)),
        )

    pub end_is : slice_get t.entries.items pos ≡ None → IsExporter verdict rules c (Some family) h e (take_one rules c h ch) × (Some pos ≡ cursor_of (take_one rules c h ch))
    end_is none =
        let over : entry ch.position h ≡ None = read_is rules family h t is ch.position ∙ ap (option_map change_of) (subst (λ p. slice_get t.entries.items p ≡ None) place none) in
        let stays : take_one rules c h ch ≡ ch = ap (λ o. taken rules c o ch) over in (
          subst (IsExporter verdict rules c (Some family) h e) (sym stays) m,
          ap Some place ∙ sym (if_true (is_open ch) (Some ch.position) None up) ∙ ap cursor_of (sym stays),
        )

    -- the net of what is read is of the table's family
    pub take_family : (read : JEntry) → slice_get t.entries.items pos ≡ Some read → family_of read.net.addr ≡ e.spec.family
    take_family read there = is.families pos read there ∙ some_same m.family_is

  -- ---- pushes

  push_spec : (answer : Pushed) (told told' : Option (List Sending)) (e e' : State J) → Pushes verdict e e' told told' answer → e'.spec ≡ e.spec
  push_spec answers.Nothing told told' e e' p = ap (λ (e : State J). e.spec) p.1
  push_spec answers.Quiet told told' e e' p = p.2.pops.spec
  push_spec answers.Sent told told' e e' p = p.2.pops.spec

  pub push_is : (family : Option Family) (answer : Pushed) (told told' : Option (List Sending)) (e e' : State J) (ch : Channel) → Pushes verdict e e' told told' answer → IsExporter verdict rules c family h e ch → IsExporter verdict rules c family h e' (push_one rules c h ch)
  push_is family answer told told' e e' ch p m = record {
    matches = push_matches verdict rules c h answer told told' e e' ch p m.matches;
    family_is = same_family family e.spec e'.spec (push_spec answer told told' e e' p) m.family_is;
    told = push_highest rules c h (length h) ch (λ x more e. m.matches.like.within.marks x.key x (ap (find x.key) e ∙ find_here x more)) m.told;
  }

  -- none is marked
  none_marked : (ms : List Marked) → marked_keys ms ≡ [] → ms ≡ []
  none_marked [] e = refl
  none_marked (m ∷ ms) e = absurd (let bad : m.key ∷ marked_keys ms ≡ [] = e in cc)

  some_marked : (ms : List Marked) (k : Key) → slice_get (marked_keys ms) 0 ≡ Some k → 1 ≤ length ms
  some_marked [] k e = absurd (none_some e)
  some_marked (m ∷ ms) k e = omega arith

  pub marks_end : (family : Option Family) (e : State J) (ch : Channel) → IsExporter verdict rules c family h e ch → e.marks ≡ [] → ch.marks ≡ []
  marks_end family e ch m none = none_marked ch.marks (sym m.matches.like.resembles.order ∙ ap keys_of none)

  marks_begin : (family : Option Family) (e : State J) (ch : Channel) (k : Key) → IsExporter verdict rules c family h e ch → slice_get (keys_of e.marks) 0 ≡ Some k → 1 ≤ length ch.marks
  marks_begin family e ch k m first = some_marked ch.marks k (ap (λ l. slice_get l 0) (sym m.matches.like.resembles.order) ∙ first)

  -- a value that a direction of a pipe sends is of a protocol
  module _ (family : Family) (t : Table) (is : IsTable rules family h t) (e : State J) (ch : Channel) (m : IsExporter verdict rules c (Some family) h e ch) where
    candidate_of : (k : Key) (p : ℕ) → is_pipe rules c ≡ true → IsSome (candidate rules c k (front p h)) → k.num < rules.protocols
    candidate_of k p pipe some = elim (cases_lt k.num rules.protocols) [
      | inl w ↦ w
      | inr w ↦ absurd (let none = sourced_none rules (front p h) (sourced_front rules h p is.sources) k.net k.num w in
          no_candidate (passes rules c k.num) (subst IsSome (pipe_candidate rules c k (content_of (front p h)) pipe ∙ ap (λ o. if passes rules c k.num then o else None) none) some))
    ] where
      no_candidate : (b : Bool) → IsSome (let o : Option Route = if b then None else None in o) → ⊥
      no_candidate true bad = let no : false ≡ true = bad in cc
      no_candidate false bad = let no : false ≡ true = bad in cc

    marked_of : (k : Key) (mark : Mark) → is_pipe rules c ≡ true → exporter.find k e.marks ≡ Some mark → IsSome mark.candidate → k.num < rules.protocols
    marked_of k mark pipe there some = on (find k ch.marks) (sym (m.matches.like.resembles.marks k) ∙ there) where
      on : (o : Option Marked) → option_map (mark_of rules c h k) o ≡ Some mark → k.num < rules.protocols
      on None f = absurd (none_some f)
      on (Some x) f = candidate_of k x.at pipe (subst IsSome (ap (λ (y : Mark). y.candidate) (sym (some_same f))) some)

    passed_some : (value : Key → Route → Option Attrs) (k : Key) (o : Option Route) → IsSome (passed value k o) → IsSome o
    passed_some value k None some = some
    passed_some value k (Some r) some = refl

    pub sent_of : (mark : Mark) (x : Sending) (e' : State J) → PushesOut verdict mark x e e' → IsOfProtocol rules c x
    sent_of mark x e' p pipe some = marked_of x.key mark pipe p.pops.mark (passed_some (value_for verdict e) x.key mark.candidate (subst IsSome p.value some))

    pub push_tells : (marked : (k : Key) → IsSome (exporter.find k e.marks) → family_of k.net.addr ≡ e.spec.family) (answer : Pushed) (told told' : Option (List Sending)) (e' : State J) → Pushes verdict e e' told told' answer → TellsPush rules c family h e.log e'.log ch answer
    push_tells marked answers.Nothing told told' e' p = marks_end (Some family) e ch m p.0
    push_tells marked answers.Quiet told told' e' p = (marks_begin (Some family) e ch p.0 m p.2.pops.first, quiet_enters verdict rules c h p.0 p.1 e e' ch p.2 m.matches)
    push_tells marked answers.Sent told told' e' p = (
      marks_begin (Some family) e ch p.1.key m p.2.pops.first,
      p.1,
      ap reverse p.2.log ∙ reverse-append e.log (Sent p.1 ∷ []),
      sent_enters verdict rules c h p.0 p.1 e e' ch p.2 m.matches,
      sent_of p.0 p.1 e' p.2,
      marked p.1.key (ap (λ o. is_some o) p.2.pops.mark) ∙ sym (some_same m.family_is),
    )

  -- ---- stretches

  pub down_is : (family : Option Family) (e e' : State J) (ch : Channel) → e' ≡ ended e → IsExporter verdict rules c family h e ch → IsExporter verdict rules c family h e' (closed ch)
  down_is family e e' ch same m = subst (λ e. IsExporter verdict rules c family h e (closed ch)) (sym same) (record {
    matches = down_matches verdict rules c h e ch m.matches;
    family_is = m.family_is;
    told = m.told;
  })

  -- behind a feed
  pub fed_is : (family : Option Family) (due : Bool) (e e' : State J) (ch : Channel) (new : Channel) → family ≡ Some e.spec.family → e'.spec ≡ e.spec → highest ch.log ≤ length h → IsFed rules c h due ch new → Matches verdict rules c h e' new → IsExporter verdict rules c family h e' new
  fed_is family due e e' ch new was same told fed m = record {
    matches = m;
    family_is = same_family family e.spec e'.spec same was;
    told = subst (λ (c : Channel). highest c.log ≤ length h) (sym fed.2) told;
  }

  pub opened_told : (ch : Channel) → highest ch.log ≤ length h → highest (opened (length h) ch).log ≤ length h
  opened_told ch told = omega (arith, told)
