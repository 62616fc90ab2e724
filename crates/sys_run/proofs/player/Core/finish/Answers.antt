use Rattle.std.proofs.Common.{◌≡◌, ℕ, ◌+◌, List, [], length, Some, sym, ap, subst, ◌∙◌}
use Rattle.std.specs.Prelude.{slice_get}
use Rattle.std.specs.declared.alloc.Global.{Global}
use Rattle.std.specs.declared.vec.Vec.{Vec}
use Rattle.core_setup.specs.Pairs.{Pairs}
use Rattle.core_setup.proofs.PairLemmas.{pairs_length}
use Rattle.run_tables.specs.declared.channel.Channel.{Channel}
use Rattle.run_tables.specs.declared.table.Table.{Table}
use Rattle.sys_run.specs.Phase.{AreHeads, AreLogged, AreOfTables, IsEmptied, IsExportOf, IsJournalOf, IsLogOf, IsModeOf, IsOperationsOf, IsTableOf, told}
use Rattle.sys_run.specs.declared.parts.TableParts.{TableParts}
use Rattle.sys_run.specs.declared.player.Answered.{Answered}
use Rattle.sys_run.specs.declared.protocol.Protocol.{Protocol}
use Rattle.sys_run.proofs.Ending.{channels_many, heads_are, logged_are, names_many, replies_within, tables_many}
use Rattle.sys_run.proofs.Reporting.{exports_reported, journals_reported, logs_reported, modes_reported, operations_reported, printed, prints, replies_reported, rests, tables_reported}
use Rattle.sys_run.proofs.player.Core.finish.Goals as goal

pub number_behind-number-requires : goal.number_behind-number-requires
number_behind-number-requires g c = c.requires.few

pub report_operations-requires : goal.report_operations-requires
report_operations-requires g c =
    let r = c.requires in
    ap length c.deref.ensures.value ∙ names_many g.J.Judge.verdict r.setup r.past r.s c.args.self.now r.core_is

pub report_journals-requires-clause-parts : goal.report_journals-requires-clause-parts
report_journals-requires-clause-parts g c =
    let r = c.requires in
    ap length c.deref-2.ensures.value ∙ tables_many g.J.Judge.verdict r.setup r.past r.s c.args.self.now r.core_is ∙ sym (ap length c.deref-3.ensures.value)

pub report_journals-requires-clause-heads : goal.report_journals-requires-clause-heads
report_journals-requires-clause-heads g c =
    let r = c.requires in
    subst (λ (tables : List Table). AreHeads tables c.deref-4.result.now) (sym c.deref-3.ensures.value)
    (subst (λ (heads : List ℕ). AreHeads c.args.self.now.routes.tables.items heads) (sym c.deref-4.ensures.value)
    (heads_are g.J.Judge.verdict r.setup r.past r.s c.args.self.now r.core_is c.args.begun.now r.began))

pub report_logs-requires-clause-names : goal.report_logs-requires-clause-names
report_logs-requires-clause-names g c =
    let r = c.requires in
    ap length c.deref-5.ensures.value ∙ channels_many g.J.Judge.verdict r.setup r.past r.s c.args.self.now r.core_is ∙ sym (ap length c.deref-6.ensures.value)

pub report_logs-requires-clause-logged : goal.report_logs-requires-clause-logged
report_logs-requires-clause-logged g c =
    let r = c.requires in
    subst (λ (channels : List (Channel g.row.J.Denot)). AreLogged channels c.deref-7.result.now) (sym c.deref-6.ensures.value)
    (subst (λ (logged : List ℕ). AreLogged c.args.self.now.routes.channels.items logged) (sym c.deref-7.ensures.value)
    (logged_are g.J.Judge.verdict r.setup r.past r.s c.args.self.now r.core_is c.args.begun.now r.began))

pub report_replies-requires-clause-actors : goal.report_replies-requires-clause-actors
report_replies-requires-clause-actors g c =
    ap (λ (held : Vec (Vec Answered Global) Global). length held.items) c.replace-answered.ensures.value ∙ c.requires.replies

pub report_replies-requires-clause-tables : goal.report_replies-requires-clause-tables
report_replies-requires-clause-tables g c = λ a held e.
    let r = c.requires in
    let there : slice_get c.args.self.now.replies.items a ≡ Some held =
    ap (λ (v : Vec (Vec Answered Global) Global). slice_get v.items a) (sym c.replace-answered.ensures.value) ∙ e in
    subst (λ n. AreOfTables n held.items) (sym (ap length c.deref-8.ensures.value)) (replies_within g.J.Judge.verdict r.setup r.past r.s c.args.self.now r.core_is a held there)

pub report_tables-requires : goal.report_tables-requires
report_tables-requires g c =
    let r = c.requires in
    ap length c.deref-9.ensures.value ∙ tables_many g.J.Judge.verdict r.setup r.past r.s c.args.self.now r.core_is ∙ sym (ap length c.deref-10.ensures.value)

pub report_modes-requires : goal.report_modes-requires
report_modes-requires g c =
    let r = c.requires in
    ap length c.deref-11.ensures.value ∙ names_many g.J.Judge.verdict r.setup r.past r.s c.args.self.now r.core_is
    ∙ pairs_length IsEmptied 0 c.args.self.now.protocols.items c.report_operations.new.protocols.items c.in_ok-protocols.ensures.emptied ∙ sym (ap length c.deref-12.ensures.value)

pub report_exports-requires : goal.report_exports-requires
report_exports-requires g c =
    let r = c.requires in
    ap length c.deref-13.ensures.value ∙ channels_many g.J.Judge.verdict r.setup r.past r.s c.args.self.now r.core_is ∙ sym (ap length c.deref-14.ensures.value)

pub returns-clause-report : goal.returns-clause-report
returns-clause-report g c = λ setup past s are at len.
    let v = g.J.Judge.verdict in
    let core = c.args.self.now in
    let begun = c.args.begun.now in
    let protocols = subst (λ (names : List (List ℕ)). Pairs (IsOperationsOf names) 0 core.protocols.items c.in_ok-protocols.protocols) c.deref.ensures.value c.in_ok-protocols.ensures.reports in
    let journals =
    subst (λ (parts : List TableParts). Pairs (IsJournalOf parts begun.heads.items) 0 core.routes.tables.items c.in_ok-journals.journals) c.deref-2.ensures.value
    (subst (λ (tables : List Table). Pairs (IsJournalOf c.deref-2.result.now begun.heads.items) 0 tables c.in_ok-journals.journals) c.deref-3.ensures.value
    (subst (λ (heads : List ℕ). Pairs (IsJournalOf c.deref-2.result.now heads) 0 c.deref-3.result.now c.in_ok-journals.journals) c.deref-4.ensures.value c.in_ok-journals.ensures)) in
    let logs =
    subst (λ (names : List (List ℕ)). Pairs (IsLogOf names begun.logged.items) 0 core.routes.channels.items c.in_ok-channels.channels) c.deref-5.ensures.value
    (subst (λ (channels : List (Channel g.row.J.Denot)). Pairs (IsLogOf c.deref-5.result.now begun.logged.items) 0 channels c.in_ok-channels.channels) c.deref-6.ensures.value
    (subst (λ (logged : List ℕ). Pairs (IsLogOf c.deref-5.result.now logged) 0 c.deref-6.result.now c.in_ok-channels.channels) c.deref-7.ensures.value c.in_ok-channels.ensures)) in
    let replies =
    c.in_ok-replies.ensures
    ∙ ap (λ (parts : List TableParts). told parts c.args.actors.now c.replace-answered.result.items) c.deref-8.ensures.value
    ∙ ap (λ (held : Vec (Vec Answered Global) Global). told core.tables.items c.args.actors.now held.items) c.replace-answered.ensures.value in
    let tables =
    subst (λ (parts : List TableParts). Pairs (IsTableOf parts) 0 core.routes.tables.items c.in_ok-tables.tables) c.deref-9.ensures.value
    (subst (λ (tables : List Table). Pairs (IsTableOf c.deref-9.result.now) 0 tables c.in_ok-tables.tables) c.deref-10.ensures.value c.in_ok-tables.ensures) in
    let emptied = c.report_operations.new.protocols in
    let modes =
    subst (λ (names : List (List ℕ)). Pairs (IsModeOf names) 0 emptied.items c.in_ok-modes.modes) c.deref-11.ensures.value
    (subst (λ (held : List (Protocol g.row.J.Denot)). Pairs (IsModeOf c.deref-11.result.now) 0 held c.in_ok-modes.modes) c.deref-12.ensures.value c.in_ok-modes.ensures) in
    let exports =
    subst (λ (names : List (List ℕ)). Pairs (IsExportOf v names) 0 core.routes.channels.items c.in_ok-exports.exports) c.deref-13.ensures.value
    (subst (λ (channels : List (Channel g.row.J.Denot)). Pairs (IsExportOf v c.deref-13.result.now) 0 channels c.in_ok-exports.exports) c.deref-14.ensures.value c.in_ok-exports.ensures) in
    let forgotten = c.in_ok-protocols.ensures.emptied in
    let none : c.replace-answered.new.dest.items ≡ [] = ap (λ (held : Vec (Vec Answered Global) Global). held.items) c.replace-answered.ensures.after ∙ c.new.ensures.items in (
      printed v setup past s core are,
      prints v setup past s core are,
      record {
        number_is = c.number_behind-number.ensures;
        protocols = operations_reported v setup past s core are c.in_ok-protocols.protocols protocols;
        journals = journals_reported v setup past s core are begun c.in_ok-journals.journals at journals;
        channel_logs = logs_reported v setup past s core are begun c.in_ok-channels.channels at logs;
        replies = replies_reported v setup past s core are c.args.actors.now c.in_ok-replies.replies len replies;
        tables = tables_reported v setup past s core are c.in_ok-tables.tables tables;
        modes = modes_reported v setup past s core are emptied.items c.in_ok-modes.modes forgotten modes;
        exports = exports_reported v setup past s core are c.in_ok-exports.exports exports;
      },
      rests v setup past s core are emptied c.replace-answered.new.dest c.number_behind-number.result forgotten none c.number_behind-number.ensures,
    )
