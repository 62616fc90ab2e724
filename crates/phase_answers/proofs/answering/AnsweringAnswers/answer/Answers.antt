use Rattle.std.proofs.Common.{◌≡◌, ◌<◌, List, length, map, Option, sym, ap, subst, ◌∙◌, arith, ℕ}
use Rattle.std.specs.Prelude.{option_copied, option_map}
use Rattle.std.proofs.lemmas.List.{length-map}
use denote.Bor.{Bor}
use Rattle.export_core.specs.declared.passing.Through.{Through}
use Rattle.core_setup.specs.Setup.{Exports}
use Rattle.core_setup.specs.Queries.{choice_of, sends_of}
use Rattle.core_setup.specs.Reports.{protocol_names, table_name}
use Rattle.show_route.specs.Senders.{sender_of}
use Rattle.show_route.specs.Shown.{Sender}
use Rattle.show_route.specs.Views.{IsView}
use Rattle.sys_run.specs.Parts.{protocol_seen, setup_seen, table_seen}
use Rattle.phase_answers.specs.declared.lent.Lent.{Lent}
use Rattle.phase_answers.proofs.Named.{answered, choice_there, export_there, names_seen}
use Rattle.phase_answers.proofs.answering.AnsweringAnswers.answer.Goals as goal

pub table_named-table-requires : goal.table_named-table-requires
table_named-table-requires g c =
    let fits : c.args.query.now.table < length (map table_seen c.args.self.now.tables.now) = c.requires.fits.table in
    let same = length-map c.args.self.now.tables.now table_seen in omega (arith, fits, same)

pub answer_query-requires-clause-view : goal.answer_query-requires-clause-view
answer_query-requires-clause-view g c = (
  c.requires.view.0,
  subst (λ rows. IsView c.args.query.now.pick rows c.args.total c.requires.view.0) (sym (c.as_slice.ensures.value ∙ c.in_ok-lent.ensures)) c.requires.view.1,
)

pub answer_query-requires-clause-choice : goal.answer_query-requires-clause-choice
answer_query-requires-clause-choice g c =
    let says = g.J.Judge.verdict in
    choice_there says (map says c.args.self.now.choices.now) c.args.query.now.choice c.choice_named-choice.result c.requires.fits.choice c.choice_named-choice.ensures

pub answer_query-requires-clause-export : goal.answer_query-requires-clause-export
answer_query-requires-clause-export g c =
    let says = g.J.Judge.verdict in
    let sent : Through (Lent g.row.J.Denot) → Sender = λ through. sender_of through.spec (says through.judge.judge.now) in
    export_there c.args.query.now.table (map (protocol_seen says) c.args.self.now.protocols.now) sent c.args.query.now.export c.in_ok-export.export c.as_ref.result c.requires.fits.export
    (c.in_ok-export.ensures ∙ ap (option_map (λ (e : Exports). sender_of e.spec e.filter)) c.channel_named.ensures) c.as_ref.ensures.value

pub returns : goal.returns
returns g c =
    let says = g.J.Judge.verdict in
    let self = c.args.self.now in
    let query = c.args.query.now in
    let setup = setup_seen says self.tables.now self.protocols.now self.cells self.choices.now self.queries.now in
    let sent : Through (Lent g.row.J.Denot) → Sender = λ through. sender_of through.spec (says through.judge.judge.now) in
    answered (map (λ (name : Bor (List ℕ)). name.now) c.deref.result.now) (protocol_names setup) c.table_named-table.result.now (table_name setup query.table) (option_map says (option_copied c.choice_named-choice.result)) (choice_of setup query)
    (option_map sent (option_copied c.as_ref.result)) (sends_of setup query) query c.as_slice.result.now c.args.rows.now c.args.total c.answer_query.result
    (ap (map (λ (name : Bor (List ℕ)). name.now)) c.deref.ensures.value ∙ c.in_ok-names.ensures ∙ names_seen says self.protocols.now) c.table_named-table.ensures c.choice_named-choice.ensures
    (ap (option_map sent) c.as_ref.ensures.value ∙ c.in_ok-export.ensures ∙ ap (option_map (λ (e : Exports). sender_of e.spec e.filter)) c.channel_named.ensures) (c.as_slice.ensures.value ∙ c.in_ok-lent.ensures) c.answer_query.ensures
