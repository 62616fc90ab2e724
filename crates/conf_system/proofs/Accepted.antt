-- In what is accepted each channel's table is there, and is of the channel's family.
use Rattle.std.proofs.Common.{◌≡◌, ◌∙◌, sym, ap, subst, refl, List, [], ◌∷◌, ◌++◌, ℕ, Option, Some, None}
use Rattle.std.proofs.lemmas.Option.{none-some}
use Rattle.conf_ast.specs.Configurations as conf
use Rattle.conf_names.specs.declared.refusal.Refusal.{Refusal}
use Rattle.conf_names.specs.Known.{Known}
use Rattle.conf_names.specs.Refusals.{first_in}
use Rattle.conf_rules.specs.Statements.{refusals}
use Rattle.conf_check.specs.Behind.{at_start, behind, behind_one}
use Rattle.conf_check.specs.Checked.{Source, filter_sources, protocol_name}
use Rattle.conf_check.specs.Refused.{or_later, refusal_of}
use Rattle.conf_check.proofs.Allowed.{none_refused}
use Rattle.conf_system.specs.Policies.{says}
use Rattle.conf_system.specs.System.{Body, Protocol, System, body_of, names_in, protocols_behind, system_in, with_body}
use Rattle.conf_system.specs.Tables.{AllFit, Tables}
use Rattle.conf_system.specs.Texts.{IsSystem, refused_in}
use Rattle.conf_system.proofs.TablesThere.{StatementFits, all_grow, body_fits, fits_more, masters_first}

-- nothing is refused, first or later
pub neither : (first later : Option Refusal) → or_later first later ≡ None → (first ≡ None) × (later ≡ None)
neither None later is = (refl, is)
neither (Some r) later is = absurd (none-some r (sym is))

pub behind_push : (known : Known) (ds : List conf.Declaration) (d : conf.Declaration) → behind known (ds ++ d ∷ []) ≡ behind_one (behind known ds) d
behind_push known [] d = refl
behind_push known (x ∷ ds) d = behind_push (behind_one known x) ds d

-- what a statement says of a protocol, and those behind it
next_fits : (tables : Tables) (name : List ℕ) (body : Option Body) (rest : List Protocol) → StatementFits tables body → AllFit tables rest → AllFit tables (with_body name body rest)
next_fits tables name None rest fits others = others
next_fits tables name (Some body) rest fits others = (fits, others)

module _ (text : List ℕ) (names : List (List ℕ)) (filters : List Source) (tables : Tables) where
  behind_fit : (before ds : List conf.Declaration) → refusal_of (behind (at_start text) before) ds ≡ None → tables ≡ (behind (behind (at_start text) before) ds).tables
      → AllFit tables (protocols_behind text names filters before ds)
  behind_fit before [] accepted are = tt
  behind_fit before (d ∷ ds) accepted are =
      let known = behind (at_start text) before in
      let masters = masters_first text before in
      let grown = all_grow known (d ∷ ds) in
      let none = neither (first_in None (refusals known d)) (refusal_of (behind_one known d) ds) accepted in
      let fine = none_refused (refusals known d) none.0 in
      let next = behind_push (at_start text) before d in
      next_fits tables (protocol_name known d) (body_of (says text names filters before) known d) (protocols_behind text names filters (before ++ d ∷ []) ds)
      (fits_more known.tables tables grown.0 (body_of (says text names filters before) known d) (are ∙ grown.1) (body_fits (says text names filters before) known masters.0 masters.1 d fine))
      (behind_fit (before ++ d ∷ []) ds (ap (λ (k : Known). refusal_of k ds) next ∙ none.1) (are ∙ ap (λ (k : Known). (behind k ds).tables) (sym next)))

accepted_fit : (text : List ℕ) (ds : List conf.Declaration) → refused_in text ds ≡ None → AllFit (system_in text ds).tables (system_in text ds).protocols
unfolding refused_in system_in
accepted_fit text ds accepted = behind_fit text (names_in text ds) (filter_sources [] ds) (behind (at_start text) ds).tables [] ds accepted refl

pub all_fit : (text : List ℕ) (system : System) → IsSystem text system → AllFit system.tables system.protocols
all_fit text system is = subst (λ (s : System). AllFit s.tables s.protocols) (sym is.2) (accepted_fit text is.0 is.1.accepted)
