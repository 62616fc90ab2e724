-- What a text is that answers a query over a content (`IsAnswer`), and that an actor was told it of
-- what its pass of the query's table had then seen (`IsText`).
-- Not modelled: who asked, and in which line (specs/Acting).
-- From: own.
-- Example: a text that was told at position 3 answers its query over the first three entries,
-- though the pass has seen five by now.
use Rattle.std.specs.Prelude.{◌≡◌, ℕ, List, Some, slice_get}
use Rattle.attrs.specs.History.{Content}
use Rattle.show_route.specs.Shown.{IsReply}
use Rattle.show_route.specs.declared.query.Query.{Query}
use Rattle.jour.specs.Seats.{head_of}
use Rattle.core_setup.specs.Queries.{choice_of, sends_of}
use Rattle.core_setup.specs.Reports.{protocol_names, table_name}
use Rattle.core_setup.specs.Setup.{Setup}
use Rattle.table_shared.specs.Answers.{InSeen}
use Rattle.phase_legal.specs.Shown.{IsGrown, PassView}
use Rattle.phase_actors.specs.declared.actor.Told.{Told}

-- what is played answers a query so over the content of its table
abbrev pub IsAnswer : Setup → Query → Content → List ℕ → Type 0
IsAnswer setup query content text =
    IsReply (protocol_names setup) (table_name setup query.table) query (choice_of setup query)
    (sends_of setup query) content text

-- The text answers the query of its number over what the pass of the query's table had seen at the
-- position, and the pass has only seen more since.
pub record IsText (setup : Setup) (passes : List PassView) (told : Told) : Type 0 where
  pub query : Query
  pub query_is : slice_get setup.queries told.query ≡ Some query
  pub table : query.table ≡ told.table
  pub pass_then : PassView
  pub pass : PassView
  pub pass_at : slice_get passes told.table ≡ Some pass
  pub grown : IsGrown pass_then pass
  pub position : told.at ≡ head_of pass_then.1
  pub text : InSeen pass_then.1 (λ content. IsAnswer setup query content told.text.items)
