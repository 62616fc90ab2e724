-- The hands of a session's turns (`HandsView`), and what is left of the session with them
-- (`IsLeftOf`); of a list that one place alone is changed (`AreOthers`).
-- From: own.
-- Example: with two actors a session has three hands, the last one for starts.
use Rattle.std.specs.Prelude.{◌≡◌, ℕ, List, length, slice_get}
use Rattle.std.specs.declared.alloc.Global.{Global}
use Rattle.std.specs.declared.vec.Vec.{Vec}
use Rattle.attrs.specs.declared.judge.Verdict.{Verdict}
use Rattle.attrs.specs.declared.route.Route.{Route}
use Rattle.bits_ip.specs.Prefix.{Net}
use Rattle.core_setup.specs.Setup.{Exports}
use Rattle.phase_legal.specs.Shown.{HandView}
use Rattle.import_lock.specs.Terms.{PhaseTerms}
use Rattle.phase_room.specs.Sessions.{channel_terms, protocol_terms}
use Rattle.phase_room.specs.declared.session.Session.{Session}
use Rattle.phase_close.specs.Left.{IsSessionLeft}
use Rattle.phase_close.specs.declared.session.SessionLeft.{SessionLeft}

-- hands of a protocol's turns
abbrev pub HandsView : Type 0
HandsView = Vec HandView Global

-- all places but one are as they were
pub record AreOthers {X : Type 0} (place : ℕ) (old new : List X) : Type 0 where
  pub count : length new ≡ length old
  pub each : (k : ℕ) → (k ≡ place → ⊥) → slice_get new k ≡ slice_get old k

module _ {J P : Type 0} (terms : P → PhaseTerms) where
  module _ (exports : P → ℕ → Exports) where
    module _ (verdict : J → Net → Route → Verdict) where
      pub record IsLeftOf
          (session : Session J P) (hands : HandsView) (left : SessionLeft J)
          : Type 0 where
        pub table : left.table ≡ session.table
        pub left_is :
            IsSessionLeft verdict (protocol_terms terms session) (channel_terms exports session)
            hands.items left
