-- What has gone on by turns that leave its marks.
use Rattle.std.proofs.Common.{◌≡◌, ℕ, List, length, Some, None, sym, ap, subst, ◌∙◌}
use Rattle.std.specs.Prelude.{Option, slice_get}
use Rattle.atomic_table.specs.Seated.{TableId}
use Rattle.attrs.specs.declared.judge.Verdict.{Verdict}
use Rattle.attrs.specs.declared.route.Route.{Route}
use Rattle.attrs.specs.declared.route.Src.{Src}
use Rattle.bits_ip.specs.Prefix.{Net}
use Rattle.core_setup.proofs.PairLemmas.{get_one, get_within}
use Rattle.import_core.specs.declared.operation.Op.{Op}
use Rattle.jour_rule.specs.Laws.{AreOfMakers}
use Rattle.jour_rule.specs.declared.views.Terms.{Terms}
use Rattle.jour.specs.Seats.{front}
use Rattle.table_shared.specs.Opening.{TableOpening}
use Rattle.phase_legal.specs.Shown.{HandView}
use Rattle.export_lock.specs.Kept.{LeavesFlush}
use Rattle.export_lock.specs.Lanes.{LaneTerms}
use Rattle.export_lock.specs.LaneTurns.{AreSources}
use Rattle.export_lock.specs.declared.lane.PipeLane.{PipeLane}
use Rattle.export_lock.specs.declared.state.ExportState.{ExportState}
use Rattle.pipe_lock.specs.Terms.{DirectionTerms, PipeTerms, ops_told}
use Rattle.phase_pipes.specs.Sessions.{IsDirectionIn}
use Rattle.phase_close.specs.Closed.{AreLater, IsLater}
use Rattle.phase_close.specs.declared.session.SessionLeft.{SessionLeft}
use Rattle.phase_close.proofs.Ending.{later_over}
use Rattle.pipe_close.specs.Ended.{IsPipeOver}
use Rattle.pipe_close.specs.Left.{ArePipeTurns, IsLaneLeft, IsPipeLeft, PipeLocks}
use Rattle.pipe_close.specs.declared.close.PipeLeft.{PipeLeft}
use Rattle.pipe_turns.specs.Turns.{CanTurn, KeepsLane}
use Rattle.pipe_rest.specs.Heads.{IsAmong}
use Rattle.pipe_rest.specs.Later.{CanSettle, IsLaterMember, IsLaterPipe, PipeCanSettle}
use Rattle.pipe_rest.specs.declared.member.MemberLeft.{MemberLeft}
use Rattle.pipe_rest.specs.declared.member.MemberLeft.TheVariants.{Own, Pipe}

module _ {J : Type 0} (verdict : J → Net → Route → Verdict) where
  -- ---- a channel

  are_later : (a b c : Option (ExportState J)) → AreLater verdict a b → AreLater verdict b c → AreLater verdict a c
  are_later None None None first then = tt
  are_later None None (Some c) first then = absurd then
  are_later None (Some b) c first then = absurd first
  are_later (Some a) None c first then = absurd first
  are_later (Some a) (Some b) None first then = absurd then
  are_later (Some a) (Some b) (Some c) first then = (λ every key o. then.0 every key (first.0 every key o), then.1 ∙ first.1)

  later_then : (a b c : SessionLeft J) → IsLater verdict a b → IsLater verdict b c → IsLater verdict a c
  later_then a b c first then = record {
    table = then.table ∙ first.table;
    importer = then.importer ∙ first.importer;
    ops = then.ops ∙ first.ops;
    port = then.port ∙ first.port;
    channel = are_later a.channel b.channel c.channel first.channel then.channel;
  }

  module _ (sources : List Src) where
    -- ---- a direction

    leaves_then : (a b c : ExportState J) → LeavesFlush a b → LeavesFlush b c → LeavesFlush a c
    leaves_then a b c first then = record {
      flushing = then.flushing ∙ first.flushing;
      stays = λ goes.
          let was = first.stays goes in
          let is = then.stays (first.flushing ∙ goes) in
          (is.0 ∙ was.0, is.1 ∙ was.1);
    }

    keeps_then : (a b c : PipeLane J) → KeepsLane verdict sources a b → KeepsLane verdict sources b c → KeepsLane verdict sources a c
    keeps_then a b c first then = record {
      kept = λ key done are o. then.kept key done are (first.kept key done are o);
      goes = λ every key o. then.goes every key (first.goes every key o);
      flush = leaves_then a.state b.state c.state first.flush then.flush;
      marks = then.marks ∙ first.marks;
    }

    module _ (pipe : PipeTerms) (direction : DirectionTerms) (key : LaneTerms) (ops : List Op) (are : AreSources key sources) where
      lane_left : (old new : PipeLane J) → KeepsLane verdict sources old new → IsLaneLeft verdict pipe direction key ops old → IsLaneLeft verdict pipe direction key ops new
      lane_left old new keeps left = record {
        stamp = left.stamp;
        marked = left.marked;
        lane_is = (left.lane_is.0, keeps.kept key left.lane_is.0 are left.lane_is.1);
        rest = keeps.flush.flushing ∙ left.rest;
        told = left.told ∙ ap (λ m. front m.1) (sym keeps.marks);
        makers = subst (λ m. AreOfMakers key.exports.marks.1.opening (front m.1)) (sym keeps.marks) left.makers;
      }

      -- it can do turns over the tables of its numbers
      lane_can : (tables : List (TableId × Terms TableOpening)) (reads writes : ℕ) (lane : PipeLane J) (r w : TableId × Terms TableOpening) → IsLaneLeft verdict pipe direction key ops lane → IsDirectionIn pipe tables reads writes direction key
          → slice_get tables reads ≡ Some r → slice_get tables writes ≡ Some w → CanTurn verdict r w sources lane
      lane_can tables reads writes lane r w left is at there = record {
        held = record { done = left.lane_is.0; key = key; lane_is = left.lane_is.1; sources_are = are };
        reads_is = left.lane_is.1.direction.exporting.here ∙ is.lane_is.table ∙ get_one tables reads direction.table r is.read at;
        writes_is = left.lane_is.1.port ∙ get_one tables writes key.target w is.written there;
      }

    -- ---- a pipe

    module _ (key : PipeLocks) (hands : List HandView) (old new : PipeLeft J) (later : IsLaterPipe verdict sources old new) (out_are : AreSources key.out sources) (back_are : AreSources key.back sources) where
      pub pipe_left : IsPipeLeft verdict key hands old → IsPipeLeft verdict key hands new
      pipe_left left =
          let ops = ops_told key.pipe left.list in
          record {
            list = left.list;
            turns = subst (λ z. ArePipeTurns key.pipe left.list hands z.items) (sym later.ops) left.turns;
            up = later.up ∙ left.up;
            out = lane_left key.pipe key.pipe.out key.out ops out_are old.out new.out later.out left.out;
            back = lane_left key.pipe key.pipe.back key.back ops back_are old.back new.back later.back left.back;
          }

      pub pipe_over : (tables : List (TableId × Terms TableOpening)) → IsPipeOver verdict tables key hands old → IsPipeOver verdict tables key hands new
      pipe_over tables over = record {
        left_is = pipe_left over.left_is;
        out_is =
            subst (λ n. IsDirectionIn key.pipe tables n new.peer key.pipe.out key.out) (sym later.primary)
            (subst (λ n. IsDirectionIn key.pipe tables old.primary n key.pipe.out key.out) (sym later.peer) over.out_is);
        back_is =
            subst (λ n. IsDirectionIn key.pipe tables n new.primary key.pipe.back key.back) (sym later.peer)
            (subst (λ n. IsDirectionIn key.pipe tables old.peer n key.pipe.back key.back) (sym later.primary) over.back_is);
      }

    pipe_then : (a b c : PipeLeft J) → IsLaterPipe verdict sources a b → IsLaterPipe verdict sources b c → IsLaterPipe verdict sources a c
    pipe_then a b c first then = record {
      primary = then.primary ∙ first.primary;
      peer = then.peer ∙ first.peer;
      up = then.up ∙ first.up;
      ops = then.ops ∙ first.ops;
      out = keeps_then a.out b.out c.out first.out then.out;
      back = keeps_then a.back b.back c.back first.back then.back;
    }

    module _ (tables : List (TableId × Terms TableOpening)) (pipe : PipeLeft J) (can : PipeCanSettle verdict tables sources pipe) (here there : TableId × Terms TableOpening) (at : slice_get tables pipe.primary ≡ Some here) (beyond : slice_get tables pipe.peer ≡ Some there) where
      pub out_can : CanTurn verdict here there sources pipe.out
      out_can =
          let l = can.over.left_is in
          lane_can can.key.pipe can.key.pipe.out can.key.out (ops_told can.key.pipe l.list) can.out_sources tables pipe.primary pipe.peer pipe.out here there l.out can.over.out_is at beyond

      pub back_can : CanTurn verdict there here sources pipe.back
      back_can =
          let l = can.over.left_is in
          lane_can can.key.pipe can.key.pipe.back can.key.back (ops_told can.key.pipe l.list) can.back_sources tables pipe.peer pipe.primary pipe.back there here l.back can.over.back_is beyond at

    -- ---- of either kind

    pub member_then : (a b c : MemberLeft J) → IsLaterMember verdict sources a b → IsLaterMember verdict sources b c → IsLaterMember verdict sources a c
    member_then (Own a) (Own b) (Own c) first then = later_then a b c first then
    member_then (Own a) (Own b) (Pipe c) first then = absurd then
    member_then (Own a) (Pipe b) c first then = absurd first
    member_then (Pipe a) (Own b) c first then = absurd first
    member_then (Pipe a) (Pipe b) (Own c) first then = absurd then
    member_then (Pipe a) (Pipe b) (Pipe c) first then = pipe_then a b c first then

    module _ (tables : List (TableId × Terms TableOpening)) where
      pub member_can : (a b : MemberLeft J) → IsLaterMember verdict sources a b → CanSettle verdict tables sources a → CanSettle verdict tables sources b
      member_can (Own a) (Own b) later can = (can.0, later_over verdict a b later tables can.0 can.1)
      member_can (Own a) (Pipe b) later can = absurd later
      member_can (Pipe a) (Own b) later can = absurd later
      member_can (Pipe a) (Pipe b) later can = record {
        key = can.key;
        hands = can.hands;
        over = pipe_over can.key can.hands a b later can.out_sources can.back_sources tables can.over;
        out_sources = can.out_sources;
        back_sources = can.back_sources;
      }

      -- its tables are there
      pub member_among : (a : MemberLeft J) → CanSettle verdict tables sources a → IsAmong (length tables) a
      member_among (Own a) can = get_within tables a.table can.0.protocol.port can.1.there
      member_among (Pipe a) can =
          let over = can.over in (
            get_within tables a.primary can.key.pipe.out.table over.out_is.read,
            get_within tables a.peer can.key.pipe.back.table over.back_is.read,
          )
