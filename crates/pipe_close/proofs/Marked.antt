-- What is left of a direction, once its stamp has ended.
use Rattle.std.proofs.Common.{◌≡◌, ℕ, List, [], ◌++◌, map, reverse, false, true, sym, ap, subst, ◌∙◌}
use Rattle.atomic_table.specs.Seated.{TableId}
use Rattle.attrs.specs.declared.judge.Verdict.{Verdict}
use Rattle.attrs.specs.declared.route.Route.{Route}
use Rattle.bits_ip.specs.Prefix.{Net}
use Rattle.import_core.specs.declared.operation.Op.{Op}
use Rattle.export_core.specs.declared.log.Key.{Key}
use Rattle.jour_rule.specs.Laws.{AreOfMakers}
use Rattle.jour_rule.specs.declared.views.View.{View as Seat}
use Rattle.jour.specs.Seats.{front, journal}
use Rattle.core_machine.specs.Signals.{without_sends}
use Rattle.phase_legal.specs.Stamps.{AreFrom, AreStamps, item_in, items_in, notices_from}
use Rattle.phase_legal.specs.Turns.{words_in}
use Rattle.import_lock.specs.Kept.{items_of_stamp}
use Rattle.export_lock.specs.Kept.{IsExporting}
use Rattle.export_lock.specs.Lanes.{IsLane, IsSomeLane, LaneTerms}
use Rattle.export_lock.specs.declared.lane.PipeLane.{PipeLane}
use Rattle.pipe_lock.specs.Kept.{IsMarked}
use Rattle.pipe_lock.specs.Terms.{DirectionTerms, PipeTerms, past_ops, rules_in}
use Rattle.pipe_close.specs.Left.{IsLaneLeft, IsStampTold}

module _ {J : Type 0} (verdict : J → Net → Route → Verdict) (key : LaneTerms) (lane : PipeLane J) (list : TableId × Seat ℕ) (of : journal list ≡ journal lane.state.marks) (same : front list.1 ≡ front lane.state.marks.1) where
  -- the same with another writer of these marks
  abbrev pub with_list : PipeLane J
  with_list = record { state = record { exporter = lane.state.exporter; cursor = lane.state.cursor; marks = list }; port = lane.port }

  exporting_still : IsExporting verdict true key.exports lane.state → IsExporting verdict true key.exports with_list.state
  exporting_still e = record {
    spec = e.spec;
    filter = e.filter;
    kind = e.kind;
    stays = e.stays;
    here = e.here;
    start = e.start;
    family = e.family;
    begun = e.begun;
    marks = of ∙ e.marks;
    makers = e.makers;
    cursors = e.cursors;
    marked = e.marked ∙ ap (λ z. items_in z ++ without_sends key.exports.log) (sym same);
    log = e.log;
    mode = e.mode;
    position = e.position;
    least = e.least;
    stands = e.stands;
  }

  lane_still : (done : List Key) → IsLane verdict done key lane → IsLane verdict done key with_list
  lane_still done l = record {
    terms = l.terms;
    direction = record { exporting = exporting_still l.direction.exporting; none = l.direction.none; stood = l.direction.stood };
    port = l.port;
    port_number = l.port_number;
    made = l.made;
    says = l.says;
    entered = l.entered;
  }

  pub lane_left : (stamp : TableId × Seat ℕ) → lane.state.exporter.flushing ≡ false → IsStampTold (front lane.state.marks.1) stamp → AreOfMakers lane.state.marks.1.seen.terms.opening (front lane.state.marks.1) → (pipe : PipeTerms) (direction : DirectionTerms) (ops : List Op) → IsMarked pipe direction ops stamp
      → IsSomeLane verdict key lane → IsLaneLeft verdict pipe direction key ops with_list
  lane_left stamp rest told are pipe direction ops m is =
      let items : items_of_stamp stamp ≡ items_of_stamp told.told = ap (λ z. reverse (map item_in (words_in z))) (sym told.marked) in
      record {
        stamp = told.told;
        marked = record {
          number = told.number ∙ m.number;
          are = subst (λ z. AreStamps (rules_in pipe) pipe.number (past_ops pipe) ((rules_in pipe).target direction.number) [] z (notices_from (rules_in pipe) pipe.number (past_ops pipe) ops)) items m.are;
          behind = subst (AreFrom direction.table.1.start) items m.behind;
        };
        lane_is = (is.0, lane_still is.0 is.1);
        rest = rest;
        told = told.seen ∙ sym same;
        makers =
            subst (λ z. AreOfMakers z (front list.1)) (ap (λ z. z.1.opening) is.1.direction.exporting.marks)
            (subst (AreOfMakers lane.state.marks.1.seen.terms.opening) (sym same) are);
      }
