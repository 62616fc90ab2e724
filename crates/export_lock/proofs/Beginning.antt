-- A phase begins with all that a lock keeps.
use Rattle.std.proofs.Common.{◌≡◌, ℕ, ◌≤◌, arith, Bool, true, false, zero, suc, List, [], ◌∷◌, ◌++◌, length, take, refl, sym, ap, subst, ◌∙◌, length-append, append_assoc}
use Rattle.attrs.specs.declared.journal.JEntry.{JEntry}
use Rattle.attrs.specs.declared.judge.Verdict.{Verdict}
use Rattle.attrs.specs.declared.route.Route.{Route}
use Rattle.bits_ip.specs.Prefix.{Net}
use Rattle.core_machine.specs.Enters.{enters}
use Rattle.core_machine.specs.Signals.{without_sends}
use Rattle.export_core.specs.Histories.{IsLonger, best_after, course_of}
use Rattle.export_core.specs.declared.passing.ExportSpec.{ExportSpec}
use Rattle.export_core.proofs.Courses.{stands_longer}
use Rattle.phase_legal.specs.Changes.{AreMade}
use Rattle.phase_legal.specs.Stamps.{items_in}
use Rattle.export_lock.specs.Begun.{Begins, BeginsLane}
use Rattle.export_lock.specs.Kept.{IsExporting}
use Rattle.export_lock.specs.Lanes.{IsLane, LaneTerms}
use Rattle.export_lock.specs.Terms.{ExportTerms}
use Rattle.export_lock.specs.declared.state.ExportState.{ExportState}
use Rattle.export_lock.specs.declared.lane.PipeLane.{PipeLane}

take_within : {A : Type 0} (p : ℕ) (xs ys : List A) → p ≤ length xs → take p (xs ++ ys) ≡ take p xs
take_within zero xs ys le = refl
take_within (suc p) [] ys le = absurd (omega (arith, le))
take_within (suc p) (x ∷ xs) ys le = ap (λ l. x ∷ l) (take_within p xs ys (omega (arith, le)))

-- a history that goes on is a longer course
goes_longer : (spec : ExportSpec) (before more : List JEntry) → IsLonger (course_of spec before) (course_of spec (before ++ more))
goes_longer spec before more = record {
  len = let n = length-append before more in omega (arith, n);
  best = λ k p le. ap (best_after spec k) (take_within p before more le);
}

module _ {J : Type 0} (verdict : J → Net → Route → Verdict) where
  pub begun : (every : Bool) (key : ExportTerms) (a : ExportState J) → Begins verdict every key a.exporter a.cursor a.marks → IsExporting verdict every key a
  begun every key a b = record {
    spec = b.spec;
    filter = b.filter;
    kind = b.kind;
    stays = λ _. b.rest;
    here = b.here;
    start = b.start;
    family = b.family;
    begun = b.begun;
    marks = b.marks;
    makers = b.makers;
    cursors = b.cursors;
    marked = ap without_sends b.log ∙ ap (λ es. items_in es ++ without_sends key.log) (sym b.unmarked);
    log = ([], sym b.log);
    mode = b.mode;
    position = λ up. (b.position up).0 ∙ sym (b.position up).1;
    least = λ up. (let at = (b.position up).0 in omega (arith, at));
    stands = λ history w.
        stands_longer verdict (course_of key.exports.spec key.before) (course_of key.exports.spec history) a.exporter
        (subst (λ h. IsLonger (course_of key.exports.spec key.before) (course_of key.exports.spec h)) (sym (append_assoc key.before w.said w.begins.0) ∙ w.begins.1) (goes_longer key.exports.spec key.before (w.said ++ w.begins.0)))
        b.stood;
  }

  pub lane_begun : (key : LaneTerms) (a : PipeLane J) → BeginsLane verdict key a.state.exporter a.state.cursor a.state.marks a.port → IsLane verdict [] key a
  lane_begun key a b = record {
    terms = b.terms;
    direction = record {
      exporting = begun true key.exports a.state b.begins;
      none = λ _. refl;
      stood = λ yes. absurd (let bad : true ≡ false = sym yes ∙ b.begins.rest in cc);
    };
    port = b.port;
    port_number = b.port_number;
    made = [];
    says = subst (λ rs. AreMade rs []) (sym b.unmade) tt;
    entered = ap (enters key.rules) (sym b.begins.log);
  }
