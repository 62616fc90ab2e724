use Rattle.std.proofs.Common.{◌++◌, ◌∷◌, [], List, length, map, Vec, Err, sym, ap, ◌∙◌, append_assoc, subst, arith, inr, refl}
use Rattle.std.proofs.KnownBytes.{Keeps-refl}
use Rattle.std.proofs.lemmas.List.{map-append}
use Rattle.std.specs.Global.{Global}
use Rattle.script_lines.specs.declared.script.Line.{Line}
use Rattle.std.specs.List.{All}
use Rattle.sys_run.specs.Scripts.{AsksWhatIs, FitsLine, phase_of}
use Rattle.phases_out.specs.Inside.{HasWritten, PlayedBy}
use Rattle.phases_out.specs.Written.{ArePlayed}
use Rattle.phases_out.specs.declared.ending.Ending.{Ending}
use Rattle.phases_out.specs.declared.ending.Ending.TheVariants.{OutOfMemory}
use Rattle.phases_out.proofs.Writing.{asked_next, cut_between, cut_in_phase, ends_cut, few_so_far, is_play, made_of, phase_more, split, split_behind}
use Rattle.phases_out.proofs.play.play_each.Goals as goal

pub play-requires : goal.play-requires
play-requires g c =
    let done = c.loop-lines.invariant.so_far c.requires.0 c.requires.1 in
    record {
      setup = c.requires.0;
      actors = c.args.actors.now;
      scripts = map (phase_of c.requires.0.queries) (map (λ phase. phase.items) c.loop-lines.yielded);
      reports = done.reports;
      played = done.played;
      asked = asked_next (All (AsksWhatIs (length c.requires.0.queries))) (λ (phase : Vec Line Global). phase.items) c.loop-lines.yielded c.in-Some.lines c.next.new.self.rest.items c.args.phases.items
          (ap (λ (l : List (Vec Line Global)). c.loop-lines.yielded ++ l) (sym c.in-Some.ensures.steps.0) ∙ c.loop-lines.invariant.whole) c.requires.2;
      fits = asked_next (All (FitsLine c.requires.0)) (λ (phase : Vec Line Global). phase.items) c.loop-lines.yielded c.in-Some.lines c.next.new.self.rest.items c.args.phases.items
          (ap (λ (l : List (Vec Line Global)). c.loop-lines.yielded ++ l) (sym c.in-Some.ensures.steps.0) ∙ c.loop-lines.invariant.whole) c.requires.3;
      few = few_so_far (phase_of c.requires.0.queries) (λ (phase : Vec Line Global). phase.items) c.loop-lines.yielded c.loop-lines.lines-iterator.rest.items c.args.phases.items c.loop-lines.invariant.whole
          (omega (arith, c.args.phases.ok.0, c.args.phases.ok.1, c.args.phases.small));
    }

pub returns-in_err-report-clause-ends : goal.returns-in_err-report-clause-ends
returns-in_err-report-clause-ends g c =
    made_of _ c.from_residual.result OutOfMemory c.from_residual.ensures.1
    (λ setup start. ends_cut (ArePlayed setup c.args.actors.now) (map (λ phase. phase.items) c.args.phases.items) c.args.form _ _ _ _ OutOfMemory (inr refl) (λ is. absurd (cc))
    (λ is. cut_between setup c.args.form (PlayedBy g.J.Judge.verdict setup c.args.actors.now c.loop-lines.core) (ArePlayed setup c.args.actors.now) (is_play g.J.Judge.verdict setup c.args.actors.now c.loop-lines.core)
    (map (λ phase. phase.items) c.loop-lines.yielded) _ _ _ (c.loop-lines.invariant.so_far setup start)
    (map (λ phase. phase.items) c.args.phases.items) (map (λ phase. phase.items) c.loop-lines.lines-iterator.rest.items)
    (split (λ (phase : Vec Line Global). phase.items) c.loop-lines.yielded c.loop-lines.lines-iterator.rest.items c.args.phases.items c.loop-lines.invariant.whole) (Keeps-refl _))
    _ c.loop-lines.invariant.later (λ is. absurd (cc)))

pub loop-lines-preserved : goal.loop-lines-preserved
loop-lines-preserved g c = record {
  so_far = λ setup start.
      let done = c.loop-lines.invariant.so_far setup start in
      subst (λ (l : List (List Line)). HasWritten (PlayedBy g.J.Judge.verdict setup c.args.actors.now c.play.new.self) setup l c.args.form (g.K.Sink.contents c.args.out.now) (g.K.Sink.contents c.write_phase.new.out))
      (sym (map-append (λ (phase : Vec Line Global). phase.items) c.loop-lines.yielded (c.in-Some.lines ∷ [])))
      (phase_more setup c.args.form (PlayedBy g.J.Judge.verdict setup c.args.actors.now c.loop-lines.core) (PlayedBy g.J.Judge.verdict setup c.args.actors.now c.play.new.self)
      (map (λ phase. phase.items) c.loop-lines.yielded) c.in-Some.lines.items c.in_ok-report.report _ _ _ done (c.in_ok-report.ensures setup _ done.reports done.played) c.in_ok-write_phase.ensures.whole);
  whole = append_assoc c.loop-lines.yielded (c.in-Some.lines ∷ []) c.next.new.self.rest.items ∙ ap (λ (l : List (Vec Line Global)). c.loop-lines.yielded ++ l) (sym c.in-Some.ensures.steps.0)
      ∙ c.loop-lines.invariant.whole;
  later = omega (arith, c.loop-lines.invariant.later, c.in_ok-write_phase.ensures.later);
}

pub returns-in_err-write_phase-clause-ends : goal.returns-in_err-write_phase-clause-ends
returns-in_err-write_phase-clause-ends g c =
    let rest = ap (λ (l : List (Vec Line Global)). c.loop-lines.yielded ++ l) (sym c.in-Some.ensures.steps.0) ∙ c.loop-lines.invariant.whole in
    let ending = c.in_err-write_phase.field-0.0 in
    made_of _ c.from_residual-in_err-write_phase.result ending c.from_residual-in_err-write_phase.ensures.1 (λ setup start.
    let done = c.loop-lines.invariant.so_far setup start in
    ends_cut (ArePlayed setup c.args.actors.now) (map (λ phase. phase.items) c.args.phases.items) c.args.form _ _ _ _ ending c.in_err-write_phase.ensures.cut
    (λ is. cut_in_phase setup c.args.form (PlayedBy g.J.Judge.verdict setup c.args.actors.now c.loop-lines.core) (PlayedBy g.J.Judge.verdict setup c.args.actors.now c.play.new.self)
    (map (λ phase. phase.items) c.loop-lines.yielded) c.in-Some.lines.items c.in_ok-report.report _ _ _ done (c.in_ok-report.ensures setup _ done.reports done.played)
    (ArePlayed setup c.args.actors.now) (is_play g.J.Judge.verdict setup c.args.actors.now c.play.new.self)
    (map (λ phase. phase.items) c.args.phases.items) (map (λ phase. phase.items) c.next.new.self.rest.items)
    (split_behind (λ (phase : Vec Line Global). phase.items) c.loop-lines.yielded c.in-Some.lines c.next.new.self.rest.items c.args.phases.items rest)
    (c.in_err-write_phase.ensures.front (ap (λ (e : Ending). Err e) is)))
    (λ is. cut_between setup c.args.form (PlayedBy g.J.Judge.verdict setup c.args.actors.now c.loop-lines.core) (ArePlayed setup c.args.actors.now) (is_play g.J.Judge.verdict setup c.args.actors.now c.loop-lines.core)
    (map (λ phase. phase.items) c.loop-lines.yielded) _ _ _ done
    (map (λ phase. phase.items) c.args.phases.items) (map (λ phase. phase.items) c.loop-lines.lines-iterator.rest.items)
    (split (λ (phase : Vec Line Global). phase.items) c.loop-lines.yielded c.loop-lines.lines-iterator.rest.items c.args.phases.items c.loop-lines.invariant.whole)
    (c.in_err-write_phase.ensures.nothing (ap (λ (e : Ending). Err e) is)))
    _ c.loop-lines.invariant.later (λ is. c.in_err-write_phase.ensures.write (ap (λ (e : Ending). Err e) is)))
