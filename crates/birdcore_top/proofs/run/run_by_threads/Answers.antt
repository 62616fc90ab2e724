use denote.Exit.{no}
use denote.Param.Send.{arg_sync, param_sync}
use mir.Syntax.{named}
use Rattle.std.proofs.Common.{◌≡◌, List, Vec, length, map, sym, ℕ}
use Rattle.std.specs.Global.{Global}
use Rattle.std.specs.Option.{MatchOption}
use Rattle.script_lines.specs.declared.script.Line.{Line}
use Rattle.conf_system.specs.Seen.{filter_says, system_of}
use Rattle.sys_build.proofs.Sharing.{passes_sync}
use Rattle.phases_out.specs.Given.{FitTables, NameSome}
use Rattle.phases_out.specs.Written.{AreRun, Ends}
use Rattle.phases_out.proofs.Running.{lines_in}
use Rattle.phases_out.proofs.Writing.{ends_before, none_run}
use Rattle.birdcore_top.specs.Given.{phases_read, setup_read}
use Rattle.birdcore_top.proofs.Lent.{in_both, lent_is}
use Rattle.birdcore_top.proofs.run.run_by_threads.Goals as goal

pub run_all-requires-sync-J : goal.run_all-requires-sync-J
run_all-requires-sync-J g c κs within = param_sync 2 _ (arg_sync _ no _ (passes_sync (record { mir = named 0; lft = _ })))

pub run_all-requires-clause-start : goal.run_all-requires-clause-start
run_all-requires-clause-start g c κs within =
    let setup = setup_read c.args.system.now c.args.script.now c.args.cells in
    let actors = sym c.as_slice-in-Ok-4.ensures.value in
    let phases = sym c.as_slice-in-Ok-5.ensures.value in (
      setup,
      lent_is _ (filter_says c.args.system.now) _ _ _ _ c.args.cells _ _ c.args.script.now.queries.items (system_of c.args.system.now) _ _ c.as_slice-in-Ok.ensures.value c.as_slice-in-Ok-2.ensures.value c.as_slice-in-Ok-3.ensures.value c.as_slice.ensures.value
          (c.in-Ok.ensures.setup c.args.cells c.args.script.now.queries.items),
      c.requires.setup,
      in_both (λ (a : List (List ℕ)) (p : List (Vec Line Global)). NameSome setup (length a) (map lines_in p)) _ _ _ _ actors phases c.requires.named,
      in_both (λ (a : List (List ℕ)) (p : List (Vec Line Global)). FitTables setup (map lines_in p)) _ _ _ _ actors phases c.requires.fits,
    )

pub returns-in-Ok : goal.returns-in-Ok
returns-in-Ok g c =
    let setup = setup_read c.args.system.now c.args.script.now c.args.cells in
    in_both
    (λ (a : List (List ℕ)) (p : List (Vec Line Global)). MatchOption c.run_all.result (c.run_all.new.out ≡ c.args.out.now)
    (Ends (AreRun setup a) (map lines_in p) c.args.form (g.K.Sink.contents c.args.out.now) (g.K.Sink.contents c.run_all.new.out) (g.K.Sink.faults c.args.out.now) (g.K.Sink.faults c.run_all.new.out)))
    _ _ _ _ c.as_slice-in-Ok-4.ensures.value c.as_slice-in-Ok-5.ensures.value
    (c.run_all.ensures setup
    (lent_is _ (filter_says c.args.system.now) _ _ _ _ c.args.cells _ _ c.args.script.now.queries.items (system_of c.args.system.now) _ _ c.as_slice-in-Ok.ensures.value c.as_slice-in-Ok-2.ensures.value c.as_slice-in-Ok-3.ensures.value c.as_slice.ensures.value
    (c.in-Ok.ensures.setup c.args.cells c.args.script.now.queries.items)))

pub returns-in-Err : goal.returns-in-Err
returns-in-Err g c =
    let setup = setup_read c.args.system.now c.args.script.now c.args.cells in
    let actors = c.args.script.now.actors.items in
    ends_before (AreRun setup actors) (none_run setup actors) (phases_read c.args.script.now) c.args.form _ _
