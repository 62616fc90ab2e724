use Rattle.std.proofs.Common.{Err, ap, length, map}
use Rattle.sys_build.specs.Names.{named_of}
use Rattle.conf_system.specs.Seen.{filter_says, system_of}
use Rattle.birdcore_top.specs.Outcome.{Played}
use Rattle.birdcore_top.specs.Given.{phases_read, setup_read}
use Rattle.birdcore_top.specs.declared.status.Status.{Status}
use Rattle.birdcore_top.proofs.Asking.{all_ask, all_name_some}
use Rattle.birdcore_top.proofs.Joined.{conf_stopped, err_is, in_turn, lacked_script, over, script_stopped, stops_as}
use Rattle.birdcore_top.proofs.files.read_files.Goals as goal

pub returns-in_err-system-clause-stopped : goal.returns-in_err-system-clause-stopped
returns-in_err-system-clause-stopped g c =
    stops_as _ c.from_residual.result c.in_err-system.field-0.0 c.from_residual.ensures.1
    (conf_stopped c.args.conf.now c.args.script.now c.args.schedule (g.F.Shelf.held c.args.shelf.now) c.in_err-system.field-0.0 c.in_err-system.ensures.stopped)

pub returns-in_err-script-clause-stopped : goal.returns-in_err-script-clause-stopped
returns-in_err-script-clause-stopped g c =
    stops_as _ c.from_residual-in_err-script.result c.in_err-script.field-0.0 c.from_residual-in_err-script.ensures.1
    (script_stopped c.args.conf.now c.args.script.now c.args.schedule (g.F.Shelf.held c.args.shelf.now) (system_of c.in_ok-system.system) (c.in_ok-system.ensures.configured.0, c.in_ok-system.ensures.configured.1.1)
    c.in_ok-system.ensures.config c.in_err-script.field-0.0 (rw c.in_ok-system.ensures.held at c.in_err-script.ensures.stopped))

pub returns-in_err-script-clause-in_turn : goal.returns-in_err-script-clause-in_turn
returns-in_err-script-clause-in_turn g c = λ is.
    let failed = err_is c.from_residual-in_err-script.result c.in_err-script.field-0.0 _ c.from_residual-in_err-script.ensures.1 is in
    in_turn c.args.conf.now c.args.script.now c.args.schedule (g.F.Shelf.held c.args.shelf.now) (system_of c.in_ok-system.system) (c.in_ok-system.ensures.configured.0, c.in_ok-system.ensures.configured.1.1)
    c.in_ok-system.ensures.config (g.F.Shelf.missed c.args.shelf.now) (g.F.Shelf.missed c.read_conf.new.shelf) (g.F.Shelf.missed c.read_lines.new.shelf) c.in_ok-system.ensures.none_fell
    (c.in_err-script.ensures.by_name (ap (λ (s : Status). Err s) failed))

pub returns-clause-files : goal.returns-clause-files
returns-clause-files g c = λ cells.
    over c.args.conf.now c.args.script.now c.args.schedule (g.F.Shelf.held c.args.shelf.now) (system_of c.in_ok-system.system) (c.in_ok-system.ensures.configured.0, c.in_ok-system.ensures.configured.1.1)
    c.in_ok-system.ensures.config cells
    (Played (setup_read c.in_ok-system.system c.in_ok-script.script cells) c.in_ok-script.script.actors.items (phases_read c.in_ok-script.script))
    ((rw c.in_ok-system.ensures.held at c.in_ok-script.ensures.script) cells)

pub returns-clause-playable : goal.returns-clause-playable
returns-clause-playable g c = (c.in_ok-system.ensures.configured.0, c.in_ok-system.ensures.configured.1.1)

pub returns-clause-setup : goal.returns-clause-setup
returns-clause-setup g c = λ cells.
    c.accepted_scripts_are_setups.ensures c.in_ok-system.ensures.configured.0 c.in_ok-script.ensures.answers.0 (system_of c.in_ok-system.system) c.args.schedule (phases_read c.in_ok-script.script)
    c.in_ok-script.script.actors.items c.in_ok-script.script.queries.items (map (filter_says c.in_ok-system.system) c.in_ok-script.script.filters.items) cells
    c.in_ok-system.ensures.configured.1.1 c.in_ok-script.ensures.answers.1

pub returns-clause-asked : goal.returns-clause-asked
returns-clause-asked g c =
    all_ask (named_of (system_of c.in_ok-system.system) c.args.schedule) c.in_ok-script.script.actors.items (length c.in_ok-script.script.queries.items) (phases_read c.in_ok-script.script)
    (c.accepted_scripts_name_what_is.ensures.lines (system_of c.in_ok-system.system) c.args.schedule c.in_ok-script.ensures.answers.0 (phases_read c.in_ok-script.script) c.in_ok-script.script.actors.items
    c.in_ok-script.script.queries.items (map (filter_says c.in_ok-system.system) c.in_ok-script.script.filters.items) c.in_ok-script.ensures.answers.1)

pub returns-clause-named : goal.returns-clause-named
returns-clause-named g c = λ cells.
    all_name_some (named_of (system_of c.in_ok-system.system) c.args.schedule) c.in_ok-script.script.actors.items (system_of c.in_ok-system.system) cells
    (map (filter_says c.in_ok-system.system) c.in_ok-script.script.filters.items) c.in_ok-script.script.queries.items (phases_read c.in_ok-script.script)
    (c.names_count_as_the_setup.ensures.protocols (system_of c.in_ok-system.system) c.args.schedule cells (map (filter_says c.in_ok-system.system) c.in_ok-script.script.filters.items) c.in_ok-script.script.queries.items)
    (c.accepted_scripts_name_what_is.ensures.lines (system_of c.in_ok-system.system) c.args.schedule c.in_ok-script.ensures.answers.0 (phases_read c.in_ok-script.script) c.in_ok-script.script.actors.items
    c.in_ok-script.script.queries.items (map (filter_says c.in_ok-system.system) c.in_ok-script.script.filters.items) c.in_ok-script.ensures.answers.1)

pub returns-clause-fits : goal.returns-clause-fits
returns-clause-fits g c = λ cells.
    c.accepted_scripts_fit_their_tables.ensures c.in_ok-system.ensures.configured.0 c.in_ok-script.ensures.answers.0 (system_of c.in_ok-system.system) c.args.schedule (phases_read c.in_ok-script.script)
    c.in_ok-script.script.actors.items c.in_ok-script.script.queries.items (map (filter_says c.in_ok-system.system) c.in_ok-script.script.filters.items) cells
    c.in_ok-system.ensures.configured.1.1 c.in_ok-script.ensures.answers.1

pub returns-in_err-script-clause-absent : goal.returns-in_err-script-clause-absent
returns-in_err-script-clause-absent g c =
    lacked_script c.args.conf.now c.args.script.now (g.F.Shelf.held c.args.shelf.now) (g.F.Shelf.lacks c.args.shelf.now) c.from_residual-in_err-script.result c.in_err-script.field-0.0
    c.from_residual-in_err-script.ensures.1 c.in_ok-system.ensures.absent (rw c.in_ok-system.ensures.lacks at c.in_err-script.ensures.absent)

pub returns-clause-before : goal.returns-clause-before
returns-clause-before g c = c.in_ok-script.ensures.before c.in_ok-system.ensures.ordered
