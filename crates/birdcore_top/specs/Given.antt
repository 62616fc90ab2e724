-- What is given to be played or run: the phases that were read (`phases_read`), and what the
-- configuration gives with the script (`setup_read`).
-- From: own.
-- Example: the worked run of docs/DEFINITIONS.md.
use Rattle.std.specs.Prelude.{ℕ, List, map}
use Rattle.conf_system.specs.Seen.{filter_says, system_of}
use Rattle.conf_system.specs.declared.system.System.{System}
use Rattle.core_setup.specs.Setup.{Setup}
use Rattle.script_lines.specs.declared.script.Line.{Line}
use Rattle.sys_build.specs.Setups.{setup_of}
use Rattle.sys_build.specs.declared.scripts.ReadScript.{ReadScript}

-- what is to be played of a configuration and a script that were read
abbrev pub setup_read : System → ReadScript → ℕ → Setup
setup_read system script cells =
    setup_of (system_of system) cells (map (filter_says system) script.filters.items)
    script.queries.items

abbrev pub phases_read : ReadScript → List (List Line)
phases_read script = map (λ phase. phase.items) script.phases.items
