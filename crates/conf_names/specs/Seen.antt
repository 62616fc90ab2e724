-- What is declared, in memory, as the definitions see it (`known_of`).
-- From: own.
use Rattle.std.specs.Prelude.{ℕ, List, map}
use Rattle.filt_types.specs.Seen.{scene_of}
use Rattle.conf_names.specs.declared.declared.Declared.{Declared}
use Rattle.conf_names.specs.Known.{Known}

abbrev pub known_of : (text : List ℕ) → Declared → Known
known_of text declared = record {
  scene = scene_of text declared.scope;
  tables = map (λ e. (e.0.items, e.1)) declared.tables.entries;
  filters = map (λ name. name.items) declared.filters.keys;
  protocols = declared.protocols;
  pipes = declared.pipes.items;
}
