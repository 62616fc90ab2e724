use Rattle.std.proofs.Common.{refl}
use Rattle.table_shared.specs.Records.{at_first}
use Rattle.table_shared.proofs.Histories.{owned}
use Rattle.table_shared.proofs.laws.a_port_alone_changes_its_sources.Goals as goal

pub returns : goal.returns
returns c = λ opening entries said mine start port num net are own alone.
    owned c.words_spell_one_entry.ensures opening port num net alone (at_first opening) (at_first opening) (at_first opening) start entries said mine are own refl
