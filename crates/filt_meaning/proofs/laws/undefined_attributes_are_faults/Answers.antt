use Rattle.filt_meaning.proofs.Defined.{defined_reads}
use Rattle.filt_meaning.proofs.laws.undefined_attributes_are_faults.Goals as goal

pub returns-clause-defined : goal.returns-clause-defined
returns-clause-defined c = defined_reads
