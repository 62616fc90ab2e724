use Rattle.filt_sets.proofs.Meaning.{run_matches_each_path}
use Rattle.filt_sets.proofs.laws.run_matches_each_path.Goals as goal

pub returns : goal.returns
returns c = run_matches_each_path
