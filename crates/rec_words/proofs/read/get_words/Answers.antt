use Rattle.std.proofs.Common.{refl, sym, subst, arith}
use Rattle.attrs.specs.declared.journal.JEntry.{JEntry}
use Rattle.rec_words.specs.Entries.{Spells}
use Rattle.rec_words.proofs.Whole.{entry_takes, memory_refused, not_entry}
use Rattle.rec_words.proofs.read.get_words.Goals as goal

pub build_entry-requires-clause-entry : goal.build_entry-requires-clause-entry
build_entry-requires-clause-entry c = (entry_takes c.args.words.now _ (λ i. omega (arith, c.type_inv.words i)) c.in-Ok.ensures.read).entry

pub returns-in_err-build_entry-in-Ok-clause-refused : goal.returns-in_err-build_entry-in-Ok-clause-refused
returns-in_err-build_entry-in-Ok-clause-refused c =
    memory_refused c.args.words.now _ c.from_residual.ensures.1 (_, entry_takes c.args.words.now _ (λ i. omega (arith, c.type_inv.words i)) c.in-Ok.ensures.read)

pub returns-in_ok-build_entry-in-Ok-clause-found : goal.returns-in_ok-build_entry-in-Ok-clause-found
returns-in_ok-build_entry-in-Ok-clause-found c =
    subst (λ (e : JEntry). Spells e c.args.words.now) (sym c.in_ok-build_entry-in-Ok.ensures) (entry_takes c.args.words.now _ (λ i. omega (arith, c.type_inv.words i)) c.in-Ok.ensures.read)

pub returns-in_ok-build_entry-in-Ok-clause-refused : goal.returns-in_ok-build_entry-in-Ok-clause-refused
returns-in_ok-build_entry-in-Ok-clause-refused c =
    (λ same. absurd cc, λ none. absurd (none (_, entry_takes c.args.words.now _ (λ i. omega (arith, c.type_inv.words i)) c.in-Ok.ensures.read)))

pub returns-in-Err-clause-refused : goal.returns-in-Err-clause-refused
returns-in-Err-clause-refused c = (λ same. not_entry c.args.words.now c.in-Err.ensures.read, λ none. refl)
