use Rattle.std.proofs.Common.{List, subst, ℕ, Option}
use Rattle.std.specs.Prelude.{IfSome}
use Rattle.attrs.specs.declared.journal.JEntry.{JEntry}
use Rattle.rec_words.specs.Entries.{Spells}
use Rattle.table_shared.proofs.Taken.{one_reading}
use Rattle.entry_memo.proofs.memo.Memo.read.Goals as goal

pub returns-in-Some : goal.returns-in-Some
returns-in-Some c =
    one_reading c.words_spell_one_entry.ensures c.args.cursor.now.0.1 c.args.words.now c.in-Some.said c.requires
    (subst (λ (ws : List ℕ). Spells c.in-Some.said ws) c.words.ensures (subst (λ (found : Option JEntry). IfSome found (λ said. Spells said c.words.result.now)) c.in-Some.is c.in_ok-said.ensures))
