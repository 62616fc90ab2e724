use Rattle.std.proofs.Common.{Err, List, ap, subst, sym, ◌∙◌, ℕ}
use Rattle.rec_words.specs.Entries.{IsEntryWords, Spells}
use Rattle.table_shared.proofs.Taken.{one_reading}
use Rattle.table_shared.proofs.taking.read_record.Goals as goal

pub unreachable-requires : goal.unreachable-requires
unreachable-requires c =
    c.get_words.ensures.refused.0 (c.in-Err-BadWords.is ∙ ap Err c.in-Err-BadWords.field-0-is)
    (subst (λ (ws : List ℕ). IsEntryWords ws) (sym c.words.ensures) (c.what_is_read_is_a_record.ensures.words c.args.cursor.now.0.1 c.args.words.now c.requires))

pub returns-in-Ok : goal.returns-in-Ok
returns-in-Ok c =
    one_reading c.words_spell_one_entry.ensures c.args.cursor.now.0.1 c.args.words.now c.in-Ok.said c.requires
    (subst (λ (ws : List ℕ). Spells c.in-Ok.said ws) c.words.ensures c.in-Ok.ensures.found)
