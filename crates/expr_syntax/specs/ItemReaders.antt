-- For private contracts alone, all but `items_at` and `mask_items_at`, which `parts` and the
-- grammars above name: reading each form of an item, where k more levels may be opened. The forms
-- are those of `Syntax`, reading is `read` of conf_lex.
-- Not modelled: memory.
-- From: own.
use Rattle.std.specs.Prelude.{ℕ}
use Rattle.conf_lex.specs.Grammar.{ParseTree, first_set}
use Rattle.conf_lex.specs.Reading.{Reader, all_turns, read}
use Rattle.expr_syntax.specs.Syntax.{optional, many, num_range, pair_part, lengths, item, mask_atom}
use Rattle.expr_syntax.specs.Syntax.{mask_item, label_end, label, rule}
use Rattle.expr_syntax.specs.Levels.{set_level, pair_level, lengths_level}

unfoldable pub num_range_at : ℕ → Reader
num_range_at k = read rule k num_range

unfoldable pub pair_part_at : ℕ → Reader
pair_part_at k = read rule k pair_part

-- inside "(" and ")" of an item
unfoldable pub pair_at : ℕ → Reader
pair_at k = read rule k (rule pair_level)

-- inside "{" and "}" behind a prefix
unfoldable pub bounds_at : ℕ → Reader
bounds_at k = read rule k (rule lengths_level)

-- the lengths behind a prefix, or nothing
unfoldable pub lengths_at : ℕ → Reader
lengths_at k = read rule k (optional lengths)

unfoldable pub item_at : ℕ → Reader
item_at k = read rule k item

-- inside "[" and "]"
unfoldable pub items_at : ℕ → Reader
items_at k = read rule k (rule set_level)

unfoldable pub mask_atom_at : ℕ → Reader
mask_atom_at k = read rule k mask_atom

unfoldable pub mask_item_at : ℕ → Reader
mask_item_at k = read rule k mask_item

-- between "[=" and "=]"
unfoldable pub mask_items_at : ℕ → Reader
mask_items_at k = read rule k (many mask_item)

-- the items of a label behind its first, and its colon
unfoldable pub label_end_at : ℕ → Reader
label_end_at k = read rule k label_end

unfoldable pub label_at : ℕ → Reader
label_at k = read rule k label

-- elements of a mask after a tree
unfoldable pub mask_row_at : ParseTree → Reader
mask_row_at = all_turns (first_set mask_item) (mask_item_at 0)
