-- The rule of a journal: one list of entries, to which all words and all views are tied. Word 0 is
-- the head, and word c + 1 the position of the cursor c. Not modelled: time, and that any step is
-- ever made. From: own.
use Rattle.std.specs.Prelude.{◌≡◌, ℕ, suc, ◌+◌, ◌<◌, ◌≤◌, List, [], ◌∷◌, length, replicate, cond, Bool, true, ◌⊎◌, ◌==◌, slice_index}
use mathlib.Core.Option.{some}
use mathlib.Core.List.{IsPrefix}
use lib.ListN.{get_elem?}
use Rattle.atomic_table.specs.Table.{State}
use Rattle.jour_rule.specs.declared.views.Entry.{Entry}
use Rattle.jour_rule.specs.declared.views.Terms.{Terms}
use Rattle.jour_rule.specs.declared.views.Seen.{Seen}
use Rattle.jour_rule.specs.declared.views.Desk.{Desk}
use Rattle.jour_rule.specs.declared.views.Look.{Look}
use Rattle.jour_rule.specs.declared.views.Role.{Role}
use Rattle.jour_rule.specs.declared.views.Role.TheVariants.{Spent, Writer, Maker, Pass, Cursor}
use Rattle.jour_rule.specs.declared.views.View.{View}
use Rattle.jour_rule.specs.Cells.{Standing}

-- the receipts of the maker k: its entries, each with its position, where the list comes after the
-- position n
abbrev pub receipts : ℕ → ℕ → List Entry → List (ℕ × List ℕ)
receipts n k [] = []
receipts n k (e ∷ es) =
    cond (e.maker == k) ((suc n, e.words) ∷ receipts (suc n) k es) (receipts (suc n) k es)

-- What there is beyond what any one seat knows
pub record Whole : Type 0 where
  -- all entries
  pub list : List Entry
  -- the number plus 1 of the maker that hasn't seen the last entry yet, which is its own, or 0
  pub owed : ℕ
  -- the writer's seat
  pub writer : ℕ
  -- how many cursors and makers were given out
  pub cursors : ℕ
  pub makers : ℕ
  -- at which seats these are, by number
  pub cursor_at : ℕ → ℕ
  pub maker_at : ℕ → ℕ
  -- how many entries each maker has seen
  pub maker_len : ℕ → ℕ
  -- the words of the next entry that are stored
  pub staged : List ℕ

-- What holds of any seat that isn't spent: what it has seen begins the list, the head that it knows
-- is between the two, and each cursor's word has reached its `low`
pub record Stands {O : Type 0} (key : Terms O) (words : List ℕ) (list : List Entry) (s : Seen O)
    : Type 0 where
  pub terms : s.terms ≡ key
  pub front : IsPrefix s.front list
  pub above : key.start + length s.front ≤ s.known
  pub below : s.known ≤ slice_index words 0
  pub wide : length s.lows ≡ key.cursors
  pub lows : (c : ℕ) → c < key.cursors → slice_index s.lows c ≤ slice_index words (suc c)
  pub heard : IsPrefix s.heard s.front

-- The writer at the seat j has seen the whole list
pub record IsWriter {O : Type 0} (key : Terms O) (x : Whole) (j : ℕ) (front : List Entry) (d : Desk)
    : Type 0 where
  pub seat : j ≡ x.writer
  pub all : front ≡ x.list
  pub owed : d.owed ≡ x.owed
  pub cursors : d.cursors ≡ x.cursors
  pub makers : d.makers ≡ x.makers
  pub noted : (k : ℕ) → d.noted ≡ suc k → d.receipts ≡ receipts key.start k x.list
  pub staged : d.staged ≡ x.staged

-- The maker at the seat j: no entry past what it has seen is its own, but for the last one of the
-- list where it is owed that
pub record IsMaker {O : Type 0} (key : Terms O) (words : List ℕ) (x : Whole) (j : ℕ)
    (front : List Entry) (l : Look) : Type 0 where
  pub given : l.number < x.makers
  pub seat : j ≡ x.maker_at l.number
  pub seen : length front ≡ x.maker_len l.number
  pub own : (n : ℕ) (e : Entry) → length front ≤ n → get_elem? x.list n ≡ some e
      → e.maker ≡ l.number → (x.owed ≡ suc l.number) × (suc n ≡ length x.list)
  pub exact : l.sure ≡ true → l.was ≡ receipts key.start l.number front
  pub looked : l.cursor < key.cursors → l.found ≤ slice_index words (suc l.cursor)

-- The cursor c at the seat j, whose word is its position p, and what it has read of the entry after
-- that
pub record IsCursor {O : Type 0} (key : Terms O) (words : List ℕ) (x : Whole) (j : ℕ)
    (front : List Entry) (known c p : ℕ) (read : List ℕ) : Type 0 where
  pub given : c < x.cursors
  pub seat : j ≡ x.cursor_at c
  pub word : slice_index words (suc c) ≡ p
  pub within : p ≤ key.start + length front
  pub after : 0 < length read → p < known
  pub reads : (n : ℕ) (e : Entry) → p ≡ key.start + n → get_elem? x.list n ≡ some e
      → IsPrefix read e.words

-- A pass has seen no more than the maker that it was split from, and nobody is owed the last entry
-- that a settled one has seen
abbrev pub IsPass : Whole → List Entry → ℕ → Bool → Type 0
IsPass x front of b =
    ((k : ℕ) → of ≡ suc k → length front ≤ x.maker_len k)
    × (b ≡ true → (x.owed ≡ 0) ⊎ (length front < length x.list))

-- what holds of the seat j, by its kind
module _ {O : Type 0} (key : Terms O) (words : List ℕ) (x : Whole) (j : ℕ) (s : Seen O) where
  abbrev pub Fits : Role → Type 0
  Fits Spent = Unit {0}
  Fits (Writer d) = Stands key words x.list s × IsWriter key x j s.front d
  Fits (Maker l) = Stands key words x.list s × IsMaker key words x j s.front l
  Fits (Pass of b) = Stands key words x.list s × IsPass x s.front of b
  Fits (Cursor c p ws) = Stands key words x.list s × IsCursor key words x j s.front s.known c p ws

-- What holds of the words: the head is the position of the last entry, and each cursor's position
-- is between the start and the head and no further behind than there are cells
pub record IsRight {O : Type 0} (meets : O → List Entry → Type 0) (key : Terms O) (words : List ℕ)
    (x : Whole) : Type 0 where
  pub wide : key.cursors < length words
  pub head : slice_index words 0 ≡ key.start + length x.list
  pub least : (c : ℕ) → c < key.cursors → key.start ≤ slice_index words (suc c)
  pub most : (c : ℕ) → c < key.cursors → slice_index words (suc c) ≤ slice_index words 0
  pub near : (c : ℕ) → c < key.cursors
      → slice_index words 0 ≤ slice_index words (suc c) + key.cells
  pub fresh : (c : ℕ) → x.cursors ≤ c → c < key.cursors
      → slice_index words (suc c) ≡ key.start
  pub given : x.cursors ≤ key.cursors
  pub lawful : meets key.opening x.list
  pub standing : Standing key words x.list x.staged

abbrev pub Each : {O : Type 0} → Terms O → List ℕ → Whole → List (View O) → Type 0
Each {O} key words x views =
    (j : ℕ) (v : View O) → get_elem? views j ≡ some v → Fits key words x j v.seen v.role

-- the rule: there is one such whole, to which the words and each seat's view are tied
pub record IsJournal {S O : Type 0} (meets : O → List Entry → Type 0) (key : Terms O)
    (s : State S (View O)) : Type 0 where
  pub whole : Whole
  pub right : IsRight meets key s.words whole
  pub each : Each key s.words whole s.views

-- the writer's first view
abbrev pub opened : {O : Type 0} → Terms O → View O
opened key = record {
  seen = record {
    terms = key;
    front = [];
    known = key.start;
    heads = 0;
    lows = replicate key.cursors key.start;
    heard = [];
  };
  role = Writer record {
    cursors = 0;
    makers = 0;
    owed = 0;
    noted = 0;
    receipts = [];
    staged = [];
  };
}
