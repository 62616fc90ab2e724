-- What each kind of step makes of the view of the seat that makes it, and what it tells that seat.
-- Not modelled: what it does to the words, which is the step itself. From: own.
use Rattle.std.specs.Prelude.{◌≡◌, ℕ, suc, ◌+◌, ◌-◌, ◌<◌, ◌≤◌, max, take, List, [], ◌∷◌, ◌++◌, length, cond, Bool, true, false, ◌==◌, ◌&&◌, nat_lt, slice_index, slice_set}
use mathlib.Core.Option.{some}
use mathlib.Core.List.{IsPrefix}
use lib.ListN.{get_elem?}
use Rattle.atomic_table.specs.Table.{Me, Step}
use Rattle.jour_rule.specs.declared.views.Entry.{Entry}
use Rattle.jour_rule.specs.declared.views.Seen.{Seen}
use Rattle.jour_rule.specs.declared.views.Role.{Role}
use Rattle.jour_rule.specs.declared.views.Role.TheVariants.{Spent, Writer, Maker, Pass, Cursor}
use Rattle.jour_rule.specs.declared.views.View.{View}
use Rattle.jour_rule.specs.Cells.{told, is_whole, place}
use Rattle.jour_rule.specs.Journal.{receipts}

-- the entry of the maker k with these words
abbrev pub entry : ℕ → List ℕ → Entry
entry k e = record { maker = k; words = e }

-- place by place the greater number
abbrev pub greatest : List ℕ → List ℕ → List ℕ
greatest [] ys = []
greatest (x ∷ xs) [] = x ∷ xs
greatest (x ∷ xs) (y ∷ ys) = max x y ∷ greatest xs ys

-- nobody is owed any more where the pass is of the maker that was owed and has seen the whole list
abbrev pub still_owed : ℕ → ℕ → ℕ → ℕ → ℕ
still_owed owed of seen all = cond ((of == owed) && (seen == all)) 0 owed

-- the seat isn't spent
abbrev pub IsLive : Role → Type 0
IsLive Spent = ⊥
IsLive (Writer d) = Unit {0}
IsLive (Maker l) = Unit {0}
IsLive (Pass of b) = Unit {0}
IsLive (Cursor c p ws) = Unit {0}

-- an entry of the maker k joined the list, which that maker hasn't seen yet
abbrev pub owing : ℕ → Role → Role
owing k (Writer d) = Writer record d { owed = suc k; noted = 0; receipts = []; staged = [] }
owing k Spent = Spent
owing k (Maker l) = Maker l
owing k (Pass of b) = Pass of b
owing k (Cursor c p ws) = Cursor c p ws

-- a cursor's word was loaded
abbrev pub looking : ℕ → ℕ → Role → Role
looking c r (Maker l) = Maker record {
  number = l.number;
  looks = suc l.looks;
  cursor = c;
  found = r;
  was = l.was;
  sure = l.sure;
}
looking c r Spent = Spent
looking c r (Writer d) = Writer d
looking c r (Pass of b) = Pass of b
looking c r (Cursor d p ws) = Cursor d p ws

-- what a writer has staged, what a cursor has read, and where it stands
abbrev pub staged_of : Role → List ℕ
staged_of (Writer d) = d.staged
staged_of Spent = []
staged_of (Maker l) = []
staged_of (Pass of b) = []
staged_of (Cursor c p ws) = []

abbrev pub read_of : Role → List ℕ
read_of (Cursor c p ws) = ws
read_of Spent = []
read_of (Writer d) = []
read_of (Maker l) = []
read_of (Pass of b) = []

abbrev pub position_of : Role → ℕ
position_of (Cursor c p ws) = p
position_of Spent = 0
position_of (Writer d) = 0
position_of (Maker l) = 0
position_of (Pass of b) = 0

-- a word is staged
abbrev pub staging : ℕ → Role → Role
staging n (Writer d) = Writer record d { staged = d.staged ++ n ∷ [] }
staging n Spent = Spent
staging n (Maker l) = Maker l
staging n (Pass of b) = Pass of b
staging n (Cursor c p ws) = Cursor c p ws

-- the words read, once the word k was found to be r
abbrev pub read_on : ℕ → ℕ → List ℕ → List ℕ
read_on k r ws = cond (nat_lt k (length ws)) ws (ws ++ r ∷ [])

abbrev pub reading : ℕ → ℕ → Role → Role
reading k r (Cursor c p ws) = Cursor c p (read_on k r ws)
reading k r Spent = Spent
reading k r (Writer d) = Writer d
reading k r (Maker l) = Maker l
reading k r (Pass of b) = Pass of b

-- an entry of the maker k that was read whole joins the front where it is the next one
abbrev pub joined : ℕ → ℕ → ℕ → List ℕ → List Entry → List Entry
joined k start p ws front =
    cond (is_whole ws && (p == start + length front)) (front ++ entry k ws ∷ []) front

-- the cursor stands at p, and what it has read is dropped
abbrev pub moving : ℕ → Role → Role
moving p (Cursor c q ws) = Cursor c p []
moving p Spent = Spent
moving p (Writer d) = Writer d
moving p (Maker l) = Maker l
moving p (Pass of b) = Pass of b

-- a pass that has seen as much
abbrev pub passing : Role → Role
passing Spent = Spent
passing (Writer d) = Pass 0 (d.owed == 0)
passing (Maker l) = Pass (suc l.number) false
passing (Pass of b) = Pass of b
passing (Cursor c p ws) = Pass 0 false

-- the writer gives out a cursor, and a maker, each with the next number
abbrev pub one_cursor_more : Role → Role
one_cursor_more (Writer d) = Writer record d { cursors = suc d.cursors }
one_cursor_more Spent = Spent
one_cursor_more (Maker l) = Maker l
one_cursor_more (Pass of b) = Pass of b
one_cursor_more (Cursor c p ws) = Cursor c p ws

abbrev pub one_maker_more : Role → Role
one_maker_more (Writer d) = Writer record d { makers = suc d.makers }
one_maker_more Spent = Spent
one_maker_more (Maker l) = Maker l
one_maker_more (Pass of b) = Pass of b
one_maker_more (Cursor c p ws) = Cursor c p ws

abbrev pub next_cursor : ℕ → Role → Role
next_cursor start (Writer d) = Cursor d.cursors start []
next_cursor start Spent = Spent
next_cursor start (Maker l) = Spent
next_cursor start (Pass of b) = Spent
next_cursor start (Cursor c p ws) = Spent

abbrev pub next_maker : Role → Role
next_maker (Writer d) = Maker record {
  number = d.makers;
  looks = 0;
  cursor = 0;
  found = 0;
  was = [];
  sure = false;
}
next_maker Spent = Spent
next_maker (Maker l) = Spent
next_maker (Pass of b) = Spent
next_maker (Cursor c p ws) = Spent

-- the pass was split from a writer that owed nobody
abbrev pub settled : Role → Bool
settled (Pass of b) = b
settled Spent = false
settled (Writer d) = false
settled (Maker l) = false
settled (Cursor c p ws) = false

-- what two seats have seen: the longer list
abbrev pub longest : List Entry → List Entry → List Entry
longest xs ys = cond (nat_lt (length ys) (length xs)) xs ys

module _ {O : Type 0} where
  -- the entry joins the list
  abbrev pub longer_by : Entry → Seen O → Seen O
  longer_by e s = record s {
    front = s.front ++ e ∷ [];
    known = s.terms.start + length (s.front ++ e ∷ []);
  }

  abbrev pub appended : ℕ → View O → View O
  appended k v = record {
    seen = longer_by (entry k (staged_of v.role)) v.seen;
    role = owing k v.role;
  }

  abbrev pub with_staged : ℕ → View O → View O
  with_staged n v = record { seen = v.seen; role = staging n v.role }

  abbrev pub with_word : ℕ → ℕ → View O → View O
  with_word k r v = record { seen = v.seen; role = reading k r v.role }

  -- the head was loaded
  abbrev pub headed : ℕ → Seen O → Seen O
  headed r s = record s { known = r; heads = suc s.heads }

  abbrev pub with_head : ℕ → View O → View O
  with_head r v = record { seen = headed r v.seen; role = v.role }

  abbrev pub lowered : ℕ → ℕ → Seen O → Seen O
  lowered c r s = record s { lows = slice_set s.lows c r }

  abbrev pub with_low : ℕ → ℕ → View O → View O
  with_low c r v = record { seen = lowered c r v.seen; role = looking c r v.role }

  abbrev pub grown : ℕ → Seen O → Role → Seen O
  grown k s (Cursor c p ws) = record s { front = joined k s.terms.start p ws s.front }
  grown k s Spent = s
  grown k s (Writer d) = s
  grown k s (Maker l) = s
  grown k s (Pass of b) = s

  -- the cursor moves to p, and the entry that it has read is of the maker k
  abbrev pub moved_to : ℕ → ℕ → View O → View O
  moved_to k p v = record { seen = grown k v.seen v.role; role = moving p v.role }

  abbrev pub copy_of : View O → View O
  copy_of v = record { seen = record v.seen { heads = 0 }; role = passing v.role }

  abbrev pub gave_cursor : View O → View O
  gave_cursor v = record { seen = v.seen; role = one_cursor_more v.role }

  abbrev pub gave_maker : View O → View O
  gave_maker v = record { seen = v.seen; role = one_maker_more v.role }

  abbrev pub new_cursor : View O → View O
  new_cursor v = record {
    seen = record v.seen { heads = 0 };
    role = next_cursor v.seen.terms.start v.role;
  }

  abbrev pub new_maker : View O → View O
  new_maker v = record { seen = record v.seen { heads = 0 }; role = next_maker v.role }

  -- the view of a seat that was taken in
  abbrev pub spent : O → View O
  spent o = record {
    seen = record {
      terms = record { start = 0; cells = 0; cursors = 0; makers = 0; opening = o };
      front = [];
      known = 0;
      heads = 0;
      lows = [];
      heard = [];
    };
    role = Spent;
  }

  -- what a reader has seen once it took in another
  abbrev pub both_seen : Seen O → Seen O → Seen O
  both_seen s t = record {
    terms = s.terms;
    front = longest s.front t.front;
    known = max s.known t.known;
    heads = s.heads;
    lows = greatest s.lows t.lows;
    heard = s.front;
  }

  -- A maker notes its receipts of before. A writer notes those of a maker, and learns by a pass
  -- that the owed maker has seen the whole list
  abbrev pub taking : Seen O → Role → Seen O → Role → Role
  taking s Spent t r = Spent
  taking s (Maker l) t r = Maker record {
    number = l.number;
    looks = l.looks;
    cursor = l.cursor;
    found = l.found;
    was = receipts s.terms.start l.number s.front;
    sure = settled r;
  }
  taking s (Pass of b) t r = Pass 0 false
  taking s (Cursor c p ws) t r = Cursor c p ws
  taking s (Writer d) t (Pass of b) = Writer record d {
    owed = still_owed d.owed of (length t.front) (length s.front);
    noted = 0;
    receipts = [];
  }
  taking s (Writer d) t (Maker l) = Writer record d {
    noted = cond (d.owed == 0) (suc l.number) 0;
    receipts = receipts s.terms.start l.number t.front;
  }
  taking s (Writer d) t Spent = Writer d
  taking s (Writer d) t (Writer c) = Writer d
  taking s (Writer d) t (Cursor c p ws) = Writer d

  -- the writer's list is whole already
  abbrev pub seen_by : Role → Seen O → Seen O → Seen O
  seen_by (Writer d) s t = record {
    terms = s.terms;
    front = s.front;
    known = max s.known t.known;
    heads = s.heads;
    lows = greatest s.lows t.lows;
    heard = t.front;
  }
  seen_by Spent s t = both_seen s t
  seen_by (Maker l) s t = both_seen s t
  seen_by (Pass of b) s t = both_seen s t
  seen_by (Cursor c p ws) s t = both_seen s t

  abbrev pub taken_in : View O → View O → View O
  taken_in v w = record {
    seen = seen_by v.role v.seen w.seen;
    role = taking v.seen v.role w.seen w.role;
  }

  -- which word of the entry after the position
  abbrev pub which : View O → ℕ → ℕ
  which v i = i - place v.seen.terms (position_of v.role + 1)

  -- What a load of the head tells, by who loads it: it isn't below what was known or seen, what was
  -- seen is lawful, and what was heard begins that. The writer learns that the list is whole and
  -- that the noted maker's receipts are all of its entries, a maker that it has the receipts that
  -- it had, and a cursor how far behind it may be
  module _ (meets : O → List Entry → Type 0) (s : Seen O) (r : ℕ) where
    abbrev pub Tells : Role → Type 0
    Tells Spent = Unit {0}
    Tells (Writer d) =
        (s.known ≤ r) × (r ≡ s.terms.start + length s.front) × meets s.terms.opening s.front
        × ((k : ℕ) → d.noted ≡ suc k → d.receipts ≡ receipts s.terms.start k s.front)
        × IsPrefix s.heard s.front
    Tells (Maker l) =
        (s.known ≤ r) × (s.terms.start + length s.front ≤ r) × meets s.terms.opening s.front
        × (l.sure ≡ true → l.was ≡ receipts s.terms.start l.number s.front)
        × IsPrefix s.heard s.front
    Tells (Pass of b) =
        (s.known ≤ r) × (s.terms.start + length s.front ≤ r) × meets s.terms.opening s.front
        × IsPrefix s.heard s.front
    Tells (Cursor c p ws) =
        (s.known ≤ r) × (s.terms.start + length s.front ≤ r) × meets s.terms.opening s.front
        × (s.terms.start ≤ p) × (p ≤ s.terms.start + length s.front)
        × (r ≤ p + s.terms.cells) × IsPrefix s.heard s.front

module _ {O : Type 0} (meets : O → List Entry → Type 0) (s : Seen O) (p : ℕ) where
  -- These are the words of the entry after p: with it the list is lawful, and where the front has
  -- that entry already, it is this one
  pub record IsNext (ws : List ℕ) : Type 0 where
    pub maker : ℕ
    pub lawful : meets s.terms.opening (take (p - s.terms.start) s.front ++ entry maker ws ∷ [])
    pub seen : (e : Entry) → get_elem? s.front (p - s.terms.start) ≡ some e
        → e ≡ entry maker ws

  -- What a load of the word k tells, where ws are the words read so far and this one: there are no
  -- more than the first one says, and as many are the entry
  pub record IsReading (k r : ℕ) (ws : List ℕ) : Type 0 where
    pub here : slice_index ws k ≡ r
    pub inside : k < length ws
    pub some_words : 0 < told ws
    pub few : told ws ≤ 256
    pub fits : length ws ≤ told ws
    pub next : told ws ≡ length ws → IsNext ws

-- The same as relations between what the seat knew before a step and knows after it
module _ {S O : Type 0} where
  abbrev pub raised : ℕ → Step S → Me S (View O) → ℕ → Me S (View O) → Type 0
  raised k st m r m' = m' ≡ (appended k m.0, m.1)

  abbrev pub staged : Step S → Me S (View O) → ℕ → Me S (View O) → Type 0
  staged st m r m' = m' ≡ (with_staged st.first m.0, m.1)

  abbrev pub loaded : (O → List Entry → Type 0)
      → Step S → Me S (View O) → ℕ → Me S (View O) → Type 0
  loaded meets st m r m' = (m' ≡ (with_head r m.0, m.1)) × Tells meets m.0.seen r m.0.role

  abbrev pub looked : Step S → Me S (View O) → ℕ → Me S (View O) → Type 0
  looked st m r m' =
      (m' ≡ (with_low (st.word - 1) r m.0, m.1))
      × (m.0.seen.known ≤ r + m.0.seen.terms.cells)
      × (slice_index m.0.seen.lows (st.word - 1) ≤ r)

  abbrev pub read : (O → List Entry → Type 0)
      → Step S → Me S (View O) → ℕ → Me S (View O) → Type 0
  read meets st m r m' =
      (m' ≡ (with_word (which m.0 st.word) r m.0, m.1))
      × IsReading meets m.0.seen (position_of m.0.role) (which m.0 st.word) r
      (read_on (which m.0 st.word) r (read_of m.0.role))

  abbrev pub stored : (O → List Entry → Type 0)
      → Step S → Me S (View O) → ℕ → Me S (View O) → Type 0
  stored meets st m r m' =
      (k : ℕ) × (m' ≡ (moved_to k st.first m.0, m.1))
      × meets m.0.seen.terms.opening (moved_to k st.first m.0).seen.front
      × (is_whole (read_of m.0.role) ≡ true
      → get_elem? (moved_to k st.first m.0).seen.front
      (position_of m.0.role - m.0.seen.terms.start)
      ≡ some (entry k (read_of m.0.role)))
