-- A table's history, read backwards, the newest change first (`content_of`, `front`, `entry`,
-- `of_those`): which changes there were, in their order, and the content that they leave (`after`
-- and `IsReal` of attrs).
-- Not modelled: how a table keeps either.
-- From: own.
-- Example: the front at the head is the history.
use Rattle.std.specs.Prelude.{◌≡◌, ◌==◌, ℕ, nat_lt, Bool, List, [], ◌∷◌, length, reverse, Option, Some, None, IfSome, if◌then◌else◌, ⊤}
use Rattle.attrs.specs.declared.route.Change.{Change}
use Rattle.attrs.specs.History.{Content, after, empty, IsReal}

-- the content of a table after its history
abbrev pub content_of : List Change → Content
content_of history = after empty (reverse history)

-- each change differs from what stood for its net and source
abbrev pub AreReal : List Change → Type 0
AreReal history = IsReal empty (reverse history)

-- the history as it was at a position: its first changes, as many as the position says
abbrev pub front : ℕ → List Change → List Change
front p [] = []
front p (c ∷ earlier) = if nat_lt (length earlier) p then c ∷ earlier else front p earlier

-- the change that a reader at a position reads next, and none at the head
abbrev pub entry : ℕ → List Change → Option Change
entry p [] = None
entry p (c ∷ earlier) = if length earlier == p then Some c else entry p earlier

-- the changes whose sources pass a test
abbrev pub of_those : (ℕ → Bool) → List Change → List Change
of_those test [] = []
of_those test (c ∷ earlier) =
    if test c.num then c ∷ of_those test earlier else of_those test earlier

-- the changes of one source
abbrev pub own : ℕ → List Change → List Change
own source history = of_those (λ num. num == source) history

-- the change is of this source, and so is its new route, where there is one
pub record IsFrom (source : ℕ) (c : Change) : Type 0 where
  pub change : c.num ≡ source
  pub route : IfSome c.new (λ route. route.src.num ≡ source)

-- all changes are
abbrev pub AreFrom : ℕ → List Change → Type 0
AreFrom source [] = ⊤
AreFrom source (c ∷ earlier) = IsFrom source c × AreFrom source earlier
