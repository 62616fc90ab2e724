-- What a list of changes leaves of a table (`last_of`, `after`, `content_at`), and that each change
-- is a real one (`IsReal`).
-- From: own.
-- Example: an `add` given twice is one change.
use Rattle.std.specs.Prelude.{◌≢◌, ℕ, Bool, ◌&&◌, ◌==◌, if◌then◌else◌, List, [], ◌∷◌, Option, Some, None, unwrap_or, take, ⊤}
use Rattle.bits_ip.specs.Prefix.{Net, same_net}
use Rattle.attrs.specs.declared.route.Route.{Route}
use Rattle.attrs.specs.declared.route.Change.{Change}

-- A content gives each key, a net and a source's number, the route that stands there, or none.
abbrev pub Content : Type 0
Content = Net → ℕ → Option Route

abbrev pub empty : Content
empty net num = None

-- the change is of this key
abbrev pub is_of : Net → ℕ → Change → Bool
is_of net num c = same_net net c.net && (num == c.num)

abbrev pub or_else : {X : Type 0} → Option X → Option X → Option X
or_else None other = other
or_else (Some x) other = Some x

-- what the last change of the key in a list leaves there, and nothing where it has none
abbrev pub last_of : Net → ℕ → List Change → Option (Option Route)
last_of net num [] = None
last_of net num (c ∷ cs) =
    or_else (last_of net num cs) (if is_of net num c then Some c.new else None)

-- the content after these changes: a key has the route of its last change, and what stood there
-- where it has none
abbrev pub after : Content → List Change → Content
after start changes net num = unwrap_or (last_of net num changes) (start net num)

-- each change differs from what stands for its key after the changes before it
abbrev pub IsReal : Content → List Change → Type 0
IsReal start [] = ⊤
IsReal start (c ∷ cs) = (start c.net c.num ≢ c.new) × IsReal (after start (c ∷ [])) cs

-- the content of a table after the first changes of its history
abbrev pub content_at : ℕ → List Change → Content
content_at position history = after empty (take position history)
