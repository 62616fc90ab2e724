-- For the laws: values within their limits (`IsWithin`): a path has at most 120 numbers, and a list
-- of communities at most 64 pairs, as the paths and lists of each route in memory have (`Path` and
-- `Clist` of attrs).
-- From: own.
-- Example: a path of 121 numbers isn't within them.
use Rattle.std.specs.Prelude.{◌≤◌, length, All, IfSome, ⊤}
use Rattle.attrs.specs.declared.attributes.Attrs.{Attrs}
use Rattle.filt_meaning.specs.Values.{Val, VPath, VClist}
use Rattle.filt_meaning.specs.Flow.{Why, Returned, Flow, Done, Stopped, Frame}
use Rattle.filt_meaning.specs.Names.{Context, Doing}

abbrev pub IsWithin : Val → Type 0
IsWithin (VPath path) = length path ≤ 120
IsWithin (VClist pairs) = length pairs ≤ 64
IsWithin _ = ⊤

abbrev pub AreWithin : Frame → Type 0
AreWithin vals = All IsWithin vals

pub record AttrsAreWithin (attrs : Attrs) : Type 0 where
  pub path : length attrs.path ≤ 120
  pub coms : length attrs.coms ≤ 64

-- what `return` gives
abbrev pub GivesWithin : Why → Type 0
GivesWithin (Returned v) = IsWithin v
GivesWithin _ = ⊤

-- What a flow leaves is within limits: its attributes, a value that it returns, and what it has
-- given where it is done.
abbrev pub Leaves : {A : Type 0} → (A → Type 0) → Flow A → Type 0
Leaves Good (Done a attrs) = Good a × AttrsAreWithin attrs
Leaves Good (Stopped why attrs) = GivesWithin why × AttrsAreWithin attrs

-- over arguments and attributes within limits a function leaves such, and gives a value within them
abbrev pub KeepsLimits : Doing → Type 0
KeepsLimits f = (arguments : Frame) (attrs : Attrs) → AreWithin arguments → AttrsAreWithin attrs
    → Leaves (λ result. IfSome result IsWithin) (f arguments attrs)

-- constants within limits, and functions that keep them
pub record ContextIsWithin (c : Context) : Type 0 where
  pub constants : All (λ x. IsWithin x.1) c.constants
  pub functions : All (λ f. KeepsLimits f.1) c.functions
