-- For the laws: that a form of two operands evaluates them from left to right (`GoesFromLeft`), and
-- what an attribute is that was unset (`IsGone`).
-- From: own.
-- Example: `1 / 0 + f()` doesn't call `f`.
use Rattle.std.specs.Prelude.{◌≡◌, false, []}
use Rattle.attrs.specs.declared.attributes.Attrs.{Attrs}
use Rattle.conf_ast.specs.declared.attribute.Attribute.{Attribute}
use Rattle.conf_ast.specs.declared.attribute.Attribute.TheVariants as attributes
use Rattle.conf_ast.specs.Filters.{Expression}
use Rattle.filt_meaning.specs.Values.{Val}
use Rattle.filt_meaning.specs.Attributes.{is_defined}
use Rattle.filt_meaning.specs.Flow.{Why, Done, Stopped, Frame}
use Rattle.filt_meaning.specs.Meaning.{value}
use Rattle.filt_meaning.specs.Names.{Context}

-- What stops the left operand stops the whole. What stops the right one, over the attributes that
-- the left one left, stops it too.
pub record GoesFromLeft (form : Expression → Expression → Expression) : Type 0 where
  pub left : (a b : Expression) (c : Context) (vals : Frame) (attrs after : Attrs) (why : Why)
      → value a c vals attrs ≡ Stopped why after
      → value (form a b) c vals attrs ≡ Stopped why after
  pub right :
      (a b : Expression) (c : Context) (vals : Frame) (attrs between after : Attrs) (v : Val)
      (why : Why) → value a c vals attrs ≡ Done v between
      → value b c vals between ≡ Stopped why after
      → value (form a b) c vals attrs ≡ Stopped why after

-- The attribute isn't defined; the lists, which always are, are empty.
abbrev pub IsGone : Attribute → Attrs → Type 0
IsGone attributes.BgpPath attrs = attrs.path ≡ []
IsGone attributes.BgpCommunity attrs = attrs.coms ≡ []
IsGone a attrs = is_defined a attrs ≡ false
