-- For private contracts alone: short pieces of text on their way to another place.
use Rattle.std.specs.Prelude.{◌≡◌, ℕ, List, ◌++◌}
use Rattle.bits_ip.specs.Out.{Kept}
use Rattle.attrs.specs.declared.gather.Gather.{Gather}

-- what the other place has, and what is held
abbrev pub gathered : {W : Type 0} → (W → List ℕ) → Gather W → List ℕ
gathered {W} written text = written text.out.now ++ text.held.items

-- The place is the same, and what followed a first state of it still does.
pub record Gathers {W : Type 0} (follows : W → W → Type 0) (first now : Gather W) : Type 0 where
  pub same : now.out.ghost_name ≡ first.out.ghost_name
  pub kept : Kept follows first.out.now now.out.now
