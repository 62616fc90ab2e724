-- What operations tell the directions of a pipe.
use Rattle.std.proofs.Common.{◌≡◌, Bool, true, false, refl, sym, ◌∙◌, ap}
use Rattle.std.specs.Prelude.{not, if◌then◌else◌}
use Rattle.import_core.specs.declared.operation.Op.{Op}
use Rattle.import_core.specs.declared.operation.Op.TheVariants as ops
use Rattle.import_core.specs.declared.step.Mark.{Mark}
use Rattle.import_core.specs.declared.step.Mark.TheVariants as mark
use Rattle.core_setup.specs.Protocols.{pipe_signal, signal_of}

pub disabled : (up : Bool) (op : Op) (m : Mark) → op ≡ ops.Disable → m ≡ (if up then mark.Down else mark.Stay) → signal_of m ≡ pipe_signal up op
disabled up op m same is = ap signal_of is ∙ on up ∙ ap (pipe_signal up) (sym same) where
  on : (b : Bool) → signal_of (if b then mark.Down else mark.Stay) ≡ pipe_signal b ops.Disable
  on true = refl
  on false = refl

pub enabled : (up : Bool) (op : Op) (m : Mark) (b : Bool) → b ≡ not up → op ≡ ops.Enable → m ≡ (if b then mark.Up else mark.Stay) → signal_of m ≡ pipe_signal up op
enabled up op m b down same is = ap signal_of (is ∙ ap (λ x. if x then mark.Up else mark.Stay) down) ∙ on up ∙ ap (pipe_signal up) (sym same) where
  on : (b : Bool) → signal_of (if not b then mark.Up else mark.Stay) ≡ pipe_signal b ops.Enable
  on true = refl
  on false = refl

pub reloaded : (up : Bool) (op : Op) (m : Mark) → (op ≡ ops.Reload) → m ≡ (if up then mark.Refresh else mark.Stay) → signal_of m ≡ pipe_signal up op
reloaded up op m same is = ap signal_of is ∙ on up ∙ ap (pipe_signal up) (sym same) where
  on : (b : Bool) → signal_of (if b then mark.Refresh else mark.Stay) ≡ pipe_signal b ops.Reload
  on true = refl
  on false = refl

pub reloaded_in : (up : Bool) (op : Op) (m : Mark) → (op ≡ ops.ReloadIn) → m ≡ (if up then mark.Refresh else mark.Stay) → signal_of m ≡ pipe_signal up op
reloaded_in up op m same is = ap signal_of is ∙ on up ∙ ap (pipe_signal up) (sym same) where
  on : (b : Bool) → signal_of (if b then mark.Refresh else mark.Stay) ≡ pipe_signal b ops.ReloadIn
  on true = refl
  on false = refl

pub reloaded_out : (up : Bool) (op : Op) (m : Mark) → (op ≡ ops.ReloadOut) → m ≡ (if up then mark.Refresh else mark.Stay) → signal_of m ≡ pipe_signal up op
reloaded_out up op m same is = ap signal_of is ∙ on up ∙ ap (pipe_signal up) (sym same) where
  on : (b : Bool) → signal_of (if b then mark.Refresh else mark.Stay) ≡ pipe_signal b ops.ReloadOut
  on true = refl
  on false = refl
