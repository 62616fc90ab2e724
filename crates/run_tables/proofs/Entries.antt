-- What a direction of a pipe sent last, and its change.
use Rattle.std.proofs.Common.{◌≡◌, ◌-◌, List, ◌∷◌, Option, Some, ap, subst, sym, ◌∙◌, length, reverse}
use Rattle.std.specs.Prelude.{IfOk, slice_get}
use Rattle.std.specs.declared.result.Result.{Result}
use Rattle.std.proofs.lemmas.Result.{IfOk-weaker}
use Rattle.bits_ip.specs.declared.memory.OutOfMemory.{OutOfMemory}
use Rattle.attrs.specs.declared.route.Change.{Change}
use Rattle.attrs.specs.declared.route.Src.{Src}
use Rattle.export_core.specs.declared.log.LogItem.{LogItem}
use Rattle.export_core.specs.declared.log.LogItem.TheVariants.{Sent}
use Rattle.export_core.specs.declared.log.Sending.{Sending}
use Rattle.core_machine.specs.Match.{change_of_sending}
use Rattle.core_machine.specs.Rules.{Rules}
use Rattle.run_tables.specs.Channels.{AreSources}
use Rattle.run_tables.proofs.Journals.{last_item}

pub sent_last : (log items : List LogItem) (item : LogItem) (x : Sending) → items ≡ log → slice_get items (length items - 1) ≡ Some item → item ≡ Sent x → (earlier : List LogItem) × (reverse log ≡ Sent x ∷ earlier)
sent_last log items item x same at is = last_item log (Sent x) (subst (λ (l : List LogItem). slice_get l (length l - 1) ≡ Some (Sent x)) same (at ∙ ap Some is))

sending_of : (log earlier before : List LogItem) (x y : Sending) → reverse log ≡ Sent x ∷ earlier → reverse log ≡ Sent y ∷ before → x ≡ y
sending_of log earlier before x y ex ey = let both : Sent x ∷ earlier ≡ Sent y ∷ before = sym ex ∙ ey in cc

pub same_entered : (r : Result (Option Change) OutOfMemory) (log : List LogItem) (x : Sending) (sources : List Src) (earlier : List LogItem) → reverse log ≡ Sent x ∷ earlier
    → IfOk r (λ change. (rules : Rules) → AreSources rules sources → change ≡ change_of_sending rules x)
    → IfOk r (λ change. (rules : Rules) (y : Sending) (before : List LogItem) → AreSources rules sources → reverse log ≡ Sent y ∷ before → change ≡ change_of_sending rules y)
same_entered r log x sources earlier ex made =
    IfOk-weaker r (λ change. (rules : Rules) → AreSources rules sources → change ≡ change_of_sending rules x)
    (λ change. (rules : Rules) (y : Sending) (before : List LogItem) → AreSources rules sources → reverse log ≡ Sent y ∷ before → change ≡ change_of_sending rules y)
    (λ change is rules y before are ey. is rules are ∙ ap (change_of_sending rules) (sending_of log earlier before x y ex ey)) made
