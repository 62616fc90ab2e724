-- That later turns keep the channels of sessions.
use Rattle.std.proofs.Common.{◌≡◌, ℕ, zero, suc, List, [], ◌∷◌, reverse, Some, None, Option, refl, sym, ap, subst, ◌∙◌, false}
use Rattle.std.specs.Prelude.{slice_get}
use Rattle.std.specs.List.{AllByRecursion}
use Rattle.std.proofs.lemmas.List.{append_cancel_right}
use Rattle.attrs.specs.declared.judge.Verdict.{Verdict}
use Rattle.attrs.specs.declared.route.Change.{Change}
use Rattle.attrs.specs.declared.route.Route.{Route}
use Rattle.atomic_table.specs.Seated.{TableId}
use Rattle.bits_ip.specs.Prefix.{Net}
use Rattle.jour_rule.specs.declared.views.Terms.{Terms}
use Rattle.table_shared.specs.Opening.{TableOpening}
use Rattle.jour_rule.specs.declared.views.Entry.{Entry}
use Rattle.jour.specs.Seats.{front}
use Rattle.core_machine.specs.Signals.{without_sends}
use Rattle.phase_legal.specs.Shown.{HandView}
use Rattle.phase_legal.specs.Stamps.{items_in}
use Rattle.import_lock.specs.Terms.{ImportTerms}
use Rattle.export_lock.specs.Kept.{GoesOn}
use Rattle.export_lock.specs.Terms.{ExportTerms}
use Rattle.export_lock.specs.declared.state.ExportState.{ExportState}
use Rattle.phase_close.specs.Closed.{AreLater, IsEnding, IsLater, SessionTerms, TableList}
use Rattle.phase_close.specs.Left.{AreChannelsLeft, AreMarks, IsChannelLeft, IsImportLeft, IsSessionLeft}
use Rattle.phase_close.specs.Whole.{IsOver}
use Rattle.phase_close.specs.declared.session.SessionLeft.{SessionLeft}

pub all_placed : {X : Type 0} (P : X → Type 0) (xs : List X) → ((i : ℕ) (x : X) → slice_get xs i ≡ Some x → P x) → AllByRecursion P xs
all_placed P [] f = tt
all_placed P (x ∷ xs) f = (f zero x refl, all_placed P xs (λ i. f (suc i)))

pub marks_kept : {J : Type 0} (verdict : J → Net → Route → Verdict) (key : ImportTerms) (list : List Entry) (made : List (ℕ × Change)) (channel : ExportTerms) (old new : ExportState J) → IsChannelLeft verdict key list made channel old → GoesOn verdict old new
    → without_sends (reverse new.exporter.log) ≡ without_sends (reverse old.exporter.log) → IsChannelLeft verdict key list made channel new
marks_kept verdict key list made channel old new left goes same =
    let exports = goes false channel left.exports in
    let before = without_sends channel.log in
    record {
      exports = exports;
      are =
          subst (AreMarks key list made)
          (append_cancel_right (items_in (front old.marks.1)) (items_in (front new.marks.1)) before (sym left.exports.marked ∙ sym same ∙ exports.marked))
          left.are;
    }

-- a session whose channel has gone on is left as before
module _ {J : Type 0} (verdict : J → Net → Route → Verdict) where
  later_channels : (key : ImportTerms) (list : List Entry) (made : List (ℕ × Change)) (lock : Option ExportTerms) (old new : Option (ExportState J)) → AreLater verdict old new → AreChannelsLeft verdict key list made lock old → AreChannelsLeft verdict key list made lock new
  later_channels key list made None None None later left = tt
  later_channels key list made None None (Some b) later left = absurd later
  later_channels key list made None (Some a) new later left = absurd left
  later_channels key list made (Some lock) None new later left = absurd left
  later_channels key list made (Some lock) (Some a) None later left = absurd later
  later_channels key list made (Some lock) (Some a) (Some b) later left = record {
    exports = later.0 false lock left.exports;
    are = subst (λ m. AreMarks key list made (items_in (front m.1))) (sym later.1) left.are;
  }

  module _ (old new : SessionLeft J) (later : IsLater verdict old new) where
    pub later_left : (key : ImportTerms) (lock : Option ExportTerms) (hands : List HandView) → IsSessionLeft verdict key lock hands old → IsSessionLeft verdict key lock hands new
    later_left key lock hands left = record {
      list = left.list;
      made = left.made;
      imports =
          subst (λ z. IsImportLeft verdict key hands z new.ops.items new.port left.list left.made) (sym later.importer)
          (subst (λ z. IsImportLeft verdict key hands old.importer z.items new.port left.list left.made) (sym later.ops)
          (subst (λ z. IsImportLeft verdict key hands old.importer old.ops.items z left.list left.made) (sym later.port) left.imports));
      channels = later_channels key left.list left.made lock old.channel new.channel later.channel left.channels;
    }

    pub later_ending : (lists : List TableList) (key : SessionTerms) → IsEnding verdict lists key old → IsEnding verdict lists key new
    later_ending lists key is = record {
      left_is = later_left key.protocol key.channel key.hands is.left_is;
      channel_is = is.channel_is;
      entries = is.entries;
      there = ap (slice_get lists) later.table ∙ is.there;
    }

    pub later_over : (tables : List (TableId × Terms TableOpening)) (key : SessionTerms) → IsOver verdict tables key old → IsOver verdict tables key new
    later_over tables key is = record {
      left_is = later_left key.protocol key.channel key.hands is.left_is;
      channel_is = is.channel_is;
      there = ap (slice_get tables) later.table ∙ is.there;
    }
