-- The marks of a channel, once its stamp has ended.
use Rattle.std.proofs.Common.{◌≡◌, ℕ, refl, ap, ◌∙◌}
use Rattle.atomic_table.specs.Seated.{TableId}
use Rattle.attrs.specs.declared.judge.Verdict.{Verdict}
use Rattle.attrs.specs.declared.route.Route.{Route}
use Rattle.bits_ip.specs.Prefix.{Net}
use Rattle.jour_rule.specs.Journal.{receipts}
use Rattle.jour_rule.specs.Laws.{AreOfMakers}
use Rattle.jour_rule.specs.declared.views.View.{View as Seat}
use Rattle.jour.specs.Seats.{front, number_of, own}
use Rattle.phase_legal.specs.Stamps.{items_in}
use Rattle.import_lock.specs.Kept.{items_of_stamp}
use Rattle.export_lock.specs.Kept.{IsExports}
use Rattle.export_lock.specs.Terms.{ExportTerms}
use Rattle.export_lock.specs.declared.state.ExportState.{ExportState}
use Rattle.export_lock.proofs.Marking.{told_list}

module _ {J : Type 0} (verdict : J → Net → Route → Verdict) (key : ExportTerms) (a : ExportState J) where
  -- a stamp's own marks are all of them
  pub all_marked : (s : TableId × Seat ℕ) → receipts s.1.seen.terms.start (number_of s.1.role) (front a.marks.1) ≡ own s.1 → AreOfMakers a.marks.1.seen.terms.opening (front a.marks.1) → IsExports verdict key a → number_of s.1.role ≡ 0 → items_in (front a.marks.1) ≡ items_of_stamp s
  all_marked s said are o number =
      told_list s (s.0, record { seen = record s.1.seen { front = front a.marks.1 }; role = s.1.role }) (front a.marks.1) a.marks.1.seen.terms.opening refl number said (ap (λ z. z.1.opening) o.marks ∙ o.makers) are
