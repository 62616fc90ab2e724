use Rattle.std.proofs.Common.{◌≡◌, ◌∙◌, refl, sym, ap, subst, is_some, option_map, Some, false, List, [], ◌∷◌, ◌++◌}
use Rattle.std.specs.Prelude.{◌&&◌, IsSome}
use Rattle.export_core.specs.declared.log.Key.{Key}
use Rattle.attrs.specs.declared.route.Route.{Route}
use Rattle.export_core.specs.declared.floors.Floor.{Floor}
use Rattle.export_core.specs.Candidates.{AddsNone, IsChunk, best_in, covers}
use Rattle.export_core.specs.Marks.{find}
use Rattle.export_core.specs.Standing.{index_at}
use Rattle.export_core.proofs.Families.{families_fed, families_same, told_num}
use Rattle.export_core.specs.Families.{IsKeyOf}
use Rattle.export_core.proofs.Feeding.{feeds_from, feeds_of, fed_stands_for}
use Rattle.export_core.proofs.Kept.{some_stands}
use Rattle.export_core.proofs.exporter.Exporter.fed.Goals as goal

pub invariant_of-self-in_err-put_all : goal.invariant_of-self-in_err-put_all
invariant_of-self-in_err-put_all g c = (c.self.invariant.0, families_same _ _ _ _ _ c.self.invariant.1 (λ q. ap (find q) c.in_err-put_all.ensures.refused) (λ q. refl))

pub invariant_of-self-2 : goal.invariant_of-self-2
invariant_of-self-2 g c = (
  c.self.invariant.0,
  families_fed _ c.args.chunk.now c.args.chunk.now.at c.self.inside.refreshing c.self.inside.marks _ c.self.inside.sent c.in_ok-candidates.candidates.entries c.add_to.new.candidates.entries c.add_to-2.new.candidates.entries c.self.invariant.1
      (λ k. c.in_ok-candidates.ensures k ∙ ap (λ rows. option_map (λ (r : Route). Some r) (best_in c.self.inside.through.spec k rows)) c.as_slice.ensures)
      (subst (λ f. AddsNone (λ k. covers f k && is_some (find k c.self.inside.marks)) c.in_ok-candidates.candidates.entries c.add_to.new.candidates.entries) c.of_chunk-range.ensures c.in_ok-add_to.ensures)
      (subst (λ f. AddsNone (λ k. covers f k && is_some (index_at k c.self.inside.sent)) c.add_to.new.candidates.entries c.add_to-2.new.candidates.entries) c.of_chunk-range.ensures c.in_ok-add_to-2.ensures)
      c.in_ok-put_all.ensures.marks
      (subst (λ e. (k : Key) → IsSome (best_in e.spec k c.args.chunk.now.rows) → IsKeyOf e.spec k) (sym c.self.view_is) (λ k i. record { family = c.requires.family k i; num = told_num c.args.self.now.spec k c.args.chunk.now.rows i })),
)

pub returns-clause-feeds : goal.returns-clause-feeds
returns-clause-feeds g c =
    let chunk = c.args.chunk.now in
    feeds_from chunk _ _ _ c.self.view_is (feeds_of chunk (λ k. is_some (index_at k c.self.inside.sent)) _ _
    (record {
      spec = refl;
      judge = refl;
      log = refl;
      position = refl;
      refreshing = refl;
      flushing = refl;
      left = refl;
      feed = c.after_chunk-self-inside.ensures;
      floors = c.push_back_reserved.ensures.items ∙ ap (λ (fs : List Floor). fs ++ c.of_chunk-range.result ∷ []) c.reserve.ensures.items ∙ ap (λ (f : Floor). c.self.inside.floors.items ++ f ∷ []) c.of_chunk-range.ensures;
      chunk_is = subst (λ e. IsChunk e.spec chunk) (sym c.self.view_is) c.requires.chunk;
      stands_are = some_stands c.self.inside.flushing c.self.inside.up c.self.inside.sent c.self.inside.log.items (subst (λ e. e.flushing ≡ false) (sym c.self.view_is) c.requires.stays) c.self.invariant.0;
      rows = c.in_ok-candidates.candidates.entries;
      with_marks = c.add_to.new.candidates.entries;
      with_sent = c.add_to-2.new.candidates.entries;
      rows_are = λ k. c.in_ok-candidates.ensures k ∙ ap (λ rows. option_map (λ (r : Route). Some r) (best_in c.self.inside.through.spec k rows)) c.as_slice.ensures;
      marks_are = subst (λ f. AddsNone (λ k. covers f k && is_some (find k c.self.inside.marks)) c.in_ok-candidates.candidates.entries c.add_to.new.candidates.entries) c.of_chunk-range.ensures c.in_ok-add_to.ensures;
      sent_are = subst (λ f. AddsNone (λ k. covers f k && is_some (index_at k c.self.inside.sent)) c.add_to.new.candidates.entries c.add_to-2.new.candidates.entries) c.of_chunk-range.ensures c.in_ok-add_to-2.ensures;
      ascend = c.put_all.ensures.ascend;
      marks = c.in_ok-put_all.ensures.marks;
      order = c.in_ok-put_all.ensures.order;
    }))

pub returns-clause-stands : goal.returns-clause-stands
returns-clause-stands g c = λ course is s. fed_stands_for g.J.Judge.verdict course c.args.chunk.now _ _ (returns-clause-feeds g c) c.requires.here c.requires.later c.requires.chunk is s
