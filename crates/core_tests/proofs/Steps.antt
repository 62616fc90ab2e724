-- What stays in a pipe's direction when it pushes and withdraws, and what a chunk without rows is.
use Rattle.std.proofs.Common.{◌≡◌, true, false, List, [], Option, Some, None, refl, sym, ◌∙◌, ap}
use Rattle.bits_ip.specs.Prefix.{Net}
use Rattle.attrs.specs.declared.journal.Chunk.{Chunk}
use Rattle.attrs.specs.declared.judge.Verdict.{Verdict}
use Rattle.attrs.specs.declared.route.Route.{Route}
use Rattle.export_core.specs.declared.exporter.Pushed.{Pushed}
use Rattle.export_core.specs.declared.exporter.Pushed.TheVariants as pushed
use Rattle.export_core.specs.declared.log.Sending.{Sending}
use Rattle.export_core.specs.declared.passing.ExportSpec.{ExportSpec}
use Rattle.export_core.specs.Calls.{FlushesBy, Pushes}
use Rattle.export_core.specs.Candidates.{IsChunk}
use Rattle.export_core.specs.States.{State}

module _ {J : Type 0} where
  pub pushed_every : (verdict : J → Net → Route → Verdict) (answer : Pushed) (e e' : State J) (told told' : Option (List Sending)) → Pushes verdict e e' told told' answer → e.spec.every ≡ true → e'.spec.every ≡ true
  pushed_every verdict pushed.Nothing e e' told told' p is = ap (λ e. e.spec.every) p.1 ∙ is
  pushed_every verdict pushed.Quiet e e' told told' p is = ap (λ s. s.every) p.2.pops.spec ∙ is
  pushed_every verdict pushed.Sent e e' told told' p is = ap (λ s. s.every) p.2.pops.spec ∙ is

  pub flushed_every : (answer : Pushed) (e e' : State J) (told told' : Option (List Sending)) → FlushesBy e e' told told' answer → e.spec.every ≡ true → e'.spec.every ≡ true
  flushed_every pushed.Nothing e e' told told' p is = ap (λ e. e.spec.every) p.1 ∙ is
  flushed_every pushed.Quiet e e' told told' p is = absurd p
  flushed_every pushed.Sent e e' told told' p is = ap (λ s. s.every) p.1.spec ∙ is

pub whole_chunk : (spec : ExportSpec) (chunk : Chunk) → chunk.from ≡ None → chunk.upto ≡ None → IsChunk spec chunk
whole_chunk spec chunk from upto = record {
  forward = λ end e. absurd (none_some (sym upto ∙ e));
  within = λ k out. absurd (true_false (sym (rw (from, upto) refl) ∙ out));
} where
  none_some : {A : Type 0} {x : A} → None ≡ Some x → ⊥
  none_some e = cc

  true_false : true ≡ false → ⊥
  true_false e = cc
