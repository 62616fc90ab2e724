use Rattle.std.proofs.lemmas.Bool.{false≢true}
use Rattle.std.proofs.Common.{Bool, Option, IsTrue, List, ℕ, arith, length, ◌≡◌, sym, rules, ◌∙◌, subst}
use Rattle.std.specs.Prelude.{IsSome}
use Rattle.outside_io.proofs.Blocks.{IsFront}
use Rattle.outside_io.proofs.Reading.{front_more, whole_at_end, over_limit}
use Rattle.outside_io.proofs.whole.read_blocks.Goals as goal

pub returns-in-Ok-eq0-clause-whole : goal.returns-in-Ok-eq0-clause-whole
returns-in-Ok-eq0-clause-whole g c =
    let inv = c.loop-shelf.invariant in
    let place : c.len-in-loop-shelf.result ≡ length c.loop-shelf.bytes.items = search rules in
    let reads = rw (inv.same, place) at c.in-Ok-eq0.ensures.bytes in
    whole_at_end _ c.loop-shelf.bytes.items c.read_at.new.buf c.in-Ok-eq0.field-0 inv.front (search rules) reads (omega arith) (omega arith)

pub loop-shelf-preserved : goal.loop-shelf-preserved
loop-shelf-preserved g c =
    let inv = c.loop-shelf.invariant in
    let place : c.len-in-loop-shelf.result ≡ length c.loop-shelf.bytes.items = search rules in
    let reads = rw (inv.same, place) at c.in-Ok.ensures.bytes in
    record {
      front = subst (IsFront _) (sym (c.in_ok-extend_from_slice-in-Ok.ensures.items)) (front_more _ c.loop-shelf.bytes.items c.read_at.new.buf c.in-Ok.count inv.front reads c.in-Ok.ensures.bound.0);
      same = c.read_at.ensures.held ∙ inv.same;
      lacks = c.read_at.ensures.lacks ∙ inv.lacks;
      unread = λ gone. absurd (false≢true (c.in-Ok.ensures.absent (subst (λ (f : List ℕ → Bool). IsTrue (f c.args.name.now)) (sym inv.lacks) gone)));
      later = omega arith;
      none_fell = λ other. omega (arith, inv.none_fell other, c.read_at.ensures.none_fell other);
      others = λ other differs told. c.read_at.ensures.others other differs (subst (λ (f : List ℕ → Option (List ℕ)). IsSome (f other)) (sym inv.same) told) ∙ inv.others other differs told;
    }

pub returns-clause-long : goal.returns-clause-long
returns-clause-long g c said =
    let long : length c.loop-shelf.bytes.items ≡ c.len.result = search rules in
    over_limit _ c.loop-shelf.bytes.items c.loop-shelf.invariant.front (omega arith)
