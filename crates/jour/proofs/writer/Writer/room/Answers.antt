use Rattle.std.proofs.Common.{rules, ◌∙◌, arith}
use Rattle.jour.proofs.Told.{prefix_then}
use Rattle.jour.proofs.writer.Writer.room.Goals as goal

pub loop-cursor-preserved : goal.loop-cursor-preserved
loop-cursor-preserved g c =
    let i = c.loop-cursor.invariant in let r = c.room_at.ensures in
    let looks = i.counts.0 in let more_looks = r.counts.0 in let loads = i.counts.1 in let more_loads = r.counts.1 in
    record {
      writer = (r.writer.0 ∙ i.writer.0, r.writer.1 ∙ i.writer.1);
      maker = (r.maker.0 ∙ i.maker.0, r.maker.1 ∙ i.maker.1, r.maker.2 ∙ i.maker.2);
      told = λ same. r.told (i.told same);
      counts = (omega arith, omega arith);
      prefix = prefix_then _ _ _ i.prefix r.prefix;
      rooms = search rules;
    }
