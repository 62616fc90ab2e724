use Rattle.std.proofs.Common.{refl, ap, ◌∙◌}
use Rattle.std.specs.declared.alloc.Global.{Global}
use Rattle.std.specs.declared.vec.Vec.{Vec}
use Rattle.export_core.specs.declared.log.LogItem.{LogItem}
use Rattle.room_open.proofs.channel.open_direction.Goals as goal

pub returns : goal.returns
returns g c = record {
  number = refl;
  exporter = refl;
  log = ap (λ (z : Vec LogItem Global). z.items) c.of-log.ensures ∙ c.log.ensures;
  cursor_is = c.start_if-cursor.ensures.0;
  mode = c.start_if-cursor.ensures.1 ∙ c.is_up.ensures;
  port_is = refl;
}
