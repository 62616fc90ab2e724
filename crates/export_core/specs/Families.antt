-- For private contracts alone: the keys of an exporter are of its family, and of a number it has.
use Rattle.std.specs.Prelude.{◌≡◌, ℕ, true, List, Option, IsSome}
use Rattle.export_core.specs.declared.passing.ExportSpec.{ExportSpec}
use Rattle.export_core.specs.Candidates.{has_num}
use Rattle.bits_ip.specs.Address.{family_of}
use Rattle.export_core.specs.declared.log.Key.{Key}
use Rattle.export_core.specs.Marks.{Listed, find}
use Rattle.export_core.specs.Standing.{index_at}

-- the key is one that the channel has: of its family, and of a number that it has
pub record IsKeyOf (spec : ExportSpec) (k : Key) : Type 0 where
  pub family : family_of k.net.addr ≡ spec.family
  pub num : has_num spec k.num ≡ true

-- those that have a mark, and those of which a value stands
pub record AreOfFamily
    (spec : ExportSpec) (marks : Listed) (sent : List (Key × Option ℕ)) : Type 0 where
  pub marked : (k : Key) → IsSome (find k marks) → IsKeyOf spec k
  pub stands : (k : Key) → IsSome (index_at k sent) → IsKeyOf spec k
