-- For private contracts alone: which protocols begin with a start, which scripts can be run, and
-- phases that are over.
use Rattle.std.specs.Prelude.{◌≡◌, ◌<◌, ◌≤◌, ◌++◌, ℕ, false, true, Bool, List, [], ◌∷◌, length, map}
use Rattle.attrs.specs.declared.attributes.Kind.{Kind}
use Rattle.attrs.specs.declared.attributes.Kind.TheVariants.{Bgp, Static}
use Rattle.attrs.specs.declared.judge.Verdict.{Verdict}
use Rattle.attrs.specs.declared.route.Route.{Route}
use Rattle.bits_ip.specs.Prefix.{Net}
use Rattle.bits_ip.specs.declared.address.Family.{Family}
use Rattle.core_setup.specs.Channels.{channels_from}
use Rattle.phase_answers.specs.declared.lent.Lent.{Lent}
use Rattle.room_ends.specs.declared.played.PlayedRoom.{PlayedRoom}
use Rattle.script_lines.specs.declared.script.Line.{Line}
use Rattle.std.specs.declared.alloc.Global.{Global}
use Rattle.std.specs.declared.vec.Vec.{Vec}
use Rattle.sys_run.specs.Parts.{protocol_seen}
use Rattle.sys_run.specs.declared.parts.BodyParts.{BodyParts}
use Rattle.sys_run.specs.declared.parts.BodyParts.TheVariants.{Pipe, Source}
use Rattle.sys_run.specs.declared.parts.ProtocolParts.{ProtocolParts}
use Rattle.sys_threads.specs.declared.parts.LentParts.{LentParts}
use Rattle.sys_threads.specs.declared.playing.Earlier.{Earlier}

-- ---- starts

-- a start where the protocol is static
abbrev pub is_static : Kind → Bool
is_static Static = true
is_static Bgp = false

abbrev pub begins : {J : Type 0} → BodyParts J → Bool
begins (Source p) = is_static p.spec.kind
begins (Pipe p) = false

-- one number more, where it begins with a start
abbrev pub with_number : Bool → ℕ → List ℕ → List ℕ
with_number true number numbers = numbers ++ number ∷ []
with_number false number numbers = numbers

-- ---- which scripts can be run

-- a room has seats for tables and actors
pub record HasSeats {J : Type 0} (parts : LentParts J) (actors : ℕ) : Type 0 where
  pub tables : length parts.tables.now ≤ 1024
  pub cells : (0 < parts.cells) × (parts.cells ≤ 4096)
  pub seats : actors < 1024

-- and for protocols, and their channels
pub record AreFew
    {J : Type 0} (verdict : J → Net → Route → Verdict) (protocols : List (ProtocolParts J))
    : Type 0 where
  pub protocols_few : length protocols ≤ 512
  pub channels_few :
      (tables : List (List ℕ × Family))
      → length (channels_from tables 0 (map (protocol_seen verdict) protocols)) ≤ 512

-- ---- the phases that are over

-- one more, of these lines, which came to this
pub record IsOneMore
    {J : Type 0} (old : List (Earlier J)) (lines : Vec Line Global) (made : PlayedRoom (Lent J))
    (new : List (Earlier J)) : Type 0 where
  pub phase : Earlier J
  pub new_is : new ≡ old ++ phase ∷ []
  pub lines_are : phase.lines.value ≡ lines
  pub made_is : phase.made.value ≡ made
