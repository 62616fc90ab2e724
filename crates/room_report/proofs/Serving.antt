-- The channels of what is played are those of its protocols, in their order, by the numbers under
-- which they are printed.
use Rattle.std.proofs.Common.{◌≡◌, ℕ, suc, ◌+◌, ◌<◌, ◌≤◌, List, [], ◌∷◌, ◌++◌, length, Option, Some, None, is_some, refl, sym, ap, subst, ◌∙◌, append-nil, arith, zero-add}
use Rattle.std.specs.Prelude.{◌==◌, IfSome, codes, if◌then◌else◌, slice_get}
use Rattle.std.proofs.lemmas.Bool.{cond-false, false≢true, ne_eqb}
use Rattle.bits_ip.specs.declared.address.Family.{Family}
use Rattle.export_core.specs.States.{State}
use Rattle.core_machine.specs.Legal.{Joined, Printed}
use Rattle.core_machine.specs.Lines.{Line}
use Rattle.core_setup.specs.Channels.{Channel, channel_at, channels, channels_from, channels_in, direction, numbers_of, session}
use Rattle.core_setup.specs.Pairs.{Pairs}
use Rattle.core_setup.specs.Reports.{is_direction}
use Rattle.core_setup.specs.Setup.{Exports, Pipe as PlayedPipe, Protocol, Setup}
use Rattle.core_setup.proofs.Numbered.{itself_is}
use Rattle.phase_close.specs.declared.seats.SessionEnded.{SessionEnded}
use Rattle.pipe_close.specs.declared.end.PipeEnded.{PipeEnded}
use Rattle.room_ends.specs.declared.ended.MemberEnded.{MemberEnded}
use Rattle.room_ends.specs.declared.ended.MemberEnded.TheVariants.{Own, Pipe}
use Rattle.room_ends.specs.Prints.{PrintsChannel, PrintsMember, PrintsPipe, PrintsSession}
use Rattle.room_report.specs.Described.{IsMemberOf, IsPipeOf, MayStand}
use Rattle.room_report.specs.Inside.{Served, lane, own_served, pipe_served, served, served_in, text_of, with_target}
use Rattle.room_report.specs.declared.naming.ChannelKind.TheVariants as kind

-- ---- what is left of all channels behind some

-- behind so many channels, and the protocols below a number, these are left
record IsRest (all : List Channel) (i c : ℕ) (rest : List Channel) : Type 0 where
  at : (k : ℕ) → slice_get all (c + k) ≡ slice_get rest k
  numbers : (owner : ℕ) → i ≤ owner → numbers_of owner 0 all ≡ numbers_of owner c rest

none_on : (all : List Channel) (i j c : ℕ) (rest : List Channel) → i ≤ j → IsRest all i c rest → IsRest all j c rest
none_on all i j c rest w is = record { at = is.at; numbers = λ owner least. is.numbers owner (omega (arith, w, least)) }

one_on : (all : List Channel) (i j c : ℕ) (channel : Channel) (rest : List Channel) → i ≤ j → channel.owner < j → IsRest all i c (channel ∷ rest) → IsRest all j (c + 1) rest
one_on all i j c channel rest w below is = record {
  at = λ k. let next : c + 1 + k ≡ c + suc k = omega arith in ap (slice_get all) next ∙ is.at (suc k);
  numbers = λ owner least.
      is.numbers owner (omega (arith, w, least))
      ∙ cond-false (channel.owner == owner) (c ∷ numbers_of owner (c + 1) rest) (numbers_of owner (c + 1) rest)
      (ne_eqb channel.owner owner (λ e. let bad : 1 ≤ 0 = omega (arith, e, below, least) in omega (arith, bad)));
}

head_same : (a b : ℕ) (xs ys : List ℕ) → a ∷ xs ≡ b ∷ ys → a ≡ b
head_same a b xs ys e = cc

tail_same : (a b : ℕ) (xs ys : List ℕ) → a ∷ xs ≡ b ∷ ys → xs ≡ ys
tail_same a b xs ys e = cc

-- the numbers of the two channels that come next
module _ (all : List Channel) (i c : ℕ) (a b : Channel) (rest : List Channel) (is : IsRest all i c (a ∷ b ∷ rest)) (ea : a.owner ≡ i) (eb : b.owner ≡ i) (m n : ℕ) (listed : numbers_of i 0 all ≡ m ∷ n ∷ []) where
  two_next : m ∷ n ∷ [] ≡ c ∷ (c + 1) ∷ numbers_of i (c + 1 + 1) rest
  two_next =
      sym listed ∙ is.numbers i (omega arith)
      ∙ ap (λ t. if t then c ∷ numbers_of i (c + 1) (b ∷ rest) else numbers_of i (c + 1) (b ∷ rest)) (ap (λ o. o == i) ea ∙ itself_is i)
      ∙ ap (λ t. c ∷ (if t then (c + 1) ∷ numbers_of i (c + 1 + 1) rest else numbers_of i (c + 1 + 1) rest)) (ap (λ o. o == i) eb ∙ itself_is i)

  first_next : m ≡ c
  first_next = head_same m c (n ∷ []) ((c + 1) ∷ numbers_of i (c + 1 + 1) rest) two_next

  second_next : n ≡ c + 1
  second_next = head_same n (c + 1) [] (numbers_of i (c + 1 + 1) rest) (tail_same m c (n ∷ []) ((c + 1) ∷ numbers_of i (c + 1 + 1) rest) two_next)

-- a pipe's directions
abbrev out_of : List (List ℕ × Family) → ℕ → List ℕ → PlayedPipe → Channel
out_of tables number name pipe = direction tables number name (codes ".export") pipe.primary pipe.peer pipe.export

abbrev back_of : List (List ℕ × Family) → ℕ → List ℕ → PlayedPipe → Channel
back_of tables number name pipe = direction tables number name (codes ".import") pipe.peer pipe.primary pipe.import

abbrev directions : List (List ℕ × Family) → ℕ → List ℕ → PlayedPipe → List Channel
directions tables number name pipe = out_of tables number name pipe ∷ back_of tables number name pipe ∷ []

-- the same of all channels of what is played
abbrev Rest : Setup → ℕ → ℕ → List Channel → Type 0
Rest setup i c rest = IsRest (channels setup) i c rest

here_is : (setup : Setup) (i c : ℕ) (channel : Channel) (rest : List Channel) → Rest setup i c (channel ∷ rest) → channel_at setup c ≡ Some channel
here_is setup i c channel rest is = let none : c ≡ c + 0 = omega arith in ap (slice_get (channels setup)) none ∙ is.at 0

module _ {J : Type 0} (setup : Setup) (lines : List Line) (past : Joined) (p : Printed) where
  -- what is played as this channel, printed under this number, is that of a protocol here
  pub record Fits (c : ℕ) (channel : Channel) (s : Served J) : Type 0 where
    pub there : channel_at setup c ≡ Some channel
    pub protocol : Protocol
    pub protocol_at : slice_get setup.protocols s.owner ≡ Some protocol
    pub name : protocol.name ++ text_of s.kind ≡ channel.name
    pub target : with_target s.kind ≡ is_direction channel
    pub may : MayStand s.exporter
    pub printed : PrintsChannel setup lines past p c s.exporter

  -- what is left behind a protocol fits what is left of those that were played
  abbrev Follow : ℕ → List Channel → List (Served J) → Type 0
  Follow i rest more = (d : ℕ) → Rest setup (i + 1) d rest → Pairs Fits d rest more

  own_fits : (i c : ℕ) (rest : List Channel) (more : List (Served J)) (q : Protocol) (s : SessionEnded J) (table : ℕ) (exports : Option Exports) (held : Option (State J)) → slice_get setup.protocols i ≡ Some q
      → s.exporter ≡ held → is_some held ≡ is_some exports → IfSome held MayStand → PrintsSession setup lines past p i s
      → Rest setup i c (session setup.tables i q.name table exports ++ rest) → Follow i rest more → Pairs Fits c (session setup.tables i q.name table exports ++ rest) (own_served i held ++ more)
  own_fits i c rest more q s table None None eq has same may prints is follow = follow c (none_on (channels setup) i (i + 1) c rest (omega arith) is)
  own_fits i c rest more q s table None (Some e) eq has same may prints is follow = absurd (false≢true (sym same))
  own_fits i c rest more q s table (Some exports) None eq has same may prints is follow = absurd (false≢true same)
  own_fits i c rest more q s table (Some exports) (Some e) eq has same may prints is follow =
      let channel : Channel = record { name = q.name; owner = i; reads = table; target = None; exports = exports } in
      let there = here_is setup i c channel rest is in (
        record {
          there = there;
          protocol = q;
          protocol_at = eq;
          name = append-nil q.name;
          target = refl;
          may = may;
          printed = prints.channels c channel e there refl has;
        },
        follow (c + 1) (one_on (channels setup) i (i + 1) c channel rest (omega arith) (omega arith) is),
      )

  pipe_fits : (i c : ℕ) (rest : List Channel) (more : List (Served J)) (q : Protocol) (pipe : PipeEnded J) (played : PlayedPipe) → slice_get setup.protocols i ≡ Some q → IsPipeOf q pipe → PrintsPipe setup lines past p i pipe
      → Rest setup i c (directions setup.tables i q.name played ++ rest) → Follow i rest more → Pairs Fits c (directions setup.tables i q.name played ++ rest) (pipe_served i pipe ++ more)
  pipe_fits i c rest more q pipe played eq of prints is follow =
      let out = out_of setup.tables i q.name played in
      let back = back_of setup.tables i q.name played in
      let then_is = one_on (channels setup) i (i + 1) c out (back ∷ rest) (omega arith) (omega arith) is in
      let first = first_next (channels setup) i c out back rest is refl refl prints.out_number prints.back_number prints.belong in
      let second = second_next (channels setup) i c out back rest is refl refl prints.out_number prints.back_number prints.belong in
      let out_fits : Fits c out (lane i kind.Export pipe.out) =
      record {
        there = here_is setup i c out (back ∷ rest) is;
        protocol = q;
        protocol_at = eq;
        name = refl;
        target = refl;
        may = of.out;
        printed = subst (λ n. PrintsChannel setup lines past p n pipe.out) first prints.out;
      } in
      let back_fits : Fits (c + 1) back (lane i kind.Import pipe.back) =
      record {
        there = here_is setup (i + 1) (c + 1) back rest then_is;
        protocol = q;
        protocol_at = eq;
        name = refl;
        target = refl;
        may = of.back;
        printed = subst (λ n. PrintsChannel setup lines past p n pipe.back) second prints.back;
      } in
      (out_fits, (back_fits, follow (c + 1 + 1) (one_on (channels setup) (i + 1) (i + 1) (c + 1) back rest (omega arith) (omega arith) then_is)))

  member_fits : (i c : ℕ) (rest : List Channel) (more : List (Served J)) (q : Protocol) (member : MemberEnded J) → slice_get setup.protocols i ≡ Some q → IsMemberOf q member → PrintsMember setup lines past p i member
      → Rest setup i c (channels_in setup.tables i q.name q.body ++ rest) → Follow i rest more → Pairs Fits c (channels_in setup.tables i q.name q.body ++ rest) (served_in i member ++ more)
  member_fits i c rest more q (Own s) eq of prints is follow =
      let same = ap (λ b. channels_in setup.tables i q.name b ++ rest) of.body in
      subst (λ (l : List Channel). Pairs Fits c l (own_served i s.exporter ++ more)) (sym same)
      (own_fits i c rest more q s of.source.table of.source.exports s.exporter eq refl of.channel of.standing prints (subst (λ (l : List Channel). Rest setup i c l) same is) follow)
  member_fits i c rest more q (Pipe pipe) eq of prints is follow =
      let same = ap (λ b. channels_in setup.tables i q.name b ++ rest) of.body in
      subst (λ (l : List Channel). Pairs Fits c l (pipe_served i pipe ++ more)) (sym same)
      (pipe_fits i c rest more q pipe of.played eq of prints (subst (λ (l : List Channel). Rest setup i c l) same is) follow)

  abbrev Known : ℕ → List Protocol → List (MemberEnded J) → Type 0
  Known i ps ms =
      (j : ℕ) (q : Protocol) (member : MemberEnded J) → slice_get ps j ≡ Some q → slice_get ms j ≡ Some member
      → (slice_get setup.protocols (i + j) ≡ Some q) × IsMemberOf q member × PrintsMember setup lines past p (i + j) member

  channels_from_fit : (i c : ℕ) (ps : List Protocol) (ms : List (MemberEnded J)) → length ms ≡ length ps → Known i ps ms → Rest setup i c (channels_from setup.tables i ps) → Pairs Fits c (channels_from setup.tables i ps) (served i ms)
  channels_from_fit i c [] [] count known is = tt
  channels_from_fit i c [] (m ∷ ms) count known is = absurd (omega (arith, count))
  channels_from_fit i c (q ∷ ps) [] count known is = absurd (omega (arith, count))
  channels_from_fit i c (q ∷ ps) (m ∷ ms) count known is =
      let none : i + 0 ≡ i = omega arith in
      let here = known 0 q m refl refl in
      member_fits i c (channels_from setup.tables (i + 1) ps) (served (i + 1) ms) q m (ap (slice_get setup.protocols) (sym none) ∙ here.0) here.1 (subst (λ n. PrintsMember setup lines past p n m) none here.2) is
      (λ d then_is.
      channels_from_fit (i + 1) d ps ms (omega (arith, count)) (λ j r n er en.
      let next : i + suc j ≡ i + 1 + j = omega arith in
      let k = known (suc j) r n er en in
      (ap (slice_get setup.protocols) (sym next) ∙ k.0, k.1, subst (λ o. PrintsMember setup lines past p o n) next k.2)) then_is)

  pub channels_fit : (ms : List (MemberEnded J)) → length ms ≡ length setup.protocols
      → ((j : ℕ) (q : Protocol) (member : MemberEnded J) → slice_get setup.protocols j ≡ Some q → slice_get ms j ≡ Some member → IsMemberOf q member)
      → ((j : ℕ) (member : MemberEnded J) → slice_get ms j ≡ Some member → PrintsMember setup lines past p j member)
      → Pairs Fits 0 (channels setup) (served 0 ms)
  channels_fit ms count of prints =
      channels_from_fit 0 0 setup.protocols ms count (λ j q member eq em.
      let none = zero-add j in
      (ap (slice_get setup.protocols) none ∙ eq, of j q member eq em, subst (λ n. PrintsMember setup lines past p n member) (sym none) (prints j member em)))
      (record { at = λ k. ap (slice_get (channels setup)) (zero-add k); numbers = λ owner least. refl })
