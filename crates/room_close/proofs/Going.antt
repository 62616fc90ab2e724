-- That what has gone on over tables can go on there as before, and can end there.
use Rattle.std.proofs.Common.{List, arith}
use Rattle.std.specs.List.{AllByRecursion}
use Rattle.atomic_table.specs.Seated.{TableId}
use Rattle.attrs.specs.declared.judge.Verdict.{Verdict}
use Rattle.attrs.specs.declared.route.Route.{Route}
use Rattle.attrs.specs.declared.route.Src.{Src}
use Rattle.bits_ip.specs.Prefix.{Net}
use Rattle.core_setup.proofs.Numbered.{all_at}
use Rattle.core_setup.proofs.PairLemmas.{get_here, get_within}
use Rattle.jour_rule.specs.declared.views.Terms.{Terms}
use Rattle.phase_close.specs.Closed.{TableList}
use Rattle.phase_close.proofs.Ending.{all_placed}
use Rattle.phase_close.proofs.Over.{all_weaker, is_ending}
use Rattle.phase_legal.specs.Shown.{AreBeside}
use Rattle.pipe_close.specs.Ended.{AreListsOf}
use Rattle.pipe_rest.specs.Later.{CanSettle, IsLaterMember}
use Rattle.pipe_rest.specs.declared.member.MemberLeft.{MemberLeft}
use Rattle.pipe_rest.specs.declared.member.MemberLeft.TheVariants.{Own, Pipe}
use Rattle.pipe_rest.proofs.Goes.{member_can}
use Rattle.room_ends.specs.Ended.{CanEndMember}
use Rattle.table_shared.specs.Opening.{TableOpening}

module _ {J : Type 0} (verdict : J → Net → Route → Verdict) (tables : List (TableId × Terms TableOpening)) (sources : List Src) where
  pub all_still_settle : (old new : List (MemberLeft J)) → AllByRecursion (CanSettle verdict tables sources) old → AreBeside (IsLaterMember verdict sources) old new → AllByRecursion (CanSettle verdict tables sources) new
  all_still_settle old new all goes =
      all_placed (CanSettle verdict tables sources) new
      (λ i b at.
      let inside = get_within new i b at in
      let count = goes.count in
      let a = get_here old i (omega (arith, inside, count)) in
      member_can verdict sources tables a.0 b (goes.each i a.0 b a.1 at) (all_at (CanSettle verdict tables sources) old i a.0 all a.1))

module _ {J : Type 0} (verdict : J → Net → Route → Verdict) (tables : List (TableId × Terms TableOpening)) (sources : List Src) (lists : List TableList) (are : AreListsOf tables lists) where
  can_end : (left : MemberLeft J) → CanSettle verdict tables sources left → CanEndMember verdict lists left
  can_end (Own left) can = (can.0, is_ending tables lists are verdict can.0 left can.1)
  can_end (Pipe left) can = record { tables = tables; lists_are = are; key = can.key; hands = can.hands; over = can.over }

  pub all_can_end : (lefts : List (MemberLeft J)) → AllByRecursion (CanSettle verdict tables sources) lefts → AllByRecursion (CanEndMember verdict lists) lefts
  all_can_end lefts all = all_weaker (CanSettle verdict tables sources) (CanEndMember verdict lists) can_end lefts all
