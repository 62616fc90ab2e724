-- What is left of members, one after another.
use Rattle.std.proofs.Common.{◌≡◌, ℕ, List, [], ◌∷◌, ◌++◌, length, Some, refl}
use Rattle.std.specs.Prelude.{slice_get}
use Rattle.attrs.specs.declared.judge.Verdict.{Verdict}
use Rattle.attrs.specs.declared.route.Route.{Route}
use Rattle.bits_ip.specs.Prefix.{Net}
use Rattle.core_machine.specs.Rules.{Rules}
use Rattle.core_setup.specs.Setup.{Exports}
use Rattle.core_setup.proofs.Numbered.{none_some}
use Rattle.import_lock.specs.Terms.{PhaseTerms}
use Rattle.phase_close.specs.Rooms.{HandsView}
use Rattle.phase_close.proofs.Besides.{each_more, one_more}
use Rattle.pipe_rest.specs.declared.member.MemberLeft.{MemberLeft}
use Rattle.room_ends.specs.Left.{AreMembersLeft, IsMemberLeft}
use Rattle.room_members.specs.declared.member.Member.{Member}

module _ {J P : Type 0} (terms : P → PhaseTerms) (exports : P → ℕ → Exports) (rules : P → Rules) (verdict : J → Net → Route → Verdict) (hands : List HandsView) where
  pub none_left : AreMembersLeft terms exports rules verdict [] hands []
  none_left = record { count = refl; each = λ n m l at there own h. none_some at }

  pub one_left : (done : List (Member J P)) (lefts : List (MemberLeft J)) (x : Member J P) (left : MemberLeft J) → AreMembersLeft terms exports rules verdict done hands lefts
      → ((own : HandsView) → slice_get hands (length done) ≡ Some own → IsMemberLeft terms exports rules verdict x own left) → AreMembersLeft terms exports rules verdict (done ++ x ∷ []) hands (lefts ++ left ∷ [])
  one_left done lefts x left are p = record {
    count = one_more done lefts x left are.count;
    each = each_more (λ n (m : Member J P) (l : MemberLeft J). (own : HandsView) → slice_get hands n ≡ Some own → IsMemberLeft terms exports rules verdict m own l) done lefts x left are.count are.each p;
  }
