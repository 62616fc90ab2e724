-- An exporter that stands for what entries tell sends what its channel may, and where it is settled
-- the channel is.
use Rattle.std.proofs.Common.{◌≡◌, ℕ, ◌≤◌, List, length, map, reverse, sym, subst}
use Rattle.std.proofs.Math.Nat.{le_refl}
use Rattle.std.proofs.Math.Path.{fun_ext}
use Rattle.attrs.specs.declared.journal.JEntry.{JEntry}
use Rattle.attrs.specs.declared.judge.Verdict.{Verdict}
use Rattle.attrs.specs.declared.route.Route.{Route}
use Rattle.bits_ip.specs.Prefix.{Net}
use Rattle.export_core.specs.Histories.{change_of, course_of as told_course}
use Rattle.export_core.specs.Logs.{Course, Follows, Settled}
use Rattle.export_core.specs.States.{StandsFor, State, value_for}
use Rattle.export_core.specs.declared.log.Key.{Key}
use Rattle.export_core.proofs.Courses.{stands_longer}
use Rattle.core_machine.specs.Match.{IsSpecOf, TellChosen}
use Rattle.core_machine.specs.Pipes.{course_of}
use Rattle.core_machine.specs.Rules.{IsRules, Rules}
use Rattle.core_machine.proofs.Courses.{agree}

module _ {J : Type 0} (verdict : J → Net → Route → Verdict) (g : Rules) (c : ℕ) (entries : List JEntry) (e : State J) (ok : IsRules g) (spec : IsSpecOf g c e.spec) (tell : TellChosen g entries)
    (same : (k : Key) (r : Route) → value_for verdict e k r ≡ g.value c k r) (stands : StandsFor verdict (told_course e.spec entries) e) where
  abbrev read : Course
  read = course_of g c (reverse (map change_of entries))

  as_read : StandsFor verdict read e
  as_read = let a = agree g c e.spec entries ok spec tell in stands_longer verdict (told_course e.spec entries) read e (record { len = subst (λ n. length entries ≤ n) a.0 (le_refl (length entries)); best = λ k p w. sym (a.1 k p) }) stands

  values : value_for verdict e ≡ g.value c
  values = fun_ext (λ k. fun_ext (λ r. same k r))

  pub sends_follow : Follows (g.value c) read (reverse e.log)
  sends_follow = subst (λ value. Follows value read (reverse e.log)) values as_read.follows

  pub sends_settle : ((d : Course) → length entries ≡ d.len → StandsFor verdict d e → Settled (value_for verdict e) d (reverse e.log)) → Settled (g.value c) read (reverse e.log)
  sends_settle settles = subst (λ value. Settled value read (reverse e.log)) values (settles read (agree g c e.spec entries ok spec tell).0 as_read)
