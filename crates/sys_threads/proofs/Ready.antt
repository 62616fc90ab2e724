-- What rests between two phases can be played on.
use Rattle.std.proofs.Common.{◌≡◌, ℕ, ◌<◌, List, length, sym, ap, subst, ◌∙◌}
use Rattle.std.specs.List.{All}
use Rattle.attrs.specs.declared.judge.Verdict.{Verdict}
use Rattle.attrs.specs.declared.route.Route.{Route}
use Rattle.bits_ip.specs.Prefix.{Net}
use Rattle.core_machine.specs.Legal.{Printed}
use Rattle.core_setup.specs.Channels.{channels}
use Rattle.core_setup.specs.Setup.{Setup}
use Rattle.script_lines.specs.declared.script.Line.{Line}
use Rattle.room_first.specs.Sent.{lent_by, sent_by}
use Rattle.room_open.specs.Standing.{Stands}
use Rattle.sys_threads.specs.Playing.{sent_in, setup_lent, terms_of}
use Rattle.sys_threads.specs.Running.{CanPlay, IsFew, IsNext, Rests}
use Rattle.sys_threads.specs.declared.playing.Playing.{Playing}
use Rattle.sys_threads.specs.declared.runner.Runner.{Runner}

module _ {J : Type 0} (verdict : J → Net → Route → Verdict) (runner : Runner J) (setup : Setup) (actors : ℕ) (printed : List Printed) (rests : Rests verdict setup actors printed runner) where
  pub stands_now : (played : Playing J) → IsNext verdict runner played → Stands (lent_by verdict) (terms_of verdict played) (sent_in verdict played) runner.standing
  stands_now played next =
      subst (λ (s : Setup). Stands (lent_by verdict) (terms_of verdict played) (sent_by s) runner.standing) (sym (ap (setup_lent verdict) next.parts ∙ rests.setup_is)) (rests.stands played next)

  pub few_now : IsFew (setup_lent verdict runner.parts) runner.actors
  few_now = subst (λ (s : Setup). IsFew s runner.actors) (sym rests.setup_is) (subst (λ n. IsFew setup n) (sym rests.actors_are) rests.few)

  pub can_now : (lines : List Line) → CanPlay setup actors lines → CanPlay (setup_lent verdict runner.parts) actors lines
  can_now lines can = subst (λ (s : Setup). CanPlay s actors lines) (sym rests.setup_is) can

  pub all_can_now : (lines : List Line) → CanPlay setup actors lines → CanPlay (setup_lent verdict runner.parts) runner.actors lines
  all_can_now lines can = subst (λ n. CanPlay (setup_lent verdict runner.parts) n lines) (sym rests.actors_are) (can_now lines can)

  pub channels_now : runner.channels ≡ length (channels (setup_lent verdict runner.parts))
  channels_now = rests.channels_are ∙ ap (λ (s : Setup). length (channels s)) (sym rests.setup_is)

  pub statics_now : (statics : List ℕ) → statics ≡ runner.statics.items → All (λ (number : ℕ). number < length (setup_lent verdict runner.parts).protocols) statics
  statics_now statics same =
      subst (λ (ns : List ℕ). All (λ (number : ℕ). number < length (setup_lent verdict runner.parts).protocols) ns) (sym same)
      (subst (λ (s : Setup). All (λ (number : ℕ). number < length s.protocols) runner.statics.items) (sym rests.setup_is) rests.statics)
