-- A channel's pushes, until nothing is marked.
use Rattle.std.proofs.Common.{◌≡◌, ℕ, suc, ◌<◌, ◌≤◌, true, List, [], ◌∷◌, length, Option, Some, None, refl, sym, ap, ◌∙◌}
use Rattle.std.specs.Prelude.{slice_get}
use Rattle.std.specs.Map.{keys_of}
use Rattle.bits_ip.specs.Prefix.{Net}
use Rattle.attrs.specs.declared.judge.Verdict.{Verdict}
use Rattle.attrs.specs.declared.route.Route.{Route}
use Rattle.export_core.specs.declared.log.Key.{Key}
use Rattle.export_core.specs.declared.marks.Mark.{Mark}
use Rattle.core_machine.specs.Channels as machine
use Rattle.core_machine.specs.Channels.{is_open, push_one, times}
use Rattle.core_machine.specs.Machine.{State, arrived, gained, push_at}
use Rattle.core_machine.specs.Marks.{Marked, marked_keys}
use Rattle.core_machine.specs.Rounds.{pushed_out}
use Rattle.core_machine.specs.Rules.{IsRules, Rules}
use Rattle.core_machine.proofs.Growing.{set_here as at_here}
use Rattle.core_machine.proofs.OneChannel.{times_keeps}
use Rattle.core_machine.proofs.WholeState.{push_open}
use Rattle.core_setup.specs.Setup.{Setup}
use Rattle.core_setup.proofs.PairLemmas.{get_here}
use Rattle.run_tables.specs.Routes.{AreRoutes}
use Rattle.run_tables.specs.declared.channel.Channel.{Channel}
use Rattle.run_tables.specs.declared.routes.Routes.{Routes}
use Rattle.run_tables.proofs.Routing.{channel_there}
use Rattle.run_tables.proofs.RouteSteps.{push_nothing}
use Rattle.run_tables.proofs.Runs.{push_marks, times_first, times_stay}

-- how many marks the channel of a number has
abbrev pub marks_in : {J : Type 0} → Option (Channel J) → ℕ
marks_in None = 0
marks_in (Some held) = length held.exporter.marks

abbrev pub marks_at : {J : Type 0} → ℕ → List (Channel J) → ℕ
marks_at c held = marks_in (slice_get held c)

length_keys : (marks : List (Key × Mark)) → length (keys_of marks) ≡ length marks
length_keys [] = refl
length_keys (m ∷ marks) = ap suc (length_keys marks)

length_marked : (ms : List Marked) → length (marked_keys ms) ≡ length ms
length_marked [] = refl
length_marked (m ∷ ms) = ap suc (length_marked ms)

module _ (rules : Rules) (c : ℕ) where
  pub push_here : (s : State) → ((push_at rules c s).channels c) ≡ push_one rules c (s.history (rules.reads c)) (s.channels c)
  push_here s = at_here c (push_one rules c (s.history (rules.reads c)) (s.channels c)) (arrived rules (rules.target c) (gained rules c (s.history (rules.reads c)) (s.channels c).marks (s.channels c)) s).channels c refl

  pub fewer : (s : State) → 1 ≤ length (s.channels c).marks → suc (length ((push_at rules c s).channels c).marks) ≡ length (s.channels c).marks
  fewer s le = ap (λ (ch : machine.Channel). suc (length ch.marks)) (push_here s) ∙ push_marks rules c (s.history (rules.reads c)) (s.channels c) le

  -- one push, and then the others
  pub out_first : (s : State) → 1 ≤ length (s.channels c).marks → pushed_out rules c (push_at rules c s) ≡ pushed_out rules c s
  out_first s le =
      times_first (push_at rules c) (length ((push_at rules c s).channels c).marks) s
      ∙ ap (λ n. times n (push_at rules c) s) (fewer s le)

  no_marks : (ms : List Marked) → ms ≡ [] → length ms ≡ 0
  no_marks ms e = ap length e

  pub out_ends : (s : State) → (s.channels c).marks ≡ [] → pushed_out rules c s ≡ s
  out_ends s none = ap (λ n. times n (push_at rules c) s) (no_marks (s.channels c).marks none)

  pub pushes_stay : (n m : ℕ) (s : State) → n ≤ m → ((times n (push_at rules c) s).channels c).marks ≡ [] → times m (push_at rules c) s ≡ times n (push_at rules c) s
  pushes_stay n m s le none = times_stay (push_at rules c) n m s le (push_nothing rules c (times n (push_at rules c) s) none)

  -- what pushes have come to
  pub record IsPushed (s u : State) : Type 0 where
    pub up : is_open (u.channels c) ≡ is_open (s.channels c)
    pub out : pushed_out rules c u ≡ pushed_out rules c s

  pub none_pushed : (s : State) → IsPushed s s
  none_pushed s = record { up = refl; out = refl }

  pub pushed_more : (ok : IsRules rules) (s u : State) → IsPushed s u → 1 ≤ length (u.channels c).marks → IsPushed s (push_at rules c u)
  pushed_more ok s u far le = record { up = push_open rules ok c u ∙ far.up; out = out_first u le ∙ far.out }

module _ {J : Type 0} (verdict : J → Net → Route → Verdict) (setup : Setup) (c : ℕ) where
  -- the exporter has as many marks as the machine's channel
  pub marks_are : (s : State) (r : Routes J) → AreRoutes verdict setup s r → c < length r.channels.items → marks_at c r.channels.items ≡ length (s.channels c).marks
  marks_are s r are w =
      let got = get_here r.channels.items c w in
      ap marks_in got.1 ∙ of_one got.0 got.1 where
        of_one : (held : Channel J) → slice_get r.channels.items c ≡ Some held → length held.exporter.marks ≡ length (s.channels c).marks
        of_one held there =
            let m = (channel_there verdict setup s r are c held there).exporter.matches.like.resembles.order in
            sym (length_keys held.exporter.marks) ∙ ap length m ∙ length_marked (s.channels c).marks

-- pushes leave a channel up
pub pushes_open : (rules : Rules) (ok : IsRules rules) (c n : ℕ) (s : State) → is_open (s.channels c) ≡ true → is_open ((times n (push_at rules c) s).channels c) ≡ true
pushes_open rules ok c n s up = times_keeps (λ (u : State). is_open (u.channels c) ≡ true) (push_at rules c) (λ u e. push_open rules ok c u ∙ e) n s up
