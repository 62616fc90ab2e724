-- What the lines and the starts of a phase that can be played are.
use Rattle.std.proofs.Common.{◌≡◌, ℕ, suc, ◌<◌, ◌≤◌, List, [], ◌∷◌, ◌++◌, length, map, reverse, Option, Some, None, refl, sym, ap, subst, ◌∙◌, arith}
use mathlib.Core.List.{reverse-cons}
use Rattle.std.specs.Prelude.{option_map, slice_get}
use Rattle.std.specs.List.{All}
use Rattle.std.proofs.lemmas.List.{length-map, length-reverse}
use Rattle.std.proofs.lemmas.List.Elements.{All-head, All-map, All-push, All-same, All-tail}
use Rattle.std.proofs.lemmas.Option.{get_or_from_slice_get, slice_get-map, slice_get_within}
use Rattle.core_machine.specs.Lines as machine
use Rattle.core_machine.specs.Lines.{Act, Ask, turn_of}
use Rattle.core_setup.specs.Setup.{Setup}
use Rattle.script_lines.specs.declared.script.Line.{Line}
use Rattle.script_lines.specs.declared.script.Line.TheVariants as lines
use Rattle.sys_run.specs.Scripts.{FitsLine, line_of}
use Rattle.phase_legal.specs.Turns.{start_turn}
use Rattle.phase_actors.specs.Script.{NamesWhatIs}
use Rattle.room_ends.specs.Played.{AreOfFew, AreStartActs, start_act, starts_of}
use Rattle.room_whole.specs.Starts.{AreOfProtocols}
use Rattle.sys_threads.specs.Running.{CanPlay, NamesSome}

pub all_at : {X : Type 0} (P : X → Type 0) (xs : List X) (k : ℕ) (x : X) → All P xs → slice_get xs k ≡ Some x → P x
all_at P xs k x all at = subst P (get_or_from_slice_get xs k x x at) (all k x (slice_get_within xs k x at))

-- what stands at a place of a list of results is one of what stands there
pub mapped_at : {X Y : Type 0} (f : X → Y) (xs : List X) (k : ℕ) (y : Y) → slice_get (map f xs) k ≡ Some y → (x : X) × (slice_get xs k ≡ Some x) × (f x ≡ y)
mapped_at f xs k y at = by (slice_get xs k) refl (sym (slice_get-map f xs k) ∙ at)
  where
    by : (o : Option _) → slice_get xs k ≡ o → option_map f o ≡ Some y → (x : _) × (slice_get xs k ≡ Some x) × (f x ≡ y)
    by None is bad = cc
    by (Some x) is same = (x, is, cc)

-- ---- lines

act_of : (actors : ℕ) (setup : Setup) (line : Line) (a : Act) → NamesSome actors setup line → line_of setup.queries line ≡ machine.Apply a → (a.actor < actors) × (a.protocol < length setup.protocols)
act_of actors setup (lines.Take channel count) a names same = cc
act_of actors setup (lines.Push channel count) a names same = cc
act_of actors setup (lines.Apply actor line protocol op) a names same =
    subst (λ (b : Act). (b.actor < actors) × (b.protocol < length setup.protocols)) (apply_one same) names
  where
    apply_one : {b c : Act} → machine.Apply b ≡ machine.Apply c → b ≡ c
    apply_one e = cc
act_of actors setup (lines.Show actor query) a names same = cc

ask_of : (actors : ℕ) (setup : Setup) (line : Line) (q : Ask) → NamesSome actors setup line → line_of setup.queries line ≡ machine.Show q → q.actor < actors
ask_of actors setup (lines.Take channel count) q names same = cc
ask_of actors setup (lines.Push channel count) q names same = cc
ask_of actors setup (lines.Apply actor line protocol op) q names same = cc
ask_of actors setup (lines.Show actor query) q names same = subst (λ (b : Ask). b.actor < actors) (show_one same) names.0
  where
    show_one : {b c : Ask} → machine.Show b ≡ machine.Show c → b ≡ c
    show_one e = cc

pub few_lines : (actors : ℕ) (setup : Setup) (phase : List Line) → CanPlay setup actors phase → AreOfFew actors (length setup.protocols) (map (line_of setup.queries) phase)
few_lines actors setup phase can = record {
  acts = λ n a at. (act_at n a at).0;
  asks = λ n q at.
      let m = mapped_at (line_of setup.queries) phase n (machine.Show q) at in
      ask_of actors setup m.0 q (all_at (NamesSome actors setup) phase n m.0 can.names m.1) m.2;
  names = λ n a at. (act_at n a at).1;
} where
  act_at : (n : ℕ) (a : Act) → slice_get (map (line_of setup.queries) phase) n ≡ Some (machine.Apply a) → (a.actor < actors) × (a.protocol < length setup.protocols)
  act_at n a at =
      let m = mapped_at (line_of setup.queries) phase n (machine.Apply a) at in
      act_of actors setup m.0 a (all_at (NamesSome actors setup) phase n m.0 can.names m.1) m.2

names_what_is : (actors : ℕ) (setup : Setup) (line : Line) → NamesSome actors setup line → NamesWhatIs setup line
names_what_is actors setup (lines.Take channel count) names = tt
names_what_is actors setup (lines.Push channel count) names = tt
names_what_is actors setup (lines.Apply actor line protocol op) names = names.1
names_what_is actors setup (lines.Show actor query) names = names.1

pub named_at : (actors : ℕ) (setup : Setup) (phase : List Line) (n : ℕ) (line : Line) → CanPlay setup actors phase → slice_get phase n ≡ Some line → NamesWhatIs setup line × FitsLine setup line
named_at actors setup phase n line can at =
    (names_what_is actors setup line (all_at (NamesSome actors setup) phase n line can.names at), all_at (FitsLine setup) phase n line can.fits at)

-- ---- starts

pub start_acts : (numbers : List ℕ) → AreStartActs (starts_of numbers)
start_acts numbers = All-map (λ (a : Act). turn_of a ≡ start_turn) start_act (reverse numbers) (λ k d inside. refl)

all_back : (P : ℕ → Type 0) (xs : List ℕ) → All P xs → All P (reverse xs)
all_back P [] all = all
all_back P (x ∷ xs) all = All-same P (reverse (x ∷ xs)) (reverse xs ++ x ∷ []) (reverse-cons x xs) (All-push P (reverse xs) x (all_back P xs (All-tail P x xs all)) (All-head P x xs all))

pub few_starts : (protocols : ℕ) (numbers : List ℕ) → All (λ (number : ℕ). number < protocols) numbers → AreOfProtocols protocols (starts_of numbers)
few_starts protocols numbers all n a at =
    let m = mapped_at start_act (reverse numbers) n a at in
    subst (λ (b : Act). b.protocol < protocols) m.2 (all_at (λ (number : ℕ). number < protocols) (reverse numbers) n m.0 (all_back (λ (number : ℕ). number < protocols) numbers all) m.1)
