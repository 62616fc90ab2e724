-- Changes that come to a table, and what they leave.
use Rattle.std.proofs.Common.{◌≡◌, ◌≢◌, ℕ, inl, inr, true, false, List, [], ◌∷◌, ◌++◌, Option, Some, None, refl, sym, ◌∙◌, ap, subst}
use Rattle.std.specs.Prelude.{◌==◌, if◌then◌else◌}
use Rattle.std.proofs.lemmas.List.{append_assoc}
use Rattle.std.proofs.lemmas.Bool.Decides.{eqb_tells}
use Rattle.attrs.specs.declared.route.Change.{Change}
use Rattle.import_core.specs.declared.operation.Op.{Op}
use Rattle.export_core.specs.declared.log.Key.{Key}
use Rattle.core_machine.specs.Enters.{withdrawal, withdrawn}
use Rattle.core_machine.specs.Machine.{State, added, appended, arrived, flushed, set}
use Rattle.core_machine.specs.Room.{in_room, roomed}
use Rattle.core_machine.specs.Rules.{IsRules, Rules}
use Rattle.core_machine.proofs.Contents.{if_true, if_false}
use Rattle.core_machine.proofs.Entering.{withdrawn_is}
use Rattle.core_machine.proofs.OneChannel.{IsKept, room_keeps, room_log, longer_keeps}

pub set_here : {X : Type 0} (i : ℕ) (x : X) (old : ℕ → X) (j : ℕ) → i ≡ j → set i x old j ≡ x
set_here i x old j e = elim (eqb_tells i j) [ inl w ↦ if_true (i == j) x (old j) w.0 | inr w ↦ absurd (w.1 e) ]

pub set_there : {X : Type 0} (i : ℕ) (x : X) (old : ℕ → X) (j : ℕ) → i ≢ j → set i x old j ≡ old j
set_there i x old j e = elim (eqb_tells i j) [ inl w ↦ absurd (e w.1) | inr w ↦ if_false (i == j) x (old j) w.0 ]

abbrev pub some_list : Option Change → List Change
some_list None = []
some_list (Some x) = x ∷ []

module _ (g : Rules) (ok : IsRules g) where
  -- each channel is kept, with the operations that a function gives for it
  abbrev pub Keeps : (ℕ → List Op) → State → Type 0
  Keeps ops s = (c : ℕ) → IsKept g ok (s.history (g.reads c)) c (ops c) (s.channels c)

  -- the state with some changes more in a table
  pub record IsMore (t : ℕ) (cs : List Change) (s u : State) : Type 0 where
    pub here : u.history t ≡ cs ++ s.history t
    pub there : (n : ℕ) → t ≢ n → u.history n ≡ s.history n
    pub ops : u.ops ≡ s.ops
    pub replies : u.replies ≡ s.replies
    pub logs : (c : ℕ) → (u.channels c).log ≡ (s.channels c).log
    pub same : (c : ℕ) → g.reads c ≢ t → u.channels c ≡ s.channels c
    pub keeps : (ops : ℕ → List Op) → Keeps ops s → Keeps ops u

  pub more_none : (t : ℕ) (s : State) → IsMore t [] s s
  more_none t s = record { here = refl; there = λ n e. refl; ops = refl; replies = refl; logs = λ c. refl; same = λ c e. refl; keeps = λ ops k. k }

  pub more_then : (t : ℕ) (cs ds : List Change) (s u w : State) → IsMore t cs s u → IsMore t ds u w → IsMore t (ds ++ cs) s w
  more_then t cs ds s u w a b = record {
    here = b.here ∙ ap (λ l. ds ++ l) a.here ∙ sym (append_assoc ds cs (s.history t));
    there = λ n e. b.there n e ∙ a.there n e;
    ops = b.ops ∙ a.ops;
    replies = b.replies ∙ a.replies;
    logs = λ c. b.logs c ∙ a.logs c;
    same = λ c e. b.same c e ∙ a.same c e;
    keeps = λ ops k. b.keeps ops (a.keeps ops k);
  }

  in_log : (t : ℕ) (s : State) (c : ℕ) → (in_room g t (s.history t) s.channels c).log ≡ (s.channels c).log
  in_log t s c = elim (g.reads c == t) as (λ b. (if b then roomed g c (s.history t) (s.channels c) else s.channels c).log ≡ (s.channels c).log) [ true ↦ room_log g (s.history t) c (s.channels c) | false ↦ refl ]

  pub more_added : (t : ℕ) (x : Change) (s : State) → IsMore t (x ∷ []) s (added g t x s)
  more_added t x s = let h = s.history t in record {
    here = set_here t (x ∷ h) s.history t refl;
    there = λ n e. set_there t (x ∷ h) s.history n e;
    ops = refl;
    replies = refl;
    logs = in_log t s;
    same = λ c e. elim (eqb_tells (g.reads c) t) [ inl w ↦ absurd (e w.1) | inr w ↦ if_false (g.reads c == t) (roomed g c h (s.channels c)) (s.channels c) w.0 ];
    keeps = λ ops k c. let ch = s.channels c in elim (eqb_tells (g.reads c) t) [
      | inl w ↦ subst (λ h2. IsKept g ok h2 c (ops c) (if g.reads c == t then roomed g c h ch else ch)) (sym (set_here t (x ∷ h) s.history (g.reads c) (sym w.1)))
          (subst (IsKept g ok (x ∷ h) c (ops c)) (sym (if_true (g.reads c == t) (roomed g c h ch) ch w.0))
          (longer_keeps g ok x h c (ops c) (roomed g c h ch) (room_keeps g ok h c (ops c) ch (subst (λ q. IsKept g ok (s.history q) c (ops c) ch) w.1 (k c)))))
      | inr w ↦ subst (λ h2. IsKept g ok h2 c (ops c) (if g.reads c == t then roomed g c h ch else ch)) (sym (set_there t (x ∷ h) s.history (g.reads c) (λ e. w.1 (sym e))))
          (subst (IsKept g ok (s.history (g.reads c)) c (ops c)) (sym (if_false (g.reads c == t) (roomed g c h ch) ch w.0)) (k c))
    ];
  }

  pub more_appended : (t : ℕ) (cs : List Change) (s : State) → IsMore t cs s (appended g t cs s)
  more_appended t [] s = more_none t s
  more_appended t (x ∷ cs) s = more_then t cs (x ∷ []) s (appended g t cs s) (added g t x (appended g t cs s)) (more_appended t cs s) (more_added t x (appended g t cs s))

  pub more_flushed : (t : ℕ) (ks : List Key) (s : State) → IsMore t (withdrawn ks []) s (flushed g t ks s)
  more_flushed t [] s = more_none t s
  more_flushed t (k ∷ ks) s = let u = added g t (withdrawal k) s in
      subst (λ l. IsMore t l s (flushed g t ks u)) (sym (withdrawn_is ks (withdrawal k ∷ []))) (more_then t (withdrawal k ∷ []) (withdrawn ks []) s u (flushed g t ks u) (more_added t (withdrawal k) s) (more_flushed t ks u))

  pub more_arrived : (t : ℕ) (o : Option Change) (s : State) → IsMore t (some_list o) s (arrived g (Some t) o s)
  more_arrived t None s = more_none t s
  more_arrived t (Some x) s = more_added t x s

  -- histories grow, and operations and replies stay
  pub record IsOn (s u : State) : Type 0 where
    pub grew : (n : ℕ) → (cs : List Change) × (u.history n ≡ cs ++ s.history n)
    pub ops : u.ops ≡ s.ops
    pub replies : u.replies ≡ s.replies

  pub on_same : (s : State) → IsOn s s
  on_same s = record { grew = λ n. ([], refl); ops = refl; replies = refl }

  pub on_then : (s u w : State) → IsOn s u → IsOn u w → IsOn s w
  on_then s u w a b = record {
    grew = λ n. let x = a.grew n in let y = b.grew n in (y.0 ++ x.0, y.1 ∙ ap (λ l. y.0 ++ l) x.1 ∙ sym (append_assoc y.0 x.0 (s.history n)));
    ops = b.ops ∙ a.ops;
    replies = b.replies ∙ a.replies;
  }

  pub more_on : (t : ℕ) (cs : List Change) (s u : State) → IsMore t cs s u → IsOn s u
  more_on t cs s u m = record {
    grew = λ n. elim (eqb_tells t n) [ inl w ↦ (cs, subst (λ q. u.history q ≡ cs ++ s.history q) w.1 m.here) | inr w ↦ ([], m.there n w.1) ];
    ops = m.ops;
    replies = m.replies;
  }
