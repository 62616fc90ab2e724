-- What a signal leaves of the machine's state, where a protocol's channels obey it.
use Rattle.std.proofs.Common.{◌≡◌, ℕ, zero, suc, ◌+◌, ◌-◌, ◌≤◌, ◌<◌, inl, inr, ◌⊎◌, Bool, true, false, List, [], ◌∷◌, ◌++◌, Option, Some, None, length, refl, sym, ap, subst, ◌∙◌, arith, append_assoc, is_some}
use Rattle.std.specs.Prelude.{◌==◌, ◌||◌}
use Rattle.std.proofs.lemmas.Bool.{cases_lt}
use Rattle.std.proofs.lemmas.Bool.Decides.{eqb_tells}
use Rattle.attrs.specs.declared.route.Change.{Change}
use Rattle.export_core.specs.Candidates.{among}
use Rattle.export_core.specs.Logs.{stretch}
use Rattle.export_core.specs.declared.log.Key.{Key}
use Rattle.export_core.specs.declared.log.LogItem.{LogItem}
use Rattle.export_core.specs.declared.log.LogItem.TheVariants.{Down, Reload, Up}
use Rattle.core_machine.specs.Channels as machine
use Rattle.core_machine.specs.Channels.{closed, is_open}
use Rattle.core_machine.specs.Enters.{standing_keys}
use Rattle.core_machine.specs.Machine.{AllObey, Obeys, State, appended, flushed, left_by, with_channel}
use Rattle.core_machine.specs.Rules.{AreApart, Fall, Fits, IsRules, Renew, Rise, Rules, Signal, Stay, signalled}
use Rattle.core_machine.proofs.Growing.{IsMore, more_appended, more_flushed, more_on, set_here as at_here, set_there as at_there}
use Rattle.core_setup.proofs.PairLemmas.{cases_same}
use Rattle.sys_run.specs.Cores.{counted}
use Rattle.sys_run.proofs.CoreSteps.{Behind, behind_same}

-- what changes of a table alone leave
pub behind_more : (rules : Rules) (ok : IsRules rules) (n : ℕ) (cs : List Change) (s u : State) → IsMore rules ok n cs s u → Behind s u
behind_more rules ok n cs s u m = let on = more_on rules ok n cs s u m in record {
  history = on.grew;
  ops = on.ops;
  replies = on.replies;
  logs = λ c. ([], m.logs c);
  up = λ c. ap (λ l. is_some (stretch l)) (m.logs c);
}

pub behind_appended : (rules : Rules) (ok : IsRules rules) (n : ℕ) (cs : List Change) (s : State) → Behind s (appended rules n cs s)
behind_appended rules ok n cs s = behind_more rules ok n cs s (appended rules n cs s) (more_appended rules ok n cs s)

behind_left : (rules : Rules) (ok : IsRules rules) (o : Option ℕ) (ks : List Key) (s : State) → Behind s (left_by rules o ks s)
behind_left rules ok None ks s = behind_same s
behind_left rules ok (Some n) ks s = behind_more rules ok n _ s (flushed rules n ks s) (more_flushed rules ok n ks s)

-- what stays of a state, and which channels are up behind a signal
pub record Told (m : Signal) (s t : State) (told : ℕ → Bool) : Type 0 where
  pub history : (n : ℕ) → (cs : List Change) × (t.history n ≡ cs ++ s.history n)
  pub ops : t.ops ≡ s.ops
  pub replies : t.replies ≡ s.replies
  pub logs : (c : ℕ) → (xs : List LogItem) × ((t.channels c).log ≡ xs ++ (s.channels c).log)
  pub here : (c : ℕ) → told c ≡ true → is_open (t.channels c) ≡ signalled m (is_open (s.channels c))
  pub there : (c : ℕ) → told c ≡ false → is_open (t.channels c) ≡ is_open (s.channels c)

-- another channel, behind what leaves all as it was
told_with : (m : Signal) (c : ℕ) (s u : State) (ch : machine.Channel) (xs : List LogItem) → Behind s u → ch.log ≡ xs ++ (u.channels c).log
    → is_open ch ≡ signalled m (is_open (s.channels c)) → Told m s (with_channel c ch u) (λ j. c == j)
told_with m c s u ch xs b log up = record {
  history = b.history;
  ops = b.ops;
  replies = b.replies;
  logs = λ j. logs j (cases_same c j);
  here = λ j e. here j e (eqb_tells c j);
  there = λ j e. there j e (eqb_tells c j);
} where
  logs : (j : ℕ) → ((c ≡ j) ⊎ (c ≡ j → ⊥)) → (ys : List LogItem) × (((with_channel c ch u).channels j).log ≡ ys ++ (s.channels j).log)
  logs j (inl same) = (
    xs ++ (b.logs c).0,
    ap (λ (x : machine.Channel). x.log) (at_here c ch u.channels j same) ∙ log ∙ ap (λ l. xs ++ l) (b.logs c).1 ∙ sym (append_assoc xs (b.logs c).0 (s.channels c).log)
        ∙ ap (λ n. (xs ++ (b.logs c).0) ++ (s.channels n).log) same,
  )
  logs j (inr apart) = ((b.logs j).0, ap (λ (x : machine.Channel). x.log) (at_there c ch u.channels j apart) ∙ (b.logs j).1)

  here : (j : ℕ) → (c == j) ≡ true → (((c == j) ≡ true) × (c ≡ j)) ⊎ (((c == j) ≡ false) × (c ≡ j → ⊥)) → is_open ((with_channel c ch u).channels j) ≡ signalled m (is_open (s.channels j))
  here j e (inl w) = ap is_open (at_here c ch u.channels j w.1) ∙ up ∙ ap (λ n. signalled m (is_open (s.channels n))) w.1
  here j e (inr w) = absurd (let bad : true ≡ false = sym e ∙ w.0 in cc)

  there : (j : ℕ) → (c == j) ≡ false → (((c == j) ≡ true) × (c ≡ j)) ⊎ (((c == j) ≡ false) × (c ≡ j → ⊥)) → is_open ((with_channel c ch u).channels j) ≡ is_open (s.channels j)
  there j e (inl w) = absurd (let bad : true ≡ false = sym w.0 ∙ e in cc)
  there j e (inr w) = ap is_open (at_there c ch u.channels j w.1) ∙ b.up j

told_same : (m : Signal) (s : State) → m ≡ Stay → (told : ℕ → Bool) → Told m s s told
told_same m s is told = record {
  history = λ n. ([], refl);
  ops = refl;
  replies = refl;
  logs = λ c. ([], refl);
  here = λ c e. ap (λ q. signalled q (is_open (s.channels c))) (sym is);
  there = λ c e. refl;
}

module _ (rules : Rules) (ok : IsRules rules) where
  obeys_told : (m : Signal) (c : ℕ) (s t : State) → Obeys m rules c s t → Told m s t (λ j. c == j)
  obeys_told Stay c s t is = subst (λ t. Told Stay s t (λ j. c == j)) (sym is) (told_same Stay s refl (λ j. c == j))
  obeys_told Rise c s t is =
      let log : is.0.log ≡ Up (length (s.history (rules.reads c))) ∷ (s.channels c).log = ap (λ (x : machine.Channel). x.log) is.1.2 in
      subst (λ t. Told Rise s t (λ j. c == j)) (sym is.2)
      (told_with Rise c s s is.0 (Up (length (s.history (rules.reads c))) ∷ []) (behind_same s) log (ap (λ l. is_some (stretch l)) log))
  obeys_told Fall c s t is =
      let u = left_by rules (rules.target c) (standing_keys (s.channels c).log) s in
      subst (λ t. Told Fall s t (λ j. c == j)) (sym is)
      (told_with Fall c s u (closed (u.channels c)) (Down ∷ []) (behind_left rules ok (rules.target c) (standing_keys (s.channels c).log) s) refl refl)
  obeys_told Renew c s t is =
      let log : is.0.log ≡ Reload ∷ (s.channels c).log = ap (λ (x : machine.Channel). x.log) is.1.2 in
      subst (λ t. Told Renew s t (λ j. c == j)) (sym is.2)
      (told_with Renew c s s is.0 (Reload ∷ []) (behind_same s) log (ap (λ l. is_some (stretch l)) log))

  -- one channel obeys, and then others
  told_then : (m : Signal) (c : ℕ) (cs : List ℕ) (s t u : State) → among c cs ≡ false → Told m s t (λ j. c == j) → Told m t u (λ j. among j cs) → Told m s u (λ j. among j (c ∷ cs))
  told_then m c cs s t u apart a b = record {
    history = λ n. ((b.history n).0 ++ (a.history n).0, (b.history n).1 ∙ ap (λ h. (b.history n).0 ++ h) (a.history n).1 ∙ sym (append_assoc (b.history n).0 (a.history n).0 (s.history n)));
    ops = b.ops ∙ a.ops;
    replies = b.replies ∙ a.replies;
    logs = λ c. ((b.logs c).0 ++ (a.logs c).0, (b.logs c).1 ∙ ap (λ h. (b.logs c).0 ++ h) (a.logs c).1 ∙ sym (append_assoc (b.logs c).0 (a.logs c).0 (s.channels c).log));
    here = λ j e. here j e (eqb_tells c j);
    there = λ j e. there j e (eqb_tells c j);
  } where
    here : (j : ℕ) → ((c == j) || among j cs) ≡ true → (((c == j) ≡ true) × (c ≡ j)) ⊎ (((c == j) ≡ false) × (c ≡ j → ⊥)) → is_open (u.channels j) ≡ signalled m (is_open (s.channels j))
    here j e (inl w) = b.there j (ap (λ n. among n cs) (sym w.1) ∙ apart) ∙ a.here j w.0
    here j e (inr w) = b.here j (sym (ap (λ q. q || among j cs) w.0) ∙ e) ∙ ap (signalled m) (a.there j w.0)

    there : (j : ℕ) → ((c == j) || among j cs) ≡ false → (((c == j) ≡ true) × (c ≡ j)) ⊎ (((c == j) ≡ false) × (c ≡ j → ⊥)) → is_open (u.channels j) ≡ is_open (s.channels j)
    there j e (inl w) = absurd (let bad : true ≡ false = sym (ap (λ q. q || among j cs) w.0) ∙ e in cc)
    there j e (inr w) = b.there j (sym (ap (λ q. q || among j cs) w.0) ∙ e) ∙ a.there j w.0

  pub all_told : (m : Signal) (cs : List ℕ) (s t : State) → AreApart cs → AllObey m rules cs s t → Told m s t (λ j. among j cs)
  all_told m [] s t apart is = subst (λ t. Told m s t (λ j. false)) (sym is) (record {
    history = λ n. ([], refl);
    ops = refl;
    replies = refl;
    logs = λ c. ([], refl);
    here = λ c e. absurd (let bad : false ≡ true = e in cc);
    there = λ c e. refl;
  })
  all_told m (c ∷ cs) s t apart is = told_then m c cs s is.0 t apart.0 (obeys_told m c s is.0 is.1) (all_told m cs is.0 t apart.1 is.2)

-- ---- numbers one after another

-- one more at the end
pub obey_more : (m : Signal) (rules : Rules) (cs : List ℕ) (c : ℕ) (s t u : State) → AllObey m rules cs s t → Obeys m rules c t u → AllObey m rules (cs ++ c ∷ []) s u
obey_more m rules [] c s t u all one = (u, subst (λ z. Obeys m rules c z u) all one, refl)
obey_more m rules (d ∷ cs) c s t u all one = (all.0, all.1, obey_more m rules cs c all.0 t u all.2 one)

pub counted_more : (n k : ℕ) → counted n (suc k) ≡ counted n k ++ (n + k) ∷ []
counted_more n zero = ap (λ x. x ∷ []) (let z : n ≡ n + 0 = omega arith in z)
counted_more n (suc k) = ap (λ l. n ∷ l) (counted_more (n + 1) k ∙ ap (λ x. counted (n + 1) k ++ x ∷ []) (let z : n + 1 + k ≡ n + suc k = omega arith in z))

pub among_counted : (n k c : ℕ) → among c (counted n k) ≡ true → (n ≤ c) × (c < n + k)
among_counted n zero c e = absurd (let bad : false ≡ true = e in cc)
among_counted n (suc k) c e = elim (eqb_tells n c) [
  | inl w ↦ let z = w.1 in (omega (arith, z), omega (arith, z))
  | inr w ↦
      let more = among_counted (n + 1) k c (sym (ap (λ q. q || among c (counted (n + 1) k)) w.0) ∙ e) in
      let low = more.0 in
      let high = more.1 in
      (omega (arith, low), omega (arith, high))
]

-- numbers that count up are apart
behind_not : (n k c : ℕ) → c < n → among c (counted n k) ≡ false
behind_not n zero c low = refl
behind_not n (suc k) c low = elim (eqb_tells n c) [
  | inl w ↦ absurd (let z = w.1 in omega (arith, z, low))
  | inr w ↦ ap (λ q. q || among c (counted (n + 1) k)) w.0 ∙ behind_not (n + 1) k c (omega (arith, low))
]

pub beyond_not : (n k c : ℕ) → n + k ≤ c → among c (counted n k) ≡ false
beyond_not n zero c low = refl
beyond_not n (suc k) c low = elim (eqb_tells n c) [
  | inl w ↦ absurd (let z = w.1 in omega (arith, z, low))
  | inr w ↦ ap (λ q. q || among c (counted (n + 1) k)) w.0 ∙ beyond_not (n + 1) k c (omega (arith, low))
]

pub counted_apart : (n k : ℕ) → AreApart (counted n k)
counted_apart n zero = tt
counted_apart n (suc k) = (behind_not (n + 1) k n (omega arith), counted_apart (n + 1) k)

pub counted_among : (n k c : ℕ) → n ≤ c → c < n + k → among c (counted n k) ≡ true
counted_among n zero c low high = absurd (omega (arith, low, high))
counted_among n (suc k) c low high = elim (eqb_tells n c) [
  | inl w ↦ ap (λ q. q || among c (counted (n + 1) k)) w.0
  | inr w ↦
      ap (λ q. q || among c (counted (n + 1) k)) w.0
      ∙ counted_among (n + 1) k c (elim (cases_lt n c) [ inl z ↦ omega (arith, z) | inr z ↦ absurd (w.1 (omega (arith, low, z))) ]) (omega (arith, high))
]

pub counted_on : (n c : ℕ) → n ≤ c → counted n (c + 1 - n) ≡ counted n (c - n) ++ c ∷ []
counted_on n c le =
    ap (counted n) (let z : c + 1 - n ≡ suc (c - n) = omega (arith, le) in z) ∙ counted_more n (c - n)
    ∙ ap (λ x. counted n (c - n) ++ x ∷ []) (let z : n + (c - n) ≡ c = omega (arith, le) in z)

-- a signal that fits a channel still does, where those before it have obeyed
pub fits_on : (rules : Rules) (ok : IsRules rules) (m : Signal) (n c : ℕ) (s t : State) → n ≤ c → AllObey m rules (counted n (c - n)) s t
    → Fits m (is_open (s.channels c)) → Fits m (is_open (t.channels c))
fits_on rules ok m n c s t le all fits =
    subst (Fits m) (sym ((all_told rules ok m (counted n (c - n)) s t (counted_apart n (c - n)) all).there c (beyond_not n (c - n) c (omega (arith, le))))) fits
