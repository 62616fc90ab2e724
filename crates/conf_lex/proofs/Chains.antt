-- What a reader of a chain keeps.
use Rattle.std.proofs.Common.{◌≡◌, ℕ, zero, suc, ◌<◌, ◌≤◌, Bool, true, false, cond, List, [], ◌∷◌, ◌++◌, length, Option, Some, None, refl, sym, ap, subst, ◌∙◌, append_assoc, append-nil, arith, inl, inr}
use Rattle.std.proofs.lemmas.List.{length-append}
use Rattle.conf_lex.specs.Kind.{kind_of}
use Rattle.conf_lex.specs.declared.word.Word.{Word}
use Rattle.conf_lex.specs.Grammar.{Why, Bad, TooDeep, Form, Repeat, ParseTree, Single, Snoc, yield, begins, nullable, first_set, is_blank, or_later, can_continue, can_continue_in, DerivesLongest, too_deep}
use Rattle.conf_lex.specs.Reading.{Read, Parsed, Failed, and_then, Reader, turns, all_turns, chain}
use Rattle.conf_lex.proofs.Good.{first_word, outcome, and_then_got, and_then_fault, chosen, begins-same, first_word-append, Front, Taken, Begun, Refused, Good, taken_again, begins-append, begins-front, or_false, deep_short, Solid, fits_front, front_begins}

and_then_same : (x : Read) (f h : ParseTree → List Word → Read) → ((a : ParseTree) (u : List Word) → x ≡ Parsed a u → f a u ≡ h a u) → and_then x f ≡ and_then x h
and_then_same (Parsed a u) f h same = same a u refl
and_then_same (Failed why u) f h same = refl

-- a tree of a form that is not empty has a word
pub full_words : {L : Type 0} (f : Form L) (xs : List Word) → nullable f ≡ false → Front f xs → 0 < length xs
full_words f [] n h = absurd cc
full_words f (x ∷ xs) n h = omega arith

pub full_blank : {L : Type 0} (f : Form L) (xs : List Word) → nullable f ≡ false → Front f xs → is_blank xs ≡ false
full_blank f [] n h = absurd cc
full_blank f (x ∷ xs) n h = refl

cond_same : {A : Type 0} (b : Bool) (x y z : A) → x ≡ y → cond b x z ≡ cond b y z
cond_same {A = A} b x y z e = ap (λ (v : A). cond b v z) e

-- a tree of g that may stand after any part of the chain
pub record Next {L : Type 0} (rule : L → Form L) (f g : Form L) : Type 0 where
  pub solid : Solid (Repeat f g)
  pub tree : ParseTree
  pub fits : DerivesLongest rule tree g
  pub apart : (t : ParseTree) → DerivesLongest rule t (Repeat f g) → begins (can_continue_in rule t (Repeat f g)) (yield tree) ≡ false

module _ {L : Type 0} (rule : L → Form L) (k : ℕ) (f g : Form L) (r s : Reader) (next : Next rule f g) (R : Good rule k f r) (S : Good rule k g s) where
  -- each turn takes a word
  turn_takes : (ws : List Word) (b : ParseTree) (u : List Word) → s ws ≡ Parsed b u → length u < length ws
  turn_takes ws b u e =
      let B = S.got ws b u e in
      let some : 0 < length (yield b) = full_words g (yield b) next.solid.2 (fits_front rule b g next.solid.1 B.fits) in
      rw B.front (omega (arith, length-append (yield b) u))

  fuel : (n m : ℕ) (t : ParseTree) (ws : List Word) → length ws ≤ n → length ws ≤ m → turns (first_set g) s n t ws ≡ turns (first_set g) s m t ws
  fuel zero zero t ws h i = refl
  fuel zero (suc m) t [] h i = refl
  fuel zero (suc m) t (w ∷ ws) h i = absurd (omega arith)
  fuel (suc n) zero t [] h i = refl
  fuel (suc n) zero t (w ∷ ws) h i = absurd (omega arith)
  fuel (suc n) (suc m) t ws h i =
      cond_same (begins (first_set g) ws) _ _ (Parsed t ws) (and_then_same (s ws) (λ b u. turns (first_set g) s n (Snoc t b) u) (λ b u. turns (first_set g) s m (Snoc t b) u)
      (λ b u e. let fewer : length u < length ws = turn_takes ws b u e in fuel n m (Snoc t b) u (omega arith) (omega arith)))

  pub turn : (t : ParseTree) (ws : List Word) → all_turns (first_set g) s t ws ≡ cond (begins (first_set g) ws) (and_then (s ws) (λ b u. all_turns (first_set g) s (Snoc t b) u)) (Parsed t ws)
  turn t [] = refl
  turn t (w ∷ ws) =
      cond_same (first_set g (kind_of w)) _ _ (Parsed t (w ∷ ws)) (and_then_same (s (w ∷ ws)) (λ b u. turns (first_set g) s (length ws) (Snoc t b) u) (λ b u. all_turns (first_set g) s (Snoc t b) u)
      (λ b u e. let fewer : length u < length (w ∷ ws) = turn_takes (w ∷ ws) b u e in fuel (length ws) (length u) (Snoc t b) u (omega arith) (omega arith)))

  chain_stops : (t : ParseTree) (ws : List Word) → DerivesLongest rule t (Repeat f g) → begins (can_continue rule t (Repeat f g)) ws ≡ false → (begins (can_continue_in rule t (Repeat f g)) ws ≡ false) × (begins (first_set g) ws ≡ false)
  chain_stops (Single a) [] fits e = (refl, refl)
  chain_stops (Single a) (w ∷ ws) fits e = or_false (can_continue rule a f (kind_of w)) (first_set g (kind_of w)) e
  chain_stops (Snoc t b) [] fits e = (refl, refl)
  chain_stops (Snoc t b) (w ∷ ws) fits e = or_false (can_continue rule b g (kind_of w)) (first_set g (kind_of w)) e
  chain_stops _ ws fits e = absurd fits

  chain_stops-back : (t : ParseTree) (ws : List Word) → DerivesLongest rule t (Repeat f g) → begins (can_continue_in rule t (Repeat f g)) ws ≡ false → begins (first_set g) ws ≡ false → begins (can_continue rule t (Repeat f g)) ws ≡ false
  chain_stops-back (Single a) [] fits p q = refl
  chain_stops-back (Single a) (w ∷ ws) fits p q = rw p q
  chain_stops-back (Snoc t b) [] fits p q = refl
  chain_stops-back (Snoc t b) (w ∷ ws) fits p q = rw p q
  chain_stops-back _ ws fits p q = absurd fits

  resume : Option (List Word) → ParseTree → List Word → Read
  resume None t rest = all_turns (first_set g) s t rest
  resume (Some deep) t rest = Failed TooDeep (deep ++ rest)

  resumed : (d : Option (List Word)) (a : ParseTree) (rest : List Word) → and_then (outcome d a rest) (λ x u. all_turns (first_set g) s (Single x) u) ≡ resume d (Single a) rest
  unfolding resume
  resumed None a rest = refl
  resumed (Some u) a rest = refl

  more_resumed : (d e : Option (List Word)) (t b : ParseTree) (rest : List Word) → begins (first_set g) (yield b ++ rest) ≡ true → s (yield b ++ rest) ≡ outcome e b rest → resume d t (yield b ++ rest) ≡ resume (or_later d (yield b) e) (Snoc t b) rest
  unfolding resume
  more_resumed (Some u) e t b rest here h = ap (λ (v : List Word). Failed TooDeep v) (sym (append_assoc u (yield b) rest))
  more_resumed None None t b rest here h = turn t (yield b ++ rest) ∙ rw (here, h) refl
  more_resumed None (Some u) t b rest here h = turn t (yield b ++ rest) ∙ rw (here, h) refl

  chain_resumes : (t : ParseTree) (rest : List Word) → DerivesLongest rule t (Repeat f g) → begins (can_continue_in rule t (Repeat f g)) rest ≡ false → chain (first_set g) r s (yield t ++ rest) ≡ resume (too_deep t k) t rest
  chain_resumes (Single a) rest fits stops = rw (R.again a rest fits stops) (resumed (too_deep a k) a rest)
  chain_resumes (Snoc t b) rest fits stops =
      let front = fits_front rule b g next.solid.1 fits.1 in
      let full : is_blank (yield b) ≡ false = full_blank g (yield b) next.solid.2 front in
      let munch : begins (can_continue_in rule t (Repeat f g)) (yield b ++ rest) ≡ false = begins-append (can_continue_in rule t (Repeat f g)) (yield b) rest fits.2 (λ h. absurd cc) in
      let here : begins (first_set g) (yield b ++ rest) ≡ true = front_begins g (yield b) rest next.solid.2 front in
      rw (append_assoc (yield t) (yield b) rest) (chain_resumes t (yield b ++ rest) fits.0 munch ∙ more_resumed (too_deep t k) (too_deep b k) t b rest here (S.again b rest fits.1 stops))
  chain_resumes _ rest fits stops = absurd fits

  finished : (d : Option (List Word)) (t : ParseTree) (rest : List Word) → begins (first_set g) rest ≡ false → resume d t rest ≡ outcome d t rest
  unfolding resume
  finished None t rest h = turn t rest ∙ rw h refl
  finished (Some u) t rest h = refl

  chain_again : (t : ParseTree) (rest : List Word) → DerivesLongest rule t (Repeat f g) → begins (can_continue rule t (Repeat f g)) rest ≡ false → chain (first_set g) r s (yield t ++ rest) ≡ outcome (too_deep t k) t rest
  chain_again t rest fits stops =
      let both = chain_stops t rest fits stops in
      chain_resumes t rest fits both.0 ∙ finished (too_deep t k) t rest both.1

  turns_got : (n : ℕ) (t : ParseTree) (ws : List Word) (end : ParseTree) (rest : List Word) → length ws ≤ n → DerivesLongest rule t (Repeat f g) → too_deep t k ≡ None → begins (can_continue_in rule t (Repeat f g)) ws ≡ false → turns (first_set g) s n t ws ≡ Parsed end rest → Taken rule k (Repeat f g) (yield t ++ ws) end rest
  turns_got zero t [] end rest len fits shallow stops e =
      let tree : t ≡ end = cc in
      let same : [] ≡ rest = cc in
      subst (λ (x : ParseTree). Taken rule k (Repeat f g) (yield t ++ []) x rest) tree (subst (λ (v : List Word). Taken rule k (Repeat f g) (yield t ++ []) t v) same (record { fits = fits; front = refl; shallow = shallow; stops = refl }))
  turns_got zero t (w ∷ ws) end rest len fits shallow stops e = absurd (omega arith)
  turns_got (suc n) t ws end rest len fits shallow stops e = elim (chosen (begins (first_set g) ws) (and_then (s ws) (λ b u. turns (first_set g) s n (Snoc t b) u)) (Parsed t ws) (Parsed end rest) e) [
    | inl h ↦
        let one = and_then_got (s ws) (λ b u. turns (first_set g) s n (Snoc t b) u) end rest h.1 in
        let b = one.0 in
        let u = one.1 in
        let B = S.got ws b u one.2 in
        let fewer : length u < length ws = turn_takes ws b u one.2 in
        let here : begins (can_continue_in rule t (Repeat f g)) (yield b ++ u) ≡ false = rw B.front at stops in
        let got = turns_got n (Snoc t b) u end rest (omega arith) (fits, B.fits, begins-front (can_continue_in rule t (Repeat f g)) (yield b) u here) (rw shallow B.shallow) B.stops one.3 in
        let whole : (yield t ++ yield b) ++ u ≡ yield t ++ ws = append_assoc (yield t) (yield b) u ∙ ap (λ (v : List Word). yield t ++ v) (sym B.front) in
        subst (λ (v : List Word). Taken rule k (Repeat f g) v end rest) whole got
    | inr h ↦
        let tree : t ≡ end = let q = h.1 in cc in
        let same : ws ≡ rest = let q = h.1 in cc in
        subst (λ (x : ParseTree). Taken rule k (Repeat f g) (yield t ++ ws) x rest) tree (subst (λ (v : List Word). Taken rule k (Repeat f g) (yield t ++ ws) t v) same (record { fits = fits; front = refl; shallow = shallow; stops = chain_stops-back t ws fits stops h.0 }))
  ]

  chain_got : (ws : List Word) (t : ParseTree) (rest : List Word) → chain (first_set g) r s ws ≡ Parsed t rest → Taken rule k (Repeat f g) ws t rest
  chain_got ws t rest e =
      let one = and_then_got (r ws) (λ a u. all_turns (first_set g) s (Single a) u) t rest e in
      let A = R.got ws one.0 one.1 one.2 in
      rw A.front (turns_got (length one.1) (Single one.0) one.1 t rest (omega arith) A.fits A.shallow A.stops one.3)

  -- a fault in a turn after t
  record Torn (t : ParseTree) (ws : List Word) (why : Why) (rest : List Word) : Type 0 where
    part : List Word
    front : ws ≡ part ++ rest
    local : (other : List Word) → first_word rest ≡ first_word other → all_turns (first_set g) s t (part ++ other) ≡ Failed why other
    begun : Begun rule k (Repeat f g) why (yield t ++ part) rest

  begun_behind : (t : ParseTree) (why : Why) (q rest : List Word) → DerivesLongest rule t (Repeat f g) → too_deep t k ≡ None → (b : Begun rule k g why q rest) → begins (can_continue_in rule t (Repeat f g)) (yield b.tree) ≡ false → Begun rule k (Repeat f g) why (yield t ++ q) rest
  begun_behind t why q rest fits shallow b stops = record {
    tree = Snoc t b.tree;
    more = b.more;
    fits = (fits, b.fits, stops);
    front = rw b.front (sym (append_assoc (yield t) q b.more));
    place = rw shallow b.place;
  }

  begun_more : (t : ParseTree) (why : Why) (q rest : List Word) → DerivesLongest rule t (Repeat f g) → too_deep t k ≡ None → begins (can_continue_in rule t (Repeat f g)) (q ++ rest) ≡ false → Begun rule k g why q rest → Begun rule k (Repeat f g) why (yield t ++ q) rest
  begun_more t Bad [] rest fits shallow stops b = record {
    tree = Snoc t next.tree;
    more = yield next.tree;
    fits = (fits, next.fits, next.apart t fits);
    front = let none : yield t ++ [] ≡ yield t = append-nil (yield t) in rw none refl;
    place = λ u e. deep_short next.tree k u (rw shallow at e);
  }
  begun_more t TooDeep [] rest fits shallow stops b = let p = b.place in begun_behind t TooDeep [] rest fits shallow b (rw (b.front, p.4) (rw p.3 at stops))
  begun_more t why (x ∷ q) rest fits shallow stops b = begun_behind t why (x ∷ q) rest fits shallow b (rw b.front stops)

  turns_fault : (n : ℕ) (t : ParseTree) (ws : List Word) (why : Why) (rest : List Word) → length ws ≤ n → DerivesLongest rule t (Repeat f g) → too_deep t k ≡ None → begins (can_continue_in rule t (Repeat f g)) ws ≡ false → turns (first_set g) s n t ws ≡ Failed why rest → Torn t ws why rest
  turns_fault zero t ws why rest len fits shallow stops e = absurd cc
  turns_fault (suc n) t ws why rest len fits shallow stops e = elim (chosen (begins (first_set g) ws) (and_then (s ws) (λ b u. turns (first_set g) s n (Snoc t b) u)) (Parsed t ws) (Failed why rest) e) [
    | inl h ↦ elim (and_then_fault (s ws) (λ b u. turns (first_set g) s n (Snoc t b) u) why rest h.1) [
      | inl failed ↦
          let B = S.fault ws why rest failed in
          record {
            part = B.before;
            front = B.front;
            local = λ other same.
                let here : begins (first_set g) (B.before ++ other) ≡ true = sym (begins-same (first_set g) (B.before ++ rest) (B.before ++ other) (first_word-append B.before rest other same)) ∙ (rw B.front at h.0) in
                turn t (B.before ++ other) ∙ rw (here, B.local other same) refl;
            begun = begun_more t why B.before rest fits shallow (rw B.front at stops) B.begun;
          }
      | inr one ↦
          let b = one.0 in
          let u = one.1 in
          let B = S.got ws b u one.2 in
          let fewer : length u < length ws = turn_takes ws b u one.2 in
          let here : begins (can_continue_in rule t (Repeat f g)) (yield b ++ u) ≡ false = rw B.front at stops in
          let torn = turns_fault n (Snoc t b) u why rest (omega arith) (fits, B.fits, begins-front (can_continue_in rule t (Repeat f g)) (yield b) u here) (rw shallow B.shallow) B.stops one.3 in
          let front = fits_front rule b g next.solid.1 B.fits in
          record {
            part = yield b ++ torn.part;
            front = B.front ∙ ap (λ (v : List Word). yield b ++ v) torn.front ∙ sym (append_assoc (yield b) torn.part rest);
            local = λ other same.
                let stop : begins (can_continue rule b g) (torn.part ++ other) ≡ false = sym (begins-same (can_continue rule b g) (torn.part ++ rest) (torn.part ++ other) (first_word-append torn.part rest other same)) ∙ (rw torn.front at B.stops) in
                let taken : s (yield b ++ (torn.part ++ other)) ≡ Parsed b (torn.part ++ other) = taken_again rule k g s S b (torn.part ++ other) B.fits B.shallow stop in
                let begin : begins (first_set g) (yield b ++ (torn.part ++ other)) ≡ true = front_begins g (yield b) (torn.part ++ other) next.solid.2 front in
                rw (append_assoc (yield b) torn.part other) (turn t (yield b ++ (torn.part ++ other)) ∙ rw (begin, taken) (torn.local other same));
            begun = subst (λ (v : List Word). Begun rule k (Repeat f g) why v rest) (append_assoc (yield t) (yield b) torn.part) torn.begun;
          }
    ]
    | inr h ↦ let q = h.1 in absurd cc
  ]

  chain_fault : (ws : List Word) (why : Why) (rest : List Word) → chain (first_set g) r s ws ≡ Failed why rest → Refused rule k (Repeat f g) (chain (first_set g) r s) ws why rest
  chain_fault ws why rest e = elim (and_then_fault (r ws) (λ a u. all_turns (first_set g) s (Single a) u) why rest e) [
    | inl failed ↦
        let A = R.fault ws why rest failed in
        let b = A.begun in
        record {
          before = A.before;
          front = A.front;
          local = λ other same. rw (A.local other same) refl;
          begun = record { tree = Single b.tree; more = b.more; fits = b.fits; front = b.front; place = b.place };
        }
    | inr one ↦
        let a = one.0 in
        let u = one.1 in
        let A = R.got ws a u one.2 in
        let torn = turns_fault (length u) (Single a) u why rest (omega arith) A.fits A.shallow A.stops one.3 in
        record {
          before = yield a ++ torn.part;
          front = A.front ∙ ap (λ (v : List Word). yield a ++ v) torn.front ∙ sym (append_assoc (yield a) torn.part rest);
          local = λ other same.
              let stop : begins (can_continue rule a f) (torn.part ++ other) ≡ false = sym (begins-same (can_continue rule a f) (torn.part ++ rest) (torn.part ++ other) (first_word-append torn.part rest other same)) ∙ (rw torn.front at A.stops) in
              let taken : r (yield a ++ (torn.part ++ other)) ≡ Parsed a (torn.part ++ other) = taken_again rule k f r R a (torn.part ++ other) A.fits A.shallow stop in
              rw (append_assoc (yield a) torn.part other, taken) (torn.local other same);
          begun = torn.begun;
        }
  ]

  pub good_chain : Good rule k (Repeat f g) (chain (first_set g) r s)
  good_chain = record { got = chain_got; again = chain_again; fault = chain_fault }
