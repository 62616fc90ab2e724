-- Entries in words: what is read is spelled so, and what is spelled so is read.
use Rattle.std.proofs.Common.{◌≡◌, ℕ, suc, ◌/◌, ◌%◌, ◌<◌, ◌≤◌, ◌^◌, Bool, false, ◌==◌, cond, ltb, List, [], ◌∷◌, ◌++◌, length, take, drop, Some, None, refl, sym, ap, subst, ◌∙◌, append_assoc, arith}
use Rattle.std.specs.Prelude.{IsErrAnd, Result, Ok, Err, slice_index}
use Rattle.rec_words.specs.declared.fault.WordsFault.{WordsFault}
use Rattle.rec_words.specs.declared.fault.WordsFault.TheVariants.{BadWords, Memory}
use Rattle.std.proofs.lemmas.Bool.{eqb-true, ltb-false, le-ltb}
use Rattle.std.proofs.lemmas.List.{append-nil, length-append, nil_from_length, take-append-drop}
use Rattle.attrs.specs.declared.journal.JEntry.{JEntry}
use Rattle.jour_rule.specs.Cells.{IsWhole}
use Rattle.rec_words.specs.declared.parts.Front.{Front}
use Rattle.rec_words.specs.Spelling.{body_words, entry_words, first_word, flag, net_words, optional_route_words, route_words}
use Rattle.std.specs.List.{IsDistinct}
use Rattle.std.specs.Option.{is_some}
use Rattle.rec_words.specs.Worked.{black_hole, worked, worked_words}
use Rattle.rec_words.specs.Entries.{IsEntry, IsEntryWords, IsNet, IsNumber, IsRoute, Spells}
use Rattle.rec_words.specs.Reading.{◌>>=◌, bit_at, entry_at, front_in, net_at, number_at, optional_route_at}
use Rattle.rec_words.proofs.Takes.{IsWords, IsWords-drop, IsWords-take, bind_some, guard_some, unless_some, some_is}
use Rattle.rec_words.proofs.Halves.{number_again, number_takes}
use Rattle.rec_words.proofs.Addresses.{net_again, net_takes}
use Rattle.rec_words.proofs.Routes.{five, five_words, optional_route_again, optional_route_takes}
use Rattle.rec_words.proofs.Shapes.{eqb_same, flag_back, flag_small}
use Rattle.rec_words.proofs.Lengths.{body_few}

record IsFirst (count : ℕ) (has_new has_best : Bool) : Type 0 where
  pub new_is : bit_at 16 (first_word count has_new has_best) ≡ has_new
  pub best_is : bit_at 17 (first_word count has_new has_best) ≡ has_best

first_is : (count : ℕ) (has_new has_best : Bool) → count < 65536 → IsFirst count has_new has_best
first_is count has_new has_best small =
    let new : first_word count has_new has_best / 2 ^ 16 % 2 ≡ flag has_new = omega (arith, small, flag_small has_new) in
    let best : first_word count has_new has_best / 2 ^ 17 % 2 ≡ flag has_best = omega (arith, small, flag_small has_new, flag_small has_best) in
    record { new_is = ap (λ (n : ℕ). n == 1) new ∙ flag_back has_new; best_is = ap (λ (n : ℕ). n == 1) best ∙ flag_back has_best }

abbrev front_of : JEntry → Front
front_of e = record { has_new = is_some e.new; has_best = is_some e.best; net = e.net; num = e.num }

abbrev first_of : JEntry → ℕ
first_of e = first_word (suc (length (body_words e))) (is_some e.new) (is_some e.best)

front_again : (e : JEntry) → IsEntry e → front_in (suc (length (body_words e))) (first_of e ∷ (net_words e.net ++ e.num ∷ [])) ≡ Some (front_of e)
unfolding front_in
front_again e is =
    let count = suc (length (body_words e)) in
    let few : count < 65536 = omega (arith, body_few e is) in
    let f = first_is count (is_some e.new) (is_some e.best) few in
    rw (f.new_is, f.best_is, eqb_same (first_of e), net_again e.net is.net, number_again e.num is.num) refl

pub entry_again : (e : JEntry) → IsEntry e → entry_at (entry_words e) ≡ Some e
unfolding entry_at entry_words
entry_again e is =
    let new = optional_route_words e.new in
    let best = optional_route_words e.best in
    let front = first_of e ∷ (net_words e.net ++ e.num ∷ []) in
    let long : ltb (length (first_of e ∷ body_words e)) 5 ≡ false = le-ltb _ _ (omega (arith, length-append (net_words e.net ++ e.num ∷ [] ++ new) best, length-append (net_words e.net ++ e.num ∷ []) new)) in
    let tail : best ++ [] ≡ best = append-nil best in
    let last : optional_route_at (is_some e.best) best ≡ Some (e.best, []) = subst (λ (ws : List ℕ). optional_route_at (is_some e.best) ws ≡ Some (e.best, [])) tail (optional_route_again e.best [] is.best) in
    rw (long, front_again e is, optional_route_again e.new best is.new, last) refl

record IsFront (count : ℕ) (ws : List ℕ) (f : Front) : Type 0 where
  pub words : ws ≡ first_word count f.has_new f.has_best ∷ (net_words f.net ++ f.num ∷ [])
  pub net_is : IsNet f.net
  pub num_is : IsNumber f.num

front_takes : (count a b c d e : ℕ) (f : Front) → IsWords (five a b c d e) → front_in count (five a b c d e) ≡ Some f → IsFront count (five a b c d e) f
unfolding front_in
front_takes count a b c d e f fits read =
    let g = guard_some (first_word count (bit_at 16 a) (bit_at 17 a) == a) (net_at b c d >>= λ net. number_at e >>= λ num. Some record { has_new = bit_at 16 a; has_best = bit_at 17 a; net = net; num = num }) f read in
    let n = bind_some (net_at b c d) (λ net. number_at e >>= λ num. Some record { has_new = bit_at 16 a; has_best = bit_at 17 a; net = net; num = num }) f g.1 in
    let m = bind_some (number_at e) (λ num. Some record { has_new = bit_at 16 a; has_best = bit_at 17 a; net = n.0; num = num }) f n.2 in
    let first : a ≡ first_word count (bit_at 16 a) (bit_at 17 a) = sym (eqb-true _ _ g.0) in
    let net = net_takes b c d n.0 (fits 2) (fits 3) n.1 in
    let num = number_takes e m.0 m.1 in
    let made : Front = record { has_new = bit_at 16 a; has_best = bit_at 17 a; net = n.0; num = m.0 } in
    let words : five a b c d e ≡ first_word count (bit_at 16 a) (bit_at 17 a) ∷ (net_words n.0 ++ m.0 ∷ []) =
    ap (λ (w : ℕ). w ∷ b ∷ c ∷ d ∷ e ∷ []) first ∙ ap (λ (ws : List ℕ). first_word count (bit_at 16 a) (bit_at 17 a) ∷ (ws ++ e ∷ [])) net.words ∙ ap (λ (w : ℕ). first_word count (bit_at 16 a) (bit_at 17 a) ∷ (net_words n.0 ++ w ∷ [])) num.0 in
    subst (λ (x : Front). IsFront count (five a b c d e) x) (some_is made f m.2) (record { words = words; net_is = net.is; num_is = num.1 })

pub entry_takes : (ws : List ℕ) (e : JEntry) → IsWords ws → entry_at ws ≡ Some e → Spells e ws
unfolding entry_at entry_words
entry_takes ws e fits read =
    let after = drop 5 ws in
    let g = unless_some (ltb (length ws) 5) (front_in (length ws) (take 5 ws) >>= λ front. optional_route_at front.has_new after >>= λ new. optional_route_at front.has_best new.1 >>= λ best. cond (length best.1 == 0) (Some record { net = front.net; num = front.num; new = new.0; best = best.0 }) None) e read in
    let f = bind_some (front_in (length ws) (take 5 ws)) (λ front. optional_route_at front.has_new after >>= λ new. optional_route_at front.has_best new.1 >>= λ best. cond (length best.1 == 0) (Some record { net = front.net; num = front.num; new = new.0; best = best.0 }) None) e g.1 in
    let n = bind_some (optional_route_at f.0.has_new after) (λ new. optional_route_at f.0.has_best new.1 >>= λ best. cond (length best.1 == 0) (Some record { net = f.0.net; num = f.0.num; new = new.0; best = best.0 }) None) e f.2 in
    let b = bind_some (optional_route_at f.0.has_best n.0.1) (λ best. cond (length best.1 == 0) (Some record { net = f.0.net; num = f.0.num; new = n.0.0; best = best.0 }) None) e n.2 in
    let done = guard_some (length b.0.1 == 0) (Some record { net = f.0.net; num = f.0.num; new = n.0.0; best = b.0.0 }) e b.2 in
    let cut = five_words ws (ltb-false _ _ g.0) in
    let front_fits : IsWords (five (slice_index ws 0) (slice_index ws 1) (slice_index ws 2) (slice_index ws 3) (slice_index ws 4)) = subst IsWords cut (IsWords-take 5 ws fits) in
    let front = front_takes (length ws) (slice_index ws 0) (slice_index ws 1) (slice_index ws 2) (slice_index ws 3) (slice_index ws 4) f.0 front_fits (ap (front_in (length ws)) (sym cut) ∙ f.1) in
    let new = optional_route_takes f.0.has_new after n.0.0 n.0.1 (IsWords-drop 5 ws fits) n.1 in
    let best = optional_route_takes f.0.has_best n.0.1 b.0.0 b.0.1 new.0.rest_fits b.1 in
    let none : b.0.1 ≡ [] = nil_from_length b.0.1 (eqb-true _ _ done.0) in
    let made : JEntry = record { net = f.0.net; num = f.0.num; new = n.0.0; best = b.0.0 } in
    let nw = optional_route_words n.0.0 in
    let bw = optional_route_words b.0.0 in
    let fw = net_words f.0.net ++ f.0.num ∷ [] in
    let first = first_word (length ws) f.0.has_new f.0.has_best in
    let rest : after ≡ nw ++ bw = new.0.parts ∙ ap (λ (t : List ℕ). nw ++ t) (best.0.parts ∙ ap (λ (t : List ℕ). bw ++ t) none ∙ append-nil bw) in
    let whole : ws ≡ first ∷ (fw ++ nw ++ bw) =
    sym (take-append-drop 5 ws) ∙ ap (λ (t : List ℕ). t ++ after) (cut ∙ front.words) ∙ ap (λ (t : List ℕ). first ∷ (fw ++ t)) rest ∙ ap (λ (t : List ℕ). first ∷ t) (sym (append_assoc fw nw bw)) in
    let count : length ws ≡ suc (length (fw ++ nw ++ bw)) = ap length whole in
    let spelled : ws ≡ entry_words made =
    whole ∙ ap (λ (k : ℕ). first_word k f.0.has_new f.0.has_best ∷ (fw ++ nw ++ bw)) count ∙ ap (λ (b : Bool). first_word (suc (length (fw ++ nw ++ bw))) b f.0.has_best ∷ (fw ++ nw ++ bw)) (sym new.1)
    ∙ ap (λ (b : Bool). first_word (suc (length (fw ++ nw ++ bw))) (is_some n.0.0) b ∷ (fw ++ nw ++ bw)) (sym best.1) in
    subst (λ (x : JEntry). Spells x ws) (some_is made e done.1) (record { entry = record { net = front.net_is; num = front.num_is; new = new.2; best = best.2 }; words = spelled })

-- laws

pub one_entry : (ws : List ℕ) (a b : JEntry) → Spells a ws → Spells b ws → a ≡ b
one_entry ws a b first second =
    some_is a b (sym (entry_again a first.entry) ∙ ap entry_at (sym first.words ∙ second.words) ∙ entry_again b second.entry)

pub whole_words : (ws : List ℕ) (e : JEntry) → Spells e ws → IsWhole ws × (length ws ≤ 217)
unfolding entry_words
whole_words ws e is =
    let few = body_few e is.entry in
    let long : length ws ≡ suc (length (body_words e)) = ap length is.words in
    let told : slice_index ws 0 ≡ first_of e = ap (λ (xs : List ℕ). slice_index xs 0) is.words in
    let says : slice_index ws 0 % 65536 ≡ length ws = omega (arith, told, long, few) in
    (record { some_words = omega (arith, long); few = omega (arith, long, few); told = says }, omega (arith, long, few))

pub no_front : (ws rest : List ℕ) (a b : JEntry) → Spells a ws → Spells b (ws ++ rest) → rest ≡ []
no_front [] rest a b first second = let w = whole_words [] a first in absurd (omega (arith, w.0.some_words))
no_front (w ∷ ws) rest a b first second =
    let one = whole_words (w ∷ ws) a first in
    let two = whole_words (w ∷ ws ++ rest) b second in
    nil_from_length rest (omega (arith, one.0.told, two.0.told, length-append (w ∷ ws) rest))

hole_is : IsRoute black_hole
unfolding IsDistinct
hole_is = record {
  numbers = record { src = record { num = omega arith; def_med = omega arith; def_lp = omega arith }; pref = omega arith; peer_id = omega arith; med = tt; lp = tt; igp = tt };
  addrs = record { gw = tt; sender = tt; next_hop = tt };
  path = record { short = omega arith; numbers = tt };
  coms = record { list = record { short = omega arith; distinct = tt }; pairs = tt };
}

pub worked_spelled : Spells worked worked_words
unfolding entry_words route_words IsDistinct
worked_spelled = record {
  entry = record { net = record { addr = omega arith; prefix = record { within = omega arith; host_bits = refl } }; num = omega arith; new = hole_is; best = hole_is };
  words = refl;
}

-- words of which reading makes nothing are no entry's
pub not_entry : (ws : List ℕ) → entry_at ws ≡ None → IsEntryWords ws → ⊥
not_entry ws none is = let read = sym none ∙ ap entry_at is.1.words ∙ entry_again is.0 is.1.entry in absurd cc

bad_is : (fault : WordsFault) → fault ≡ Memory → ◌≡◌ {A = Result JEntry WordsFault} (Err fault) (Err BadWords) → ⊥
bad_is BadWords memory same = absurd cc
bad_is Memory memory same = absurd cc

-- want of memory is told of words of an entry alone
pub memory_refused : (ws : List ℕ) (result : Result JEntry WordsFault) → IsErrAnd result (λ fault. fault ≡ Memory) → IsEntryWords ws → (result ≡ Err BadWords → IsEntryWords ws → ⊥) × ((IsEntryWords ws → ⊥) → result ≡ Err BadWords)
memory_refused ws (Ok e) memory is = absurd memory
memory_refused ws (Err fault) memory is = (λ same words. absurd (bad_is fault memory same), λ none. absurd (none is))
