use Rattle.std.proofs.Common.{◌≡◌, ◌++◌, ◌∷◌, [], List, ℕ, map, length, subst, sym, arith, lit<}
use Rattle.std.proofs.lemmas.Iterator.Consumers.{YieldsList-end, YieldsList-turn}
use Rattle.std.proofs.lemmas.Iterator.Splits.{YieldsList-from_str_split}
use Rattle.std.proofs.lemmas.List.{length-map, map-append}
use Rattle.std.specs.Str.Parse.{digits_value}
use Rattle.bits_ip.specs.Parts.{values, AreWords, IsRow}
use Rattle.bits_ip.proofs.Bits.{are_push, row_push, row_values_fit, word_at}
use Rattle.bits_ip.proofs.read_v6.row_of_words.Goals as goal

pub returns-in_err-group : goal.returns-in_err-group
returns-in_err-group c =
    let turn = YieldsList-turn (YieldsList-from_str_split 58 c.args.text.now (lit< tt) (cc) (cc) (cc)) c.loop-word.yielded _ c.loop-word.yielded_by _ _ c.in-Some.word c.in-Some.is c.next.ensures.steps in
    rw c.from_residual.ensures (λ are few. c.in_err-group.ensures _ (word_at _ (length c.loop-word.yielded) c.in-Some.word.now are turn.0 turn.1))

pub followed_by-requires : goal.followed_by-requires
followed_by-requires c = row_values_fit (map (λ t. t.now) c.loop-word.yielded) c.loop-word.row.count c.loop-word.row.bits c.loop-word.invariant.words c.loop-word.invariant.row

pub returns-in_err-row : goal.returns-in_err-row
returns-in_err-row c =
    let turn = YieldsList-turn (YieldsList-from_str_split 58 c.args.text.now (lit< tt) (cc) (cc) (cc)) c.loop-word.yielded _ c.loop-word.yielded_by _ _ c.in-Some.word c.in-Some.is c.next.ensures.steps in
    let before : List (List ℕ) = map (λ t. t.now) c.loop-word.yielded in
    let words = length-map before (λ w. digits_value 16 w) in
    let items : length before ≡ length c.loop-word.yielded = length-map c.loop-word.yielded (λ t. t.now) in
    rw c.from_residual-in_err-row.ensures (λ are few. omega (arith, turn.0, words, items, c.loop-word.invariant.row.counted, c.in_err-row.ensures, few))

pub loop-word-preserved : goal.loop-word-preserved
loop-word-preserved c =
    let before : List (List ℕ) = map (λ t. t.now) c.loop-word.yielded in
    let word : List ℕ = c.in-Some.word.now in
    let mapped : map (λ t. t.now) (c.loop-word.yielded ++ c.in-Some.word ∷ []) ≡ before ++ word ∷ [] = map-append (λ t. t.now) c.loop-word.yielded (c.in-Some.word ∷ []) in
    record {
      next = tt;
      finite = tt;
      words = subst (λ (ws : List (List ℕ)). AreWords ws) (sym mapped) (are_push before word c.in_ok-group.group c.loop-word.invariant.words c.in_ok-group.ensures);
      row = subst (λ (ws : List (List ℕ)). IsRow (values ws) c.in_ok-row.row.count c.in_ok-row.row.bits) (sym mapped)
          (row_push before word c.in_ok-group.group c.loop-word.row.count c.loop-word.row.bits c.in_ok-row.row.count c.in_ok-row.row.bits c.loop-word.invariant.row c.in_ok-group.ensures c.in_ok-row.ensures.0 c.in_ok-row.ensures.1 c.in_ok-row.ensures.2);
    }

pub returns : goal.returns
returns c =
    let end = YieldsList-end (YieldsList-from_str_split 58 c.args.text.now (lit< tt) (cc) (cc) (cc)) c.loop-word.yielded _ c.loop-word.yielded_by _ _ c.in-None.is c.next.ensures.steps in (
      subst (λ (ws : List (List ℕ)). AreWords ws) end.0 c.loop-word.invariant.words,
      subst (λ (ws : List (List ℕ)). IsRow (values ws) c.loop-word.row.count c.loop-word.row.bits) end.0 c.loop-word.invariant.row,
    )
