-- Words gone through from their end to the last bracket.
use Rattle.std.proofs.Common.{◌≡◌, ◌-◌, ◌+◌, ◌≤◌, true, false, List, [], ◌∷◌, ◌++◌, length, take, get_or, refl, sym, ap, ◌∙◌, append_assoc, arith}
use Rattle.std.proofs.lemmas.List.{take_all, take_more}
use Rattle.conf_lex.specs.declared.symbol.Symbol.TheVariants as symbols
use Rattle.conf_lex.specs.declared.word.Word.{Word}
use Rattle.conf_lex.specs.Kind.{kind_of, symbol}
use Rattle.conf_syntax.specs.Pairs.{has, is_bracket, IsInSet}

pub last_gone : (words left gone : List Word) (d : Word) → 1 ≤ length left → words ≡ left ++ gone → words ≡ take (length left - 1) left ++ get_or left (length left - 1) d ∷ gone
last_gone words left gone d some is =
    let i = length left - 1 in
    let whole : left ≡ take i left ++ get_or left i d ∷ [] = sym (take_all (i + 1) left (omega arith)) ∙ take_more left i d (omega arith) in
    is ∙ ap (λ (l : List Word). l ++ gone) whole ∙ append_assoc (take i left) (get_or left i d ∷ []) gone

pub bracket_here : (words left gone : List Word) (d w : Word) → 1 ≤ length left → w ≡ get_or left (length left - 1) d → words ≡ left ++ gone → has is_bracket gone ≡ false → symbol symbols.OpenBracket (kind_of w) ≡ true → IsInSet words
bracket_here words left gone d w some last is none opening = record {
  front = take (length left - 1) left;
  opener = get_or left (length left - 1) d;
  behind = gone;
  cut = last_gone words left gone d some is;
  opens = ap (λ (u : Word). symbol symbols.OpenBracket (kind_of u)) (sym last) ∙ opening;
  none = none;
}

pub none_yet : (w v : Word) (gone : List Word) → w ≡ v → is_bracket (kind_of w) ≡ false → has is_bracket gone ≡ false → has is_bracket (v ∷ gone) ≡ false
none_yet w v gone same a b = rw (ap (λ (u : Word). is_bracket (kind_of u)) (sym same) ∙ a, b) refl
