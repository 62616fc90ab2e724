-- A run of bytes that pass a test, one byte after another.
use Rattle.std.proofs.Common.{◌≡◌, ℕ, suc, ◌+◌, ◌<◌, Bool, true, List, ◌∷◌, length, drop, get_or, ◌∙◌, ap, arith, drop-cons}
use Rattle.std.specs.List.{prefix_len}
use Rattle.conf_scan.proofs.Runs.{len_yes}

pub cut_at : (text : List ℕ) (i d : ℕ) → i < length text → drop i text ≡ get_or text i d ∷ drop (i + 1) text
cut_at text i d within =
    let next : suc i ≡ i + 1 = omega arith in
    drop-cons text i d within ∙ ap (λ (n : ℕ). get_or text i d ∷ drop n text) next

pub run_more : (p : ℕ → Bool) (text : List ℕ) (i d : ℕ) → i < length text → p (get_or text i d) ≡ true → prefix_len p (drop i text) ≡ 1 + prefix_len p (drop (i + 1) text)
run_more p text i d within passes = ap (prefix_len p) (cut_at text i d within) ∙ len_yes p (get_or text i d) (drop (i + 1) text) passes
