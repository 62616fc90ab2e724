-- What the words of a `del` leave open once their front is read.
use Rattle.std.proofs.Common.{◌≡◌, ◌∙◌, sym, subst, ℕ, List, [], ◌∷◌}
use Rattle.bits_ip.specs.Prefix.{Net}
use Rattle.bits_ip.specs.Text.{IsNetText}
use Rattle.announcements.proofs.Words.{heads_same}
use Rattle.script_lines.specs.Grammar.{IsDel}

pub no_del_net : (words rest : List (List ℕ)) (word : List ℕ) → words ≡ word ∷ rest → ((net : Net) → IsNetText word net → ⊥) → (net : Net) → IsDel words net → ⊥
no_del_net words rest word cut none net is =
    let P : List ℕ → Type 0 = λ w. IsNetText w net in
    none net (subst P (heads_same is.word word [] rest (sym is.whole ∙ cut)) is.net_is)
