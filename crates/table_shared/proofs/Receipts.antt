-- What a port has made, once it has seen more.
use mathlib.Core.List.{IsPrefix}
use Rattle.std.proofs.Common.{ℕ, suc, Bool, true, false, ◌==◌, cond, List, [], ◌∷◌, ◌++◌, refl, ap, subst}
use Rattle.jour_rule.specs.declared.views.Entry.{Entry}
use Rattle.jour_rule.specs.Journal.{receipts}

perhaps_first : {A : Type 0} (test : Bool) (x : A) (xs ys : List A) → IsPrefix xs ys → IsPrefix (cond test (x ∷ xs) xs) (cond test (x ∷ ys) ys)
perhaps_first true x xs ys p = (p.0, ap (λ l. x ∷ l) p.1)
perhaps_first false x xs ys p = p

receipts_begin : (n k : ℕ) (entries more : List Entry) → IsPrefix (receipts n k entries) (receipts n k (entries ++ more))
receipts_begin n k [] more = (receipts n k more, refl)
receipts_begin n k (e ∷ es) more = perhaps_first (e.maker == k) (suc n, e.words) (receipts (suc n) k es) (receipts (suc n) k (es ++ more)) (receipts_begin (suc n) k es more)

pub receipts_prefix : (n k : ℕ) (entries all : List Entry) → IsPrefix entries all → IsPrefix (receipts n k entries) (receipts n k all)
receipts_prefix n k entries all p = subst (λ (l : List Entry). IsPrefix (receipts n k entries) (receipts n k l)) p.1 (receipts_begin n k entries p.0)
