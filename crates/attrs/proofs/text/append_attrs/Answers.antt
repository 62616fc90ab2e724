use Rattle.std.proofs.Common.{◌≡◌, ◌++◌, [], ℕ, List, ◌∙◌, ap, refl, rules, subst, sym}
use Rattle.std.proofs.lemmas.List.{append-nil}
use Rattle.std.proofs.lemmas.Result.{on_ok_weaker}
use Rattle.attrs.proofs.text.append_attrs.Goals as goal

-- where nothing was held
begun : (new old front held text : List ℕ) → new ≡ (front ++ held) ++ text → front ≡ old → held ≡ [] → new ≡ old ++ text
begun new old front held text e f h =
    e ∙ ap (λ l. (l ++ held) ++ text) f ∙ ap (λ l. (old ++ l) ++ text) h ∙ ap (λ l. l ++ text) (append-nil old)

pub returns-clause-written : goal.returns-clause-written
returns-clause-written g c =
    let line = c.send_line-sent.ensures.kept c.new-text.result (record { same = refl; kept = λ f k. k }) in
    let same = line.same ∙ c.new-text.ensures.same in
    let back : c.send_line-sent.new.text.out.now ≡ c.out-1.given.0 = search (rules, same) in
    on_ok_weaker c.send_line-sent.result
    (λ e. ap g.W.TextOut.written (sym back)
    ∙ begun _ (g.W.TextOut.written c.args.out.now) (g.W.TextOut.written c.new-text.result.out.now) c.new-text.result.held.items _ e (ap g.W.TextOut.written c.new-text.ensures.out) c.new-text.ensures.empty)
    c.send_line-sent.ensures.written

pub returns-clause-kept : goal.returns-clause-kept
returns-clause-kept g c = λ first so_far.
    let line = c.send_line-sent.ensures.kept c.new-text.result (record { same = refl; kept = λ f k. k }) in
    let same = line.same ∙ c.new-text.ensures.same in
    let back : c.send_line-sent.new.text.out.now ≡ c.out-1.given.0 = search (rules, same) in
    subst (λ w. g.W.TextOut.follows first w) back
    (line.kept first (subst (λ w. g.W.TextOut.follows first w) (sym c.new-text.ensures.out) so_far))
