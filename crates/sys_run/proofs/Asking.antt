-- The core behind a reply.
use Rattle.std.proofs.Common.{◌≡◌, ℕ, true, false, ◌⊎◌, inl, inr, List, [], ◌∷◌, ◌++◌, length, set, reverse, Some, refl, sym, ap, subst, ◌∙◌, ◌≤◌, arith}
use Rattle.std.specs.Prelude.{slice_get, ◌==◌}
use Rattle.std.specs.declared.alloc.Global.{Global}
use Rattle.std.specs.declared.vec.Vec.{Vec}
use Rattle.std.proofs.lemmas.Bool.Decides.{eqb_tells}
use Rattle.std.proofs.lemmas.List.{reverse-append}
use Rattle.bits_ip.specs.Prefix.{Net}
use Rattle.attrs.specs.declared.judge.Verdict.{Verdict}
use Rattle.attrs.specs.declared.route.Route.{Route}
use Rattle.core_machine.specs.Legal.{Joined}
use Rattle.core_machine.specs.Lines.{Reply}
use Rattle.core_machine.specs.Machine.{State}
use Rattle.core_machine.specs.Replies.{replies_to}
use Rattle.core_machine.proofs.Contents.{eqb_no, if_false, if_true}
use Rattle.core_setup.specs.Pairs.{Pairs}
use Rattle.core_setup.specs.Setup.{Setup}
use Rattle.core_setup.proofs.PairLemmas.{get-set, get-set_other, get_one, get_within, pairs_push, weaker_here}
use Rattle.run_tables.proofs.Routing.{are_same}
use Rattle.sys_run.specs.Cores.{IsAnswered, IsCore}
use Rattle.sys_run.specs.declared.player.Answered.{Answered}
use Rattle.sys_run.specs.declared.player.Core.{Core}
use Rattle.sys_run.proofs.CoreSteps.{answered_on}

push_reverse : {A : Type 0} (x : A) (xs : List A) → reverse (x ∷ xs) ≡ reverse xs ++ x ∷ []
push_reverse x xs = reverse-append (x ∷ []) xs

module _ {J : Type 0} (verdict : J → Net → Route → Verdict) (setup : Setup) where
  pub asked : (past : Joined) (s : State) (core : Core J) (replies : Vec (Vec Answered Global) Global) (held after : Vec Answered Global) (answered : Answered) (reply : Reply)
      → IsCore verdict setup past s core → slice_get core.replies.items reply.actor ≡ Some held → replies.items ≡ set core.replies.items reply.actor after
      → after.items ≡ held.items ++ answered ∷ [] → IsAnswered setup s answered reply
      → IsCore verdict setup past (record s { replies = reply ∷ s.replies }) (record core { replies = replies })
  asked past s core replies held after answered reply are eh er ea is = record {
    routes = are_same verdict setup s t core.routes (λ n. refl) (λ j. refl) are.routes;
    protocols = are.protocols;
    up = are.up;
    histories = are.histories;
    operations = are.operations;
    logs = are.logs;
    replies = λ actor given e. told actor given (ap (λ (xs : List (Vec Answered Global)). slice_get xs actor) (sym er) ∙ e) (eqb_tells reply.actor actor);
    channels = are.channels;
    tables = are.tables;
    names = are.names;
    choices = are.choices;
    queries = are.queries;
  } where
    t : State
    t = record s { replies = reply ∷ s.replies }

    on : (actor : ℕ) (given : Vec Answered Global) → Pairs (λ n a r. IsAnswered setup s a r) 0 given.items (reverse (replies_to actor s.replies))
        → Pairs (λ n a r. IsAnswered setup t a r) 0 given.items (reverse (replies_to actor s.replies))
    on actor given ps = weaker_here (λ n a r. IsAnswered setup s a r) (λ n a r. IsAnswered setup t a r) given.items (reverse (replies_to actor s.replies))
        (λ n a r _ _ x. answered_on setup s t a r (λ k. ([], refl)) x) ps

    told : (actor : ℕ) (given : Vec Answered Global) → slice_get (set core.replies.items reply.actor after) actor ≡ Some given
        → (((reply.actor == actor) ≡ true) × (reply.actor ≡ actor)) ⊎ (((reply.actor == actor) ≡ false) × (reply.actor ≡ actor → ⊥))
        → Pairs (λ n a r. IsAnswered setup t a r) 0 given.items (reverse (replies_to actor t.replies))
    told actor given e (inl w) =
        let inside = get_within core.replies.items reply.actor held eh in
        let same : after ≡ given = get_one (set core.replies.items reply.actor after) reply.actor after given (get-set core.replies.items reply.actor after inside)
        (ap (slice_get (set core.replies.items reply.actor after)) w.1 ∙ e) in
        let items : held.items ++ answered ∷ [] ≡ given.items = sym ea ∙ ap (λ (v : Vec Answered Global). v.items) same in
        let before = on actor held (are.replies actor held (ap (slice_get core.replies.items) (sym w.1) ∙ eh)) in
        let last : reverse (replies_to actor s.replies) ++ reply ∷ [] ≡ reverse (replies_to actor t.replies) =
        sym (push_reverse reply (replies_to actor s.replies)) ∙ ap reverse (sym (if_true (reply.actor == actor) (reply ∷ replies_to actor s.replies) (replies_to actor s.replies) w.0)) in
        subst (λ (xs : List Reply). Pairs (λ n a r. IsAnswered setup t a r) 0 given.items xs) last
        (subst (λ (xs : List Answered). Pairs (λ n a r. IsAnswered setup t a r) 0 xs (reverse (replies_to actor s.replies) ++ reply ∷ [])) items
        (pairs_push (λ n a r. IsAnswered setup t a r) 0 held.items (reverse (replies_to actor s.replies)) answered reply before (answered_on setup s t answered reply (λ k. ([], refl)) is)))
    told actor given e (inr w) =
        let there : slice_get core.replies.items actor ≡ Some given = sym (get-set_other core.replies.items reply.actor actor after (λ same. w.1 (sym same))) ∙ e in
        let rest : replies_to actor s.replies ≡ replies_to actor t.replies = sym (if_false (reply.actor == actor) (reply ∷ replies_to actor s.replies) (replies_to actor s.replies) w.0) in
        subst (λ (xs : List Reply). Pairs (λ n a r. IsAnswered setup t a r) 0 given.items (reverse xs)) rest (on actor given (are.replies actor given there))

  -- who isn't there hears nothing
  pub unheard : (past : Joined) (s : State) (core : Core J) (reply : Reply) → IsCore verdict setup past s core → length core.replies.items ≤ reply.actor
      → IsCore verdict setup past (record s { replies = reply ∷ s.replies }) core
  unheard past s core reply are far = record {
    routes = are_same verdict setup s t core.routes (λ n. refl) (λ j. refl) are.routes;
    protocols = are.protocols;
    up = are.up;
    histories = are.histories;
    operations = are.operations;
    logs = are.logs;
    replies = λ actor given e.
        let w = get_within core.replies.items actor given e in
        let other : (reply.actor == actor) ≡ false = eqb_no reply.actor actor (λ same. omega (arith, w, far, same)) in
        let rest : replies_to actor s.replies ≡ replies_to actor t.replies = sym (if_false (reply.actor == actor) (reply ∷ replies_to actor s.replies) (replies_to actor s.replies) other) in
        subst (λ (xs : List Reply). Pairs (λ n a r. IsAnswered setup t a r) 0 given.items (reverse xs)) rest
        (weaker_here (λ n a r. IsAnswered setup s a r) (λ n a r. IsAnswered setup t a r) given.items (reverse (replies_to actor s.replies))
        (λ n a r _ _ x. answered_on setup s t a r (λ k. ([], refl)) x) (are.replies actor given e));
    channels = are.channels;
    tables = are.tables;
    names = are.names;
    choices = are.choices;
    queries = are.queries;
  } where
    t : State
    t = record s { replies = reply ∷ s.replies }
