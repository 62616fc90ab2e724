-- The starts of static protocols, one after another.
use Rattle.std.proofs.Common.{◌≡◌, ℕ, suc, ◌+◌, true, false, List, [], ◌∷◌, ◌++◌, length, take, Some, refl, sym, ap, subst, ◌∙◌, arith}
use Rattle.std.specs.Prelude.{slice_get}
use Rattle.attrs.specs.declared.attributes.Kind.{Kind}
use Rattle.attrs.specs.declared.attributes.Kind.TheVariants as kinds
use Rattle.bits_ip.specs.Prefix.{Net}
use Rattle.attrs.specs.declared.judge.Verdict.{Verdict}
use Rattle.attrs.specs.declared.route.Route.{Route}
use Rattle.core_machine.specs.Legal.{Joined}
use Rattle.core_machine.specs.Lines.{Act}
use Rattle.core_machine.specs.Machine.{Applies, Begins, State}
use Rattle.core_machine.specs.Rules.{Rules}
use Rattle.import_core.specs.declared.operation.Op.{Op}
use Rattle.import_core.specs.declared.operation.Op.TheVariants.{Start}
use Rattle.core_setup.specs.Protocols.{rules_of, starts_from, with_begin, with_start}
use Rattle.core_setup.specs.Setup.{Body as SeenBody, IsPipe, IsSource, Protocol as SeenProtocol, Setup}
use Rattle.core_setup.proofs.PairLemmas.{length_front, other_here, get_one, pairs_length, take_one_more}
use Rattle.sys_run.specs.Cores.{Does, IsCore, PlaysAs, is_static, is_static_kind}
use Rattle.sys_run.specs.declared.player.Core.{Core}
use Rattle.sys_run.specs.declared.protocol.Body.{Body}
use Rattle.sys_run.specs.declared.protocol.Body.TheVariants.{Pipe, Source}
use Rattle.sys_run.specs.declared.protocol.Protocol.{Protocol}

-- ---- one more at the end

starts_push : (n : ℕ) (ps : List SeenProtocol) (p : SeenProtocol) (earlier : List Act) → starts_from n (ps ++ p ∷ []) earlier ≡ with_begin (n + length ps) p.body (starts_from n ps earlier)
starts_push n [] p earlier = ap (λ m. with_begin m p.body earlier) (let z : n ≡ n + 0 = omega arith in z)
starts_push n (q ∷ ps) p earlier =
    starts_push (n + 1) ps p (with_begin n q.body earlier)
    ∙ ap (λ m. with_begin m p.body (starts_from (n + 1) ps (with_begin n q.body earlier))) (let z : n + 1 + length ps ≡ n + suc (length ps) = omega arith in z)

begins_kind : (rules : Rules) (n : ℕ) (kind : Kind) (acts : List Act) (s between t : State) → Begins rules acts s between → Begins rules (with_start n kind []) between t → Begins rules (with_start n kind acts) s t
begins_kind rules n kinds.Static acts s between t begins one = (between, begins, subst (λ x. Applies rules (record { actor = 0; line = 0; protocol = n; op = Start }) x t) one.1 one.2)
begins_kind rules n kinds.Bgp acts s between t begins one = subst (λ x. Begins rules acts s x) (sym one) begins

begins_one : (rules : Rules) (n : ℕ) (body : SeenBody) (acts : List Act) (s between t : State) → Begins rules acts s between → Begins rules (with_begin n body []) between t → Begins rules (with_begin n body acts) s t
begins_one rules n (IsSource p) acts s between t begins one = begins_kind rules n p.spec.kind acts s between t begins one
begins_one rules n (IsPipe p) acts s between t begins one = subst (λ x. Begins rules acts s x) (sym one) begins

-- the first protocols have started
pub begins_more : (setup : Setup) (n : ℕ) (p : SeenProtocol) (s between t : State) → slice_get setup.protocols n ≡ Some p
    → Begins (rules_of setup) (starts_from 0 (take n setup.protocols) []) s between → Begins (rules_of setup) (with_begin n p.body []) between t
    → Begins (rules_of setup) (starts_from 0 (take (n + 1) setup.protocols) []) s t
begins_more setup n p s between t e begins one =
    let more : starts_from 0 (take (n + 1) setup.protocols) [] ≡ with_begin n p.body (starts_from 0 (take n setup.protocols) []) =
    ap (λ ps. starts_from 0 ps []) (take_one_more setup.protocols n p e) ∙ starts_push 0 (take n setup.protocols) p []
    ∙ ap (λ m. with_begin m p.body (starts_from 0 (take n setup.protocols) [])) (length_front setup.protocols n p e) in
    subst (λ acts. Begins (rules_of setup) acts s t) (sym more) (begins_one (rules_of setup) n p.body (starts_from 0 (take n setup.protocols) []) s between t begins one)

-- ---- one of them

apart : false ≡ true → ⊥
apart same = cc

static_start : (rules : Rules) (n : ℕ) (kind : Kind) (s t : State) → is_static_kind kind ≡ true → Applies rules (record { actor = 0; line = 0; protocol = n; op = Start }) s t → Begins rules (with_start n kind []) s t
static_start rules n kinds.Static s t is applies = (s, refl, applies)
static_start rules n kinds.Bgp s t is applies = absurd (apart is)

other_start : (rules : Rules) (n : ℕ) (kind : Kind) (s : State) → is_static_kind kind ≡ false → Begins rules (with_start n kind []) s s
other_start rules n kinds.Static s is = absurd (apart (sym is))
other_start rules n kinds.Bgp s is = refl

module _ {J : Type 0} (verdict : J → Net → Route → Verdict) where
  body_starts : (rules : Rules) (n : ℕ) (body : SeenBody) (ops : List Op) (held : Body J) (s t : State) → Does verdict body ops held → is_static held ≡ true
      → Applies rules (record { actor = 0; line = 0; protocol = n; op = Start }) s t → Begins rules (with_begin n body []) s t
  body_starts rules n (IsSource p) ops (Source held) s t does is applies =
      static_start rules n p.spec.kind s t (ap is_static_kind (sym does.kind) ∙ is) applies
  body_starts rules n (IsSource p) ops (Pipe up) s t does is applies = absurd does
  body_starts rules n (IsPipe p) ops (Source held) s t does is applies = absurd does
  body_starts rules n (IsPipe p) ops (Pipe up) s t does is applies = absurd (apart is)

  body_waits : (rules : Rules) (n : ℕ) (body : SeenBody) (ops : List Op) (held : Body J) (s : State) → Does verdict body ops held → is_static held ≡ false → Begins rules (with_begin n body []) s s
  body_waits rules n (IsSource p) ops (Source held) s does is = other_start rules n p.spec.kind s (ap is_static_kind (sym does.kind) ∙ is)
  body_waits rules n (IsSource p) ops (Pipe up) s does is = absurd does
  body_waits rules n (IsPipe p) ops (Source held) s does is = absurd does
  body_waits rules n (IsPipe p) ops (Pipe up) s does is = refl

  module _ (setup : Setup) (past : Joined) (s : State) (core : Core J) (are : IsCore verdict setup past s core) where
    pub protocols_length : length setup.protocols ≡ length core.protocols.items
    protocols_length = pairs_length (λ i p held. PlaysAs verdict setup i p (past.ops i) (s.ops i) held) 0 setup.protocols core.protocols.items are.protocols

    plays_at : (n : ℕ) (p : SeenProtocol) (held : Protocol J) → slice_get setup.protocols n ≡ Some p → slice_get core.protocols.items n ≡ Some held → PlaysAs verdict setup n p (past.ops n) (s.ops n) held
    plays_at n p held e eh =
        let other = other_here (λ i p held. PlaysAs verdict setup i p (past.ops i) (s.ops i) held) setup.protocols core.protocols.items are.protocols n p e in
        subst (λ (h : Protocol J). PlaysAs verdict setup n p (past.ops n) (s.ops n) h) (get_one core.protocols.items n other.0 held other.1 eh) other.2

    pub starts_one : (n : ℕ) (p : SeenProtocol) (held : Protocol J) (t : State) → slice_get setup.protocols n ≡ Some p → slice_get core.protocols.items n ≡ Some held → is_static held.body ≡ true
        → Applies (rules_of setup) (record { actor = 0; line = 0; protocol = n; op = Start }) s t → Begins (rules_of setup) (with_begin n p.body []) s t
    starts_one n p held t e eh is applies = body_starts (rules_of setup) n p.body _ held.body s t (plays_at n p held e eh).body is applies

    pub waits_one : (n : ℕ) (p : SeenProtocol) (held : Protocol J) → slice_get setup.protocols n ≡ Some p → slice_get core.protocols.items n ≡ Some held → is_static held.body ≡ false
        → Begins (rules_of setup) (with_begin n p.body []) s s
    waits_one n p held e eh is = body_waits (rules_of setup) n p.body _ held.body s (plays_at n p held e eh).body is
