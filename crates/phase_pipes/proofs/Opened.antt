-- In the first phase all stands of a pipe that a session begins with.
use Rattle.std.proofs.Common.{◌≡◌, ℕ, ◌≤◌, arith, true, false, List, [], ◌∷◌, length, Option, Some, None, refl, sym, ap, subst, ◌∙◌}
use Rattle.std.proofs.lemmas.Bool.{false≢true}
use Rattle.attrs.specs.declared.judge.Verdict.{Verdict}
use Rattle.attrs.specs.declared.route.Route.{Route}
use Rattle.bits_ip.specs.Prefix.{Net}
use Rattle.bits_ip.specs.declared.address.Family.{Family}
use Rattle.core_machine.specs.Lines.{Line}
use Rattle.core_machine.specs.Rules.{IsRules}
use Rattle.core_setup.specs.Channels.{Channel, channel_at}
use Rattle.core_setup.specs.Protocols.{exports_of, exports_to, first_at, is_pipe, protocol_at, rules_of, sources}
use Rattle.core_setup.specs.Setup.{Exports, IsPipe, IsSetup, Pipe, Protocol, Setup}
use Rattle.core_setup.proofs.Numbered.{none_some, some_same}
use Rattle.core_setup.proofs.Passed.{spec_is}
use Rattle.export_core.specs.Histories.{course_of}
use Rattle.export_core.specs.Lanes.{IsLane}
use Rattle.export_core.specs.States.{StandsFor, lane_of, value_for}
use Rattle.export_core.specs.declared.log.Key.{Key}
use Rattle.export_core.specs.declared.passing.ExportSpec.{ExportSpec}
use Rattle.phase_room.specs.First.{first_phase, nothing_in}
use Rattle.phase_pipes.specs.First.{one_pipe, open_exporter}
use Rattle.phase_pipes.specs.Ports.{ports_with_pipes}
use Rattle.phase_pipes.specs.Stands.{IsDirectionOf, StandsDirection, StandsPipe}

pub pipe_stands : (setup : Setup) (lines : List Line) (actors number : ℕ) (protocol : Protocol) (pipe : Pipe) → IsSetup setup → protocol_at setup number ≡ Some protocol → protocol.body ≡ IsPipe pipe → StandsPipe (first_phase setup lines actors) number pipe true
pipe_stands setup lines actors number protocol pipe is here body = record { setup = is; protocol = protocol; protocol_is = here; body = body; up_is = refl }

module _ {J : Type 0} (verdict : J → Net → Route → Verdict) (spec : ExportSpec) (judge : J) where
  lane_first : (k : Key) → IsLane (value_for verdict (open_exporter spec judge)) (course_of spec []) k 0 0 (lane_of (open_exporter spec judge) k)
  lane_first k = record {
    begun = omega arith;
    within = omega arith;
    after = λ x e. none_some e;
    mark = λ m e. none_some e;
    still = λ none ahead. absurd (false≢true (sym ahead));
    count = omega arith;
    fresh = λ due coming some. absurd (false≢true some);
  }

  stands_first : StandsFor verdict (course_of spec []) (open_exporter spec judge)
  stands_first = record {
    follows = (tt, (refl, omega arith, omega arith));
    lanes = λ rest h up k. subst (λ n. IsLane (value_for verdict (open_exporter spec judge)) (course_of spec []) k n 0 (lane_of (open_exporter spec judge) k)) (some_same up) (lane_first k);
  }

module _ {J : Type 0} (verdict : J → Net → Route → Verdict) (setup : Setup) (lines : List Line) (actors number : ℕ) (protocol : Protocol) (pipe : Pipe) (d : ℕ) (channel : Channel) (family : Family) (judge : J)
    (is : IsSetup setup) (are : IsRules (rules_of setup)) (here : protocol_at setup number ≡ Some protocol) (body : protocol.body ≡ IsPipe pipe) (there : channel_at setup d ≡ Some channel) where
  filter_to : (o : Option ℕ) (passed : List ℕ) (exports : Exports) → (exports_to o passed exports).filter ≡ exports.filter
  filter_to o passed exports = by o where
    by : (o : Option ℕ) → (exports_to o passed exports).filter ≡ exports.filter
    by None = refl
    by (Some table) = refl

  family_to : (o : Option ℕ) (passed : List ℕ) (exports : Exports) → (exports_to o passed exports).spec.family ≡ exports.spec.family
  family_to o passed exports = by o where
    by : (o : Option ℕ) → (exports_to o passed exports).spec.family ≡ exports.spec.family
    by None = refl
    by (Some table) = refl

  family_is : channel.exports.spec.family ≡ family → (exports_of setup d channel).spec.family ≡ family
  family_is e = family_to channel.target (sources setup d) channel.exports ∙ e

  pub direction_stands : channel.exports.spec.family ≡ family → verdict judge ≡ channel.exports.filter
      → StandsDirection verdict (first_phase setup lines actors) number d (exports_of setup d channel) (nothing_in family) (nothing_in family) (open_exporter (exports_of setup d channel).spec judge)
  direction_stands same filter = record {
    spec = refl;
    filter = filter ∙ sym (filter_to channel.target (sources setup d) channel.exports);
    rules = spec_is setup is are.ways d channel there;
    family = family_is same;
    same = family_is same;
    rest = refl;
    stands = stands_first verdict (exports_of setup d channel).spec judge;
    position = λ up. refl;
    up = sym (ap first_at here ∙ ap is_pipe body);
    rows = λ net num goes. refl;
  }

-- ---- worked

pub one_is : (verdict : Net → Route → Verdict) → IsSetup (one_pipe verdict)
one_is verdict = record {
  tables = omega arith;
  protocols = (
    record { source = refl; table = omega arith; fixed = tt; session = record { family = refl; own = refl; every = refl } },
    (record { primary = omega arith; peer = omega arith; apart = λ e. omega (arith, e); family = refl }, tt),
  );
  queries = λ k d less. absurd (omega (arith, less));
}

pub one_out : (verdict : Net → Route → Verdict) → IsDirectionOf (one_pipe verdict) 1 1 0 1
one_out verdict = record { channel = _; channel_is = refl; owner = refl; reads_is = refl; writes_is = refl }

pub one_back : (verdict : Net → Route → Verdict) → IsDirectionOf (one_pipe verdict) 1 2 1 0
one_back verdict = record { channel = _; channel_is = refl; owner = refl; reads_is = refl; writes_is = refl }

pub first_ports : (verdict : Net → Route → Verdict) → ports_with_pipes (one_pipe verdict) 0 ≡ (0 ∷ []) ∷ [] ∷ []
first_ports verdict = refl

pub second_ports : (verdict : Net → Route → Verdict) → ports_with_pipes (one_pipe verdict) 1 ≡ [] ∷ (0 ∷ []) ∷ []
second_ports verdict = refl
