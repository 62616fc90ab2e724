-- Each setup has a first phase, in which all stands that a phase begins with.
use Rattle.std.proofs.Common.{◌≡◌, ℕ, arith, List, [], ◌∷◌, ◌++◌, length, Option, Some, refl, sym, ap, subst, ◌∙◌}
use Rattle.attrs.specs.declared.attributes.Kind.{Kind}
use Rattle.attrs.specs.declared.attributes.Kind.TheVariants.{Static, Bgp}
use Rattle.attrs.specs.declared.judge.Verdict.{Verdict}
use Rattle.attrs.specs.declared.route.Route.{Route}
use Rattle.bits_ip.specs.Prefix.{Net}
use Rattle.bits_ip.specs.declared.address.Family.{Family}
use Rattle.core_machine.specs.Lines.{Line}
use Rattle.core_setup.specs.Protocols.{accepted_at, accepted_in, first_at, is_pipe, protocol_at}
use Rattle.core_setup.specs.Setup.{Exports, FitsBody, FitsSource, HasSession, IsSession, IsSetup, IsSource, Protocol, Setup, Source, family_at}
use Rattle.core_setup.proofs.Numbered.{none_some, protocol_is, some_same}
use Rattle.import_core.specs.Imports.{route_at}
use Rattle.phase_room.specs.First.{first_phase, new_exporter, new_importer, nothing_in, smallest, two_neighbours}
use Rattle.phase_room.specs.Stands.{StandsChannel, StandsSource, StandsTable}

nothing_said : {A B : Type 0} (front : List A) (x : A) (back : List A) → [] ≡ front ++ x ∷ back → B
nothing_said [] x back e = absurd (let long = ap length e in omega (arith, long))
nothing_said (y ∷ front) x back e = absurd (let long = ap length e in omega (arith, long))

pub table_stands : (family : Family) → StandsTable (nothing_in family)
table_stands family = record {
  told = λ front entry back e. nothing_said front entry back e;
  rows = λ net num. refl;
}

module _ {J : Type 0} (verdict : J → Net → Route → Verdict) (setup : Setup) (lines : List Line) (actors number : ℕ) (protocol : Protocol) (source : Source) (family : Family) (judge : J)
    (is : IsSetup setup) (protocol_here : protocol_at setup number ≡ Some protocol) (body : protocol.body ≡ IsSource source) (family_here : family_at setup.tables source.table ≡ Some family) where
  fits : FitsSource setup.tables number source
  fits = subst (FitsBody setup.tables number) body (protocol_is setup number protocol is protocol_here)

  pub source_stands : verdict judge ≡ source.filter → StandsSource verdict (first_phase setup lines actors) number source (nothing_in family) (new_importer source.spec judge)
  source_stands filter = record {
    setup = is;
    protocol = protocol;
    protocol_is = protocol_here;
    body = body;
    family = family_here;
    rows = λ net. sym (ap (λ z. route_at net (accepted_at z [])) protocol_here ∙ ap (λ z. route_at net (accepted_in z [])) body);
    past = tt;
    importer = record { spec = refl; judge = filter; imports = refl };
  }

  session_in : (kind : Kind) (found : Option Family) (exports : Exports) → HasSession kind found number (Some exports) → IsSession found number exports
  session_in Static found exports has = absurd has
  session_in Bgp found exports has = has

  session_is : (exports : Exports) → source.exports ≡ Some exports → IsSession (family_at setup.tables source.table) number exports
  session_is exports e = session_in source.spec.kind (family_at setup.tables source.table) exports (subst (HasSession source.spec.kind (family_at setup.tables source.table) number) e fits.session)

  pub channel_stands : (exports : Exports) → source.exports ≡ Some exports → verdict judge ≡ exports.filter → StandsChannel verdict (first_phase setup lines actors) number exports (nothing_in family) (new_exporter exports.spec judge)
  channel_stands exports e filter = record {
    spec = refl;
    filter = filter;
    neighbour = (session_is exports e).every;
    family = some_same (sym (session_is exports e).family ∙ family_here);
    rest = refl;
    stands = record { follows = tt; lanes = λ _ h up. none_some up };
    position = λ up. refl;
    up = sym (ap first_at protocol_here ∙ ap is_pipe body);
  }

-- ---- worked

pub two_is : (verdict : Net → Route → Verdict) → IsSetup (two_neighbours verdict)
two_is verdict = record {
  tables = omega arith;
  protocols = (
    record { source = refl; table = omega arith; fixed = tt; session = record { family = refl; own = refl; every = refl } },
    (record { source = refl; table = omega arith; fixed = tt; session = record { family = refl; own = refl; every = refl } }, tt),
  );
  queries = λ k d less. absurd (omega (arith, less));
}

pub smallest_is : (verdict : Net → Route → Verdict) → IsSetup (smallest verdict)
smallest_is verdict = record {
  tables = omega arith;
  protocols = (
    record { source = refl; table = omega arith; fixed = tt; session = record { family = refl; own = refl; every = refl } },
    tt,
  );
  queries = λ k d less. absurd (omega (arith, less));
}
