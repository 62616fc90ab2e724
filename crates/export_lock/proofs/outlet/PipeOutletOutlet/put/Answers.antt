use Rattle.std.proofs.Common.{◌≡◌, true, ◌++◌, ◌∷◌, [], map, refl, sym, subst}
use Rattle.std.specs.Prelude.{option_map}
use Rattle.bits_ip.specs.Address.{family_of}
use Rattle.export_lock.specs.Outlets.{IsPutting, Putting, takes_of, told_by}
use Rattle.export_lock.proofs.Putting.{logged, port_family, port_here, port_source, port_sources, put_kept, refused_kept, told_more}
use Rattle.export_lock.proofs.outlet.PipeOutletOutlet.put.Goals as goal

pub enter-requires-clause-here : goal.enter-requires-clause-here
enter-requires-clause-here g c = port_here c.self.inside.table.now _ c.self.invariant

pub enter-requires-clause-sources : goal.enter-requires-clause-sources
enter-requires-clause-sources g c = port_sources c.self.inside.table.now _ c.self.invariant

pub enter-requires-clause-source : goal.enter-requires-clause-source
enter-requires-clause-source g c =
    port_source c.self.inside.table.now _ c.self.invariant c.args.sending.now.key.num (family_of c.args.sending.now.key.net.addr)
    (subst (λ (o : Putting). takes_of o c.args.sending.now.key.num (family_of c.args.sending.now.key.net.addr) ≡ true) (sym c.self.view_is) c.requires)

pub enter-requires-clause-family : goal.enter-requires-clause-family
enter-requires-clause-family g c =
    port_family c.self.inside.table.now _ c.self.invariant c.args.sending.now.key.num (family_of c.args.sending.now.key.net.addr)
    (subst (λ (o : Putting). takes_of o c.args.sending.now.key.num (family_of c.args.sending.now.key.net.addr) ≡ true) (sym c.self.view_is) c.requires)

pub invariant_of-self : goal.invariant_of-self
invariant_of-self g c =
    subst (λ given. IsPutting c.self.inside.table.now (record {
      begun = c.self.inside.begun.value;
      sources = c.self.inside.sources.now;
      given = given;
      refusals = c.self.inside.refusals;
      fault = c.self.inside.fault;
      port = c.enter.new.port;
    }))
    (sym (logged c.self.inside.given.items c.and-self-inside.result.items c.args.sending.now c.and-self-inside.ensures))
    (put_kept c.self.inside.table.now _ c.self.invariant c.args.sending.now c.enter.new.port c.in-Ok.ensures.puts)

pub invariant_of-self-in-Err : goal.invariant_of-self-in-Err
invariant_of-self-in-Err g c = refused_kept c.self.inside.table.now _ c.self.invariant c.args.sending.now c.in-Err.fault c.saturating_add-self-inside.result c.enter.new.port c.in-Err.ensures.refuses

pub returns-in-Ok-clause-told : goal.returns-in-Ok-clause-told
returns-in-Ok-clause-told g c =
    let x = c.args.sending.now in
    let items = c.self.inside.given.items in
    let all = c.and-self-inside.result.items in
    let old : Putting = record { begun = c.self.inside.begun.value; sources = c.self.inside.sources.now; given = map (λ p. p.0) items; refusals = c.self.inside.refusals; fault = c.self.inside.fault; port = c.self.inside.port } in
    let new : Putting = record { begun = c.self.inside.begun.value; sources = c.self.inside.sources.now; given = map (λ p. p.0) all; refusals = c.self.inside.refusals; fault = c.self.inside.fault; port = c.enter.new.port } in
    subst (λ (o : Putting). told_by new ≡ option_map (λ sent. sent ++ x ∷ []) (told_by o)) c.self.view_is
    (told_more old new x refl refl (logged items all x c.and-self-inside.ensures))
