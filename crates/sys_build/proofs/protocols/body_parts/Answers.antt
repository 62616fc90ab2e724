use Rattle.std.proofs.Common.{◌∙◌, ap, sym}
use Rattle.conf_check.specs.declared.checked.ProtocolBody.{ProtocolBody}
use Rattle.core_setup.specs.Setup as setup
use Rattle.conf_system.specs.Seen as system
use Rattle.sys_build.specs.Setups.{body_of}
use Rattle.sys_build.proofs.protocols.body_parts.Goals as goal

pub static_source-requires-clause-before : goal.static_source-requires-clause-before
static_source-requires-clause-before c = rw c.in-Static.is at c.requires.before

pub bgp_source-requires-clause-before : goal.bgp_source-requires-clause-before
bgp_source-requires-clause-before c = rw c.in-Bgp.is at c.requires.before

pub pipe-requires-clause-import : goal.pipe-requires-clause-import
pipe-requires-clause-import c = (rw c.in-Pipe.is at c.requires.before).0

pub pipe-requires-clause-export : goal.pipe-requires-clause-export
pipe-requires-clause-export c = (rw c.in-Pipe.is at c.requires.before).1

pub returns-in_ok-static_source-in-Static : goal.returns-in_ok-static_source-in-Static
returns-in_ok-static_source-in-Static c =
    let s = c.args.system.now in
    ap (λ (p : setup.Source). setup.IsSource p) c.in_ok-static_source-in-Static.ensures
    ∙ ap (λ (b : ProtocolBody). body_of c.args.number (system.body_seen s.checked.declared.scope s.checked.filters.items s.names b)) (sym c.in-Static.is)

pub returns-in_ok-bgp_source-in-Bgp : goal.returns-in_ok-bgp_source-in-Bgp
returns-in_ok-bgp_source-in-Bgp c =
    let s = c.args.system.now in
    ap (λ (p : setup.Source). setup.IsSource p) c.in_ok-bgp_source-in-Bgp.ensures
    ∙ ap (λ (b : ProtocolBody). body_of c.args.number (system.body_seen s.checked.declared.scope s.checked.filters.items s.names b)) (sym c.in-Bgp.is)

pub returns-in_ok-pipe-in-Pipe : goal.returns-in_ok-pipe-in-Pipe
returns-in_ok-pipe-in-Pipe c =
    let s = c.args.system.now in
    ap (λ (p : setup.Pipe). setup.IsPipe p) c.in_ok-pipe-in-Pipe.ensures
    ∙ ap (λ (b : ProtocolBody). body_of c.args.number (system.body_seen s.checked.declared.scope s.checked.filters.items s.names b)) (sym c.in-Pipe.is)
