use Rattle.std.proofs.Common.{◌∙◌, sym, subst, ap, ◌<◌, ◌^◌, List, map}
use Rattle.std.specs.List.{All}
use Rattle.conf_check.specs.declared.checked.ProtocolDef.{ProtocolDef}
use Rattle.conf_system.specs.Seen.{protocol_seen, system_of}
use Rattle.sys_build.specs.Names.{all_channels, held_table, named_protocol}
use Rattle.sys_build.proofs.Fitting.{tables_fit}
use Rattle.sys_build.proofs.Turns.{named_is}
use Rattle.sys_build.proofs.names.named.Goals as goal

pub protocols-requires : goal.protocols-requires
protocols-requires c =
    subst (λ (l : List ProtocolDef). All (λ (def : ProtocolDef). held_table def.body < 2 ^ 32) l) (sym c.deref.ensures.value) (tables_fit c.args.system.now c.args.schedule c.requires.few c.requires.tables)

pub returns : goal.returns
returns c =
    let s = c.args.system.now in
    let scope = s.checked.declared.scope in
    let filters = s.checked.filters.items in
    named_is (system_of s) c.args.schedule c.from_vec.result c.from_vec-2.result c.from_vec-3.result c.in_ok-listed.listed
    (c.from_vec.ensures ∙ c.in_ok-protocols.ensures scope filters s.names ∙ ap (λ (l : List ProtocolDef). map named_protocol (map (protocol_seen scope filters s.names) l)) c.deref.ensures.value)
    (c.from_vec-2.ensures ∙ c.in_ok-channels.ensures scope filters s.names ∙ ap (λ (l : List ProtocolDef). all_channels (map (protocol_seen scope filters s.names) l)) c.deref-2.ensures.value)
    (c.from_vec-3.ensures ∙ c.in_ok-tables.ensures)
    (c.in_ok-listed.ensures ∙ c.in_ok-filters.ensures)
