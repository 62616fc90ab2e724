use Rattle.std.proofs.Common.{◌++◌, ◌∷◌, [], Option, None, length, refl, sym, ap, subst, ◌∙◌}
use Rattle.std.specs.Prelude.{option_map}
use Rattle.std.proofs.lemmas.List.{append-nil}
use Rattle.core_setup.specs.Channels.{session}
use Rattle.sys_run.specs.Made.{AddsChannels}
use Rattle.sys_run.specs.Parts.{exports_seen}
use Rattle.sys_run.specs.declared.parts.ExportParts.{ExportParts}
use Rattle.sys_run.proofs.MakingProtocols.{new_held, session_new}
use Rattle.sys_run.proofs.made.Made.add_session.Goals as goal

pub returns-in_ok-add_channel-in-Some : goal.returns-in_ok-add_channel-in-Some
returns-in_ok-add_channel-in-Some g c = λ tables lists number.
    let v = g.J.Judge.verdict in
    let old = c.args.self.now in
    let new = c.in_ok-add_channel-in-Some.ensures in
    subst (λ (o : Option (ExportParts g.row.J.Denot)). AddsChannels v lists (session tables number c.args.name.now c.args.table (option_map (exports_seen v) o)) old c.add_channel.new.self) (sym c.in-Some.is)
    (record {
      names = new.names;
      protocols = new.protocols;
      sources = new.sources;
      added = new_held v tables lists c.args.table None c.make-exporter.result ∷ [];
      channels = new.channels;
      are = (session_new v tables lists (length old.channels.items) number c.args.name.now c.args.table c.in-Some.field-0 c.make-exporter.result c.make-exporter.ensures, tt);
      channel_names = new.channel_names ∙ ap (λ n. old.channel_names.items ++ n ∷ []) (c.in_ok-copy-in-Some.ensures ∙ append-nil c.as_slice.result.now ∙ c.as_slice.ensures);
    })

pub returns-in-None : goal.returns-in-None
returns-in-None g c = λ tables lists number.
    let v = g.J.Judge.verdict in
    let old = c.args.self.now in
    subst (λ (o : Option (ExportParts g.row.J.Denot)). AddsChannels v lists (session tables number c.args.name.now c.args.table (option_map (exports_seen v) o)) old old) (sym c.in-None.is)
    (record {
      names = refl;
      protocols = refl;
      sources = refl;
      added = [];
      channels = sym (append-nil old.channels.items);
      are = tt;
      channel_names = sym (append-nil old.channel_names.items);
    })
