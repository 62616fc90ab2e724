use Rattle.std.proofs.Common.{List, ℕ, ap, ◌∙◌, refl}
use Rattle.conf_ast.specs.Configurations as conf
use Rattle.conf_ast.specs.Filters.{block_of}
use Rattle.conf_names.specs.Known.{is_declared}
use Rattle.conf_names.specs.Seen.{known_of}
use Rattle.conf_check.specs.Behind.{with_filter}
use Rattle.conf_check.proofs.Allowed.{filter_free}
use Rattle.conf_check.proofs.Growing.{stays_declares}
use Rattle.conf_check.proofs.statements.filter.Goals as goal

pub declare_filter-requires-clause-free : goal.declare_filter-requires-clause-free
declare_filter-requires-clause-free c =
    let known = known_of c.args.text.now c.args.checked.now.declared in
    ap (λ (n : List ℕ). is_declared known n) c.bytes.ensures ∙ filter_free known c.args.at c.args.filter.now.name (block_of c.args.filter.now.block) c.requires.0

pub declare_filter-requires-clause-named : goal.declare_filter-requires-clause-named
declare_filter-requires-clause-named c = c.requires.1

pub returns : goal.returns
returns c =
    let known = known_of c.args.text.now c.args.checked.now.declared in
    record {
      declares = stays_declares c.args.text.now (conf.DefineFilter c.args.at c.args.filter.now.name (block_of c.args.filter.now.block)) c.args.checked.now.declared c.declare_filter.new.declared
          (c.in_ok-declare_filter.ensures.known c.args.text.now ∙ ap (λ (n : List ℕ). with_filter known n) c.bytes.ensures) (λ x. refl) c.in_ok-declare_filter.ensures.stays;
      filters = (c.in_ok-tree.tree, c.in_ok-push.ensures.items, c.in_ok-tree.ensures);
      protocols = refl;
      places = refl;
      end = refl;
    }
