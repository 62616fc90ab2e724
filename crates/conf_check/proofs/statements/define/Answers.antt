use Rattle.std.proofs.Common.{List, ℕ, Option, option_map, map, ap, sym, ◌∙◌, Vec}
use Rattle.std.specs.Global.{Global}
use Rattle.conf_ast.specs.Configurations.{value_of}
use Rattle.filt_types.specs.Scenes.{is_declared}
use Rattle.filt_meaning.specs.Scopes.{constants_in}
use Rattle.filt_meaning.specs.declared.fixed.Fixed.{Fixed}
use Rattle.filt_meaning.specs.Seen.{val_of_fixed}
use Rattle.conf_names.specs.Seen.{known_of}
use Rattle.conf_ast.specs.Names.{name_bytes}
use Rattle.conf_check.proofs.Allowed.{define_free, is_free}
use Rattle.conf_check.proofs.Growing.{constant_declares, nothing_defined}
use Rattle.conf_check.proofs.statements.define.Goals as goal

pub returns-in-None : goal.returns-in-None
returns-in-None c = nothing_defined c.args.text.now c.args.name c.args.declared.now (value_of c.args.literal.now)
    (λ around. sym (ap (λ (o : Option Fixed). option_map val_of_fixed o) c.in-None.is) ∙ c.in_ok-found.ensures around)

pub returns-in_ok-declare_constant-in-Some : goal.returns-in_ok-declare_constant-in-Some
returns-in_ok-declare_constant-in-Some c =
    let joins = c.in_ok-declare_constant-in-Some.ensures.constants in
    constant_declares c.args.text.now c.args.name c.args.declared.now c.declare_constant.new.scope (value_of c.args.literal.now) c.in-Some.value
    (joins.0, joins.1 ∙ c.bytes.ensures, joins.2) c.in_ok-declare_constant-in-Some.ensures.functions (ap (λ (l : List (Vec ℕ Global)). map (λ (k : Vec ℕ Global). k.items) l) c.in_ok-declare_constant-in-Some.ensures.others)
    (λ around. sym (ap (λ (o : Option Fixed). option_map val_of_fixed o) c.in-Some.is) ∙ c.in_ok-found.ensures around)

pub declare_constant-requires : goal.declare_constant-requires
declare_constant-requires c =
    let known = known_of c.args.text.now c.args.declared.now in
    let name = name_bytes c.args.text.now c.args.name in
    ap (λ (n : List ℕ). is_declared (constants_in c.args.declared.now.scope) n) c.bytes.ensures
    ∙ (is_free known name (define_free known c.args.name (value_of c.args.literal.now) c.requires.0)).constants
