use Rattle.std.proofs.Common.{◌≡◌, Bool, true, false, if◌then◌else◌, List, [], ◌∷◌, ◌++◌, ℕ, append-nil, ap, sym, ◌∙◌, refl}
use Rattle.conf_ast.specs.Names.{name_bytes}
use Rattle.conf_ast.specs.Configurations as conf
use Rattle.filt_meaning.specs.Names.{same_name}
use Rattle.conf_names.specs.Known.{is_declared}
use Rattle.conf_names.specs.Seen.{known_of}
use Rattle.conf_rules.specs.Statements.{master}
use Rattle.conf_check.specs.Behind.{with_table}
use Rattle.conf_check.proofs.Allowed.{table_free}
use Rattle.conf_check.proofs.Growing.{stays_declares}
use Rattle.conf_check.proofs.statements.table.Goals as goal

told : (b : Bool) (text name bytes other : List ℕ) (master : List ℕ) → b ≡ same_name bytes other → bytes ≡ name → other ≡ master → b ≡ same_name name master
told b text name bytes other master is p q = is ∙ ap (λ (n : List ℕ). same_name n other) p ∙ ap (λ (m : List ℕ). same_name name m) q

pub declare_table-requires-clause-free : goal.declare_table-requires-clause-free
declare_table-requires-clause-free c =
    let known = known_of c.args.text.now c.args.checked.now.declared in
    let name = name_bytes c.args.text.now c.args.name in
    ap (λ (n : List ℕ). is_declared known n) c.bytes-else-eq.ensures
    ∙ table_free known c.args.at c.args.family c.args.name (sym (told false c.args.text.now name c.bytes.result.now c.master.result.now (master c.args.family) c.if-eq.ensures c.bytes.ensures c.master.ensures)) c.requires.0

pub declare_table-requires-clause-named : goal.declare_table-requires-clause-named
declare_table-requires-clause-named c = c.requires.1

pub returns-in_ok-push : goal.returns-in_ok-push
returns-in_ok-push c =
    let known = known_of c.args.text.now c.args.checked.now.declared in
    let name = name_bytes c.args.text.now c.args.name in
    let other : false ≡ same_name name (master c.args.family) = told false c.args.text.now name c.bytes.result.now c.master.result.now (master c.args.family) c.if-eq.ensures c.bytes.ensures c.master.ensures in
    record {
      declares = stays_declares c.args.text.now (conf.Table c.args.at c.args.family c.args.name) c.args.checked.now.declared c.declare_table.new.declared
          (c.in_ok-declare_table.ensures.known c.args.text.now ∙ ap (λ (n : List ℕ). with_table known n c.args.family) c.bytes-else-eq.ensures
          ∙ ap (λ (b : Bool). if b then known else with_table known name c.args.family) other)
          (λ x. refl) c.in_ok-declare_table.ensures.stays;
      filters = refl;
      protocols = refl;
      places = c.in_ok-push.ensures.items ∙ ap (λ (b : Bool). c.args.checked.now.table_places.items ++ (if b then [] else c.args.name.at ∷ [])) other;
      end = refl;
    }

pub returns-then-eq : goal.returns-then-eq
returns-then-eq c =
    let known = known_of c.args.text.now c.args.checked.now.declared in
    let name = name_bytes c.args.text.now c.args.name in
    let places = c.args.checked.now.table_places.items in
    let same : true ≡ same_name name (master c.args.family) = told true c.args.text.now name c.bytes.result.now c.master.result.now (master c.args.family) c.if-eq.ensures c.bytes.ensures c.master.ensures in
    record {
      declares = stays_declares c.args.text.now (conf.Table c.args.at c.args.family c.args.name) c.args.checked.now.declared c.args.checked.now.declared
          (ap (λ (b : Bool). if b then known else with_table known name c.args.family) same) (λ x. refl) (record { constants = refl; functions = refl });
      filters = refl;
      protocols = refl;
      places = sym (append-nil places) ∙ ap (λ (b : Bool). places ++ (if b then [] else c.args.name.at ∷ [])) same;
      end = refl;
    }
