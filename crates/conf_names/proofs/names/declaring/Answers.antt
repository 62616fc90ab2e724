use Rattle.std.proofs.Common.{◌∷◌, [], List, ℕ, ap, ◌∙◌, sym}
use Rattle.conf_names.specs.Known.{is_declared}
use Rattle.conf_names.specs.Names.{own_name}
use Rattle.conf_names.specs.Seen.{known_of}
use Rattle.conf_names.proofs.Wholes.{or_false}
use Rattle.conf_names.proofs.names.declaring.Goals as goal

pub returns : goal.returns
returns c =
    c.one_more.ensures (own_name (known_of c.args.text.now c.args.declared.now) c.args.stem.now c.args.name ∷ [])
    (c.is_declared-is_taken.ensures c.args.text.now ∙ ap (λ (n : List ℕ). is_declared (known_of c.args.text.now c.args.declared.now) n) (c.deref.ensures.value ∙ c.in_ok-bytes.ensures)
    ∙ sym (or_false (is_declared (known_of c.args.text.now c.args.declared.now) (own_name (known_of c.args.text.now c.args.declared.now) c.args.stem.now c.args.name))))
