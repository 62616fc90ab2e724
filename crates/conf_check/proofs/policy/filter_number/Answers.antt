use Rattle.std.proofs.Common.{List, ℕ, ap, sym, ◌∙◌}
use Rattle.conf_names.specs.Seen.{known_of}
use Rattle.conf_names.specs.Known.{place_in}
use Rattle.conf_names.proofs.Places.{place_is, place_none}
use Rattle.conf_check.proofs.policy.filter_number.Goals as goal

pub returns-in-Some : goal.returns-in-Some
returns-in-Some c = place_is c.bytes.result.now c.args.declared.now.filters.keys c.in-Some.number (sym c.in-Some.is ∙ c.get_index_of.ensures.index)
    ∙ ap (λ (n : List ℕ). place_in (known_of c.args.text.now c.args.declared.now).filters n) c.bytes.ensures

pub returns-in-None : goal.returns-in-None
returns-in-None c = c.len.ensures.len ∙ place_none c.bytes.result.now c.args.declared.now.filters.keys (sym c.in-None.is ∙ c.get_index_of.ensures.index)
    ∙ ap (λ (n : List ℕ). place_in (known_of c.args.text.now c.args.declared.now).filters n) c.bytes.ensures
