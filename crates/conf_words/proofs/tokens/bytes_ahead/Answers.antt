use Rattle.std.proofs.Common.{List, ℕ, Some, None, ap, sym, refl}
use Rattle.conf_scan.specs.Spans.{slice_of}
use Rattle.conf_scan.specs.declared.token.TokenKind.TheVariants as kinds
use Rattle.conf_words.proofs.TokenSteps.{bytes_here, bytes_none, no_name}
use Rattle.conf_words.proofs.tokens.bytes_ahead.Goals as goal

pub bytes-requires : goal.bytes-requires
bytes-requires c = c.in-Some.ensures.inside.ends

pub returns-in-Name : goal.returns-in-Name
returns-in-Name c = bytes_here c.args.text.now c.args.spot c.in-Some.field-0-1 c.in-Some.token kinds.Name (Some c.bytes.result.now) c.in-Some.ensures c.in-Name.is (ap (λ (b : List ℕ). Some b) (sym c.bytes.ensures))

pub returns-in_default : goal.returns-in_default
returns-in_default c = bytes_here c.args.text.now c.args.spot c.in-Some.field-0-1 c.in-Some.token c.in-Some.token.kind None c.in-Some.ensures refl (no_name (slice_of c.args.text.now c.in-Some.token) c.in-Some.token.kind c.in_default.not-Name)

pub returns-in-None : goal.returns-in-None
returns-in-None c = λ tokens lexes. bytes_none c.args.text.now tokens (c.in-None.ensures tokens lexes)
