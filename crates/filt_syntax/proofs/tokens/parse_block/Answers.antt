use Rattle.std.proofs.Common.{ℕ, ◌≤◌, List, length, drop, slice_index_or, sym, subst, arith}
use Rattle.std.proofs.lemmas.List.{length-drop}
use Rattle.filt_syntax.proofs.RefusedTokens.{below_words}
use Rattle.filt_syntax.proofs.tokens.parse_block.Goals as goal

pub told-requires-clause-starts : goal.told-requires-clause-starts
told-requires-clause-starts c place =
    subst (λ (u : List ℕ). slice_index_or u place (length c.args.tokens.now) ≤ length c.args.tokens.now) (sym c.in-Ok.ensures.starts) (below_words c.args.text.now (length c.args.tokens.now) c.args.from 0 (drop c.args.from c.args.tokens.now) (omega (arith, c.requires.within, length-drop c.args.from c.args.tokens.now)) place)
