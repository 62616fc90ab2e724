use Rattle.std.proofs.Common.{sym, ◌∙◌, ap, arith, drop}
use Rattle.std.proofs.lemmas.List.{length-drop}
use Rattle.conf_scan.specs.Fronts.{separator_len}
use Rattle.conf_scan.proofs.Between.{gap_more, gap_none, separator_found, separator_none}
use Rattle.conf_scan.proofs.trivia.gap_len.Goals as goal

pub loop-more-init : goal.loop-more-init
loop-more-init c = record { within = omega arith; gap = gap_none c.args.text.now }

pub overflow_add-len : goal.overflow_add-len
overflow_add-len c =
    let text = c.args.text.now in
    let len = c.loop-more.len in
    let found = separator_found (drop len text) c.in-Some.more (ap separator_len (sym c.tail.ensures) ∙ sym c.in-Some.ensures) in
    omega (arith, found.within, length-drop len text, c.loop-more.invariant.within)

pub loop-more-preserved : goal.loop-more-preserved
loop-more-preserved c =
    let text = c.args.text.now in
    let len = c.loop-more.len in
    let found = separator_found (drop len text) c.in-Some.more (ap separator_len (sym c.tail.ensures) ∙ sym c.in-Some.ensures) in
    record {
      within = omega (arith, found.within, length-drop len text, c.loop-more.invariant.within);
      gap = gap_more text len c.in-Some.more c.loop-more.invariant.within c.loop-more.invariant.gap found;
    }

pub loop-more-smaller : goal.loop-more-smaller
loop-more-smaller c =
    let text = c.args.text.now in
    let len = c.loop-more.len in
    let found = separator_found (drop len text) c.in-Some.more (ap separator_len (sym c.tail.ensures) ∙ sym c.in-Some.ensures) in
    omega (arith, found.some, found.within, length-drop len text, c.loop-more.invariant.within)

pub returns : goal.returns
returns c =
    let text = c.args.text.now in
    let len = c.loop-more.len in
    record {
      gap = c.loop-more.invariant.gap;
      end = separator_none (drop len text) (ap separator_len (sym c.tail.ensures) ∙ sym c.separator_len.ensures ∙ c.in_default.is);
      within = c.loop-more.invariant.within;
    }
