use Rattle.filt_laws.proofs.laws.operators_are_typed.Goals as goal

pub returns : goal.returns
returns c =
    record {
      plus = c.numbers_are_typed.ensures.plus;
      minus = c.numbers_are_typed.ensures.minus;
      times = c.numbers_are_typed.ensures.times;
      over = c.numbers_are_typed.ensures.over;
      pair = c.numbers_are_typed.ensures.pair;
      truth = c.truths_are_typed.ensures.truth;
      negated = c.truths_are_typed.ensures.not;
      equal = c.comparisons_are_typed.ensures.equal;
      not_equal = c.comparisons_are_typed.ensures.not_equal;
      less = c.comparisons_are_typed.ensures.less;
      less_or_equal = c.comparisons_are_typed.ensures.less_or_equal;
      greater = c.comparisons_are_typed.ensures.greater;
      greater_or_equal = c.comparisons_are_typed.ensures.greater_or_equal;
      matches = c.matches_are_typed.ensures.matches;
      matches_not = c.matches_are_typed.ensures.matches_not;
      len = c.properties_are_typed.ensures.len;
      head = c.properties_are_typed.ensures.first;
      last = c.properties_are_typed.ensures.last;
      ip = c.properties_are_typed.ensures.ip;
      prepend = c.methods_are_typed.ensures.prepended;
      add = c.methods_are_typed.ensures.added;
      delete = c.methods_are_typed.ensures.deleted;
      keep = c.methods_are_typed.ensures.filtered;
      empty = c.methods_are_typed.ensures.emptied;
    }
