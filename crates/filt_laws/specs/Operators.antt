-- For private contracts alone: what the laws of values say of each operator, for the laws of
-- filters: which sorts it takes, and of which sort its value is.
use Rattle.filt_meaning.specs.Operators.{added_of, deleted_of, emptied_of, equal_of, filtered_of}
use Rattle.filt_meaning.specs.Operators.{first_of, greater_of, greater_or_equal_of, ip_of, last_of}
use Rattle.filt_meaning.specs.Operators.{len_of, less_of, less_or_equal_of, matches_not_of}
use Rattle.filt_meaning.specs.Operators.{matches_of, minus_of, not_equal_of, not_of, over_of}
use Rattle.filt_meaning.specs.Operators.{pair_of, plus_of, prepended_of, times_of, truth_of}
use Rattle.filt_meaning.specs.Sorts.{TakesOne, TakesTwo, added, compared, deleted, one_list}
use Rattle.filt_meaning.specs.Sorts.{filtered, matched, measured, one_bool, one_path, one_prefix}
use Rattle.filt_meaning.specs.Sorts.{ordered, prepended, two_ints, a_bool, a_pair, an_int, an_ip}
use Rattle.filt_meaning.specs.Sorts.{the_same}

pub record AreTyped : Type 0 where
  pub plus : TakesTwo two_ints an_int plus_of
  pub minus : TakesTwo two_ints an_int minus_of
  pub times : TakesTwo two_ints an_int times_of
  pub over : TakesTwo two_ints an_int over_of
  pub pair : TakesTwo two_ints a_pair pair_of
  pub truth : TakesOne one_bool a_bool truth_of
  pub negated : TakesOne one_bool a_bool not_of
  pub equal : TakesTwo compared a_bool equal_of
  pub not_equal : TakesTwo compared a_bool not_equal_of
  pub less : TakesTwo ordered a_bool less_of
  pub less_or_equal : TakesTwo ordered a_bool less_or_equal_of
  pub greater : TakesTwo ordered a_bool greater_of
  pub greater_or_equal : TakesTwo ordered a_bool greater_or_equal_of
  pub matches : TakesTwo matched a_bool matches_of
  pub matches_not : TakesTwo matched a_bool matches_not_of
  pub len : TakesOne measured an_int len_of
  pub head : TakesOne one_path an_int first_of
  pub last : TakesOne one_path an_int last_of
  pub ip : TakesOne one_prefix an_ip ip_of
  pub prepend : TakesTwo prepended the_same prepended_of
  pub add : TakesTwo added the_same added_of
  pub delete : TakesTwo deleted the_same deleted_of
  pub keep : TakesTwo filtered the_same filtered_of
  pub empty : TakesOne one_list the_same emptied_of
