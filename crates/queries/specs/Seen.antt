-- What the values of the code say: a `Question` is what is asked (`asked`), with names and the
-- expression as lists of bytes; an option is one (`part_said`).
-- From: own.
-- Example: `Question { table: Some(b"t"), .. }` asks for the table t.
use Rattle.std.specs.Option.{option_copied}
use Rattle.attrs.specs.declared.route.Select.{Select}
use Rattle.queries.specs.declared.question.Options.{Options}
use Rattle.queries.specs.declared.parts.Part.{Part}
use Rattle.queries.specs.declared.parts.Part.TheVariants as parts
use Rattle.queries.specs.declared.question.Question.{Question}
use Rattle.queries.specs.Question.{Asked, Table, Protocol, Export, Filter, Primary, All, Count}
use Rattle.queries.specs.Question as words

abbrev pub asked : Question → Asked
asked question = record {
  pick = question.pick;
  table = option_copied question.table;
  protocol = option_copied question.protocol;
  export = option_copied question.export;
  filter = option_copied question.filter;
  primary = question.primary;
  all = question.all;
  count = question.count;
  condition = option_copied question.condition;
}

-- these options, for these nets
abbrev pub asked_with : Select → Options → Asked
asked_with pick options = record {
  pick = pick;
  table = option_copied options.table;
  protocol = option_copied options.protocol;
  export = option_copied options.export;
  filter = option_copied options.filter;
  primary = options.primary;
  all = options.all;
  count = options.count;
  condition = option_copied options.condition;
}

abbrev pub part_said : Part → words.Part
part_said (parts.Table name) = Table name.now
part_said (parts.Protocol name) = Protocol name.now
part_said (parts.Export name) = Export name.now
part_said (parts.Filter name) = Filter name.now
part_said parts.Primary = Primary
part_said parts.All = All
part_said parts.Count = Count
