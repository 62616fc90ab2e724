use Rattle.std.proofs.Common.{◌≡◌, ◌++◌, take, drop}
use Rattle.outside_io.specs.Memory.{held_in, with_fault}
use Rattle.outside_io.proofs.memory.count_fault.Given as goal

-- the files before the index have other names
abbrev pub invariant-loop-index : goal.invariant-loop-index
invariant-loop-index l = record {
  same : l.files ≡ l.fn.files;
  split : take l.index l.fn.files ++ with_fault l.name (drop l.index l.fn.files) ≡ with_fault l.name l.fn.files;
  held : held_in (drop l.index l.fn.files) l.name ≡ held_in l.fn.files l.name;
}
