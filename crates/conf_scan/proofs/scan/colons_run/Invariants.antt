use Rattle.std.proofs.Common.{◌≡◌, ◌+◌, ◌≤◌, length, drop}
use Rattle.std.specs.List.{prefix_len}
use Rattle.conf_scan.specs.Shapes.{is_colons_byte}
use Rattle.conf_scan.proofs.Signs.{colons_of}
use Rattle.conf_scan.proofs.scan.colons_run.Given as goal

abbrev pub invariant-loop-byte : goal.invariant-loop-byte
invariant-loop-byte l = record {
  place : l.len ≡ l.byte-index;
  within : l.len ≤ length l.text;
  few : l.colons ≤ l.len;
  whole_len : prefix_len is_colons_byte l.text ≡ l.len + prefix_len is_colons_byte (drop l.byte-index l.text);
  whole_colons : colons_of l.text ≡ l.colons + colons_of (drop l.byte-index l.text);
}
