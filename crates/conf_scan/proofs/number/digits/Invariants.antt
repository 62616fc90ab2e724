use Rattle.std.proofs.Common.{◌≡◌, ◌+◌, ◌≤◌, ◌<◌, ◌^◌, length, drop, take}
use Rattle.std.specs.Char.{is_ascii_digit}
use Rattle.std.specs.List.{prefix_len}
use Rattle.std.specs.Str.Parse.{digits_value}
use Rattle.conf_scan.proofs.number.digits.Given as goal

abbrev pub invariant-loop-byte : goal.invariant-loop-byte
invariant-loop-byte l = record {
  place : l.len ≡ l.byte-index;
  within : l.len ≤ length l.text;
  whole : prefix_len is_ascii_digit l.text ≡ l.len + prefix_len is_ascii_digit (drop l.byte-index l.text);
  fits : l.value < 2 ^ 36;
  value : l.value < 2 ^ 32 → digits_value 10 (take l.len l.text) ≡ l.value;
}
