use Rattle.std.proofs.Common.{◌≡◌, ◌+◌, min, true, take}
use Rattle.std.specs.List.{list_all}
use Rattle.std.specs.Char.{is_ascii_digit}
use Rattle.std.specs.Str.Parse.{digits_value}
use Rattle.clear_wire.specs.Limits.{body_limit}
use Rattle.clear_wire.proofs.framing.capped_number.Given as goal

abbrev pub invariant-loop-byte : goal.invariant-loop-byte
invariant-loop-byte l = record {
  value : l.number ≡ min (digits_value 10 (take l.byte-index l.text)) (body_limit + 1);
  digits : list_all is_ascii_digit (take l.byte-index l.text) ≡ true;
}
