use Rattle.std.proofs.Common.{◌≡◌, map, take, string_bytes}
use Rattle.clear_check.specs.Shown.{shown_byte}
use Rattle.clear_check.proofs.texts.in_line.Given as goal

abbrev pub invariant-loop-byte : goal.invariant-loop-byte
invariant-loop-byte l = string_bytes l.line ≡ map shown_byte (take l.byte-index l.text)
