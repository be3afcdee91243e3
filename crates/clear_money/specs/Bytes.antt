-- Which bytes a text may hold.
use Rattle.std.specs.Prelude.{ℕ, Bool, nat_le, ◌==◌, ◌&&◌, not}

-- a byte from 0x21 to 0x7E: no space and no control character
abbrev pub is_visible : ℕ → Bool
is_visible b = nat_le 0x21 b && nat_le b 0x7E

-- a byte from 0x20 on, but not 0x7F: no control character
abbrev pub is_printable : ℕ → Bool
is_printable b = nat_le 0x20 b && not (b == 0x7F)
