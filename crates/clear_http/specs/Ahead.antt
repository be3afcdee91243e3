-- How far an input may have read ahead of what its stream goes on with.
use Rattle.std.specs.Prelude.{◌≡◌, ◌<◌, false, length}
use Rattle.clear_wire.specs.Input.{has_ended, unused_of}
use Rattle.clear_wire.specs.Limits.{chunk_size}
use Rattle.clear_wire.specs.declared.input.Input.{Input}

-- unless the stream has ended, fewer bytes wait to be used than one read asks for
abbrev pub HoldsFew : {R : Type 0} → Input R → Type 0
HoldsFew input = has_ended input ≡ false → length (unused_of input) < chunk_size
