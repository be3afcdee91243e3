-- What a file in memory holds.
use Rattle.std.specs.Prelude.{ℕ, List}
use Rattle.clear_sample.specs.declared.memory_file.MemoryFile.{MemoryFile}

abbrev pub file_bytes : MemoryFile → List ℕ
file_bytes file = file.bytes.items

-- how many of its calls have failed
abbrev pub file_faults : MemoryFile → ℕ
file_faults file = file.faults
