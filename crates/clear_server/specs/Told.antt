-- What is told while connections are served: why some weren't served to their ends, and that the
-- office has failed.
use Rattle.std.specs.Prelude.{◌≡◌, ℕ, ◌≤◌, Bool, true, false, List, [], ◌∷◌, ◌++◌, length, map, codes}
use Rattle.std.specs.Prelude.{⊤, All, Option, Result, Ok, Err}
use Rattle.std.specs.List.{concat, filter}
use Rattle.std.specs.Io.KnownBytes.{Appends}
use Rattle.clear_wire.specs.Counted.{has_failed, inner}
use Rattle.clear_wire.specs.declared.counted.Counted.{Counted}
use Rattle.clear_http.specs.declared.serve.Fault.{Fault}
use Rattle.clear_http.specs.declared.serve.Fault.TheVariants.{Read, Write, Reads, Memory}

-- ---- a writer

-- whether a call of a writer has failed, and the bytes that it holds, where these are known
pub record Written : Type 0 where
  pub failed : Bool
  pub bytes : Option (List ℕ)

abbrev pub written_by : {W : Type 0} → (W → Option (List ℕ)) → Counted W → Written
written_by contents writer =
    record { failed = has_failed writer; bytes = contents (inner writer) }

-- a text is written, or a front of it where a write has failed
abbrev pub Writes : List ℕ → Written → Written → Type 0
Writes text old new =
    (part : List ℕ) × (rest : List ℕ) × (text ≡ part ++ rest) × Appends old.bytes new.bytes part
    × (new.failed ≡ false → (rest ≡ []) × (old.failed ≡ false))

-- ---- its lines

-- what a line tells: why a connection ended, or that the office has failed
pub data Line : Type 0 where
  ends : Fault → Line
  fails : Line

-- a line's bytes
abbrev pub line_text : Line → List ℕ
line_text (ends Read) = codes "fault net\n"
line_text (ends Write) = codes "fault net\n"
line_text (ends Reads) = codes "fault net\n"
line_text (ends Memory) = codes "rule 40 Memory\n"
line_text fails = codes "rule 41 Store\n"

-- the line tells why a connection ended
abbrev pub is_end : Line → Bool
is_end (ends fault) = true
is_end fails = false

-- the line tells that the office has failed
abbrev pub is_failing : Line → Bool
is_failing (ends fault) = false
is_failing fails = true

-- the line of a connection that ended so, if it wasn't served to its end
abbrev pub end_lines : {A : Type 0} → Result A Fault → List Line
end_lines (Ok a) = []
end_lines (Err fault) = ends fault ∷ []

-- the line of an office that had failed before or not, and then has or not
abbrev pub failing_lines : Bool → Bool → List Line
failing_lines false false = []
failing_lines false true = fails ∷ []
failing_lines true false = []
failing_lines true true = []

-- each of these is a front of a line, one after another
abbrev pub AreFronts : List Line → List (List ℕ) → Type 0
AreFronts [] [] = ⊤
AreFronts (line ∷ lines) (part ∷ parts) =
    ((rest : List ℕ) × (line_text line ≡ part ++ rest)) × AreFronts lines parts
AreFronts [] (part ∷ parts) = ⊥
AreFronts (line ∷ lines) [] = ⊥

-- the lines are written, one after another, or fronts of them where a write has failed
abbrev pub WritesLines : List Line → Written → Written → Type 0
WritesLines lines old new =
    (parts : List (List ℕ)) × AreFronts lines parts × Appends old.bytes new.bytes (concat parts)
    × (new.failed ≡ false → (parts ≡ map line_text lines) × (old.failed ≡ false))

-- the line of a connection that the system refused
abbrev pub refused_line : Line
refused_line = ends Read

-- so many of the lines at their end, or more, are those of connections that the system refused
abbrev pub EndRefused : ℕ → List Line → Type 0
EndRefused count lines =
    (others : List Line) × (refused : List Line) × (lines ≡ others ++ refused)
    × (count ≤ length refused) × All (λ line. line ≡ refused_line) refused

-- lines are written, of which so many at the end, or more, are those of refused connections
abbrev pub TellsRefused : ℕ → Written → Written → Type 0
TellsRefused count old new = (lines : List Line) × EndRefused count lines × WritesLines lines old new

-- so many lines at most tell why connections ended, one tells that the office has failed where it
-- hadn't before and then has, and nothing else is written
abbrev pub AreTold : ℕ → Bool → Bool → Written → Written → Type 0
AreTold most before after old new =
    (lines : List Line) × (length (filter is_end lines) ≤ most)
    × (filter is_failing lines ≡ failing_lines before after) × WritesLines lines old new
