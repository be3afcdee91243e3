-- Why the program ends before its work is done: its status, and the line that it tells.
use Rattle.std.specs.Prelude.{◌≡◌, ◌⊎◌, ℕ, nat_lt, List, [], ◌∷◌, ◌++◌, codes, if◌then◌else◌}
use Rattle.std.specs.Fmt.{decimal}
use Rattle.clear_book.specs.declared.rules.Rule.{Rule}
use Rattle.clear_book.specs.declared.rules.Rule.TheVariants as rules
use Rattle.clear_book.specs.Rules.{number_of, name_of, carried_by, carried_text}
use Rattle.clear_schema.specs.declared.fault.Fault.{Fault as StoreFault}
use Rattle.clear_schema.specs.declared.fault.Fault.TheVariants as store
use Rattle.clear_schema.specs.declared.fault.OpenFault.{OpenFault}
use Rattle.clear_schema.specs.declared.fault.OpenFault.TheVariants.{WrongVersion, Failed}
use Rattle.clear_http.specs.declared.serve.Fault.{Fault}
use Rattle.clear_http.specs.declared.serve.Fault.TheVariants.{Memory}
use Rattle.clear_files.specs.declared.fault.FileFault.{FileFault}
use Rattle.clear_files.specs.declared.fault.FileFault.TheVariants as file
use Rattle.clear_server.specs.Told.{Writes, Written}
use Rattle.clear_work.specs.declared.stop.Stop.{Stop}
use Rattle.clear_work.specs.declared.stop.Stop.TheVariants as stop

abbrev pub no_memory : Stop
no_memory = stop.Rule rules.Memory

-- a file that can't be used
abbrev pub by_file : FileFault → Stop
by_file file.Unusable = stop.File
by_file file.Memory = no_memory

-- there was no memory, or a file can't be used
abbrev pub IsOfFile : Stop → Type 0
IsOfFile why = (why ≡ no_memory) ⊎ (why ≡ stop.File)

-- there was no memory, or the words of the command line can't be read
abbrev pub IsOfWords : Stop → Type 0
IsOfWords why = (why ≡ no_memory) ⊎ (why ≡ stop.Line)

-- a store that isn't opened
abbrev pub by_store : OpenFault → Stop
by_store (WrongVersion found) = stop.Rule (rules.WrongVersion found)
by_store (Failed store.Memory) = no_memory
by_store (Failed (store.Store cause)) = stop.Rule (rules.Store cause)

-- a store isn't opened
abbrev pub IsOfStore : Stop → Type 0
IsOfStore why = (fault : OpenFault) × (why ≡ by_store fault)

-- a store that was opened can't be read or written, or there was no memory
abbrev pub IsOfStoreFault : Stop → Type 0
IsOfStoreFault why = (fault : StoreFault) × (why ≡ by_store (Failed fault))

-- a stream that isn't served to its end
abbrev pub by_stream : Fault → Stop
by_stream Memory = no_memory
by_stream fault = stop.Stream

-- a refused request, or the store or memory
abbrev pub status_by : Rule → ℕ
status_by rule = if nat_lt (number_of rule) 40 then 1 else 3

abbrev pub status_of : Stop → ℕ
status_of (stop.Rule rule) = status_by rule
status_of stop.Line = 2
status_of stop.File = 2
status_of stop.Net = 3
status_of stop.Stream = 3

-- what a rule carries, behind a space; nothing where it carries nothing
abbrev pub behind_space : List ℕ → List ℕ
behind_space [] = []
behind_space (x ∷ xs) = codes " " ++ x ∷ xs

-- a rule by its number and its name, and what it carries
unfoldable pub rule_line : Rule → List ℕ
rule_line rule =
    codes "rule " ++ decimal (number_of rule) ++ codes " " ++ name_of rule
    ++ behind_space (carried_text (carried_by rule)) ++ codes "\n"

abbrev pub line_of : Stop → List ℕ
line_of (stop.Rule rule) = rule_line rule
line_of stop.Line = codes "fault command line\n"
line_of stop.File = codes "fault file\n"
line_of stop.Net = codes "fault net\n"
line_of stop.Stream = codes "fault stream\n"

-- what is told of a reason: that, or, of a rule, that there was no memory for its line
abbrev pub IsTold : Stop → Stop → Type 0
IsTold why told =
    (told ≡ why) ⊎ ((told ≡ no_memory) × ((rule : Rule) × (why ≡ stop.Rule rule)))

-- what is told, and with which status: its line is written, or a front of it where a write has failed
abbrev pub Tells : Written → Written → Stop → ℕ → Type 0
Tells old new why status =
    (told : Stop) × IsTold why told × (status ≡ status_of told) × Writes (line_of told) old new
