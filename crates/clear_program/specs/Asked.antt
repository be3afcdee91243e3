-- Which task the words of a command line ask for.
use Rattle.std.specs.Prelude.{◌≡◌, ◌≢◌, ◌≤◌, ◌⊎◌, ⊤, ℕ, true, false, ◌||◌, List, Result, codes, is_ok}
use Rattle.std.specs.Prelude.{length, string_bytes}
use Rattle.clear_toml.specs.RateFile.{rates_of}
use Rattle.clear_book.specs.declared.calls.Command.TheVariants.{ImportBank}
use Rattle.clear_callers.specs.CallerFile.{directory_of}
use Rattle.clear_callers.specs.Callers.{sample_keys}
use Rattle.clear_check.specs.RateChecks.{SaysRates, TellsRates}
use Rattle.clear_check.specs.CallerChecks.{SaysKeys, TellsWrongKey}
use Rattle.clear_check.specs.declared.Checked.{Checked}
use Rattle.clear_bank_check.specs.BankChecks.{SaysBank, Tells, bank_of}
use Rattle.clear_sample.specs.Samples.{sample_rates}
use Rattle.clear_files.specs.Contents.{SomeFileSays, most_file_bytes}
use Rattle.clear_cli.specs.Lines.{Says, Text, asks_help, calls_help}
use Rattle.clear_cli.specs.declared.words.FileKind.{FileKind}
use Rattle.clear_cli.specs.declared.words.FileKind.TheVariants.{Bank, Callers, Rates}
use Rattle.clear_cli.specs.declared.words.Words.{Words}
use Rattle.clear_cli.specs.declared.words.Words.TheVariants as words
use Rattle.clear_work.specs.Stops.{no_memory}
use Rattle.clear_work.specs.declared.stop.Stop.{Stop}
use Rattle.clear_work.specs.declared.stop.Stop.TheVariants as stop
use Rattle.clear_work.specs.declared.work.Work.TheVariants.{Backup, Import, Serve, Statement}
use Rattle.clear_program.specs.declared.tasks.Task.{Task}
use Rattle.clear_program.specs.declared.tasks.Task.TheVariants.{Check, Init, Look, Migrate}
use Rattle.clear_program.specs.declared.tasks.Task.TheVariants.{OnStore, Say, Stream}

-- what is said of the bytes of a file of this kind, and whether it is taken
abbrev pub IsChecked : FileKind → List ℕ → Checked → Type 0
IsChecked Rates bytes checked =
    SaysRates (rates_of bytes) (string_bytes checked.text)
    × TellsRates bytes (string_bytes checked.text)
    × (checked.good ≡ is_ok (rates_of bytes))
IsChecked Callers bytes checked =
    SaysKeys (directory_of bytes) (string_bytes checked.text)
    × TellsWrongKey bytes (string_bytes checked.text)
    × (checked.good ≡ is_ok (directory_of bytes))
IsChecked Bank bytes checked =
    SaysBank (bank_of bytes) (string_bytes checked.text)
    × Tells bytes (bank_of bytes) (string_bytes checked.text)
    × (checked.good ≡ is_ok (bank_of bytes))

-- the sample, where its word stands in the place of a path, else what some bytes say
abbrev pub IsSampleOr : {A E : Type 0} → A → List ℕ → (List ℕ → Result A E) → A → Type 0
IsSampleOr sample path read it =
    ((path ≡ codes "sample") × (it ≡ sample)) ⊎ ((path ≢ codes "sample") × SomeFileSays read it)

-- the task has the paths, the days and the numbers of what the words say, and what some bytes say that
-- a file may have: which these are no contract knows
abbrev pub IsTaskFor : Words → Task → Type 0
IsTaskFor (words.Init store rates) (Init at read) =
    (at.now ≡ store.now) × SomeFileSays rates_of read
IsTaskFor (words.Stream rates callers day) (Stream read keys on) =
    (on ≡ day) × IsSampleOr sample_rates rates.now rates_of read
    × IsSampleOr sample_keys callers.now directory_of keys
IsTaskFor (words.Serve store callers day port count) (OnStore at (Serve keys on place many)) =
    (at.now ≡ store.now) × (on ≡ day) × (place ≡ port) × (many ≡ count)
    × SomeFileSays directory_of keys
IsTaskFor (words.Import store day number file) (OnStore at (Import on under (ImportBank bytes))) =
    (at.now ≡ store.now) × (on ≡ day) × (under ≡ number) × (length bytes ≤ most_file_bytes)
IsTaskFor (words.Statement store day employer) (OnStore at (Statement on firm)) =
    (at.now ≡ store.now) × (on ≡ day) × (firm ≡ employer)
IsTaskFor (words.Migrate store) (Migrate at) = at.now ≡ store.now
IsTaskFor (words.Look store) (Look at) = at.now ≡ store.now
IsTaskFor (words.Check kind file) (Check checked) =
    (bytes : List ℕ) × (length bytes ≤ most_file_bytes) × IsChecked kind bytes checked
IsTaskFor (words.Backup store file) (OnStore at (Backup copy)) =
    (at.now ≡ store.now) × (copy.now ≡ file.now)
IsTaskFor _ _ = ⊥

-- the words say something, and the task is for that; or they ask for help, which is a text
abbrev pub IsAsked : List Text → Task → Type 0
IsAsked line (Say text) = (asks_help line || calls_help line) ≡ true
IsAsked line task = (said : Words) × Says line said × IsTaskFor said task

-- a path names a file, since it isn't the word for the sample
abbrev pub IsNoSample : List ℕ → Type 0
IsNoSample path = path ≢ codes "sample"

-- there was no memory, or the file at this path, which isn't the sample, can't be used
abbrev pub IsOfPath : List ℕ → Stop → Type 0
IsOfPath path why = (why ≡ no_memory) ⊎ ((why ≡ stop.File) × IsNoSample path)

-- a file is read of what they name: where both are the sample, none
abbrev pub NamesAFile : Words → Type 0
NamesAFile (words.Init store rates) = ⊤
NamesAFile (words.Stream rates callers day) = IsNoSample rates.now ⊎ IsNoSample callers.now
NamesAFile (words.Serve store callers day port count) = ⊤
NamesAFile (words.Import store day number file) = ⊤
NamesAFile (words.Check kind file) = ⊤
NamesAFile _ = ⊥

-- there was no memory for what these words ask, or a file that they name can't be used
abbrev pub IsOfNamed : Words → Stop → Type 0
IsOfNamed said why = (why ≡ no_memory) ⊎ ((why ≡ stop.File) × NamesAFile said)

-- there was no memory, the words say nothing and don't ask for help, or a file that they name can't be
-- used
abbrev pub IsNotDone : List Text → Stop → Type 0
IsNotDone line why =
    (why ≡ no_memory)
    ⊎ (((why ≡ stop.Line) × (asks_help line ≡ false) × ((said : Words) → ¬ Says line said))
    ⊎ ((why ≡ stop.File) × ((said : Words) × Says line said × NamesAFile said)))
