-- What a reading of the command line by `clap` says.
use Rattle.std.specs.Prelude.{◌≡◌, ⊤, List, [], ◌∷◌, drop, find, codes}
use Rattle.std.specs.Prelude.{Option, Some, None, IfSome, IfNone}
use Rattle.std.specs.Option.{option_map_or}
use Rattle.std.specs.Str.{bytes_eq}
use Rattle.clap.specs.Words.{Row, Text, first_of}
use Rattle.clear_cli.specs.Lines.{IsInRange, table, words_for}
use Rattle.clear_cli.specs.declared.words.Words.{Words}
use Rattle.clear_cli.specs.declared.words.Words.TheVariants.{Init, Stream, Serve, Import}
use Rattle.clear_cli.specs.declared.words.Words.TheVariants.{Statement, Migrate, Look}
use Rattle.clear_cli.specs.declared.words.Words.TheVariants.{Check, Backup}
use Rattle.clear_cli.specs.declared.subcommands.Subcommand.{Subcommand}
use Rattle.clear_cli.specs.declared.subcommands.Subcommand.TheVariants as subcommand

-- the name of a subcommand
abbrev pub name_of : Subcommand → Text
name_of subcommand.Init = codes "init"
name_of subcommand.Stream = codes "stream"
name_of subcommand.Serve = codes "serve"
name_of subcommand.Import = codes "import"
name_of subcommand.Statement = codes "statement"
name_of subcommand.Migrate = codes "migrate"
name_of subcommand.Look = codes "look"
name_of subcommand.Check = codes "check"
name_of subcommand.Backup = codes "backup"

-- all of them
abbrev pub subcommands : List Subcommand
subcommands = subcommand.Init ∷ subcommand.Stream ∷ subcommand.Serve ∷ subcommand.Import
    ∷ subcommand.Statement ∷ subcommand.Migrate ∷ subcommand.Look ∷ subcommand.Check
    ∷ subcommand.Backup ∷ []

-- the one with this name
abbrev pub subcommand_named : Text → Option Subcommand
subcommand_named name = find (λ v. bytes_eq (name_of v) name) subcommands

-- the places behind it
abbrev pub places_of : Subcommand → List Text
places_of v = option_map_or (λ row. row.1) (find (λ row. bytes_eq row.0 (name_of v)) table) []

-- the word that was given in a place
abbrev pub IsWord : List Row → Text → Text → Type 0
IsWord rows id text = first_of id rows ≡ Some text

-- a place read as a value: the one that its word writes, if one of those meant is written there
abbrev pub ReadsPlace : {X : Type 0} → List Row → Text → (X → Text) → (X → Type 0) → Option X
    → Type 0
ReadsPlace {X} rows id written IsMeant result =
    IfSome result (λ x. IsWord rows id (written x) × IsMeant x)
    × IfNone result ((x : X) → IsMeant x → ¬ IsWord rows id (written x))

-- the subcommand of what is said
abbrev pub subcommand_for : Words → Subcommand
subcommand_for (Init s r) = subcommand.Init
subcommand_for (Stream r c d) = subcommand.Stream
subcommand_for (Serve s c d p n) = subcommand.Serve
subcommand_for (Import s d n f) = subcommand.Import
subcommand_for (Statement s d e) = subcommand.Statement
subcommand_for (Migrate s) = subcommand.Migrate
subcommand_for (Look s) = subcommand.Look
subcommand_for (Check k f) = subcommand.Check
subcommand_for (Backup s f) = subcommand.Backup

-- the words that say it, behind its name
abbrev pub args_for : Words → List Text
args_for said = drop 1 (words_for said)

-- the words were given in these places, one in each
abbrev pub AreWords : List Row → List Text → List Text → Type 0
AreWords rows [] [] = ⊤
AreWords rows (id ∷ ids) (text ∷ texts) = IsWord rows id text × AreWords rows ids texts
AreWords rows _ _ = ⊥

-- the words were given, with numbers and days written in their ranges
abbrev pub HasWords : List Row → Words → Type 0
HasWords rows said =
    AreWords rows (places_of (subcommand_for said)) (args_for said) × IsInRange said

-- the words read for a subcommand: what they say, if they say something
abbrev pub ReadsWords : List Row → Subcommand → Option Words → Type 0
ReadsWords rows v result = IfSome result (λ said. (subcommand_for said ≡ v) × HasWords rows said)
    × IfNone result ((said : Words) → subcommand_for said ≡ v → ¬ HasWords rows said)

-- a reading names what is said
abbrev pub Names : Option (Text × List Row) → Words → Type 0
Names None said = ⊥
Names (Some p) said = (subcommand_named p.0 ≡ Some (subcommand_for said)) × HasWords p.1 said
