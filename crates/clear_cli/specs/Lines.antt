-- What the words of a command line say: a subcommand, with a word for each of its places.
use Rattle.std.specs.Prelude.{◌≡◌, ⊤, ◌≤◌, ◌==◌, ◌||◌, ℕ, zero, suc, nat_eq, Bool, false, List, []}
use Rattle.std.specs.Prelude.{◌∷◌, length, find, codes, Option, Some, None, option_map}
use Rattle.std.specs.Prelude.{if◌then◌else◌}
use Rattle.std.specs.Fmt.{decimal}
use Rattle.std.specs.List.{starts_with}
use Rattle.std.specs.Option.{option_map_or}
use Rattle.std.specs.Str.{bytes_eq}
use Rattle.clear_money.specs.Calendar.{IsDay}
use Rattle.clear_money.specs.Numbers.{IsEmployerNo}
use Rattle.clear_money.specs.Texts.{day_text}
use Rattle.clear_book.specs.Numbers.{IsRequestNo}
use Rattle.clear_cli.specs.declared.words.FileKind.{FileKind}
use Rattle.clear_cli.specs.declared.words.FileKind.TheVariants.{Rates, Callers, Bank}
use Rattle.clear_cli.specs.declared.words.LineFault.{LineFault}
use Rattle.clear_cli.specs.declared.words.LineFault.TheVariants.{Help, Line, Memory}
use Rattle.clear_cli.specs.declared.words.Words.{Words}
use Rattle.clear_cli.specs.declared.words.Words.TheVariants.{Init, Stream, Serve, Import}
use Rattle.clear_cli.specs.declared.words.Words.TheVariants.{Statement, Migrate, Look}
use Rattle.clear_cli.specs.declared.words.Words.TheVariants.{Check, Backup}

-- the bytes of a word
abbrev pub Text : Type 0
Text = List ℕ

-- ---- the subcommands

-- the names of the subcommands, each with its places
abbrev pub table : List (Text × List Text)
table = (codes "init", codes "STORE" ∷ codes "RATES" ∷ [])
    ∷ (codes "stream", codes "RATES" ∷ codes "CALLERS" ∷ codes "DAY" ∷ [])
    ∷ (codes "serve", codes "STORE" ∷ codes "CALLERS" ∷ codes "DAY" ∷ codes "PORT" ∷ codes "COUNT" ∷ [])
    ∷ (codes "import", codes "STORE" ∷ codes "DAY" ∷ codes "NUMBER" ∷ codes "FILE" ∷ [])
    ∷ (codes "statement", codes "STORE" ∷ codes "DAY" ∷ codes "EMPLOYER" ∷ [])
    ∷ (codes "migrate", codes "STORE" ∷ [])
    ∷ (codes "look", codes "STORE" ∷ [])
    ∷ (codes "check", codes "KIND" ∷ codes "FILE" ∷ [])
    ∷ (codes "backup", codes "STORE" ∷ codes "FILE" ∷ [])
    ∷ []

-- the word for a kind of file
abbrev pub kind_word : FileKind → Text
kind_word Rates = codes "rates"
kind_word Callers = codes "callers"
kind_word Bank = codes "bank"

-- the words that say it: days as YYYY-MM-DD, numbers in decimal digits
abbrev pub words_for : Words → List Text
words_for (Init store rates) = codes "init" ∷ store.now ∷ rates.now ∷ []
words_for (Stream rates callers day) =
    codes "stream" ∷ rates.now ∷ callers.now ∷ day_text day ∷ []
words_for (Serve store callers day port count) =
    codes "serve" ∷ store.now ∷ callers.now ∷ day_text day ∷ decimal port ∷ decimal count ∷ []
words_for (Import store day number file) =
    codes "import" ∷ store.now ∷ day_text day ∷ decimal number ∷ file.now ∷ []
words_for (Statement store day employer) =
    codes "statement" ∷ store.now ∷ day_text day ∷ decimal employer ∷ []
words_for (Migrate store) = codes "migrate" ∷ store.now ∷ []
words_for (Look store) = codes "look" ∷ store.now ∷ []
words_for (Check kind file) = codes "check" ∷ kind_word kind ∷ file.now ∷ []
words_for (Backup store file) = codes "backup" ∷ store.now ∷ file.now ∷ []

-- the number of a port
abbrev pub IsPort : ℕ → Type 0
IsPort n = (1 ≤ n) × (n ≤ 65535)

-- how many connections are served
abbrev pub IsCount : ℕ → Type 0
IsCount n = (1 ≤ n) × (n ≤ 1000000)

-- its days and numbers are in their ranges
abbrev pub IsInRange : Words → Type 0
IsInRange (Init store rates) = ⊤
IsInRange (Stream rates callers day) = IsDay day
IsInRange (Serve store callers day port count) = IsDay day × IsPort port × IsCount count
IsInRange (Import store day number file) = IsDay day × IsRequestNo number
IsInRange (Statement store day employer) = IsDay day × IsEmployerNo employer
IsInRange (Migrate store) = ⊤
IsInRange (Look store) = ⊤
IsInRange (Check kind file) = ⊤
IsInRange (Backup store file) = ⊤

-- ---- what words say

-- a word that begins with a minus and has a further byte
abbrev pub is_option : Text → Bool
is_option [] = false
is_option (byte ∷ []) = false
is_option (byte ∷ next ∷ rest) = byte == 45

-- the words behind a subcommand, of which none is an option; but behind a word `--`, which is left
-- out, any word may stand
abbrev pub plain_words : List Text → Option (List Text)
plain_words [] = Some []
plain_words (word ∷ rest) = if bytes_eq word (codes "--") then Some rest
    else if is_option word then None else option_map (λ words. word ∷ words) (plain_words rest)

-- a word that asks for help: `--help`, or one that begins with `-h`
abbrev pub asks : Text → Bool
asks word = bytes_eq word (codes "--help") || starts_with nat_eq word (codes "-h")

-- help is asked for behind a subcommand that has n words: by the first option, behind no more words
-- than these
abbrev pub asks_behind : ℕ → List Text → Bool
asks_behind n [] = false
asks_behind zero (word ∷ rest) = asks word
asks_behind (suc n) (word ∷ rest) = if is_option word then asks word else asks_behind n rest

-- how many words a subcommand has behind it
abbrev pub places : Text → Option ℕ
places name = option_map (λ row. length row.1) (find (λ row. bytes_eq row.0 name) table)

-- help is asked for: by the first word, or behind a subcommand
abbrev pub asks_help : List Text → Bool
asks_help [] = false
asks_help (name ∷ rest) =
    asks name || option_map_or (λ n. asks_behind n rest) (places name) false

-- the first word is `help`: behind it the names of subcommands are taken
abbrev pub calls_help : List Text → Bool
calls_help [] = false
calls_help (name ∷ rest) = bytes_eq name (codes "help")

-- no words say the same as these
abbrev pub sample_words : List Text
sample_words = codes "stream" ∷ codes "sample" ∷ codes "sample" ∷ codes "2024-04-30" ∷ []

-- the words that are taken: for none those above, and behind a subcommand the plain ones
abbrev pub line_of : List Text → Option (List Text)
line_of [] = Some sample_words
line_of (name ∷ rest) = option_map (λ words. name ∷ words) (plain_words rest)

-- the words say it
abbrev pub Says : List Text → Words → Type 0
Says words said = (line_of words ≡ Some (words_for said)) × IsInRange said

-- both are the same, wherever their texts lie
abbrev pub IsSame : Words → Words → Type 0
IsSame (Init store rates) (Init store₂ rates₂) = (store.now ≡ store₂.now) × (rates.now ≡ rates₂.now)
IsSame (Stream rates callers day) (Stream rates₂ callers₂ day₂) =
    (rates.now ≡ rates₂.now) × (callers.now ≡ callers₂.now) × (day ≡ day₂)
IsSame (Serve store callers day port count) (Serve store₂ callers₂ day₂ port₂ count₂) =
    (store.now ≡ store₂.now) × (callers.now ≡ callers₂.now) × (day ≡ day₂)
    × (port ≡ port₂) × (count ≡ count₂)
IsSame (Import store day number file) (Import store₂ day₂ number₂ file₂) =
    (store.now ≡ store₂.now) × (day ≡ day₂) × (number ≡ number₂) × (file.now ≡ file₂.now)
IsSame (Statement store day employer) (Statement store₂ day₂ employer₂) =
    (store.now ≡ store₂.now) × (day ≡ day₂) × (employer ≡ employer₂)
IsSame (Migrate store) (Migrate store₂) = store.now ≡ store₂.now
IsSame (Look store) (Look store₂) = store.now ≡ store₂.now
IsSame (Check kind file) (Check kind₂ file₂) = (kind ≡ kind₂) × (file.now ≡ file₂.now)
IsSame (Backup store file) (Backup store₂ file₂) =
    (store.now ≡ store₂.now) × (file.now ≡ file₂.now)
IsSame _ _ = ⊥

-- the fault is that help was asked for
abbrev pub IsHelp : LineFault → Type 0
IsHelp (Help text) = ⊤
IsHelp Line = ⊥
IsHelp Memory = ⊥
