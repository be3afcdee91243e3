-- Arguments of `clap` as the rules that its specification reads.
use Rattle.std.proofs.Common.{◌≡◌, ◌||◌, ℕ, ◌+◌, ◌<◌, ◌≤◌, Bool, false, List, [], ◌∷◌, ◌++◌, true, ap, sym, ◌∙◌, length, map, take}
use Rattle.std.specs.Prelude.{Some, fold, slice_index_or}
use Rattle.std.specs.Borrow.{Bor}
use Rattle.std.proofs.Math.Bool.{or-false}
use Rattle.std.proofs.lemmas.List.{map_more, take_all}
use Rattle.std.proofs.lemmas.List.Sums.{fold-append}
use Rattle.clap.specs.Words.{App, Rule, Text, AddsArg, app_of, rule_of, new_app, new_rule, with_rule}
use Rattle.clap.specs.declared.Command.{Command}
use Rattle.clap.specs.declared.Command.TheViews.{out-Command}
use Rattle.clap.specs.declared.Arg.{Arg}
use Rattle.clear_cli.specs.Command.{and, command_line, program, required, with_word, with_words}
use Rattle.clear_cli.specs.Lines.{table}

-- an argument that is required and of which help says something, and else as it was made
pub rule_is : (made told arg : Arg) (id : Text) (help : Bor Text) → rule_of made ≡ new_rule id → told ≡ record made { help = Some help }
    → arg ≡ record told { required = true } → rule_of arg ≡ required id
rule_is made told arg id help e tells is = ap rule_of is ∙ ap (λ (r : Rule). record r { required = true }) (ap rule_of tells ∙ e)

module _ (old : Command) (arg : Arg) (id : Text) (is_local : arg.global ≡ false) (is : rule_of arg ≡ required id) (new : Command) (adds : AddsArg old arg new) where
  pub adds_word : (name : Text) (before : List Text) → app_of old ≡ with_words name before → app_of new ≡ with_words name (before ++ id ∷ [])
  adds_word name before e = adds.shape is_local ∙ ap (with_rule (app_of old)) is ∙ ap (λ (a : App). with_word a id) e
      ∙ sym (fold-append with_word (new_app name) before (id ∷ []))

  pub adds_no_global : (out-Command new).has_globals ≡ (out-Command old).has_globals
  adds_no_global = adds.globals ∙ ap (λ (b : Bool). (out-Command old).has_globals || b) is_local ∙ or-false (out-Command old).has_globals

-- a row of the program's table as it is told
abbrev pub Entry : Type 0
Entry = Bor Text × Bor Text × Bor (List (Bor Text × Bor Text))

abbrev pub row : Entry → Text × List Text
row entry = (entry.0.now, map (λ word. word.0.now) entry.2.now)

-- the command with the subcommands of the first rows
abbrev pub with_rows : ℕ → List Entry → App
with_rows i rows = fold and program (map row (take i rows))

pub one_row_more : (rows : List Entry) (i : ℕ) (d : Entry) (app more : App) → i < length rows
    → app ≡ with_rows i rows → more ≡ and app (row (slice_index_or rows i d)) → more ≡ with_rows (i + 1) rows
one_row_more rows i d app more inside before adds =
    adds ∙ ap (λ (a : App). and a (row (slice_index_or rows i d))) before
    ∙ sym (ap (fold and program) (map_more row rows i d inside)
    ∙ fold-append and program (map row (take i rows)) (row (slice_index_or rows i d) ∷ []))

pub all_rows : (rows : List Entry) (i : ℕ) (app : App) → length rows ≤ i → map row rows ≡ table → app ≡ with_rows i rows → app ≡ command_line
unfolding command_line
all_rows rows i app past is before =
    before ∙ ap (λ (l : List Entry). fold and program (map row l)) (take_all i rows past)
    ∙ ap (fold and program) is
