-- What is said, as a subcommand and the words behind it.
use Rattle.std.proofs.Common.{◌≡◌, ◌≢◌, Bool, true, false, List, [], ◌∷◌, refl, sym, ap, ◌∙◌, length}
use Rattle.std.specs.Prelude.{Option, Some, None, option_map}
use Rattle.std.specs.Str.{bytes_eq}
use Rattle.std.proofs.lemmas.Option.{none-some}
use Rattle.std.proofs.lemmas.Slice.Eq.{bytes_eq-Decides}
use Rattle.clap.specs.Words.{Row, Text}
use Rattle.clear_cli.specs.Lines.{Says, plain_words, words_for}
use Rattle.clear_cli.specs.Rows.{AreWords, args_for, name_of, places_of, subcommand_for, subcommand_named}
use Rattle.clear_cli.specs.declared.words.Words.{Words}
use Rattle.clear_cli.specs.declared.words.Words.TheVariants.{Init}
use Rattle.clear_cli.specs.declared.subcommands.Subcommand.{Subcommand}
use Rattle.clear_cli.specs.declared.subcommands.Subcommand.TheVariants as subcommand
use Rattle.clear_cli.proofs.WordLemmas.{some_same}

pub words_are : (said : Words) → words_for said ≡ name_of (subcommand_for said) ∷ args_for said
words_are (Init s r) = refl
words_are _ = refl

pub enough_args : (said : Words) → length (args_for said) ≡ length (places_of (subcommand_for said))
enough_args (Init s r) = refl
enough_args _ = refl

pub named : (v : Subcommand) → subcommand_named (name_of v) ≡ Some v
named subcommand.Init = refl
named _ = refl

-- a name that isn't the word is passed over
pub other_name : {word name : Text} → word ≢ name → bytes_eq name word ≡ false
other_name {word} {name} other = by (bytes_eq name word) refl
  where
    by : (t : Bool) → bytes_eq name word ≡ t → bytes_eq name word ≡ false
    by true is = absurd (other (sym ((bytes_eq-Decides name word).0 is)))
    by false is = is

-- words say a subcommand and the words behind it
pub says_parts : (name : Text) (rest : List Text) (said : Words) → Says (name ∷ rest) said
    → (name ≡ name_of (subcommand_for said)) × (plain_words rest ≡ Some (args_for said))
says_parts name rest said says = by (plain_words rest) refl
  where
    by : (o : Option (List Text)) → plain_words rest ≡ o → (name ≡ name_of (subcommand_for said)) × (plain_words rest ≡ Some (args_for said))
    by None e = absurd (none-some _ (sym (ap (option_map (λ l. name ∷ l)) e) ∙ says.0))
    by (Some args) e =
        let line : name ∷ args ≡ name_of (subcommand_for said) ∷ args_for said =
        some_same (name ∷ args) (name_of (subcommand_for said) ∷ args_for said) (sym (ap (option_map (λ l. name ∷ l)) e) ∙ says.0 ∙ ap (λ l. Some l) (words_are said)) in
        let args_are : args ≡ args_for said = cc in
        (cc, e ∙ ap (λ l. Some l) args_are)

-- in the same places stand the same words
pub same_words : (rows : List Row) (ids xs ys : List Text) → AreWords rows ids xs → AreWords rows ids ys → xs ≡ ys
same_words rows [] [] [] p q = refl
same_words rows [] [] (y ∷ ys) p q = absurd q
same_words rows [] (x ∷ xs) ys p q = absurd p
same_words rows (id ∷ ids) [] ys p q = absurd p
same_words rows (id ∷ ids) (x ∷ xs) [] p q = absurd q
same_words rows (id ∷ ids) (x ∷ xs) (y ∷ ys) p q =
    let first = p.0 in
    let other = q.0 in
    let rest = same_words rows ids xs ys p.1 q.1 in
    cc
