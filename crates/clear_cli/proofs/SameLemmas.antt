-- Words say one thing at most.
use Rattle.std.proofs.Common.{◌≡◌, ℕ, true, false, List, [], ◌∷◌, refl, sym, ap, ap₂, ◌∙◌, arith}
use Rattle.std.specs.Prelude.{Option, Some, find, ◌/◌, ◌%◌, ◌+◌}
use Rattle.std.specs.Str.{bytes_eq}
use Rattle.std.proofs.lemmas.Fmt.{decimal_injective}
use Rattle.std.proofs.lemmas.Slice.Eq.{bytes_eq-Decides}
use Rattle.clear_money.specs.Calendar.{IsDay, day_in, day_of_month, month_of}
use Rattle.clear_money.specs.Texts.{day_text}
use Rattle.clear_money.proofs.DateLemmas.{dated-civil}
use Rattle.clear_money.proofs.DayTextLemmas.{date_text-injective}
use Rattle.clear_money.proofs.MonthLemmas.{day_in-parts, day_of_month_bounds, month_length_bounds}
use Rattle.clear_cli.specs.Lines.{IsInRange, IsSame, Says, kind_word, words_for}
use Rattle.clear_cli.specs.Rows.{args_for, name_of, subcommand_for}
use Rattle.clear_cli.specs.declared.words.FileKind.{FileKind}
use Rattle.clear_cli.specs.declared.words.FileKind.TheVariants as file
use Rattle.clear_cli.specs.declared.words.Words.{Words}
use Rattle.clear_cli.specs.declared.words.Words.TheVariants.{Init, Stream, Serve, Import, Statement, Migrate, Look, Check, Backup}
use Rattle.clear_cli.proofs.SaidLemmas.{words_are}

-- a text spells one day
one_day : (d e : ℕ) → IsDay d → IsDay e → day_text d ≡ day_text e → d ≡ e
one_day d e p q same =
    let civil = dated-civil d p in
    let place = day_of_month_bounds d p in
    let civil₂ = dated-civil e q in
    let place₂ = day_of_month_bounds e q in
    let parts = date_text-injective (month_of d / 12) (month_of d % 12 + 1) (day_of_month d) (month_of e / 12) (month_of e % 12 + 1) (day_of_month e)
    (omega (arith, civil.1)) (omega arith) (omega (arith, place.1, (month_length_bounds (month_of d)).1))
    (omega (arith, civil₂.1)) (omega arith) (omega (arith, place₂.1, (month_length_bounds (month_of e)).1)) same in
    let month : month_of d ≡ month_of e = omega (arith, parts.year, parts.month) in
    sym (day_in-parts d p) ∙ ap₂ day_in month parts.day ∙ day_in-parts e q

-- a word is that of one kind
one_kind : (k l : FileKind) → kind_word k ≡ kind_word l → k ≡ l
one_kind k l same =
    let some : Some k ≡ Some l = sym (of_word k) ∙ ap kind_of same ∙ of_word l in
    cc
  where
    kind_of : List ℕ → Option FileKind
    kind_of word = find (λ k. bytes_eq (kind_word k) word) (file.Rates ∷ file.Callers ∷ file.Bank ∷ [])

    of_word : (k : FileKind) → kind_of (kind_word k) ≡ Some k
    of_word file.Rates = refl
    of_word _ = refl

-- the same words begin with the name of one subcommand
one_name : (a b : Words) → words_for a ≡ words_for b → bytes_eq (name_of (subcommand_for a)) (name_of (subcommand_for b)) ≡ true
one_name a b same =
    let words : name_of (subcommand_for a) ∷ args_for a ≡ name_of (subcommand_for b) ∷ args_for b = sym (words_are a) ∙ same ∙ words_are b in
    (bytes_eq-Decides (name_of (subcommand_for a)) (name_of (subcommand_for b))).1 cc

differ : false ≡ true → ⊥
differ e = absurd cc

said_once : (a b : Words) → bytes_eq (name_of (subcommand_for a)) (name_of (subcommand_for b)) ≡ true → words_for a ≡ words_for b → IsInRange a → IsInRange b → IsSame a b
said_once (Init s r) (Init t q) e w x y = (cc, cc)
said_once (Stream r c d) (Stream q b f) e w x y = (cc, cc, one_day d f x y cc)
said_once (Serve s c d p n) (Serve t b f o m) e w x y =
    (cc, cc, one_day d f x.0 y.0 cc, decimal_injective p o (omega (arith, x.1.1)) (omega (arith, y.1.1)) cc, decimal_injective n m (omega (arith, x.2.1)) (omega (arith, y.2.1)) cc)
said_once (Import s d n f) (Import t g m h) e w x y = (cc, one_day d g x.0 y.0 cc, decimal_injective n m (omega (arith, x.1.1)) (omega (arith, y.1.1)) cc, cc)
said_once (Statement s d n) (Statement t g m) e w x y = (cc, one_day d g x.0 y.0 cc, decimal_injective n m (omega (arith, x.1.1)) (omega (arith, y.1.1)) cc)
said_once (Migrate s) (Migrate t) e w x y = cc
said_once (Look s) (Look t) e w x y = cc
said_once (Check k f) (Check l g) e w x y = (one_kind k l cc, cc)
said_once (Backup s f) (Backup t g) e w x y = (cc, cc)
said_once _ _ e w x y = absurd (differ e)

pub one_thing : (words : List (List ℕ)) (a b : Words) → Says words a → Says words b → IsSame a b
one_thing words a b p q =
    let some : Some (words_for a) ≡ Some (words_for b) = sym p.0 ∙ q.0 in
    let same : words_for a ≡ words_for b = cc in
    said_once a b (one_name a b same) same p.1 q.1
