-- What bank files hold by themselves.
use Rattle.std.proofs.Common.{◌≡◌, ◌≢◌, ℕ, ◌+◌, ◌-◌, ◌*◌, ◌<◌, ◌≤◌, ◌/◌, ◌%◌, ◌^◌, Bool, true, false, not, if◌then◌else◌, List, [], ◌∷◌, ◌++◌, length, take, get_or, count_by, sum_by, Option, Some, None, is_some, is_none, Result, Ok, Err, refl, sym, ap, subst, ◌∙◌, add-one, zero-add, append_assoc, arith, ⊎_elim, codes}
use Rattle.std.specs.Fmt.{decimal, styled_decimal, padded_integral, format_spec, char_count}
use Rattle.std.specs.List.{cons_option}
use Rattle.std.specs.Option.{option_to_list}
use Rattle.std.specs.Prelude.{slice_get}
use Rattle.std.proofs.Math.Seq.{take-suc}
use mir.Val.{bool_byte}
use Rattle.std.proofs.lemmas.Bool.{cases_lt}
use Rattle.std.proofs.lemmas.Fmt.{decimal_digit, decimal_step}
use Rattle.std.proofs.lemmas.List.{append-nil}
use Rattle.std.proofs.lemmas.List.Elements.{filter_map-append}
use Rattle.std.proofs.lemmas.List.Sums.{count_by-le-length, sum_by-append}
use Rattle.clear_money.specs.Results.{◌>>=◌}
use Rattle.clear_money.specs.Texts.{two_digits}
use Rattle.clear_values.specs.declared.lines.BankLine.{BankLine}
use Rattle.clear_bank.specs.Files.{Fields, file_lines}
use Rattle.clear_bank.specs.Newness.{judgement}
use Rattle.clear_bank.specs.Answers.{Fails}
use Rattle.clear_bank.specs.declared.fault.BankFault.{BankFault}
use Rattle.clear_bank.specs.declared.fault.BankFault.TheVariants.{OverLimit, BadCsv, RefConflict, Memory as MemoryFault}
use Rattle.clear_book.specs.Documents.Amounts.{euros_text}
use Rattle.clear_bank_check.specs.BankChecks.{Contents, Tells, TellsFault, bank_line, bank_of, cents_of, contents_of, lines_at, names_no_firm}
use Rattle.clear_bank_check.specs.BankFound.{IsFoundIn, records_by}
use Rattle.clear_bank_check.specs.Hints.{AreHints, hint_lines}
use Rattle.clear_check.specs.Shown.{Found}
use Rattle.clear_bank_check.specs.declared.hints.Hints.{Hints}

-- a fault of the lines is that of the file
pub bank_of-fault : (bytes : List ℕ) (fault : BankFault) → file_lines 10000 bytes ≡ Err fault → bank_of bytes ≡ Err fault
unfolding bank_of
bank_of-fault bytes fault e = ap (λ read. read >>= contents_of) e

module _ (bytes : List ℕ) (lines : List BankLine) (read : file_lines 10000 bytes ≡ Ok lines) where
  bank_of-lines : bank_of bytes ≡ contents_of lines
  unfolding bank_of
  bank_of-lines = ap (λ it. it >>= contents_of) read

  -- a conflict is the fault of the file
  pub bank_of-conflict : (fault : BankFault) → judgement [] lines ≡ Err fault → bank_of bytes ≡ Err fault
  bank_of-conflict fault e = bank_of-lines ∙ ap (λ judged. judged >>= (λ (j : List ℕ × ℕ). Ok (record { lines = lines; new = j.0; repeats = j.1 }))) e

  -- a file holds its lines, as they are judged
  pub bank_of-judged : (judged : List ℕ × ℕ) → judgement [] lines ≡ Ok judged → bank_of bytes ≡ Ok (record { lines = lines; new = judged.0; repeats = judged.1 })
  bank_of-judged judged e = bank_of-lines ∙ ap (λ judged. judged >>= (λ (j : List ℕ × ℕ). Ok (record { lines = lines; new = j.0; repeats = j.1 }))) e

-- `{:02}`
two_places : (n : ℕ) → n < 100 → padded_integral (format_spec 32 0 4 2 (2 ^ 64 - 1)) false [] (decimal n) ≡ two_digits n
unfolding padded_integral char_count
two_places n small = ⊎_elim
    (λ (one : n < 10). let high : n / 10 ≡ 0 = omega arith in let low : n % 10 ≡ n = omega arith in rw (decimal_digit n one, high, low) refl)
    (λ (two : 10 ≤ n). let high : n / 10 < 10 = omega arith in let few : n < 2 ^ 64 = omega arith in rw (decimal_step n two few, decimal_digit (n / 10) high) refl)
    (cases_lt n 10)

pub euros_parts : (cents : ℕ) → decimal (cents / 100) ++ 46 ∷ styled_decimal (format_spec 32 0 4 2 (2 ^ 64 - 1)) (cents % 100) ≡ euros_text cents
euros_parts cents =
    let low : cents % 100 < 100 = omega arith in
    ap (λ two. decimal (cents / 100) ++ 46 ∷ two) (two_places (cents % 100) low) ∙ sym (append_assoc (decimal (cents / 100)) (codes ".") (two_digits (cents % 100)))

-- ---- totals

-- the lines at one place more
lines_at-more : (lines : List BankLine) (places : List ℕ) (i : ℕ) → i < length places
    → lines_at lines (take (i + 1) places) ≡ lines_at lines (take i places) ++ option_to_list (slice_get lines (get_or places i 0))
lines_at-more lines places i within =
    rw (add-one, take-suc places i 0 within)
    (filter_map-append (slice_get lines) (take i places) (get_or places i 0 ∷ []) ∙ ap (λ more. lines_at lines (take i places) ++ more) (one (slice_get lines (get_or places i 0))))
  where
    one : (line : Option BankLine) → cons_option line [] ≡ option_to_list line
    one None = refl
    one (Some line) = refl

-- how many of the lines at the first places name no firm, and their cents together
pub record AreTotals (lines : List BankLine) (places : List ℕ) (count unnamed cents : ℕ) : Type 0 where
  pub no_firm : unnamed ≡ count_by names_no_firm (lines_at lines (take count places))
  pub all_cents : cents ≡ sum_by cents_of (lines_at lines (take count places))
  pub few : unnamed ≤ count
  pub small : cents ≤ count * 100000000000

pub one_unnamed : (employer : Option ℕ) (without : Bool) → is_some employer ≡ not without → bool_byte without ≡ (if is_none employer then 1 else 0)
one_unnamed None true e = refl
one_unnamed None false e = cc
one_unnamed (Some firm) true e = cc
one_unnamed (Some firm) false e = refl

sum_by-last : (f : BankLine → ℕ) (lines : List BankLine) (line : BankLine) → sum_by f (lines ++ line ∷ []) ≡ sum_by f lines + f line
sum_by-last f lines line = sum_by-append f lines (line ∷ []) ∙ ap (λ n. sum_by f lines + n) (zero-add (f line))

module _ (lines : List BankLine) (places : List ℕ) (count unnamed cents : ℕ) (before : AreTotals lines places count unnamed cents) (within : count < length places) where
  -- there is no line at the next place
  pub totals-none : slice_get lines (get_or places count 0) ≡ None → AreTotals lines places (count + 1) unnamed cents
  totals-none none =
      let same : lines_at lines (take (count + 1) places) ≡ lines_at lines (take count places) = lines_at-more lines places count within ∙ ap (λ more. lines_at lines (take count places) ++ option_to_list more) none ∙ append-nil _ in
      record {
        no_firm = before.no_firm ∙ ap (count_by names_no_firm) (sym same);
        all_cents = before.all_cents ∙ ap (sum_by cents_of) (sym same);
        few = omega (arith, before.few);
        small = omega (arith, before.small);
      }

  -- there is one
  pub totals-some : (line : BankLine) (one : ℕ) → slice_get lines (get_or places count 0) ≡ Some line → one ≡ (if names_no_firm line then 1 else 0) → line.cents ≤ 100000000000
      → AreTotals lines places (count + 1) (unnamed + one) (cents + line.cents)
  totals-some line one found is range =
      let so_far = lines_at lines (take count places) in
      let next : lines_at lines (take (count + 1) places) ≡ so_far ++ line ∷ [] = lines_at-more lines places count within ∙ ap (λ more. so_far ++ option_to_list more) found in
      let none : (line : BankLine) → ℕ = λ line. if names_no_firm line then 1 else 0 in
      let few : (if names_no_firm line then 1 else 0) ≤ 1 = omega (arith, count_by-le-length names_no_firm (line ∷ [])) in
      record {
        no_firm = ap (λ n. n + one) before.no_firm ∙ ap (λ n. count_by names_no_firm so_far + n) is ∙ sym (ap (count_by names_no_firm) next ∙ sum_by-last none so_far line);
        all_cents = ap (λ n. n + line.cents) before.all_cents ∙ sym (ap (sum_by cents_of) next ∙ sum_by-last cents_of so_far line);
        few = omega (arith, before.few, is, few);
        small = omega (arith, before.small, range);
      }

-- ---- what is told of a fault

-- the fault that is told is that of the file
pub told : (bytes text : List ℕ) (fault : BankFault) (right : Result Contents BankFault) → Fails fault right → fault ≢ MemoryFault → TellsFault bytes fault text → Tells bytes right text
told bytes text OverLimit right is known tells = subst (λ (r : Result Contents BankFault). Tells bytes r text) (sym is) tells
told bytes text (BadCsv line bad) right is known tells = subst (λ (r : Result Contents BankFault). Tells bytes r text) (sym is) tells
told bytes text (RefConflict line) right is known tells = subst (λ (r : Result Contents BankFault). Tells bytes r text) (sym is) tells
told bytes text MemoryFault right is known tells = absurd (known refl)

-- a line and what stands below it tell a fault
pub tells_fault : (bytes text line below : List ℕ) (rows : List Fields) (fault : BankFault) (seen : Found) (hints : Hints) → rows ≡ records_by 44 bytes → IsFoundIn rows fault seen
    → AreHints bytes rows fault hints → line ≡ bank_line fault seen → below ≡ hint_lines hints → text ≡ line ++ (below ++ []) → TellsFault bytes fault text
tells_fault bytes text line below rows fault seen hints read found are here hinted is = (
  seen,
  subst (λ (rows : List Fields). IsFoundIn rows fault seen) read found,
  hints,
  subst (λ (rows : List Fields). AreHints bytes rows fault hints) read are,
  is ∙ ap (λ rest. line ++ rest) (append-nil below) ∙ (λ i. here i ++ hinted i),
)
