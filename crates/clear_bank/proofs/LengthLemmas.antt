-- How many lines a file has.
use Rattle.std.proofs.Common.{◌≡◌, ℕ, ◌+◌, ◌-◌, ◌≤◌, Bool, true, false, not, cond, List, [], ◌∷◌, length, Option, Some, None, Result, Ok, Err, refl, ap, arith}
use Rattle.std.proofs.lemmas.Bool.{ltb-false}
use Rattle.std.proofs.lemmas.List.{length-map}
use Rattle.std.proofs.lemmas.List.FromFn.{length-enumerate_from}
use Rattle.std.specs.List.{filter_map, enumerate_from, cons_option}
use Rattle.std.specs.Result.{result_ok, result_err}
use Rattle.csv.specs.Reading.{strip_bom}
use Rattle.clear_bank.specs.declared.fault.BankFault.{BankFault}
use Rattle.clear_bank.specs.declared.fault.BankFault.TheVariants.{BadCsv, OverLimit as LongFile}
use Rattle.clear_bank.specs.declared.fields.BankField.TheVariants.{Reference}
use Rattle.clear_bank.specs.declared.fields.RecordFault.{RecordFault}
use Rattle.clear_bank.specs.declared.fields.RecordFault.TheVariants.{Field}
use Rattle.clear_values.specs.declared.lines.BankLine.{BankLine}
use Rattle.clear_bank.specs.Files.{Fields, file_lines, records_of, begins_with_r, record_lines, rows_read, line_of, all_lines, unless_faulty, after_header, header_fault, is_over as is_long}

kept-few : {A : Type 0} (o : Option A) (xs : List A) (n : ℕ) → length xs ≤ n → length (cons_option o xs) ≤ n + 1
kept-few None xs n h = omega arith
kept-few (Some x) xs n h = omega arith

pub filter_map-few : {A B : Type 0} (h : A → Option B) (xs : List A) → length (filter_map h xs) ≤ length xs
filter_map-few h [] = omega arith
filter_map-few h (x ∷ xs) = omega (arith, kept-few (h x) (filter_map h xs) (length xs) (filter_map-few h xs))

fault-none : (faults : List BankFault) (xs lines : List BankLine) → unless_faulty faults xs ≡ Ok lines → xs ≡ lines
fault-none [] xs lines e = cc
fault-none (fault ∷ faults) xs lines e = cc

header-none : (o : Option RecordFault) (r : Result (List BankLine) BankFault) (lines : List BankLine) → after_header o r ≡ Ok lines → r ≡ Ok lines
header-none None r lines e = e
header-none (Some fault) r lines e = cc

record-few : (rows : List Fields) (lines : List BankLine) → record_lines rows ≡ Ok lines → length lines ≤ length rows - 1
record-few [] lines e =
    let wrong : ⊥ = cc in
    absurd wrong
record-few (header ∷ rows) lines e =
    let all = header-none (header_fault header) (all_lines (rows_read rows)) lines e in
    let same : filter_map result_ok (rows_read rows) ≡ lines = fault-none (filter_map result_err (rows_read rows)) (filter_map result_ok (rows_read rows)) lines all in
    omega (arith, ap (λ (ls : List BankLine). length ls) same, filter_map-few result_ok (rows_read rows), length-map (enumerate_from 2 rows) (λ (p : ℕ × Fields). line_of p.0 p.1), length-enumerate_from 2 rows)

tests-pass : (a b : Bool) (f g : BankFault) (r : Result (List BankLine) BankFault) (lines : List BankLine) → cond (not a) (Err f) (cond b (Err g) r) ≡ Ok lines → (b ≡ false) × (r ≡ Ok lines)
tests-pass false b f g r lines e =
    let wrong : ⊥ = cc in
    absurd wrong
tests-pass true true f g r lines e =
    let wrong : ⊥ = cc in
    absurd wrong
tests-pass true false f g r lines e = (refl, e)

text-few : (n : ℕ) (text : List ℕ) (lines : List BankLine)
    → cond (not (begins_with_r text)) (Err (BadCsv 1 (Field Reference))) (cond (is_long n (records_of text)) (Err LongFile) (record_lines (records_of text))) ≡ Ok lines → length lines ≤ n
text-few n text lines e =
    let t = tests-pass (begins_with_r text) (is_long n (records_of text)) (BadCsv 1 (Field Reference)) LongFile (record_lines (records_of text)) lines e in
    omega (arith, ltb-false n (length (records_of text) - 1) t.0, record-few (records_of text) lines t.1)

-- a file has at most as many lines as the limit allows
pub few_lines : (n : ℕ) (file : List ℕ) (lines : List BankLine) → file_lines n file ≡ Ok lines → length lines ≤ n
few_lines n file lines e = text-few n (strip_bom file) lines e
