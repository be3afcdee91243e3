-- The values of a file's lines lie in their ranges.
use Rattle.std.proofs.Common.{◌≡◌, ℕ, zero, suc, ◌+◌, ◌-◌, ◌<◌, ◌≤◌, Bool, true, false, not, cond, List, [], ◌∷◌, map, Option, Some, None, option_map, Result, Ok, Err, IfSome, IfOk, refl, subst, arith}
use Rattle.std.specs.List.{AllByRecursion, find, filter_map, cons_option, enumerate_from, range_with_len}
use Rattle.std.specs.Result.{result_ok, result_err}
use Rattle.std.specs.Fmt.{decimal}
use Rattle.csv.specs.Reading.{strip_bom}
use Rattle.clear_money.specs.Numbers.{IsEmployerNo}
use Rattle.clear_money.specs.Results.{◌>>=◌}
use Rattle.clear_bank.specs.Files.{Fields, numbers, written, reference_in, value_in, employer_in, cents_in, purpose_in, note_in, or_bad, line_of, header_fault, rows_read, unless_faulty, all_lines, after_header, record_lines, begins_with_r, is_over, records_of}
use Rattle.clear_bank.specs.Laws.{LinesAreInRange}
use Rattle.clear_values.specs.Ranges.{IsBankLine}
use Rattle.clear_values.specs.Texts.{is_reference, is_note}
use Rattle.clear_bank.specs.declared.fault.BankFault.{BankFault}
use Rattle.clear_bank.specs.declared.fault.BankFault.TheVariants.{OverLimit, BadCsv}
use Rattle.clear_bank.specs.declared.fields.BankField.{BankField}
use Rattle.clear_bank.specs.declared.fields.BankField.TheVariants.{Reference, ValueDate, Employer, Cents, Purpose, Note}
use Rattle.clear_bank.specs.declared.fields.RecordFault.{RecordFault}
use Rattle.clear_bank.specs.declared.fields.RecordFault.TheVariants.{Field}
use Rattle.clear_values.specs.declared.lines.BankLine.{BankLine}

-- ---- a number that is found in a range lies in it

range-within : (test : ℕ → Bool) (a n v : ℕ) → find test (range_with_len a n) ≡ Some v → (a ≤ v) × (v < a + n)
range-within test a zero v h = absurd (cc)
range-within test a (suc n) v h = told (test a) h (range-within test (a + 1) n v)
  where
    told : (b : Bool) → cond b (Some a) (find test (range_with_len (a + 1) n)) ≡ Some v → (find test (range_with_len (a + 1) n) ≡ Some v → (a + 1 ≤ v) × (v < a + 1 + n)) → (a ≤ v) × (v < a + suc n)
    told true k rest = let same : a ≡ v = cc in (omega (arith, same), omega (arith, same))
    told false k rest = let there = rest k in (omega (arith, there.0), omega (arith, there.1))

numbers-within : (test : ℕ → Bool) (a b v : ℕ) → find test (numbers a b) ≡ Some v → a ≤ b → (a ≤ v) × (v ≤ b)
unfolding numbers
numbers-within test a b v h le = let there = range-within test a (b + 1 - a) v h in (there.0, omega (arith, there.1))

-- ---- a text that passes a test, and the firm

text-passes : (test : List ℕ → Bool) (field text : List ℕ) → cond (test field) (Some field) None ≡ Some text → test text ≡ true
text-passes test field text h = told (test field) refl h
  where
    told : (b : Bool) → test field ≡ b → cond b (Some field) None ≡ Some text → test text ≡ true
    told true is k = let same : field ≡ text = cc in subst (λ (bytes : List ℕ). test bytes ≡ true) same is
    told false is k = absurd (cc)

employer-within : (field : List ℕ) (employer : Option ℕ) → employer_in field ≡ Some employer → IfSome employer IsEmployerNo
employer-within [] employer h = let same : None ≡ employer = cc in subst (λ (o : Option ℕ). IfSome o IsEmployerNo) same tt
employer-within (b ∷ bs) employer h = told (written decimal 1 99999999 (b ∷ bs)) refl h
  where
    told : (o : Option ℕ) → written decimal 1 99999999 (b ∷ bs) ≡ o → option_map Some o ≡ Some employer → IfSome employer IsEmployerNo
    told None is k = absurd (cc)
    told (Some e) is k = let same : Some e ≡ employer = cc in subst (λ (o : Option ℕ). IfSome o IsEmployerNo) same (numbers-within _ 1 99999999 e is (omega arith))

-- ---- a line

abbrev IsInRange : Result BankLine BankFault → Type 0
IsInRange r = IfOk r IsBankLine

on_field : {A : Type 0} (n : ℕ) (field : BankField) (o : Option A) (next : A → Result BankLine BankFault) → ((x : A) → o ≡ Some x → IsInRange (next x)) → IsInRange (or_bad n field o >>= next)
on_field n field None next h = tt
on_field n field (Some x) next h = h x refl

line-in-range : (n : ℕ) (fields : Fields) → IsInRange (line_of n fields)
line-in-range n [] = tt
line-in-range n (a ∷ []) = tt
line-in-range n (a ∷ b ∷ []) = tt
line-in-range n (a ∷ b ∷ c ∷ []) = tt
line-in-range n (a ∷ b ∷ c ∷ d ∷ []) = tt
line-in-range n (a ∷ b ∷ c ∷ d ∷ e ∷ []) = tt
line-in-range n (a ∷ b ∷ c ∷ d ∷ e ∷ f ∷ g ∷ more) = tt
line-in-range n (a ∷ b ∷ c ∷ d ∷ e ∷ f ∷ []) =
    on_field n Reference (reference_in a) _ (λ reference a_is. on_field n ValueDate (value_in b) _ (λ value b_is. on_field n Employer (employer_in c) _ (λ employer c_is.
    on_field n Cents (cents_in d) _ (λ cents d_is. on_field n Purpose (purpose_in e) _ (λ purpose _. on_field n Note (note_in f) _ (λ note f_is.
    record {
      reference = text-passes is_reference a reference a_is;
      value = numbers-within _ 10957 84370 value b_is (omega arith);
      employer = employer-within c employer c_is;
      cents = numbers-within _ 1 100000000000 cents d_is (omega arith);
      note = text-passes is_note f note f_is;
    }))))))

-- ---- the lines of a file

abbrev AreInRange : List BankLine → Type 0
AreInRange lines = AllByRecursion IsBankLine lines

rows-in-range : (n : ℕ) (rows : List Fields) → AreInRange (filter_map result_ok (map (λ p. line_of p.0 p.1) (enumerate_from n rows)))
rows-in-range n [] = tt
rows-in-range n (row ∷ rows) = told (line_of n row) (line-in-range n row) (rows-in-range (n + 1) rows)
  where
    told : (r : Result BankLine BankFault) → IsInRange r → AreInRange (filter_map result_ok (map (λ p. line_of p.0 p.1) (enumerate_from (n + 1) rows))) → AreInRange (cons_option (result_ok r) (filter_map result_ok (map (λ p. line_of p.0 p.1) (enumerate_from (n + 1) rows))))
    told (Ok line) here rest = (here, rest)
    told (Err fault) here rest = rest

-- the values of all lines are in range, if there are lines
abbrev pub HaveRanges : Result (List BankLine) BankFault → Type 0
HaveRanges r = IfOk r AreInRange

unless-in-range : (faults : List BankFault) (lines : List BankLine) → AreInRange lines → HaveRanges (unless_faulty faults lines)
unless-in-range [] lines h = h
unless-in-range (fault ∷ faults) lines h = tt

header-in-range : (o : Option RecordFault) (lines : Result (List BankLine) BankFault) → HaveRanges lines → HaveRanges (after_header o lines)
header-in-range None lines h = h
header-in-range (Some fault) lines h = tt

records-in-range : (records : List Fields) → HaveRanges (record_lines records)
records-in-range [] = tt
records-in-range (header ∷ rows) =
    header-in-range (header_fault header) (all_lines (rows_read rows)) (unless-in-range (filter_map result_err (rows_read rows)) (filter_map result_ok (rows_read rows)) (rows-in-range 2 rows))

-- where a file is read, the values of all its lines are in range
pub file-lines-in-range : LinesAreInRange
file-lines-in-range limit file = told (begins_with_r (strip_bom file)) (is_over limit (records_of (strip_bom file)))
  where
    told : (p q : Bool) → HaveRanges (cond (not p) (Err (BadCsv 1 (Field Reference))) (cond q (Err OverLimit) (record_lines (records_of (strip_bom file)))))
    told true true = tt
    told true false = records-in-range (records_of (strip_bom file))
    told false q = tt
