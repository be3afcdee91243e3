-- The fields of a record.
use Rattle.std.proofs.Common.{◌≡◌, ℕ, ◌+◌, List, [], ◌∷◌, ◌++◌, length, map, drop, Some, Result, refl, arith}
use Rattle.std.specs.List.{enumerate_from, filter_map}
use Rattle.std.specs.Result.{result_ok, result_err}
use Rattle.csv.specs.Records.{Row, field_at, fields_of}
use Rattle.clear_bank.specs.Files.{line_of, rows_read}
use Rattle.clear_bank.specs.declared.fault.BankFault.{BankFault}
use Rattle.clear_values.specs.declared.lines.BankLine.{BankLine}

-- a record of six fields
pub six_fields : (fields : List (List ℕ)) (a b c d e f : List ℕ) → length fields ≡ 6
    → field_at fields 0 ≡ Some a → field_at fields 1 ≡ Some b → field_at fields 2 ≡ Some c → field_at fields 3 ≡ Some d → field_at fields 4 ≡ Some e → field_at fields 5 ≡ Some f
    → fields ≡ a ∷ b ∷ c ∷ d ∷ e ∷ f ∷ []
unfolding field_at
six_fields [] a b c d e f n h0 h1 h2 h3 h4 h5 = absurd (omega arith)
six_fields (x0 ∷ []) a b c d e f n h0 h1 h2 h3 h4 h5 = cc h1
six_fields (x0 ∷ x1 ∷ []) a b c d e f n h0 h1 h2 h3 h4 h5 = cc h2
six_fields (x0 ∷ x1 ∷ x2 ∷ []) a b c d e f n h0 h1 h2 h3 h4 h5 = cc h3
six_fields (x0 ∷ x1 ∷ x2 ∷ x3 ∷ []) a b c d e f n h0 h1 h2 h3 h4 h5 = cc h4
six_fields (x0 ∷ x1 ∷ x2 ∷ x3 ∷ x4 ∷ []) a b c d e f n h0 h1 h2 h3 h4 h5 = cc h5
six_fields (x0 ∷ x1 ∷ x2 ∷ x3 ∷ x4 ∷ x5 ∷ []) a b c d e f n h0 h1 h2 h3 h4 h5 = cc
six_fields (x0 ∷ x1 ∷ x2 ∷ x3 ∷ x4 ∷ x5 ∷ x6 ∷ xs) a b c d e f n h0 h1 h2 h3 h4 h5 = absurd (omega arith)

-- ---- data records read one after another

-- what the data records from a place on say
abbrev left : List Row → ℕ → List (Result BankLine BankFault)
left rows place = map (λ p. line_of p.0 p.1) (enumerate_from (place + 2) (map fields_of (drop place rows)))

-- how far the data records are read: those before the place say these lines
pub record Reading (rows : List Row) (place : ℕ) (lines : List BankLine) : Type 0 where
  pub faults : filter_map result_err (rows_read (map fields_of rows)) ≡ filter_map result_err (left rows place)
  pub so_far : filter_map result_ok (rows_read (map fields_of rows)) ≡ lines ++ filter_map result_ok (left rows place)

pub reading-start : (rows : List Row) (lines : List BankLine) → lines ≡ [] → Reading rows 0 lines
reading-start rows lines e = rw e (record { faults = refl; so_far = refl })
