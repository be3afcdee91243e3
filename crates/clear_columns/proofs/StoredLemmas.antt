-- What columns make of the ledger's values, and how these compare.
use Rattle.std.proofs.Common.{◌≡◌, ℤ, pos, ℕ, Bool, true, false, not, ◌&&◌, ◌||◌, ◌==◌, nat_le, nat_lt, ap, Option, Some, None, is_none, codes, refl, arith, ◌∙◌, int_eq, int_cmp, nat_cmp}
use Rattle.std.proofs.Math.Bool.{and-true}
use Rattle.std.proofs.lemmas.Bool.Decides.{nat_tests}
use Rattle.std.proofs.lemmas.Int.{ints}
use Rattle.sqlite.specs.Cast.{cast}
use Rattle.sqlite.specs.Collation.TheVariants.{Binary}
use Rattle.sqlite.specs.Ops.{binary, from_truth, is_true, test}
use Rattle.std.specs.Option.{option_map_or}
use Rattle.sqlite.specs.Order.{value_cmp}
use Rattle.sqlite.specs.Kind.TheVariants.{Integer}
use Rattle.sqlite.specs.declared.types.Value.TheVariants.{Null}
use Rattle.std.specs.Float.Ieee
use Rattle.sqlite_schema.specs.Rules.{is_of}
use Rattle.sqlite_sql.specs.declared.ops.BinaryOp.TheVariants.{And, Compare, Is, Or}
use Rattle.sqlite_sql.specs.declared.ops.CompareOp.{CompareOp}
use Rattle.sqlite_sql.specs.declared.ops.CompareOp.TheVariants.{Eq, Ge, Gt, Le, Ne}
use Rattle.sqlite_value.proofs.OrderLemmas.{value_cmp-Int, value_cmp-Text}
use Rattle.clear_values.specs.Lines.{same_purpose}
use Rattle.clear_values.specs.declared.lines.Purpose.{Purpose}
use Rattle.clear_values.specs.declared.lines.Purpose.TheVariants.{Contribution, Interest}
use Rattle.clear_values.specs.Credits.{rank_of}
use Rattle.clear_schema.proofs.ValueLemmas.{cast_null, cast_int, equal_ints, equal_texts, told}
use Rattle.clear_schema.specs.Values.{number, maybe, month, month_number, maybe_month, purpose}

pub cast_maybe : (o : Option ℕ) → cast Integer (maybe o) ≡ maybe o
cast_maybe None = cast_null
cast_maybe (Some n) = cast_int (pos n)

pub cast_maybe_month : (o : Option ℕ) → cast Integer (maybe_month o) ≡ maybe_month o
cast_maybe_month None = cast_null
cast_maybe_month (Some m) = cast_int (month_number m)

pub maybe_typed : (o : Option ℕ) → is_of Integer (maybe o) ≡ true
maybe_typed None = refl
maybe_typed (Some n) = refl

pub maybe_month_typed : (o : Option ℕ) → is_of Integer (maybe_month o) ≡ true
maybe_month_typed None = refl
maybe_month_typed (Some m) = refl

-- numbers from 0 on are equal as such
pub same_numbers : (m n : ℕ) → int_eq (pos m) (pos n) ≡ (m == n)
same_numbers m n = grind (arith, ints, nat_tests)

-- and they are ordered as such
pub number_order : (m n : ℕ) → int_cmp (pos m) (pos n) ≡ nat_cmp m n
number_order m n = grind (arith, ints, nat_tests)

-- numbers as SQL holds them are equal and ordered as they are
pub record KeepsOrder (held : ℕ → ℤ) : Type 0 where
  pub same : (m n : ℕ) → int_eq (held m) (held n) ≡ (m == n)
  pub order : (m n : ℕ) → int_cmp (held m) (held n) ≡ nat_cmp m n

pub numbers_keep : KeepsOrder (λ n. pos n)
numbers_keep = record { same = same_numbers; order = number_order }

-- months are equal and ordered as they are stored
same_months : (m n : ℕ) → int_eq (month_number m) (month_number n) ≡ (m == n)
same_months m n = grind (arith, ints, nat_tests)

month_order : (m n : ℕ) → int_cmp (month_number m) (month_number n) ≡ nat_cmp m n
month_order m n = grind (arith, ints, nat_tests)

pub months_keep : KeepsOrder month_number
months_keep = record { same = same_months; order = month_order }

pub equal_numbers : (m n : ℕ) → is_true (binary (Compare Eq Binary) (number m) (number n)) ≡ (m == n)
equal_numbers m n = equal_ints (pos m) (pos n) ∙ same_numbers m n

-- a test of two numbers, as it is found
tested : (op : CompareOp) (m n : ℕ) → binary (Compare op Binary) (number m) (number n) ≡ from_truth (Some (test op (nat_cmp m n)))
unfolding binary
tested op m n = ap (λ o. from_truth (Some (test op o))) (value_cmp-Int (pos m) (pos n) ∙ number_order m n)

-- the tests of the order of two numbers
same : (m n : ℕ) → test Eq (nat_cmp m n) ≡ (n == m)
same m n = grind (arith, nat_tests)

greater : (m n : ℕ) → test Gt (nat_cmp m n) ≡ nat_lt n m
greater m n = grind (arith, nat_tests)

at_least : (m n : ℕ) → test Ge (nat_cmp m n) ≡ nat_le n m
at_least m n = grind (arith, nat_tests)

at_most : (m n : ℕ) → test Le (nat_cmp m n) ≡ nat_le m n
at_most m n = grind (arith, nat_tests)

pub is_above : (m n : ℕ) → is_true (binary (Compare Gt Binary) (number m) (number n)) ≡ nat_lt n m
is_above m n = ap is_true (tested Gt m n) ∙ told _ ∙ greater m n

-- the last of two conditions is the second
pub two_met : (a b : Bool) → (a && (b && true)) ≡ (a && b)
two_met a b = ap (λ c. a && c) (and-true b)

-- whether one of two numbers is another
pub others_differ : (a b m n : ℕ) → is_true (binary Or (binary (Compare Ne Binary) (number a) (number b)) (binary (Compare Ne Binary) (number m) (number n))) ≡ (not (a == b) || not (m == n))
unfolding binary
others_differ a b m n = rw (differ a b, differ m n) (either (not (a == b)) (not (m == n)))
  where
    other : (m n : ℕ) → test Ne (nat_cmp m n) ≡ not (m == n)
    other m n = grind (arith, nat_tests)

    differ : (m n : ℕ) → binary (Compare Ne Binary) (number m) (number n) ≡ from_truth (Some (not (m == n)))
    differ m n = tested Ne m n ∙ ap (λ b. from_truth (Some b)) (other m n)

    either : (a b : Bool) → is_true (binary Or (from_truth (Some a)) (from_truth (Some b))) ≡ (a || b)
    either true true = refl
    either true false = refl
    either false true = refl
    either false false = refl

-- whether two numbers are a pair or come behind it
pub comes_from : (a b m n : ℕ)
    → is_true (binary Or (binary (Compare Gt Binary) (number a) (number m)) (binary And (binary (Compare Eq Binary) (number a) (number m)) (binary (Compare Ge Binary) (number b) (number n))))
    ≡ (nat_lt m a || ((m == a) && nat_le n b))
unfolding binary
comes_from a b m n = rw (tested Gt a m, tested Eq a m, tested Ge b n, greater a m, same a m, at_least b n) (joined (nat_lt m a) (m == a) (nat_le n b))
  where
    joined : (a b c : Bool) → is_true (binary Or (from_truth (Some a)) (binary And (from_truth (Some b)) (from_truth (Some c)))) ≡ (a || (b && c))
    joined true true true = refl
    joined true true false = refl
    joined true false true = refl
    joined true false false = refl
    joined false true true = refl
    joined false true false = refl
    joined false false true = refl
    joined false false false = refl

-- a column that may be NULL has a number only where it is one, and is at least a number only where it
-- is one
pub equal_maybe : (o : Option ℕ) (n : ℕ) → is_true (binary (Compare Eq Binary) (maybe o) (number n)) ≡ option_map_or (λ m. m == n) o false
unfolding binary
equal_maybe None n = refl
equal_maybe (Some m) n = equal_numbers m n

-- there is none
pub maybe_none : (o : Option ℕ) → is_true (binary (Is Binary) (maybe o) Null) ≡ is_none o
unfolding binary value_cmp Ieee.lt Ieee.is_nan
maybe_none None = refl
maybe_none (Some n) = refl

pub maybe_from : (o : Option ℕ) (n : ℕ) → is_true (binary (Compare Ge Binary) (maybe o) (number n)) ≡ option_map_or (λ m. nat_le n m) o false
unfolding binary
maybe_from None n = refl
maybe_from (Some m) n = told _ ∙ ap (test Ge) (value_cmp-Int (pos m) (pos n) ∙ number_order m n) ∙ at_least m n

pub equal_months : (m n : ℕ) → is_true (binary (Compare Eq Binary) (month m) (month n)) ≡ (m == n)
equal_months m n = equal_ints (month_number m) (month_number n) ∙ same_months m n

pub months_from : (m n : ℕ) → is_true (binary (Compare Ge Binary) (month m) (month n)) ≡ nat_le n m
unfolding binary
months_from m n = told _ ∙ ap (test Ge) (value_cmp-Int (month_number m) (month_number n) ∙ month_order m n) ∙ at_least m n

pub months_to : (m n : ℕ) → is_true (binary (Compare Le Binary) (month m) (month n)) ≡ nat_le m n
unfolding binary
months_to m n = told _ ∙ ap (test Le) (value_cmp-Int (month_number m) (month_number n) ∙ month_order m n) ∙ at_most m n

pub months_compare : (m n : ℕ) → value_cmp (month m) (month n) ≡ nat_cmp m n
months_compare m n = value_cmp-Int (month_number m) (month_number n) ∙ month_order m n

pub equal_ranks : (p q : Purpose) → is_true (binary (Compare Eq Binary) (purpose p) (purpose q)) ≡ (rank_of p == rank_of q)
equal_ranks Contribution Contribution = equal_texts (codes "C") (codes "C")
equal_ranks Contribution Interest = equal_texts (codes "C") (codes "I")
equal_ranks Interest Contribution = equal_texts (codes "I") (codes "C")
equal_ranks Interest Interest = equal_texts (codes "I") (codes "I")

pub equal_purposes : (p q : Purpose) → is_true (binary (Compare Eq Binary) (purpose p) (purpose q)) ≡ same_purpose p q
equal_purposes Contribution Contribution = equal_texts (codes "C") (codes "C")
equal_purposes Contribution Interest = equal_texts (codes "C") (codes "I")
equal_purposes Interest Contribution = equal_texts (codes "I") (codes "C")
equal_purposes Interest Interest = equal_texts (codes "I") (codes "I")

pub numbers_compare : (m n : ℕ) → value_cmp (number m) (number n) ≡ nat_cmp m n
numbers_compare m n = value_cmp-Int (pos m) (pos n) ∙ number_order m n

-- C comes before I
pub purposes_compare : (p q : Purpose) → value_cmp (purpose p) (purpose q) ≡ nat_cmp (rank_of p) (rank_of q)
purposes_compare Contribution Contribution = value_cmp-Text (codes "C") (codes "C")
purposes_compare Contribution Interest = value_cmp-Text (codes "C") (codes "I")
purposes_compare Interest Contribution = value_cmp-Text (codes "I") (codes "C")
purposes_compare Interest Interest = value_cmp-Text (codes "I") (codes "I")
