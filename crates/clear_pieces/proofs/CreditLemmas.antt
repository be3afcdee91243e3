-- The pieces of the firms of credits that were put.
use Rattle.std.proofs.Common.{◌≡◌, ℕ, List, [], ◌∷◌, Option, Some, None, false, length, map, ◌||◌, refl, sym, ap, ◌∙◌, subst, arith}
use Rattle.std.specs.List.{AllByRecursion}
use Rattle.std.proofs.lemmas.Bool.{eq-eqb}
use Rattle.std.proofs.lemmas.List.Elements.{All-contains, All-from_recursion}
use Rattle.sqlite_trees.proofs.ListLemmas.{all-filter}
use Rattle.clear_account.specs.Account.{IsAccount, comes_before}
use Rattle.clear_account.specs.declared.entries.Credit.{Credit}
use Rattle.clear_kept.specs.Changes.{credits_before}
use Rattle.clear_kept.specs.Weighed.{weighed_charges}
use Rattle.clear_values.specs.Credits.{credits_of_lines, set_offs_of}
use Rattle.clear_values.specs.RowRanges.{AreInRange, IsCreditRow, IsSerial}
use Rattle.clear_values.specs.declared.lines.Purpose.TheVariants.{Contribution}
use Rattle.clear_values.specs.declared.rows.BankRow.{BankRow}
use Rattle.clear_values.specs.declared.rows.Change.TheVariants.{AddBankLines, AssignLine, ReleaseClaim}
use Rattle.clear_values.specs.declared.rows.ClaimRow.{ClaimRow}
use Rattle.clear_values.specs.declared.rows.CreditRow.{CreditRow}
use Rattle.clear_values.specs.declared.rows.KeptCharge.{KeptCharge}
use Rattle.clear_values.specs.declared.rows.PieceRow.{PieceRow}
use Rattle.clear_values.specs.Keyed.{with_rows}
use Rattle.clear_book.specs.Accounts.{credit_key, row_credit}
use Rattle.clear_book.specs.Allocated.{AreAllocated, FirstCredit, KeepsKeys, kept_charges, weighed_in}
use Rattle.clear_book.specs.Lines.{is_credit_of}
use Rattle.clear_book.specs.Tables.{Tables, charge_in, table_credits}
use Rattle.clear_laws.proofs.AccountChangeLemmas.{AddsCredits, adds_credits, contributions_in, firm_rows, first_credit, no_new_credit, old_credits_stay}
use Rattle.clear_laws.proofs.FollowsLemmas.{credits_first}
use Rattle.clear_laws.proofs.WeighedFollowsLemmas.{is_among, weighs_first}
use Rattle.clear_store.proofs.OnceLemmas.{all_new}
use Rattle.clear_pieces.specs.Anew.{FromCredit, IsFreeBehind, IsFreeFromCredit}
use Rattle.clear_pieces.specs.Behind.{AreLast, IsWeighedBefore, rows_from}
use Rattle.clear_pieces.specs.Firm.{KeepsAccount}
use Rattle.clear_pieces.specs.Keeping.{AreCreditsPut, AreFirst, IsFirst, IsFirstOf, IsPut}
use Rattle.clear_pieces.specs.declared.behind.NewCredits.{NewCredits}
use Rattle.clear_pieces.proofs.OnlyNewLemmas.{old_before}
use Rattle.clear_pieces.proofs.RangeLemmas.{paid_in_range, same_in_range}
use Rattle.clear_pieces.proofs.StepLemmas.{FollowSoFar, account_so_far, credit_next, credit_next-free, credit_next-free_behind, none_put}

-- ---- which changes put credits

pub lines_put : (rows : List BankRow) (t v : Tables) → IsPut (AddBankLines rows) t v → AreCreditsPut (credits_of_lines rows) t v
lines_put rows t v put = record { before = put.before; weighed = put.weighed; after = put.after; charges = put.charges; credits = put.credits; pieces = put.pieces }

pub line_put : (row : BankRow) (t v : Tables) → IsPut (AssignLine row) t v → AreCreditsPut (credits_of_lines (row ∷ [])) t v
line_put row t v put = record { before = put.before; weighed = put.weighed; after = put.after; charges = put.charges; credits = put.credits; pieces = put.pieces }

pub release_put : (claim : ClaimRow) (serial : ℕ) (t v : Tables) → IsPut (ReleaseClaim claim serial) t v → AreCreditsPut (set_offs_of claim serial) t v
release_put claim serial t v put = record { before = put.before; weighed = put.weighed; after = put.after; charges = put.charges; credits = put.credits; pieces = put.pieces }

-- ---- credits that were put

module _ (news : List CreditRow) (t v : Tables) (put : AreCreditsPut news t v) where
  adds : AddsCredits t v news
  adds = adds_credits t v news put.charges put.credits put.after.credits_in_order

  -- the new credits are in their ranges, too
  pub new_in_range : AreInRange v → AllByRecursion IsCreditRow news
  new_in_range ranges = (all_new credit_key IsCreditRow t.credits news (subst (AllByRecursion IsCreditRow) put.credits ranges.credits)).1

  pub first_serial : AreInRange v → (e : ℕ) (k : Credit) → IsFirst (contributions_in e news) k → IsSerial k.serial
  first_serial ranges e k is =
      let own : AllByRecursion IsCreditRow (contributions_in e news) = all-filter IsCreditRow (is_credit_of e Contribution) news (new_in_range ranges) in
      subst (λ (l : Credit). IsSerial l.serial) is.is (All-contains IsCreditRow (contributions_in e news) is.row (All-from_recursion IsCreditRow (contributions_in e news) own) is.there).serial

  module _ (firsts : ℕ → Option NewCredits) (are : AreFirst firsts news) where
    -- at first all firms with a new credit are left
    pub firms_first : (firms : List ℕ) → ((e : ℕ) → is_among firms e ≡ false → firsts e ≡ None) → FollowSoFar t v firms v.pieces v.charges
    firms_first firms others =
        none_put t v firms (credits_first t v news firms put.pieces adds none) (weighs_first t v firms put.charges (λ e is. no_new_credit t v news adds e (none e is)))
      where
        none : (e : ℕ) → is_among firms e ≡ false → contributions_in e news ≡ []
        none e is = subst (IsFirstOf (contributions_in e news)) (others e is) (are e)

    module _ (e : ℕ) (new : NewCredits) (found : firsts e ≡ Some new) where
      abbrev k : Credit
      k = new.first

      own : IsFirstOf (contributions_in e news) (Some new)
      own = subst (IsFirstOf (contributions_in e news)) found (are e)

      pub is_first : IsFirst (contributions_in e news) k
      is_first = own.0

      new_later : AllByRecursion (λ other. comes_before (row_credit other) k ≡ false) (contributions_in e news)
      new_later = is_first.earliest

      first_new : FirstCredit (table_credits t e) (table_credits v e) k
      first_new =
          let row : CreditRow = is_first.row in
          subst (FirstCredit (table_credits t e) (table_credits v e)) is_first.is
          (first_credit t v news adds e row is_first.there (subst (λ (l : Credit). AllByRecursion (λ other. comes_before (row_credit other) l ≡ false) (contributions_in e news)) (sym is_first.is) is_first.earliest))

      -- the pieces of one of them are put
      module _ (firms : List ℕ) (once : is_among firms e ≡ false) (so_far : List PieceRow) (rows : List KeptCharge) (before : FollowSoFar t v (e ∷ firms) so_far rows) where
        -- where only new credits stand from the first on, all that stood come before it
        next_sooner : AreLast v e new → credits_before k (table_credits t e) ≡ table_credits t e
        next_sooner last =
            let all : length (rows_from v e k) ≡ length (rows_from (record v { credits = with_rows credit_key t.credits news }) e k) = ap (λ (cs : List CreditRow). length (rows_from (record v { credits = cs }) e k)) put.credits in
            old_before e k t.credits news new_later (omega (arith, last, own.1, all))

        pub next_put : (pieces : List PieceRow) (settled : List KeptCharge) → FromCredit (record v { pieces = so_far; charges = rows }) e new pieces settled → FollowSoFar t v firms pieces settled
        next_put =
            credit_next t v e firms once put.after.charges_in_order (put.before.account e) (put.after.account e) so_far rows before new (adds.charges e) (old_credits_stay t v news adds e) first_new next_sooner

        pub next_free : (g : PieceRow → PieceRow) → KeepsKeys g → AreAllocated g t → IsFreeFromCredit (record v { pieces = so_far; charges = rows }) e k
        next_free =
            credit_next-free t v e firms once put.after.charges_in_order (put.before.account e) (put.after.account e) so_far rows before new (adds.charges e) (old_credits_stay t v news adds e) first_new next_sooner

        pub next_free-behind : (g : PieceRow → PieceRow) → KeepsKeys g → AreAllocated g t → IsFreeBehind (record v { pieces = so_far; charges = rows }) e new
        next_free-behind =
            credit_next-free_behind t v e firms once put.after.charges_in_order (put.before.account e) (put.after.account e) so_far rows before new (adds.charges e) (old_credits_stay t v news adds e) first_new next_sooner

        -- then what was kept is what the credits before it leave open
        pub next_weighed : IsWeighedBefore (record v { pieces = so_far; charges = rows }) e new
        next_weighed last =
            let u : Tables = record v { pieces = so_far; charges = rows } in
            let same : firm_rows u e ≡ firm_rows t e = before.weighs.as_before e (ap (λ b. b || is_among firms e) (eq-eqb e e refl)) in
            let were : credits_before k (table_credits t e) ≡ table_credits t e = next_sooner last in
            ap (map weighed_in) same ∙ put.weighed e
            ∙ (λ i. weighed_charges (map charge_in (sym same i)) ((sym were ∙ first_new.0) i))

        -- its account is still that
        pub next_account : IsAccount (kept_charges (record v { pieces = so_far; charges = rows }) e) (table_credits v e)
        next_account = account_so_far t v e firms once put.after.charges_in_order (put.before.account e) (put.after.account e) so_far rows before

        -- and its rows are in their ranges
        pub next_keeps : AreInRange v → KeepsAccount (record v { pieces = so_far; charges = rows }) e
        next_keeps ranges = record {
          charges = same_in_range v.charges rows before.same ranges.charges (before.paid (paid_in_range v.charges ranges.charges));
          credits = ranges.credits;
          account = next_account;
        }
