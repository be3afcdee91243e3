-- The columns that tell how a claim stands.
use Rattle.std.proofs.Common.{◌≡◌, ◌<◌, ◌^◌, arith}
use Rattle.clear_values.specs.RowRanges.{IsClaimRow, IsClaimState}
use Rattle.clear_values.specs.declared.rows.ClaimRow.{ClaimRow}
use Rattle.clear_values.specs.declared.rows.ClaimState.{ClaimState}
use Rattle.clear_values.specs.declared.rows.ClaimState.TheVariants.{Open, Withdrawn, Released}
use Rattle.clear_schema.specs.Values.{columns_of}
use Rattle.clear_schema.specs.declared.columns.StateColumns.{StateColumns}

-- 63 bits hold the amounts that columns tell of a claim
pub parts_small : (x : ClaimRow) (columns : StateColumns) → columns ≡ columns_of x.state → IsClaimRow x → (columns.settlement.to_contributions < 2 ^ 63) × (columns.settlement.to_interest < 2 ^ 63) × (columns.settlement.paid < 2 ^ 63)
parts_small x columns is row = rw is (of x.state row.state)
  where
    of : (s : ClaimState) → IsClaimState x.cents s → ((columns_of s).settlement.to_contributions < 2 ^ 63) × ((columns_of s).settlement.to_interest < 2 ^ 63) × ((columns_of s).settlement.paid < 2 ^ 63)
    of Open is = (omega arith, omega arith, omega arith)
    of Withdrawn is = (omega arith, omega arith, omega arith)
    of (Released r) is =
        let whole = is.whole in
        let most = row.cents.1 in
        (omega (arith, whole, most), omega (arith, whole, most), omega (arith, whole, most))
