-- The parts in which what stands in a store is read. This serves the proof that they come to it.
use Rattle.std.specs.Prelude.{ℕ, List, [], ◌∷◌, length, filter, count_by, sum_by, if◌then◌else◌}
use Rattle.clear_values.specs.declared.callers.Caller.TheVariants.{Clerk}
use Rattle.clear_values.specs.Credits.{is_in_suspense}
use Rattle.clear_values.specs.Keyed.{find_row}
use Rattle.clear_values.specs.Tables.{Tables, list_key, run_key}
use Rattle.clear_values.specs.declared.rows.BankRow.{BankRow}
use Rattle.clear_values.specs.declared.rows.ClaimRow.{ClaimRow}
use Rattle.clear_book.specs.Lines.{suspense_count}
use Rattle.clear_book.specs.Workers.{is_open, is_payable}
use Rattle.clear_ledger.specs.Kept.{greatest_number}
use Rattle.clear_schema.specs.Values.{counts_of}
use Rattle.clear_texts.specs.declared.look.Look.{Look}
use Rattle.clear_reading.specs.declared.row_counts.ClaimCount.{ClaimCount}
use Rattle.clear_reading.specs.declared.row_counts.LineCount.{LineCount}
use Rattle.clear_reading.specs.declared.row_counts.RowCounts.{RowCounts}
use Rattle.clear_reading.specs.declared.look.Latest.{Latest}

-- the counts that stand, and what was given or made last
abbrev pub latest_of : Tables → Latest
latest_of t =
    record {
      counts = counts_of t;
      greatest = greatest_number Clerk t.requests;
      list = find_row list_key t.lists (t.last_list ∷ []);
      run = find_row run_key t.runs (t.last_run ∷ []);
    }

-- the cents of a bank line in suspense, and nothing of another one
abbrev pub suspended_cents : BankRow → ℕ
suspended_cents row = if is_in_suspense row then row.line.cents else 0

-- what is counted of bank lines
abbrev pub lines_counted : List BankRow → LineCount
lines_counted rows =
    record {
      lines = length rows;
      suspended = suspense_count rows;
      cents = sum_by (λ row. row.line.cents) (filter is_in_suspense rows);
    }

-- what is counted of claims
abbrev pub claims_counted : List ClaimRow → ClaimCount
claims_counted rows =
    record {
      open_claims = count_by (λ claim. is_open claim.state) rows;
      payable_claims = count_by (λ claim. is_payable claim.state) rows;
    }

-- what is counted of the rows of tables
abbrev pub rows_counted : Tables → RowCounts
rows_counted t =
    record {
      firms = length t.employers;
      reports = length t.reports;
      lines = lines_counted t.bank;
      claims = claims_counted t.claims;
    }

-- what these say together
abbrev pub look_at : Latest → RowCounts → Look
look_at latest rows =
    record {
      day = latest.counts.day;
      requests = latest.counts.entries;
      greatest = latest.greatest;
      firms = rows.firms;
      reports = rows.reports;
      lines = rows.lines.lines;
      suspended = rows.lines.suspended;
      suspended_cents = rows.lines.cents;
      open_claims = rows.claims.open_claims;
      payable_claims = rows.claims.payable_claims;
      list = latest.list;
      run = latest.run;
    }
