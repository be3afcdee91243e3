-- What stands in a store, by its tables.
use Rattle.std.specs.Prelude.{◌≤◌, [], ◌∷◌, length, filter, count_by, sum_by}
use Rattle.clear_values.specs.declared.callers.Caller.TheVariants.{Clerk}
use Rattle.clear_values.specs.Credits.{is_in_suspense}
use Rattle.clear_values.specs.Keyed.{find_row}
use Rattle.clear_values.specs.Limits.{most_suspense}
use Rattle.clear_values.specs.Tables.{Tables, list_key, run_key}
use Rattle.clear_book.specs.Lines.{suspense_count}
use Rattle.clear_book.specs.Workers.{is_open, is_payable}
use Rattle.clear_ledger.specs.Kept.{greatest_number}
use Rattle.clear_texts.specs.declared.look.Look.{Look}

-- the day and the requests, the firms and their reports, the bank lines and what of them is in
-- suspense, the claims that are open or to be paid out, and the last list and the last run
abbrev pub look_of : Tables → Look
look_of t =
    record {
      day = t.day;
      requests = t.entries;
      greatest = greatest_number Clerk t.requests;
      firms = length t.employers;
      reports = length t.reports;
      lines = length t.bank;
      suspended = suspense_count t.bank;
      suspended_cents = sum_by (λ row. row.line.cents) (filter is_in_suspense t.bank);
      open_claims = count_by (λ claim. is_open claim.state) t.claims;
      payable_claims = count_by (λ claim. is_payable claim.state) t.claims;
      list = find_row list_key t.lists (t.last_list ∷ []);
      run = find_row run_key t.runs (t.last_run ∷ []);
    }

-- as few lines are in suspense as may be
abbrev pub AreFewSuspended : Tables → Type 0
AreFewSuspended t = suspense_count t.bank ≤ most_suspense
