-- How much a book, a request and an account may hold.
use Rattle.std.specs.Prelude.{ℕ}
pub use Rattle.clear_money.specs.Limits.{most_base, most_charged, most_credited, most_credits}
pub use Rattle.clear_money.specs.Limits.{most_months, most_weight}

-- ---- judged by the rule on limits

-- the accepted requests of a book
abbrev pub most_entries : ℕ
most_entries = 50000000

-- the registered employers
abbrev pub most_employers : ℕ
most_employers = 10000

-- the lines of a report
abbrev pub most_lines : ℕ
most_lines = 500

-- the gross amount of a line, in cents
abbrev pub most_gross : ℕ
most_gross = 10000000

-- the versions of a month's report
abbrev pub most_versions : ℕ
most_versions = 10000

-- the data records of a bank file
abbrev pub most_records : ℕ
most_records = 10000

-- the lines in suspense
abbrev pub most_suspense : ℕ
most_suspense = 100000

-- ---- values of requests

-- the number of a request
abbrev pub most_request_no : ℕ
most_request_no = 999999999999999999

-- the bytes of a name
abbrev pub most_name_bytes : ℕ
most_name_bytes = 60

-- the bytes of a reference
abbrev pub most_reference_bytes : ℕ
most_reference_bytes = 35

-- the bytes of a note
abbrev pub most_note_bytes : ℕ
most_note_bytes = 140

-- ---- of an office's own rows

-- the level of a reminder
abbrev pub most_level : ℕ
most_level = 3

-- ---- what follows for sums

-- all interest of an employer, in cents: that of 2,400 months of the greatest base, 10 percent for
-- each of 2,412 begun months
abbrev pub most_interest : ℕ
most_interest = 2894400000000000

-- all that a worker has earned, in cents: one line of the greatest gross amount in each of 2,400
-- months at each of 10,000 employers, at 100 percent
abbrev pub most_entitled : ℕ
most_entitled = 240000000000000

-- all claims, in cents: 50,000,000 claims of 100,000,000,000 cents
abbrev pub most_claimed : ℕ
most_claimed = 5000000000000000000

-- the serials that an office gives: 50,000,000 requests of 10,000 records
abbrev pub most_serials : ℕ
most_serials = 500000000000
