-- The rows of a change lie beside the counts.
use Rattle.std.proofs.Common.{◌≡◌, ℕ, ◌+◌, length, Result, Ok, sym, ap, subst, arith}
use Rattle.std.specs.Prelude.{◌↔◌}
use Rattle.sqlite.specs.Held.{Held}
use Rattle.sqlite.specs.Store.{Ghosts}
use Rattle.clear_values.specs.declared.rows.Change.{Change}
use Rattle.clear_values.specs.declared.rows.Change.TheVariants.{AddRate, AddEmployer, EndMembership, AddReport, ReplaceReport, AddBankLines, AssignLine, AddClaim, WithdrawClaim, ReleaseClaim, AddList, AddRun}
use Rattle.clear_values.specs.Tables.{Tables, changed, dated}
use Rattle.clear_schema.specs.Values.{counts_of, with_counts}
use Rattle.clear_schema.specs.declared.counts.Counts.{Counts}
use Rattle.clear_schema.specs.declared.fault.Fault.{Fault}
use Rattle.clear_firms.specs.Counts.{AreCountable}
use Rattle.clear_store.specs.Changes.{HasRoom, IsFree, IsInRange, IsPuttable, IsThere, Puts, counts_after, taken_by}
use Rattle.clear_store.specs.declared.changes.Taken.{Taken}
use Rattle.clear_store.proofs.JoinLemmas.{Always, put_then, second_alone, turned}

there_with : (change : Change) (c : Counts) (t : Tables) → IsThere change t → IsThere change (with_counts c t)
there_with (AddRate row) c t there = there
there_with (AddEmployer row) c t there = there
there_with (EndMembership row) c t there = there
there_with (AddReport row lines charge) c t there = there
there_with (ReplaceReport row lines charge) c t there = there
there_with (AddBankLines rows) c t there = there
there_with (AssignLine row) c t there = there
there_with (AddClaim row) c t there = there
there_with (WithdrawClaim row) c t there = there
there_with (ReleaseClaim row serial) c t there = there
there_with (AddList row claims) c t there = there
there_with (AddRun row reminders) c t there = there

-- what is free is so whatever the counts are
free_with : (change : Change) (c : Counts) (t : Tables) → IsFree change t ↔ (Unit {0} × IsFree change (with_counts c t))
free_with (AddRate row) c t = second_alone
free_with (AddEmployer row) c t = second_alone
free_with (EndMembership row) c t = second_alone
free_with (AddReport row lines charge) c t = second_alone
free_with (ReplaceReport row lines charge) c t = second_alone
free_with (AddBankLines rows) c t = second_alone
free_with (AssignLine row) c t = second_alone
free_with (AddClaim row) c t = second_alone
free_with (WithdrawClaim row) c t = second_alone
free_with (ReleaseClaim row serial) c t = second_alone
free_with (AddList row claims) c t = second_alone
free_with (AddRun row reminders) c t = second_alone

-- the tables after the counts and then the rows of a change are written
abbrev rows_put : Change → Tables → Tables
rows_put change t = with_counts (counts_of t) (changed change t)

no_more : (n : ℕ) → n + 0 ≡ n
no_more n = omega arith

-- the tables after a change, but with these numbers as the last serial and the last ones of a claim, a list and a run
abbrev numbered : ℕ → Change → Tables → ℕ → ℕ → ℕ → ℕ → Tables
numbered day change t serial claim list run = record (dated day (changed change t)) { serial = serial; last_claim = claim; last_list = list; last_run = run }

-- nothing is taken
none_taken : (day : ℕ) (change : Change) (t : Tables) → numbered day change t (t.serial + 0) (t.last_claim + 0) (t.last_list + 0) (t.last_run + 0) ≡ numbered day change t t.serial t.last_claim t.last_list t.last_run
none_taken day change t = λ i. numbered day change t (no_more t.serial i) (no_more t.last_claim i) (no_more t.last_list i) (no_more t.last_run i)

-- the counts after a change
abbrev pub counts_with : ℕ → Change → Counts → Counts
counts_with day change c = counts_after day (taken_by change) c

-- the counts and then the rows of a change are the change: so each count of the tables after it is as many more as it takes
pub counted : (day : ℕ) (change : Change) (t : Tables) → rows_put change (with_counts (counts_with day change (counts_of t)) t) ≡ dated day (changed change t)
counted day (AddRate row) t = none_taken day (AddRate row) t
counted day (AddEmployer row) t = none_taken day (AddEmployer row) t
counted day (EndMembership row) t = none_taken day (EndMembership row) t
counted day (AddReport row lines charge) t = none_taken day (AddReport row lines charge) t
counted day (ReplaceReport row lines charge) t = none_taken day (ReplaceReport row lines charge) t
counted day (AddBankLines rows) t = λ i. numbered day (AddBankLines rows) t (t.serial + length rows) (no_more t.last_claim i) (no_more t.last_list i) (no_more t.last_run i)
counted day (AssignLine row) t = none_taken day (AssignLine row) t
counted day (AddClaim row) t = λ i. numbered day (AddClaim row) t (no_more t.serial i) (t.last_claim + 1) (no_more t.last_list i) (no_more t.last_run i)
counted day (WithdrawClaim row) t = none_taken day (WithdrawClaim row) t
counted day (ReleaseClaim row serial) t = λ i. numbered day (ReleaseClaim row serial) t (t.serial + 1) (no_more t.last_claim i) (no_more t.last_list i) (no_more t.last_run i)
counted day (AddList row claims) t = λ i. numbered day (AddList row claims) t (no_more t.serial i) (no_more t.last_claim i) (t.last_list + 1) (no_more t.last_run i)
counted day (AddRun row reminders) t = λ i. numbered day (AddRun row reminders) t (no_more t.serial i) (no_more t.last_claim i) (no_more t.last_list i) (t.last_run + 1)

dated_is : (day : ℕ) (change : Change) (c : Counts) (t : Tables) → c ≡ counts_of t → rows_put change (with_counts (counts_with day change c) t) ≡ dated day (changed change t)
dated_is day change c t same =
    subst (λ (d : Counts). rows_put change (with_counts (counts_with day change d) t) ≡ dated day (changed change t)) (sym same) (counted day change t)

-- the counts, and then the rows of a change
pub put_changed : {S A B : Type 0} {g : Ghosts S} {old mid new : Held S} {x : A} {r : Result B Fault} (counts : Counts) (day : ℕ) (change : Change)
    → Puts g old mid (Ok x) Always Always (HasRoom counts (taken_by change)) (with_counts (counts_with day change counts))
    → Puts g mid new r (IsThere change) (IsFree change) (IsInRange change) (rows_put change)
    → Puts g old new r (λ t. (counts ≡ counts_of t) × IsThere change t) (IsFree change) (IsPuttable counts change) (λ t. dated day (changed change t))
put_changed counts day change noted rows =
    let after = counts_with day change counts in
    put_then noted rows (λ t there. there_with change after t there.1) (λ t there. dated_is day change counts t there.0) (λ t. free_with change after t) turned

-- counts can be written just where there was room for them
pub has_room : (next before : Counts) (day : ℕ) (taken : Taken) → next ≡ counts_after day taken before → HasRoom before taken ↔ AreCountable next
has_room next before day taken is =
    let entries_are : next.entries ≡ before.entries + 1 = ap (λ (c : Counts). c.entries) is in
    let serial_is : next.serial ≡ before.serial + taken.serials = ap (λ (c : Counts). c.serial) is in
    let claims_are : next.claims ≡ before.claims + taken.claims = ap (λ (c : Counts). c.claims) is in
    let lists_are : next.lists ≡ before.lists + taken.lists = ap (λ (c : Counts). c.lists) is in
    let runs_are : next.runs ≡ before.runs + taken.runs = ap (λ (c : Counts). c.runs) is in (
      λ room. (omega (arith, entries_are, room.0), omega (arith, serial_is, room.1), omega (arith, claims_are, room.2), omega (arith, lists_are, room.3), omega (arith, runs_are, room.4)),
      λ taken. grind (arith, taken, entries_are, serial_is, claims_are, lists_are, runs_are),
    )
