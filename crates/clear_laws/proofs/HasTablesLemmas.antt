-- Each lawful book has tables: those of the book behind its last entry, with the change of that entry.
use Rattle.std.proofs.Common.{◌≡◌, ℕ, ◌+◌, List, [], ◌∷◌, Option, Some, None, Bool, true, false, is_some, refl, subst, sym}
use Rattle.clear_values.specs.declared.callers.Caller.{Caller}
use Rattle.clear_values.specs.declared.lines.Purpose.{Purpose}
use Rattle.clear_values.specs.declared.replies.Reply.{Reply}
use Rattle.clear_values.specs.declared.rows.BankRow.{BankRow}
use Rattle.clear_values.specs.declared.rows.ClaimRow.{ClaimRow}
use Rattle.clear_values.specs.First.{first_tables}
use Rattle.clear_values.specs.Tables.{Tables}
use Rattle.clear_book.specs.declared.calls.Assignment.{Assignment}
use Rattle.clear_book.specs.declared.calls.Call.TheVariants.{Do}
use Rattle.clear_book.specs.declared.calls.Command.{Command}
use Rattle.clear_book.specs.declared.calls.Command.TheVariants.{AddRate, Assign, Claim, Correct, EndMembership, ImportBank, PayoutList, Register, Release, RemindRun, Report, Withdraw}
use Rattle.clear_book.specs.declared.calls.MembershipEnd.{MembershipEnd}
use Rattle.clear_book.specs.declared.calls.Withdrawal.{Withdrawal}
use Rattle.clear_book.specs.Book.{Book, Entry, Member, RateTable, last_reported, member_of}
use Rattle.clear_book.specs.Judge.{Verdict, judge, new_reply}
use Rattle.clear_book.specs.Lines.{credit_count, credits_made, line_of, serial_count}
use Rattle.clear_book.specs.Machine.{AreJudged, IsLawful, after, step}
use Rattle.clear_book.specs.Own.Assign.{own_assign}
use Rattle.clear_book.specs.Own.EndMembership.{own_end}
use Rattle.clear_book.specs.Own.Release.{debts_of, own_release, release_reply, settles}
use Rattle.clear_book.specs.Own.Withdraw.{own_withdraw}
use Rattle.clear_book.specs.Tables.{Stands}
use Rattle.clear_book.specs.Workers.{claim_of}
use Rattle.clear_laws.proofs.AssignTablesLemmas.{Stands-assigned}
use Rattle.clear_laws.proofs.ClaimTablesLemmas.{Stands-claimed, Stands-released, Stands-withdrawn}
use Rattle.clear_laws.proofs.EndTablesLemmas.{Stands-ended}
use Rattle.clear_laws.proofs.FirstLemmas.{first_stands}
use Rattle.clear_laws.proofs.ImportTablesLemmas.{Stands-imported}
use Rattle.clear_laws.proofs.JudgeLemmas.{unrefused}
use Rattle.clear_laws.proofs.ListTablesLemmas.{list_takes}
use Rattle.clear_laws.proofs.RateTablesLemmas.{Stands-rate_added}
use Rattle.clear_laws.proofs.RemindTablesLemmas.{run_takes}
use Rattle.clear_laws.proofs.ReportTablesLemmas.{Stands-corrected, Stands-reported}
use Rattle.clear_laws.proofs.TablesLemmas.{Stands-registered}

-- ---- what the own rules find

unassigned : (registered : Bool) (count : Purpose → ℕ) → own_assign registered None count ≡ None → ⊥
unassigned true count own = absurd (cc own)
unassigned false count own = absurd (cc own)

unwithdrawn : (registered : Bool) (e : ℕ) → own_withdraw registered e None ≡ None → ⊥
unwithdrawn true e own = absurd (cc own)
unwithdrawn false e own = absurd (cc own)

module _ (b : Book) (t : Tables) (lawful : IsLawful b) (stands : Stands b t) (caller : Caller) (number day : ℕ) where
  -- the book after a command has tables
  abbrev Answer : Command → Type 0
  Answer command = (u : Tables) × Stands (step b (Do caller number day command)) u

  after_end : (end : MembershipEnd) (reply : Reply) → judge b (Do caller number day (EndMembership end)) ≡ new_reply reply → (o : Option Member) → member_of b.entries end.employer ≡ o → own_end o (last_reported b.entries end.employer) end.last ≡ None → Answer (EndMembership end)
  after_end end reply judged None is own = absurd (cc own)
  after_end end reply judged (Some member) is own = (_, Stands-ended b t stands caller number day end reply judged member is member.name refl member.start refl)

  after_assignment : (a : Assignment) (reply : Reply) → judge b (Do caller number day (Assign a)) ≡ new_reply reply → (o : Option BankRow) → line_of b.entries a.reference ≡ o → own_assign (is_some (member_of b.entries a.employer)) o (credit_count (credits_made b.entries) a.employer) ≡ None → Answer (Assign a)
  after_assignment a reply judged None is own = absurd (unassigned (is_some (member_of b.entries a.employer)) (credit_count (credits_made b.entries) a.employer) own)
  after_assignment a reply judged (Some line) is own = (_, Stands-assigned b t stands caller number day a reply judged line is)

  after_withdrawal : (w : Withdrawal) (reply : Reply) → judge b (Do caller number day (Withdraw w)) ≡ new_reply reply → (o : Option ClaimRow) → claim_of b.entries w.claim ≡ o → own_withdraw (is_some (member_of b.entries w.employer)) w.employer o ≡ None → Answer (Withdraw w)
  after_withdrawal w reply judged None is own = absurd (unwithdrawn (is_some (member_of b.entries w.employer)) w.employer own)
  after_withdrawal w reply judged (Some row) is own = (_, Stands-withdrawn b t stands caller number day w reply judged row is)

  after_release : (claim : ℕ) (reply : Reply) → judge b (Do caller number day (Release claim)) ≡ new_reply reply → (o : Option ClaimRow) → claim_of b.entries claim ≡ o → own_release o (λ row. debts_of b day row.employer) ≡ None → release_reply o (λ row. debts_of b day row.employer) ≡ reply → Answer (Release claim)
  after_release claim reply judged None is own replied = absurd (cc own)
  after_release claim reply judged (Some row) is own replied = (_, Stands-released b t stands caller number day claim reply judged row is (settles (debts_of b day row.employer) row) (sym replied) (serial_count b.entries + 1) refl)

  pub next_tables : (command : Command) (reply : Reply) → judge b (Do caller number day command) ≡ new_reply reply → Answer command
  next_tables (AddRate row) reply judged = (_, Stands-rate_added b t stands caller number day lawful row reply judged)
  next_tables (Register r) reply judged = (_, Stands-registered b t stands caller number day r reply judged r.name refl)
  next_tables (EndMembership end) reply judged = after_end end reply judged (member_of b.entries end.employer) refl (unrefused b caller number day (EndMembership end) reply judged).unruled
  next_tables (Report r) reply judged = (_, Stands-reported b t lawful stands caller number day r reply judged r.lines refl _ refl)
  next_tables (Correct c) reply judged = (_, Stands-corrected b t lawful stands caller number day c reply judged (c.version + 1) refl c.report.lines refl _ refl)
  next_tables (ImportBank file) reply judged = (_, Stands-imported b t stands caller number day file reply judged _ refl)
  next_tables (Assign a) reply judged = after_assignment a reply judged (line_of b.entries a.reference) refl (unrefused b caller number day (Assign a) reply judged).unruled
  next_tables (Claim c) reply judged = (_, Stands-claimed b t stands caller number day c reply judged _ refl)
  next_tables (Withdraw w) reply judged = after_withdrawal w reply judged (claim_of b.entries w.claim) refl (unrefused b caller number day (Withdraw w) reply judged).unruled
  next_tables (Release claim) reply judged = let said = unrefused b caller number day (Release claim) reply judged in after_release claim reply judged (claim_of b.entries claim) refl said.unruled said.replied
  next_tables PayoutList reply judged = (_, list_takes b t stands caller number day lawful reply judged _ _ _ refl refl refl)
  next_tables RemindRun reply judged = (_, run_takes b t stands caller number day lawful reply judged _ _ refl refl)

pub has_tables : (rates : RateTable) (xs : List Entry) → AreJudged rates xs → (t : Tables) × Stands (record { opening = rates; entries = xs }) t
has_tables rates [] h = (first_tables rates.rows, first_stands rates.rows)
has_tables rates (x ∷ xs) h =
    let b : Book = record { opening = rates; entries = xs } in
    let before = has_tables rates xs h.0 in
    let there = next_tables b before.0 h.0 before.1 x.caller x.number x.day x.command x.reply h.2 in
    (there.0, subst (λ (v : Verdict). Stands (after b (Do x.caller x.number x.day x.command) v) there.0) h.2 there.1)
