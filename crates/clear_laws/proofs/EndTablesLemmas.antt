-- The tables of a book, after an end of a membership more.
use Rattle.std.proofs.Common.{◌≡◌, ℕ, List, ◌∷◌, [], length, Option, Some, None, Bool, true, false, cond, ◌&&◌, ◌==◌, refl, sym, ap, ◌∙◌, subst}
use Rattle.std.specs.Option.{option_map}
use Rattle.clear_values.specs.declared.callers.Caller.{Caller}
use Rattle.clear_values.specs.declared.replies.Reply.{Reply}
use Rattle.clear_values.specs.declared.rows.Change.TheVariants as change
use Rattle.clear_values.specs.declared.rows.EmployerRow.{EmployerRow}
use Rattle.clear_values.specs.Keyed.{find_row, put_row}
use Rattle.clear_book.specs.declared.calls.Call.TheVariants.{Do}
use Rattle.clear_book.specs.declared.calls.Command.TheVariants.{EndMembership}
use Rattle.clear_book.specs.declared.calls.MembershipEnd.{MembershipEnd}
use Rattle.clear_book.specs.Book.{Book, Entry, Member, ended, entry, entry_under, member_of}
use Rattle.clear_book.specs.Judge.{Verdict, new_reply, judge}
use Rattle.clear_book.specs.Machine.{step, after, appended}
use Rattle.clear_book.specs.Tables.{Tables, Stands, employer_key, changed, member_at, member_in, noted}
use Rattle.clear_values.proofs.KeyedChangesLemmas.{find_row-put_row, length-put_row-there, AreInOrder-put_row}
use Rattle.clear_laws.proofs.DistinctLemmas.{same_worker}
use Rattle.clear_laws.proofs.JudgeLemmas.{unrefused}
use Rattle.clear_laws.proofs.TablesLemmas.{charges_left, employer_rows_left, rates_left, rest_left}

module _ (b : Book) (t : Tables) (stands : Stands b t) (caller : Caller) (number day : ℕ) (end : MembershipEnd) (reply : Reply) where
  abbrev end_entry : Entry
  end_entry = entry caller number day (EndMembership end) reply

  module _ (member : Member) (found : member_of b.entries end.employer ≡ Some member) where
    abbrev ended_row : EmployerRow
    ended_row = record { employer = end.employer; name = member.name; start = member.start; last = Some end.last }

    abbrev employers : List EmployerRow
    employers = put_row employer_key t.employers ended_row

    -- the employer has its last month, and the others are as they were
    members : (e : ℕ) → member_at employers e ≡ member_of (end_entry ∷ b.entries) e
    members e =
        ap (option_map member_in) (find_row-put_row employer_key t.employers ended_row (e ∷ []))
        ∙ told (end.employer == e) refl (find_row employer_key t.employers (e ∷ [])) (stands.employers e)
      where
        told : (c : Bool) → end.employer == e ≡ c → (row : Option EmployerRow) → option_map member_in row ≡ member_of b.entries e
            → option_map member_in (cond (c && true) (Some ended_row) row) ≡ cond c (option_map (ended end.last) (member_of b.entries e)) (member_of b.entries e)
        told true is row old =
            ap (option_map (ended end.last)) (sym found ∙ ap (member_of b.entries) (same_worker end.employer e is))
        told false is row old = old

    -- they are as many
    many : length employers ≡ length t.employers
    many = told (find_row employer_key t.employers (end.employer ∷ [])) refl (stands.employers end.employer ∙ found)
      where
        told : (row : Option EmployerRow) → find_row employer_key t.employers (end.employer ∷ []) ≡ row → option_map member_in row ≡ Some member → length employers ≡ length t.employers
        told None is old = absurd (cc)
        told (Some row) is old = length-put_row-there employer_key t.employers ended_row row stands.employers_in_order is

    ended_tables : entry_under b.entries caller number ≡ None → Stands (appended b end_entry) (noted end_entry (changed (change.EndMembership ended_row) t))
    ended_tables free =
        rest_left b t stands end_entry
        (record { no_report = refl; no_move = λ rows. refl; no_rows = refl; no_release = refl; no_claims = record { kept = λ claim. refl; none = λ last. refl }; no_list = refl })
        free refl t.rates employers (rates_left b t stands end_entry refl) (charges_left b t stands end_entry refl refl) members (many ∙ employer_rows_left b t stands end_entry refl)
        (AreInOrder-put_row employer_key t.employers ended_row stands.employers_in_order)

  pub Stands-ended : judge b (Do caller number day (EndMembership end)) ≡ new_reply reply → (member : Member) → member_of b.entries end.employer ≡ Some member
      → (name : List ℕ) → name ≡ member.name → (start : ℕ) → start ≡ member.start
      → Stands (step b (Do caller number day (EndMembership end))) (noted end_entry (changed (change.EndMembership (record { employer = end.employer; name = name; start = start; last = Some end.last })) t))
  Stands-ended judged member found name named start started =
      subst
      (λ (p : Verdict × List ℕ × ℕ).
      Stands (after b (Do caller number day (EndMembership end)) p.0) (noted end_entry (changed (change.EndMembership (record { employer = end.employer; name = p.1; start = p.2; last = Some end.last })) t)))
      (λ i. (sym judged i, sym named i, sym started i))
      (ended_tables member found (unrefused b caller number day (EndMembership end) reply judged).free)
