-- The tables of a book, after a row of rates more.
use Rattle.std.proofs.Common.{◌≡◌, ℕ, List, ◌∷◌, [], ◌++◌, refl, sym, ap, subst}
use Rattle.clear_money.specs.Rates.{Rate}
use Rattle.clear_values.specs.declared.callers.Caller.{Caller}
use Rattle.clear_values.specs.declared.replies.Reply.{Reply}
use Rattle.clear_values.specs.declared.rows.Change.TheVariants as change
use Rattle.clear_book.specs.declared.calls.Call.TheVariants.{Do}
use Rattle.clear_book.specs.declared.calls.Command.TheVariants.{AddRate}
use Rattle.clear_book.specs.Book.{Book, entry}
use Rattle.clear_book.specs.Judge.{Verdict, new_reply, judge}
use Rattle.clear_book.specs.Machine.{IsLawful, step, after}
use Rattle.clear_book.specs.Tables.{Tables, Stands, changed, noted}
use Rattle.clear_laws.proofs.JudgeLemmas.{unrefused}
use Rattle.clear_laws.proofs.RatesStayLemmas.{rates_left_there}
use Rattle.clear_laws.proofs.TablesLemmas.{charges_kept, employer_rows_left, employers_left, rest_left}

module _ (b : Book) (t : Tables) (stands : Stands b t) (caller : Caller) (number day : ℕ) where
  pub Stands-rate_added : IsLawful b → (row : Rate) (reply : Reply) → judge b (Do caller number day (AddRate row)) ≡ new_reply reply
      → Stands (step b (Do caller number day (AddRate row))) (noted (entry caller number day (AddRate row) reply) (changed (change.AddRate row) t))
  Stands-rate_added lawful row reply judged =
      let x = entry caller number day (AddRate row) reply in
      let there = rest_left b t stands x
      (record { no_report = refl; no_move = λ rows. refl; no_rows = refl; no_release = refl; no_claims = record { kept = λ claim. refl; none = λ last. refl }; no_list = refl })
      (unrefused b caller number day (AddRate row) reply judged).free refl (t.rates ++ row ∷ []) t.employers (ap (λ (rates : List Rate). rates ++ row ∷ []) stands.rates)
      (charges_kept b t stands x refl (rates_left_there b lawful caller number day (AddRate row) reply judged))
      (employers_left b t stands x (λ e old. refl)) (employer_rows_left b t stands x refl) stands.employers_in_order in
      subst (λ (p : Verdict). Stands (after b (Do caller number day (AddRate row)) p) (noted x (changed (change.AddRate row) t))) (sym judged) there
