-- Each lawful book is one that a run leads to.
use Rattle.std.proofs.Common.{◌≡◌, List, [], ◌∷◌, ◌++◌, Bool, true, false, inl, refl, sym, ap, subst}
use Rattle.clear_book.specs.declared.calls.Call.{Call}
use Rattle.clear_book.specs.declared.outcomes.Outcome.{Outcome}
use Rattle.clear_book.specs.declared.outcomes.Outcome.TheVariants.{Replied}
use Rattle.clear_book.specs.Book.{Book, Entry, RateTable, call_of}
use Rattle.clear_book.specs.Judge.{Verdict, outcome_of}
use Rattle.clear_book.specs.Machine.{AreJudged, after, Takes, Runs}
use Rattle.clear_book.specs.Calls.{IsCall}
use Rattle.clear_book.specs.Reached.{IsReached}
use Rattle.clear_values.proofs.ListLemmas.{both}

-- a run, and one call more
runs_more : (failed : Bool) (a : Book) (calls : List Call) (outcomes : List Outcome) (b : Book) (call : Call) (outcome : Outcome) (next : Book) → Runs failed false a calls outcomes b → Takes b call outcome next
    → Runs failed false a (calls ++ call ∷ []) (outcomes ++ outcome ∷ []) next
runs_more false a [] [] b call outcome next runs takes =
    (false, next, subst (λ (k : Book). Takes k call outcome next) runs.1 takes, (refl, refl))
runs_more true a [] [] b call outcome next runs takes = absurd (not_both runs.0)
  where
    not_both : false ≡ true → ⊥
    not_both h = cc h
runs_more failed a [] (o ∷ os) b call outcome next runs takes = absurd runs
runs_more failed a (c ∷ cs) [] b call outcome next runs takes = absurd runs
runs_more failed a (c ∷ cs) (o ∷ os) b call outcome next runs takes =
    (runs.0, runs.1, runs.2, runs_more runs.0 runs.1 cs os b call outcome next runs.3 takes)

module _ (table : RateTable) where
  abbrev book : List Entry → Book
  book xs = record { opening = table; entries = xs }

  pub reached : (xs : List Entry) → AreJudged table xs → IsReached (book xs)
  reached [] h = ([], [], tt, (refl, refl))
  reached (x ∷ xs) h =
      let before = reached xs h.0 in
      let new = h.2 in (
        before.0 ++ call_of x ∷ [],
        before.1 ++ Replied x.reply ∷ [],
        both IsCall before.0 (call_of x ∷ []) before.2 (h.1, tt),
        runs_more false (book []) before.0 before.1 (book xs) (call_of x) (Replied x.reply) (book (x ∷ xs)) before.3
            (inl (sym (ap outcome_of new), sym (ap (λ (v : Verdict). after (book xs) (call_of x) v) new))),
      )
