-- A command that was accepted and comes again has the reply that stands, and leaves the book.
use Rattle.std.proofs.Common.{◌≡◌, ℕ, List, [], ◌∷◌, Option, Some, None, Bool, true, false, cond, inl, inr, refl, sym, ap, ◌∙◌, subst, length}
use Rattle.clear_values.specs.declared.callers.Caller.{Caller}
use Rattle.clear_book.specs.declared.calls.Command.{Command}
use Rattle.clear_book.specs.declared.calls.Call.{Call}
use Rattle.clear_book.specs.declared.calls.Call.TheVariants.{Do, Ask}
use Rattle.clear_book.specs.declared.outcomes.Outcome.{Outcome}
use Rattle.clear_values.specs.declared.replies.Reply.{Reply}
use Rattle.clear_book.specs.declared.rules.Rule.TheVariants.{NumberReused}
use Rattle.clear_book.specs.Calls.{may_do}
use Rattle.clear_book.specs.Book.{Book, Entry, entry, entry_under, request_number, ledger_day}
use Rattle.clear_book.specs.Judge.{Verdict, new_reply, kept_reply, an_answer, a_refusal, judge, judged_do, said_before, is_full, day_back, own_rule, reply_to}
use Rattle.clear_values.specs.Keyed.{is_key, find_row}
use Rattle.clear_book.specs.Machine.{after, step, Goes, Runs}
use Rattle.clear_laws.proofs.JudgeLemmas.{unrefused}
use Rattle.clear_laws.proofs.KeptLemmas.{same_command-is}
use Rattle.clear_values.proofs.KeyedLemmas.{is_key-refl, is_key-true}

module _ (caller : Caller) (number : ℕ) (command : Command) (reply : Reply) where
  -- the request stands in the book with this reply
  abbrev pub Stays : List Entry → Type 0
  Stays xs = (x : Entry) × (entry_under xs caller number ≡ Some x) × (x.command ≡ command) × (x.reply ≡ reply)

  -- under another number it still stands
  behind : (x : Entry) (xs : List Entry) → entry_under xs x.caller x.number ≡ None → Stays xs → Stays (x ∷ xs)
  behind x xs free (y, found, commands, replies) = (y, told (is_key (request_number x.caller x.number) (request_number caller number)) refl, commands, replies)
    where
      told : (b : Bool) → is_key (request_number x.caller x.number) (request_number caller number) ≡ b → cond b (Some x) (entry_under xs caller number) ≡ Some y
      told true is =
          let one = is_key-true (request_number x.caller x.number) (request_number caller number) is in
          let none : find_row (λ (z : Entry). request_number z.caller z.number) xs (request_number caller number) ≡ None = subst (λ (k : List ℕ). find_row (λ (z : Entry). request_number z.caller z.number) xs k ≡ None) one free in
          absurd (none_some (sym none ∙ found))
        where
          none_some : None ≡ Some y → ⊥
          none_some e = cc e
      told false is = found

  -- so it stands after any further call
  after_step : (b : Book) (call : Call) → Stays b.entries → Stays (step b call).entries
  after_step b (Ask by day query) stays = stays
  after_step b (Do by n day c) stays = told (judge b (Do by n day c)) refl
    where
      told : (said : Verdict) → judge b (Do by n day c) ≡ said → Stays (after b (Do by n day c) said).entries
      told (new_reply r) is = behind (entry by n day c r) b.entries (unrefused b by n day c r is).free stays
      told (kept_reply r) is = stays
      told (an_answer a) is = stays
      told (a_refusal r) is = stays

  after_goes : (failed end : Bool) (b : Book) (call : Call) (outcome : Outcome) (next : Book) → Goes failed end b call outcome next → Stays b.entries → Stays next.entries
  after_goes false false b call outcome next (inl taken) stays = subst (λ (k : Book). Stays k.entries) (sym taken.1) (after_step b call stays)
  after_goes false false b call outcome next (inr memory) stays = subst (λ (k : Book). Stays k.entries) (sym memory.2) stays
  after_goes false true b call outcome next fault stays = subst (λ (k : Book). Stays k.entries) (sym fault.2) stays
  after_goes true true b call outcome next failed stays = subst (λ (k : Book). Stays k.entries) (sym failed.1) stays
  after_goes true false b call outcome next goes stays = absurd goes

  after_runs : (failed end : Bool) (b : Book) (calls : List Call) (outcomes : List Outcome) (last : Book) → Runs failed end b calls outcomes last → Stays b.entries → Stays last.entries
  after_runs failed end b [] [] last runs stays = subst (λ (k : Book). Stays k.entries) (sym runs.1) stays
  after_runs failed end b [] (o ∷ os) last runs stays = absurd runs
  after_runs failed end b (c ∷ cs) [] last runs stays = absurd runs
  after_runs failed end b (c ∷ cs) (o ∷ os) last runs stays =
      after_runs runs.0 end runs.1 cs os last runs.3 (after_goes failed runs.0 b c o runs.1 runs.2 stays)

  -- a call that access allows and whose request stands has the reply that stands
  said : (standing : Option Entry) (x : Entry) → standing ≡ Some x → x.command ≡ command → x.reply ≡ reply → said_before standing command ≡ Some (kept_reply reply)
  said standing x found same_command_is same_reply_is =
      ap (λ (o : Option Entry). said_before o command) found
      ∙ ap (λ (t : Bool). Some (cond t (kept_reply x.reply) (a_refusal NumberReused))) (same_command-is x.command command same_command_is)
      ∙ ap (λ (r : Reply). Some (kept_reply r)) same_reply_is

  judged_again : (b : Book) (day : ℕ) → may_do caller command ≡ true → Stays b.entries → judge b (Do caller number day command) ≡ kept_reply reply
  judged_again b day may (x, found, commands, replies) =
      let before = said (entry_under b.entries caller number) x found commands replies in
      (λ i. judged_do (may i) (before i) (day_back (ledger_day b.entries) day) (is_full (length b.entries)) (own_rule b day command) (reply_to b day command))

  pub again : (b : Book) (day : ℕ) → judge b (Do caller number day command) ≡ new_reply reply
      → (failed end : Bool) (calls : List Call) (outcomes : List Outcome) (last : Book) → Runs failed end (step b (Do caller number day command)) calls outcomes last
      → (later : ℕ) → (judge last (Do caller number later command) ≡ kept_reply reply) × (step last (Do caller number later command) ≡ last)
  again b day new failed end calls outcomes last runs later =
      let first : Stays (step b (Do caller number day command)).entries = subst (λ (v : Verdict). Stays (after b (Do caller number day command) v).entries) (sym new) here in
      let kept = judged_again last later (unrefused b caller number day command reply new).allowed (after_runs failed end (step b (Do caller number day command)) calls outcomes last runs first) in
      (kept, ap (after last (Do caller number later command)) kept)
    where
      mine : Entry
      mine = entry caller number day command reply

      here : Stays (mine ∷ b.entries)
      here = (mine, ap (λ (t : Bool). cond t (Some mine) (entry_under b.entries caller number)) (is_key-refl (request_number caller number)), refl, refl)
