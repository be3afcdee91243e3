-- The one order of the checks of a command, and that of a query: what is said where one applies, and
-- none before it.
use Rattle.std.proofs.Common.{◌≡◌, ◌≢◌, ℕ, ◌≤◌, ◌<◌, length, nat_le, nat_lt, Option, Some, None, IfSome, Bool, true, false, cond, refl, ap, subst, ◌∙◌, arith}
use Rattle.std.proofs.lemmas.Bool.Decides.{nat_tests}
use Rattle.clear_values.specs.declared.callers.Caller.{Caller}
use Rattle.clear_values.specs.Limits.{most_entries}
use Rattle.clear_book.specs.declared.calls.Call.TheVariants.{Ask, Do}
use Rattle.clear_book.specs.declared.calls.Command.{Command}
use Rattle.clear_book.specs.declared.calls.Query.{Query}
use Rattle.clear_book.specs.declared.rules.Limit.TheVariants.{Book as BookLimit}
use Rattle.clear_book.specs.declared.rules.Rule.{Rule}
use Rattle.clear_book.specs.declared.rules.Rule.TheVariants.{DayBack, NotYours, NumberReused, OverLimit}
use Rattle.clear_book.specs.Book.{Book, Entry, entry_under, ledger_day}
use Rattle.clear_book.specs.Calls.{may_do, may_query, same_command}
use Rattle.clear_book.specs.Checks.{when}
use Rattle.clear_book.specs.Judge.{Verdict, a_refusal, an_answer, answer_to, day_back, is_full, judge, judged_ask, judged_do, kept_reply, new_reply, own_query, own_rule, reply_to, said_before}
use Rattle.clear_laws.proofs.KeptLemmas.{same_command-refl, same_command-true}

-- different commands are not the same
differs : (c d : Command) → c ≢ d → same_command c d ≡ false
differs c d other = told (same_command c d) refl
  where
    told : (b : Bool) → same_command c d ≡ b → b ≡ false
    told true is = absurd (other (same_command-true c d is))
    told false is = refl

-- and equal ones are
same_of : (c d : Command) → c ≡ d → same_command c d ≡ true
same_of c d is = subst (λ e. same_command c e ≡ true) is (same_command-refl c)

pub before : (a b : ℕ) → a < b → nat_lt a b ≡ true
before a b lt = grind (arith, nat_tests)

pub not_before : (a b : ℕ) → b ≤ a → nat_lt a b ≡ false
not_before a b le = grind (arith, nat_tests)

reached : (a b : ℕ) → a ≤ b → nat_le a b ≡ true
reached a b le = grind (arith, nat_tests)

not_reached : (a b : ℕ) → b < a → nat_le a b ≡ false
not_reached a b lt = grind (arith, nat_tests)

-- a day that is not before the last one is no fault
in_order : (last : Option ℕ) (day : ℕ) → IfSome last (λ ledger. ledger ≤ day) → day_back last day ≡ None
in_order None day come = refl
in_order (Some ledger) day come = ap (λ (back : Bool). when back (DayBack ledger)) (not_before day ledger come)

-- and one before it is
is_back : (ledger : Option ℕ) (day last : ℕ) → ledger ≡ Some last → day < last → day_back ledger day ≡ Some (DayBack last)
is_back ledger day last there lt =
    ap (λ (o : Option ℕ). day_back o day) there ∙ ap (λ (back : Bool). when back (DayBack last)) (before day last lt)

-- ---- a command

module _ (b : Book) (caller : Caller) (number day : ℕ) (command : Command) where
  -- what is said by what the checks say
  abbrev said : Bool → Option Verdict → Option Rule → Bool → Option Rule → Verdict
  said may stood back full own = judged_do may stood back full own (reply_to b day command)

  pub access_first : may_do caller command ≡ false → judge b (Do caller number day command) ≡ a_refusal NotYours
  access_first barred =
      ap (λ (may : Bool). said may (said_before (entry_under b.entries caller number) command) (day_back (ledger_day b.entries) day) (is_full (length b.entries)) (own_rule b day command)) barred

  module _ (may : may_do caller command ≡ true) where
    pub number_next : (x : Entry) → entry_under b.entries caller number ≡ Some x → x.command ≢ command → judge b (Do caller number day command) ≡ a_refusal NumberReused
    number_next x found other =
        let stood : said_before (entry_under b.entries caller number) command ≡ Some (a_refusal NumberReused) =
        ap (λ (o : Option Entry). said_before o command) found
        ∙ ap (λ (same : Bool). Some (cond same (kept_reply x.reply) (a_refusal NumberReused))) (differs x.command command other) in
        (λ i. said (may i) (stood i) (day_back (ledger_day b.entries) day) (is_full (length b.entries)) (own_rule b day command))

    pub kept_next : (x : Entry) → entry_under b.entries caller number ≡ Some x → x.command ≡ command → judge b (Do caller number day command) ≡ kept_reply x.reply
    kept_next x found is =
        let stood : said_before (entry_under b.entries caller number) command ≡ Some (kept_reply x.reply) =
        ap (λ (o : Option Entry). said_before o command) found
        ∙ ap (λ (same : Bool). Some (cond same (kept_reply x.reply) (a_refusal NumberReused))) (same_of x.command command is) in
        (λ i. said (may i) (stood i) (day_back (ledger_day b.entries) day) (is_full (length b.entries)) (own_rule b day command))

    module _ (free : entry_under b.entries caller number ≡ None) where
      pub day_next : (last : ℕ) → ledger_day b.entries ≡ Some last → day < last → judge b (Do caller number day command) ≡ a_refusal (DayBack last)
      day_next last there lt =
          let back = is_back (ledger_day b.entries) day last there lt in
          (λ i. said (may i) (said_before (free i) command) (back i) (is_full (length b.entries)) (own_rule b day command))

      module _ (come : IfSome (ledger_day b.entries) (λ last. last ≤ day)) where
        pub full_next : most_entries ≤ length b.entries → judge b (Do caller number day command) ≡ a_refusal (OverLimit BookLimit)
        full_next full =
            let back = in_order (ledger_day b.entries) day come in
            let no_room = reached most_entries (length b.entries) full in
            (λ i. said (may i) (said_before (free i) command) (back i) (no_room i) (own_rule b day command))

        pub own_last : (rule : Rule) → length b.entries < most_entries → own_rule b day command ≡ Some rule → judge b (Do caller number day command) ≡ a_refusal rule
        own_last rule few own =
            let back = in_order (ledger_day b.entries) day come in
            let room = not_reached most_entries (length b.entries) few in
            (λ i. said (may i) (said_before (free i) command) (back i) (room i) (own i))

        pub none_last : length b.entries < most_entries → own_rule b day command ≡ None → judge b (Do caller number day command) ≡ new_reply (reply_to b day command)
        none_last few none =
            let back = in_order (ledger_day b.entries) day come in
            let room = not_reached most_entries (length b.entries) few in
            (λ i. said (may i) (said_before (free i) command) (back i) (room i) (none i))

-- ---- a query

module _ (b : Book) (caller : Caller) (day : ℕ) (query : Query) where
  abbrev asked : Bool → Option Rule → Option Rule → Verdict
  asked may back own = judged_ask may back own (answer_to b day query)

  pub access_first_asked : may_query caller query ≡ false → judge b (Ask caller day query) ≡ a_refusal NotYours
  access_first_asked barred = ap (λ (may : Bool). asked may (day_back (ledger_day b.entries) day) (own_query b query)) barred

  module _ (may : may_query caller query ≡ true) where
    pub day_next_asked : (last : ℕ) → ledger_day b.entries ≡ Some last → day < last → judge b (Ask caller day query) ≡ a_refusal (DayBack last)
    day_next_asked last there lt =
        let back = is_back (ledger_day b.entries) day last there lt in
        (λ i. asked (may i) (back i) (own_query b query))

    pub own_last_asked : IfSome (ledger_day b.entries) (λ last. last ≤ day) → (rule : Rule) → own_query b query ≡ Some rule → judge b (Ask caller day query) ≡ a_refusal rule
    own_last_asked come rule own =
        let back = in_order (ledger_day b.entries) day come in
        (λ i. asked (may i) (back i) (own i))

    pub none_last_asked : IfSome (ledger_day b.entries) (λ last. last ≤ day) → own_query b query ≡ None → judge b (Ask caller day query) ≡ an_answer (answer_to b day query)
    none_last_asked come none =
        let back = in_order (ledger_day b.entries) day come in
        (λ i. asked (may i) (back i) (none i))
