-- What a new reply of the judge says of the checks.
use Rattle.std.proofs.Common.{◌≡◌, ℕ, length, Option, Some, None, Bool, true, false, cond, refl}
use Rattle.clear_values.specs.declared.callers.Caller.{Caller}
use Rattle.clear_book.specs.declared.calls.Command.{Command}
use Rattle.clear_book.specs.declared.calls.Call.TheVariants.{Do}
use Rattle.clear_values.specs.declared.replies.Reply.{Reply}
use Rattle.clear_book.specs.declared.rules.Rule.{Rule}
use Rattle.clear_book.specs.declared.rules.Rule.TheVariants.{NumberReused}
use Rattle.clear_book.specs.Calls.{may_do}
use Rattle.clear_book.specs.Book.{Book, Entry, entry_under, ledger_day}
use Rattle.clear_book.specs.Judge.{new_reply, kept_reply, a_refusal, is_full, judge, judged_do, said_before, day_back, own_rule, reply_to}
use Rattle.clear_book.specs.Calls.{same_command}

-- what was said before is no new reply
not_new : (same : Bool) (kept said : Reply) → cond same (kept_reply kept) (a_refusal NumberReused) ≡ new_reply said → ⊥
not_new true kept said h = cc h
not_new false kept said h = cc h

-- a new reply comes only where no check applies, and it is that of the command
pub record Unrefused (may : Bool) (standing : Option Entry) (back : Option Rule) (full : Bool) (own : Option Rule) (reply said : Reply) : Type 0 where
  pub allowed : may ≡ true
  pub free : standing ≡ None
  pub in_order : back ≡ None
  pub room : full ≡ false
  pub unruled : own ≡ None
  pub replied : reply ≡ said

new_means : (command : Command) (may : Bool) (standing : Option Entry) (back : Option Rule) (full : Bool) (own : Option Rule) (reply said : Reply) → judged_do may (said_before standing command) back full own reply ≡ new_reply said → Unrefused may standing back full own reply said
new_means command false standing back full own reply said h = absurd (cc)
new_means command true (Some x) back full own reply said h = absurd (not_new (same_command x.command command) x.reply said h)
new_means command true None (Some r) full own reply said h = absurd (cc)
new_means command true None None true own reply said h = absurd (cc)
new_means command true None None false (Some r) reply said h = absurd (cc)
new_means command true None None false None reply said h =
    let same : reply ≡ said = cc in
    record { allowed = refl; free = refl; in_order = refl; room = refl; unruled = refl; replied = same }

-- so it is with a command on a book
pub unrefused : (b : Book) (caller : Caller) (number day : ℕ) (command : Command) (reply : Reply) → judge b (Do caller number day command) ≡ new_reply reply
    → Unrefused (may_do caller command) (entry_under b.entries caller number) (day_back (ledger_day b.entries) day) (is_full (length b.entries)) (own_rule b day command) (reply_to b day command) reply
unrefused b caller number day command reply h =
    new_means command (may_do caller command) (entry_under b.entries caller number) (day_back (ledger_day b.entries) day) (is_full (length b.entries)) (own_rule b day command) (reply_to b day command) reply h
