-- Members, after a command more.
use Rattle.std.proofs.Common.{◌≡◌, ℕ, Option, Some, None, is_some, option_and_then, Bool, true, false, cond, ◌==◌, refl, ◌∙◌}
use Rattle.std.specs.Option.{option_map}
use Rattle.clear_book.specs.declared.calls.Command.{Command}
use Rattle.clear_book.specs.declared.calls.Command.TheVariants.{EndMembership}
use Rattle.clear_book.specs.Book.{Member, ended, newer, registration_in, member_by, member_after}

-- who is registered after a command is so by it, or was before
pub registered_after : (command : Command) (e : ℕ) (old : Option Member) → is_some (member_after old command e) ≡ is_some (newer (option_and_then (member_by e) (registration_in command)) old)
registered_after (EndMembership end) e old = told (end.employer == e) old
  where
    told : (b : Bool) (o : Option Member) → is_some (cond b (option_map (ended end.last) o) o) ≡ is_some o
    told true None = refl
    told true (Some member) = refl
    told false o = refl
registered_after command e old = refl

-- and stays so
pub still_registered : (command : Command) (e : ℕ) (old : Option Member) → is_some old ≡ true → is_some (member_after old command e) ≡ true
still_registered command e old h = registered_after command e old ∙ told (option_and_then (member_by e) (registration_in command))
  where
    told : (o : Option Member) → is_some (newer o old) ≡ true
    told None = h
    told (Some member) = refl
