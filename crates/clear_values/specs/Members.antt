-- Members: what is known of a registered employer, and in which months it is one.
use Rattle.std.specs.Prelude.{ℕ, List, Option, None, Some, Bool, true, false, ◌&&◌, nat_le}
use Rattle.std.specs.Option.{option_map_or}

-- a registered employer: its name, its first member month, and its last one once an end is set
pub record Member : Type 0 where
  pub name : List ℕ
  pub start : ℕ
  pub last : Option ℕ

-- the member is one in the month: it lies from the first member month on, up to the last
abbrev pub is_member_in : Member → ℕ → Bool
is_member_in member m =
    nat_le member.start m && option_map_or (λ last. nat_le m last) member.last true

-- an employer is a member in the month, if it is registered
abbrev pub is_member_month : Option Member → ℕ → Bool
is_member_month None m = false
is_member_month (Some member) m = is_member_in member m
