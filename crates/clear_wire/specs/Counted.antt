-- What a `Counted` is seen as, and what a reader or a writer notes.
use Rattle.std.specs.Prelude.{◌≡◌, ℕ, ◌+◌, Bool, true, Result, Ok, Err, Option, None}
use Rattle.std.specs.Borrow.{GName}
use Rattle.clear_wire.specs.declared.counted.Counted.{Counted}

-- the reader or the writer that a `Counted` holds
abbrev pub inner : {T : Type 0} → Counted T → T
inner c = c.inner

-- whether a call of a `Counted` has failed
abbrev pub has_failed : {T : Type 0} → Counted T → Bool
has_failed c = c.failed

-- how many reads of a `Counted` haven't failed
abbrev pub reads_of : {T : Type 0} → Counted T → ℕ
reads_of c = c.reads

-- what is noted of a reader or a writer: whether a call has failed, how many reads haven't, and
-- which borrow it is if it is a `&mut`, so that a caller learns what it leaves
pub record Noted : Type 0 where
  pub failed : Bool
  pub reads : ℕ
  pub borrow : Option GName

-- what a `Counted` has noted
abbrev pub noted_of : {T : Type 0} → Counted T → Noted
noted_of c = record { failed = has_failed c; reads = reads_of c; borrow = None }

-- what is noted after one more call, which failed
abbrev pub with_failure : Noted → Noted
with_failure n = record n { failed = true }

-- what is noted after one more read, which didn't fail
abbrev pub with_read : Noted → Noted
with_read n = record n { reads = n.reads + 1 }

-- a call with this result changes what is noted just if it failed
abbrev pub Notes : {A E : Type 0} → Noted → Noted → Result A E → Type 0
Notes old new (Ok a) = new ≡ old
Notes old new (Err e) = new ≡ with_failure old

-- a read with this result is noted as a failure or counted
abbrev pub NotesRead : {A E : Type 0} → Noted → Noted → Result A E → Type 0
NotesRead old new (Ok a) = new ≡ with_read old
NotesRead old new (Err e) = new ≡ with_failure old
