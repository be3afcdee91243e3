-- What an `Input` shows.
use Rattle.std.specs.Prelude.{◌≡◌, ℕ, ◌+◌, ◌≤◌, Bool, true, List, [], take, drop, if◌then◌else◌}
use Rattle.std.specs.Prelude.{Option, Some, Result, Ok, Err, ⊤}
use Rattle.std.specs.Io.KnownBytes.{prepend_known}
use Rattle.clear_wire.specs.declared.input.Input.{Input}
use Rattle.clear_wire.specs.declared.input.Place.{Place}
use Rattle.clear_wire.specs.declared.input.Place.TheVariants as place
use Rattle.clear_wire.specs.declared.input.ReadFault.{ReadFault}
use Rattle.clear_wire.specs.declared.input.ReadFault.TheVariants.{Read, Reads, Memory}
use Rattle.clear_wire.specs.Counted.{Noted}
use Rattle.clear_wire.specs.Limits.{head_limit}
use Rattle.clear_wire.specs.Stream.{Front, nothing, unended, too_long, head}

-- the reader that an input reads
abbrev pub reader_of : {R : Type 0} → Input R → R
reader_of input = input.reader

-- the bytes that came and weren't used yet
abbrev pub unused_of : {R : Type 0} → Input R → List ℕ
unused_of input = input.unused.items

-- how many reads of the reader didn't fail
abbrev pub reads_made : {R : Type 0} → Input R → ℕ
reads_made input = input.reads

-- whether a call of the input's reader has failed
abbrev pub failed_of : {R : Type 0} → (R → Noted) → Input R → Bool
failed_of noted input = (noted (reader_of input)).failed

-- whether the stream has ended, so that nothing more is read through the input
abbrev pub has_ended : {R : Type 0} → Input R → Bool
has_ended input = input.ended

-- the bytes that weren't used yet and those that the reader has left, where these are known
abbrev pub unread : {R : Type 0} → (R → Option (List ℕ)) → Input R → Option (List ℕ)
unread remaining input = prepend_known (unused_of input) (remaining (reader_of input))

-- the bytes that the stream goes on with, where they are known: none once it has ended
abbrev pub stream : {R : Type 0} → (R → Option (List ℕ)) → Input R → Option (List ℕ)
stream remaining input = if has_ended input then Some [] else unread remaining input

-- what stands at the front of the bytes
abbrev pub placed : Place → List ℕ → Front
placed (place.Head len) bytes = head (take len bytes) (drop len bytes)
placed place.Nothing bytes = nothing
placed place.Unended bytes = unended
placed place.TooLong bytes = too_long

-- the whole head, where there is one, is among so many bytes
abbrev pub IsPlacedWithin : Place → ℕ → Type 0
IsPlacedWithin (place.Head len) count = len ≤ count
IsPlacedWithin place.Nothing count = ⊤
IsPlacedWithin place.Unended count = ⊤
IsPlacedWithin place.TooLong count = ⊤

-- how many bytes are needed to find this at the front: fewer are there before the last read
abbrev pub head_room : Place → ℕ
head_room (place.Head len) = len
head_room place.Nothing = 0
head_room place.Unended = head_limit
head_room place.TooLong = head_limit

-- a call of the reader failed just if the result is the fault `Read`
abbrev pub NotesFault : {R A : Type 0} → (R → Noted) → Input R → Input R → Result A ReadFault
    → Type 0
NotesFault noted old new (Ok a) = failed_of noted new ≡ failed_of noted old
NotesFault noted old new (Err Read) = failed_of noted new ≡ true
NotesFault noted old new (Err Reads) = failed_of noted new ≡ failed_of noted old
NotesFault noted old new (Err Memory) = failed_of noted new ≡ failed_of noted old

-- the reader noted as many further reads as the input counted
abbrev pub CountsReads : {R : Type 0} → (R → Noted) → Input R → Input R → Type 0
CountsReads noted old new =
    (noted (reader_of new)).reads + reads_made old ≡ (noted (reader_of old)).reads + reads_made new

-- the reader is the same borrow, where it is one
abbrev pub KeepsBorrow : {R : Type 0} → (R → Noted) → Input R → Input R → Type 0
KeepsBorrow noted old new = (noted (reader_of new)).borrow ≡ (noted (reader_of old)).borrow
