-- Where a reader stands behind the items that were answered.
use Rattle.std.proofs.Common.{◌≡◌, ◌∙◌, ℕ, ◌+◌, ◌<◌, Bool, true, false, List, [], ◌++◌, length, max, Option, Some, None, Result, Ok, Err, if◌then◌else◌, refl, sym, inl, inr, arith}
use Rattle.std.specs.Prelude.{IfOk}
use Rattle.std.specs.Io.KnownBytes.{prepend_known}
use Rattle.clear_wire.specs.Cut.{Cuts}
use Rattle.clear_wire.specs.Input.{has_ended, unused_of}
use Rattle.clear_wire.specs.Known.{Leads}
use Rattle.clear_wire.specs.Limits.{chunk_size, request_limit}
use Rattle.clear_wire.specs.Request.{held_limit, is_last}
use Rattle.clear_wire.specs.Stream.{NextItem, ended, Next}
use Rattle.clear_wire.specs.declared.input.Input.{Input}
use Rattle.clear_wire.specs.declared.input.ReadFault.{ReadFault}
use Rattle.clear_wire.specs.declared.request.Item.{Item}
use Rattle.clear_wire.specs.declared.request.Item.TheVariants.{Whole, Bad, End}
use Rattle.clear_http.specs.Ahead.{HoldsFew}
use Rattle.clear_http.specs.Serve.{StandsBehind}

module _ {R : Type 0} (old new : Input R) where
  -- behind what a stream goes on with
  pub few_held : (next : Result Item ReadFault) → has_ended new ≡ is_last next → (has_ended old ≡ true → (next ≡ Ok End) × (new ≡ old))
      → IfOk next (λ item. length (unused_of new) < max (length (unused_of old) + 1) (held_limit item)) → HoldsFew old → HoldsFew new
  few_held (Ok (Whole request)) ends over ahead few going = by (has_ended old) refl
    where
      by : (was : Bool) → has_ended old ≡ was → length (unused_of new) < chunk_size
      by true is = absurd (cc (over is).0)
      by false is = omega (arith, ahead, few is)
  few_held (Ok (Bad rule bare)) ends over ahead few going = absurd (cc (sym ends ∙ going))
  few_held (Ok End) ends over ahead few going = absurd (cc (sym ends ∙ going))
  few_held (Err fault) ends over ahead few going = absurd (cc (sym ends ∙ going))

-- no further request may come
pub stands_so : (count : ℕ) (items : List NextItem) (bytes left : Option (List ℕ)) (over : Bool) (unused : List ℕ) → count ≡ length items
    → Leads (λ b r. Cuts request_limit b items r) bytes (if over then Some [] else prepend_known unused left)
    → (over ≡ false → length unused < chunk_size) → StandsBehind count bytes left
stands_so count items None left over unused is cuts few = tt
stands_so count items (Some b) None over unused is cuts few = tt
stands_so count items (Some b) (Some l) true unused is cuts few = (items, [], cuts, is, inl ([], (refl, refl)))
stands_so count items (Some b) (Some l) false unused is cuts few = (items, unused ++ l, cuts, is, inr (unused, refl, few refl))

-- the stream has come to its end
pub stands_at_end : (count : ℕ) (items : List NextItem) (bytes mid bytes' left : Option (List ℕ)) → count ≡ length items
    → Leads (λ b r. Cuts request_limit b items r) bytes mid → Leads (λ b r. Next b ended r) mid bytes' → StandsBehind count bytes left
stands_at_end count items None mid bytes' left is cuts over = tt
stands_at_end count items (Some b) None bytes' left is cuts over = absurd cuts
stands_at_end count items (Some b) (Some m) None left is cuts over = absurd over
stands_at_end count items (Some b) (Some m) (Some r) None is cuts over = tt
stands_at_end count items (Some b) (Some m) (Some r) (Some l) is cuts over = (items, m, cuts, is, inl (r, over))
