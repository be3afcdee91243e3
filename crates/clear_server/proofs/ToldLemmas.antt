-- The lines that are told, those of one connection more after others.
use Rattle.std.proofs.Common.{◌≡◌, ◌∙◌, ◌+◌, ◌-◌, ◌≤◌, ◌<◌, ℕ, Bool, true, false, List, [], ◌∷◌, ◌++◌, length, Result, Ok, Err, refl, sym, ap, ap₂, subst, arith}
use Rattle.std.proofs.lemmas.Bool.{false≢true}
use Rattle.std.proofs.lemmas.List.{append_assoc, append-nil, length-append, map-append}
use Rattle.std.proofs.lemmas.List.Elements.{All-nil, All-push, filter-append}
use Rattle.std.proofs.lemmas.List.Folds.{concat-append}
use Rattle.std.specs.List.{concat, filter}
use Rattle.std.specs.Io.KnownBytes.{Appends}
use Rattle.std.specs.Prelude.{IfErr, OnErr, OnOk}
use Rattle.clear_wire.proofs.KnownLemmas.{Appends-nil, Appends-then}
use Rattle.clear_http.specs.declared.serve.Fault.{Fault}
use Rattle.clear_http.specs.declared.serve.Fault.TheVariants.{Read, Write}
use Rattle.clear_server.specs.Told.{AreFronts, AreTold, TellsRefused, Line, refused_line, Writes, WritesLines, Written, line_text, is_end, is_failing, end_lines, failing_lines}

-- a text that is written up to the first failure
pub front_written : {A : Type 0} (text : List ℕ) (old new : Written) (result : Result A Fault)
    → (part : List ℕ) × (rest : List ℕ) × (text ≡ part ++ rest) × Appends old.bytes new.bytes part × OnOk result (rest ≡ []) × OnErr result (0 < length rest)
    → IfErr result (λ fault. (fault ≡ Write) × (new.failed ≡ true)) → OnOk result (new.failed ≡ old.failed) → Writes text old new
front_written text old new (Ok done) (part, rest, is, now, none, some) bad well = (part, rest, is, now, λ fine. (none, sym well ∙ fine))
front_written text old new (Err fault) (part, rest, is, now, none, some) bad well = (part, rest, is, now, λ fine. absurd (false≢true (sym fine ∙ bad.1)))

fronts_append : (xs ys : List Line) (ps qs : List (List ℕ)) → AreFronts xs ps → AreFronts ys qs → AreFronts (xs ++ ys) (ps ++ qs)
fronts_append [] ys [] qs these those = those
fronts_append [] ys (p ∷ ps) qs these those = absurd these
fronts_append (x ∷ xs) ys [] qs these those = absurd these
fronts_append (x ∷ xs) ys (p ∷ ps) qs these those = (these.0, fronts_append xs ys ps qs these.1 those)

pub no_lines : (w : Written) → WritesLines [] w w
no_lines w = ([], tt, Appends-nil w.bytes, λ well. (refl, well))

pub one_line : (line : Line) (text : List ℕ) (old new : Written) → text ≡ line_text line → Writes text old new → WritesLines (line ∷ []) old new
one_line line text old new is (part, rest, split, now, well) = (
  part ∷ [],
  ((rest, sym is ∙ split), tt),
  subst (Appends old.bytes new.bytes) (sym (append-nil part)) now,
  λ fine.
      let (none, fine_before) = well fine in
      (ap (λ p. p ∷ []) (sym (append-nil part) ∙ ap (λ r. part ++ r) (sym none) ∙ sym split ∙ is), fine_before),
)

pub lines_then : (xs ys : List Line) (old mid new : Written) → WritesLines xs old mid → WritesLines ys mid new → WritesLines (xs ++ ys) old new
lines_then xs ys old mid new (ps, fronts, now, well) (qs, more, then, fine) = (
  ps ++ qs,
  fronts_append xs ys ps qs fronts more,
  subst (Appends old.bytes new.bytes) (sym (concat-append ps qs)) (Appends-then old.bytes mid.bytes new.bytes (concat ps) (concat qs) now then),
  λ fine_now.
      let (last, fine_mid) = fine fine_now in
      let (first, fine_old) = well fine_mid in
      (ap₂ (λ x y. x ++ y) first last ∙ sym (map-append line_text xs ys), fine_old),
)

-- the lines of one connection
abbrev one_lines : {A : Type 0} → Result A Fault → Bool → Bool → List Line
one_lines end before after = end_lines end ++ failing_lines before after

one_ends : {A : Type 0} (end : Result A Fault) (before after : Bool) → length (filter is_end (one_lines end before after)) ≤ 1
one_ends (Ok a) false false = omega arith
one_ends (Ok a) false true = omega arith
one_ends (Ok a) true false = omega arith
one_ends (Ok a) true true = omega arith
one_ends (Err fault) false false = omega arith
one_ends (Err fault) false true = omega arith
one_ends (Err fault) true false = omega arith
one_ends (Err fault) true true = omega arith

one_fails : {A : Type 0} (end : Result A Fault) (before after : Bool) → filter is_failing (one_lines end before after) ≡ failing_lines before after
one_fails (Ok a) false false = refl
one_fails (Ok a) false true = refl
one_fails (Ok a) true false = refl
one_fails (Ok a) true true = refl
one_fails (Err fault) false false = refl
one_fails (Err fault) false true = refl
one_fails (Err fault) true false = refl
one_fails (Err fault) true true = refl

-- an office that has failed stays so: it fails once
fails_once : (first then last : Bool) → (first ≡ true → then ≡ true) → (then ≡ true → last ≡ true)
    → failing_lines first then ++ failing_lines then last ≡ failing_lines first last
fails_once false false false before after = refl
fails_once false false true before after = refl
fails_once false true false before after = absurd (cc (after refl))
fails_once false true true before after = refl
fails_once true false last before after = absurd (cc (before refl))
fails_once true true false before after = absurd (cc (after refl))
fails_once true true true before after = refl

pub none_told : (failed : Bool) (w : Written) → AreTold 0 failed failed w w
none_told false w = ([], omega arith, refl, no_lines w)
none_told true w = ([], omega arith, refl, no_lines w)

-- one connection more, behind which its lines are told
pub then_told : {A : Type 0} (n : ℕ) (first then last : Bool) (old mid new : Written) (end : Result A Fault) → (first ≡ true → then ≡ true) → (then ≡ true → last ≡ true)
    → (was is : Bool) → was ≡ then → is ≡ last → AreTold n first then old mid → WritesLines (end_lines end ++ failing_lines was is) mid new → AreTold (n + 1) first last old new
then_told n first then last old mid new end before after was is was_then is_last (lines, ends, fails, told) now =
    let more = one_lines end then last in
    let line = subst (λ (s : Bool). WritesLines (one_lines end s last) mid new) was_then (subst (λ (s : Bool). WritesLines (one_lines end was s) mid new) is_last now) in (
      lines ++ more,
      omega (arith, ends, one_ends end then last, ap length (filter-append is_end lines more), length-append (filter is_end lines) (filter is_end more)),
      filter-append is_failing lines more ∙ ap (λ ls. ls ++ filter is_failing more) fails ∙ ap (λ ls. failing_lines first then ++ ls) (one_fails end then last) ∙ fails_once first then last before after,
      lines_then lines more old mid new told line,
    )

-- fewer connections than so many
pub fewer_told : (n count : ℕ) (before after : Bool) (old new : Written) → n < count → AreTold n before after old new → AreTold (count - 1) before after old new
fewer_told n count before after old new less (lines, few, fails, told) = (lines, omega (arith, less, few), fails, told)

-- ---- connections that the system refused

abbrev IsBroken : Line → Type 0
IsBroken line = line ≡ refused_line

pub none_broken : (w : Written) → TellsRefused 0 w w
none_broken w = ([], ([], [], refl, omega arith, All-nil IsBroken), no_lines w)

broken_line : (b : Bool) → refused_line ∷ failing_lines b b ≡ refused_line ∷ []
broken_line false = refl
broken_line true = refl

-- one connection more, which the system gave or refused
pub then_broken : {X E A H : Type 0} (accepted : Result X E) (failed : H → Bool) (h h' : H) (failures after : ℕ) (old mid new : Written) (end : Result A Fault) (was is : Bool)
    → was ≡ failed h → is ≡ failed h' → OnErr accepted (h' ≡ h) → OnErr accepted (end ≡ Err Read) → OnOk accepted (after ≡ 0) → after ≤ failures + 1
    → TellsRefused failures old mid → WritesLines (end_lines end ++ failing_lines was is) mid new → TellsRefused after old new
then_broken (Ok stream) failed h h' failures after old mid new end was is was_then is_last same bad anew few (lines, tail, told) now =
    let all = lines ++ (end_lines end ++ failing_lines was is) in
    (all, (all, [], sym (append-nil all), omega (arith, anew), All-nil IsBroken), lines_then lines (end_lines end ++ failing_lines was is) old mid new told now)
then_broken (Err error) failed h h' failures after old mid new end was is was_then is_last same bad anew few (lines, tail, told) now =
    let (others, broken, split, many, all) = tail in
    let still : is ≡ was = is_last ∙ ap failed same ∙ sym was_then in
    let one : end_lines end ++ failing_lines was is ≡ refused_line ∷ [] =
    (λ i. end_lines (bad i) ++ failing_lines was (still i)) ∙ broken_line was in (
      lines ++ refused_line ∷ [],
      (
        others,
        broken ++ refused_line ∷ [],
        ap (λ (ls : List Line). ls ++ refused_line ∷ []) split ∙ append_assoc others broken (refused_line ∷ []),
        omega (arith, few, many, length-append broken (refused_line ∷ [])),
        All-push IsBroken broken refused_line all refl,
      ),
      lines_then lines (refused_line ∷ []) old mid new told (subst (λ (ls : List Line). WritesLines ls mid new) one now),
    )

-- the lines that are known of a refusal too many
pub fewer_broken : (few many : ℕ) (old new : Written) → few ≤ many → TellsRefused many old new → TellsRefused few old new
fewer_broken few many old new less (lines, (others, broken, split, enough, all), told) =
    (lines, (others, broken, split, omega (arith, less, enough), all), told)
