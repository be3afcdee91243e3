use Rattle.std.proofs.Common.{◌≡◌, ℕ, ◌+◌, ◌<◌, ◌≤◌, List, ◌++◌, length, take, drop, Some, None, Ok, sym, ap, ◌∙◌, subst, arith}
use Rattle.std.specs.Io.KnownBytes.{IsAtEnd}
use Rattle.clear_wire.specs.Lines.{skip_empty_lines}
use Rattle.clear_wire.specs.Stream.{front, front_of, head, too_long, unended}
use Rattle.clear_wire.proofs.LinesLemmas.{skip_kept}
use Rattle.clear_wire.proofs.KnownLemmas.{Leads-kept, Leads-weaker}
use Rattle.clear_wire.proofs.StreamLemmas.{front_head, front_too_long, front_unended, same_end, head_len-some, begun-append, searched-append, searched-within, ahead-read, ahead-found}
use Rattle.clear_wire.proofs.input.Input.find_end.Goals as goal

abbrev SkipsTo : List ℕ → List ℕ → Type 0
SkipsTo old new = skip_empty_lines new ≡ skip_empty_lines old

-- one count of reads grows as the other, twice
counts-then : (a b c p q r : ℕ) → c + q ≡ b + r → b + p ≡ a + q → c + p ≡ a + r
counts-then a b c p q r e f = omega (arith, e, f)

pub returns-in-Some-clause-front : goal.returns-in-Some-clause-front
returns-in-Some-clause-front g c =
    let u = c.reads.self.unused.items in
    let len = c.in-Some.len in
    let found = same_end 16384 c.as_slice.result.now u (Some len) c.as_slice.ensures.value c.in-Some.ensures.len in
    Leads-weaker SkipsTo (λ old new. front old ≡ head (take len new) (drop len new)) _ _ u
    (λ x m e p. ap front_of (sym p) ∙ front_head len u m c.reads.invariant.none_left found) c.reads.invariant.same

pub returns-then-len-ge-MAX_HEAD_BYTES-clause-front : goal.returns-then-len-ge-MAX_HEAD_BYTES-clause-front
returns-then-len-ge-MAX_HEAD_BYTES-clause-front g c =
    let u = c.reads.self.unused.items in
    let found = same_end 16384 c.as_slice.result.now u None c.as_slice.ensures.value c.in_default.ensures.len in
    let count : c.len.result ≡ length u = c.len.ensures ∙ sym c.as_slice.ensures.len ∙ ap length c.as_slice.ensures.value in
    let long = subst (λ n. 16384 ≤ n) count c.if-len-ge-MAX_HEAD_BYTES.true in
    Leads-weaker SkipsTo (λ old new. front old ≡ too_long) _ _ u
    (λ x m e p. ap front_of (sym p) ∙ front_too_long u m c.reads.invariant.none_left found long) c.reads.invariant.same

pub returns-then-not-branch-clause-front : goal.returns-then-not-branch-clause-front
returns-then-not-branch-clause-front g c =
    let u = c.reads.self.unused.items in
    let v = c.read_more.new.self.unused.items in
    let ended = ap Ok c.if-not-branch.true in
    let kept : v ≡ u = c.in_ok-read_more.ensures.same ended in
    let at_end = c.in_ok-read_more.ensures.end ended in
    let found = same_end 16384 c.as_slice.result.now u None c.as_slice.ensures.value c.in_default.ensures.len in
    let count : c.len.result ≡ length u = c.len.ensures ∙ sym c.as_slice.ensures.len ∙ ap length c.as_slice.ensures.value in
    let under = subst (λ n. n < 16384) count c.if-len-ge-MAX_HEAD_BYTES.false in
    Leads-weaker SkipsTo (λ old new. front old ≡ unended) _ _ v
    (λ x m e p. ap front_of (sym p) ∙ ap (λ (t : List ℕ). front (t ++ m)) kept
    ∙ front_unended u m (subst IsAtEnd e at_end) c.reads.invariant.begun c.reads.invariant.none_left found under)
    (Leads-kept SkipsTo _ _ _ c.reads.invariant.same c.read_more.ensures.keeps)

pub returns-in-Some-clause-ahead : goal.returns-in-Some-clause-ahead
returns-in-Some-clause-ahead g c =
    let u = c.reads.self.unused.items in
    let len = c.in-Some.len in
    let found = same_end 16384 c.as_slice.result.now u (Some len) c.as_slice.ensures.value c.in-Some.ensures.len in
    (head_len-some len (take 16384 u) found, c.reads.invariant.ahead_head len found)

pub reads-preserved : goal.reads-preserved
reads-preserved g c =
    let u = c.reads.self.unused.items in
    let v = c.read_more.new.self.unused.items in
    let before = length c.args.self.now.unused.items + 1 in
    let more = c.read_more.ensures.grows.0 in
    let grown : v ≡ u ++ more = c.read_more.ensures.grows.1 in
    let none = same_end 16384 c.as_slice.result.now u None c.as_slice.ensures.value c.in_default.ensures.len in
    let count : c.len.result ≡ length u = c.len.ensures ∙ sym c.as_slice.ensures.len ∙ ap length c.as_slice.ensures.value in
    let under = subst (λ n. n < 16384) count c.if-len-ge-MAX_HEAD_BYTES.false in
    let searched : c.len-searched.result ≡ length u = c.len-searched.ensures ∙ sym c.len.ensures ∙ count in
    record {
      same = Leads-kept SkipsTo _ _ _ c.reads.invariant.same c.read_more.ensures.keeps;
      none_left = ap skip_empty_lines grown ∙ skip_kept u more c.reads.invariant.begun c.reads.invariant.none_left ∙ sym grown;
      begun = begun-append u v more grown c.reads.invariant.begun;
      within = searched-within 16384 c.len-searched.result u v more searched grown under;
      none_before = searched-append 16384 c.len-searched.result u v more searched grown c.reads.invariant.begun under none;
      ahead_head = λ n e. ahead-found 16384 4096 before n u v more grown under none e c.read_more.ensures.few;
      ahead = ahead-read 16384 4096 before (length u) (length v) under c.read_more.ensures.few;
      failed = c.in_ok-read_more.ensures.fault ∙ c.reads.invariant.failed;
      reads = counts-then _ _ _ _ _ _ c.read_more.ensures.reads c.reads.invariant.reads;
      borrow = c.read_more.ensures.borrow ∙ c.reads.invariant.borrow;
    }
