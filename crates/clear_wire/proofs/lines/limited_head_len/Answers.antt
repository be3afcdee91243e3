use Rattle.std.proofs.Common.{ℕ, ◌≤◌, List, length, take, sym, ap, ◌∙◌, subst}
use Rattle.std.proofs.lemmas.List.{take_min}
use Rattle.clear_wire.specs.Lines.{head_len, HasNoEndBefore}
use Rattle.clear_wire.proofs.lines.limited_head_len.Goals as goal

pub returns-clause-len : goal.returns-clause-len
returns-clause-len c =
    let bytes = c.args.bytes.now in
    c.head_len.ensures.len ∙ ap head_len (ap (λ n. take n bytes) c.min.ensures ∙ take_min 16384 bytes)

pub head_len-requires-clause-within : goal.head_len-requires-clause-within
head_len-requires-clause-within c =
    let bytes = c.args.bytes.now in
    subst (λ (t : List ℕ). c.args.from ≤ length t) (sym (ap (λ n. take n bytes) c.min.ensures ∙ take_min 16384 bytes)) c.requires.within

pub head_len-requires-clause-none_before : goal.head_len-requires-clause-none_before
head_len-requires-clause-none_before c =
    let bytes = c.args.bytes.now in
    subst (HasNoEndBefore c.args.from) (sym (ap (λ n. take n bytes) c.min.ensures ∙ take_min 16384 bytes)) c.requires.none_before
