use Rattle.std.proofs.Common.{append_assoc}
use Rattle.clear_book.specs.Documents.Lines.{missing_line}
use Rattle.clear_texts.proofs.lines.append_missing.Goals as goal

pub returns : goal.returns
unfolding missing_line
returns c = rw (c.in_ok-push_str.ensures.bytes, c.in_ok-append_month.ensures) (simp append_assoc)
