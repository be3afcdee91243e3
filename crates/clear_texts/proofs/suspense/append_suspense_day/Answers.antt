use Rattle.std.proofs.Common.{append_assoc}
use Rattle.clear_book.specs.Documents.Suspense.{suspense_day_line}
use Rattle.clear_texts.proofs.suspense.append_suspense_day.Goals as goal

pub returns : goal.returns
unfolding suspense_day_line
returns c = rw (c.in_ok-push_str.ensures.bytes, c.in_ok-append_day.ensures) (simp append_assoc)
