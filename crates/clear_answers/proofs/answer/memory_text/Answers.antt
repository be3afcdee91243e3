use Rattle.std.proofs.Common.{refl}
use Rattle.std.specs.Fmt.{digits}
use Rattle.clear_answers.specs.Answer.{answer_of, head_of, first_lines, refused_body}
use Rattle.clear_answers.proofs.answer.memory_text.Goals as goal

pub returns-in-true-true : goal.returns-in-true-true
unfolding answer_of head_of first_lines refused_body digits
returns-in-true-true c = rw (c.in-true-true.is-0, c.in-true-true.is-1) refl

pub returns-in-true-false : goal.returns-in-true-false
unfolding answer_of head_of first_lines refused_body digits
returns-in-true-false c = rw (c.in-true-false.is-0, c.in-true-false.is-1) refl

pub returns-in-false-true : goal.returns-in-false-true
unfolding answer_of head_of first_lines refused_body digits
returns-in-false-true c = rw (c.in-false-true.is-0, c.in-false-true.is-1) refl

pub returns-in-false-false : goal.returns-in-false-false
unfolding answer_of head_of first_lines refused_body digits
returns-in-false-false c = rw (c.in-false-false.is-0, c.in-false-false.is-1) refl
