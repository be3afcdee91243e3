use Rattle.std.proofs.Common.{refl}
use Rattle.std.specs.Fmt.{digits}
use Rattle.clear_answers.specs.Answer.{answer_of, head_of, first_lines, refused_body}
use Rattle.clear_answers.proofs.answer.failed_text.Goals as goal

pub returns : goal.returns
unfolding answer_of head_of first_lines refused_body digits
returns c = refl
