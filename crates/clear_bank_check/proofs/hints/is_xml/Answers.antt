use Rattle.clear_bank_check.proofs.hints.is_xml.Goals as goal

pub returns : goal.returns
returns c = (c.trim_ascii_start.result.now, rw c.without_mark.ensures at c.trim_ascii_start.ensures.value, c.starts_with.ensures.value)
