use Rattle.std.proofs.lemmas.Str.{IsUtf8-from_ascii}
use Rattle.clear_texts.proofs.lines.append_ascii.Goals as goal

pub unreachable-requires : goal.unreachable-requires
unreachable-requires c = (c.in-Err.ensures.cases).0 (IsUtf8-from_ascii c.args.bytes.now c.requires)
