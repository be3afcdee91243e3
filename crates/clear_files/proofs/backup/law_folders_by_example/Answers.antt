use Rattle.std.proofs.Common.{[], codes, inl, inr, refl}
use Rattle.clear_files.proofs.backup.law_folders_by_example.Goals as goal

pub returns-clause-here : goal.returns-clause-here
returns-clause-here c = inl (tt, refl)

pub returns-clause-root : goal.returns-clause-root
returns-clause-root c = inr ([], codes "copy", refl, tt, refl)

pub returns-clause-folder : goal.returns-clause-folder
returns-clause-folder c = inr (codes "a/b", codes "copy", refl, tt, refl)
