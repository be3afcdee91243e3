use Rattle.std.proofs.Common.{◌≡◌, ◌≢◌, length, arith}
use Rattle.std.proofs.lemmas.Bool.Decides.{nat_tests}
use Rattle.clear_files.proofs.FolderLemmas.{stands_here, stands_in, stands_in_root}
use Rattle.clear_files.proofs.backup.folder_of.Goals as goal

pub returns-in-Some : goal.returns-in-Some
returns-in-Some c =
    let split = c.in-Some.ensures.cases in
    let empty : length c.in-Some.before.now ≡ 0 = grind (arith, nat_tests) in
    stands_in_root _ c.in-Some.before.now c.in-Some._name.now split.0 split.1 split.2 split.3 split.4 empty

pub returns-in-Some-2 : goal.returns-in-Some-2
returns-in-Some-2 c =
    let split = c.in-Some.ensures.cases in
    let some : length c.in-Some.before.now ≢ 0 = λ empty. grind (arith, nat_tests) in
    stands_in _ c.in-Some.before.now c.in-Some._name.now split.0 split.1 split.2 split.3 split.4 some

pub returns-in-None : goal.returns-in-None
returns-in-None c = stands_here _ c.in-None.ensures.cases
