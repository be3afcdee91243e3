use Rattle.std.proofs.Common.{Err, Ok, ap, rules, sym}
use Rattle.std.proofs.lemmas.List.Sorted.{answers_always}
use Rattle.std.specs.Option.{option_map}
use Rattle.clear_book.specs.declared.rows.ReportRow.{ReportRow}
use Rattle.clear_records.proofs.VersionLemmas.{searched}
use Rattle.clear_records.proofs.versions.find_version.Goals as goal

pub returns-in-Ok : goal.returns-in-Ok
returns-in-Ok c rise =
    sym (ap (option_map (λ (row : ReportRow). row.version)) (searched (λ (row : ReportRow). row.month) c.args.month c.args.reports.now rise (Ok c.in-Ok.place) c.in-Ok.ensures.bound (c.in-Ok.ensures.position (λ row. row.month) (answers_always _ _ _ (λ f a r g called. search rules))) c.index-reports-place.result))

pub returns-in-Err : goal.returns-in-Err
returns-in-Err c rise =
    sym (ap (option_map (λ (row : ReportRow). row.version)) (searched (λ (row : ReportRow). row.month) c.args.month c.args.reports.now rise (Err c.in-Err._place) c.in-Err.ensures.bound (c.in-Err.ensures.position (λ row. row.month) (answers_always _ _ _ (λ f a r g called. search rules)))))
