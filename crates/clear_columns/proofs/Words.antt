-- The words that the proofs of each table speak in.
pub use Rattle.clear_values.specs.declared.lines.Purpose.{Purpose}
pub use Rattle.clear_values.specs.declared.lines.Purpose.TheVariants.{Contribution, Interest}
pub use Rattle.clear_values.specs.Credits.{credit_key}
pub use Rattle.clear_values.specs.Keyed.{find_row, is_key, with_row, is_held}
pub use Rattle.clear_values.specs.Credits.{is_credit_of, is_in_suspense}
pub use Rattle.clear_values.specs.Tables.{RequestRow, Tables, bank_key, charge_key, is_piece_key_from, is_wage_key_of, keeps_contribution, piece_key, report_key, wage_key}
pub use Rattle.clear_values.specs.declared.rows.BankRow.{BankRow}
pub use Rattle.clear_values.specs.declared.rows.ClaimRow.{ClaimRow}
pub use Rattle.clear_values.specs.declared.rows.ClaimState.{ClaimState}
pub use Rattle.clear_values.specs.declared.rows.ClaimState.TheVariants.{Open, Released, Withdrawn}
pub use Rattle.clear_values.specs.declared.rows.CreditRow.{CreditRow}
pub use Rattle.clear_values.specs.declared.rows.EmployerRow.{EmployerRow}
pub use Rattle.clear_values.specs.declared.rows.KeptCharge.{KeptCharge}
pub use Rattle.clear_values.specs.declared.rows.ListRow.{ListRow}
pub use Rattle.clear_values.specs.declared.rows.PieceRow.{PieceRow}
pub use Rattle.clear_values.specs.declared.rows.ReminderRow.{ReminderRow}
pub use Rattle.clear_values.specs.declared.rows.ReportRow.{ReportRow}
pub use Rattle.clear_values.specs.declared.rows.RunRow.{RunRow}
pub use Rattle.clear_values.specs.declared.rows.WageRow.{WageRow}
pub use Rattle.clear_columns.proofs.KeyLemmas.{by_key_total, first_found, is_key_is, key_is, turned, turned_nat}
pub use Rattle.clear_columns.proofs.ListLemmas.{all_pass, each_fails, none_replaced, one_passes}
pub use Rattle.clear_columns.proofs.ReadingLemmas.{answers_just}
pub use Rattle.clear_columns.proofs.StoredLemmas.{cast_maybe, comes_from, equal_maybe, equal_numbers, equal_purposes, equal_ranks, is_above, maybe_from, maybe_none, maybe_typed, numbers_compare, others_differ, purposes_compare, same_numbers, two_met, cast_maybe_month, equal_months, maybe_month_typed, months_compare, months_from, months_keep, months_to, numbers_keep}
pub use Rattle.clear_rows.proofs.Edits.{no_rows, updated_is}
pub use Rattle.clear_rows.proofs.Held.{content}
pub use Rattle.clear_rows.proofs.KeepsKeys.{update_harmless, update_violates}
pub use Rattle.clear_rows.proofs.Queries.{in_order, one_row, shown_in_some_order}
pub use Rattle.clear_rows.proofs.Refused.{apart_if, held_if_refused, insert_violates}
pub use Rattle.clear_rows.proofs.Statements.{inserted, updated}
pub use Rattle.clear_rows.specs.Edited.{IsEdited}
pub use Rattle.clear_rows.specs.Kept.{IsNumbered}
pub use Rattle.clear_rows.specs.Plain.{first_program, passes as meets, plain_program, plain_query}
pub use Rattle.clear_schema.proofs.Causes.{refer_to_none, sound_by_schema}
pub use Rattle.clear_schema.proofs.Changes.{Others}
pub use Rattle.clear_schema.proofs.FrameLemmas.{writes}
pub use Rattle.clear_schema.proofs.ValueLemmas.{cast_int, cast_null, equal_ints, equal_texts}
pub use Rattle.clear_schema.specs.Frame.{AnswersJust, Runs, Writes}
pub use Rattle.clear_schema.specs.Held.{HasTables, by_key, reminder_key, request_key}
pub use Rattle.clear_schema.specs.Runs.{IsBroken, IsDone}
pub use Rattle.clear_schema.specs.Schema.{bank_table, charges_table, claims_table, credits_table, requests_table, store_schema, employers_table, lists_table, meta_table, pieces_table, rates_table, reminders_table, reports_table, runs_table, wages_table, all_indexes, all_tables}
pub use Rattle.clear_schema.specs.Values.{caller_number, keyed_row, month, month_number, number, numbered_row, purpose}
pub use Rattle.clear_schema.specs.declared.fault.Fault.{Fault}
pub use Rattle.sqlite.specs.Cast.{cast_row}
pub use Rattle.sqlite.specs.Collation.TheVariants.{Binary}
pub use Rattle.sqlite.specs.Command.TheVariants.{Insert, Update, Delete}
pub use Rattle.sqlite.specs.Edit.{IsRefused, edit_of, edited, with_rowid}
pub use Rattle.sqlite.specs.Effect.{Database, Answers, IsDatabase, value_rows}
pub use Rattle.sqlite.specs.Held.{Held, state}
pub use Rattle.sqlite.specs.Order.{Row}
pub use Rattle.sqlite.specs.Query.{output, output_cmp}
pub use Rattle.sqlite.specs.Rowids.TheVariants.{Chosen, Given}
pub use Rattle.sqlite.specs.Rows.{stamped}
pub use Rattle.sqlite.specs.Source.TheVariants.{Values}
pub use Rattle.sqlite.specs.State.{State}
pub use Rattle.sqlite.specs.Store.{Ghosts}
pub use Rattle.sqlite.specs.Table.{Table}
pub use Rattle.sqlite.specs.Term.{Term, col, lit, op2}
pub use Rattle.sqlite.specs.Tree.{Trees, rowid}
pub use Rattle.sqlite.specs.declared.types.Value.TheVariants.{Blob, Int, Null, Text}
pub use Rattle.sqlite_catalog.specs.Listing.{automatic}
pub use Rattle.sqlite_keyed.proofs.KeyedLemmas.{IsKeyedBy-update_where}
pub use Rattle.sqlite_keyed.proofs.ListLemmas.{IsPermutation-filter, ascending_weaker}
pub use Rattle.sqlite_keyed.specs.Keyed.{insert_by}
pub use Rattle.sqlite_keyed.specs.Lists.{update_where}
pub use Rattle.sqlite_rules.proofs.ListLemmas.{some_from}
pub use Rattle.sqlite_rules.specs.Calls.{ids_of}
pub use Rattle.sqlite_rules.specs.Lists.{Has}
pub use Rattle.sqlite_schema.specs.Rules.{agree, passes, guards}
pub use Rattle.sqlite_schema.specs.declared.schema.Constraint.TheVariants.{Datatype, NotNull, Check}
pub use Rattle.sqlite_schema.specs.declared.schema.Index.{Index}
pub use Rattle.sqlite_schema.specs.declared.schema.Keys.TheVariants.{Enforced}
pub use Rattle.sqlite_sql.specs.declared.ops.BinaryOp.TheVariants.{And, Compare, Is, Or}
pub use Rattle.sqlite_sql.specs.declared.ops.CompareOp.TheVariants.{Eq, Ge, Gt, Le, Ne}
pub use Rattle.sqlite_value.proofs.OrderLemmas.{value_cmp-Text}
pub use Rattle.sqlite_value.specs.declared.keys.Key.{Key}
pub use Rattle.std.proofs.Common.{Bool, Equal, Less, List, None, Option, Some, [], ap, arith, codes, drop, false, filter, inl, inr, int_cmp, is_eq, is_none, map, nat_lt, pos, refl, slice_get, subst, sym, true, ℕ, ℤ, ◌&&◌, ◌==◌, ◌||◌, ◌∙◌, ◌∷◌, ◌≡◌, ◌≢◌, IsPermutation, cond, length, map-id, not, true≢false, ◌/◌, ◌≤◌}
pub use Rattle.std.proofs.Math.Bool.{and-true}
pub use Rattle.std.proofs.lemmas.Bool.Decides.{nat_tests}
pub use Rattle.std.proofs.lemmas.List.{length-map}
pub use Rattle.std.proofs.lemmas.List.Sorted.{IsPermutation-map}
pub use Rattle.std.specs.Cmp.Lexicographic.{slice_cmp}
pub use Rattle.std.specs.List.{list_any}
pub use Rattle.std.specs.Ordering.{ordering_then, nat_cmp}
pub use Rattle.std.specs.Prelude.{Result}
