-- A statement that is told over the pieces of a firm.
use Rattle.std.proofs.Common.{◌≡◌, ◌∙◌, ℕ, ◌==◌, Option, Some, None, Result, Ok, Err, filter, is_some, sym, ap, subst}
use Rattle.std.specs.Prelude.{IfOk, OnOk}
use Rattle.std.specs.List.{AllByRecursion}
use Rattle.std.proofs.lemmas.List.{map-id}
use Rattle.sqlite_keyed.proofs.ListLemmas.{all-filter}
use Rattle.clear_values.specs.RowRanges.{IsCreditRow, IsPieceRow}
use Rattle.clear_values.specs.declared.lines.Purpose.TheVariants.{Contribution}
use Rattle.clear_values.specs.declared.rows.PieceRow.{PieceRow}
use Rattle.clear_book.specs.declared.calls.Query.TheVariants as query
use Rattle.clear_book.specs.declared.calls.Query.{Query}
use Rattle.clear_book.specs.declared.outcomes.Answer.{Answer}
use Rattle.clear_book.specs.declared.outcomes.Answer.TheVariants.{Text}
use Rattle.clear_book.specs.declared.rules.Rule.{Rule}
use Rattle.clear_book.specs.declared.rules.Rule.TheVariants.{UnknownEmployer}
use Rattle.clear_book.specs.Allocated.{Represents, contribution_rows, kept_charges, table_pieces}
use Rattle.clear_book.specs.Book.{Book, Member, member_of}
use Rattle.clear_book.specs.Judge.{answer_to, own_query}
use Rattle.clear_book.specs.Lines.{is_credit_of}
use Rattle.clear_book.specs.Machine.{IsLawful}
use Rattle.clear_book.specs.Own.Statement.{own_statement}
use Rattle.clear_book.specs.Tables.{Tables}
use Rattle.clear_laws.proofs.PieceRowLemmas.{pieces_for-in_range}
use Rattle.clear_laws.proofs.RowRangeLemmas.{rows_in_range}
use Rattle.clear_laws.proofs.TableAccountLemmas.{account_of_tables}
use Rattle.clear_reading.specs.Paid.{ArePiecesFor, pieces_for}
use Rattle.clear_texts.proofs.PaidBookLemmas.{told_pieces, told_text}
use Rattle.clear_texts.specs.Paid.{statement_paid}
use Rattle.clear_records.specs.Records.{IsFor, IsHead}
use Rattle.clear_records.specs.declared.statement.StatementHead.{StatementHead}
use Rattle.clear_database.specs.declared.body.Stop.{Stop}
use Rattle.clear_queries.specs.Findings.{AreRightFor, FindsStatement, HasRightRows, IsOverRightPieces, IsOverRightRows, answer_of}
use Rattle.clear_queries.specs.declared.inquiry.Finding.TheVariants as finding
use Rattle.clear_queries.specs.declared.inquiry.RowDocument.{RowDocument}
use Rattle.clear_queries.specs.declared.inquiry.RowDocument.TheVariants as rows

-- a firm that isn't registered has none
pub none_told : (b : Book) (e : ℕ) → member_of b.entries e ≡ None → own_query b (query.Statement e) ≡ Some UnknownEmployer
none_told b e none = ap (λ (member : Option Member). own_statement (is_some member)) none

module _ (b : Book) (t : Tables) (lawful : IsLawful b) (represents : Represents b t) where
  pieces_in_range : (e : ℕ) → AllByRecursion IsPieceRow (filter (λ (row : PieceRow). row.employer == e) t.pieces)
  pieces_in_range e =
      subst (AllByRecursion IsPieceRow) (sym (represents.pieces.pieces e ∙ map-id (table_pieces t e)))
      (pieces_for-in_range (kept_charges t e) (account_of_tables b t lawful represents.stands e).each_charge (contribution_rows t e)
      (all-filter IsCreditRow (is_credit_of e Contribution) t.credits (rows_in_range b t lawful represents.stands).credits))

  module _ (e day : ℕ) (head : StatementHead) (are : IsHead b e day head) where
    -- each of its pieces stands under a charge
    pub statement_tellable : ArePiecesFor head t
    statement_tellable = (pieces_in_range head.firm.employer, told_pieces b t lawful represents e day head are)

    -- and what is told over them is the answer
    pub statement_told : (own_query b (query.Statement e) ≡ None) × (Text (statement_paid head (pieces_for head t)) ≡ answer_to b day (query.Statement e))
    statement_told = (
      ap (λ (member : Option Member). own_statement (is_some member)) are.is_member,
      ap Text (told_text b t lawful represents e day head are),
    )

-- what is told of a statement is over its pieces
over_pieces : (e day : ℕ) (t : Tables) (document : RowDocument) (head : StatementHead) → IsFor e day head → document ≡ rows.Statement head → (result : Result Answer (Stop Rule))
    → IfOk result (λ answer. answer ≡ answer_of t (finding.Document document)) → OnOk result (HasRightRows document t) → IfOk result (IsOverRightPieces e day t)
over_pieces e day t document head for is (Ok answer) told right =
    (head, for, told ∙ ap (λ (d : RowDocument). answer_of t (finding.Document d)) is, subst (λ (d : RowDocument). HasRightRows d t) is right)
over_pieces e day t document head for is (Err stop) told right = tt

-- what is found at once is right, and no statement
pub answer_right : (day : ℕ) (query : Query) (t : Tables) (answer : Answer) → AreRightFor query t → FindsStatement day query (finding.Answer answer) → IsOverRightRows day query t answer
answer_right day (query.Owed e) t answer right finds = right
answer_right day (query.Statement e) t answer right finds = absurd (cc (finds.2))
answer_right day (query.Worker w) t answer right finds = right
answer_right day (query.Payout n) t answer right finds = right
answer_right day (query.Reminder n) t answer right finds = right
answer_right day query.Suspense t answer right finds = right

-- what is told behind it is right
pub document_right : (day : ℕ) (query : Query) (t : Tables) (document : RowDocument) → (HasRightRows document t → AreRightFor query t) → FindsStatement day query (finding.Document document)
    → (result : Result Answer (Stop Rule)) → IfOk result (λ answer. answer ≡ answer_of t (finding.Document document)) → OnOk result (HasRightRows document t) → IfOk result (IsOverRightRows day query t)
document_right day query t document rights finds (Err stop) told right = tt
document_right day (query.Statement e) t document rights finds (Ok answer) told right =
    over_pieces e day t document finds.0 finds.1 (cc (finds.2)) (Ok answer) told right
document_right day (query.Owed e) t document rights finds (Ok answer) told right = rights right
document_right day (query.Worker w) t document rights finds (Ok answer) told right = rights right
document_right day (query.Payout n) t document rights finds (Ok answer) told right = rights right
document_right day (query.Reminder n) t document rights finds (Ok answer) told right = rights right
document_right day query.Suspense t document rights finds (Ok answer) told right = rights right
