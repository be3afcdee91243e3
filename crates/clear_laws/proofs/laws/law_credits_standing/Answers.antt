use Rattle.clear_book.specs.Accounts.{credit_key}
use Rattle.clear_book.specs.Lines.{credits_made}
use Rattle.clear_laws.proofs.CreditsMadeLemmas.{credits_once}
use Rattle.clear_values.proofs.KeyedRowsLemmas.{AreInOrder-in_key_order, find_row-in_key_order}
use Rattle.clear_laws.proofs.laws.law_credits_standing.Goals as goal

pub returns : goal.returns
returns c = λ b. record {
  order = AreInOrder-in_key_order credit_key (credits_made b.entries) (credits_once b.entries);
  found = λ k. find_row-in_key_order credit_key (credits_made b.entries) k (credits_once b.entries);
}
