-- Worker: what a worker has earned, what is claimed for it, and its balance, as a document. No rule
-- of its own refuses it: a worker whom no report names has earned nothing.
use Rattle.std.specs.Prelude.{ℕ}
use Rattle.clear_book.specs.Book.{Book}
use Rattle.clear_book.specs.Documents.Worker.{WorkerAccount}
use Rattle.clear_book.specs.Workers.{balance_of, claims_of_worker, earned_of}

-- what the book says of a worker on a day
abbrev pub worker_on : Book → ℕ → ℕ → WorkerAccount
worker_on b t w =
    record {
      worker = w;
      day = t;
      earned = earned_of b w;
      claims = claims_of_worker b.entries w;
      balance = balance_of b w;
    }
