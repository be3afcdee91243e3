-- What the JSON bodies of requests say.
use Rattle.std.specs.Prelude.{ℕ, List, [], ◌∷◌, codes, Result, Ok, Err, ⊤}
use Rattle.clear_money.specs.Rates.{Rate}
use Rattle.clear_book.specs.declared.calls.Assignment.{Assignment}
use Rattle.clear_book.specs.declared.calls.Correction.{Correction}
use Rattle.clear_book.specs.declared.calls.HolidayClaim.{HolidayClaim}
use Rattle.clear_book.specs.declared.calls.MembershipEnd.{MembershipEnd}
use Rattle.clear_book.specs.declared.calls.Registration.{Registration}
use Rattle.clear_book.specs.declared.calls.WageReport.{WageReport}
use Rattle.clear_routes.specs.Faults.{Part, whole_body}
use Rattle.clear_routes.specs.Members.{employer_at, name_at, month_at, lines_at, within_at}
use Rattle.clear_routes.specs.Members.{amount_at, worker_at, reference_at}
use Rattle.clear_money.specs.Results.{◌>>=◌}
use Rattle.clear_routes.specs.Object.{body_of, also, done}

-- the row of rates that the bytes are: rates in hundredths of a percent, and days of a month
unfoldable pub rate_of : List ℕ → Result Rate Part
rate_of bytes = do
  said ← body_of
      (also (within_at 0 10000) (also (within_at 1 28) (also (within_at 0 10000)
      (also month_at (also (within_at 0 1000) (also (within_at 1 28) done))))))
      (codes "contribution" ∷ codes "due_day" ∷ codes "entitlement"
      ∷ codes "from" ∷ codes "interest" ∷ codes "report_day" ∷ []) bytes
  Ok (record {
    first = said.1.1.1.0;
    contribution_rate = said.0;
    report_day = said.1.1.1.1.1.0;
    due_day = said.1.0;
    interest_rate = said.1.1.1.1.0;
    entitlement_rate = said.1.1.0;
  })

-- the registration that the bytes are
unfoldable pub registration_of : List ℕ → Result Registration Part
registration_of bytes = do
  said ← body_of (also employer_at (also name_at (also month_at done)))
      (codes "employer" ∷ codes "name" ∷ codes "start" ∷ []) bytes
  Ok (record { employer = said.0; name = said.1.0; start = said.1.1.0 })

-- the end of an employer's membership that the bytes are
unfoldable pub end_of : ℕ → List ℕ → Result MembershipEnd Part
end_of employer bytes = do
  said ← body_of (also month_at done) (codes "last" ∷ []) bytes
  Ok (record { employer = employer; last = said.0 })

-- the report of an employer's month that the bytes are
unfoldable pub report_of : ℕ → ℕ → List ℕ → Result WageReport Part
report_of employer month bytes = do
  said ← body_of (also lines_at done) (codes "lines" ∷ []) bytes
  Ok (record { employer = employer; month = month; lines = said.0 })

-- the correction of an employer's month that the bytes are
unfoldable pub correction_of : ℕ → ℕ → List ℕ → Result Correction Part
correction_of employer month bytes = do
  said ← body_of (also lines_at (also (within_at 1 4294967295) done))
      (codes "lines" ∷ codes "version" ∷ []) bytes
  Ok (record {
    report = record { employer = employer; month = month; lines = said.0 };
    version = said.1.0;
  })

-- the bank line and its firm that the bytes are
unfoldable pub assignment_of : List ℕ → Result Assignment Part
assignment_of bytes = do
  said ← body_of (also employer_at (also reference_at done))
      (codes "employer" ∷ codes "reference" ∷ []) bytes
  Ok (record { reference = said.1.0; employer = said.0 })

-- the claim of an employer that the bytes are
unfoldable pub claim_of : ℕ → List ℕ → Result HolidayClaim Part
claim_of employer bytes = do
  said ← body_of (also amount_at (also worker_at done))
      (codes "cents" ∷ codes "worker" ∷ []) bytes
  Ok (record { employer = employer; worker = said.1.0; cents = said.0 })

-- there is no body
abbrev pub nothing_of : List ℕ → Result ⊤ Part
nothing_of [] = Ok tt
nothing_of (byte ∷ bytes) = Err whole_body
