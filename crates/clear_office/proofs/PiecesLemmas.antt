-- The pieces beside a change that is put.
use Rattle.std.proofs.Common.{◌≡◌, ℕ, Bool, List, ◌∷◌, [], Option, Some, None, IsSome, is_some, true, refl, sym, subst}
use Rattle.std.proofs.Common.{Result, Ok, Err}
use Rattle.std.specs.Option.{option_map}
use Rattle.std.specs.Prelude.{IfErr, OnOk}
use Rattle.sqlite.specs.Effect.{Database}
use Rattle.clear_values.specs.declared.rows.Change.{Change}
use Rattle.clear_values.specs.declared.rows.Change.TheVariants.{AddRate, AddEmployer, EndMembership, AddReport, ReplaceReport, AddBankLines, AssignLine, AddClaim, WithdrawClaim, ReleaseClaim, AddList, AddRun}
use Rattle.clear_values.specs.declared.rows.KeptCharge.{KeptCharge}
use Rattle.clear_values.specs.declared.rows.PieceRow.{PieceRow}
use Rattle.clear_values.specs.declared.rows.ReportRow.{ReportRow}
use Rattle.clear_values.specs.declared.texts.WageLine.{WageLine}
use Rattle.clear_values.specs.Keyed.{find_row}
use Rattle.clear_values.specs.RowRanges.{AreInRange, IsRequestRow}
use Rattle.clear_book.specs.declared.calls.Call.{Call}
use Rattle.clear_values.specs.declared.causes.StoreCause.TheVariants.{Constraint, Row}
use Rattle.clear_book.specs.Accounts.{charges_of, credits_of, reported_charge}
use Rattle.clear_book.specs.Allocated.{Follows, IsWeighed, KeepsKeys, LeavesChange, LeavesChanged, LeavesPlaces, kept_charges}
use Rattle.clear_book.specs.Book.{Book, Entry, latest_lines, version_of}
use Rattle.clear_book.specs.Machine.{IsLawful}
use Rattle.clear_book.specs.Tables.{RequestRow, Tables, Stands, changed, charge_in, charge_key, dated, noted, report_key, request_key, request_row, table_credits}
use Rattle.clear_laws.proofs.AccountChangeLemmas.{pieces_changed}
use Rattle.clear_laws.proofs.CreditsLemmas.{table_credits-credits_of}
use Rattle.clear_laws.proofs.KeptChargesLemmas.{kept_charges-charges_of}
use Rattle.clear_laws.proofs.RowRangeLemmas.{rows_in_range}
use Rattle.clear_laws.proofs.TableAccountLemmas.{account_of_tables}
use Rattle.clear_schema.specs.declared.fault.Fault.{Fault}
use Rattle.clear_schema.specs.declared.fault.Fault.TheVariants.{Store}
use Rattle.clear_schema.specs.Faults.{IsOfDisk}
use Rattle.clear_schema.specs.Held.{HasTables}
use Rattle.clear_schema.specs.Values.{counts_of}
use Rattle.clear_schema.specs.declared.counts.Counts.{Counts}
use Rattle.clear_store.proofs.OnceLemmas.{all_with}
use Rattle.clear_pieces.specs.Keeping.{AreAccounts, AreFollowing, HasCharge, IsPut, TellsStood}
use Rattle.clear_office.specs.Bodies.{HasFollowing, HasPieces, IsFitting, MayPut}
use Rattle.clear_office.proofs.LawLemmas.{change_free, change_puttable}

-- ---- tables with other pieces, and with one request more

-- the pieces follow a change also where its request is kept
pub follows_kept : (t v : Tables) (requests : List RequestRow) → Follows t v → Follows t (record v { requests = requests })
follows_kept t v requests follows g keeps leaves allocated =
    let then = follows g keeps leaves allocated in
    record { pieces = then.pieces; in_order = then.in_order; weighed = then.weighed }

-- and where nothing changes
pub follows_still : (t : Tables) → Follows t t
follows_still t g keeps leaves allocated = allocated

-- ---- where pieces are left

module _ (g : PieceRow → PieceRow) (b next : Book) (t u : Tables) (lawful : IsLawful b) (stands : Stands b t) (lawful_next : IsLawful next) (stands_next : Stands next u) where
  -- what is left of the books is left of the tables
  pub leaves_changed : (e : ℕ) → LeavesChange g e (charges_of b e) (charges_of next e) (credits_of b e) (credits_of next e) → LeavesChanged g t u e
  leaves_changed e leaves =
      let charges = kept_charges-charges_of b t lawful stands e in
      let charges_next = kept_charges-charges_of next u lawful_next stands_next e in
      let credits = table_credits-credits_of b t stands e in
      let credits_next = table_credits-credits_of next u stands_next e in
      subst (λ cs. LeavesChange g e cs (kept_charges u e) (table_credits t e) (table_credits u e)) (sym charges)
      (subst (λ cs. LeavesChange g e (charges_of b e) cs (table_credits t e) (table_credits u e)) (sym charges_next)
      (subst (λ ks. LeavesChange g e (charges_of b e) (charges_of next e) ks (table_credits u e)) (sym credits)
      (subst (λ ks. LeavesChange g e (charges_of b e) (charges_of next e) (credits_of b e) ks) (sym credits_next) leaves)))

-- where each piece has its cents, all is left
pub keeps_plain : KeepsKeys (λ row. row)
keeps_plain = record { employer = λ r. refl; month = λ r. refl; day = λ r. refl; serial = λ r. refl; reference = λ r. refl }

pub leaves_plain : (b : Book) (call : Call) → LeavesPlaces (λ row. row) b call
leaves_plain b call e = record {
  charges = λ m first i within beyond r employer month. refl;
  credits = λ k first i within beyond r employer month. refl;
}

-- ---- what has to hold of a change that is put

-- the contribution is kept of a month that has a report
kept_there : (b : Book) (m n : ℕ) (found : Option ReportRow) (latest : Option (List WageLine)) (kept : Option KeptCharge) → option_map (λ (r : ReportRow). r.version) found ≡ option_map (λ lines. n) latest
    → option_map charge_in kept ≡ reported_charge b m latest → IsSome found → is_some kept ≡ true
kept_there b m n None latest kept versions charges there = absurd (cc)
kept_there b m n (Some row) None kept versions charges there = absurd (cc)
kept_there b m n (Some row) (Some lines) None versions charges there = absurd (cc)
kept_there b m n (Some row) (Some lines) (Some charge) versions charges there = refl

module _ (b : Book) (t : Tables) (stands : Stands b t) where
  has_charge : (change : Change) → IsFitting change t → HasCharge change t
  has_charge (ReplaceReport row lines charge) fits =
      let e = row.employer in
      let m = row.month in
      let latest = latest_lines b.entries e m in
      subst (λ (k : List ℕ). is_some (find_row charge_key t.charges k) ≡ true) (sym fits.1)
      (kept_there b m (version_of b.entries e m) (find_row report_key t.reports (e ∷ m ∷ [])) latest (find_row charge_key t.charges (e ∷ m ∷ [])) (stands.reports e m) (stands.charges e m) fits.0.0)
  has_charge (AddRate row) fits = tt
  has_charge (AddEmployer row) fits = tt
  has_charge (EndMembership row) fits = tt
  has_charge (AddReport row lines charge) fits = tt
  has_charge (AddBankLines rows) fits = tt
  has_charge (AssignLine row) fits = tt
  has_charge (AddClaim row) fits = tt
  has_charge (WithdrawClaim row) fits = tt
  has_charge (ReleaseClaim row serial) fits = tt
  has_charge (AddList row claims) fits = tt
  has_charge (AddRun row reminders) fits = tt

-- what the tables of a lawful book keep of each firm is an account
accounts : (b : Book) (t : Tables) → IsLawful b → Stands b t → AreAccounts t
accounts b t lawful stands = record {
  account = account_of_tables b t lawful stands;
  charges_in_order = stands.charges_in_order;
  credits_in_order = stands.credits_in_order;
}

module _ (b next : Book) (t : Tables) (x : Entry) (change : Change) (lawful : IsLawful b) (stands : Stands b t) (lawful_next : IsLawful next) (stands_next : Stands next (noted x (changed change t))) (fits : IsFitting change t) (weighed : (e : ℕ) → IsWeighed t e) where
  pub is_put : IsPut change t (dated x.day (changed change t))
  is_put =
      let after = accounts next (noted x (changed change t)) lawful_next stands_next in
      record {
        before = accounts b t lawful stands;
        weighed = weighed;
        after = record { account = after.account; charges_in_order = after.charges_in_order; credits_in_order = after.credits_in_order };
        has_charge = has_charge b t stands change fits;
        charges = refl;
        credits = refl;
        pieces = pieces_changed change t;
      }

  in_range_after : AreInRange (dated x.day (changed change t))
  in_range_after =
      let within = rows_in_range next (noted x (changed change t)) lawful_next stands_next in
      record {
        rates = within.rates;
        employers = within.employers;
        reports = within.reports;
        wages = within.wages;
        charges = within.charges;
        bank = within.bank;
        credits = within.credits;
        claims = within.claims;
        lists = within.lists;
        runs = within.runs;
        reminders = within.reminders;
        requests = (all_with request_key IsRequestRow (changed change t).requests (request_row x) within.requests).0;
        day = within.day;
        entries = within.entries;
        serial = within.serial;
        last_claim = within.last_claim;
        last_list = within.last_list;
        last_run = within.last_run;
      }

  pub may_put : (counts : Counts) → counts ≡ counts_of t → HasPieces t → MayPut x.day counts change t
  may_put counts same pieces = record {
    free = change_free next t x change lawful_next stands_next;
    puttable = change_puttable next t x change counts lawful_next stands_next same fits.0;
    before = rows_in_range b t lawful stands;
    after = in_range_after;
    put = is_put;
    pieces = pieces;
  }

-- ---- what was put

-- the pieces follow that change of which it was told whether its contribution stood
pub following : (day : ℕ) (change : Change) (t : Tables) (stood : Bool) → TellsStood change t stood → (db : Database) (result : Result (Unit {0}) Fault)
    → OnOk result ((pieces : List PieceRow) × (charges : List KeptCharge) × HasTables (record (dated day (changed change t)) { pieces = pieces; charges = charges }) db
    × ((s : Tables) → IsPut change s (dated day (changed change t)) → TellsStood change s stood → AreFollowing s (dated day (changed change t)) pieces charges))
    → OnOk result (HasFollowing day change t (dated day (changed change t)) db)
following day change t stood told db (Ok u) (pieces, charges, has, follows) = (pieces, charges, has, λ put. follows t put told)
following day change t stood told db (Err fault) none = tt

-- the request is kept beside pieces that follow
pub kept_following : (day : ℕ) (change : Change) (t v : Tables) (requests : List RequestRow) (pieces : List PieceRow) (charges : List KeptCharge)
    → (IsPut change t (dated day (changed change t)) → AreFollowing t v pieces charges)
    → (db : Database) (result : Result (Unit {0}) Fault) → OnOk result (HasTables (record v { pieces = pieces; charges = charges; requests = requests }) db) → OnOk result (HasFollowing day change t (record v { requests = requests }) db)
kept_following day change t v requests pieces charges follows db (Ok u) has = (
  pieces,
  charges,
  has,
  λ put.
      let then = follows put in
      record { same = then.same; paid = then.paid; follows = follows_kept t (record v { pieces = pieces; charges = charges }) requests then.follows; others = then.others },
)
kept_following day change t v requests pieces charges follows db (Err fault) none = tt

-- no key and no row is to blame where all are free and in their ranges
pub no_blame : (result : Result (Unit {0}) Fault) (P Q : Type 0) → P → Q → IfErr result (λ fault. fault ≡ Store Constraint → ¬ P) → IfErr result (λ fault. fault ≡ Store Row → ¬ Q) → IfErr result IsOfDisk
no_blame (Ok u) P Q free good cause range = tt
no_blame (Err fault) P Q free good cause range = ((λ is. cause is free), (λ is. range is good))
