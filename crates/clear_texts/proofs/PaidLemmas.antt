-- The rows of charges over a source of pieces are those of the charges with the pieces that it gave.
use Rattle.std.proofs.Common.{◌≡◌, ℕ, ◌+◌, ◌<◌, ◌≤◌, Bool, true, false, cond, List, [], ◌∷◌, ◌++◌, Some, None, Option, drop, zero, suc, inl, inr, refl, sym, ap, ◌∙◌, subst, arith, length, append_assoc, append-nil, length-append}
use Rattle.std.specs.Prelude.{◌==◌}
use Rattle.std.specs.Iterator.{Yields, YieldsThen}
use Rattle.std.specs.List.{flat_map, prefix_len, slice_index_or, take_while}
use Rattle.std.specs.Option.{option_map}
use Rattle.std.proofs.lemmas.List.Concat.{flat_map-cons}
use Rattle.std.proofs.lemmas.List.Sums.{take_while-cons}
use Rattle.clear_book.specs.declared.documents.ChargeState.{ChargeState}
use Rattle.clear_book.specs.declared.rows.PieceRow.{PieceRow}
use Rattle.clear_book.specs.Own.Statement.{payment_in}
use Rattle.clear_texts.specs.Laws.{rows_of}
use Rattle.clear_texts.specs.Paid.{ArePaid, behind_month, charge_paid, charges_paid, first_of_month, paid_rows, pieces_over}
use Rattle.clear_texts.specs.PaidSteps.{GivesPaid, GivesRow, KeepsSource, Passes, Paying, RefusesPaid, RefusesRow, Takes, charges_left, is_under, paying}
use Rattle.clear_texts.specs.Rows.{GivesWrong, IsCutOffUnless, IsRefused, Reads, most_rows}
use Rattle.clear_texts.specs.declared.paid.PaidRows.{PaidRows}
use Rattle.clear_texts.specs.declared.rows.ChargeRow.{ChargeRow}
use Rattle.clear_values.specs.declared.causes.Fault.{Fault}
use Rattle.clear_texts.proofs.RowLemmas.{Yields-append}

-- the next piece, and more behind it; nothing comes behind the end
abbrev pub ahead : Option PieceRow → List PieceRow → List PieceRow
ahead None more = []
ahead (Some piece) more = piece ∷ more

-- a piece of the month is taken with the first ones
pub one_taken : (m : ℕ) (piece : PieceRow) (pieces : List PieceRow) → (piece.month == m) ≡ true → (first_of_month m (piece ∷ pieces) ≡ piece ∷ first_of_month m pieces) × (behind_month m (piece ∷ pieces) ≡ behind_month m pieces)
one_taken m piece pieces same =
    let own : PieceRow → Bool = λ p. p.month == m in
    let n : ℕ = prefix_len own pieces in
    let next : 1 + n ≡ suc n = omega arith in (
      take_while-cons own piece pieces ∙ ap (λ (b : Bool). cond b (piece ∷ take_while own pieces) []) same,
      ap (λ (b : Bool). drop (cond b (1 + n) 0) (piece ∷ pieces)) same ∙ ap (λ (k : ℕ). drop k (piece ∷ pieces)) next,
    )

-- ---- one row

-- the first charge, which has no piece, and the others
passes_rows : (state : ChargeState) (states : List ChargeState) (next : Option PieceRow) (more : List PieceRow) → is_under state.month next ≡ false
    → (paid_rows (state ∷ states) (ahead next more) ≡ record { state = state; piece = None } ∷ paid_rows states (ahead next more))
    × (pieces_over (state ∷ states) (ahead next more) ≡ pieces_over states (ahead next more))
passes_rows state states None more other = (flat_map-cons rows_of (charge_paid state []) (charges_paid states []), refl)
passes_rows state states (Some piece) more other =
    rw other (flat_map-cons rows_of (charge_paid state []) (charges_paid states (piece ∷ more)), refl)

one_row : (state : ChargeState) (piece next : PieceRow) (pieces more : List PieceRow) → pieces ≡ next ∷ more → rows_of (charge_paid state (piece ∷ pieces)) ≡ record { state = state; piece = Some (payment_in piece) } ∷ rows_of (charge_paid state pieces)
one_row state piece next pieces more is = subst (λ (ps : List PieceRow). rows_of (charge_paid state (piece ∷ ps)) ≡ record { state = state; piece = Some (payment_in piece) } ∷ rows_of (charge_paid state ps)) (sym is) refl

-- the first charge with the next piece, and what is left then
takes_rows : (state : ChargeState) (states : List ChargeState) (piece : PieceRow) (next : Option PieceRow) (more : List PieceRow) → (piece.month == state.month) ≡ true
    → (paid_rows (state ∷ states) (piece ∷ ahead next more) ≡ record { state = state; piece = Some (payment_in piece) } ∷ paid_rows (charges_left state states next) (ahead next more))
    × (pieces_over (state ∷ states) (piece ∷ ahead next more) ≡ pieces_over (charges_left state states next) (ahead next more))
takes_rows state states piece None more under =
    rw under (flat_map-cons rows_of (charge_paid state (piece ∷ [])) (charges_paid states []), refl)
takes_rows state states piece (Some next) more under = by (next.month == state.month) refl
  where
    by : (b : Bool) → (next.month == state.month) ≡ b
        → (paid_rows (state ∷ states) (piece ∷ next ∷ more) ≡ record { state = state; piece = Some (payment_in piece) } ∷ paid_rows (charges_left state states (Some next)) (next ∷ more))
        × (pieces_over (state ∷ states) (piece ∷ next ∷ more) ≡ pieces_over (charges_left state states (Some next)) (next ∷ more))
    by true also =
        let left : charges_left state states (Some next) ≡ state ∷ states = ap (λ (b : Bool). cond b (state ∷ states) states) also in
        let taken = one_taken state.month piece (next ∷ more) under in
        let first = taken.0 in
        let behind = taken.1 in
        let some : first_of_month state.month (next ∷ more) ≡ next ∷ first_of_month state.month more = (one_taken state.month next more also).0 in
        let rest : List ChargeRow = flat_map rows_of (charges_paid states (behind_month state.month (next ∷ more))) in (
          (λ i. flat_map rows_of (charge_paid state (first i) ∷ charges_paid states (behind i)))
              ∙ flat_map-cons rows_of (charge_paid state (piece ∷ first_of_month state.month (next ∷ more))) (charges_paid states (behind_month state.month (next ∷ more)))
              ∙ ap (λ (rows : List ChargeRow). rows ++ rest) (one_row state piece next (first_of_month state.month (next ∷ more)) (first_of_month state.month more) some)
              ∙ ap (λ (rows : List ChargeRow). record { state = state; piece = Some (payment_in piece) } ∷ rows) (sym (flat_map-cons rows_of (charge_paid state (first_of_month state.month (next ∷ more))) (charges_paid states (behind_month state.month (next ∷ more)))))
              ∙ (λ i. record { state = state; piece = Some (payment_in piece) } ∷ paid_rows (sym left i) (next ∷ more)),
          ap (pieces_over states) behind ∙ ap (λ (cs : List ChargeState). pieces_over cs (next ∷ more)) (sym left),
        )
    by false other =
        rw (under, other) (flat_map-cons rows_of (charge_paid state (piece ∷ [])) (charges_paid states (next ∷ more)), refl)

-- ---- one call

-- what is left from a place on
pub left_from : {X : Type 0} (xs : List X) (place : ℕ) (x : X) → place < length xs → x ≡ slice_index_or xs place x → drop place xs ≡ x ∷ drop (place + 1) xs
left_from [] place x within is = absurd (omega (arith, within))
left_from (y ∷ xs) zero x within is = ap (λ (z : _). z ∷ xs) (sym is)
left_from (y ∷ xs) (suc place) x within is =
    let next : suc (place + 1) ≡ suc place + 1 = omega arith in
    left_from xs place x (omega (arith, within)) is ∙ ap (λ (n : ℕ). x ∷ drop n (y ∷ xs)) next

-- the same as what a call gives
pub takes_one : {S : Type 0} (gives : S → Option PieceRow → S → Type 0) (source new : S) (next following : Option PieceRow) (state : ChargeState) (charges states left : List ChargeState) (row : ChargeRow)
    → charges ≡ state ∷ states → is_under state.month next ≡ true → gives source following new → left ≡ charges_left state states following → row ≡ record { state = state; piece = option_map payment_in next }
    → Takes gives (record { source = source; next = next; charges = charges }) row (record { source = new; next = following; charges = left })
takes_one gives source new None following state charges states left row is under reads left_is row_is = absurd (cc under)
takes_one gives source new (Some piece) following state charges states left row is under reads left_is row_is = record {
  state = state;
  states = states;
  piece = piece;
  charges = is;
  next = refl;
  under = under;
  row_is = row_is;
  reads = reads;
  left = left_is;
}

-- ---- a run of calls

module _ {S : Type 0} (gives : S → Option PieceRow → S → Type 0) (start : S) (states : List ChargeState) where
  -- the pieces that rows tell, and the next one, came from the source
  abbrev CameFrom : List PieceRow → Option PieceRow → S → Type 0
  CameFrom told None source = YieldsThen gives start told None source
  CameFrom told (Some piece) source = Yields gives start (told ++ piece ∷ []) source

  -- calls from the start on gave these rows, and left this
  pub record Ran (now : Paying S) (given : List ChargeRow) : Type 0 where
    pub told : List PieceRow
    pub came : CameFrom told now.next now.source
    pub rows : (more : List PieceRow) → paid_rows states (told ++ ahead now.next more) ≡ given ++ paid_rows now.charges (ahead now.next more)
    pub over : (more : List PieceRow) → pieces_over states (told ++ ahead now.next more) ≡ pieces_over now.charges (ahead now.next more)

  pub begun : (next : Option PieceRow) (source : S) → gives start next source → Ran (record { source = source; next = next; charges = states }) []
  begun None source step = record { told = []; came = (start, refl, step); rows = λ more. refl; over = λ more. refl }
  begun (Some piece) source step = record { told = []; came = (source, step, refl); rows = λ more. refl; over = λ more. refl }

  passes : (now : Paying S) (given : List ChargeRow) (row : ChargeRow) (new : Paying S) → Ran now given → Passes gives now row new → Ran new (given ++ row ∷ [])
  passes now given row new so_far step =
      subst (λ (n : Paying S). Ran n (given ++ row ∷ [])) (sym step.new_is) (record {
        told = so_far.told;
        came = so_far.came;
        rows = λ more.
            let one = passes_rows step.state step.states now.next more step.other in
            so_far.rows more ∙ ap (λ (cs : List ChargeState). given ++ paid_rows cs (ahead now.next more)) step.charges
            ∙ ap (λ (rows : List ChargeRow). given ++ rows) (one.0 ∙ ap (λ (r : ChargeRow). r ∷ paid_rows step.states (ahead now.next more)) (sym step.row_is))
            ∙ sym (append_assoc given (row ∷ []) (paid_rows step.states (ahead now.next more)));
        over = λ more.
            let one = passes_rows step.state step.states now.next more step.other in
            so_far.over more ∙ ap (λ (cs : List ChargeState). pieces_over cs (ahead now.next more)) step.charges ∙ one.1;
      })

  one_more : (told : List PieceRow) (piece : PieceRow) (next : Option PieceRow) (source new : S) → Yields gives start (told ++ piece ∷ []) source → gives source next new → CameFrom (told ++ piece ∷ []) next new
  one_more told piece None source new run step = (source, run, step)
  one_more told piece (Some next) source new run step = Yields-append gives start (told ++ piece ∷ []) source next new run step

  takes : (now : Paying S) (given : List ChargeRow) (row : ChargeRow) (new : Paying S) → Ran now given → Takes gives now row new → Ran new (given ++ row ∷ [])
  takes now given row new so_far step =
      let came : CameFrom so_far.told (Some step.piece) now.source = subst (λ (n : Option PieceRow). CameFrom so_far.told n now.source) step.next so_far.came in record {
        told = so_far.told ++ step.piece ∷ [];
        came = one_more so_far.told step.piece new.next now.source new.source came step.reads;
        rows = λ more.
            let one = takes_rows step.state step.states step.piece new.next more step.under in
            ap (paid_rows states) (append_assoc so_far.told (step.piece ∷ []) (ahead new.next more) ∙ ap (λ (n : Option PieceRow). so_far.told ++ ahead n (ahead new.next more)) (sym step.next))
            ∙ so_far.rows (ahead new.next more)
            ∙ (λ i. given ++ paid_rows (step.charges i) (ahead (step.next i) (ahead new.next more)))
            ∙ ap (λ (rows : List ChargeRow). given ++ rows) (one.0 ∙ (λ i. sym step.row_is i ∷ paid_rows (sym step.left i) (ahead new.next more)))
            ∙ sym (append_assoc given (row ∷ []) (paid_rows new.charges (ahead new.next more)));
        over = λ more.
            let one = takes_rows step.state step.states step.piece new.next more step.under in
            ap (pieces_over states) (append_assoc so_far.told (step.piece ∷ []) (ahead new.next more) ∙ ap (λ (n : Option PieceRow). so_far.told ++ ahead n (ahead new.next more)) (sym step.next))
            ∙ so_far.over (ahead new.next more)
            ∙ (λ i. pieces_over (step.charges i) (ahead (step.next i) (ahead new.next more)))
            ∙ one.1 ∙ (λ i. pieces_over (sym step.left i) (ahead new.next more));
      }

  pub ran : (now new : Paying S) (before given : List ChargeRow) → Ran now before → Yields (GivesPaid gives) now given new → Ran new (before ++ given)
  ran now new before [] so_far is = subst (λ (n : Paying S). Ran n (before ++ [])) is (subst (Ran now) (sym (append-nil before)) so_far)
  ran now new before (row ∷ given) so_far (mid, inl step, run) = subst (Ran new) (append_assoc before (row ∷ []) given) (ran mid new (before ++ row ∷ []) given (passes now before row mid so_far step) run)
  ran now new before (row ∷ given) so_far (mid, inr step, run) = subst (Ran new) (append_assoc before (row ∷ []) given) (ran mid new (before ++ row ∷ []) given (takes now before row mid so_far step) run)

  -- all rows: those of the charges with all pieces that the source gave
  pub told_all : (now new : Paying S) (given : List ChargeRow) → Ran now given → GivesPaid gives now None new
      → (pieces : List PieceRow) × YieldsThen gives start pieces None new.source × (given ≡ paid_rows states pieces) × (pieces_over states pieces ≡ [])
  told_all now new given all (none, end, same) =
      let came : CameFrom all.told None now.source = subst (λ (n : Option PieceRow). CameFrom all.told n now.source) end all.came in
      let source : CameFrom all.told None new.source = subst (λ (n : Paying S). CameFrom all.told None n.source) (sym same) came in
      let rows : paid_rows states (all.told ++ []) ≡ given ++ [] = subst (λ (n : Option PieceRow). paid_rows states (all.told ++ ahead n []) ≡ given ++ paid_rows [] (ahead n [])) end (subst (λ (cs : List ChargeState). paid_rows states (all.told ++ ahead now.next []) ≡ given ++ paid_rows cs (ahead now.next [])) none (all.rows [])) in
      let over : pieces_over states (all.told ++ []) ≡ [] = subst (λ (n : Option PieceRow). pieces_over states (all.told ++ ahead n []) ≡ pieces_over [] (ahead n [])) end (subst (λ (cs : List ChargeState). pieces_over states (all.told ++ ahead now.next []) ≡ pieces_over cs (ahead now.next [])) none (all.over [])) in (
        all.told,
        source,
        sym (append-nil given) ∙ sym rows ∙ ap (paid_rows states) (append-nil all.told),
        sym (ap (pieces_over states) (append-nil all.told)) ∙ over,
      )

  -- more rows than an account has
  wrong : (given : List ChargeRow) (now : Paying S) → Ran now given → length given ≡ most_rows + 1 → GivesWrong gives (ArePaid states) start now.source
  wrong given now all many = by now.next all.came all.rows
    where
      long : (pieces : List PieceRow) (rest : List ChargeRow) → paid_rows states pieces ≡ given ++ rest → ¬ ArePaid states pieces
      long pieces rest is paid =
          let count : length (paid_rows states pieces) ≡ length given + length rest = ap length is ∙ length-append given rest in
          let few = paid.few in
          omega (arith, count, few, many)

      by : (next : Option PieceRow) → CameFrom all.told next now.source → ((more : List PieceRow) → paid_rows states (all.told ++ ahead next more) ≡ given ++ paid_rows now.charges (ahead next more)) → GivesWrong gives (ArePaid states) start now.source
      by None came rows = (all.told, inr (came, λ paid. long (all.told ++ []) (paid_rows now.charges []) (rows []) (subst (ArePaid states) (sym (append-nil all.told)) paid)))
      by (Some piece) came rows = (all.told ++ piece ∷ [], inl (came, λ more paid. long (all.told ++ piece ∷ more) (paid_rows now.charges (piece ∷ more)) (rows more) (subst (ArePaid states) (append_assoc all.told (piece ∷ []) more) paid)))

  -- why a document over the rows is refused: as one over the pieces, which must stand under the charges
  pub cut_off : (refuses : S → Fault → S → Type 0) (first new : Paying S) (fault : Fault) → Ran first [] → IsRefused (GivesPaid gives) (RefusesPaid gives refuses) first fault new → IsCutOffUnless gives refuses (ArePaid states) start fault new.source
  cut_off refuses first new fault so_far (inl (is, (given, inl run))) =
      let all = ran first new [] given so_far run in
      inl (inl (is, read all.told new.next new.source all.came))
    where
      read : (told : List PieceRow) (next : Option PieceRow) (source : S) → CameFrom told next source → Reads gives start source
      read told None source came = (told, inr came)
      read told (Some piece) source came = (told ++ piece ∷ [], inl came)
  cut_off refuses first new fault so_far (inl (is, (given, inr (last, run, end)))) =
      let all = told_all last new given (ran first last [] given so_far run) end in
      inl (inl (is, (all.0, inr all.1)))
  cut_off refuses first new fault so_far (inr (inl (is, (given, run, many)))) =
      let all = ran first new [] given so_far run in
      inr (is, wrong given new all many)
  cut_off refuses first new fault so_far (inr (inr (given, last, run, ((piece, at), inl why)))) =
      let all = ran first last [] given so_far run in
      inl (inr (all.told ++ piece ∷ [], last.source, subst (λ (n : Option PieceRow). CameFrom all.told n last.source) at all.came, why))
  cut_off refuses first new fault so_far (inr (inr (given, last, run, ((piece, at), inr (is, none, same))))) =
      let all = ran first last [] given so_far run in
      let came : CameFrom all.told (Some piece) last.source = subst (λ (n : Option PieceRow). CameFrom all.told n last.source) at all.came in
      inr (
        is,
        (
          all.told ++ piece ∷ [],
          inl (
            subst (λ (s : S). Yields gives start (all.told ++ piece ∷ []) s) (sym same) came,
            λ more paid.
                let over : pieces_over states (all.told ++ piece ∷ more) ≡ piece ∷ more = subst (λ (n : Option PieceRow). pieces_over states (all.told ++ ahead n more) ≡ pieces_over [] (ahead n more)) at (subst (λ (cs : List ChargeState). pieces_over states (all.told ++ ahead last.next more) ≡ pieces_over cs (ahead last.next more)) none (all.over more)) in
                let left : piece ∷ more ≡ [] = sym over ∙ ap (pieces_over states) (sym (append_assoc all.told (piece ∷ []) more)) ∙ paid.none_over in
                absurd (cc left),
          ),
        ),
      )

-- ---- a reader of the rows

module _ {R : Type 0} (gives : R → Option PieceRow → R → Type 0) where
  -- its calls keep its source
  kept : (old new : PaidRows R) (given : List ChargeRow) → Yields (GivesRow gives) old given new → KeepsSource old new
  kept old new [] is = subst (KeepsSource old) is refl
  kept old new (row ∷ given) (mid, step, run) = kept mid new given run ∙ step.0

  calls : (old new : PaidRows R) (given : List ChargeRow) → Yields (GivesRow gives) old given new → Yields (GivesPaid gives) (paying old) given (paying new)
  calls old new [] is = ap paying is
  calls old new (row ∷ given) (mid, step, run) = (paying mid, step.1, calls mid new given run)

  pub kept_to_end : (old new : PaidRows R) (given : List ChargeRow) → YieldsThen (GivesRow gives) old given None new → KeepsSource old new
  kept_to_end old new given (last, run, end) = end.0 ∙ kept old last given run

  pub kept_refused : (refuses : R → Fault → R → Type 0) (old new : PaidRows R) (fault : Fault) → IsRefused (GivesRow gives) (RefusesRow gives refuses) old fault new → KeepsSource old new
  kept_refused refuses old new fault (inl (is, (given, inl run))) = kept old new given run
  kept_refused refuses old new fault (inl (is, (given, inr run))) = kept_to_end old new given run
  kept_refused refuses old new fault (inr (inl (is, (given, run, many)))) = kept old new given run
  kept_refused refuses old new fault (inr (inr (given, last, run, why))) = why.0 ∙ kept old last given run

  called : (refuses : R → Fault → R → Type 0) (old new : PaidRows R) (fault : Fault) → IsRefused (GivesRow gives) (RefusesRow gives refuses) old fault new → IsRefused (GivesPaid gives) (RefusesPaid gives refuses) (paying old) fault (paying new)
  called refuses old new fault (inl (is, (given, inl run))) = inl (is, (given, inl (calls old new given run)))
  called refuses old new fault (inl (is, (given, inr (last, run, end)))) = inl (is, (given, inr (paying last, calls old last given run, end.1)))
  called refuses old new fault (inr (inl (is, (given, run, many)))) = inr (inl (is, (given, calls old new given run, many)))
  called refuses old new fault (inr (inr (given, last, run, why))) = inr (inr (given, paying last, calls old last given run, why.1))

  module _ (start : R) (states : List ChargeState) (old new : PaidRows R) (all : old.place ≡ 0) (charges_are : old.charges.now ≡ states) (step : gives start old.next.now old.pieces.now) where
    charges : paying old ≡ record { source = old.pieces.now; next = old.next.now; charges = states }
    charges = λ i. record { source = old.pieces.now; next = old.next.now; charges = drop (all i) (charges_are i) }

    first : Ran gives start states (paying old) []
    first = subst (λ (p : Paying R). Ran gives start states p []) (sym charges) (begun gives start states old.next.now old.pieces.now step)

    pub rows_told : (given : List ChargeRow) → YieldsThen (GivesRow gives) old given None new → length given ≤ most_rows
        → (pieces : List PieceRow) × YieldsThen gives start pieces None new.pieces.now × ArePaid states pieces × (given ≡ paid_rows states pieces)
    rows_told given (last, run, end) few =
        let all = told_all gives start states (paying last) (paying new) given (ran gives start states (paying old) (paying last) [] given first (calls old last given run)) end.1 in
        (all.0, all.1, record { none_over = all.3; few = subst (λ (rows : List ChargeRow). length rows ≤ most_rows) all.2 few }, all.2)

    pub rows_cut_off : (refuses : R → Fault → R → Type 0) (fault : Fault) → IsRefused (GivesRow gives) (RefusesRow gives refuses) old fault new → IsCutOffUnless gives refuses (ArePaid states) start fault new.pieces.now
    rows_cut_off refuses fault why = cut_off gives start states refuses (paying old) (paying new) fault first (called refuses old new fault why)
