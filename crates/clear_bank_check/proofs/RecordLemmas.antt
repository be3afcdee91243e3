-- The records of a bank file, looked at once more.
use Rattle.std.proofs.Common.{◌≡◌, ◌≢◌, ℕ, zero, suc, ◌+◌, ◌-◌, ◌≤◌, true, false, List, [], ◌∷◌, ◌++◌, length, map, take, Bor, Option, Some, None, option_map, refl, sym, ap, ◌∙◌, inl, inr, lit≤, arith}
use Rattle.std.proofs.lemmas.List.{take_all}
use Rattle.std.proofs.lemmas.Option.{slice_get-map, slice_get-get_or, slice_get_past}
use Rattle.std.specs.Prelude.{slice_get}
use Rattle.std.specs.Slice.{IsItemAt}
use Rattle.csv.specs.Machine.{Read, next_record}
use Rattle.csv.proofs.ReadFacts.{rows-more, rows-end}
use Rattle.csv.specs.Reading.{Reached, ReadRecord, Ready, default_config, names_headers, reader_config, reader_headers, reader_state, reader_trim, records, records_from, records_next, source_of, took_first}
use Rattle.csv.specs.Records.{Row, fields_of}
use Rattle.csv.specs.declared.parser.Config.{Config}
use Rattle.csv.specs.declared.parser.State.{State}
use Rattle.csv.specs.declared.parser.State.TheVariants as st
use Rattle.csv.specs.declared.reader.Reader.{Reader}
use Rattle.csv.specs.declared.reader.Trim.TheVariants as trim
use Rattle.clear_bank.proofs.ReaderLemmas.{reached-all, reached-size}
use Rattle.clear_bank.specs.Files.{Fields}
use Rattle.clear_bank_check.specs.BankFound.{record_of}

-- ---- the records of a text, as a reader reaches them

-- the records that were reached are the first of the text
reached-first : (config : Config) (s : State) (xs : List ℕ) (rows : List Fields) (s2 : State) (ys : List ℕ) (m : ℕ) → Reached config s xs rows s2 ys → length rows ≤ m
    → take (length rows) (records_from config m s xs) ≡ rows
unfolding Reached records_from
reached-first config s xs [] s2 ys m h few = refl
reached-first config s xs (r ∷ rows) s2 ys zero h few = absurd (omega (arith, few))
reached-first config s xs (r ∷ rows) s2 ys (suc m) h few =
    let rest = reached-first config h.0.1 h.0.2 rows s2 ys m h.3 (omega (arith, few)) in
    ap (λ read. take (suc (length rows)) (records_next (records_from config m) read)) h.1 ∙ (λ i. sym h.2 i ∷ rest i)

few-records : (config : Config) (m : ℕ) (s : State) (xs : List ℕ) → length (records_from config m s xs) ≤ m
unfolding records_from
few-records config zero s xs = lit≤ tt
few-records config (suc m) s xs = by_read (next_record config s [] [] xs) (few-records config m)
  where
    by_read : (read : Option Read) → ((s : State) (xs : List ℕ) → length (records_from config m s xs) ≤ m) → length (records_next (records_from config m) read) ≤ suc m
    by_read None rest = omega arith
    by_read (Some p) rest = omega (arith, rest p.1 p.2)

-- a reader has given these records of a text, and goes on behind them
pub record IsReading (config : Config) (text : List ℕ) (reader : Reader (Bor (List ℕ))) (rows : List Fields) : Type 0 where
  pub trims : reader_trim reader ≡ trim.None
  pub ready : Ready reader
  pub reads : reader_config reader ≡ config
  pub rest : List ℕ
  pub source : source_of (λ (s : Bor (List ℕ)). Some s.now) reader ≡ Some rest
  pub reached : Reached config st.StartRecord text rows (reader_state reader) rest

pub reading-starts : (config : Config) (text : List ℕ) (reader : Reader (Bor (List ℕ))) → reader_trim reader ≡ trim.None → names_headers reader ≡ false → reader_headers reader ≡ None
    → reader_config reader ≡ config → reader_state reader ≡ st.StartRecord → source_of (λ (s : Bor (List ℕ)). Some s.now) reader ≡ Some text → IsReading config text reader []
unfolding Reached
reading-starts config text reader trims named headers reads state source =
    record { trims = trims; ready = inr (inr (named, headers)); reads = reads; rest = text; source = source; reached = (sym state, refl) }

-- one more record
pub reading-on : (config : Config) (text : List ℕ) (old new : Reader (Bor (List ℕ))) (rows : List Fields) (row : Fields) → IsReading config text old rows
    → ReadRecord (λ (s : Bor (List ℕ)). Some s.now) old new true row × (took_first new ≡ true) → IsReading config text new (rows ++ row ∷ [])
reading-on config text old new rows row h r =
    let m = rows-more (λ (s : Bor (List ℕ)). Some s.now) old new row config st.StartRecord text h.rest rows h.reads h.source h.reached r.0 in
    record { trims = r.0.3 ∙ h.trims; ready = inl r.1; reads = r.0.2 ∙ h.reads; rest = m.0; source = m.1; reached = m.2 }

-- so many records were given
pub reading-first : (config : Config) (text : List ℕ) (reader : Reader (Bor (List ℕ))) (rows : List Fields) (n : ℕ) → IsReading config text reader rows → length rows ≡ n → rows ≡ take n (records config text)
reading-first config text reader rows n h e =
    let within = reached-size config text rows (reader_state reader) h.rest h.reached in
    let few = few-records config (length text + 1) st.StartRecord text in
    sym (ap (λ n. take n (records config text)) (sym e) ∙ reached-first config st.StartRecord text rows (reader_state reader) h.rest (length text + 1) h.reached (omega (arith, within, few)))

-- no more records came
pub reading-ends : (config : Config) (text : List ℕ) (old new : Reader (Bor (List ℕ))) (rows : List Fields) (n : ℕ) → IsReading config text old rows
    → ReadRecord (λ (s : Bor (List ℕ)). Some s.now) old new false [] → length rows ≤ n → rows ≡ take n (records config text)
reading-ends config text old new rows n h r few =
    let all = reached-all config text rows (reader_state old) h.rest h.reached (rows-end (λ (s : Bor (List ℕ)). Some s.now) old new [] config h.rest h.reads h.source r) in
    sym (ap (take n) all ∙ take_all n rows few)

-- a reader that parts fields by this byte reads else as by default
pub by_delimiter : (builder reader : Config) (d : ℕ) → reader ≡ record builder { delimiter = d } → builder ≡ default_config → reader ≡ record default_config { delimiter = d }
by_delimiter builder reader d e is = e ∙ ap (λ (it : Config). record it { delimiter = d }) is

-- ---- one record

-- the item at a place, by its fields
item_at : (rows : List Row) (n : ℕ) (result : Option (Bor Row)) → IsItemAt rows n result → option_map (λ (row : Bor Row). fields_of row.now) result ≡ option_map fields_of (slice_get rows n)
item_at rows n None h = ap (option_map fields_of) (sym (slice_get_past rows n h.3))
item_at rows n (Some row) h = ap (option_map fields_of) (sym (slice_get-get_or rows n row.now h.3.0 ∙ ap Some (sym (h.3.1 row.now))))

-- the record of a number
pub at_number : (rows : List Row) (line : ℕ) (result : Option (Bor Row)) → line ≢ 0 → IsItemAt rows (line - 1) result → option_map (λ (row : Bor Row). fields_of row.now) result ≡ record_of line (map fields_of rows)
at_number rows zero result some h = absurd (some refl)
at_number rows (suc n) result some h =
    let e : suc n - 1 ≡ n = omega arith in
    item_at rows (suc n - 1) result h ∙ ap (λ k. option_map fields_of (slice_get rows k)) e ∙ sym (slice_get-map fields_of rows n)
