-- The records of a text, as a reader reaches them one after another.
use Rattle.std.proofs.Common.{◌≡◌, ℕ, zero, suc, ◌+◌, ◌-◌, ◌<◌, ◌≤◌, ◌==◌, ◌&&◌, Bool, true, false, cond, List, [], ◌∷◌, ◌++◌, length, take, drop, Some, None, nat_eq, nat_lt, not, refl, sym, ap, ◌∙◌, arith, append-nil, length-append, inl, inr, Bor, Result, Ok, Err}
use Rattle.std.proofs.lemmas.Bool.{cases_Bool}
use Rattle.std.proofs.lemmas.Bool.Decides.{nat_tests}
use Rattle.std.specs.Cmp.Lexicographic.{pointwise}
use Rattle.csv.specs.Machine.{Read, next_record, step, in_field, start_field, start_record, after_end, ends_with, is_byte, line_feed, is_end, ends_at_end, fields_after, field_after}
use Rattle.csv.proofs.ReadFacts.{rows-more, rows-end}
use Rattle.csv.specs.Reading.{ReadRecord, is_bom, Reached, Ready, default_config, is_flexible, names_headers, reader_config, reader_headers, reader_state, reader_trim, records, records_from, records_next, source_of, strip_bom, took_first}
use Rattle.csv.specs.declared.reader.Reader.{Reader}
use Rattle.csv.specs.declared.reader.Trim.TheVariants as trim
use Rattle.csv.specs.declared.parser.Config.{Config}
use Rattle.csv.specs.declared.parser.State.{State}
use Rattle.csv.specs.declared.parser.State.TheVariants as st
use Rattle.csv.specs.declared.parser.Action.{Action}
use Rattle.csv.specs.declared.parser.Action.TheVariants as act
use Rattle.csv.specs.declared.parser.Terminator.{Terminator}
use Rattle.csv.specs.declared.parser.Terminator.TheVariants as term
use Rattle.clear_bank.specs.Files.{Fields, begins_with_r, file_lines, is_over, limited_records, record_lines}
use Rattle.clear_bank.specs.declared.fault.BankFault.{BankFault}
use Rattle.clear_values.specs.declared.lines.BankLine.{BankLine}
use Rattle.clear_bank.specs.declared.fault.BankFault.TheVariants.{OverLimit, BadCsv}
use Rattle.clear_bank.specs.declared.fields.BankField.TheVariants.{Reference}
use Rattle.clear_bank.specs.declared.fields.RecordFault.TheVariants.{Field}

-- ---- the byte order mark

and_false : (a : Bool) → a && false ≡ false
and_false true = refl
and_false false = refl

mark_at : (a b c : ℕ) → (a == 239) && ((b == 187) && ((c == 191) && true)) ≡ ((a == 239) && (b == 187)) && (c == 191)
mark_at a b c = grind (arith, nat_tests)

pub mark-there : (bytes : List ℕ) → pointwise nat_eq (take 3 bytes) (239 ∷ 187 ∷ 191 ∷ []) ≡ true → drop 3 bytes ≡ strip_bom bytes
unfolding strip_bom
mark-there [] h = refl
mark-there (a ∷ []) h = cc (sym (and_false (a == 239)) ∙ h)
mark-there (a ∷ b ∷ []) h = cc (sym (ap (λ t. (a == 239) && t) (and_false (b == 187)) ∙ and_false (a == 239)) ∙ h)
mark-there (a ∷ b ∷ c ∷ bytes) h = sym (ap (λ t. cond t bytes (a ∷ b ∷ c ∷ bytes)) (sym (mark_at a b c) ∙ h))

pub mark-not-there : (bytes : List ℕ) → pointwise nat_eq (take 3 bytes) (239 ∷ 187 ∷ 191 ∷ []) ≡ false → bytes ≡ strip_bom bytes
unfolding strip_bom
mark-not-there [] h = refl
mark-not-there (a ∷ []) h = refl
mark-not-there (a ∷ b ∷ []) h = refl
mark-not-there (a ∷ b ∷ c ∷ bytes) h = sym (ap (λ t. cond t bytes (a ∷ b ∷ c ∷ bytes)) (sym (mark_at a b c) ∙ h))

-- ---- a record takes at least one byte

-- where the record ends, the end of the text ends no other one
record EndsWell (p : State × Action) : Type 0 where
  pub ends : is_end p.1 ≡ true → ends_at_end p.0 ≡ false

either_ends : (b : Bool) {p q : State × Action} → EndsWell p → EndsWell q → EndsWell (cond b p q)
either_ends true h k = h
either_ends false h k = k

skips : (s : State) → EndsWell (s, act.Skip)
skips s = record { ends = λ e. cc e }

copies : (s : State) → EndsWell (s, act.Copy)
copies s = record { ends = λ e. cc e }

ends_field : (s : State) → EndsWell (s, act.EndField)
ends_field s = record { ends = λ e. cc e }

after_end_ends : (t : Terminator) (c : ℕ) → ends_at_end (after_end t c) ≡ false
after_end_ends term.CRLF c = elim (cases_Bool (c == 13)) [ inl hit ↦ ap (λ b. ends_at_end (cond b st.AfterCr st.StartRecord)) hit | inr miss ↦ ap (λ b. ends_at_end (cond b st.AfterCr st.StartRecord)) miss ]
after_end_ends (term.Any t) c = refl

ends_record : (t : Terminator) (c : ℕ) → EndsWell (after_end t c, act.EndRecord)
ends_record t c = record { ends = λ e. after_end_ends t c }

in_field_ends : (cfg : Config) (c : ℕ) → EndsWell (in_field cfg c)
in_field_ends cfg c =
    either_ends (c == cfg.delimiter) (ends_field st.StartField) (either_ends (ends_with cfg.terminator c) (ends_record cfg.terminator c) (copies st.InField))

start_field_ends : (cfg : Config) (c : ℕ) → EndsWell (start_field cfg c)
start_field_ends cfg c = either_ends (cfg.quoting && (c == cfg.quote)) (skips st.InQuoted) (in_field_ends cfg c)

start_record_ends : (cfg : Config) (c : ℕ) → EndsWell (start_record cfg c)
start_record_ends cfg c =
    either_ends (ends_with cfg.terminator c) (skips st.StartRecord) (either_ends (is_byte cfg.comment c) (skips st.InComment) (start_field_ends cfg c))

step_ends : (cfg : Config) (s : State) (c : ℕ) → EndsWell (step cfg s c)
step_ends cfg st.StartRecord c = start_record_ends cfg c
step_ends cfg st.StartField c = start_field_ends cfg c
step_ends cfg st.InField c = in_field_ends cfg c
step_ends cfg st.InQuoted c =
    either_ends (cfg.quoting && (c == cfg.quote)) (skips st.AfterQuote) (either_ends (cfg.quoting && is_byte cfg.escape c) (skips st.InEscape) (copies st.InQuoted))
step_ends cfg st.InEscape c = copies st.InQuoted
step_ends cfg st.AfterQuote c = either_ends (cfg.quoting && cfg.double_quote && (c == cfg.quote)) (copies st.InQuoted) (in_field_ends cfg c)
step_ends cfg st.InComment c = either_ends (c == line_feed) (skips st.StartRecord) (skips st.InComment)
step_ends cfg st.AfterCr c = either_ends (c == line_feed) (skips st.StartRecord) (start_record_ends cfg c)

-- a record leaves no more bytes than there were
next-shrinks : (cfg : Config) (s : State) (fields : Fields) (field xs : List ℕ) (r : Read) → next_record cfg s fields field xs ≡ Some r
    → (length r.2 ≤ length xs) × (ends_at_end r.1 ≡ false)
unfolding next_record
next-shrinks cfg s fields field [] r e =
    elim (cases_Bool (ends_at_end s)) [
      | inl hit ↦
          let last : Read = (fields ++ (field ∷ []), st.StartRecord, []) in
          let k : Some last ≡ Some r = sym (ap (λ b. cond b (Some last) None) hit) ∙ e in
          let is : last ≡ r = cc in
          (omega (arith, ap (λ (q : Read). length q.2) is), sym (ap (λ (q : Read). ends_at_end q.1) is))
      | inr miss ↦
          let last : Read = (fields ++ (field ∷ []), st.StartRecord, []) in
          let k : None ≡ Some r = sym (ap (λ b. cond b (Some last) None) miss) ∙ e in
          cc
    ]
next-shrinks cfg s fields field (c ∷ rest) r e =
    let p = step cfg s c in
    let last : Read = (fields_after p.1 fields field, p.0, rest) in
    let more = next_record cfg p.0 (fields_after p.1 fields field) (field_after p.1 c field) rest in
    elim (cases_Bool (is_end p.1)) [
      | inl hit ↦
          let k : Some last ≡ Some r = sym (ap (λ b. cond b (Some last) more) hit) ∙ e in
          let is : last ≡ r = cc in
          (omega (arith, ap (λ (q : Read). length q.2) is), sym (ap (λ (q : Read). ends_at_end q.1) is) ∙ (step_ends cfg s c).ends hit)
      | inr miss ↦
          let k : more ≡ Some r = sym (ap (λ b. cond b (Some last) more) miss) ∙ e in
          let h = next-shrinks cfg p.0 (fields_after p.1 fields field) (field_after p.1 c field) rest r k in
          (omega (arith, h.0), h.1)
    ]

-- between records, each record takes at least one byte
next-takes : (cfg : Config) (s : State) (xs : List ℕ) (r : Read) → ends_at_end s ≡ false → next_record cfg s [] [] xs ≡ Some r
    → (length r.2 < length xs) × (ends_at_end r.1 ≡ false)
unfolding next_record
next-takes cfg s [] r between e =
    let last : Read = (([] ∷ []), st.StartRecord, []) in
    let k : None ≡ Some r = sym (ap (λ b. cond b (Some last) None) between) ∙ e in
    cc
next-takes cfg s (c ∷ rest) r between e =
    let p = step cfg s c in
    let last : Read = (fields_after p.1 [] [], p.0, rest) in
    let more = next_record cfg p.0 (fields_after p.1 [] []) (field_after p.1 c []) rest in
    elim (cases_Bool (is_end p.1)) [
      | inl hit ↦
          let k : Some last ≡ Some r = sym (ap (λ b. cond b (Some last) more) hit) ∙ e in
          let is : last ≡ r = cc in
          (omega (arith, ap (λ (q : Read). length q.2) is), sym (ap (λ (q : Read). ends_at_end q.1) is) ∙ (step_ends cfg s c).ends hit)
      | inr miss ↦
          let k : more ≡ Some r = sym (ap (λ b. cond b (Some last) more) miss) ∙ e in
          let h = next-shrinks cfg p.0 (fields_after p.1 [] []) (field_after p.1 c []) rest r k in
          (omega (arith, h.0), h.1)
    ]

-- ---- the records that were reached are the first of the text

record FirstRecords (cfg : Config) (s : State) (xs : List ℕ) (rows : List Fields) (s2 : State) (ys : List ℕ) : Type 0 where
  pub size : length rows + length ys ≤ length xs
  pub between : ends_at_end s2 ≡ false
  pub first : (m n : ℕ) → m ≡ length rows + n → records_from cfg m s xs ≡ rows ++ records_from cfg n s2 ys

records-step : (cfg : Config) (s : State) (xs : List ℕ) (p : Read) (r : Fields) (rs : List Fields) (m : ℕ)
    → next_record cfg s [] [] xs ≡ Some p → r ≡ p.0 → records_from cfg m p.1 p.2 ≡ rs → records_from cfg (suc m) s xs ≡ r ∷ rs
unfolding records_from
records-step cfg s xs p r rs m e is h = ap (records_next (records_from cfg m)) e ∙ (λ i. sym is i ∷ h i)

reached-first : (cfg : Config) (s : State) (xs : List ℕ) (rows : List Fields) (s2 : State) (ys : List ℕ) → ends_at_end s ≡ false → Reached cfg s xs rows s2 ys
    → FirstRecords cfg s xs rows s2 ys
unfolding Reached
reached-first cfg s xs [] s2 ys between h =
    record {
      size = omega (arith, ap (λ (l : List ℕ). length l) h.1);
      between = sym (ap ends_at_end h.0) ∙ between;
      first = λ m n e. let k : m ≡ n = omega (arith, e) in λ i. records_from cfg (k i) (h.0 i) (h.1 i);
    }
reached-first cfg s xs (r ∷ rs) s2 ys between h =
    let taken = next-takes cfg s xs h.0 between h.1 in
    let rest = reached-first cfg h.0.1 h.0.2 rs s2 ys taken.1 h.3 in
    record { size = omega (arith, taken.0, rest.size); between = rest.between; first = step rest }
  where
    step : FirstRecords cfg h.0.1 h.0.2 rs s2 ys → (m n : ℕ) → m ≡ suc (length rs) + n → records_from cfg m s xs ≡ (r ∷ rs) ++ records_from cfg n s2 ys
    step rest zero n e = absurd (omega arith)
    step rest (suc m) n e = records-step cfg s xs h.0 r (rs ++ records_from cfg n s2 ys) m h.1 h.2 (rest.first m n (omega arith))

-- where no more record comes, those are all
none-left : (cfg : Config) (s : State) (ys : List ℕ) (n : ℕ) → next_record cfg s [] [] ys ≡ None → records_from cfg n s ys ≡ []
unfolding records_from
none-left cfg s ys zero e = refl
none-left cfg s ys (suc n) e = ap (records_next (records_from cfg n)) e

pub reached-all : (cfg : Config) (xs : List ℕ) (rows : List Fields) (s : State) (ys : List ℕ) → Reached cfg st.StartRecord xs rows s ys → next_record cfg s [] [] ys ≡ None
    → records cfg xs ≡ rows
reached-all cfg xs rows s ys h e =
    let f = reached-first cfg st.StartRecord xs rows s ys refl h in
    let n = length xs + 1 - length rows in
    f.first (length xs + 1) n (omega (arith, f.size)) ∙ ap (λ rs. rows ++ rs) (none-left cfg s ys n e) ∙ append-nil rows

-- no more than the text's records are reached
pub reached-size : (cfg : Config) (xs : List ℕ) (rows : List Fields) (s : State) (ys : List ℕ) → Reached cfg st.StartRecord xs rows s ys → length rows ≤ length (records cfg xs)
reached-size cfg xs rows s ys h =
    let f = reached-first cfg st.StartRecord xs rows s ys refl h in
    let n = length xs + 1 - length rows in
    let e = f.first (length xs + 1) n (omega (arith, f.size)) in
    omega (arith, ap (λ (rs : List Fields). length rs) e, length-append rows (records_from cfg n s ys))

-- ---- a reader at work

-- a reader has given these records of a text, and goes on behind them
pub record IsReading (text : List ℕ) (reader : Reader (Bor (List ℕ))) (rows : List Fields) : Type 0 where
  pub trims : reader_trim reader ≡ trim.None
  pub ready : Ready reader
  pub flexible : is_flexible reader ≡ true
  pub config : reader_config reader ≡ default_config
  pub rest : List ℕ
  pub source : source_of (λ (s : Bor (List ℕ)). Some s.now) reader ≡ Some rest
  pub reached : Reached default_config st.StartRecord text rows (reader_state reader) rest

pub reading-starts : (text : List ℕ) (reader : Reader (Bor (List ℕ))) (rows : List Fields) → reader_trim reader ≡ trim.None → names_headers reader ≡ false → reader_headers reader ≡ None
    → is_flexible reader ≡ true → reader_config reader ≡ default_config → reader_state reader ≡ st.StartRecord → source_of (λ (s : Bor (List ℕ)). Some s.now) reader ≡ Some text → rows ≡ []
    → IsReading text reader rows
unfolding Reached
reading-starts text reader rows trims named headers flexible config state source e =
    rw e (record { trims = trims; ready = inr (inr (named, headers)); flexible = flexible; config = config; rest = text; source = source; reached = (sym state, refl) })

-- one more record
pub reading-on : (text : List ℕ) (old new : Reader (Bor (List ℕ))) (rows : List Fields) (row : Fields) → IsReading text old rows
    → ReadRecord (λ (s : Bor (List ℕ)). Some s.now) old new true row × (took_first new ≡ true) × (is_flexible new ≡ is_flexible old)
    → IsReading text new (rows ++ row ∷ [])
reading-on text old new rows row h r =
    let m = rows-more (λ (s : Bor (List ℕ)). Some s.now) old new row default_config st.StartRecord text h.rest rows h.config h.source h.reached r.0 in
    record { trims = r.0.3 ∙ h.trims; ready = inl r.1; flexible = r.2 ∙ h.flexible; config = r.0.2 ∙ h.config; rest = m.0; source = m.1; reached = m.2 }

-- no more records
pub reading-ends : (text : List ℕ) (old new : Reader (Bor (List ℕ))) (rows : List Fields) → IsReading text old rows → ReadRecord (λ (s : Bor (List ℕ)). Some s.now) old new false []
    → records default_config text ≡ rows
reading-ends text old new rows h r =
    reached-all default_config text rows (reader_state old) h.rest h.reached (rows-end (λ (s : Bor (List ℕ)). Some s.now) old new [] default_config h.rest h.config h.source r)

pub reading-size : (text : List ℕ) (reader : Reader (Bor (List ℕ))) (rows : List Fields) → IsReading text reader rows → length rows ≤ length (records default_config text)
reading-size text reader rows h = reached-size default_config text rows (reader_state reader) h.rest h.reached

-- ---- the limit

no_more : (a b : ℕ) → b ≤ a + 1 → nat_lt a (b - 1) ≡ false
no_more a b h = grind (arith, nat_tests)

more : (a b : ℕ) → a + 2 ≤ b → nat_lt a (b - 1) ≡ true
more a b h = grind (arith, nat_tests)

pub within-limit : (limit : ℕ) (text : List ℕ) (rows : List Fields) → records default_config text ≡ rows → length rows ≤ limit + 1 → limited_records limit text ≡ Ok rows
within-limit limit text rows e h =
    ap (λ all. cond (is_over limit all) (Err OverLimit) (Ok all)) e ∙ ap (λ b. cond b (Err OverLimit) (Ok rows)) (no_more limit (length rows) h)

pub over-limit : (limit : ℕ) (text : List ℕ) → limit + 2 ≤ length (records default_config text) → limited_records limit text ≡ Err OverLimit
over-limit limit text h =
    ap (λ b. cond b (Err OverLimit) (Ok (records default_config text))) (more limit (length (records default_config text)) h)

-- a text that begins with r has no mark
pub strip_bom-r : (text : List ℕ) → begins_with_r text ≡ true → strip_bom text ≡ text
unfolding strip_bom
strip_bom-r [] h = refl
strip_bom-r (a ∷ []) h = refl
strip_bom-r (a ∷ b ∷ []) h = refl
strip_bom-r (a ∷ b ∷ c ∷ text) h =
    let plain : is_bom a b c ≡ false = grind (arith, nat_tests) in
    ap (λ t. cond t text (a ∷ b ∷ c ∷ text)) plain

-- ---- what a file says, by the text behind the mark

limited_lines : Result (List Fields) BankFault → Result (List BankLine) BankFault
limited_lines (Ok rows) = record_lines rows
limited_lines (Err fault) = Err fault

either : (over : Bool) (rows : List Fields) → cond over (Err OverLimit) (record_lines rows) ≡ limited_lines (cond over (Err OverLimit) (Ok rows))
unfolding limited_lines
either true rows = refl
either false rows = refl

file_lines-r : (limit : ℕ) (file text : List ℕ) → text ≡ strip_bom file → begins_with_r text ≡ true → file_lines limit file ≡ limited_lines (limited_records limit (strip_bom text))
file_lines-r limit file text e h =
    ap (λ b. cond (not b) (Err (BadCsv 1 (Field Reference))) (cond (is_over limit (records default_config (strip_bom file))) (Err OverLimit) (record_lines (records default_config (strip_bom file))))) (ap begins_with_r (sym e) ∙ h)
    ∙ either (is_over limit (records default_config (strip_bom file))) (records default_config (strip_bom file))
    ∙ ap (λ t. limited_lines (limited_records limit t)) (sym e ∙ sym (strip_bom-r text h))

-- a file whose records are within the limit, and one whose records are not
pub file_lines-within : (limit : ℕ) (file text : List ℕ) (rows : List Fields) → text ≡ strip_bom file → begins_with_r text ≡ true → limited_records limit (strip_bom text) ≡ Ok rows
    → file_lines limit file ≡ record_lines rows
unfolding limited_lines
file_lines-within limit file text rows e h k = file_lines-r limit file text e h ∙ ap limited_lines k

pub file_lines-over : (limit : ℕ) (file text : List ℕ) (fault : BankFault) → text ≡ strip_bom file → begins_with_r text ≡ true → limited_records limit (strip_bom text) ≡ Err fault
    → file_lines limit file ≡ Err fault
unfolding limited_lines
file_lines-over limit file text fault e h k = file_lines-r limit file text e h ∙ ap limited_lines k
