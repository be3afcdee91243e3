use Rattle.std.proofs.Common.{◌+◌, ◌∙◌, ap, map, ◌∷◌, [], true, arith, length-append}
use Rattle.std.proofs.lemmas.List.{length-map, map-append}
use Rattle.csv.specs.Reading.{builder_config, strip_bom, with_config, with_flexible}
use Rattle.csv.specs.Records.{fields_of}
use Rattle.csv.specs.declared.reader.ReaderBuilder.{ReaderBuilder}
use Rattle.clear_bank_check.proofs.RecordLemmas.{by_delimiter, reading-ends, reading-first, reading-on, reading-starts}
use Rattle.clear_bank_check.proofs.records.read_records.Goals as goal

pub loop-row-init : goal.loop-row-init
loop-row-init c =
    let fr = c.from_reader-reader.ensures in
    let flexible = c.flexible.ensures ∙ ap (λ b. with_flexible b true) c.has_headers.ensures in
    let e = c.delimiter.ensures ∙ ap (λ (b : ReaderBuilder). with_config b (record (builder_config b) { delimiter = c.args.delimiter })) flexible in
    let start = c.into_iter-row-iterator.ensures.into_iter_gives in
    let rdr = c.into_byte_records-row-items.ensures.rdr in
    let left = c.into_byte_records-row-items.ensures.left in
    rw (start, rdr, c.new-rows.ensures.items) (record {
      reading = reading-starts _ (strip_bom c.args.bytes.now) c.from_reader-reader.result (rw e at fr.trim ∙ c.new.ensures.trim) (rw e at fr.has_headers) fr.headers
          (by_delimiter _ _ _ (rw e at fr.config) c.new.ensures.config) fr.state fr.source;
      turns = left;
      within = omega arith;
    })

pub loop-row-preserved : goal.loop-row-preserved
loop-row-preserved c =
    let h = c.loop-row.invariant in
    let steps = c.next.ensures.steps h.turns h.reading.trims in
    let row = rw (c.in-Some.is, c.in-Ok.is) at (steps.0 h.reading.ready) in
    let on = reading-on _ (strip_bom c.args.bytes.now) c.loop-row.row-iterator.rdr c.next.new.self.rdr (map fields_of c.loop-row.rows.items) (fields_of c.in-Ok.row) h.reading (row.0, row.1) in
    rw c.in_ok-push.ensures.items (record {
      reading = rw (map-append fields_of c.loop-row.rows.items (c.in-Ok.row ∷ [])) on;
      turns = row.2;
      within = omega (arith, length-append c.loop-row.rows.items (c.in-Ok.row ∷ []), c.len.ensures, c.if-len-gt-MAX_RECORDS.false);
    })

pub returns-then-len-gt-MAX_RECORDS : goal.returns-then-len-gt-MAX_RECORDS
returns-then-len-gt-MAX_RECORDS c =
    let h = c.loop-row.invariant in
    reading-first _ (strip_bom c.args.bytes.now) c.loop-row.row-iterator.rdr (map fields_of c.loop-row.rows.items) (10000 + 1) h.reading
    (omega (arith, length-map c.loop-row.rows.items fields_of, c.len.ensures, c.if-len-gt-MAX_RECORDS.true, h.within))

pub returns : goal.returns
returns c =
    let h = c.loop-row.invariant in
    let end = rw c.in-None.is at ((c.next.ensures.steps h.turns h.reading.trims).0 h.reading.ready) in
    reading-ends _ (strip_bom c.args.bytes.now) c.loop-row.row-iterator.rdr c.next.new.self.rdr (map fields_of c.loop-row.rows.items) (10000 + 1) h.reading end
    (omega (arith, length-map c.loop-row.rows.items fields_of, h.within))
