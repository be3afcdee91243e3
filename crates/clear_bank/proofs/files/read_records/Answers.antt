use Rattle.std.proofs.Common.{◌∙◌, ap, map, ◌∷◌, ◌++◌, [], true, arith, refl, length-append}
use Rattle.std.proofs.lemmas.List.{length-map, map-append}
use Rattle.csv.specs.Reading.{strip_bom, with_flexible}
use Rattle.csv.specs.Records.{fields_of}
use Rattle.clear_bank.proofs.ReaderLemmas.{reading-starts, reading-on, reading-ends, reading-size, within-limit, over-limit}
use Rattle.clear_bank.proofs.files.read_records.Goals as goal

pub loop-row-init : goal.loop-row-init
loop-row-init c =
    let fr = c.from_reader-reader.ensures in
    let e = c.flexible.ensures ∙ ap (λ b. with_flexible b true) c.has_headers.ensures in
    let start = c.into_iter-row-iterator.ensures.into_iter_gives in
    let rdr = c.into_byte_records-row-items.ensures.rdr in
    let left = c.into_byte_records-row-items.ensures.left in
    rw (start, rdr, c.new-rows.ensures.items) (record {
      reading = reading-starts (strip_bom c.args.text.now) c.from_reader-reader.result [] (rw e at fr.trim ∙ c.new.ensures.trim) (rw e at fr.has_headers) fr.headers
          (rw e at fr.flexible) (rw e at fr.config ∙ c.new.ensures.config) fr.state fr.source refl;
      turns = left;
      within = omega arith;
    })

pub loop-row-preserved : goal.loop-row-preserved
loop-row-preserved c =
    let h = c.loop-row.invariant in
    let steps = c.next.ensures.steps h.turns h.reading.trims in
    let row = rw (c.in-Some.is, c.in-Ok.is) at (steps.0 h.reading.ready) in
    let flexible = rw (c.in-Some.is, c.in-Ok.is) at steps.3 in
    let on = reading-on (strip_bom c.args.text.now) c.loop-row.row-iterator.rdr c.next.new.self.rdr (map fields_of c.loop-row.rows.items) (fields_of c.in-Ok.row) h.reading (row.0, row.1, flexible) in
    rw c.in_ok-push.ensures.items (record {
      reading = rw (map-append fields_of c.loop-row.rows.items (c.in-Ok.row ∷ [])) on;
      turns = row.2;
      within = omega (arith, length-append c.loop-row.rows.items (c.in-Ok.row ∷ []), c.len.ensures);
    })

pub returns-then-len-limit : goal.returns-then-len-limit
returns-then-len-limit c =
    let h = c.loop-row.invariant in
    let steps = c.next.ensures.steps h.turns h.reading.trims in
    let row = rw (c.in-Some.is, c.in-Ok.is) at (steps.0 h.reading.ready) in
    let flexible = rw (c.in-Some.is, c.in-Ok.is) at steps.3 in
    let rows = map fields_of c.loop-row.rows.items in
    let on = reading-on (strip_bom c.args.text.now) c.loop-row.row-iterator.rdr c.next.new.self.rdr rows (fields_of c.in-Ok.row) h.reading (row.0, row.1, flexible) in
    let size = reading-size (strip_bom c.args.text.now) c.next.new.self.rdr (rows ++ fields_of c.in-Ok.row ∷ []) on in
    over-limit c.args.limit (strip_bom c.args.text.now) (omega (arith, size, length-append rows (fields_of c.in-Ok.row ∷ []), length-map c.loop-row.rows.items fields_of, c.len.ensures))

pub returns : goal.returns
returns c =
    let h = c.loop-row.invariant in
    let end = rw c.in-None.is at ((c.next.ensures.steps h.turns h.reading.trims).0 h.reading.ready) in
    let all = reading-ends (strip_bom c.args.text.now) c.loop-row.row-iterator.rdr c.next.new.self.rdr (map fields_of c.loop-row.rows.items) h.reading end in
    within-limit c.args.limit (strip_bom c.args.text.now) _ all (omega (arith, length-map c.loop-row.rows.items fields_of, h.within))
