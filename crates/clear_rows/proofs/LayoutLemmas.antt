-- When a table is that of a row of the layout.
use Rattle.std.proofs.Common.{◌≡◌, ◌∙◌, ℕ, List, [], ◌∷◌, ap, map, refl, sym}
use Rattle.sqlite_value.specs.Keys.{plain}
use Rattle.sqlite.specs.Table.{Table}
use Rattle.clear_rows.specs.Layouts.{IsTable, key_of, table_of}
use Rattle.clear_rows.specs.declared.laid.KeyLayout.{KeyLayout}
use Rattle.clear_rows.specs.declared.laid.TableLayout.{TableLayout}

-- an order for each key
plain_each : (keys : List KeyLayout) → map (λ (key : List ℕ). plain) (map key_of keys) ≡ map (λ (key : KeyLayout). plain) keys
plain_each [] = refl
plain_each (k ∷ ks) = ap (λ rest. plain ∷ rest) (plain_each ks)

-- its parts make it
pub made_of : (layout : TableLayout) (t : Table) → IsTable layout t → t ≡ table_of layout
made_of layout t is =
    let name = is.name in
    let tree = is.tree in
    let columns = is.columns in
    let key = is.keys.key in
    let primary = is.keys.primary in
    let uniques = is.keys.uniques in
    let orders = is.keys.orders ∙ sym (plain_each layout.uniques.now) in
    let checks = is.bare.checks in
    let references = is.bare.references in
    let computed = is.bare.computed in
    let places = is.bare.stamp_places in
    let terms = is.bare.stamp_terms in
    let formats = is.bare.stamp_formats in
    let uncounted = is.bare.uncounted in
    let stamps : t.stamps ≡ record { places = t.stamps.places; terms = t.stamps.terms; formats = t.stamps.formats } = refl in
    let whole : t ≡ record { name = t.name; tree = t.tree; columns = t.columns; key = t.key; primary = t.primary; uniques = t.uniques; orders = t.orders; checks = t.checks; references = t.references; computed = t.computed; stamps = t.stamps; is_counted = t.is_counted } = refl in
    cc

-- and are its own
pub parts_of : (layout : TableLayout) (t : Table) → t ≡ table_of layout → IsTable layout t
parts_of layout t same = record {
  name = ap (λ (t : Table). t.name) same;
  tree = ap (λ (t : Table). t.tree) same;
  columns = ap (λ (t : Table). t.columns) same;
  keys = record {
    key = ap (λ (t : Table). t.key) same;
    primary = ap (λ (t : Table). t.primary) same;
    uniques = ap (λ (t : Table). t.uniques) same;
    orders = ap (λ (t : Table). t.orders) same ∙ plain_each layout.uniques.now;
  };
  bare = record {
    checks = ap (λ (t : Table). t.checks) same;
    references = ap (λ (t : Table). t.references) same;
    computed = ap (λ (t : Table). t.computed) same;
    stamp_places = ap (λ (t : Table). t.stamps.places) same;
    stamp_terms = ap (λ (t : Table). t.stamps.terms) same;
    stamp_formats = ap (λ (t : Table). t.stamps.formats) same;
    uncounted = ap (λ (t : Table). t.is_counted) same;
  };
}
