use Rattle.std.proofs.Common.{◌≡◌, List, ℕ, rules, sym, ap, ◌∙◌, subst}
use Rattle.std.proofs.lemmas.Str.{IsUtf8-from_ascii}
use Rattle.std.specs.Str.{IsAscii}
use Rattle.matchit.specs.Seek.{first}
use Rattle.clear_routes.specs.Raw.{texts_in}
use Rattle.clear_routes.specs.Table.{Rows}
use Rattle.clear_routes.specs.Written.{pattern}
use Rattle.clear_routes.specs.Fitting.{Fits}
use Rattle.clear_routes.proofs.AsciiLemmas.{bytes_ascii, values_ascii}
use Rattle.clear_routes.proofs.ParamLemmas.{values}
use Rattle.clear_routes.proofs.PathLemmas.{found, missing}
use Rattle.clear_routes.proofs.paths.path_at.Goals as goal

pub returns-in_default-clause-only : goal.returns-in_default-clause-only
returns-in_default-clause-only c = λ path values listed a w. absurd (c.in_default.ensures.cases.0 (IsUtf8-from_ascii c.args.target.now a))

pub returns-in-Ok-at-clause-found : goal.returns-in-Ok-at-clause-found
returns-in-Ok-at-clause-found c =
    let ascii : IsAscii c.args.target.now = search rules in
    let same : c.in-Ok.text.now ≡ c.args.target.now = search rules in
    let target = c.in-Ok.text.now in
    let is_ascii : IsAscii target = subst IsAscii (sym same) ascii in
    let m = c.in-Ok-at.found in
    let at_table = ap (λ (rows : Rows). first rows target) (sym c.requires) ∙ c.in-Ok-at.ensures.found in
    let f = found _ target (bytes_ascii target is_ascii) at_table in
    let took = values m.params.pattern.now m.params.text.now target f.short f.values m.params.names.now f.simple f.routed f.names in
    let path_is = c.in-Ok-at.ensures.path in
    let texts = c.texts_of-texts.ensures f.values (rw path_is took) (values_ascii (pattern f.path.0) f.values target is_ascii f.fits) f.few in
    (ascii, f.path, f.listed, f.row, subst (λ (t : List ℕ). Fits (pattern f.path.0) (texts_in c.texts_of-texts.result) t) same (subst (λ (vs : List (List ℕ)). Fits (pattern f.path.0) vs target) (sym texts) f.fits))

pub returns-in-Err-clause-only : goal.returns-in-Err-clause-only
returns-in-Err-clause-only c = λ path vs listed ascii w.
    let same : c.in-Ok.text.now ≡ c.args.target.now = search rules in
    missing path vs c.in-Ok.text.now listed (ap (λ (rows : Rows). first rows c.in-Ok.text.now) (sym c.requires) ∙ c.in-Err.ensures.missing) (subst (λ (t : List ℕ). Fits (pattern path.0) vs t) (sym same) w)
