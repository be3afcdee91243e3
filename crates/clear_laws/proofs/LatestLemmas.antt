-- The latest lines of a firm's month, and its version, after a command more.
use Rattle.std.proofs.Common.{◌≡◌, ◌≢◌, ◌⊎◌, inl, inr, ℕ, ◌+◌, List, ◌∷◌, Option, Some, None, is_some, option_and_then, Bool, true, false, cond, ◌&&◌, ◌==◌, refl, sym, ap, ◌∙◌}
use Rattle.std.specs.Option.{option_map, option_map_or}
use Rattle.clear_values.specs.declared.texts.WageLine.{WageLine}
use Rattle.clear_book.specs.declared.calls.Command.{Command}
use Rattle.clear_book.specs.declared.calls.Command.TheVariants.{Correct, Report}
use Rattle.clear_book.specs.declared.calls.Correction.{Correction}
use Rattle.clear_book.specs.declared.calls.WageReport.{WageReport}
use Rattle.clear_book.specs.Book.{Entry, is_for, latest_lines, lines_for, newer, report_in, reported_by, reported_version, version_of}
use Rattle.clear_laws.proofs.DistinctLemmas.{itself, same_worker}
use Rattle.clear_laws.proofs.VersionLemmas.{version_of-more, version_of-none, version_of-other}

module _ (xs : List Entry) (x : Entry) where
  module _ (r : WageReport) (brought : report_in x.command ≡ Some r) where
    by_it : reported_by x.command r.employer r.month ≡ Some r.lines
    by_it =
        ap (option_and_then (lines_for r.employer r.month)) brought
        ∙ (λ i. cond (itself r.employer i && itself r.month i) (Some r.lines) None)

    now : latest_lines (x ∷ xs) r.employer r.month ≡ Some r.lines
    now = ap (λ (o : Option (List WageLine)). newer o (latest_lines xs r.employer r.month)) by_it

    version : reported_version (x ∷ xs) r.employer r.month ≡ Some (option_map_or (λ v. v + 1) (reported_version xs r.employer r.month) 1)
    version =
        ap (option_map (λ lines. version_of (x ∷ xs) r.employer r.month)) now
        ∙ ap Some (version_of-more xs x r.employer r.month (ap is_some by_it) ∙ told (latest_lines xs r.employer r.month) refl)
      where
        told : (o : Option (List WageLine)) → latest_lines xs r.employer r.month ≡ o → version_of xs r.employer r.month + 1 ≡ option_map_or (λ v. v + 1) (option_map (λ lines. version_of xs r.employer r.month) o) 1
        told None is = ap (λ (v : ℕ). v + 1) (version_of-none xs r.employer r.month is)
        told (Some lines) is = refl

    pub latest_is : (latest_lines (x ∷ xs) r.employer r.month ≡ Some r.lines) × (reported_version (x ∷ xs) r.employer r.month ≡ Some (option_map_or (λ v. v + 1) (reported_version xs r.employer r.month) 1))
    latest_is = (now, version)

  -- ---- and all else stays

  module _ (e m : ℕ) where
    stays : reported_by x.command e m ≡ None → (latest_lines (x ∷ xs) e m ≡ latest_lines xs e m) × (reported_version (x ∷ xs) e m ≡ reported_version xs e m)
    stays none =
        let lines : latest_lines (x ∷ xs) e m ≡ latest_lines xs e m = ap (λ (o : Option (List WageLine)). newer o (latest_lines xs e m)) none in
        let count : version_of (x ∷ xs) e m ≡ version_of xs e m = version_of-other xs x e m (ap is_some none) in
        (lines, (λ i. option_map (λ ls. count i) (lines i)))

    apart : (a b : ℕ) → b ≢ a → a == b ≡ false
    apart a b other = told (a == b) refl
      where
        told : (c : Bool) → a == b ≡ c → c ≡ false
        told true is = absurd (other (sym (same_worker a b is)))
        told false is = refl

    not_for : (r : WageReport) → (e ≢ r.employer) ⊎ (m ≢ r.month) → is_for e m r ≡ false
    not_for r (inl other) = ap (λ (c : Bool). c && (r.month == m)) (apart r.employer e other)
    not_for r (inr other) = ap (λ (c : Bool). (r.employer == e) && c) (apart r.month m other) ∙ never (r.employer == e)
      where
        never : (c : Bool) → c && false ≡ false
        never true = refl
        never false = refl

    not_by_it : (command : Command) → ((r : WageReport) → command ≡ Report r → (e ≢ r.employer) ⊎ (m ≢ r.month)) → ((c : Correction) → command ≡ Correct c → (e ≢ c.report.employer) ⊎ (m ≢ c.report.month)) → reported_by command e m ≡ None
    not_by_it (Report r) reports corrections = ap (λ (c : Bool). cond c (Some r.lines) None) (not_for r (reports r refl))
    not_by_it (Correct c) reports corrections = ap (λ (k : Bool). cond k (Some c.report.lines) None) (not_for c.report (corrections c refl))
    not_by_it command reports corrections = refl

    pub others_stay : ((r : WageReport) → x.command ≡ Report r → (e ≢ r.employer) ⊎ (m ≢ r.month)) → ((c : Correction) → x.command ≡ Correct c → (e ≢ c.report.employer) ⊎ (m ≢ c.report.month)) → (latest_lines (x ∷ xs) e m ≡ latest_lines xs e m) × (reported_version (x ∷ xs) e m ≡ reported_version xs e m)
    others_stay reports corrections = stays (not_by_it x.command reports corrections)
