-- A line that is assigned: it stands where it stood, there is one less in suspense, and its firm has one credit more.
use Rattle.std.proofs.Common.{◌≡◌, ℕ, ◌+◌, ◌≤◌, List, [], ◌∷◌, ◌++◌, map, Option, Some, None, is_some, not, Bool, true, false, cond, ◌&&◌, ◌==◌, nat_le, refl, sym, ap, ◌∙◌, subst, arith}
use Rattle.std.specs.Prelude.{is_none}
use Rattle.std.proofs.lemmas.Bool.Decides.{nat_tests}
use Rattle.std.proofs.lemmas.List.Sums.{sum_by-cons}
use Rattle.std.specs.List.{cons_option}
use Rattle.clear_values.specs.declared.lines.Purpose.{Purpose}
use Rattle.clear_values.specs.declared.lines.Purpose.TheVariants.{Contribution, Interest}
use Rattle.clear_values.specs.declared.rows.BankRow.{BankRow}
use Rattle.clear_values.specs.declared.rows.CreditRow.{CreditRow}
use Rattle.clear_values.specs.Keyed.{is_key, find_row, newer, AreOnce}
use Rattle.clear_values.specs.Lines.{same_purpose}
use Rattle.clear_values.proofs.CreditRowsLemmas.{credits_of_lines-append}
use Rattle.clear_values.proofs.KeyedLemmas.{is_key-sym, is_key-true, other_row}
use Rattle.clear_values.proofs.KeyedRowsLemmas.{find_row-append}
use Rattle.clear_book.specs.declared.calls.Assignment.{Assignment}
use Rattle.clear_book.specs.declared.calls.Command.TheVariants.{Assign}
use Rattle.clear_book.specs.declared.rules.Limit.TheVariants.{Credits}
use Rattle.clear_book.specs.declared.rules.Rule.TheVariants.{UnknownEmployer, NotInSuspense, OverLimit}
use Rattle.clear_book.specs.Book.{Book, member_of}
use Rattle.clear_book.specs.Judge.{own_rule}
use Rattle.clear_book.specs.Lines.{assigned, credit_count, credit_of_line, credits_made, credits_of_lines, is_credit_of, is_in_suspense, line_credit, line_of, lines_standing, suspense_count}
use Rattle.clear_book.specs.Own.Assign.{assign_rules, is_full, is_suspended}
use Rattle.clear_book.specs.Tables.{bank_key}
use Rattle.clear_laws.proofs.ChecksLemmas.{none_applies, when-none}
use Rattle.clear_laws.proofs.CreditsMadeLemmas.{credit_count-append}
use Rattle.clear_laws.proofs.LinesLemmas.{references_standing, suspense_count-append}

-- ---- what the rules leave

is_true : (b : Bool) → not b ≡ false → b ≡ true
is_true true h = refl
is_true false h = absurd (cc)

-- the firm is registered, the line is there and in suspense, and there is room for one credit more
pub record IsAccepted (b : Book) (a : Assignment) : Type 0 where
  pub member : is_some (member_of b.entries a.employer) ≡ true
  pub line : BankRow
  pub found : line_of b.entries a.reference ≡ Some line
  pub waits : line.employer ≡ None
  pub room : credit_count (credits_made b.entries) a.employer line.line.purpose + 1 ≤ 100000

pub accepted_assignment : (b : Book) (t : ℕ) (a : Assignment) → own_rule b t (Assign a) ≡ None → IsAccepted b a
accepted_assignment b t a own =
    let rules = none_applies (assign_rules (is_some (member_of b.entries a.employer)) (line_of b.entries a.reference) (credit_count (credits_made b.entries) a.employer)) own in
    told (line_of b.entries a.reference) refl (is_true (is_some (member_of b.entries a.employer)) (when-none (not (is_some (member_of b.entries a.employer))) UnknownEmployer rules.0))
    (is_true (is_suspended (line_of b.entries a.reference)) (when-none (not (is_suspended (line_of b.entries a.reference))) NotInSuspense rules.1.0))
    (when-none (is_full (credit_count (credits_made b.entries) a.employer) (line_of b.entries a.reference)) (OverLimit Credits) rules.1.1.0)
  where
    no_firm : (o : Option ℕ) → is_none o ≡ true → o ≡ None
    no_firm None h = refl
    no_firm (Some e) h = absurd (cc)

    below : (n : ℕ) → nat_le 100000 n ≡ false → n + 1 ≤ 100000
    below n h = grind (arith, nat_tests)

    told : (o : Option BankRow) → line_of b.entries a.reference ≡ o → is_some (member_of b.entries a.employer) ≡ true → is_suspended o ≡ true → is_full (credit_count (credits_made b.entries) a.employer) o ≡ false → IsAccepted b a
    told None is member waits room = absurd (cc waits)
    told (Some line) is member waits room = record {
      member = member;
      line = line;
      found = is;
      waits = no_firm line.employer waits;
      room = below (credit_count (credits_made b.entries) a.employer line.line.purpose) room;
    }

-- ---- the line among others

-- a line under the firm of an assignment
abbrev pub given : Assignment → BankRow → BankRow
given a line = record line { employer = Some a.employer }

-- a line keeps its reference
pub kept : (a : Assignment) (row : BankRow) → bank_key (assigned a row) ≡ bank_key row
kept a row = told (is_key (bank_key row) a.reference)
  where
    told : (b : Bool) → bank_key (cond b (given a row) row) ≡ bank_key row
    told true = refl
    told false = refl

-- the line stands between others, which an assignment leaves
pub record IsAmong (a : Assignment) (rows : List BankRow) (line : BankRow) : Type 0 where
  pub before : List BankRow
  pub behind : List BankRow
  pub whole : rows ≡ before ++ line ∷ behind
  pub moved : map (assigned a) rows ≡ before ++ given a line ∷ behind

left : (a : Assignment) (rows : List BankRow) → find_row bank_key rows a.reference ≡ None → map (assigned a) rows ≡ rows
left a [] none = refl
left a (row ∷ rows) none =
    let parts = other_row bank_key row rows a.reference none in
    (λ i. cond (parts.0 i) (given a row) row ∷ left a rows parts.1 i)

pub among : (a : Assignment) (rows : List BankRow) (line : BankRow) → AreOnce bank_key rows → find_row bank_key rows a.reference ≡ Some line → IsAmong a rows line
among a [] line once found = absurd (cc)
among a (row ∷ rows) line once found = told (is_key (bank_key row) a.reference) refl found (among a rows line once.1)
  where
    told : (b : Bool) → is_key (bank_key row) a.reference ≡ b → cond b (Some row) (find_row bank_key rows a.reference) ≡ Some line
        → (find_row bank_key rows a.reference ≡ Some line → IsAmong a rows line) → IsAmong a (row ∷ rows) line
    told true is here rest =
        let same : row ≡ line = cc in
        let key = is_key-true (bank_key row) a.reference is in
        let none : find_row bank_key rows a.reference ≡ None = subst (λ (k : List ℕ). find_row bank_key rows k ≡ None) key once.0 in
        record {
          before = [];
          behind = rows;
          whole = ap (λ r. r ∷ rows) same;
          moved = (λ i. cond (is i) (given a row) row ∷ left a rows none i) ∙ ap (λ r. given a r ∷ rows) same;
        }
    told false is later rest =
        let more = rest later in
        record {
          before = row ∷ more.before;
          behind = more.behind;
          whole = ap (λ rs. row ∷ rs) more.whole;
          moved = (λ i. cond (is i) (given a row) row ∷ more.moved i);
        }

-- the line of an accepted assignment among those that stand
pub standing_among : (b : Book) (a : Assignment) (accepted : IsAccepted b a) → IsAmong a (lines_standing b.entries) accepted.line
standing_among b a accepted = among a (lines_standing b.entries) accepted.line (references_standing b.entries) accepted.found

-- ---- counts and credits

-- the credit that it is
abbrev pub new_credit : Assignment → BankRow → CreditRow
new_credit a line = line_credit line a.employer

module _ (a : Assignment) (rows : List BankRow) (line : BankRow) (waits : line.employer ≡ None) (part : IsAmong a rows line) where
  pub credits_before : credits_of_lines rows ≡ credits_of_lines part.before ++ credits_of_lines part.behind
  credits_before =
      ap credits_of_lines part.whole ∙ credits_of_lines-append part.before (line ∷ part.behind)
      ∙ ap (λ (o : Option ℕ). credits_of_lines part.before ++ cons_option (credit_of_line line o) (credits_of_lines part.behind)) waits

  pub credits_then : credits_of_lines (map (assigned a) rows) ≡ credits_of_lines part.before ++ new_credit a line ∷ credits_of_lines part.behind
  credits_then = ap credits_of_lines part.moved ∙ credits_of_lines-append part.before (given a line ∷ part.behind)

  -- one less is in suspense
  pub waiting : suspense_count (map (assigned a) rows) + 1 ≡ suspense_count rows
  waiting =
      let is_waiting = λ (row : BankRow). cond {A = ℕ} (is_in_suspense row) 1 0 in
      let old = ap suspense_count part.whole ∙ suspense_count-append part.before (line ∷ part.behind) in
      let new = ap suspense_count part.moved ∙ suspense_count-append part.before (given a line ∷ part.behind) in
      let first = sum_by-cons is_waiting line part.behind in
      let one : cond {A = ℕ} (is_in_suspense line) 1 0 ≡ 1 = ap (λ (o : Option ℕ). cond {A = ℕ} (is_none o) 1 0) waits in
      let then = sum_by-cons is_waiting (given a line) part.behind in
      omega (arith, old, new, first, one, then)

  -- and the firm has one credit more for the line's purpose
  pub counted : (e : ℕ) (p : Purpose) → credit_count (credits_of_lines (map (assigned a) rows)) e p ≡ credit_count (credits_of_lines rows) e p + cond {A = ℕ} (is_credit_of e p (new_credit a line)) 1 0
  counted e p =
      let behind = credits_of_lines part.behind in
      let old = ap (λ (l : List CreditRow). credit_count l e p) credits_before ∙ credit_count-append (credits_of_lines part.before) behind e p in
      let new = ap (λ (l : List CreditRow). credit_count l e p) credits_then ∙ credit_count-append (credits_of_lines part.before) (new_credit a line ∷ behind) e p in
      let one = sum_by-cons (λ (credit : CreditRow). cond {A = ℕ} (is_credit_of e p credit) 1 0) (new_credit a line) behind in
      omega (arith, old, new, one)

-- no other credit has the key of one between them
pub once-between : {Row : Type 0} (key : Row → List ℕ) (xs ys : List Row) (new : Row) → AreOnce key (xs ++ new ∷ ys) → find_row key (xs ++ ys) (key new) ≡ None
once-between {Row = Row} key [] ys new once = once.0
once-between {Row = Row} key (x ∷ xs) ys new once =
    let behind = none_of (find_row key xs (key x)) (find_row key (new ∷ ys) (key x)) (sym (find_row-append key xs (new ∷ ys) (key x)) ∙ once.0) in
    let other = is_key-sym (key new) (key x) (other_row key new ys (key x) behind).0 in
    ap (λ b. cond b (Some x) (find_row key (xs ++ ys) (key new))) other ∙ once-between key xs ys new once.1
  where
    none_of : (o p : Option Row) → newer o p ≡ None → p ≡ None
    none_of None p h = h
    none_of (Some y) p h = absurd (cc)

pub same_means : (p q : Purpose) → same_purpose p q ≡ true → p ≡ q
same_means Contribution Contribution h = refl
same_means Contribution Interest h = absurd (cc)
same_means Interest Contribution h = absurd (cc)
same_means Interest Interest h = refl

-- the credits of a book and the one that a line becomes: as many as its firm may have
pub few_credits : (count : ℕ → Purpose → ℕ) (credit : CreditRow) (e : ℕ) (p : Purpose) → count credit.employer credit.purpose + 1 ≤ 100000 → count e p ≤ 100000 → count e p + cond {A = ℕ} (is_credit_of e p credit) 1 0 ≤ 100000
few_credits count credit e p room low = told (credit.employer == e) (same_purpose credit.purpose p) refl refl
  where
    same : credit.employer == e ≡ true → credit.employer ≡ e
    same h = grind (arith, nat_tests)

    told : (f s : Bool) → credit.employer == e ≡ f → same_purpose credit.purpose p ≡ s → count e p + cond {A = ℕ} (f && s) 1 0 ≤ 100000
    told true true firm purpose =
        subst (λ (n : ℕ × Purpose). count n.0 n.1 + 1 ≤ 100000) (λ i. (same firm i, same_means credit.purpose p purpose i)) room
    told true false firm purpose = omega (arith, low)
    told false s firm purpose = omega (arith, low)
