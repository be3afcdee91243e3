-- Lemmas on empty lines and the end of a head.
use Rattle.std.proofs.Common.{◌≡◌, ℕ, zero, suc, ◌+◌, ◌<◌, ◌≤◌, true, false, eqb, ltb, ◌&&◌, List, [], ◌∷◌, ◌++◌, length, drop, Some, None, refl, sym, ap, ◌∙◌, arith, inl, inr}
use Rattle.std.proofs.lemmas.List.{append-nil}
use Rattle.std.proofs.lemmas.Bool.{cases_Bool, false≢true, ltb-true}
use Rattle.clear_wire.specs.Lines.{empty_line_len, skip_empty_lines, head_end}

-- an empty line at the front is skipped
pub skip_after : (bytes : List ℕ) → skip_empty_lines bytes ≡ skip_empty_lines (drop (empty_line_len bytes) bytes)
skip_after [] = refl
skip_after (b ∷ []) = elim (cases_Bool (eqb b 10)) [ inl e ↦ simp e | inr e ↦ simp e ]
skip_after (b ∷ c ∷ bytes) = elim (cases_Bool (eqb b 10)) [
  | inl e ↦ simp e
  | inr e ↦ elim (cases_Bool (eqb b 13)) [
    | inl d ↦ elim (cases_Bool (eqb c 10)) [ inl f ↦ simp (e, d, f) | inr f ↦ simp (e, d, f) ]
    | inr d ↦ simp (e, d)
  ]
]

-- where none stands at the front, nothing is
pub skip_none : (bytes : List ℕ) → empty_line_len bytes ≡ 0 → skip_empty_lines bytes ≡ bytes
skip_none [] h = refl
skip_none (b ∷ []) h = elim (cases_Bool (eqb b 10)) [ inl e ↦ (let g = rw e at h in absurd (omega arith)) | inr e ↦ simp e ]
skip_none (b ∷ c ∷ bytes) h = elim (cases_Bool (eqb b 10)) [
  | inl e ↦ (let g = rw e at h in absurd (omega arith))
  | inr e ↦ elim (cases_Bool (eqb b 13)) [
    | inl d ↦ elim (cases_Bool (eqb c 10)) [ inl f ↦ (let g = simp (e, d, f) at h in absurd (omega arith)) | inr f ↦ simp (e, d, f) ]
    | inr d ↦ simp (e, d)
  ]
]

-- skipping the empty lines that came so far, and then those of the whole
pub skip-append : (bytes more : List ℕ) → skip_empty_lines (skip_empty_lines bytes ++ more) ≡ skip_empty_lines (bytes ++ more)
skip-append [] more = refl
skip-append (b ∷ []) [] = elim (cases_Bool (eqb b 10)) [ inl e ↦ simp e | inr e ↦ simp e ]
skip-append (b ∷ []) (m ∷ more) = elim (cases_Bool (eqb b 10)) [ inl e ↦ simp e | inr e ↦ simp e ]
skip-append (b ∷ c ∷ bytes) more = elim (cases_Bool (eqb b 10)) [
  | inl e ↦ rw e (skip-append (c ∷ bytes) more)
  | inr e ↦ elim (cases_Bool (eqb b 13)) [
    | inl d ↦ elim (cases_Bool (eqb c 10)) [ inl f ↦ rw (e, d, f) (skip-append bytes more) | inr f ↦ simp (e, d, f) ]
    | inr d ↦ simp (e, d)
  ]
]

pub skip-skip : (bytes : List ℕ) → skip_empty_lines (skip_empty_lines bytes) ≡ skip_empty_lines bytes
skip-skip bytes =
    ap skip_empty_lines (sym (append-nil (skip_empty_lines bytes))) ∙ skip-append bytes [] ∙ ap skip_empty_lines (append-nil bytes)

-- what begins with no empty line and has two bytes begins with none, whatever follows
length-skip : (bytes : List ℕ) → length (skip_empty_lines bytes) ≤ length bytes
length-skip [] = omega arith
length-skip (b ∷ []) = elim (cases_Bool (eqb b 10)) [ inl e ↦ rw e (omega arith) | inr e ↦ rw e (omega arith) ]
length-skip (b ∷ c ∷ bytes) = elim (cases_Bool (eqb b 10)) [
  | inl e ↦ rw e (omega (arith, length-skip (c ∷ bytes)))
  | inr e ↦ elim (cases_Bool (eqb b 13)) [
    | inl d ↦ elim (cases_Bool (eqb c 10)) [ inl f ↦ rw (e, d, f) (omega (arith, length-skip bytes)) | inr f ↦ rw (e, d, f) (omega arith) ]
    | inr d ↦ rw (e, d) (omega arith)
  ]
]

pub skip_kept : (bytes more : List ℕ) → 2 ≤ length bytes → skip_empty_lines bytes ≡ bytes → skip_empty_lines (bytes ++ more) ≡ bytes ++ more
skip_kept [] more long kept = absurd (omega arith)
skip_kept (b ∷ []) more long kept = absurd (omega arith)
skip_kept (b ∷ c ∷ bytes) more long kept = elim (cases_Bool (eqb b 10)) [
  | inl e ↦ (let k = rw e at kept in absurd (omega (arith, ap length k, length-skip (c ∷ bytes))))
  | inr e ↦ elim (cases_Bool (eqb b 13)) [
    | inl d ↦ elim (cases_Bool (eqb c 10)) [
      | inl f ↦ (let k = simp (e, d, f) at kept in absurd (omega (arith, ap length k, length-skip bytes)))
      | inr f ↦ simp (e, d, f)
    ]
    | inr d ↦ simp (e, d)
  ]
]

-- a head that ends among the first bytes
empty_line-append : (bytes more : List ℕ) → ltb 0 (empty_line_len bytes) ≡ true → empty_line_len (bytes ++ more) ≡ empty_line_len bytes
empty_line-append [] more h = absurd (false≢true h)
empty_line-append (b ∷ []) [] h = refl
empty_line-append (b ∷ []) (m ∷ more) h = elim (cases_Bool (eqb b 10)) [ inl e ↦ simp e | inr e ↦ (let k = rw e at h in absurd (false≢true k)) ]
empty_line-append (b ∷ c ∷ bytes) more h = refl

-- where a head's end comes later, there is no empty line at the front, whatever follows
no_empty_line : (at n : ℕ) (bytes more : List ℕ) → ltb 0 (empty_line_len bytes) ≡ false → head_end at bytes ≡ Some n → ltb 0 (empty_line_len (bytes ++ more)) ≡ false
no_empty_line at n [] more h e = absurd (cc)
no_empty_line at n (b ∷ []) more h e = elim (cases_Bool (eqb b 10)) [ inl d ↦ (let k = simp d at e in absurd (cc k)) | inr d ↦ (let k = simp d at e in absurd (cc k)) ]
no_empty_line at n (b ∷ c ∷ bytes) more h e = h

pub head_end-append : (at n : ℕ) (bytes more : List ℕ) → head_end at bytes ≡ Some n → head_end at (bytes ++ more) ≡ Some n
head_end-append at n [] more e = absurd (cc)
head_end-append at n (b ∷ bytes) more e = elim (cases_Bool (eqb b 10)) [
  | inl d ↦ elim (cases_Bool (ltb 0 (empty_line_len bytes))) [
    | inl f ↦ (let k = simp (d, f) at e in let same = empty_line-append bytes more f in rw (d, same, f) k)
    | inr f ↦ (let k = simp (d, f) at e in rw (d, no_empty_line (at + 1) n bytes more f k) (head_end-append (at + 1) n bytes more k))
  ]
  | inr d ↦ (let k = simp d at e in rw d (head_end-append (at + 1) n bytes more k))
]

empty_line-within : (bytes : List ℕ) → empty_line_len bytes ≤ length bytes
empty_line-within [] = omega arith
empty_line-within (b ∷ []) = elim (cases_Bool (eqb b 10)) [ inl e ↦ rw e (omega arith) | inr e ↦ rw e (omega arith) ]
empty_line-within (b ∷ c ∷ bytes) = elim (cases_Bool (eqb b 10)) [
  | inl e ↦ rw e (omega arith)
  | inr e ↦ elim (cases_Bool (eqb b 13 && eqb c 10)) [ inl d ↦ rw (e, d) (omega arith) | inr d ↦ rw (e, d) (omega arith) ]
]

-- an end lies behind the first two bytes, and within those that are there
pub head_end-bounds : (at n : ℕ) (bytes : List ℕ) → head_end at bytes ≡ Some n → (at + 2 ≤ n) × (n ≤ at + length bytes)
head_end-bounds at n [] e = absurd (cc)
head_end-bounds at n (b ∷ bytes) e = elim (cases_Bool (eqb b 10)) [
  | inl d ↦ elim (cases_Bool (ltb 0 (empty_line_len bytes))) [
    | inl f ↦ (
        let k = simp (d, f) at e in
        let some = ltb-true 0 (empty_line_len bytes) f in
        let same : at + 1 + empty_line_len bytes ≡ n = cc k in
        let within = empty_line-within bytes in
        (omega arith, omega arith)
        )
    | inr f ↦ (let k = simp (d, f) at e in let later = head_end-bounds (at + 1) n bytes k in (omega (arith, later.0), omega (arith, later.1)))
  ]
  | inr d ↦ (let k = simp d at e in let later = head_end-bounds (at + 1) n bytes k in (omega (arith, later.0), omega (arith, later.1)))
]

empty_line-kept : (bytes more : List ℕ) → 2 ≤ length bytes → empty_line_len (bytes ++ more) ≡ empty_line_len bytes
empty_line-kept [] more long = absurd (omega arith)
empty_line-kept (b ∷ []) more long = absurd (omega arith)
empty_line-kept (b ∷ c ∷ bytes) more long = refl

-- an empty line that came whole only with further bytes
empty_line-behind : (bytes more : List ℕ) → ltb 0 (empty_line_len bytes) ≡ false → ltb 0 (empty_line_len (bytes ++ more)) ≡ true
    → length bytes < empty_line_len (bytes ++ more)
empty_line-behind [] more h k = ltb-true 0 (empty_line_len more) k
empty_line-behind (b ∷ []) [] h k = absurd (cc (h, k))
empty_line-behind (b ∷ []) (m ∷ more) h k = elim (cases_Bool (eqb b 10)) [
  | inl d ↦ (let f = simp d at h in absurd (cc f))
  | inr d ↦ elim (cases_Bool (eqb b 13 && eqb m 10)) [ inl f ↦ rw (d, f) (omega arith) | inr f ↦ (let g = simp (d, f) at k in absurd (cc g)) ]
]
empty_line-behind (b ∷ c ∷ bytes) more h k = absurd (cc (h, k))

-- where none of the bytes ends a head, one that ends with further bytes has more than these
pub head_end-behind : (at n : ℕ) (bytes more : List ℕ) → head_end at bytes ≡ None → head_end at (bytes ++ more) ≡ Some n → at + length bytes < n
head_end-behind at n [] more none e = omega (arith, (head_end-bounds at n more e).0)
head_end-behind at n (b ∷ bytes) more none e = elim (cases_Bool (eqb b 10)) [
  | inl d ↦ elim (cases_Bool (ltb 0 (empty_line_len bytes))) [
    | inl f ↦ (let g = simp (d, f) at none in absurd (cc g))
    | inr f ↦ elim (cases_Bool (ltb 0 (empty_line_len (bytes ++ more)))) [
      | inl h ↦ (
          let k = simp (d, h) at e in
          let same : at + 1 + empty_line_len (bytes ++ more) ≡ n = cc k in
          omega (arith, same, empty_line-behind bytes more f h)
          )
      | inr h ↦ omega (arith, head_end-behind (at + 1) n bytes more (simp (d, f) at none) (simp (d, h) at e))
    ]
  ]
  | inr d ↦ omega (arith, head_end-behind (at + 1) n bytes more (simp d at none) (simp d at e))
]

-- where none of the bytes ends a head, a search of these and further ones may leave out all but the last two
pub head_end-searched : (k at : ℕ) (bytes more : List ℕ) → k + 2 ≤ length bytes → head_end at bytes ≡ None
    → head_end (at + k) (drop k (bytes ++ more)) ≡ head_end at (bytes ++ more)
head_end-searched zero at bytes more long none = ap (λ n. head_end n (bytes ++ more)) (omega arith)
head_end-searched (suc k) at [] more long none = absurd (omega arith)
head_end-searched (suc k) at (b ∷ bytes) more long none =
    let place : at + suc k ≡ at + 1 + k = omega arith in
    let rest = λ (e : head_end (at + 1) bytes ≡ None).
    ap (λ n. head_end n (drop k (bytes ++ more))) place ∙ head_end-searched k (at + 1) bytes more (omega (arith, long)) e in
    elim (cases_Bool (eqb b 10)) [
      | inl d ↦ elim (cases_Bool (ltb 0 (empty_line_len bytes))) [
        | inl f ↦ (let e = simp (d, f) at none in absurd (cc e))
        | inr f ↦ (
            let e = simp (d, f) at none in
            let kept = empty_line-kept bytes more (omega (arith, long)) in
            rw (d, kept, f) (rest e)
            )
      ]
      | inr d ↦ (let e = simp d at none in rw d (rest e))
    ]
