-- How many lines a head of the grammar has, and what the parser's answers say of a whole head.
use Rattle.std.proofs.Common.{◌≡◌, ℕ, ◌+◌, ◌≤◌, cond, List, [], ◌∷◌, ◌++◌, length, drop, refl, sym, ap, ◌∙◌, subst, arith}
use Rattle.std.proofs.lemmas.List.{append-nil, length-drop}
use Rattle.std.proofs.lemmas.List.Sums.{sum_by-append}
use Rattle.httparse.specs.Grammar.{LineEnd, crlf, lf, print_end, print_blank, print_version, Field, print_field, print_section, RequestHead, print_request, ReadsRequest}
use Rattle.httparse.specs.Spans.{RequestOverflows}
use Rattle.httparse.proofs.GrammarLemmas.{request_unique}
use Rattle.std.specs.Prelude.{flat_map}
use Rattle.clear_wire.specs.Limits.{field_line_limit}
use Rattle.clear_wire.specs.Head.{HasNoHead, line_limit, line_count, is_line_feed}

line_count-append : (a b : List ℕ) → line_count (a ++ b) ≡ line_count a + line_count b
line_count-append a b = sum_by-append (λ x. cond (is_line_feed x) 1 0) a b

line_count-end : (e : LineEnd) → line_count (print_end e) ≡ 1
line_count-end crlf = refl
line_count-end lf = refl

-- a text that ends with a line has a line more than what is before
ends_line : (a : List ℕ) (e : LineEnd) → line_count (a ++ print_end e) ≡ line_count a + 1
ends_line a e = line_count-append a (print_end e) ∙ ap (λ n. line_count a + n) (line_count-end e)

field_line : (f : Field) → 1 ≤ line_count (print_field f)
field_line f = omega (arith, ends_line (f.name ++ 58 ∷ f.raw) f.end)

field_lines : (fs : List Field) → length fs ≤ line_count (flat_map print_field fs)
field_lines [] = omega arith
field_lines (f ∷ fs) =
    omega (arith, line_count-append (print_field f) (flat_map print_field fs), field_line f, field_lines fs)

section_lines : (fs : List Field) (e : LineEnd) → length fs + 1 ≤ line_count (print_section fs e)
section_lines fs e = omega (arith, ends_line (flat_map print_field fs) e, field_lines fs)

-- the first line, the fields and the empty line
pub head_lines : (h : RequestHead) → length h.fields + 2 ≤ line_count (print_request h)
unfolding print_request
head_lines h =
    let first = print_blank h.blank ++ h.method ++ 32 ∷ h.target ++ 32 ∷ print_version h.minor in
    omega (arith, line_count-append (first ++ print_end h.line_end) (print_section h.fields h.last), ends_line first h.line_end, section_lines h.fields h.last)

-- a head that is whole fits the room for its fields
pub fits_room : (bytes : List ℕ) → line_count bytes ≤ line_limit → RequestOverflows field_line_limit bytes → HasNoHead bytes
fits_room bytes few over h reads =
    let whole : bytes ≡ print_request h = reads.1 ∙ append-nil _ in
    let more = over [] h [] (subst (λ b. ReadsRequest b h []) (sym (append-nil bytes)) reads) in
    absurd (omega (arith, head_lines h, ap line_count whole))

-- a head that is not the whole of the bytes: no other one is
pub not_whole : (bytes : List ℕ) (k : RequestHead) (n : ℕ) → ReadsRequest bytes k (drop n bytes) → n ≤ length bytes → (n ≡ length bytes → ⊥)
    → HasNoHead bytes
not_whole bytes k n reads within other h whole =
    let none = (request_unique bytes k h (drop n bytes) [] reads whole).1 in
    other (omega (arith, length-drop n bytes, ap length none))
