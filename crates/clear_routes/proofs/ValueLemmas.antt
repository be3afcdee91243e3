-- What values are written with: a part of a target without a slash, in ASCII, of one value alone.
use Rattle.std.proofs.Common.{◌≡◌, ℕ, suc, ◌+◌, ◌/◌, ◌%◌, ◌<◌, ◌^◌, List, [], ◌∷◌, length, Option, Some, None, refl, sym, ap, ◌∙◌, arith}
use Rattle.std.specs.Borrow.{Bor}
use Rattle.std.specs.Prelude.{IfSome}
use Rattle.std.proofs.lemmas.Fmt.{IsAscii-decimal, decimal_is_IsNumeral, decimal_injective}
use Rattle.std.proofs.lemmas.Str.Parse.{tells_digits}
use Rattle.std.specs.Fmt.{decimal}
use Rattle.std.specs.Str.{IsAscii}
use Rattle.std.specs.Str.Parse.{AllDigits}
use Rattle.clear_money.specs.Calendar.{IsMonth}
use Rattle.clear_money.specs.Numbers.{IsNumberText}
use Rattle.clear_money.specs.Texts.{month_text}
use Rattle.clear_money.proofs.MonthTextLemmas.{month_text-one}
use Rattle.clear_routes.specs.Kinds.{IsOfKind, AreOfKinds, spelling, spellings, kinds_in, with_value, least, parameters}
use Rattle.clear_routes.specs.Raw.{texts_in}
use Rattle.clear_routes.specs.Raw.{AllAscii}
use Rattle.clear_routes.specs.Fitting.{NoSlash, IsParameter}
use Rattle.clear_routes.specs.declared.kinds.Kind.{Kind}
use Rattle.clear_routes.specs.declared.kinds.Kind.TheVariants as kind
use Rattle.clear_routes.specs.declared.kinds.Kinds.{Kinds}
use Rattle.clear_routes.specs.declared.kinds.Kinds.TheVariants.{One, Two}
use Rattle.clear_routes.specs.declared.parameters.Parameters.{Parameters}
use Rattle.clear_routes.specs.declared.paths.Texts.{Texts}
use Rattle.clear_routes.specs.declared.paths.Texts.TheVariants as spelled
use Rattle.clear_routes.proofs.AsciiLemmas.{ascii_cons, nil_ascii}
use Rattle.clear_routes.proofs.PatternLemmas.{AllParameters}

-- ---- numbers

digits_plain : (ds : List ℕ) → AllDigits 10 ds → NoSlash ds
digits_plain [] h = tt
digits_plain (d ∷ ds) h =
    let r = (tells_digits.parts d ds h).0 in
    (λ e. absurd (omega (arith, r.0, e)), digits_plain ds h.1)

number_part : (n : ℕ) → n < 2 ^ 64 → IsParameter (decimal n)
number_part n l =
    let h = decimal_is_IsNumeral n l in
    (h.0.0, digits_plain (decimal n) h.0.1)

-- a text spells one number at most
pub number_one : (n m : ℕ) (bytes text : List ℕ) → bytes ≡ text → IsNumberText bytes n → m < 2 ^ 64 → decimal m ≡ text → n ≡ m
number_one n m bytes text q t small e = decimal_injective n m t.small small (sym t.digits ∙ q ∙ sym e)

-- ---- months

month_part : (m : ℕ) → IsMonth m → IsParameter (month_text m)
month_part m h =
    let some : 0 < 7 = omega arith in
    (some, (λ e. absurd (omega (arith, e)), (λ e. absurd (omega (arith, e)), (λ e. absurd (omega (arith, e)), (λ e. absurd (omega (arith, e)), (λ e. absurd (omega (arith, e)), (λ e. absurd (omega (arith, e)), (λ e. absurd (omega (arith, e)), tt))))))))

seven_ascii : (a b c d e f g : ℕ) → a < 128 → b < 128 → c < 128 → d < 128 → e < 128 → f < 128 → g < 128 → IsAscii (a ∷ b ∷ c ∷ d ∷ e ∷ f ∷ g ∷ [])
seven_ascii a b c d e f g ha hb hc hd he hf hg =
    ascii_cons a (b ∷ c ∷ d ∷ e ∷ f ∷ g ∷ []) ha (ascii_cons b (c ∷ d ∷ e ∷ f ∷ g ∷ []) hb (ascii_cons c (d ∷ e ∷ f ∷ g ∷ []) hc
    (ascii_cons d (e ∷ f ∷ g ∷ []) hd (ascii_cons e (f ∷ g ∷ []) he (ascii_cons f (g ∷ []) hf (ascii_cons g [] hg nil_ascii))))))

month_ascii : (m : ℕ) → IsMonth m → IsAscii (month_text m)
month_ascii m h =
    seven_ascii (48 + m / 12 / 1000) (48 + m / 12 / 100 % 10) (48 + m / 12 / 10 % 10) (48 + m / 12 % 10) 45 (48 + (m % 12 + 1) / 10) (48 + (m % 12 + 1) % 10)
    (omega (arith, h.1)) (omega arith) (omega arith) (omega arith) (omega arith) (omega arith) (omega arith)

-- ---- each kind

spelling_part : (kind : Kind) (n : ℕ) → IsOfKind kind n → IsParameter (spelling kind n)
spelling_part kind.Employer n h = number_part n (omega (arith, h.1))
spelling_part kind.Month n h = month_part n h
spelling_part kind.Claim n h = number_part n (omega (arith, h.1))
spelling_part kind.Worker n h = number_part n (omega (arith, h.1))
spelling_part kind.List n h = number_part n (omega (arith, h.1))
spelling_part kind.Run n h = number_part n (omega (arith, h.1))

spelling_ascii : (kind : Kind) (n : ℕ) → IsOfKind kind n → IsAscii (spelling kind n)
spelling_ascii kind.Employer n h = IsAscii-decimal n (omega (arith, h.1))
spelling_ascii kind.Month n h = month_ascii n h
spelling_ascii kind.Claim n h = IsAscii-decimal n (omega (arith, h.1))
spelling_ascii kind.Worker n h = IsAscii-decimal n (omega (arith, h.1))
spelling_ascii kind.List n h = IsAscii-decimal n (omega (arith, h.1))
spelling_ascii kind.Run n h = IsAscii-decimal n (omega (arith, h.1))

spelling_one : (kind : Kind) (n m : ℕ) → IsOfKind kind n → IsOfKind kind m → spelling kind n ≡ spelling kind m → n ≡ m
spelling_one kind.Employer n m h k e = decimal_injective n m (omega (arith, h.1)) (omega (arith, k.1)) e
spelling_one kind.Month n m h k e = month_text-one n m h k e
spelling_one kind.Claim n m h k e = decimal_injective n m (omega (arith, h.1)) (omega (arith, k.1)) e
spelling_one kind.Worker n m h k e = decimal_injective n m (omega (arith, h.1)) (omega (arith, k.1)) e
spelling_one kind.List n m h k e = decimal_injective n m (omega (arith, h.1)) (omega (arith, k.1)) e
spelling_one kind.Run n m h k e = decimal_injective n m (omega (arith, h.1)) (omega (arith, k.1)) e

-- ---- lists of values

pub all_parameters : (kinds : List Kind) (ns : List ℕ) → AreOfKinds kinds ns → AllParameters (spellings kinds ns)
all_parameters [] [] h = tt
all_parameters [] (n ∷ ns) h = absurd h
all_parameters (k ∷ ks) [] h = absurd h
all_parameters (k ∷ ks) (n ∷ ns) h = (spelling_part k n h.0, all_parameters ks ns h.1)

pub all_ascii : (kinds : List Kind) (ns : List ℕ) → AreOfKinds kinds ns → AllAscii (spellings kinds ns)
all_ascii [] [] h = tt
all_ascii [] (n ∷ ns) h = absurd h
all_ascii (k ∷ ks) [] h = absurd h
all_ascii (k ∷ ks) (n ∷ ns) h = (spelling_ascii k n h.0, all_ascii ks ns h.1)

pub count_spellings : (kinds : List Kind) (ns : List ℕ) → AreOfKinds kinds ns → length (spellings kinds ns) ≡ length kinds
count_spellings [] [] h = refl
count_spellings [] (n ∷ ns) h = absurd h
count_spellings (k ∷ ks) [] h = absurd h
count_spellings (k ∷ ks) (n ∷ ns) h = ap suc (count_spellings ks ns h.1)

head : (a b : List ℕ) (xs ys : List (List ℕ)) → a ∷ xs ≡ b ∷ ys → a ≡ b
head a b xs ys e = cc e

tail : (a b : List ℕ) (xs ys : List (List ℕ)) → a ∷ xs ≡ b ∷ ys → xs ≡ ys
tail a b xs ys e = cc e

-- what is written tells the values
pub one_list : (kinds : List Kind) (ns ms : List ℕ) → AreOfKinds kinds ns → AreOfKinds kinds ms → spellings kinds ns ≡ spellings kinds ms → ns ≡ ms
one_list [] [] [] h g e = refl
one_list [] (n ∷ ns) ms h g e = absurd h
one_list [] [] (m ∷ ms) h g e = absurd g
one_list (k ∷ ks) [] ms h g e = absurd h
one_list (k ∷ ks) (n ∷ ns) [] h g e = absurd g
one_list (k ∷ ks) (n ∷ ns) (m ∷ ms) h g e =
    let first = spelling_one k n m h.0 g.0 (head _ _ _ _ e) in
    let rest = one_list ks ns ms h.1 g.1 (tail _ _ _ _ e) in
    (λ i. first i ∷ rest i)

-- ---- what is read for one kind, and for two

-- what was read are the values that the texts spell
abbrev Reads : Kinds → Texts → Parameters → Type 0
Reads kinds texts found =
    (numbers : List ℕ) × AreOfKinds (kinds_in kinds) numbers × (spellings (kinds_in kinds) numbers ≡ texts_in texts) × (found ≡ parameters (kinds_in kinds) numbers)

-- one more value was read
abbrev Adds : Kind → Bor (List ℕ) → Parameters → Parameters → Type 0
Adds kind text before after = (n : ℕ) × IsOfKind kind n × (spelling kind n ≡ text.now) × (after ≡ with_value kind n before)

pub one_value : (kinds : Kinds) (kind : Kind) (texts : Texts) (text : Bor (List ℕ)) (none : Parameters) (result : Option Parameters) → kinds ≡ One kind → texts ≡ spelled.One text → none ≡ least
    → IfSome result (Adds kind text none) → IfSome result (Reads kinds texts)
one_value kinds kind texts text none None k t e h = tt
one_value kinds kind texts text none (Some p) k t e h =
    rw (k, t) (h.0 ∷ [], (h.1, tt), ap (λ (s : List ℕ). s ∷ []) h.2, h.3 ∙ ap (with_value kind h.0) e)

pub two_values : (kinds : Kinds) (kind next : Kind) (texts : Texts) (text later : Bor (List ℕ)) (none first : Parameters) (result : Option Parameters) → kinds ≡ Two kind next → texts ≡ spelled.Two text later → none ≡ least
    → Adds next later none first → IfSome result (Adds kind text first) → IfSome result (Reads kinds texts)
two_values kinds kind next texts text later none first None k t e g h = tt
two_values kinds kind next texts text later none first (Some p) k t e g h =
    rw (k, t) (h.0 ∷ g.0 ∷ [], (h.1, (g.1, tt)), (λ i. h.2 i ∷ g.2 i ∷ []), h.3 ∙ ap (with_value kind h.0) (g.3 ∙ ap (with_value next g.0) e))
