-- Of a stream that is served: one answer more, the end, and a break.
use Rattle.std.proofs.Common.{◌≡◌, ◌⊎◌, ℕ, ◌+◌, ◌<◌, Bool, true, false, cond, eqb, List, [], ◌∷◌, ◌++◌, Option, Some, None, refl, sym, ap, ◌∙◌, subst, arith, inl, inr}
use Rattle.std.proofs.lemmas.List.{append-nil, append_assoc, length-append}
use Rattle.std.specs.Prelude.{IfSome, length, codes}
use Rattle.std.specs.Io.KnownBytes.{Appends, prepend_known}
use Rattle.clear_book.specs.declared.rules.Rule.TheVariants.{Memory}
use Rattle.clear_answers.specs.declared.said.Said.{Said}
use Rattle.clear_answers.specs.declared.said.Said.TheVariants.{Reply, Answer, No}
use Rattle.clear_answers.specs.Answer.{answer_of, head_of, first_lines, further_field, close_field, sent_body, body_of}
use Rattle.clear_answers.specs.Said.{refused_by}
use Rattle.clear_wire.specs.Head.{Heading}
use Rattle.clear_wire.specs.Stream.{NextItem, ended, Next}
use Rattle.clear_wire.specs.Cut.{left_after, left_after_all, Cuts, IsAnswered}
use Rattle.clear_wire.specs.Input.{has_ended, reader_of, stream, unused_of}
use Rattle.clear_wire.specs.Known.{Leads}
use Rattle.clear_wire.specs.Limits.{request_limit}
use Rattle.clear_wire.specs.Request.{next_item}
use Rattle.clear_wire.specs.declared.input.Input.{Input}
use Rattle.clear_wire.specs.declared.request.Item.{Item}
use Rattle.clear_wire.proofs.CutLemmas.{Cuts-append, left_after_all-append, cut_ended, cut_begun, nothing_cut}
use Rattle.clear_wire.proofs.KnownLemmas.{Leads-refl, Leads-then, Appends-nil, Appends-then}
use Rattle.clear_http.specs.declared.serve.Served.{Served}
use Rattle.clear_http.specs.declared.serve.Behind.{Behind}
use Rattle.clear_http.specs.Serve.{is_bad, ends_by_rule, ends_stream, left_then, NoneEnds, LastEnds, was_done, MaySend, Says, Responds, is_bare, item_answer, answer_text, AnswersOne, BreaksOff, Progress, Serves, ServesPart, ServesWhole}

-- ---- what ends a stream

-- what wasn't done ends none
pub not_ending : (said : Said) → was_done said ≡ false → ends_stream said ≡ false
not_ending (Reply reply) h = refl
not_ending (Answer answer) h = refl
not_ending (No refused) h = h

-- what is sent ends it just as what was wanted
pub sent_ends : (wanted said : Said) → MaySend wanted said → ends_stream wanted ≡ ends_stream said
sent_ends wanted said (inl same) = ap ends_stream (sym same)
sent_ends wanted said (inr memory) = not_ending wanted memory.0 ∙ sym (ap ends_stream memory.1)

pub same_answer : (left : ℕ) (p : NextItem) (wanted said : Said) (bare : Bool) (after : ℕ) → bare ≡ is_bare p → after ≡ left_then left p wanted → MaySend wanted said
    → answer_of said (eqb after 0) bare ≡ item_answer left p said
same_answer left p wanted said bare after b a sent =
    let same : after ≡ left_then left p said = a ∙ ap (λ t. cond t 0 (left_after left p)) (sent_ends wanted said sent) in
    (λ i. answer_of said (eqb (same i) 0) (b i))

-- a last item more
rule_more : (items : List NextItem) (item : NextItem) → ends_by_rule (items ++ item ∷ []) ≡ is_bad item
rule_more [] item = refl
rule_more (first ∷ []) item = refl
rule_more (first ∷ next ∷ items) item = rule_more (next ∷ items) item

none_more : (saids : List Said) (said : Said) → NoneEnds saids → ends_stream said ≡ false → NoneEnds (saids ++ said ∷ [])
none_more [] said none is = (is, tt)
none_more (s ∷ saids) said none is = (none.0, none_more saids said none.1 is)

if_some : {A : Type 0} {P Q : A → Type 0} → ((x : A) → P x → Q x) → (o : Option A) → IfSome o P → IfSome o Q
if_some f None h = tt
if_some f (Some x) h = f x h

module _ {H : Type 0} (responds : H → Heading → List ℕ → Said → H → Type 0) where
  -- an item has an answer, this may be said to it, and want of memory in its place where nothing was done
  abbrev pub Replied : H → Item → Said → H → Type 0
  Replied h item said h' =
      IsAnswered (next_item item) × Says responds h (next_item item) said h'
      × (was_done said ≡ false → Says responds h (next_item item) (refused_by Memory) h')

  pub replied_as : (h : H) (item read : Item) (said told : Said) (h' then : H) → item ≡ read → said ≡ told → h' ≡ then → Replied h read told then → Replied h item said h'
  replied_as h item read said told h' then item_is said_is then_is there =
      subst (λ (x : Item). Replied h x said h') (sym item_is)
      (subst (λ (x : Said). Replied h read x h') (sym said_is) (subst (λ (x : H). Replied h read told x) (sym then_is) there))

  -- what is sent for an item may be said to it
  pub says : (h : H) (p : NextItem) (wanted said : Said) (h' : H) → Says responds h p wanted h' → (was_done wanted ≡ false → Says responds h p (refused_by Memory) h') → MaySend wanted said
      → Says responds h p said h'
  says h p wanted said h' there memory (inl e) = subst (λ s. Says responds h p s h') (sym e) there
  says h p wanted said h' there memory (inr m) = subst (λ s. Says responds h p s h') (sym m.1) (memory m.0)

  pub Responds-append : (a : H) (ps qs : List NextItem) (ss ts : List Said) (b c : H) → Responds responds a ps ss b → Responds responds b qs ts c → Responds responds a (ps ++ qs) (ss ++ ts) c
  Responds-append a [] qs [] ts b c x y = subst (λ h. Responds responds h qs ts c) x y
  Responds-append a [] qs (s ∷ ss) ts b c x y = absurd x
  Responds-append a (p ∷ ps) qs [] ts b c x y = absurd x
  Responds-append a (p ∷ ps) qs (s ∷ ss) ts b c x y = (x.0, x.1, Responds-append x.0 ps qs ss ts b c x.2 y)

  -- items and what is said go together, so their bytes do
  answer_text-append : (left : ℕ) (a : H) (ps qs : List NextItem) (ss ts : List Said) (b : H) → Responds responds a ps ss b
      → answer_text left (ps ++ qs) (ss ++ ts) ≡ answer_text left ps ss ++ answer_text (left_after_all left ps) qs ts
  answer_text-append left a [] qs [] ts b x = refl
  answer_text-append left a [] qs (s ∷ ss) ts b x = absurd x
  answer_text-append left a (p ∷ ps) qs [] ts b x = absurd x
  answer_text-append left a (p ∷ ps) qs (s ∷ ss) ts b x =
      ap (λ t. item_answer left p s ++ t) (answer_text-append (left_after left p) x.0 ps qs ss ts b x.2)
      ∙ sym (append_assoc (item_answer left p s) _ _)

  module _ (h : H) (bytes mid written wmid : Option (List ℕ)) (left : ℕ) (now : H) (served : Served) (x : Progress responds h bytes mid written wmid left now served) where
    -- where a request may follow, nothing has ended the stream
    module _ (some : 0 < left) where
      so_far : (left ≡ left_after_all request_limit x.items) × NoneEnds x.saids
      so_far = elim x.left_is [
        | inl both ↦ both
        | inr over ↦ absurd (omega (arith, some, over.0))
      ]

      left_is : left ≡ left_after_all request_limit x.items
      left_is = so_far.0

      text_then : (qs : List NextItem) (ts : List Said) → answer_text request_limit (x.items ++ qs) (x.saids ++ ts) ≡ answer_text request_limit x.items x.saids ++ answer_text left qs ts
      text_then qs ts = answer_text-append request_limit h x.items qs x.saids ts now x.runs
          ∙ ap (λ n. answer_text request_limit x.items x.saids ++ answer_text n qs ts) (sym left_is)

      cuts_then : (qs : List NextItem) (b m r : List ℕ) → Cuts request_limit b x.items m → Cuts left m qs r → Cuts request_limit b (x.items ++ qs) r
      cuts_then qs b m r c d = Cuts-append request_limit b x.items qs m r c (subst (λ n. Cuts n m qs r) left_is d)

      -- how many may follow one item more
      left_more : (item : NextItem) (said : Said) (after : ℕ) (ends : Bool) → ends_stream said ≡ ends → after ≡ cond ends 0 (left_after left item)
          → ((after ≡ left_after_all request_limit (x.items ++ item ∷ [])) × NoneEnds (x.saids ++ said ∷ [])) ⊎ ((after ≡ 0) × LastEnds (x.saids ++ said ∷ []))
      left_more item said after false is follows =
          let all : left_after_all request_limit (x.items ++ item ∷ []) ≡ left_after left item = left_after_all-append request_limit x.items (item ∷ []) ∙ ap (λ n. left_after n item) (sym left_is) in
          inl (follows ∙ sym all, none_more x.saids said so_far.1 is)
      left_more item said after true is follows = inr (follows, (x.saids, said, refl, so_far.1, is))

      pub progress_more : (bytes' written' : Option (List ℕ)) (behind : Behind) (next : H) → AnswersOne responds left now mid bytes' wmid written' behind next
          → Progress responds h bytes bytes' written written' behind.after next (record { requests = served.requests + 1; by_rule = behind.by_rule })
      progress_more bytes' written' behind next one = record {
        items = x.items ++ one.0 ∷ [];
        saids = x.saids ++ one.1 ∷ [];
        cuts = Leads-then _ (λ b r. Next b one.0 r) _ (λ b m r c n. cuts_then (one.0 ∷ []) b m r c (some, one.2, r, n, refl)) bytes mid bytes' x.cuts one.3;
        runs = Responds-append h x.items (one.0 ∷ []) x.saids (one.1 ∷ []) now next x.runs (next, one.5, refl);
        left_is = left_more one.0 one.1 behind.after (ends_stream one.1) refl one.4;
        wrote = subst (Appends written written')
            (ap (λ t. answer_text request_limit x.items x.saids ++ t) (sym (append-nil (item_answer left one.0 one.1))) ∙ sym (text_then (one.0 ∷ []) (one.1 ∷ [])))
            (Appends-then written wmid written' _ _ x.wrote one.6);
        count = omega (arith, x.count, length-append x.items (one.0 ∷ []));
        rule = one.7 ∙ sym (rule_more x.items one.0);
      }

      pub progress_over : (bytes' written' : Option (List ℕ)) (next : H) → Leads (λ b r. Next b ended r) mid bytes' → next ≡ now → written' ≡ wmid
          → Serves responds h bytes written written' next served
      progress_over bytes' written' next over same kept = record {
        items = x.items;
        saids = x.saids;
        cut = if_some (λ b whole_cut. inl (whole_cut, so_far.1)) bytes (cut_ended x.items bytes mid bytes' x.cuts over);
        runs = subst (Responds responds h x.items x.saids) (sym same) x.runs;
        wrote = subst (λ w. Appends written w (answer_text request_limit x.items x.saids)) (sym kept) x.wrote;
        count = x.count;
        rule = x.rule;
      }

      pub progress_break : (written' : Option (List ℕ)) (next : H) → BreaksOff responds left now mid wmid written' next → ServesPart responds h bytes written written' next served.requests
      progress_break written' next b = record {
        items = x.items;
        saids = x.saids;
        last = b.0;
        last_said = b.1;
        begins = cut_begun x.items b.0 bytes mid x.cuts (left_same b.0 mid b.5);
        runs = Responds-append h x.items b.0 x.saids b.1 now next x.runs b.6;
        goes_on = so_far.1;
        one = b.4;
        part = b.2;
        rest = b.3;
        wrote = Appends-then written wmid written' _ _ x.wrote b.7;
        split = text_then b.0 b.1 ∙ ap (λ t. answer_text request_limit x.items x.saids ++ t) b.8;
        proper = b.9;
        count = x.count;
      }
        where
          left_same : (qs : List NextItem) (a : Option (List ℕ)) → IfSome a (λ m. (r : List ℕ) × Cuts left m qs r) → IfSome a (λ m. (r : List ℕ) × Cuts (left_after_all request_limit x.items) m qs r)
          left_same qs a q = subst (λ n. IfSome a (λ m. (r : List ℕ) × Cuts n m qs r)) left_is q

      -- where nothing more was taken or written
      pub progress_whole : (written' : Option (List ℕ)) (next : H) → next ≡ now → written' ≡ wmid → ServesWhole responds h bytes written written' next served.requests
      unfolding progress_break
      progress_whole written' next same kept =
          let rests : BreaksOff responds left now mid wmid written' next =
          ([], [], [], [], omega arith, nothing_cut left mid, same, subst (λ w. Appends wmid w []) (sym kept) (Appends-nil wmid), refl, tt) in
          (progress_break written' next rests, refl)

  abbrev none_yet : Served
  none_yet = record { requests = 0; by_rule = false }

  -- before the first request
  pub progress_none : (h : H) (bytes written : Option (List ℕ)) → Progress responds h bytes bytes written written request_limit h none_yet
  progress_none h bytes written = record {
    items = [];
    saids = [];
    cuts = Leads-refl (λ b r. Cuts request_limit b [] r) (λ b. refl) bytes;
    runs = refl;
    left_is = inl (refl, tt);
    wrote = Appends-nil written;
    count = refl;
    rule = refl;
  }

  -- where nothing was read or written
  pub nothing_served : (h : H) (bytes written : Option (List ℕ)) → ServesPart responds h bytes written written h 0
  nothing_served h bytes written = progress_break h bytes bytes written written request_limit h none_yet (progress_none h bytes written) (omega arith) written h
      ([], [], [], [], omega arith, nothing_cut request_limit bytes, refl, Appends-nil written, refl, tt)

  pub nothing_whole : (h : H) (bytes written : Option (List ℕ)) → ServesWhole responds h bytes written written h 0
  nothing_whole h bytes written = progress_whole h bytes bytes written written request_limit h none_yet (progress_none h bytes written) (omega arith) written h refl refl

-- ---- an input of which nothing was read

none_before : (bytes : Option (List ℕ)) → prepend_known [] bytes ≡ bytes
none_before None = refl
none_before (Some xs) = refl

pub fresh_stream : {R : Type 0} (remaining : R → Option (List ℕ)) (input : Input R) (reader : R) → reader_of input ≡ reader → unused_of input ≡ [] → has_ended input ≡ false
    → stream remaining input ≡ remaining reader
fresh_stream remaining input reader is none goes_on =
    ap (λ (e : Bool). cond e (Some []) (prepend_known (unused_of input) (remaining (reader_of input)))) goes_on
    ∙ (λ i. prepend_known (none i) (remaining (is i))) ∙ none_before (remaining reader)

-- ---- an answer has bytes

front_some : (xs ys : List ℕ) → 0 < length xs → 0 < length (xs ++ ys)
front_some xs ys h = omega (arith, length-append xs ys)

lines_some : (said : Said) (len : ℕ) → 0 < length (first_lines said len)
unfolding first_lines
lines_some said len = front_some (codes "HTTP/1.1 ") _ (omega arith)

head_some : (said : Said) (len : ℕ) (close : Bool) → 0 < length (head_of said len close)
unfolding head_of
head_some said len close =
    let lines = first_lines said len in
    front_some (lines ++ further_field said ++ close_field close) (codes "\r\n")
    (front_some (lines ++ further_field said) (close_field close) (front_some lines (further_field said) (lines_some said len)))

pub answer_some : (said : Said) (close bare : Bool) → 0 < length (answer_of said close bare)
unfolding answer_of
answer_some said close bare =
    let len = length (body_of said) in
    front_some (head_of said len close) (sent_body bare (body_of said)) (head_some said len close)
