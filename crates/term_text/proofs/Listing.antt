-- Elements with commas between, read and again.
use Rattle.std.proofs.Common.{◌≡◌, ◌≢◌, ℕ, zero, suc, ◌<◌, ◌≤◌, Bool, true, false, cond, List, [], ◌∷◌, ◌++◌, length, drop, Result, Ok, refl, sym, ap, subst, ◌∙◌, arith, append_assoc, append-nil}
use Rattle.std.specs.Prelude.{◌==◌}
use Rattle.std.proofs.lemmas.Bool.{and_parts, eq-eqb, ne_eqb}
use Rattle.std.proofs.lemmas.Bool.Decides.{nat_tests}
use Rattle.std.proofs.lemmas.List.{length-append}
use Rattle.term_text.specs.declared.fault.Fault.{Fault}
use Rattle.term_text.specs.Grammar.{begins, is_blank, is_name_byte, AreBlanks, Blanked, Comma, Elements}
use Rattle.term_text.specs.Reading.{◌>>=◌, byte_at, unblanked, more_at, elements_at, inner_at, may_begin_term}
use Rattle.term_text.proofs.Fronts.{ok_is}
use Rattle.term_text.proofs.Quoting.{each_count}
use Rattle.term_text.proofs.Steps.{bind_ok, begun, byte_found, byte_again, blanks_in, unblanked_again}

-- ---- what is read

abbrev pub OneReads : {A : Type 0} → (A → List ℕ → Type 0) → (List ℕ → Result (A × List ℕ) Fault) → Type 0
OneReads {A} IsOne one = (bytes : List ℕ) (x : A × List ℕ) → one bytes ≡ Ok x → (text : List ℕ) × IsOne x.0 text × (bytes ≡ text ++ x.1)

-- an element with the blanks around it
pub record BlankedRead (IsInner : List ℕ → Type 0) (bytes rest : List ℕ) : Type 0 where
  pub text : List ℕ
  pub is : Blanked IsInner text
  pub parts : bytes ≡ text ++ rest

pub blanked_read : (IsInner : List ℕ → Type 0) (bytes inner mid : List ℕ) → IsInner inner → unblanked bytes ≡ inner ++ mid → BlankedRead IsInner bytes (unblanked mid)
blanked_read IsInner bytes inner mid is e =
    let before = blanks_in bytes in
    let behind = blanks_in mid in
    record {
      text = before.blanks ++ (inner ++ behind.blanks);
      is = (before.blanks, inner, behind.blanks, before.are, is, behind.are, refl);
      parts =
          let regrouped : before.blanks ++ (inner ++ (behind.blanks ++ unblanked mid)) ≡ (before.blanks ++ (inner ++ behind.blanks)) ++ unblanked mid = simp append_assoc in
          before.parts ∙ ap (λ (s : List ℕ). before.blanks ++ s) (e ∙ ap (λ (s : List ℕ). inner ++ s) behind.parts) ∙ regrouped;
    }

pub more_read : (close : ℕ) (bytes : List ℕ) (x : Bool × List ℕ) → more_at close bytes ≡ Ok x → bytes ≡ cond x.0 44 close ∷ x.1
unfolding more_at
more_read close bytes x e = by (begins (λ b. b == 44) bytes) refl e
  where
    by : (t : Bool) → begins (λ b. b == 44) bytes ≡ t → cond t (Ok (true, drop 1 bytes)) (byte_at close bytes >>= λ rest. Ok (false, rest)) ≡ Ok x → bytes ≡ cond x.0 44 close ∷ x.1
    by true here e = subst (λ (y : Bool × List ℕ). bytes ≡ cond y.0 44 close ∷ y.1) (ok_is (true, drop 1 bytes) x e) (begun 44 bytes here)
    by false other e =
        let a = bind_ok (byte_at close bytes) (λ rest. Ok (false, rest)) x e in
        subst (λ (y : Bool × List ℕ). bytes ≡ cond y.0 44 close ∷ y.1) (ok_is (false, a.0) x a.2) (byte_found close bytes a.0 a.1)

pub record ElementsRead {A : Type 0} (IsOne : A → List ℕ → Type 0) (close : ℕ) (bytes : List ℕ) (x : List A × List ℕ) : Type 0 where
  pub inner : List ℕ
  pub are : Elements IsOne x.0 inner
  pub parts : bytes ≡ inner ++ close ∷ x.1

-- at least one
record SomeRead {A : Type 0} (IsOne : A → List ℕ → Type 0) (close : ℕ) (bytes : List ℕ) (x : List A × List ℕ) : Type 0 where
  first : A
  others : List A
  is : x.0 ≡ first ∷ others
  read : ElementsRead IsOne close bytes (first ∷ others, x.1)

last_read : {A : Type 0} (IsOne : A → List ℕ → Type 0) (close : ℕ) (bytes rest mid : List ℕ) (a : A) → BlankedRead (IsOne a) bytes mid → mid ≡ close ∷ rest → SomeRead IsOne close bytes (a ∷ [], rest)
last_read IsOne close bytes rest mid a element e = record {
  first = a;
  others = [];
  is = refl;
  read = record {
    inner = element.text;
    are = (element.text, [], element.is, refl, sym (append-nil element.text));
    parts = element.parts ∙ ap (λ (s : List ℕ). element.text ++ s) e;
  };
}

next_read : {A : Type 0} (IsOne : A → List ℕ → Type 0) (close : ℕ) (bytes mid after : List ℕ) (a : A) (x : List A × List ℕ) → BlankedRead (IsOne a) bytes mid → mid ≡ 44 ∷ after → SomeRead IsOne close after x → SomeRead IsOne close bytes (a ∷ x.0, x.1)
next_read {A} IsOne close bytes mid after a x element e more =
    let are = more.read.are in
    let inner = more.read.inner in
    let whole : element.text ++ (44 ∷ (inner ++ close ∷ x.1)) ≡ (element.text ++ (44 ∷ inner)) ++ close ∷ x.1 = sym (append_assoc element.text (44 ∷ inner) (close ∷ x.1)) in
    record {
      first = a;
      others = x.0;
      is = refl;
      read = record {
        inner = element.text ++ 44 ∷ inner;
        are = subst (λ (ys : List A). Elements IsOne (a ∷ ys) (element.text ++ 44 ∷ inner)) (sym more.is)
            (element.text, 44 ∷ inner, element.is, (44 ∷ are.0, are.1, (are.0, are.2, refl), are.3, ap (λ (s : List ℕ). 44 ∷ s) are.4), refl);
        parts = element.parts ∙ ap (λ (s : List ℕ). element.text ++ s) (e ∙ ap (λ (s : List ℕ). 44 ∷ s) more.read.parts) ∙ whole;
      };
    }

elements_read : {A : Type 0} (IsOne : A → List ℕ → Type 0) (one : List ℕ → Result (A × List ℕ) Fault) → OneReads IsOne one
    → (close most : ℕ) (bytes : List ℕ) (x : List A × List ℕ) → elements_at one close most bytes ≡ Ok x → SomeRead IsOne close bytes x
unfolding elements_at
elements_read IsOne one reads close zero bytes x e = absurd cc
elements_read {A} IsOne one reads close (suc most) bytes x e =
    let a = bind_ok (one (unblanked bytes)) (λ first. more_at close (unblanked first.1) >>= next first) x e in
    let b = bind_ok (more_at close (unblanked a.0.1)) (next a.0) x a.2 in
    let found = reads (unblanked bytes) a.0 a.1 in
    let element = blanked_read (IsOne a.0.0) bytes found.0 a.0.1 found.1 found.2 in
    by a.0 b.0.0 b.0.1 element (more_read close (unblanked a.0.1) b.0 b.1) (elements_read IsOne one reads close most) b.2
  where
    next : A × List ℕ → Bool × List ℕ → Result (List A × List ℕ) Fault
    next first more = cond more.0 (elements_at one close most more.1 >>= λ others. Ok (first.0 ∷ others.0, others.1)) (Ok (first.0 ∷ [], more.1))

    by : (first : A × List ℕ) (m : Bool) (after : List ℕ) → BlankedRead (IsOne first.0) bytes (unblanked first.1) → unblanked first.1 ≡ cond m 44 close ∷ after → ((mid : List ℕ) (y : List A × List ℕ) → elements_at one close most mid ≡ Ok y → SomeRead IsOne close mid y) → next first (m, after) ≡ Ok x → SomeRead IsOne close bytes x
    by first true after element mark again e =
        let d = bind_ok (elements_at one close most after) (λ others. Ok (first.0 ∷ others.0, others.1)) x e in
        subst (SomeRead IsOne close bytes) (ok_is (first.0 ∷ d.0.0, d.0.1) x d.2)
        (next_read IsOne close bytes (unblanked first.1) after first.0 d.0 element mark (again after d.0 d.1))
    by first false after element mark again e =
        subst (SomeRead IsOne close bytes) (ok_is (first.0 ∷ [], after) x e) (last_read IsOne close bytes after (unblanked first.1) first.0 element mark)

pub inner_read : {A : Type 0} (IsOne : A → List ℕ → Type 0) (one : List ℕ → Result (A × List ℕ) Fault) → OneReads IsOne one
    → (close : ℕ) (bytes : List ℕ) (x : List A × List ℕ) → inner_at one close bytes ≡ Ok x → ElementsRead IsOne close bytes x
unfolding inner_at
inner_read {A} IsOne one reads close bytes x e = by (begins (λ b. b == close) (unblanked bytes)) refl e
  where
    by : (t : Bool) → begins (λ b. b == close) (unblanked bytes) ≡ t → cond t (Ok ([], drop 1 (unblanked bytes))) (elements_at one close (length bytes) bytes) ≡ Ok x → ElementsRead IsOne close bytes x
    by true here e =
        let before = blanks_in bytes in
        subst (ElementsRead IsOne close bytes) (ok_is ([], drop 1 (unblanked bytes)) x e)
        (record { inner = before.blanks; are = before.are; parts = before.parts ∙ ap (λ (s : List ℕ). before.blanks ++ s) (begun close (unblanked bytes) here) })
    by false other e =
        let some = elements_read IsOne one reads close (length bytes) bytes x e in
        subst (λ (ys : List A). ElementsRead IsOne close bytes (ys, x.1)) (sym some.is) some.read

-- ---- what is read again

-- what follows an element leaves its last token as it is
abbrev pub Delimited : List ℕ → Type 0
Delimited rest = begins is_name_byte rest ≡ false

abbrev pub OneAgain : {A : Type 0} → (A → List ℕ → Type 0) → (List ℕ → Result (A × List ℕ) Fault) → Type 0
OneAgain {A} IsOne one = (x : A) (text rest : List ℕ) → IsOne x text → Delimited rest → one (text ++ rest) ≡ Ok (x, rest)

-- an element begins as a term does
abbrev pub OneBegins : {A : Type 0} → (A → List ℕ → Type 0) → Type 0
OneBegins {A} IsOne = (x : A) (text : List ℕ) → IsOne x text → begins may_begin_term text ≡ true

-- a mark that may stand behind an element
abbrev pub IsMark : ℕ → Type 0
IsMark close = (is_blank close ≡ false) × (is_name_byte close ≡ false) × (may_begin_term close ≡ false)

no_blank : (b : ℕ) → may_begin_term b ≡ true → is_blank b ≡ false
no_blank b h = grind (arith, nat_tests)

blank_is_no_name : (b : ℕ) → is_blank b ≡ true → is_name_byte b ≡ false
blank_is_no_name b h = grind (arith, nat_tests)

begins_front : (p : ℕ → Bool) (text rest : List ℕ) → begins p text ≡ true → begins p (text ++ rest) ≡ true
begins_front p [] rest h = absurd cc
begins_front p (b ∷ text) rest h = h

starts_no_blank : (bytes : List ℕ) → begins may_begin_term bytes ≡ true → begins is_blank bytes ≡ false
starts_no_blank [] h = refl
starts_no_blank (b ∷ bytes) h = no_blank b h

starts_no_mark : (close : ℕ) (bytes : List ℕ) → may_begin_term close ≡ false → begins may_begin_term bytes ≡ true → begins (λ b. b == close) bytes ≡ false
starts_no_mark close [] mark h = refl
starts_no_mark close (b ∷ bytes) mark h = ne_eqb b close (λ same. absurd (let wrong : true ≡ false = sym h ∙ ap may_begin_term same ∙ mark in cc))

blanks_delimit : (blanks rest : List ℕ) → AreBlanks blanks → Delimited rest → Delimited (blanks ++ rest)
blanks_delimit [] rest are stops = stops
blanks_delimit (b ∷ blanks) rest are stops = blank_is_no_name b (and_parts _ _ are).0

record BlankedAgain {A : Type 0} (one : List ℕ → Result (A × List ℕ) Fault) (x : A) (text rest : List ℕ) : Type 0 where
  behind : List ℕ
  read : one (unblanked (text ++ rest)) ≡ Ok (x, behind)
  next : unblanked behind ≡ rest
  starts : begins may_begin_term (unblanked (text ++ rest)) ≡ true

blanked_again : {A : Type 0} (IsOne : A → List ℕ → Type 0) (one : List ℕ → Result (A × List ℕ) Fault) → OneAgain IsOne one → OneBegins IsOne
    → (x : A) (text rest : List ℕ) → Blanked (IsOne x) text → begins is_blank rest ≡ false → Delimited rest → BlankedAgain one x text rest
blanked_again IsOne one again starts x text rest (before, inner, behind, are, is, are_behind, e) no_more stops =
    let regrouped : (before ++ (inner ++ behind)) ++ rest ≡ before ++ (inner ++ (behind ++ rest)) = simp append_assoc in
    let start = begins_front may_begin_term inner (behind ++ rest) (starts x inner is) in
    let here : unblanked (text ++ rest) ≡ inner ++ (behind ++ rest) = ap unblanked (ap (λ (s : List ℕ). s ++ rest) e ∙ regrouped) ∙ unblanked_again before (inner ++ (behind ++ rest)) are (starts_no_blank (inner ++ (behind ++ rest)) start) in
    record {
      behind = behind ++ rest;
      read = ap one here ∙ again x inner (behind ++ rest) is (blanks_delimit behind rest are_behind stops);
      next = unblanked_again behind rest are_behind no_more;
      starts = ap (begins may_begin_term) here ∙ start;
    }

more_comma : (close : ℕ) (rest : List ℕ) → more_at close (44 ∷ rest) ≡ Ok (true, rest)
unfolding more_at
more_comma close rest = refl

more_close : (close : ℕ) (rest : List ℕ) → close ≢ 44 → more_at close (close ∷ rest) ≡ Ok (false, rest)
unfolding more_at
more_close close rest other = rw (ne_eqb close 44 other, byte_again close rest) refl

last_step : {A : Type 0} (one : List ℕ → Result (A × List ℕ) Fault) (close most : ℕ) (bytes mid rest : List ℕ) (x : A)
    → one (unblanked bytes) ≡ Ok (x, mid) → more_at close (unblanked mid) ≡ Ok (false, rest) → elements_at one close (suc most) bytes ≡ Ok (x ∷ [], rest)
unfolding elements_at
last_step one close most bytes mid rest x first more = rw (first, more) refl

next_step : {A : Type 0} (one : List ℕ → Result (A × List ℕ) Fault) (close most : ℕ) (bytes mid after rest : List ℕ) (x : A) (xs : List A)
    → one (unblanked bytes) ≡ Ok (x, mid) → more_at close (unblanked mid) ≡ Ok (true, after) → elements_at one close most after ≡ Ok (xs, rest) → elements_at one close (suc most) bytes ≡ Ok (x ∷ xs, rest)
unfolding elements_at
next_step one close most bytes mid after rest x xs first more others = rw (first, more, others) refl

elements_again : {A : Type 0} (IsOne : A → List ℕ → Type 0) (one : List ℕ → Result (A × List ℕ) Fault) → OneAgain IsOne one → OneBegins IsOne
    → (close : ℕ) → IsMark close → close ≢ 44 → (most : ℕ) (x : A) (xs : List A) (inner rest : List ℕ) → Elements IsOne (x ∷ xs) inner → length (x ∷ xs) ≤ most → elements_at one close most (inner ++ close ∷ rest) ≡ Ok (x ∷ xs, rest)
elements_again IsOne one again starts close mark other zero x xs inner rest are short = absurd (omega arith)
elements_again {A} IsOne one again starts close mark other (suc most) x [] inner rest are short =
    let whole : inner ≡ are.0 = are.4 ∙ ap (λ (s : List ℕ). are.0 ++ s) are.3 ∙ append-nil are.0 in
    let first = blanked_again IsOne one again starts x are.0 (close ∷ rest) are.2 mark.0 mark.1 in
    ap (λ (s : List ℕ). elements_at one close (suc most) (s ++ close ∷ rest)) whole
    ∙ last_step one close most (are.0 ++ close ∷ rest) first.behind rest x first.read (ap (more_at close) first.next ∙ more_close close rest other)
elements_again {A} IsOne one again starts close mark other (suc most) x (y ∷ ys) inner rest are short =
    let more = are.3 in
    let next : List ℕ = more.2.0 ++ more.1 in
    let mid : List ℕ = 44 ∷ (next ++ close ∷ rest) in
    let comma : are.1 ≡ 44 ∷ next = more.4 ∙ ap (λ (s : List ℕ). s ++ more.1) more.2.2 in
    let whole : inner ++ close ∷ rest ≡ are.0 ++ mid = ap (λ (s : List ℕ). s ++ close ∷ rest) (are.4 ∙ ap (λ (s : List ℕ). are.0 ++ s) comma) ∙ append_assoc are.0 (44 ∷ next) (close ∷ rest) in
    let first = blanked_again IsOne one again starts x are.0 mid are.2 refl refl in
    let others = elements_again IsOne one again starts close mark other most y ys next rest (more.2.0, more.1, more.2.1, more.3, refl) (omega arith) in
    ap (elements_at one close (suc most)) whole
    ∙ next_step one close most (are.0 ++ mid) first.behind (next ++ close ∷ rest) rest x (y ∷ ys) first.read (ap (more_at close) first.next ∙ more_comma close (next ++ close ∷ rest)) others

blanked_some : (IsInner : List ℕ → Type 0) → ((inner : List ℕ) → IsInner inner → 0 < length inner) → (text : List ℕ) → Blanked IsInner text → 0 < length text
blanked_some IsInner some text (before, inner, behind, are, is, are_behind, e) =
    omega (arith, some inner is, ap length e, length-append before (inner ++ behind), length-append inner behind)

pub begins_some : (p : ℕ → Bool) (text : List ℕ) → begins p text ≡ true → 0 < length text
begins_some p [] h = absurd cc
begins_some p (b ∷ text) h = omega arith

elements_count : {A : Type 0} (IsOne : A → List ℕ → Type 0) → OneBegins IsOne → (xs : List A) (inner : List ℕ) → Elements IsOne xs inner → length xs ≤ length inner
elements_count IsOne starts [] inner are = omega arith
elements_count {A} IsOne starts (x ∷ xs) inner are =
    omega (arith, some x are.0 are.2, each_count (λ y. Comma (Blanked (IsOne y))) comma xs are.1 are.3, ap length are.4, length-append are.0 are.1)
  where
    some : (x : A) (text : List ℕ) → Blanked (IsOne x) text → 0 < length text
    some x text is = blanked_some (IsOne x) (λ inner one. begins_some may_begin_term inner (starts x inner one)) text is

    comma : (x : A) (text : List ℕ) → Comma (Blanked (IsOne x)) text → 0 < length text
    comma x text is = rw is.2 (omega arith)

closes : {A : Type 0} (one : List ℕ → Result (A × List ℕ) Fault) (close : ℕ) (bytes rest : List ℕ) → unblanked bytes ≡ close ∷ rest → inner_at one close bytes ≡ Ok ([], rest)
unfolding inner_at
closes one close bytes rest e = rw (e, eq-eqb close close refl) refl

goes_on : {A : Type 0} (one : List ℕ → Result (A × List ℕ) Fault) (close : ℕ) (bytes : List ℕ) → begins (λ b. b == close) (unblanked bytes) ≡ false → inner_at one close bytes ≡ elements_at one close (length bytes) bytes
unfolding inner_at
goes_on one close bytes e = rw e refl

-- what a blanked text begins with, behind the blanks
pub first_begins : (p : ℕ → Bool) → ((b : ℕ) → p b ≡ true → is_blank b ≡ false) → (IsInner : List ℕ → Type 0) → ((text : List ℕ) → IsInner text → begins p text ≡ true)
    → (text rest : List ℕ) → Blanked IsInner text → begins p (unblanked (text ++ rest)) ≡ true
first_begins p none IsInner starts text rest (before, inner, behind, are, is, are_behind, e) =
    let regrouped : (before ++ (inner ++ behind)) ++ rest ≡ before ++ (inner ++ (behind ++ rest)) = simp append_assoc in
    let start = begins_front p inner (behind ++ rest) (starts inner is) in
    ap (begins p) (ap unblanked (ap (λ (s : List ℕ). s ++ rest) e ∙ regrouped) ∙ unblanked_again before (inner ++ (behind ++ rest)) are (free (inner ++ (behind ++ rest)) start)) ∙ start
  where
    free : (bytes : List ℕ) → begins p bytes ≡ true → begins is_blank bytes ≡ false
    free [] h = refl
    free (b ∷ bytes) h = none b h

pub inner_again : {A : Type 0} (IsOne : A → List ℕ → Type 0) (one : List ℕ → Result (A × List ℕ) Fault) → OneAgain IsOne one → OneBegins IsOne
    → (close : ℕ) → IsMark close → close ≢ 44 → (xs : List A) (inner rest : List ℕ) → Elements IsOne xs inner → inner_at one close (inner ++ close ∷ rest) ≡ Ok (xs, rest)
inner_again IsOne one again starts close mark other [] inner rest are = closes one close (inner ++ close ∷ rest) rest (unblanked_again inner (close ∷ rest) are mark.0)
inner_again {A} IsOne one again starts close mark other (x ∷ xs) inner rest are =
    let regrouped : inner ++ close ∷ rest ≡ are.0 ++ (are.1 ++ close ∷ rest) = ap (λ (s : List ℕ). s ++ close ∷ rest) are.4 ∙ append_assoc are.0 are.1 (close ∷ rest) in
    let start : begins may_begin_term (unblanked (inner ++ close ∷ rest)) ≡ true = ap (λ (s : List ℕ). begins may_begin_term (unblanked s)) regrouped ∙ first_begins may_begin_term no_blank (IsOne x) (starts x) are.0 (are.1 ++ close ∷ rest) are.2 in
    let count = elements_count IsOne starts (x ∷ xs) inner are in
    goes_on one close (inner ++ close ∷ rest) (starts_no_mark close (unblanked (inner ++ close ∷ rest)) mark.2 start)
    ∙ elements_again IsOne one again starts close mark other (length (inner ++ close ∷ rest)) x xs inner rest are (omega (arith, count, length-append inner (close ∷ rest)))
