-- Where a line is refused.
use Rattle.std.proofs.Common.{◌≡◌, ◌≢◌, ℕ, ◌+◌, ◌-◌, ◌<◌, ◌≤◌, Bool, true, false, cond, ◌⊎◌, List, [], ◌∷◌, ◌++◌, length, take, Some, Result, Ok, Err, refl, sym, ap, subst, ◌∙◌, append_assoc, arith, length-append, inl, inr}
use Rattle.std.specs.List.{slice_get}
use Rattle.std.specs.Str.{bytes_eq}
use Rattle.std.proofs.lemmas.Slice.Eq.{bytes_eq-Decides}
use Rattle.std.proofs.lemmas.List.{take_at}
use Rattle.term_core.specs.Tree.{Tree}
use Rattle.term_text.specs.Grammar.{begins, AreBlanks}
use Rattle.mn_script.specs.declared.forms.Kind.{Kind}
use Rattle.mn_script.specs.Forms.{Shape, fits, may_begin, is_table}
use Rattle.mn_script.specs.Grammar.{IsLine, IsFront, IsBefore, IsUnfit, IsRefusedAt, IsWrongArgument, IsWrongByte}
use Rattle.term_text.specs.Places.{read}
use Rattle.mn_script.specs.Reading.{◌>>=◌, field_at, fitting, argument_at, form_at, line_at}
use Rattle.mn_script.proofs.Fields.{field_read, field_placed}
use Rattle.mn_script.proofs.Argument.{argument_within}
use Rattle.mn_script.proofs.Refusals.{Why, more_due, other_byte, Refusal, at_byte, in_argument, BindErr, at_first, at_second, bind_err}
use Rattle.mn_script.proofs.Readers.{Done, Refuses}
use Rattle.mn_script.proofs.Lines.{FormLine, LineBefore, form_reader, form_is_line, line_is_form}
use Rattle.mn_script.proofs.Others.{IsOf, is_of, same_word, other_form, before_end, before_some}
use Rattle.mn_script.proofs.OverForms.{found, all_refused, some_refused}

abbrev FormRefused : Shape → List ℕ → ℕ → Type 0
FormRefused form = Refusal (Done (FormLine form)) (LineBefore form) (Refuses (form_at form))

form_refused : (form : Shape) → IsOf form → (line : List ℕ) (left : ℕ) → form_at form line ≡ Err left
    → FormRefused form line left
form_refused form of line left e = (form_reader form of.word of.due).refused line left e

form_again : (form : Shape) → IsOf form → (line : List ℕ) (ts : List Tree) → IsLine form ts line
    → form_at form line ≡ Ok ts
form_again form of line ts h = (form_reader form of.word of.due).again line ts (line_is_form form line ts h)

refusal_within : (form : Shape) (line : List ℕ) (left : ℕ) → FormRefused form line left → left ≤ length line
refusal_within form line left (at_byte front rest tail parts counted completes why) =
    omega (arith, counted, ap length parts, length-append front rest)
refusal_within form line left (in_argument kind front rest parts before begin e) =
    omega (arith, argument_within kind rest left e, ap length parts, length-append front rest)

-- ---- the form that gets furthest

pub record Furthest (forms : List Shape) (line : List ℕ) (left : ℕ) : Type 0 where
  pub n : ℕ
  pub form : Shape
  pub is : slice_get forms n ≡ Some form
  pub refused : form_at form line ≡ Err left
  pub others : (k : ℕ) (other : Shape) → slice_get forms k ≡ Some other
      → (a : ℕ) × (form_at other line ≡ Err a) × (left ≤ a)

pub furthest : (forms : List Shape) → is_table forms ≡ true → forms ≢ [] → (line : List ℕ) (left : ℕ)
    → line_at forms line ≡ Err left → Furthest forms line left
furthest [] is some line left e = absurd (some refl)
furthest (first ∷ forms) is some line left e = by (some_refused (first ∷ forms) 0 (length line) line left e)
  where
    all : (k : ℕ) (other : Shape) → slice_get (first ∷ forms) k ≡ Some other
        → (a : ℕ) × (form_at other line ≡ Err a) × (left ≤ a)
    all k other there = all_refused (first ∷ forms) 0 (length line) line left e k other there

    by : (left ≡ length line)
        ⊎ ((n : ℕ) × (form : Shape) × (slice_get (first ∷ forms) n ≡ Some form) × (form_at form line ≡ Err left))
        → Furthest (first ∷ forms) line left
    by (inr (n, form, here, refused)) = record { n = n; form = form; is = here; refused = refused; others = all }
    by (inl same) =
        let a = all 0 first refl in
        let within = refusal_within first line a.0 (form_refused first (is_of (first ∷ forms) is 0 first refl) line a.0 a.1) in
        let least : a.0 ≡ left = omega (arith, same, within, a.2) in
        record { n = 0; form = first; is = refl; refused = a.1 ∙ ap Err least; others = all }

-- ---- at a byte

-- of two fronts of a line, what follows the shorter one is also in what begins as the longer one and its next byte
shared : (front : List ℕ) (c : ℕ) (after longer : List ℕ) (d : ℕ) (behind more : List ℕ)
    → front ++ c ∷ after ≡ longer ++ d ∷ behind → length front ≤ length longer
    → (tail : List ℕ) × (longer ++ d ∷ more ≡ front ++ c ∷ tail)
shared [] c after [] d behind more e le = let same : d ≡ c = cc in (more, ap (λ (x : ℕ). x ∷ more) same)
shared [] c after (b ∷ longer) d behind more e le =
    let same : b ≡ c = cc in (longer ++ d ∷ more, ap (λ (x : ℕ). x ∷ (longer ++ d ∷ more)) same)
shared (a ∷ front) c after [] d behind more e le = absurd (omega (arith, le))
shared (a ∷ front) c after (b ∷ longer) d behind more e le =
    let heads : a ≡ b = cc in
    let tails : front ++ c ∷ after ≡ longer ++ d ∷ behind = cc in
    let inner = shared front c after longer d behind more tails (omega (arith, le)) in
    (inner.0, (λ i. sym heads i ∷ inner.1 i))

-- no form has a line that begins as the front and the byte
never : (forms : List Shape) → is_table forms ≡ true
    → (line : List ℕ) (left : ℕ) (f : Furthest forms line left) (front : List ℕ) (c : ℕ) (after more : List ℕ)
    → line ≡ front ++ c ∷ after → left ≡ length (c ∷ after)
    → ((tail : List ℕ) → form_at f.form (front ++ c ∷ tail) ≡ Err (length (c ∷ tail)))
    → (k : ℕ) (other : Shape) (ts : List Tree) → slice_get forms k ≡ Some other → IsLine other ts (front ++ c ∷ more)
    → ⊥
never forms is line left f front c after more parts counted refuses k other ts there h = by (form_refused other other_of line a.0 a.1)
  where
    other_of : IsOf other
    other_of = is_of forms is k other there

    form_of : IsOf f.form
    form_of = is_of forms is f.n f.form f.is

    a : (a : ℕ) × (form_at other line ≡ Err a) × (left ≤ a)
    a = f.others k other there

    reads : form_at other (front ++ c ∷ more) ≡ Ok ts
    reads = form_again other other_of (front ++ c ∷ more) ts h

    same_form : other.word ≡ f.form.word → ⊥
    same_form same =
        let e : other ≡ f.form = same_word forms is k f.n other f.form there f.is same in
        let unread : form_at other (front ++ c ∷ more) ≡ Err (length (c ∷ more)) = ap (λ (x : Shape). form_at x (front ++ c ∷ more)) e
        ∙ refuses more in
        let read = reads in
        absurd cc

    other_words : (kind : Kind) (gap inner rest : List ℕ) → AreBlanks gap → IsBefore other.kinds kind inner
        → line ≡ gap ++ (other.word ++ (inner ++ rest)) → argument_at kind rest ≡ Err a.0 → f.form.word ≢ other.word → ⊥
    other_words kind gap inner rest are before whole e differ =
        let b = other_form f.form other form_of.word other_of.word differ gap (inner ++ rest) are
        (before_end other.kinds kind inner rest before) in
        let refused : form_at f.form line ≡ Err b.0 = ap (form_at f.form) whole ∙ b.1 in
        let same : left ≡ b.0 = err_same (sym f.refused ∙ refused) in
        some_inner inner (before_some other.kinds kind inner before)
        (omega (arith, same, b.2, a.2, argument_within kind rest a.0 e, length-append inner rest))
      where
        err_same : {m n : ℕ} → (let r : Result (List Tree) ℕ = Err m in r) ≡ Err n → m ≡ n
        err_same e = cc

        some_inner : (inner : List ℕ) → inner ≢ [] → length inner ≤ 0 → ⊥
        some_inner [] some none = some refl
        some_inner (d ∷ inner) some none = absurd (omega (arith, none))

    decided : (b : Bool) → bytes_eq other.word f.form.word ≡ b → (kind : Kind) (gap inner rest : List ℕ) → AreBlanks gap
        → IsBefore other.kinds kind inner → line ≡ gap ++ (other.word ++ (inner ++ rest))
        → argument_at kind rest ≡ Err a.0 → ⊥
    decided true is kind gap inner rest are before whole e = same_form ((bytes_eq-Decides other.word f.form.word).0 is)
    decided false is kind gap inner rest are before whole e =
        other_words kind gap inner rest are before whole e
        (λ same. let wrong : true ≡ false = sym ((bytes_eq-Decides other.word f.form.word).1 (sym same)) ∙ is in absurd cc)

    other_byte_there : (front' rest' : List ℕ) → line ≡ front' ++ rest' → a.0 ≡ length rest'
        → Why (Refuses (form_at other)) front' rest' → ⊥
    other_byte_there front' rest' inner count (more_due none) = absurd (omega (arith, a.2, count, counted, ap length none))
    other_byte_there front' rest' inner count (other_byte d behind rest_is refuses') =
        let whole : front' ++ d ∷ behind ≡ front ++ c ∷ after = ap (λ (x : List ℕ). front' ++ x) (sym rest_is) ∙ sym inner ∙ parts in
        let le : length front' ≤ length front =
        omega (
          arith,
          a.2,
          count,
          counted,
          ap length rest_is,
          ap length whole,
          length-append front' (d ∷ behind),
          length-append front (c ∷ after),
        )
        in
        let common = shared front' d behind front c after more whole le in
        let unread : form_at other (front ++ c ∷ more) ≡ Err (length (d ∷ common.0)) = ap (form_at other) common.1 ∙ refuses' common.0 in
        let read = reads in
        absurd cc

    by : FormRefused other line a.0 → ⊥
    by (at_byte front' rest' tail inner count completes why) = other_byte_there front' rest' inner count why
    by (in_argument kind front' rest' inner (gap, middle, are, before, front_is) begin e) =
        decided (bytes_eq other.word f.form.word) refl kind gap middle rest' are before
        (inner ∙ ap (λ (x : List ℕ). x ++ rest') front_is ∙ append_assoc gap (other.word ++ middle) rest'
        ∙ ap (λ (x : List ℕ). gap ++ x) (append_assoc other.word middle rest')) e

byte_place : (forms : List Shape) → is_table forms ≡ true
    → (line : List ℕ) (left : ℕ) (f : Furthest forms line left) (front rest tail : List ℕ)
    → line ≡ front ++ rest → left ≡ length rest → Done (FormLine f.form) (front ++ tail)
    → Why (Refuses (form_at f.form)) front rest → IsWrongByte forms line (length line - left)
byte_place forms is line left f front rest tail parts counted completes why =
    subst (IsWrongByte forms line) at (record {
      within = omega (arith, ap length parts, length-append front rest);
      front = (
        tail,
        f.n,
        completes.0,
        (
          f.form,
          f.is,
          subst (λ (x : List ℕ). IsLine f.form completes.0 (x ++ tail)) (sym cut)
              (form_is_line f.form (front ++ tail) completes.0 completes.1),
        ),
      );
      refused = reason why;
    })
  where
    at : length front ≡ length line - left
    at = omega (arith, counted, ap length parts, length-append front rest)

    cut : take (length front) line ≡ front
    cut = ap (take (length front)) parts ∙ take_at front rest (length front) refl

    one_more : (c : ℕ) (after : List ℕ) → line ≡ front ++ c ∷ after → take (length front + 1) line ≡ front ++ c ∷ []
    one_more c after whole =
        ap (take (length front + 1)) (whole ∙ sym (append_assoc front (c ∷ []) after))
        ∙ take_at (front ++ c ∷ []) after (length front + 1) (omega (arith, length-append front (c ∷ [])))

    reason : Why (Refuses (form_at f.form)) front rest
        → (length front ≡ length line)
        ⊎ ((length front < length line) × (IsFront forms (take (length front + 1) line) → ⊥))
    reason (more_due none) = inl (omega (arith, ap length none, ap length parts, length-append front rest))
    reason (other_byte c after rest_is refuses) =
        let whole : line ≡ front ++ c ∷ after = parts ∙ ap (λ (x : List ℕ). front ++ x) rest_is in
        inr (
          omega (arith, ap length whole, length-append front (c ∷ after)),
          λ h. never forms is line left f front c after h.0 whole (counted ∙ ap length rest_is) refuses h.1 h.3.0 h.2 h.3.1
              (subst (λ (x : List ℕ). IsLine h.3.0 h.2 x)
              (ap (λ (x : List ℕ). x ++ h.0) (one_more c after whole) ∙ append_assoc front (c ∷ []) h.0) h.3.2),
        )

-- ---- in an argument

-- a term is refused there, or one that is not of the kind stands there
argument_wrong : (forms : List Shape) (line front rest : List ℕ) (kind : Kind) (left : ℕ) → line ≡ front ++ rest
    → begins (may_begin kind) rest ≡ true → argument_at kind rest ≡ Err left
    → IsRefusedAt (read 100 line (length front)) (length line - left)
    ⊎ (IsUnfit kind rest × (length line - left ≡ length front))
unfolding argument_at
argument_wrong forms line front rest kind left parts begin e = step (begins (may_begin kind) rest) begin e
  where
    Goal : Type 0
    Goal = IsRefusedAt (read 100 line (length front)) (length line - left) ⊎ (IsUnfit kind rest × (length line - left ≡ length front))

    unfit : (x : Tree × List ℕ) → field_at rest ≡ Ok x → (b : Bool) → fits kind x.0 ≡ b
        → cond b (Ok x) (Err (length rest)) ≡ Err left → Goal
    unfit x found true is h = absurd cc
    unfit x found false is h =
        let field = field_read rest x.0 x.1 found in
        let all : length rest ≡ left = cc in
        inr (
          (x.0, field.text, x.1, field.is.0, field.is.1, field.stops, is, field.parts),
          omega (arith, all, ap length parts, length-append front rest),
        )

    bound : BindErr (field_at rest) (fitting kind (length rest)) left → Goal
    bound (at_first h) = inl (field_placed line front rest left parts h)
    bound (at_second x h f) = unfit x h (fits kind x.0) refl f

    step : (b : Bool) → b ≡ true → cond b (field_at rest >>= fitting kind (length rest)) (Err (length rest)) ≡ Err left
        → Goal
    step true is h = bound (bind_err (field_at rest) (fitting kind (length rest)) left h)
    step false is h = absurd cc

abbrev pub Place : List Shape → List ℕ → ℕ → Type 0
Place forms line at = IsWrongArgument forms line at ⊎ IsWrongByte forms line at

pub place_made : (forms : List Shape) → is_table forms ≡ true → forms ≢ [] → (line : List ℕ) (left : ℕ)
    → line_at forms line ≡ Err left → Place forms line (length line - left)
place_made forms is some line left e = by (furthest forms is some line left e)
  where
    place : (f : Furthest forms line left) → FormRefused f.form line left → Place forms line (length line - left)
    place f (at_byte front rest tail parts counted completes why) =
        inr (byte_place forms is line left f front rest tail parts counted completes why)
    place f (in_argument kind front rest parts (gap, inner, are, before, front_is) begin refused) =
        inl (record {
          due = record {
            kind = kind;
            front = front;
            rest = rest;
            before = (f.n, f.form, f.is, gap, inner, are, before, front_is);
            parts = parts;
            begin = begin;
          };
          refused = argument_wrong forms line front rest kind left parts begin refused;
        })

    by : Furthest forms line left → Place forms line (length line - left)
    by f = place f (form_refused f.form (is_of forms is f.n f.form f.is) line left f.refused)
