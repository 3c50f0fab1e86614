-- Reading bytes, and the same bytes with more behind them: where the first is refused before its end, the second is too.
use Rattle.std.proofs.Common.{◌≡◌, ℕ, zero, suc, ◌+◌, ◌-◌, ◌/◌, ◌%◌, ◌<◌, ◌≤◌, Bool, true, false, cond, not, ltb, leb, List, [], ◌∷◌, ◌++◌, length, take, drop, map, decimal, Option, Some, None, Result, Ok, Err, refl, sym, ap, subst, ◌∙◌, arith, append_assoc, append-nil, inl, inr, ◌⊎◌}
use Rattle.std.specs.Prelude.{◌==◌, ◌&&◌, pos}
use Rattle.std.specs.Char.{is_ascii_digit, is_ascii_hexdigit, is_ascii_lowercase, encode_utf8}
use Rattle.std.specs.List.{prefix_len}
use Rattle.std.specs.Str.{encode_utf8_all}
use Rattle.std.specs.Str.Parse.{digits_value, digits_value_after, signed_digits_value}
use Rattle.std.proofs.lemmas.Bool.{ltb-false, le-ltb, eqb-true, leb-false, lt-leb}
use Rattle.std.proofs.lemmas.Bool.Decides.{nat_tests}
use Rattle.std.proofs.lemmas.List.{length-append, length-take}
use Rattle.std.proofs.lemmas.List.Sums.{prefix_len-le-length}
use Rattle.term_core.specs.Tree.{Tree, int, atom, tuple, list, bin}
use Rattle.term_core.specs.View.{trees_of}
use Rattle.term_text.specs.declared.fault.Fault.{Fault}
use Rattle.term_text.specs.declared.fault.Fault.TheVariants.{Bad, WideInt, TooDeep}
use Rattle.term_text.specs.Grammar.{begins, is_blank, is_name_byte, escaped}
use Rattle.term_text.specs.Reading.{◌>>=◌, refused, byte_at, unblanked, is_positive_digit, positive_len, natural_len, number_len, fits, number_at, small_at, utf8_at, hex_digits_at, is_scalar, hex_at, letter_at, escape_at, character_at, narrow_at, quoted_at, as_numbers, more_at, elements_at, inner_at, name_at, quoted_atom_at, may_begin_character, string_at, byte_string_at, bytes_at, binary_at, tuple_at, list_at, begun_at, may_begin_term, term_at}
use Rattle.term_text.specs.declared.error.TextErr.TheVariants as refusals
use Rattle.term_text.specs.Places.{read}
use Rattle.term_text.specs.Viable.{continues, NoText}
use Rattle.std.proofs.lemmas.Fmt.{decimal_is_IsNumeral_wide}
use Rattle.term_text.proofs.Steps.{bind_ok, guard_held, blanks_in}
use Rattle.term_text.proofs.Listing.{more_read, begins_some}
use Rattle.term_text.proofs.Found.{term_is}
use Rattle.term_text.proofs.Again.{term_again}
use Rattle.term_text.proofs.Texts.{text_begins, stops}
use Rattle.term_text.proofs.RefusedTerms.{with_places-Bad, with_places-WideInt, with_places-TooDeep}
use Rattle.term_text.proofs.Decimals.{value_grows, value_append, stays_wide, small_read}
use Rattle.term_text.proofs.Quoting.{utf8_read, utf8_again, character_read, character_again, character_some}

-- refused, for whatever fault
abbrev pub IsErr : {A : Type 0} → Result A Fault → Type 0
IsErr (Ok x) = ⊥
IsErr (Err f) = Unit {0}

-- ended where the bytes did, without a fault that more of them would not mend
abbrev Open : {A : Type 0} → (A → List ℕ) → Result A Fault → Type 0
Open behind (Ok x) = behind x ≡ []
Open behind (Err (Bad left)) = left ≡ 0
Open behind (Err (WideInt left)) = ⊥
Open behind (Err (TooDeep left)) = ⊥

-- the second read as the first did, with more behind, but where the first came to its end
abbrev Cut : {A : Type 0} → (A → List ℕ) → (A → A) → Result A Fault → Result A Fault → Type 0
Cut behind grow (Ok x) whole = (behind x ≡ []) ⊎ (whole ≡ Ok (grow x))
Cut behind grow (Err (Bad left)) whole = (left ≡ 0) ⊎ IsErr whole
Cut behind grow (Err (WideInt left)) whole = IsErr whole
Cut behind grow (Err (TooDeep left)) whole = IsErr whole

abbrev second : {A : Type 0} → A × List ℕ → List ℕ
second x = x.1

abbrev grown : {A : Type 0} → List ℕ → A × List ℕ → A × List ℕ
grown more x = (x.0, x.1 ++ more)

abbrev itself : List ℕ → List ℕ
itself rest = rest

open_cut : {A : Type 0} (behind : A → List ℕ) (grow : A → A) (r whole : Result A Fault) → Open behind r → Cut behind grow r whole
open_cut behind grow (Ok x) whole h = inl h
open_cut behind grow (Err (Bad left)) whole h = inl h
open_cut behind grow (Err (WideInt left)) whole h = absurd h
open_cut behind grow (Err (TooDeep left)) whole h = absurd h

err_bind : {A B : Type 0} (r : Result A Fault) (f : A → Result B Fault) → IsErr r → IsErr (r >>= f)
err_bind (Ok x) f h = absurd h
err_bind (Err d) f h = tt

cut_bind : {A B : Type 0} (behind : A → List ℕ) (grow : A → A) (last : B → List ℕ) (more_last : B → B) (r whole : Result A Fault) (f g : A → Result B Fault)
    → Cut behind grow r whole → ((x : A) → r ≡ Ok x → behind x ≡ [] → Open last (f x)) → ((x : A) → r ≡ Ok x → Cut last more_last (f x) (g (grow x))) → Cut last more_last (r >>= f) (whole >>= g)
cut_bind {A} {B} behind grow last more_last (Ok x) whole f g (inl h) ends goes = open_cut last more_last (f x) (whole >>= g) (ends x refl h)
cut_bind {A} {B} behind grow last more_last (Ok x) whole f g (inr h) ends goes = subst (λ (w : Result A Fault). Cut last more_last (f x) (w >>= g)) (sym h) (goes x refl)
cut_bind behind grow last more_last (Err (Bad left)) whole f g (inl h) ends goes = inl h
cut_bind behind grow last more_last (Err (Bad left)) whole f g (inr h) ends goes = inr (err_bind whole g h)
cut_bind behind grow last more_last (Err (WideInt left)) whole f g h ends goes = err_bind whole g h
cut_bind behind grow last more_last (Err (TooDeep left)) whole f g h ends goes = err_bind whole g h

cut_cond : {A : Type 0} (behind : A → List ℕ) (grow : A → A) (b : Bool) (x y v w : Result A Fault) → (b ≡ true → Cut behind grow x v) → (b ≡ false → Cut behind grow y w) → Cut behind grow (cond b x y) (cond b v w)
cut_cond behind grow true x y v w p q = p refl
cut_cond behind grow false x y v w p q = q refl

open_bind : {A B : Type 0} (behind : A → List ℕ) (last : B → List ℕ) (r : Result A Fault) (f : A → Result B Fault) → Open behind r → ((x : A) → behind x ≡ [] → Open last (f x)) → Open last (r >>= f)
open_bind behind last (Ok x) f h g = g x h
open_bind behind last (Err (Bad left)) f h g = h
open_bind behind last (Err (WideInt left)) f h g = h
open_bind behind last (Err (TooDeep left)) f h g = h

-- a reader at the end of the bytes, and with more behind them
abbrev AtEnd : {A : Type 0} → (List ℕ → Result (A × List ℕ) Fault) → Type 0
AtEnd one = Open second (one [])

abbrev Cuts : {A : Type 0} → List ℕ → (List ℕ → Result (A × List ℕ) Fault) → Type 0
Cuts more one = (bytes : List ℕ) → Cut second (grown more) (one bytes) (one (bytes ++ more))

abbrev Shrinks : {A : Type 0} → (List ℕ → Result (A × List ℕ) Fault) → Type 0
Shrinks {A} one = (bytes : List ℕ) (x : A × List ℕ) → one bytes ≡ Ok x → length x.1 < length bytes

-- ---- lists

take_front : (n : ℕ) (xs more : List ℕ) → n ≤ length xs → take n (xs ++ more) ≡ take n xs
take_front zero xs more h = refl
take_front (suc n) [] more h = absurd (omega arith)
take_front (suc n) (x ∷ xs) more h = ap (λ (s : List ℕ). x ∷ s) (take_front n xs more (omega arith))

drop_front : (n : ℕ) (xs more : List ℕ) → n ≤ length xs → drop n (xs ++ more) ≡ drop n xs ++ more
drop_front zero xs more h = refl
drop_front (suc n) [] more h = absurd (omega arith)
drop_front (suc n) (x ∷ xs) more h = drop_front n xs more (omega arith)

drop_whole : (n : ℕ) (xs : List ℕ) → n ≡ length xs → drop n xs ≡ []
drop_whole n [] h = rw h refl
drop_whole zero (x ∷ xs) h = absurd (omega arith)
drop_whole (suc n) (x ∷ xs) h = drop_whole n xs (omega arith)

-- a front that stops within
prefix_stays : (p : ℕ → Bool) (bytes more : List ℕ) → (prefix_len p bytes ≡ length bytes) ⊎ (prefix_len p (bytes ++ more) ≡ prefix_len p bytes)
prefix_stays p [] more = inl refl
prefix_stays p (b ∷ bytes) more = by (p b) refl (prefix_stays p bytes more)
  where
    by : (t : Bool) → p b ≡ t → (prefix_len p bytes ≡ length bytes) ⊎ (prefix_len p (bytes ++ more) ≡ prefix_len p bytes)
        → (cond (p b) (1 + prefix_len p bytes) 0 ≡ length (b ∷ bytes)) ⊎ (cond (p b) (1 + prefix_len p (bytes ++ more)) 0 ≡ cond (p b) (1 + prefix_len p bytes) 0)
    by true h (inl e) = inl (rw h (omega arith))
    by true h (inr e) = inr (rw h (omega arith))
    by false h e = inr (rw h refl)

prefix_grows : (p : ℕ → Bool) (bytes more : List ℕ) → prefix_len p bytes ≤ prefix_len p (bytes ++ more)
prefix_grows p [] more = omega arith
prefix_grows p (b ∷ bytes) more = by (p b) (prefix_grows p bytes more)
  where
    by : (t : Bool) → prefix_len p bytes ≤ prefix_len p (bytes ++ more) → cond t (1 + prefix_len p bytes) 0 ≤ cond t (1 + prefix_len p (bytes ++ more)) 0
    by true h = omega arith
    by false h = omega arith

-- ---- bytes and blanks

byte_cut : (k : ℕ) (bytes more : List ℕ) → Cut itself (λ rest. rest ++ more) (byte_at k bytes) (byte_at k (bytes ++ more))
unfolding byte_at
byte_cut k [] more = inl refl
byte_cut k (b ∷ rest) more = cut_cond itself (λ r. r ++ more) (b == k) (Ok rest) (refused (b ∷ rest)) (Ok (rest ++ more)) (refused (b ∷ (rest ++ more))) (λ h. inr refl) (λ h. inr tt)

byte_end : (k : ℕ) → Open itself (byte_at k [])
unfolding byte_at
byte_end k = refl

unblanked_cut : (bytes more : List ℕ) → (unblanked bytes ≡ []) ⊎ (unblanked (bytes ++ more) ≡ unblanked bytes ++ more)
unfolding unblanked
unblanked_cut bytes more = elim (prefix_stays is_blank bytes more) [
  | inl h ↦ inl (drop_whole (prefix_len is_blank bytes) bytes h)
  | inr h ↦ inr (ap (λ (n : ℕ). drop n (bytes ++ more)) h ∙ drop_front (prefix_len is_blank bytes) bytes more (prefix_len-le-length is_blank bytes))
]

unblanked_end : unblanked [] ≡ []
unfolding unblanked
unblanked_end = refl

-- behind the blanks
blanked_cut : {A : Type 0} (behind : A → List ℕ) (grow : A → A) (one : List ℕ → Result A Fault) (bytes more : List ℕ) → Open behind (one []) → ((b : List ℕ) → Cut behind grow (one b) (one (b ++ more))) → Cut behind grow (one (unblanked bytes)) (one (unblanked (bytes ++ more)))
blanked_cut {A} behind grow one bytes more ends cuts = elim (unblanked_cut bytes more) [
  | inl h ↦ open_cut behind grow (one (unblanked bytes)) (one (unblanked (bytes ++ more))) (let P : List ℕ → Type 0 = λ b. Open behind (one b) in subst P (sym h) ends)
  | inr h ↦ let P : List ℕ → Type 0 = λ b. Cut behind grow (one (unblanked bytes)) (one b) in subst P (sym h) (cuts (unblanked bytes))
]

-- ---- numbers

-- how many bytes a number takes
abbrev LenCut : List ℕ → Result ℕ Fault → Result ℕ Fault → Type 0
LenCut bytes (Ok n) whole = (n ≡ length bytes) ⊎ ((n ≤ length bytes) × (whole ≡ Ok n))
LenCut bytes (Err (Bad left)) whole = (left ≡ 0) ⊎ IsErr whole
LenCut bytes (Err (WideInt left)) whole = IsErr whole
LenCut bytes (Err (TooDeep left)) whole = IsErr whole

positive_cut : (bytes more : List ℕ) → LenCut bytes (positive_len bytes) (positive_len (bytes ++ more))
unfolding positive_len
positive_cut [] more = inl refl
positive_cut (b ∷ rest) more = by (is_positive_digit b)
  where
    n : ℕ
    n = prefix_len is_ascii_digit (b ∷ rest)

    by : (t : Bool) → LenCut (b ∷ rest) (cond t (Ok n) (refused (b ∷ rest))) (cond t (Ok (prefix_len is_ascii_digit (b ∷ (rest ++ more)))) (refused (b ∷ (rest ++ more))))
    by true = elim (prefix_stays is_ascii_digit (b ∷ rest) more) [
      | inl h ↦ inl h
      | inr h ↦ inr (prefix_len-le-length is_ascii_digit (b ∷ rest), ap (λ (k : ℕ). Ok k) h)
    ]
    by false = inr tt

natural_cut : (bytes more : List ℕ) → LenCut bytes (natural_len bytes) (natural_len (bytes ++ more))
unfolding natural_len positive_len
natural_cut [] more = inl refl
natural_cut (b ∷ rest) more = by (b == 48)
  where
    by : (t : Bool) → LenCut (b ∷ rest) (cond t (Ok 1) (positive_len (b ∷ rest))) (cond t (Ok 1) (positive_len (b ∷ (rest ++ more))))
    by true = inr (omega arith, refl)
    by false = positive_cut (b ∷ rest) more

number_len_cut : (bytes more : List ℕ) → LenCut bytes (number_len bytes) (number_len (bytes ++ more))
unfolding number_len natural_len positive_len
number_len_cut [] more = inl refl
number_len_cut (b ∷ rest) more = by (b == 45)
  where
    minus : (r whole : Result ℕ Fault) → LenCut rest r whole → LenCut (b ∷ rest) (r >>= λ n. Ok (n + 1)) (whole >>= λ n. Ok (n + 1))
    minus (Ok n) whole (inl h) = inl (omega arith)
    minus (Ok n) whole (inr h) = inr (omega (arith, h.0), rw h.1 refl)
    minus (Err (Bad left)) whole (inl h) = inl h
    minus (Err (Bad left)) whole (inr h) = inr (err_bind whole (λ n. Ok (n + 1)) h)
    minus (Err (WideInt left)) whole h = err_bind whole (λ n. Ok (n + 1)) h
    minus (Err (TooDeep left)) whole h = err_bind whole (λ n. Ok (n + 1)) h

    by : (t : Bool) → LenCut (b ∷ rest) (cond t (positive_len rest >>= λ n. Ok (n + 1)) (natural_len (b ∷ rest))) (cond t (positive_len (rest ++ more) >>= λ n. Ok (n + 1)) (natural_len (b ∷ (rest ++ more))))
    by true = minus (positive_len rest) (positive_len (rest ++ more)) (positive_cut rest more)
    by false = natural_cut (b ∷ rest) more

take_all : (n : ℕ) (xs : List ℕ) → n ≡ length xs → take n xs ≡ xs
take_all n [] h = rw h refl
take_all zero (x ∷ xs) h = absurd (omega arith)
take_all (suc n) (x ∷ xs) h = ap (λ (s : List ℕ). x ∷ s) (take_all n xs (omega arith))

take_over : (m : ℕ) (xs more : List ℕ) → length xs ≤ m → take m (xs ++ more) ≡ xs ++ take (m - length xs) more
take_over m [] more h = ap (λ (n : ℕ). take n more) (omega arith)
take_over zero (x ∷ xs) more h = absurd (omega arith)
take_over (suc m) (x ∷ xs) more h = ap (λ (s : List ℕ). x ∷ s) (take_over m xs more (omega arith) ∙ ap (λ (n : ℕ). xs ++ take n more) (omega arith))

-- a number takes no fewer bytes where there are more
positive_grows : (bytes more : List ℕ) (n m : ℕ) → positive_len bytes ≡ Ok n → positive_len (bytes ++ more) ≡ Ok m → n ≤ m
unfolding positive_len
positive_grows [] more n m e f = absurd cc
positive_grows (b ∷ rest) more n m e f = by (is_positive_digit b) e f
  where
    by : (t : Bool) → cond t (Ok (prefix_len is_ascii_digit (b ∷ rest))) (refused (b ∷ rest)) ≡ Ok n → cond t (Ok (prefix_len is_ascii_digit (b ∷ (rest ++ more)))) (refused (b ∷ (rest ++ more))) ≡ Ok m → n ≤ m
    by true e f =
        let p : prefix_len is_ascii_digit (b ∷ rest) ≡ n = cc in
        let q : prefix_len is_ascii_digit (b ∷ (rest ++ more)) ≡ m = cc in
        omega (arith, p, q, prefix_grows is_ascii_digit (b ∷ rest) more)
    by false e f = absurd cc

natural_grows : (bytes more : List ℕ) (n m : ℕ) → natural_len bytes ≡ Ok n → natural_len (bytes ++ more) ≡ Ok m → n ≤ m
unfolding natural_len positive_len
natural_grows [] more n m e f = absurd cc
natural_grows (b ∷ rest) more n m e f = by (b == 48) e f
  where
    by : (t : Bool) → cond t (Ok 1) (positive_len (b ∷ rest)) ≡ Ok n → cond t (Ok 1) (positive_len (b ∷ (rest ++ more))) ≡ Ok m → n ≤ m
    by true e f = let p : 1 ≡ n = cc in let q : 1 ≡ m = cc in omega arith
    by false e f = positive_grows (b ∷ rest) more n m e f

number_grows : (bytes more : List ℕ) (n m : ℕ) → number_len bytes ≡ Ok n → number_len (bytes ++ more) ≡ Ok m → n ≤ m
unfolding number_len natural_len positive_len
number_grows [] more n m e f = absurd cc
number_grows (b ∷ rest) more n m e f = by (b == 45) e f
  where
    minus : (r whole : Result ℕ Fault) → ((k l : ℕ) → r ≡ Ok k → whole ≡ Ok l → k ≤ l) → (r >>= λ n. Ok (n + 1)) ≡ Ok n → (whole >>= λ n. Ok (n + 1)) ≡ Ok m → n ≤ m
    minus (Ok k) (Ok l) grows e f = let p : k + 1 ≡ n = cc in let q : l + 1 ≡ m = cc in omega (arith, p, q, grows k l refl refl)
    minus (Ok k) (Err d) grows e f = absurd cc
    minus (Err d) whole grows e f = absurd cc

    by : (t : Bool) → cond t (positive_len rest >>= λ n. Ok (n + 1)) (natural_len (b ∷ rest)) ≡ Ok n → cond t (positive_len (rest ++ more) >>= λ n. Ok (n + 1)) (natural_len (b ∷ (rest ++ more))) ≡ Ok m → n ≤ m
    by true e f = minus (positive_len rest) (positive_len (rest ++ more)) (positive_grows rest more) e f
    by false e f = natural_grows (b ∷ rest) more n m e f

number_cut : (more : List ℕ) → Cuts more number_at
unfolding number_at
number_cut more bytes = by (number_len bytes) (number_len (bytes ++ more)) refl refl (number_len_cut bytes more)
  where
    end : List ℕ → ℕ → Result (Tree × List ℕ) Fault
    end text n = cond (fits (signed_digits_value 10 (take n text))) (Ok (int (signed_digits_value 10 (take n text)), drop n text)) (Err (WideInt (length text)))

    wide : (n m : ℕ) → n ≡ length bytes → number_len bytes ≡ Ok n → number_len (bytes ++ more) ≡ Ok m → fits (signed_digits_value 10 (take n bytes)) ≡ false → fits (signed_digits_value 10 (take m (bytes ++ more))) ≡ false
    wide n m whole e f high =
        let longer : n ≤ m = number_grows bytes more n m e f in
        let text : take m (bytes ++ more) ≡ bytes ++ take (m - length bytes) more = take_over m bytes more (omega arith) in
        let P : List ℕ → Type 0 = λ t. fits (signed_digits_value 10 t) ≡ false in
        subst P (sym text) (stays_wide bytes (take (m - length bytes) more) (subst P (take_all n bytes whole) high))

    is_err : (t : Bool) (x : Tree × List ℕ) → t ≡ false → IsErr (cond t (Ok x) (Err (WideInt (length (bytes ++ more)))))
    is_err true x h = absurd cc
    is_err false x h = tt

    at_end : (n : ℕ) (t : Bool) → fits (signed_digits_value 10 (take n bytes)) ≡ t → n ≡ length bytes → number_len bytes ≡ Ok n → (whole : Result ℕ Fault) → number_len (bytes ++ more) ≡ whole
        → Cut second (grown more) (cond t (Ok (int (signed_digits_value 10 (take n bytes)), drop n bytes)) (Err (WideInt (length bytes)))) (whole >>= end (bytes ++ more))
    at_end n true h whole_n e whole f = inl (drop_whole n bytes whole_n)
    at_end n false h whole_n e (Ok m) f = is_err (fits (signed_digits_value 10 (take m (bytes ++ more)))) (int (signed_digits_value 10 (take m (bytes ++ more))), drop m (bytes ++ more)) (wide n m whole_n e f h)
    at_end n false h whole_n e (Err d) f = tt

    inside : (t : Bool) (x : Tree) (rest : List ℕ) (left other : ℕ) → Cut second (grown more) (cond t (Ok (x, rest)) (Err (WideInt left))) (cond t (Ok (x, rest ++ more)) (Err (WideInt other)))
    inside true x rest left other = inr refl
    inside false x rest left other = tt

    by : (r whole : Result ℕ Fault) → number_len bytes ≡ r → number_len (bytes ++ more) ≡ whole → LenCut bytes r whole → Cut second (grown more) (r >>= end bytes) (whole >>= end (bytes ++ more))
    by (Ok n) whole e f (inl h) = at_end n (fits (signed_digits_value 10 (take n bytes))) refl h e whole f
    by (Ok n) whole e f (inr h) =
        let P : List ℕ → List ℕ → Type 0 = λ front back. Cut second (grown more) (end bytes n) (cond (fits (signed_digits_value 10 front)) (Ok (int (signed_digits_value 10 front), back)) (Err (WideInt (length (bytes ++ more))))) in
        let here : P (take n (bytes ++ more)) (drop n (bytes ++ more)) =
        subst (λ (front : List ℕ). P front (drop n (bytes ++ more))) (sym (take_front n bytes more h.0)) (subst (P (take n bytes)) (sym (drop_front n bytes more h.0))
        (inside (fits (signed_digits_value 10 (take n bytes))) (int (signed_digits_value 10 (take n bytes))) (drop n bytes) (length bytes) (length (bytes ++ more)))) in
        subst (λ (w : Result ℕ Fault). Cut second (grown more) (end bytes n) (w >>= end (bytes ++ more))) (sym h.1) here
    by (Err (Bad left)) whole e f (inl h) = inl h
    by (Err (Bad left)) whole e f (inr h) = inr (err_bind whole (end (bytes ++ more)) h)
    by (Err (WideInt left)) whole e f h = err_bind whole (end (bytes ++ more)) h
    by (Err (TooDeep left)) whole e f h = err_bind whole (end (bytes ++ more)) h

small_cut : (more : List ℕ) → Cuts more small_at
unfolding small_at
small_cut more bytes = by (natural_len bytes) (natural_len (bytes ++ more)) refl refl (natural_cut bytes more)
  where
    end : List ℕ → ℕ → Result (ℕ × List ℕ) Fault
    end text n = cond (ltb (digits_value 10 (take n text)) 256) (Ok (digits_value 10 (take n text), drop n text)) (refused text)

    large : (n m : ℕ) → n ≡ length bytes → natural_len bytes ≡ Ok n → natural_len (bytes ++ more) ≡ Ok m → ltb (digits_value 10 (take n bytes)) 256 ≡ false → ltb (digits_value 10 (take m (bytes ++ more))) 256 ≡ false
    large n m whole e f high =
        let longer : n ≤ m = natural_grows bytes more n m e f in
        let all : take n bytes ≡ bytes = take_all n bytes whole in
        let text : take m (bytes ++ more) ≡ bytes ++ take (m - length bytes) more = take_over m bytes more (omega arith) in
        let value : digits_value 10 (take m (bytes ++ more)) ≡ digits_value_after 10 (digits_value 10 bytes) (take (m - length bytes) more) = ap (digits_value 10) text ∙ value_append 0 bytes (take (m - length bytes) more) in
        let low : 256 ≤ digits_value 10 bytes = omega (arith, ltb-false _ _ high, ap (digits_value 10) all) in
        le-ltb _ _ (omega (arith, value, low, value_grows (digits_value 10 bytes) (take (m - length bytes) more)))

    inside : (t : Bool) (x : ℕ) (rest : List ℕ) → Cut second (grown more) (cond t (Ok (x, rest)) (refused bytes)) (cond t (Ok (x, rest ++ more)) (refused (bytes ++ more)))
    inside true x rest = inr refl
    inside false x rest = inr tt

    is_err : (t : Bool) (x : ℕ × List ℕ) → t ≡ false → IsErr (cond t (Ok x) (refused (bytes ++ more)))
    is_err true x h = absurd cc
    is_err false x h = tt

    at_end : (n : ℕ) (t : Bool) → ltb (digits_value 10 (take n bytes)) 256 ≡ t → n ≡ length bytes → natural_len bytes ≡ Ok n → (whole : Result ℕ Fault) → natural_len (bytes ++ more) ≡ whole
        → Cut second (grown more) (cond t (Ok (digits_value 10 (take n bytes), drop n bytes)) (refused bytes)) (whole >>= end (bytes ++ more))
    at_end n true h whole_n e whole f = inl (drop_whole n bytes whole_n)
    at_end n false h whole_n e (Ok m) f = inr (is_err (ltb (digits_value 10 (take m (bytes ++ more))) 256) (digits_value 10 (take m (bytes ++ more)), drop m (bytes ++ more)) (large n m whole_n e f h))
    at_end n false h whole_n e (Err d) f = inr tt

    by : (r whole : Result ℕ Fault) → natural_len bytes ≡ r → natural_len (bytes ++ more) ≡ whole → LenCut bytes r whole → Cut second (grown more) (r >>= end bytes) (whole >>= end (bytes ++ more))
    by (Ok n) whole e f (inl h) = at_end n (ltb (digits_value 10 (take n bytes)) 256) refl h e whole f
    by (Ok n) whole e f (inr h) =
        let P : List ℕ → List ℕ → Type 0 = λ front back. Cut second (grown more) (end bytes n) (cond (ltb (digits_value 10 front) 256) (Ok (digits_value 10 front, back)) (refused (bytes ++ more))) in
        let here : P (take n (bytes ++ more)) (drop n (bytes ++ more)) =
        subst (λ (front : List ℕ). P front (drop n (bytes ++ more))) (sym (take_front n bytes more h.0)) (subst (P (take n bytes)) (sym (drop_front n bytes more h.0))
        (inside (ltb (digits_value 10 (take n bytes)) 256) (digits_value 10 (take n bytes)) (drop n bytes))) in
        subst (λ (w : Result ℕ Fault). Cut second (grown more) (end bytes n) (w >>= end (bytes ++ more))) (sym h.1) here
    by (Err (Bad left)) whole e f (inl h) = inl h
    by (Err (Bad left)) whole e f (inr h) = inr (err_bind whole (end (bytes ++ more)) h)
    by (Err (WideInt left)) whole e f h = err_bind whole (end (bytes ++ more)) h
    by (Err (TooDeep left)) whole e f h = err_bind whole (end (bytes ++ more)) h

-- ---- characters

-- of two lists that are the same, where the one ends within the other
split : (a b c d : List ℕ) → a ++ b ≡ c ++ d → ((e : List ℕ) × (a ≡ c ++ e)) ⊎ ((y : ℕ) × (e : List ℕ) × (c ≡ a ++ y ∷ e) × (b ≡ y ∷ (e ++ d)))
split [] b [] d h = inl ([], refl)
split [] b (y ∷ e) d h = inr (y, e, refl, h)
split (x ∷ a) b [] d h = inl (x ∷ a, refl)
split (x ∷ a) b (y ∷ c) d h =
    let same : x ≡ y = cc in
    let rest : a ++ b ≡ c ++ d = cc in
    elim (split a b c d rest) [
      | inl k ↦ inl (k.0, rw (same, k.1) refl)
      | inr k ↦ inr (k.0, k.1, rw (same, k.2) refl, k.3)
    ]

next_continues : (k : ℕ) → continues (128 + k % 64) ≡ true
next_continues k = let low : k % 64 < 64 = omega arith in in_range (128 + k % 64) (omega arith) (omega arith)
  where
    in_range : (b : ℕ) → 128 ≤ b → b < 192 → continues b ≡ true
    in_range b low high = grind (arith, nat_tests)

-- behind its first byte a character has bytes that continue it
tail_continues : (c : ℕ) (x y : ℕ) (a e : List ℕ) → encode_utf8 c ≡ (x ∷ a) ++ y ∷ e → continues y ≡ true
unfolding encode_utf8
tail_continues c x y a e h = by (ltb c 128) (ltb c 2048) (ltb c 65536) a h
  where
    one : List ℕ
    one = c ∷ []

    two : List ℕ
    two = (192 + c / 64) ∷ (128 + c % 64) ∷ []

    three : List ℕ
    three = (224 + c / 4096) ∷ (128 + c / 64 % 64) ∷ (128 + c % 64) ∷ []

    four : List ℕ
    four = (240 + c / 262144) ∷ (128 + c / 4096 % 64) ∷ (128 + c / 64 % 64) ∷ (128 + c % 64) ∷ []

    at_second : (k : ℕ) → (128 + k % 64) ≡ y → continues y ≡ true
    at_second k same = subst (λ (b : ℕ). continues b ≡ true) same (next_continues k)

    by : (p q r : Bool) (a : List ℕ) → cond p one (cond q two (cond r three four)) ≡ (x ∷ a) ++ y ∷ e → continues y ≡ true
    by true q r [] h = absurd cc
    by true q r (a1 ∷ a) h = absurd cc
    by false true r [] h = at_second c cc
    by false true r (a1 ∷ []) h = absurd cc
    by false true r (a1 ∷ a2 ∷ a) h = absurd cc
    by false false true [] h = at_second (c / 64) cc
    by false false true (a1 ∷ []) h = at_second c cc
    by false false true (a1 ∷ a2 ∷ []) h = absurd cc
    by false false true (a1 ∷ a2 ∷ a3 ∷ a) h = absurd cc
    by false false false [] h = at_second (c / 4096) cc
    by false false false (a1 ∷ []) h = at_second (c / 64) cc
    by false false false (a1 ∷ a2 ∷ []) h = at_second c cc
    by false false false (a1 ∷ a2 ∷ a3 ∷ []) h = absurd cc
    by false false false (a1 ∷ a2 ∷ a3 ∷ a4 ∷ a) h = absurd cc

-- what follows does not continue a character
abbrev pub Fresh : List ℕ → Type 0
Fresh more = begins continues more ≡ false

-- an ill sequence stays ill
utf8_stays : (more : List ℕ) → Fresh more → (b : ℕ) (rest : List ℕ) (d : Fault) → utf8_at (b ∷ rest) ≡ Err d → IsErr (utf8_at (b ∷ (rest ++ more)))
utf8_stays more fresh b rest d e = by (utf8_at (b ∷ (rest ++ more))) refl
  where
    by : (r : Result (ℕ × List ℕ) Fault) → utf8_at (b ∷ (rest ++ more)) ≡ r → IsErr r
    by (Err f) h = tt
    by (Ok x) h =
        let read = utf8_read (b ∷ (rest ++ more)) x h in
        elim (split (b ∷ rest) more (encode_utf8 x.0) x.1 read.parts) [
          | inl k ↦ absurd (let again : utf8_at (b ∷ rest) ≡ Ok (x.0, k.0) = ap utf8_at k.1 ∙ utf8_again x.0 k.0 read.is in let wrong : Err d ≡ Ok (x.0, k.0) = sym e ∙ again in cc)
          | inr k ↦ absurd (let one : continues k.0 ≡ true = tail_continues x.0 b k.0 rest k.1 k.2 in let none : begins continues more ≡ true = ap (begins continues) k.3 ∙ one in let wrong : true ≡ false = sym none ∙ fresh in cc)
        ]

-- digits, up to so many
limited : (p : ℕ → Bool) (m : ℕ) (bytes more : List ℕ) → (prefix_len p (take m bytes) ≡ length bytes) ⊎ (prefix_len p (take m (bytes ++ more)) ≡ prefix_len p (take m bytes))
limited p zero bytes more = inr refl
limited p (suc m) [] more = inl refl
limited p (suc m) (b ∷ bytes) more = by (p b) refl (limited p m bytes more)
  where
    by : (t : Bool) → p b ≡ t → (prefix_len p (take m bytes) ≡ length bytes) ⊎ (prefix_len p (take m (bytes ++ more)) ≡ prefix_len p (take m bytes))
        → (cond (p b) (1 + prefix_len p (take m bytes)) 0 ≡ length (b ∷ bytes)) ⊎ (cond (p b) (1 + prefix_len p (take m (bytes ++ more))) 0 ≡ cond (p b) (1 + prefix_len p (take m bytes)) 0)
    by true h (inl e) = inl (rw h (omega arith))
    by true h (inr e) = inr (rw h (omega arith))
    by false h e = inr (rw h refl)

hex_digits_cut : (more : List ℕ) → Cuts more hex_digits_at
unfolding hex_digits_at
hex_digits_cut more bytes =
    elim (limited is_ascii_hexdigit 6 bytes more) [
      | inl h ↦ open_cut second (grown more) (end bytes n) (end (bytes ++ more) (prefix_len is_ascii_hexdigit (take 6 (bytes ++ more)))) (ends (n == 0) refl h)
      | inr h ↦ subst (λ (k : ℕ). Cut second (grown more) (end bytes n) (end (bytes ++ more) k)) (sym h) (inside (n == 0))
    ]
  where
    n : ℕ
    n = prefix_len is_ascii_hexdigit (take 6 bytes)

    short : n ≤ length bytes
    short = omega (arith, prefix_len-le-length is_ascii_hexdigit (take 6 bytes), length-take 6 bytes)

    end : List ℕ → ℕ → Result (List ℕ × List ℕ) Fault
    end text k = cond (k == 0) (refused text) (Ok (take k text, drop k text))

    ends : (t : Bool) → (n == 0) ≡ t → n ≡ length bytes → Open second (cond {A = Result (List ℕ × List ℕ) Fault} t (refused bytes) (Ok (take n bytes, drop n bytes)))
    ends true h whole = let none : n ≡ 0 = eqb-true n 0 h in omega arith
    ends false h whole = drop_whole n bytes whole

    inside : (t : Bool) → Cut second (grown more) (cond {A = Result (List ℕ × List ℕ) Fault} t (refused bytes) (Ok (take n bytes, drop n bytes))) (cond {A = Result (List ℕ × List ℕ) Fault} t (refused (bytes ++ more)) (Ok (take n (bytes ++ more), drop n (bytes ++ more))))
    inside true = inr tt
    inside false = inr (rw (take_front n bytes more short, drop_front n bytes more short) refl)

-- a step that does not lengthen at the end
exact_bind : {A B : Type 0} (grow : A → A) (last : B → List ℕ) (more_last : B → B) (r whole : Result A Fault) (f g : A → Result B Fault)
    → Cut (λ x. 0 ∷ []) grow r whole → ((x : A) → r ≡ Ok x → Cut last more_last (f x) (g (grow x))) → Cut last more_last (r >>= f) (whole >>= g)
exact_bind grow last more_last r whole f g cut goes = cut_bind (λ x. 0 ∷ []) grow last more_last r whole f g cut (λ x e none. absurd cc) goes

byte_exact : (k : ℕ) (bytes more : List ℕ) → Cut (λ x. 0 ∷ []) (λ rest. rest ++ more) (byte_at k bytes) (byte_at k (bytes ++ more))
unfolding byte_at
byte_exact k [] more = inl refl
byte_exact k (b ∷ rest) more = cut_cond (λ x. 0 ∷ []) (λ r. r ++ more) (b == k) (Ok rest) (refused (b ∷ rest)) (Ok (rest ++ more)) (refused (b ∷ (rest ++ more))) (λ h. inr refl) (λ h. inr tt)

hex_cut : (more : List ℕ) → Cuts more hex_at
unfolding hex_at hex_digits_at byte_at
hex_cut more bytes =
    exact_bind (λ r. r ++ more) second (grown more) (byte_at 123 bytes) (byte_at 123 (bytes ++ more)) (λ inner. hex_digits_at inner >>= end bytes) (λ inner. hex_digits_at inner >>= end (bytes ++ more)) (byte_exact 123 bytes more)
    (λ inner e. cut_bind second (grown more) second (grown more) (hex_digits_at inner) (hex_digits_at (inner ++ more)) (end bytes) (end (bytes ++ more)) (hex_digits_cut more inner)
    (λ digits f none. let P : List ℕ → Type 0 = λ r. Open second (end bytes (digits.0, r)) in subst P (sym none) refl)
    (λ digits f. exact_bind (λ r. r ++ more) second (grown more) (byte_at 125 digits.1) (byte_at 125 (digits.1 ++ more)) (kind bytes digits.0) (kind (bytes ++ more) digits.0) (byte_exact 125 digits.1 more) (λ rest g. either (is_scalar (digits_value 16 digits.0)) (digits_value 16 digits.0) rest)))
  where
    kind : List ℕ → List ℕ → List ℕ → Result (ℕ × List ℕ) Fault
    kind text digits rest = cond (is_scalar (digits_value 16 digits)) (Ok (digits_value 16 digits, rest)) (Err (Bad (length text + 2)))

    end : List ℕ → List ℕ × List ℕ → Result (ℕ × List ℕ) Fault
    end text digits = byte_at 125 digits.1 >>= kind text digits.0

    either : (t : Bool) (c : ℕ) (rest : List ℕ) → Cut second (grown more) (cond t (Ok (c, rest)) (Err (Bad (length bytes + 2)))) (cond t (Ok (c, rest ++ more)) (Err (Bad (length (bytes ++ more) + 2))))
    either true c rest = inr refl
    either false c rest = inr tt

letter_cut : (more : List ℕ) (o : Option ℕ) (b : ℕ) (rest : List ℕ) → Cut second (grown more) (letter_at o (b ∷ rest)) (letter_at o (b ∷ (rest ++ more)))
letter_cut more None b rest = inr tt
letter_cut more (Some c) b rest = inr refl

escape_cut : (more : List ℕ) → Cuts more escape_at
unfolding escape_at
escape_cut more [] = inl refl
escape_cut more (b ∷ rest) = cut_cond second (grown more) (b == 120) (hex_at rest) (letter_at (escaped b) (b ∷ rest)) (hex_at (rest ++ more)) (letter_at (escaped b) (b ∷ (rest ++ more))) (λ h. hex_cut more rest) (λ h. letter_cut more (escaped b) b rest)

-- an error is one again, and a value is left to other lemmas
err_cut : (more : List ℕ) (r whole : Result (ℕ × List ℕ) Fault) → ((x : ℕ × List ℕ) → r ≡ Ok x → whole ≡ Ok (grown more x)) → ((d : Fault) → r ≡ Err d → IsErr whole) → Cut second (grown more) r whole
err_cut more (Ok x) whole p q = inr (p x refl)
err_cut more (Err (Bad left)) whole p q = inr (q (Bad left) refl)
err_cut more (Err (WideInt left)) whole p q = q (WideInt left) refl
err_cut more (Err (TooDeep left)) whole p q = q (TooDeep left) refl

utf8_exact : (more bytes : List ℕ) (x : ℕ × List ℕ) → utf8_at bytes ≡ Ok x → utf8_at (bytes ++ more) ≡ Ok (grown more x)
utf8_exact more bytes x e =
    let read = utf8_read bytes x e in
    ap utf8_at (ap (λ (s : List ℕ). s ++ more) read.parts ∙ append_assoc (encode_utf8 x.0) x.1 more) ∙ utf8_again x.0 (x.1 ++ more) read.is

character_cut : (more : List ℕ) → Fresh more → Cuts more character_at
unfolding character_at
character_cut more fresh [] = inl refl
character_cut more fresh (b ∷ rest) =
    cut_cond second (grown more) (b == 92) (escape_at rest) (cond (ltb b 32) (refused (b ∷ rest)) (utf8_at (b ∷ rest))) (escape_at (rest ++ more)) (cond (ltb b 32) (refused (b ∷ (rest ++ more))) (utf8_at (b ∷ (rest ++ more)))) (λ h. escape_cut more rest)
    (λ h. cut_cond second (grown more) (ltb b 32) (refused (b ∷ rest)) (utf8_at (b ∷ rest)) (refused (b ∷ (rest ++ more))) (utf8_at (b ∷ (rest ++ more))) (λ k. inr tt)
    (λ k. err_cut more (utf8_at (b ∷ rest)) (utf8_at (b ∷ (rest ++ more))) (utf8_exact more (b ∷ rest)) (utf8_stays more fresh b rest)))

-- a character that was read is read again
control : (rest : List ℕ) → character_at (7 ∷ rest) ≡ refused (7 ∷ rest)
unfolding character_at
control rest = refl

-- a control byte is no character, nor the quote here
no_control : (bytes : List ℕ) (x : ℕ × List ℕ) → character_at bytes ≡ Ok x → begins (λ b. b == 7) bytes ≡ false
no_control [] x h = refl
no_control (b ∷ rest) x h = by (b == 7) refl
  where
    by : (t : Bool) → (b == 7) ≡ t → (b == 7) ≡ false
    by true is = absurd (let wrong : refused (7 ∷ rest) ≡ Ok x = sym (control rest) ∙ ap (λ (n : ℕ). character_at (n ∷ rest)) (sym (eqb-true b 7 is)) ∙ h in cc)
    by false is = is

-- a character that was read is read again
character_exact : (more bytes : List ℕ) (x : ℕ × List ℕ) → character_at bytes ≡ Ok x → character_at (bytes ++ more) ≡ Ok (grown more x)
character_exact more bytes x e =
    let read = character_read 7 bytes x (no_control bytes x e) (λ h. absurd (omega arith)) e in
    ap character_at (ap (λ (s : List ℕ). s ++ more) read.parts ∙ append_assoc read.text x.1 more) ∙ (character_again 7 x.0 read.text (x.1 ++ more) (λ h. absurd (omega (arith, h))) (λ h. absurd (omega arith)) read.is).read

narrow_cut : (more : List ℕ) → Fresh more → Cuts more narrow_at
unfolding narrow_at
narrow_cut more fresh bytes =
    exact_bind (grown more) second (grown more) (character_at bytes) (character_at (bytes ++ more)) (λ c. cond (ltb c.0 256) (Ok c) (refused bytes)) (λ c. cond (ltb c.0 256) (Ok c) (refused (bytes ++ more)))
    (exactly (character_at bytes) (character_at (bytes ++ more)) (character_cut more fresh bytes) (character_exact more bytes))
    (λ c e. kind (ltb c.0 256) c)
  where
    exactly : (r whole : Result (ℕ × List ℕ) Fault) → Cut second (grown more) r whole → ((x : ℕ × List ℕ) → r ≡ Ok x → whole ≡ Ok (grown more x)) → Cut (λ x. 0 ∷ []) (grown more) r whole
    exactly (Ok x) whole cut exact = inr (exact x refl)
    exactly (Err (Bad left)) whole cut exact = cut
    exactly (Err (WideInt left)) whole cut exact = cut
    exactly (Err (TooDeep left)) whole cut exact = cut

    kind : (t : Bool) (c : ℕ × List ℕ) → Cut second (grown more) (cond t (Ok c) (refused bytes)) (cond t (Ok (grown more c)) (refused (bytes ++ more)))
    kind true c = inr refl
    kind false c = inr tt

-- ---- characters up to the quote

abbrev Fuel : ℕ → ℕ → List ℕ → List ℕ → Type 0
Fuel n m bytes more = (n ≡ m) ⊎ ((length bytes ≤ n) × (length (bytes ++ more) ≤ m))

quoted_end : (one : List ℕ → Result (ℕ × List ℕ) Fault) → AtEnd one → (quote n : ℕ) → Open second (quoted_at one quote n [])
unfolding quoted_at byte_at
quoted_end one ends quote zero = refl
quoted_end one ends quote (suc n) =
    open_bind second second (one []) (λ first. quoted_at one quote n first.1 >>= λ others. Ok (first.0 ∷ others.0, others.1)) ends
    (λ first none. open_bind second second (quoted_at one quote n first.1) (λ others. Ok (first.0 ∷ others.0, others.1)) (let P : List ℕ → Type 0 = λ r. Open second (quoted_at one quote n r) in subst P (sym none) (quoted_end one ends quote n)) (λ others h. h))

quoted_cut : (more : List ℕ) (one : List ℕ → Result (ℕ × List ℕ) Fault) → Cuts more one → AtEnd one → Shrinks one → (quote n m : ℕ) (bytes : List ℕ) → Fuel n m bytes more → Cut second (grown more) (quoted_at one quote n bytes) (quoted_at one quote m (bytes ++ more))
unfolding quoted_at byte_at
quoted_cut more one cuts ends shrinks quote n m [] fuel = open_cut second (grown more) (quoted_at one quote n []) (quoted_at one quote m more) (quoted_end one ends quote n)
quoted_cut more one cuts ends shrinks quote zero zero (b ∷ rest) fuel =
    exact_bind (λ r. r ++ more) second (grown more) (byte_at quote (b ∷ rest)) (byte_at quote (b ∷ (rest ++ more))) (λ r. Ok ([], r)) (λ r. Ok ([], r)) (byte_exact quote (b ∷ rest) more) (λ r e. inr refl)
quoted_cut more one cuts ends shrinks quote zero (suc m) (b ∷ rest) (inl h) = absurd cc
quoted_cut more one cuts ends shrinks quote zero (suc m) (b ∷ rest) (inr h) = absurd (omega (arith, h.0))
quoted_cut more one cuts ends shrinks quote (suc n) zero (b ∷ rest) (inl h) = absurd cc
quoted_cut more one cuts ends shrinks quote (suc n) zero (b ∷ rest) (inr h) = absurd (omega (arith, h.1))
quoted_cut more one cuts ends shrinks quote (suc n) (suc m) (b ∷ rest) fuel =
    cut_cond second (grown more) (b == quote) (Ok ([], rest)) (one (b ∷ rest) >>= next n) (Ok ([], rest ++ more)) (one (b ∷ (rest ++ more)) >>= next m) (λ h. inr refl)
    (λ h. cut_bind second (grown more) second (grown more) (one (b ∷ rest)) (one (b ∷ (rest ++ more))) (next n) (next m) (cuts (b ∷ rest))
    (λ first e none. open_bind second second (quoted_at one quote n first.1) (λ others. Ok (first.0 ∷ others.0, others.1)) (let P : List ℕ → Type 0 = λ r. Open second (quoted_at one quote n r) in subst P (sym none) (quoted_end one ends quote n)) (λ others k. k))
    (λ first e. cut_bind second (grown more) second (grown more) (quoted_at one quote n first.1) (quoted_at one quote m (first.1 ++ more)) (λ others. Ok (first.0 ∷ others.0, others.1)) (λ others. Ok (first.0 ∷ others.0, others.1))
    (quoted_cut more one cuts ends shrinks quote n m first.1 (less fuel first.1 (shrinks (b ∷ rest) first e))) (λ others f k. k) (λ others f. inr refl)))
  where
    next : ℕ → ℕ × List ℕ → Result (List ℕ × List ℕ) Fault
    next k first = quoted_at one quote k first.1 >>= λ others. Ok (first.0 ∷ others.0, others.1)

    less : Fuel (suc n) (suc m) (b ∷ rest) more → (after : List ℕ) → length after < length (b ∷ rest) → Fuel n m after more
    less (inl h) after lt = inl (omega arith)
    less (inr h) after lt = inr (omega (arith, h.0), omega (arith, h.1, length-append after more, length-append rest more))

-- ---- elements

more_cut : (more : List ℕ) (close : ℕ) → Cuts more (more_at close)
unfolding more_at byte_at
more_cut more close [] = inl refl
more_cut more close (b ∷ rest) =
    cut_cond second (grown more) (b == 44) (Ok (true, rest)) (byte_at close (b ∷ rest) >>= λ r. Ok (false, r)) (Ok (true, rest ++ more)) (byte_at close (b ∷ (rest ++ more)) >>= λ r. Ok (false, r)) (λ h. inr refl)
    (λ h. exact_bind (λ r. r ++ more) second (grown more) (byte_at close (b ∷ rest)) (byte_at close (b ∷ (rest ++ more))) (λ r. Ok (false, r)) (λ r. Ok (false, r)) (byte_exact close (b ∷ rest) more) (λ r e. inr refl))

more_end : (close : ℕ) → AtEnd (more_at close)
unfolding more_at byte_at
more_end close = refl

more_shrinks : (close : ℕ) → Shrinks (more_at close)
more_shrinks close bytes x e = omega (arith, ap length (more_read close bytes x e))

blanks_shrink : (bytes : List ℕ) → length (unblanked bytes) ≤ length bytes
blanks_shrink bytes = let before = blanks_in bytes in omega (arith, ap length before.parts, length-append before.blanks (unblanked bytes))

-- what comes to its end behind the blanks
blanked_end : {A : Type 0} (behind : A → List ℕ) (one : List ℕ → Result A Fault) (rest : List ℕ) → Open behind (one []) → rest ≡ [] → Open behind (one (unblanked rest))
blanked_end behind one rest ends none = let P : List ℕ → Type 0 = λ r. Open behind (one r) in subst P (sym (ap unblanked none ∙ unblanked_end)) ends

elements_open : {A : Type 0} (one : List ℕ → Result (A × List ℕ) Fault) → AtEnd one → (close n : ℕ) (bytes : List ℕ) → length bytes ≤ n → unblanked bytes ≡ [] → Open second (elements_at one close n bytes)
unfolding elements_at
elements_open one ends close zero bytes fuel none = omega arith
elements_open {A} one ends close (suc n) bytes fuel none =
    open_bind second second (one (unblanked bytes)) (λ first. more_at close (unblanked first.1) >>= next first) (let P : List ℕ → Type 0 = λ r. Open second (one r) in subst P (sym none) ends)
    (λ first h. open_bind second second (more_at close (unblanked first.1)) (next first) (blanked_end second (more_at close) first.1 (more_end close) h)
    (λ m k. by m.0 first m.1 k (let empty : unblanked m.1 ≡ [] = ap unblanked k ∙ unblanked_end in elements_open one ends close n m.1 (omega (arith, ap length k)) empty)))
  where
    next : A × List ℕ → Bool × List ℕ → Result (List A × List ℕ) Fault
    next first m = cond m.0 (elements_at one close n m.1 >>= λ others. Ok (first.0 ∷ others.0, others.1)) (Ok (first.0 ∷ [], m.1))

    by : (t : Bool) (first : A × List ℕ) (after : List ℕ) → after ≡ [] → Open second (elements_at one close n after) → Open second (cond t (elements_at one close n after >>= λ others. Ok (first.0 ∷ others.0, others.1)) (Ok (first.0 ∷ [], after)))
    by true first after k open_others = open_bind second second (elements_at one close n after) (λ others. Ok (first.0 ∷ others.0, others.1)) open_others (λ others h. h)
    by false first after k open_others = k

elements_cut : {A : Type 0} (more : List ℕ) (one : List ℕ → Result (A × List ℕ) Fault) → Cuts more one → AtEnd one → Shrinks one → (close n m : ℕ) (bytes : List ℕ) → length bytes ≤ n → length (bytes ++ more) ≤ m → Cut second (grown more) (elements_at one close n bytes) (elements_at one close m (bytes ++ more))
unfolding elements_at
elements_cut more one cuts ends shrinks close n m [] fuel enough = open_cut second (grown more) (elements_at one close n []) (elements_at one close m more) (elements_open one ends close n [] fuel unblanked_end)
elements_cut more one cuts ends shrinks close zero m (b ∷ rest) fuel enough = absurd (omega arith)
elements_cut more one cuts ends shrinks close (suc n) zero (b ∷ rest) fuel enough = absurd (omega arith)
elements_cut {A} more one cuts ends shrinks close (suc n) (suc m) (b ∷ rest) fuel enough =
    cut_bind second (grown more) second (grown more) (one (unblanked (b ∷ rest))) (one (unblanked (b ∷ (rest ++ more)))) (λ first. more_at close (unblanked first.1) >>= next n first) (λ first. more_at close (unblanked first.1) >>= next m first)
    (blanked_cut second (grown more) one (b ∷ rest) more ends cuts)
    (λ first e h. open_bind second second (more_at close (unblanked first.1)) (next n first) (blanked_end second (more_at close) first.1 (more_end close) h)
    (λ k j. at_end k.0 first k.1 j (let empty : unblanked k.1 ≡ [] = ap unblanked j ∙ unblanked_end in elements_open one ends close n k.1 (omega (arith, ap length j)) empty)))
    (λ first e. cut_bind second (grown more) second (grown more) (more_at close (unblanked first.1)) (more_at close (unblanked (first.1 ++ more))) (next n first) (next m (grown more first))
    (blanked_cut second (grown more) (more_at close) first.1 more (more_end close) (more_cut more close))
    (λ k f j. at_end k.0 first k.1 j (let empty : unblanked k.1 ≡ [] = ap unblanked j ∙ unblanked_end in elements_open one ends close n k.1 (omega (arith, ap length j)) empty))
    (λ k f. going k.0 first k.1 (elements_cut more one cuts ends shrinks close n m k.1
    (omega (arith, fuel, shrinks (unblanked (b ∷ rest)) first e, blanks_shrink (b ∷ rest), more_shrinks close (unblanked first.1) k f, blanks_shrink first.1))
    (omega (arith, enough, length-append rest more, length-append k.1 more, shrinks (unblanked (b ∷ rest)) first e, blanks_shrink (b ∷ rest), more_shrinks close (unblanked first.1) k f, blanks_shrink first.1)))))
  where
    next : ℕ → A × List ℕ → Bool × List ℕ → Result (List A × List ℕ) Fault
    next i first k = cond k.0 (elements_at one close i k.1 >>= λ others. Ok (first.0 ∷ others.0, others.1)) (Ok (first.0 ∷ [], k.1))

    at_end : (t : Bool) (first : A × List ℕ) (after : List ℕ) → after ≡ [] → Open second (elements_at one close n after) → Open second (cond t (elements_at one close n after >>= λ others. Ok (first.0 ∷ others.0, others.1)) (Ok (first.0 ∷ [], after)))
    at_end true first after k open_others = open_bind second second (elements_at one close n after) (λ others. Ok (first.0 ∷ others.0, others.1)) open_others (λ others h. h)
    at_end false first after k open_others = k

    going : (t : Bool) (first : A × List ℕ) (after : List ℕ) → Cut second (grown more) (elements_at one close n after) (elements_at one close m (after ++ more))
        → Cut second (grown more) (cond t (elements_at one close n after >>= λ others. Ok (first.0 ∷ others.0, others.1)) (Ok (first.0 ∷ [], after))) (cond t (elements_at one close m (after ++ more) >>= λ others. Ok (first.0 ∷ others.0, others.1)) (Ok (first.0 ∷ [], after ++ more)))
    going true first after cut =
        cut_bind second (grown more) second (grown more) (elements_at one close n after) (elements_at one close m (after ++ more)) (λ others. Ok (first.0 ∷ others.0, others.1)) (λ others. Ok (first.0 ∷ others.0, others.1)) cut (λ others f h. h) (λ others f. inr refl)
    going false first after cut = inr refl

inner_end : {A : Type 0} (one : List ℕ → Result (A × List ℕ) Fault) → AtEnd one → (close : ℕ) → AtEnd (inner_at one close)
unfolding inner_at
inner_end one ends close = by (unblanked []) unblanked_end
  where
    by : (r : List ℕ) → r ≡ [] → Open second (cond (begins (λ b. b == close) r) (Ok ([], drop 1 r)) (elements_at one close 0 []))
    by [] h = elements_open one ends close 0 [] (omega arith) unblanked_end
    by (b ∷ r) h = absurd cc

inner_cut : {A : Type 0} (more : List ℕ) (one : List ℕ → Result (A × List ℕ) Fault) → Cuts more one → AtEnd one → Shrinks one → (close : ℕ) → Cuts more (inner_at one close)
unfolding inner_at
inner_cut {A} more one cuts ends shrinks close bytes = by (unblanked bytes) (unblanked (bytes ++ more)) refl (unblanked_cut bytes more)
  where
    others : List ℕ → Result (List A × List ℕ) Fault
    others text = elements_at one close (length text) text

    by : (r whole : List ℕ) → unblanked bytes ≡ r → (unblanked bytes ≡ []) ⊎ (whole ≡ unblanked bytes ++ more)
        → Cut second (grown more) (cond (begins (λ b. b == close) r) (Ok ([], drop 1 r)) (others bytes)) (cond (begins (λ b. b == close) whole) (Ok ([], drop 1 whole)) (others (bytes ++ more)))
    by [] whole e h = open_cut second (grown more) (others bytes) (cond (begins (λ b. b == close) whole) (Ok ([], drop 1 whole)) (others (bytes ++ more))) (elements_open one ends close (length bytes) bytes (omega arith) e)
    by (b ∷ r) whole e (inl h) = absurd (let wrong : b ∷ r ≡ [] = sym e ∙ h in cc)
    by (b ∷ r) whole e (inr h) =
        let same : whole ≡ b ∷ (r ++ more) = h ∙ ap (λ (s : List ℕ). s ++ more) e in
        let P : List ℕ → Type 0 = λ w. Cut second (grown more) (cond (b == close) (Ok ([], r)) (others bytes)) (cond (begins (λ c. c == close) w) (Ok ([], drop 1 w)) (others (bytes ++ more))) in
        subst P (sym same) (cut_cond second (grown more) (b == close) (Ok ([], r)) (others bytes) (Ok ([], r ++ more)) (others (bytes ++ more)) (λ k. inr refl) (λ k. elements_cut more one cuts ends shrinks close (length bytes) (length (bytes ++ more)) bytes (omega arith) (omega arith)))

-- ---- atoms, strings and binaries

name_cut : (more : List ℕ) → Cuts more name_at
unfolding name_at
name_cut more bytes =
    elim (prefix_stays is_name_byte bytes more) [
      | inl h ↦ at_end (leb n 255) refl h
      | inr h ↦ subst (λ (k : ℕ). Cut second (grown more) (end bytes n) (end (bytes ++ more) k)) (sym h) (inside (leb n 255))
    ]
  where
    n : ℕ
    n = prefix_len is_name_byte bytes

    end : List ℕ → ℕ → Result (Tree × List ℕ) Fault
    end text k = cond (leb k 255) (Ok (atom (take k text), drop k text)) (refused (drop 255 text))

    is_err : (t : Bool) (x : Tree × List ℕ) → t ≡ false → IsErr (cond t (Ok x) (refused (drop 255 (bytes ++ more))))
    is_err true x h = absurd cc
    is_err false x h = tt

    at_end : (t : Bool) → leb n 255 ≡ t → n ≡ length bytes → Cut second (grown more) (cond {A = Result (Tree × List ℕ) Fault} t (Ok (atom (take n bytes), drop n bytes)) (refused (drop 255 bytes))) (end (bytes ++ more) (prefix_len is_name_byte (bytes ++ more)))
    at_end true h whole = inl (drop_whole n bytes whole)
    at_end false h whole =
        let k : ℕ = prefix_len is_name_byte (bytes ++ more) in
        inr (is_err (leb k 255) (atom (take k (bytes ++ more)), drop k (bytes ++ more)) (lt-leb k 255 (omega (arith, leb-false _ _ h, prefix_grows is_name_byte bytes more))))

    inside : (t : Bool) → Cut second (grown more) (cond {A = Result (Tree × List ℕ) Fault} t (Ok (atom (take n bytes), drop n bytes)) (refused (drop 255 bytes))) (cond {A = Result (Tree × List ℕ) Fault} t (Ok (atom (take n (bytes ++ more)), drop n (bytes ++ more))) (refused (drop 255 (bytes ++ more))))
    inside true = let short = prefix_len-le-length is_name_byte bytes in inr (rw (take_front n bytes more short, drop_front n bytes more short) refl)
    inside false = inr tt

character_end : AtEnd character_at
unfolding character_at
character_end = refl

narrow_end : AtEnd narrow_at
unfolding narrow_at character_at
narrow_end = refl

character_shrinks : Shrinks character_at
character_shrinks bytes x e =
    let read = character_read 7 bytes x (no_control bytes x e) (λ h. absurd (omega arith)) e in
    omega (arith, ap length read.parts, length-append read.text x.1, character_some 7 x.0 read.text read.is)

narrow_shrinks : Shrinks narrow_at
unfolding narrow_at
narrow_shrinks bytes x e =
    let a = bind_ok (character_at bytes) (λ c. cond (ltb c.0 256) (Ok c) (refused bytes)) x e in
    let g = guard_held (ltb a.0.0 256) (Bad (length bytes)) a.0 x a.2 in
    omega (arith, character_shrinks bytes a.0 a.1, ap (λ (y : ℕ × List ℕ). length y.1) g.1)

quoted_atom_cut : (more : List ℕ) → Fresh more → Cuts more quoted_atom_at
unfolding quoted_atom_at
quoted_atom_cut more fresh bytes =
    cut_bind second (grown more) second (grown more) (quoted_at character_at 39 255 bytes) (quoted_at character_at 39 255 (bytes ++ more)) (λ cs. Ok (atom (encode_utf8_all cs.0), cs.1)) (λ cs. Ok (atom (encode_utf8_all cs.0), cs.1))
    (quoted_cut more character_at (character_cut more fresh) character_end character_shrinks 39 255 255 bytes (inl refl)) (λ cs e h. h) (λ cs e. inr refl)

numbers_cut : (more : List ℕ) (r whole : Result (List ℕ × List ℕ) Fault) → Cut second (grown more) r whole → Cut second (grown more) (as_numbers r) (as_numbers whole)
numbers_cut more r whole cut = cut_bind second (grown more) second (grown more) r whole (λ cs. Ok (map (λ n. int (pos n)) cs.0, cs.1)) (λ cs. Ok (map (λ n. int (pos n)) cs.0, cs.1)) cut (λ cs e h. h) (λ cs e. inr refl)

string_cut : (more : List ℕ) → Fresh more → (levels : ℕ) → Cuts more (string_at levels)
unfolding string_at
string_cut more fresh levels bytes = by bytes
  where
    end : List Tree × List ℕ → Result (Tree × List ℕ) Fault
    end ts = Ok (list (trees_of ts.0), ts.1)

    characters : (text : List ℕ) → Cut second (grown more) (as_numbers (quoted_at character_at 34 (length text) text) >>= end) (as_numbers (quoted_at character_at 34 (length (text ++ more)) (text ++ more)) >>= end)
    characters text =
        cut_bind second (grown more) second (grown more) (as_numbers (quoted_at character_at 34 (length text) text)) (as_numbers (quoted_at character_at 34 (length (text ++ more)) (text ++ more))) end end
        (numbers_cut more (quoted_at character_at 34 (length text) text) (quoted_at character_at 34 (length (text ++ more)) (text ++ more)) (quoted_cut more character_at (character_cut more fresh) character_end character_shrinks 34 (length text) (length (text ++ more)) text (inr (omega arith, omega arith))))
        (λ ts e h. h) (λ ts e. inr refl)

    ends : Open second (as_numbers (quoted_at character_at 34 0 []) >>= end)
    ends = open_bind second second (as_numbers (quoted_at character_at 34 0 [])) end (open_bind second second (quoted_at character_at 34 0 []) (λ cs. Ok (map (λ n. int (pos n)) cs.0, cs.1)) (quoted_end character_at character_end 34 0) (λ cs h. h)) (λ ts h. h)

    shallow : (t : Bool) → Open second (cond (t && not false && false) (Err (TooDeep 0)) (as_numbers (quoted_at character_at 34 0 []) >>= end))
    shallow true = ends
    shallow false = ends

    by : (text : List ℕ) → Cut second (grown more) (string_at levels text) (string_at levels (text ++ more))
    by [] = open_cut second (grown more) (string_at levels []) (string_at levels more) (shallow (levels == 0))
    by (b ∷ rest) =
        cut_cond second (grown more) ((levels == 0) && not (b == 34) && may_begin_character b) (Err (TooDeep (length (b ∷ rest)))) (as_numbers (quoted_at character_at 34 (length (b ∷ rest)) (b ∷ rest)) >>= end)
        (Err (TooDeep (length (b ∷ (rest ++ more))))) (as_numbers (quoted_at character_at 34 (length (b ∷ (rest ++ more))) (b ∷ (rest ++ more))) >>= end) (λ h. tt) (λ h. characters (b ∷ rest))

byte_string_cut : (more : List ℕ) → Fresh more → Cuts more byte_string_at
unfolding byte_string_at
byte_string_cut more fresh bytes =
    cut_bind second (grown more) second (grown more) (quoted_at narrow_at 34 (length bytes) bytes) (quoted_at narrow_at 34 (length (bytes ++ more)) (bytes ++ more)) end end
    (quoted_cut more narrow_at (narrow_cut more fresh) narrow_end narrow_shrinks 34 (length bytes) (length (bytes ++ more)) bytes (inr (omega arith, omega arith)))
    (λ cs e h. open_bind itself second (byte_at 62 (unblanked cs.1)) (λ rest. Ok (cs.0, rest)) (blanked_end itself (byte_at 62) cs.1 (byte_end 62) h) (λ rest k. k))
    (λ cs e. cut_bind itself (λ r. r ++ more) second (grown more) (byte_at 62 (unblanked cs.1)) (byte_at 62 (unblanked (cs.1 ++ more))) (λ rest. Ok (cs.0, rest)) (λ rest. Ok (cs.0, rest))
    (blanked_cut itself (λ r. r ++ more) (byte_at 62) cs.1 more (byte_end 62) (λ b. byte_cut 62 b more)) (λ rest f k. k) (λ rest f. inr refl))
  where
    end : List ℕ × List ℕ → Result (List ℕ × List ℕ) Fault
    end cs = byte_at 62 (unblanked cs.1) >>= λ rest. Ok (cs.0, rest)

small_end : AtEnd small_at
unfolding small_at natural_len positive_len
small_end = refl

small_shrinks : Shrinks small_at
small_shrinks bytes x e =
    let read = small_read bytes x e in
    let some : 0 < length (decimal x.0) = (decimal_is_IsNumeral_wide x.0 (omega (arith, read.range))).0.0 in
    omega (arith, some, ap length read.parts, length-append (decimal x.0) x.1)

inner_open : {A : Type 0} (one : List ℕ → Result (A × List ℕ) Fault) → AtEnd one → (close : ℕ) (bytes : List ℕ) → unblanked bytes ≡ [] → Open second (inner_at one close bytes)
unfolding inner_at
inner_open one ends close bytes none = by (unblanked bytes) none
  where
    by : (r : List ℕ) → r ≡ [] → Open second (cond (begins (λ b. b == close) r) (Ok ([], drop 1 r)) (elements_at one close (length bytes) bytes))
    by [] h = elements_open one ends close (length bytes) bytes (omega arith) none
    by (b ∷ r) h = absurd cc

bytes_cut : (more : List ℕ) → Fresh more → Cuts more bytes_at
unfolding bytes_at
bytes_cut more fresh bytes = by (unblanked bytes) (unblanked (bytes ++ more)) refl (unblanked_cut bytes more)
  where
    numbers : Cut second (grown more) (inner_at small_at 62 bytes) (inner_at small_at 62 (bytes ++ more))
    numbers = inner_cut more small_at (small_cut more) small_end small_shrinks 62 bytes

    by : (r whole : List ℕ) → unblanked bytes ≡ r → (unblanked bytes ≡ []) ⊎ (whole ≡ unblanked bytes ++ more)
        → Cut second (grown more) (cond (begins (λ b. b == 34) r) (byte_string_at (drop 1 r)) (inner_at small_at 62 bytes)) (cond (begins (λ b. b == 34) whole) (byte_string_at (drop 1 whole)) (inner_at small_at 62 (bytes ++ more)))
    by [] whole e h = open_cut second (grown more) (inner_at small_at 62 bytes) (cond (begins (λ b. b == 34) whole) (byte_string_at (drop 1 whole)) (inner_at small_at 62 (bytes ++ more))) (inner_open small_at small_end 62 bytes e)
    by (b ∷ r) whole e (inl h) = absurd (let wrong : b ∷ r ≡ [] = sym e ∙ h in cc)
    by (b ∷ r) whole e (inr h) =
        let same : whole ≡ b ∷ (r ++ more) = h ∙ ap (λ (s : List ℕ). s ++ more) e in
        let P : List ℕ → Type 0 = λ w. Cut second (grown more) (cond (b == 34) (byte_string_at r) (inner_at small_at 62 bytes)) (cond (begins (λ c. c == 34) w) (byte_string_at (drop 1 w)) (inner_at small_at 62 (bytes ++ more))) in
        subst P (sym same) (cut_cond second (grown more) (b == 34) (byte_string_at r) (inner_at small_at 62 bytes) (byte_string_at (r ++ more)) (inner_at small_at 62 (bytes ++ more)) (λ k. byte_string_cut more fresh r) (λ k. numbers))

binary_cut : (more : List ℕ) → Fresh more → Cuts more binary_at
unfolding binary_at
binary_cut more fresh bytes =
    exact_bind (λ r. r ++ more) second (grown more) (byte_at 60 bytes) (byte_at 60 (bytes ++ more)) (λ inner. bytes_at inner >>= end) (λ inner. bytes_at inner >>= end) (byte_exact 60 bytes more)
    (λ inner e. cut_bind second (grown more) second (grown more) (bytes_at inner) (bytes_at (inner ++ more)) end end (bytes_cut more fresh inner)
    (λ found f h. open_bind itself second (byte_at 62 found.1) (λ rest. Ok (bin found.0, rest)) (let P : List ℕ → Type 0 = λ r. Open itself (byte_at 62 r) in subst P (sym h) (byte_end 62)) (λ rest k. k))
    (λ found f. exact_bind (λ r. r ++ more) second (grown more) (byte_at 62 found.1) (byte_at 62 (found.1 ++ more)) (λ rest. Ok (bin found.0, rest)) (λ rest. Ok (bin found.0, rest)) (byte_exact 62 found.1 more) (λ rest g. inr refl)))
  where
    end : List ℕ × List ℕ → Result (Tree × List ℕ) Fault
    end found = byte_at 62 found.1 >>= λ rest. Ok (bin found.0, rest)

-- ---- terms

tuple_cut : (more : List ℕ) (one : List ℕ → Result (Tree × List ℕ) Fault) → Cuts more one → AtEnd one → Shrinks one → Cuts more (tuple_at one)
unfolding tuple_at
tuple_cut more one cuts ends shrinks bytes =
    cut_bind second (grown more) second (grown more) (inner_at one 125 bytes) (inner_at one 125 (bytes ++ more)) (λ items. Ok (tuple (trees_of items.0), items.1)) (λ items. Ok (tuple (trees_of items.0), items.1)) (inner_cut more one cuts ends shrinks 125 bytes) (λ items e h. h) (λ items e. inr refl)

list_cut : (more : List ℕ) (one : List ℕ → Result (Tree × List ℕ) Fault) → Cuts more one → AtEnd one → Shrinks one → Cuts more (list_at one)
unfolding list_at
list_cut more one cuts ends shrinks bytes =
    cut_bind second (grown more) second (grown more) (inner_at one 93 bytes) (inner_at one 93 (bytes ++ more)) (λ items. Ok (list (trees_of items.0), items.1)) (λ items. Ok (list (trees_of items.0), items.1)) (inner_cut more one cuts ends shrinks 93 bytes) (λ items e h. h) (λ items e. inr refl)

number_end : AtEnd number_at
unfolding number_at number_len natural_len positive_len
number_end = refl

begun_cut : (more : List ℕ) → Fresh more → (one : List ℕ → Result (Tree × List ℕ) Fault) → Cuts more one → AtEnd one → Shrinks one → (levels : ℕ) → Cuts more (begun_at one levels)
unfolding begun_at
begun_cut more fresh one cuts ends shrinks levels [] = open_cut second (grown more) (number_at []) (begun_at one levels more) number_end
begun_cut more fresh one cuts ends shrinks levels (b ∷ rest) =
    cut_cond second (grown more) (is_ascii_lowercase b) (name_at (b ∷ rest)) (from_39 rest) (name_at (b ∷ (rest ++ more))) (from_39 (rest ++ more)) (λ h. name_cut more (b ∷ rest)) (λ h.
    cut_cond second (grown more) (b == 39) (quoted_atom_at rest) (from_34 rest) (quoted_atom_at (rest ++ more)) (from_34 (rest ++ more)) (λ k. quoted_atom_cut more fresh rest) (λ k.
    cut_cond second (grown more) (b == 34) (string_at levels rest) (from_123 rest) (string_at levels (rest ++ more)) (from_123 (rest ++ more)) (λ k. string_cut more fresh levels rest) (λ k.
    cut_cond second (grown more) (b == 123) (tuple_at one rest) (from_91 rest) (tuple_at one (rest ++ more)) (from_91 (rest ++ more)) (λ k. tuple_cut more one cuts ends shrinks rest) (λ k.
    cut_cond second (grown more) (b == 91) (list_at one rest) (from_60 rest) (list_at one (rest ++ more)) (from_60 (rest ++ more)) (λ k. list_cut more one cuts ends shrinks rest) (λ k.
    cut_cond second (grown more) (b == 60) (binary_at rest) (number_at (b ∷ rest)) (binary_at (rest ++ more)) (number_at (b ∷ (rest ++ more))) (λ k. binary_cut more fresh rest) (λ k. number_cut more (b ∷ rest)))))))
  where
    from_60 : List ℕ → Result (Tree × List ℕ) Fault
    from_60 r = cond (b == 60) (binary_at r) (number_at (b ∷ r))

    from_91 : List ℕ → Result (Tree × List ℕ) Fault
    from_91 r = cond (b == 91) (list_at one r) (from_60 r)

    from_123 : List ℕ → Result (Tree × List ℕ) Fault
    from_123 r = cond (b == 123) (tuple_at one r) (from_91 r)

    from_34 : List ℕ → Result (Tree × List ℕ) Fault
    from_34 r = cond (b == 34) (string_at levels r) (from_123 r)

    from_39 : List ℕ → Result (Tree × List ℕ) Fault
    from_39 r = cond (b == 39) (quoted_atom_at r) (from_34 r)

term_end : (levels : ℕ) → AtEnd (term_at levels)
unfolding term_at begun_at
term_end zero = refl
term_end (suc levels) = number_end

term_shrinks : (levels : ℕ) → Shrinks (term_at levels)
term_shrinks levels bytes x e =
    let read = term_is levels bytes x e in
    omega (arith, begins_some may_begin_term read.text (text_begins x.0 read.text read.is), ap length read.parts, length-append read.text x.1)

term_cut : (more : List ℕ) → Fresh more → (levels : ℕ) → Cuts more (term_at levels)
unfolding term_at
term_cut more fresh zero [] = inl refl
term_cut more fresh zero (b ∷ rest) = cut_cond second (grown more) (may_begin_term b) (Err (TooDeep (length (b ∷ rest)))) (refused (b ∷ rest)) (Err (TooDeep (length (b ∷ (rest ++ more))))) (refused (b ∷ (rest ++ more))) (λ h. tt) (λ h. inr tt)
term_cut more fresh (suc levels) bytes = begun_cut more fresh (term_at levels) (term_cut more fresh levels) (term_end levels) (term_shrinks levels) levels bytes

-- ---- the places

-- More bytes may mend a fault only where it is that the bytes end.
abbrev pub Inside : Fault → Type 0
Inside (Bad left) = 0 < left
Inside (WideInt left) = Unit {0}
Inside (TooDeep left) = Unit {0}

still : {A : Type 0} (behind : A → List ℕ) (grow : A → A) (f : Fault) (whole : Result A Fault) → Cut behind grow (Err f) whole → Inside f → IsErr whole
still behind grow (Bad left) whole (inl h) some = absurd (omega (arith, h, some))
still behind grow (Bad left) whole (inr h) some = h
still behind grow (WideInt left) whole h some = h
still behind grow (TooDeep left) whole h some = h

pub stays_refused : (levels : ℕ) (more bytes : List ℕ) (f : Fault) → Fresh more → term_at levels bytes ≡ Err f → Inside f → IsErr (term_at levels (bytes ++ more))
stays_refused levels more bytes f fresh refusal inside =
    let cut = subst (λ (r : Result (Tree × List ℕ) Fault). Cut second (grown more) r (term_at levels (bytes ++ more))) refusal (term_cut more fresh levels bytes) in
    still second (grown more) f (term_at levels (bytes ++ more)) cut inside

early : (levels : ℕ) (text : List ℕ) (at : ℕ) (f : Fault) → term_at levels (drop at text) ≡ Err f → Inside f → NoText levels text at
early levels text at f refusal inside more fresh t deep is =
    let bytes : List ℕ = drop at text ++ more in
    let read : term_at levels bytes ≡ Ok (t, []) = ap (term_at levels) (sym (append-nil bytes)) ∙ term_again levels t bytes [] is deep (stops t bytes [] refl) in
    let P : Result (Tree × List ℕ) Fault → Type 0 = IsErr in
    subst P read (stays_refused levels more (drop at text) f fresh refusal inside)

pub is_early : (levels : ℕ) (text : List ℕ) (at place : ℕ) → at ≤ length text → read levels text at ≡ Err (refusals.Bad place) → place < length text → NoText levels text at
is_early levels text at place le e inside =
    let refusal = with_places-Bad (length text) (term_at levels (drop at text)) place e in
    early levels text at (Bad refusal.0) refusal.1 (omega (arith, refusal.2))

pub is_early_wide : (levels : ℕ) (text : List ℕ) (at place : ℕ) → at ≤ length text → read levels text at ≡ Err (refusals.WideInt place) → NoText levels text at
is_early_wide levels text at place le e =
    let refusal = with_places-WideInt (length text) (term_at levels (drop at text)) place e in
    early levels text at (WideInt refusal.0) refusal.1 tt

pub is_early_deep : (levels : ℕ) (text : List ℕ) (at place : ℕ) → at ≤ length text → read levels text at ≡ Err (refusals.TooDeep place) → NoText levels text at
is_early_deep levels text at place le e =
    let refusal = with_places-TooDeep (length text) (term_at levels (drop at text)) place e in
    early levels text at (TooDeep refusal.0) refusal.1 tt
