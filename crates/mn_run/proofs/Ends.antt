-- Lines and their ends.
use Rattle.std.proofs.Common.{◌≡◌, ℕ, ◌<◌, ◌==◌, Bool, true, false, List, [], ◌∷◌, ◌++◌, length, refl, sym, ap, subst, not, Ok, Err, ◌∙◌, append_assoc, append-nil, length-append, arith}
use Rattle.std.specs.Prelude.{if◌then◌else◌}
use Rattle.std.proofs.lemmas.Bool.Decides.{nat_tests}
use Rattle.mn_run.specs.Lines.{lines_of, onto}
use Rattle.mn_run.specs.declared.lines.LineErr.{LineErr}
use Rattle.mn_run.specs.declared.lines.LineErr.TheVariants.{Failed, Unwritten, TooLong, Memory}
use Rattle.mn_run.specs.declared.lines.TheConstants.{MOST_LINE}
use Rattle.mn_run.specs.Reading.{has_no_end, Ended, Open, Over, Grows, Refills, IsFilled, FirstLine}

pub none-append : (xs ys : List ℕ) → has_no_end xs ≡ true → has_no_end ys ≡ true → has_no_end (xs ++ ys) ≡ true
none-append [] ys h k = k
none-append (x ∷ xs) ys h k = grind (arith, nat_tests, none-append xs ys)

pub lines_first : (line rest : List ℕ) → has_no_end line ≡ true → lines_of (line ++ 10 ∷ rest) ≡ line ∷ lines_of rest
lines_first [] rest h = refl
lines_first (x ∷ line) rest h = grind (arith, nat_tests, lines_first line rest)

pub lines_last : (line : List ℕ) → has_no_end line ≡ true → 0 < length line → lines_of line ≡ line ∷ []
lines_last [] h k = absurd (omega arith)
lines_last (x ∷ []) h k = grind (arith, nat_tests)
lines_last (x ∷ y ∷ line) h k = grind (arith, nat_tests, lines_last (y ∷ line))

-- a line that was begun is the front of the first line
pub record Begins (line : List ℕ) (lines : List (List ℕ)) : Type 0 where
  pub more : List ℕ
  pub later : List (List ℕ)
  pub first : lines ≡ (line ++ more) ∷ later

begins_onto : (x : ℕ) (line : List ℕ) (lines : List (List ℕ)) → Begins line lines → Begins (x ∷ line) (onto x lines)
begins_onto x line lines h = record { more = h.more; later = h.later; first = ap (onto x) h.first }

begins_with : (x : ℕ) (lines : List (List ℕ)) → Begins (x ∷ []) (onto x lines)
begins_with x [] = record { more = []; later = []; first = refl }
begins_with x (line ∷ lines) = record { more = line; later = lines; first = refl }

-- a byte that is no end
not_end : (x : ℕ) (line rest : List ℕ) → has_no_end (x ∷ line) ≡ true
    → (lines_of (x ∷ rest) ≡ onto x (lines_of rest)) × (has_no_end line ≡ true)
not_end x line rest h = by_test (x == 10) h
  where
    by_test : (b : Bool) → (if b then false else has_no_end line) ≡ true
        → ((if b then [] ∷ lines_of rest else onto x (lines_of rest)) ≡ onto x (lines_of rest)) × (has_no_end line ≡ true)
    by_test true k = absurd (cc)
    by_test false k = (refl, k)

pub lines_begun : (line rest : List ℕ) → has_no_end line ≡ true → 0 < length line → Begins line (lines_of (line ++ rest))
lines_begun [] rest h k = absurd (omega arith)
lines_begun (x ∷ []) rest h k = subst (Begins (x ∷ [])) (sym (not_end x [] rest h).0) (begins_with x (lines_of rest))
lines_begun (x ∷ y ∷ line) rest h k =
    let e = not_end x (y ∷ line) (y ∷ line ++ rest) h in
    subst (Begins (x ∷ y ∷ line)) (sym e.0)
    (begins_onto x (y ∷ line) (lines_of (y ∷ line ++ rest)) (lines_begun (y ∷ line) rest e.1 (omega arith)))

-- ---- what has been read of the script, and what is left of it

pub ended : (start begun line held new left : List ℕ) → start ≡ begun ++ (held ++ left) → has_no_end begun ≡ true
    → Ended begun line held new → lines_of start ≡ line ∷ lines_of (new ++ left)
ended start begun line held new left whole none h =
    let e : start ≡ line ++ 10 ∷ (new ++ left) =
    whole ∙ ap (λ xs. begun ++ (xs ++ left)) h.rest ∙ ap (λ xs. begun ++ xs) (append_assoc h.part (10 ∷ new) left)
    ∙ sym (append_assoc begun h.part (10 ∷ (new ++ left))) ∙ ap (λ xs. xs ++ 10 ∷ (new ++ left)) (sym h.line) in
    ap lines_of e ∙ lines_first line (new ++ left) (subst (λ xs. has_no_end xs ≡ true) (sym h.line) (none-append begun h.part none h.none))

pub over : (start begun held left : List ℕ) → start ≡ begun ++ (held ++ left) → has_no_end begun ≡ true → Over begun held
    → (first : List ℕ) × (later : List (List ℕ)) × (lines_of start ≡ first ∷ later) × (MOST_LINE < length first)
over start begun held left whole none h =
    let e : start ≡ (begun ++ h.part) ++ (h.rest ++ left) =
    whole ∙ ap (λ xs. begun ++ (xs ++ left)) h.whole ∙ ap (λ xs. begun ++ xs) (append_assoc h.part h.rest left)
    ∙ sym (append_assoc begun h.part (h.rest ++ left)) in
    let long : MOST_LINE < length (begun ++ h.part) = h.long in
    let b : Begins (begun ++ h.part) (lines_of ((begun ++ h.part) ++ (h.rest ++ left))) =
    lines_begun (begun ++ h.part) (h.rest ++ left) (none-append begun h.part none h.none) (omega (arith, long))
    in
    ((begun ++ h.part) ++ b.more, b.later, ap lines_of e ∙ b.first, omega (arith, long, length-append (begun ++ h.part) b.more))

pub more_read : (start begun line held mid new left now : List ℕ) → start ≡ begun ++ (held ++ left) → Open begun line held mid
    → left ≡ new ++ now → start ≡ line ++ (new ++ now)
more_read start begun line held mid new left now whole h read =
    whole ∙ sym (append_assoc begun held left) ∙ ap (λ xs. xs ++ left) (sym h.line) ∙ ap (λ xs. line ++ xs) read

pub none_more : (begun line held mid : List ℕ) → has_no_end begun ≡ true → Open begun line held mid → has_no_end line ≡ true
none_more begun line held mid none h = subst (λ xs. has_no_end xs ≡ true) (sym h.line) (none-append begun held none h.none)

last_line : (line : List ℕ) → has_no_end line ≡ true → FirstLine (Ok (not (length line == 0))) line line []
last_line [] k = refl
last_line (x ∷ line) k =
    let some : (length (x ∷ line) == 0) ≡ false = grind (arith, nat_tests) in
    subst (λ b. FirstLine (Ok (not b)) (x ∷ line) (x ∷ line) []) (sym some) (lines_last (x ∷ line) k (omega arith))

-- the script ends, with a last line or without
pub at_end : (empty : Bool) (start begun line held mid new left now : List ℕ) → empty ≡ (length line == 0) → start ≡ begun ++ (held ++ left)
    → has_no_end begun ≡ true → Open begun line held mid → new ≡ [] → (left ≡ []) × (now ≡ [])
    → FirstLine (Ok (not empty)) line start (new ++ now)
at_end empty start begun line held mid new left now is whole none h filled read =
    let e : start ≡ line = more_read start begun line held mid [] left [] whole h read.0 ∙ append-nil line in
    let f : new ++ now ≡ [] = ap (λ xs. xs ++ now) filled ∙ read.1 in
    let last = last_line line (none_more begun line held mid none h) in
    let at_none : FirstLine (Ok (not (length line == 0))) line line (new ++ now) =
    subst (λ xs. FirstLine (Ok (not (length line == 0))) line line xs) (sym f) last
    in
    subst (λ b. FirstLine (Ok (not b)) line start (new ++ now)) (sym is)
    (subst (λ xs. FirstLine (Ok (not (length line == 0))) line xs (new ++ now)) (sym e) at_none)

-- ---- which answer it was

pub is_ended : (b : Bool) (begun line held new : List ℕ) → b ≡ true → Grows (Ok b) begun line held new → Ended begun line held new
is_ended true begun line held new e h = h
is_ended false begun line held new e h = absurd (cc)

pub is_open : (b : Bool) (begun line held new : List ℕ) → b ≡ false → Grows (Ok b) begun line held new → Open begun line held new
is_open true begun line held new e h = absurd (cc)
is_open false begun line held new e h = h

pub is_more : (b : Bool) (new left now : List ℕ) → b ≡ true → Refills (Ok b) new left now → left ≡ new ++ now
is_more true new left now e h = h
is_more false new left now e h = absurd (cc)

pub is_all : (b : Bool) (new left now : List ℕ) → b ≡ false → Refills (Ok b) new left now → (left ≡ []) × (now ≡ [])
is_all true new left now e h = absurd (cc)
is_all false new left now e h = h

pub not_taken : (e : LineErr) (start begun line line' held new left : List ℕ) → start ≡ begun ++ (held ++ left) → has_no_end begun ≡ true
    → Grows (Err e) begun line' held new → FirstLine (Err e) line start (new ++ left)
not_taken TooLong start begun line line' held new left whole none h = over start begun held left whole none h
not_taken Memory start begun line line' held new left whole none h = tt
not_taken Failed start begun line line' held new left whole none h = tt
not_taken Unwritten start begun line line' held new left whole none h = tt

pub is_empty : (b : Bool) (new : List ℕ) → b ≡ false → IsFilled (Ok b) new → new ≡ []
is_empty true new e h = absurd (cc)
is_empty false new e h = h
