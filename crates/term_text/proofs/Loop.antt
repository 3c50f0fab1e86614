-- Reading one thing after the other, as a loop does.
use Rattle.std.proofs.Common.{◌≡◌, ℕ, zero, suc, ◌-◌, ◌+◌, ◌<◌, ◌≤◌, true, false, List, [], ◌∷◌, ◌++◌, Result, Ok, Err, length, drop, map, refl, sym, ap, ◌∙◌, arith, append_assoc, append-nil}
use Rattle.std.specs.Prelude.{◌==◌, if◌then◌else◌}
use Rattle.std.specs.Prelude.{pos}
use Rattle.std.proofs.lemmas.List.{map-append}
use Rattle.term_core.specs.Tree.{Tree, int}
use Rattle.term_core.specs.View.{tree_of}
use Rattle.term_core.specs.declared.term.Term.{Term}
use Rattle.term_text.specs.declared.fault.Fault.{Fault}
use Rattle.term_text.specs.declared.fault.Fault.TheVariants.{Bad, TooDeep}
use Rattle.term_text.specs.declared.fault.ReadErr.{ReadErr}
use Rattle.term_text.specs.declared.fault.ReadErr.TheVariants as errors
use Rattle.term_text.specs.Grammar.{begins}
use Rattle.term_text.specs.Reading.{◌>>=◌, Fails, refused, byte_at, unblanked, more_at, elements_at, as_numbers, quoted_at, may_begin_term, begun_at, term_at}

pub term_at_zero : (levels : ℕ) (bytes : List ℕ) → levels ≡ 0 → term_at levels bytes ≡ (if begins may_begin_term bytes then Err (TooDeep (length bytes)) else refused bytes)
unfolding term_at
term_at_zero levels bytes e = rw e refl

pub term_at_below : (levels : ℕ) (bytes : List ℕ) → 0 < levels → term_at levels bytes ≡ begun_at (term_at (levels - 1)) (levels - 1) bytes
unfolding term_at
term_at_below zero bytes h = absurd (omega arith)
term_at_below (suc levels) bytes h = let e : suc levels - 1 ≡ levels = omega arith in rw e refl

-- what was read before, and what is still read
abbrev pub with_front : {A : Type 0} → List A → Result (List A × List ℕ) Fault → Result (List A × List ℕ) Fault
with_front front read = read >>= λ x. Ok (front ++ x.0, x.1)

-- ---- characters

regroup : {A : Type 0} (front : List A) (x : A) (read : Result (List A × List ℕ) Fault) → with_front front (read >>= λ others. Ok (x ∷ others.0, others.1)) ≡ with_front (front ++ x ∷ []) read
regroup {A} front x (Ok y) = ap (λ (xs : List A). Ok (xs, y.1)) (sym (append_assoc front (x ∷ []) y.0))
regroup front x (Err f) = refl

pub quoted_goes_on : (one : List ℕ → Result (ℕ × List ℕ) Fault) (quote most i : ℕ) (front bytes : List ℕ) (c : ℕ) (after : List ℕ) (total : Result (List ℕ × List ℕ) Fault)
    → i < most → begins (λ b. b == quote) bytes ≡ false → one bytes ≡ Ok (c, after)
    → with_front front (quoted_at one quote (most - i) bytes) ≡ total → with_front (front ++ c ∷ []) (quoted_at one quote (most - (i + 1)) after) ≡ total
unfolding quoted_at
quoted_goes_on one quote most i front bytes c after total lt other here so_far =
    let k : most - i ≡ suc (most - (i + 1)) = omega arith in
    let step : with_front front (quoted_at one quote (most - i) bytes) ≡ with_front (front ++ c ∷ []) (quoted_at one quote (most - (i + 1)) after) = rw (k, other, here) (regroup front c (quoted_at one quote (most - (i + 1)) after)) in
    sym step ∙ so_far

pub quoted_fails : (one : List ℕ → Result (ℕ × List ℕ) Fault) (quote most i : ℕ) (e : ReadErr) (front bytes : List ℕ) (total : Result (List ℕ × List ℕ) Fault)
    → i < most → begins (λ b. b == quote) bytes ≡ false → Fails e (one bytes)
    → with_front front (quoted_at one quote (most - i) bytes) ≡ total → Fails e total
unfolding quoted_at
quoted_fails one quote most i errors.Memory front bytes total lt other here so_far = tt
quoted_fails one quote most i (errors.Fault f) front bytes total lt other here so_far =
    let k : most - i ≡ suc (most - (i + 1)) = omega arith in
    let step : with_front front (quoted_at one quote (most - i) bytes) ≡ Err f = rw (k, other, here) refl in
    sym so_far ∙ step

pub quoted_closes : (one : List ℕ → Result (ℕ × List ℕ) Fault) (quote most i : ℕ) (front bytes : List ℕ) (total : Result (List ℕ × List ℕ) Fault)
    → i < most → begins (λ b. b == quote) bytes ≡ true
    → with_front front (quoted_at one quote (most - i) bytes) ≡ total → total ≡ Ok (front, drop 1 bytes)
unfolding quoted_at
quoted_closes one quote most i front bytes total lt here so_far =
    let k : most - i ≡ suc (most - (i + 1)) = omega arith in
    let step : with_front front (quoted_at one quote (most - i) bytes) ≡ Ok (front, drop 1 bytes) = rw (k, here) (ap (λ (cs : List ℕ). Ok (cs, drop 1 bytes)) (append-nil front)) in
    sym so_far ∙ step

-- where no character more may stand
pub quoted_full : (one : List ℕ → Result (ℕ × List ℕ) Fault) (quote most i : ℕ) (front bytes : List ℕ) (total : Result (List ℕ × List ℕ) Fault)
    → most ≤ i → with_front front (quoted_at one quote (most - i) bytes) ≡ total → total ≡ (byte_at quote bytes >>= λ rest. Ok (front, rest))
unfolding quoted_at
quoted_full one quote most i front bytes total le so_far =
    let k : most - i ≡ 0 = omega arith in
    let step : with_front front (quoted_at one quote (most - i) bytes) ≡ (byte_at quote bytes >>= λ rest. Ok (front, rest)) = rw k (by (byte_at quote bytes)) in
    sym so_far ∙ step
  where
    by : (read : Result (List ℕ) Fault) → with_front front (read >>= λ rest. Ok ([], rest)) ≡ (read >>= λ rest. Ok (front, rest))
    by (Ok rest) = ap (λ (cs : List ℕ). Ok (cs, rest)) (append-nil front)
    by (Err f) = refl

-- ---- elements

pub elements_go_on : {A : Type 0} (one : List ℕ → Result (A × List ℕ) Fault) (close most i : ℕ) (front : List A) (bytes : List ℕ) (x : A) (mid after : List ℕ) (total : Result (List A × List ℕ) Fault)
    → i < most → one (unblanked bytes) ≡ Ok (x, mid) → more_at close (unblanked mid) ≡ Ok (true, after)
    → with_front front (elements_at one close (most - i) bytes) ≡ total → with_front (front ++ x ∷ []) (elements_at one close (most - (i + 1)) after) ≡ total
unfolding elements_at
elements_go_on {A} one close most i front bytes x mid after total lt here more so_far =
    let k : most - i ≡ suc (most - (i + 1)) = omega arith in
    let step : with_front front (elements_at one close (most - i) bytes) ≡ with_front (front ++ x ∷ []) (elements_at one close (most - (i + 1)) after) = rw (k, here, more) (regroup front x (elements_at one close (most - (i + 1)) after)) in
    sym step ∙ so_far

pub elements_close : {A : Type 0} (one : List ℕ → Result (A × List ℕ) Fault) (close most i : ℕ) (front : List A) (bytes : List ℕ) (x : A) (mid after : List ℕ) (total : Result (List A × List ℕ) Fault)
    → i < most → one (unblanked bytes) ≡ Ok (x, mid) → more_at close (unblanked mid) ≡ Ok (false, after)
    → with_front front (elements_at one close (most - i) bytes) ≡ total → total ≡ Ok (front ++ x ∷ [], after)
unfolding elements_at
elements_close {A} one close most i front bytes x mid after total lt here more so_far =
    let k : most - i ≡ suc (most - (i + 1)) = omega arith in
    let step : with_front front (elements_at one close (most - i) bytes) ≡ Ok (front ++ x ∷ [], after) = rw (k, here, more) refl in
    sym so_far ∙ step

pub elements_fail : {A : Type 0} (one : List ℕ → Result (A × List ℕ) Fault) (close most i : ℕ) (e : ReadErr) (front : List A) (bytes : List ℕ) (total : Result (List A × List ℕ) Fault)
    → i < most → Fails e (one (unblanked bytes))
    → with_front front (elements_at one close (most - i) bytes) ≡ total → Fails e total
unfolding elements_at
elements_fail one close most i errors.Memory front bytes total lt here so_far = tt
elements_fail one close most i (errors.Fault f) front bytes total lt here so_far =
    let k : most - i ≡ suc (most - (i + 1)) = omega arith in
    let step : with_front front (elements_at one close (most - i) bytes) ≡ Err f = rw (k, here) refl in
    sym so_far ∙ step

pub elements_fail_behind : {A : Type 0} (one : List ℕ → Result (A × List ℕ) Fault) (close most i : ℕ) (e : ReadErr) (front : List A) (bytes : List ℕ) (x : A) (mid : List ℕ) (total : Result (List A × List ℕ) Fault)
    → i < most → one (unblanked bytes) ≡ Ok (x, mid) → Fails e (more_at close (unblanked mid))
    → with_front front (elements_at one close (most - i) bytes) ≡ total → Fails e total
unfolding elements_at
elements_fail_behind one close most i errors.Memory front bytes x mid total lt here more so_far = tt
elements_fail_behind one close most i (errors.Fault f) front bytes x mid total lt here more so_far =
    let k : most - i ≡ suc (most - (i + 1)) = omega arith in
    let step : with_front front (elements_at one close (most - i) bytes) ≡ Err f = rw (k, here, more) refl in
    sym so_far ∙ step

pub elements_end : {A : Type 0} (one : List ℕ → Result (A × List ℕ) Fault) (close most i : ℕ) (front : List A) (bytes : List ℕ) (total : Result (List A × List ℕ) Fault)
    → most ≤ i → with_front front (elements_at one close (most - i) bytes) ≡ total → total ≡ Err (Bad (length bytes))
unfolding elements_at
elements_end one close most i front bytes total le so_far =
    let k : most - i ≡ 0 = omega arith in
    let step : with_front front (elements_at one close (most - i) bytes) ≡ Err (Bad (length bytes)) = rw k refl in
    sym so_far ∙ step

-- ---- how a loop over characters returns

pub full_fails : (quote : ℕ) (e : ReadErr) (front bytes : List ℕ) (total : Result (List ℕ × List ℕ) Fault) → Fails e (byte_at quote bytes) → total ≡ (byte_at quote bytes >>= λ rest. Ok (front, rest)) → Fails e total
full_fails quote errors.Memory front bytes total here p = tt
full_fails quote (errors.Fault f) front bytes total here p = p ∙ ap (λ (r : Result (List ℕ) Fault). r >>= λ rest. Ok (front, rest)) here

pub full_ok : (quote : ℕ) (front bytes after : List ℕ) (total : Result (List ℕ × List ℕ) Fault) → byte_at quote bytes ≡ Ok after → total ≡ (byte_at quote bytes >>= λ rest. Ok (front, rest)) → total ≡ Ok (front, after)
full_ok quote front bytes after total here p = p ∙ ap (λ (r : Result (List ℕ) Fault). r >>= λ rest. Ok (front, rest)) here

pub front_none : {A : Type 0} (front : List A) (read : Result (List A × List ℕ) Fault) → front ≡ [] → with_front front read ≡ read
front_none front (Ok x) e = rw e refl
front_none front (Err f) e = refl

-- the characters as numbers
pub as_numbers_fails : (e : ReadErr) (total : Result (List ℕ × List ℕ) Fault) → Fails e total → Fails e (as_numbers total)
as_numbers_fails errors.Memory total h = tt
as_numbers_fails (errors.Fault f) total h = ap as_numbers h

pub as_numbers_ok : (total : Result (List ℕ × List ℕ) Fault) (cs after : List ℕ) (ts : List Tree) → total ≡ Ok (cs, after) → ts ≡ map (λ n. int (pos n)) cs → as_numbers total ≡ Ok (ts, after)
as_numbers_ok total cs after ts p q = ap as_numbers p ∙ ap (λ (us : List Tree). Ok (us, after)) (sym q)

-- one more term, as the vector shows it
pub one_more : (ts us : List Term) (t : Term) → us ≡ ts ++ t ∷ [] → map tree_of us ≡ map tree_of ts ++ tree_of t ∷ []
one_more ts us t e = ap (map tree_of) e ∙ map-append tree_of ts (t ∷ [])

pub one_number : (ts us : List Term) (t : Term) (cs : List ℕ) (c : ℕ) → us ≡ ts ++ t ∷ [] → tree_of t ≡ int (pos c) → map tree_of ts ≡ map (λ n. int (pos n)) cs → map tree_of us ≡ map (λ n. int (pos n)) (cs ++ c ∷ [])
one_number ts us t cs c e is so_far =
    let front : map tree_of ts ++ tree_of t ∷ [] ≡ map (λ (n : ℕ). int (pos n)) cs ++ int (pos c) ∷ [] = rw (so_far, is) refl in
    one_more ts us t e ∙ front ∙ sym (map-append (λ (n : ℕ). int (pos n)) cs (c ∷ []))
