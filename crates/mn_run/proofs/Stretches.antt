-- Marks in stretches.
use Rattle.std.proofs.Common.{◌≡◌, ◌⊎◌, inl, inr, ℕ, zero, suc, ◌+◌, ◌*◌, ◌<◌, ◌≤◌, List, [], ◌∷◌, ◌++◌, length, drop}
use Rattle.std.proofs.Common.{refl, sym, ap, ◌∙◌, arith, append_assoc, append-nil}
use Rattle.std.specs.Prelude.{Option, None, Some, IfSome, IfNone, MatchOption, if◌then◌else◌, Bool, true, false}
use Rattle.std.specs.Prelude.{slice_get, slice_set, ◌-◌}
use Rattle.std.proofs.Math.Nat.{mul-le-mul_right, zero-mul}
use Rattle.std.proofs.lemmas.Bool.{cases_lt}
use Rattle.std.proofs.lemmas.Option.{none-some, same_Some, slice_get_within}
use Rattle.std.proofs.lemmas.List.{length-append}
use Rattle.mn_run.specs.Marks.{behind, stretch, joined, IsShort}
use Rattle.mn_run.specs.declared.outcome.Mark.{Mark}

pub first_is : (first step : Mark) → behind first step 0 ≡ first
first_is first step =
    let nought : (count add : ℕ) → count + 0 * add ≡ count = λ count add. omega (arith, zero-mul add) in
    let mark : ℕ → ℕ → ℕ → ℕ → ℕ → ℕ → Mark = λ clock done entries synced faults wants. record {
      clock = clock;
      done = done;
      entries = entries;
      synced = synced;
      faults = faults;
      wants = wants;
    } in
    ap (λ n. mark n (first.done + 0 * step.done) (first.entries + 0 * step.entries) (first.synced + 0 * step.synced)
    (first.faults + 0 * step.faults) (first.wants + 0 * step.wants)) (nought first.clock step.clock)
    ∙ ap (λ n. mark first.clock n (first.entries + 0 * step.entries) (first.synced + 0 * step.synced)
    (first.faults + 0 * step.faults) (first.wants + 0 * step.wants)) (nought first.done step.done)
    ∙ ap (λ n. mark first.clock first.done n (first.synced + 0 * step.synced)
    (first.faults + 0 * step.faults) (first.wants + 0 * step.wants)) (nought first.entries step.entries)
    ∙ ap (λ n. mark first.clock first.done first.entries n (first.faults + 0 * step.faults) (first.wants + 0 * step.wants))
    (nought first.synced step.synced)
    ∙ ap (λ n. mark first.clock first.done first.entries first.synced n (first.wants + 0 * step.wants))
    (nought first.faults step.faults)
    ∙ ap (λ n. mark first.clock first.done first.entries first.synced first.faults n) (nought first.wants step.wants)

pub length_stretch : (first step : Mark) (n : ℕ) → length (stretch first step n) ≡ n
length_stretch first step zero = refl
length_stretch first step (suc n) =
    omega (arith, length-append (stretch first step n) (behind first step n ∷ []), length_stretch first step n)

get_before : (xs : List Mark) (y x : Mark) (i : ℕ) → slice_get xs i ≡ Some x → slice_get (xs ++ y ∷ []) i ≡ Some x
get_before [] y x i is = absurd (none-some x is)
get_before (z ∷ xs) y x zero is = is
get_before (z ∷ xs) y x (suc i) is = get_before xs y x i is

get_end : (xs : List Mark) (y : Mark) → slice_get (xs ++ y ∷ []) (length xs) ≡ Some y
get_end [] y = refl
get_end (x ∷ xs) y = get_end xs y

-- of an element that is before the last, or that one
get_more : (xs : List Mark) (y x : Mark) (n i : ℕ) → length xs ≡ n → (i < n → slice_get xs i ≡ Some x) → (i ≡ n → y ≡ x)
    → i < suc n → slice_get (xs ++ y ∷ []) i ≡ Some x
get_more xs y x n i count before end within = by (cases_lt i n)
  where
    by : (i < n) ⊎ (n ≤ i) → slice_get (xs ++ y ∷ []) i ≡ Some x
    by (inl less) = get_before xs y x i (before less)
    by (inr more) =
        let here : i ≡ length xs = omega (arith, within, more, count) in
        ap (slice_get (xs ++ y ∷ [])) here ∙ get_end xs y ∙ ap Some (end (omega (arith, within, more)))

pub get_stretch : (first step : Mark) (n i : ℕ) → i < n → slice_get (stretch first step n) i ≡ Some (behind first step i)
get_stretch first step zero i within = absurd (omega (arith, within))
get_stretch first step (suc n) i within =
    get_more (stretch first step n) (behind first step n) (behind first step i) n i (length_stretch first step n)
    (get_stretch first step n i) (λ here. ap (behind first step) (sym here)) within

pub short_within : (first step : Mark) (i n : ℕ) → i ≤ n → IsShort (behind first step n) → IsShort (behind first step i)
short_within first step i n few short = record {
  clock = omega (arith, mul-le-mul_right step.clock few, short.clock);
  done = omega (arith, mul-le-mul_right step.done few, short.done);
  entries = omega (arith, mul-le-mul_right step.entries few, short.entries);
  synced = omega (arith, mul-le-mul_right step.synced few, short.synced);
  faults = omega (arith, mul-le-mul_right step.faults few, short.faults);
  wants = omega (arith, mul-le-mul_right step.wants few, short.wants);
}

-- what is made of the mark at a place is what is there
pub got_behind : (first step : Mark) (count n : ℕ) → n < count → 1 ≤ count → IsShort (behind first step (count - 1))
    → (made : Option Mark) → IfSome made (λ mark. mark ≡ behind first step n) → IfNone made (IsShort (behind first step n) → ⊥)
    → made ≡ slice_get (stretch first step count) n
got_behind first step count n within some short None is none =
    absurd (none (short_within first step n (count - 1) (omega (arith, within, some)) short))
got_behind first step count n within some short (Some mark) is none = ap Some is ∙ sym (get_stretch first step count n within)

-- a second mark behind the only one
pub second : (first step old : Mark) (count : ℕ) (now : List Mark) (mark : Mark) → stretch first old count ≡ now → length now ≡ 1
    → mark ≡ behind first step 1 → stretch first step 2 ≡ now ++ mark ∷ []
second first step old count now mark view one next =
    let single : count ≡ 1 = omega (arith, ap length view, length_stretch first old count, one) in
    ap (λ x. x ∷ behind first step 1 ∷ []) (first_is first step ∙ sym (first_is first old))
    ∙ ap (λ n. stretch first old n ++ behind first step 1 ∷ []) (sym single)
    ∙ ap (λ xs. xs ++ behind first step 1 ∷ []) view ∙ ap (λ x. now ++ x ∷ []) (sym next)

-- a mark that goes on as the others do
pub one_more : (first step : Mark) (count more : ℕ) (now : List Mark) (mark : Mark) → stretch first step count ≡ now
    → more ≡ count + 1 → behind first step count ≡ mark → stretch first step more ≡ now ++ mark ∷ []
one_more first step count more now mark view counted next =
    let same : more ≡ suc count = omega (arith, counted) in
    ap (stretch first step) same ∙ ap (λ xs. xs ++ behind first step count ∷ []) view ∙ ap (λ x. now ++ x ∷ []) next

-- ---- stretches one behind another

pub joined_more : (xs : List (List Mark)) (mark : Mark) → joined (xs ++ (mark ∷ []) ∷ []) ≡ joined xs ++ mark ∷ []
joined_more [] mark = refl
joined_more (x ∷ xs) mark = ap (λ ys. x ++ ys) (joined_more xs mark) ∙ sym (append_assoc x (joined xs) (mark ∷ []))

-- the last one with more marks
joined_at : (xs : List (List Mark)) (k : ℕ) (last more : List Mark) → suc k ≡ length xs → slice_get xs k ≡ Some last
    → joined (slice_set xs k (last ++ more)) ≡ joined xs ++ more
joined_at [] k last more at_end is = absurd (omega (arith, at_end))
joined_at (x ∷ []) zero last more at_end is =
    ap (λ ys. (ys ++ more) ++ []) (sym (same_Some x last is))
    ∙ append-nil (x ++ more) ∙ ap (λ ys. ys ++ more) (sym (append-nil x))
joined_at (x ∷ []) (suc k) last more at_end is = absurd (omega (arith, at_end))
joined_at (x ∷ y ∷ xs) zero last more at_end is = absurd (omega (arith, at_end))
joined_at (x ∷ y ∷ xs) (suc k) last more at_end is =
    ap (λ ys. x ++ ys) (joined_at (y ∷ xs) k last more (omega (arith, at_end)) is)
    ∙ sym (append_assoc x (joined (y ∷ xs)) more)

-- the last one, which took a mark or did not
pub joined_last : (xs : List (List Mark)) (k : ℕ) (last new : List Mark) (took : Bool) (mark : Mark) → suc k ≡ length xs
    → slice_get xs k ≡ Some last → new ≡ (if took then last ++ mark ∷ [] else last)
    → joined (slice_set xs k new) ≡ (if took then joined xs ++ mark ∷ [] else joined xs)
joined_last xs k last new true mark at_end is now =
    ap (λ ys. joined (slice_set xs k ys)) now ∙ joined_at xs k last (mark ∷ []) at_end is
joined_last xs k last new false mark at_end is now =
    ap (λ ys. joined (slice_set xs k ys)) (now ∙ sym (append-nil last)) ∙ joined_at xs k last [] at_end is
    ∙ append-nil (joined xs)

-- a list with a last element is others and that one
split_at : (xs : List Mark) (k : ℕ) (mark : Mark) → suc k ≡ length xs → slice_get xs k ≡ Some mark
    → (front : List Mark) × (xs ≡ front ++ mark ∷ [])
split_at [] k mark at_end is = absurd (omega (arith, at_end))
split_at (x ∷ []) zero mark at_end is = ([], ap (λ y. y ∷ []) (same_Some x mark is))
split_at (x ∷ []) (suc k) mark at_end is = absurd (omega (arith, at_end))
split_at (x ∷ y ∷ xs) zero mark at_end is = absurd (omega (arith, at_end))
split_at (x ∷ y ∷ xs) (suc k) mark at_end is =
    let rest = split_at (y ∷ xs) k mark (omega (arith, at_end)) is in
    (x ∷ rest.0, ap (λ ys. x ∷ ys) rest.1)

-- the last mark is the last of the last one
last_at : (xs : List (List Mark)) (k : ℕ) (last : List Mark) (n : ℕ) (mark : Mark) → suc k ≡ length xs
    → slice_get xs k ≡ Some last → suc n ≡ length last → slice_get last n ≡ Some mark
    → (front : List Mark) × (joined xs ≡ front ++ mark ∷ [])
last_at [] k last n mark at_end is counted there = absurd (omega (arith, at_end))
last_at (x ∷ []) zero last n mark at_end is counted there =
    let own = split_at last n mark counted there in
    (own.0, append-nil x ∙ same_Some x last is ∙ own.1)
last_at (x ∷ []) (suc k) last n mark at_end is counted there = absurd (omega (arith, at_end))
last_at (x ∷ y ∷ xs) zero last n mark at_end is counted there = absurd (omega (arith, at_end))
last_at (x ∷ y ∷ xs) (suc k) last n mark at_end is counted there =
    let rest = last_at (y ∷ xs) k last n mark (omega (arith, at_end)) is counted there in
    (x ++ rest.0, ap (λ ys. x ++ ys) rest.1 ∙ sym (append_assoc x rest.0 (mark ∷ [])))

-- what is got of the last stretch, which has marks
pub got_last : (xs : List (List Mark)) (first step : Mark) (count : ℕ) (last : List Mark) (got : Option Mark)
    → stretch first step count ≡ last → 1 ≤ count → slice_get xs (length xs - 1) ≡ Some last → got ≡ slice_get last (count - 1)
    → MatchOption got (joined xs ≡ []) (λ mark. (front : List Mark) × (joined xs ≡ front ++ mark ∷ []))
got_last xs first step count last None view some is got =
    absurd (none-some (behind first step (count - 1)) (got ∙ ap (λ marks. slice_get marks (count - 1)) (sym view)
    ∙ get_stretch first step count (count - 1) (omega (arith, some))))
got_last xs first step count last (Some mark) view some is got =
    last_at xs (length xs - 1) last (count - 1) mark (omega (arith, slice_get_within xs (length xs - 1) last is)) is
    (omega (arith, some, ap length view, length_stretch first step count)) (sym got)

-- ---- a mark by its number

get_front : (xs ys : List Mark) (n : ℕ) → n < length xs → slice_get (xs ++ ys) n ≡ slice_get xs n
get_front [] ys n within = absurd (omega (arith, within))
get_front (x ∷ xs) ys zero within = refl
get_front (x ∷ xs) ys (suc n) within = get_front xs ys n (omega (arith, within))

get_rest : (xs ys : List Mark) (n : ℕ) → length xs ≤ n → slice_get (xs ++ ys) n ≡ slice_get ys (n - length xs)
get_rest [] ys n behind = ap (slice_get ys) (omega arith)
get_rest (x ∷ xs) ys zero behind = absurd (omega (arith, behind))
get_rest (x ∷ xs) ys (suc n) behind =
    let less : n - length xs ≡ suc n - suc (length xs) = omega arith in
    get_rest xs ys n (omega (arith, behind)) ∙ ap (slice_get ys) less

module _ (all : List (List Mark)) (number i left : ℕ) (here : List Mark) (first step : Mark) (count : ℕ)
    (rest : drop i all ≡ here ∷ drop (i + 1) all) (view : stretch first step count ≡ here)
    (among : slice_get (joined (drop i all)) left ≡ slice_get (joined all) number) where
  at_rest : slice_get (here ++ joined (drop (i + 1) all)) left ≡ slice_get (joined all) number
  at_rest = ap (λ xs. slice_get (joined xs) left) (sym rest) ∙ among

  long : length here ≡ count
  long = ap length (sym view) ∙ length_stretch first step count

  pub got_here : left < count → (got : Option Mark) → got ≡ slice_get here left → got ≡ slice_get (joined all) number
  got_here within got is =
      is ∙ sym (get_front here (joined (drop (i + 1) all)) left (omega (arith, within, long))) ∙ at_rest

  pub goes_on : count ≤ left → slice_get (joined (drop (i + 1) all)) (left - count) ≡ slice_get (joined all) number
  goes_on past =
      let less : left - count ≡ left - length here = omega (arith, long) in
      ap (slice_get (joined (drop (i + 1) all))) less
      ∙ sym (get_rest here (joined (drop (i + 1) all)) left (omega (arith, past, long))) ∙ at_rest
