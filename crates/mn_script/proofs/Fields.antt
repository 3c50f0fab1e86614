-- The terms that are read.
use Rattle.std.proofs.Common.{◌≡◌, ℕ, ◌-◌, ◌≤◌, Bool, List, [], ◌∷◌, ◌++◌, length, take, drop, Result, Ok, Err, refl, sym, ap, subst, ◌∙◌, arith, length-append}
use Rattle.std.proofs.lemmas.List.{take-append-drop, take_at, drop_at}
use Rattle.term_core.specs.Tree.{Tree, depth, int, atom, tuple, list, bin}
use Rattle.term_text.specs.Grammar.{begins, IsText, Stops}
use Rattle.term_text.specs.Places.{Stands, read, with_places}
use Rattle.term_text.specs.Reading.{term_at}
use Rattle.term_text.specs.declared.fault.Fault.{Fault}
use Rattle.term_text.specs.declared.fault.Fault.TheVariants as fault
use Rattle.term_text.specs.declared.error.TextErr.{TextErr}
use Rattle.term_text.specs.declared.error.TextErr.TheVariants.{Bad, WideInt, TooDeep, Memory}
use Rattle.term_text.proofs.Found.{is_found}
use Rattle.term_text.proofs.Again.{stands_again}
use Rattle.term_text.proofs.Within.{fault_within}
use Rattle.mn_script.specs.Reading.{left_at, behind_term, field_at}
use Rattle.mn_script.specs.Grammar.{IsRefusedAt}

-- it is a matter of the first byte behind
pub begins_first : (p : ℕ → Bool) (front : List ℕ) (c : ℕ) (rest tail : List ℕ)
    → begins p (front ++ c ∷ rest) ≡ begins p (front ++ c ∷ tail)
begins_first p [] c rest tail = refl
begins_first p (d ∷ front) c rest tail = refl

pub stops_first : (t : Tree) (text front : List ℕ) (c : ℕ) (rest tail : List ℕ) → Stops t text (front ++ c ∷ rest)
    → Stops t text (front ++ c ∷ tail)
stops_first (int n) text front c rest tail h = λ other. sym (begins_first _ front c rest tail) ∙ h other
stops_first (atom a) text front c rest tail h = λ bare. sym (begins_first _ front c rest tail) ∙ h bare
stops_first (tuple ts) text front c rest tail h = tt
stops_first (list ts) text front c rest tail h = tt
stops_first (bin b) text front c rest tail h = tt

-- ---- what is read

abbrev pub IsField : List ℕ → Tree → Type 0
IsField text t = IsText t text × (depth t ≤ 100)

pub record FieldRead (line : List ℕ) (found : Tree) (rest : List ℕ) : Type 0 where
  pub text : List ℕ
  pub is : IsField text found
  pub parts : line ≡ text ++ rest
  pub stops : Stops found text rest

field_stands : (line : List ℕ) (t : Tree) (n : ℕ) → Stands 100 line 0 n t → FieldRead line t (drop n line)
field_stands line t n h =
    let all : n - 0 ≡ n = omega arith in
    record {
      text = take n line;
      is = (subst (λ (m : ℕ). IsText t (take m line)) all h.is, h.deep);
      parts = sym (take-append-drop n line);
      stops = subst (λ (m : ℕ). Stops t (take m line) (drop n line)) all h.whole;
    }

behind_term-Ok : (line : List ℕ) (r : Result (Tree × ℕ) TextErr) (x : Tree × List ℕ) → behind_term line r ≡ Ok x
    → (y : Tree × ℕ) × (r ≡ Ok y) × (y.0 ≡ x.0) × (drop y.1 line ≡ x.1)
behind_term-Ok line (Ok y) x e = (y, refl, cc, cc)
behind_term-Ok line (Err d) x e = absurd cc

pub field_read : (line : List ℕ) (found : Tree) (rest : List ℕ) → field_at line ≡ Ok (found, rest)
    → FieldRead line found rest
unfolding field_at
field_read line found rest e =
    let y = behind_term-Ok line (read 100 line 0) (found, rest) e in
    let read = field_stands line y.0.0 y.0.1 (is_found 100 line 0 y.0 (omega arith) y.1) in
    subst (λ (r : List ℕ). FieldRead line found r) y.3 (subst (λ (t : Tree). FieldRead line t (drop y.0.1 line)) y.2 read)

-- ---- what is read again

pub field_again : (text rest : List ℕ) (t : Tree) → IsField text t → Stops t text rest
    → field_at (text ++ rest) ≡ Ok (t, rest)
unfolding field_at
field_again text rest t is stops =
    let all : length text - 0 ≡ length text = omega arith in
    let front : take (length text - 0) (text ++ rest) ≡ text = ap (λ (m : ℕ). take m (text ++ rest)) all
    ∙ take_at text rest (length text) refl in
    let behind : drop (length text) (text ++ rest) ≡ rest = drop_at text rest (length text) refl in
    let stands : Stands 100 (text ++ rest) 0 (length text) t = record {
      order = omega arith;
      within = omega (arith, length-append text rest);
      is = let P : List ℕ → Type 0 = IsText t in subst P (sym front) is.0;
      deep = is.1;
      whole =
          let P : List ℕ → List ℕ → Type 0 = Stops t in
          subst (λ (x : List ℕ). P x (drop (length text) (text ++ rest))) (sym front)
          (subst (λ (x : List ℕ). P text x) (sym behind) stops);
    } in
    ap (behind_term (text ++ rest)) (stands_again 100 (text ++ rest) 0 (length text) t stands) ∙ ap (λ (r : List ℕ). Ok (t, r)) behind

-- ---- what is refused

behind_term-Err : (line : List ℕ) (r : Result (Tree × ℕ) TextErr) (left : ℕ) → behind_term line r ≡ Err left
    → (e : TextErr) × (r ≡ Err e) × (left_at (length line) e ≡ left)
behind_term-Err line (Ok y) left e = absurd cc
behind_term-Err line (Err d) left e = (d, refl, cc)

left_within : (end : ℕ) (e : TextErr) → left_at end e ≤ end
left_within end (Bad at) = omega arith
left_within end (WideInt at) = omega arith
left_within end (TooDeep at) = omega arith
left_within end Memory = omega arith

pub field_within : (line : List ℕ) (left : ℕ) → field_at line ≡ Err left → left ≤ length line
unfolding field_at
field_within line left e =
    let d = behind_term-Err line (read 100 line 0) left e in subst (λ (n : ℕ). n ≤ length line) d.2 (left_within (length line) d.0)

err_is : {A : Type 0} (m n : ℕ) → (let r : Result A ℕ = Err m in r) ≡ Err n → m ≡ n
err_is m n e = cc

-- a term that stands behind a front is refused at its place in the whole
pub field_placed : (line front rest : List ℕ) (left : ℕ) → line ≡ front ++ rest → field_at rest ≡ Err left
    → IsRefusedAt (read 100 line (length front)) (length line - left)
unfolding field_at
field_placed line front rest left parts e =
    let behind : drop (length front) line ≡ rest = ap (drop (length front)) parts ∙ drop_at front rest (length front) refl in
    let P : List ℕ → Type 0 = λ bytes. IsRefusedAt (with_places (length line) (term_at 100 bytes)) (length line - left) in
    subst P (sym behind) (by (term_at 100 rest) refl e)
  where
    by : (r : Result (Tree × List ℕ) Fault) → term_at 100 rest ≡ r
        → behind_term rest (with_places (length rest) r) ≡ Err left
        → IsRefusedAt (with_places (length line) r) (length line - left)
    by (Ok x) is h = absurd cc
    by (Err (fault.Bad n)) is h =
        let count = err_is {A = Tree × List ℕ} _ left h in let within : n ≤ length rest = fault_within 100 0 rest (fault.Bad n) is in
        omega (arith, count, within)
    by (Err (fault.WideInt n)) is h =
        let count = err_is {A = Tree × List ℕ} _ left h in let within : n ≤ length rest = fault_within 100 0 rest (fault.WideInt n) is in
        omega (arith, count, within)
    by (Err (fault.TooDeep n)) is h =
        let count = err_is {A = Tree × List ℕ} _ left h in let within : n ≤ length rest = fault_within 100 0 rest (fault.TooDeep n) is in
        omega (arith, count, within)

pub record WrongField (line rest : List ℕ) (at : ℕ) : Type 0 where
  pub refused : field_at rest ≡ Err (length line - at)
  pub within : at ≤ length line

-- and the other way round
pub field_wrong : (line front rest : List ℕ) (at : ℕ) → line ≡ front ++ rest
    → IsRefusedAt (read 100 line (length front)) at → WrongField line rest at
unfolding field_at
field_wrong line front rest at parts h =
    let behind : drop (length front) line ≡ rest = ap (drop (length front)) parts ∙ drop_at front rest (length front) refl in
    let P : List ℕ → Type 0 = λ bytes. IsRefusedAt (with_places (length line) (term_at 100 bytes)) at in
    by (term_at 100 rest) refl (subst P behind h)
  where
    longer : length rest ≤ length line
    longer = omega (arith, ap length parts, length-append front rest)

    by : (r : Result (Tree × List ℕ) Fault) → term_at 100 rest ≡ r → IsRefusedAt (with_places (length line) r) at
        → WrongField line rest at
    by (Ok x) is h = absurd h
    by (Err (fault.Bad n)) is h = let within : n ≤ length rest = fault_within 100 0 rest (fault.Bad n) is in
        record {
          refused = ap (λ r. behind_term rest (with_places (length rest) r)) is
              ∙ ap Err (omega (arith, h, within, longer));
          within = omega (arith, h);
        }
    by (Err (fault.WideInt n)) is h = let within : n ≤ length rest = fault_within 100 0 rest (fault.WideInt n) is in
        record {
          refused = ap (λ r. behind_term rest (with_places (length rest) r)) is
              ∙ ap Err (omega (arith, h, within, longer));
          within = omega (arith, h);
        }
    by (Err (fault.TooDeep n)) is h = let within : n ≤ length rest = fault_within 100 0 rest (fault.TooDeep n) is in
        record {
          refused = ap (λ r. behind_term rest (with_places (length rest) r)) is
              ∙ ap Err (omega (arith, h, within, longer));
          within = omega (arith, h);
        }
