-- Reading terms one after the other, as a loop does.
use Rattle.std.proofs.Common.{◌≡◌, ℕ, zero, suc, ◌-◌, ◌+◌, ◌<◌, ◌≤◌, List, [], ◌∷◌, ◌++◌, Result, Ok, Err, length, map, drop, get_or, ℤ, pos, refl, sym, ap, ◌∙◌, arith}
use Rattle.std.proofs.lemmas.List.{map-append, drop_more, drop_all}
use Rattle.term_core.specs.Tree.{Tree, int, Trees, no_trees, tree}
use Rattle.term_core.specs.View.{tree_step, tree_of, trees_of}
use Rattle.term_core.specs.declared.term.Term.{Term, Int}
use Rattle.term_core.specs.declared.term.Term.TheFolds.{fold-roll-Term}
use Rattle.term_core.specs.declared.term.Term.TheOpen.{Term-F}
use Rattle.term_core.specs.declared.term.Term.TheViews.{rolls-Int}
use Rattle.term_wire.specs.declared.fault.Fault.{Fault}
use Rattle.term_wire.specs.declared.fault.Fault.TheVariants.{TooDeep}
use Rattle.term_wire.specs.declared.fault.ReadErr.{ReadErr}
use Rattle.term_wire.specs.declared.fault.ReadErr.TheVariants as errors
use Rattle.term_wire.specs.Reading.{◌>>=◌, Fails, byte_at, numbers, term_at, tagged_at, items_at}

-- trees in front of others
abbrev pub onto : List Tree → Trees → Trees
onto [] ts = ts
onto (t ∷ front) ts = tree t (onto front ts)

-- what was read before, and what is still read
abbrev pub with_front : List Tree → Result (Trees × List ℕ) Fault → Result (Trees × List ℕ) Fault
with_front front read = read >>= λ x. Ok (onto front x.0, x.1)

pub term_at_below : (levels : ℕ) (bytes : List ℕ) → 0 < levels → term_at levels bytes ≡ (byte_at bytes >>= λ tag. tagged_at (levels - 1) (term_at (levels - 1)) tag.0 tag.1)
unfolding term_at
term_at_below zero bytes h = absurd (omega arith)
term_at_below (suc levels) bytes h = let e : suc levels - 1 ≡ levels = omega arith in rw e refl

pub term_at_zero : (levels : ℕ) (bytes : List ℕ) → levels ≡ 0 → term_at levels bytes ≡ (byte_at bytes >>= λ tag. Err (TooDeep (length bytes)))
unfolding term_at
term_at_zero levels bytes e = rw e refl

onto-push : (front : List Tree) (t : Tree) (ts : Trees) → onto front (tree t ts) ≡ onto (front ++ t ∷ []) ts
onto-push [] t ts = refl
onto-push (f ∷ front) t ts = ap (tree f) (onto-push front t ts)

pub onto-none : (front : List Tree) → onto front no_trees ≡ trees_of front
onto-none [] = refl
onto-none (f ∷ front) = ap (tree f) (onto-none front)

regroup : (front : List Tree) (t : Tree) (read : Result (Trees × List ℕ) Fault) → with_front front (read >>= λ x. Ok (tree t x.0, x.1)) ≡ with_front (front ++ t ∷ []) read
regroup front t (Ok x) = ap (λ (ts : Trees). Ok (ts, x.1)) (onto-push front t x.0)
regroup front t (Err f) = refl

pub goes_on : (one : List ℕ → Result (Tree × List ℕ) Fault) (front : List Tree) (count i : ℕ) (bytes : List ℕ) (t : Tree) (after : List ℕ) (total : Result (Trees × List ℕ) Fault) → i < count → one bytes ≡ Ok (t, after)
    → with_front front (items_at one (count - i) bytes) ≡ total → with_front (front ++ t ∷ []) (items_at one (count - (i + 1)) after) ≡ total
unfolding items_at
goes_on one front count i bytes t after total lt h so_far =
    let k : count - i ≡ suc (count - (i + 1)) = omega arith in
    let here : with_front front (items_at one (count - i) bytes) ≡ with_front (front ++ t ∷ []) (items_at one (count - (i + 1)) after) = rw (k, h) (regroup front t (items_at one (count - (i + 1)) after)) in
    sym here ∙ so_far

pub ends : (one : List ℕ → Result (Tree × List ℕ) Fault) (e : ReadErr) (front : List Tree) (count i : ℕ) (bytes : List ℕ) (total : Result (Trees × List ℕ) Fault) → i < count → Fails e (one bytes)
    → with_front front (items_at one (count - i) bytes) ≡ total → Fails e total
unfolding items_at
ends one errors.Memory front count i bytes total lt h so_far = tt
ends one (errors.Fault f) front count i bytes total lt h so_far =
    let k : count - i ≡ suc (count - (i + 1)) = omega arith in
    let here : with_front front (items_at one (count - i) bytes) ≡ Err f = rw (k, h) refl in
    sym so_far ∙ here

pub is_done : (one : List ℕ → Result (Tree × List ℕ) Fault) (front : List Tree) (count i : ℕ) (bytes : List ℕ) (total : Result (Trees × List ℕ) Fault) → count ≤ i
    → with_front front (items_at one (count - i) bytes) ≡ total → total ≡ Ok (trees_of front, bytes)
unfolding items_at
is_done one front count i bytes total le so_far =
    let k : count - i ≡ 0 = omega arith in
    let here : with_front front (items_at one (count - i) bytes) ≡ Ok (trees_of front, bytes) = rw k (ap (λ (ts : Trees). Ok (ts, bytes)) (onto-none front)) in
    sym so_far ∙ here

-- one more term, as the vector shows it
pub one_more : (ts us : List Term) (t : Term) → us ≡ ts ++ t ∷ [] → map tree_of us ≡ map tree_of ts ++ tree_of t ∷ []
one_more ts us t e = ap (map tree_of) e ∙ map-append tree_of ts (t ∷ [])

-- ---- numbers of a byte each

numbers-drop : (bytes : List ℕ) (i : ℕ) → i < length bytes → numbers (drop i bytes) ≡ tree (int (pos (get_or bytes i 0))) (numbers (drop (i + 1) bytes))
numbers-drop bytes i lt = ap numbers (drop_more bytes i 0 lt)

pub numbers_go_on : (front : List Tree) (bytes : List ℕ) (i : ℕ) (total : Trees) → i < length bytes → onto front (numbers (drop i bytes)) ≡ total
    → onto (front ++ int (pos (get_or bytes i 0)) ∷ []) (numbers (drop (i + 1) bytes)) ≡ total
numbers_go_on front bytes i total lt so_far =
    sym (onto-push front (int (pos (get_or bytes i 0))) (numbers (drop (i + 1) bytes))) ∙ ap (onto front) (sym (numbers-drop bytes i lt)) ∙ so_far

pub numbers_done : (front : List Tree) (bytes : List ℕ) (i : ℕ) (total : Trees) → length bytes ≤ i → onto front (numbers (drop i bytes)) ≡ total → trees_of front ≡ total
numbers_done front bytes i total le so_far =
    sym (onto-none front) ∙ ap (λ (rest : List ℕ). onto front (numbers rest)) (sym (drop_all i bytes le)) ∙ so_far

tree_of-Int : (n : ℤ) → tree_of (Int n) ≡ int n
tree_of-Int n = ap tree_of (sym (rolls-Int n)) ∙ fold-roll-Term Tree tree_step (Term-F.Int n)

-- one more number, as the vector shows it
pub numbers_more : (ts us : List Term) (bytes : List ℕ) (i : ℕ) (n : ℤ) (total : Trees) → us ≡ ts ++ Int n ∷ [] → n ≡ pos (get_or bytes i 0) → i < length bytes
    → onto (map tree_of ts) (numbers (drop i bytes)) ≡ total → onto (map tree_of us) (numbers (drop (i + 1) bytes)) ≡ total
numbers_more ts us bytes i n total pushed is lt so_far =
    let last : map tree_of us ≡ map tree_of ts ++ int (pos (get_or bytes i 0)) ∷ [] = one_more ts us (Int n) pushed ∙ ap (λ (t : Tree). map tree_of ts ++ t ∷ []) (tree_of-Int n ∙ ap int is) in
    ap (λ (front : List Tree). onto front (numbers (drop (i + 1) bytes))) last ∙ numbers_go_on (map tree_of ts) bytes i total lt so_far
