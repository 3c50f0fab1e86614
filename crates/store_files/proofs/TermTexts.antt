-- The terms of contents.
use Rattle.std.proofs.Common.{◌≡◌, ℕ, List, Option, Some, None, Result, Ok, Err, refl, subst}
use Rattle.std.specs.Prelude.{IfOk, MatchOption}
use Rattle.term_core.specs.Tree.{Tree}
use Rattle.term_core.specs.View.{tree_of}
use Rattle.term_core.specs.declared.term.Term.{Term}
use Rattle.term_wire.specs.Spelling.{IsText}
use Rattle.term_wire.proofs.Again.{one_tree}
use Rattle.term_wire.specs.Decoding.{Refuses}
use Rattle.term_wire.specs.declared.error.WireErr.{WireErr}
use Rattle.term_wire.specs.declared.error.WireErr.TheVariants.{Bad, Outside, WideInt, TooDeep, Memory}

never_refused : (e : WireErr) (t : Tree) → (e ≡ Memory → ⊥) → Refuses e (Ok t) → ⊥
never_refused (Bad place) t h r = absurd (cc)
never_refused (Outside tag place) t h r = absurd (cc)
never_refused (WideInt place) t h r = absurd (cc)
never_refused (TooDeep place) t h r = absurd (cc)
never_refused Memory t h r = h refl

-- what is refused for another reason than memory is no text
pub refused : {E : Type 0} (content : List ℕ) (e : WireErr) (r : Result (Option Term) E)
    → ((t : Tree) → IsText content t → Refuses e (Ok t)) → IfOk r (λ found. (found ≡ None) × (e ≡ Memory → ⊥))
    → IfOk r (λ found. MatchOption found ((t : Tree) → IsText content t → ⊥) (λ term. IsText content (tree_of term)))
refused content e (Ok None) only h = λ t text. never_refused e t h.1 (only t text)
refused content e (Ok (Some term)) only h = let none : Some term ≡ None = h.0 in absurd (cc)
refused content e (Err f) only h = tt

-- the content is a text of a tree that says this
abbrev pub IsTextOf : {X : Type 0} → (Tree → X → Type 0) → List ℕ → X → Type 0
IsTextOf Of content x = (t : Tree) × IsText content t × Of t x

-- what its tree says it says
pub text_told : {X V E : Type 0} (Of : Tree → X → Type 0) (view : V → X) (content : List ℕ) (t : Tree) (r : Result (Option V) E)
    → IsText content t → IfOk r (λ found. MatchOption found ((x : X) → Of t x → ⊥) (λ v. Of t (view v)))
    → IfOk r (λ found. MatchOption found ((x : X) → IsTextOf Of content x → ⊥) (λ v. IsTextOf Of content (view v)))
text_told Of view content t (Err e) text h = tt
text_told Of view content t (Ok None) text none = λ x is. none x (subst (λ u. Of u x) (one_tree content is.0 t is.1 text) is.2)
text_told Of view content t (Ok (Some v)) text h = (t, text, h)
