-- The first item of a log.
use Rattle.std.proofs.Common.{◌≡◌, ◌≤◌, ℕ, List, [], ◌∷◌, length, Some, Result, Ok, Err, refl, sym, ap, subst, lit<, lit≤, arith, codes, rules}
use Rattle.std.specs.Prelude.{slice_get, IfOk, IsTrue, Bool, false, ◌↔◌, take}
use Rattle.std.specs.Str.{IsAscii}
use Rattle.std.proofs.lemmas.List.Elements.{All-cons, All-nil}
use Rattle.std.proofs.lemmas.Str.{IsUtf8-from_ascii, chars-IsAscii}
use Rattle.term_core.specs.Tree.{Tree, atom}
use Rattle.term_core.specs.Kept.{IsKept}
use Rattle.term_wire.specs.Spelling.{IsText}
use Rattle.term_wire.specs.Decoding.{Refuses}
use Rattle.term_wire.specs.declared.error.WireErr.{WireErr}
use Rattle.term_wire.specs.declared.error.WireErr.TheVariants.{Bad, Outside, WideInt, TooDeep, Memory}
use Rattle.term_wire.proofs.Again.{one_tree}
use Rattle.term_wire.proofs.Law.{written_text}
use Rattle.log_items.specs.Items.{IsContent, AreContents}
use Rattle.txn_log.specs.Commits.{IsHead, AreItemsOf, log_head, head_text}
use Rattle.txn_log.specs.Logs.{LacksHead}

-- what is read as a tree is the head where that is its tree
pub head_result : {E : Type 0} (content : List ℕ) (t : Tree) (r : Result Bool E) → IsText content t → IfOk r (λ same. IsTrue same ↔ (t ≡ log_head)) → IfOk r (λ is. IsTrue is ↔ IsHead content)
head_result content t (Ok is) found h = (λ yes. subst (IsText content) (h.0 yes) found, λ head. h.1 (one_tree content t log_head found head))
head_result content t (Err e) found h = tt

never_refused : (e : WireErr) (t : Tree) → (e ≡ Memory → ⊥) → Refuses e (Ok t) → ⊥
never_refused (Bad place) t h r = absurd (cc)
never_refused (Outside tag place) t h r = absurd (cc)
never_refused (WideInt place) t h r = absurd (cc)
never_refused (TooDeep place) t h r = absurd (cc)
never_refused Memory t h r = h refl

-- what is refused for another reason than memory is no head
pub refused_head : {E : Type 0} (content : List ℕ) (e : WireErr) (r : Result Bool E) → ((t : Tree) → IsText content t → Refuses e (Ok t))
    → IfOk r (λ is. (is ≡ false) × (e ≡ Memory → ⊥)) → IfOk r (λ is. IsTrue is ↔ IsHead content)
refused_head content e (Ok is) only h = (λ yes. let not : is ≡ false = h.0 in absurd (cc), λ head. absurd (never_refused e log_head h.1 (only log_head head)))
refused_head content e (Err f) only h = tt

-- the first of some items
pub head_first : {E : Type 0} (items : List (List ℕ)) (first : List ℕ) (r : Result Bool E) → slice_get items 0 ≡ Some first → IfOk r (λ is. IsTrue is ↔ IsHead first)
    → IfOk r (λ has. (IsTrue has → AreItemsOf [] (take 1 items)) × (has ≡ false → LacksHead items))
head_first items first (Err e) is h = tt
head_first [] first (Ok has) is h = absurd (cc)
head_first (x ∷ items) first (Ok has) is h =
    let same : x ≡ first = cc in
    (λ yes. (subst IsHead (sym same) (h.0 yes), tt), λ other y others e head. let again : y ≡ first = cc in let yes = h.1 (subst IsHead again head) in cc (yes, other))

pub no_first : (items : List (List ℕ)) → length items ≡ 0 → LacksHead items
no_first items none first others is head = absurd (omega (arith, none, ap length is))

-- ---- the text that is written

-- an atom of ASCII has as many characters as bytes
pub ascii_kept : (text : List ℕ) → IsAscii text → length text ≤ 255 → IsKept (atom text)
ascii_kept text ascii short = (IsUtf8-from_ascii text ascii, omega (arith, ap length (chars-IsAscii text ascii), short))

pub text_of_head : IsHead head_text
text_of_head = written_text log_head (ascii_kept (codes "log1") (search rules) (lit≤ tt), tt) (lit≤ tt) (lit≤ tt)

pub head_fits : AreContents (head_text ∷ [])
head_fits = All-cons IsContent head_text [] (lit< tt) (All-nil IsContent)
