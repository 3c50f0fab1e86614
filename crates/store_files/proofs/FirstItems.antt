-- First items.
use Rattle.std.proofs.Common.{◌≡◌, ℕ, ◌<◌, ◌^◌, not, List, [], ◌∷◌, length, Option, Some, None, Result, Ok, Err, refl, subst, inl, inr, arith}
use Rattle.std.specs.Prelude.{slice_get, IfOk, IfSome, IsErrOf, MatchOption}
use Rattle.term_core.specs.Tree.{Tree}
use Rattle.term_wire.specs.Spelling.{IsText}
use Rattle.term_wire.proofs.Again.{one_tree}
use Rattle.disk_logs.specs.Errors.{LogCause}
use Rattle.disk_logs.specs.Logs.{FileRead, IsRead, HasRead}
use Rattle.disk_logs.specs.declared.error.LogErr.{LogErr}
use Rattle.disk_logs.specs.declared.error.LogErr.TheVariants.{File, Bad, TooLong, Memory}
use Rattle.store_files.specs.Forms.{head_tree, IsHead, BeginWith, LackHead}
use Rattle.store_files.specs.Inside.Found.{IsHeaded, IsHeadless, HasFound}
use Rattle.store_files.specs.declared.headed.Headed.{Headed}

-- ---- the number of a content

abbrev TellsHead : List ℕ → List ℕ → Option ℕ → Type 0
TellsHead word content found =
    MatchOption found ((number : ℕ) → IsHead word number content → ⊥) (λ number. IsHead word number content)

-- what is read of the term is said by the content
pub head_told : (content word : List ℕ) (t : Tree) (found : Option ℕ) → IsText content t
    → MatchOption found ((number : ℕ) → number < 2 ^ 64 → t ≡ head_tree word number → ⊥)
    (λ number. (number < 2 ^ 64) × (t ≡ head_tree word number))
    → TellsHead word content found
head_told content word t None text none = λ number head.
    none number head.0 (one_tree content t (head_tree word number) text head.1)
head_told content word t (Some number) text is = (is.0, subst (IsText content) is.1 text)

-- what is no text says no number
pub no_head : (content word : List ℕ) → ((t : Tree) → IsText content t → ⊥) → (number : ℕ) → IsHead word number content → ⊥
no_head content word none number head = none (head_tree word number) head.1

-- ---- the first of some items

pub head_first : {E : Type 0} (word first : List ℕ) (items : List (List ℕ)) (r : Result (Option ℕ) E) → slice_get items 0 ≡ Some first
    → IfOk r (TellsHead word first)
    → IfOk r (λ found. MatchOption found (LackHead word items) (λ number. BeginWith word number items))
head_first word first items (Err e) is h = tt
head_first word first [] (Ok found) is h = absurd (cc)
head_first word first (x ∷ items) (Ok None) is none =
    let same : x ≡ first = cc in
    λ number begin. none number (subst (IsHead word number) same begin)
head_first word first (x ∷ items) (Ok (Some number)) is head =
    let same : first ≡ x = cc in
    subst (IsHead word number) same head

pub no_first : (word : List ℕ) (items : List (List ℕ)) → length items ≡ 0 → LackHead word items
no_first word [] none number begin = begin
no_first word (x ∷ items) none number begin = absurd (omega (arith, none))

-- ---- a file

-- what could not be read as items
pub not_read : (word name : List ℕ) (error : LogErr) (file : Option (List ℕ)) → HasRead (Err error) file
    → ((other : List ℕ) (at : ℕ) → error ≡ Bad other at → other ≡ name) → HasFound word name (Err error) file
not_read word name (File other) file h named = tt
not_read word name (Bad other at) file (bytes, there, bad) named = (named other at refl, (bytes, there, inl bad))
not_read word name TooLong file h named = h
not_read word name Memory file h named = tt

-- what has another first item
pub headless : (word : List ℕ) (found : Option FileRead) (read : FileRead) (file : Option (List ℕ)) → found ≡ Some read
    → IfSome found IsRead → HasRead (Ok found) file → LackHead word read.items → IsHeadless word 8 file
headless word found read file is whole there lacks =
    let is_read : IsRead read = subst (λ f. IfSome f IsRead) is whole in
    (read.bytes, subst (λ f. HasRead (Ok f) file) is there, inr (read.items, (not read.was_open, is_read), lacks, refl))

err_is : {T : Type 0} (error other : LogErr) → error ≡ other → IsErrOf {T = T} (Err error) other
err_is error other is = λ i. Err (is i)

is_err : {T : Type 0} (error other : LogErr) → IsErrOf {T = T} (Err error) other → error ≡ other
is_err error other is = cc

-- the same cause, whatever the value would have been
pub same_cause : {T U : Type 0} (faults now : ℕ) (blamed : List (List ℕ)) (error : LogErr)
    → LogCause {T = T} faults now blamed (Err error) → LogCause {T = U} faults now blamed (Err error)
same_cause faults now blamed error h = record {
  later = h.later;
  failed = λ name is. h.failed name (err_is error (File name) (is_err error (File name) is));
  blames = λ name is. h.blames name (err_is error (File name) (is_err error (File name) is));
  uncounted = λ none. h.uncounted (λ name is. none name (err_is error (File name) (is_err error (File name) is)));
}

-- ---- what was found

pub found_bytes : (word name : List ℕ) (found : Option Headed) (headed : Headed) (file : Option (List ℕ)) → found ≡ Some headed
    → HasFound word name (Ok found) file → file ≡ Some headed.file.bytes
found_bytes word name found headed file is h = subst (λ f. HasFound word name (Ok f) file) is h

pub found_headed : (word : List ℕ) (found : Option Headed) (headed : Headed) → found ≡ Some headed
    → IfSome found (λ h. IsHeaded word h.number h.file) → IsHeaded word headed.number headed.file
found_headed word found headed is h = subst (λ f. IfSome f (λ x. IsHeaded word x.number x.file)) is h
