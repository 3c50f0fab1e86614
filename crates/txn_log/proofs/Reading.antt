-- The log's file is read.
use Rattle.std.proofs.Common.{◌≡◌, ℕ, not, List, Option, Some, Result, Ok, Err, refl, subst, inl, inr}
use Rattle.std.specs.Prelude.{slice_get, IfOk, IfSome, MatchOption}
use Rattle.disk_logs.specs.Logs.{FileRead, IsRead, HasRead}
use Rattle.disk_logs.specs.declared.error.LogErr.{LogErr}
use Rattle.disk_logs.specs.declared.error.LogErr.TheVariants.{File, Bad, TooLong, Memory}
use Rattle.txn_log.specs.Logs.{LacksHead, IsNoLog, HasFoundAt}

-- what could not be read as items is no log
pub not_read : (own : List ℕ) (error : LogErr) (file : Option (List ℕ)) → HasRead (Err error) file
    → ((name : List ℕ) (at : ℕ) → error ≡ Bad name at → name ≡ own) → HasFoundAt own (Err error) file
not_read own (File name) file h named = tt
not_read own (Bad name at) file (bytes, there, bad) named = (named name at refl, (bytes, there, inl bad))
not_read own TooLong file h named = h
not_read own Memory file h named = tt

-- nor is one whose first item is not a log's
pub lacks_head : (found : Option FileRead) (read : FileRead) (file : Option (List ℕ)) → found ≡ Some read
    → IfSome found IsRead → HasRead (Ok found) file → LacksHead read.items → IsNoLog 8 file
lacks_head found read file is whole there lacks =
    let is_read : IsRead read = subst (λ f. IfSome f IsRead) is whole in
    (read.bytes, subst (λ f. HasRead (Ok f) file) is there, inr (read.items, (not read.was_open, is_read), lacks, refl))

-- an item's content was decoded
pub decoded : {T E : Type 0} (items : List (List ℕ)) (n : ℕ) (content : List ℕ) (None : List ℕ → Type 0)
    (Is : List ℕ → T → Type 0) (result : Result (Option T) E)
    → slice_get items n ≡ Some content
    → IfOk result (λ found. MatchOption found (None content) (Is content))
    → IfOk result (λ found. (x : List ℕ) × (slice_get items n ≡ Some x) × MatchOption found (None x) (Is x))
decoded items n content None Is (Ok found) at h = (content, at, h)
decoded items n content None Is (Err error) at h = tt
