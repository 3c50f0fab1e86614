-- How a draft is made.
use Rattle.std.proofs.Common.{◌≡◌, inl, inr, ℕ, ◌≤◌, true, List, [], ◌++◌, length, take, Option, Some, Result, Ok, Err, OnOk, OnErr, refl, sym, ap, ◌∙◌, subst, arith}
use Rattle.std.proofs.Math.Seq.{take-length}
use Rattle.file_trait.specs.declared.disk.DiskErr.{DiskErr}
use Rattle.file_trait.specs.declared.disk.DiskErr.TheVariants.{Failed, Memory}
use Rattle.file_trait.specs.DiskModel.{Past, did, to_file, to_dir, append, create, reads}
use Rattle.file_trait.specs.Calls.{IsAbsent, Done, Appended}
use Rattle.file_trait.specs.Touched.{Touches}
use Rattle.file_trait.proofs.Files.{created, file_changed, reads_other}
use Rattle.file_trait.proofs.Touched.{concerns_spares, kept, then_touched, done_touches, append_touches}
use Rattle.file_trait.proofs.Moments.{at_end}
use Rattle.log_items.specs.Items.{head_bytes, wire, log_bytes}
use Rattle.disk_logs.specs.declared.error.LogErr.{LogErr}
use Rattle.disk_logs.specs.Crash.{DraftStands}
use Rattle.disk_logs.specs.Errors.{told}
use Rattle.disk_logs.specs.Logs.{HasPart}
use Rattle.disk_logs.proofs.Effects.{done_ok, appended_ok}
use Rattle.disk_logs.proofs.Publishing.{draft_made, draft_grows}

-- the file that is made is empty
made_empty : (file : List ℕ) (r : Result Unit DiskErr) (t : Result Unit LogErr) (x : Unit {0}) (old new : Past) → t ≡ told file r → t ≡ Ok x → Done (to_dir (create file)) r old new → DraftStands new file []
made_empty file r t x old new told_so is done = subst (λ p. DraftStands p file []) (sym (done_ok (to_dir (create file)) file r t x old new told_so is done)) (draft_made old file)

-- and has the bytes once they are appended
pub made_whole : (file bytes : List ℕ) (r1 : Result Unit DiskErr) (t1 : Result Unit LogErr) (x1 : Unit {0}) (r2 : Result Unit DiskErr) (old mid new : Past) → t1 ≡ told file r1 → t1 ≡ Ok x1
    → Done (to_dir (create file)) r1 old mid → Appended file bytes r2 mid new → OnOk (told file r2) (DraftStands new file bytes)
made_whole file bytes r1 t1 x1 (Ok x) old mid new told1 is1 made is = subst (λ p. DraftStands p file bytes) (sym is) (draft_grows mid file [] bytes (made_empty file r1 t1 x1 old mid told1 is1 made))
made_whole file bytes r1 t1 x1 (Err Failed) old mid new told1 is1 made done = tt
made_whole file bytes r1 t1 x1 (Err Memory) old mid new told1 is1 made done = tt

-- a draft to which more was appended
grown : (at draft front bytes : List ℕ) (r : Result Unit DiskErr) (t : Result Unit LogErr) (x : Unit {0}) (mid new : Past) → at ≡ draft → DraftStands mid at front → t ≡ told at r → t ≡ Ok x
    → Appended at bytes r mid new → DraftStands new draft (front ++ bytes)
grown at draft front bytes r t x mid new same d told_so is done =
    subst (λ n. DraftStands new n (front ++ bytes)) same (subst (λ p. DraftStands p at (front ++ bytes)) (sym (appended_ok at bytes at r t x mid new told_so is done)) (draft_grows mid at front bytes d))

-- a head, and then items
pub redrafted : (at draft front bytes : List ℕ) (items : List (List ℕ)) (r : Result Unit DiskErr) (t : Result Unit LogErr) (x : Unit {0}) (mid new : Past) → at ≡ draft → front ≡ head_bytes true → bytes ≡ wire items
    → DraftStands mid at front → t ≡ told at r → t ≡ Ok x → Appended at bytes r mid new → DraftStands new draft (log_bytes true items)
redrafted at draft front bytes items r t x mid new same head_is wire_is d told_so is done =
    subst (DraftStands new draft) (ap (λ b. b ++ bytes) head_is ∙ ap (λ b. head_bytes true ++ b) wire_is) (grown at draft front bytes r t x mid new same d told_so is done)

-- ---- where it was not finished

pub create_left : (whole file : List ℕ) (before : Option (List ℕ)) (r : Result Unit DiskErr) (old new : Past) → IsAbsent old file → Done (to_dir (create file)) r old new → HasPart whole before (reads new file)
create_left whole file before r old new gone done = go r done
  where
    made : new ≡ did (to_dir (create file)) old → HasPart whole before (reads new file)
    made is = inr (inr (0, omega arith, ap (λ p. reads p file) is ∙ created old file))

    as_before : new ≡ old → HasPart whole before (reads new file)
    as_before is = inr (inl (ap (λ p. reads p file) is ∙ gone))

    go : (r : Result Unit DiskErr) → Done (to_dir (create file)) r old new → HasPart whole before (reads new file)
    go (Ok x) is = made is
    go (Err Failed) (inl is) = as_before is
    go (Err Failed) (inr is) = made is
    go (Err Memory) is = as_before is

append_left : (bytes file : List ℕ) (before : Option (List ℕ)) (r : Result Unit DiskErr) (old new : Past) → reads old file ≡ Some [] → Appended file bytes r old new → HasPart bytes before (reads new file)
append_left bytes file before r old new made done = go r done
  where
    front : (k : ℕ) → k ≤ length bytes → new ≡ did (to_file file (append (take k bytes))) old → HasPart bytes before (reads new file)
    front k le is = inr (inr (k, le, ap (λ p. reads p file) is ∙ file_changed old file (append (take k bytes)) [] made))

    nothing : new ≡ old → HasPart bytes before (reads new file)
    nothing is = inr (inr (0, omega arith, ap (λ p. reads p file) is ∙ made))

    go : (r : Result Unit DiskErr) → Appended file bytes r old new → HasPart bytes before (reads new file)
    go (Ok x) is = front (length bytes) (omega arith) (is ∙ ap (λ b. did (to_file file (append b)) old) (sym (take-length bytes)))
    go (Err Failed) (inl is) = nothing is
    go (Err Failed) (inr (k, le, is)) = front k le is
    go (Err Memory) is = nothing is

pub whole_left : (bytes file : List ℕ) (before : Option (List ℕ)) (r1 : Result Unit DiskErr) (t1 : Result Unit LogErr) (x1 : Unit {0}) (r2 : Result Unit DiskErr) (old mid new : Past)
    → t1 ≡ told file r1 → t1 ≡ Ok x1 → Done (to_dir (create file)) r1 old mid → Appended file bytes r2 mid new → OnErr (told file r2) (HasPart bytes before (reads new file))
whole_left bytes file before r1 t1 x1 (Ok x) old mid new told1 is1 made done = tt
whole_left bytes file before r1 t1 x1 (Err Failed) old mid new told1 is1 made done =
    append_left bytes file before (Err Failed) mid new (ap (λ p. reads p file) (done_ok (to_dir (create file)) file r1 t1 x1 old mid told1 is1 made) ∙ created old file) done
whole_left bytes file before r1 t1 x1 (Err Memory) old mid new told1 is1 made done =
    append_left bytes file before (Err Memory) mid new (ap (λ p. reads p file) (done_ok (to_dir (create file)) file r1 t1 x1 old mid told1 is1 made) ∙ created old file) done

-- ---- only the draft's name is touched

pub renamed_touches : (file name : List ℕ) (old new : Past) → file ≡ name → Touches (λ n. n ≡ file) old new → Touches (λ n. n ≡ name) old new
renamed_touches file name old new same h = subst (λ f. Touches (λ n. n ≡ f) old new) same h

pub create_touches : (file : List ℕ) (r : Result Unit DiskErr) (old mid new : Past) → Touches (λ n. n ≡ file) old mid → Done (to_dir (create file)) r mid new → Touches (λ n. n ≡ file) old new
create_touches file r old mid new h done = then_touched (λ n. n ≡ file) old mid new h (done_touches (λ n. n ≡ file) (to_dir (create file)) r mid new done refl)

pub make_touches : (file bytes : List ℕ) (r1 r2 : Result Unit DiskErr) (old mid made new : Past) → Touches (λ n. n ≡ file) old mid → Done (to_dir (create file)) r1 mid made → Appended file bytes r2 made new
    → Touches (λ n. n ≡ file) old new
make_touches file bytes r1 r2 old mid made new h done put = then_touched (λ n. n ≡ file) old made new (create_touches file r1 old mid made h done) (append_touches (λ n. n ≡ file) file bytes r2 made new put refl)

-- another name reads as before
pub others_read : (N : List ℕ → Type 0) (old new : Past) → Touches N old new → (other : List ℕ) → (N other → ⊥) → reads new other ≡ reads old other
others_read N old new touches other apart =
    at_end (λ past. reads past other ≡ reads old other) old new
    (kept N (λ past. reads past other ≡ reads old other) old new (λ op past concerns is. reads_other past op other (concerns_spares N op other apart concerns) ∙ is) touches refl)
