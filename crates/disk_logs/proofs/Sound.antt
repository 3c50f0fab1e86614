-- Files that read as closed logs.
use Rattle.std.proofs.Common.{◌≡◌, ℕ, Bool, true, false, List, [], ◌++◌, length, Option, None, Some, option_map, refl, sym, ap, ◌∙◌, subst}
use Rattle.std.proofs.Common.{arith}
use Rattle.file_trait.specs.DiskModel.{Past, handed, did, DiskOp, Spares, FileId, named, content, reads, FileLeaves, IsSettled}
use Rattle.log_items.specs.Items.{wire, log_bytes, AreContents}
use Rattle.disk_logs.specs.Crash.{KeepsSynced, OnlyGrew, LogStands, IsSound}
use Rattle.file_trait.proofs.Frames.{named_other, content_spared, leaves_spared}
use Rattle.disk_logs.proofs.Standing.{file_named, file_content, grew_same}
use Rattle.log_items.proofs.Unique.{same_closed}

-- a disk that was only handed over is sound
pub handed_sound : (files : List ℕ → Option (List ℕ)) (name : List ℕ) → IsSound (handed files) name
handed_sound files name i items is fit read = (λ n item low guarded stood. stood, λ left leaves. (true, leaves ∙ read))

-- an open file is, whatever stands behind its head
pub open_sound : (past : Past) (name rest : List ℕ) → reads past name ≡ Some (log_bytes false [] ++ rest) → IsSound past name
open_sound past name rest read i items is fit closed =
    let both : Some (log_bytes false [] ++ rest) ≡ Some (log_bytes true items) =
    sym read ∙ ap (option_map (content past)) is ∙ ap (λ b. Some b) closed in
    absurd (cc both)

-- and one that is not there
pub absent_sound : (past : Past) (name : List ℕ) → reads past name ≡ None → IsSound past name
absent_sound past name none i items is fit closed =
    let both : None ≡ Some (content past i) = sym none ∙ ap (option_map (content past)) is in absurd (cc both)

-- a log that stands is sound
pub stands_sound : (past : Past) (name : List ℕ) (closed : Bool) (items : List (List ℕ)) (synced : ℕ)
    → LogStands past name closed items synced → IsSound past name
stands_sound past name false items synced h i others is fit closed = open_sound past name (wire items) h.read i others is fit closed
stands_sound past name true items synced h i others is fit closed =
    let at : Some h.file ≡ Some i = sym (file_named past name true items synced h) ∙ is in
    let here : h.file ≡ i = cc at in
    let same : items ≡ others = same_closed items others h.fit fit
    (sym (file_content past name true items synced h) ∙ ap (content past) here ∙ closed) in (
      subst (OnlyGrew past) here h.grew,
      λ left leaves. subst (λ xs. KeepsSynced true xs (length xs) left) same
          (h.each left (subst (λ j. FileLeaves past j left) (sym here) leaves)),
    )

-- a sound closed log stands, where the directory is durable
pub sound_stands : (past : Past) (name : List ℕ) (items : List (List ℕ)) → IsSound past name → IsSettled past name → AreContents items
    → reads past name ≡ Some (log_bytes true items)
    → LogStands past name true items (length items)
sound_stands past name items sound settled fit read = go (named past name) refl
  where
    stands : (i : FileId) → named past name ≡ Some i → content past i ≡ log_bytes true items → LogStands past name true items (length items)
    stands i is closed = let s = sound i items is fit closed in record {
      fit = fit;
      read = read;
      within = omega arith;
      file = i;
      settled = λ names left. settled names left ∙ is;
      grew = s.0;
      each = s.1;
    }

    go : (o : Option FileId) → named past name ≡ o → LogStands past name true items (length items)
    go None is = let none : None ≡ Some (log_bytes true items) = sym (ap (option_map (content past)) is) ∙ read in absurd (cc none)
    go (Some i) is =
        let both : Some (content past i) ≡ Some (log_bytes true items) = sym (ap (option_map (content past)) is) ∙ read in
        let same : content past i ≡ log_bytes true items = cc both in stands i is same

-- what is done to others keeps it
pub spared_sound : (past : Past) (op : DiskOp) (name : List ℕ) → Spares op name → IsSound past name → IsSound (did op past) name
spared_sound past op name spares sound i items is fit closed =
    let was : named past name ≡ Some i = sym (named_other past op name spares) ∙ is in
    let same : content (did op past) i ≡ content past i = content_spared past op name i spares was in
    let s = sound i items was fit (sym same ∙ closed) in
    (grew_same past op i same s.0, λ left leaves. s.1 left (leaves_spared past op name i left spares was leaves))
