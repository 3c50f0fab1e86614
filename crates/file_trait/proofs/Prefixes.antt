-- The images of the old model are images.
use Rattle.std.proofs.Common.{◌≡◌, ◌⊎◌, inl, inr, ℕ, ◌≤◌, Bool, true, false, if◌then◌else◌, List, ◌++◌, length, take, drop, Option, Some, refl, sym, ap, ◌∙◌, subst, arith, append_assoc}
use Rattle.std.proofs.lemmas.List.{take-append-drop}
use Rattle.file_trait.specs.DiskModel.{Past, handed, did, FileOp, append, mark, cut, to_file, to_dir, sync, sync_failed, sync_dir, FileId, named, changed, content, PartDone, FileLeaves, Redone, IsHonest, IsImage}
use Rattle.file_trait.specs.PrefixModel.{PrefixDone, PrefixLeaves, IsPrefixImage}
use Rattle.file_trait.specs.Guard.{StandsAt}
use Rattle.file_trait.proofs.Files.{content_self}
use Rattle.file_trait.proofs.Images.{file_reads, redone_now, stood_now, honest_now, honest_later}

-- ---- the bytes

part_wider : (op : FileOp) (old new : List ℕ) → PrefixDone op old new → PartDone op old new
part_wider (append bytes) old new (k, le, is) = (take k bytes, is)
part_wider (mark four) old new is = is
part_wider (cut len) old new is = is

leaves_wider : (past : Past) (i : FileId) (bytes : List ℕ) → PrefixLeaves past i bytes → FileLeaves past i bytes
leaves_wider (handed files) i bytes is = is
leaves_wider (did (to_file name op) past) i bytes (inl before) = inl (leaves_wider past i bytes before)
leaves_wider (did (to_file name op) past) i bytes (inr (is, part)) = inr (is, (content past i, file_reads past i, part_wider op (content past i) bytes part))
leaves_wider (did (to_dir op) past) i bytes left = leaves_wider past i bytes left
leaves_wider (did (sync name) past) i bytes (left, only) = (leaves_wider past i bytes left, λ is. subst (λ b. Redone past i b) (sym (only is)) (redone_now past i))
leaves_wider (did (sync_failed name) past) i bytes left = leaves_wider past i bytes left
leaves_wider (did sync_dir past) i bytes left = leaves_wider past i bytes left

-- ---- that they are honest

-- what stands in a front stands in the whole
pub stands_longer : (front more : List ℕ) (n : ℕ) (part : List ℕ) → StandsAt front n part → StandsAt (front ++ more) n part
stands_longer front more n part (before, after, long, is) =
    (before, after ++ more, long, ap (λ b. b ++ more) is ∙ append_assoc before (part ++ after) more ∙ ap (λ b. before ++ b) (append_assoc part after more))

part_honest : (past : Past) (name : List ℕ) (op : FileOp) (i : FileId) (bytes : List ℕ) → named past name ≡ Some i → PrefixDone op (content past i) bytes → IsHonest (did (to_file name op) past) i bytes
part_honest past name (append more) i bytes is (k, le, front) n item low guarded at =
    let rest : bytes ++ drop k more ≡ content (did (to_file name (append more)) past) i =
    ap (λ b. b ++ drop k more) front ∙ append_assoc (content past i) (take k more) (drop k more) ∙ ap (λ b. content past i ++ b) (take-append-drop k more)
    ∙ sym (content_self past name (append more) i is) in
    inl (subst (λ b. StandsAt b n item) rest (stands_longer bytes (drop k more) n item at))
part_honest past name (mark four) i bytes is now n item low guarded at = inl (subst (λ b. StandsAt b n item) (now ∙ sym (content_self past name (mark four) i is)) at)
part_honest past name (cut len) i bytes is now n item low guarded at = inl (subst (λ b. StandsAt b n item) (now ∙ sym (content_self past name (cut len) i is)) at)

honest : (past : Past) (i : FileId) (bytes : List ℕ) → PrefixLeaves past i bytes → IsHonest past i bytes
honest (handed files) i bytes is = subst (IsHonest (handed files) i) (sym is) (honest_now (handed files) i)
honest (did (to_file name op) past) i bytes (inl before) = honest_later past (to_file name op) i bytes (honest past i bytes before)
honest (did (to_file name op) past) i bytes (inr (is, part)) = part_honest past name op i bytes is part
honest (did (to_dir op) past) i bytes left = honest_later past (to_dir op) i bytes (honest past i bytes left)
honest (did (sync name) past) i bytes left = honest_later past (sync name) i bytes (honest past i bytes left.0)
honest (did (sync_failed name) past) i bytes left = honest_later past (sync_failed name) i bytes (honest past i bytes left)
honest (did sync_dir past) i bytes left = honest_later past sync_dir i bytes (honest past i bytes left)

pub prefix_image : (past : Past) (image : List ℕ → Option (List ℕ)) → IsPrefixImage past image → IsImage past image
prefix_image past image w = record {
  names = w.names;
  bytes = w.bytes;
  directory = w.directory;
  each = λ i. leaves_wider past i (w.bytes i) (w.each i);
  honest = λ i. honest past i (w.bytes i) (w.each i);
  is = w.is;
}
