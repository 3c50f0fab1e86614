-- What stays as it is at each moment while only other names are touched.
use Rattle.std.proofs.Common.{◌≡◌, ◌≢◌, ◌⊎◌, inl, inr, ℕ, Bool, List, sym, ◌∙◌}
use Rattle.file_trait.specs.DiskModel.{Past, did, DiskOp, Spares}
use Rattle.file_trait.specs.Moments.{Moments}
use Rattle.file_trait.specs.Touched.{Touches}
use Rattle.file_trait.proofs.Frames.{named_other, content_spared}
use Rattle.file_trait.proofs.Touched.{concerns_spares, kept}
use Rattle.disk_logs.specs.Crash.{LogStands, DraftStands, IsSound}
use Rattle.disk_logs.proofs.Sound.{spared_sound}
use Rattle.disk_logs.proofs.Standing.{spared_stands, sure_spared, grew_same}

-- what stays where one thing done spares the name stays at each moment
pub spared_kept : (N : List ℕ → Type 0) (P : Past → Type 0) (old new : Past) (name : List ℕ)
    → ((past : Past) (op : DiskOp) → Spares op name → P past → P (did op past)) → (N name → ⊥)
    → Touches N old new → P old → Moments P old new
spared_kept N P old new name keeps not = kept N P old new (λ op past concerns h. keeps past op (concerns_spares N op name not concerns) h)

pub one_other : (other name : List ℕ) (closed : Bool) (items : List (List ℕ)) (synced : ℕ) (old new : Past) → other ≢ name
    → Touches (λ n. n ≡ other) old new
    → LogStands old name closed items synced → Moments (λ past. LogStands past name closed items synced) old new
one_other other name closed items synced old new apart =
    spared_kept (λ n. n ≡ other) (λ past. LogStands past name closed items synced) old new name
    (λ past op spares h. spared_stands past op name closed items synced spares h) (λ is. apart (sym is))

pub two_others : (one other name : List ℕ) (closed : Bool) (items : List (List ℕ)) (synced : ℕ) (old new : Past) → one ≢ name
    → other ≢ name → Touches (λ n. (n ≡ one) ⊎ (n ≡ other)) old new
    → LogStands old name closed items synced → Moments (λ past. LogStands past name closed items synced) old new
two_others one other name closed items synced old new first second =
    spared_kept (λ n. (n ≡ one) ⊎ (n ≡ other)) (λ past. LogStands past name closed items synced) old new name
    (λ past op spares h. spared_stands past op name closed items synced spares h)
    (λ is. elim is [ inl a ↦ first (sym a) | inr b ↦ second (sym b) ])

spared_draft : (past : Past) (draft whole : List ℕ) (op : DiskOp) → Spares op draft → DraftStands past draft whole
    → DraftStands (did op past) draft whole
spared_draft past draft whole op spares d = record {
  file = d.file;
  is = named_other past op draft spares ∙ d.is;
  bytes = content_spared past op draft d.file spares d.is ∙ d.bytes;
  sure = sure_spared past op draft d.file spares d.is d.sure;
  grew = grew_same past op d.file (content_spared past op draft d.file spares d.is) d.grew;
}

pub draft_other : (other draft whole : List ℕ) (old new : Past) → other ≢ draft → Touches (λ n. n ≡ other) old new
    → DraftStands old draft whole → Moments (λ past. DraftStands past draft whole) old new
draft_other other draft whole old new apart =
    spared_kept (λ n. n ≡ other) (λ past. DraftStands past draft whole) old new draft
    (λ past op spares d. spared_draft past draft whole op spares d) (λ is. apart (sym is))

pub sound_other : (other name : List ℕ) (old new : Past) → other ≢ name → Touches (λ n. n ≡ other) old new → IsSound old name
    → Moments (λ past. IsSound past name) old new
sound_other other name old new apart =
    spared_kept (λ n. n ≡ other) (λ past. IsSound past name) old new name (λ past op spares h. spared_sound past op name spares h)
    (λ is. apart (sym is))
