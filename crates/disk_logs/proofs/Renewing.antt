-- A log that was left open is written anew, at each moment.
use Rattle.std.proofs.Common.{◌≡◌, ◌⊎◌, inl, inr, ℕ, not, Bool, true, false, List, [], ◌∷◌, ◌++◌, length, Some, option_map, refl, sym, ap, ◌∙◌, subst}
use Rattle.std.proofs.lemmas.List.{append-nil}
use Rattle.file_trait.specs.DiskModel.{Past, did, DiskOp, to_file, to_dir, create, rename, remove, sync, sync_failed, sync_dir, Spares, content, reads, IsSettled}
use Rattle.file_trait.specs.Calls.{Has}
use Rattle.file_trait.specs.Moments.{Moments}
use Rattle.file_trait.specs.Touched.{Concerns, AllConcern, Touches}
use Rattle.file_trait.proofs.Frames.{settled_other}
use Rattle.file_trait.proofs.Moments.{then_done, weaker, at_end}
use Rattle.file_trait.proofs.Touched.{concerns_spares, kept, then_touched}
use Rattle.log_items.specs.Items.{log_bytes, AreContents, IsFile, HasItems}
use Rattle.log_items.proofs.Unique.{written}
use Rattle.disk_logs.specs.Crash.{Stands, DraftStands, IsSound, OldOrWhole, OldOrItems}
use Rattle.disk_logs.specs.Logs.{Handle, draft_name, FileRead, IsRead, IsKept, IsMoved}
use Rattle.disk_logs.proofs.Appends.{draft_apart}
use Rattle.disk_logs.proofs.Drafts.{others_read}
use Rattle.disk_logs.proofs.Publishing.{OldUnder, old_now, old_kept}
use Rattle.disk_logs.proofs.Sound.{spared_sound, sound_stands}

-- ---- a draft as it reads

pub draft_reads : (past : Past) (draft whole : List ℕ) → DraftStands past draft whole → reads past draft ≡ Some whole
draft_reads past draft whole d = ap (option_map (content past)) d.is ∙ ap (λ b. Some b) d.bytes

-- ---- what was read

-- a file that says closed is its items and nothing else
pub read_closed : (read : FileRead) → read.was_open ≡ false → IsRead read → read.bytes ≡ log_bytes true read.items
read_closed read is file = go (not read.was_open) (ap not is) file
  where
    go : (closed : Bool) → closed ≡ true → IsFile closed read.items read.bytes → read.bytes ≡ log_bytes true read.items
    go true same f = f.is ∙ ap (λ rest. log_bytes true read.items ++ rest) f.end ∙ append-nil (log_bytes true read.items)
    go false same f = cc same

pub read_has : (read : FileRead) → IsRead read → HasItems read.bytes read.items
read_has read file = (not read.was_open, file)

-- and it stands where it is sound
pub read_stands : (past : Past) (name : List ℕ) (read : FileRead) → read.was_open ≡ false → IsRead read → reads past name ≡ Some read.bytes → IsSettled past name → IsSound past name
    → Stands past (record { name = name; draft = false; closed = true }) read.items (length read.items)
read_stands past name read is file here settled sound = record {
  published = refl;
  stands = sound_stands past name read.items sound settled file.fit (here ∙ ap (λ b. Some b) (read_closed read is file));
  sure = λ open_now. cc open_now;
}

-- ---- what is touched

all_more : (N M : List ℕ → Type 0) → ((n : List ℕ) → N n → M n) → (ops : List DiskOp) → AllConcern N ops → AllConcern M ops
all_more N M more [] all = tt
all_more N M more (op ∷ ops) all = (one op all.0, all_more N M more ops all.1)
  where
    one : (op : DiskOp) → Concerns N op → Concerns M op
    one (to_file name op) h = more name h
    one (to_dir (create name)) h = more name h
    one (to_dir (rename from to)) h = (more from h.0, more to h.1)
    one (to_dir (remove name)) h = more name h
    one (sync name) h = tt
    one (sync_failed name) h = more name h
    one sync_dir h = tt

pub touches_more : (N M : List ℕ → Type 0) (old new : Past) → ((n : List ℕ) → N n → M n) → Touches N old new → Touches M old new
touches_more N M old new more t = record { ops = t.ops; grown = t.grown; all = all_more N M more t.ops t.all }

-- ---- while only the draft is touched

module _ (old mid : Past) (name : List ℕ) (drafting : Touches (λ n. n ≡ draft_name name) old mid) where
  -- what is done to others keeps it
  keeps : (P : Past → Type 0) → ((op : DiskOp) (past : Past) → Spares op name → P past → P (did op past)) → P old → Moments P old mid
  keeps P step =
      kept (λ n. n ≡ draft_name name) P old mid (λ op past concerns. step op past (concerns_spares (λ n. n ≡ draft_name name) op name (λ is. draft_apart name (sym is)) concerns)) drafting

  pub drafting_reads : reads mid name ≡ reads old name
  drafting_reads = others_read (λ n. n ≡ draft_name name) old mid drafting name (λ is. draft_apart name (sym is))

  pub drafting_has : (read : FileRead) → IsRead read → reads old name ≡ Some read.bytes → Has mid name (λ left. HasItems left read.items)
  drafting_has read file here = (read.bytes, drafting_reads ∙ here, read_has read file)

  pub drafting_touches : Touches (λ n. (n ≡ name) ⊎ (n ≡ draft_name name)) old mid
  drafting_touches = touches_more (λ n. n ≡ draft_name name) (λ n. (n ≡ name) ⊎ (n ≡ draft_name name)) old mid (λ n is. inr is) drafting

  pub drafting_sound : IsSound old name → Moments (λ past. IsSound past name) old mid
  drafting_sound = keeps (λ past. IsSound past name) (λ op past. spared_sound past op name)

  drafting_old : IsSettled old name → Moments (λ past. IsSettled past name × OldUnder old name past) old mid
  drafting_old settled =
      keeps (λ past. IsSettled past name × OldUnder old name past) (λ op past spares h. (settled_other past op name spares h.0, old_kept old past op name h.0 spares h.1)) (settled, old_now old name)

  pub drafting_moments : (items : List (List ℕ)) → IsSettled old name → Moments (OldOrItems old name items) old mid
  drafting_moments items settled = weaker (λ past. IsSettled past name × OldUnder old name past) (OldOrItems old name items) old mid (λ past h image w. inl (h.1 image w)) (drafting_old settled)

  -- and then the draft is published
  module _ (new : Past) (log : Handle) (is : log ≡ record { name = name; draft = true; closed = true }) where
    pub renewing_wanted : Touches (λ n. ⊥) mid new → Touches (λ n. n ≡ draft_name name) old new
    renewing_wanted h = then_touched (λ n. n ≡ draft_name name) old mid new drafting (touches_more (λ n. ⊥) (λ n. n ≡ draft_name name) mid new (λ n never. absurd never) h)

    pub renewing_moments : (items : List (List ℕ)) → AreContents items → IsSettled old name → Moments (OldOrWhole mid log.name (log_bytes true items)) mid new → Moments (OldOrItems old name items) old new
    renewing_moments items fit settled h =
        let stays : IsSettled mid name × OldUnder old name mid = at_end (λ past. IsSettled past name × OldUnder old name past) old mid (drafting_old settled) in
        then_done (OldOrItems old name items) old mid new (drafting_moments items settled)
        (weaker (OldOrWhole mid name (log_bytes true items)) (OldOrItems old name items) mid new (λ past g image w. elim (g image w) [
          | inl (earlier, was, same) ↦ let first = stays.1 earlier was in inl (first.0, first.1, same ∙ first.2)
          | inr now ↦ inr (log_bytes true items, now, (true, written true items fit))
        ]) (subst (λ (l : Handle). Moments (OldOrWhole mid l.name (log_bytes true items)) mid new) is h))

    pub renewing_sound : IsSound old name → (IsSound mid log.name → Moments (λ past. IsSound past log.name) mid new) → Moments (λ past. IsSound past name) old new
    renewing_sound sound after =
        let first : Moments (λ past. IsSound past name) old mid = drafting_sound sound in
        then_done (λ past. IsSound past name) old mid new first
        (subst (λ (l : Handle). IsSound mid l.name → Moments (λ past. IsSound past l.name) mid new) is after (at_end (λ past. IsSound past name) old mid first))

    module _ (items : List (List ℕ)) (made : DraftStands mid (draft_name name) (log_bytes true items)) where
      pub renewing_draft : DraftStands mid (draft_name log.name) (log_bytes log.closed items)
      renewing_draft = subst (λ (l : Handle). DraftStands mid (draft_name l.name) (log_bytes l.closed items)) (sym is) made

      pub renewing_whole : DraftStands mid (draft_name log.name) (log_bytes true items)
      renewing_whole = subst (λ (l : Handle). DraftStands mid (draft_name l.name) (log_bytes true items)) (sym is) made

      pub renewing_reads : IsMoved (draft_name log.name) log.name mid new → reads new name ≡ Some (log_bytes true items)
      renewing_reads moved = (subst (λ (l : Handle). IsMoved (draft_name l.name) l.name mid new) is moved).0 ∙ draft_reads mid (draft_name name) (log_bytes true items) made

    pub renewing_has : (read : FileRead) → IsRead read → reads old name ≡ Some read.bytes → DraftStands mid (draft_name name) (log_bytes true read.items)
        → IsKept (draft_name log.name) log.name mid new ⊎ IsMoved (draft_name log.name) log.name mid new → Has new name (λ left. HasItems left read.items)
    renewing_has read file here made (inl kept) = (read.bytes, (subst (λ (l : Handle). IsKept (draft_name l.name) l.name mid new) is kept).1 ∙ drafting_reads ∙ here, read_has read file)
    renewing_has read file here made (inr moved) = (log_bytes true read.items, renewing_reads read.items made moved, (true, written true read.items file.fit))
