-- A file is put in the place of another.
use Rattle.std.proofs.Common.{◌≡◌, ◌⊎◌, inl, inr, ℕ, true, List, [], ◌∷◌, ◌++◌, length, false, Option, Some, is_some, Result, Ok, Err, OnOk, sym, ap, ◌∙◌, subst}
use Rattle.file_trait.specs.Calls.{IsThere}
use Rattle.file_trait.specs.DiskModel.{Past, reads, Crashes}
use Rattle.file_trait.specs.Moments.{Moments}
use Rattle.file_trait.specs.Touched.{Touches}
use Rattle.file_trait.proofs.Moments.{then_done, weaker, at_end}
use Rattle.log_items.specs.Items.{log_bytes, AreContents}
use Rattle.disk_logs.specs.declared.error.LogErr.{LogErr}
use Rattle.disk_logs.specs.Crash.{LogStands, Stands, DraftStands, IsSound, OldOrWhole}
use Rattle.disk_logs.specs.Logs.{Handle, draft_name, file_of, IsLog}
use Rattle.disk_logs.specs.Rests.{FileHas, Rests}
use Rattle.disk_logs.proofs.Appends.{draft_apart}
use Rattle.disk_logs.proofs.Frames.{sound_other}
use Rattle.disk_logs.proofs.Renewing.{draft_reads}
use Rattle.disk_logs.proofs.Resting.{rests_leaves, rests_kept, rests_untouched, rests_replaced}

-- the old file, or the new one
abbrev EitherFile : List ℕ → Option (List (List ℕ)) → List (List ℕ) → (List ℕ → Option (List ℕ)) → Type 0
EitherFile name file items image = FileHas file (image name) ⊎ FileHas (Some items) (image name)

-- ---- the draft is written

pub made_log : (past : Past) (log : Handle) (name : List ℕ) (items : List (List ℕ))
    → log ≡ record { name = name; draft = true; closed = true } → reads past (draft_name name) ≡ Some (log_bytes true items)
    → IsLog past log
made_log past log name items is here = subst (IsLog past) (sym is) (items, here)

pub draft_there : (past : Past) (name whole : List ℕ) → DraftStands past name whole → IsThere past name
draft_there past name whole d = ap is_some (draft_reads past name whole d)

pub as_drafted : (past : Past) (log : Handle) (name : List ℕ) (items : List (List ℕ))
    → log ≡ record { name = name; draft = true; closed = true } → DraftStands past (draft_name name) (log_bytes true items)
    → DraftStands past (draft_name log.name) (log_bytes log.closed items)
as_drafted past log name items is d = subst (λ (l : Handle). DraftStands past (draft_name l.name) (log_bytes l.closed items)) (sym is) d

pub of_drafted : (past : Past) (log : Handle) (name : List ℕ) (items : List (List ℕ))
    → log ≡ record { name = name; draft = true; closed = true } → DraftStands past (draft_name log.name) (log_bytes log.closed items)
    → DraftStands past (draft_name name) (log_bytes true items)
of_drafted past log name items is d = subst (λ (l : Handle). DraftStands past (draft_name l.name) (log_bytes l.closed items)) is d

module _ (old mid : Past) (name : List ℕ) (touches : Touches (λ n. n ≡ draft_name name) old mid) where
  drafting_rests : (file : Option (List (List ℕ))) → Rests old name file → Moments (λ past. Rests past name file) old mid
  drafting_rests file = rests_kept (λ n. n ≡ draft_name name) name file old mid (λ is. draft_apart name (sym is)) touches

  pub drafted_rests : (file : Option (List (List ℕ))) → Rests old name file → Rests mid name file
  drafted_rests file rests = at_end (λ past. Rests past name file) old mid (drafting_rests file rests)

  pub drafting_either : (file : Option (List (List ℕ))) (items : List (List ℕ)) → Rests old name file
      → Moments (Crashes (EitherFile name file items)) old mid
  drafting_either file items rests =
      weaker (λ past. Rests past name file) (Crashes (EitherFile name file items)) old mid
      (λ past now image w. inl (rests_leaves past name file now image w)) (drafting_rests file rests)

  pub drafting_sound : IsSound old name → Moments (λ past. IsSound past name) old mid
  drafting_sound = sound_other (draft_name name) name old mid (draft_apart name) touches

  -- ---- and published

  module _ (new : Past) (log : Handle) (is : log ≡ record { name = name; draft = true; closed = true }) where
    pub replacing_either : (file : Option (List (List ℕ))) (items : List (List ℕ)) → AreContents items → Rests old name file
        → Moments (OldOrWhole mid log.name (log_bytes true items)) mid new → Moments (Crashes (EitherFile name file items)) old new
    replacing_either file items fit rests h =
        then_done (Crashes (EitherFile name file items)) old mid new (drafting_either file items rests)
        (rests_replaced name file items mid new fit (drafted_rests file rests)
        (subst (λ (l : Handle). Moments (OldOrWhole mid l.name (log_bytes true items)) mid new) is h))

    pub replacing_sound : IsSound old name → (IsSound mid log.name → Moments (λ past. IsSound past log.name) mid new)
        → Moments (λ past. IsSound past name) old new
    replacing_sound sound given =
        let first = drafting_sound sound in
        then_done (λ past. IsSound past name) old mid new first
        (subst (λ (l : Handle). Moments (λ past. IsSound past l.name) mid new) is
        (given (subst (λ (l : Handle). IsSound mid l.name) (sym is) (at_end (λ past. IsSound past name) old mid first))))

    pub replaced_rests : (now : Handle) (items : List (List ℕ)) → now ≡ record { name = log.name; draft = false; closed = log.closed }
        → Stands new now items (length items) → Rests new name (Some items)
    replaced_rests now items now_is stands =
        subst (λ (l : Handle). LogStands new l.name l.closed items (length items))
        (now_is ∙ ap (λ (l : Handle). record { name = l.name; draft = false; closed = l.closed }) is) stands.stands

    pub replacing_kept : (file : Option (List (List ℕ))) → Rests old name file → Touches (λ n. ⊥) mid new → Rests new name file
    replacing_kept file rests nothing = rests_untouched name file mid new nothing (drafted_rests file rests)

-- both hold at Ok
pub both_ok : {P Q R : Type 0} (r : Result Unit LogErr) → (P → Q → R) → OnOk r P → OnOk r Q → OnOk r R
both_ok (Ok x) f p q = f p q
both_ok (Err e) f p q = tt
