-- Every directory stands for one durable state, or has no meaning from one place on.
use Rattle.std.proofs.Common.{◌≡◌, ◌⊎◌, ℕ, List, [], ◌∷◌, ◌++◌, refl, sym, ap, ◌∙◌, inl, inr}
use Rattle.db_model.specs.Commits.{CommitRecord}
use Rattle.db_model.specs.Histories.{no_database}
use Rattle.db_model.specs.Taken.{CanTake, taken}
use Rattle.db_model.proofs.Histories.{take_both, take_first, take_others, taken_behind}
use Rattle.db_model.proofs.Telling.{can_told}
use Rattle.txn_log.proofs.CommitLists.{AllowsFirst, TellsNext}
use Rattle.txn_log.proofs.CallerLemmas.{one_list_of_commits, reads_not_wrong, one_wrong_place, log_or_wrong}
use Rattle.mn_node.specs.Durable.{Durable, made}
use Rattle.mn_node.specs.Meaning.{Files, latest, AreTaken, Stands, IsBroken}

-- ---- what a start takes

-- the first ones of commits that are taken are taken
pub first_taken : AllowsFirst AreTaken
first_taken commits more can = take_first commits more no_database can

-- one more is taken where it can be taken there
pub taken_more : (commits : List CommitRecord) (commit : CommitRecord) → AreTaken commits
    → CanTake commit (made commits).database → AreTaken (commits ++ commit ∷ [])
taken_more commits commit were can = take_both commits (commit ∷ []) no_database were (can, tt)

pub last_taken : (commits : List CommitRecord) (commit : CommitRecord) → AreTaken (commits ++ commit ∷ [])
    → CanTake commit (made commits).database
last_taken commits commit can = (take_others commits (commit ∷ []) no_database can).0

pub made_more : (commits : List CommitRecord) (commit : CommitRecord)
    → (made (commits ++ commit ∷ [])).database ≡ taken commit (made commits).database
made_more commits commit = taken_behind commits (commit ∷ []) no_database

-- whether one more can be taken can be told
next_taken : TellsNext AreTaken
next_taken commits commit were logged = elim (can_told commit (made commits).database logged.formed) [
  | inl can ↦ inl (taken_more commits commit were can)
  | inr cannot ↦ inr (λ all. cannot (last_taken commits commit all))
]

-- ---- a directory

pub stands_or_not : (files : Files) → ((w : Durable) × Stands files w) ⊎ ((name : List ℕ) × (at : ℕ) × IsBroken files name at)
stands_or_not files = elim (log_or_wrong AreTaken next_taken tt (files latest)) [
  | inl log ↦ inl (made log.0, (log.0, log.1, log.2, refl))
  | inr wrong ↦ inr (latest, wrong.0, (refl, wrong.1))
]

pub never_both : (files : Files) (w : Durable) (name : List ℕ) (at : ℕ) → Stands files w → IsBroken files name at → ⊥
never_both files w name at stands broken = reads_not_wrong AreTaken first_taken (files latest) stands.0 at stands.1 stands.2 broken.1

pub one_state : (files : Files) (w other : Durable) → Stands files w → Stands files other → w ≡ other
one_state files w other stands also = stands.3 ∙ ap made (one_list_of_commits (files latest) stands.0 also.0 stands.1 also.1) ∙ sym also.3

pub one_place : (files : Files) (name other : List ℕ) (at place : ℕ) → IsBroken files name at → IsBroken files other place
    → (name ≡ other) × (at ≡ place)
one_place files name other at place broken also =
    (broken.0 ∙ sym also.0, one_wrong_place AreTaken first_taken (files latest) at place broken.1 also.1)
