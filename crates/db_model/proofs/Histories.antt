-- Lists of commits in parts, and that lawful ones are taken as they were done.
use Rattle.std.proofs.Common.{◌≡◌, List, [], ◌∷◌, ◌++◌, refl, sym, ap, ◌∙◌, subst}
use Rattle.db_model.specs.Commits.{CommitRecord}
use Rattle.db_model.specs.Database.{Database, do_commit}
use Rattle.db_model.specs.Histories.{all_taken, CanTakeAll, all_done, AreLawful}
use Rattle.db_model.specs.Lawful.{IsSound}
use Rattle.db_model.specs.Taken.{taken}
use Rattle.db_model.proofs.Commitments.{stays_sound, lawful_taken}

pub take_both : (some more : List CommitRecord) (database : Database) → CanTakeAll some database
    → CanTakeAll more (all_taken some database) → CanTakeAll (some ++ more) database
take_both [] more database x y = y
take_both (commit ∷ some) more database x y = (x.0, take_both some more (taken commit database) x.1 y)

pub take_first : (some more : List CommitRecord) (database : Database) → CanTakeAll (some ++ more) database
    → CanTakeAll some database
take_first [] more database x = tt
take_first (commit ∷ some) more database x = (x.0, take_first some more (taken commit database) x.1)

pub take_others : (some more : List CommitRecord) (database : Database) → CanTakeAll (some ++ more) database
    → CanTakeAll more (all_taken some database)
take_others [] more database x = x
take_others (commit ∷ some) more database x = take_others some more (taken commit database) x.1

pub taken_behind : (some more : List CommitRecord) (database : Database)
    → all_taken (some ++ more) database ≡ all_taken more (all_taken some database)
taken_behind [] more database = refl
taken_behind (commit ∷ some) more database = taken_behind some more (taken commit database)

pub lawful_first : (some more : List CommitRecord) (database : Database) → AreLawful (some ++ more) database
    → AreLawful some database
lawful_first [] more database x = tt
lawful_first (commit ∷ some) more database x = (x.0, lawful_first some more (do_commit commit database) x.1)

pub all_can : (commits : List CommitRecord) (database : Database) → IsSound database → AreLawful commits database
    → CanTakeAll commits database
all_can [] database sound lawful = tt
all_can (commit ∷ commits) database sound lawful =
    let one = lawful_taken commit database sound lawful.0 in (
      one.0,
      subst (CanTakeAll commits) one.1
          (all_can commits (do_commit commit database) (stays_sound commit database sound lawful.0) lawful.1),
    )

pub all_same : (commits : List CommitRecord) (database : Database) → IsSound database → AreLawful commits database
    → all_taken commits database ≡ all_done commits database
all_same [] database sound lawful = refl
all_same (commit ∷ commits) database sound lawful =
    let one = lawful_taken commit database sound lawful.0 in
    ap (all_taken commits) (sym one.1)
    ∙ all_same commits (do_commit commit database) (stays_sound commit database sound lawful.0) lawful.1

pub all_sound : (commits : List CommitRecord) (database : Database) → IsSound database → AreLawful commits database
    → IsSound (all_done commits database)
all_sound [] database sound lawful = sound
all_sound (commit ∷ commits) database sound lawful =
    all_sound commits (do_commit commit database) (stays_sound commit database sound lawful.0) lawful.1
