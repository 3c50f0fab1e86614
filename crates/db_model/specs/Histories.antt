-- Lists of commits, the first of which comes first: how a start takes them, and how they were done.
use Rattle.std.specs.Prelude.{◌≡◌, List, [], ◌∷◌, ⊤}
use Rattle.db_model.specs.Commits.{CommitRecord}
use Rattle.db_model.specs.Database.{Database, do_commit}
use Rattle.db_model.specs.Lawful.{IsLawful}
use Rattle.db_model.specs.Taken.{CanTake, taken}

-- there are no tables yet
abbrev pub no_database : Database
no_database = record { version = 0; tables = [] }

-- the database behind the commits, as a start takes them
abbrev pub all_taken : List CommitRecord → Database → Database
all_taken [] database = database
all_taken (commit ∷ commits) database = all_taken commits (taken commit database)

-- a start can take each of them where it has come to
abbrev pub CanTakeAll : List CommitRecord → Database → Type 0
CanTakeAll [] database = ⊤
CanTakeAll (commit ∷ commits) database = CanTake commit database × CanTakeAll commits (taken commit database)

-- the database behind the commits, as they were done
abbrev pub all_done : List CommitRecord → Database → Database
all_done [] database = database
all_done (commit ∷ commits) database = all_done commits (do_commit commit database)

-- each of them was lawful when it was done
abbrev pub AreLawful : List CommitRecord → Database → Type 0
AreLawful [] database = ⊤
AreLawful (commit ∷ commits) database = IsLawful commit database × AreLawful commits (do_commit commit database)
