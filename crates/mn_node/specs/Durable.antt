-- The durable state, and what entries make of it.
use Rattle.std.specs.Prelude.{List, [], ◌∷◌}
use Rattle.db_model.specs.Commits.{CommitRecord}
use Rattle.db_model.specs.Database.{Database, do_commit}
use Rattle.db_model.specs.Histories.{no_database, all_taken}

-- what is done to the durable state
pub data Entry : Type 0 where
  commit : (c : CommitRecord) → Entry

pub record Durable : Type 0 where
  pub database : Database

abbrev pub after_one : Durable → Entry → Durable
after_one w (commit c) = record { database = do_commit c w.database }

-- the first entry is done first
abbrev pub after : Durable → List Entry → Durable
after w [] = w
after w (entry ∷ entries) = after (after_one w entry) entries

-- what a start makes of it: the same
abbrev pub boot : Durable → Durable
boot w = w

-- before the first commit there are no tables
abbrev pub beginning : Durable
beginning = record { database = no_database }

-- what the commits of a log make, as a start takes them
abbrev pub made : List CommitRecord → Durable
made commits = record { database = all_taken commits no_database }
