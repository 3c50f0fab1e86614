use Rattle.dump_laws.proofs.Contents.{allowed_keyed}
use Rattle.dump_laws.proofs.Logs.{log_meaning, log_made, log_seen, lawful_next, done_seen}
use Rattle.dump_laws.proofs.Meaning.{meaning_seen}
use Rattle.dump_laws.proofs.Sorted.{same_database, directory_sorted, alike}
use Rattle.dump_laws.proofs.lists.lists_laws.Goals as goal

pub returns-clause-meaning : goal.returns-clause-meaning
returns-clause-meaning c = meaning_seen

pub returns-clause-same : goal.returns-clause-same
returns-clause-same c = same_database

pub returns-clause-sorted : goal.returns-clause-sorted
returns-clause-sorted c = directory_sorted

pub returns-clause-alike : goal.returns-clause-alike
returns-clause-alike c = alike

pub returns-clause-keyed : goal.returns-clause-keyed
returns-clause-keyed c = allowed_keyed

pub returns-clause-log_meaning : goal.returns-clause-log_meaning
returns-clause-log_meaning c = log_meaning

pub returns-clause-log_made : goal.returns-clause-log_made
returns-clause-log_made c = log_made

pub returns-clause-log_seen : goal.returns-clause-log_seen
returns-clause-log_seen c = log_seen

pub returns-clause-next : goal.returns-clause-next
returns-clause-next c = lawful_next

pub returns-clause-done : goal.returns-clause-done
returns-clause-done c = done_seen
