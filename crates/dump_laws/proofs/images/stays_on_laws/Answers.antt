use Rattle.dump_laws.proofs.Acts.{on-append, on_files, on_schema, on_rotated, on_dropped}
use Rattle.dump_laws.proofs.Stricts.{first_young}
use Rattle.dump_laws.proofs.Whole.{on_start, in_turn_appended, in_turn_dropped}
use Rattle.dump_laws.proofs.images.stays_on_laws.Goals as goal

pub returns-clause-start : goal.returns-clause-start
returns-clause-start c = on_start

pub returns-clause-appended : goal.returns-clause-appended
returns-clause-appended c = on-append

pub returns-clause-files : goal.returns-clause-files
returns-clause-files c = on_files

pub returns-clause-schema : goal.returns-clause-schema
returns-clause-schema c = on_schema

pub returns-clause-rotated : goal.returns-clause-rotated
returns-clause-rotated c = on_rotated

pub returns-clause-previous : goal.returns-clause-previous
returns-clause-previous c = on_dropped

pub returns-clause-in_turn_appended : goal.returns-clause-in_turn_appended
returns-clause-in_turn_appended c = in_turn_appended

pub returns-clause-in_turn_previous : goal.returns-clause-in_turn_previous
returns-clause-in_turn_previous c = in_turn_dropped

pub returns-clause-previous_young : goal.returns-clause-previous_young
returns-clause-previous_young c = first_young
