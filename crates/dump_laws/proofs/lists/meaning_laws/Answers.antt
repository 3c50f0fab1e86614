use Rattle.dump_laws.proofs.Alike.{files_meaning, rotated_meaning, previous_meaning, appended_meaning, front_meaning}
use Rattle.dump_laws.proofs.Behind.{schema_meaning, schema_behind, view_behind}
use Rattle.dump_laws.proofs.lists.meaning_laws.Goals as goal

pub returns-clause-files : goal.returns-clause-files
returns-clause-files c = files_meaning

pub returns-clause-rotated : goal.returns-clause-rotated
returns-clause-rotated c = rotated_meaning

pub returns-clause-schema : goal.returns-clause-schema
returns-clause-schema c = schema_meaning

pub returns-clause-schema_is : goal.returns-clause-schema_is
returns-clause-schema_is c = schema_behind

pub returns-clause-schema_view : goal.returns-clause-schema_view
returns-clause-schema_view c = view_behind

pub returns-clause-previous : goal.returns-clause-previous
returns-clause-previous c = previous_meaning

pub returns-clause-appended : goal.returns-clause-appended
returns-clause-appended c = appended_meaning

pub returns-clause-front : goal.returns-clause-front
returns-clause-front c = front_meaning
