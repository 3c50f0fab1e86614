use Rattle.log_dumper.proofs.Loading.{table_loaded, start_loadable, table_loadable, log_synced_loadable, rotated_loadable, dropped_loadable, appended_loadable}
use Rattle.log_dumper.proofs.loads.loads_law.Goals as goal

pub returns-clause-loads : goal.returns-clause-loads
returns-clause-loads c first stored image table o loadable valid r stands = table_loaded first stored image o r loadable table valid stands

pub returns-clause-start : goal.returns-clause-start
returns-clause-start c = start_loadable

pub returns-clause-appended : goal.returns-clause-appended
returns-clause-appended c first stored commit o lawful h = appended_loadable first stored o commit lawful h

pub returns-clause-table : goal.returns-clause-table
returns-clause-table c = table_loadable

pub returns-clause-synced : goal.returns-clause-synced
returns-clause-synced c = log_synced_loadable

pub returns-clause-rotated : goal.returns-clause-rotated
returns-clause-rotated c = rotated_loadable

pub returns-clause-schema : goal.returns-clause-schema
returns-clause-schema c first stored front h = h

pub returns-clause-dropped : goal.returns-clause-dropped
returns-clause-dropped c = dropped_loadable
