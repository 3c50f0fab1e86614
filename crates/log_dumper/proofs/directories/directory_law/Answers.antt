use Rattle.log_dumper.proofs.Parts.{directory_leaves, directory_reads, directory_sound, logs_moments, logs_directory, logs_trusted, drops_moments}
use Rattle.log_dumper.proofs.Parts.{table_moments, table_directory, table_trusted, schema_moments, schema_directory, schema_trusted, drafts, nothing}
use Rattle.log_dumper.proofs.directories.directory_law.Goals as goal

pub returns-clause-leaves : goal.returns-clause-leaves
returns-clause-leaves c = directory_leaves

pub returns-clause-reads : goal.returns-clause-reads
returns-clause-reads c = directory_reads

pub returns-clause-sound : goal.returns-clause-sound
returns-clause-sound c = directory_sound

pub returns-clause-logs : goal.returns-clause-logs
returns-clause-logs c logs old new s d touches h = logs_moments old new s d touches logs h

pub returns-clause-logs_stand : goal.returns-clause-logs_stand
returns-clause-logs_stand c logs old new s d touches h = logs_directory old new s d touches logs h

pub returns-clause-logs_sound : goal.returns-clause-logs_sound
returns-clause-logs_sound c = logs_trusted

pub returns-clause-drops : goal.returns-clause-drops
returns-clause-drops c one two old new s d touches h = drops_moments old new s d touches one two h

pub returns-clause-table : goal.returns-clause-table
returns-clause-table c table some old new s valid d touches h = table_moments table valid old new s d touches some h

pub returns-clause-table_stands : goal.returns-clause-table_stands
returns-clause-table_stands c table files old new s valid d touches h = table_directory table valid old new s d touches files h

pub returns-clause-table_sound : goal.returns-clause-table_sound
returns-clause-table_sound c table old new s valid d touches h = table_trusted table valid old new s d touches h

pub returns-clause-schema : goal.returns-clause-schema
returns-clause-schema c one two old new s d touches h = schema_moments old new s d touches one two h

pub returns-clause-schema_stands : goal.returns-clause-schema_stands
returns-clause-schema_stands c schema old new s d touches h = schema_directory old new s d touches schema h

pub returns-clause-schema_sound : goal.returns-clause-schema_sound
returns-clause-schema_sound c = schema_trusted

pub returns-clause-drafts : goal.returns-clause-drafts
returns-clause-drafts c = drafts

pub returns-clause-nothing : goal.returns-clause-nothing
returns-clause-nothing c = nothing
