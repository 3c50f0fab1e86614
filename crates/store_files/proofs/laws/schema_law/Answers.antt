use Rattle.std.proofs.Common.{inl}
use Rattle.store_files.specs.Schema.{schema_form}
use Rattle.store_files.proofs.Definitions.{schema_told}
use Rattle.store_files.proofs.FormItems.{gives_written}
use Rattle.store_files.proofs.OneFile.{one_bad}
use Rattle.store_files.proofs.SchemaRead.{one_schema, schema_not_wrong}
use Rattle.store_files.proofs.laws.schema_law.Goals as goal

pub returns-clause-one : goal.returns-clause-one
returns-clause-one c = one_schema

pub returns-clause-apart : goal.returns-clause-apart
returns-clause-apart c = schema_not_wrong

pub returns-clause-place : goal.returns-clause-place
returns-clause-place c = one_bad schema_form schema_told

pub returns-clause-written : goal.returns-clause-written
returns-clause-written c schema closed items fit are = inl (gives_written schema_form closed items schema.version schema.tables fit tt are)
