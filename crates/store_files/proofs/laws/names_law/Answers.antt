use Rattle.std.proofs.Common.{[], ◌∷◌, codes}
use Rattle.store_files.proofs.FileNames as names
use Rattle.store_files.proofs.laws.names_law.Goals as goal

pub returns-clause-records : goal.returns-clause-records
returns-clause-records c table other is = names.same_front table other (codes ".DCD") is

pub returns-clause-changes : goal.returns-clause-changes
returns-clause-changes c table other is = names.same_front table other (codes ".DCL") is

pub returns-clause-both : goal.returns-clause-both
returns-clause-both c = names.no_dcl

pub returns-clause-schema : goal.returns-clause-schema
returns-clause-schema c = names.no_schema

pub returns-clause-schema_changes : goal.returns-clause-schema_changes
returns-clause-schema_changes c = names.no_schema_dcl

pub returns-clause-records_logs : goal.returns-clause-records_logs
returns-clause-records_logs c = names.dcd_no_log

pub returns-clause-changes_logs : goal.returns-clause-changes_logs
returns-clause-changes_logs c = names.dcl_no_log

pub returns-clause-schema_logs : goal.returns-clause-schema_logs
returns-clause-schema_logs c = names.schema_no_log

pub returns-clause-records_drafts : goal.returns-clause-records_drafts
returns-clause-records_drafts c = names.dcd_no_draft

pub returns-clause-changes_drafts : goal.returns-clause-changes_drafts
returns-clause-changes_drafts c = names.dcl_no_draft

pub returns-clause-schema_drafts : goal.returns-clause-schema_drafts
returns-clause-schema_drafts c = names.schema_no_draft

pub returns-clause-drafts : goal.returns-clause-drafts
returns-clause-drafts c file other is = names.same_front file other (84 ∷ 77 ∷ 80 ∷ []) is
