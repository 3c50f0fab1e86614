use Rattle.std.proofs.Common.{refl, inl}
use Rattle.store_files.specs.Tables.{dcd_form, dcl_form}
use Rattle.store_files.proofs.FormItems.{gives_written}
use Rattle.store_files.proofs.OneTable.{one_contents, table_not_wrong, one_wrong_place}
use Rattle.store_files.proofs.laws.table_law.Goals as goal

pub returns-clause-one : goal.returns-clause-one
returns-clause-one c = one_contents

pub returns-clause-apart : goal.returns-clause-apart
returns-clause-apart c = table_not_wrong

pub returns-clause-place : goal.returns-clause-place
returns-clause-place c = one_wrong_place

pub returns-clause-records_written : goal.returns-clause-records_written
returns-clause-records_written c table rows closed items fit are =
    inl (gives_written (dcd_form table) closed items table.cookie rows fit refl are)

pub returns-clause-ops_written : goal.returns-clause-ops_written
returns-clause-ops_written c table ops closed items fit are =
    inl (gives_written (dcl_form table) closed items table.cookie ops fit refl are)
