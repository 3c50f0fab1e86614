-- Definitions, what options say, ops and commits seen as plain data.
use Rattle.std.specs.Prelude.{[], map}
use Rattle.term_core.specs.View.{tree_of}
use Rattle.db_model.specs.Commits.{SchemaOperation, create, drop_table, add_index, del_index, remake, CommitRecord}
use Rattle.db_model.specs.Definitions.{Definition}
use Rattle.db_model.specs.Options.{TableSetting, kind_is, record_name_is, attributes_are, indexed_are}
use Rattle.db_model.specs.Ops.{Operation, write, delete, delete_object, clear}
use Rattle.db_model.specs.declared.commit.Commit.{Commit}
use Rattle.db_model.specs.declared.commit.SchemaOp.{SchemaOp}
use Rattle.db_model.specs.declared.commit.SchemaOp.TheVariants.{Create, DropTable, AddIndex, DelIndex, Remake}
use Rattle.db_model.specs.declared.definition.TableDef.{TableDef}
use Rattle.db_model.specs.declared.op.Op.{Op}
use Rattle.db_model.specs.declared.op.Op.TheVariants.{Write, Delete, DeleteObject, Clear}
use Rattle.db_model.specs.declared.setting.Setting.{Setting}
use Rattle.db_model.specs.declared.setting.Setting.TheVariants.{Kind, RecordName, Attributes, NoIndex}

abbrev pub definition : TableDef → Definition
definition table = record { name = table.name; kind = table.kind; record_name = table.record_name; attributes = map tree_of table.attributes; index = table.index; cookie = table.cookie }

abbrev pub operation : Op → Operation
operation (Write table row) = write table (tree_of row)
operation (Delete table key) = delete table (tree_of key)
operation (DeleteObject table row) = delete_object table (tree_of row)
operation (Clear table) = clear table

abbrev pub schema_operation : SchemaOp → SchemaOperation
schema_operation (Create table) = create (definition table)
schema_operation (DropTable table) = drop_table table
schema_operation (AddIndex table position) = add_index table position
schema_operation (DelIndex table position) = del_index table position
schema_operation (Remake table) = remake (definition table)

abbrev pub commit_record : Commit → CommitRecord
commit_record commit = record { version = commit.version; schema_operations = map schema_operation commit.schema_ops; operations = map operation commit.ops }

abbrev pub setting : Setting → TableSetting
setting (Kind kind) = kind_is kind
setting (RecordName name) = record_name_is name
setting (Attributes attributes) = attributes_are (map tree_of attributes)
setting NoIndex = indexed_are []
