use Rattle.log_dumper.proofs.Sayings.{table_says, logs_say, schema_says, op_says}
use Rattle.log_dumper.proofs.images.says_law.Goals as goal

pub returns-clause-table : goal.returns-clause-table
returns-clause-table c = table_says

pub returns-clause-logs : goal.returns-clause-logs
returns-clause-logs c = logs_say

pub returns-clause-schema : goal.returns-clause-schema
returns-clause-schema c = schema_says

pub returns-clause-op : goal.returns-clause-op
returns-clause-op c = op_says
