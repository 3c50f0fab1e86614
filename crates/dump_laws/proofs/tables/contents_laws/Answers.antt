use Rattle.dump_laws.proofs.Contents.{has-put_op, ordered-put_op, same_contents, lists_again}
use Rattle.dump_laws.proofs.tables.contents_laws.Goals as goal

pub returns-clause-one_op : goal.returns-clause-one_op
returns-clause-one_op c = has-put_op

pub returns-clause-ordered : goal.returns-clause-ordered
returns-clause-ordered c = ordered-put_op

pub returns-clause-same : goal.returns-clause-same
returns-clause-same c = same_contents

pub returns-clause-again : goal.returns-clause-again
returns-clause-again c = lists_again
