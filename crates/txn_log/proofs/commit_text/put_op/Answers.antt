use Rattle.std.proofs.Common.{rules, codes, lit≤}
use Rattle.txn_log.proofs.CommitText.{on_item_kept, on_table_kept, delete_object_written}
use Rattle.txn_log.proofs.commit_text.put_op.Goals as goal

pub returns-in-Write-clause-kept : goal.returns-in-Write-clause-kept
returns-in-Write-clause-kept c =
    rw c.in-Write.is (on_item_kept c.put_op_on_item.result (codes "write") _ _ (search rules) (lit≤ tt) c.put_op_on_item.ensures.kept)

pub returns-in-Delete-clause-kept : goal.returns-in-Delete-clause-kept
returns-in-Delete-clause-kept c =
    let put = c.put_op_on_item-in-Delete in
    rw c.in-Delete.is (on_item_kept put.result (codes "delete") _ _ (search rules) (lit≤ tt) put.ensures.kept)

pub returns-in-DeleteObject-clause-ok : goal.returns-in-DeleteObject-clause-ok
returns-in-DeleteObject-clause-ok c =
    delete_object_written _ _ _ _ _ _ c.in-DeleteObject.is c.put_op_on_item-in-DeleteObject.ensures.ok

pub returns-in-DeleteObject-clause-kept : goal.returns-in-DeleteObject-clause-kept
returns-in-DeleteObject-clause-kept c =
    let put = c.put_op_on_item-in-DeleteObject in
    rw c.in-DeleteObject.is (on_item_kept put.result (codes "delete_object") _ _ (search rules) (lit≤ tt) put.ensures.kept)

pub returns-in-Clear-clause-kept : goal.returns-in-Clear-clause-kept
returns-in-Clear-clause-kept c =
    rw c.in-Clear.is (on_table_kept c.put_op_on_table.result (codes "clear") _ (search rules) (lit≤ tt) c.put_op_on_table.ensures.kept)
