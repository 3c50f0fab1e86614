use Rattle.std.proofs.Common.{◌≡◌, sym, subst}
use Rattle.term_core.specs.View.{tree_of}
use Rattle.store_files.specs.Tables.{is_before}
use Rattle.store_files.proofs.RecordOrder.{lower_key, tied_key, higher_key}
use Rattle.store_files.proofs.order.is_before.Goals as goal

pub returns-in-Less : goal.returns-in-Less
returns-in-Less c =
    let keys = c.in-Some-Some in
    lower_key c.args.kind (tree_of c.args.row.now) (tree_of c.args.other.now) (tree_of keys.key.now) (tree_of keys.next.now)
    keys.ensures keys.ensures' (sym c.in-Less.ensures)

pub returns-in-Greater : goal.returns-in-Greater
returns-in-Greater c =
    let keys = c.in-Some-Some in
    higher_key c.args.kind (tree_of c.args.row.now) (tree_of c.args.other.now) (tree_of keys.key.now) (tree_of keys.next.now)
    keys.ensures keys.ensures' (sym c.in-Greater.ensures)

pub returns-in-Bag : goal.returns-in-Bag
returns-in-Bag c =
    let keys = c.in-Some-Some in
    let row = tree_of c.args.row.now in
    let other = tree_of c.args.other.now in
    subst (λ kind. c.lt.result ≡ is_before kind row other) (sym c.in-Bag.is)
    (tied_key row other (tree_of keys.key.now) (tree_of keys.next.now) c.lt.result keys.ensures keys.ensures' (sym c.in-Equal.ensures)
    c.lt.ensures)
