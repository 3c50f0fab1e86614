use Rattle.std.proofs.Common.{◌≡◌, ◌++◌, ◌∷◌, [], length, sym, ◌∙◌, subst, arith}
use Rattle.txn_core.specs.Pending.{begun}
use Rattle.txn_core.specs.Shown.{AreShown}
use Rattle.txn_core.proofs.Answered.{there_shown, begin_exists, begin_full, begin_done}
use Rattle.txn_core.proofs.Begun.{stands_last}
use Rattle.txn_core.proofs.Fitting.{le_true, le_false}
use Rattle.txn_core.proofs.Shown.{begun_shown, as_many}
use Rattle.txn_core.proofs.txns.Txns.begin.Goals as goal

pub returns-then-contains_key : goal.returns-then-contains_key
returns-then-contains_key c = λ tables pending h.
    let name = c.args.name.now in
    let there = there_shown name c.args.self.now.pending.entries pending h ∙ sym c.contains_key.ensures ∙ c.if-contains_key.true in
    (pending, begin_exists name tables pending there, h)

pub returns-then-len-ge-MOST_PENDING : goal.returns-then-len-ge-MOST_PENDING
returns-then-len-ge-MOST_PENDING c = λ tables pending h.
    let name = c.args.name.now in
    let there = there_shown name c.args.self.now.pending.entries pending h ∙ sym c.contains_key.ensures ∙ c.if-contains_key.false in
    let many = as_many c.args.self.now.pending.entries pending h in
    let len = c.len.ensures.len in
    let test = c.if-len-ge-MOST_PENDING.true in
    (pending, begin_full name tables pending there (le_true 64 (length pending) (grind (arith, many, len, test))), h)

pub returns : goal.returns
returns c = λ tables pending h.
    let name = c.args.name.now in
    let entries = c.args.self.now.pending.entries in
    let absent = sym c.contains_key.ensures ∙ c.if-contains_key.false in
    let there = there_shown name entries pending h ∙ absent in
    let many = as_many entries pending h in
    let len = c.len.ensures.len in
    let test = c.if-len-ge-MOST_PENDING.false in
    let few = le_false 64 (length pending) (grind (arith, many, len, test)) in
    let same = c.in_ok-try_clone.ensures.same in
    let last : c.insert.new.self.entries ≡ entries ++ (name, c.new.result) ∷ [] =
    (rw same at c.in_ok-insert.ensures.entries) ∙ stands_last entries name c.new.result absent in (
      begun name pending,
      begin_done name tables pending there few,
      subst (λ es. AreShown es (begun name pending)) (sym last) (begun_shown name c.new.result entries pending c.new.ensures h),
    )
