use Rattle.std.proofs.Common.{◌≡◌, Some, ◌∙◌, subst}
use Rattle.std.specs.Option.{option_map, option_copied}
use Rattle.term_core.specs.View.{tree_of}
use Rattle.ram_table.specs.Contents.{TableRecords, contents, records_above, first_key, IsLeastKey}
use Rattle.ram_table.proofs.Trees.{first_above_trees, least_above, least_first}
use Rattle.ram_table.proofs.table.RamTable.next_key.Goals as goal

pub returns-in-Some-clause-first : goal.returns-in-Some-clause-first
returns-in-Some-clause-first c =
    let found = rw c.deref.ensures.value at c.key_above.ensures in
    let key = tree_of c.in-Some.key.now in
    let own = option_map tree_of (option_copied c.key_above.result) in
    rw c.in-Some.is (subst (λ (v : TableRecords). own ≡ first_key (records_above (Some key) (contents v))) c.self.view_is
    (found ∙ first_above_trees key _ c.self.invariant.keyed))

pub returns-in-Some-clause-least : goal.returns-in-Some-clause-least
returns-in-Some-clause-least c =
    let found = rw c.deref.ensures.value at c.key_above.ensures in
    let key = tree_of c.in-Some.key.now in
    let own = option_map tree_of (option_copied c.key_above.result) in
    rw c.in-Some.is (subst (λ (v : TableRecords). IsLeastKey own (records_above (Some key) (contents v))) c.self.view_is
    (rw found (least_above _ key _ c.self.invariant.paged.increasing c.self.invariant.keyed)))

pub returns-in-None-clause-least : goal.returns-in-None-clause-least
returns-in-None-clause-least c =
    let found = rw c.deref-in-None.ensures.value at c.key_from.ensures in
    let own = option_map tree_of (option_copied c.key_from.result) in
    rw c.in-None.is (subst (λ (v : TableRecords). IsLeastKey own (contents v)) c.self.view_is
    (rw found (least_first _ _ c.self.invariant.paged.increasing c.self.invariant.keyed)))
