use Rattle.std.proofs.Common.{sym, subst, ◌∙◌, arith}
use Rattle.ram_table.specs.Inside.Rows.{IsIncreasing}
use Rattle.ram_table.proofs.Paged.{delete_row_at, element, page_increasing}
use Rattle.ram_table.proofs.pages.delete_row.Goals as goal

pub delete_row-dropped-requires : goal.delete_row-dropped-requires
delete_row-dropped-requires c =
    let around = rw (c.key_of.ensures, c.deref.ensures.value) at c.page_for-at.ensures in
    record {
      increasing = rw (element _ _ _ around.within c.index_mut-page.ensures.value)
          (page_increasing _ _ _ around.within c.requires.paged.increasing);
    }

pub returns-then-len-eq0-clause-paged : goal.returns-then-len-eq0-clause-paged
returns-then-len-eq0-clause-paged c =
    let around = rw (c.key_of.ensures, c.deref.ensures.value) at c.page_for-at.ensures in
    let facts = delete_row_at _ _ _ _ _ _ _ c.requires.paged around (element _ _ _ around.within c.index_mut-page.ensures.value)
    c.delete_row-dropped.ensures.without c.delete_row-dropped.ensures.counted in
    rw c.remove.ensures.items (record {
      increasing =
          subst (IsIncreasing c.args.kind) (sym (facts.removed (omega arith))) facts.increasing;
      each = facts.others;
      apart =
          facts.others_apart (omega arith);
    })

pub returns-then-len-eq0-clause-without : goal.returns-then-len-eq0-clause-without
returns-then-len-eq0-clause-without c =
    let around = rw (c.key_of.ensures, c.deref.ensures.value) at c.page_for-at.ensures in
    let facts = delete_row_at _ _ _ _ _ _ _ c.requires.paged around (element _ _ _ around.within c.index_mut-page.ensures.value)
    c.delete_row-dropped.ensures.without c.delete_row-dropped.ensures.counted in
    rw c.remove.ensures.items (facts.removed (omega arith) ∙ facts.filter_is)

pub returns-then-len-eq0-clause-counted : goal.returns-then-len-eq0-clause-counted
returns-then-len-eq0-clause-counted c =
    let around = rw (c.key_of.ensures, c.deref.ensures.value) at c.page_for-at.ensures in
    let facts = delete_row_at _ _ _ _ _ _ _ c.requires.paged around (element _ _ _ around.within c.index_mut-page.ensures.value)
    c.delete_row-dropped.ensures.without c.delete_row-dropped.ensures.counted in
    rw (c.remove.ensures.items, facts.removed (omega arith)) facts.counted

pub returns-else-len-eq0-clause-paged : goal.returns-else-len-eq0-clause-paged
returns-else-len-eq0-clause-paged c =
    let around = rw (c.key_of.ensures, c.deref.ensures.value) at c.page_for-at.ensures in
    let facts = delete_row_at _ _ _ _ _ _ _ c.requires.paged around (element _ _ _ around.within c.index_mut-page.ensures.value)
    c.delete_row-dropped.ensures.without c.delete_row-dropped.ensures.counted in
    record { increasing = facts.increasing; each = facts.each (omega arith); apart = facts.apart }

pub returns-else-len-eq0-clause-without : goal.returns-else-len-eq0-clause-without
returns-else-len-eq0-clause-without c =
    let around = rw (c.key_of.ensures, c.deref.ensures.value) at c.page_for-at.ensures in
    let facts = delete_row_at _ _ _ _ _ _ _ c.requires.paged around (element _ _ _ around.within c.index_mut-page.ensures.value)
    c.delete_row-dropped.ensures.without c.delete_row-dropped.ensures.counted in
    facts.filter_is

pub returns-else-len-eq0-clause-counted : goal.returns-else-len-eq0-clause-counted
returns-else-len-eq0-clause-counted c =
    let around = rw (c.key_of.ensures, c.deref.ensures.value) at c.page_for-at.ensures in
    let facts = delete_row_at _ _ _ _ _ _ _ c.requires.paged around (element _ _ _ around.within c.index_mut-page.ensures.value)
    c.delete_row-dropped.ensures.without c.delete_row-dropped.ensures.counted in
    facts.counted
