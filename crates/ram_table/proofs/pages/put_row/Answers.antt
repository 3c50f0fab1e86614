use Rattle.std.proofs.Common.{sym, ap, subst, inl, ◌∙◌, length, arith}
use Rattle.term_core.specs.declared.term.Term.{Term}
use Rattle.ram_table.specs.Inside.Rows.{IsIncreasing}
use Rattle.ram_table.proofs.Cuts.{increasing_at_set}
use Rattle.ram_table.proofs.Paged.{put_at, element, page_increasing}
use Rattle.ram_table.proofs.pages.put_row.Goals as goal

pub put-added-requires-clause-increasing : goal.put-added-requires-clause-increasing
put-added-requires-clause-increasing c =
    let around = rw (c.key_of.ensures, c.deref.ensures.value) at c.page_for-at.ensures in
    rw (element _ _ _ around.within c.index_mut-page.ensures.value) (page_increasing _ _ _ around.within c.requires.paged.increasing)

pub cut_page-requires-clause-ordered : goal.cut_page-requires-clause-ordered
cut_page-requires-clause-ordered c =
    let around = rw (c.key_of.ensures, c.deref.ensures.value) at c.page_for-at.ensures in
    let facts = put_at _ _ _ _ _ _ _ c.requires.paged around (element _ _ _ around.within c.index_mut-page.ensures.value)
    c.put-added.ensures.put c.put-added.ensures.counted in
    (c.args.kind, increasing_at_set _ _ _ _ around.within facts.increasing)

pub returns-then-len-gt-MOST-2-clause-paged : goal.returns-then-len-gt-MOST-2-clause-paged
returns-then-len-gt-MOST-2-clause-paged c =
    let around = rw (c.key_of.ensures, c.deref.ensures.value) at c.page_for-at.ensures in
    let facts = put_at _ _ _ _ _ _ _ c.requires.paged around (element _ _ _ around.within c.index_mut-page.ensures.value)
    c.put-added.ensures.put c.put-added.ensures.counted in
    record {
      increasing = subst (IsIncreasing c.args.kind) (sym c.cut_page.ensures.joined) facts.increasing;
      each =
          c.cut_page.ensures.each facts.front facts.back;
      apart = c.cut_page.ensures.apart facts.apart;
    }

pub returns-then-len-gt-MOST-2-clause-put : goal.returns-then-len-gt-MOST-2-clause-put
returns-then-len-gt-MOST-2-clause-put c =
    let around = rw (c.key_of.ensures, c.deref.ensures.value) at c.page_for-at.ensures in
    let facts = put_at _ _ _ _ _ _ _ c.requires.paged around (element _ _ _ around.within c.index_mut-page.ensures.value)
    c.put-added.ensures.put c.put-added.ensures.counted in
    c.cut_page.ensures.joined ∙ facts.put_is

pub returns-then-len-gt-MOST-2-clause-counted : goal.returns-then-len-gt-MOST-2-clause-counted
returns-then-len-gt-MOST-2-clause-counted c =
    let around = rw (c.key_of.ensures, c.deref.ensures.value) at c.page_for-at.ensures in
    let facts = put_at _ _ _ _ _ _ _ c.requires.paged around (element _ _ _ around.within c.index_mut-page.ensures.value)
    c.put-added.ensures.put c.put-added.ensures.counted in
    ap (length {A = Term}) c.cut_page.ensures.joined ∙ facts.counted

pub returns-else-len-gt-MOST-2-clause-paged : goal.returns-else-len-gt-MOST-2-clause-paged
returns-else-len-gt-MOST-2-clause-paged c =
    let around = rw (c.key_of.ensures, c.deref.ensures.value) at c.page_for-at.ensures in
    let facts = put_at _ _ _ _ _ _ _ c.requires.paged around (element _ _ _ around.within c.index_mut-page.ensures.value)
    c.put-added.ensures.put c.put-added.ensures.counted in
    record { increasing = facts.increasing; each = facts.each (inl (omega arith)); apart = facts.apart }

pub returns-else-len-gt-MOST-2-clause-put : goal.returns-else-len-gt-MOST-2-clause-put
returns-else-len-gt-MOST-2-clause-put c =
    let around = rw (c.key_of.ensures, c.deref.ensures.value) at c.page_for-at.ensures in
    let facts = put_at _ _ _ _ _ _ _ c.requires.paged around (element _ _ _ around.within c.index_mut-page.ensures.value)
    c.put-added.ensures.put c.put-added.ensures.counted in
    facts.put_is

pub returns-else-len-gt-MOST-2-clause-counted : goal.returns-else-len-gt-MOST-2-clause-counted
returns-else-len-gt-MOST-2-clause-counted c =
    let around = rw (c.key_of.ensures, c.deref.ensures.value) at c.page_for-at.ensures in
    let facts = put_at _ _ _ _ _ _ _ c.requires.paged around (element _ _ _ around.within c.index_mut-page.ensures.value)
    c.put-added.ensures.put c.put-added.ensures.counted in
    facts.counted
