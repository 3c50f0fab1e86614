use Rattle.std.proofs.Common.{sym, ap, subst, inr, ◌≡◌, ◌∙◌, length, arith, add-one}
use Rattle.std.specs.List.{AllByRecursion as Each}
use Rattle.std.specs.declared.cmp.Ordering.TheVariants.{Less, Equal, Greater}
use Rattle.std.specs.Cmp.{tied_itself}
use Rattle.term_core.specs.Order.{tree_total}
use Rattle.term_core.specs.declared.term.Term.{Term}
use Rattle.ram_table.specs.Inside.Rows.{key_cmp, row_key}
use Rattle.ram_table.proofs.Increasing.{each_append}
use Rattle.ram_table.proofs.InPage.{all_tied}
use Rattle.ram_table.proofs.Located.{page_at}
use Rattle.ram_table.proofs.Cuts.{page_sides}
use Rattle.ram_table.proofs.Paged.{element, page_increasing, at_page, put_at, one_key_put, joined_upto, joined_from}
use Rattle.ram_table.proofs.pages.put_big.Goals as goal

pub new_page-requires-clause-before : goal.new_page-requires-clause-before
new_page-requires-clause-before c =
    let around = c.requires.around in
    let page = element _ _ _ around.within c.index-page.ensures in
    let first = rw (c.key_of.ensures, page) at c.in-Less.ensures in
    let all = page_sides _ _ _ (page_at _ _ around.within c.requires.paged.each) c.requires.big first in
    rw (add-one, joined_upto _ _ around.within) (each_append (λ x. key_cmp (row_key c.args.row) x ≡ Less) _ _ around.before all)

pub new_page-requires-clause-behind : goal.new_page-requires-clause-behind
new_page-requires-clause-behind c = rw add-one c.requires.around.behind

pub new_page-requires-in-Greater-clause-behind : goal.new_page-requires-in-Greater-clause-behind
new_page-requires-in-Greater-clause-behind c =
    let around = c.requires.around in
    let page = element _ _ _ around.within c.index-page.ensures in
    let first = rw (c.key_of.ensures, page) at c.in-Greater.ensures in
    let all = page_sides _ _ _ (page_at _ _ around.within c.requires.paged.each) c.requires.big first in
    rw (joined_from _ _ around.within) (each_append (λ y. key_cmp (row_key c.args.row) y ≡ Greater) _ _ all around.behind)

pub put-requires-clause-increasing : goal.put-requires-clause-increasing
put-requires-clause-increasing c =
    let around = c.requires.around in
    rw (element _ _ _ around.within c.index_mut-page.ensures.value) (page_increasing _ _ _ around.within c.requires.paged.increasing)

pub put-requires-clause-room : goal.put-requires-clause-room
put-requires-clause-room c =
    let around = c.requires.around in
    let page = element _ _ _ around.within c.index-page.ensures in
    let first = rw (c.key_of.ensures, page) at c.in-Equal.ensures in
    let all = page_sides _ _ _ (page_at _ _ around.within c.requires.paged.each) c.requires.big first in
    let whole = at_page _ _ _ around ∙ all_tied (key_cmp (row_key c.args.row)) _ all in
    rw (element _ _ _ around.within c.index_mut-page.ensures.value) (omega (arith, ap (length {A = Term}) whole, c.requires.enough))

pub returns-in-Equal-clause-paged : goal.returns-in-Equal-clause-paged
returns-in-Equal-clause-paged c =
    let around = c.requires.around in
    let page = element _ _ _ around.within c.index-page.ensures in
    let first = rw (c.key_of.ensures, page) at c.in-Equal.ensures in
    let all = page_sides _ _ _ (page_at _ _ around.within c.requires.paged.each) c.requires.big first in
    let own = element _ _ _ around.within c.index_mut-page.ensures.value in
    let facts = put_at _ _ _ _ _ _ _ c.requires.paged around own c.put.ensures.put c.put.ensures.counted in
    let tied = subst (Each (λ x. key_cmp (row_key c.args.row) x ≡ Equal)) (sym own) all in
    let one = one_key_put _ (row_key c.args.row) _ _ tied (tied_itself tree_total (row_key c.args.row)) in
    record {
      increasing = facts.increasing;
      each = facts.each (inr (rw c.put.ensures.put one));
      apart = facts.apart;
    }

pub returns-in-Equal-clause-put : goal.returns-in-Equal-clause-put
returns-in-Equal-clause-put c =
    let around = c.requires.around in
    let own = element _ _ _ around.within c.index_mut-page.ensures.value in
    let facts = put_at _ _ _ _ _ _ _ c.requires.paged around own c.put.ensures.put c.put.ensures.counted in
    facts.put_is

pub returns-in-Equal-clause-counted : goal.returns-in-Equal-clause-counted
returns-in-Equal-clause-counted c =
    let around = c.requires.around in
    let own = element _ _ _ around.within c.index_mut-page.ensures.value in
    let facts = put_at _ _ _ _ _ _ _ c.requires.paged around own c.put.ensures.put c.put.ensures.counted in
    facts.counted
