use Rattle.std.proofs.Common.{sym, add-one}
use Rattle.ram_table.proofs.Paged.{element, page_increasing, above_page}
use Rattle.ram_table.proofs.Single.{first_some, first_none}
use Rattle.ram_table.proofs.pages.key_above.Goals as goal

pub above-requires : goal.above-requires
above-requires c = (
  c.requires.0,
  rw (element _ _ _ c.page_for-at.ensures.within c.index-pages-at.is)
      (page_increasing _ _ _ c.page_for-at.ensures.within c.requires.1.increasing),
)

pub returns-in-Some : goal.returns-in-Some
returns-in-Some c =
    let page = element _ _ _ c.page_for-at.ensures.within c.index-pages-at.is in
    let own = rw (c.above.ensures, page) at c.in-Some.ensures.value in
    rw (above_page _ _ _ c.page_for-at.ensures) (first_some _ _ _ _ c.key_of.ensures own)

pub returns-in-None : goal.returns-in-None
returns-in-None c =
    let page = element _ _ _ c.page_for-at.ensures.within c.index-pages-at.is in
    let none = rw (c.above.ensures, page) at (sym c.in-None.ensures.value) in
    rw (above_page _ _ _ c.page_for-at.ensures, first_none _ _ none) (rw add-one at c.key_from.ensures)
