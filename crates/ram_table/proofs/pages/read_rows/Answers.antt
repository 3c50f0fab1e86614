use Rattle.std.proofs.Common.{sym}
use Rattle.ram_table.proofs.Paged.{element, page_increasing, at_page}
use Rattle.ram_table.proofs.pages.read_rows.Goals as goal

pub read-requires : goal.read-requires
read-requires c = (
  c.requires.0,
  rw (element _ _ _ c.page_for.ensures.within c.index-pages-page_for.is)
      (page_increasing _ _ _ c.page_for.ensures.within c.requires.1.increasing),
)

pub returns : goal.returns
returns c =
    let page = element _ _ _ c.page_for.ensures.within c.index-pages-page_for.is in
    rw (c.read.ensures, page) (sym (at_page _ _ _ c.page_for.ensures))
