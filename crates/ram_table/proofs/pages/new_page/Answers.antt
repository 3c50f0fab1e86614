use Rattle.std.proofs.Common.{◌≡◌, [], ◌∷◌, List, ap, ◌∙◌, ◌++◌, arith}
use Rattle.term_core.specs.declared.term.Term.{Term}
use Rattle.ram_table.proofs.Paged.{new_page}
use Rattle.ram_table.proofs.pages.new_page.Goals as goal

pub returns-clause-paged : goal.returns-clause-paged
returns-clause-paged c =
    let ok = c.insert.ensures.succeeds (omega arith) in
    let items = rw ok at c.insert.ensures.items in
    let page : c.over.result ≡ c.args.row ∷ [] = c.over.ensures ∙ c.push_reserved.ensures.items
    ∙ ap (λ (t : List Term). t ++ c.args.row ∷ []) c.requires.empty in
    rw (items, page) (new_page _ _ _ _ c.requires.paged c.requires.before c.requires.behind).paged

pub returns-clause-put : goal.returns-clause-put
returns-clause-put c =
    let ok = c.insert.ensures.succeeds (omega arith) in
    let items = rw ok at c.insert.ensures.items in
    let page : c.over.result ≡ c.args.row ∷ [] = c.over.ensures ∙ c.push_reserved.ensures.items
    ∙ ap (λ (t : List Term). t ++ c.args.row ∷ []) c.requires.empty in
    rw (items, page) (new_page _ _ _ _ c.requires.paged c.requires.before c.requires.behind).put_is

pub returns-clause-counted : goal.returns-clause-counted
returns-clause-counted c =
    let ok = c.insert.ensures.succeeds (omega arith) in
    let items = rw ok at c.insert.ensures.items in
    let page : c.over.result ≡ c.args.row ∷ [] = c.over.ensures ∙ c.push_reserved.ensures.items
    ∙ ap (λ (t : List Term). t ++ c.args.row ∷ []) c.requires.empty in
    rw (items, page) (new_page _ _ _ _ c.requires.paged c.requires.before c.requires.behind).counted
