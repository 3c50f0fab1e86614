use Rattle.std.proofs.Common.{sym, ap, subst, inr, ◌∙◌, ◌<◌, List, length, arith, add-one}
use Rattle.term_core.specs.declared.term.Term.{Term}
use Rattle.ram_table.specs.Inside.Pages.{IsCut, IsOneKey}
use Rattle.ram_table.proofs.InPage.{take_drop}
use Rattle.ram_table.proofs.Paged.{joined_cut, apart_cut, element}
use Rattle.ram_table.proofs.Cuts.{cut_pages, each_cut, each_uncut}
use Rattle.ram_table.proofs.pages.cut_page.Goals as goal

pub returns-in-Some-clause-joined : goal.returns-in-Some-clause-joined
returns-in-Some-clause-joined c =
    let ok = c.insert.ensures.succeeds (omega arith) in
    let items = rw ok at c.insert.ensures.items in
    let lt : c.args.at < length c.args.pages.now.items = omega (arith, c.requires.within, c.args.pages.now.ok.0) in
    let page = element _ _ _ lt c.index_mut-page.ensures.value in
    let cut : IsCut c.index_mut-page.result.now c.in-Some.cut =
    subst (λ (t : List Term). IsCut t c.in-Some.cut) c.rows.ensures c.in-Some.ensures.some in
    let whole = sym (take_drop c.in-Some.cut c.index_mut-page.result.now) ∙ page in
    rw (items, c.cut.ensures.front, c.cut.ensures.back, add-one) (joined_cut _ _ _ _ lt whole)

pub returns-in-Some-clause-each : goal.returns-in-Some-clause-each
returns-in-Some-clause-each c a b =
    let ok = c.insert.ensures.succeeds (omega arith) in
    let items = rw ok at c.insert.ensures.items in
    let lt : c.args.at < length c.args.pages.now.items = omega (arith, c.requires.within, c.args.pages.now.ok.0) in
    let page = element _ _ _ lt c.index_mut-page.ensures.value in
    let cut : IsCut c.index_mut-page.result.now c.in-Some.cut =
    subst (λ (t : List Term). IsCut t c.in-Some.cut) c.rows.ensures c.in-Some.ensures.some in
    let whole = sym (take_drop c.in-Some.cut c.index_mut-page.result.now) ∙ page in
    let long = ap (length {A = Term}) page ∙ c.requires.long in
    let both = cut_pages _ _ cut long in
    rw (items, c.cut.ensures.front, c.cut.ensures.back, add-one) (each_cut _ _ _ _ lt a b both.0 both.1)

pub returns-in-Some-clause-apart : goal.returns-in-Some-clause-apart
returns-in-Some-clause-apart c a =
    let ok = c.insert.ensures.succeeds (omega arith) in
    let items = rw ok at c.insert.ensures.items in
    let lt : c.args.at < length c.args.pages.now.items = omega (arith, c.requires.within, c.args.pages.now.ok.0) in
    let page = element _ _ _ lt c.index_mut-page.ensures.value in
    let cut : IsCut c.index_mut-page.result.now c.in-Some.cut =
    subst (λ (t : List Term). IsCut t c.in-Some.cut) c.rows.ensures c.in-Some.ensures.some in
    let whole = sym (take_drop c.in-Some.cut c.index_mut-page.result.now) ∙ page in
    rw (items, c.cut.ensures.front, c.cut.ensures.back, add-one) (apart_cut _ _ _ _ lt whole cut.between a)

pub returns-in-None-clause-each : goal.returns-in-None-clause-each
returns-in-None-clause-each c a b =
    let lt : c.args.at < length c.args.pages.now.items = omega (arith, c.requires.within, c.args.pages.now.ok.0) in
    let page = element _ _ _ lt c.index_mut-page.ensures.value in
    let long = ap (length {A = Term}) page ∙ c.requires.long in
    each_uncut _ _ _ lt a b (omega arith, inr (subst IsOneKey c.rows.ensures c.in-None.ensures.none))
