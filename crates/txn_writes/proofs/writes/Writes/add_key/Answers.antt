use Rattle.std.proofs.Common.{cond, [], ◌∷◌, ◌++◌, map, ◌∙◌, sym, ap}
use Rattle.std.proofs.lemmas.List.{map-append}
use Rattle.term_core.specs.View.{tree_of}
use Rattle.txn_writes.specs.Seen.{seen}
use Rattle.txn_writes.proofs.Whole.{key_alone}
use Rattle.txn_writes.proofs.writes.Writes.add_key.Goals as goal

pub returns-in_ok-push : goal.returns-in_ok-push
returns-in_ok-push c =
    let key = tree_of c.args.key.now in
    let found = c.args.found.now in
    let alone = key_alone key (seen c.args.name.now c.args.self.now c.args.table.now) in
    ap (map tree_of) c.in_ok-push.ensures.ok
    ∙ map-append tree_of found (c.in_ok-copied_term.field-0 ∷ [])
    ∙ ap (λ copy. map tree_of found ++ tree_of copy ∷ []) c.in_ok-copied_term.ensures
    ∙ ap (λ others. map tree_of found ++ others)
    (sym (alone ∙ ap (λ b. cond b (key ∷ []) []) (sym c.in_ok-has_key.ensures ∙ c.if-branch.true)))
