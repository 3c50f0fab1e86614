use Rattle.std.proofs.Common.{◌++◌, Some, filter, map, ◌∙◌, sym, ap, subst}
use Rattle.std.specs.Option.{option_map, option_copied}
use Rattle.term_core.specs.View.{tree_of}
use Rattle.std.proofs.lemmas.List.Elements.{filter-append}
use Rattle.db_model.specs.Database.{records_of}
use Rattle.table_query.specs.Values.{is_match}
use Rattle.txn_writes.specs.Seen.{seen}
use Rattle.txn_writes.specs.Places.{AreWrites}
use Rattle.txn_writes.specs.Walks.{rows_above, all_keys}
use Rattle.txn_writes.proofs.Nexts.{fewer_left}
use Rattle.txn_writes.proofs.Whole.{seen_next, seen_end, seen_all, walked, ended}
use Rattle.txn_writes.proofs.writes.Writes.match_all.Goals as goal

pub loop-key-init : goal.loop-key-init
loop-key-init c =
    let h = subst (λ ops. AreWrites ops c.self.inside.places) c.self.view_is c.self.invariant in
    let all = seen_all c.args.name.now c.args.self.now c.self.inside.places h c.args.table.now (option_copied c.of_table-own.result)
    c.of_table-own.ensures c.order_law.ensures c.key_law.ensures in
    λ i. map tree_of (c.new-found.ensures i) ++ (filter (is_match (tree_of c.args.pattern.now))) (all i)

pub loop-key-smaller : goal.loop-key-smaller
loop-key-smaller c =
    fewer_left (option_map tree_of (option_copied c.loop-key.last)) (tree_of c.in-Some.key.now) c.in-Some.ensures.next.0
    (all_keys (option_copied c.of_table-own.result) c.args.table.now) c.in-Some.ensures.one_of

pub loop-key-preserved : goal.loop-key-preserved
loop-key-preserved c =
    let h = subst (λ ops. AreWrites ops c.self.inside.places) c.self.view_is c.self.invariant in
    let key = tree_of c.in-Some.key.now in
    let last = option_map tree_of (option_copied c.loop-key.last) in
    let now = seen c.args.name.now c.args.self.now c.args.table.now in
    let next = seen_next c.args.name.now c.args.self.now c.self.inside.places h c.args.table.now (option_copied c.of_table-own.result)
    c.of_table-own.ensures c.order_law.ensures c.key_law.ensures last key c.in-Some.ensures.next in
    walked (filter (is_match (tree_of c.args.pattern.now))) now (rows_above last now) (rows_above (Some key) now) key
    (map tree_of c.loop-key.found) (map tree_of c.add_matches.new.found) next
    (filter-append (is_match (tree_of c.args.pattern.now)) (records_of key now) (rows_above (Some key) now))
    c.in_ok-add_matches.ensures c.loop-key.invariant

pub returns : goal.returns
returns c =
    let h = subst (λ ops. AreWrites ops c.self.inside.places) c.self.view_is c.self.invariant in
    let last = option_map tree_of (option_copied c.loop-key.last) in
    let end = seen_end c.args.name.now c.args.self.now c.self.inside.places h c.args.table.now (option_copied c.of_table-own.result)
    c.of_table-own.ensures c.order_law.ensures c.key_law.ensures last c.in_default.ensures.next in
    ended (map tree_of c.loop-key.found)
    ∙ ap (λ rows. map tree_of c.loop-key.found ++ filter (is_match (tree_of c.args.pattern.now)) rows) (sym end) ∙ c.loop-key.invariant
