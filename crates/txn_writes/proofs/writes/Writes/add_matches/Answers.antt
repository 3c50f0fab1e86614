use Rattle.std.proofs.Common.{rules, ◌≡◌, length, ◌++◌, map, filter, ◌∙◌, sym, ap}
use Rattle.std.proofs.lemmas.Result.{on_ok_weaker}
use Rattle.term_core.specs.View.{tree_of}
use Rattle.db_model.specs.Database.{records_of}
use Rattle.table_query.specs.Values.{is_match}
use Rattle.txn_writes.specs.Seen.{seen}
use Rattle.txn_writes.proofs.Whole.{no_own, none_there}
use Rattle.txn_writes.proofs.writes.Writes.add_matches.Goals as goal

pub returns-then-is_empty : goal.returns-then-is_empty
returns-then-is_empty c =
    let name = c.args.name.now in
    let key = tree_of c.args.key.now in
    let table = c.args.table.now in
    let count : length c.at.result.now ≡ 0 = search rules in
    let none = none_there c.at.result.now count in
    let same = c.read.ensures
    ∙ no_own name c.self.inside.ops c.self.inside.places table key c.self.invariant c.order_law.ensures (sym c.at.ensures ∙ none)
    ∙ ap (λ now. records_of key (seen name now table)) c.self.view_is in
    let found = map tree_of c.args.found.now in
    let pattern = tree_of c.args.pattern.now in
    on_ok_weaker c.add_matching.result (λ is. is ∙ ap (λ rows. found ++ filter (is_match pattern) rows) same) c.add_matching.ensures
