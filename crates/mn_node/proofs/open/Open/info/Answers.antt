use Rattle.std.proofs.Common.{◌≡◌, length, None, ap, ◌∙◌}
use Rattle.db_model.specs.Lawful.{table_in}
use Rattle.db_model.specs.View.{definition}
use Rattle.db_state.specs.Live.{database, definition_of, table_seen, table_shown}
use Rattle.mn_node.proofs.Lookups.{none_seen, both_seen, info_unknown, info_known, info_wants}
use Rattle.mn_node.proofs.open.Open.info.Goals as goal
use Rattle.mn_node.proofs.open.Open.info.Goals.{in_default-via-in-Some+in_default, in_default-via-in_default}

pub returns-in_err-terms-in-Some-Some-clause-tries : goal.returns-in_err-terms-in-Some-Some-clause-tries
returns-in_err-terms-in-Some-Some-clause-tries c past commits synced pending shown pends =
    let known = both_seen definition table_seen c.def.result c.table.result (table_in c.args.name (database c.args.self.now.tables).tables)
    c.def.ensures c.table.ensures c.in-Some-Some.def c.in-Some-Some.table c.in-Some-Some.is-0 c.in-Some-Some.is-1 in
    info_wants shown c.args.name known.0 c.from_residual.result known.1 c.from_residual.ensures.1

pub returns-in_ok-terms-in-Some-Some-clause-tries : goal.returns-in_ok-terms-in-Some-Some-clause-tries
returns-in_ok-terms-in-Some-Some-clause-tries c past commits synced pending shown pends =
    let known = both_seen definition table_seen c.def.result c.table.result (table_in c.args.name (database c.args.self.now.tables).tables)
    c.def.ensures c.table.ensures c.in-Some-Some.def c.in-Some-Some.table c.in-Some-Some.is-0 c.in-Some-Some.is-1 in
    info_known shown c.args.name known.0 (definition c.in-Some-Some.def.now) c.count.result c.in_ok-terms-in-Some-Some.terms c.told.result
    known.1 known.2 (c.count.ensures ∙ ap length known.3) c.in_ok-terms-in-Some-Some.ensures c.told.ensures

pub returns-in_default-clause-tries : goal.returns-in_default-clause-tries
returns-in_default-clause-tries c past commits synced pending shown pends =
    let tables = (database c.args.self.now.tables).tables in
    let none : table_in c.args.name tables ≡ None = elim c.in_default.branch [
      | in_default-via-in-Some+in_default w ↦
          none_seen table_seen table_shown c.table.result (table_in c.args.name tables) c.table.ensures w.in_default.is-1
      | in_default-via-in_default w ↦
          none_seen definition definition_of c.def.result (table_in c.args.name tables) c.def.ensures w.in_default.is-0
    ] in
    info_unknown shown c.args.name c.told-in_default.result none c.told-in_default.ensures
