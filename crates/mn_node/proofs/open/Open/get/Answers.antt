use Rattle.std.proofs.Common.{Some, sym, ap, ◌∙◌}
use Rattle.std.specs.Option.{option_copied}
use Rattle.term_core.specs.View.{tree_of}
use Rattle.db_model.specs.Database.{records_of}
use Rattle.db_model.specs.Lawful.{table_in}
use Rattle.db_state.specs.Live.{database, table_seen, table_shown}
use Rattle.mn_node.specs.Effects.{finds}
use Rattle.mn_node.proofs.Lookups.{some_seen, none_seen, get_unknown, get_held, get_known, get_wants}
use Rattle.mn_node.proofs.Refusals.{held_tried}
use Rattle.mn_node.proofs.open.Open.get.Goals as goal

pub returns-in_default-clause-tries : goal.returns-in_default-clause-tries
returns-in_default-clause-tries c past commits synced pending shown pends =
    let none = none_seen table_seen table_shown c.table-2.result (table_in c.args.table (database c.args.self.now.tables).tables)
    c.table-2.ensures c.in_default.is in
    get_unknown shown pending c.args.table (tree_of c.args.key.now) c.told.result none c.told.ensures

pub returns-in-Some-key_holder-clause-tries : goal.returns-in-Some-key_holder-clause-tries
returns-in-Some-key_holder-clause-tries c past commits synced pending shown pends =
    let key = tree_of c.args.key.now in
    let known = some_seen table_seen table_shown c.table-2.result (table_in c.args.table (database c.args.self.now.tables).tables)
    c.table-2.ensures c.in-Some.records c.in-Some.is in
    let held = sym (c.key_holder.ensures pending pends.shows) ∙ ap option_copied c.in-Some-key_holder.is in
    held_tried shown _ (finds (records_of key known.0.contents)) c.in-Some-key_holder.by.now c.locked.result
    (get_held shown pending c.args.table key known.0 known.1 (Some c.in-Some-key_holder.by.now) held) c.locked.ensures.ok
    c.locked.ensures.err

pub returns-in_err-copies-clause-tries : goal.returns-in_err-copies-clause-tries
returns-in_err-copies-clause-tries c past commits synced pending shown pends =
    let key = tree_of c.args.key.now in
    let known = some_seen table_seen table_shown c.table-2.result (table_in c.args.table (database c.args.self.now.tables).tables)
    c.table-2.ensures c.in-Some.records c.in-Some.is in
    let free = sym (c.key_holder.ensures pending pends.shows) ∙ ap option_copied c.in_default-key_holder.is in
    get_wants shown pending c.args.table key known.0 c.read.result.now c.from_residual.result known.1 free
    (c.read.ensures ∙ ap (λ x. records_of key x.1) known.2) c.in_err-copies.ensures.some c.from_residual.ensures.1

pub returns-clause-tries : goal.returns-clause-tries
returns-clause-tries c past commits synced pending shown pends =
    let key = tree_of c.args.key.now in
    let known = some_seen table_seen table_shown c.table-2.result (table_in c.args.table (database c.args.self.now.tables).tables)
    c.table-2.ensures c.in-Some.records c.in-Some.is in
    let free = sym (c.key_holder.ensures pending pends.shows) ∙ ap option_copied c.in_default-key_holder.is in
    get_known shown pending c.args.table key known.0 c.read.result.now c.in_ok-copies.field-0 c.told-2.result known.1 free
    (c.read.ensures ∙ ap (λ x. records_of key x.1) known.2) c.in_ok-copies.ensures.found c.told-2.ensures
