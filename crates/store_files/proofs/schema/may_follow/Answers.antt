use Rattle.std.proofs.Common.{◌<◌, length, sym, arith}
use Rattle.store_files.proofs.Definitions.{follows}
use Rattle.store_files.proofs.schema.may_follow.Goals as goal

pub returns-in-Some : goal.returns-in-Some
returns-in-Some c =
    let few : length c.args.tables.now < 1000 = omega arith in
    follows c.args.tables.now c.args.table.now c.in-Some.last.now c.lt.result few c.requires (sym c.in-Some.ensures.value) c.lt.ensures
