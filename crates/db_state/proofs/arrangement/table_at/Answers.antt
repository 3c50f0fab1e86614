use Rattle.std.proofs.Common.{◌<◌, Option, length, refl, ap, ◌∙◌, subst, arith}
use Rattle.std.specs.Prelude.{slice_get}
use Rattle.std.proofs.lemmas.List.{length-map}
use Rattle.std.proofs.lemmas.Option.{slice_get_read}
use Rattle.db_state.specs.Inside.Sources.{table_from, tables_in, IsArranged}
use Rattle.db_state.specs.declared.arrangement.Arrangement.{Arrangement}
use Rattle.db_state.proofs.Moved.{there_at, placed}
use Rattle.db_state.proofs.arrangement.table_at.Goals as goal

pub table_from-requires : goal.table_from-requires
table_from-requires c =
    let tables = c.args.tables.now in
    let new = c.in-Some.new in
    let arranged = subst (IsArranged tables) c.in-Some.is c.requires.arranged in
    let within = subst (λ (o : Option Arrangement). c.args.place < length (tables_in tables o)) c.in-Some.is c.requires.within in
    let many = length-map new.sources.items (table_from tables) in
    there_at (length tables) 0 new.sources.items c.args.place c.index.result.now arranged.once (omega arith) c.index.ensures

pub returns-in-None : goal.returns-in-None
returns-in-None c =
    let tables = c.args.tables.now in
    let within = subst (λ (o : Option Arrangement). c.args.place < length (tables_in tables o)) c.in-None.is c.requires.within in
    ap (λ (o : Option Arrangement). slice_get (tables_in tables o) c.args.place) c.in-None.is
    ∙ slice_get_read tables (length tables) c.args.place c.index-tables-place.result refl within c.index-tables-place.is

pub returns-in-Some : goal.returns-in-Some
returns-in-Some c =
    let tables = c.args.tables.now in
    let new = c.in-Some.new in
    let within = subst (λ (o : Option Arrangement). c.args.place < length (tables_in tables o)) c.in-Some.is c.requires.within in
    let many = length-map new.sources.items (table_from tables) in
    ap (λ (o : Option Arrangement). slice_get (tables_in tables o) c.args.place) c.in-Some.is
    ∙ placed tables new.sources.items c.args.place c.index.result.now c.table_from.result.now (omega arith) c.index.ensures
    c.table_from.ensures
