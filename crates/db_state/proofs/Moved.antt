-- Tables moved into a new arrangement.
use Rattle.std.proofs.Common.{◌≡◌, ℕ, zero, suc, ◌<◌, ◌≤◌, List, [], ◌∷◌, ◌++◌, length, get_or, set, map}
use Rattle.std.proofs.Common.{refl, sym, ap, ◌∙◌, subst, arith, Option, None, Some, append_assoc}
use Rattle.std.specs.Prelude.{slice_get}
use Rattle.std.specs.Option.{unwrap_or, option_map}
use Rattle.std.proofs.lemmas.List.{length-set}
use Rattle.std.proofs.lemmas.Option.{slice_get-map, slice_get_read}
use Rattle.db_model.specs.declared.definition.TableDef.{TableDef}
use Rattle.ram_table.specs.Contents.{TableRecords}
use Rattle.db_state.specs.Live.{AreTables}
use Rattle.db_state.specs.Inside.Sources.{no_records, table_from, left_by, IsThere, AreFrom, defs_in, tables_in, IsArranged}
use Rattle.db_state.specs.declared.arrangement.Arrangement.{Arrangement}
use Rattle.db_state.specs.declared.arrangement.Source.{Source}
use Rattle.db_state.specs.declared.arrangement.Source.TheVariants.{Kept, Made}

pub from_least : (count least more : ℕ) (sources : List Source) → least ≤ more → AreFrom count more sources → AreFrom count least sources
from_least count least more [] le a = tt
from_least count least more (Kept place ∷ sources) le a = let first = a.0 in (omega arith, a.1, a.2)
from_least count least more (Made table ∷ sources) le a = from_least count least more sources le a

pub first_there : (count least : ℕ) (source : Source) (sources : List Source) → AreFrom count least (source ∷ sources) → IsThere count source
first_there count least (Kept place) sources a = a.1
first_there count least (Made table) sources a = tt

get_other : (tables : List TableRecords) (i j : ℕ) (new : TableRecords) → i < j → slice_get (set tables i new) j ≡ slice_get tables j
get_other [] i j new lt = refl
get_other (t ∷ ts) zero zero new lt = absurd (omega arith)
get_other (t ∷ ts) zero (suc j) new lt = refl
get_other (t ∷ ts) (suc i) zero new lt = absurd (omega arith)
get_other (t ∷ ts) (suc i) (suc j) new lt = get_other ts i j new (omega arith)

others_stay : (count least i : ℕ) (tables : List TableRecords) (new : TableRecords) (sources : List Source) → i < least
    → AreFrom count least sources → map (table_from (set tables i new)) sources ≡ map (table_from tables) sources
others_stay count least i tables new [] lt a = refl
others_stay count least i tables new (Kept place ∷ sources) lt a =
    let first = a.0 in
    λ j. unwrap_or (get_other tables i place new (omega arith) j) no_records
    ∷ others_stay count (suc place) i tables new sources (omega arith) a.2 j
others_stay count least i tables new (Made table ∷ sources) lt a =
    ap (λ rest. table ∷ rest) (others_stay count least i tables new sources lt a)

pub rest_stays : (count : ℕ) (tables : List TableRecords) (source : Source) (sources : List Source)
    → AreFrom count 0 (source ∷ sources) → map (table_from (left_by tables source)) sources ≡ map (table_from tables) sources
rest_stays count tables (Kept place) sources a = others_stay count (suc place) place tables no_records sources (omega arith) a.2
rest_stays count tables (Made table) sources a = refl

pub rest_from : (tables : List TableRecords) (source : Source) (sources : List Source)
    → AreFrom (length tables) 0 (source ∷ sources) → AreFrom (length (left_by tables source)) 0 sources
rest_from tables (Kept place) sources a =
    subst (λ (n : ℕ). AreFrom n 0 sources) (sym (length-set tables place no_records))
    (from_least (length tables) 0 (suc place) sources (omega arith) a.2)
rest_from tables (Made table) sources a = a

-- one more moved
pub one_moved : (room : List TableRecords) (tables after : List TableRecords) (source : Source) (sources : List Source) (r : List TableRecords)
    → AreFrom (length tables) 0 (source ∷ sources) → after ≡ left_by tables source
    → room ++ map (table_from tables) (source ∷ sources) ≡ r
    → (room ++ table_from tables source ∷ []) ++ map (table_from after) sources ≡ r
one_moved room tables after source sources r a is e =
    append_assoc room (table_from tables source ∷ []) (map (table_from after) sources)
    ∙ ap (λ (rest : List TableRecords). room ++ table_from tables source ∷ rest)
    (ap (λ (ts : List TableRecords). map (table_from ts) sources) is ∙ rest_stays (length tables) tables source sources a)
    ∙ e

pub there_at : (count least : ℕ) (sources : List Source) (i : ℕ) (source : Source) → AreFrom count least sources → i < length sources
    → source ≡ get_or sources i source → IsThere count source
there_at count least [] i source a lt is = absurd (omega arith)
there_at count least (s ∷ ss) zero source a lt is = subst (IsThere count) (sym is) (first_there count least s ss a)
there_at count least (Kept place ∷ ss) (suc i) source a lt is = there_at count (suc place) ss i source a.2 (omega arith) is
there_at count least (Made table ∷ ss) (suc i) source a lt is = there_at count least ss i source a (omega arith) is

pub placed : (tables : List TableRecords) (sources : List Source) (place : ℕ) (source : Source) (table : TableRecords)
    → place < length sources → source ≡ get_or sources place source → table ≡ table_from tables source
    → slice_get (map (table_from tables) sources) place ≡ Some table
placed tables sources place source table lt at is =
    slice_get-map (table_from tables) sources place
    ∙ ap (option_map (table_from tables)) (slice_get_read sources (length sources) place source refl lt at)
    ∙ ap Some (sym is)

pub arranged_fit : (defs : List TableDef) (tables : List TableRecords) (new : Option Arrangement) → IsArranged tables new
    → AreTables defs tables → AreTables (defs_in defs new) (tables_in tables new)
arranged_fit defs tables None a fit = fit
arranged_fit defs tables (Some new) a fit = a.fit
