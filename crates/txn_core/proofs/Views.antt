-- What the calls of a transaction make of one table.
use Rattle.std.proofs.Common.{◌≡◌, ℕ, Bool, true, false, cond, List, [], ◌∷◌, filter, Some, option_map, refl, sym, ap, ◌∙◌, inl, inr}
use Rattle.std.specs.Bool.{Decides}
use Rattle.std.proofs.lemmas.Bool.{cases_Bool}
use Rattle.std.proofs.lemmas.Bool.Decides.{same_from_decides}
use Rattle.db_model.specs.Database.{Table, same_name, is_called, with_op, do_op}
use Rattle.db_model.specs.Lawful.{table_in}
use Rattle.db_model.specs.Ops.{Operation, table_of}
use Rattle.ram_table.specs.Contents.{put_ops}
use Rattle.txn_writes.specs.Seen.{is_on}
use Rattle.txn_core.specs.Calls.{Call, change, read, match_object, all_keys, view, ops_of}
use Rattle.txn_core.proofs.Fitting.{same_name_is}

flip : (name other : List ℕ) → same_name name other ≡ same_name other name
flip name other =
    let other_way : Decides (same_name other name) (name ≡ other) =
    (λ is. sym ((same_name_is other name).0 is), λ is. (same_name_is other name).1 (sym is)) in
    same_from_decides (same_name name other) (same_name other name) (same_name_is name other) other_way

abbrev pub with_ops : List Operation → Table → Table
with_ops ops table = record table { contents = put_ops table.definition.kind ops table.contents }

abbrev if_on : List ℕ → Operation → Table → Table
if_on name op table = cond (is_on name op) (with_op op table) table

-- the first table of the name in the list that begins with either
at_front : (name : List ℕ) (op : Operation) (table : Table) (b : Bool) (tables others : List Table)
    → (is_called name table ≡ true → b ≡ is_on name op)
    → table_in name others ≡ option_map (if_on name op) (table_in name tables)
    → table_in name (cond b (with_op op table) table ∷ others) ≡ option_map (if_on name op) (table_in name (table ∷ tables))
at_front name op table b tables others same rest =
    called b ∙ elim (cases_Bool (is_called name table)) [
      | inl h ↦ ap (λ t. cond t (Some (cond b (with_op op table) table)) (table_in name others)) h
          ∙ ap (λ t. Some (cond t (with_op op table) table)) (same h)
          ∙ sym (ap (λ t. option_map (if_on name op) (cond t (Some table) (table_in name tables))) h)
      | inr h ↦ ap (λ t. cond t (Some (cond b (with_op op table) table)) (table_in name others)) h
          ∙ rest ∙ sym (ap (λ t. option_map (if_on name op) (cond t (Some table) (table_in name tables))) h)
    ]
  where
    called : (c : Bool) → table_in name (cond c (with_op op table) table ∷ others)
        ≡ cond (is_called name table) (Some (cond c (with_op op table) table)) (table_in name others)
    called true = refl
    called false = refl

one_op : (name : List ℕ) (op : Operation) (tables : List Table)
    → table_in name (do_op op tables) ≡ option_map (if_on name op) (table_in name tables)
one_op name op [] = refl
one_op name op (table ∷ tables) =
    at_front name op table (is_called (table_of op) table) tables (do_op op tables)
    (λ h. ap (same_name (table_of op)) (sym ((same_name_is name table.definition.name).0 h)) ∙ flip (table_of op) name)
    (one_op name op tables)

if_done : (name : List ℕ) (op : Operation) (ops : List Operation) (table : Table)
    → with_ops (filter (is_on name) ops) (if_on name op table) ≡ with_ops (filter (is_on name) (op ∷ ops)) table
if_done name op ops table = by (is_on name op)
  where
    by : (b : Bool) → with_ops (filter (is_on name) ops) (cond b (with_op op table) table)
        ≡ with_ops (cond b (op ∷ filter (is_on name) ops) (filter (is_on name) ops)) table
    by true = refl
    by false = refl

pub view_table : (name : List ℕ) (calls : List Call) (tables : List Table) (table : Table) → table_in name tables ≡ Some table
    → table_in name (view calls tables) ≡ Some (with_ops (filter (is_on name) (ops_of calls)) table)
view_table name [] tables table h = h
view_table name (change op ∷ calls) tables table h =
    view_table name calls (do_op op tables) (if_on name op table) (one_op name op tables ∙ ap (option_map (if_on name op)) h)
    ∙ ap Some (if_done name op (ops_of calls) table)
view_table name (read other key ∷ calls) tables table h = view_table name calls tables table h
view_table name (match_object other pattern ∷ calls) tables table h = view_table name calls tables table h
view_table name (all_keys other ∷ calls) tables table h = view_table name calls tables table h
