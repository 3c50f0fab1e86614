-- What fits a table has a key.
use Rattle.std.proofs.Common.{◌≡◌, ℕ, ◌<◌, true, cond, List, [], ◌∷◌, length, Option, None, Some, option_map, refl, sym, ap, subst, ◌∙◌, inl, inr, arith}
use Rattle.std.specs.Prelude.{IsSome}
use Rattle.std.specs.List.{AllByRecursion}
use Rattle.std.proofs.lemmas.Bool.{cases_Bool}
use Rattle.term_core.specs.Tree.{Tree, int, atom, tuple, list, bin, no_trees, tree, key_of}
use Rattle.term_core.specs.View.{tree_of}
use Rattle.db_model.specs.Database.{Table, is_called}
use Rattle.db_model.specs.Definitions.{Definition}
use Rattle.db_model.specs.Lawful.{table_in}
use Rattle.db_model.specs.Records.{HasElements}
use Rattle.db_state.specs.Live.{IsKeyedTable, definition_of}
use Rattle.txn_core.specs.Refusals.{may_call}
use Rattle.txn_core.specs.Requests.{call_of, IsKeyed}
use Rattle.txn_core.specs.declared.request.Request.{Request}
use Rattle.txn_core.specs.declared.request.Request.TheVariants.{Write, Delete, DeleteObject, Read, MatchObject, AllKeys}
use Rattle.txn_core.proofs.Fitting.{fits_is}

has_key : (d : Definition) (row : Tree) → HasElements d row → 0 < length d.attributes → IsSome (key_of row)
has_key d (int n) h k = absurd h
has_key d (atom a) h k = absurd h
has_key d (list ts) h k = absurd h
has_key d (bin b) h k = absurd h
has_key d (tuple no_trees) h k = absurd h
has_key d (tuple (tree (int n) ts)) h k = absurd h
has_key d (tuple (tree (list us) ts)) h k = absurd h
has_key d (tuple (tree (bin b) ts)) h k = absurd h
has_key d (tuple (tree (tuple us) ts)) h k = absurd h
has_key d (tuple (tree (atom a) no_trees)) h k = (let none = h.1 in absurd (omega (arith, none, k)))
has_key d (tuple (tree (atom a) (tree key ts))) h k = refl

pub keyed : (d : Definition) (table : List ℕ) (request : Request) → may_call d (call_of table request) ≡ true
    → 0 < length d.attributes → IsKeyed (call_of table request)
keyed d table (Write row) h k = has_key d (tree_of row.now) ((fits_is d (tree_of row.now)).0 h).0 k
keyed d table (Delete key) h k = refl
keyed d table (DeleteObject row) h k = has_key d (tree_of row.now) ((fits_is d (tree_of row.now)).0 h).0 k
keyed d table (Read key) h k = tt
keyed d table (MatchObject pattern) h k = tt
keyed d table AllKeys h k = tt

pub its_keyed : (name : List ℕ) (tables : List Table) (table : Table) → AllByRecursion IsKeyedTable tables
    → table_in name tables ≡ Some table → IsKeyedTable table
its_keyed name [] table all is = absurd (cc)
its_keyed name (first ∷ tables) table all is =
    elim (cases_Bool (is_called name first)) [
      | inl h ↦ (
          let its : Some first ≡ Some table = sym (ap (λ b. cond b (Some first) (table_in name tables)) h) ∙ is in
          let same : first ≡ table = cc in
          subst IsKeyedTable same all.0)
      | inr h ↦ its_keyed name tables table all.1 (sym (ap (λ b. cond b (Some first) (table_in name tables)) h) ∙ is)
    ]

-- a definition that was found has attributes
pub has_attributes : (name : List ℕ) (tables : List Table) (d : Definition) (found : Option Table) → table_in name tables ≡ found
    → AllByRecursion IsKeyedTable tables → Some d ≡ option_map definition_of found → 0 < length d.attributes
has_attributes name tables d None at all is = absurd (cc)
has_attributes name tables d (Some table) at all is =
    let same : d ≡ table.definition = cc in
    subst (λ e. 0 < length e.attributes) (sym same) (its_keyed name tables table all at)
