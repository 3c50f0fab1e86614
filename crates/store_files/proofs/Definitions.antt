-- Definitions as items.
use Rattle.std.proofs.Common.{◌≡◌, ℕ, ◌-◌, ◌≤◌, ◌<◌, ◌^◌, Bool, List, [], ◌∷◌, ◌++◌, length, map, Option, Some, None, Result, Ok, Err, refl, sym, ap, subst, ◌∙◌, arith, codes}
use Rattle.std.specs.Prelude.{All, IfOk, OnOk, IsTrue, MatchOption, slice_get}
use Rattle.std.specs.Ordering.{nat_cmp, is_lt}
use Rattle.std.specs.Cmp.Lexicographic.{slice_cmp, nat_list_cmp_total}
use Rattle.std.proofs.lemmas.List.{length-append, map-append, length-map}
use Rattle.std.proofs.lemmas.List.Elements.{All-head, All-tail}
use Rattle.term_core.specs.Tree.{Tree, int, atom, tuple, list, bin, no_trees, tree, count, depth, greatest_depth}
use Rattle.term_core.specs.View.{trees_of, forest_of}
use Rattle.term_core.specs.declared.term.Term.{Term}
use Rattle.term_core.proofs.Forests.{count_forest_of}
use Rattle.term_core.specs.Written.{canon}
use Rattle.term_wire.specs.Spelling.{IsText}
use Rattle.term_wire.proofs.Again.{one_tree}
use Rattle.log_items.specs.Items.{item_bytes, IsContent}
use Rattle.db_model.specs.Definitions.{Definition, IsAtom, IsDefinition}
use Rattle.db_model.specs.Options.{attributes_at, create_tree, IsDefinedBy}
use Rattle.db_model.specs.SchemaTerms.{defining_shape, Defines}
use Rattle.db_model.specs.View.{definition}
use Rattle.db_model.specs.declared.definition.TableDef.{TableDef}
use Rattle.db_model.proofs.Defined.{one_definition, read_back}
use Rattle.store_files.specs.Forms.{AreIncreasing, IsItemOf}
use Rattle.store_files.specs.Schema.{IsTable, table_tree, IsNamedBefore, AreTables, schema_form}
use Rattle.store_files.proofs.OneFile.{IsTold}
use Rattle.store_files.proofs.Increasing.{is_less, last_is, increasing_first, increasing_last, increasing_more}

-- ---- how deep the term is

atom_depth : (t : Tree) → IsAtom t → depth t ≤ 1
atom_depth (int n) h = absurd h
atom_depth (atom a) h = omega arith
atom_depth (tuple ts) h = absurd h
atom_depth (list ts) h = absurd h
atom_depth (bin b) h = absurd h

attributes_depth : (attributes : List Tree) → All IsAtom attributes → greatest_depth (trees_of attributes) ≤ 1
attributes_depth [] h = omega arith
attributes_depth (attribute ∷ attributes) h =
    let first = atom_depth attribute (All-head IsAtom attribute attributes h) in
    omega (arith, first, attributes_depth attributes (All-tail IsAtom attribute attributes h))

pub table_depth : (table : Definition) → IsDefinition table → depth (table_tree table) ≤ 128
table_depth table is =
    let attributes = attributes_depth table.attributes is.attributes.atoms in
    let none : greatest_depth (trees_of (attributes_at table.attributes table.index)) ≡ 0 =
    ap (λ (index : List ℕ). greatest_depth (trees_of (attributes_at table.attributes index))) is.index.none in
    omega (arith, attributes, none)

-- ---- what is written

pub table_says : (table : Definition) → IsDefinition table → IsText (canon (table_tree table)) (table_tree table)
    → IsTable (canon (table_tree table)) table
table_says table is text = (
  table_tree table,
  text,
  record { options = create_tree table; is = refl; cookie = is.cookie; defined = read_back table table.cookie is },
)

-- the item of a term is that of the definition whose term it is
pub table_written : {V E : Type 0} (items : V → List ℕ) (r : Result V E) (table : Definition) (t : Tree) → t ≡ table_tree table
    → IsDefinition table → IfOk r (λ v. items v ≡ item_bytes (canon t)) → OnOk r (IsText (canon t) t) → OnOk r (IsContent (canon t))
    → IfOk r (λ v. IsItemOf schema_form table (items v))
table_written items (Err e) table t same is bytes text fits = tt
table_written items (Ok v) table t same is bytes text fits = record {
  content = canon (table_tree table);
  is = bytes ∙ ap (λ u. item_bytes (canon u)) same;
  says = table_says table is (subst (λ u. IsText (canon u) u) same text);
  fits = subst (λ u. IsContent (canon u)) same fits;
}

-- ---- what is read

pub not_two : (terms : List Term) → (length terms ≡ 2 → ⊥) → (first second : Tree)
    → forest_of terms ≡ tree first (tree second no_trees) → ⊥
not_two terms none first second is =
    let size : count (forest_of terms) ≡ 2 = ap count is in none (omega (arith, size, count_forest_of terms))

same_table : (name other : List ℕ) (cookie number : ℕ) (options given : Tree)
    → defining_shape (codes "table") name cookie options ≡ defining_shape (codes "table") other number given → name ≡ other
same_table name other cookie number options given is = cc

same_cookie : (name other : List ℕ) (cookie number : ℕ) (options given : Tree)
    → defining_shape (codes "table") name cookie options ≡ defining_shape (codes "table") other number given → cookie ≡ number
same_cookie name other cookie number options given is = cc

same_options : (name other : List ℕ) (cookie number : ℕ) (options given : Tree)
    → defining_shape (codes "table") name cookie options ≡ defining_shape (codes "table") other number given → options ≡ given
same_options name other cookie number options given is = cc

-- the table that these parts of the term define
pub parts_told : {E : Type 0} (t options : Tree) (name : List ℕ) (cookie : ℕ) (r : Result (Option TableDef) E) → cookie < 2 ^ 64
    → t ≡ defining_shape (codes "table") name cookie options
    → IfOk r (λ found. MatchOption found ((one : Definition) → one.name ≡ name → IsDefinedBy options one → ⊥)
    (λ def. (def.name ≡ name) × (def.cookie ≡ cookie) × IsDefinedBy options (definition def)))
    → IfOk r (λ found. MatchOption found ((one : Definition) → Defines (codes "table") t one → ⊥)
    (λ def. Defines (codes "table") t (definition def)))
parts_told t options name cookie (Err e) small is h = tt
parts_told t options name cookie (Ok None) small is none = λ one d.
    let same = sym is ∙ d.is in
    none one (sym (same_table name one.name cookie one.cookie options d.options same))
    (subst (λ o. IsDefinedBy o one) (sym (same_options name one.name cookie one.cookie options d.options same)) d.defined)
parts_told t options name cookie (Ok (Some def)) small is h = record {
  options = options;
  is = is ∙ λ i. defining_shape (codes "table") (sym h.0 i) (sym h.1 i) options;
  cookie = subst (λ c. c < 2 ^ 64) (sym h.1) small;
  defined = h.2;
}

-- a content says one table
pub one_table : (content : List ℕ) (one other : Definition) → IsTable content one → IsTable content other → one ≡ other
one_table content one other (t, text, x) (u, also, y) =
    let d = subst (λ v. Defines (codes "table") v one) (one_tree content t u text also) x in
    let same = sym d.is ∙ y.is in
    one_definition d.options one other
    (same_table one.name other.name one.cookie other.cookie d.options y.options same)
    (same_cookie one.name other.name one.cookie other.cookie d.options y.options same)
    d.defined
    (subst (λ o. IsDefinedBy o other) (sym (same_options one.name other.name one.cookie other.cookie d.options y.options same)) y.defined)

-- ---- tables in order

named_trans : (x y z : Definition) → IsNamedBefore x y → IsNamedBefore y z → IsNamedBefore x z
named_trans x y z a b =
    let first = is_less (slice_cmp nat_cmp x.name y.name) a in
    let second = is_less (slice_cmp nat_cmp y.name z.name) b in
    ap is_lt (nat_list_cmp_total.trans x.name y.name z.name first second)

pub tables_first : (xs ys : List Definition) → AreTables (xs ++ ys) → AreTables xs
tables_first xs ys h = record {
  increasing = increasing_first IsNamedBefore xs ys h.increasing;
  few = omega (arith, h.few, length-append xs ys);
}

-- a table whose name comes behind the last one's
pub follows : (tables : List TableDef) (table last : TableDef) (b : Bool) → length tables < 1000 → AreTables (map definition tables)
    → slice_get tables (length tables - 1) ≡ Some last → b ≡ is_lt (slice_cmp nat_cmp last.name table.name)
    → (IsTrue b → AreTables (map definition tables ++ definition table ∷ []))
    × (AreTables (map definition tables ++ definition table ∷ []) → IsTrue b)
follows tables table last b few are found is =
    let h = last_is tables last found in
    let front = map definition h.front in
    let split : map definition tables ≡ front ++ definition last ∷ [] =
    ap (map definition) h.is ∙ map-append definition h.front (last ∷ []) in (
      λ yes. record {
        increasing = subst (λ ds. AreIncreasing IsNamedBefore (ds ++ definition table ∷ [])) (sym split)
            (increasing_more IsNamedBefore named_trans front (definition last) (definition table)
            (subst (AreIncreasing IsNamedBefore) split are.increasing) (subst IsTrue is yes));
        few = omega (arith, few, length-append (map definition tables) (definition table ∷ []), length-map tables definition);
      },
      λ all. subst IsTrue (sym is)
          (increasing_last IsNamedBefore front (definition last) (definition table)
          (subst (λ ds. AreIncreasing IsNamedBefore (ds ++ definition table ∷ [])) split all.increasing)),
    )

pub schema_told : IsTold schema_form
schema_told = record { one = one_table; first = tables_first }
