-- Definitions that the list of their options defines again, and what stands in slots.
use Rattle.std.proofs.Common.{◌≡◌, ℕ, ◌<◌, ◌^◌, Bool, true, false, not, if◌then◌else◌, List, [], ◌∷◌, length, map}
use Rattle.std.proofs.Common.{refl, sym, ap, ◌∙◌, subst, Option, None, Some}
use Rattle.std.specs.Prelude.{IsTrue, IsSome, IsSomeAnd, Contains, ◌↔◌}
use Rattle.std.specs.Option.{option_map}
use Rattle.std.proofs.lemmas.List.{length-map}
use Rattle.term_core.specs.Tree.{Tree, tuple, list, Trees, no_trees, tree}
use Rattle.term_core.specs.View.{tree_of, trees_of}
use Rattle.db_model.specs.Database.{Table}
use Rattle.db_model.specs.Definitions.{Definition, IsDefinition, IsPosition, AreAttributes, AreIndexed}
use Rattle.db_model.specs.Lawful.{table_in}
use Rattle.db_model.specs.Names.{IsTableName}
use Rattle.db_model.specs.Options.{create_tree}
use Rattle.db_model.specs.View.{definition}
use Rattle.db_model.specs.declared.definition.TableDef.{TableDef}
use Rattle.ram_table.specs.Contents.{TableRecords}
use Rattle.db_state.specs.Live.{is_named, definition_of}
use Rattle.db_state.specs.Inside.Slots.{def_of, slot_table, slot_tables}
use Rattle.db_state.specs.Inside.Taking.{first_def}
use Rattle.db_state.specs.declared.slots.Slot.{Slot}

same_trees : (ts us : List Tree) → trees_of ts ≡ trees_of us → ts ≡ us
same_trees [] [] e = refl
same_trees [] (u ∷ us) e = absurd cc
same_trees (t ∷ ts) [] e = absurd cc
same_trees (t ∷ ts) (u ∷ us) e =
    let first : t ≡ u = cc in
    let rest : trees_of ts ≡ trees_of us = cc in
    λ i. first i ∷ same_trees ts us rest i

-- the attributes in a list of all options
abbrev attributes_in : Tree → Trees
attributes_in (list (tree x (tree y (tree (tuple (tree z (tree (list ts) w))) v)))) = ts
attributes_in other = no_trees

same_attributes : (one other : Definition) → create_tree one ≡ create_tree other → one.attributes ≡ other.attributes
same_attributes one other e = same_trees one.attributes other.attributes (ap attributes_in e)

pub defined_again : (def read : TableDef) → def.cookie < 2 ^ 64 → def.index ≡ [] → read.name ≡ def.name → IsDefinition (definition read)
    → create_tree (definition read) ≡ create_tree (definition def) → IsDefinition (definition def)
defined_again def read fits index name good same =
    let attributes = same_attributes (definition read) (definition def) same in
    let own : (definition read).index ≡ def.index = good.index.none ∙ sym index in
    record {
      named = subst IsTableName name good.named;
      attributes = subst AreAttributes attributes good.attributes;
      index = subst (λ (n : ℕ). AreIndexed n def.index) (ap (λ (ts : List Tree). length ts) attributes)
          (subst (AreIndexed (length (definition read).attributes)) own good.index);
      cookie = fits;
    }

-- ---- the first definition of a name in slots

slot_seen : (name : List ℕ) (old : List TableRecords) (slots : List Slot)
    → option_map definition (first_def name (map def_of slots)) ≡ option_map definition_of (table_in name (slot_tables old slots))
slot_seen name old [] = refl
slot_seen name old (s ∷ ss) = by (is_named name s.def) (slot_seen name old ss)
  where
    by : (b : Bool)
        → option_map definition (first_def name (map def_of ss)) ≡ option_map definition_of (table_in name (slot_tables old ss))
        → option_map definition (if b then Some s.def else first_def name (map def_of ss))
        ≡ option_map definition_of (if b then Some (slot_table old s) else table_in name (slot_tables old ss))
    by true e = refl
    by false e = e

seen_test : (P : Definition → Type 0) (b : Bool) (d : TableDef) (t : Option Table)
    → option_map definition (Some d) ≡ option_map definition_of t → IsTrue b ↔ P (definition d)
    → IsTrue b ↔ IsSomeAnd t (λ table. P table.definition)
seen_test P b d None e tests = absurd cc
seen_test P b d (Some t) e tests =
    let same : definition d ≡ t.definition = cc in
    (λ holds. subst P same (tests.0 holds), λ p. tests.1 (subst P (sym same) p))

pub tested : (P : Definition → Type 0) (b : Bool) (d : TableDef) (name : List ℕ) (slots : List Slot) (old : List TableRecords)
    → Some d ≡ first_def name (map def_of slots) → IsTrue b ↔ P (definition d)
    → IsTrue b ↔ IsSomeAnd (table_in name (slot_tables old slots)) (λ table. P table.definition)
tested P b d name slots old is tests =
    seen_test P b d (table_in name (slot_tables old slots)) (ap (option_map definition) is ∙ slot_seen name old slots) tests

seen_none : (P : Table → Type 0) (t : Option Table) → option_map definition None ≡ option_map definition_of t
    → IsTrue false ↔ IsSomeAnd t P
seen_none P None e = (λ holds. absurd cc, λ p. absurd p)
seen_none P (Some t) e = absurd cc

pub untested : (P : Table → Type 0) (name : List ℕ) (slots : List Slot) (old : List TableRecords)
    → None ≡ first_def name (map def_of slots) → IsTrue false ↔ IsSomeAnd (table_in name (slot_tables old slots)) P
untested P name slots old is =
    seen_none P (table_in name (slot_tables old slots)) (ap (option_map definition) is ∙ slot_seen name old slots)

seen_some : (d : TableDef) (t : Option Table) → option_map definition (Some d) ≡ option_map definition_of t → IsTrue true ↔ IsSome t
seen_some d None e = absurd cc
seen_some d (Some t) e = (λ holds. refl, λ some. refl)

pub stands_there : (d : TableDef) (name : List ℕ) (slots : List Slot) (old : List TableRecords) → Some d ≡ first_def name (map def_of slots)
    → IsTrue true ↔ IsSome (table_in name (slot_tables old slots))
stands_there d name slots old is =
    seen_some d (table_in name (slot_tables old slots)) (ap (option_map definition) is ∙ slot_seen name old slots)

seen_nothing : (t : Option Table) → option_map definition None ≡ option_map definition_of t → IsTrue false ↔ IsSome t
seen_nothing None e = (λ holds. absurd cc, λ some. absurd cc)
seen_nothing (Some t) e = absurd cc

pub stands_not : (name : List ℕ) (slots : List Slot) (old : List TableRecords) → None ≡ first_def name (map def_of slots)
    → IsTrue false ↔ IsSome (table_in name (slot_tables old slots))
stands_not name slots old is =
    seen_nothing (table_in name (slot_tables old slots)) (ap (option_map definition) is ∙ slot_seen name old slots)

-- ---- what a definition lacks

abbrev pub Lacks : ℕ → Definition → Type 0
Lacks position def = IsPosition (length def.attributes) position × (Contains def.index position → ⊥)

many_attributes : (def : TableDef) → length (definition def).attributes ≡ length def.attributes
many_attributes def = length-map def.attributes tree_of

pub lacks_where : (def : TableDef) (seen : List ℕ) (count position : ℕ) (has : Bool) → seen ≡ def.index → count ≡ length def.attributes
    → IsPosition count position → IsTrue has ↔ Contains seen position → IsTrue (not has) ↔ Lacks position (definition def)
lacks_where def seen count position true is many at tests =
    (λ holds. absurd cc, λ lacks. absurd (lacks.1 (subst (λ (ps : List ℕ). Contains ps position) is (tests.0 refl))))
lacks_where def seen count position false is many at tests = (
  λ holds. (
    subst (λ (n : ℕ). IsPosition n position) (many ∙ sym (many_attributes def)) at,
    λ there. let has : false ≡ true = tests.1 (subst (λ (ps : List ℕ). Contains ps position) (sym is) there) in absurd cc,
  ),
  λ lacks. refl,
)

pub lacks_nowhere : (def : TableDef) (count position : ℕ) (at : Bool) → at ≡ false → count ≡ length def.attributes
    → IsTrue at ↔ IsPosition count position → IsTrue at ↔ Lacks position (definition def)
lacks_nowhere def count position at no_place many tests = (
  λ holds. absurd cc,
  λ lacks. tests.1 (subst (λ (n : ℕ). IsPosition n position) (many_attributes def ∙ sym many) lacks.0),
)
