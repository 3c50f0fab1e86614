-- A term is that of a schema op, or of none.
use Rattle.std.proofs.Common.{◌≡◌, ◌⊎◌, ℕ, ◌<◌, ◌^◌, if◌then◌else◌, List, [], ◌∷◌, get_or, length, map, codes, refl, sym, ap, ◌∙◌, subst, inl, inr, arith}
use Rattle.std.specs.Prelude.{All, AllPairs, ◌==◌}
use Rattle.std.proofs.lemmas.Bool.{cases_lt}
use Rattle.term_core.specs.Tree.{Tree, int, atom, tuple, list, bin, no_trees, text, inner}
use Rattle.term_core.specs.View.{trees_of}
use Rattle.db_model.specs.Commits.{SchemaOperation, create, drop_table, add_index, del_index, remake}
use Rattle.db_model.specs.Definitions.{Definition, IsAtom, Differ, AreAttributes}
use Rattle.db_model.specs.Names.{IsTableName}
use Rattle.db_model.specs.Ops.{op_shape}
use Rattle.db_model.specs.Options.{TableSetting, kind_is, record_name_is, attributes_are, indexed_are, word_of, option_of, IsAllowed, HaveOtherWords, AreOptionsOf, made_of, IsDefinedBy}
use Rattle.db_model.specs.SchemaTerms.{defining_shape, index_shape, Defines, Indexes, IsSchemaOp, IsNoSchemaOp}
use Rattle.db_model.specs.declared.definition.Kind.{Kind}
use Rattle.db_model.specs.declared.definition.Kind.TheVariants.{Set, OrderedSet, Bag}
use Rattle.txn_log.specs.Commits.{AreSchemaOps, AreNoSchemaOps}
use Rattle.txn_log.proofs.Deciding.{tree_or_not, trees_or_not, tree_differs, word_differs, all_or_not, pairs_or_not, within_or_not, table_or_not, first_of, second, third, fourth, number_in, list_of, list_back}

-- ---- what an option says

abbrev first_letter : List ℕ → ℕ
first_letter word = get_or word 0 0

-- the words begin with different letters
abbrev kind_by : List ℕ → Kind
kind_by word = if first_letter word == 115 then Set else (if first_letter word == 111 then OrderedSet else Bag)

abbrev setting_by : ℕ → Tree → TableSetting
setting_by letter value =
    if letter == 116 then kind_is (kind_by (text value))
    else (if letter == 114 then record_name_is (text value)
    else (if letter == 97 then attributes_are (list_of (inner value)) else indexed_are (list_of (inner value))))

-- the setting that the option says, where it says one
abbrev said_by : Tree → TableSetting
said_by option = setting_by (first_letter (text (first_of (inner option)))) (second option)

said_back : (setting : TableSetting) → said_by (option_of setting) ≡ setting
said_back (kind_is Set) = refl
said_back (kind_is OrderedSet) = refl
said_back (kind_is Bag) = refl
said_back (record_name_is name) = refl
said_back (attributes_are attributes) = ap attributes_are (list_back attributes)
said_back (indexed_are attributes) = ap indexed_are (list_back attributes)

all_back : (settings : List TableSetting) → map said_by (map option_of settings) ≡ settings
all_back [] = refl
all_back (setting ∷ settings) = λ i. said_back setting i ∷ all_back settings i

-- options say these settings, or none
settings_are : (settings : List TableSetting) (options : List Tree) → options ≡ map option_of settings
    → settings ≡ map said_by options
settings_are settings options are = sym (all_back settings) ∙ ap (map said_by) (sym are)

-- ---- which settings are allowed

atom_or_not : (t : Tree) → IsAtom t ⊎ (IsAtom t → ⊥)
atom_or_not (int n) = inr (λ h. h)
atom_or_not (atom a) = inl tt
atom_or_not (tuple ts) = inr (λ h. h)
atom_or_not (list ts) = inr (λ h. h)
atom_or_not (bin b) = inr (λ h. h)

attributes_or_not : (attributes : List Tree) → AreAttributes attributes ⊎ (AreAttributes attributes → ⊥)
attributes_or_not attributes = elim (within_or_not 2 250 (length attributes)) [
  | inr fails ↦ inr (λ h. fails (h.some, h.few))
  | inl size ↦ elim (all_or_not IsAtom atom_or_not attributes) [
    | inr fails ↦ inr (λ h. fails h.atoms)
    | inl atoms ↦ elim (pairs_or_not Differ tree_differs attributes) [
      | inr fails ↦ inr (λ h. fails h.different)
      | inl different ↦ inl (record { some = size.0; few = size.1; atoms = atoms; different = different })
    ]
  ]
]

none_or_some : (attributes : List Tree) → (attributes ≡ []) ⊎ (attributes ≡ [] → ⊥)
none_or_some [] = inl refl
none_or_some (attribute ∷ attributes) = inr (λ is. absurd (cc is))

allowed_or_not : (setting : TableSetting) → IsAllowed setting ⊎ (IsAllowed setting → ⊥)
allowed_or_not (kind_is kind) = inl tt
allowed_or_not (record_name_is name) = inl tt
allowed_or_not (attributes_are attributes) = attributes_or_not attributes
allowed_or_not (indexed_are attributes) = none_or_some attributes

words_or_not : (one other : TableSetting) → HaveOtherWords one other ⊎ (HaveOtherWords one other → ⊥)
words_or_not one other = word_differs (word_of one) (word_of other)

-- ---- options and definitions

options_or_not : (options : List Tree) → ((settings : List TableSetting) × AreOptionsOf settings options)
    ⊎ ((settings : List TableSetting) → AreOptionsOf settings options → ⊥)
options_or_not options = elim (trees_or_not options (map option_of said)) [
  | inr other ↦ inr (λ settings h. other (h.are ∙ ap (map option_of) (settings_are settings options h.are)))
  | inl are ↦ elim (all_or_not IsAllowed allowed_or_not said) [
    | inr fails ↦ inr (λ settings h. fails (subst (All IsAllowed) (settings_are settings options h.are) h.allowed))
    | inl allowed ↦ elim (pairs_or_not HaveOtherWords words_or_not said) [
      | inr fails ↦ inr (λ settings h.
          fails (subst (AllPairs HaveOtherWords) (settings_are settings options h.are) h.different))
      | inl different ↦ inl (said, record { are = are; allowed = allowed; different = different })
    ]
  ]
]
  where
    said : List TableSetting
    said = map said_by options

-- the options define a table of this name and this cookie
record DefinesTable (table : List ℕ) (cookie : ℕ) (options : Tree) : Type 0 where
  definition : Definition
  name_is : definition.name ≡ table
  cookie_is : definition.cookie ≡ cookie
  defined : IsDefinedBy options definition

-- they define none of this name
abbrev DefinesNoTable : List ℕ → Tree → Type 0
DefinesNoTable table options = (one : Definition) → one.name ≡ table → IsDefinedBy options one → ⊥

options_are : (options : Tree) (one : Definition) (x : IsDefinedBy options one) → x.options ≡ list_of (inner options)
options_are options one x = sym (list_back x.options) ∙ ap (λ o. list_of (inner o)) (sym x.is)

defined_or_not : (table : List ℕ) (cookie : ℕ) (options : Tree)
    → DefinesTable table cookie options ⊎ DefinesNoTable table options
defined_or_not table cookie options = elim (table_or_not table) [
  | inr fails ↦ inr (λ one name x. fails (subst IsTableName name x.named))
  | inl named ↦ elim (tree_or_not options (list (trees_of (list_of (inner options))))) [
    | inr other ↦ inr (λ one name x.
        other (x.is ∙ ap (λ (ts : List Tree). list (trees_of ts)) (options_are options one x)))
    | inl is ↦ elim (options_or_not (list_of (inner options))) [
      | inr none ↦ inr (λ one name x.
          none x.settings (subst (AreOptionsOf x.settings) (options_are options one x) x.say))
      | inl said ↦ inl (record {
        definition = made_of table cookie said.0;
        name_is = refl;
        cookie_is = refl;
        defined = record {
          named = named;
          settings = said.0;
          options = list_of (inner options);
          is = is;
          say = said.1;
          made = refl;
        };
      })
    ]
  ]
]

-- ---- one schema op

module _ (word : List ℕ) (t : Tree) where
  defining_is : (one : Definition) → Defines word t one
      → t ≡ defining_shape word (text (second t)) (number_in (third t)) (fourth t)
  defining_is one x =
      x.is ∙ λ i. defining_shape word (text (second (sym x.is i))) (number_in (third (sym x.is i))) (fourth (sym x.is i))

  cookie_small : (one : Definition) → Defines word t one → number_in (third t) < 2 ^ 64
  cookie_small one x = subst (λ n. n < 2 ^ 64) (sym (ap (λ u. number_in (third u)) x.is)) x.cookie

  none_defined : DefinesNoTable (text (second t)) (fourth t) → (one : Definition) → Defines word t one → ⊥
  none_defined none one x =
      none one (sym (ap (λ u. text (second u)) x.is)) (subst (λ o. IsDefinedBy o one) (sym (ap fourth x.is)) x.defined)

  found_defined : t ≡ defining_shape word (text (second t)) (number_in (third t)) (fourth t)
      → number_in (third t) < 2 ^ 64 → (found : DefinesTable (text (second t)) (number_in (third t)) (fourth t))
      → Defines word t found.definition
  found_defined is small found = record {
    options = fourth t;
    is = is ∙ λ i. defining_shape word (sym found.name_is i) (sym found.cookie_is i) (fourth t);
    cookie = subst (λ n. n < 2 ^ 64) (sym found.cookie_is) small;
    defined = found.defined;
  }

  defines_or_not : ((one : Definition) × Defines word t one) ⊎ ((one : Definition) → Defines word t one → ⊥)
  defines_or_not = elim (tree_or_not t (defining_shape word (text (second t)) (number_in (third t)) (fourth t))) [
    | inr other ↦ inr (λ one x. other (defining_is one x))
    | inl is ↦ elim (cases_lt (number_in (third t)) (2 ^ 64)) [
      | inr large ↦ inr (λ one x. let small = cookie_small one x in omega (arith, small, large))
      | inl small ↦ elim (defined_or_not (text (second t)) (number_in (third t)) (fourth t)) [
        | inr none ↦ inr (none_defined none)
        | inl found ↦ inl (found.definition, found_defined is small found)
      ]
    ]
  ]

  -- the term speaks of no position
  abbrev IndexesNone : Type 0
  IndexesNone = (table : List ℕ) (position : ℕ) → Indexes word t table position → ⊥

  index_is : (table : List ℕ) (position : ℕ) → Indexes word t table position
      → t ≡ index_shape word (text (second t)) (number_in (third t))
  index_is table position x =
      x.is ∙ λ i. index_shape word (text (second (sym x.is i))) (number_in (third (sym x.is i)))

  index_named : (table : List ℕ) (position : ℕ) → Indexes word t table position → IsTableName (text (second t))
  index_named table position x = subst IsTableName (sym (ap (λ u. text (second u)) x.is)) x.named

  index_narrow : (table : List ℕ) (position : ℕ) → Indexes word t table position → number_in (third t) < 2 ^ 32
  index_narrow table position x = subst (λ n. n < 2 ^ 32) (sym (ap (λ u. number_in (third u)) x.is)) x.narrow

  indexes_or_not : Indexes word t (text (second t)) (number_in (third t)) ⊎ IndexesNone
  indexes_or_not = elim (tree_or_not t (index_shape word (text (second t)) (number_in (third t)))) [
    | inr other ↦ inr (λ table position x. other (index_is table position x))
    | inl is ↦ elim (table_or_not (text (second t))) [
      | inr fails ↦ inr (λ table position x. fails (index_named table position x))
      | inl named ↦ elim (cases_lt (number_in (third t)) (2 ^ 32)) [
        | inr large ↦ inr (λ table position x. let small = index_narrow table position x in omega (arith, small, large))
        | inl narrow ↦ inl (record { named = named; narrow = narrow; is = is })
      ]
    ]
  ]

-- the term drops this table
abbrev Drops : Tree → List ℕ → Type 0
Drops t table = IsTableName table × (t ≡ op_shape (codes "drop") table no_trees)

drops_or_not : (t : Tree) → Drops t (text (second t)) ⊎ ((table : List ℕ) → Drops t table → ⊥)
drops_or_not t = elim (tree_or_not t (op_shape (codes "drop") (text (second t)) no_trees)) [
  | inr other ↦ inr (λ table x. other (x.1 ∙ λ i. op_shape (codes "drop") (text (second (sym x.1 i))) no_trees))
  | inl is ↦ elim (table_or_not (text (second t))) [
    | inr fails ↦ inr (λ table x. fails (subst IsTableName (sym (ap (λ u. text (second u)) x.1)) x.0))
    | inl named ↦ inl (named, is)
  ]
]

no_schema_op : (t : Tree) → ((one : Definition) → Defines (codes "create") t one → ⊥)
    → ((table : List ℕ) → Drops t table → ⊥) → IndexesNone (codes "add_index") t → IndexesNone (codes "del_index") t
    → ((one : Definition) → Defines (codes "remake") t one → ⊥) → IsNoSchemaOp t
no_schema_op t no_create no_drop no_add no_delete no_remake (create one) x = no_create one x
no_schema_op t no_create no_drop no_add no_delete no_remake (drop_table table) x = no_drop table x
no_schema_op t no_create no_drop no_add no_delete no_remake (add_index table position) x = no_add table position x
no_schema_op t no_create no_drop no_add no_delete no_remake (del_index table position) x = no_delete table position x
no_schema_op t no_create no_drop no_add no_delete no_remake (remake one) x = no_remake one x

schema_op_or_not : (t : Tree) → ((op : SchemaOperation) × IsSchemaOp t op) ⊎ IsNoSchemaOp t
schema_op_or_not t = elim (defines_or_not (codes "create") t) [
  | inl found ↦ inl (create found.0, found.1)
  | inr no_create ↦ elim (drops_or_not t) [
    | inl found ↦ inl (drop_table (text (second t)), found)
    | inr no_drop ↦ elim (indexes_or_not (codes "add_index") t) [
      | inl found ↦ inl (add_index (text (second t)) (number_in (third t)), found)
      | inr no_add ↦ elim (indexes_or_not (codes "del_index") t) [
        | inl found ↦ inl (del_index (text (second t)) (number_in (third t)), found)
        | inr no_delete ↦ elim (defines_or_not (codes "remake") t) [
          | inl found ↦ inl (remake found.0, found.1)
          | inr no_remake ↦ inr (no_schema_op t no_create no_drop no_add no_delete no_remake)
        ]
      ]
    ]
  ]
]

-- ---- all schema ops

none_first : (t : Tree) (ts : List Tree) → IsNoSchemaOp t → AreNoSchemaOps (t ∷ ts)
none_first t ts none [] h = absurd h
none_first t ts none (op ∷ ops) h = none op h.0

none_behind : (t : Tree) (ts : List Tree) → AreNoSchemaOps ts → AreNoSchemaOps (t ∷ ts)
none_behind t ts none [] h = absurd h
none_behind t ts none (op ∷ ops) h = none ops h.1

pub schema_ops_or_not : (ts : List Tree) → ((ops : List SchemaOperation) × AreSchemaOps ts ops) ⊎ AreNoSchemaOps ts
schema_ops_or_not [] = inl ([], tt)
schema_ops_or_not (t ∷ ts) = elim (schema_op_or_not t) [
  | inr none ↦ inr (none_first t ts none)
  | inl first ↦ elim (schema_ops_or_not ts) [
    | inr none ↦ inr (none_behind t ts none)
    | inl rest ↦ inl (first.0 ∷ rest.0, (first.1, rest.1))
  ]
]
