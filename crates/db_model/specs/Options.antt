-- Lists of options, which say how a table is defined.
use Rattle.std.specs.Prelude.{◌≡◌, ◌≢◌, ◌⊎◌, ℕ, ◌-◌, ◌<◌, ◌≤◌, List, [], ◌∷◌, length, map, take, codes, All, ⊤, slice_get}
use Rattle.std.specs.List.{AllPairs, filter_map}
use Rattle.term_core.specs.Tree.{Tree, atom, tuple, list, Trees, no_trees, tree}
use Rattle.term_core.specs.View.{trees_of}
use Rattle.db_model.specs.Definitions.{Definition, AreAttributes}
use Rattle.db_model.specs.Names.{IsTableName}
use Rattle.db_model.specs.declared.definition.Kind.{Kind}
use Rattle.db_model.specs.declared.definition.Kind.TheVariants.{Set, OrderedSet, Bag}
use Rattle.db_model.specs.declared.error.DefErr.{DefErr}
use Rattle.db_model.specs.declared.error.DefErr.TheVariants.{BadName, BadOption, Memory}

-- what one option says
pub data TableSetting : Type 0 where
  kind_is : (kind : Kind) → TableSetting
  record_name_is : (name : List ℕ) → TableSetting
  attributes_are : (attributes : List Tree) → TableSetting
  indexed_are : (attributes : List Tree) → TableSetting

abbrev pub kind_word : Kind → List ℕ
kind_word Set = codes "set"
kind_word OrderedSet = codes "ordered_set"
kind_word Bag = codes "bag"

abbrev pub word_of : TableSetting → List ℕ
word_of (kind_is kind) = codes "type"
word_of (record_name_is name) = codes "record_name"
word_of (attributes_are attributes) = codes "attributes"
word_of (indexed_are attributes) = codes "index"

abbrev pub value_of : TableSetting → Tree
value_of (kind_is kind) = atom (kind_word kind)
value_of (record_name_is name) = atom name
value_of (attributes_are attributes) = list (trees_of attributes)
value_of (indexed_are attributes) = list (trees_of attributes)

-- `{Word,Value}`
abbrev pub option_shape : List ℕ → Tree → Tree
option_shape word value = tuple (tree (atom word) (tree value no_trees))

abbrev pub option_of : TableSetting → Tree
option_of setting = option_shape (word_of setting) (value_of setting)

-- attributes are 2 to 250 different atoms, and for now no attribute is indexed
abbrev pub IsAllowed : TableSetting → Type 0
IsAllowed (kind_is kind) = ⊤
IsAllowed (record_name_is name) = ⊤
IsAllowed (attributes_are attributes) = AreAttributes attributes
IsAllowed (indexed_are attributes) = attributes ≡ []

-- the option says this
pub record IsOptionOf (setting : TableSetting) (option : Tree) : Type 0 where
  pub is : option ≡ option_of setting
  pub allowed : IsAllowed setting

-- the option says nothing
abbrev pub IsNoOption : Tree → Type 0
IsNoOption option = (setting : TableSetting) → IsOptionOf setting option → ⊥

abbrev pub HaveOtherWords : TableSetting → TableSetting → Type 0
HaveOtherWords one other = word_of one ≢ word_of other

-- the options say this, and no two of them are of one word
pub record AreOptionsOf (settings : List TableSetting) (options : List Tree) : Type 0 where
  pub are : options ≡ map option_of settings
  pub allowed : All IsAllowed settings
  pub different : AllPairs HaveOtherWords settings

-- what options say, or where they leave it out: a set, of records that are called as the table, with a key and a value
abbrev pub kind_in : List TableSetting → Kind
kind_in [] = Set
kind_in (kind_is kind ∷ others) = kind
kind_in (other ∷ others) = kind_in others

abbrev pub record_name_in : List ℕ → List TableSetting → List ℕ
record_name_in name [] = name
record_name_in name (record_name_is record_name ∷ others) = record_name
record_name_in name (other ∷ others) = record_name_in name others

abbrev pub attributes_in : List TableSetting → List Tree
attributes_in [] = atom (codes "key") ∷ atom (codes "val") ∷ []
attributes_in (attributes_are attributes ∷ others) = attributes
attributes_in (other ∷ others) = attributes_in others

-- the definition that these settings make
abbrev pub made_of : List ℕ → ℕ → List TableSetting → Definition
made_of name cookie settings = record {
  name = name;
  kind = kind_in settings;
  record_name = record_name_in name settings;
  attributes = attributes_in settings;
  index = [];
  cookie = cookie;
}

-- The term is a list of options that says how the table is defined. It says nothing of the cookie.
pub record IsDefinedBy (term : Tree) (definition : Definition) : Type 0 where
  pub named : IsTableName definition.name
  pub settings : List TableSetting
  pub options : List Tree
  pub is : term ≡ list (trees_of options)
  pub say : AreOptionsOf settings options
  pub made : definition ≡ made_of definition.name definition.cookie settings

-- the option at this place, from 1, is the first that is ill: those before it say something, and with it they do not
pub record IsFirstIll (place : ℕ) (options : List Tree) : Type 0 where
  pub from_one : 0 < place
  pub within : place ≤ length options
  pub earlier : (settings : List TableSetting) × AreOptionsOf settings (take (place - 1) options)
  pub ill : (settings : List TableSetting) → AreOptionsOf settings (take place options) → ⊥

abbrev pub IsNoList : Tree → Type 0
IsNoList term = (elements : Trees) → term ≡ list elements → ⊥

-- place 0 stands for what is no list
abbrev pub IsIllPlace : ℕ → Tree → Type 0
IsIllPlace place term = ((place ≡ 0) × IsNoList term)
    ⊎ ((options : List Tree) × (term ≡ list (trees_of options)) × IsFirstIll place options)

-- the error names the first option that is ill, and want of memory may come at any time
abbrev pub IsIllOption : List Tree → DefErr → Type 0
IsIllOption options BadName = ⊥
IsIllOption options (BadOption place) = IsFirstIll place options
IsIllOption options Memory = ⊤

-- why no table of this name is defined so; want of memory may come at any time
abbrev pub IsRefusal : List ℕ → Tree → DefErr → Type 0
IsRefusal name term BadName = IsTableName name → ⊥
IsRefusal name term (BadOption place) = IsTableName name × IsIllPlace place term
IsRefusal name term Memory = ⊤

-- the attributes at these positions, of which the first attribute's is 2
abbrev pub attributes_at : List Tree → List ℕ → List Tree
attributes_at attributes positions = filter_map (λ position. slice_get attributes (position - 2)) positions

-- all that options can say of a definition
abbrev pub settings_of : Definition → List TableSetting
settings_of definition = kind_is definition.kind ∷ record_name_is definition.record_name
    ∷ attributes_are definition.attributes ∷ indexed_are (attributes_at definition.attributes definition.index) ∷ []

-- `[{type,Kind},{record_name,Name},{attributes,[Attribute,..]},{index,[Attribute,..]}]`
abbrev pub create_tree : Definition → Tree
create_tree definition = list (trees_of (map option_of (settings_of definition)))
