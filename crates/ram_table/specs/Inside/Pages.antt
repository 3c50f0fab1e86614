-- Pages of records.
use Rattle.std.specs.Prelude.{◌≡◌, ℕ, ◌+◌, ◌-◌, ◌*◌, ◌/◌, ◌<◌, ◌≤◌, suc, ◌⊎◌, Bool, true, false}
use Rattle.std.specs.Prelude.{List, [], ◌∷◌, ◌++◌, length, slice_index_or, take, drop}
use Rattle.std.specs.List.{AllByRecursion}
use Rattle.std.specs.Ordering.{is_gt, is_lt, is_eq}
use Rattle.std.specs.declared.cmp.Ordering.{Ordering}
use Rattle.std.specs.declared.cmp.Ordering.TheVariants.{Less, Equal, Greater}
use Rattle.term_core.specs.Tree.{Tree}
use Rattle.term_core.specs.Order.{same_tree}
use Rattle.term_core.specs.View.{tree_of}
use Rattle.term_core.specs.declared.term.Term.{Term}
use Rattle.db_model.specs.declared.definition.Kind.{Kind}
use Rattle.ram_table.specs.Inside.Rows.{row_key, key_cmp, AreKeyed, IsKeyLess, IsIncreasing}

-- the records of all pages, one page after another
abbrev pub joined : List (List Term) → List Term
joined [] = []
joined (page ∷ pages) = page ++ joined pages

-- all have the key of the first
abbrev pub IsOneKey : List Term → Type 0
IsOneKey [] = Unit {0}
IsOneKey (row ∷ rows) = AllByRecursion (λ later. key_cmp (row_key row) later ≡ Equal) rows

-- at least one record, and at most 64 or all of one key
abbrev pub IsPage : List Term → Type 0
IsPage page = (0 < length page) × ((length page ≤ 64) ⊎ IsOneKey page)

-- each key of the first records is less than each of the others
abbrev pub AreBelow : List Term → List Term → Type 0
AreBelow rows others = AllByRecursion (λ row. AllByRecursion (IsKeyLess row) others) rows

-- the keys of each page are below those of all later pages
abbrev pub IsApart : List (List Term) → Type 0
IsApart [] = Unit {0}
IsApart (page ∷ pages) = AreBelow page (joined pages) × IsApart pages

-- the records are in order, each page is one, and no key is in two pages
pub record IsPaged (kind : Kind) (pages : List (List Term)) : Type 0 where
  pub increasing : IsIncreasing kind (joined pages)
  pub each : AllByRecursion IsPage pages
  pub apart : IsApart pages

-- so many handles of pages have a place where there are so many records
abbrev pub room_for : ℕ → ℕ
room_for count = (count + 1023) / 1024 * 1024

-- what holds of a table's parts: its pages, how many records it has, and for how many pages there is room
pub record IsTable (kind : Kind) (pages : List (List Term)) (count room : ℕ) : Type 0 where
  pub paged : IsPaged kind pages
  pub keyed : AreKeyed (joined pages)
  pub counted : count ≡ length (joined pages)
  pub roomy : room_for count ≤ room

-- pages of a table of some kind
abbrev pub IsSorted : List (List Term) → Type 0
IsSorted pages = (kind : Kind) × IsPaged kind pages

-- ---- places

-- whether the page's first record is above the key
abbrev pub starts_above : Tree → List Term → Bool
starts_above k [] = false
starts_above k (row ∷ rows) = is_gt (key_cmp k row)

-- whether the first record ties
abbrev pub starts_tied : (Term → Ordering) → List Term → Bool
starts_tied s [] = false
starts_tied s (row ∷ rows) = is_eq (s row)

-- whether the first record is this one
abbrev pub starts_same : Tree → List Term → Bool
starts_same t [] = false
starts_same t (row ∷ rows) = same_tree (tree_of row) t

-- the first record's key against another key
abbrev pub first_key_cmp : Tree → List Term → Ordering
first_key_cmp k [] = Equal
first_key_cmp k (row ∷ rows) = key_cmp k row

-- from the i-th on the pages start above the key, and the one before does not
pub record IsPagePlace (k : Tree) (pages : List (List Term)) (i : ℕ) : Type 0 where
  pub within : i ≤ length pages
  pub before : 0 < i → starts_above k (slice_index_or pages (i - 1) []) ≡ false
  pub behind : i < length pages → starts_above k (slice_index_or pages i []) ≡ true

-- what the pages before the i-th hold is below the key, and what those behind it hold is above
pub record IsAround (k : Tree) (pages : List (List Term)) (i : ℕ) : Type 0 where
  pub within : i < length pages
  pub before : AllByRecursion (λ row. key_cmp k row ≡ Less) (joined (take i pages))
  pub behind : AllByRecursion (λ row. key_cmp k row ≡ Greater) (joined (drop (suc i) pages))

-- the record before the i-th is below, and the i-th is not
pub record IsLowerBound (s : Term → Ordering) (rows : List Term) (i : ℕ) : Type 0 where
  pub within : i ≤ length rows
  pub before : (d : Term) → 0 < i → is_lt (s (slice_index_or rows (i - 1) d)) ≡ true
  pub behind : (d : Term) → i < length rows → is_lt (s (slice_index_or rows i d)) ≡ false

-- the i-th record is above, and the one before is not
pub record IsUpperBound (s : Term → Ordering) (rows : List Term) (i : ℕ) : Type 0 where
  pub within : i ≤ length rows
  pub before : (d : Term) → 0 < i → is_gt (s (slice_index_or rows (i - 1) d)) ≡ false
  pub behind : (d : Term) → i < length rows → is_gt (s (slice_index_or rows i d)) ≡ true

-- a place between two keys
pub record IsCut (rows : List Term) (i : ℕ) : Type 0 where
  pub behind_first : 0 < i
  pub within : i < length rows
  pub between : AreBelow (take i rows) (drop i rows)
