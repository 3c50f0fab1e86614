-- Files of items whose first item says a number, and whose other items say one thing each.
use Rattle.std.specs.Prelude.{◌≡◌, ◌⊎◌, ℕ, pos, ◌+◌, ◌<◌, ◌^◌, List, [], ◌∷◌, ◌++◌, length, take, ⊤, Option, None, Some}
use Rattle.std.specs.List.{AllZip, AllByRecursion}
use Rattle.term_core.specs.Tree.{Tree, int, atom, tuple, no_trees, tree}
use Rattle.term_wire.specs.Spelling.{IsText}
use Rattle.log_items.specs.Items.{wire, item_bytes, IsContent, HasItems}
use Rattle.log_items.specs.Scan.{IsBadAt}

-- What such a file may have: the word of its first item, the numbers with which it is not another's, what a content
-- says, and which lists of that the others may say, of which the first ones may be all.
pub record Form (X : Type 0) : Type 1 where
  pub word : List ℕ
  pub Counts : ℕ → Type 0
  pub Says : List ℕ → X → Type 0
  pub Allows : List X → Type 0

-- each comes before all that stand behind it
abbrev pub AreIncreasing : {X : Type 0} → (X → X → Type 0) → List X → Type 0
AreIncreasing Before [] = ⊤
AreIncreasing Before (x ∷ xs) = AllByRecursion (Before x) xs × AreIncreasing Before xs

-- ---- the first item

-- `{Word,Number}`
abbrev pub head_tree : List ℕ → ℕ → Tree
head_tree word number = tuple (tree (atom word) (tree (int (pos number)) no_trees))

-- the content is a text of it, and the number has 64 bits
abbrev pub IsHead : List ℕ → ℕ → List ℕ → Type 0
IsHead word number content = (number < 2 ^ 64) × IsText content (head_tree word number)

-- items begin with it
abbrev pub BeginWith : List ℕ → ℕ → List (List ℕ) → Type 0
BeginWith word number [] = ⊥
BeginWith word number (first ∷ others) = IsHead word number first

-- they begin with none of this word, whatever the number, or there are none
abbrev pub LackHead : List ℕ → List (List ℕ) → Type 0
LackHead word items = (number : ℕ) → BeginWith word number items → ⊥

-- ---- the items

-- the items of a file with this number that says these things
abbrev pub AreItemsOf : {X : Type 0} → Form X → ℕ → List X → List (List ℕ) → Type 0
AreItemsOf form number xs [] = ⊥
AreItemsOf form number xs (first ∷ contents) =
    IsHead form.word number first × AllZip form.Says contents xs × form.Allows xs

-- the bytes of a whole item that says this
pub record IsItemOf {X : Type 0} (form : Form X) (x : X) (bytes : List ℕ) : Type 0 where
  pub content : List ℕ
  pub is : bytes ≡ item_bytes content
  pub says : form.Says content x
  pub fits : IsContent content

-- The file says these things, under a number with which it counts.
pub record Gives {X : Type 0} (form : Form X) (number : ℕ) (xs : List X) (file : Option (List ℕ)) : Type 0 where
  pub counts : form.Counts number
  pub bytes : List ℕ
  pub there : file ≡ Some bytes
  pub items : List (List ℕ)
  pub listed : HasItems bytes items
  pub are : AreItemsOf form number xs items

-- The file is another's: of its items the first alone is looked at, and the number that it says does not count.
pub record IsOfOther (word : List ℕ) (Counts : ℕ → Type 0) (file : Option (List ℕ)) : Type 0 where
  pub bytes : List ℕ
  pub there : file ≡ Some bytes
  pub items : List (List ℕ)
  pub listed : HasItems bytes items
  pub number : ℕ
  pub begin : BeginWith word number items
  pub other : Counts number → ⊥

-- there is no file, or it is another's
abbrev pub IsAbsent : {X : Type 0} → Form X → Option (List ℕ) → Type 0
IsAbsent form file = (file ≡ None) ⊎ IsOfOther form.word form.Counts file

-- ---- files without a meaning

-- behind what these items say, the content says nothing that is allowed there
abbrev pub IsOther : {X : Type 0} → Form X → List X → List ℕ → Type 0
IsOther {X} form xs content = (x : X) → form.Allows (xs ++ x ∷ []) → form.Says content x → ⊥

-- the file counts, and behind items that say what is allowed stands, as item number n, one that does not
pub record HasOther {X : Type 0} (form : Form X) (items : List (List ℕ)) (n : ℕ) : Type 0 where
  pub number : ℕ
  pub counts : form.Counts number
  pub xs : List X
  pub front : List (List ℕ)
  pub other : List ℕ
  pub others : List (List ℕ)
  pub are : AreItemsOf form number xs front
  pub bad : IsOther form xs other
  pub is : items ≡ front ++ other ∷ others
  pub place : n ≡ length front

-- the first item that should not be there, or the missing one, is number n, counted from 0
abbrev pub IsWrongFrom : {X : Type 0} → Form X → List (List ℕ) → ℕ → Type 0
IsWrongFrom form items n = ((n ≡ 0) × LackHead form.word items) ⊎ HasOther form items n

-- such an item stands at this place, or would
pub record IsWrongAt {X : Type 0} (form : Form X) (items : List (List ℕ)) (at : ℕ) : Type 0 where
  pub n : ℕ
  pub wrong : IsWrongFrom form items n
  pub place : at ≡ 8 + length (wire (take n items))

-- the file is no file of items, or none of this form, from this place on
pub record IsWrong {X : Type 0} (form : Form X) (at : ℕ) (file : Option (List ℕ)) : Type 0 where
  pub bytes : List ℕ
  pub there : file ≡ Some bytes
  pub wrong : IsBadAt bytes at ⊎ ((items : List (List ℕ)) × HasItems bytes items × IsWrongAt form items at)
