-- What a term can stand for.
use Rattle.std.specs.Prelude.{◌<◌, ◌≤◌, length, FitsSigned, All, ⊤}
use Rattle.std.specs.Int.{w128}
use Rattle.std.specs.Str.{IsUtf8, chars}
use Rattle.term_core.specs.Tree.{Tree, int, atom, tuple, list, bin, Trees, no_trees, tree}

abbrev mutual
  -- numbers of 128 bits, atoms of at most 255 characters, and bytes
  pub IsKept : Tree → Type 0
  IsKept (int n) = FitsSigned w128 n
  IsKept (atom a) = IsUtf8 a × (length (chars a) ≤ 255)
  IsKept (tuple ts) = AreKept ts
  IsKept (list ts) = AreKept ts
  IsKept (bin b) = All (λ byte. byte < 256) b

  pub AreKept : Trees → Type 0
  AreKept no_trees = ⊤
  AreKept (tree t ts) = IsKept t × AreKept ts
