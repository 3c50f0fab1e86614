-- A term seen as its tree.
use Rattle.std.specs.Prelude.{List, [], ◌∷◌, map}
use Rattle.term_core.specs.Tree.{Tree, int, atom, tuple, list, bin, Trees, no_trees, tree}
use Rattle.term_core.specs.declared.term.Term.{Term}
use Rattle.term_core.specs.declared.term.Term.TheFolds.{fold-Term}
use Rattle.term_core.specs.declared.term.Term.TheOpen.{Term-F}

abbrev pub trees_of : List Tree → Trees
trees_of [] = no_trees
trees_of (t ∷ ts) = tree t (trees_of ts)

-- one level, with each term inside already seen as its tree
abbrev pub tree_step : Term-F Tree → Tree
tree_step (Term-F.Int n) = int n
tree_step (Term-F.Atom a) = atom a
tree_step (Term-F.Tuple ts) = tuple (trees_of ts)
tree_step (Term-F.List ts) = list (trees_of ts)
tree_step (Term-F.Bin b) = bin b

abbrev pub tree_of : Term → Tree
tree_of = fold-Term Tree tree_step

abbrev pub forest_of : List Term → Trees
forest_of ts = trees_of (map tree_of ts)
