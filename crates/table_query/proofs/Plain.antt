-- Patterns without wildcards and variables.
use Rattle.std.proofs.Common.{◌≡◌, ◌↔◌, ◌∙◌, Bool, true, false, Some, refl, sym, ap, subst}
use Rattle.std.specs.Prelude.{MatchBool, ⊤}
use Rattle.term_core.specs.Tree.{Tree, int, atom, tuple, list, bin, Trees, no_trees, tree, key_of}
use Rattle.table_query.specs.Patterns.{Assignment, is_wildcard, is_variable, IsMatch, AreMatches, Matches, AllAtomsOf, IsPlain}

last_choice : (wildcard variable : Bool) (P Q : Type 0) → wildcard ≡ false → variable ≡ false
    → MatchBool wildcard ⊤ (MatchBool variable P Q) ↔ Q
last_choice true variable P Q w v = absurd cc
last_choice false true P Q w v = absurd cc
last_choice false false P Q w v = (λ q. q, λ q. q)

abbrev pub ArePlain : Trees → Type 0
ArePlain ps = AllAtomsOf (λ name. (is_wildcard name ≡ false) × (is_variable name ≡ false)) ps

mutual
  only_itself : (a : Assignment) (p t : Tree) → IsPlain p → IsMatch a p t → t ≡ p
  only_itself a (int n) t plain h = h
  only_itself a (atom name) t plain h =
      (last_choice (is_wildcard name) (is_variable name) (t ≡ a name) (t ≡ atom name) plain.0 plain.1).0 h
  only_itself a (tuple ps) (int n) plain h = absurd h
  only_itself a (tuple ps) (atom name) plain h = absurd h
  only_itself a (tuple ps) (tuple ts) plain h = ap tuple (only_themselves a ps ts plain h)
  only_itself a (tuple ps) (list ts) plain h = absurd h
  only_itself a (tuple ps) (bin b) plain h = absurd h
  only_itself a (list ps) (int n) plain h = absurd h
  only_itself a (list ps) (atom name) plain h = absurd h
  only_itself a (list ps) (tuple ts) plain h = absurd h
  only_itself a (list ps) (list ts) plain h = ap list (only_themselves a ps ts plain h)
  only_itself a (list ps) (bin b) plain h = absurd h
  only_itself a (bin b) t plain h = h

  only_themselves : (a : Assignment) (ps ts : Trees) → ArePlain ps → AreMatches a ps ts → ts ≡ ps
  only_themselves a no_trees no_trees plain h = refl
  only_themselves a no_trees (tree t ts) plain h = absurd h
  only_themselves a (tree p ps) no_trees plain h = absurd h
  only_themselves a (tree p ps) (tree t ts) plain h =
      λ i. tree (only_itself a p t plain.0 h.0 i) (only_themselves a ps ts plain.1 h.1 i)

mutual
  itself : (a : Assignment) (p : Tree) → IsPlain p → IsMatch a p p
  itself a (int n) plain = refl
  itself a (atom name) plain =
      (last_choice (is_wildcard name) (is_variable name) (atom name ≡ a name) (atom name ≡ atom name) plain.0 plain.1).1 refl
  itself a (tuple ps) plain = themselves a ps plain
  itself a (list ps) plain = themselves a ps plain
  itself a (bin b) plain = refl

  themselves : (a : Assignment) (ps : Trees) → ArePlain ps → AreMatches a ps ps
  themselves a no_trees plain = tt
  themselves a (tree p ps) plain = (itself a p plain.0, themselves a ps plain.1)

-- such a pattern matches itself alone
pub plain_is : (p t : Tree) → IsPlain p → Matches p t ↔ (t ≡ p)
plain_is p t plain = (
  λ (a, h). only_itself a p t plain h,
  λ same. (atom, subst (IsMatch atom p) (sym same) (itself atom p plain)),
)

-- what matches a pattern whose key is such has that key
key_is : (a : Assignment) (p t key : Tree) → key_of p ≡ Some key → IsPlain key → IsMatch a p t → key_of t ≡ Some key
key_is a (int n) t key is plain h = absurd cc
key_is a (atom name) t key is plain h = absurd cc
key_is a (list ps) t key is plain h = absurd cc
key_is a (bin b) t key is plain h = absurd cc
key_is a (tuple no_trees) t key is plain h = absurd cc
key_is a (tuple (tree first no_trees)) t key is plain h = absurd cc
key_is a (tuple (tree first (tree own others))) (int n) key is plain h = absurd h
key_is a (tuple (tree first (tree own others))) (atom name) key is plain h = absurd h
key_is a (tuple (tree first (tree own others))) (list ts) key is plain h = absurd h
key_is a (tuple (tree first (tree own others))) (bin b) key is plain h = absurd h
key_is a (tuple (tree first (tree own others))) (tuple no_trees) key is plain h = absurd h
key_is a (tuple (tree first (tree own others))) (tuple (tree one no_trees)) key is plain h = absurd h.1
key_is a (tuple (tree first (tree own others))) (tuple (tree one (tree other more))) key is plain h =
    let same : own ≡ key = cc in
    ap Some (only_itself a own other (subst IsPlain (sym same) plain) h.1.0 ∙ same)

pub bound_is : (p t key : Tree) → key_of p ≡ Some key → IsPlain key → Matches p t → key_of t ≡ Some key
bound_is p t key is plain (a, h) = key_is a p t key is plain h
