-- One lock more on a table.
use Rattle.std.proofs.Common.{◌≡◌, Bool, true, false, ◌||◌, None, Some, refl, ap, ap₂, ◌∙◌}
use Rattle.std.specs.List.{list_any}
use Rattle.std.specs.Ordering.{on}
use Rattle.std.specs.BTreeSet.{insert_key}
use Rattle.term_core.specs.Tree.{Tree, tree_cmp}
use Rattle.term_core.specs.View.{tree_of}
use Rattle.term_core.specs.Order.{same_tree, tree_cmp-IsAntisymmetric, same_tree_true}
use Rattle.term_core.specs.declared.term.Term.{Term}
use Rattle.txn_core.specs.Held.{is_read, Reads}
use Rattle.txn_core.specs.declared.table_reads.TableReads.{TableReads}
use Rattle.txn_core.proofs.Entries.{any-inserted}

or_true : (a : Bool) → true ≡ (a || true)
or_true true = refl
or_true false = refl

-- all of the table is locked
pub whole_taken : (old new : TableReads) → new.whole ≡ true → Reads old new None
whole_taken old new whole None = refl
whole_taken old new whole (Some asked) =
    ap (λ w. w || is_read asked new) whole ∙ or_true (old.whole || is_read asked old)

-- the key was locked already
pub key_there : (reads : TableReads) (key : Tree) → is_read key reads ≡ true → Reads reads reads (Some key)
key_there reads key there None = refl
key_there reads key there (Some asked) =
    by (same_tree asked key) (is_read asked reads)
    (λ same. ap (λ t. is_read t reads) (same_tree_true asked key same) ∙ there) reads.whole
  where
    by : (b own : Bool) → (b ≡ true → own ≡ true) → (whole : Bool) → (whole || own) ≡ ((whole || own) || b)
    by b own h true = refl
    by true own h false = h refl ∙ or_true own
    by false true h false = refl
    by false false h false = refl

-- the key is locked now
pub key_taken : (old new : TableReads) (term : Term) (key : Tree) → tree_of term ≡ key → new.whole ≡ old.whole
    → new.keys.keys ≡ insert_key (on tree_of tree_cmp) old.keys.keys term → Reads old new (Some key)
key_taken old new term key same whole keys None = refl
key_taken old new term key same whole keys (Some asked) =
    ap₂ (λ w ks. w || list_any (λ own. same_tree asked (tree_of own)) ks) whole keys
    ∙ ap (λ b. old.whole || b) (any-inserted tree_of tree_cmp tree_cmp-IsAntisymmetric old.keys.keys term asked
    ∙ ap (λ k. same_tree asked k || is_read asked old) same)
    ∙ moved old.whole (same_tree asked key) (is_read asked old)
  where
    moved : (a b c : Bool) → (a || (b || c)) ≡ ((a || c) || b)
    moved true b c = refl
    moved false true true = refl
    moved false true false = refl
    moved false false true = refl
    moved false false false = refl
