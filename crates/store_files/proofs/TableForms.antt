-- What the files of a table may say.
use Rattle.std.proofs.Common.{◌≡◌, ◌≤◌, ℕ, Bool, true, List, [], ◌∷◌, ◌++◌, Option, Some, None, refl, sym, ap, ◌∙◌, subst, arith}
use Rattle.std.specs.Prelude.{All, IsTrue, IsSome, MatchOption}
use Rattle.std.proofs.lemmas.List.Elements.{All-nil, All-cons, All-head, All-tail, All-append}
use Rattle.term_core.specs.Tree.{Tree, int, atom, tuple, list, bin, Trees, no_trees, tree, count, key_of}
use Rattle.term_core.specs.View.{tree_of}
use Rattle.term_core.specs.declared.term.Term.{Term}
use Rattle.term_wire.proofs.Again.{one_tree}
use Rattle.db_model.specs.Database.{Contents, put_record, put_op}
use Rattle.db_model.specs.Definitions.{Definition, IsDefinition}
use Rattle.db_model.specs.Ops.{Operation}
use Rattle.db_model.specs.Records.{HasElements, Fits}
use Rattle.db_model.specs.declared.definition.Kind.{Kind}
use Rattle.db_model.proofs.Shapes.{same_op}
use Rattle.ram_table.specs.Contents.{put_ops}
use Rattle.store_files.specs.Forms.{AreIncreasing, IsOther}
use Rattle.store_files.specs.Tables.{is_before, IsBefore, AreRecords, dcd_form, IsChange, MayChange, dcl_form}
use Rattle.store_files.specs.Inside.Reading.{IsLast}
use Rattle.store_files.proofs.Increasing.{increasing_first, increasing_last, increasing_more}
use Rattle.store_files.proofs.OneFile.{IsTold}
use Rattle.store_files.proofs.RecordOrder.{before_trans, put_behind}

module _ {X : Type 0} (P : X → Type 0) where
  all_first : (xs ys : List X) → All P (xs ++ ys) → All P xs
  all_first [] ys h = All-nil P
  all_first (x ∷ xs) ys h = All-cons P x xs (All-head P x (xs ++ ys) h) (all_first xs ys (All-tail P x (xs ++ ys) h))

  pub all_last : (xs : List X) (x : X) → All P (xs ++ x ∷ []) → P x
  all_last [] x h = All-head P x [] h
  all_last (y ∷ xs) x h = all_last xs x (All-tail P y (xs ++ x ∷ []) h)

  pub all_more : (xs : List X) (x : X) → All P xs → P x → All P (xs ++ x ∷ [])
  all_more xs x h one = All-append P xs (x ∷ []) h (All-cons P x [] one (All-nil P))

-- ---- records

pub dcd_told : (table : Definition) → IsTold (dcd_form table)
dcd_told table = record {
  one = λ content x y a b. one_tree content x y a b;
  first = λ xs ys h. record {
    fit = all_first (Fits table) xs ys h.fit;
    increasing = increasing_first (IsBefore table.kind) xs ys h.increasing;
  };
}

-- a record that fits may stand behind the last one where it comes behind it
pub stands : (table : Definition) (rows : Contents) (last : Option Term) (row : Tree) (b : Bool) → AreRecords table rows
    → IsLast rows last → Fits table row → MatchOption last (b ≡ true) (λ l. b ≡ is_before table.kind (tree_of l) row)
    → (IsTrue b → AreRecords table (rows ++ row ∷ [])) × (AreRecords table (rows ++ row ∷ []) → IsTrue b)
stands table rows None row b are none fits is = (
  λ yes. record {
    fit = all_more (Fits table) rows row are.fit fits;
    increasing = subst (λ rs. AreIncreasing (IsBefore table.kind) (rs ++ row ∷ [])) (sym none) (tt, tt);
  },
  λ all. is,
)
stands table rows (Some last) row b are has fits is =
    let Before = IsBefore table.kind in (
      λ yes. record {
        fit = all_more (Fits table) rows row are.fit fits;
        increasing = subst (λ rs. AreIncreasing Before (rs ++ row ∷ [])) (sym has.is)
            (increasing_more Before (before_trans table.kind) has.front (tree_of last) row
            (subst (AreIncreasing Before) has.is are.increasing) (sym is ∙ yes));
      },
      λ all. is ∙ increasing_last Before has.front (tree_of last) row
          (subst (λ rs. AreIncreasing Before (rs ++ row ∷ [])) has.is all.increasing),
    )

-- what does not fit may not stand anywhere
pub last_fits : (table : Definition) (rows : Contents) (row : Tree) → AreRecords table (rows ++ row ∷ []) → Fits table row
last_fits table rows row h = all_last (Fits table) rows row h.fit

elements_keyed : (first : Tree) (elements : Trees) → 2 ≤ count elements → IsSome (key_of (tuple (tree first elements)))
elements_keyed first no_trees some = absurd (omega (arith, some))
elements_keyed first (tree key others) some = refl

row_keyed : (table : Definition) (row : Tree) → IsDefinition table → HasElements table row → IsSome (key_of row)
row_keyed table (int n) is h = absurd h
row_keyed table (atom a) is h = absurd h
row_keyed table (tuple no_trees) is h = absurd h
row_keyed table (tuple (tree (int n) elements)) is h = absurd h
row_keyed table (tuple (tree (atom name) elements)) is h =
    elements_keyed (atom name) elements (omega (arith, h.1, is.attributes.some))
row_keyed table (tuple (tree (tuple ts) elements)) is h = absurd h
row_keyed table (tuple (tree (list ts) elements)) is h = absurd h
row_keyed table (tuple (tree (bin b) elements)) is h = absurd h
row_keyed table (list ts) is h = absurd h
row_keyed table (bin b) is h = absurd h

-- a record that fits has a key
pub fit_keyed : (table : Definition) (row : Tree) → IsDefinition table → Fits table row → IsSome (key_of row)
fit_keyed table row is h = row_keyed table row is h.0

-- what is written behind all stands there
pub put_last : (table : Definition) (kind : Kind) (rows after : Contents) (row : Tree) → kind ≡ table.kind
    → AreRecords table (rows ++ row ∷ []) → after ≡ put_record kind row rows → after ≡ rows ++ row ∷ []
put_last table kind rows after row same are is =
    is ∙ ap (λ k. put_record k row rows) same ∙ put_behind table.kind rows row are.increasing

-- ---- ops

pub one_change : (content : List ℕ) (op other : Operation) → IsChange content op → IsChange content other → op ≡ other
one_change content op other (t, text, x) (u, also, y) = same_op op other (sym x.is ∙ one_tree content t u text also ∙ y.is)

pub dcl_told : (table : Definition) → IsTold (dcl_form table)
dcl_told table = record { one = one_change; first = λ xs ys h. all_first (MayChange table) xs ys h }

pub other_change : (table : Definition) (ops : List Operation) (content : List ℕ)
    → ((op : Operation) → MayChange table op → IsChange content op → ⊥) → IsOther (dcl_form table) ops content
other_change table ops content none op allows says = none op (all_last (MayChange table) ops op allows) says

pub put_ops_more : (kind : Kind) (ops : List Operation) (op : Operation) (rows : Contents)
    → put_ops kind (ops ++ op ∷ []) rows ≡ put_op kind op (put_ops kind ops rows)
put_ops_more kind [] op rows = refl
put_ops_more kind (first ∷ ops) op rows = put_ops_more kind ops op (put_op kind first rows)
