-- A file is a log of allowed commits, or has a first wrong place.
use Rattle.std.proofs.Common.{◌≡◌, ◌⊎◌, ℕ, ◌+◌, ◌^◌, ◌<◌, List, [], ◌∷◌, ◌++◌, length, take, map, Option, None, Some, Result, Ok, Err, refl, sym, ap, ◌∙◌, subst, inl, inr, arith, append-nil, append_assoc}
use Rattle.std.specs.Prelude.{All}
use Rattle.std.proofs.lemmas.Bool.{cases_lt}
use Rattle.std.proofs.lemmas.List.Elements.{All-cons, All-nil, All-head, All-tail}
use Rattle.term_core.specs.Tree.{Tree, Trees, no_trees, tree, text, inner}
use Rattle.term_core.specs.View.{trees_of}
use Rattle.term_wire.specs.Decoding.{read}
use Rattle.term_wire.specs.declared.error.WireErr.{WireErr}
use Rattle.term_wire.specs.Spelling.{AreBytes, IsText}
use Rattle.term_wire.proofs.Again.{read_again, one_tree}
use Rattle.term_wire.proofs.Found.{read_text}
use Rattle.term_wire.proofs.Law.{IsByte}
use Rattle.term_wire.proofs.Texts.{text_bytes}
use Rattle.log_items.specs.Items.{wire}
use Rattle.log_items.proofs.Unique.{file_or_bad}
use Rattle.db_model.specs.Commits.{SchemaOperation, CommitRecord}
use Rattle.db_model.specs.Names.{IsTableName}
use Rattle.db_model.specs.Ops.{Operation, write, delete, delete_object, clear, table_of, op_tree, HasNoOp, IsOp, IsNoOp}
use Rattle.db_model.proofs.Shapes.{same_op}
use Rattle.txn_log.specs.Commits.{IsNamed, IsCommit, IsNoCommit, AreSchemaOps, AreNoSchemaOps, AreCommits, AreItemsOf, HasCommit, HasNoCommit, IsHead, commit_shape, log_head}
use Rattle.txn_log.specs.Logs.{Reads, IsOther, IsWrongFrom, IsWrong}
use Rattle.txn_log.proofs.CommitLists.{TellsNext}
use Rattle.txn_log.proofs.CommitsRead.{same_content, all_formed}
use Rattle.txn_log.proofs.Deciding.{tree_or_not, all_or_not, table_or_not, second, third, fourth, number_in, list_of, list_back, trees_back}
use Rattle.txn_log.proofs.SchemaDecided.{schema_ops_or_not}

-- ---- texts

byte_or_not : (n : ℕ) → IsByte n ⊎ (IsByte n → ⊥)
byte_or_not n = elim (cases_lt n 256) [ inl small ↦ inl small | inr large ↦ inr (λ h. omega (arith, h, large)) ]

-- a list of bytes, or with another number
bytes_or_not : (content : List ℕ) → AreBytes content ⊎ (AreBytes content → ⊥)
bytes_or_not = all_or_not IsByte byte_or_not

-- the content is a text of no tree
abbrev IsNoText : List ℕ → Type 0
IsNoText content = (t : Tree) → IsText content t → ⊥

-- what reads as a tree is a text of it, where it is bytes
text_or_not : (content : List ℕ) (t : Tree) → read content ≡ Ok t → IsText content t ⊎ IsNoText content
text_or_not content t is_read = elim (bytes_or_not content) [
  | inl bytes ↦ inl (read_text content t bytes is_read)
  | inr other ↦ inr (λ u text. other (text_bytes content u text))
]

-- the tree that a content is a text of, or none
some_text : (content : List ℕ) → ((t : Tree) × IsText content t) ⊎ IsNoText content
some_text content = by (read content) refl
  where
    by : (r : Result Tree WireErr) → read content ≡ r → ((t : Tree) × IsText content t) ⊎ IsNoText content
    by (Err e) is = inr (λ t text. let found = read_again content t text in cc (found, is))
    by (Ok t) is = elim (text_or_not content t is) [ inl text ↦ inl (t, text) | inr none ↦ inr none ]

-- ---- an op

-- the term of an op, whatever its table is called, or of none
some_op : (t : Tree) → ((op : Operation) × (t ≡ op_tree op)) ⊎ HasNoOp t
some_op t = elim (tree_or_not t (op_tree (write table row))) [
  | inl is ↦ inl (write table row, is)
  | inr no_write ↦ elim (tree_or_not t (op_tree (delete table row))) [
    | inl is ↦ inl (delete table row, is)
    | inr no_delete ↦ elim (tree_or_not t (op_tree (delete_object table row))) [
      | inl is ↦ inl (delete_object table row, is)
      | inr no_object ↦ elim (tree_or_not t (op_tree (clear table))) [
        | inl is ↦ inl (clear table, is)
        | inr no_clear ↦ inr (none no_write no_delete no_object no_clear)
      ]
    ]
  ]
]
  where
    table : List ℕ
    table = text (second t)

    row : Tree
    row = third t

    none : (t ≡ op_tree (write table row) → ⊥) → (t ≡ op_tree (delete table row) → ⊥)
        → (t ≡ op_tree (delete_object table row) → ⊥) → (t ≡ op_tree (clear table) → ⊥) → HasNoOp t
    none no_write no_delete no_object no_clear (write x y) is =
        no_write (is ∙ λ i. op_tree (write (text (second (sym is i))) (third (sym is i))))
    none no_write no_delete no_object no_clear (delete x y) is =
        no_delete (is ∙ λ i. op_tree (delete (text (second (sym is i))) (third (sym is i))))
    none no_write no_delete no_object no_clear (delete_object x y) is =
        no_object (is ∙ λ i. op_tree (delete_object (text (second (sym is i))) (third (sym is i))))
    none no_write no_delete no_object no_clear (clear x) is =
        no_clear (is ∙ λ i. op_tree (clear (text (second (sym is i)))))

op_or_not : (t : Tree) → ((op : Operation) × IsOp t op) ⊎ IsNoOp t
op_or_not t = elim (some_op t) [
  | inr none ↦ inr (λ op h. none op h.is)
  | inl found ↦ elim (table_or_not (table_of found.0)) [
    | inl named ↦ inl (found.0, record { named = named; is = found.1 })
    | inr fails ↦ inr (λ op h. fails (subst (λ x. IsTableName (table_of x)) (same_op op found.0 (sym h.is ∙ found.1)) h.named))
  ]
]

-- the terms of ops, which name what tables can be called
abbrev AreOpsOf : Trees → List Operation → Type 0
AreOpsOf ts ops = All IsNamed ops × (ts ≡ trees_of (map op_tree ops))

first_is : (t u : Tree) (ts us : Trees) → tree t ts ≡ tree u us → t ≡ u
first_is t u ts us is = cc

others_are : (t u : Tree) (ts us : Trees) → tree t ts ≡ tree u us → ts ≡ us
others_are t u ts us is = cc

none_first : (t : Tree) (ts : Trees) → IsNoOp t → (ops : List Operation) → AreOpsOf (tree t ts) ops → ⊥
none_first t ts none [] h = let is : tree t ts ≡ no_trees = h.1 in absurd (cc)
none_first t ts none (op ∷ ops) h =
    let is = first_is t (op_tree op) ts (trees_of (map op_tree ops)) h.1 in
    none op (record { named = All-head IsNamed op ops h.0; is = is })

none_behind : (t : Tree) (ts : Trees) → ((ops : List Operation) → AreOpsOf ts ops → ⊥) → (ops : List Operation)
    → AreOpsOf (tree t ts) ops → ⊥
none_behind t ts none [] h = let is : tree t ts ≡ no_trees = h.1 in absurd (cc)
none_behind t ts none (op ∷ ops) h = none ops (All-tail IsNamed op ops h.0, others_are t (op_tree op) ts (trees_of (map op_tree ops)) h.1)

ops_or_not : (ts : Trees) → ((ops : List Operation) × AreOpsOf ts ops) ⊎ ((ops : List Operation) → AreOpsOf ts ops → ⊥)
ops_or_not no_trees = inl ([], (All-nil IsNamed, refl))
ops_or_not (tree t ts) = elim (op_or_not t) [
  | inr none ↦ inr (none_first t ts none)
  | inl first ↦ elim (ops_or_not ts) [
    | inr none ↦ inr (none_behind t ts none)
    | inl rest ↦ inl (first.0 ∷ rest.0, (All-cons IsNamed first.0 rest.0 first.1.named rest.1.0, λ i. tree (first.1.is i) (rest.1.1 i)))
  ]
]

-- ---- a commit

-- the term of a commit with these parts, or of none
module _ (t : Tree) (version : ℕ) (schema ops : Trees) (is : t ≡ commit_shape version schema ops) where
  version_small : (commit : CommitRecord) → HasCommit t commit → version < 2 ^ 64
  version_small commit has =
      subst (λ v. v < 2 ^ 64) (sym (ap (λ u. number_in (second u)) (sym is ∙ has.is))) has.logged.version

  schema_terms_are : (commit : CommitRecord) (has : HasCommit t commit) → has.schema_terms ≡ list_of schema
  schema_terms_are commit has =
      sym (list_back has.schema_terms) ∙ ap (λ u. list_of (inner (third u))) (sym has.is ∙ is)

  ops_are : (commit : CommitRecord) → HasCommit t commit → ops ≡ trees_of (map op_tree commit.operations)
  ops_are commit has = ap (λ u. inner (fourth u)) (sym is ∙ has.is)

  no_schema : AreNoSchemaOps (list_of schema) → HasNoCommit t
  no_schema none commit has = none commit.schema_operations
      (subst (λ ts. AreSchemaOps ts commit.schema_operations) (schema_terms_are commit has) has.schema_ops)

  commit_of : (schema_ops : List SchemaOperation) (operations : List Operation) → version < 2 ^ 64
      → AreSchemaOps (list_of schema) schema_ops → AreOpsOf ops operations
      → (commit : CommitRecord) × HasCommit t commit
  commit_of schema_ops operations small are given = (
    record { version = version; schema_operations = schema_ops; operations = operations },
    record {
      logged = record { version = small; formed = all_formed (list_of schema) schema_ops are; named = given.0 };
      schema_terms = list_of schema;
      schema_ops = are;
      is = is ∙ λ i. commit_shape version (sym (trees_back schema) i) (given.1 i);
    },
  )

  parts_or_not : ((commit : CommitRecord) × HasCommit t commit) ⊎ HasNoCommit t
  parts_or_not = elim (cases_lt version (2 ^ 64)) [
    | inr large ↦ inr (λ commit has. let small = version_small commit has in omega (arith, small, large))
    | inl small ↦ elim (schema_ops_or_not (list_of schema)) [
      | inr none ↦ inr (no_schema none)
      | inl first ↦ elim (ops_or_not ops) [
        | inl found ↦ inl (commit_of first.0 found.0 small first.1 found.1)
        | inr none ↦ inr (λ commit has. none commit.operations (has.logged.named, ops_are commit has))
      ]
    ]
  ]

tree_decided : (t : Tree) → ((commit : CommitRecord) × HasCommit t commit) ⊎ HasNoCommit t
tree_decided t = elim (tree_or_not t (commit_shape version schema ops)) [
  | inl is ↦ parts_or_not t version schema ops is
  | inr other ↦ inr (λ commit has. other (shape commit has))
]
  where
    version : ℕ
    version = number_in (second t)

    schema : Trees
    schema = inner (third t)

    ops : Trees
    ops = inner (fourth t)

    shape : (commit : CommitRecord) → HasCommit t commit → t ≡ commit_shape version schema ops
    shape commit has =
        has.is
        ∙ λ i. commit_shape (number_in (second (sym has.is i))) (inner (third (sym has.is i))) (inner (fourth (sym has.is i)))

pub commit_decided : (content : List ℕ) → ((commit : CommitRecord) × IsCommit content commit) ⊎ IsNoCommit content
commit_decided content = elim (some_text content) [
  | inr none ↦ inr (λ commit is. none is.0 is.1)
  | inl found ↦ elim (tree_decided found.0) [
    | inl has ↦ inl (has.0, (found.0, found.1, has.1))
    | inr none ↦ inr (λ commit is.
        none commit (subst (λ u. HasCommit u commit) (one_tree content is.0 found.0 is.1 found.1) is.2))
  ]
]

head_decided : (content : List ℕ) → IsHead content ⊎ (IsHead content → ⊥)
head_decided content = elim (some_text content) [
  | inr none ↦ inr (λ head. none log_head head)
  | inl found ↦ elim (tree_or_not found.0 log_head) [
    | inl same ↦ inl (subst (IsText content) same found.1)
    | inr other ↦ inr (λ head. other (one_tree content found.0 log_head found.1 head))
  ]
]

-- ---- a file

module _ (Allowed : List CommitRecord → Type 0) (told : TellsNext Allowed) where
  allowed_decided : (before : List CommitRecord) → Allowed before → (content : List ℕ)
      → ((commit : CommitRecord) × Allowed (before ++ commit ∷ []) × IsCommit content commit)
      ⊎ IsOther Allowed before content
  allowed_decided before allowed content = elim (commit_decided content) [
    | inr none ↦ inr (λ commit also is. none commit is)
    | inl found ↦ elim (told before found.0 allowed found.1.2.logged) [
      | inl also ↦ inl (found.0, also, found.1)
      | inr fails ↦ inr (λ commit also is.
          fails (subst (λ c. Allowed (before ++ c ∷ [])) (same_content content commit found.0 is found.1) also))
    ]
  ]

  -- behind the commits before, allowed ones to the end, or one that is none behind allowed ones
  record AllAllowed (before : List CommitRecord) (items : List (List ℕ)) : Type 0 where
    commits : List CommitRecord
    are : AreCommits commits items
    allowed : Allowed (before ++ commits)

  record SomeOther (before : List CommitRecord) (items : List (List ℕ)) : Type 0 where
    commits : List CommitRecord
    front : List (List ℕ)
    other : List ℕ
    others : List (List ℕ)
    are : AreCommits commits front
    allowed : Allowed (before ++ commits)
    bad : IsOther Allowed (before ++ commits) other
    is : items ≡ front ++ other ∷ others

  module _ (before : List CommitRecord) (item : List ℕ) (items : List (List ℕ)) where
    other_here : Allowed before → IsOther Allowed before item → SomeOther before (item ∷ items)
    other_here allowed none = record {
      commits = [];
      front = [];
      other = item;
      others = items;
      are = tt;
      allowed = subst Allowed (sym (append-nil before)) allowed;
      bad = subst (λ cs. IsOther Allowed cs item) (sym (append-nil before)) none;
      is = refl;
    }

    module _ (commit : CommitRecord) (one : IsCommit item commit) where
      all_behind : AllAllowed (before ++ commit ∷ []) items → AllAllowed before (item ∷ items)
      all_behind rest = record {
        commits = commit ∷ rest.commits;
        are = (one, rest.are);
        allowed = subst Allowed (append_assoc before (commit ∷ []) rest.commits) rest.allowed;
      }

      other_behind : SomeOther (before ++ commit ∷ []) items → SomeOther before (item ∷ items)
      other_behind rest = record {
        commits = commit ∷ rest.commits;
        front = item ∷ rest.front;
        other = rest.other;
        others = rest.others;
        are = (one, rest.are);
        allowed = subst Allowed (append_assoc before (commit ∷ []) rest.commits) rest.allowed;
        bad = subst (λ cs. IsOther Allowed cs rest.other) (append_assoc before (commit ∷ []) rest.commits) rest.bad;
        is = ap (λ xs. item ∷ xs) rest.is;
      }

  items_decided : (before : List CommitRecord) → Allowed before → (items : List (List ℕ))
      → AllAllowed before items ⊎ SomeOther before items
  items_decided before allowed [] =
      inl (record { commits = []; are = tt; allowed = subst Allowed (sym (append-nil before)) allowed })
  items_decided before allowed (item ∷ items) = elim (allowed_decided before allowed item) [
    | inr none ↦ inr (other_here before item items allowed none)
    | inl found ↦ elim (items_decided (before ++ found.0 ∷ []) found.1 items) [
      | inl rest ↦ inl (all_behind before item items found.0 found.2 rest)
      | inr rest ↦ inr (other_behind before item items found.0 found.2 rest)
    ]
  ]

  log_decided : Allowed [] → (items : List (List ℕ))
      → ((commits : List CommitRecord) × AreItemsOf commits items × Allowed commits)
      ⊎ ((n : ℕ) × IsWrongFrom Allowed items n)
  log_decided allowed [] = inr (0, inl (refl, λ first others same head. cc same))
  log_decided allowed (first ∷ items) = elim (head_decided first) [
    | inr other ↦ inr (0, inl (refl, λ x others same head. let is : x ≡ first = cc in other (subst IsHead is head)))
    | inl head ↦ elim (items_decided [] allowed items) [
      | inl rest ↦ inl (rest.commits, (head, rest.are), rest.allowed)
      | inr rest ↦ inr (
        length (first ∷ rest.front),
        inr (record {
          commits = rest.commits;
          front = first ∷ rest.front;
          other = rest.other;
          others = rest.others;
          are = (head, rest.are);
          allowed = rest.allowed;
          bad = rest.bad;
          is = ap (λ xs. first ∷ xs) rest.is;
          number = refl;
        }),
      )
    ]
  ]

  pub file_decided : Allowed [] → (file : Option (List ℕ))
      → ((commits : List CommitRecord) × Reads commits file × Allowed commits)
      ⊎ ((at : ℕ) × IsWrong Allowed at file)
  file_decided allowed None = inl ([], inl (refl, refl), allowed)
  file_decided allowed (Some bytes) = elim (file_or_bad bytes) [
    | inr (at, bad) ↦ inr (at, (bytes, refl, inl bad))
    | inl (items, listed) ↦ elim (log_decided allowed items) [
      | inl log ↦ inl (log.0, inr (bytes, refl, (items, log.1, listed)), log.2)
      | inr wrong ↦ inr (
        8 + length (wire (take wrong.0 items)),
        (bytes, refl, inr (items, listed, record { number = wrong.0; wrong = wrong.1; place = refl })),
      )
    ]
  ]
