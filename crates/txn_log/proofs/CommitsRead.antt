-- A content says which commit it is of.
use Rattle.std.proofs.Common.{◌≡◌, ℕ, zero, suc, ◌+◌, ◌<◌, ◌≤◌, ◌^◌, List, [], ◌∷◌, ◌++◌, get_or, take, map, length, Option, Some, None, Result, Ok, Err, refl, sym, ap, subst, ◌∙◌, arith, Bor}
use Rattle.std.specs.Prelude.{MatchOption, IfOk, All}
use Rattle.std.proofs.lemmas.List.Elements.{All-nil, All-cons, All-head, All-tail, All-append}
use Rattle.std.proofs.lemmas.List.{take_more, take_all, map-append}
use Rattle.term_core.specs.Tree.{Tree, tuple, Trees, count, inner}
use Rattle.term_core.specs.View.{tree_of, trees_of, forest_of}
use Rattle.term_core.specs.declared.term.Term.{Term, Tuple}
use Rattle.term_core.proofs.Forests.{count_forest_of}
use Rattle.term_wire.specs.Spelling.{IsText}
use Rattle.term_wire.specs.Decoding.{Refuses}
use Rattle.term_wire.specs.declared.error.WireErr.{WireErr}
use Rattle.term_wire.specs.declared.error.WireErr.TheVariants.{Bad, Outside, WideInt, TooDeep, Memory}
use Rattle.term_wire.proofs.Again.{one_tree}
use Rattle.db_model.specs.Commits.{SchemaOperation, create, drop_table, add_index, del_index, remake, CommitRecord}
use Rattle.db_model.specs.Ops.{Operation, op_tree, IsOp, IsNoOp}
use Rattle.db_model.specs.SchemaTerms.{schema_op_tree, IsSchemaOp, IsNoSchemaOp, IsWellFormed}
use Rattle.db_model.specs.View.{operation, schema_operation, commit_record}
use Rattle.db_model.specs.declared.commit.Commit.{Commit}
use Rattle.db_model.specs.declared.commit.SchemaOp.{SchemaOp}
use Rattle.db_model.specs.declared.op.Op.{Op}
use Rattle.db_model.proofs.Defined.{defined_lawful}
use Rattle.db_model.proofs.Forests.{same_trees, tuple_tree}
use Rattle.db_model.proofs.SchemaShapes.{one_schema_op, schema_op_back}
use Rattle.db_model.proofs.Shapes.{same_op}
use Rattle.txn_log.specs.Commits.{IsNamed, IsLogged, IsCommit, IsNoCommit, tuple_of, commit_shape, commit_tree, op_trees, HasCommit, HasNoCommit, HasNoFields, AreSchemaOps, AreNoSchemaOps, AreOps, AreNoOps, AreCommits, AreItemsOf}

-- ---- lists of ops

first_is : (t u : Tree) (ts us : List Tree) → t ∷ ts ≡ u ∷ us → t ≡ u
first_is t u ts us is = cc

others_are : (t u : Tree) (ts us : List Tree) → t ∷ ts ≡ u ∷ us → ts ≡ us
others_are t u ts us is = cc

same_ops : (ops others : List Operation) → map op_tree ops ≡ map op_tree others → ops ≡ others
same_ops [] [] is = refl
same_ops [] (op ∷ others) is = absurd cc
same_ops (op ∷ ops) [] is = absurd cc
same_ops (op ∷ ops) (other ∷ others) is =
    λ i. same_op op other (first_is (op_tree op) (op_tree other) (map op_tree ops) (map op_tree others) is) i ∷ same_ops ops others (others_are (op_tree op) (op_tree other) (map op_tree ops) (map op_tree others) is) i

-- where one term is that of no op, there are no such ops
none_at : (terms : List Term) (n : ℕ) (term : Term) → n < length terms → term ≡ get_or terms n term → IsNoOp (tree_of term) → AreNoOps (map tree_of terms)
none_at [] n term lt at none ops are = absurd (omega (arith, lt))
none_at (t ∷ ts) n term lt at none [] are = let is : tree_of t ∷ map tree_of ts ≡ [] = are.are in absurd cc
none_at (t ∷ ts) zero term lt at none (op ∷ ops) are =
    none op (record { named = All-head IsNamed op ops are.named; is = ap tree_of at ∙ first_is (tree_of t) (op_tree op) (map tree_of ts) (map op_tree ops) are.are })
none_at (t ∷ ts) (suc n) term lt at none (op ∷ ops) are =
    none_at ts n term (omega (arith, lt)) at none ops (record { named = All-tail IsNamed op ops are.named; are = others_are (tree_of t) (op_tree op) (map tree_of ts) (map op_tree ops) are.are })

pub no_ops : (terms : List Term) (n : ℕ) (term : Term) (found : Option Op) → n < length terms → term ≡ get_or terms n term
    → MatchOption found (IsNoOp (tree_of term)) (λ op. IsOp (tree_of term) (operation op)) → found ≡ None → AreNoOps (map tree_of terms)
no_ops terms n term None lt at none missing = none_at terms n term lt at none
no_ops terms n term (Some op) lt at is missing = absurd cc

-- the trees of one more term
trees_more : (terms : List Term) (n : ℕ) (term : Term) → n < length terms → term ≡ get_or terms n term
    → map tree_of (take (n + 1) terms) ≡ map tree_of (take n terms) ++ tree_of term ∷ []
trees_more terms n term lt at =
    ap (map tree_of) (take_more terms n term lt ∙ ap (λ (t : Term). take n terms ++ t ∷ []) (sym at))
    ∙ map-append tree_of (take n terms) (term ∷ [])

-- one more term and its op
pub more_ops : (terms : List Term) (n : ℕ) (term : Term) (found : Option Op) (ops more : List Op) (op : Op) → n < length terms → term ≡ get_or terms n term
    → MatchOption found (IsNoOp (tree_of term)) (λ op. IsOp (tree_of term) (operation op)) → found ≡ Some op
    → AreOps (map tree_of (take n terms)) (map operation ops) → more ≡ ops ++ op ∷ [] → AreOps (map tree_of (take (n + 1) terms)) (map operation more)
more_ops terms n term found ops more op lt at one is were grown =
    let last = subst (λ o. MatchOption o (IsNoOp (tree_of term)) (λ x. IsOp (tree_of term) (operation x))) is one in
    let front = trees_more terms n term lt at in
    let all : map operation more ≡ map operation ops ++ operation op ∷ [] = ap (map operation) grown ∙ map-append operation ops (op ∷ []) in
    let trees : map op_tree (map operation more) ≡ map op_tree (map operation ops) ++ op_tree (operation op) ∷ [] =
    ap (map op_tree) all ∙ map-append op_tree (map operation ops) (operation op ∷ []) in
    let same : map tree_of (take n terms) ++ tree_of term ∷ [] ≡ map op_tree (map operation ops) ++ op_tree (operation op) ∷ [] = λ i. were.are i ++ last.is i ∷ [] in
    let named = All-append IsNamed (map operation ops) (operation op ∷ []) were.named (All-cons IsNamed (operation op) [] last.named (All-nil IsNamed)) in
    record { named = subst (All IsNamed) (sym all) named; are = front ∙ same ∙ sym trees }

pub all_ops : (terms : List Term) (n : ℕ) (ops : List Operation) → length terms ≤ n → AreOps (map tree_of (take n terms)) ops → AreOps (map tree_of terms) ops
all_ops terms n ops past are = subst (λ (ts : List Term). AreOps (map tree_of ts) ops) (take_all n terms past) are

-- ---- lists of schema ops

no_schema_at : (terms : List Term) (n : ℕ) (term : Term) → n < length terms → term ≡ get_or terms n term → IsNoSchemaOp (tree_of term)
    → AreNoSchemaOps (map tree_of terms)
no_schema_at [] n term lt at none ops are = absurd (omega (arith, lt))
no_schema_at (t ∷ ts) n term lt at none [] are = absurd are
no_schema_at (t ∷ ts) zero term lt at none (op ∷ ops) are = none op (subst (λ (x : Term). IsSchemaOp (tree_of x) op) (sym at) are.0)
no_schema_at (t ∷ ts) (suc n) term lt at none (op ∷ ops) are = no_schema_at ts n term (omega (arith, lt)) at none ops are.1

pub no_schema_ops : (terms : List Term) (n : ℕ) (term : Term) (found : Option SchemaOp) → n < length terms → term ≡ get_or terms n term
    → MatchOption found (IsNoSchemaOp (tree_of term)) (λ op. IsSchemaOp (tree_of term) (schema_operation op)) → found ≡ None
    → AreNoSchemaOps (map tree_of terms)
no_schema_ops terms n term None lt at none missing = no_schema_at terms n term lt at none
no_schema_ops terms n term (Some op) lt at is missing = absurd cc

push_schema_op : (ts : List Tree) (ops : List SchemaOperation) (t : Tree) (op : SchemaOperation) → AreSchemaOps ts ops → IsSchemaOp t op
    → AreSchemaOps (ts ++ t ∷ []) (ops ++ op ∷ [])
push_schema_op [] [] t op are is = (is, tt)
push_schema_op [] (other ∷ ops) t op are is = absurd are
push_schema_op (u ∷ ts) [] t op are is = absurd are
push_schema_op (u ∷ ts) (other ∷ ops) t op are is = (are.0, push_schema_op ts ops t op are.1 is)

pub more_schema_ops : (terms : List Term) (n : ℕ) (term : Term) (found : Option SchemaOp) (ops more : List SchemaOp) (op : SchemaOp)
    → n < length terms → term ≡ get_or terms n term
    → MatchOption found (IsNoSchemaOp (tree_of term)) (λ op. IsSchemaOp (tree_of term) (schema_operation op)) → found ≡ Some op
    → AreSchemaOps (map tree_of (take n terms)) (map schema_operation ops) → more ≡ ops ++ op ∷ []
    → AreSchemaOps (map tree_of (take (n + 1) terms)) (map schema_operation more)
more_schema_ops terms n term found ops more op lt at one is were grown =
    let last = subst (λ o. MatchOption o (IsNoSchemaOp (tree_of term)) (λ x. IsSchemaOp (tree_of term) (schema_operation x))) is one in
    let front = trees_more terms n term lt at in
    let all : map schema_operation more ≡ map schema_operation ops ++ schema_operation op ∷ [] =
    ap (map schema_operation) grown ∙ map-append schema_operation ops (op ∷ []) in
    let pushed = push_schema_op (map tree_of (take n terms)) (map schema_operation ops) (tree_of term) (schema_operation op) were last in
    subst (λ ts. AreSchemaOps ts (map schema_operation more)) (sym front)
    (subst (AreSchemaOps (map tree_of (take n terms) ++ tree_of term ∷ [])) (sym all) pushed)

pub all_schema_ops : (terms : List Term) (n : ℕ) (ops : List SchemaOperation) → length terms ≤ n
    → AreSchemaOps (map tree_of (take n terms)) ops → AreSchemaOps (map tree_of terms) ops
all_schema_ops terms n ops past are = subst (λ (ts : List Term). AreSchemaOps (map tree_of ts) ops) (take_all n terms past) are

same_schema_ops : (terms : List Tree) (ops others : List SchemaOperation) → AreSchemaOps terms ops → AreSchemaOps terms others
    → ops ≡ others
same_schema_ops [] [] [] x y = refl
same_schema_ops [] [] (other ∷ others) x y = absurd y
same_schema_ops [] (op ∷ ops) others x y = absurd x
same_schema_ops (t ∷ terms) [] others x y = absurd x
same_schema_ops (t ∷ terms) (op ∷ ops) [] x y = absurd y
same_schema_ops (t ∷ terms) (op ∷ ops) (other ∷ others) x y =
    λ i. one_schema_op t op other x.0 y.0 i ∷ same_schema_ops terms ops others x.1 y.1 i

-- what a term is that of is well formed
op_formed : (t : Tree) (op : SchemaOperation) → IsSchemaOp t op → IsWellFormed op
op_formed t (create one) is = defined_lawful is.options one is.cookie is.defined
op_formed t (drop_table table) is = is.0
op_formed t (add_index table position) is = (is.named, is.narrow)
op_formed t (del_index table position) is = (is.named, is.narrow)
op_formed t (remake one) is = defined_lawful is.options one is.cookie is.defined

pub all_formed : (terms : List Tree) (ops : List SchemaOperation) → AreSchemaOps terms ops → All IsWellFormed ops
all_formed [] [] are = All-nil IsWellFormed
all_formed [] (op ∷ ops) are = absurd are
all_formed (t ∷ terms) [] are = absurd are
all_formed (t ∷ terms) (op ∷ ops) are = All-cons IsWellFormed op ops (op_formed t op are.0) (all_formed terms ops are.1)

-- what is written of well formed ones are their terms
written_schema_ops : (ops : List SchemaOperation) → All IsWellFormed ops → AreSchemaOps (map schema_op_tree ops) ops
written_schema_ops [] formed = tt
written_schema_ops (op ∷ ops) formed =
    (schema_op_back op (All-head IsWellFormed op ops formed), written_schema_ops ops (All-tail IsWellFormed op ops formed))

-- the written text is one of the commit
pub written_commit : (content : List ℕ) (commit : CommitRecord) → IsLogged commit → IsText content (commit_tree commit)
    → IsCommit content commit
written_commit content commit logged text = (
  commit_tree commit,
  text,
  record {
    logged = logged;
    schema_terms = map schema_op_tree commit.schema_operations;
    schema_ops = written_schema_ops commit.schema_operations logged.formed;
    is = refl;
  },
)

-- ---- the fields of a commit

shape_version : (v w : ℕ) (ss rs ts us : Trees) → commit_shape v ss ts ≡ commit_shape w rs us → v ≡ w
shape_version v w ss rs ts us is = cc

shape_schema_ops : (v w : ℕ) (ss rs ts us : Trees) → commit_shape v ss ts ≡ commit_shape w rs us → ss ≡ rs
shape_schema_ops v w ss rs ts us is = cc

shape_ops : (v w : ℕ) (ss rs ts us : Trees) → commit_shape v ss ts ≡ commit_shape w rs us → ts ≡ us
shape_ops v w ss rs ts us is = cc

-- a term is that of one commit
same_commit : (t : Tree) (a b : CommitRecord) → HasCommit t a → HasCommit t b → a ≡ b
same_commit t a b x y =
    let is = sym x.is ∙ y.is in
    let ss = trees_of x.schema_terms in
    let rs = trees_of y.schema_terms in
    let ts = map op_tree a.operations in
    let us = map op_tree b.operations in
    let version = shape_version a.version b.version ss rs (trees_of ts) (trees_of us) is in
    let terms = same_trees x.schema_terms y.schema_terms (shape_schema_ops a.version b.version ss rs (trees_of ts) (trees_of us) is) in
    let schema = same_schema_ops y.schema_terms a.schema_operations b.schema_operations
    (subst (λ some. AreSchemaOps some a.schema_operations) terms x.schema_ops) y.schema_ops in
    let ops = same_ops a.operations b.operations (same_trees ts us (shape_ops a.version b.version ss rs (trees_of ts) (trees_of us) is)) in
    λ i. record { version = version i; schema_operations = schema i; operations = ops i }

pub same_content : (content : List ℕ) (a b : CommitRecord) → IsCommit content a → IsCommit content b → a ≡ b
same_content content a b (t, text, x) (u, other, y) =
    same_commit u a b (subst (λ term. HasCommit term a) (one_tree content t u text other) x) y

same_contents : (commits more : List CommitRecord) (contents : List (List ℕ)) → AreCommits commits contents → AreCommits more contents → commits ≡ more
same_contents [] [] [] x y = refl
same_contents [] [] (content ∷ contents) x y = absurd x
same_contents [] (m ∷ more) [] x y = absurd y
same_contents [] (m ∷ more) (content ∷ contents) x y = absurd x
same_contents (c ∷ commits) [] [] x y = absurd x
same_contents (c ∷ commits) [] (content ∷ contents) x y = absurd y
same_contents (c ∷ commits) (m ∷ more) [] x y = absurd x
same_contents (c ∷ commits) (m ∷ more) (content ∷ contents) x y = λ i. same_content content c m x.0 y.0 i ∷ same_contents commits more contents x.1 y.1 i

pub same_items : (commits more : List CommitRecord) (items : List (List ℕ)) → AreItemsOf commits items → AreItemsOf more items → commits ≡ more
same_items commits more [] x y = absurd x
same_items commits more (first ∷ contents) x y = same_contents commits more contents x.1 y.1

-- ---- what a text is not

never_refused : (e : WireErr) (t : Tree) → (e ≡ Memory → ⊥) → Refuses e (Ok t) → ⊥
never_refused (Bad place) t h r = absurd (cc)
never_refused (Outside tag place) t h r = absurd (cc)
never_refused (WideInt place) t h r = absurd (cc)
never_refused (TooDeep place) t h r = absurd (cc)
never_refused Memory t h r = h refl

-- what is refused for another reason than memory is the text of no commit
pub refused_result : {E : Type 0} (content : List ℕ) (e : WireErr) (r : Result (Option Commit) E) → ((t : Tree) → IsText content t → Refuses e (Ok t))
    → IfOk r (λ found. (found ≡ None) × (e ≡ Memory → ⊥))
    → IfOk r (λ found. MatchOption found (IsNoCommit content) (λ commit. IsCommit content (commit_record commit)))
refused_result content e (Ok None) only h = λ commit is. never_refused e is.0 h.1 (only is.0 is.1)
refused_result content e (Ok (Some commit)) only h = let none : Some commit ≡ None = h.0 in absurd (cc)
refused_result content e (Err f) only h = tt

-- what is read as the term of no commit is the text of none
pub read_result : {E : Type 0} (content : List ℕ) (t : Tree) (r : Result (Option Commit) E) → IsText content t
    → IfOk r (λ found. MatchOption found (HasNoCommit t) (λ commit. HasCommit t (commit_record commit)))
    → IfOk r (λ found. MatchOption found (IsNoCommit content) (λ commit. IsCommit content (commit_record commit)))
read_result content t (Ok None) found none = λ commit is.
    none commit (subst (λ u. HasCommit u commit) (one_tree content is.0 t is.1 found) is.2)
read_result content t (Ok (Some commit)) found has = (t, found, has)
read_result content t (Err e) found h = tt

-- ---- what is a commit, and what is none

pub none_without_fields : (t : Tree) → HasNoFields t → HasNoCommit t
none_without_fields t none commit has =
    none commit.version (trees_of has.schema_terms) (op_trees commit.operations) has.logged.version has.is

pub none_without_schema_ops : (version : ℕ) (schema_terms : List Term) (ops : Trees) (found : Option (List SchemaOp))
    → MatchOption found (AreNoSchemaOps (map tree_of schema_terms))
    (λ ops. AreSchemaOps (map tree_of schema_terms) (map schema_operation ops))
    → found ≡ None → HasNoCommit (commit_shape version (forest_of schema_terms) ops)
none_without_schema_ops version schema_terms ops (Some some) is missing commit has = absurd cc
none_without_schema_ops version schema_terms ops None none missing commit has =
    let ss = trees_of has.schema_terms in
    let same = shape_schema_ops version commit.version (forest_of schema_terms) ss ops (op_trees commit.operations) has.is in
    let terms = same_trees (map tree_of schema_terms) has.schema_terms same in
    none commit.schema_operations (subst (λ ts. AreSchemaOps ts commit.schema_operations) (sym terms) has.schema_ops)

pub none_without_ops : (version : ℕ) (schema_ops : Trees) (terms : List Term) (found : Option (List Op))
    → MatchOption found (AreNoOps (map tree_of terms)) (λ ops. AreOps (map tree_of terms) (map operation ops)) → found ≡ None
    → HasNoCommit (commit_shape version schema_ops (forest_of terms))
none_without_ops version schema_ops terms (Some ops) is missing commit has = absurd cc
none_without_ops version schema_ops terms None none missing commit has =
    let ops = map op_tree commit.operations in
    let same = shape_ops version commit.version schema_ops (trees_of has.schema_terms) (forest_of terms) (trees_of ops) has.is in
    none commit.operations (record { named = has.logged.named; are = same_trees (map tree_of terms) ops same })

pub commit_of_lists : (version : ℕ) (schema_terms terms : List Term) (found : Option (List SchemaOp)) (others : Option (List Op))
    (schema_ops : List SchemaOp) (ops : List Op) → version < 2 ^ 64
    → MatchOption found (AreNoSchemaOps (map tree_of schema_terms))
    (λ ops. AreSchemaOps (map tree_of schema_terms) (map schema_operation ops))
    → found ≡ Some schema_ops
    → MatchOption others (AreNoOps (map tree_of terms)) (λ ops. AreOps (map tree_of terms) (map operation ops)) → others ≡ Some ops
    → HasCommit (commit_shape version (forest_of schema_terms) (forest_of terms))
    (record { version = version; schema_operations = map schema_operation schema_ops; operations = map operation ops })
commit_of_lists version schema_terms terms None others schema_ops ops small none is are also = absurd cc
commit_of_lists version schema_terms terms (Some found) None schema_ops ops small schema is none also = absurd cc
commit_of_lists version schema_terms terms (Some found) (Some others) schema_ops ops small schema is are also =
    let one : found ≡ schema_ops = cc in
    let other : others ≡ ops = cc in
    let these = subst (λ (xs : List SchemaOp). AreSchemaOps (map tree_of schema_terms) (map schema_operation xs)) one schema in
    let those = subst (λ (xs : List Op). AreOps (map tree_of terms) (map operation xs)) other are in
    record {
      logged = record {
        version = small;
        formed = all_formed (map tree_of schema_terms) (map schema_operation schema_ops) these;
        named = those.named;
      };
      schema_terms = map tree_of schema_terms;
      schema_ops = these;
      is = λ i. commit_shape version (forest_of schema_terms) (trees_of (those.are i));
    }

-- the commit of the term's fields is the term's
pub commit_of_shape : {E : Type 0} (t u : Tree) (r : Result (Option Commit) E) → t ≡ u
    → IfOk r (λ found. MatchOption found (HasNoCommit u) (λ commit. HasCommit u (commit_record commit)))
    → IfOk r (λ found. MatchOption found (HasNoCommit t) (λ commit. HasCommit t (commit_record commit)))
commit_of_shape t u r is h =
    subst (λ x. IfOk r (λ found. MatchOption found (HasNoCommit x) (λ commit. HasCommit x (commit_record commit)))) (sym is) h

-- ---- the parts of a term

four_elements : (ts : List Term) (a b c d : Term) → 4 ≤ length ts → length ts < 5 → a ≡ get_or ts 0 a → b ≡ get_or ts 1 b → c ≡ get_or ts 2 c → d ≡ get_or ts 3 d
    → tuple (forest_of ts) ≡ tuple_of (tree_of a) (tree_of b) (tree_of c) (tree_of d)
four_elements [] a b c d least most p q r s = absurd (omega (arith, least))
four_elements (w ∷ []) a b c d least most p q r s = absurd (omega (arith, least))
four_elements (w ∷ x ∷ []) a b c d least most p q r s = absurd (omega (arith, least))
four_elements (w ∷ x ∷ y ∷ []) a b c d least most p q r s = absurd (omega (arith, least))
four_elements (w ∷ x ∷ y ∷ z ∷ []) a b c d least most p q r s = λ i. tuple_of (tree_of (sym p i)) (tree_of (sym q i)) (tree_of (sym r i)) (tree_of (sym s i))
four_elements (w ∷ x ∷ y ∷ z ∷ more ∷ others) a b c d least most p q r s = absurd (omega (arith, most))

-- the fields of a tuple of these four elements
pub fields_of_four : (x : Term) (parts ts : List Term) (a b c d : Term) (r : Option (ℕ × Bor (List Term) × Bor (List Term)))
    → x ≡ Tuple parts → ts ≡ parts
    → 4 ≤ length ts → length ts < 5 → a ≡ get_or ts 0 a → b ≡ get_or ts 1 b → c ≡ get_or ts 2 c → d ≡ get_or ts 3 d
    → MatchOption r (HasNoFields (tuple_of (tree_of a) (tree_of b) (tree_of c) (tree_of d)))
    (λ fields. tuple_of (tree_of a) (tree_of b) (tree_of c) (tree_of d)
    ≡ commit_shape fields.0 (forest_of fields.1.now) (forest_of fields.2.now))
    → MatchOption r (HasNoFields (tree_of x))
    (λ fields. tree_of x ≡ commit_shape fields.0 (forest_of fields.1.now) (forest_of fields.2.now))
fields_of_four x parts ts a b c d None is same least most p q r s none = λ version schema_ops ops lt shape.
    none version schema_ops ops lt
    (sym (four_elements ts a b c d least most p q r s) ∙ ap (λ (us : List Term). tuple (forest_of us)) same
    ∙ sym (tuple_tree x parts is) ∙ shape)
fields_of_four x parts ts a b c d (Some fields) is same least most p q r s found =
    tuple_tree x parts is ∙ ap (λ (us : List Term). tuple (forest_of us)) (sym same) ∙ four_elements ts a b c d least most p q r s ∙ found

-- a tuple that has not four elements is no commit
pub not_four : (x : Term) (parts ts : List Term) → x ≡ Tuple parts → ts ≡ parts → (length ts ≡ 4 → ⊥) → HasNoFields (tree_of x)
not_four x parts ts is same never version schema_ops ops lt shape =
    let size : count (forest_of parts) ≡ 4 = ap (λ (t : Tree). count (inner t)) (sym (tuple_tree x parts is) ∙ shape) in
    let long : length ts ≡ length parts = ap length same in
    never (omega (arith, size, long, count_forest_of parts))
