-- What is written of a commit and its ops.
use Rattle.std.proofs.Common.{◌≡◌, ℕ, ◌+◌, ◌<◌, ◌≤◌, ◌^◌, Bool, true, false, List, [], ◌∷◌, ◌++◌, length, map, get_or, take, Result}
use Rattle.std.proofs.Common.{Ok, Err, refl, sym, ap, ◌∙◌, subst, to_z, of_z, ℤ, pos, lit≤, append-nil, append_assoc, rules, arith, codes}
use Rattle.std.specs.Prelude.{OnOk, ◌&&◌, nat_le, FitsSigned}
use Rattle.std.specs.Str.{IsAscii}
use Rattle.std.specs.Int.{w32, w128, to_be_bytes}
use Rattle.std.proofs.lemmas.List.{length-append, take_more, take_all, map-append}
use Rattle.std.proofs.lemmas.Int.{to_z-of_z}
use Rattle.term_core.specs.declared.term.Term.{Term, Int, List as ListTerm}
use Rattle.term_core.specs.declared.term.Term.TheFolds.{fold-roll-Term}
use Rattle.term_core.specs.declared.term.Term.TheOpen.{Term-F}
use Rattle.term_core.specs.declared.term.Term.TheViews.{rolls-Int}
use Rattle.term_core.specs.Tree.{Tree, Trees, no_trees, tree, int, atom, list, count}
use Rattle.term_core.specs.View.{tree_step, tree_of, trees_of}
use Rattle.term_core.specs.Written.{written, all_written, is_byte, all_bytes, is_byte_list}
use Rattle.term_core.specs.Kept.{IsKept, AreKept}
use Rattle.term_wire.proofs.Lists.{count-le-written}
use Rattle.db_model.specs.Ops.{Operation, write, delete, delete_object, clear, op_shape, op_tree}
use Rattle.db_model.specs.SchemaTerms.{schema_op_tree}
use Rattle.db_model.specs.View.{operation, schema_operation, commit_record}
use Rattle.db_model.specs.declared.commit.Commit.{Commit}
use Rattle.db_model.specs.declared.commit.SchemaOp.{SchemaOp}
use Rattle.db_model.specs.declared.op.Op.{Op}
use Rattle.db_model.specs.declared.op.Op.TheVariants.{DeleteObject}
use Rattle.db_model.proofs.Forests.{list_tree}
use Rattle.txn_log.specs.Commits.{op_trees, schema_op_trees, commit_word, commit_tree, commit_text}
use Rattle.txn_log.proofs.FirstItem.{ascii_kept}

-- ---- one op

pub on_item_kept : {T E : Type 0} (r : Result T E) (word table : List ℕ) (item : Tree) → IsAscii word → length word ≤ 255
    → OnOk r (IsKept (atom table) × IsKept item) → OnOk r (IsKept (op_shape word table (tree item no_trees)))
on_item_kept (Err e) word table item ascii short kept = tt
on_item_kept (Ok x) word table item ascii short kept = (ascii_kept word ascii short, (kept.0, (kept.1, tt)))

pub on_table_kept : {T E : Type 0} (r : Result T E) (word table : List ℕ) → IsAscii word → length word ≤ 255
    → OnOk r (IsKept (atom table)) → OnOk r (IsKept (op_shape word table no_trees))
on_table_kept (Err e) word table ascii short kept = tt
on_table_kept (Ok x) word table ascii short kept = (ascii_kept word ascii short, (kept, tt))

-- the word and what is behind it
pub delete_object_written : {T E : Type 0} (r : Result T E) (op : Op) (table : List ℕ) (row : Term) (old new : List ℕ)
    → op ≡ DeleteObject table row
    → OnOk r (new ≡ old ++ ((104 ∷ 3 ∷ 119 ∷ 13 ∷ codes "delete_object") ++ (written (atom table) ++ written (tree_of row))))
    → OnOk r (new ≡ old ++ written (op_tree (operation op)))
delete_object_written (Err e) op table row old new is added = tt
delete_object_written (Ok x) op table row old new is added =
    let word = 104 ∷ 3 ∷ 119 ∷ 13 ∷ codes "delete_object" in
    let behind = λ (bytes : List ℕ). old ++ (word ++ (written (atom table) ++ bytes)) in
    rw (is, added) (ap behind (sym (append-nil (written (tree_of row)))))

-- ---- the list of ops

abbrev trees_of_ops : List Op → Trees
trees_of_ops ops = op_trees (map operation ops)

count_ops : (ops : List Op) → count (trees_of_ops ops) ≡ length ops
count_ops [] = refl
count_ops (op ∷ ops) = omega (arith, count_ops ops)

no_byte : (op : Operation) → is_byte (op_tree op) ≡ false
no_byte (write table row) = refl
no_byte (delete table key) = refl
no_byte (delete_object table row) = refl
no_byte (clear table) = refl

and_false : (a b c : Bool) → b ≡ false → a && (b && c) ≡ false
and_false true b c is = rw is refl
and_false false b c is = refl

-- ops are no numbers, so that they are written as no string
pub ops_written : (ops : List Op) → 0 < length ops
    → written (list (trees_of_ops ops)) ≡ 108 ∷ (to_be_bytes w32 (length ops) ++ (all_written (trees_of_ops ops) ++ 106 ∷ []))
ops_written [] some = absurd (omega (arith, some))
ops_written (op ∷ ops) some =
    let all = trees_of_ops (op ∷ ops) in
    let size : count (trees_of_ops ops) + 1 ≡ length (op ∷ ops) = omega (arith, count_ops ops) in
    let word = no_byte (operation op) in
    let none : is_byte_list all ≡ false = and_false (nat_le (count all) 65535) (is_byte (op_tree (operation op))) (all_bytes (trees_of_ops ops)) word in
    let parts = append_assoc (to_be_bytes w32 (length (op ∷ ops))) (all_written all) (106 ∷ []) in
    rw (none, size) (ap (λ (bytes : List ℕ). 108 ∷ bytes) parts)

pub ops_length : (ops : List Op) → 0 < length ops → length (written (list (trees_of_ops ops))) ≡ 6 + length (all_written (trees_of_ops ops))
ops_length ops some =
    let inside = all_written (trees_of_ops ops) in
    let outer = length-append (to_be_bytes w32 (length ops)) (inside ++ 106 ∷ []) in
    rw (ops_written ops some) (omega (arith, outer, length-append inside (106 ∷ [])))

-- each op has a byte at least
pub ops_few : (ops : List Op) → length ops ≤ length (all_written (trees_of_ops ops))
ops_few ops = omega (arith, count_ops ops, count-le-written (trees_of_ops ops))

-- ---- the commit

-- what stands in front of its schema ops
abbrev pub front_of : ℕ → List ℕ
front_of version = (131 ∷ 104 ∷ 4 ∷ written commit_word) ++ written (int (pos version))

number_tree : (n : ℤ) → tree_of (Int n) ≡ int n
number_tree n = ap tree_of (sym (rolls-Int n)) ∙ fold-roll-Term Tree tree_step (Term-F.Int n)

-- the term of a version
pub version_tree : (version : ℕ) (number : ℤ) → version < 2 ^ 64 → number ≡ pos version
    → tree_of (Int (to_z w128 (of_z w128 number))) ≡ int (pos version)
version_tree version number small is =
    let fits : FitsSigned w128 number = rw is (record { sfits = omega (arith, small) }) in
    ap (λ (n : ℤ). tree_of (Int n)) (to_z-of_z w128 number fits) ∙ number_tree number ∙ ap int is

-- a word and a term, one after another
pub front_added : {T E : Type 0} (r : Result T E) (t u : Tree) (old word first new : List ℕ)
    → t ≡ u → first ≡ old ++ word → OnOk r (new ≡ first ++ written t) → OnOk r (new ≡ old ++ (word ++ written u))
front_added (Err e) t u old word first new is p q = tt
front_added (Ok x) t u old word first new is p q =
    q ∙ (λ i. p i ++ written (is i)) ∙ append_assoc old word (written u)

pub on_kept : {T E : Type 0} (r : Result T E) (t u : Tree) → t ≡ u → OnOk r (IsKept t) → OnOk r (IsKept u)
on_kept (Err e) t u is kept = tt
on_kept (Ok x) t u is kept = subst IsKept is kept

-- the terms of one more schema op
pub one_schema_term_more : (terms new : List Term) (ops : List SchemaOp) (n : ℕ) (term : Term) (op : SchemaOp)
    → n < length ops → op ≡ get_or ops n op → new ≡ terms ++ term ∷ [] → tree_of term ≡ schema_op_tree (schema_operation op)
    → map tree_of terms ≡ map schema_op_tree (map schema_operation (take n ops))
    → map tree_of new ≡ map schema_op_tree (map schema_operation (take (n + 1) ops))
one_schema_term_more terms new ops n term op lt at grown is same =
    let whole = take_more ops n op lt ∙ ap (λ (o : SchemaOp). take n ops ++ o ∷ []) (sym at) in
    let trees = ap (λ (os : List SchemaOp). map schema_op_tree (map schema_operation os)) whole
    ∙ ap (map schema_op_tree) (map-append schema_operation (take n ops) (op ∷ []))
    ∙ map-append schema_op_tree (map schema_operation (take n ops)) (schema_operation op ∷ []) in
    ap (map tree_of) grown ∙ map-append tree_of terms (term ∷ []) ∙ (λ i. same i ++ is i ∷ []) ∙ sym trees

-- the list of the terms of all
pub schema_terms_are : (terms : List Term) (ops seen : List SchemaOp) (n : ℕ) → seen ≡ ops → length seen ≤ n
    → map tree_of terms ≡ map schema_op_tree (map schema_operation (take n seen))
    → tree_of (ListTerm terms) ≡ list (schema_op_trees (map schema_operation ops))
schema_terms_are terms ops seen n is past same =
    let all = same ∙ ap (λ (os : List SchemaOp). map schema_op_tree (map schema_operation os)) (take_all n seen past ∙ is) in
    list_tree (ListTerm terms) terms refl ∙ ap (λ (ts : List Tree). list (trees_of ts)) all

abbrev trees_of_schema_ops : List SchemaOp → Trees
trees_of_schema_ops ops = schema_op_trees (map schema_operation ops)

commit_parts : (commit : Commit) → commit_text (commit_record commit)
    ≡ front_of commit.version ++ (written (list (trees_of_schema_ops commit.schema_ops)) ++ written (list (trees_of_ops commit.ops)))
commit_parts commit =
    let number = written (int (pos commit.version)) in
    let schema = written (list (trees_of_schema_ops commit.schema_ops)) in
    let ops = written (list (trees_of_ops commit.ops)) in
    let word = 131 ∷ 104 ∷ 4 ∷ written commit_word in
    ap (λ (bytes : List ℕ). word ++ (number ++ (schema ++ bytes))) (append-nil ops)
    ∙ sym (append_assoc word number (schema ++ ops))

pub commit_added : {T E : Type 0} (r : Result T E) (commit : Commit) (ops : List Op) (old front mid new : List ℕ)
    → ops ≡ commit.ops → front ≡ old ++ front_of commit.version
    → mid ≡ front ++ written (list (trees_of_schema_ops commit.schema_ops))
    → OnOk r (new ≡ mid ++ written (list (trees_of_ops ops))) → OnOk r (new ≡ old ++ commit_text (commit_record commit))
commit_added (Err e) commit ops old front mid new is p q s = tt
commit_added (Ok x) commit ops old front mid new is p q s =
    let first = front_of commit.version in
    let schema = written (list (trees_of_schema_ops commit.schema_ops)) in
    let last = written (list (trees_of_ops commit.ops)) in
    let both : mid ≡ (old ++ first) ++ schema = q ∙ ap (λ (bytes : List ℕ). bytes ++ schema) p in
    let whole : new ≡ ((old ++ first) ++ schema) ++ last = s ∙ (λ i. both i ++ written (list (trees_of_ops (is i)))) in
    whole ∙ append_assoc (old ++ first) schema last ∙ append_assoc old first (schema ++ last)
    ∙ ap (λ (bytes : List ℕ). old ++ bytes) (sym (commit_parts commit))

pub commit_kept : {T E : Type 0} (r : Result T E) (commit : Commit) (ops : List Op)
    → ops ≡ commit.ops → IsKept (int (pos commit.version)) → AreKept (trees_of_schema_ops commit.schema_ops)
    → OnOk r (AreKept (trees_of_ops ops))
    → OnOk r (IsKept (commit_tree (commit_record commit)))
commit_kept (Err e) commit ops is version schema kept = tt
commit_kept (Ok x) commit ops is version schema kept =
    let all = subst (λ (os : List Op). AreKept (trees_of_ops os)) is kept in
    (ascii_kept (codes "commit") (search rules) (lit≤ tt), (version, (schema, (all, tt))))
