-- Which schema ops have which terms.
use Rattle.std.proofs.Common.{◌≡◌, ℕ, pos, ◌+◌, ◌<◌, ◌≤◌, ◌^◌, List, get_or, length, arith, Option, Some, None, ap, subst, sym, ◌∙◌, refl}
use Rattle.std.specs.Prelude.{codes, MatchOption}
use Rattle.term_core.specs.Tree.{Tree, int, inner, count, Trees, no_trees, tree}
use Rattle.term_core.specs.View.{forest_of}
use Rattle.term_core.specs.declared.term.Term.{Term}
use Rattle.term_core.proofs.Forests.{count_forest_of}
use Rattle.db_model.specs.declared.definition.TableDef.{TableDef}
use Rattle.db_model.specs.View.{definition}
use Rattle.db_model.specs.Commits.{SchemaOperation, create, drop_table, add_index, del_index, remake}
use Rattle.db_model.specs.Definitions.{Definition, IsDefinition}
use Rattle.db_model.specs.Ops.{op_shape}
use Rattle.db_model.specs.Options.{IsDefinedBy, create_tree}
use Rattle.db_model.specs.SchemaTerms.{defining_shape, index_shape, schema_op_tree, Defines, Indexes, IsSchemaOp, IsNoSchemaOp, IsWellFormed}
use Rattle.db_model.proofs.Defined.{one_definition, read_back}

-- no schema op's term has five elements or more
pub no_longer_schema_op : (word table : List ℕ) (rest : List Term) → 3 ≤ length rest → IsNoSchemaOp (op_shape word table (forest_of rest))
no_longer_schema_op word table rest long (create definition) x = absurd
    (omega (arith, ap (λ (t : Tree). count (inner t)) x.is, count_forest_of rest))
no_longer_schema_op word table rest long (drop_table name) x = absurd (omega
    (arith, ap (λ (t : Tree). count (inner t)) x.1, count_forest_of rest))
no_longer_schema_op word table rest long (add_index name position) x = absurd
    (omega (arith, ap (λ (t : Tree). count (inner t)) x.is, count_forest_of rest))
no_longer_schema_op word table rest long (del_index name position) x = absurd
    (omega (arith, ap (λ (t : Tree). count (inner t)) x.is, count_forest_of rest))
no_longer_schema_op word table rest long (remake definition) x = absurd
    (omega (arith, ap (λ (t : Tree). count (inner t)) x.is, count_forest_of rest))

shape_table : (word other table more : List ℕ) (cookie number options given : Tree)
    → op_shape word table (tree cookie (tree options no_trees)) ≡ op_shape other more (tree number (tree given no_trees)) → table ≡ more
shape_table word other table more cookie number options given is = cc

shape_options : (word other table more : List ℕ) (cookie number options given : Tree)
    → op_shape word table (tree cookie (tree options no_trees)) ≡ op_shape other more (tree number (tree given no_trees)) → options ≡ given
shape_options word other table more cookie number options given is = cc

-- `create` is not `remake`
create_or_remake : codes "create" ≡ codes "remake" → ⊥
create_or_remake is = let h : 99 ≡ 114 = ap (λ (w : List ℕ). get_or w 0 0) is in omega (arith, h)

add_or_delete : codes "add_index" ≡ codes "del_index" → ⊥
add_or_delete is = let h : 97 ≡ 100 = ap (λ (w : List ℕ). get_or w 0 0) is in omega (arith, h)

same_word : (word other table more : List ℕ) (rest others : Trees) → op_shape word table rest ≡ op_shape other more others → word ≡ other
same_word word other table more rest others is = cc

-- the options define no table of this name
no_defining_op : (word table : List ℕ) (cookie options : Tree) → ((one : Definition) → one.name ≡ table → IsDefinedBy options one → ⊥)
    → IsNoSchemaOp (op_shape word table (tree cookie (tree options no_trees)))
no_defining_op word table cookie options none (create one) x =
    none one (sym (shape_table word (codes "create") table one.name cookie (int (pos one.cookie)) options x.options x.is))
    (subst (λ o. IsDefinedBy o one) (sym (shape_options word (codes "create") table one.name cookie (int (pos one.cookie)) options x.options
    x.is)) x.defined)
no_defining_op word table cookie options none (drop_table name) x = absurd (omega (arith, ap (λ (t : Tree). count (inner t)) x.1))
no_defining_op word table cookie options none (add_index name position) x = absurd (omega (arith, ap (λ (t : Tree). count (inner t)) x.is))
no_defining_op word table cookie options none (del_index name position) x = absurd (omega (arith, ap (λ (t : Tree). count (inner t)) x.is))
no_defining_op word table cookie options none (remake one) x =
    none one (sym (shape_table word (codes "remake") table one.name cookie (int (pos one.cookie)) options x.options x.is))
    (subst (λ o. IsDefinedBy o one) (sym (shape_options word (codes "remake") table one.name cookie (int (pos one.cookie)) options x.options
    x.is)) x.defined)

pub not_defined : (word table : List ℕ) (number : ℕ) (cookie options : Tree) (found : Option TableDef)
    → MatchOption found ((one : Definition) → one.name ≡ table → IsDefinedBy options one → ⊥) (λ def. (def.name ≡ table)
    × (def.cookie ≡ number) × IsDefinedBy options (definition def))
    → found ≡ None → IsNoSchemaOp (op_shape word table (tree cookie (tree options no_trees)))
not_defined word table number cookie options None says is = no_defining_op word table cookie options says
not_defined word table number cookie options (Some def) says is = absurd (cc)

same_table : (word other table more : List ℕ) (cookie number : ℕ) (options given : Tree)
    → defining_shape word table cookie options ≡ defining_shape other more number given → table ≡ more
same_table word other table more cookie number options given is = cc

same_cookie : (word other table more : List ℕ) (cookie number : ℕ) (options given : Tree)
    → defining_shape word table cookie options ≡ defining_shape other more number given → cookie ≡ number
same_cookie word other table more cookie number options given is = cc

same_options : (word other table more : List ℕ) (cookie number : ℕ) (options given : Tree)
    → defining_shape word table cookie options ≡ defining_shape other more number given → options ≡ given
same_options word other table more cookie number options given is = cc

same_defined : (word : List ℕ) (term : Tree) (one other : Definition) → Defines word term one → Defines word term other → one ≡ other
same_defined word term one other x y =
    let is = sym x.is ∙ y.is in
    one_definition x.options one other
    (same_table word word one.name other.name one.cookie other.cookie x.options y.options is)
    (same_cookie word word one.name other.name one.cookie other.cookie x.options y.options is)
    x.defined
    (subst (λ o. IsDefinedBy o other) (sym (same_options word word one.name other.name one.cookie other.cookie x.options y.options is))
    y.defined)

pub one_schema_op : (term : Tree) (op other : SchemaOperation) → IsSchemaOp term op → IsSchemaOp term other → op ≡ other
one_schema_op term (create one) (create other) x y = ap create (same_defined (codes "create") term one other x y)
one_schema_op term (create one) (drop_table table) x y = absurd (omega (arith, ap (λ (t : Tree). count (inner t)) (sym x.is ∙ y.1)))
one_schema_op term (create one) (add_index table position) x y = absurd
    (omega (arith, ap (λ (t : Tree). count (inner t)) (sym x.is ∙ y.is)))
one_schema_op term (create one) (del_index table position) x y = absurd
    (omega (arith, ap (λ (t : Tree). count (inner t)) (sym x.is ∙ y.is)))
one_schema_op term (create one) (remake other) x y = absurd (create_or_remake (same_word _ _ _ _ _ _ (sym x.is ∙ y.is)))
one_schema_op term (drop_table table) (create other) x y = absurd (omega (arith, ap (λ (t : Tree). count (inner t)) (sym x.1 ∙ y.is)))
one_schema_op term (drop_table table) (drop_table more) x y = let is = sym x.1 ∙ y.1 in cc
one_schema_op term (drop_table table) (add_index more position) x y = absurd
    (omega (arith, ap (λ (t : Tree). count (inner t)) (sym x.1 ∙ y.is)))
one_schema_op term (drop_table table) (del_index more position) x y = absurd
    (omega (arith, ap (λ (t : Tree). count (inner t)) (sym x.1 ∙ y.is)))
one_schema_op term (drop_table table) (remake other) x y = absurd (omega (arith, ap (λ (t : Tree). count (inner t)) (sym x.1 ∙ y.is)))
one_schema_op term (add_index table position) (create other) x y = absurd
    (omega (arith, ap (λ (t : Tree). count (inner t)) (sym x.is ∙ y.is)))
one_schema_op term (add_index table position) (drop_table more) x y = absurd
    (omega (arith, ap (λ (t : Tree). count (inner t)) (sym x.is ∙ y.1)))
one_schema_op term (add_index table position) (add_index more number) x y = let is = sym x.is ∙ y.is in cc
one_schema_op term (add_index table position) (del_index more number) x y = absurd (add_or_delete (same_word _ _ _ _ _ _ (sym x.is ∙ y.is)))
one_schema_op term (add_index table position) (remake other) x y = absurd
    (omega (arith, ap (λ (t : Tree). count (inner t)) (sym x.is ∙ y.is)))
one_schema_op term (del_index table position) (create other) x y = absurd
    (omega (arith, ap (λ (t : Tree). count (inner t)) (sym x.is ∙ y.is)))
one_schema_op term (del_index table position) (drop_table more) x y = absurd
    (omega (arith, ap (λ (t : Tree). count (inner t)) (sym x.is ∙ y.1)))
one_schema_op term (del_index table position) (add_index more number) x y = absurd (add_or_delete (same_word _ _ _ _ _ _ (sym y.is ∙ x.is)))
one_schema_op term (del_index table position) (del_index more number) x y = let is = sym x.is ∙ y.is in cc
one_schema_op term (del_index table position) (remake other) x y = absurd
    (omega (arith, ap (λ (t : Tree). count (inner t)) (sym x.is ∙ y.is)))
one_schema_op term (remake one) (create other) x y = absurd (create_or_remake (same_word _ _ _ _ _ _ (sym y.is ∙ x.is)))
one_schema_op term (remake one) (drop_table table) x y = absurd (omega (arith, ap (λ (t : Tree). count (inner t)) (sym x.is ∙ y.1)))
one_schema_op term (remake one) (add_index table position) x y = absurd
    (omega (arith, ap (λ (t : Tree). count (inner t)) (sym x.is ∙ y.is)))
one_schema_op term (remake one) (del_index table position) x y = absurd
    (omega (arith, ap (λ (t : Tree). count (inner t)) (sym x.is ∙ y.is)))
one_schema_op term (remake one) (remake other) x y = ap remake (same_defined (codes "remake") term one other x y)

defines_back : (word : List ℕ) (one : Definition) → IsDefinition one → Defines word
    (defining_shape word one.name one.cookie (create_tree one)) one
defines_back word one is = record { options = create_tree one; is = refl; cookie = is.cookie; defined = read_back one one.cookie is }

pub schema_op_back : (op : SchemaOperation) → IsWellFormed op → IsSchemaOp (schema_op_tree op) op
schema_op_back (create one) is = defines_back (codes "create") one is
schema_op_back (drop_table table) is = (is, refl)
schema_op_back (add_index table position) is = record { named = is.0; narrow = is.1; is = refl }
schema_op_back (del_index table position) is = record { named = is.0; narrow = is.1; is = refl }
schema_op_back (remake one) is = defines_back (codes "remake") one is
