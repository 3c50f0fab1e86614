-- Lists of terms and of their trees.
use Rattle.std.proofs.Common.{◌≡◌, ℕ, zero, suc, ◌+◌, ◌<◌, Bool, true, false, cond, List, [], ◌∷◌, length, get_or, filter, map, drop}
use Rattle.std.proofs.Common.{Option, None, Some, Bor, refl, sym, ap, ◌∙◌, arith}
use Rattle.std.specs.List.{slice_get}
use Rattle.std.specs.Option.{option_map, option_copied}
use Rattle.term_core.specs.Tree.{Tree}
use Rattle.term_core.specs.View.{tree_of}
use Rattle.term_core.specs.declared.term.Term.{Term}
use Rattle.db_model.specs.Database.{Contents, without_key}
use Rattle.db_model.specs.declared.op.Op.{Op}
use Rattle.db_model.specs.Ops.{Operation}
use Rattle.db_model.specs.declared.definition.Kind.{Kind}
use Rattle.ram_table.specs.Contents.{put_ops}
use Rattle.txn_writes.specs.Replays.{with_found, ops_of}

pub filter_trees : (f : Tree → Bool) (rows : List Term) → map tree_of (filter (λ x. f (tree_of x)) rows) ≡ filter f (map tree_of rows)
filter_trees f [] = refl
filter_trees f (x ∷ rows) = by (f (tree_of x)) (filter_trees f rows)
  where
    by : (b : Bool) → map tree_of (filter (λ y. f (tree_of y)) rows) ≡ filter f (map tree_of rows)
        → map tree_of (cond b (x ∷ filter (λ y. f (tree_of y)) rows) (filter (λ y. f (tree_of y)) rows))
        ≡ cond b (tree_of x ∷ filter f (map tree_of rows)) (filter f (map tree_of rows))
    by true ih = ap (λ (t : Contents). tree_of x ∷ t) ih
    by false ih = ih

all_kept : (rows : Contents) → rows ≡ without_key None rows
all_kept [] = refl
all_kept (x ∷ rows) = ap (λ (t : Contents). x ∷ t) (all_kept rows)

pub none_without : (rows : Contents) (own : Option Tree) (found : Option (Bor Term)) → option_map tree_of (option_copied found) ≡ own
    → found ≡ None → rows ≡ without_key own rows
none_without rows own found is none =
    all_kept rows ∙ ap (λ k. without_key k rows) (ap (λ f. option_map tree_of (option_copied f)) (sym none) ∙ is)

-- the op at the next place, and those behind it
pub next_op : (ops : List Op) (places : List ℕ) (i place : ℕ) → i < length places → place ≡ get_or places i 0
    → ops_of ops (drop i places) ≡ with_found (slice_get ops place) (ops_of ops (drop (i + 1) places))
next_op ops [] i place lt is = absurd (omega arith)
next_op ops (p ∷ places) zero place lt is = ap (λ n. with_found (slice_get ops n) (ops_of ops places)) (sym is)
next_op ops (p ∷ places) (suc i) place lt is =
    let next : suc i + 1 ≡ suc (i + 1) = omega arith in
    rw next (next_op ops places i place (omega arith) is)

one_then : (kind : Kind) (found : Option Op) (others : List Operation) (rows : Contents)
    → put_ops kind others (put_ops kind (with_found found []) rows) ≡ put_ops kind (with_found found others) rows
one_then kind None others rows = refl
one_then kind (Some op) others rows = refl

-- a loop has done one op more
pub replay_step : (kind : Kind) (ops : List Op) (places : List ℕ) (i place : ℕ) (rows new all : Contents) → i < length places
    → place ≡ get_or places i 0 → new ≡ put_ops kind (with_found (slice_get ops place) []) rows
    → put_ops kind (ops_of ops (drop i places)) rows ≡ all → put_ops kind (ops_of ops (drop (i + 1) places)) new ≡ all
replay_step kind ops places i place rows new all lt is done h =
    ap (put_ops kind (ops_of ops (drop (i + 1) places))) done
    ∙ one_then kind (slice_get ops place) (ops_of ops (drop (i + 1) places)) rows
    ∙ ap (λ others. put_ops kind others rows) (sym (next_op ops places i place lt is)) ∙ h
