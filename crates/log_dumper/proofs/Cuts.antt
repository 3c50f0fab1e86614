-- What is left of what is stored: its commits, the contents that its files give, and their order.
use Rattle.std.proofs.Common.{◌≡◌, ℕ, ◌<◌, ◌≤◌, arith, Bool, true, false, if◌then◌else◌, nat_eq, List, [], ◌∷◌, ◌++◌, take, drop, map, Option, None, Some, option_map, refl, sym, ap, ◌∙◌, subst, append_assoc}
use Rattle.std.specs.List.{AllByRecursion}
use Rattle.std.proofs.lemmas.Bool.{ne_eqb}
use Rattle.std.proofs.lemmas.List.{take-append-drop, take-take, take_all}
use Rattle.db_model.specs.Database.{Contents, put_op}
use Rattle.db_model.specs.Definitions.{Definition}
use Rattle.db_model.specs.declared.definition.Kind.{Kind}
use Rattle.dump_laws.specs.Contents.{has, AreOrdered, IsKeyed}
use Rattle.dump_laws.specs.Directory.{Files, reached_after}
use Rattle.dump_laws.specs.Effects.{nothing, after}
use Rattle.dump_laws.specs.Lists.{made_table, IsNamedBefore, AreSorted, AreKeyed, IsOrderly}
use Rattle.dump_laws.specs.Order.{AreInTurn}
use Rattle.dump_laws.proofs.Contents.{ordered-after}
use Rattle.dump_laws.proofs.Runs.{reached_after-append, reached_after_later, in_turn_left}
use Rattle.store_files.specs.Forms.{AreIncreasing}
use Rattle.store_files.specs.Schema.{IsNamedBefore as IsDefinedBefore}
use Rattle.log_dumper.specs.Ordered.{AreRowsInOrder, AreOpsKeyed, IsTableInOrder, IsInOrder, RecordsUpTo, OpsUpTo, IsTableUpTo}
use Rattle.log_dumper.specs.Stored.{StoredRecords, StoredOps, StoredTable, Stored, rows_at, ops_at, contents_at, Cut, cut_changes, cut_table, commits_at, image_at}
use Rattle.log_dumper.proofs.SaidImages.{all_take}

pub take_none : {X : Type 0} (n : ℕ) → take {A = X} n [] ≡ []
take_none n = take_all n [] (omega arith)

-- ---- commits

pub commits_more : (stored : Stored) (m n : ℕ) → m ≤ n → commits_at n stored ≡ commits_at m stored ++ drop m (take n stored.after)
commits_more stored m n le =
    ap (λ q. stored.before ++ q) (sym (take-append-drop m (take n stored.after))
    ∙ ap (λ q. q ++ drop m (take n stored.after)) (take-take m n stored.after le))
    ∙ sym (append_assoc stored.before (take m stored.after) (drop m (take n stored.after)))

pub commits_whole : (stored : Stored) (n : ℕ) → commits_at n stored ++ drop n stored.after ≡ stored.before ++ stored.after
commits_whole stored n =
    append_assoc stored.before (take n stored.after) (drop n stored.after)
    ∙ ap (λ q. stored.before ++ q) (take-append-drop n stored.after)

pub in_turn_at : (version : ℕ) (stored : Stored) (n : ℕ) → AreInTurn version (stored.before ++ stored.after)
    → AreInTurn version (commits_at n stored)
in_turn_at version stored n in_turn =
    in_turn_left version (commits_at n stored) (drop n stored.after) (subst (AreInTurn version) (sym (commits_whole stored n)) in_turn)

-- more commits reach no less
pub reached_at : (version : ℕ) (stored : Stored) (m n : ℕ) → m ≤ n
    → reached_after version (commits_at m stored) ≤ reached_after version (commits_at n stored)
reached_at version stored m n le =
    subst (λ q. reached_after version (commits_at m stored) ≤ reached_after version q) (sym (commits_more stored m n le))
    (subst (λ v. reached_after version (commits_at m stored) ≤ v)
    (sym (reached_after-append version (commits_at m stored) (drop m (take n stored.after))))
    (reached_after_later (reached_after version (commits_at m stored)) (drop m (take n stored.after))))

-- ---- contents

pub ops_cut : (cookie n : ℕ) (changes : Option StoredOps)
    → ops_at cookie (option_map (cut_changes n) changes) ≡ take n (ops_at cookie changes)
ops_cut cookie n None = sym (take_none n)
ops_cut cookie n (Some changes) = go (nat_eq changes.cookie cookie)
  where
    go : (b : Bool) → (if b then take n changes.ops else []) ≡ take n (if b then changes.ops else [])
    go true = refl
    go false = sym (take_none n)

pub contents_cut : (kind : Kind) (cookie n : ℕ) (table : StoredTable) → contents_at kind cookie (cut_table n table)
    ≡ after put_op kind (take n (ops_at cookie table.changes)) (rows_at cookie table.records)
contents_cut kind cookie n table = ap (λ ops. after put_op kind ops (rows_at cookie table.records)) (ops_cut cookie n table.changes)

-- none under a cookie above those of the files
no_rows : (version cookie : ℕ) (records : Option StoredRecords) → RecordsUpTo version records → version < cookie
    → rows_at cookie records ≡ []
no_rows version cookie None upto lt = refl
no_rows version cookie (Some records) upto lt =
    ap (λ b. if b then records.rows else []) (ne_eqb records.cookie cookie (λ is. omega (arith, is, upto, lt)))

no_ops : (version cookie : ℕ) (changes : Option StoredOps) → OpsUpTo version changes → version < cookie → ops_at cookie changes ≡ []
no_ops version cookie None upto lt = refl
no_ops version cookie (Some changes) upto lt =
    ap (λ b. if b then changes.ops else []) (ne_eqb changes.cookie cookie (λ is. omega (arith, is, upto, lt)))

pub none_above : (version : ℕ) (table : StoredTable) (n : ℕ) (kind : Kind) (cookie : ℕ) → IsTableUpTo version table → version < cookie
    → has (contents_at kind cookie (cut_table n table)) ≡ nothing
none_above version table n kind cookie upto lt =
    ap has (contents_cut kind cookie n table
    ∙ ap (λ ops. after put_op kind ops (rows_at cookie table.records))
    (ap (take n) (no_ops version cookie table.changes upto.1 lt) ∙ take_none n)
    ∙ no_rows version cookie table.records upto.0 lt)

pub upto_later : (low high : ℕ) (table : StoredTable) → low ≤ high → IsTableUpTo low table → IsTableUpTo high table
upto_later low high table le h = (records table.records h.0, changes table.changes h.1)
  where
    records : (o : Option StoredRecords) → RecordsUpTo low o → RecordsUpTo high o
    records None h = tt
    records (Some r) h = omega (arith, h, le)

    changes : (o : Option StoredOps) → OpsUpTo low o → OpsUpTo high o
    changes None h = tt
    changes (Some r) h = omega (arith, h, le)

-- ---- order

pub rows_ordered : (cookie : ℕ) (records : Option StoredRecords) → AreRowsInOrder records → AreOrdered (rows_at cookie records)
rows_ordered cookie None h = tt
rows_ordered cookie (Some records) h = go (nat_eq records.cookie cookie)
  where
    go : (b : Bool) → AreOrdered (if b then records.rows else [])
    go true = h
    go false = tt

pub ops_keyed : (cookie : ℕ) (changes : Option StoredOps) → AreOpsKeyed changes → AllByRecursion IsKeyed (ops_at cookie changes)
ops_keyed cookie None h = tt
ops_keyed cookie (Some changes) h = go (nat_eq changes.cookie cookie)
  where
    go : (b : Bool) → AllByRecursion IsKeyed (if b then changes.ops else [])
    go true = h
    go false = tt

contents_ordered : (kind : Kind) (cookie n : ℕ) (table : StoredTable) → IsTableInOrder table
    → AreOrdered (contents_at kind cookie (cut_table n table))
contents_ordered kind cookie n table h =
    subst AreOrdered (sym (contents_cut kind cookie n table))
    (ordered-after kind (take n (ops_at cookie table.changes)) (rows_at cookie table.records)
    (all_take IsKeyed n (ops_at cookie table.changes) (ops_keyed cookie table.changes h.1)) (rows_ordered cookie table.records h.0))

all_made : (files : Files Contents) (d : Definition) (definitions : List Definition) → AllByRecursion (IsDefinedBefore d) definitions
    → AllByRecursion (IsNamedBefore (made_table files d)) (map (made_table files) definitions)
all_made files d [] h = tt
all_made files d (e ∷ es) h = (h.0, all_made files d es h.1)

sorted_made : (files : Files Contents) (definitions : List Definition)
    → ((name : List ℕ) (kind : Kind) (cookie : ℕ) → AreOrdered (files name kind cookie)) → AreIncreasing IsDefinedBefore definitions
    → AreSorted (map (made_table files) definitions)
sorted_made files [] ordered h = tt
sorted_made files (d ∷ ds) ordered h = (ordered d.name d.kind d.cookie, all_made files d ds h.0, sorted_made files ds ordered h.1)

all_left : {X : Type 0} (P : X → Type 0) (a b : List X) → AllByRecursion P (a ++ b) → AllByRecursion P a
all_left P [] b h = tt
all_left P (x ∷ a) b h = (h.0, all_left P a b h.1)

pub image_orderly : (cut : Cut) (stored : Stored) → IsInOrder stored → IsOrderly (image_at cut stored)
image_orderly cut stored h =
    let ordered : (name : List ℕ) (kind : Kind) (cookie : ℕ) → AreOrdered ((image_at cut stored).files name kind cookie) =
    λ name kind cookie. contents_ordered kind cookie (cut.ops name) (stored.tables name) (h.tables name) in
    record {
      files = ordered;
      schema = sorted_made _ stored.definitions ordered h.definitions;
      keyed = all_left _ (commits_at cut.commits stored) (drop cut.commits stored.after)
          (subst AreKeyed (sym (commits_whole stored cut.commits)) h.commits);
    }
