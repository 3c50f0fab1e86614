-- The schema file is written, PREVIOUS.LOG is dropped, and what a start finds.
use Rattle.std.proofs.Common.{◌≡◌, ℕ, zero, suc, ◌+◌, ◌≤◌, arith, Bool, true, false, if◌then◌else◌, ◌==◌, List, [], ◌∷◌, ◌++◌, take, drop, map, Option, None, Some, option_map, option_and_then, refl, sym, ap, ◌∙◌, subst, append_assoc, append-nil}
use Rattle.std.specs.List.{AllByRecursion}
use Rattle.std.proofs.lemmas.List.{take_all}
use Rattle.db_model.specs.Commits.{CommitRecord}
use Rattle.db_model.specs.Database.{Contents, Table, Database}
use Rattle.db_model.specs.Definitions.{Definition}
use Rattle.db_model.specs.Lawful.{table_in}
use Rattle.dump_laws.specs.Contents.{has}
use Rattle.dump_laws.specs.Directory.{Files, TableOf, Schema, definition_of, reached_after, put_unit, no_rows, schema_after, schema_ops_taken, of_table}
use Rattle.dump_laws.specs.Effects.{IsCarried, AreIdle}
use Rattle.dump_laws.specs.Lists.{Directory, all_taken_with, CanTakeAllWith, taken_with, begun, database_of, HasMeaning, seen_table, schema_of, view_of, behind, with_schema_behind, IsOrderly, IsNamedBefore, AreSorted, AreKeyed}
use Rattle.dump_laws.specs.Order.{AreInTurn, AllUpTo, IsStrict, OfEach, First, first_after}
use Rattle.dump_laws.proofs.Acts.{after_some}
use Rattle.dump_laws.proofs.Alike.{Alike, AlikeDatabases, taken_alike, can_left}
use Rattle.dump_laws.proofs.Carrying.{carried_idle}
use Rattle.dump_laws.proofs.Closed.{up_to_later, with_ops}
use Rattle.dump_laws.proofs.Runs.{run-append, reached_after-append, in_turn_left, in_turn_up_to, version_after, unit_ops}
use Rattle.dump_laws.proofs.Sorted.{directory_sorted}
use Rattle.dump_laws.proofs.Stricts.{first_young}
use Rattle.dump_laws.proofs.Views.{image, previous_dropped as dropped_same}
use Rattle.dump_laws.proofs.Whole.{on_start, in_turn_dropped}
use Rattle.store_files.specs.Forms.{AreIncreasing}
use Rattle.store_files.specs.Schema.{IsNamedBefore as IsDefinedBefore}
use Rattle.log_dumper.specs.Ordered.{IsInOrder, IsTableUpTo, synced_version, StandsOn, IsOrdered, over, standing, IsDefined, ArePlain, IsCarriedIn}
use Rattle.log_dumper.specs.Stored.{Stored, Cut, synced_ops, IsCut, commits_at, image_at, whole, IsAllSynced, without_previous, with_schema_at}
use Rattle.log_dumper.proofs.Cuts.{commits_more, commits_whole, in_turn_at}
use Rattle.log_dumper.proofs.LogSteps.{all_cut, whole_stands, whole_orderly}
use Rattle.log_dumper.proofs.OneImage.{made_alike, schema_on, database_schema, schema_written, previous_dropped}
use Rattle.log_dumper.proofs.TableActs.{stands_so}
use Rattle.log_dumper.proofs.TableSteps.{all_left}

-- ---- definitions behind the same commits are the same, whatever the files give

behind_alike : (files others : Files Contents) (p : List CommitRecord) (a b : Database) → AlikeDatabases a b
    → AlikeDatabases (all_taken_with files p a) (all_taken_with others p b)
behind_alike files others [] a b h = h
behind_alike files others (x ∷ p) a b h =
    behind_alike files others p (taken_with files x a) (taken_with others x b) (taken_alike files others x a b h)

abbrev defined : List Table → List Definition
defined tables = map (λ table. table.definition) tables

same_defined : (a b : List Table) → Alike a b → defined a ≡ defined b
same_defined [] [] h = refl
same_defined [] (y ∷ ys) h = absurd h
same_defined (x ∷ xs) [] h = absurd h
same_defined (x ∷ xs) (y ∷ ys) h = ap (λ d. d ∷ defined xs) h.0 ∙ ap (λ ds. y.definition ∷ ds) (same_defined xs ys h.1)

sorted_defined : (tables : List Table) → AreSorted tables → AreIncreasing IsDefinedBefore (defined tables)
sorted_defined [] h = tt
sorted_defined (t ∷ ts) h = (all_defined t ts h.1, sorted_defined ts h.2)
  where
    all_defined : (t : Table) (ts : List Table) → AllByRecursion (IsNamedBefore t) ts
        → AllByRecursion (IsDefinedBefore t.definition) (defined ts)
    all_defined t [] h = tt
    all_defined t (u ∷ us) h = (h.0, all_defined t us h.1)

all_front : {X : Type 0} (P : X → Type 0) (a b : List X) → AllByRecursion P (a ++ b) → AllByRecursion P a
all_front P [] b h = tt
all_front P (x ∷ a) b h = (h.0, all_front P a b h.1)

all_behind : {X : Type 0} (P : X → Type 0) (a b : List X) → AllByRecursion P (a ++ b) → AllByRecursion P b
all_behind P [] b h = h
all_behind P (x ∷ a) b h = all_behind P a b h.1

-- the tables behind the first commits are in order too
behind_sorted : (d : Directory) (p s : List CommitRecord) → d.previous ++ d.latest ≡ p ++ s → IsOrderly d → HasMeaning d
    → AreSorted (behind p d).tables
behind_sorted d p s is orderly can =
    subst (λ q. AreSorted (all_taken_with d.files q (begun d)).tables) (append-nil p)
    (directory_sorted (record d { previous = p; latest = [] })
    record {
      files = orderly.files;
      schema = orderly.schema;
      keyed = subst AreKeyed (sym (append-nil p)) (all_front _ p s (subst AreKeyed is orderly.keyed));
    }
    (subst (λ q. CanTakeAllWith d.files q (begun d)) (sym (append-nil p))
    (can_left d.files p s (begun d) (subst (λ q. CanTakeAllWith d.files q (begun d)) is can))))

-- so many commits, and of the ops those that are synced
abbrev synced_cut : ℕ → Stored → Cut
synced_cut n stored = record { commits = n; ops = λ name. synced_ops (stored.tables name).changes }

synced_left : (n : ℕ) (stored : Stored) → stored.synced ≤ n → IsCut (synced_cut n stored) stored
synced_left n stored low = record { commits = low; ops = λ name. omega arith }

module _ (first : First) (stored : Stored) (o : IsOrdered first stored) where
  -- ---- the schema file is written

  pub schema_stored : (front rest : List CommitRecord) → commits_at stored.synced stored ≡ front ++ rest
      → IsOrdered first (with_schema_at front stored)
  schema_stored front rest is = record {
    in_turn = o.in_turn;
    young = o.young;
    in_order = record {
      definitions = sorted_defined (behind front (whole stored)).tables
          (behind_sorted (whole stored) front (rest ++ drop stored.synced stored.after) all_is
          (whole_orderly first stored o) (whole_stands first stored o).meaning);
      commits = o.in_order.commits;
      tables = o.in_order.tables;
    };
    cookies = o.cookies;
    each = λ cut left.
        let old : IsCut cut stored = record { commits = left.commits; ops = left.ops } in
        subst (StandsOn first) (as_stored cut)
        (schema_written first (image_at cut stored) front (rest ++ drop stored.synced (take cut.commits stored.after))
        (commits_more stored stored.synced cut.commits left.commits
        ∙ ap (λ q. q ++ drop stored.synced (take cut.commits stored.after)) is
        ∙ append_assoc front rest (drop stored.synced (take cut.commits stored.after)))
        (o.each cut old) (in_turn_at first.schema.version stored cut.commits o.in_turn));
  }
    where
      all_is : stored.before ++ stored.after ≡ front ++ (rest ++ drop stored.synced stored.after)
      all_is = sym (commits_whole stored stored.synced) ∙ ap (λ q. q ++ drop stored.synced stored.after) is
          ∙ append_assoc front rest (drop stored.synced stored.after)

      alike : (cut : Cut) → AlikeDatabases (behind front (image_at cut stored)) (behind front (whole stored))
      alike cut = behind_alike (image_at cut stored).files (whole stored).files front (begun (image_at cut stored)) (begun (whole stored))
          record { version = refl; tables = made_alike (image_at cut stored).files (whole stored).files stored.definitions }

      as_stored : (cut : Cut) → with_schema_behind front (image_at cut stored) ≡ image_at cut (with_schema_at front stored)
      as_stored cut =
          ap (λ v. record (image_at cut stored) {
            version = v;
            definitions = defined (behind front (image_at cut stored)).tables;
          }) (alike cut).version
          ∙ ap (λ ds. record (image_at cut stored) { version = (behind front (whole stored)).version; definitions = ds })
          (same_defined (behind front (image_at cut stored)).tables (behind front (whole stored)).tables (alike cut).tables)

  -- ---- PREVIOUS.LOG is dropped

  pub before_schema : (schema : Schema) × (schema_after stored.before first.schema ≡ Some schema)
  before_schema =
      let some = after_some stored.after (schema_after stored.before first.schema) (schema_of (database_of (whole stored)))
      (sym (run-append put_unit no_rows stored.before stored.after first.schema)
      ∙ database_schema first (whole stored) (whole_stands first stored o) o.in_turn) in
      (some.0, some.1)

  module _ (carried : (name : List ℕ) → IsCarriedIn first stored name)
      (enough : reached_after first.schema.version stored.before ≤ stored.version)
    where
      abbrev pub reached_schema : Schema
      reached_schema = before_schema.0

      made : schema_after stored.before first.schema ≡ Some reached_schema
      made = before_schema.1

      version : reached_schema.version ≡ reached_after first.schema.version stored.before
      version = version_after stored.before first.schema reached_schema made

      abbrev pub later : First
      later = first_after stored.before reached_schema first

      reached_same : synced_version first stored ≡ synced_version later (without_previous stored)
      reached_same = reached_after-append first.schema.version stored.before (take stored.synced stored.after)
          ∙ ap (λ v. reached_after v (take stored.synced stored.after)) (sym version)

      carried_at : (cut : Cut) → IsCut cut stored → (last : Schema) → schema_after (commits_at cut.commits stored) first.schema ≡ Some last
          → OfEach last (λ name t. IsCarried t.kind (first.rows name t.kind t.cookie) (of_table name t.cookie stored.before)
          (of_table name t.cookie (take cut.commits stored.after)) (has ((image_at cut stored).files name t.kind t.cookie)))
      carried_at cut left last reached name t stands = carried name cut.commits (cut.ops name) left.commits (left.ops name) t.definition
          (stands_so (commits_at cut.commits stored) first.schema last name t reached stands)

      pub previous_gone : IsOrdered later (without_previous stored)
      previous_gone = record {
        in_turn = in_turn_dropped first.schema reached_schema stored.before stored.after made o.in_turn;
        young = first_young first stored.before stored.after reached_schema o.in_turn made o.young;
        in_order = record {
          definitions = o.in_order.definitions;
          commits = all_behind _ stored.before stored.after o.in_order.commits;
          tables = o.in_order.tables;
        };
        cookies = λ name. subst (λ v. IsTableUpTo v (stored.tables name)) reached_same (o.cookies name);
        each = λ cut left.
            let old : IsCut cut stored = record { commits = left.commits; ops = left.ops } in
            previous_dropped first (image_at cut stored) reached_schema (in_turn_at first.schema.version stored cut.commits o.in_turn) made
            (subst (λ v. v ≤ stored.version) (sym version) enough) (carried_at cut old) (o.each cut old);
      }

      -- with the same commits behind it the schema is the same
      pub same_schema : (n : ℕ) → schema_after (commits_at n stored) first.schema
          ≡ schema_after (take n stored.after) later.schema
      same_schema n = run-append put_unit no_rows stored.before (take n stored.after) first.schema
          ∙ ap (option_and_then (λ now. schema_after (take n stored.after) now)) made

      -- and it stands for the same
      module _ (n : ℕ) (low : stored.synced ≤ n) where
        abbrev d : Directory
        d = image_at (synced_cut n stored) stored

        left : IsCut (synced_cut n stored) stored
        left = synced_left n stored low

        h : StandsOn first d
        h = o.each (synced_cut n stored) left

        still_in_turn : AreInTurn first.schema.version (commits_at n stored)
        still_in_turn = in_turn_at first.schema.version stored n o.in_turn

        upto : AllUpTo stored.version stored.before
        upto = up_to_later (reached_after first.schema.version stored.before) stored.version stored.before enough
            (in_turn_up_to first.schema.version stored.before
            (in_turn_left first.schema.version stored.before (take n stored.after) still_in_turn))

        idle : (last : Schema) → schema_after (commits_at n stored) (view_of d).schema ≡ Some last
            → OfEach last (λ name t. AreIdle t.kind (of_table name t.cookie stored.before) (of_table name t.cookie (take n stored.after))
            (has (d.files name t.kind t.cookie)))
        idle last reached name t stands =
            carried_idle t.definition.kind (first.rows name t.definition.kind t.definition.cookie)
            (has (d.files name t.definition.kind t.definition.cookie)) (of_table name t.definition.cookie stored.before)
            (of_table name t.definition.cookie (take n stored.after))
            (carried_at (synced_cut n stored) left last (sym (schema_on first d h.on still_in_turn) ∙ reached) name t stands)

        pub same_over : over first (commits_at n stored) ≡ over later (take n stored.after)
        same_over =
            sym (image first (view_of d) h.on still_in_turn)
            ∙ sym (dropped_same (view_of d) h.strict.in_turn upto idle)
            ∙ image later (view_of (record d { previous = [] }))
            (previous_gone.each (synced_cut n stored) (record { commits = low; ops = left.ops })).on
            (in_turn_at later.schema.version (without_previous stored) n previous_gone.in_turn)

  -- ---- how a table is defined, whatever a crash leaves

  -- what the whole stands for says it
  whole_standing : (name : List ℕ) → standing (stored.before ++ stored.after) first.schema name
      ≡ option_map (λ table. table.definition) (table_in name (database_of (whole stored)).tables)
  whole_standing name =
      ap (option_and_then (λ last. definition_of (last.tables name)))
      (database_schema first (whole stored) (whole_stands first stored o) o.in_turn)
      ∙ go (table_in name (database_of (whole stored)).tables)
    where
      go : (t : Option Table) → definition_of (option_map {U = TableOf (Unit {0})} (seen_table (λ contents. tt)) t)
          ≡ option_map (λ table. table.definition) t
      go None = refl
      go (Some t) = refl

-- commits without schema ops change no definition
plain_still : (q : List CommitRecord) (schema : Schema) (name : List ℕ) → ArePlain q
    → option_and_then (λ last. definition_of (last.tables name)) (schema_after q schema) ≡ definition_of (schema.tables name)
plain_still [] schema name h = refl
plain_still (x ∷ q) schema name h =
    ap (λ t. option_and_then (λ last. definition_of (last.tables name))
    (option_and_then (λ now. schema_after q now) (option_map (with_ops x schema) t)))
    (tables_still (x.version == schema.version + 1))
    ∙ plain_still q (with_ops x schema schema.tables) name h.1
    ∙ ap (λ tables. definition_of (tables name)) (unit_ops x.version x.operations schema.tables)
  where
    tables_still : (b : Bool) → (if b then schema_ops_taken no_rows x.schema_operations schema.tables else Some schema.tables)
        ≡ Some schema.tables
    tables_still true = ap (λ ops. schema_ops_taken no_rows ops schema.tables) h.0
    tables_still false = refl

drop_more : {X : Type 0} (P : X → Type 0) (m n : ℕ) (xs : List X) → m ≤ n → AllByRecursion P (drop m xs) → AllByRecursion P (drop n xs)
drop_more P zero zero xs le h = h
drop_more P zero (suc n) [] le h = tt
drop_more P zero (suc n) (x ∷ xs) le h = drop_more P zero n xs (omega arith) h.1
drop_more P (suc m) zero xs le h = absurd (omega (arith, le))
drop_more P (suc m) (suc n) [] le h = tt
drop_more P (suc m) (suc n) (x ∷ xs) le h = drop_more P m n xs (omega (arith, le)) h

pub defined_whole : (first : First) (stored : Stored) (name : List ℕ) → IsOrdered first stored → ArePlain (drop stored.synced stored.after)
    → IsDefined first stored name (option_map (λ table. table.definition) (table_in name (database_of (whole stored)).tables))
defined_whole first stored name o plain n low =
    go (schema_after (commits_at n stored) first.schema) refl
    ∙ ap (λ q. standing q first.schema name) (commits_whole stored n)
    ∙ whole_standing first stored o name
  where
    last_plain : ArePlain (drop n stored.after)
    last_plain = drop_more _ stored.synced n stored.after low plain

    go : (s : Option Schema) → schema_after (commits_at n stored) first.schema ≡ s
        → standing (commits_at n stored) first.schema name ≡ standing (commits_at n stored ++ drop n stored.after) first.schema name
    go s is =
        ap (option_and_then (λ last. definition_of (last.tables name))) is ∙ by s
        ∙ ap (λ t. option_and_then (λ last. definition_of (last.tables name))
        (option_and_then (λ now. schema_after (drop n stored.after) now) t)) (sym is)
        ∙ ap (option_and_then (λ last. definition_of (last.tables name)))
        (sym (run-append put_unit no_rows (commits_at n stored) (drop n stored.after) first.schema))
      where
        by : (s : Option Schema) → option_and_then (λ last. definition_of (last.tables name)) s
            ≡ option_and_then (λ last. definition_of (last.tables name)) (option_and_then (λ now. schema_after (drop n stored.after) now) s)
        by None = refl
        by (Some now) = sym (plain_still (drop n stored.after) now name last_plain)

-- ---- a start

-- all of it is left
pub all_synced_whole : (stored : Stored) (cut : Cut) → IsAllSynced stored → IsCut cut stored → image_at cut stored ≡ whole stored
all_synced_whole stored cut all left =
    all_cut cut stored (omega (arith, all.commits, left.commits))
    (λ name cookie. all_left cookie (cut.ops name) (stored.tables name).changes (all.ops name) (left.ops name))

pub start_ordered : (stored : Stored) → IsAllSynced stored → IsInOrder stored → HasMeaning (whole stored)
    → IsStrict (view_of (whole stored))
    → ((name : List ℕ) → IsTableUpTo (reached_after stored.version (stored.before ++ stored.after)) (stored.tables name))
    → IsOrdered record { schema = schema_of (begun (whole stored)); rows = (view_of (whole stored)).files } stored
start_ordered stored all in_order can strict upto = record {
  in_turn = strict.in_turn;
  young = strict.old_files;
  in_order = in_order;
  cookies = λ name. subst (λ q. IsTableUpTo (reached_after stored.version (stored.before ++ q)) (stored.tables name))
      (sym (take_all stored.synced stored.after all.commits)) (upto name);
  each = λ cut left. subst (StandsOn record { schema = schema_of (begun (whole stored)); rows = (view_of (whole stored)).files })
      (sym (all_synced_whole stored cut all left))
      (record { meaning = can; on = on_start (view_of (whole stored)); strict = strict });
}
