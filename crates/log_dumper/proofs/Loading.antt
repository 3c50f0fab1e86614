-- The files of each table that stands can be loaded, whatever a crash leaves.
use Rattle.std.proofs.Common.{◌≡◌, inl, inr, ℕ, ◌+◌, ◌<◌, ◌≤◌, arith, Bool, true, false, if◌then◌else◌, nat_eq, List, [], ◌∷◌, ◌++◌, length, take, Option, None, Some, option_map, option_and_then, refl, sym, ap, ◌∙◌, subst, append_assoc, append-nil, length-append}
use Rattle.std.specs.Prelude.{All}
use Rattle.std.proofs.lemmas.Bool.{cases_lt, eqb-true, eq-eqb}
use Rattle.std.proofs.lemmas.List.{take_all, take-append-le}
use Rattle.std.proofs.lemmas.List.Elements.{All-take}
use Rattle.db_model.specs.Commits.{CommitRecord}
use Rattle.db_model.specs.Database.{Contents, Table, put_op, same_name}
use Rattle.db_model.specs.Definitions.{Definition}
use Rattle.db_model.specs.Lawful.{table_in, IsLawful}
use Rattle.db_model.specs.Names.{IsTableName}
use Rattle.db_model.specs.Ops.{Operation}
use Rattle.db_model.specs.declared.definition.Kind.{Kind}
use Rattle.dump_laws.specs.Directory.{TableOf, Schema, definition_of, reached_after, put_unit, no_rows, schema_after, reindexed}
use Rattle.dump_laws.specs.Effects.{after}
use Rattle.dump_laws.specs.Lists.{database_of, seen_table}
use Rattle.dump_laws.specs.Order.{IsInTurn, First}
use Rattle.dump_laws.proofs.Acts.{after_some}
use Rattle.dump_laws.proofs.Listed.{found_name}
use Rattle.dump_laws.proofs.Names.{name_is}
use Rattle.dump_laws.proofs.Runs.{run-append, version_after}
use Rattle.ram_table.specs.Contents.{put_ops}
use Rattle.store_files.specs.Forms.{AreItemsOf, BeginWith}
use Rattle.store_files.specs.Names.{dcd_of, dcl_of}
use Rattle.store_files.specs.Tables.{dcd_form, AreRecords, HasRecords, MayChange, dcl_form, HasOps, HaveContents}
use Rattle.log_dumper.specs.Directory.{Files}
use Rattle.log_dumper.specs.Loads.{RecordsFit, OpsFit, FilesFit, IsLoadable}
use Rattle.log_dumper.specs.Ordered.{RecordsUpTo, OpsUpTo, IsTableUpTo, synced_version, IsOrdered, Recovers, standing}
use Rattle.log_dumper.specs.Says.{records_form, changes_form, HasStoredRecords, HasStoredOps, HasTable}
use Rattle.log_dumper.specs.Stored.{StoredRecords, StoredOps, StoredTable, Stored, rows_at, ops_at, contents_at, with_table, cut_changes, tables_at, commits_at, whole, IsAllSynced, with_commit, with_log_synced, rotated, without_previous}
use Rattle.log_dumper.proofs.Cuts.{take_none, reached_at}
use Rattle.log_dumper.proofs.LogSteps.{whole_stands, image_in_turn}
use Rattle.log_dumper.proofs.OneImage.{database_schema, next_on}
use Rattle.log_dumper.proofs.SameTables.{commit_origin}
use Rattle.log_dumper.proofs.TableActs.{Found, found, stands_so}

-- ---- one table's files

put_same : (kind : Kind) (ops : List Operation) (rows : Contents) → after put_op kind ops rows ≡ put_ops kind ops rows
put_same kind [] rows = refl
put_same kind (op ∷ ops) rows = put_same kind ops (put_op kind op rows)

records_are : (d : Definition) (cookie : ℕ) (rows : Contents) (items : List (List ℕ)) → AreItemsOf records_form cookie rows items
    → AreRecords d rows → AreItemsOf (dcd_form d) cookie rows items
records_are d cookie rows [] never fit = never
records_are d cookie rows (first ∷ contents) (head, texts, ordered) fit = (head, texts, fit)

ops_are : (d : Definition) (cookie : ℕ) (ops : List Operation) (items : List (List ℕ)) → AreItemsOf changes_form cookie ops items
    → All (MayChange d) ops → AreItemsOf (dcl_form d) cookie ops items
ops_are d cookie ops [] never fit = never
ops_are d cookie ops (first ∷ contents) (head, texts, keyed) fit = (head, texts, fit)

records_begin : (d : Definition) (cookie : ℕ) (rows : Contents) (items : List (List ℕ)) → AreItemsOf records_form cookie rows items
    → BeginWith (dcd_form d).word cookie items
records_begin d cookie rows [] never = never
records_begin d cookie rows (first ∷ contents) (head, texts, ordered) = head

ops_begin : (d : Definition) (cookie : ℕ) (ops : List Operation) (items : List (List ℕ)) → AreItemsOf changes_form cookie ops items
    → BeginWith (dcl_form d).word cookie items
ops_begin d cookie ops [] never = never
ops_begin d cookie ops (first ∷ contents) (head, texts, keyed) = head

apart_cookies : (a b : ℕ) → nat_eq a b ≡ false → a ≡ b → ⊥
apart_cookies a b test is = let same = eq-eqb a b is in cc (same, test)

records_loaded : (d : Definition) (records : Option StoredRecords) (file : Option (List ℕ)) → HasStoredRecords records file
    → RecordsFit d records → HasRecords d (rows_at d.cookie records) file
records_loaded d None file none fit = inr (refl, inl none)
records_loaded d (Some records) file g fit = go (nat_eq records.cookie d.cookie) refl
  where
    go : (b : Bool) → nat_eq records.cookie d.cookie ≡ b → HasRecords d (if b then records.rows else []) file
    go true test =
        let same : records.cookie ≡ d.cookie = eqb-true records.cookie d.cookie test in
        inl record {
          counts = refl;
          bytes = g.bytes;
          there = g.there;
          items = g.items;
          listed = g.listed;
          are = subst (λ c. AreItemsOf (dcd_form d) c records.rows g.items) same
              (records_are d records.cookie records.rows g.items g.are (fit same));
        }
    go false test = inr (
      refl,
      inr record {
        bytes = g.bytes;
        there = g.there;
        items = g.items;
        listed = g.listed;
        number = records.cookie;
        begin = records_begin d records.cookie records.rows g.items g.are;
        other = apart_cookies records.cookie d.cookie test;
      },
    )

ops_loaded : (d : Definition) (changes : Option StoredOps) (file : Option (List ℕ)) → HasStoredOps changes file → OpsFit d changes
    → HasOps d (ops_at d.cookie changes) file
ops_loaded d None file none fit = inr (refl, inl none)
ops_loaded d (Some changes) file g fit = go (nat_eq changes.cookie d.cookie) refl
  where
    go : (b : Bool) → nat_eq changes.cookie d.cookie ≡ b → HasOps d (if b then changes.ops else []) file
    go true test =
        let same : changes.cookie ≡ d.cookie = eqb-true changes.cookie d.cookie test in
        inl record {
          counts = refl;
          bytes = g.bytes;
          there = g.there;
          items = g.items;
          listed = g.listed;
          are = subst (λ c. AreItemsOf (dcl_form d) c changes.ops g.items) same
              (ops_are d changes.cookie changes.ops g.items g.are (fit same));
        }
    go false test = inr (
      refl,
      inr record {
        bytes = g.bytes;
        there = g.there;
        items = g.items;
        listed = g.listed;
        number = changes.cookie;
        begin = ops_begin d changes.cookie changes.ops g.items g.are;
        other = apart_cookies changes.cookie d.cookie test;
      },
    )

-- what is left of ops fits too
ops_left_fit : (d : Definition) (n : ℕ) (changes : Option StoredOps) → OpsFit d changes → OpsFit d (option_map (cut_changes n) changes)
ops_left_fit d n None fit = tt
ops_left_fit d n (Some changes) fit = λ same. All-take (MayChange d) n changes.ops (fit same)

pub contents_loaded : (d : Definition) (table : StoredTable) (dcd dcl : Option (List ℕ)) → HasTable table dcd dcl → FilesFit d table
    → HaveContents d (contents_at d.kind d.cookie table) dcd dcl
contents_loaded d table dcd dcl has fit = record {
  rows = rows_at d.cookie table.records;
  ops = ops_at d.cookie table.changes;
  records = records_loaded d table.records dcd has.0 fit.0;
  changes = ops_loaded d table.changes dcl has.1 fit.1;
  is = put_same d.kind (ops_at d.cookie table.changes) (rows_at d.cookie table.records);
}

-- ---- a table that stands in an image

module _ (first : First) (stored : Stored) (image : Files) (o : IsOrdered first stored) (r : Recovers first stored image) where
  image_standing : (name : List ℕ) (t : Table) → table_in name (database_of r.directory).tables ≡ Some t
      → standing (commits_at r.of.cut.commits stored) first.schema name ≡ Some t.definition
  image_standing name t stands =
      ap (λ q. standing q first.schema name) (sym r.of.commits)
      ∙ ap (option_and_then (λ last. definition_of (last.tables name)))
      (database_schema first r.directory r.stands (image_in_turn first stored o r.directory r.of))
      ∙ ap (λ u. definition_of (option_map {U = TableOf (Unit {0})} (seen_table (λ contents. tt)) u)) stands

  pub table_loaded : IsLoadable first stored → (t : Table) → IsTableName t.definition.name
      → table_in t.definition.name (database_of r.directory).tables ≡ Some t
      → HaveContents t.definition (r.directory.files t.definition.name t.definition.kind t.definition.cookie)
      (image (dcd_of t.definition.name)) (image (dcl_of t.definition.name))
  table_loaded loadable t valid stands =
      let fit : FilesFit t.definition (stored.tables t.definition.name) =
      loadable r.of.cut.commits r.of.left.commits t.definition.name t.definition (image_standing t.definition.name t stands) in
      subst (λ c. HaveContents t.definition c (image (dcd_of t.definition.name)) (image (dcl_of t.definition.name)))
      (sym (r.has.gives t.definition.name t.definition.kind t.definition.cookie))
      (contents_loaded t.definition (tables_at r.of.cut stored t.definition.name) (image (dcd_of t.definition.name))
      (image (dcl_of t.definition.name)) (r.has.tables_read t.definition.name valid)
      (fit.0, ops_left_fit t.definition (r.of.cut.ops t.definition.name) (stored.tables t.definition.name).changes fit.1))

-- ---- what keeps it so

pub start_loadable : (first : First) (stored : Stored) → IsOrdered first stored → IsAllSynced stored
    → ((t : Table) → table_in t.definition.name (database_of (whole stored)).tables ≡ Some t
    → FilesFit t.definition (stored.tables t.definition.name)) → IsLoadable first stored
start_loadable first stored o all fit n low name d stands =
    go (table_in name (database_of (whole stored)).tables) refl
    (sym (ap (option_and_then (λ last. definition_of (last.tables name)))
    (database_schema first (whole stored) (whole_stands first stored o) o.in_turn))
    ∙ ap (λ q. standing (stored.before ++ q) first.schema name) (sym (take_all n stored.after (omega (arith, all.commits, low)))) ∙ stands)
  where
    go : (u : Option Table) → table_in name (database_of (whole stored)).tables ≡ u
        → definition_of (option_map {U = TableOf (Unit {0})} (seen_table (λ contents. tt)) u) ≡ Some d → FilesFit d (stored.tables name)
    go None at is = cc is
    go (Some t) at is =
        let named : name ≡ t.definition.name = found_name name (database_of (whole stored)).tables t at in
        let same : t.definition ≡ d = cc is in
        subst (λ e. FilesFit e (stored.tables name)) same
        (subst (λ m. FilesFit t.definition (stored.tables m)) (sym named)
        (fit t (subst (λ m. table_in m (database_of (whole stored)).tables ≡ Some t) named at)))

pub table_loadable : (first : First) (stored : Stored) (name : List ℕ) (table : StoredTable) → IsLoadable first stored
    → ((n : ℕ) → stored.synced ≤ n → (d : Definition) → standing (commits_at n stored) first.schema name ≡ Some d → FilesFit d table)
    → IsLoadable first (with_table name table stored)
table_loadable first stored name table h own n low other d stands = go (same_name name other) refl
  where
    go : (b : Bool) → same_name name other ≡ b → FilesFit d (if b then table else stored.tables other)
    go true same = own n low d (ap (λ m. standing (commits_at n stored) first.schema m) (name_is name other same) ∙ stands)
    go false apart = h n low other d stands

pub log_synced_loadable : (first : First) (stored : Stored) (synced : ℕ) → IsLoadable first stored → stored.synced ≤ synced
    → IsLoadable first (with_log_synced synced stored)
log_synced_loadable first stored synced h more n low name d stands =
    let le : synced ≤ n = low in h n (omega (arith, more, le)) name d stands

pub rotated_loadable : (first : First) (stored : Stored) → IsLoadable first stored → IsLoadable first (rotated stored)
rotated_loadable first stored h n low name d stands = h (stored.synced + length stored.after) (omega arith) name d
    (ap (λ q. standing q first.schema name)
    (ap (λ q. stored.before ++ q) (take_all (stored.synced + length stored.after) stored.after (omega arith))
    ∙ sym (append-nil (stored.before ++ stored.after)) ∙ ap (λ q. (stored.before ++ stored.after) ++ q) (sym (take_none n)))
    ∙ stands)

pub dropped_loadable : (first later : First) (stored : Stored) → IsLoadable first stored
    → ((n : ℕ) → schema_after (commits_at n stored) first.schema ≡ schema_after (take n stored.after) later.schema)
    → IsLoadable later (without_previous stored)
dropped_loadable first later stored h same n low name d stands =
    h n low name d (ap (option_and_then (λ last. definition_of (last.tables name))) (same n) ∙ stands)

-- a file is under no cookie above those of all files
records_young : (d : Definition) (version : ℕ) (table : StoredTable) → IsTableUpTo version table → version < d.cookie → FilesFit d table
records_young d version table upto lt = (rows table.records upto.0, ops table.changes upto.1)
  where
    rows : (r : Option StoredRecords) → RecordsUpTo version r → RecordsFit d r
    rows None h = tt
    rows (Some r) h = λ same. absurd (omega (arith, same, h, lt))

    ops : (r : Option StoredOps) → OpsUpTo version r → OpsFit d r
    ops None h = tt
    ops (Some r) h = λ same. absurd (omega (arith, same, h, lt))

-- another index changes nothing
index_fits : (index : List ℕ) (d : Definition) (table : StoredTable) → FilesFit d table → FilesFit (reindexed index d) table
index_fits index d table fit = (rows table.records fit.0, ops table.changes fit.1)
  where
    rows : (r : Option StoredRecords) → RecordsFit d r → RecordsFit (reindexed index d) r
    rows None h = tt
    rows (Some r) h = λ same. record { fit = (h same).fit; increasing = (h same).increasing }

    ops : (r : Option StoredOps) → OpsFit d r → OpsFit (reindexed index d) r
    ops None h = tt
    ops (Some r) h = h

module _ (first : First) (stored : Stored) (o : IsOrdered first stored) (commit : CommitRecord)
    (lawful : IsLawful commit (database_of (whole stored))) (h : IsLoadable first stored) where
  abbrev all : List CommitRecord
  all = stored.before ++ stored.after

  with_last : (n : ℕ) → length stored.after < n → commits_at n (with_commit commit stored) ≡ all ++ commit ∷ []
  with_last n lt = ap (λ q. stored.before ++ q)
      (take_all n (stored.after ++ commit ∷ []) (omega (arith, lt, length-append stored.after (commit ∷ []))))
      ∙ sym (append_assoc stored.before stored.after (commit ∷ []))

  behind_last : (n : ℕ) → stored.synced ≤ n → length stored.after < n → (name : List ℕ) (d : Definition)
      → standing (commits_at n (with_commit commit stored)) first.schema name ≡ Some d → FilesFit d (stored.tables name)
  behind_last n low lt name d stands =
      subst (λ e. FilesFit e (stored.tables name)) f.is
      (elim (commit_origin commit mid.0 f.last name f.table next mid.2 f.stands) [
        | inl young ↦ records_young f.table.definition (synced_version first stored) (stored.tables name) (o.cookies name)
            (omega (arith, young, version, at_most))
        | inr s ↦ subst (λ e. FilesFit e (stored.tables name)) (sym s.same)
            (index_fits f.table.definition.index s.old.definition (stored.tables name)
            (h n low name s.old.definition (ap (λ q. standing (stored.before ++ q) first.schema name)
            (take_all n stored.after (omega (arith, lt))) ∙ stands_so all first.schema mid.0 name s.old mid.1 s.stood)))
      ])
    where
      f : Found (commits_at n (with_commit commit stored)) first.schema name d
      f = found (commits_at n (with_commit commit stored)) first.schema name d stands

      mid : (s : Schema) × (schema_after all first.schema ≡ Some s) × (schema_after (commit ∷ []) s ≡ Some f.last)
      mid = after_some (commit ∷ []) (schema_after all first.schema) f.last
          (sym (run-append put_unit no_rows all (commit ∷ []) first.schema)
          ∙ ap (λ q. schema_after q first.schema) (sym (with_last n lt)) ∙ f.reached)

      version : mid.0.version ≡ reached_after first.schema.version all
      version = version_after all first.schema mid.0 mid.1

      next : IsInTurn mid.0.version commit
      next = subst (λ v. IsInTurn v commit) (sym version)
          (next_on first (whole stored) commit (whole_stands first stored o) o.in_turn lawful)

      at_most : synced_version first stored ≤ reached_after first.schema.version all
      at_most = subst (λ q. synced_version first stored ≤ reached_after first.schema.version (stored.before ++ q))
          (take_all n stored.after (omega (arith, lt))) (reached_at first.schema.version stored stored.synced n low)

  pub appended_loadable : IsLoadable first (with_commit commit stored)
  appended_loadable n low name d stands = elim (cases_lt (length stored.after) n) [
    | inl lt ↦ behind_last n low lt name d stands
    | inr few ↦ h n low name d
        (ap (λ q. standing (stored.before ++ q) first.schema name) (sym (take-append-le n stored.after (commit ∷ []) few)) ∙ stands)
  ]
