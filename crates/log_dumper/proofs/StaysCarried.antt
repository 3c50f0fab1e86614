-- What is carried stays so, while other steps are done.
use Rattle.std.proofs.Common.{◌≡◌, ◌≢◌, inl, inr, ℕ, ◌<◌, ◌≤◌, arith, if◌then◌else◌, List, [], ◌∷◌, ◌++◌, length, take, Some, refl, sym, ap, ◌∙◌, subst, append_assoc, length-append}
use Rattle.std.proofs.lemmas.Bool.{cases_lt}
use Rattle.std.proofs.lemmas.List.{take_all, take-append-le}
use Rattle.db_model.specs.Commits.{CommitRecord}
use Rattle.db_model.specs.Database.{Contents, put_op}
use Rattle.db_model.specs.Definitions.{Definition}
use Rattle.db_model.specs.Lawful.{IsLawful}
use Rattle.dump_laws.specs.Contents.{has, AreOrdered}
use Rattle.dump_laws.specs.Directory.{TableOf, Schema, put_unit, no_rows, reached_after, schema_after, of_table}
use Rattle.dump_laws.specs.Effects.{put, after, Between, IsCarried, IsDraft}
use Rattle.dump_laws.specs.Lists.{database_of}
use Rattle.dump_laws.specs.Order.{IsInTurn, AreInTurn, AllUpTo, First}
use Rattle.dump_laws.proofs.Acts.{after_some}
use Rattle.dump_laws.proofs.Carrying.{appended, either, draft_carried}
use Rattle.dump_laws.proofs.Closed.{of_table-append, of_table-young}
use Rattle.dump_laws.proofs.Names.{is_name, no_name}
use Rattle.dump_laws.proofs.Options.{some_same}
use Rattle.dump_laws.proofs.Origins.{origin}
use Rattle.dump_laws.proofs.Runs.{run-append, in_turn_up_to, version_after}
use Rattle.log_dumper.specs.Ordered.{IsOrdered, standing, IsDefined, IsCarriedIn}
use Rattle.log_dumper.specs.Stored.{StoredOps, StoredTable, Stored, ops_at, contents_at, with_synced, with_changes, with_rows, rows_alone, with_table, synced_ops, AreOpsSynced, cut_table, commits_at, whole, with_commit, with_log_synced}
use Rattle.log_dumper.proofs.CarriedSteps.{set_here, set_apart, all_ops, ops_count, count_all, count_enough, CarriedAt, nothing_at}
use Rattle.log_dumper.proofs.LogSteps.{whole_stands}
use Rattle.log_dumper.proofs.OneImage.{left_up_to, next_on}
use Rattle.log_dumper.proofs.TableActs.{Found, found, stands_so}
use Rattle.log_dumper.proofs.TableSteps.{own_rows}
use Rattle.log_dumper.proofs.TableSteps as steps

module _ (first : First) (stored : Stored) (name : List ℕ) (h : IsCarriedIn first stored name) where
  pub apart_carried : (other : List ℕ) (table : StoredTable) → other ≢ name → IsCarriedIn first (with_table other table stored) name
  apart_carried other table apart n k low enough d stands =
      set_apart (λ t. IsCarried d.kind (first.rows name d.kind d.cookie) (of_table name d.cookie stored.before)
      (of_table name d.cookie (take n stored.after)) (has (contents_at d.kind d.cookie (cut_table k t)))) other name table stored apart
      (h n k low (set_back (λ t. synced_ops t.changes ≤ k) enough) d stands)
    where
      set_back : (P : StoredTable → Type 0) → P ((with_table other table stored).tables name) → P (stored.tables name)
      set_back P g = subst (λ b. P (if b then table else stored.tables name)) (no_name other name apart) g

  pub log_synced_carried : (m : ℕ) → stored.synced ≤ m → IsCarriedIn first (with_log_synced m stored) name
  log_synced_carried m more n k low enough d stands = let le : m ≤ n = low in h n k (omega (arith, more, le)) enough d stands

  -- the table's own files
  own_changed : (table : StoredTable)
      → ((n k : ℕ) → stored.synced ≤ n → synced_ops table.changes ≤ k → (d : Definition)
      → standing (commits_at n stored) first.schema name ≡ Some d
      → IsCarried d.kind (first.rows name d.kind d.cookie) (of_table name d.cookie stored.before)
      (of_table name d.cookie (take n stored.after)) (has (contents_at d.kind d.cookie (cut_table k table))))
      → IsCarriedIn first (with_table name table stored) name
  own_changed table g n k low enough d stands =
      set_here (λ t. IsCarried d.kind (first.rows name d.kind d.cookie) (of_table name d.cookie stored.before)
      (of_table name d.cookie (take n stored.after)) (has (contents_at d.kind d.cookie (cut_table k t)))) name table stored
      (g n k low (subst (λ b. synced_ops (if b then table else stored.tables name).changes ≤ k) (is_name name name refl) enough) d stands)

  pub ops_synced_carried : (changes : StoredOps) (synced : ℕ) → (stored.tables name).changes ≡ Some changes → changes.synced ≤ synced
      → IsCarriedIn first (with_table name (with_changes (Some (with_synced synced changes)) (stored.tables name)) stored) name
  ops_synced_carried changes synced is more = own_changed (with_changes (Some (with_synced synced changes)) (stored.tables name))
      (λ n k low enough d stands.
      subst (λ c. IsCarried d.kind (first.rows name d.kind d.cookie) (of_table name d.cookie stored.before)
      (of_table name d.cookie (take n stored.after))
      (has (contents_at d.kind d.cookie (cut_table k (with_changes c (stored.tables name)))))) is
      (h n k low (subst (λ c. synced_ops c ≤ k) (sym is) (omega (arith, more, enough))) d stands))

  -- a draft takes the place of its records
  module _ (o : IsOrdered first stored) (d : Definition) (rows : Contents) (defined : IsDefined first stored name (Some d))
      (all : length stored.after ≤ stored.synced) (synced : AreOpsSynced (stored.tables name).changes)
      (draft : IsDraft d.kind (has (contents_at d.kind d.cookie (stored.tables name))) (of_table name d.cookie stored.before)
      (of_table name d.cookie stored.after) (has rows))
      (ordered : AreOrdered rows) where
    abbrev Holds : ℕ → Contents → Type 0
    Holds n contents = IsCarried d.kind (first.rows name d.kind d.cookie) (of_table name d.cookie stored.before)
        (of_table name d.cookie (take n stored.after)) (has contents)

    old_holds : (n : ℕ) → stored.synced ≤ n → Holds n (contents_at d.kind d.cookie (stored.tables name))
    old_holds n low = subst (Holds n)
        (all_ops d.kind d.cookie (ops_count (stored.tables name).changes) (stored.tables name)
        (count_all d.cookie (stored.tables name).changes))
        (h n (ops_count (stored.tables name).changes) low (count_enough (stored.tables name).changes) d (defined n low))

    draft_holds : (n : ℕ) → stored.synced ≤ n → Holds n rows
    draft_holds n low =
        subst (λ q. IsCarried d.kind (first.rows name d.kind d.cookie) (of_table name d.cookie stored.before) (of_table name d.cookie q)
        (has rows))
        (sym (take_all n stored.after (omega (arith, all, low))))
        (draft_carried d.kind (first.rows name d.kind d.cookie) (has (contents_at d.kind d.cookie (stored.tables name))) (has rows)
        (of_table name d.cookie stored.before) (of_table name d.cookie stored.after)
        (subst (λ ops. Between d.kind (first.rows name d.kind d.cookie) ops (has (contents_at d.kind d.cookie (stored.tables name))))
        (steps.all_ops first stored name o d rows defined all synced draft ordered n low)
        (steps.old_between first stored name o d rows defined all synced draft ordered n low))
        draft)

    mixed_holds : (n : ℕ) → stored.synced ≤ n → Holds n (after put_op d.kind (ops_at d.cookie (stored.tables name).changes) rows)
    mixed_holds n low = either d.kind (after put d.kind (of_table name d.cookie stored.before) (first.rows name d.kind d.cookie))
        (has (contents_at d.kind d.cookie (stored.tables name))) (has rows)
        (has (after put_op d.kind (ops_at d.cookie (stored.tables name).changes) rows)) (of_table name d.cookie (take n stored.after))
        (old_holds n low) (draft_holds n low) (steps.which first stored name o d rows defined all synced draft ordered)

    same_definition : (n : ℕ) (e : Definition) → stored.synced ≤ n → standing (commits_at n stored) first.schema name ≡ Some e → d ≡ e
    same_definition n e low stands = some_same d e (sym (defined n low) ∙ stands)

    pub beside_carried : IsCarriedIn first (with_table name (with_rows d.cookie rows (stored.tables name)) stored) name
    beside_carried = own_changed (with_rows d.cookie rows (stored.tables name)) (λ n k low enough e stands.
        subst (λ f. IsCarried f.kind (first.rows name f.kind f.cookie) (of_table name f.cookie stored.before)
        (of_table name f.cookie (take n stored.after))
        (has (contents_at f.kind f.cookie (cut_table k (with_rows d.cookie rows (stored.tables name))))))
        (same_definition n e low stands)
        (subst (Holds n) (sym (steps.new_contents first stored name o d rows defined all synced draft ordered k enough))
        (mixed_holds n low)))

    pub alone_carried : IsCarriedIn first (with_table name (rows_alone d.cookie rows) stored) name
    alone_carried = own_changed (rows_alone d.cookie rows) (λ n k low enough e stands.
        subst (λ f. IsCarried f.kind (first.rows name f.kind f.cookie) (of_table name f.cookie stored.before)
        (of_table name f.cookie (take n stored.after)) (has (contents_at f.kind f.cookie (cut_table k (rows_alone d.cookie rows)))))
        (same_definition n e low stands)
        (subst (Holds n) (sym (own_rows d.cookie rows)) (draft_holds n low)))

  -- a commit is appended
  module _ (o : IsOrdered first stored) (commit : CommitRecord) (lawful : IsLawful commit (database_of (whole stored)))
      (later : IsOrdered first (with_commit commit stored)) where
    abbrev old_commits : List CommitRecord
    old_commits = stored.before ++ stored.after

    -- with all of the old ones
    module _ (n k : ℕ) (low : stored.synced ≤ n) (enough : synced_ops (stored.tables name).changes ≤ k)
        (all : length stored.after < n) where
      old_all : commits_at n stored ≡ old_commits
      old_all = ap (λ q. stored.before ++ q) (take_all n stored.after (omega (arith, all)))

      new_latest : take n (stored.after ++ commit ∷ []) ≡ take n stored.after ++ commit ∷ []
      new_latest = take_all n (stored.after ++ commit ∷ []) (omega (arith, all, length-append stored.after (commit ∷ [])))
          ∙ ap (λ q. q ++ commit ∷ []) (sym (take_all n stored.after (omega (arith, all))))

      new_all : commits_at n (with_commit commit stored) ≡ old_commits ++ commit ∷ []
      new_all = ap (λ q. stored.before ++ q) new_latest ∙ sym (append_assoc stored.before (take n stored.after) (commit ∷ []))
          ∙ ap (λ q. q ++ commit ∷ []) old_all

      -- it stood before with this kind and cookie
      stood : (mid : Schema) (old t : TableOf (Unit {0})) → schema_after old_commits first.schema ≡ Some mid → mid.tables name ≡ Some old
          → t.definition.kind ≡ old.definition.kind → t.definition.cookie ≡ old.definition.cookie
          → CarriedAt first (with_commit commit stored) name n k t.definition
      stood mid old t made was kind cookie =
          subst (λ q. IsCarried t.definition.kind (first.rows name t.definition.kind t.definition.cookie)
          (of_table name t.definition.cookie stored.before) q
          (has (contents_at t.definition.kind t.definition.cookie (cut_table k (stored.tables name)))))
          (sym (ap (of_table name t.definition.cookie) new_latest
          ∙ of_table-append name t.definition.cookie (take n stored.after) (commit ∷ [])))
          (appended t.definition.kind
          (after put t.definition.kind (of_table name t.definition.cookie stored.before)
          (first.rows name t.definition.kind t.definition.cookie))
          (has (contents_at t.definition.kind t.definition.cookie (cut_table k (stored.tables name))))
          (of_table name t.definition.cookie (take n stored.after)) (of_table name t.definition.cookie (commit ∷ []))
          (as_kind (h n k low enough old.definition
          (ap (λ q. standing q first.schema name) old_all ∙ stands_so old_commits first.schema mid name old made was))))
        where
          as_kind : CarriedAt first stored name n k old.definition
              → IsCarried t.definition.kind (first.rows name t.definition.kind t.definition.cookie)
              (of_table name t.definition.cookie stored.before) (of_table name t.definition.cookie (take n stored.after))
              (has (contents_at t.definition.kind t.definition.cookie (cut_table k (stored.tables name))))
          as_kind g =
              subst (λ c. IsCarried t.definition.kind (first.rows name t.definition.kind c) (of_table name c stored.before)
              (of_table name c (take n stored.after)) (has (contents_at t.definition.kind c (cut_table k (stored.tables name)))))
              (sym cookie)
              (subst (λ kd. IsCarried kd (first.rows name kd old.definition.cookie) (of_table name old.definition.cookie stored.before)
              (of_table name old.definition.cookie (take n stored.after))
              (has (contents_at kd old.definition.cookie (cut_table k (stored.tables name)))))
              (sym kind) g)

      with_all : (d : Definition) → standing (commits_at n (with_commit commit stored)) first.schema name ≡ Some d
          → CarriedAt first (with_commit commit stored) name n k d
      with_all d stands =
          subst (CarriedAt first (with_commit commit stored) name n k) f.is
          (elim (origin (commit ∷ []) mid.0 f.last name f.table next mid.2 f.stands) [
            | inl young ↦ nothing_at first (with_commit commit stored) name later n k low enough f.table.definition
                (stands_so (commits_at n (with_commit commit stored)) first.schema f.last name f.table f.reached f.stands)
                (of_table-young name f.table.definition.cookie mid.0.version stored.before old young.above)
            | inr s ↦ stood mid.0 s.old f.table mid.1 s.stood s.kind s.cookie
          ])
        where
          f : Found (commits_at n (with_commit commit stored)) first.schema name d
          f = found (commits_at n (with_commit commit stored)) first.schema name d stands

          mid : (s : Schema) × (schema_after old_commits first.schema ≡ Some s) × (schema_after (commit ∷ []) s ≡ Some f.last)
          mid = after_some (commit ∷ []) (schema_after old_commits first.schema) f.last
              (sym (run-append put_unit no_rows old_commits (commit ∷ []) first.schema)
              ∙ ap (λ q. schema_after q first.schema) (sym new_all) ∙ f.reached)

          version : mid.0.version ≡ reached_after first.schema.version old_commits
          version = version_after old_commits first.schema mid.0 mid.1

          next : AreInTurn mid.0.version (commit ∷ [])
          next = (
            subst (λ v. IsInTurn v commit) (sym version)
                (next_on first (whole stored) commit (whole_stands first stored o) o.in_turn lawful),
            tt,
          )

          old : AllUpTo mid.0.version stored.before
          old = subst (λ v. AllUpTo v stored.before) (sym version)
              (left_up_to (reached_after first.schema.version old_commits) stored.before stored.after
              (in_turn_up_to first.schema.version old_commits o.in_turn))

    pub appended_carried : IsCarriedIn first (with_commit commit stored) name
    appended_carried n k low enough d stands = elim (cases_lt (length stored.after) n) [
      | inl all ↦ with_all n k low enough all d stands
      | inr few ↦
          let same : take n (stored.after ++ commit ∷ []) ≡ take n stored.after = take-append-le n stored.after (commit ∷ []) few in
          subst (λ q. IsCarried d.kind (first.rows name d.kind d.cookie) (of_table name d.cookie stored.before) (of_table name d.cookie q)
          (has (contents_at d.kind d.cookie (cut_table k (stored.tables name)))))
          (sym same) (h n k low enough d (ap (λ q. standing (stored.before ++ q) first.schema name) (sym same) ∙ stands))
    ]
