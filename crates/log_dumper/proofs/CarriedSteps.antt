-- How far the ops of PREVIOUS.LOG on a table are carried.
use Rattle.std.proofs.Common.{◌≡◌, ◌≢◌, inl, inr, ℕ, ◌+◌, ◌<◌, ◌≤◌, arith, Bool, true, false, if◌then◌else◌, nat_eq, List, [], ◌∷◌, ◌++◌, length, take, Option, None, Some, refl, sym, ap, ◌∙◌, subst, append_assoc, append-nil, length-append}
use Rattle.std.proofs.lemmas.Bool.{cases_lt}
use Rattle.std.proofs.lemmas.List.{take_all, take-append-le}
use Rattle.db_model.specs.Commits.{CommitRecord}
use Rattle.db_model.specs.Database.{put_op}
use Rattle.db_model.specs.Definitions.{Definition}
use Rattle.db_model.specs.Ops.{Operation}
use Rattle.db_model.specs.declared.definition.Kind.{Kind}
use Rattle.dump_laws.specs.Contents.{has}
use Rattle.dump_laws.specs.Directory.{of_table}
use Rattle.dump_laws.specs.Effects.{put, after, Between, IsCarried}
use Rattle.dump_laws.specs.Order.{First}
use Rattle.dump_laws.proofs.Carrying.{appended, all_carried}
use Rattle.dump_laws.proofs.Closed.{after-append, of_table-append}
use Rattle.dump_laws.proofs.Contents.{has-after}
use Rattle.dump_laws.proofs.Names.{is_name, no_name}
use Rattle.dump_laws.proofs.Options.{some_same}
use Rattle.log_dumper.specs.Ordered.{IsOrdered, standing, IsDefined, IsCarriedIn, IsCarriedUpTo}
use Rattle.log_dumper.specs.Stored.{StoredOps, StoredTable, Stored, rows_at, ops_at, contents_at, no_ops, with_op, with_synced, with_changes, with_table, synced_ops, AreOpsSynced, cut_table, commits_at, with_commit, with_log_synced}
use Rattle.log_dumper.proofs.Cuts.{contents_cut}
use Rattle.log_dumper.proofs.TableActs.{BetweenAt, between_now}
use Rattle.log_dumper.proofs.TableSteps.{own_ops, all_left}

-- what the table of a name has, where it was set
pub set_here : (P : StoredTable → Type 0) (name : List ℕ) (table : StoredTable) (stored : Stored) → P table
    → P ((with_table name table stored).tables name)
set_here P name table stored h = subst (λ b. P (if b then table else stored.tables name)) (sym (is_name name name refl)) h

pub set_apart : (P : StoredTable → Type 0) (name other : List ℕ) (table : StoredTable) (stored : Stored) → name ≢ other
    → P (stored.tables other) → P ((with_table name table stored).tables other)
set_apart P name other table stored apart h = subst (λ b. P (if b then table else stored.tables other)) (sym (no_name name other apart)) h

-- with all ops, as with none cut off
pub all_ops : (kind : Kind) (cookie k : ℕ) (table : StoredTable) → take k (ops_at cookie table.changes) ≡ ops_at cookie table.changes
    → contents_at kind cookie (cut_table k table) ≡ contents_at kind cookie table
all_ops kind cookie k table all =
    contents_cut kind cookie k table ∙ ap (λ ops. after put_op kind ops (rows_at cookie table.records)) all

-- a number of ops that is enough
abbrev pub ops_count : Option StoredOps → ℕ
ops_count None = 0
ops_count (Some changes) = changes.synced + length changes.ops

pub count_all : (cookie : ℕ) (changes : Option StoredOps) → take (ops_count changes) (ops_at cookie changes) ≡ ops_at cookie changes
count_all cookie None = take_all 0 [] (omega arith)
count_all cookie (Some changes) = by (nat_eq changes.cookie cookie)
  where
    by : (b : Bool) → take (changes.synced + length changes.ops) (if b then changes.ops else []) ≡ (if b then changes.ops else [])
    by true = take_all (changes.synced + length changes.ops) changes.ops (omega arith)
    by false = take_all (changes.synced + length changes.ops) [] (omega arith)

pub count_enough : (changes : Option StoredOps) → synced_ops changes ≤ ops_count changes
count_enough None = omega arith
count_enough (Some changes) = omega arith

-- the ops of both logs on a table
pub both_ops : (stored : Stored) (name : List ℕ) (cookie n : ℕ) → of_table name cookie (commits_at n stored)
    ≡ of_table name cookie stored.before ++ of_table name cookie (take n stored.after)
both_ops stored name cookie n = of_table-append name cookie stored.before (take n stored.after)

-- ---- op by op

module _ (first : First) (stored : Stored) (name : List ℕ) (d : Definition) where
  pub carrying_begun : IsDefined first stored name (Some d) → IsOrdered first stored
      → IsCarriedUpTo first stored name d [] (of_table name d.cookie stored.before)
  carrying_begun defined o = record {
    base = has (contents_at d.kind d.cookie (stored.tables name));
    between = λ n low. subst (λ c. BetweenAt first stored name n d c)
        (all_ops d.kind d.cookie (ops_count (stored.tables name).changes) (stored.tables name)
        (count_all d.cookie (stored.tables name).changes))
        (between_now first stored o name n (ops_count (stored.tables name).changes) low
        (count_enough (stored.tables name).changes) d (defined n low));
    files = refl;
    all = refl;
  }

  module _ (carried left : List Operation) (h : IsCarriedUpTo first stored name d carried left) where
    -- other files of the table, with some ops more done
    with_more : (table : StoredTable) (more rest : List Operation) → carried ++ left ≡ (carried ++ more) ++ rest
        → has (contents_at d.kind d.cookie table) ≡ after put d.kind more (has (contents_at d.kind d.cookie (stored.tables name)))
        → IsCarriedUpTo first (with_table name table stored) name d (carried ++ more) rest
    with_more table more rest split same = record {
      base = h.base;
      between = h.between;
      files = set_here (λ t. has (contents_at d.kind d.cookie t) ≡ after put d.kind (carried ++ more) h.base) name table stored
          (same ∙ ap (after put d.kind more) h.files ∙ sym (after-append put d.kind carried more h.base));
      all = sym split ∙ h.all;
    }

    pub carrying_opened : ops_at d.cookie (stored.tables name).changes ≡ []
        → IsCarriedUpTo first (with_table name (with_changes (Some (no_ops d.cookie)) (stored.tables name)) stored) name d carried left
    carrying_opened none = subst
        (λ cs. IsCarriedUpTo first (with_table name (with_changes (Some (no_ops d.cookie)) (stored.tables name)) stored) name d cs left)
        (append-nil carried)
        (with_more (with_changes (Some (no_ops d.cookie)) (stored.tables name)) [] left
        (ap (λ cs. cs ++ left) (sym (append-nil carried)))
        (ap (λ ops. has (after put_op d.kind ops (rows_at d.cookie (stored.tables name).records)))
        (own_ops d.cookie (no_ops d.cookie) refl ∙ sym none)))

    module _ (changes : StoredOps) (is : (stored.tables name).changes ≡ Some changes) where
      pub carrying_synced : (synced : ℕ)
          → IsCarriedUpTo first (with_table name (with_changes (Some (with_synced synced changes)) (stored.tables name)) stored) name d
          carried left
      carrying_synced synced = subst
          (λ cs. IsCarriedUpTo first (with_table name (with_changes (Some (with_synced synced changes)) (stored.tables name)) stored) name d
          cs left)
          (append-nil carried)
          (with_more (with_changes (Some (with_synced synced changes)) (stored.tables name)) [] left
          (ap (λ cs. cs ++ left) (sym (append-nil carried)))
          (ap (λ o. has (after put_op d.kind (ops_at d.cookie o) (rows_at d.cookie (stored.tables name).records))) (sym is)))

      pub carrying_next : (op : Operation) (rest : List Operation) → left ≡ op ∷ rest → changes.cookie ≡ d.cookie
          → IsCarriedUpTo first (with_table name (with_changes (Some (with_op op changes)) (stored.tables name)) stored) name d
          (carried ++ op ∷ []) rest
      carrying_next op rest next cookie = with_more (with_changes (Some (with_op op changes)) (stored.tables name)) (op ∷ []) rest
          (ap (λ l. carried ++ l) next ∙ sym (append_assoc carried (op ∷ []) rest))
          (ap (λ ops. has (after put_op d.kind ops (rows_at d.cookie (stored.tables name).records)))
          (own_ops d.cookie (with_op op changes) cookie)
          ∙ ap has (after-append put_op d.kind changes.ops (op ∷ []) (rows_at d.cookie (stored.tables name).records))
          ∙ has-after d.kind (op ∷ []) (after put_op d.kind changes.ops (rows_at d.cookie (stored.tables name).records))
          ∙ ap (λ ops. after put d.kind (op ∷ []) (has (after put_op d.kind ops (rows_at d.cookie (stored.tables name).records))))
          (sym (own_ops d.cookie changes cookie) ∙ ap (ops_at d.cookie) (sym is)))

    -- while another table's files are worked on, a commit is appended, or more of the log is made durable

    pub carrying_apart : (other : List ℕ) (table : StoredTable) → other ≢ name
        → IsCarriedUpTo first (with_table other table stored) name d carried left
    carrying_apart other table apart = record {
      base = h.base;
      between = h.between;
      files = set_apart (λ t. has (contents_at d.kind d.cookie t) ≡ after put d.kind carried h.base) other name table stored apart h.files;
      all = h.all;
    }

    pub carrying_appended : (commit : CommitRecord) → IsCarriedUpTo first (with_commit commit stored) name d carried left
    carrying_appended commit = record {
      base = h.base;
      between = λ n low. elim (cases_lt (length stored.after) n) [
        | inr few ↦ subst (λ q. Between d.kind (first.rows name d.kind d.cookie) (of_table name d.cookie (stored.before ++ q)) h.base)
            (sym (take-append-le n stored.after (commit ∷ []) few)) (h.between n low)
        | inl all ↦ subst (λ q. Between d.kind (first.rows name d.kind d.cookie) q h.base)
            (sym (ops_more n all)) (appended d.kind (first.rows name d.kind d.cookie) h.base (of_table name d.cookie (commits_at n stored))
            (of_table name d.cookie (commit ∷ [])) (h.between n low))
      ];
      files = h.files;
      all = h.all;
    }
      where
        ops_more : (n : ℕ) → length stored.after < n → of_table name d.cookie (commits_at n (with_commit commit stored))
            ≡ of_table name d.cookie (commits_at n stored) ++ of_table name d.cookie (commit ∷ [])
        ops_more n all =
            ap (λ q. of_table name d.cookie (stored.before ++ q))
            (take_all n (stored.after ++ commit ∷ []) (omega (arith, all, length-append stored.after (commit ∷ [])))
            ∙ ap (λ q. q ++ commit ∷ []) (sym (take_all n stored.after (omega (arith, all)))))
            ∙ ap (of_table name d.cookie) (sym (append_assoc stored.before (take n stored.after) (commit ∷ [])))
            ∙ of_table-append name d.cookie (commits_at n stored) (commit ∷ [])

    pub carrying_log_synced : (n : ℕ) → stored.synced ≤ n → IsCarriedUpTo first (with_log_synced n stored) name d carried left
    carrying_log_synced n more = record {
      base = h.base;
      between = λ m low. let le : n ≤ m = low in h.between m (omega (arith, more, le));
      files = h.files;
      all = h.all;
    }

  -- none is left, and all are durable
  pub carrying_ended : (carried : List Operation) → IsCarriedUpTo first stored name d carried [] → IsDefined first stored name (Some d)
      → AreOpsSynced (stored.tables name).changes → IsCarriedIn first stored name
  carrying_ended carried h defined synced n k low enough e stands =
      subst (λ f. IsCarried f.kind (first.rows name f.kind f.cookie) (of_table name f.cookie stored.before)
      (of_table name f.cookie (take n stored.after)) (has (contents_at f.kind f.cookie (cut_table k (stored.tables name)))))
      (some_same d e (sym (defined n low) ∙ stands))
      (subst (IsCarried d.kind (first.rows name d.kind d.cookie) (of_table name d.cookie stored.before)
      (of_table name d.cookie (take n stored.after)))
      (sym (ap has (all_ops d.kind d.cookie k (stored.tables name) (all_left d.cookie k (stored.tables name).changes synced enough))
      ∙ h.files ∙ ap (λ ops. after put d.kind ops h.base) (sym (append-nil carried) ∙ h.all)))
      (all_carried d.kind (first.rows name d.kind d.cookie) h.base (of_table name d.cookie stored.before)
      (of_table name d.cookie (take n stored.after))
      (subst (λ ops. Between d.kind (first.rows name d.kind d.cookie) ops h.base) (both_ops stored name d.cookie n) (h.between n low))))

-- ---- tables that have nothing to carry

module _ (first : First) (stored : Stored) (name : List ℕ) where
  -- of one image
  abbrev pub CarriedAt : ℕ → ℕ → Definition → Type 0
  CarriedAt n k d = IsCarried d.kind (first.rows name d.kind d.cookie) (of_table name d.cookie stored.before)
      (of_table name d.cookie (take n stored.after)) (has (contents_at d.kind d.cookie (cut_table k (stored.tables name))))

  pub nothing_at : IsOrdered first stored → (n k : ℕ) → stored.synced ≤ n → synced_ops (stored.tables name).changes ≤ k
      → (d : Definition) → standing (commits_at n stored) first.schema name ≡ Some d → of_table name d.cookie stored.before ≡ []
      → CarriedAt n k d
  nothing_at o n k low enough d stands none =
      subst (λ ops. IsCarried d.kind (first.rows name d.kind d.cookie) ops (of_table name d.cookie (take n stored.after))
      (has (contents_at d.kind d.cookie (cut_table k (stored.tables name))))) (sym none)
      (subst (λ ops. Between d.kind (first.rows name d.kind d.cookie) ops
      (has (contents_at d.kind d.cookie (cut_table k (stored.tables name)))))
      (both_ops stored name d.cookie n ∙ ap (λ ops. ops ++ of_table name d.cookie (take n stored.after)) none)
      (between_now first stored o name n k low enough d stands))

  pub nothing_carried : IsOrdered first stored
      → ((n : ℕ) → stored.synced ≤ n → (d : Definition) → standing (commits_at n stored) first.schema name ≡ Some d
      → of_table name d.cookie stored.before ≡ []) → IsCarriedIn first stored name
  nothing_carried o none n k low enough d stands = nothing_at o n k low enough d stands (none n low d stands)

  pub absent_carried : IsDefined first stored name None → IsCarriedIn first stored name
  absent_carried gone n k low enough d stands = let both : None ≡ Some d = sym (gone n low) ∙ stands in absurd (cc both)
