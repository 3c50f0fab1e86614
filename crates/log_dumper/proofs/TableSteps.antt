-- The steps on the files of one table: ops begun, carried and synced, new records, and files taken away.
use Rattle.std.proofs.Common.{◌≡◌, ◌⊎◌, inl, inr, ℕ, ◌<◌, ◌≤◌, arith, Bool, true, false, if◌then◌else◌, nat_eq, List, [], ◌∷◌, ◌++◌, length, take, Option, None, Some, refl, sym, ap, ◌∙◌, subst, append_assoc, length-append}
use Rattle.std.specs.List.{AllByRecursion}
use Rattle.std.proofs.lemmas.Bool.{cases_lt, eq-eqb}
use Rattle.std.proofs.lemmas.List.{take_all, take-append-le}
use Rattle.term_core.specs.Tree.{Tree}
use Rattle.db_model.specs.Database.{Contents, put_op}
use Rattle.db_model.specs.Definitions.{Definition}
use Rattle.db_model.specs.Ops.{Operation}
use Rattle.db_model.specs.declared.definition.Kind.{Kind}
use Rattle.dump_laws.specs.Contents.{has, AreOrdered, IsKeyed}
use Rattle.dump_laws.specs.Directory.{of_table}
use Rattle.dump_laws.specs.Effects.{put, after, Between, IsAmong, IsDraft}
use Rattle.dump_laws.specs.Order.{First}
use Rattle.dump_laws.proofs.Carrying.{carried, through, either, draft_between, beside}
use Rattle.dump_laws.proofs.Closed.{after-append, of_table-append}
use Rattle.dump_laws.proofs.Contents.{has-after}
use Rattle.dump_laws.proofs.Options.{some_same}
use Rattle.log_dumper.specs.Ordered.{AreOpsKeyed, OpsUpTo, synced_version, IsOrdered, standing, IsDefined}
use Rattle.log_dumper.specs.Stored.{StoredOps, StoredTable, Stored, rows_at, ops_at, contents_at, no_ops, with_op, with_synced, with_changes, with_rows, rows_alone, without_rows, no_table, with_table, synced_ops, AreOpsSynced, cut_table, commits_at}
use Rattle.log_dumper.proofs.Cuts.{take_none, contents_cut}
use Rattle.log_dumper.proofs.TableActs.{BetweenAt, between_now, cookie_reached, table_changed}

-- ---- ops in their place

-- those of another table's cookie are none
pub own_ops : (cookie : ℕ) (changes : StoredOps) → changes.cookie ≡ cookie → ops_at cookie (Some changes) ≡ changes.ops
own_ops cookie changes is = ap (λ b. if b then changes.ops else []) (eq-eqb changes.cookie cookie is)

pub own_rows : (cookie : ℕ) (rows : Contents) → rows_at cookie (Some record { cookie = cookie; rows = rows }) ≡ rows
own_rows cookie rows = ap (λ b. if b then rows else []) (eq-eqb cookie cookie refl)

-- all of them are left
pub all_left : (cookie k : ℕ) (changes : Option StoredOps) → AreOpsSynced changes → synced_ops changes ≤ k
    → take k (ops_at cookie changes) ≡ ops_at cookie changes
all_left cookie k None synced enough = take_none k
all_left cookie k (Some changes) synced enough = go (nat_eq changes.cookie cookie)
  where
    go : (b : Bool) → take k (if b then changes.ops else []) ≡ (if b then changes.ops else [])
    go true = take_all k changes.ops (omega (arith, synced, enough))
    go false = take_none k

among_more : (op : Operation) (ops more : List Operation) → IsAmong op ops → IsAmong op (ops ++ more)
among_more op ops more h = record {
  before = h.before;
  behind = h.behind ++ more;
  is = sym (append_assoc h.before (op ∷ h.behind) more) ∙ ap (λ q. q ++ more) h.is;
}

all_push : {X : Type 0} (P : X → Type 0) (xs : List X) (x : X) → AllByRecursion P xs → P x → AllByRecursion P (xs ++ x ∷ [])
all_push P [] x h one = (one, tt)
all_push P (y ∷ xs) x h one = (h.0, all_push P xs x h.1 one)

module _ (first : First) (stored : Stored) (name : List ℕ) (o : IsOrdered first stored) where
  abbrev pub was : StoredTable
  was = stored.tables name

  -- ---- a file of ops is begun, without any

  pub ops_begun : (d : Definition) → IsDefined first stored name (Some d) → ops_at d.cookie was.changes ≡ []
      → IsOrdered first (with_table name (with_changes (Some (no_ops d.cookie)) was) stored)
  ops_begun d defined none = table_changed first stored o name (with_changes (Some (no_ops d.cookie)) was)
      (λ n k low enough e stands.
      let same : d ≡ e = some_same d e (sym (defined n low) ∙ stands) in
      subst (λ c. BetweenAt first stored name n e c) (no_change k e (ap (λ f. f.cookie) same))
      (between_now first stored o name n (synced_ops was.changes) low (omega arith) e stands))
      ((o.cookies name).0, cookie_reached first stored o name d defined)
      ((o.in_order.tables name).0, tt)
    where
      no_change : (k : ℕ) (e : Definition) → d.cookie ≡ e.cookie
          → contents_at e.kind e.cookie (cut_table (synced_ops was.changes) was)
          ≡ contents_at e.kind e.cookie (cut_table k (with_changes (Some (no_ops d.cookie)) was))
      no_change k e same =
          contents_cut e.kind e.cookie (synced_ops was.changes) was
          ∙ ap (λ ops. after put_op e.kind ops (rows_at e.cookie was.records))
          (ap (λ c. take (synced_ops was.changes) (ops_at c was.changes)) (sym same) ∙ ap (take (synced_ops was.changes)) none
          ∙ take_none (synced_ops was.changes) ∙ sym (take_none k)
          ∙ ap (take k) (sym (own_ops e.cookie (no_ops d.cookie) same)))
          ∙ sym (contents_cut e.kind e.cookie k (with_changes (Some (no_ops d.cookie)) was))

  -- ---- with other ops in it

  module _ (changes : StoredOps) (is : was.changes ≡ Some changes) where
    was_keyed : AllByRecursion IsKeyed changes.ops
    was_keyed = subst AreOpsKeyed is (o.in_order.tables name).1

    was_upto : changes.cookie ≤ synced_version first stored
    was_upto = subst (OpsUpTo (synced_version first stored)) is (o.cookies name).1

    was_contents : (kind : Kind) (k : ℕ) → contents_at kind changes.cookie (cut_table k was)
        ≡ after put_op kind (take k changes.ops) (rows_at changes.cookie was.records)
    was_contents kind k =
        contents_cut kind changes.cookie k was
        ∙ ap (λ ops. after put_op kind (take k ops) (rows_at changes.cookie was.records))
        (ap (ops_at changes.cookie) is ∙ own_ops changes.cookie changes refl)

    -- more of them are synced
    pub ops_synced : (n : ℕ) → changes.synced ≤ n
        → IsOrdered first (with_table name (with_changes (Some (with_synced n changes)) was) stored)
    ops_synced n more = table_changed first stored o name (with_changes (Some (with_synced n changes)) was)
        (λ m k low enough e stands.
        subst (λ c. BetweenAt first stored name m e (contents_at e.kind e.cookie (cut_table k (with_changes c was)))) is
        (between_now first stored o name m k low
        (subst (λ c. synced_ops c ≤ k) (sym is) (omega (arith, more, enough))) e stands))
        ((o.cookies name).0, was_upto) ((o.in_order.tables name).0, was_keyed)

    -- an op of PREVIOUS.LOG is carried into it
    pub op_carried : (d : Definition) (op : Operation) → IsDefined first stored name (Some d) → changes.cookie ≡ d.cookie
        → IsAmong op (of_table name d.cookie stored.before) → IsKeyed op
        → IsOrdered first (with_table name (with_changes (Some (with_op op changes)) was) stored)
    op_carried d op defined cookie among keyed = table_changed first stored o name table
        (λ n k low enough e stands.
        let same : d ≡ e = some_same d e (sym (defined n low) ∙ stands) in
        subst (λ f. BetweenAt first stored name n f (contents_at f.kind f.cookie (cut_table k table))) same
        (elim (cases_lt (length changes.ops) k) [
          | inr few ↦ subst (λ c. BetweenAt first stored name n d c) (without k few) (old n k low enough)
          | inl all ↦ subst (λ c. BetweenAt first stored name n d c) (sym (with_last k all))
              (subst (λ r. Between d.kind (first.rows name d.kind d.cookie) (of_table name d.cookie (commits_at n stored)) r)
              (sym (carried_rows k all))
              (carried d.kind (first.rows name d.kind d.cookie) (has (contents_at d.kind d.cookie (cut_table k was)))
              (of_table name d.cookie (commits_at n stored)) op
              (subst (IsAmong op) (sym (of_table-append name d.cookie stored.before (take n stored.after)))
              (among_more op (of_table name d.cookie stored.before) (of_table name d.cookie (take n stored.after)) among))
              (old n k low enough)))
        ]))
        ((o.cookies name).0, was_upto) ((o.in_order.tables name).0, all_push IsKeyed changes.ops op was_keyed keyed)
      where
        table : StoredTable
        table = with_changes (Some (with_op op changes)) was

        old : (n k : ℕ) → stored.synced ≤ n → changes.synced ≤ k
            → BetweenAt first stored name n d (contents_at d.kind d.cookie (cut_table k was))
        old n k low enough = between_now first stored o name n k low (subst (λ c. synced_ops c ≤ k) (sym is) enough) d (defined n low)

        was_so : (k : ℕ) → contents_at d.kind d.cookie (cut_table k was)
            ≡ after put_op d.kind (take k changes.ops) (rows_at d.cookie was.records)
        was_so k = subst (λ c. contents_at d.kind c (cut_table k was) ≡ after put_op d.kind (take k changes.ops) (rows_at c was.records))
            cookie (was_contents d.kind k)

        now_so : (k : ℕ) → contents_at d.kind d.cookie (cut_table k table)
            ≡ after put_op d.kind (take k (changes.ops ++ op ∷ [])) (rows_at d.cookie was.records)
        now_so k = contents_cut d.kind d.cookie k table
            ∙ ap (λ ops. after put_op d.kind (take k ops) (rows_at d.cookie was.records)) (own_ops d.cookie (with_op op changes) cookie)

        without : (k : ℕ) → k ≤ length changes.ops
            → contents_at d.kind d.cookie (cut_table k was) ≡ contents_at d.kind d.cookie (cut_table k table)
        without k few = was_so k
            ∙ ap (λ ops. after put_op d.kind ops (rows_at d.cookie was.records)) (sym (take-append-le k changes.ops (op ∷ []) few))
            ∙ sym (now_so k)

        with_last : (k : ℕ) → length changes.ops < k → contents_at d.kind d.cookie (cut_table k table)
            ≡ put_op d.kind op (contents_at d.kind d.cookie (cut_table k was))
        with_last k all = now_so k
            ∙ ap (λ ops. after put_op d.kind ops (rows_at d.cookie was.records))
            (take_all k (changes.ops ++ op ∷ []) (omega (arith, all, length-append changes.ops (op ∷ []))))
            ∙ after-append put_op d.kind changes.ops (op ∷ []) (rows_at d.cookie was.records)
            ∙ ap (put_op d.kind op) (ap (λ ops. after put_op d.kind ops (rows_at d.cookie was.records))
            (sym (take_all k changes.ops (omega (arith, all)))) ∙ sym (was_so k))

        carried_rows : (k : ℕ) → length changes.ops < k → has (put_op d.kind op (contents_at d.kind d.cookie (cut_table k was)))
            ≡ put d.kind op (has (contents_at d.kind d.cookie (cut_table k was)))
        carried_rows k all = has-after d.kind (op ∷ []) (contents_at d.kind d.cookie (cut_table k was))

  -- ---- a draft of new records takes the place of the old ones

  module _ (d : Definition) (rows : Contents) (defined : IsDefined first stored name (Some d)) (all : length stored.after ≤ stored.synced)
      (synced : AreOpsSynced was.changes)
      (draft : IsDraft d.kind (has (contents_at d.kind d.cookie was)) (of_table name d.cookie stored.before)
      (of_table name d.cookie stored.after) (has rows))
      (ordered : AreOrdered rows) where
    abbrev pub base : Contents
    base = rows_at d.cookie was.records

    abbrev pub history : List Operation
    history = ops_at d.cookie was.changes

    pub all_ops : (n : ℕ) → stored.synced ≤ n
        → of_table name d.cookie (commits_at n stored) ≡ of_table name d.cookie stored.before ++ of_table name d.cookie stored.after
    all_ops n low = ap (λ q. of_table name d.cookie (stored.before ++ q)) (take_all n stored.after (omega (arith, all, low)))
        ∙ of_table-append name d.cookie stored.before stored.after

    -- as they are, and as the draft is
    pub old_between : (n : ℕ) → stored.synced ≤ n → BetweenAt first stored name n d (contents_at d.kind d.cookie was)
    old_between n low = subst (λ c. BetweenAt first stored name n d c)
        (contents_cut d.kind d.cookie (synced_ops was.changes) was
        ∙ ap (λ ops. after put_op d.kind ops base) (all_left d.cookie (synced_ops was.changes) was.changes synced (omega arith)))
        (between_now first stored o name n (synced_ops was.changes) low (omega arith) d (defined n low))

    draft_is_between : (n : ℕ) → stored.synced ≤ n → BetweenAt first stored name n d rows
    draft_is_between n low = through d.kind (first.rows name d.kind d.cookie) (has (contents_at d.kind d.cookie was)) (has rows)
        (of_table name d.cookie (commits_at n stored)) (old_between n low)
        (subst (λ ops. Between d.kind (has (contents_at d.kind d.cookie was)) ops (has rows)) (sym (all_ops n low))
        (draft_between d.kind (has (contents_at d.kind d.cookie was)) (has rows) (of_table name d.cookie stored.before)
        (of_table name d.cookie stored.after) draft))

    -- each record is as it was or as in the draft
    pub which : (r : Tree) → (has (after put_op d.kind history rows) r ≡ has (contents_at d.kind d.cookie was) r)
        ⊎ (has (after put_op d.kind history rows) r ≡ has rows r)
    which r = subst (λ m. (m r ≡ has (contents_at d.kind d.cookie was) r) ⊎ (m r ≡ has rows r)) (sym (has-after d.kind history rows))
        (beside d.kind (has base) (has (contents_at d.kind d.cookie was)) (has rows) history
        (λ r. ap (λ m. m r) (has-after d.kind history base)) r)

    -- the old ops done over the draft
    mixed_between : (n : ℕ) → stored.synced ≤ n → BetweenAt first stored name n d (after put_op d.kind history rows)
    mixed_between n low = either d.kind (first.rows name d.kind d.cookie) (has (contents_at d.kind d.cookie was)) (has rows)
        (has (after put_op d.kind history rows)) (of_table name d.cookie (commits_at n stored)) (old_between n low) (draft_is_between n low)
        which

    pub defined_as : (n : ℕ) (e : Definition) → stored.synced ≤ n → standing (commits_at n stored) first.schema name ≡ Some e → d ≡ e
    defined_as n e low stands = some_same d e (sym (defined n low) ∙ stands)

    pub new_contents : (k : ℕ) → synced_ops was.changes ≤ k
        → contents_at d.kind d.cookie (cut_table k (with_rows d.cookie rows was)) ≡ after put_op d.kind history rows
    new_contents k enough = contents_cut d.kind d.cookie k (with_rows d.cookie rows was)
        ∙ ap (λ ops. after put_op d.kind ops (rows_at d.cookie (Some record { cookie = d.cookie; rows = rows })))
        (all_left d.cookie k was.changes synced enough)
        ∙ ap (after put_op d.kind history) (own_rows d.cookie rows)

    pub rows_beside : IsOrdered first (with_table name (with_rows d.cookie rows was) stored)
    rows_beside = table_changed first stored o name (with_rows d.cookie rows was)
        (λ n k low enough e stands.
        subst (λ f. BetweenAt first stored name n f (contents_at f.kind f.cookie (cut_table k (with_rows d.cookie rows was))))
        (defined_as n e low stands)
        (subst (λ c. BetweenAt first stored name n d c) (sym (new_contents k enough)) (mixed_between n low)))
        (cookie_reached first stored o name d defined, (o.cookies name).1) (ordered, (o.in_order.tables name).1)

    pub rows_left : IsOrdered first (with_table name (rows_alone d.cookie rows) stored)
    rows_left = table_changed first stored o name (rows_alone d.cookie rows)
        (λ n k low enough e stands.
        subst (λ f. BetweenAt first stored name n f (contents_at f.kind f.cookie (cut_table k (rows_alone d.cookie rows))))
        (defined_as n e low stands)
        (subst (λ c. BetweenAt first stored name n d c) (sym (own_rows d.cookie rows)) (draft_is_between n low)))
        (cookie_reached first stored o name d defined, tt) (ordered, tt)

  -- ---- a table that does not stand

  pub files_removed : IsDefined first stored name None
      → IsOrdered first (with_table name (without_rows was) stored) × IsOrdered first (with_table name no_table stored)
  files_removed gone = (
    table_changed first stored o name (without_rows was) (λ n k low enough e stands. absurd (never n e low stands))
        (tt, (o.cookies name).1) (tt, (o.in_order.tables name).1),
    table_changed first stored o name no_table (λ n k low enough e stands. absurd (never n e low stands)) (tt, tt) (tt, tt),
  )
    where
      never : (n : ℕ) (e : Definition) → stored.synced ≤ n → standing (commits_at n stored) first.schema name ≡ Some e → ⊥
      never n e low stands = let both : None ≡ Some e = sym (gone n low) ∙ stands in cc both
