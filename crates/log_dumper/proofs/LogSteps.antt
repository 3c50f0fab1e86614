-- The steps on the logs and on the schema file, and what a start finds.
use mathlib.Core.Path.{fun_ext}
use Rattle.std.proofs.Common.{◌≡◌, inl, inr, ℕ, ◌+◌, ◌<◌, ◌≤◌, arith, Bool, true, false, if◌then◌else◌, nat_eq, List, [], ◌∷◌, ◌++◌, length, take, drop, Option, None, Some, refl, sym, ap, ◌∙◌, subst, append_assoc, append-nil, length-append}
use Rattle.std.specs.List.{AllByRecursion}
use Rattle.std.proofs.lemmas.Bool.{cases_lt}
use Rattle.std.proofs.lemmas.List.{take_all, take-append-le}
use Rattle.db_model.specs.Commits.{CommitRecord}
use Rattle.db_model.specs.Database.{put_op, do_commit}
use Rattle.db_model.specs.Lawful.{IsLawful}
use Rattle.dump_laws.specs.Contents.{IsKeyed}
use Rattle.dump_laws.specs.Directory.{reached_after, under}
use Rattle.dump_laws.specs.Effects.{after}
use Rattle.dump_laws.specs.Lists.{Directory, database_of, seen, view_of, IsOrderly, AreKeyed}
use Rattle.dump_laws.specs.Order.{IsInTurn, AreInTurn, NoneAbove, First}
use Rattle.dump_laws.proofs.Runs.{reached_after-append, reached_after_later}
use Rattle.dump_laws.proofs.Logs.{done_seen, lawful_next}
use Rattle.dump_laws.proofs.Meaning.{meaning_seen}
use Rattle.dump_laws.proofs.Options.{some_same}
use Rattle.dump_laws.proofs.Plain.{live}
use Rattle.dump_laws.proofs.Sorted.{alike}
use Rattle.dump_laws.proofs.Views.{image}
use Rattle.dump_laws.proofs.Whole.{in_turn_appended}
use Rattle.log_dumper.specs.Ordered.{over, synced_version, StandsOn, IsOrdered}
use Rattle.log_dumper.specs.Stored.{StoredOps, Stored, rows_at, ops_at, contents_at, Cut, synced_ops, IsCut, cut_table, commits_at, image_at, whole, with_commits, IsImageOf, with_commit, with_log_synced, rotated}
use Rattle.log_dumper.proofs.Cuts.{take_none, commits_whole, in_turn_at, reached_at, contents_cut, upto_later, image_orderly}
use Rattle.log_dumper.proofs.OneImage.{logs_moved, next_on, commit_appended, same_database}

-- ---- all that is stored, as one of the images

-- where all is left
pub all_cut : (cut : Cut) (stored : Stored) → length stored.after ≤ cut.commits
    → ((name : List ℕ) (cookie : ℕ) → take (cut.ops name) (ops_at cookie (stored.tables name).changes)
    ≡ ops_at cookie (stored.tables name).changes)
    → image_at cut stored ≡ whole stored
all_cut cut stored commits ops =
    ap (λ latest. record {
      version = stored.version;
      definitions = stored.definitions;
      previous = stored.before;
      latest = latest;
      files = λ name kind cookie. contents_at kind cookie (cut_table (cut.ops name) (stored.tables name));
    }) (take_all cut.commits stored.after commits)
    ∙ ap (λ files. record {
      version = stored.version;
      definitions = stored.definitions;
      previous = stored.before;
      latest = stored.after;
      files = files;
    })
    (fun_ext (λ name. fun_ext (λ kind. fun_ext (λ cookie. contents_cut kind cookie (cut.ops name) (stored.tables name)
    ∙ ap (λ all. after put_op kind all (rows_at cookie (stored.tables name).records)) (ops name cookie)))))

abbrev op_count : Option StoredOps → ℕ
op_count None = 0
op_count (Some changes) = changes.synced + length changes.ops

abbrev full_cut : Stored → Cut
full_cut stored = record { commits = stored.synced + length stored.after; ops = λ name. op_count (stored.tables name).changes }

full_left : (stored : Stored) → IsCut (full_cut stored) stored
full_left stored = record { commits = omega arith; ops = λ name. go (stored.tables name).changes }
  where
    go : (changes : Option StoredOps) → synced_ops changes ≤ op_count changes
    go None = omega arith
    go (Some changes) = omega arith

whole_is : (stored : Stored) → image_at (full_cut stored) stored ≡ whole stored
whole_is stored = all_cut (full_cut stored) stored (omega arith) (λ name cookie. go cookie (stored.tables name).changes)
  where
    go : (cookie : ℕ) (changes : Option StoredOps) → take (op_count changes) (ops_at cookie changes) ≡ ops_at cookie changes
    go cookie None = take_none 0
    go cookie (Some changes) = by (nat_eq changes.cookie cookie)
      where
        by : (b : Bool) → take (changes.synced + length changes.ops) (if b then changes.ops else []) ≡ (if b then changes.ops else [])
        by true = take_all (changes.synced + length changes.ops) changes.ops (omega arith)
        by false = take_none (changes.synced + length changes.ops)

abbrev with_latest : Cut → Stored → List CommitRecord → Directory
with_latest cut stored latest = record (image_at cut stored) { latest = latest }

-- the same with all commits
abbrev all_commits : Stored → Cut → Cut
all_commits stored cut = record { commits = stored.synced + length stored.after; ops = cut.ops }

module _ (first : First) (stored : Stored) (o : IsOrdered first stored) where
  pub whole_stands : StandsOn first (whole stored)
  whole_stands = subst (StandsOn first) (whole_is stored) (o.each (full_cut stored) (full_left stored))

  pub whole_orderly : IsOrderly (whole stored)
  whole_orderly = subst IsOrderly (whole_is stored) (image_orderly (full_cut stored) stored o.in_order)

  -- ---- images

  pub image_stands : (d : Directory) → IsImageOf stored d → StandsOn first d
  image_stands d of = subst (StandsOn first) (sym of.is)
      (logs_moved first (image_at of.cut stored) d.previous d.latest of.commits (o.each of.cut of.left))

  pub image_in_turn : (d : Directory) → IsImageOf stored d → AreInTurn first.schema.version (d.previous ++ d.latest)
  image_in_turn d of = subst (AreInTurn first.schema.version) (sym of.commits)
      (in_turn_at first.schema.version stored of.cut.commits o.in_turn)

  pub image_means : (d : Directory) → IsImageOf stored d
      → under (view_of d) ≡ over first (d.previous ++ d.latest)
  image_means d of = image first (view_of d) (image_stands d of).on (image_in_turn d of)

  image_in_order : (d : Directory) → IsImageOf stored d → IsOrderly d
  image_in_order d of = subst IsOrderly (sym of.is)
      (moved (image_at of.cut stored) d.previous d.latest of.commits (image_orderly of.cut stored o.in_order))
    where
      moved : (e : Directory) (previous latest : List CommitRecord) → previous ++ latest ≡ e.previous ++ e.latest → IsOrderly e
          → IsOrderly (with_commits previous latest e)
      moved e previous latest same h = record { files = h.files; schema = h.schema; keyed = subst AreKeyed (sym same) h.keyed }

  -- an image with all commits stands for what is stored
  pub image_now : (d : Directory) → IsImageOf stored d → d.previous ++ d.latest ≡ stored.before ++ stored.after
      → database_of d ≡ database_of (whole stored)
  image_now d of all = same_database first d (whole stored) (image_stands d of) whole_stands (image_in_order d of) whole_orderly
      (image_in_turn d of) all

  -- what is appended is done to it
  pub commit_done_whole : (commit : CommitRecord) → IsLawful commit (database_of (whole stored))
      → StandsOn first (whole (with_commit commit stored))
      → seen (database_of (whole (with_commit commit stored))) ≡ seen (do_commit commit (database_of (whole stored)))
  commit_done_whole commit lawful later = some_same _ _
      (sym (meaning_seen (whole (with_commit commit stored)) later.meaning)
      ∙ live (view_of (whole stored)) commit (seen (database_of (whole stored))) whole_stands.strict
      (meaning_seen (whole stored) whole_stands.meaning) (lawful_next commit (database_of (whole stored)) lawful)
      ∙ done_seen commit (database_of (whole stored)) lawful)

  -- ---- a commit is appended

  pub commit_stored : (commit : CommitRecord) → IsLawful commit (database_of (whole stored)) → AllByRecursion IsKeyed commit.operations
      → IsOrdered first (with_commit commit stored)
  commit_stored commit lawful keyed = record {
    in_turn = subst (AreInTurn first.schema.version) (append_assoc stored.before stored.after (commit ∷ []))
        (in_turn_appended first.schema.version (stored.before ++ stored.after) commit o.in_turn next);
    young = λ name kind cookie lt. o.young name kind cookie (omega (arith, lt, later));
    in_order = record {
      definitions = o.in_order.definitions;
      commits = subst AreKeyed (append_assoc stored.before stored.after (commit ∷ []))
          (all_append _ (stored.before ++ stored.after) (commit ∷ []) o.in_order.commits (keyed, tt));
      tables = o.in_order.tables;
    };
    cookies = λ name. upto_later (synced_version first stored) (synced_version first (with_commit commit stored)) (stored.tables name)
        (elim (cases_lt (length stored.after) stored.synced) [
          | inr few ↦ subst (λ q. synced_version first stored ≤ reached_after first.schema.version (stored.before ++ q))
              (sym (take-append-le stored.synced stored.after (commit ∷ []) few)) (omega arith)
          | inl all ↦ longer stored.synced all
        ])
        (o.cookies name);
    each = λ cut left. elim (cases_lt (length stored.after) cut.commits) [
      | inr few ↦ subst (λ latest. StandsOn first (with_latest cut stored latest))
          (sym (take-append-le cut.commits stored.after (commit ∷ []) few))
          (o.each cut (record { commits = left.commits; ops = left.ops }))
      | inl all ↦ subst (λ latest. StandsOn first (with_latest cut stored latest)) (with_last cut.commits all)
          (commit_appended first (image_at cut stored) commit (o.each cut (record { commits = left.commits; ops = left.ops }))
          (in_turn_at first.schema.version stored cut.commits o.in_turn)
          (subst (IsLawful commit) (sym (same_now cut (record { commits = left.commits; ops = left.ops }) all)) lawful)
          (subst (λ q. NoneAbove (reached_after first.schema.version (stored.before ++ q)) first.rows)
          (sym (take_all cut.commits stored.after (omega (arith, all)))) o.young))
    ];
  }
    where
      next : IsInTurn (reached_after first.schema.version (stored.before ++ stored.after)) commit
      next = next_on first (whole stored) commit whole_stands o.in_turn lawful

      all_append : {X : Type 0} (P : X → Type 0) (a b : List X) → AllByRecursion P a → AllByRecursion P b → AllByRecursion P (a ++ b)
      all_append P [] b h g = g
      all_append P (x ∷ a) b h g = (h.0, all_append P a b h.1 g)

      later : reached_after first.schema.version (stored.before ++ stored.after)
          ≤ reached_after first.schema.version (stored.before ++ (stored.after ++ commit ∷ []))
      later = subst (λ q. reached_after first.schema.version (stored.before ++ stored.after) ≤ reached_after first.schema.version q)
          (append_assoc stored.before stored.after (commit ∷ []))
          (subst (λ v. reached_after first.schema.version (stored.before ++ stored.after) ≤ v)
          (sym (reached_after-append first.schema.version (stored.before ++ stored.after) (commit ∷ [])))
          (reached_after_later (reached_after first.schema.version (stored.before ++ stored.after)) (commit ∷ [])))

      longer : (n : ℕ) → length stored.after < n → reached_after first.schema.version (commits_at n stored)
          ≤ reached_after first.schema.version (commits_at n (with_commit commit stored))
      longer n all = subst (λ q. reached_after first.schema.version (stored.before ++ q)
          ≤ reached_after first.schema.version (commits_at n (with_commit commit stored)))
          (sym (take_all n stored.after (omega (arith, all))))
          (subst (λ q. reached_after first.schema.version (stored.before ++ stored.after)
          ≤ reached_after first.schema.version (stored.before ++ q))
          (sym (take_all n (stored.after ++ commit ∷ []) (omega (arith, all, length-append stored.after (commit ∷ []))))) later)

      with_last : (n : ℕ) → length stored.after < n → take n stored.after ++ commit ∷ [] ≡ take n (stored.after ++ commit ∷ [])
      with_last n all = ap (λ q. q ++ commit ∷ []) (take_all n stored.after (omega (arith, all)))
          ∙ sym (take_all n (stored.after ++ commit ∷ []) (omega (arith, all, length-append stored.after (commit ∷ []))))

      same_now : (cut : Cut) → IsCut cut stored → length stored.after < cut.commits
          → database_of (image_at cut stored) ≡ database_of (whole stored)
      same_now cut left all = image_now (image_at cut stored) (record { cut = cut; left = left; commits = refl; is = refl })
          (ap (λ q. stored.before ++ q) (take_all cut.commits stored.after (omega (arith, all))))

  -- ---- more of it is synced

  pub log_synced : (n : ℕ) → stored.synced ≤ n → IsOrdered first (with_log_synced n stored)
  log_synced n more = record {
    in_turn = o.in_turn;
    young = o.young;
    in_order = record { definitions = o.in_order.definitions; commits = o.in_order.commits; tables = o.in_order.tables };
    cookies = λ name. upto_later (synced_version first stored) (synced_version first (with_log_synced n stored)) (stored.tables name)
        (reached_at first.schema.version stored stored.synced n more) (o.cookies name);
    each = λ cut left. let low : n ≤ cut.commits = left.commits in
        o.each cut (record { commits = omega (arith, more, low); ops = left.ops });
  }

  -- ---- the log gets its other name

  pub log_rotated : IsOrdered first (rotated stored)
  log_rotated = record {
    in_turn = subst (AreInTurn first.schema.version) (sym (append-nil (stored.before ++ stored.after))) o.in_turn;
    young = subst (λ q. NoneAbove (reached_after first.schema.version q) first.rows)
        (sym (append-nil (stored.before ++ stored.after))) o.young;
    in_order = record {
      definitions = o.in_order.definitions;
      commits = subst AreKeyed (sym (append-nil (stored.before ++ stored.after))) o.in_order.commits;
      tables = o.in_order.tables;
    };
    cookies = λ name. upto_later (synced_version first stored) (synced_version first (rotated stored)) (stored.tables name)
        (subst (λ q. synced_version first stored ≤ reached_after first.schema.version q) (moved 0) (at_most stored.synced))
        (o.cookies name);
    each = λ cut left. logs_moved first (image_at (all_commits stored cut) stored) (stored.before ++ stored.after) (take cut.commits [])
        (sym (moved cut.commits)
        ∙ ap (λ q. stored.before ++ q) (sym (take_all (stored.synced + length stored.after) stored.after (omega arith))))
        (o.each (all_commits stored cut) (record { commits = omega arith; ops = left.ops }));
  }
    where
      moved : (n : ℕ) → stored.before ++ stored.after ≡ (stored.before ++ stored.after) ++ take n []
      moved n = sym (append-nil (stored.before ++ stored.after)) ∙ ap (λ q. (stored.before ++ stored.after) ++ q) (sym (take_none n))

      at_most : (n : ℕ) → reached_after first.schema.version (commits_at n stored)
          ≤ reached_after first.schema.version (stored.before ++ stored.after)
      at_most n = subst (λ q. reached_after first.schema.version (commits_at n stored) ≤ reached_after first.schema.version q)
          (commits_whole stored n)
          (subst (λ v. reached_after first.schema.version (commits_at n stored) ≤ v)
          (sym (reached_after-append first.schema.version (commits_at n stored) (drop n stored.after)))
          (reached_after_later (reached_after first.schema.version (commits_at n stored)) (drop n stored.after)))

-- ---- two that stand for the same

pub over_alike : (first later : First) (one other : Stored) → IsOrdered first one → IsOrdered later other
    → over first (one.before ++ one.after) ≡ over later (other.before ++ other.after)
    → database_of (whole one) ≡ database_of (whole other)
over_alike first later one other o p same = alike (whole one) (whole other) (whole_orderly first one o) (whole_orderly later other p)
    (whole_stands first one o).meaning (whole_stands later other p).meaning
    (image first (view_of (whole one)) (whole_stands first one o).on o.in_turn ∙ same
    ∙ sym (image later (view_of (whole other)) (whole_stands later other p).on p.in_turn))
