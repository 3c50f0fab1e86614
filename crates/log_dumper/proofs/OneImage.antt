-- One directory that stands on a first database, and what is done to it.
use mathlib.Core.Path.{fun_ext}
use Rattle.std.proofs.Common.{◌≡◌, inl, inr, ℕ, ◌≤◌, List, [], ◌∷◌, ◌++◌, map, Option, None, Some, is_some, option_map, refl, sym, ap, ◌∙◌, subst, append-nil}
use Rattle.db_model.specs.Commits.{CommitRecord}
use Rattle.db_model.specs.Database.{Contents, Table}
use Rattle.db_model.specs.Definitions.{Definition}
use Rattle.db_model.specs.Lawful.{table_in, IsLawful}
use Rattle.dump_laws.specs.Directory.{Files, TableOf, Schema, reached_after, run, begin, schema_after, under, of_table}
use Rattle.dump_laws.specs.Effects.{put, IsCarried}
use Rattle.dump_laws.specs.Contents.{has}
use Rattle.dump_laws.specs.Lists.{Directory, made_table, database_of, HasMeaning, seen_table, seen, schema_of, view_of, behind, with_schema_behind, IsOrderly}
use Rattle.dump_laws.specs.Order.{IsInTurn, AreInTurn, AllUpTo, NoneAbove, IsStrict, OfEach, AreBetween, First, IsOn, with_schema, first_after}
use Rattle.dump_laws.proofs.Acts.{Longer, two_fronts, on-append, on_schema, on_dropped, on_rotated}
use Rattle.dump_laws.proofs.Alike.{Alike, AlikeFound, alike_found, files_meaning, previous_meaning, rotated_meaning, appended_meaning}
use Rattle.dump_laws.proofs.Behind.{schema_meaning, schema_behind, view_behind}
use Rattle.dump_laws.proofs.Carrying.{carried_idle}
use Rattle.dump_laws.proofs.Closed.{up_to_later}
use Rattle.dump_laws.proofs.Logs.{lawful_next}
use Rattle.dump_laws.proofs.Meaning.{meaning_seen}
use Rattle.dump_laws.proofs.Options.{some_same}
use Rattle.dump_laws.proofs.Plain.{next_in_turn}
use Rattle.dump_laws.proofs.Runs.{reached_after_still, reached_after-append, in_turn_up_to, in_turn_left, schema_still, version_after, schema_again}
use Rattle.dump_laws.proofs.Sorted.{alike}
use Rattle.dump_laws.proofs.Stricts.{strict_schema, strict_dropped, strict-append}
use Rattle.dump_laws.proofs.Views.{image}
use Rattle.dump_laws.proofs.Whole.{version_under}
use Rattle.log_dumper.specs.Ordered.{StandsOn}
use Rattle.log_dumper.specs.Stored.{with_commits}

-- ---- what the commits reach

-- once more over the version that the first ones reach
reached_again : (version : ℕ) (p s : List CommitRecord) → AreInTurn version (p ++ s)
    → reached_after (reached_after version p) (p ++ s) ≡ reached_after version (p ++ s)
reached_again version p s in_turn =
    reached_after-append (reached_after version p) p s
    ∙ ap (λ n. reached_after n s) (reached_after_still (reached_after version p) p
    (in_turn_up_to version p (in_turn_left version p s in_turn)))
    ∙ sym (reached_after-append version p s)

module _ (first : First) (d : Directory) where
  abbrev all : List CommitRecord
  all = d.previous ++ d.latest

  module _ (on : IsOn first (view_of d)) (in_turn : AreInTurn first.schema.version all) where
    split : AreInTurn first.schema.version (on.front ++ on.rest)
    split = subst (AreInTurn first.schema.version) on.is in_turn

    -- the version and the schema behind all commits are those over the first schema
    pub reached_on : reached_after d.version all ≡ reached_after first.schema.version all
    reached_on =
        ap (λ n. reached_after n all) (version_after on.front first.schema (view_of d).schema on.schema)
        ∙ ap (reached_after (reached_after first.schema.version on.front)) on.is
        ∙ reached_again first.schema.version on.front on.rest split
        ∙ ap (reached_after first.schema.version) (sym on.is)

    pub schema_on : schema_after all (view_of d).schema ≡ schema_after all first.schema
    schema_on = subst (λ q. schema_after q (view_of d).schema ≡ schema_after q first.schema) (sym on.is)
        (schema_again on.front on.rest first.schema (view_of d).schema split on.schema)

  -- it is that of the database that the directory stands for
  pub database_schema : StandsOn first d → AreInTurn first.schema.version all
      → schema_after all first.schema ≡ Some (schema_of (database_of d))
  database_schema h in_turn = sym (schema_on h.on in_turn) ∙ schema_behind d all [] (sym (append-nil all)) h.meaning

-- ---- strict

pub strict_of : (d : Directory) → HasMeaning d → AreInTurn d.version (d.previous ++ d.latest)
    → ((name : List ℕ) (t : TableOf (Unit {0})) → (view_of d).schema.tables name ≡ Some t
    → t.definition.cookie ≤ reached_after d.version (d.previous ++ d.latest))
    → NoneAbove (reached_after d.version (d.previous ++ d.latest)) (view_of d).files → IsStrict (view_of d)
strict_of d can in_turn tables files =
    record { defined = ap is_some (meaning_seen d can); in_turn = in_turn; old_tables = tables; old_files = files }

-- ---- the files of tables

pub made_alike : (files others : Files Contents) (definitions : List Definition)
    → Alike (map (made_table files) definitions) (map (made_table others) definitions)
made_alike files others [] = tt
made_alike files others (d ∷ ds) = (refl, made_alike files others ds)

-- the schema is said by the definitions alone
schema_kept : (d : Directory) (files : Files Contents) → (view_of (record d { files = files })).schema ≡ (view_of d).schema
schema_kept d files = ap (λ tables. record { version = d.version; tables = tables })
    (fun_ext (λ name. same (table_in name (map (made_table files) d.definitions)) (table_in name (map (made_table d.files) d.definitions))
    (alike_found name (map (made_table files) d.definitions) (map (made_table d.files) d.definitions)
    (made_alike files d.files d.definitions))))
  where
    same : (o q : Option Table) → AlikeFound o q
        → option_map {U = TableOf (Unit {0})} (seen_table (λ contents. tt)) o ≡ option_map (seen_table (λ contents. tt)) q
    same None None h = refl
    same None (Some u) h = absurd h
    same (Some t) None h = absurd h
    same (Some t) (Some u) h = ap (λ d. Some record { definition = d; rows = tt }) h

pub files_moved : (first : First) (d : Directory) (files : Files Contents)
    → ((last : Schema) → schema_after (d.previous ++ d.latest) first.schema ≡ Some last
    → AreBetween last first.rows (d.previous ++ d.latest) (λ name kind cookie. has (files name kind cookie)))
    → NoneAbove (reached_after d.version (d.previous ++ d.latest)) (λ name kind cookie. has (files name kind cookie))
    → StandsOn first d → StandsOn first (record d { files = files })
files_moved first d files between old h =
    let can : HasMeaning (record d { files = files }) = files_meaning d files h.meaning in
    record {
      meaning = can;
      on = record {
        front = h.on.front;
        rest = h.on.rest;
        is = h.on.is;
        schema = h.on.schema ∙ ap (λ s. Some s) (sym (schema_kept d files));
        between = between;
      };
      strict = strict_of (record d { files = files }) can h.strict.in_turn
          (λ name t stands. h.strict.old_tables name t (ap (λ s. s.tables name) (sym (schema_kept d files)) ∙ stands)) old;
    }

-- ---- the logs cut elsewhere

pub logs_moved : (first : First) (d : Directory) (previous latest : List CommitRecord)
    → previous ++ latest ≡ d.previous ++ d.latest → StandsOn first d → StandsOn first (with_commits previous latest d)
logs_moved first d previous latest same h =
    let can : HasMeaning (with_commits previous latest d) = rotated_meaning d previous latest same h.meaning in
    record {
      meaning = can;
      on = on_rotated first (view_of d) previous latest same h.on;
      strict = strict_of (with_commits previous latest d) can (subst (AreInTurn d.version) (sym same) h.strict.in_turn)
          (λ name t stands. subst (λ q. t.definition.cookie ≤ reached_after d.version q) (sym same) (h.strict.old_tables name t stands))
          (subst (λ q. NoneAbove (reached_after d.version q) (view_of d).files) (sym same) h.strict.old_files);
    }

-- ---- a commit is appended

module _ (first : First) (d : Directory) (commit : CommitRecord) (h : StandsOn first d)
    (in_turn : AreInTurn first.schema.version (d.previous ++ d.latest)) (lawful : IsLawful commit (database_of d)) where
  next_in : IsInTurn (reached_after d.version (d.previous ++ d.latest)) commit
  next_in = subst (λ n. IsInTurn n commit)
      (version_under (view_of d) (seen (database_of d)) h.strict.in_turn (meaning_seen d h.meaning))
      (next_in_turn (database_of d).version commit (lawful_next commit (database_of d) lawful))

  pub next_on : IsInTurn (reached_after first.schema.version (d.previous ++ d.latest)) commit
  next_on = subst (λ n. IsInTurn n commit) (reached_on first d h.on in_turn) next_in

  pub commit_appended : NoneAbove (reached_after first.schema.version (d.previous ++ d.latest)) first.rows
      → StandsOn first (record d { latest = d.latest ++ commit ∷ [] })
  commit_appended young =
      let can : HasMeaning (record d { latest = d.latest ++ commit ∷ [] }) = appended_meaning d commit lawful h.meaning in
      record {
        meaning = can;
        on = on-append first (view_of d) commit in_turn next_on
            (subst (λ n. NoneAbove n (view_of d).files) (reached_on first d h.on in_turn) h.strict.old_files) young h.on;
        strict = strict-append (view_of d) commit next_in
            (ap is_some (meaning_seen (record d { latest = d.latest ++ commit ∷ [] }) can)) h.strict;
      }

-- ---- the schema file is written as the schema is behind the first commits

pub left_up_to : (n : ℕ) (a b : List CommitRecord) → AllUpTo n (a ++ b) → AllUpTo n a
left_up_to n [] b h = tt
left_up_to n (x ∷ a) b h = (h.0, left_up_to n a b h.1)

module _ (first : First) (d : Directory) (p s : List CommitRecord) (is : d.previous ++ d.latest ≡ p ++ s) (h : StandsOn first d)
    (in_turn : AreInTurn first.schema.version (d.previous ++ d.latest)) where
  abbrev written : Schema
  written = schema_of (behind p d)

  behind_front : schema_after p (view_of d).schema ≡ Some written
  behind_front = schema_behind d p s is h.meaning

  on_written : IsOn first (with_schema written (view_of d))
  on_written = elim (two_fronts h.on.front p h.on.rest s (sym h.on.is ∙ is)) [
    | inl l ↦ subst (λ schema. IsOn first (with_schema schema (view_of d))) (newer l) h.on
    | inr l ↦ on_schema first (view_of d) p s written is (older l) h.on
  ]
    where
      whole : AreInTurn first.schema.version (p ++ s)
      whole = subst (AreInTurn first.schema.version) is in_turn

      split : AreInTurn first.schema.version (h.on.front ++ h.on.rest)
      split = subst (AreInTurn first.schema.version) h.on.is in_turn

      -- the schema file is newer
      upto : Longer h.on.front p h.on.rest s → AllUpTo d.version p
      upto l = subst (λ n. AllUpTo n p) (sym (version_after h.on.front first.schema (view_of d).schema h.on.schema))
          (left_up_to (reached_after first.schema.version h.on.front) p l.more
          (subst (AllUpTo (reached_after first.schema.version h.on.front)) l.front
          (in_turn_up_to first.schema.version h.on.front (in_turn_left first.schema.version h.on.front h.on.rest split))))

      newer : Longer h.on.front p h.on.rest s → (view_of d).schema ≡ written
      newer l = some_same (view_of d).schema written (sym (schema_still p (view_of d).schema (upto l)) ∙ behind_front)

      -- it is older
      older : Longer p h.on.front s h.on.rest → schema_after p first.schema ≡ Some written
      older l = ap (λ q. schema_after q first.schema) l.front
          ∙ sym (schema_again h.on.front l.more first.schema (view_of d).schema
          (subst (AreInTurn first.schema.version) l.front (in_turn_left first.schema.version p s whole)) h.on.schema)
          ∙ ap (λ q. schema_after q (view_of d).schema) (sym l.front)
          ∙ behind_front

  pub schema_written : StandsOn first (with_schema_behind p d)
  schema_written = record {
    meaning = schema_meaning d p s is (subst (AreInTurn d.version) is h.strict.in_turn) h.meaning;
    on = subst (IsOn first) (sym (view_behind d p)) on_written;
    strict = subst IsStrict (sym (view_behind d p)) (strict_schema (view_of d) p s written is behind_front h.strict);
  }

-- ---- PREVIOUS.LOG is dropped

module _ (first : First) (d : Directory) (schema : Schema) (in_turn : AreInTurn first.schema.version (d.previous ++ d.latest))
    (made : schema_after d.previous first.schema ≡ Some schema) (enough : schema.version ≤ d.version)
    (carried : (last : Schema) → schema_after (d.previous ++ d.latest) first.schema ≡ Some last
    → OfEach last (λ name t. IsCarried t.kind (first.rows name t.kind t.cookie) (of_table name t.cookie d.previous)
    (of_table name t.cookie d.latest) (has (d.files name t.kind t.cookie))))
    (h : StandsOn first d) where
  old : AllUpTo d.version d.previous
  old = up_to_later schema.version d.version d.previous enough
      (subst (λ n. AllUpTo n d.previous) (sym (version_after d.previous first.schema schema made))
      (in_turn_up_to first.schema.version d.previous (in_turn_left first.schema.version d.previous d.latest in_turn)))

  pub previous_dropped : StandsOn (first_after d.previous schema first) (record d { previous = [] })
  previous_dropped = record {
    meaning = previous_meaning d old h.meaning;
    on = on_dropped first (view_of d) schema in_turn made enough carried h.on;
    strict = strict_dropped (view_of d) old
        (λ last at name t stands. carried_idle t.definition.kind (first.rows name t.definition.kind t.definition.cookie)
        (has (d.files name t.definition.kind t.definition.cookie)) (of_table name t.definition.cookie d.previous)
        (of_table name t.definition.cookie d.latest)
        (carried last (sym (schema_on first d h.on in_turn) ∙ at) name t stands))
        h.strict;
  }

-- ---- two with the same commits

pub same_meaning : (first : First) (d e : Directory) → StandsOn first d → StandsOn first e
    → AreInTurn first.schema.version (d.previous ++ d.latest) → d.previous ++ d.latest ≡ e.previous ++ e.latest
    → under (view_of d) ≡ under (view_of e)
same_meaning first d e one other in_turn same =
    image first (view_of d) one.on in_turn
    ∙ ap (λ q. run put first.rows q (begin first.rows first.schema)) same
    ∙ sym (image first (view_of e) other.on (subst (AreInTurn first.schema.version) same in_turn))

pub same_database : (first : First) (d e : Directory) → StandsOn first d → StandsOn first e → IsOrderly d → IsOrderly e
    → AreInTurn first.schema.version (d.previous ++ d.latest) → d.previous ++ d.latest ≡ e.previous ++ e.latest
    → database_of d ≡ database_of e
same_database first d e one other in_order also in_turn same =
    alike d e in_order also one.meaning other.meaning (same_meaning first d e one other in_turn same)
