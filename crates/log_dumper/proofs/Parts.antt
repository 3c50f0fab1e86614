-- One part of a directory is worked on, and all else stays as it stood.
use Rattle.std.proofs.Common.{◌≡◌, ◌≢◌, ◌⊎◌, inl, inr, ℕ, Bool, true, false, if◌then◌else◌, List, [], ◌∷◌, map, Option, None, Some, option_map, refl, subst}
use Rattle.file_trait.specs.DiskModel.{Past, did, DiskOp, IsImage, Crashes, reads}
use Rattle.file_trait.specs.Moments.{Moments}
use Rattle.file_trait.specs.Touched.{Concerns, Touches}
use Rattle.file_trait.proofs.Images.{reads_image}
use Rattle.file_trait.proofs.Moments.{weaker, at_end}
use Rattle.file_trait.proofs.Touched.{kept, touched}
use Rattle.disk_logs.specs.Crash.{IsSound}
use Rattle.disk_logs.specs.Logs.{draft_name}
use Rattle.disk_logs.specs.Rests.{FileHas, Rests}
use Rattle.disk_logs.proofs.Both.{both}
use Rattle.disk_logs.proofs.Resting.{rests_leaves, rests_sound, rests_kept}
use Rattle.disk_logs.proofs.Runs.{has_all}
use Rattle.db_model.specs.Names.{IsTableName}
use Rattle.dump_laws.proofs.Names.{name_is, is_name}
use Rattle.txn_log.specs.Logs.{latest, previous}
use Rattle.txn_log.specs.TwoLogs.{IsOfLogs, AreSound as LogsSound}
use Rattle.txn_log.proofs.TwoLogs.{logs_leave, logs_read, logs_sound, logs_kept}
use Rattle.db_model.specs.Database.{same_name}
use Rattle.store_files.specs.Names.{schema_name, dcd_of, dcl_of}
use Rattle.store_files.specs.Pairs.{Changes, TableFiles, ChangesStand, FilesStand, AreSound as FilesSound, ChangesHave, FilesHave, IsFileOf, IsOfTable}
use Rattle.store_files.proofs.PairFacts.{files_kept, files_leave, files_sound}
use Rattle.log_dumper.specs.Directory.{Files, Logs, State, with_logs, with_schema, with_files, all_changes, now, LogsAre, DirectoryStands, DirectorySound, LogsHave, DirectoryHas, HasOne, FilesHaveOne}
use Rattle.log_dumper.proofs.FileNames as names

-- ---- what a crash leaves

pub directory_leaves : (past : Past) (s : State) → DirectoryStands past s → Crashes (DirectoryHas s) past
directory_leaves past s d image w = record {
  logs = logs_leave past s.logs.log s.logs.before s.logs.after s.logs.synced d.logs image w;
  schema = rests_leaves past schema_name s.schema d.schema image w;
  tables = λ table valid. files_leave past table (s.tables table) (d.tables table valid) image w;
}

changes_read : (past : Past) (name : List ℕ) (changes : Option Changes) → ChangesStand past name changes
    → ChangesHave (option_map all_changes changes) (reads past name)
changes_read past name None gone = rests_leaves past name None gone (reads past) (reads_image past)
changes_read past name (Some changes) (closed, h) = (_, h.read, has_all closed changes.items h.fit)

pub directory_reads : (past : Past) (s : State) → DirectoryStands past s → DirectoryHas (now s) (reads past)
directory_reads past s d = record {
  logs = logs_read past s.logs.log s.logs.before s.logs.after s.logs.synced d.logs;
  schema = rests_leaves past schema_name s.schema d.schema (reads past) (reads_image past);
  tables = λ table valid. (
    rests_leaves past (dcd_of table) (s.tables table).records (d.tables table valid).0 (reads past) (reads_image past),
    changes_read past (dcl_of table) (s.tables table).changes (d.tables table valid).1,
  );
}

pub directory_sound : (past : Past) (s : State) → DirectoryStands past s → DirectorySound past
directory_sound past s d = record {
  logs = logs_sound past s.logs.log s.logs.before s.logs.after s.logs.synced d.logs;
  schema = rests_sound past schema_name s.schema d.schema;
  tables = λ table valid. files_sound past table (s.tables table) (d.tables table valid);
}

-- ---- what stays

-- what stands of the files that none of these names are
record Beside (N : List ℕ → Type 0) (s : State) (past : Past) : Type 0 where
  logs : (N latest → ⊥) → (N previous → ⊥) → LogsAre past s.logs
  schema : (N schema_name → ⊥) → Rests past schema_name s.schema
  tables : (table : List ℕ) → IsTableName table → (N (dcd_of table) → ⊥) → (N (dcl_of table) → ⊥)
      → FilesStand past table (s.tables table)

beside_now : (N : List ℕ → Type 0) (s : State) (past : Past) → DirectoryStands past s → Beside N s past
beside_now N s past d = record {
  logs = λ first second. d.logs;
  schema = λ not. d.schema;
  tables = λ table valid first second. d.tables table valid;
}

beside_one : (N : List ℕ → Type 0) (s : State) (op : DiskOp) (past : Past) → Concerns N op → Beside N s past
    → Beside N s (did op past)
beside_one N s op past concerns b =
    let one : Touches N past (did op past) = touched N op past (did op past) refl concerns in
    record {
      logs = λ first second. at_end (λ p. LogsAre p s.logs) past (did op past)
          (logs_kept N s.logs.log s.logs.before s.logs.after s.logs.synced past (did op past) first second one (b.logs first second));
      schema = λ not. at_end (λ p. Rests p schema_name s.schema) past (did op past)
          (rests_kept N schema_name s.schema past (did op past) not one (b.schema not));
      tables = λ table valid first second. at_end (λ p. FilesStand p table (s.tables table)) past (did op past)
          (files_kept N table (s.tables table) past (did op past) first second one (b.tables table valid first second));
    }

beside : (N : List ℕ → Type 0) (old new : Past) (s : State) → DirectoryStands old s → Touches N old new → Moments (Beside N s) old new
beside N old new s d touches =
    kept N (Beside N s) old new (λ op past concerns b. beside_one N s op past concerns b) touches (beside_now N s old d)

-- with what holds of the part that is worked on at each moment
with_part : (N : List ℕ → Type 0) (P Q : Past → Type 0) (old new : Past) (s : State) → DirectoryStands old s → Touches N old new
    → ((past : Past) → P past → Beside N s past → Q past) → Moments P old new → Moments Q old new
with_part N P Q old new s d touches join h =
    weaker (λ past. P past × Beside N s past) Q old new (λ past facts. join past facts.0 facts.1)
    (both P (Beside N s) old new h (beside N old new s d touches))

beside_end : (N : List ℕ → Type 0) (old new : Past) (s : State) → DirectoryStands old s → Touches N old new → Beside N s new
beside_end N old new s d touches = at_end (Beside N s) old new (beside N old new s d touches)

-- ---- the logs are worked on

module _ (old new : Past) (s : State) (d : DirectoryStands old s) (touches : Touches IsOfLogs old new) where
  logs_schema : (past : Past) → Beside IsOfLogs s past → Rests past schema_name s.schema
  logs_schema past b = b.schema names.schema_no_log

  logs_tables : (past : Past) → Beside IsOfLogs s past → (table : List ℕ) → IsTableName table → FilesStand past table (s.tables table)
  logs_tables past b table valid = b.tables table valid (names.dcd_no_log table) (names.dcl_no_log table)

  logs_has : (logs : Logs) (past : Past) (image : Files) → Beside IsOfLogs s past → IsImage past image → LogsHave logs image
      → DirectoryHas (with_logs logs s) image
  logs_has logs past image b w own = record {
    logs = own;
    schema = rests_leaves past schema_name s.schema (logs_schema past b) image w;
    tables = λ table valid. files_leave past table (s.tables table) (logs_tables past b table valid) image w;
  }

  pub logs_moments : (logs : Logs) → Moments (Crashes (LogsHave logs)) old new → Moments (Crashes (DirectoryHas (with_logs logs s))) old new
  logs_moments logs = with_part IsOfLogs (Crashes (LogsHave logs)) _ old new s d touches
      (λ past own b image w. logs_has logs past image b w (own image w))

  pub drops_moments : (one two : Logs) → Moments (Crashes (λ image. LogsHave one image ⊎ LogsHave two image)) old new
      → Moments (Crashes (HasOne (with_logs one s ∷ with_logs two s ∷ []))) old new
  drops_moments one two = with_part IsOfLogs (Crashes (λ image. LogsHave one image ⊎ LogsHave two image)) _ old new s d touches
      (λ past own b image w. elim (own image w) [
        | inl is ↦ inl (logs_has one past image b w is)
        | inr is ↦ inr (inl (logs_has two past image b w is))
      ])

  pub logs_directory : (logs : Logs) → LogsAre new logs → DirectoryStands new (with_logs logs s)
  logs_directory logs own =
      let b = beside_end IsOfLogs old new s d touches in
      record { logs = own; schema = logs_schema new b; tables = logs_tables new b }

  pub logs_trusted : Moments LogsSound old new → Moments DirectorySound old new
  logs_trusted = with_part IsOfLogs LogsSound DirectorySound old new s d touches
      (λ past own b. record {
        logs = own;
        schema = rests_sound past schema_name s.schema (logs_schema past b);
        tables = λ table valid. files_sound past table (s.tables table) (logs_tables past b table valid);
      })

-- ---- the files of a table are worked on

module _ (table : List ℕ) (valid : IsTableName table) (old new : Past) (s : State) (d : DirectoryStands old s)
    (touches : Touches (IsOfTable table) old new) where
  table_logs : (past : Past) → Beside (IsOfTable table) s past → LogsAre past s.logs
  table_logs past b = b.logs (names.latest_no_table table) (names.previous_no_table table)

  table_schema : (past : Past) → Beside (IsOfTable table) s past → Rests past schema_name s.schema
  table_schema past b = b.schema (names.schema_no_table table valid)

  other_tables : (past : Past) → Beside (IsOfTable table) s past → (other : List ℕ) → IsTableName other → table ≢ other
      → FilesStand past other (s.tables other)
  other_tables past b other is apart = b.tables other is (names.dcd_no_table table other apart) (names.dcl_no_table table other apart)

  -- of the table itself, and of each other
  each_table : (P : List ℕ → TableFiles → Type 0) (files : TableFiles) → P table files
      → ((other : List ℕ) → IsTableName other → table ≢ other → P other (s.tables other))
      → (other : List ℕ) → IsTableName other → P other ((with_files table files s).tables other)
  each_table P files own others other is = go (same_name table other) refl
    where
      go : (b : Bool) → same_name table other ≡ b → P other (if b then files else s.tables other)
      go true same = subst (λ t. P t files) (name_is table other same) own
      go false differs = others other is (λ same. cc (differs, is_name table other same))

  table_has : (files : TableFiles) (past : Past) (image : Files) → Beside (IsOfTable table) s past → IsImage past image
      → FilesHave table files image → DirectoryHas (with_files table files s) image
  table_has files past image b w own = record {
    logs = logs_leave past s.logs.log s.logs.before s.logs.after s.logs.synced (table_logs past b) image w;
    schema = rests_leaves past schema_name s.schema (table_schema past b) image w;
    tables = each_table (λ t f. FilesHave t f image) files own
        (λ other is apart. files_leave past other (s.tables other) (other_tables past b other is apart) image w);
  }

  table_one : (some : List TableFiles) (past : Past) (image : Files) → Beside (IsOfTable table) s past → IsImage past image
      → FilesHaveOne table some image → HasOne (map (λ files. with_files table files s) some) image
  table_one [] past image b w never = never
  table_one (files ∷ some) past image b w (inl own) = inl (table_has files past image b w own)
  table_one (files ∷ some) past image b w (inr rest) = inr (table_one some past image b w rest)

  pub table_moments : (some : List TableFiles) → Moments (Crashes (FilesHaveOne table some)) old new
      → Moments (Crashes (HasOne (map (λ files. with_files table files s) some))) old new
  table_moments some = with_part (IsOfTable table) (Crashes (FilesHaveOne table some)) _ old new s d touches
      (λ past own b image w. table_one some past image b w (own image w))

  pub table_directory : (files : TableFiles) → FilesStand new table files → DirectoryStands new (with_files table files s)
  table_directory files own =
      let b = beside_end (IsOfTable table) old new s d touches in
      record {
        logs = table_logs new b;
        schema = table_schema new b;
        tables = each_table (λ t f. FilesStand new t f) files own (other_tables new b);
      }

  pub table_trusted : Moments (FilesSound table) old new → Moments DirectorySound old new
  table_trusted = with_part (IsOfTable table) (FilesSound table) DirectorySound old new s d touches
      (λ past own b. record {
        logs = logs_sound past s.logs.log s.logs.before s.logs.after s.logs.synced (table_logs past b);
        schema = rests_sound past schema_name s.schema (table_schema past b);
        tables = each_table (λ t f. FilesSound t past) (s.tables table) own
            (λ other is apart. files_sound past other (s.tables other) (other_tables past b other is apart));
      })

-- ---- the schema file is worked on

module _ (old new : Past) (s : State) (d : DirectoryStands old s) (touches : Touches (IsFileOf schema_name) old new) where
  schema_logs : (past : Past) → Beside (IsFileOf schema_name) s past → LogsAre past s.logs
  schema_logs past b = b.logs names.latest_no_schema names.previous_no_schema

  schema_tables : (past : Past) → Beside (IsFileOf schema_name) s past → (table : List ℕ) → IsTableName table
      → FilesStand past table (s.tables table)
  schema_tables past b table valid = b.tables table valid (names.dcd_no_schema table valid) (names.dcl_no_schema table)

  schema_has : (schema : Option (List (List ℕ))) (past : Past) (image : Files) → Beside (IsFileOf schema_name) s past
      → IsImage past image → FileHas schema (image schema_name) → DirectoryHas (with_schema schema s) image
  schema_has schema past image b w own = record {
    logs = logs_leave past s.logs.log s.logs.before s.logs.after s.logs.synced (schema_logs past b) image w;
    schema = own;
    tables = λ table valid. files_leave past table (s.tables table) (schema_tables past b table valid) image w;
  }

  pub schema_moments : (one two : Option (List (List ℕ)))
      → Moments (Crashes (λ image. FileHas one (image schema_name) ⊎ FileHas two (image schema_name))) old new
      → Moments (Crashes (HasOne (with_schema one s ∷ with_schema two s ∷ []))) old new
  schema_moments one two =
      with_part (IsFileOf schema_name) (Crashes (λ image. FileHas one (image schema_name) ⊎ FileHas two (image schema_name))) _
      old new s d touches
      (λ past own b image w. elim (own image w) [
        | inl is ↦ inl (schema_has one past image b w is)
        | inr is ↦ inr (inl (schema_has two past image b w is))
      ])

  pub schema_directory : (schema : Option (List (List ℕ))) → Rests new schema_name schema → DirectoryStands new (with_schema schema s)
  schema_directory schema own =
      let b = beside_end (IsFileOf schema_name) old new s d touches in
      record { logs = schema_logs new b; schema = own; tables = schema_tables new b }

  pub schema_trusted : Moments (λ past. IsSound past schema_name) old new → Moments DirectorySound old new
  schema_trusted = with_part (IsFileOf schema_name) (λ past. IsSound past schema_name) DirectorySound old new s d touches
      (λ past own b. record {
        logs = logs_sound past s.logs.log s.logs.before s.logs.after s.logs.synced (schema_logs past b);
        schema = own;
        tables = λ table valid. files_sound past table (s.tables table) (schema_tables past b table valid);
      })

-- ---- names that are no part of it

aside : (N : List ℕ → Type 0) (old new : Past) (s : State) → (N latest → ⊥) → (N previous → ⊥) → (N schema_name → ⊥)
    → ((table : List ℕ) → N (dcd_of table) → ⊥) → ((table : List ℕ) → N (dcl_of table) → ⊥) → Touches N old new
    → DirectoryStands old s → Moments (λ past. DirectoryStands past s) old new
aside N old new s no_latest no_previous no_schema no_dcd no_dcl touches d =
    weaker (Beside N s) (λ past. DirectoryStands past s) old new
    (λ past b. record {
      logs = b.logs no_latest no_previous;
      schema = b.schema no_schema;
      tables = λ table valid. b.tables table valid (no_dcd table) (no_dcl table);
    })
    (beside N old new s d touches)

pub drafts : (name : List ℕ) (old new : Past) (s : State) → DirectoryStands old s → Touches (λ n. n ≡ draft_name name) old new
    → Moments (λ past. DirectoryStands past s) old new
drafts name old new s d touches =
    aside (λ n. n ≡ draft_name name) old new s (names.latest_no_draft name) (names.previous_no_draft name) (names.schema_no_draft name)
    (λ table. names.dcd_no_draft table name) (λ table. names.dcl_no_draft table name) touches d

pub nothing : (old new : Past) (s : State) → DirectoryStands old s → Touches (λ n. ⊥) old new
    → Moments (λ past. DirectoryStands past s) old new
nothing old new s d touches =
    aside (λ n. ⊥) old new s (λ never. never) (λ never. never) (λ never. never) (λ table never. never) (λ table never. never) touches d
