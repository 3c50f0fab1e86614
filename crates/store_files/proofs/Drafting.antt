-- New records are written into a draft.
use Rattle.std.proofs.Common.{◌≡◌, inl, inr, ℕ, ◌≤◌, ◌-◌, ◌&&◌, not, Bool, true, false, IsTrue, if◌then◌else◌, List, [], ◌∷◌, ◌++◌, length, take, Some, Result, Ok, Err, OnOk, refl, sym, ap, ◌∙◌, subst, arith, length-append}
use Rattle.std.proofs.Math.Seq.{take-length}
use Rattle.std.proofs.lemmas.List.{take-append-le}
use Rattle.std.proofs.lemmas.List.Elements.{All-append}
use Rattle.file_trait.specs.DiskModel.{Past, reads}
use Rattle.file_trait.specs.Moments.{Moments}
use Rattle.file_trait.specs.Touched.{Touches}
use Rattle.file_trait.proofs.Moments.{at_end}
use Rattle.log_items.specs.Items.{wire, log_bytes, IsContent, AreContents}
use Rattle.disk_logs.specs.declared.error.LogErr.{LogErr}
use Rattle.disk_logs.specs.Crash.{DraftStands}
use Rattle.disk_logs.specs.Logs.{Handle, draft_name, file_of, opened, IsLog, AreItems, HasAppended}
use Rattle.disk_logs.proofs.CallerLemmas.{one_content, appended_log}
use Rattle.store_files.specs.Names.{dcd_of, dcl_of}
use Rattle.store_files.specs.Pairs.{TableFiles, with_records, FilesStand}
use Rattle.store_files.specs.Writers.{DcdState, dcd_handle, DcdStands}
use Rattle.store_files.proofs.PairFacts.{files_kept}
use Rattle.store_files.proofs.PairNames.{dcd_no_draft, dcl_no_draft}
use Rattle.store_files.proofs.Swapping.{old_files, draft_log}

-- what stands before the ending
pub before_ending : (name table : List ℕ) → name ≡ dcl_of table → take (length name - 4) name ≡ table
before_ending name table is =
    subst (λ n. take (length n - 4) n ≡ table) (sym is)
    (ap (λ k. take k (dcl_of table)) (omega (arith, length-append table (46 ∷ 68 ∷ 67 ∷ 76 ∷ [])))
    ∙ take-append-le (length table) table (46 ∷ 68 ∷ 67 ∷ 76 ∷ []) (omega arith) ∙ take-length table)

-- the files of the table, while a draft is written
pub drafting_beside : (old new : Past) (table name : List ℕ) (files : TableFiles) → Touches (λ n. n ≡ draft_name name) old new
    → FilesStand old table files → Moments (λ past. FilesStand past table files) old new
drafting_beside old new table name files =
    files_kept (λ n. n ≡ draft_name name) table files old new (dcd_no_draft table name) (dcl_no_draft table name)

-- ---- it is made

pub started : (old new : Past) (table name head : List ℕ) (files : TableFiles) (view : DcdState)
    → view ≡ record { table = table; published = false } → name ≡ dcd_of table → IsContent head
    → Touches (λ n. n ≡ draft_name name) old new → FilesStand old table files
    → DraftStands new (draft_name name) (log_bytes true (head ∷ [])) → DcdStands new view files (head ∷ [])
started old new table name head files view is name_is fits touches h made =
    subst (λ w. DcdStands new w files (head ∷ [])) (sym is)
    (record {
      fit = one_content head fits;
      stand = at_end (λ past. FilesStand past table files) old new (drafting_beside old new table name files touches h);
      draft = λ unpublished. subst (λ n. DraftStands new (draft_name n) (log_bytes true (head ∷ []))) name_is made;
    })

-- ---- items are put behind it

module _ {log : Handle} (writer : DcdState) (at : log ≡ dcd_handle writer) (unpublished : writer.published ≡ false) where
  pub is_draft : IsTrue log.draft
  is_draft = ap (λ (l : Handle). l.draft) at ∙ ap not unpublished

  pub its_draft : file_of log ≡ draft_name (dcd_of writer.table)
  its_draft = ap file_of at
      ∙ ap (λ b. if not b then draft_name (dcd_of writer.table) else dcd_of writer.table) unpublished

  still_draft : opened log ≡ dcd_handle writer
  still_draft = ap opened at
      ∙ ap (λ b. record { name = dcd_of writer.table; draft = not writer.published; closed = not b && true }) unpublished

  pub draft_appended : (r : Result Unit LogErr) (old new : Past) (bytes : List ℕ) (now : Handle) → AreItems bytes
      → IsLog old (dcd_handle writer) → OnOk r (now ≡ opened log)
      → ((all more : List (List ℕ)) → bytes ≡ wire more → reads old (file_of log) ≡ Some (log_bytes log.closed all)
      → HasAppended r now.closed (opened log).closed all more (reads new (file_of log))) → OnOk r (IsLog new (dcd_handle writer))
  draft_appended (Err e) old new bytes now items here is given = tt
  draft_appended (Ok x) old new bytes now (more, fit, wire_is) here is given =
      let (all, was) = subst (IsLog old) (sym at) here in
      subst (IsLog new) (is ∙ still_draft) (appended_log new log now (all ++ more) is (given all more wire_is was))

  pub appended_stands : (old new : Past) (files : TableFiles) (all more : List (List ℕ)) (view : DcdState) → view ≡ writer
      → AreContents more → Touches (λ n. n ≡ file_of log) old new → DcdStands old writer files all
      → DraftStands new (draft_name log.name) (log_bytes log.closed (all ++ more)) → DcdStands new view files (all ++ more)
  appended_stands old new files all more view is also touches h drafted =
      subst (λ w. DcdStands new w files (all ++ more)) (sym is)
      (record {
        fit = All-append IsContent all more h.fit also;
        stand = subst (λ b. FilesStand new writer.table (if b then with_records (all ++ more) files else files)) (sym unpublished)
            (at_end (λ past. FilesStand past writer.table files) old new
            (drafting_beside old new writer.table (dcd_of writer.table) files
            (subst (λ m. Touches (λ n. n ≡ m) old new) its_draft touches) (old_files h unpublished)));
        draft = λ unpublished. subst (λ (l : Handle). DraftStands new (draft_name l.name) (log_bytes l.closed (all ++ more))) at drafted;
      })
