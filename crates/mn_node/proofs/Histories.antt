-- Entries that were done behind the commits of a log are taken by a start as they were done.
use Rattle.std.proofs.Common.{◌≡◌, List, [], ◌∷◌, ◌++◌, refl, sym, ap, ◌∙◌, subst}
use Rattle.std.proofs.lemmas.List.{map-append}
use Rattle.db_model.specs.Commits.{CommitRecord}
use Rattle.db_model.specs.Database.{Database, do_commit}
use Rattle.db_model.specs.Histories.{no_database, all_done, AreLawful}
use Rattle.db_model.specs.Lawful.{IsSound}
use Rattle.db_model.proofs.Histories.{take_both, taken_behind, lawful_first, all_can, all_same, all_sound}
use Rattle.mn_node.specs.Durable.{Entry, commit, Durable, after, after_one, made}
use Rattle.mn_node.specs.Machine.{commit_in, commits_of, AreDone}
use Rattle.mn_node.specs.Meaning.{AreTaken}
use Rattle.mn_node.specs.Shown.{IsHistory}

pub after_append : (w : Durable) (a b : List Entry) → after w (a ++ b) ≡ after (after w a) b
after_append w [] b = refl
after_append w (entry ∷ a) b = after_append (after_one w entry) a b

-- entries do what their commits do
pub after_done : (w : Durable) (entries : List Entry) → (after w entries).database ≡ all_done (commits_of entries) w.database
after_done w [] = refl
after_done w (commit c ∷ entries) = after_done (after_one w (commit c)) entries

pub lawful_both : (some more : List CommitRecord) (database : Database) → AreLawful some database
    → AreLawful more (all_done some database) → AreLawful (some ++ more) database
lawful_both [] more database x y = y
lawful_both (c ∷ some) more database x y = (x.0, lawful_both some more (do_commit c database) x.1 y)

commits_append : (entries more : List Entry) → commits_of (entries ++ more) ≡ commits_of entries ++ commits_of more
commits_append entries more = map-append commit_in entries more

-- ---- what was done leaves what it was done on sound

pub done_sound : (w : Durable) (entries : List Entry) → AreDone entries w → IsSound (after w entries).database
done_sound w entries done = subst IsSound (sym (after_done w entries)) (all_sound (commits_of entries) w.database done.0 done.1)

pub done_first : (w : Durable) (entries more : List Entry) → AreDone (entries ++ more) w → AreDone entries w
done_first w entries more done = (
  done.0,
  lawful_first (commits_of entries) (commits_of more) w.database
      (subst (λ cs. AreLawful cs w.database) (commits_append entries more) done.1),
)

pub done_more : (w : Durable) (entries more : List Entry) → AreDone entries w → AreLawful (commits_of more) (after w entries).database
    → AreDone (entries ++ more) w
done_more w entries more done lawful = (
  done.0,
  subst (λ cs. AreLawful cs w.database) (sym (commits_append entries more))
      (lawful_both (commits_of entries) (commits_of more) w.database done.1
      (subst (AreLawful (commits_of more)) (after_done w entries) lawful)),
)

-- ---- behind the commits of a log

module _ (earlier : List CommitRecord) (entries : List Entry) (h : IsHistory earlier entries) where
  -- the log's commits make what the entries made
  pub made_behind : made (earlier ++ commits_of entries) ≡ after (made earlier) entries
  made_behind =
      let same : (made (earlier ++ commits_of entries)).database ≡ (after (made earlier) entries).database =
      taken_behind earlier (commits_of entries) no_database
      ∙ all_same (commits_of entries) (made earlier).database h.done.0 h.done.1 ∙ sym (after_done (made earlier) entries) in
      ap (λ (d : Database). record { database = d }) same

  pub taken_all : AreTaken (earlier ++ commits_of entries)
  taken_all =
      take_both earlier (commits_of entries) no_database h.taken
      (all_can (commits_of entries) (made earlier).database h.done.0 h.done.1)

  pub sound_all : IsSound (made (earlier ++ commits_of entries)).database
  sound_all = subst (λ (w : Durable). IsSound w.database) (sym made_behind) (done_sound (made earlier) entries h.done)

  pub history_more : (more : List Entry) → AreLawful (commits_of more) (made (earlier ++ commits_of entries)).database
      → IsHistory earlier (entries ++ more)
  history_more more lawful = record {
    taken = h.taken;
    done = done_more (made earlier) entries more h.done
        (subst (λ (w : Durable). AreLawful (commits_of more) w.database) made_behind lawful);
  }

pub history_first : (earlier : List CommitRecord) (entries more : List Entry) → IsHistory earlier (entries ++ more)
    → IsHistory earlier entries
history_first earlier entries more h = record { taken = h.taken; done = done_first (made earlier) entries more h.done }

-- all of a history's commits are those of a log on which nothing was done yet
pub history_begun : (earlier : List CommitRecord) (entries : List Entry) → IsHistory earlier entries
    → IsHistory (earlier ++ commits_of entries) []
history_begun earlier entries h = record { taken = taken_all earlier entries h; done = (sound_all earlier entries h, tt) }
