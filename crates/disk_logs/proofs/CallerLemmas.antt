-- What callers need of a log.
use Rattle.std.proofs.Common.{◌≡◌, ℕ, true, false, List, [], ◌∷◌, ◌++◌, Some, is_some, Result, Ok, Err, OnOk, sym, ap, ◌∙◌, subst}
use Rattle.std.proofs.lemmas.List.{append-nil}
use Rattle.std.proofs.lemmas.List.Elements.{All-nil, All-cons}
use Rattle.file_trait.specs.DiskModel.{Past, reads}
use Rattle.file_trait.specs.Calls.{IsThere}
use Rattle.log_items.specs.Items.{item_bytes, log_bytes, IsContent, AreContents}
use Rattle.disk_logs.specs.Logs.{Handle, draft_name, file_of, opened, IsLog, AreItems, IsMoved}

-- a draft that was published
pub published_log : (past_old past_new : Past) (draft log : Handle) (name : List ℕ) (all : List (List ℕ)) → draft ≡ record { name = name; draft = true; closed = true }
    → log ≡ record { name = draft.name; draft = false; closed = draft.closed } → reads past_old (draft_name name) ≡ Some (log_bytes true all)
    → IsMoved (draft_name draft.name) draft.name past_old past_new → IsLog past_new log
published_log past_old past_new draft log name all is now made moved =
    let same : log ≡ record { name = name; draft = false; closed = true } = now ∙ ap (λ (d : Handle). record { name = d.name; draft = false; closed = d.closed }) is in
    subst (IsLog past_new) (sym same)
    (all, ap (reads past_new) (sym (ap (λ (d : Handle). d.name) is)) ∙ moved.0 ∙ ap (λ (d : Handle). reads past_old (draft_name d.name)) is ∙ made)

-- a draft that was made
pub made_draft : (past : Past) (draft : Handle) (name : List ℕ) (items : List (List ℕ)) → draft ≡ record { name = name; draft = true; closed = true }
    → reads past (draft_name name) ≡ Some (log_bytes true items) → reads past (draft_name draft.name) ≡ Some (log_bytes draft.closed items)
made_draft past draft name items is made = subst (λ (d : Handle). reads past (draft_name d.name) ≡ Some (log_bytes d.closed items)) (sym is) made

-- one item that is not too long
pub one_content : (content : List ℕ) → IsContent content → AreContents (content ∷ [])
one_content content fit = All-cons IsContent content [] fit (All-nil IsContent)

-- a log after an append
pub appended_log : (past : Past) (old new : Handle) (all : List (List ℕ)) → new ≡ opened old → reads past (file_of old) ≡ Some (log_bytes new.closed all) → IsLog past new
appended_log past old new all is here = (all, ap (reads past) (ap file_of is) ∙ here)

pub log_there : (past : Past) (log : Handle) → IsLog past log → IsThere past (file_of log)
log_there past log (all, here) = ap is_some here

-- one item as put_item lays it out
pub one_item : (bytes before content : List ℕ) → IsContent content → before ≡ [] → bytes ≡ before ++ item_bytes content → AreItems bytes
one_item bytes before content fit none is =
    (content ∷ [], one_content content fit, is ∙ ap (λ z. z ++ item_bytes content) none ∙ sym (append-nil (item_bytes content)))

-- a log after a sync
pub synced_log : {T E : Type 0} (r : Result T E) (past new : Past) (log now : Handle) → IsLog past log → now ≡ log → ((other : List ℕ) → reads new other ≡ reads past other) → OnOk r (IsLog new now)
synced_log (Err e) past new log now is same kept = tt
synced_log (Ok x) past new log now (all, here) same kept = subst (IsLog new) (sym same) (all, kept (file_of log) ∙ here)
