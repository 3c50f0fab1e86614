-- The items of a log and its commits.
use Rattle.std.proofs.Common.{◌≡◌, ◌⊎◌, ℕ, zero, suc, not, List, [], ◌∷◌, ◌++◌, length, take, Option, Some, refl, sym, ap, ◌∙◌, subst, inl, inr, append_assoc}
use Rattle.log_items.specs.Items.{HasItems}
use Rattle.log_items.proofs.Unique.{one_list, file_not_bad}
use Rattle.disk_logs.specs.Logs.{FileRead, IsRead}
use Rattle.db_model.specs.Commits.{CommitRecord}
use Rattle.txn_log.specs.Commits.{IsLogged, IsCommit, AreCommits, AreItemsOf}
use Rattle.txn_log.specs.Logs.{Reads, IsOther, IsWrongFrom, IsWrongAt, IsWrong}
use Rattle.txn_log.proofs.CommitsRead.{same_content}

count_commits : (commits : List CommitRecord) (contents : List (List ℕ)) → AreCommits commits contents
    → length contents ≡ length commits
count_commits [] [] h = refl
count_commits [] (content ∷ contents) h = absurd h
count_commits (commit ∷ commits) [] h = absurd h
count_commits (commit ∷ commits) (content ∷ contents) h = ap suc (count_commits commits contents h.1)

-- one item is the head
pub count_items : (commits : List CommitRecord) (items : List (List ℕ)) → AreItemsOf commits items
    → length items ≡ suc (length commits)
count_items commits [] h = absurd h
count_items commits (first ∷ contents) h = ap suc (count_commits commits contents h.1)

take_commits : (n : ℕ) (commits : List CommitRecord) (contents : List (List ℕ)) → AreCommits commits contents
    → AreCommits (take n commits) (take n contents)
take_commits zero commits contents h = tt
take_commits (suc n) [] [] h = tt
take_commits (suc n) [] (content ∷ contents) h = absurd h
take_commits (suc n) (commit ∷ commits) [] h = absurd h
take_commits (suc n) (commit ∷ commits) (content ∷ contents) h = (h.0, take_commits n commits contents h.1)

-- the first ones of a log's items are those of one with the first commits
pub take_items : (n : ℕ) (commits : List CommitRecord) (items : List (List ℕ)) → AreItemsOf commits items
    → AreItemsOf (take n commits) (take (suc n) items)
take_items n commits [] h = absurd h
take_items n commits (first ∷ contents) h = (h.0, take_commits n commits contents h.1)

-- one more commit behind these
commits_more : (commits : List CommitRecord) (contents : List (List ℕ)) (commit : CommitRecord) (content : List ℕ)
    → AreCommits commits contents → IsCommit content commit
    → AreCommits (commits ++ commit ∷ []) (contents ++ content ∷ [])
commits_more [] [] commit content h one = (one, tt)
commits_more [] (x ∷ contents) commit content h one = absurd h
commits_more (first ∷ commits) [] commit content h one = absurd h
commits_more (first ∷ commits) (x ∷ contents) commit content h one = (h.0, commits_more commits contents commit content h.1 one)

pub items_one_more : (commits : List CommitRecord) (items : List (List ℕ)) (commit : CommitRecord) (content : List ℕ)
    → AreItemsOf commits items → IsCommit content commit
    → AreItemsOf (commits ++ commit ∷ []) (items ++ content ∷ [])
items_one_more commits [] commit content h one = absurd h
items_one_more commits (first ∷ contents) commit content h one = (h.0, commits_more commits contents commit content h.1 one)

-- ---- what is allowed

-- where commits are allowed, so are the first ones of them
abbrev pub AllowsFirst : (List CommitRecord → Type 0) → Type 0
AllowsFirst Allowed = (commits more : List CommitRecord) → Allowed (commits ++ more) → Allowed commits

-- behind allowed commits it can be told whether one more that a log may hold is allowed
abbrev pub TellsNext : (List CommitRecord → Type 0) → Type 0
TellsNext Allowed = (commits : List CommitRecord) (commit : CommitRecord) → Allowed commits → IsLogged commit
    → Allowed (commits ++ commit ∷ []) ⊎ (Allowed (commits ++ commit ∷ []) → ⊥)

-- ---- commits or a wrong item

-- among these commits, the one behind the front is that of the content
record HasNext (commits front : List CommitRecord) (content : List ℕ) : Type 0 where
  commit : CommitRecord
  others : List CommitRecord
  is : commits ≡ front ++ commit ∷ others
  text : IsCommit content commit

next_of : (commits some : List CommitRecord) (contents front : List (List ℕ)) (other : List ℕ) (others : List (List ℕ))
    → AreCommits commits contents → AreCommits some front → contents ≡ front ++ other ∷ others
    → HasNext commits some other
next_of commits [] contents (x ∷ front) other others s t is = absurd t
next_of commits (y ∷ some) contents [] other others s t is = absurd t
next_of [] [] [] [] other others s t is = absurd (cc)
next_of [] [] (content ∷ contents) [] other others s t is = absurd s
next_of (commit ∷ commits) [] [] [] other others s t is = absurd s
next_of (commit ∷ commits) [] (content ∷ contents) [] other others s t is =
    let same : content ≡ other = cc in
    record { commit = commit; others = commits; is = refl; text = subst (λ x. IsCommit x commit) same s.0 }
next_of [] (y ∷ some) [] (x ∷ front) other others s t is = absurd (cc)
next_of [] (y ∷ some) (content ∷ contents) (x ∷ front) other others s t is = absurd s
next_of (commit ∷ commits) (y ∷ some) [] (x ∷ front) other others s t is = absurd s
next_of (commit ∷ commits) (y ∷ some) (content ∷ contents) (x ∷ front) other others s t is =
    let same : content ≡ x = cc in
    let rest = next_of commits some contents front other others s.1 t.1 (cc) in
    let first = same_content x commit y (subst (λ z. IsCommit z commit) same s.0) t.0 in
    record {
      commit = rest.commit;
      others = rest.others;
      is = λ i. first i ∷ rest.is i;
      text = rest.text;
    }

module _ (Allowed : List CommitRecord → Type 0) (allows_first : AllowsFirst Allowed) where
  -- allowed commits have no other among them
  pub no_other : (commits some : List CommitRecord) (contents front : List (List ℕ)) (other : List ℕ)
      (others : List (List ℕ)) → AreCommits commits contents → Allowed commits
      → AreCommits some front → IsOther Allowed some other → contents ≡ front ++ other ∷ others → ⊥
  no_other commits some contents front other others s allowed t none is =
      let next = next_of commits some contents front other others s t is in
      let more = append_assoc some (next.commit ∷ []) next.others in
      none next.commit
      (allows_first (some ++ next.commit ∷ []) next.others (subst Allowed (next.is ∙ sym more) allowed)) next.text

  not_wrong : (commits : List CommitRecord) (items : List (List ℕ)) (n : ℕ) → AreItemsOf commits items
      → Allowed commits → IsWrongFrom Allowed items n → ⊥
  not_wrong commits [] n s allowed wrong = absurd s
  not_wrong commits (first ∷ contents) n s allowed (inl (zero_is, none)) = none first contents refl s.0
  not_wrong commits (first ∷ contents) n s allowed (inr h) = by h.front h.are h.is
    where
      by : (front : List (List ℕ)) → AreItemsOf h.commits front → first ∷ contents ≡ front ++ h.other ∷ h.others → ⊥
      by [] t is = absurd t
      by (x ∷ front) t is = no_other commits h.commits contents front h.other h.others s.1 allowed t.1 h.bad (cc)

some_is : {T : Type 0} (x y : T) → Some x ≡ Some y → x ≡ y
some_is x y h = cc

-- two readings of one file
pub one_items : (file : Option (List ℕ)) (bytes texts : List ℕ) (items others : List (List ℕ)) → file ≡ Some bytes
    → file ≡ Some texts → HasItems bytes items → HasItems texts others → items ≡ others
one_items file bytes texts items others there here listed also =
    one_list texts items others (subst (λ b. HasItems b items) (some_is bytes texts (sym there ∙ here)) listed) also

-- a log of allowed commits is wrong nowhere
pub log_not_wrong : (Allowed : List CommitRecord → Type 0) → AllowsFirst Allowed → (file : Option (List ℕ))
    (commits : List CommitRecord) (at : ℕ) → Reads commits file → Allowed commits → IsWrong Allowed at file → ⊥
log_not_wrong Allowed allows_first file commits at (inl (none, is)) allowed (texts, here, wrong) = absurd (cc)
log_not_wrong Allowed allows_first file commits at (inr (bytes, there, (items, are, has))) allowed (texts, here, inl bad) =
    file_not_bad texts items at (subst (λ b. HasItems b items) (some_is bytes texts (sym there ∙ here)) has) bad
log_not_wrong Allowed allows_first file commits at (inr (bytes, there, (items, are, has))) allowed
    (texts, here, inr (others, also, wrong)) =
    let same = one_items file bytes texts items others there here has also in
    not_wrong Allowed allows_first commits others wrong.number (subst (AreItemsOf commits) same are) allowed wrong.wrong

-- ---- a file that was read

-- its items are those of the commits that it reads as
pub items_are : (read : FileRead) (file : Option (List ℕ)) (commits : List CommitRecord) → IsRead read
    → file ≡ Some read.bytes → Reads commits file → AreItemsOf commits read.items
items_are read file commits whole there (inl (none, is)) = absurd (cc (none, there))
items_are read file commits whole there (inr (bytes, here, (items, are, has))) =
    subst (AreItemsOf commits) (one_items file bytes read.bytes items read.items here there has (not read.was_open, whole)) are

-- and it reads as the commits of its items
pub reads_as : (read : FileRead) (file : Option (List ℕ)) (commits : List CommitRecord) → IsRead read
    → file ≡ Some read.bytes → AreItemsOf commits read.items → Reads commits file
reads_as read file commits whole there are = inr (read.bytes, there, (read.items, are, (not read.was_open, whole)))

-- its wrong place is the file's
pub wrong_read : (Allowed : List CommitRecord → Type 0) (read : FileRead) (file : Option (List ℕ)) (at : ℕ) → IsRead read
    → file ≡ Some read.bytes → IsWrongAt Allowed read.items at → IsWrong Allowed at file
wrong_read Allowed read file at whole there wrong = (read.bytes, there, inr (read.items, (not read.was_open, whole), wrong))
