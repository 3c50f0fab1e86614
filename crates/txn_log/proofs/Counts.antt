-- How the items of a log are read, one after another.
use Rattle.std.proofs.Common.{◌≡◌, ℕ, zero, suc, ◌+◌, ◌≤◌, List, [], ◌∷◌, ◌++◌, length, take, drop, Some, sym, ap, ◌∙◌, subst, inr, arith}
use Rattle.std.specs.Prelude.{slice_get}
use Rattle.std.proofs.lemmas.List.{take-append-drop, length-take-le}
use Rattle.log_items.specs.Items.{wire}
use Rattle.db_model.specs.Commits.{CommitRecord}
use Rattle.txn_log.specs.Commits.{IsCommit, AreItemsOf}
use Rattle.txn_log.specs.Logs.{IsOther, IsWrongAt}
use Rattle.txn_log.proofs.CommitLists.{items_one_more}

drop_at : (items : List (List ℕ)) (n : ℕ) (item : List ℕ) → slice_get items n ≡ Some item
    → drop n items ≡ item ∷ drop (suc n) items
drop_at [] n item is = absurd (cc)
drop_at (first ∷ items) zero item is = cc
drop_at (first ∷ items) (suc n) item is = drop_at items n item is

take_more : (items : List (List ℕ)) (n : ℕ) (content : List ℕ) → slice_get items n ≡ Some content
    → take (suc n) items ≡ take n items ++ content ∷ []
take_more [] n content is = absurd (cc)
take_more (first ∷ items) zero content is = cc
take_more (first ∷ items) (suc n) content is = ap (λ xs. first ∷ xs) (take_more items n content is)

within : (items : List (List ℕ)) (n : ℕ) (content : List ℕ) → slice_get items n ≡ Some content → n ≤ length items
within [] n content is = absurd (cc)
within (first ∷ items) zero content is = omega arith
within (first ∷ items) (suc n) content is = omega (arith, within items n content is)

module _ (items : List (List ℕ)) (commits : List CommitRecord) (n : ℕ) (content : List ℕ)
    (are : AreItemsOf commits (take n items)) (found : slice_get items n ≡ Some content) where
  pub wrong_from : (Allowed : List CommitRecord → Type 0) (at : ℕ) → Allowed commits → IsOther Allowed commits content
      → at ≡ 8 + length (wire (take n items)) → IsWrongAt Allowed items at
  wrong_from Allowed at allowed other place = record {
    number = n;
    wrong = inr (record {
      commits = commits;
      front = take n items;
      other = content;
      others = drop (suc n) items;
      are = are;
      allowed = allowed;
      bad = other;
      is = sym (take-append-drop n items) ∙ ap (λ xs. take n items ++ xs) (drop_at items n content found);
      number = sym (length-take-le n items (within items n content found));
    });
    place = place;
  }

  pub items_more : (commit : CommitRecord) → IsCommit content commit
      → AreItemsOf (commits ++ commit ∷ []) (take (n + 1) items)
  items_more commit one =
      let plus : suc n ≡ n + 1 = omega arith in
      let more = sym (take_more items n content found) ∙ ap (λ m. take m items) plus in
      subst (AreItemsOf (commits ++ commit ∷ [])) more (items_one_more commits (take n items) commit content are one)
