-- A file has one list of commits, or one first wrong place.
use Rattle.std.proofs.Common.{◌≡◌, ◌⊎◌, ℕ, suc, ◌+◌, List, [], ◌∷◌, ◌++◌, length, take, Option, Some, refl, sym, ap, ◌∙◌, subst, inl, inr}
use Rattle.log_items.specs.Items.{wire, HasItems}
use Rattle.log_items.specs.Scan.{IsBadAt}
use Rattle.log_items.proofs.Unique.{one_list, file_not_bad, one_place}
use Rattle.db_model.specs.Commits.{CommitRecord}
use Rattle.txn_log.specs.Commits.{AreCommits, AreItemsOf}
use Rattle.txn_log.specs.Logs.{Reads, LacksHead, IsOther, IsWrongFrom, IsWrongAt, IsWrong}
use Rattle.txn_log.proofs.CommitLists.{AllowsFirst, no_other, one_items}
use Rattle.txn_log.proofs.CommitsRead.{same_items}

pub one_list_read : (file : Option (List ℕ)) (commits more : List CommitRecord) → Reads commits file → Reads more file
    → commits ≡ more
one_list_read file commits more (inl (none, is)) (inl (also, other)) = is ∙ sym other
one_list_read file commits more (inl (none, is)) (inr (texts, here, has)) = absurd (cc)
one_list_read file commits more (inr (bytes, there, has)) (inl (none, is)) = absurd (cc)
one_list_read file commits more (inr (bytes, there, (items, are, listed))) (inr (texts, here, (others, also, has))) =
    same_items commits more others (subst (AreItemsOf commits) (one_items file bytes texts items others there here listed has) are) also

-- ---- one place

-- a head where there is none
no_head : (commits : List CommitRecord) (items front : List (List ℕ)) (others : List (List ℕ)) → LacksHead items
    → AreItemsOf commits front → items ≡ front ++ others → ⊥
no_head commits items [] others none h is = h
no_head commits items (first ∷ front) others none h is = none first (front ++ others) is h.0

-- of two lists that go on with these, neither front is shorter, or one has the other's next
abbrev FrontsAre : (front back : List (List ℕ)) (x y : List ℕ) → Type 0
FrontsAre front back x y = (length front ≡ length back)
    ⊎ ((rest : List (List ℕ)) × (back ≡ front ++ x ∷ rest))
    ⊎ ((rest : List (List ℕ)) × (front ≡ back ++ y ∷ rest))

fronts_are : (front back : List (List ℕ)) (x y : List ℕ) (xs ys : List (List ℕ))
    → front ++ x ∷ xs ≡ back ++ y ∷ ys → FrontsAre front back x y
fronts_are [] [] x y xs ys is = inl refl
fronts_are [] (z ∷ back) x y xs ys is =
    let same : z ≡ x = cc in inr (inl (back, ap (λ w. w ∷ back) same))
fronts_are (z ∷ front) [] x y xs ys is =
    let same : z ≡ y = cc in inr (inr (front, ap (λ w. w ∷ front) same))
fronts_are (z ∷ front) (w ∷ back) x y xs ys is =
    let first : z ≡ w = cc in
    elim (fronts_are front back x y xs ys (cc)) [
      | inl same ↦ inl (ap suc same)
      | inr longer ↦ inr (elim longer [
        | inl (rest, same) ↦ inl (rest, λ i. sym first i ∷ same i)
        | inr (rest, same) ↦ inr (rest, λ i. first i ∷ same i)
      ])
    ]

module _ (Allowed : List CommitRecord → Type 0) (allows_first : AllowsFirst Allowed) where
  one_wrong : (commits more : List CommitRecord) (front back : List (List ℕ)) (x y : List ℕ) (xs ys : List (List ℕ))
      → AreCommits commits front → AreCommits more back → Allowed commits → Allowed more
      → IsOther Allowed commits x → IsOther Allowed more y → front ++ x ∷ xs ≡ back ++ y ∷ ys → length front ≡ length back
  one_wrong commits more front back x y xs ys p q g h a b is = elim (fronts_are front back x y xs ys is) [
    | inl same ↦ same
    | inr longer ↦ elim longer [
      | inl (rest, same) ↦ absurd (no_other Allowed allows_first more commits back front x rest q h p a same)
      | inr (rest, same) ↦ absurd (no_other Allowed allows_first commits more front back y rest p g q b same)
    ]
  ]

  one_number : (items : List (List ℕ)) (m n : ℕ) → IsWrongFrom Allowed items m → IsWrongFrom Allowed items n → m ≡ n
  one_number items m n (inl (a, none)) (inl (b, also)) = a ∙ sym b
  one_number items m n (inl (a, none)) (inr h) = absurd (no_head h.commits items h.front (h.other ∷ h.others) none h.are h.is)
  one_number items m n (inr h) (inl (b, none)) = absurd (no_head h.commits items h.front (h.other ∷ h.others) none h.are h.is)
  one_number items m n (inr g) (inr h) = g.number ∙ by g.front h.front g.are h.are (sym g.is ∙ h.is) ∙ sym h.number
    where
      by : (front back : List (List ℕ)) → AreItemsOf g.commits front → AreItemsOf h.commits back
          → front ++ g.other ∷ g.others ≡ back ++ h.other ∷ h.others → length front ≡ length back
      by [] back p q is = absurd p
      by (x ∷ front) [] p q is = absurd q
      by (x ∷ front) (y ∷ back) p q is =
          ap suc (one_wrong g.commits h.commits front back g.other h.other g.others h.others p.1 q.1 g.allowed h.allowed g.bad h.bad (cc))

  one_at : (items : List (List ℕ)) (at other : ℕ) → IsWrongAt Allowed items at → IsWrongAt Allowed items other
      → at ≡ other
  one_at items at other g h =
      g.place ∙ ap (λ n. 8 + length (wire (take n items))) (one_number items g.number h.number g.wrong h.wrong) ∙ sym h.place

  -- the bytes are wrong from this place on
  abbrev WrongBytes : List ℕ → ℕ → Type 0
  WrongBytes bytes at = IsBadAt bytes at ⊎ ((items : List (List ℕ)) × HasItems bytes items × IsWrongAt Allowed items at)

  one_in_bytes : (bytes : List ℕ) (at other : ℕ) → WrongBytes bytes at → WrongBytes bytes other → at ≡ other
  one_in_bytes bytes at other (inl bad) (inl worse) = one_place bytes at other bad worse
  one_in_bytes bytes at other (inl bad) (inr (others, also, wrong)) = absurd (file_not_bad bytes others at also bad)
  one_in_bytes bytes at other (inr (items, listed, wrong)) (inl bad) = absurd (file_not_bad bytes items other listed bad)
  one_in_bytes bytes at other (inr (items, listed, wrong)) (inr (others, also, worse)) =
      one_at others at other (subst (λ xs. IsWrongAt Allowed xs at) (one_list bytes items others listed also) wrong) worse

  pub one_bad : (file : Option (List ℕ)) (at other : ℕ) → IsWrong Allowed at file → IsWrong Allowed other file
      → at ≡ other
  one_bad file at other (bytes, there, bad) (texts, here, also) =
      let both : Some bytes ≡ Some texts = sym there ∙ here in
      let same : bytes ≡ texts = cc in
      one_in_bytes texts at other (subst (λ b. WrongBytes b at) same bad) also
