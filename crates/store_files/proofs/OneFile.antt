-- A file of some form says one thing, or has one first wrong place, and never both.
use Rattle.std.proofs.Common.{◌≡◌, ◌⊎◌, ℕ, suc, ◌+◌, List, [], ◌∷◌, ◌++◌, length, take, Option, Some, refl, sym, ap, ◌∙◌, subst, inl, inr, append_assoc}
use Rattle.std.specs.List.{AllZip}
use Rattle.term_wire.proofs.Again.{one_tree}
use Rattle.log_items.specs.Items.{wire, HasItems}
use Rattle.log_items.specs.Scan.{IsBadAt}
use Rattle.log_items.proofs.Unique.{one_list, file_not_bad, one_place}
use Rattle.store_files.specs.Forms.{Form, head_tree, IsHead, BeginWith, LackHead, AreItemsOf, IsOther, IsWrongFrom, IsWrongAt, IsWrong, Gives, IsAbsent}

same_number : (word : List ℕ) (m n : ℕ) → head_tree word m ≡ head_tree word n → m ≡ n
same_number word m n is = cc

pub one_head : (word content : List ℕ) (m n : ℕ) → IsHead word m content → IsHead word n content → m ≡ n
one_head word content m n x y = same_number word m n (one_tree content (head_tree word m) (head_tree word n) x.1 y.1)

some_is : {T : Type 0} (x y : T) → Some x ≡ Some y → x ≡ y
some_is x y h = cc

-- two readings of one file
one_items : (file : Option (List ℕ)) (bytes texts : List ℕ) (items others : List (List ℕ)) → file ≡ Some bytes
    → file ≡ Some texts → HasItems bytes items → HasItems texts others → items ≡ others
one_items file bytes texts items others there here listed also =
    one_list texts items others (subst (λ b. HasItems b items) (some_is bytes texts (sym there ∙ here)) listed) also

-- of two lists that go on with these, neither front is shorter, or one has the other's next
abbrev FrontsAre : (front back : List (List ℕ)) (x y : List ℕ) → Type 0
FrontsAre front back x y = (length front ≡ length back)
    ⊎ ((rest : List (List ℕ)) × (back ≡ front ++ x ∷ rest))
    ⊎ ((rest : List (List ℕ)) × (front ≡ back ++ y ∷ rest))

fronts_are : (front back : List (List ℕ)) (x y : List ℕ) (xs ys : List (List ℕ))
    → front ++ x ∷ xs ≡ back ++ y ∷ ys → FrontsAre front back x y
fronts_are [] [] x y xs ys is = inl refl
fronts_are [] (z ∷ back) x y xs ys is =
    let same : z ≡ x = cc in inr (inl (back, ap (λ w. w ∷ back) same))
fronts_are (z ∷ front) [] x y xs ys is =
    let same : z ≡ y = cc in inr (inr (front, ap (λ w. w ∷ front) same))
fronts_are (z ∷ front) (w ∷ back) x y xs ys is =
    let first : z ≡ w = cc in
    elim (fronts_are front back x y xs ys (cc)) [
      | inl same ↦ inl (ap suc same)
      | inr longer ↦ inr (elim longer [
        | inl (rest, same) ↦ inl (rest, λ i. sym first i ∷ same i)
        | inr (rest, same) ↦ inr (rest, λ i. first i ∷ same i)
      ])
    ]

-- A content says one thing, and of a list that is allowed the first ones are.
pub record IsTold {X : Type 0} (form : Form X) : Type 0 where
  pub one : (content : List ℕ) (x y : X) → form.Says content x → form.Says content y → x ≡ y
  pub first : (xs ys : List X) → form.Allows (xs ++ ys) → form.Allows xs

module _ {X : Type 0} (form : Form X) (told : IsTold form) where
  -- what a content says is not allowed there
  pub not_next : (xs : List X) (content : List ℕ) (x : X) → form.Says content x → (form.Allows (xs ++ x ∷ []) → ⊥)
      → IsOther form xs content
  not_next xs content x says never y allows also = never (subst (λ z. form.Allows (xs ++ z ∷ [])) (told.one content y x also says) allows)

  same_said : (xs ys : List X) (contents : List (List ℕ)) → AllZip form.Says contents xs → AllZip form.Says contents ys → xs ≡ ys
  same_said [] [] [] a b = refl
  same_said [] (y ∷ ys) [] a b = absurd b
  same_said (x ∷ xs) ys [] a b = absurd a
  same_said [] ys (content ∷ contents) a b = absurd a
  same_said (x ∷ xs) [] (content ∷ contents) a b = absurd b
  same_said (x ∷ xs) (y ∷ ys) (content ∷ contents) a b =
      λ i. told.one content x y a.0 b.0 i ∷ same_said xs ys contents a.1 b.1 i

  one_said : (m n : ℕ) (xs ys : List X) (items : List (List ℕ)) → AreItemsOf form m xs items → AreItemsOf form n ys items
      → (m ≡ n) × (xs ≡ ys)
  one_said m n xs ys [] a b = absurd a
  one_said m n xs ys (first ∷ contents) a b = (one_head form.word first m n a.0 b.0, same_said xs ys contents a.1 b.1)

  -- a file says one thing
  pub one_given : (file : Option (List ℕ)) (m n : ℕ) (xs ys : List X) → Gives form m xs file → Gives form n ys file
      → (m ≡ n) × (xs ≡ ys)
  one_given file m n xs ys a b =
      let same = one_items file a.bytes b.bytes a.items b.items a.there b.there a.listed b.listed in
      one_said m n xs ys b.items (subst (AreItemsOf form m xs) same a.are) b.are

  -- and then it is not another's
  pub given_not_absent : (file : Option (List ℕ)) (n : ℕ) (xs : List X) → Gives form n xs file → IsAbsent form file → ⊥
  given_not_absent file n xs a (inl none) = let there = a.there in absurd (cc (none, there))
  given_not_absent file n xs a (inr b) =
      let same = one_items file a.bytes b.bytes a.items b.items a.there b.there a.listed b.listed in
      b.other (subst form.Counts (by b.items (subst (AreItemsOf form n xs) same a.are) b.begin) a.counts)
    where
      by : (items : List (List ℕ)) → AreItemsOf form n xs items → BeginWith form.word b.number items → n ≡ b.number
      by [] are begin = absurd are
      by (first ∷ contents) are begin = one_head form.word first n b.number are.0 begin

  -- ---- a list or a wrong item

  -- among what is said, the thing behind the front is what the content says
  record HasNext (xs front : List X) (content : List ℕ) : Type 0 where
    x : X
    others : List X
    is : xs ≡ front ++ x ∷ others
    says : form.Says content x

  next_of : (xs some : List X) (contents front : List (List ℕ)) (other : List ℕ) (others : List (List ℕ))
      → AllZip form.Says contents xs → AllZip form.Says front some → contents ≡ front ++ other ∷ others
      → HasNext xs some other
  next_of xs [] contents (x ∷ front) other others s t is = absurd t
  next_of xs (y ∷ some) contents [] other others s t is = absurd t
  next_of [] [] [] [] other others s t is = absurd (cc)
  next_of [] [] (content ∷ contents) [] other others s t is = absurd s
  next_of (x ∷ xs) [] [] [] other others s t is = absurd s
  next_of (x ∷ xs) [] (content ∷ contents) [] other others s t is =
      let same : content ≡ other = cc in
      record { x = x; others = xs; is = refl; says = subst (λ c. form.Says c x) same s.0 }
  next_of [] (y ∷ some) [] (x ∷ front) other others s t is = absurd (cc)
  next_of [] (y ∷ some) (content ∷ contents) (x ∷ front) other others s t is = absurd s
  next_of (x ∷ xs) (y ∷ some) [] (z ∷ front) other others s t is = absurd s
  next_of (x ∷ xs) (y ∷ some) (content ∷ contents) (z ∷ front) other others s t is =
      let same : content ≡ z = cc in
      let rest = next_of xs some contents front other others s.1 t.1 (cc) in
      let first = told.one z x y (subst (λ c. form.Says c x) same s.0) t.0 in
      record { x = rest.x; others = rest.others; is = λ i. first i ∷ rest.is i; says = rest.says }

  -- where all is allowed, none is other
  no_other : (xs some : List X) (contents front : List (List ℕ)) (other : List ℕ) (others : List (List ℕ))
      → AllZip form.Says contents xs → form.Allows xs → AllZip form.Says front some → IsOther form some other
      → contents ≡ front ++ other ∷ others → ⊥
  no_other xs some contents front other others s allows t none is =
      let next = next_of xs some contents front other others s t is in
      let more = append_assoc some (next.x ∷ []) next.others in
      none next.x
      (told.first (some ++ next.x ∷ []) next.others (subst form.Allows (next.is ∙ sym more) allows)) next.says

  not_wrong : (number : ℕ) (xs : List X) (items : List (List ℕ)) (n : ℕ) → AreItemsOf form number xs items
      → IsWrongFrom form items n → ⊥
  not_wrong number xs [] n s wrong = absurd s
  not_wrong number xs (first ∷ contents) n s (inl (zero_is, none)) = none number s.0
  not_wrong number xs (first ∷ contents) n s (inr h) = by h.front h.are h.is
    where
      by : (front : List (List ℕ)) → AreItemsOf form h.number h.xs front → first ∷ contents ≡ front ++ h.other ∷ h.others → ⊥
      by [] t is = absurd t
      by (x ∷ front) t is = no_other xs h.xs contents front h.other h.others s.1 s.2 t.1 h.bad (cc)

  -- what says something is wrong nowhere
  pub given_not_wrong : (file : Option (List ℕ)) (number : ℕ) (xs : List X) (at : ℕ) → Gives form number xs file
      → IsWrong form at file → ⊥
  given_not_wrong file number xs at a w = by w.wrong
    where
      by : IsBadAt w.bytes at ⊎ ((items : List (List ℕ)) × HasItems w.bytes items × IsWrongAt form items at) → ⊥
      by (inl bad) =
          file_not_bad w.bytes a.items at (subst (λ b. HasItems b a.items) (some_is a.bytes w.bytes (sym a.there ∙ w.there)) a.listed) bad
      by (inr (others, also, wrong)) =
          let same = one_items file a.bytes w.bytes a.items others a.there w.there a.listed also in
          not_wrong number xs others wrong.n (subst (AreItemsOf form number xs) same a.are) wrong.wrong

  -- nor is what counts as absent
  other_not_wrong : (number : ℕ) (items : List (List ℕ)) (n : ℕ) → BeginWith form.word number items → (form.Counts number → ⊥)
      → IsWrongFrom form items n → ⊥
  other_not_wrong number items n begin other (inl (zero_is, none)) = none number begin
  other_not_wrong number items n begin other (inr h) = by items h.front begin h.are h.is
    where
      by : (items front : List (List ℕ)) → BeginWith form.word number items → AreItemsOf form h.number h.xs front
          → items ≡ front ++ h.other ∷ h.others → ⊥
      by [] front begin are is = absurd begin
      by (first ∷ items) [] begin are is = absurd are
      by (first ∷ items) (x ∷ front) begin are is =
          let same : x ≡ first = cc in
          other (subst form.Counts (one_head form.word first h.number number (subst (IsHead form.word h.number) same are.0) begin) h.counts)

  pub absent_not_wrong : (file : Option (List ℕ)) (at : ℕ) → IsAbsent form file → IsWrong form at file → ⊥
  absent_not_wrong file at (inl none) w = let there = w.there in absurd (cc (none, there))
  absent_not_wrong file at (inr a) w = by w.wrong
    where
      by : IsBadAt w.bytes at ⊎ ((items : List (List ℕ)) × HasItems w.bytes items × IsWrongAt form items at) → ⊥
      by (inl bad) =
          file_not_bad w.bytes a.items at (subst (λ b. HasItems b a.items) (some_is a.bytes w.bytes (sym a.there ∙ w.there)) a.listed) bad
      by (inr (others, also, wrong)) =
          let same = one_items file a.bytes w.bytes a.items others a.there w.there a.listed also in
          other_not_wrong a.number others wrong.n (subst (BeginWith form.word a.number) same a.begin) a.other wrong.wrong

  -- ---- one place

  -- a head where there is none
  no_head : (number : ℕ) (xs : List X) (items front others : List (List ℕ)) → LackHead form.word items
      → AreItemsOf form number xs front → items ≡ front ++ others → ⊥
  no_head number xs items [] others none h is = h
  no_head number xs [] (first ∷ front) others none h is = absurd (cc)
  no_head number xs (x ∷ items) (first ∷ front) others none h is =
      let same : first ≡ x = cc in none number (subst (IsHead form.word number) same h.0)

  one_wrong : (some more : List X) (front back : List (List ℕ)) (x y : List ℕ) (xs ys : List (List ℕ))
      → AllZip form.Says front some → AllZip form.Says back more → form.Allows some → form.Allows more
      → IsOther form some x → IsOther form more y → front ++ x ∷ xs ≡ back ++ y ∷ ys → length front ≡ length back
  one_wrong some more front back x y xs ys p q g h a b is = elim (fronts_are front back x y xs ys is) [
    | inl same ↦ same
    | inr longer ↦ elim longer [
      | inl (rest, same) ↦ absurd (no_other more some back front x rest q h p a same)
      | inr (rest, same) ↦ absurd (no_other some more front back y rest p g q b same)
    ]
  ]

  one_number : (items : List (List ℕ)) (m n : ℕ) → IsWrongFrom form items m → IsWrongFrom form items n → m ≡ n
  one_number items m n (inl (a, none)) (inl (b, also)) = a ∙ sym b
  one_number items m n (inl (a, none)) (inr h) = absurd (no_head h.number h.xs items h.front (h.other ∷ h.others) none h.are h.is)
  one_number items m n (inr h) (inl (b, none)) = absurd (no_head h.number h.xs items h.front (h.other ∷ h.others) none h.are h.is)
  one_number items m n (inr g) (inr h) = g.place ∙ by g.front h.front g.are h.are (sym g.is ∙ h.is) ∙ sym h.place
    where
      by : (front back : List (List ℕ)) → AreItemsOf form g.number g.xs front → AreItemsOf form h.number h.xs back
          → front ++ g.other ∷ g.others ≡ back ++ h.other ∷ h.others → length front ≡ length back
      by [] back p q is = absurd p
      by (x ∷ front) [] p q is = absurd q
      by (x ∷ front) (y ∷ back) p q is =
          ap suc (one_wrong g.xs h.xs front back g.other h.other g.others h.others p.1 q.1 p.2 q.2 g.bad h.bad (cc))

  one_at : (items : List (List ℕ)) (at other : ℕ) → IsWrongAt form items at → IsWrongAt form items other → at ≡ other
  one_at items at other g h =
      g.place ∙ ap (λ n. 8 + length (wire (take n items))) (one_number items g.n h.n g.wrong h.wrong) ∙ sym h.place

  -- the bytes are wrong from this place on
  abbrev WrongBytes : List ℕ → ℕ → Type 0
  WrongBytes bytes at = IsBadAt bytes at ⊎ ((items : List (List ℕ)) × HasItems bytes items × IsWrongAt form items at)

  one_in_bytes : (bytes : List ℕ) (at other : ℕ) → WrongBytes bytes at → WrongBytes bytes other → at ≡ other
  one_in_bytes bytes at other (inl bad) (inl worse) = one_place bytes at other bad worse
  one_in_bytes bytes at other (inl bad) (inr (others, also, wrong)) = absurd (file_not_bad bytes others at also bad)
  one_in_bytes bytes at other (inr (items, listed, wrong)) (inl bad) = absurd (file_not_bad bytes items other listed bad)
  one_in_bytes bytes at other (inr (items, listed, wrong)) (inr (others, also, worse)) =
      one_at others at other (subst (λ xs. IsWrongAt form xs at) (one_list bytes items others listed also) wrong) worse

  -- a file has one first wrong place
  pub one_bad : (file : Option (List ℕ)) (at other : ℕ) → IsWrong form at file → IsWrong form other file → at ≡ other
  one_bad file at other a b =
      let same = some_is a.bytes b.bytes (sym a.there ∙ b.there) in
      one_in_bytes b.bytes at other (subst (λ x. WrongBytes x at) same a.wrong) b.wrong
