-- What filters keep of a list whose first part is below something and whose last part is above it.
use Rattle.std.proofs.Common.{◌≡◌, Bool, true, false, not, List, [], ◌∷◌, ◌++◌, refl, sym, ap, ◌∙◌, append_assoc, append-nil}
use Rattle.std.specs.List.{filter, AllByRecursion as Each}
use Rattle.std.specs.Ordering.{is_lt, is_eq, is_gt}
use Rattle.std.specs.declared.cmp.Ordering.{Ordering}
use Rattle.std.specs.declared.cmp.Ordering.TheVariants.{Less, Greater}
use Rattle.std.proofs.lemmas.List.Elements.{filter-append}
use Rattle.term_core.specs.declared.term.Term.{Term}
use Rattle.db_model.specs.declared.definition.Kind.{Kind}
use Rattle.ram_table.specs.Inside.Rows.{row_cmp, put}
use Rattle.ram_table.proofs.Increasing.{keeps_all, keeps_none, each_tested}

pub filter_parts : (f : Term → Bool) (xs ms ys : List Term) → filter f (xs ++ (ms ++ ys)) ≡ filter f xs ++ (filter f ms ++ filter f ys)
filter_parts f xs ms ys = filter-append f xs (ms ++ ys) ∙ ap (λ (t : List Term). filter f xs ++ t) (filter-append f ms ys)

module _ (s : Term → Ordering) (xs ms ys : List Term) (a : Each (λ x. s x ≡ Less) xs) (b : Each (λ y. s y ≡ Greater) ys) where
  pub low_parts : filter (λ x. is_lt (s x)) (xs ++ (ms ++ ys)) ≡ xs ++ filter (λ x. is_lt (s x)) ms
  low_parts =
      let first : filter (λ x. is_lt (s x)) xs ≡ xs = keeps_all (λ x. is_lt (s x)) xs (each_tested s Less is_lt true refl xs a) in
      let last : filter (λ x. is_lt (s x)) ys ≡ [] = keeps_none (λ x. is_lt (s x)) ys (each_tested s Greater is_lt false refl ys b) in
      filter_parts (λ x. is_lt (s x)) xs ms ys ∙ rw (first, last, append-nil) refl

  pub tied_parts : filter (λ x. is_eq (s x)) (xs ++ (ms ++ ys)) ≡ filter (λ x. is_eq (s x)) ms
  tied_parts =
      let first : filter (λ x. is_eq (s x)) xs ≡ [] = keeps_none (λ x. is_eq (s x)) xs (each_tested s Less is_eq false refl xs a) in
      let last : filter (λ x. is_eq (s x)) ys ≡ [] = keeps_none (λ x. is_eq (s x)) ys (each_tested s Greater is_eq false refl ys b) in
      filter_parts (λ x. is_eq (s x)) xs ms ys ∙ rw (first, last, append-nil) refl

  pub high_parts : filter (λ x. is_gt (s x)) (xs ++ (ms ++ ys)) ≡ filter (λ x. is_gt (s x)) ms ++ ys
  high_parts =
      let first : filter (λ x. is_gt (s x)) xs ≡ [] = keeps_none (λ x. is_gt (s x)) xs (each_tested s Less is_gt false refl xs a) in
      let last : filter (λ x. is_gt (s x)) ys ≡ ys = keeps_all (λ x. is_gt (s x)) ys (each_tested s Greater is_gt true refl ys b) in
      filter_parts (λ x. is_gt (s x)) xs ms ys ∙ rw (first, last) refl

  pub other_parts : filter (λ x. not (is_eq (s x))) (xs ++ (ms ++ ys)) ≡ xs ++ (filter (λ x. not (is_eq (s x))) ms ++ ys)
  other_parts =
      let first : filter (λ x. not (is_eq (s x))) xs ≡ xs =
      keeps_all (λ x. not (is_eq (s x))) xs (each_tested s Less (λ o. not (is_eq o)) true refl xs a) in
      let last : filter (λ x. not (is_eq (s x))) ys ≡ ys =
      keeps_all (λ x. not (is_eq (s x))) ys (each_tested s Greater (λ o. not (is_eq o)) true refl ys b) in
      filter_parts (λ x. not (is_eq (s x))) xs ms ys ∙ rw (first, last) refl

pub put_parts : (kind : Kind) (row : Term) (xs ms ys : List Term) → Each (λ x. row_cmp kind x row ≡ Less) xs
    → Each (λ y. row_cmp kind y row ≡ Greater) ys → put kind (xs ++ (ms ++ ys)) row ≡ xs ++ (put kind ms row ++ ys)
put_parts kind row xs ms ys a b =
    let s = λ (x : Term). row_cmp kind x row in
    rw (low_parts s xs ms ys a b, high_parts s xs ms ys a b)
    (append_assoc xs (filter (λ x. is_lt (s x)) ms) (row ∷ (filter (λ x. is_gt (s x)) ms ++ ys))
    ∙ ap (λ (t : List Term). xs ++ t) (sym (append_assoc (filter (λ x. is_lt (s x)) ms) (row ∷ filter (λ x. is_gt (s x)) ms) ys)))
