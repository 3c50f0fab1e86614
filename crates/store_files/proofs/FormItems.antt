-- The items of a file of some form, read one after another.
use Rattle.std.proofs.Common.{◌≡◌, ℕ, Bool, zero, suc, ◌+◌, ◌≤◌, not, List, [], ◌∷◌, ◌++◌, length, take, drop, Option, Some, refl, sym, ap, ◌∙◌, subst, inl, inr, arith}
use Rattle.std.specs.Prelude.{slice_get}
use Rattle.std.specs.List.{AllZip}
use Rattle.std.proofs.lemmas.List.{take-append-drop, length-take-le}
use Rattle.log_items.specs.Items.{wire, log_bytes, AreContents}
use Rattle.log_items.proofs.Unique.{written}
use Rattle.disk_logs.specs.Logs.{FileRead, IsRead}
use Rattle.store_files.specs.Forms.{Form, BeginWith, AreItemsOf, IsOther, IsWrongAt, IsWrong, Gives, IsOfOther}
use Rattle.store_files.specs.Inside.Found.{IsHeadless}

drop_at : (items : List (List ℕ)) (n : ℕ) (item : List ℕ) → slice_get items n ≡ Some item
    → drop n items ≡ item ∷ drop (suc n) items
drop_at [] n item is = absurd (cc)
drop_at (first ∷ items) zero item is = cc
drop_at (first ∷ items) (suc n) item is = drop_at items n item is

take_more : (items : List (List ℕ)) (n : ℕ) (content : List ℕ) → slice_get items n ≡ Some content
    → take (suc n) items ≡ take n items ++ content ∷ []
take_more [] n content is = absurd (cc)
take_more (first ∷ items) zero content is = cc
take_more (first ∷ items) (suc n) content is = ap (λ xs. first ∷ xs) (take_more items n content is)

within : (items : List (List ℕ)) (n : ℕ) (content : List ℕ) → slice_get items n ≡ Some content → n ≤ length items
within [] n content is = absurd (cc)
within (first ∷ items) zero content is = omega arith
within (first ∷ items) (suc n) content is = omega (arith, within items n content is)

push_said : {X : Type 0} (Says : List ℕ → X → Type 0) (contents : List (List ℕ)) (xs : List X) (content : List ℕ) (x : X)
    → AllZip Says contents xs → Says content x → AllZip Says (contents ++ content ∷ []) (xs ++ x ∷ [])
push_said Says [] [] content x h one = (one, tt)
push_said Says [] (y ∷ xs) content x h one = absurd h
push_said Says (c ∷ contents) [] content x h one = absurd h
push_said Says (c ∷ contents) (y ∷ xs) content x h one = (h.0, push_said Says contents xs content x h.1 one)

pub other_read : (word : List ℕ) (Counts : ℕ → Type 0) (read : FileRead) (file : Option (List ℕ)) (number : ℕ) → IsRead read
    → file ≡ Some read.bytes → (Counts number → ⊥) → BeginWith word number read.items → IsOfOther word Counts file
other_read word Counts read file number whole there other begin = record {
  bytes = read.bytes;
  there = there;
  items = read.items;
  listed = (not read.was_open, whole);
  number = number;
  begin = begin;
  other = other;
}

module _ {X : Type 0} (form : Form X) where
  pub allowed : (number : ℕ) (xs : List X) (items : List (List ℕ)) → AreItemsOf form number xs items → form.Allows xs
  allowed number xs [] h = absurd h
  allowed number xs (first ∷ contents) h = h.2

  -- one more behind them
  pub one_more : (number : ℕ) (xs : List X) (items : List (List ℕ)) (x : X) (content : List ℕ)
      → AreItemsOf form number xs items → form.Says content x → form.Allows (xs ++ x ∷ [])
      → AreItemsOf form number (xs ++ x ∷ []) (items ++ content ∷ [])
  one_more number xs [] x content h says allows = absurd h
  one_more number xs (first ∷ contents) x content h says allows =
      (h.0, push_said form.Says contents xs content x h.1 says, allows)

  module _ (items : List (List ℕ)) (number : ℕ) (xs : List X) (n : ℕ) (content : List ℕ)
      (are : AreItemsOf form number xs (take n items)) (found : slice_get items n ≡ Some content) where
    -- one more was read
    pub items_more : (x : X) → form.Says content x → form.Allows (xs ++ x ∷ [])
        → AreItemsOf form number (xs ++ x ∷ []) (take (n + 1) items)
    items_more x says allows =
        let plus : suc n ≡ n + 1 = omega arith in
        let more = sym (take_more items n content found) ∙ ap (λ m. take m items) plus in
        subst (AreItemsOf form number (xs ++ x ∷ [])) more (one_more number xs (take n items) x content are says allows)

    -- or the first wrong item
    pub wrong_at : (at : ℕ) → form.Counts number → IsOther form xs content → at ≡ 8 + length (wire (take n items))
        → IsWrongAt form items at
    wrong_at at counts other place = record {
      n = n;
      wrong = inr (record {
        number = number;
        counts = counts;
        xs = xs;
        front = take n items;
        other = content;
        others = drop (suc n) items;
        are = are;
        bad = other;
        is = sym (take-append-drop n items) ∙ ap (λ ys. take n items ++ ys) (drop_at items n content found);
        place = sym (length-take-le n items (within items n content found));
      });
      place = place;
    }

  -- ---- a file that was read

  pub gives_read : (read : FileRead) (file : Option (List ℕ)) (number : ℕ) (xs : List X) → IsRead read
      → file ≡ Some read.bytes → form.Counts number → AreItemsOf form number xs read.items → Gives form number xs file
  gives_read read file number xs whole there counts are = record {
    counts = counts;
    bytes = read.bytes;
    there = there;
    items = read.items;
    listed = (not read.was_open, whole);
    are = are;
  }

  pub wrong_read : (read : FileRead) (file : Option (List ℕ)) (at : ℕ) → IsRead read → file ≡ Some read.bytes
      → IsWrongAt form read.items at → IsWrong form at file
  wrong_read read file at whole there wrong = record {
    bytes = read.bytes;
    there = there;
    wrong = inr (read.items, (not read.was_open, whole), wrong);
  }

  -- what does not begin as it should is wrong
  pub headless_wrong : (at : ℕ) (file : Option (List ℕ)) → IsHeadless form.word at file → IsWrong form at file
  headless_wrong at file (bytes, there, inl bad) = record { bytes = bytes; there = there; wrong = inl bad }
  headless_wrong at file (bytes, there, inr (items, listed, lacks, place)) = record {
    bytes = bytes;
    there = there;
    wrong = inr (items, listed, record { n = 0; wrong = inl (refl, lacks); place = place });
  }

  -- ---- a file that was written

  pub gives_written : (closed : Bool) (items : List (List ℕ)) (number : ℕ) (xs : List X) → AreContents items → form.Counts number
      → AreItemsOf form number xs items → Gives form number xs (Some (log_bytes closed items))
  gives_written closed items number xs fit counts are = record {
    counts = counts;
    bytes = log_bytes closed items;
    there = refl;
    items = items;
    listed = (closed, written closed items fit);
    are = are;
  }
