-- What was read of a file.
use Rattle.std.proofs.Common.{◌≡◌, inl, inr, ℕ, zero, suc, ◌+◌, ◌*◌, ◌-◌, ◌<◌, ◌≤◌, not, Bool, true, false, List, [], ◌∷◌, ◌++◌, length, take, drop, min, map, slice_get, get_or, Option, None, Some, option_map, Result, Ok, Err, IfOk, IsErrOf, refl, sym, ap, ◌∙◌, subst, arith, append_assoc, length-append, length-drop}
use Rattle.std.proofs.lemmas.Bool.{cases_lt}
use Rattle.std.proofs.lemmas.List.{append-nil, take_at, drop_at, take-append-drop, take-append-le, take_all, length-take, length-take-le}
use Rattle.std.proofs.lemmas.List.{length-map}
use Rattle.std.proofs.lemmas.Option.{slice_get-map, slice_get-get_or}
use Rattle.file_trait.specs.declared.disk.DiskErr.{DiskErr}
use Rattle.file_trait.specs.DiskModel.{Past, reads}
use Rattle.file_trait.specs.Calls.{Has, Copied}
use Rattle.disk_logs.specs.declared.error.LogErr.{LogErr}
use Rattle.disk_logs.specs.declared.error.LogErr.TheVariants.{File, Bad, TooLong}
use Rattle.disk_logs.specs.Errors.{told}
use Rattle.disk_logs.specs.Logs.{FileRead, IsRead, HasRead}
use Rattle.log_items.specs.declared.spans.Span.{Span}
use Rattle.log_items.specs.declared.spans.Scan.{Scan}
use Rattle.log_items.specs.Items.{head_bytes, item_bytes, wire, log_bytes, StartsWith, IsEnd, IsFile}
use Rattle.log_items.specs.Scan.{IsScan, IsBadAt, span_of, spans_from, content_at}
use Rattle.log_items.proofs.ItemLemmas.{length-header, length-item_bytes, long as log_long, nothing_starts_none}
use Rattle.log_items.proofs.Places.{contents_of_file}
use Rattle.disk_logs.proofs.Effects.{told_ok}

-- ---- a piece

copied_from : (past : Past) (name : List ℕ) (at : ℕ) (into after : List ℕ) (n : ℕ) (file : List ℕ) → reads past name ≡ Some file
    → Has past name (λ bytes. Copied bytes at into after n) → Copied file at into after n
copied_from past name at into after n file here (bytes, is, copied) =
    let same : bytes ≡ file = cc in subst (λ b. Copied b at into after n) same copied

-- the bytes that came are those of the file
came : (file into after : List ℕ) (at n : ℕ) → Copied file at into after n → length after ≡ length into → take n after ≡ take n (drop at file)
came file into after at n copied same =
    let front : length (take n (drop at file)) ≡ n =
    omega (arith, copied.short, same, ap length copied.is, length-append (take n (drop at file)) (drop n into), length-drop n into, length-take n (drop at file)) in
    ap (λ (z : List ℕ). take n z) copied.is ∙ take_at (take n (drop at file)) (drop n into) n front

pub read_part : (past : Past) (name file old new piece lent after tail : List ℕ) (at n size : ℕ) (r : Result ℕ DiskErr) (t : Result ℕ LogErr) → reads past name ≡ Some file
    → at ≡ length old → t ≡ told name r → t ≡ Ok n → IfOk r (λ n. Has past name (λ bytes. Copied bytes at lent after n))
    → length after ≡ length lent → size ≡ length lent → piece ≡ take size (after ++ tail) → new ≡ old ++ take n piece
    → StartsWith old file → StartsWith new file
read_part past name file old new piece lent after tail at n size r t here place told_so is read_so same len kept grown (rest, starts) =
    let copied : Copied file at lent after n =
    copied_from past name at lent after n file here (subst (λ a. IfOk a (λ n. Has past name (λ bytes. Copied bytes at lent after n))) (told_ok name r n (sym told_so ∙ is)) read_so) in
    let left : drop at file ≡ rest = ap (λ k. drop k file) place ∙ ap (λ (z : List ℕ). drop (length old) z) starts ∙ drop_at old rest (length old) refl in
    let piece_is : piece ≡ after = kept ∙ take_at after tail size (same ∙ sym len) in
    let new_is : new ≡ old ++ take n rest =
    grown ∙ ap (λ (z : List ℕ). old ++ take n z) piece_is ∙ ap (λ z. old ++ z) (came file lent after at n copied same) ∙ ap (λ (z : List ℕ). old ++ take n z) left in (
      drop n rest,
      starts ∙ ap (λ z. old ++ z) (sym (take-append-drop n rest)) ∙ sym (append_assoc old (take n rest) (drop n rest)) ∙ ap (λ z. z ++ drop n rest) (sym new_is),
    )

-- all that was to be read is the file
all_read : (bytes file : List ℕ) → length file ≤ length bytes → StartsWith bytes file → bytes ≡ file
all_read bytes file le ([], is) = sym (is ∙ append-nil bytes)
all_read bytes file le (x ∷ rest, is) = absurd (omega (arith, le, ap length is, length-append bytes (x ∷ rest)))

-- ---- a wrong head

long_head : (closed : Bool) → length (head_bytes closed) ≡ 8
long_head true = refl
long_head false = refl

-- what has a part in front has it in front still where more follows
starts_longer : (part front file : List ℕ) → StartsWith front file → StartsWith part front → StartsWith part file
starts_longer part front file (rest, is) (more, starts) = (more ++ rest, is ∙ ap (λ b. b ++ rest) starts ∙ append_assoc part more rest)

-- and had it where the part fits
starts_shorter : (part front file : List ℕ) → StartsWith front file → length part ≤ length front → StartsWith part file → StartsWith part front
starts_shorter part front file (rest, is) le (more, starts) =
    let k : ℕ = length part in (
      drop k front,
      sym (take-append-drop k front) ∙ ap (λ b. b ++ drop k front)
          (sym (take-append-le k front rest le) ∙ ap (λ (b : List ℕ). take k b) (sym is ∙ starts) ∙ take_at part more k refl),
    )

-- of eight bytes the head alone can be wrong
module _ (file front : List ℕ) (starts : StartsWith front file) (at : ℕ) where
  head_wrong : length front ≡ 8 → IsBadAt front at → IsBadAt file at
  head_wrong long (inl (place, none)) = inl (place, λ all. none (starts_shorter (1 ∷ 2 ∷ 3 ∷ 4 ∷ []) front file starts (omega (arith, long)) all))
  head_wrong long (inr (inl (place, four, none))) = inr (inl (
    place,
    starts_longer (1 ∷ 2 ∷ 3 ∷ 4 ∷ []) front file starts four,
    λ closed all. none closed (starts_shorter (head_bytes closed) front file starts (omega (arith, long, long_head closed)) all),
  ))
  head_wrong long (inr (inr bad)) = absurd (bad.no_end (no_rest bad.closed bad.rest (omega (arith, ap length bad.is, long, length-append (log_bytes bad.closed bad.items) bad.rest, log_long bad.closed bad.items))))
    where
      no_rest : (closed : Bool) (rest : List ℕ) → length rest ≡ 0 → IsEnd closed rest
      no_rest true [] none = refl
      no_rest false [] none = nothing_starts_none
      no_rest closed (x ∷ rest) none = absurd (omega (arith, none))

-- a head that is wrong in front of what was read is wrong in the file, at the same place
wrong_head : (file bytes front : List ℕ) (k at : ℕ) → front ≡ take k bytes → k ≡ min (length bytes) 8 → StartsWith bytes file → min (length file) 8 ≤ length bytes → IsBadAt front at → IsBadAt file at
wrong_head file bytes front k at is most starts enough bad = elim (cases_lt (length bytes) 8) [
  | inl short ↦
      let same : front ≡ file = is ∙ take_all k bytes (omega (arith, most)) ∙ all_read bytes file (omega (arith, short, enough)) starts in subst (λ b. IsBadAt b at) same bad
  | inr long ↦ head_wrong file front (starts_longer front bytes file starts (drop k bytes, sym (take-append-drop k bytes) ∙ ap (λ b. b ++ drop k bytes) (sym is))) at
      (ap length is ∙ length-take-le k bytes (omega (arith, most)) ∙ omega (arith, most, long)) bad
]

-- ---- a file

pub file_there : (past : Past) (name : List ℕ) (r : Result (Option ℕ) DiskErr) (t : Result (Option ℕ) LogErr) (o : Option ℕ) (len : ℕ) → t ≡ told name r → t ≡ Ok o → o ≡ Some len
    → IfOk r (λ n. n ≡ option_map length (reads past name)) → Has past name (λ file. len ≡ length file)
file_there past name r t o len told_so ok some lens = go (reads past name) refl (sym some ∙ subst (λ a. IfOk a (λ n. n ≡ option_map length (reads past name))) (told_ok name r o (sym told_so ∙ ok)) lens)
  where
    go : (found : Option (List ℕ)) → reads past name ≡ found → Some len ≡ option_map length (reads past name) → Has past name (λ file. len ≡ length file)
    go None is size = let both : Some len ≡ None = size ∙ ap (option_map length) is in absurd (cc both)
    go (Some file) is size = let both : Some len ≡ Some (length file) = size ∙ ap (option_map length) is in (file, is, cc both)

starts_nothing : (first file : List ℕ) → first ≡ [] → StartsWith first file
starts_nothing first file none = (file, ap (λ z. z ++ file) (sym none))

module _ (old mid : Past) (name first bytes : List ℕ) (len : ℕ) (same : mid ≡ old) (none : first ≡ []) (part : (file : List ℕ) → reads mid name ≡ Some file → StartsWith first file → StartsWith bytes file) where
  starts : (file : List ℕ) → reads old name ≡ Some file → StartsWith bytes file
  starts file here = part file (ap (λ p. reads p name) same ∙ here) (starts_nothing first file none)

  pub wrong_file : (lent : List ℕ) (least head at : ℕ) → Has old name (λ file. len ≡ length file) → least ≡ min len 8 → least ≤ length bytes → lent ≡ bytes → head ≡ min (length bytes) 8 → IsBadAt (take head lent) at
      → Has old name (λ file. IsBadAt file at)
  wrong_file lent least head at (file, here, size) least_is enough lent_is head_is bad =
      (file, here, wrong_head file bytes (take head lent) head at (ap (λ (z : List ℕ). take head z) lent_is) head_is (starts file here) (omega (arith, size, least_is, enough)) bad)

  pub whole_read : (after : Past) (more : List ℕ) → Has old name (λ file. len ≡ length file) → after ≡ mid → len ≤ length more
      → ((file : List ℕ) → reads after name ≡ Some file → StartsWith bytes file → StartsWith more file) → Some more ≡ reads old name
  whole_read after more (file, here, size) same_after enough further =
      ap (λ b. Some b) (all_read more file (omega (arith, size, enough)) (further file (ap (λ p. reads p name) (same_after ∙ same) ∙ here) (starts file here))) ∙ sym here

-- bytes in which no items were found
pub refused : {V S : Type 0} (items : V → List ℕ) (found : Option V) (v : V) (file : Option (List ℕ)) (lent name : List ℕ) (r : Result S LogErr) (t : Result (Option FileRead) LogErr) (e f : LogErr) → t ≡ Err f → f ≡ e
    → r ≡ Err e → found ≡ Some v → option_map items found ≡ file → lent ≡ items v → ((other : List ℕ) (at : ℕ) → IsErrOf r (Bad other at) → (other ≡ name) × IsBadAt lent at) → (IsErrOf r TooLong → ⊥) → HasRead t file
refused items found v file lent name r t e f is same was some read lent_is bad never = subst (λ a. HasRead a file) (sym (is ∙ ap (λ x. Err x) same)) (go e was)
  where
    go : (e : LogErr) → r ≡ Err e → HasRead (Err e) file
    go (File other) was = tt
    go (Bad other at) was = (items v, sym read ∙ ap (option_map items) some, subst (λ b. IsBadAt b at) lent_is (bad other at was).1)
    go TooLong was = absurd (never was)
    go LogErr.Memory was = tt

-- ---- the items and their places

-- each item has a header
wire_long : (items : List (List ℕ)) → 16 * length items ≤ length (wire items)
wire_long [] = omega arith
wire_long (item ∷ items) = omega (arith, wire_long items, length-append (item_bytes item) (wire items), length-item_bytes item)

module _ (bytes : List ℕ) (scan : Scan) (w : IsScan bytes scan) where
  found : map (content_at bytes) scan.items.items ≡ w.items
  found = ap (map (content_at bytes)) w.spans ∙ contents_of_file bytes w.items (not scan.was_open, w.file)

  pub was_read : IsRead (record { bytes = bytes; was_open = scan.was_open; items = map (content_at bytes) scan.items.items })
  was_read = subst (λ items. IsFile (not scan.was_open) items bytes) (sym found) w.file

  long_file : 8 + length (wire w.items) ≤ length bytes
  long_file = omega (arith, ap length w.file.is, length-append (log_bytes (not scan.was_open) w.items) w.file.rest, length-append (head_bytes (not scan.was_open)) (wire w.items), long_head (not scan.was_open))

-- where a span stands, and that it is within
span_at : (from : ℕ) (items : List (List ℕ)) (n : ℕ) (span : Span) → slice_get (spans_from from items) n ≡ Some span
    → (span.at ≡ from + length (wire (take n items))) × (span.start + span.len ≤ from + length (wire items))
span_at from [] n span is = cc is
span_at from (item ∷ items) zero span is =
    let same : span_of from item ≡ span = cc is in
    subst (λ (s : Span). (s.at ≡ from + 0) × (s.start + s.len ≤ from + length (item_bytes item ++ wire items))) same
    (omega arith, omega (arith, length-append (item_bytes item) (wire items), length-item_bytes item, length-header item))
span_at from (item ∷ items) (suc n) span is =
    let r = span_at (from + length (item_bytes item)) items n span is in
    (omega (arith, r.0, length-append (item_bytes item) (wire (take n items))), omega (arith, r.1, length-append (item_bytes item) (wire items)))

module _ (bytes : List ℕ) (scan : Scan) (w : IsScan bytes scan) (read : FileRead) (is : record { bytes = bytes; was_open = scan.was_open; items = map (content_at bytes) scan.items.items } ≡ read) where
  items_are : read.items ≡ w.items
  items_are = ap (λ (r : FileRead). r.items) (sym is) ∙ found bytes scan w

  -- the bytes behind the head, up to the last item's end
  pub items_between : (lent : List ℕ) → lent ≡ bytes → take (scan.whole - 8) (drop 8 lent) ≡ wire read.items
  items_between lent same =
      let behind : bytes ≡ head_bytes (not scan.was_open) ++ (wire w.items ++ w.file.rest) = w.file.is ∙ append_assoc (head_bytes (not scan.was_open)) (wire w.items) w.file.rest in
      ap (λ (b : List ℕ). take (scan.whole - 8) (drop 8 b)) (same ∙ behind)
      ∙ ap (λ (b : List ℕ). take (scan.whole - 8) b) (drop_at (head_bytes (not scan.was_open)) (wire w.items ++ w.file.rest) 8 (long_head (not scan.was_open)))
      ∙ take_at (wire w.items) w.file.rest (scan.whole - 8) (omega (arith, w.whole, length-append (head_bytes (not scan.was_open)) (wire w.items), long_head (not scan.was_open)))
      ∙ ap wire (sym items_are)

  module _ (n : ℕ) (within : n < length read.items) (span : Span) (here : span ≡ get_or scan.items.items n span) where
    span_here : slice_get scan.items.items n ≡ Some span
    span_here =
        let low : n < length scan.items.items = omega (arith, within, ap (λ (r : FileRead). length r.items) is, length-map scan.items.items (content_at bytes)) in
        slice_get-get_or scan.items.items n span low ∙ ap (λ (s : Span). Some s) (sym here)

    at_place : (span.at ≡ 8 + length (wire (take n w.items))) × (span.start + span.len ≤ 8 + length (wire w.items))
    at_place = span_at 8 w.items n span (ap (λ (spans : List Span). slice_get spans n) (sym w.spans) ∙ span_here)

    pub content_within : span.start + span.len ≤ length bytes
    content_within = omega (arith, at_place.1, long_file bytes scan w)

    pub place_is : span.at ≡ 8 + length (wire (take n read.items))
    place_is = at_place.0 ∙ ap (λ items. 8 + length (wire (take n items))) (sym items_are)

    pub content_is : (lent : List ℕ) → lent ≡ bytes → slice_get read.items n ≡ Some (take ((span.start + span.len) - span.start) (drop span.start lent))
    content_is lent same =
        ap (λ (r : FileRead). slice_get r.items n) (sym is)
        ∙ slice_get-map (content_at bytes) scan.items.items n
        ∙ ap (option_map (content_at bytes)) span_here
        ∙ ap (λ (k : ℕ). Some (take k (drop span.start bytes))) (omega arith)
        ∙ ap (λ b. Some (take ((span.start + span.len) - span.start) (drop span.start b))) (sym same)
