-- The items that are found in what a crash leaves of an open log.
use Rattle.std.proofs.Common.{◌≡◌, inl, inr, ℕ, suc, ◌+◌, ◌≤◌, Bool, true, false, List, [], ◌∷◌, ◌++◌, length, take, drop, refl, sym, ap}
use Rattle.std.proofs.Common.{◌∙◌, subst, arith, append_assoc, length-append, length-drop}
use Rattle.std.proofs.Math.Seq.{take-add}
use Rattle.std.proofs.lemmas.List.{append-nil, take-append-drop, take_all}
use Rattle.std.proofs.lemmas.List.Elements.{All-head, All-tail, All-take, All-drop}
use Rattle.file_trait.specs.Guard.{IsGuarded, StandsAt}
use Rattle.log_items.specs.Items.{item_bytes, IsContent}
use Rattle.log_items.specs.Items.{wire, log_bytes, AreContents, StartsWith, StartsNoItem, IsEnd, IsFile, HasItems}
use Rattle.disk_logs.specs.Crash.{HasPrefix}
use Rattle.log_items.proofs.ItemLemmas.{same_front, same_item, log_bytes-append, long, item_or_none, nothing_starts_none}

-- each whole item that stands in the bytes, behind the head, stands at that place of the other
abbrev pub StandsIn : List ℕ → List ℕ → Type 0
StandsIn whole bytes = (n : ℕ) (item : List ℕ) → 8 ≤ n → IsGuarded item → StandsAt bytes n item → StandsAt whole n item

-- the first ones of some items stand in front, and behind them no item
pub record Run (todo : List (List ℕ)) (rest : List ℕ) : Type 0 where
  pub n : ℕ
  pub short : n ≤ length todo
  pub end : List ℕ
  pub none : StartsNoItem end
  pub is : rest ≡ wire (take n todo) ++ end

-- an item that stands in front stands in front of what was written
written_here : (front rest : List ℕ) (todo : List (List ℕ)) (content after : List ℕ) → 8 ≤ length front → IsContent content
    → StandsIn (front ++ wire todo) (front ++ rest) → rest ≡ item_bytes content ++ after
    → StartsWith (item_bytes content) (wire todo)
written_here front rest todo content after low fits told is =
    let here : StandsAt (front ++ wire todo) (length front) (item_bytes content) =
    told (length front) (item_bytes content) low (content, fits, refl) (front, after, refl, ap (λ b. front ++ b) is) in
    (here.1, (same_front front here.0 (wire todo) (item_bytes content ++ here.1) (sym here.2) here.3).1)

-- nothing further was written
at_end : (front rest : List ℕ) → 8 ≤ length front → StandsIn (front ++ []) (front ++ rest) → Run [] rest
at_end front rest low told = elim (item_or_none rest) [
  | inl (content, fits, (after, is)) ↦ absurd (nothing_starts_none content fits (written_here front rest [] content after low fits told is))
  | inr none ↦ record { n = 0; short = omega arith; end = rest; none = none; is = refl }
]

pub run : (front rest : List ℕ) (todo : List (List ℕ)) → 8 ≤ length front → AreContents todo
    → StandsIn (front ++ wire todo) (front ++ rest) → Run todo rest
run front rest [] low fit told = at_end front rest low told
run front rest (item ∷ todo) low fit told = elim (item_or_none rest) [
  | inr none ↦ record { n = 0; short = omega arith; end = rest; none = none; is = refl }
  | inl (content, fits, (after, is)) ↦
      found content after fits is
      (run (front ++ item_bytes item) after todo (omega (arith, low, length-append front (item_bytes item)))
      (All-tail IsContent item todo fit) (further content after fits is))
]
  where
    same : (content after : List ℕ) → IsContent content → rest ≡ item_bytes content ++ after → content ≡ item
    same content after fits is =
        let here : StartsWith (item_bytes content) (item_bytes item ++ wire todo) =
        written_here front rest (item ∷ todo) content after low fits told is in
        (same_item content item here.0 (wire todo) fits (All-head IsContent item todo fit) (sym here.1)).0

    further : (content after : List ℕ) → IsContent content → rest ≡ item_bytes content ++ after
        → StandsIn ((front ++ item_bytes item) ++ wire todo) ((front ++ item_bytes item) ++ after)
    further content after fits is n part far guarded at =
        let there : (front ++ item_bytes item) ++ after ≡ front ++ rest =
        append_assoc front (item_bytes item) after ∙ ap (λ c. front ++ (item_bytes c ++ after)) (sym (same content after fits is))
        ∙ ap (λ b. front ++ b) (sym is) in
        subst (λ b. StandsAt b n part) (sym (append_assoc front (item_bytes item) (wire todo)))
        (told n part far guarded (subst (λ b. StandsAt b n part) there at))

    found : (content after : List ℕ) → IsContent content → rest ≡ item_bytes content ++ after → Run todo after → Run (item ∷ todo) rest
    found content after fits is more = record {
      n = suc more.n;
      short = omega (arith, more.short);
      end = more.end;
      none = more.none;
      is = is ∙ ap (λ c. item_bytes c ++ after) (same content after fits is) ∙ ap (λ b. item_bytes item ++ b) more.is
          ∙ sym (append_assoc (item_bytes item) (wire (take more.n todo)) more.end);
    }

-- ---- the first ones of some items

pub log_split : (closed : Bool) (items : List (List ℕ)) (n : ℕ)
    → log_bytes closed items ≡ log_bytes closed (take n items) ++ wire (drop n items)
log_split closed items n =
    ap (λ xs. log_bytes closed xs) (sym (take-append-drop n items)) ∙ log_bytes-append closed (take n items) (drop n items)

-- where the synced ones stand in front, and what stands further on was written
pub open_prefix : (items : List (List ℕ)) (synced : ℕ) (bytes : List ℕ) → AreContents items → synced ≤ length items
    → StartsWith (log_bytes false (take synced items)) bytes → StandsIn (log_bytes false items) bytes
    → HasPrefix items synced bytes
open_prefix items synced bytes fit within (rest, is) told =
    let front : List ℕ = log_bytes false (take synced items) in
    let r : Run (drop synced items) rest =
    run front rest (drop synced items) (long false (take synced items)) (All-drop IsContent synced items fit)
    (λ n part low guarded at. subst (λ b. StandsAt b n part) (log_split false items synced)
    (told n part low guarded (subst (λ b. StandsAt b n part) (sym is) at))) in
    let all : bytes ≡ log_bytes false (take (synced + r.n) items) ++ r.end =
    is ∙ ap (λ b. front ++ b) r.is ∙ sym (append_assoc front (wire (take r.n (drop synced items))) r.end)
    ∙ ap (λ b. b ++ r.end) (sym (log_bytes-append false (take synced items) (take r.n (drop synced items))))
    ∙ ap (λ xs. log_bytes false xs ++ r.end) (sym (take-add synced r.n items)) in (
      synced + r.n,
      omega arith,
      omega (arith, r.short, within, length-drop synced items),
      (false, record { rest = r.end; fit = All-take IsContent (synced + r.n) items fit; end = r.none; is = all }),
    )

pub written : (closed : Bool) (items : List (List ℕ)) → AreContents items → IsFile closed items (log_bytes closed items)
written closed items fit =
    record {
      rest = [];
      fit = fit;
      end = elim closed as (λ c. IsEnd c []) [ true ↦ refl | false ↦ nothing_starts_none ];
      is = sym (append-nil (log_bytes closed items));
    }

pub has_all : (closed : Bool) (items : List (List ℕ)) → AreContents items → HasPrefix items (length items) (log_bytes closed items)
has_all closed items fit = (
  length items,
  omega arith,
  omega arith,
  subst (HasItems (log_bytes closed items)) (sym (take_all (length items) items (omega arith))) (closed, written closed items fit),
)

pub has_fewer : (items : List (List ℕ)) (least less : ℕ) (bytes : List ℕ) → less ≤ least → HasPrefix items least bytes
    → HasPrefix items less bytes
has_fewer items least less bytes le (n, low, high, is) = (n, omega (arith, le, low), high, is)
