-- Parts of what was read.
use Rattle.std.proofs.Common.{◌≡◌, ℕ, ◌+◌, ◌-◌, ◌≤◌, List, ◌∷◌, ◌++◌, length, take, drop, length-drop, sym, ap, ◌∙◌, arith}
use Rattle.std.specs.Prelude.{slice_range}
use Rattle.std.proofs.lemmas.List.{drop-take, drop-drop, length-take-le, length-take}
use Rattle.mn_run.specs.declared.lines.TheConstants.{MOST_LINE, PIECE}
use Rattle.mn_run.specs.Reading.{EndsAt, Ended}

pub later_part : (piece : List ℕ) (from to n : ℕ) → from + n + 1 ≤ to
    → drop (n + 1) (slice_range piece from to) ≡ slice_range piece (from + n + 1) to
later_part piece from to n le =
    let e : to - from ≡ (n + 1) + (to - (from + n + 1)) = omega arith in
    let f : from + (n + 1) ≡ from + n + 1 = omega arith in
    ap (λ m. drop (n + 1) (take m (drop from piece))) e ∙ drop-take (n + 1) (to - (from + n + 1)) (drop from piece)
    ∙ ap (take (to - (from + n + 1))) (drop-drop (n + 1) from piece ∙ ap (λ m. drop m piece) f)

pub part_ended : (piece line new self : List ℕ) (from to n : ℕ) → slice_range piece from to ≡ self → from ≤ to → to ≤ length piece
    → EndsAt (slice_range piece from to) n
    → new ≡ line ++ take n (slice_range piece from to) → length new ≤ MOST_LINE → Ended line new self (slice_range piece (from + n + 1) to)
part_ended piece line new self from to n is le within ends new_is short =
    let size : length (slice_range piece from to) ≡ to - from =
    length-take-le (to - from) (drop from piece) (omega (arith, length-drop from piece))
    in
    let fits : from + n + 1 ≤ to = omega (arith, ends.within, size) in
    record {
      part = take n (slice_range piece from to);
      line = new_is;
      none = ends.front;
      rest = sym is ∙ ends.whole ∙ ap (λ xs. take n (slice_range piece from to) ++ 10 ∷ xs) (later_part piece from to n fits);
      short = short;
    }

pub few : (piece self : List ℕ) (from to : ℕ) → slice_range piece from to ≡ self → to ≤ PIECE → length self ≤ PIECE
few piece self from to is le = omega (arith, ap length is, length-take (to - from) (drop from piece))
