use Rattle.std.proofs.Common.{◌≡◌, ◌≢◌, ℕ, ◌<◌, true, List, [], ◌∷◌, ◌++◌, length, get_or, take, drop, suc, Option, Some, None, refl, sym, ◌∙◌, subst, add-one, arith}
use Rattle.std.specs.Prelude.{MatchOption}
use Rattle.std.proofs.lemmas.Bool.Decides.{nat_tests}
use Rattle.std.proofs.lemmas.List.{get_or-take, length-take}
use Rattle.std.proofs.Math.Seq.{split_at}
use Rattle.memchr.specs.Find.{IsFirstByte, is_byte}
use Rattle.mn_run.specs.Reading.{has_no_end, EndsAt}
use Rattle.mn_run.proofs.lines.end_of.Goals as goal

none_ends : (bytes : List ℕ) → ((k : ℕ) → k < length bytes → is_byte 10 (get_or bytes k 0) ≡ true → ⊥) → has_no_end bytes ≡ true
none_ends [] none = refl
none_ends (x ∷ bytes) none =
    let first : x ≢ 10 = λ is. none 0 (omega arith) (grind (arith, nat_tests)) in
    let later = none_ends bytes (λ k lt. none (suc k) (omega (arith, lt))) in
    grind (arith, nat_tests)

found_end : (bytes : List ℕ) (r : Option ℕ) → IsFirstByte (is_byte 10) bytes r
    → MatchOption r (has_no_end bytes ≡ true) (λ n. EndsAt bytes n)
found_end bytes None h = none_ends bytes (λ k lt. h k (omega arith) lt)
found_end bytes (Some n) (first, is) =
    let byte : get_or bytes n 0 ≡ 10 = grind (arith, nat_tests) in
    record {
      within = first.high;
      front = none_ends (take n bytes)
          (λ k lt. let before : k < n = omega (arith, length-take n bytes, lt) in
          subst (λ x. is_byte 10 x ≡ true → ⊥) (sym (get_or-take n bytes k 0 before)) (first.before k (omega arith) before));
      whole = split_at bytes n 0 first.high
          ∙ (λ i. take n bytes ++ byte i ∷ drop (sym (add-one n) i) bytes);
    }

pub returns : goal.returns
returns c = found_end c.args.bytes.now c.memchr.result c.memchr.ensures
