use Rattle.std.proofs.Common.{◌≡◌, ℕ, ◌+◌, List, [], ◌∷◌, ◌++◌, length, take, refl, sym, ap, ◌∙◌, arith, length-append}
use Rattle.std.proofs.lemmas.List.{take_at}
use borrow.Rule.Slice.PartMut.{put_mid}
use Rattle.std.proofs.lemmas.Slice.{take-put_mid}
use Rattle.disk_logs.specs.Logs.{draft_name as name_of_draft}
use Rattle.disk_logs.proofs.log.with_tmp.Goals as goal

laid : (a k : ℕ) (bytes front back end : List ℕ) → front ≡ bytes → end ≡ 84 ∷ 77 ∷ 80 ∷ [] → a ≡ length bytes → take (a + 3) (put_mid a k (front ++ back) end) ≡ name_of_draft bytes
laid a k bytes front back end is tmp len =
    take-put_mid a k (front ++ back) end (a + 3) (omega (arith, ap length tmp)) (omega (arith, length-append front back, ap length is))
    ∙ ap (λ z. z ++ end) (take_at front back a (sym (len ∙ ap length (sym is))) ∙ is) ∙ ap (λ z. bytes ++ z) tmp

pub returns : goal.returns
returns c = laid _ _ _ _ _ _ c.copy_from_slice.ensures.after c.copy_from_slice-2.ensures.after refl
