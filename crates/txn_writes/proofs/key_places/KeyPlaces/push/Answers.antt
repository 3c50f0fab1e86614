use Rattle.std.proofs.Common.{◌≡◌, List, ℕ, ◌++◌, ◌∷◌, [], ap, ◌∙◌, rules}
use Rattle.std.specs.Prelude.{unwrap_or}
use Rattle.std.proofs.lemmas.Result.{on_ok_weaker, on_err_weaker}
use Rattle.term_core.specs.View.{tree_of}
use Rattle.txn_writes.specs.Places.{key_places}
use Rattle.txn_writes.proofs.Noted.{key_noted, key_kept}
use Rattle.txn_writes.proofs.key_places.KeyPlaces.push.Goals as goal

pub returns-clause-ok : goal.returns-clause-ok
returns-clause-ok c =
    let same = c.in_ok-copied_term.ensures in
    let put = c.in_ok-entry.ensures.update.1 c.push.new.self in
    let there = c.in_ok-entry.ensures.value in
    let was : c.or_insert.result.now ≡ key_places (tree_of c.args.key.now) c.args.self.now =
    c.or_insert.ensures.value ∙ (λ i. unwrap_or ((rw same at there) i) (c.new.ensures i)) in
    on_ok_weaker c.push.result
    (λ pushed. key_noted c.args.self.now.keys.entries _ c.args.key.now c.push.new.self
    (search (rules, put, same)) c.args.place (pushed ∙ ap (λ (places : List ℕ). places ++ c.args.place ∷ []) was))
    c.push.ensures.ok

pub returns-clause-err : goal.returns-clause-err
returns-clause-err c =
    let same = c.in_ok-copied_term.ensures in
    let put = c.in_ok-entry.ensures.update.1 c.push.new.self in
    let there = c.in_ok-entry.ensures.value in
    let was : c.or_insert.result.now ≡ key_places (tree_of c.args.key.now) c.args.self.now =
    c.or_insert.ensures.value ∙ (λ i. unwrap_or ((rw same at there) i) (c.new.ensures i)) in
    on_err_weaker c.push.result
    (λ stayed. key_kept c.args.self.now.keys.entries _ c.args.key.now c.push.new.self
    (search (rules, put, same)) (stayed ∙ was))
    c.push.ensures.err
