use Rattle.std.proofs.Common.{None, true, refl, sym, ◌∙◌}
use Rattle.txn_writes.proofs.Nexts.{first_is, all_pass}
use Rattle.txn_writes.proofs.key_places.KeyPlaces.first_key.Goals as goal

pub returns-in-Some-clause-next : goal.returns-in-Some-clause-next
returns-in-Some-clause-next c =
    (first_is (λ entry. true) None (λ entry. refl) c.args.self.now.keys.entries c.iter.ensures.ordered c.in-Some.key.now _ _
    (all_pass c.args.self.now.keys.entries ∙ sym c.iter.ensures.rest ∙ c.in-Some.ensures.steps)).next

pub returns-in-Some-clause-one_of : goal.returns-in-Some-clause-one_of
returns-in-Some-clause-one_of c =
    (first_is (λ entry. true) None (λ entry. refl) c.args.self.now.keys.entries c.iter.ensures.ordered c.in-Some.key.now _ _
    (all_pass c.args.self.now.keys.entries ∙ sym c.iter.ensures.rest ∙ c.in-Some.ensures.steps)).one_of
