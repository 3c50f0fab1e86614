use Rattle.std.proofs.Common.{rules, ◌≡◌, ◌↔◌}
use Rattle.std.specs.Prelude.{IsTrue}
use Rattle.term_core.proofs.Texts.{is_by_order}
use Rattle.term_core.proofs.atom.AtomPartialEq.eq.Goals as goal

pub returns-clause-by_order : goal.returns-clause-by_order
returns-clause-by_order c =
    let same : IsTrue c.eq.result ↔ (c.args.self.now ≡ c.args.other.now) = search rules in
    is_by_order _ _ _ same
