use Rattle.std.proofs.Common.{ap}
use Rattle.std.proofs.lemmas.Result.{IfOk-weaker}
use Rattle.term_core.specs.View.{tree_of}
use Rattle.table_query.specs.Values.{values_of}
use Rattle.table_query.proofs.Told.{found_is, found_test}
use Rattle.table_query.proofs.matching.matches.Goals as goal

pub returns-clause-matches : goal.returns-clause-matches
returns-clause-matches c =
    IfOk-weaker c.match_term.result _ _
    (λ found is. found_is (tree_of c.args.pattern.now) (tree_of c.args.rec.now) found _ _ (ap values_of c.new-values.ensures.items) is)
    c.match_term.ensures.values

pub returns-clause-test : goal.returns-clause-test
returns-clause-test c =
    IfOk-weaker c.match_term.result _ _
    (λ found is. found_test (tree_of c.args.pattern.now) (tree_of c.args.rec.now) found _ _ (ap values_of c.new-values.ensures.items) is)
    c.match_term.ensures.values
