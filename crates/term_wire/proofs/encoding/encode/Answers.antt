use Rattle.std.proofs.Common.{rules, ◌≡◌, ◌≤◌, ◌^◌, length, false}
use Rattle.std.specs.Prelude.{is_err}
use Rattle.term_core.specs.Tree.{depth}
use Rattle.term_core.specs.View.{tree_of}
use Rattle.term_core.specs.Written.{canon}
use Rattle.term_wire.proofs.Added.{held}
use Rattle.term_wire.proofs.Law.{written_text}
use Rattle.term_wire.proofs.encoding.encode.Goals as goal

pub returns-clause-spells : goal.returns-clause-spells
returns-clause-spells c =
    let done : is_err c.put_text.result ≡ false = search rules in
    let deep : depth (tree_of c.args.term.now) ≤ 128 = search rules in
    let short : length (canon (tree_of c.args.term.now)) ≤ 2 ^ 28 = search rules in
    written_text (tree_of c.args.term.now) (held c.put_text.result c.put_text.ensures.kept done) deep short
