use Rattle.store_files.proofs.TermTexts.{refused}
use Rattle.store_files.proofs.texts.term_of.Goals as goal

pub returns-in-Err : goal.returns-in-Err
returns-in-Err c = refused _ _ _ c.in-Err.ensures.only c.no_term.ensures
