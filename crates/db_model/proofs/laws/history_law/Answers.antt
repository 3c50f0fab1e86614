use Rattle.db_model.proofs.Histories.{take_both, take_first, take_others, taken_behind, lawful_first, all_can, all_same, all_sound}
use Rattle.db_model.proofs.laws.history_law.Goals as goal

pub returns : goal.returns
returns c = record {
  parts = λ some more database. (
    λ x. (take_first some more database x, take_others some more database x),
    λ x. take_both some more database x.0 x.1,
  );
  behind = taken_behind;
  lawful = lawful_first;
  can = all_can;
  same = all_same;
  sound = all_sound;
}
