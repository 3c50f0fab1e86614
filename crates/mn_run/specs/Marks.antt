-- The marks of a run, and how they are kept.
use Rattle.std.specs.Prelude.{ℕ, zero, suc, ◌+◌, ◌*◌, ◌<◌, ◌^◌, List, [], ◌∷◌, ◌++◌}
use Rattle.mn_run.specs.declared.outcome.Mark.{Mark}

-- marks as contracts see them
pub record MarkList : Type 0 where
  pub items : List Mark

-- the mark behind so many steps, where a step is said as what it adds
abbrev pub behind : Mark → Mark → ℕ → Mark
behind first step n = record {
  clock = first.clock + n * step.clock;
  done = first.done + n * step.done;
  entries = first.entries + n * step.entries;
  synced = first.synced + n * step.synced;
  faults = first.faults + n * step.faults;
  wants = first.wants + n * step.wants;
}

-- so many marks, each a step behind the one before
abbrev pub stretch : Mark → Mark → ℕ → List Mark
stretch first step zero = []
stretch first step (suc n) = stretch first step n ++ behind first step n ∷ []

abbrev pub joined : List (List Mark) → List Mark
joined [] = []
joined (marks ∷ others) = marks ++ joined others

-- each count has 64 bits
pub record IsShort (mark : Mark) : Type 0 where
  pub clock : mark.clock < 2 ^ 64
  pub done : mark.done < 2 ^ 64
  pub entries : mark.entries < 2 ^ 64
  pub synced : mark.synced < 2 ^ 64
  pub faults : mark.faults < 2 ^ 64
  pub wants : mark.wants < 2 ^ 64
