use Rattle.std.proofs.Common.{◌≡◌, ◌+◌, ◌≤◌, length, reverse, vec_len, vec_capacity}
use Rattle.ram_table.specs.Inside.Pages.{joined, IsPaged}
use Rattle.ram_table.specs.Inside.Steps.{all_done, HaveRoom}
use Rattle.ram_table.proofs.table.do_steps.Given as goal

abbrev pub invariant-loop-step : goal.invariant-loop-step
invariant-loop-step l = record {
  paged : IsPaged l.kind l.pages.items;
  counted : l.count ≡ length (joined l.pages.items);
  made_for : HaveRoom l.kind (joined l.pages.items) (reverse l.steps.items);
  done : all_done l.kind (joined l.pages.items) (reverse l.steps.items) ≡ all_done l.kind (joined l.fn.pages.items) l.fn.steps.items;
  at_most : l.count + vec_len l.steps ≤ l.initial.count + vec_len l.fn.steps;
  capacity : vec_capacity l.pages ≡ vec_capacity l.fn.pages;
}

abbrev pub decreases-loop-step : goal.decreases-loop-step
decreases-loop-step l = vec_len l.steps
