use Rattle.std.proofs.Common.{◌≡◌, drop}
use Rattle.file_mem.specs.Choice.{taken_in}
use Rattle.file_mem.proofs.choice.taken_of.Given as goal

abbrev pub invariant-loop-file : goal.invariant-loop-file
invariant-loop-file l = taken_in (drop l.file-index l.choice.own.items) l.choice.others l.name ≡ taken_in l.choice.own.items l.choice.others l.name
