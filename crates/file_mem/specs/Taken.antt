-- What is left of a file's pending operations.
use Rattle.std.specs.Prelude.{ℕ, min, if◌then◌else◌, List, ◌++◌, length, take, replicate, nat_eq, nat_lt, slice_index_or, false}
use Rattle.file_trait.specs.DiskModel.{FileOp, append, mark, cut, changed}
use Rattle.file_mem.specs.declared.choice.Tail.{Tail}
use Rattle.file_mem.specs.declared.choice.Tail.TheVariants.{Front, Fill, Given}
use Rattle.file_mem.specs.declared.choice.Effect.{Effect}
use Rattle.file_mem.specs.declared.choice.Taken.{Taken}
use Rattle.file_mem.specs.declared.choice.Taken.TheVariants as taken

-- what stands in place of an append's bytes
abbrev pub tail_of : Tail → List ℕ → List ℕ
tail_of (Front count) bytes = take count bytes
tail_of (Fill byte count) bytes = replicate (min count (length bytes)) byte
tail_of (Given other) bytes = other.items

-- the bytes after what is left of one operation is done
abbrev pub part_done : Effect → FileOp → List ℕ → List ℕ
part_done effect (append bytes) old = old ++ tail_of effect.tail bytes
part_done effect (mark four) old = if effect.done then changed (mark four) old else old
part_done effect (cut len) old = if effect.done then changed (cut len) old else old

-- the same of the operation with this number
abbrev pub left_after : Taken → FileOp → ℕ → List ℕ → List ℕ
left_after (taken.Front ops bytes) op number old =
    if nat_lt number ops then changed op old
    else if nat_eq number ops then part_done (record { done = false; tail = Front bytes }) op old
    else old
left_after (taken.Each first later) op number old = part_done (slice_index_or first.items number later) op old
