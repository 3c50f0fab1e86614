-- A chosen image is one that a crash may leave.
use Rattle.std.proofs.Common.{◌≡◌, ◌⊎◌, inl, inr, ℕ, ◌+◌, ◌≤◌, min, Bool, true, false, if◌then◌else◌, List, [], ◌++◌, length, take, nat_lt, nat_eq, slice_index_or, Option, None, Some, option_map, unwrap_or, refl, sym, ap, ◌∙◌, subst, take_all, arith}
use Rattle.std.proofs.lemmas.Bool.{lt-ltb, ltb-true, eqb-true}
use Rattle.std.proofs.lemmas.List.{take_min}
use Rattle.file_trait.specs.DiskModel.{Past, handed, did, FileOp, append, mark, cut, to_file, to_dir, sync, sync_failed, sync_dir, FileId, clock, is_file, named, changed, content, reads, PartDone, WholeDone, FileLeaves, Redone, DirLeaves, IsImage}
use Rattle.file_trait.specs.PrefixModel.{PrefixDone, PrefixLeaves}
use Rattle.file_trait.proofs.Images.{whole, redone_leaves}
use Rattle.file_trait.proofs.Prefixes.{prefix_image}
use Rattle.file_trait.proofs.Names.{is_file_true, is_file_some}
use Rattle.file_mem.specs.Pending.{pending, doubtful, dir_pending}
use Rattle.file_mem.specs.Taken.{tail_of, part_done, left_after}
use Rattle.file_mem.specs.Chosen.{file_left, file_redone, IsFrontOf, dir_left}
use Rattle.file_mem.specs.Choice.{taken_of, taken_as, left_of, chosen, AreHonest, AreFronts}
use Rattle.file_mem.specs.declared.choice.Choice.{Choice}
use Rattle.file_mem.specs.declared.choice.Effect.{Effect}
use Rattle.file_mem.specs.declared.choice.Tail.TheVariants as tail
use Rattle.file_mem.specs.declared.choice.Taken.{Taken}
use Rattle.file_mem.specs.declared.choice.Taken.TheVariants.{Front, Each}
use Rattle.file_mem.proofs.Called.{called_named}
use Rattle.file_mem.proofs.Pending.{few_pending}

-- ---- each file is left by a crash, whatever is taken of it

effect_part : (effect : Effect) (op : FileOp) (old : List ℕ) → (part_done effect op old ≡ old) ⊎ PartDone op old (part_done effect op old)
effect_part effect (append bytes) old = inr (tail_of effect.tail bytes, refl)
effect_part effect (mark four) old = go effect.done
  where
    go : (b : Bool) → ((if b then changed (mark four) old else old) ≡ old) ⊎ ((if b then changed (mark four) old else old) ≡ changed (mark four) old)
    go true = inr refl
    go false = inl refl
effect_part effect (cut len) old = go effect.done
  where
    go : (b : Bool) → ((if b then changed (cut len) old else old) ≡ old) ⊎ ((if b then changed (cut len) old else old) ≡ changed (cut len) old)
    go true = inr refl
    go false = inl refl

left_part : (taken : Taken) (op : FileOp) (number : ℕ) (old : List ℕ) → (left_after taken op number old ≡ old) ⊎ PartDone op old (left_after taken op number old)
left_part (Each front later) op number old = effect_part (slice_index_or front.items number later) op old
left_part (Front ops bytes) op number old = go (nat_lt number ops) (nat_eq number ops)
  where
    torn : List ℕ
    torn = part_done (record { done = false; tail = tail.Front bytes }) op old

    go : (c d : Bool) → ((if c then changed op old else if d then torn else old) ≡ old) ⊎ PartDone op old (if c then changed op old else if d then torn else old)
    go true d = inr (whole op old)
    go false true = effect_part (record { done = false; tail = tail.Front bytes }) op old
    go false false = inl refl

whole_on : (op : FileOp) (old before : List ℕ) → WholeDone op old before (changed op before)
whole_on (append bytes) old before = (bytes, λ same. refl, refl)
whole_on (mark four) old before = refl
whole_on (cut len) old before = refl

-- this and the last contradict each other
either : {A : Type 0} (o : Option FileId) (i : FileId) → is_file o i ≡ false → o ≡ Some i → A
either o i other is = cc (other, is_file_some o i is)

-- what is taken of it, and what a sync makes of that
pub left_and_redone : (past : Past) (i : FileId) (taken : Taken) → FileLeaves past i (file_left past i taken) × Redone past i (file_redone past i taken)
left_and_redone (handed files) i taken = (refl, refl)
left_and_redone (did (to_dir op) past) i taken = left_and_redone past i taken
left_and_redone (did sync_dir past) i taken = left_and_redone past i taken
left_and_redone (did (sync name) past) i taken = let rest = left_and_redone past i taken in (go rest.0 rest.1 (is_file (named past name) i) refl, rest.1)
  where
    go : FileLeaves past i (file_left past i taken) → Redone past i (file_redone past i taken) → (b : Bool) → is_file (named past name) i ≡ b
        → FileLeaves (did (sync name) past) i (if b then file_redone past i taken else file_left past i taken)
    go left redone true is = (redone_leaves past i (file_redone past i taken) redone, λ at. redone)
    go left redone false is = (left, either (named past name) i is)
left_and_redone (did (sync_failed name) past) i taken = let rest = left_and_redone past i taken in (rest.0, go rest.0 rest.1 (is_file (named past name) i) refl)
  where
    go : FileLeaves past i (file_left past i taken) → Redone past i (file_redone past i taken) → (b : Bool) → is_file (named past name) i ≡ b
        → Redone (did (sync_failed name) past) i (if b then file_left past i taken else file_redone past i taken)
    go left redone true is = (λ at. left, λ not. absurd (not (is_file_true (named past name) i is)))
    go left redone false is = (either (named past name) i is, λ not. redone)
left_and_redone (did (to_file name op) past) i taken =
    let rest = left_and_redone past i taken in (one rest.0 (is_file (named past name) i) refl, all rest.1 (is_file (named past name) i) refl)
  where
    one : FileLeaves past i (file_left past i taken) → (b : Bool) → is_file (named past name) i ≡ b
        → FileLeaves (did (to_file name op) past) i (if b then left_after taken op (pending past i) (file_left past i taken) else file_left past i taken)
    one left true is = elim (left_part taken op (pending past i) (file_left past i taken)) [
      | inl none ↦ inl (subst (λ l. FileLeaves past i l) (sym none) left)
      | inr part ↦ inr (is_file_true (named past name) i is, (file_left past i taken, left, part))
    ]
    one left false is = inl left

    all : Redone past i (file_redone past i taken) → (b : Bool) → is_file (named past name) i ≡ b
        → Redone (did (to_file name op) past) i (if b then changed op (file_redone past i taken) else file_redone past i taken)
    all redone true is = (
      λ at. (file_redone past i taken, redone, whole_on op (content past i) (file_redone past i taken)),
      λ not. absurd (not (is_file_true (named past name) i is)),
    )
    all redone false is = (either (named past name) i is, λ not. redone)

pub left_is_left : (past : Past) (i : FileId) (taken : Taken) → FileLeaves past i (file_left past i taken)
left_is_left past i taken = (left_and_redone past i taken).0

-- ---- a front of what was done is one of the narrower model

-- where all that is pending is taken it is what the file reads as, and where all that is in doubt is taken a sync makes it so
in_step : (past : Past) (i : FileId) (ops bytes : ℕ)
    → (pending past i ≤ ops → file_left past i (Front ops bytes) ≡ content past i) × (doubtful past i ≤ ops → file_redone past i (Front ops bytes) ≡ content past i)
in_step (handed files) i ops bytes = (λ le. refl, λ le. refl)
in_step (did (to_dir op) past) i ops bytes = in_step past i ops bytes
in_step (did sync_dir past) i ops bytes = in_step past i ops bytes
in_step (did (sync name) past) i ops bytes = let rest = in_step past i ops bytes in (go rest.0 rest.1 (is_file (named past name) i), rest.1)
  where
    go : (pending past i ≤ ops → file_left past i (Front ops bytes) ≡ content past i) → (doubtful past i ≤ ops → file_redone past i (Front ops bytes) ≡ content past i)
        → (b : Bool) → (if b then doubtful past i else pending past i) ≤ ops → (if b then file_redone past i (Front ops bytes) else file_left past i (Front ops bytes)) ≡ content past i
    go left redone true le = redone le
    go left redone false le = left le
in_step (did (sync_failed name) past) i ops bytes = let rest = in_step past i ops bytes in (rest.0, go rest.0 rest.1 (is_file (named past name) i))
  where
    go : (pending past i ≤ ops → file_left past i (Front ops bytes) ≡ content past i) → (doubtful past i ≤ ops → file_redone past i (Front ops bytes) ≡ content past i)
        → (b : Bool) → (if b then pending past i else doubtful past i) ≤ ops → (if b then file_left past i (Front ops bytes) else file_redone past i (Front ops bytes)) ≡ content past i
    go left redone true le = left le
    go left redone false le = redone le
in_step (did (to_file name op) past) i ops bytes =
    let rest = in_step past i ops bytes in (one rest.0 (is_file (named past name) i), all rest.1 (is_file (named past name) i))
  where
    one : (pending past i ≤ ops → file_left past i (Front ops bytes) ≡ content past i) → (b : Bool) → (if b then pending past i + 1 else pending past i) ≤ ops
        → (if b then left_after (Front ops bytes) op (pending past i) (file_left past i (Front ops bytes)) else file_left past i (Front ops bytes))
        ≡ (if b then changed op (content past i) else content past i)
    one left true le =
        ap (λ c. if c then changed op (file_left past i (Front ops bytes)) else if nat_eq (pending past i) ops then part_done (record { done = false; tail = tail.Front bytes }) op (file_left past i (Front ops bytes)) else file_left past i (Front ops bytes))
        (lt-ltb (pending past i) ops (omega (arith, le)))
        ∙ ap (changed op) (left (omega (arith, le)))
    one left false le = left le

    all : (doubtful past i ≤ ops → file_redone past i (Front ops bytes) ≡ content past i) → (b : Bool) → doubtful past i ≤ ops
        → (if b then changed op (file_redone past i (Front ops bytes)) else file_redone past i (Front ops bytes)) ≡ (if b then changed op (content past i) else content past i)
    all redone true le = ap (changed op) (redone le)
    all redone false le = redone le

all_done : (op : FileOp) (old left : List ℕ) → left ≡ old → PrefixDone op old (changed op left)
all_done (append bytes) old left is = (length bytes, omega arith, ap (λ l. l ++ bytes) is ∙ ap (λ b. old ++ b) (sym (take_all (length bytes) bytes (omega arith))))
all_done (mark four) old left is = ap (changed (mark four)) is
all_done (cut len) old left is = ap (changed (cut len)) is

-- of an operation that is torn a front is done, or nothing
torn_front : (op : FileOp) (n : ℕ) (old left : List ℕ) → left ≡ old
    → (part_done (record { done = false; tail = tail.Front n }) op left ≡ left) ⊎ PrefixDone op old (part_done (record { done = false; tail = tail.Front n }) op left)
torn_front (append bytes) n old left is = inr (min n (length bytes), omega arith, ap (λ l. l ++ take n bytes) is ∙ ap (λ b. old ++ b) (sym (take_min n bytes)))
torn_front (mark four) n old left is = inl refl
torn_front (cut len) n old left is = inl refl

-- a file as it reads is left by a crash
read_left : (past : Past) (i : FileId) → PrefixLeaves past i (content past i)
read_left (handed files) i = refl
read_left (did (to_dir op) past) i = read_left past i
read_left (did sync_dir past) i = read_left past i
read_left (did (sync name) past) i = (read_left past i, λ is. refl)
read_left (did (sync_failed name) past) i = read_left past i
read_left (did (to_file name op) past) i = go (read_left past i) (is_file (named past name) i) refl
  where
    go : PrefixLeaves past i (content past i) → (b : Bool) → is_file (named past name) i ≡ b
        → PrefixLeaves (did (to_file name op) past) i (if b then changed op (content past i) else content past i)
    go rest true is = inr (is_file_true (named past name) i is, all_done op (content past i) (content past i) refl)
    go rest false is = inl rest

front_left : (past : Past) (i : FileId) (ops bytes : ℕ) → doubtful past i ≤ ops → PrefixLeaves past i (file_left past i (Front ops bytes))
front_left (handed files) i ops bytes le = refl
front_left (did (to_dir op) past) i ops bytes le = front_left past i ops bytes le
front_left (did sync_dir past) i ops bytes le = front_left past i ops bytes le
front_left (did (sync_failed name) past) i ops bytes le = go (λ le. front_left past i ops bytes le) (is_file (named past name) i) le
  where
    go : (doubtful past i ≤ ops → PrefixLeaves past i (file_left past i (Front ops bytes))) → (b : Bool) → (if b then pending past i else doubtful past i) ≤ ops
        → PrefixLeaves past i (file_left past i (Front ops bytes))
    go rest true le = subst (λ l. PrefixLeaves past i l) (sym ((in_step past i ops bytes).0 le)) (read_left past i)
    go rest false le = rest le
front_left (did (sync name) past) i ops bytes le = go (front_left past i ops bytes le) (is_file (named past name) i) refl
  where
    go : PrefixLeaves past i (file_left past i (Front ops bytes)) → (b : Bool) → is_file (named past name) i ≡ b
        → PrefixLeaves (did (sync name) past) i (if b then file_redone past i (Front ops bytes) else file_left past i (Front ops bytes))
    go rest true is =
        let now : file_redone past i (Front ops bytes) ≡ content past i = (in_step past i ops bytes).1 le in
        (subst (λ l. PrefixLeaves past i l) (sym now) (read_left past i), λ at. now)
    go rest false is = (rest, either (named past name) i is)
front_left (did (to_file name op) past) i ops bytes le =
    go (front_left past i ops bytes le) (is_file (named past name) i) refl (nat_lt (pending past i) ops) refl (nat_eq (pending past i) ops) refl
  where
    left : List ℕ
    left = file_left past i (Front ops bytes)

    torn : List ℕ
    torn = part_done (record { done = false; tail = tail.Front bytes }) op left

    go : PrefixLeaves past i left → (b : Bool) → is_file (named past name) i ≡ b → (c : Bool) → nat_lt (pending past i) ops ≡ c → (d : Bool) → nat_eq (pending past i) ops ≡ d
        → PrefixLeaves (did (to_file name op) past) i (if b then if c then changed op left else if d then torn else left else left)
    go rest true at true less d same =
        inr (is_file_true (named past name) i at, all_done op (content past i) left ((in_step past i ops bytes).0 (omega (arith, ltb-true (pending past i) ops less))))
    go rest true at false more true same =
        elim (torn_front op bytes (content past i) left ((in_step past i ops bytes).0 (omega (arith, eqb-true (pending past i) ops same)))) [
          | inl none ↦ inl (subst (λ l. PrefixLeaves past i l) (sym none) rest)
          | inr part ↦ inr (is_file_true (named past name) i at, part)
        ]
    go rest true at false more false other = inl rest
    go rest false at c less d same = inl rest

front_is_left : (past : Past) (i : FileId) (taken : Taken) → IsFrontOf past i taken → PrefixLeaves past i (file_left past i taken)
front_is_left past i (Front ops bytes) le = front_left past i ops bytes le
front_is_left past i (Each front later) never = absurd never

-- ---- the directory, and the whole image

pub dir_is_left : (past : Past) (count : ℕ) → DirLeaves past (named (dir_left past count))
dir_is_left (handed files) count = refl
dir_is_left (did sync_dir past) count = refl
dir_is_left (did (to_file name op) past) count = dir_is_left past count
dir_is_left (did (sync name) past) count = dir_is_left past count
dir_is_left (did (sync_failed name) past) count = dir_is_left past count
dir_is_left (did (to_dir op) past) count = go (dir_is_left past count) (nat_lt (dir_pending past) count)
  where
    go : DirLeaves past (named (dir_left past count)) → (b : Bool)
        → DirLeaves past (named (if b then did (to_dir op) past else dir_left past count)) ⊎ (named (if b then did (to_dir op) past else dir_left past count) ≡ named (did (to_dir op) past))
    go rest true = inr refl
    go rest false = inl rest

module _ (past : Past) (choice : Choice) (image : List ℕ → Option (List ℕ)) (h : (name : List ℕ) → image name ≡ chosen past choice name) where
  -- an entry speaks of the file that has its name in the image
  abbrev bytes_in : FileId → List ℕ
  bytes_in i = file_left past i (taken_as past choice i)

  named_so : (name : List ℕ) (o : Option FileId) → named (dir_left past choice.dir) name ≡ o → option_map (left_of past choice name) o ≡ option_map bytes_in o
  named_so name None is = refl
  named_so name (Some i) is = ap (λ n. Some (left_of past choice n i)) (sym (ap (λ o. unwrap_or o []) (called_named (dir_left past choice.dir) name i is)))

  bytes_are : (name : List ℕ) → image name ≡ option_map bytes_in (named (dir_left past choice.dir) name)
  bytes_are name = h name ∙ named_so name (named (dir_left past choice.dir) name) refl

  pub honest_image : AreHonest past choice → IsImage past image
  honest_image honest = record {
    names = named (dir_left past choice.dir);
    bytes = bytes_in;
    directory = dir_is_left past choice.dir;
    each = λ i. left_is_left past i (taken_as past choice i);
    honest = honest;
    is = bytes_are;
  }

  pub front_image : AreFronts past choice → IsImage past image
  front_image fronts = prefix_image past image (record {
    names = named (dir_left past choice.dir);
    bytes = bytes_in;
    directory = dir_is_left past choice.dir;
    each = λ i. front_is_left past i (taken_as past choice i) (fronts i);
    is = bytes_are;
  })

  pub either_image : AreHonest past choice ⊎ AreFronts past choice → IsImage past image
  either_image (inl honest) = honest_image honest
  either_image (inr fronts) = front_image fronts

-- ---- all of it is taken

dir_few : (past : Past) → dir_pending past ≤ clock past
dir_few (handed files) = omega arith
dir_few (did (to_dir op) past) = omega (arith, dir_few past)
dir_few (did sync_dir past) = omega arith
dir_few (did (to_file name op) past) = omega (arith, dir_few past)
dir_few (did (sync name) past) = omega (arith, dir_few past)
dir_few (did (sync_failed name) past) = omega (arith, dir_few past)

dir_in_step : (past : Past) (count : ℕ) (name : List ℕ) → dir_pending past ≤ count → named (dir_left past count) name ≡ named past name
dir_in_step (handed files) count name le = refl
dir_in_step (did sync_dir past) count name le = refl
dir_in_step (did (to_file other op) past) count name le = dir_in_step past count name le
dir_in_step (did (sync other) past) count name le = dir_in_step past count name le
dir_in_step (did (sync_failed other) past) count name le = dir_in_step past count name le
dir_in_step (did (to_dir op) past) count name le =
    ap (λ b. named (if b then did (to_dir op) past else dir_left past count) name) (lt-ltb (dir_pending past) count (omega (arith, le)))

pub all_chosen : (past : Past) (choice : Choice) (name : List ℕ) (ops bytes : ℕ) → clock past ≤ choice.dir → clock past ≤ ops → taken_of choice name ≡ Front ops bytes
    → chosen past choice name ≡ reads past name
all_chosen past choice name ops bytes dir le is =
    ap (λ taken. option_map (λ i. file_left past i taken) (named (dir_left past choice.dir) name)) is
    ∙ ap (option_map (λ i. file_left past i (Front ops bytes))) (dir_in_step past choice.dir name (omega (arith, dir_few past, dir)))
    ∙ go (named past name)
  where
    go : (o : Option FileId) → option_map (λ i. file_left past i (Front ops bytes)) o ≡ option_map (content past) o
    go None = refl
    go (Some i) = ap (λ b. Some b) ((in_step past i ops bytes).0 (omega (arith, (few_pending past i).0, le)))
