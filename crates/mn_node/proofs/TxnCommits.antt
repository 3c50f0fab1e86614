-- What becomes of a pending transaction that is committed or dropped.
use Rattle.std.proofs.Common.{◌≡◌, ℕ, ◌≤◌, ◌<◌, ◌^◌, Bool, true, false, if◌then◌else◌, IsTrue, List, [], ◌∷◌, Option, None, Some, Result, Ok, Err, refl, sym, ap, ◌∙◌, subst, arith}
use Rattle.std.specs.Prelude.{All, IsSome, IsSomeAnd, IfErr, is_some, map, ◌↔◌}
use Rattle.std.specs.List.{AllByRecursion}
use Rattle.std.specs.Result.{IsErrAnd}
use Rattle.std.proofs.lemmas.Result.{err_from_is_err_and}
use Rattle.std.proofs.lemmas.List.Elements.{All-nil, All-head, All-tail, All-from_recursion}
use Rattle.term_core.specs.Tree.{depth, greatest_depth}
use Rattle.file_trait.specs.DiskModel.{Past}
use Rattle.db_model.specs.Commits.{CommitRecord}
use Rattle.db_model.specs.Database.{Table, Database, do_commit, do_ops}
use Rattle.db_model.specs.Definitions.{Definition}
use Rattle.db_model.specs.Lawful.{table_in, IsAllowedIn, IsLawful, HasCookie}
use Rattle.db_model.specs.Ops.{Operation, write, delete, delete_object, clear, table_of, op_tree}
use Rattle.db_model.specs.Records.{Allows}
use Rattle.db_model.specs.SchemaTerms.{IsWellFormed}
use Rattle.db_state.specs.Live.{database}
use Rattle.txn_core.specs.Calls.{ops_of, view}
use Rattle.txn_core.specs.Machine.{State, Outcome, unless_refused, happens, abort, commit, ok}
use Rattle.txn_core.specs.Machine as machine
use Rattle.txn_core.specs.Pending.{Txn, calls_of, is_named, named, others}
use Rattle.txn_core.specs.Refusals.{Refusal, no_txn}
use Rattle.txn_core.specs.Shown.{Shows, Answers, told_unit}
use Rattle.txn_core.specs.Sound.{Sound, MayCallAll}
use Rattle.txn_core.specs.declared.error.TxnErr.{TxnErr}
use Rattle.txn_core.specs.declared.error.TxnErr.TheVariants.{NoTxn}
use Rattle.txn_core.specs.declared.txns.Txns.{Txns}
use Rattle.txn_core.proofs.AllowedOps.{ops_allowed, view-is-ops}
use Rattle.txn_core.proofs.Each.{each_found}
use Rattle.txn_core.proofs.SoundPending.{sound_others}
use Rattle.txn_core.proofs.SoundSteps.{sound_happens}
use Rattle.txn_log.specs.Commits as logged
use Rattle.txn_log.specs.Commits.{IsLogged, op_trees}
use Rattle.mn_node.specs.Effects.{Answer, Effect, too_long, refuses, done, unless, length_refusal, adds, commits, ops_effect, commit_effect, commit_txn, pending_if, is_done, pending_after}
use Rattle.mn_node.specs.Inside.Tries.{ComesOut, Tries, CommitsTo, durable}
use Rattle.mn_node.specs.Shown.{OpenShows, IsNamed, Pends}
use Rattle.mn_node.specs.declared.open.Done.{Done}
use Rattle.mn_node.specs.declared.open.Open.{Open}
use Rattle.mn_node.specs.declared.open.Trouble.{Trouble}
use Rattle.mn_node.specs.declared.open.Trouble.TheVariants.{File, Memory}
use Rattle.mn_node.specs.declared.reply.Reply.TheVariants as replies
use Rattle.mn_node.proofs.Named.{keeps_names, found_named}
use Rattle.mn_node.proofs.TakenCommits.{each_ops}

-- ---- a commit that was done

-- it was appended, and done to the tables
pub did_commit : (c : CommitRecord) (old new : Open) (settles : Bool) (one : Done)
    → one ≡ record { reply = replies.Done; wrote = true; settles = settles; halts = false } → new.txns ≡ old.txns
    → database new.tables ≡ do_commit c (database old.tables) → length_refusal c ≡ None → CommitsTo c old new (Ok one)
did_commit c old new settles one is same did fits = record {
  txns = same;
  done = did ∙ ap (λ (d : Done). if d.wrote then do_commit c (database old.tables) else database old.tables) (sym is);
  on = ap (λ (d : Done). d.halts) is;
  fits = fits ∙ ap (λ (d : Done). if d.wrote then None else Some too_long) (sym is);
  kept = tt;
}

-- ---- a transaction that is dropped

abbrev ends : Option Refusal → State → List Txn → Outcome
ends why old later = unless_refused why old record { answer = ok; state = record old { pending = later } }

there : (found : Option Txn) → IsSome found → (if is_some found then None else Some no_txn) ≡ None
there None some = absurd (cc some)
there (Some txn) some = refl

pub txn_dropped : (name : List ℕ) (old new : Txns) (result : Result Unit TxnErr)
    → ((tables : List Table) → Answers (abort name) tables old new (told_unit ok result)) → IfErr result (λ error. error ≡ NoTxn)
    → (pending : List Txn) → Shows old pending → IsSome (named name pending) → Shows new (others name pending)
txn_dropped name old new (Ok unit) answers only pending shows some =
    let (later, happened, shown) = answers [] pending shows in
    let ended = ap (λ (why : Option Refusal). ends why record { tables = []; pending = pending } (others name pending))
    (there (named name pending) some) in
    subst (λ (l : List Txn). Shows new l) (ap (λ (o : Outcome). o.state.pending) (sym happened ∙ ended)) shown
txn_dropped name old new (Err error) answers only pending shows some =
    let refused = subst (λ e. (tables : List Table) → Answers (abort name) tables old new (told_unit ok (Err e))) only answers in
    let (later, happened, shown) = refused [] pending shows in
    let ended = ap (λ (why : Option Refusal). ends why record { tables = []; pending = pending } (others name pending))
    (there (named name pending) some) in
    let never : machine.refused no_txn ≡ ok = ap (λ (o : Outcome). o.answer) (sym happened ∙ ended) in absurd (cc never)

-- ---- the ops of a transaction

-- the commit of these ops, and of no others
abbrev pub commit_of : ℕ → List Operation → CommitRecord
commit_of version ops = record { version = version; schema_operations = []; operations = ops }

-- the transaction of this name is pending, and writes these ops
abbrev pub HasOps : List ℕ → List Txn → List Operation → Type 0
HasOps name pending ops = (txn : Txn) × (named name pending ≡ Some txn) × (ops ≡ ops_of (calls_of txn.kept))

op_named : (tables : List Table) (op : Operation) → AllByRecursion IsNamed tables → IsAllowedIn tables op → logged.IsNamed op
op_named tables op named may = by (table_in (table_of op) tables) refl may
  where
    by : (found : Option Table) → table_in (table_of op) tables ≡ found
        → IsSomeAnd found (λ table. Allows table.definition op) → logged.IsNamed op
    by None is h = absurd h
    by (Some table) is h = found_named (table_of op) tables table named is

all_named : (tables : List Table) (ops : List Operation) → AllByRecursion IsNamed tables → All (IsAllowedIn tables) ops
    → AllByRecursion logged.IsNamed ops
all_named tables [] named may = tt
all_named tables (op ∷ ops) named may = (
  op_named tables op named (All-head (IsAllowedIn tables) op ops may),
  all_named tables ops named (All-tail (IsAllowedIn tables) op ops may),
)

-- what a table allows nests over few levels
allowed_depth : (definition : Definition) (op : Operation) → Allows definition op → depth (op_tree op) ≤ 102
allowed_depth definition (write table row) may = let few = may.1.levels in omega (arith, few)
allowed_depth definition (delete table key) may = let few = may.levels in omega (arith, few)
allowed_depth definition (delete_object table row) may = let few = may.1.levels in omega (arith, few)
allowed_depth definition (clear table) may = omega arith

op_depth : (op : Operation) (found : Option Table) → IsSomeAnd found (λ table. Allows table.definition op) → depth (op_tree op) ≤ 102
op_depth op None may = absurd may
op_depth op (Some table) may = allowed_depth table.definition op may

ops_depth : (tables : List Table) (ops : List Operation) → All (IsAllowedIn tables) ops → greatest_depth (op_trees ops) ≤ 126
ops_depth tables [] may = omega arith
ops_depth tables (op ∷ ops) may =
    let first = op_depth op (table_in (table_of op) tables) (All-head (IsAllowedIn tables) op ops may) in
    omega (arith, first, ops_depth tables ops (All-tail (IsAllowedIn tables) op ops may))

ops_effect_some : (version : ℕ) (ops : List Operation) → (ops ≡ [] → ⊥) → ops_effect version ops ≡ commits false (commit_of version ops)
ops_effect_some version [] some = absurd (some refl)
ops_effect_some version (op ∷ ops) some = refl

unmapped : {X Y : Type 0} (f : X → Y) (xs : List X) → map f xs ≡ [] → xs ≡ []
unmapped f [] h = refl
unmapped f (x ∷ xs) h = absurd (cc h)

pub unmapped_some : {X Y : Type 0} (f : X → Y) (xs : List X) (empty : Bool) → (IsTrue empty ↔ (xs ≡ [])) → empty ≡ false
    → map f xs ≡ [] → ⊥
unmapped_some f xs empty tells not none = let yes = tells.1 (unmapped f xs none) in cc (yes, not)

-- ---- other transactions

pub shows_txns : {live : Open} (new_txns : Txns) {past : Past} {commits : List CommitRecord} {synced : ℕ}
    → OpenShows live past commits synced → OpenShows (record live { txns = new_txns }) past commits synced
shows_txns new_txns shown = record { same = shown.same; log = shown.log; taken = shown.taken; sound = shown.sound }

out_txns : (e : Effect) (commits : List CommitRecord) (synced : ℕ) (result : Result Done Trouble) (live : Open) (new_txns : Txns)
    (past : Past)
    → ComesOut e commits synced result live past → ComesOut e commits synced result (record live { txns = new_txns }) past
out_txns e commits synced (Ok one) live new_txns past out = (out.0, shows_txns new_txns out.1, out.2)
out_txns e commits synced (Err Memory) live new_txns past out = (out.0, shows_txns new_txns out.1)
out_txns e commits synced (Err (File name doubt)) live new_txns past out = out

-- what a command does to log and tables is so of other transactions
pub tries_txns : {e : Effect} {commits : List CommitRecord} {synced : ℕ} {result : Result Done Trouble} {live : Open}
    (new_txns : Txns) {before now : Past} → Tries e commits synced result live before now
    → Tries e commits synced result (record live { txns = new_txns }) before now
tries_txns {e} {commits} {synced} {result} {live} new_txns {before} {now} h = record {
  out = out_txns e commits synced result live new_txns now h.out;
  lawful = h.lawful;
  during = h.during;
  sound = h.sound;
  touches = h.touches;
}

pub tries_at : {e : Effect} {commits : List CommitRecord} {synced : ℕ} {result : Result Done Trouble} {new live : Open}
    {before now : Past} → new ≡ live → Tries e commits synced result live before now → Tries e commits synced result new before now
tries_at {e} {commits} {synced} {result} {new} {live} {before} {now} is h =
    subst (λ (l : Open). Tries e commits synced result l before now) (sym is) h

pub pends_at : {new live : Open} {pending : List Txn} → new ≡ live → Pends live pending → Pends new pending
pends_at {new} {live} {pending} is h = subst (λ (l : Open). Pends l pending) (sym is) h

-- the trouble was handed on
pub tries_failed : {e : Effect} {commits : List CommitRecord} {synced : ℕ} {live : Open} {before now : Past}
    (result : Result Done Trouble) (one : Trouble) → IsErrAnd result (λ trouble. trouble ≡ one)
    → Tries e commits synced (Err one) live before now → Tries e commits synced result live before now
tries_failed {e} {commits} {synced} {live} {before} {now} result one failed h =
    let (trouble, at, is) = err_from_is_err_and result failed in
    subst (λ r. Tries e commits synced r live before now) (sym (at ∙ ap (λ t. Err t) is)) h

-- ---- a commit of a transaction

module _ {live : Open} {pending : List Txn} (pends : Pends live pending) (name : List ℕ) (ops : List Operation)
    (has : HasOps name pending ops) where
  abbrev here : Database
  here = database live.tables

  abbrev txn : Txn
  txn = has.0

  ops_may : All (IsAllowedIn here.tables) ops
  ops_may =
      subst (All (IsAllowedIn here.tables)) (sym has.2) (ops_allowed here.tables (calls_of txn.kept)
      (each_found (MayCallAll here.tables) (is_named name) pending txn has.1 pends.sound.allowed))

  pub ops_lawful : (c : CommitRecord) → c ≡ commit_of here.version ops → IsLawful c here
  ops_lawful c is = subst (λ r. IsLawful r here) (sym is) (record {
    version = refl;
    applies = tt;
    cookies = All-nil (HasCookie here.version);
    allowed = ops_may;
  })

  pub ops_logged : (c : CommitRecord) → c ≡ commit_of here.version ops → c.version < 2 ^ 64 → IsLogged c
  ops_logged c is small = record {
    version = small;
    formed = subst (λ (r : CommitRecord). All IsWellFormed r.schema_operations) (sym is) (All-nil IsWellFormed);
    named = subst (λ (r : CommitRecord). All logged.IsNamed r.operations) (sym is)
        (All-from_recursion logged.IsNamed ops (all_named here.tables ops pends.named ops_may));
  }

  pub ops_levels : (c : CommitRecord) → c ≡ commit_of here.version ops → greatest_depth (op_trees c.operations) ≤ 126
  ops_levels c is =
      subst (λ (r : CommitRecord). greatest_depth (op_trees r.operations) ≤ 126) (sym is) (ops_depth here.tables ops ops_may)

  pub some_named : IsSome (named name pending)
  some_named = subst (λ (f : Option Txn). IsSome f) (sym has.1) refl

  pub nothing_effect : (base : Database) → ops ≡ [] → commit_effect base (named name pending) name ≡ refuses done
  nothing_effect base none =
      ap (λ (f : Option Txn). commit_effect base f name) has.1 ∙ ap (ops_effect base.version) (sym has.2 ∙ none)

  pub written_effect : (base : Database) → (ops ≡ [] → ⊥)
      → commit_effect base (named name pending) name ≡ commits false (commit_of base.version ops)
  written_effect base some =
      ap (λ (f : Option Txn). commit_effect base f name) has.1 ∙ ap (ops_effect base.version) (sym has.2)
      ∙ ops_effect_some base.version ops some

  after : (e : Effect) → commit_effect here (named name pending) name ≡ e
      → pending_after (durable live) pending (commit_txn name) ≡ pending_if (is_done e.answer) (others name pending) pending
  after e is = ap (λ (x : Effect). pending_if (is_done x.answer) (others name pending) pending) is

  -- it wrote nothing, and is dropped
  pub nothing_pends : {new : Open} → ops ≡ [] → new.tables ≡ live.tables → Shows new.txns (others name pending)
      → Pends new (pending_after (durable live) pending (commit_txn name))
  nothing_pends {new} none same shows =
      subst (λ (l : List Txn). Pends new l) (sym (after (refuses done) (nothing_effect here none))) (record {
        shows = shows;
        sound = subst (λ tables. Sound record { tables = tables; pending = others name pending })
            (ap (λ t. (database t).tables) (sym same))
            (sound_others name record { tables = here.tables; pending = pending } pends.sound);
        named = subst (AllByRecursion IsNamed) (ap (λ t. (database t).tables) (sym same)) pends.named;
      })

  sound_done : Sound record { tables = do_ops ops here.tables; pending = others name pending }
  sound_done =
      let start : State = record { tables = here.tables; pending = pending } in
      let behind : State = record { tables = view (calls_of txn.kept) here.tables; pending = others name pending } in
      let came : happens (commit name) start ≡ record { answer = machine.committed; state = behind } =
      ap (λ (f : Option Txn). unless_refused (if is_some f then None else Some no_txn) start (machine.committing f name start)) has.1 in
      let made : view (calls_of txn.kept) here.tables ≡ do_ops ops here.tables =
      view-is-ops (calls_of txn.kept) here.tables ∙ ap (λ l. do_ops l here.tables) (sym has.2) in
      subst (λ tables. Sound record { tables = tables; pending = others name pending }) made
      (subst Sound (ap (λ (o : Outcome). o.state) came) (sound_happens (commit name) start tt pends.sound))

  -- its commit was to be done
  module _ (c : CommitRecord) (is : c ≡ commit_of here.version ops) (some : ops ≡ [] → ⊥) (one : Done) {mid : Open}
      (did : CommitsTo c live mid (Ok one)) where
    after_commit : (refusal : Option Answer) → length_refusal (commit_of here.version ops) ≡ refusal
        → pending_after (durable live) pending (commit_txn name)
        ≡ pending_if (is_done (unless refusal (adds false (commit_of here.version ops))).answer) (others name pending) pending
    after_commit refusal fits =
        after (unless refusal (adds false (commit_of here.version ops)))
        (written_effect here some ∙ ap (λ (r : Option Answer). unless r (adds false (commit_of here.version ops))) fits)

    fits_as : (wrote : Bool) → one.wrote ≡ wrote
        → length_refusal (commit_of here.version ops) ≡ (if wrote then None else Some too_long)
    fits_as wrote at = ap length_refusal (sym is) ∙ did.fits ∙ ap (λ (b : Bool). if b then None else Some too_long) at

    -- it was appended and done, and the transaction is dropped
    pub done_pends : (new_txns : Txns) → one.wrote ≡ true → Shows new_txns (others name pending)
        → Pends (record mid { txns = new_txns }) (pending_after (durable live) pending (commit_txn name))
    done_pends new_txns wrote shows =
        let now : do_commit (commit_of here.version ops) here ≡ database mid.tables =
        sym (did.done ∙ ap (λ (b : Bool). if b then do_commit c here else here) wrote ∙ ap (λ r. do_commit r here) is) in
        let tables = ap (λ (d : Database). d.tables) now in
        subst (λ (l : List Txn). Pends (record mid { txns = new_txns }) l) (sym (after_commit None (fits_as true wrote))) (record {
          shows = shows;
          sound = subst (λ ts. Sound record { tables = ts; pending = others name pending }) tables sound_done;
          named = subst (AllByRecursion IsNamed) tables (each_ops IsNamed keeps_names ops here.tables pends.named);
        })

    -- it is too long, and the transaction stays
    pub long_pends : one.wrote ≡ false → Pends mid (pending_after (durable live) pending (commit_txn name))
    long_pends wrote =
        let now : here ≡ database mid.tables = sym (did.done ∙ ap (λ (b : Bool). if b then do_commit c here else here) wrote) in
        let tables = ap (λ (d : Database). d.tables) now in
        subst (λ (l : List Txn). Pends mid l) (sym (after_commit (Some too_long) (fits_as false wrote))) (record {
          shows = subst (λ txns. Shows txns pending) (sym did.txns) pends.shows;
          sound = subst (λ ts. Sound record { tables = ts; pending = pending }) tables pends.sound;
          named = subst (AllByRecursion IsNamed) tables pends.named;
        })
