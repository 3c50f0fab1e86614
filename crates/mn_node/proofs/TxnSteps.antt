-- What a command does, transactions see as an order of theirs.
use Rattle.std.proofs.Common.{◌≡◌, ℕ, ◌+◌, Bool, true, false, if◌then◌else◌, List, [], ◌∷◌, length, Option, None, Some, is_some, Result, Ok, Err, refl, sym, ap, ◌∙◌, subst, inl, arith}
use Rattle.std.specs.Prelude.{IsSome, IsNone, IsSomeAnd, nat_le, ◌^◌}
use Rattle.db_model.specs.Commits.{create, drop_table, CommitRecord}
use Rattle.db_model.specs.Database.{Table, Database, is_called, with_op, do_op, do_ops, do_schema_op, records_of}
use Rattle.db_model.specs.Definitions.{Definition}
use Rattle.db_model.specs.Lawful.{table_in, IsLawful}
use Rattle.db_model.specs.Ops.{Operation, write, table_of}
use Rattle.db_model.specs.declared.error.DefErr.{DefErr}
use Rattle.db_model.specs.declared.error.DefErr.TheVariants.{BadName, BadOption, Memory}
use Rattle.schema_txn.specs.Commands.{with_cookie, create_commit, delete_commit}
use Rattle.term_core.specs.Tree.{Tree}
use Rattle.txn_core.specs.Calls.{Call, change, all_keys, match_object, Reply, absent, table_called, reply, got, after, view, ops_of}
use Rattle.txn_core.specs.Calls as calls
use Rattle.txn_core.specs.Locks.{lock_of, whole_table}
use Rattle.txn_core.specs.Machine.{State, Event, Outcome, Order, IsOrderly, AreOrderly, replied, unless_refused, unless_there, happens, asked, committing, single, make, drop, Run}
use Rattle.txn_core.specs.Machine as txns
use Rattle.txn_core.specs.Pending.{Txn, calls_of, named, others, holder, begun, keeping, kept_call}
use Rattle.txn_core.specs.Refusals.{Refusal, bad_record, no_txn, fits, lock_refusal, single_refusal, drop_refusal, begin_refusal, call_refusal}
use Rattle.txn_core.specs.Refusals as why
use Rattle.txn_core.proofs.AllowedOps.{view-is-ops}
use Rattle.txn_core.proofs.NotRefused.{ask_free}
use Rattle.mn_node.specs.Durable.{Durable, commit}
use Rattle.mn_node.specs.Durable as durable
use Rattle.mn_node.specs.Effects as effects
use Rattle.txn_log.specs.Commits.{commit_text}
use Rattle.mn_node.specs.Effects.{Command, put, get, create_table, delete_table, tables, table_info, sync_log, stop, begin, ask, commit_txn, abort, Answer, done, ok, exists, too_long, too_many_tables, too_many_versions, Effect, effect, adds, refuses, refused_with, unless, unless_held, unless_barred, bars, finds, keeps, commits, length_refusal, holder_for, put_effect, get_effect, create_effect, delete_effect, info_effect, commit_effect, ops_effect, abort_effect, reply_answer, reply_to, write_of, pending_if, is_done, kept_if, begun_if, others_if, pending_after}
use Rattle.mn_node.specs.Machine.{Machine, command, now_of, entries_of}
use Rattle.mn_node.specs.Serial.{tables_of, state_of, saw, seen}
use Rattle.mn_node.proofs.TxnOutcomes.{here}

-- ---- orders that come out as asked

none_is : {X : Type 0} (found : Option X) → IsNone found → found ≡ None
none_is None h = refl
none_is (Some x) h = absurd (cc h)

module _ (standing : List Table) (pending : List Txn) where
  abbrev state : State
  state = record { tables = standing; pending = pending }

  -- a call that is a transaction of its own
  pub single_happens : (call : Call) (found : Option Table) → table_in (table_called call) standing ≡ found
      → single_refusal call found pending ≡ None
      → happens (single call) state
      ≡ record { answer = replied (got call found); state = record { tables = after call standing; pending = pending } }
  single_happens call found is free =
      let behind : Reply → Outcome =
      λ given. record { answer = replied given; state = record { tables = after call standing; pending = pending } } in
      ap (λ (r : Option Refusal). unless_refused r state (behind (reply call standing)))
      (ap (λ (f : Option Table). single_refusal call f pending) is ∙ free)
      ∙ ap (λ (f : Option Table). behind (got call f)) is

  pub put_free : (name : List ℕ) (row : Tree) (table : Table) → fits table.definition row ≡ true
      → holder (lock_of (change (write name row))) pending ≡ None
      → single_refusal (change (write name row)) (Some table) pending ≡ None
  put_free name row table fit free =
      ap (λ (b : Bool). if b then lock_refusal (holder (lock_of (change (write name row))) pending) else Some bad_record) fit
      ∙ ap lock_refusal free

  pub make_happens : (one : Definition) → IsNone (table_in one.name standing)
      → happens (make one) state
      ≡ record { answer = txns.ok; state = record { tables = do_schema_op (create one) standing; pending = pending } }
  make_happens one none =
      ap
      (λ (f : Option Table). unless_there f state record
      { answer = txns.ok; state = record { tables = do_schema_op (create one) standing; pending = pending } })
      (none_is (table_in one.name standing) none)

  pub drop_happens : (name : List ℕ) → IsSome (table_in name standing) → holder (whole_table name) pending ≡ None
      → happens (drop name) state
      ≡ record { answer = txns.ok; state = record { tables = do_schema_op (drop_table name) standing; pending = pending } }
  drop_happens name some free =
      ap
      (λ (r : Option Refusal). unless_refused r state record
      { answer = txns.ok; state = record { tables = do_schema_op (drop_table name) standing; pending = pending } })
      (refusal (table_in name standing) some)
    where
      refusal : (found : Option Table) → IsSome found → drop_refusal name found pending ≡ None
      refusal None some = absurd (cc some)
      refusal (Some table) some = ap lock_refusal free

-- ---- a table stands as long as a transaction writes to it

same_called : (name : List ℕ) (op : Operation) (table : Table) (b : Bool)
    → is_called name (if b then with_op op table else table) ≡ is_called name table
same_called name op table true = refl
same_called name op table false = refl

there_behind : (name : List ℕ) (op : Operation) (standing : List Table)
    → is_some (table_in name (do_op op standing)) ≡ is_some (table_in name standing)
there_behind name op [] = refl
there_behind name op (table ∷ standing) =
    let changed : Table = if is_called (table_of op) table then with_op op table else table in
    ap (λ (b : Bool). is_some (if b then Some changed else table_in name (do_op op standing)))
    (same_called name op table (is_called (table_of op) table))
    ∙ by changed (there_behind name op standing) (is_called name table)
  where
    by : (changed : Table) → is_some (table_in name (do_op op standing)) ≡ is_some (table_in name standing) → (b : Bool)
        → is_some (if b then Some changed else table_in name (do_op op standing))
        ≡ is_some (if b then Some table else table_in name standing)
    by changed rest true = refl
    by changed rest false = rest

there_after : (name : List ℕ) (call : Call) (standing : List Table)
    → is_some (table_in name (after call standing)) ≡ is_some (table_in name standing)
there_after name (change op) standing = there_behind name op standing
there_after name (calls.read table key) standing = refl
there_after name (match_object table pattern) standing = refl
there_after name (all_keys table) standing = refl

still_there : (name : List ℕ) (made : List Call) (standing : List Table)
    → is_some (table_in name (view made standing)) ≡ is_some (table_in name standing)
still_there name [] standing = refl
still_there name (call ∷ made) standing = still_there name made (after call standing) ∙ there_after name call standing

got_some : (call : Call) (found : Option Table) → is_some found ≡ true → got call found ≡ absent → ⊥
got_some call None some is = absurd (cc some)
got_some (change op) (Some table) some is = cc is
got_some (calls.read name key) (Some table) some is = cc is
got_some (match_object name pattern) (Some table) some is = cc is
got_some (all_keys name) (Some table) some is = cc is

-- ---- what transactions see of a command that was done

pub one_order : (old new : State) (order : Order) (given : txns.Answer) → IsOrderly order
    → happens order old ≡ record { answer = given; state = new } → Run old (saw order given) new
one_order old new order given orderly is = (new, record { orderly = orderly; comes = inl is }, refl)

-- where its text may be written, and where it is too long
long_or_not : (F : Effect → Type 0) (settles : Bool) (c : CommitRecord) → F (adds settles c) → F (refused_with too_long (adds settles c))
    → F (commits settles c)
long_or_not F settles c fit long = by (nat_le (length (commit_text c)) (2 ^ 28))
  where
    by : (b : Bool) → F (unless (if b then None else Some too_long) (adds settles c))
    by true = fit
    by false = long

commits_on : (settles : Bool) (c : CommitRecord) → (commits settles c).halts ≡ false
commits_on settles c = by (nat_le (length (commit_text c)) (2 ^ 28))
  where
    by : (b : Bool) → (unless (if b then None else Some too_long) (adds settles c)).halts ≡ false
    by true = refl
    by false = refl

module _ (old new : Machine) where
  abbrev w : Durable
  w = now_of old

  abbrev base : Database
  base = w.database

  -- a command of this effect, behind which these are pending
  pub record IsSeen (c : Command) (e : Effect) (later : List Txn) : Type 0 where
    pub run : Run (state_of old) (seen old (command c) e.answer new) (here (durable.after w (entries_of e.entry)) later)
    pub halts : e.halts ≡ true → later ≡ []

  -- what it appends is lawful
  abbrev pub AddsLawful : Effect → Type 0
  AddsLawful e = (c : CommitRecord) → e.entry ≡ Some (commit c) → IsLawful c base

  -- nothing changes
  still : {c : Command} {e : Effect} → seen old (command c) e.answer new ≡ [] → e.entry ≡ None → e.halts ≡ false
      → IsSeen c e old.pending
  still {c} {e} nothing none on = record {
    run = subst (λ events. Run (state_of old) events (here (durable.after w (entries_of e.entry)) old.pending)) (sym nothing)
        (ap (λ (entry : Option durable.Entry). here (durable.after w (entries_of entry)) old.pending) (sym none));
    halts = λ h. absurd (cc (on, h));
  }

  -- a commit is refused before its length is looked at
  barred : {c : Command} (settles : Bool) (one : CommitRecord) (answer : Answer) → seen old (command c) answer new ≡ []
      → IsSeen c (refused_with answer (commits settles one)) old.pending
  barred {c} settles one answer nothing = still nothing refl (commits_on settles one)

  put_seen : (name : List ℕ) (row : Tree) (found : Option Table) → table_in name base.tables ≡ found
      → IsSeen (put name row) (put_effect found base.version old.pending name row) old.pending
  put_seen name row None is = still refl refl refl
  put_seen name row (Some table) is =
      by (fits table.definition row) refl (holder_for (change (write name row)) old.pending) refl
    where
      by : (fit : Bool) → fits table.definition row ≡ fit
          → (held : Option (List ℕ)) → holder_for (change (write name row)) old.pending ≡ held
          → IsSeen (put name row)
          (if fit then unless_held held (commits false (write_of base.version name row)) else refuses (effects.bad_record row))
          old.pending
      by false fit held free = still refl refl refl
      by true fit (Some other) free = still refl refl refl
      by true fit None free =
          long_or_not (λ e. IsSeen (put name row) e old.pending) false (write_of base.version name row) (record {
            run = one_order (state_of old) (here (durable.after w (commit (write_of base.version name row) ∷ [])) old.pending)
                (single (change (write name row))) (replied calls.done) tt
                (single_happens base.tables old.pending (change (write name row)) (Some table) is
                (put_free base.tables old.pending name row table fit free));
            halts = λ h. absurd (cc h);
          }) (still refl refl refl)

  get_seen : (name : List ℕ) (key : Tree) (found : Option Table) → table_in name base.tables ≡ found
      → IsSeen (get name key) (get_effect found old.pending name key) old.pending
  get_seen name key None is = still refl refl refl
  get_seen name key (Some table) is = by (holder_for (calls.read name key) old.pending) refl
    where
      by : (held : Option (List ℕ)) → holder_for (calls.read name key) old.pending ≡ held
          → IsSeen (get name key) (unless_held held (finds (records_of key table.contents))) old.pending
      by (Some other) free = still refl refl refl
      by None free = record {
        run = one_order (state_of old) (state_of old) (single (calls.read name key))
            (replied (calls.found (records_of key table.contents))) tt
            (single_happens base.tables old.pending (calls.read name key) (Some table) is (ap lock_refusal free));
        halts = λ h. absurd (cc h);
      }

  make_seen : (name : List ℕ) (definition : Definition) → AddsLawful (adds true (create_commit definition base))
      → IsSeen (create_table name (Ok definition)) (adds true (create_commit definition base)) old.pending
  make_seen name definition lawful =
      let applies = (lawful (create_commit definition base) refl).applies.0 in
      let some = applies.0.attributes.some in record {
        run = one_order (state_of old) (here (durable.after w (commit (create_commit definition base) ∷ [])) old.pending)
            (make (with_cookie (base.version + 1) definition)) txns.ok (omega (arith, some))
            (make_happens base.tables old.pending (with_cookie (base.version + 1) definition) applies.1);
        halts = λ h. absurd (cc h);
      }

  abbrev IsMadeSeen : List ℕ → Definition → Effect → Type 0
  IsMadeSeen name definition e = AddsLawful e → IsSeen (create_table name (Ok definition)) e old.pending

  create_seen : (name : List ℕ) (read : Result Definition DefErr) → AddsLawful (create_effect base name read)
      → IsSeen (create_table name read) (create_effect base name read) old.pending
  create_seen name (Err BadName) lawful = still refl refl refl
  create_seen name (Err (BadOption place)) lawful = still refl refl refl
  create_seen name (Err Memory) lawful = still refl refl refl
  create_seen name (Ok definition) lawful =
      by (is_some (table_in name base.tables)) (nat_le 1000 (length base.tables)) (nat_le (2 ^ 64) (base.version + 1)) lawful
    where
      by : (there full last : Bool)
          → IsMadeSeen name definition
          (unless
          (if there then Some (exists name) else (if full then Some too_many_tables else (if last then Some too_many_versions else None)))
          (commits true (create_commit definition base)))
      by true full last h = barred true (create_commit definition base) (exists name) refl
      by false true last h = barred true (create_commit definition base) too_many_tables refl
      by false false true h = barred true (create_commit definition base) too_many_versions refl
      by false false false h =
          long_or_not (IsMadeSeen name definition) true (create_commit definition base) (make_seen name definition)
          (λ h. still refl refl refl) h

  delete_seen : (name : List ℕ) (found : Option Table) → table_in name base.tables ≡ found
      → IsSeen (delete_table name) (delete_effect found base old.pending name) old.pending
  delete_seen name None is = still refl refl refl
  delete_seen name (Some table) is =
      by (holder (whole_table name) old.pending) refl (nat_le (2 ^ 64) (base.version + 1))
    where
      by : (held : Option (List ℕ)) → holder (whole_table name) old.pending ≡ held → (last : Bool)
          → IsSeen (delete_table name)
          (unless_held held (unless (if last then Some too_many_versions else None) (commits true (delete_commit name base))))
          old.pending
      by (Some other) free last = still refl refl refl
      by None free true = barred true (delete_commit name base) too_many_versions refl
      by None free false =
          long_or_not (λ e. IsSeen (delete_table name) e old.pending) true (delete_commit name base) (record {
            run = one_order (state_of old) (here (durable.after w (commit (delete_commit name base) ∷ [])) old.pending) (drop name)
                txns.ok tt
                (drop_happens base.tables old.pending name (subst (λ f. IsSome f) (sym is) refl) free);
            halts = λ h. absurd (cc h);
          }) (still refl refl refl)

  -- ---- transactions

  barred_begin : (name : List ℕ) (cause : Refusal) → IsSeen (begin name) (bars name (all_keys name) cause) old.pending
  barred_begin name why.no_txn = still refl refl refl
  barred_begin name why.txn_exists = still refl refl refl
  barred_begin name why.too_many = still refl refl refl
  barred_begin name why.no_table = still refl refl refl
  barred_begin name why.bad_record = still refl refl refl
  barred_begin name why.too_many_calls = still refl refl refl
  barred_begin name (why.locked by) = still refl refl refl

  barred_ask : (name : List ℕ) (call : Call) (cause : Refusal) → IsSeen (ask name call) (bars name call cause) old.pending
  barred_ask name call why.no_txn = still refl refl refl
  barred_ask name call why.txn_exists = still refl refl refl
  barred_ask name call why.too_many = still refl refl refl
  barred_ask name call why.no_table = still refl refl refl
  barred_ask name call why.bad_record = still refl refl refl
  barred_ask name call why.too_many_calls = still refl refl refl
  barred_ask name call (why.locked by) = still refl refl refl

  begin_seen : (name : List ℕ) (refusal : Option Refusal) → begin_refusal name old.pending ≡ refusal
      → IsSeen (begin name) (unless_barred name (all_keys name) refusal (keeps ok)) (begun_if refusal name old.pending)
  begin_seen name (Some cause) is = barred_begin name cause
  begin_seen name None is =
      let behind : Outcome = record { answer = txns.ok; state = here w (begun name old.pending) } in record {
        run = one_order (state_of old) behind.state (txns.begin name) txns.ok tt
            (ap (λ (r : Option Refusal). unless_refused r (state_of old) behind) is);
        halts = λ h. absurd (cc h);
      }

  -- a call that is kept gets a reply
  replied_seen : (name : List ℕ) (call : Call) (later : List Txn) (given : Reply) → (given ≡ absent → ⊥)
      → happens (txns.ask name call) (state_of old) ≡ record { answer = replied given; state = here w later }
      → IsSeen (ask name call) (keeps (reply_answer given)) later
  replied_seen name call later calls.done some is = record {
    run = one_order (state_of old) (here w later) (txns.ask name call) (replied calls.done) tt is;
    halts = λ h. absurd (cc h);
  }
  replied_seen name call later (calls.found terms) some is = record {
    run = one_order (state_of old) (here w later) (txns.ask name call) (replied (calls.found terms)) tt is;
    halts = λ h. absurd (cc h);
  }
  replied_seen name call later calls.absent some is = absurd (some refl)

  ask_seen : (name : List ℕ) (call : Call) (refusal : Option Refusal) (found : Option Txn)
      → call_refusal name call base.tables old.pending ≡ refusal → named name old.pending ≡ found
      → IsSeen (ask name call) (unless_barred name call refusal (keeps (reply_answer (reply_to found call base.tables))))
      (kept_if refusal found name call base.tables old.pending)
  ask_seen name call (Some cause) None free is = barred_ask name call cause
  ask_seen name call (Some cause) (Some txn) free is = barred_ask name call cause
  ask_seen name call None None free is =
      let barred : Some no_txn ≡ None =
      sym (ap (λ (f : Option Txn). why.txn_refusal f call base.tables (others name old.pending)) is) ∙ free in absurd (cc barred)
  ask_seen name call None (Some txn) free is =
      let table : Option Table = table_in (table_called call) base.tables in
      let unbarred : why.table_refusal txn call table (others name old.pending) ≡ None =
      sym (ap (λ (f : Option Txn). why.txn_refusal f call base.tables (others name old.pending)) is) ∙ free in
      let one = kept_call call txn base.tables in
      replied_seen name call (keeping name one old.pending) one.reply
      (got_some call (table_in (table_called call) (view (calls_of txn.kept) base.tables))
      (still_there (table_called call) (calls_of txn.kept) base.tables
      ∙ stands table (ask_free txn call table (others name old.pending) unbarred).allowed))
      (ap (λ (r : Option Refusal). unless_refused r (state_of old) (asked (named name old.pending) name call (state_of old))) free
      ∙ ap (λ (f : Option Txn). asked f name call (state_of old)) is)
    where
      stands : (found : Option Table) → IsSomeAnd found (λ t. why.may_call t.definition call ≡ true) → is_some found ≡ true
      stands None h = absurd h
      stands (Some table) h = refl

  abort_seen : (name : List ℕ) (found : Option Txn) → named name old.pending ≡ found
      → IsSeen (abort name) (abort_effect found name) (others_if found name old.pending)
  abort_seen name None is = still refl refl refl
  abort_seen name (Some txn) is =
      let behind : Outcome = record { answer = txns.ok; state = here w (others name old.pending) } in record {
        run = one_order (state_of old) behind.state (txns.abort name) txns.ok tt
            (ap (λ (f : Option Txn). unless_refused (if is_some f then None else Some no_txn) (state_of old) behind) is);
        halts = λ h. absurd (cc h);
      }

  -- what is pending behind a commit of this effect
  abbrev behind_commit : List ℕ → Effect → List Txn
  behind_commit name e = pending_if (is_done e.answer) (others name old.pending) old.pending

  -- the tables are what its ops make of them
  committed_run : (name : List ℕ) (txn : Txn) (ops : List Operation) → named name old.pending ≡ Some txn → ops_of (calls_of txn.kept) ≡ ops
      → Run (state_of old) (saw (txns.commit name) txns.committed)
      record { tables = do_ops ops base.tables; pending = others name old.pending }
  committed_run name txn ops is same =
      let behind : List Table → Outcome =
      λ standing. record { answer = txns.committed; state = record { tables = standing; pending = others name old.pending } } in
      one_order (state_of old) record { tables = do_ops ops base.tables; pending = others name old.pending } (txns.commit name)
      txns.committed tt
      (ap
      (λ (f : Option Txn). unless_refused (if is_some f then None else Some no_txn) (state_of old) (committing f name (state_of old)))
      is
      ∙ ap behind (view-is-ops (calls_of txn.kept) base.tables ∙ ap (λ l. do_ops l base.tables) same))

  ops_seen : (name : List ℕ) (txn : Txn) (ops : List Operation) → named name old.pending ≡ Some txn → ops_of (calls_of txn.kept) ≡ ops
      → IsSeen (commit_txn name) (ops_effect base.version ops) (behind_commit name (ops_effect base.version ops))
  ops_seen name txn [] is same = record { run = committed_run name txn [] is same; halts = λ h. absurd (cc h) }
  ops_seen name txn (op ∷ ops) is same =
      long_or_not (λ e. IsSeen (commit_txn name) e (behind_commit name e)) false
      record { version = base.version; schema_operations = []; operations = op ∷ ops }
      (record { run = committed_run name txn (op ∷ ops) is same; halts = λ h. absurd (cc h) })
      (still refl refl refl)

  commit_seen : (name : List ℕ) (found : Option Txn) → named name old.pending ≡ found
      → IsSeen (commit_txn name) (commit_effect base found name) (behind_commit name (commit_effect base found name))
  commit_seen name None is = still refl refl refl
  commit_seen name (Some txn) is = ops_seen name txn (ops_of (calls_of txn.kept)) is refl

  -- ---- what tells of tables, and a stop

  info_seen : (name : List ℕ) (found : Option Table) → IsSeen (table_info name) (info_effect found name) old.pending
  info_seen name None = still refl refl refl
  info_seen name (Some table) = still refl refl refl

  stop_seen : AreOrderly base.tables → tables_of new ≡ base.tables → IsSeen stop (effect w old.pending stop) []
  stop_seen orderly same = record {
    run = one_order (state_of old) record { tables = base.tables; pending = [] } (txns.restart (tables_of new)) txns.ok
        (subst AreOrderly (sym same) orderly)
        (ap (λ standing. record { answer = txns.ok; state = record { tables = standing; pending = [] } }) same);
    halts = λ h. refl;
  }

  -- ---- each command

  pub command_seen : (c : Command) → AreOrderly base.tables → AddsLawful (effect w old.pending c)
      → tables_of new ≡ (durable.after w (entries_of (effect w old.pending c).entry)).database.tables
      → IsSeen c (effect w old.pending c) (pending_after w old.pending c)
  command_seen (put name row) orderly lawful same = put_seen name row (table_in name base.tables) refl
  command_seen (get name key) orderly lawful same = get_seen name key (table_in name base.tables) refl
  command_seen (create_table name read) orderly lawful same = create_seen name read lawful
  command_seen (delete_table name) orderly lawful same = delete_seen name (table_in name base.tables) refl
  command_seen tables orderly lawful same = still refl refl refl
  command_seen (table_info name) orderly lawful same = info_seen name (table_in name base.tables)
  command_seen sync_log orderly lawful same = still refl refl refl
  command_seen stop orderly lawful same = stop_seen orderly same
  command_seen (begin name) orderly lawful same = begin_seen name (begin_refusal name old.pending) refl
  command_seen (ask name call) orderly lawful same =
      ask_seen name call (call_refusal name call base.tables old.pending) (named name old.pending) refl refl
  command_seen (commit_txn name) orderly lawful same = commit_seen name (named name old.pending) refl
  command_seen (abort name) orderly lawful same = abort_seen name (named name old.pending) refl
