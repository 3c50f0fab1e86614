-- The transactions that are pending stay so where a command does not touch them.
use Rattle.std.proofs.Common.{◌≡◌, ℕ, ◌+◌, Bool, true, false, if◌then◌else◌, List, [], ◌∷◌, None, Some, Result, Ok, Err, refl, sym, ap, ◌∙◌, subst, arith}
use Rattle.std.specs.Prelude.{IfOk, IsErrOf}
use Rattle.std.specs.List.{AllByRecursion}
use Rattle.term_core.specs.Tree.{Tree}
use Rattle.file_trait.specs.DiskModel.{Past}
use Rattle.db_model.specs.Commits.{SchemaOperation, create, drop_table, CommitRecord}
use Rattle.db_model.specs.Database.{Table, Database, do_commit, do_schema_op}
use Rattle.db_model.specs.Definitions.{Definition}
use Rattle.db_model.specs.Lawful.{table_in, IsLawful}
use Rattle.db_model.specs.Ops.{write}
use Rattle.db_model.specs.Records.{Fits}
use Rattle.db_state.specs.Live.{LiveTables, database, AreInOrder, IsKeyedTable}
use Rattle.schema_txn.specs.Commands.{with_cookie, create_commit, delete_commit}
use Rattle.txn_core.specs.Calls.{Call, change, reply, table_called, after}
use Rattle.txn_core.specs.Calls as calls
use Rattle.txn_core.specs.Locks.{lock_of, whole_table}
use Rattle.txn_core.specs.Machine.{State, Outcome, Order, IsOrderly, Answer, replied, ok, happens, single, make, drop}
use Rattle.txn_core.specs.Pending.{Txn, holder}
use Rattle.txn_core.specs.Shown as shown
use Rattle.txn_core.specs.Sound.{Sound}
use Rattle.txn_core.proofs.SoundSteps.{sound_idle, sound_happens}
use Rattle.txn_log.specs.Logs.{TxnStands}
use Rattle.mn_node.specs.Durable.{Durable, made}
use Rattle.mn_node.specs.Effects.{Command, Effect, effect, pending_after, write_of}
use Rattle.mn_node.specs.Inside.Loads.{Makes}
use Rattle.mn_node.specs.Inside.Transacts.{ToldOut, Transacts}
use Rattle.mn_node.specs.Inside.Tries.{CommitsTo, IsPlain, PendsOut, Tries, durable}
use Rattle.mn_node.specs.Seen.{answer, asked}
use Rattle.mn_node.specs.Shown.{OpenShows, IsNamed, Pends, HasPending}
use Rattle.mn_node.specs.declared.command.Command as code
use Rattle.mn_node.specs.declared.open.Done.{Done}
use Rattle.mn_node.specs.declared.open.Open.{Open}
use Rattle.mn_node.specs.declared.open.Trouble.{Trouble}
use Rattle.mn_node.specs.declared.open.Trouble.TheVariants.{File, Memory}
use Rattle.mn_node.specs.declared.starting.StartErr.{StartErr}
use Rattle.mn_node.proofs.Acts.{only_told, wanted_memory}
use Rattle.mn_node.proofs.Named.{keeps_names, taken_named}
use Rattle.mn_node.proofs.Refusals.{fits_is}
use Rattle.mn_node.proofs.TakenCommits.{each_schema_op, each_ops}
use Rattle.mn_node.proofs.TxnSteps.{single_happens, put_free, make_happens, drop_happens}

-- the tables that a log's commits make are called what tables can be
makes_named : (items : List (List ℕ)) (base : Database) → Makes items base → AllByRecursion IsNamed base.tables
makes_named items base made_of =
    subst (λ (d : Database). AllByRecursion IsNamed d.tables) (sym made_of.same)
    (taken_named made_of.commits made_of.taken)

pub result_named : (items : List (List ℕ)) (result : Result LiveTables StartErr) → IfOk result (λ live. Makes items (database live))
    → IfOk result (λ live. AllByRecursion IsNamed (database live).tables)
result_named items (Ok live) h = makes_named items (database live) h
result_named items (Err error) h = tt

-- where none is pending
pub none_pends : (live : Open) → shown.Shows live.txns [] → AreInOrder (database live.tables).tables
    → AllByRecursion IsKeyedTable (database live.tables).tables → AllByRecursion IsNamed (database live.tables).tables → Pends live []
none_pends live shows ordered keyed named = record {
  shows = shows;
  sound = sound_idle (database live.tables).tables (record { ordered = ordered; keyed = keyed });
  named = named;
}

-- ---- nothing changed

-- the command is this one
pub pends_asked : (result : Result Done Trouble) (old new : Open) (pending : List Txn) (command one : code.Command) → command ≡ one
    → PendsOut result new pending (pending_after (durable old) pending (asked one))
    → PendsOut result new pending (pending_after (durable old) pending (asked command))
pends_asked result old new pending command one is h =
    subst (λ c. PendsOut result new pending (pending_after (durable old) pending (asked c))) (sym is) h

pub out_kept : (result : Result Done Trouble) (new : Open) (pending : List Txn) → Pends new pending → PendsOut result new pending pending
out_kept (Ok done) new pending h = λ on. h
out_kept (Err Memory) new pending h = h
out_kept (Err (File name doubt)) new pending h = tt

-- a node that halts has none
pub out_halted : (result : Result Done Trouble) (new : Open) (pending : List Txn) → IfOk result (λ done. done.halts ≡ true) → Pends new
    pending
    → PendsOut result new pending []
out_halted (Ok done) new pending halts h = λ on. absurd (cc (halts, on))
out_halted (Err Memory) new pending halts h = h
out_halted (Err (File name doubt)) new pending halts h = tt

module _ {old : Open} {pending : List Txn} (pends : Pends old pending) where
  abbrev base : Database
  base = database old.tables

  abbrev state : State
  state = record { tables = base.tables; pending = pending }

  pub same_pends : (new : Open) → new.txns ≡ old.txns → database new.tables ≡ base → Pends new pending
  same_pends new txns tables = record {
    shows = subst (λ t. shown.Shows t pending) (sym txns) pends.shows;
    sound = subst (λ (d : Database). Sound record { tables = d.tables; pending = pending }) (sym tables) pends.sound;
    named = subst (λ (d : Database). AllByRecursion IsNamed d.tables) (sym tables) pends.named;
  }

  pub untouched : (new : Open) → (new.tables ≡ old.tables) × (new.txns ≡ old.txns) → Pends new pending
  untouched new (tables, txns) = same_pends new txns (ap (λ t. database t) tables)

  -- ---- a commit that is a step of the machine of transactions

  -- the order does to the tables what the commit does
  pub record Steps (c : CommitRecord) (order : Order) : Type 0 where
    pub given : Answer
    pub orderly : IsOrderly order
    pub comes : happens order state
        ≡ record { answer = given; state = record { tables = (do_commit c base).tables; pending = pending } }
    pub named : AllByRecursion IsNamed (do_commit c base).tables

  moved : (c : CommitRecord) (order : Order) → Steps c order → (new : Open) → new.txns ≡ old.txns
      → database new.tables ≡ do_commit c base → Pends new pending
  moved c order step new txns tables = record {
    shows = subst (λ t. shown.Shows t pending) (sym txns) pends.shows;
    sound = subst (λ (d : Database). Sound record { tables = d.tables; pending = pending }) (sym tables)
        (subst Sound (ap (λ (o : Outcome). o.state) step.comes) (sound_happens order state step.orderly pends.sound));
    named = subst (λ (d : Database). AllByRecursion IsNamed d.tables) (sym tables) step.named;
  }

  pub commit_pends : (c : CommitRecord) (order : Order) → Steps c order → (new : Open) (result : Result Done Trouble)
      → CommitsTo c old new result → PendsOut result new pending pending
  commit_pends c order step new (Ok done) did = λ on. by done.wrote refl
    where
      by : (wrote : Bool) → done.wrote ≡ wrote → Pends new pending
      by true is = moved c order step new did.txns (did.done ∙ ap (λ (b : Bool). if b then do_commit c base else base) is)
      by false is = same_pends new did.txns (did.done ∙ ap (λ (b : Bool). if b then do_commit c base else base) is)
  commit_pends c order step new (Err Memory) did = same_pends new did.txns (ap (λ t. database t) did.kept)
  commit_pends c order step new (Err (File name doubt)) did = tt

  -- ---- a put

  pub put_steps : (name : List ℕ) (item : Tree) (table : Table) → table_in name base.tables ≡ Some table → Fits table.definition item
      → holder (lock_of (change (write name item))) pending ≡ None
      → Steps (write_of base.version name item) (single (change (write name item)))
  put_steps name item table is fit free =
      let call : Call = change (write name item) in record {
        given = replied calls.done;
        orderly = tt;
        comes = single_happens base.tables pending call (Some table) is
            (put_free base.tables pending name item table ((fits_is table.definition item).1 fit) free);
        named = each_ops IsNamed keeps_names (write name item ∷ []) base.tables pends.named;
      }

  -- ---- tables that are made and taken away

  named_behind : (op : SchemaOperation) → IsLawful record { version = base.version + 1; schema_operations = op ∷ []; operations = [] } base
      → AllByRecursion IsNamed (do_schema_op op base.tables)
  named_behind op lawful = each_schema_op IsNamed keeps_names op base.tables lawful.applies.0 pends.named

  pub create_steps : (d : Definition) → IsLawful (create_commit d base) base
      → Steps (create_commit d base) (make (with_cookie (base.version + 1) d))
  create_steps d lawful =
      let one : Definition = with_cookie (base.version + 1) d in
      let some = lawful.applies.0.0.attributes.some in record {
        given = ok;
        orderly = omega (arith, some);
        comes = make_happens base.tables pending one lawful.applies.0.1;
        named = named_behind (create one) lawful;
      }

  pub delete_steps : (name : List ℕ) → IsLawful (delete_commit name base) base → holder (whole_table name) pending ≡ None
      → Steps (delete_commit name base) (drop name)
  delete_steps name lawful free = record {
    given = ok;
    orderly = tt;
    comes = drop_happens base.tables pending name lawful.applies.0 free;
    named = named_behind (drop_table name) lawful;
  }

-- ---- a command on transactions, as one that is tried

module _ {old new : Open} {c : Command} {result : Result Done Trouble} (did : Transacts old new c result) where
  shows_on : {past : Past} {commits : List CommitRecord} {synced : ℕ} → OpenShows old past commits synced → OpenShows new past commits
      synced
  shows_on {past} {commits} {synced} h = record {
    same = ap (λ t. database t) did.tables ∙ h.same;
    log = subst (λ l. TxnStands past l commits synced) (sym did.log) h.log;
    taken = h.taken;
    sound = h.sound;
  }

  tries_out : {past : Past} {commits : List CommitRecord} {synced : ℕ} (e : Effect) (r : Result Done Trouble)
      → OpenShows new past commits synced → ToldOut e r → Tries e commits synced r new past past
  tries_out e (Ok done) h out =
      only_told h e out.reply done
      (record { answer = out.answer; entry = out.entry; settles = out.settles; halts = out.halts }) out.is
  tries_out e (Err Memory) h out = wanted_memory h e out
  tries_out e (Err (File name doubt)) h out = absurd out

  pub transacted : {past : Past} {commits : List CommitRecord} {synced : ℕ} (pending : List Txn) → OpenShows old past commits synced
      → Pends old pending → Tries (effect (made commits) pending c) commits synced result new past past
  transacted {past} {commits} {synced} pending h pends =
      let is : durable old ≡ made commits = ap (λ (d : Database). record { database = d }) h.same in
      tries_out (effect (made commits) pending c) result (shows_on h)
      (subst (λ (w : Durable). ToldOut (effect w pending c) result) is (did.out pending pends))

  never_file : (e : Effect) (r : Result Done Trouble) → ToldOut e r → (name : List ℕ) (doubt : Bool) → IsErrOf r (File name doubt) → ⊥
  never_file e (Ok done) out name doubt is = absurd (cc is)
  never_file e (Err Memory) out name doubt is = absurd (cc is)
  never_file e (Err (File other one)) out name doubt is = out

  pub no_file : HasPending old → (name : List ℕ) (doubt : Bool) → IsErrOf result (File name doubt) → ⊥
  no_file (pending, pends) name doubt is = never_file (effect (durable old) pending c) result (did.out pending pends) name doubt is

  plain_of : (e : Effect) (r : Result Done Trouble) → ToldOut e r → IfOk r (λ done. IsPlain (answer done.reply))
  plain_of e (Ok done) out = subst (λ (d : Done). IsPlain (answer d.reply)) (sym out.is) out.plain
  plain_of e (Err trouble) out = tt

  pub plain_told : HasPending old → IfOk result (λ done. IsPlain (answer done.reply))
  plain_told (pending, pends) = plain_of (effect (durable old) pending c) result (did.out pending pends)
