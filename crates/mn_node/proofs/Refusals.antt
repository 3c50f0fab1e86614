-- The effects of commands by their cases.
use Rattle.std.proofs.Common.{◌≡◌, ℕ, ◌+◌, ◌<◌, ◌≤◌, ◌^◌, Bool, true, false, if◌then◌else◌, List, [], length, Option, Some, None, is_some, Result, Ok, Err, refl, sym, ap, ◌∙◌, subst, inl, inr, arith}
use Rattle.std.specs.Prelude.{nat_le, ◌&&◌, ◌==◌, IsSome, IsNone, IsSomeAnd, IfOk, IfErr}
use Rattle.std.specs.Bool.{Decides}
use Rattle.std.proofs.lemmas.Bool.{eqb-true, eq-eqb, leb-true}
use Rattle.std.proofs.lemmas.List.Elements.{All-nil, All-cons}
use Rattle.std.proofs.lemmas.Bool.Decides.{leb_tells}
use Rattle.std.proofs.lemmas.Map.Text.{is_eq-slice_cmp}
use Rattle.std.proofs.lemmas.Slice.Eq.{bytes_eq-Decides}
use Rattle.term_core.specs.Tree.{Tree, int, atom, tuple, list, bin, no_trees, tree, count, depth}
use Rattle.term_core.specs.Written.{canon}
use Rattle.db_model.specs.Commits.{CommitRecord}
use Rattle.db_model.specs.Database.{Table, Database, same_name}
use Rattle.db_model.specs.Definitions.{Definition}
use Rattle.db_model.specs.Lawful.{table_in, IsLawful, IsAllowedIn, HasCookie}
use Rattle.db_state.specs.Live.{database}
use Rattle.file_trait.specs.DiskModel.{Past}
use Rattle.db_model.specs.Ops.{write}
use Rattle.db_model.specs.Records.{HasElements, Fits}
use Rattle.txn_core.specs.Calls.{change}
use Rattle.txn_core.specs.Locks.{whole_table}
use Rattle.txn_core.specs.Pending.{Txn, holder}
use Rattle.txn_core.specs.Refusals.{has_elements, fits}
use Rattle.txn_log.specs.Commits.{commit_text}
use Rattle.schema_txn.specs.Commands.{create_commit, delete_commit, RefusesCreate, RefusesDelete}
use Rattle.schema_txn.specs.declared.error.SchemaErr.{SchemaErr}
use Rattle.schema_txn.specs.declared.error.SchemaErr.TheVariants as refusals
use Rattle.mn_node.specs.Effects.{Answer, exists, no_table, bad_record, locked, bad_name, bad_option, too_many_tables, too_many_versions, too_long, Effect, refuses, unless, unless_held, holder_for, length_refusal, adds, commits, write_of, put_effect, version_refusal, create_refusal, create_effect, delete_effect}
use Rattle.mn_node.specs.Durable.{made}
use Rattle.db_model.specs.declared.error.DefErr.{DefErr}
use Rattle.db_model.specs.declared.error.DefErr.TheVariants as ill
use Rattle.mn_node.specs.Inside.Tries.{Tries, IsRefusalOf, IsUndefined, only}
use Rattle.mn_node.specs.Seen.{answer}
use Rattle.mn_node.specs.Shown.{OpenShows}
use Rattle.mn_node.specs.declared.open.Done.{Done}
use Rattle.mn_node.specs.declared.open.Open.{Open}
use Rattle.mn_node.specs.declared.open.Trouble.{Trouble}
use Rattle.mn_node.specs.declared.open.Trouble.TheVariants.{Memory}
use Rattle.mn_node.specs.declared.reply.Reply.{Reply}
use Rattle.mn_node.specs.declared.reply.Reply.TheVariants as replies
use Rattle.mn_node.proofs.Acts.{IsAnswered, refuses_answered, only_told, wanted_memory, tries_as}

-- ---- tests

pub le_true : (n m : ℕ) → n ≤ m → nat_le n m ≡ true
le_true n m h = elim (leb_tells n m) [ inl t ↦ t.0 | inr f ↦ absurd (let over = f.1 in omega (arith, h, over)) ]

pub le_false : (n m : ℕ) → m < n → nat_le n m ≡ false
le_false n m h = elim (leb_tells n m) [ inl t ↦ absurd (let within = t.1 in omega (arith, h, within)) | inr f ↦ f.0 ]

and_true : (a b : Bool) → (a && b) ≡ true → (a ≡ true) × (b ≡ true)
and_true true b h = (refl, h)
and_true false b h = absurd (cc)

both_true : (a b : Bool) → a ≡ true → b ≡ true → (a && b) ≡ true
both_true a b x y = ap (λ (t : Bool). t && b) x ∙ y

-- ---- a record of a table

same_name_is : (name other : List ℕ) → Decides (same_name name other) (name ≡ other)
same_name_is name other = (
  λ is. (bytes_eq-Decides name other).0 (sym (is_eq-slice_cmp name other) ∙ is),
  λ is. is_eq-slice_cmp name other ∙ (bytes_eq-Decides name other).1 is,
)

number_is : (n m : ℕ) → Decides (n == m) (n ≡ m)
number_is n m = (λ is. eqb-true n m is, λ is. eq-eqb n m is)

elements_is : (d : Definition) (t : Tree) → Decides (has_elements d t) (HasElements d t)
elements_is d (int n) = (λ is. absurd (cc is), λ h. absurd h)
elements_is d (atom a) = (λ is. absurd (cc is), λ h. absurd h)
elements_is d (list ts) = (λ is. absurd (cc is), λ h. absurd h)
elements_is d (bin b) = (λ is. absurd (cc is), λ h. absurd h)
elements_is d (tuple no_trees) = (λ is. absurd (cc is), λ h. absurd h)
elements_is d (tuple (tree (int n) ts)) = (λ is. absurd (cc is), λ h. absurd h)
elements_is d (tuple (tree (list us) ts)) = (λ is. absurd (cc is), λ h. absurd h)
elements_is d (tuple (tree (bin b) ts)) = (λ is. absurd (cc is), λ h. absurd h)
elements_is d (tuple (tree (tuple us) ts)) = (λ is. absurd (cc is), λ h. absurd h)
elements_is d (tuple (tree (atom a) ts)) = (
  λ is. let parts = and_true (same_name a d.record_name) (count ts == length d.attributes) is in
      ((same_name_is a d.record_name).0 parts.0, (number_is (count ts) (length d.attributes)).0 parts.1),
  λ h. both_true (same_name a d.record_name) (count ts == length d.attributes) ((same_name_is a d.record_name).1 h.0)
      ((number_is (count ts) (length d.attributes)).1 h.1),
)

pub fits_is : (d : Definition) (t : Tree) → Decides (fits d t) (Fits d t)
fits_is d t = (
  λ is. let parts = and_true (has_elements d t) (nat_le (depth t) 100 && nat_le (length (canon t)) (2 ^ 26)) is in
      let small = and_true (nat_le (depth t) 100) (nat_le (length (canon t)) (2 ^ 26)) parts.1 in (
        (elements_is d t).0 parts.0,
        record {
          levels = leb-true (depth t) 100 small.0;
          short = leb-true (length (canon t)) (2 ^ 26) small.1;
        },
      ),
  λ h. both_true (has_elements d t) (nat_le (depth t) 100 && nat_le (length (canon t)) (2 ^ 26)) ((elements_is d t).1 h.0)
      (both_true (nat_le (depth t) 100) (nat_le (length (canon t)) (2 ^ 26)) (le_true (depth t) 100 h.1.levels)
      (le_true (length (canon t)) (2 ^ 26) h.1.short)),
)

-- ---- a put

pub put_unknown : (found : Option Table) (version : ℕ) (pending : List Txn) (name : List ℕ) (item : Tree) → found ≡ None
    → put_effect found version pending name item ≡ refuses (no_table name)
put_unknown found version pending name item is = ap (λ (f : Option Table). put_effect f version pending name item) is

-- a put where nothing but a lock can bar it
abbrev pub put_unless : (version : ℕ) (pending : List Txn) (name : List ℕ) (item : Tree) → Option (List ℕ) → Effect
put_unless version pending name item by = unless_held by (commits false (write_of version name item))

abbrev put_if : (b : Bool) (version : ℕ) (pending : List Txn) (name : List ℕ) (item : Tree) → Effect
put_if b version pending name item =
    if b then put_unless version pending name item (holder_for (change (write name item)) pending) else refuses (bad_record item)

pub put_unfit : (found : Option Table) (table : Table) (version : ℕ) (pending : List Txn) (name : List ℕ) (item : Tree)
    → found ≡ Some table
    → (Fits table.definition item → ⊥) → put_effect found version pending name item ≡ refuses (bad_record item)
put_unfit found table version pending name item is unfit =
    ap (λ (f : Option Table). put_effect f version pending name item) is ∙ by (fits table.definition item) refl
  where
    by : (b : Bool) → fits table.definition item ≡ b → put_if b version pending name item ≡ refuses (bad_record item)
    by true fit = absurd (unfit ((fits_is table.definition item).0 fit))
    by false fit = refl

pub put_fit : (found : Option Table) (table : Table) (version : ℕ) (pending : List Txn) (name : List ℕ) (item : Tree)
    → found ≡ Some table → Fits table.definition item
    → (by : Option (List ℕ)) → holder_for (change (write name item)) pending ≡ by
    → put_effect found version pending name item ≡ put_unless version pending name item by
put_fit found table version pending name item is fit by held =
    ap (λ (f : Option Table). put_effect f version pending name item) is
    ∙ ap (λ (b : Bool). put_if b version pending name item) ((fits_is table.definition item).1 fit)
    ∙ ap (put_unless version pending name item) held

-- it is lawful where the table stands and can have the record
pub write_lawful : (database : Database) (table : Table) (name : List ℕ) (item : Tree) → table_in name database.tables ≡ Some table
    → Fits table.definition item → IsLawful (write_of database.version name item) database
write_lawful database table name item is fit = record {
  version = refl;
  applies = tt;
  cookies = All-nil (HasCookie database.version);
  allowed = All-cons (IsAllowedIn database.tables) (write name item) [] allowed (All-nil (IsAllowedIn database.tables));
}
  where
    allowed : IsAllowedIn database.tables (write name item)
    allowed = subst (λ (f : Option Table). IsSomeAnd f (λ t. Fits t.definition item)) (sym is) fit

-- ---- a commit

pub short_commit : (settles : Bool) (c : CommitRecord) → length (commit_text c) ≤ 2 ^ 28 → commits settles c ≡ adds settles c
short_commit settles c h =
    ap (λ (b : Bool). unless (if b then None else Some too_long) (adds settles c)) (le_true (length (commit_text c)) (2 ^ 28) h)

pub long_commit : (settles : Bool) (c : CommitRecord) → 2 ^ 28 < length (commit_text c) → IsAnswered (commits settles c) too_long
long_commit settles c h =
    let is = ap (λ (b : Bool). unless (if b then None else Some too_long) (adds settles c))
    (le_false (length (commit_text c)) (2 ^ 28) h) in
    record {
      answer = ap (λ (e : Effect). e.answer) is;
      entry = ap (λ (e : Effect). e.entry) is;
      settles = ap (λ (e : Effect). e.settles) is;
      halts = ap (λ (e : Effect). e.halts) is;
    }

pub short_free : (c : CommitRecord) → length (commit_text c) ≤ 2 ^ 28 → length_refusal c ≡ None
short_free c h = ap (λ (b : Bool). if b then None else Some too_long) (le_true (length (commit_text c)) (2 ^ 28) h)

pub long_refused : (c : CommitRecord) → 2 ^ 28 < length (commit_text c) → length_refusal c ≡ Some too_long
long_refused c h = ap (λ (b : Bool). if b then None else Some too_long) (le_false (length (commit_text c)) (2 ^ 28) h)

-- ---- refusals of commands on tables

none_is_none : {T : Type 0} (found : Option T) → IsNone found → is_some found ≡ false
none_is_none None h = refl
none_is_none (Some x) h = absurd (cc h)

none_and_some : {T : Type 0} (found : Option T) → IsNone found → IsSome found → ⊥
none_and_some None none some = absurd (cc some)
none_and_some (Some x) none some = absurd (cc none)

some_is_some : {T : Type 0} (found : Option T) → IsSome found → is_some found ≡ true
some_is_some None h = absurd (cc h)
some_is_some (Some x) h = refl

refused_answered : (refusal : Option Answer) (answer : Answer) (e : Effect) → e.halts ≡ false → refusal ≡ Some answer
    → IsAnswered (unless refusal e) answer
refused_answered refusal answer e halts is =
    subst (λ (r : Option Answer). IsAnswered (unless r e) answer) (sym is)
    (record { answer = refl; entry = refl; settles = refl; halts = halts })

free_if : (b c d : Bool) (one two three : Answer) → b ≡ false → c ≡ false → d ≡ false
    → (if b then Some one else (if c then Some two else (if d then Some three else None))) ≡ None
free_if b c d one two three x y z =
    ap (λ (t : Bool). if t then Some one else (if c then Some two else (if d then Some three else None))) x
    ∙ ap (λ (t : Bool). if t then Some two else (if d then Some three else None)) y
    ∙ ap (λ (t : Bool). if t then Some three else None) z

-- the refusals of a new table, by whether one of the name was found
abbrev unless_found : List ℕ → Database → Bool → Option Answer
unless_found name database found =
    if found then Some (exists name)
    else (if nat_le 1000 (length database.tables) then Some too_many_tables else version_refusal database)

-- where the commit is lawful nothing refuses it
pub create_free : (database : Database) (d : Definition) (name : List ℕ) → d.name ≡ name → IsLawful (create_commit d database) database
    → create_effect database name (Ok d) ≡ commits true (create_commit d database)
create_free database d name same lawful =
    let none : is_some (table_in name database.tables) ≡ false =
    ap (λ (n : List ℕ). is_some (table_in n database.tables)) (sym same)
    ∙ none_is_none (table_in d.name database.tables) lawful.applies.0.1 in
    ap (λ (r : Option Answer). unless r (commits true (create_commit d database)))
    (free_if (is_some (table_in name database.tables)) (nat_le 1000 (length database.tables)) (nat_le (2 ^ 64) (database.version + 1))
    (exists name) too_many_tables too_many_versions none (le_false 1000 (length database.tables) lawful.applies.0.2)
    (le_false (2 ^ 64) (database.version + 1) lawful.version.1))

abbrev pub delete_unless : Database → List Txn → List ℕ → Option (List ℕ) → Effect
delete_unless database pending name by = unless_held by (unless (version_refusal database) (commits true (delete_commit name database)))

pub delete_known : (database : Database) (pending : List Txn) (name : List ℕ) → IsSome (table_in name database.tables)
    → (by : Option (List ℕ)) → holder (whole_table name) pending ≡ by
    → delete_effect (table_in name database.tables) database pending name ≡ delete_unless database pending name by
delete_known database pending name stands by held = from (table_in name database.tables) stands
  where
    from : (found : Option Table) → IsSome found → delete_effect found database pending name ≡ delete_unless database pending name by
    from None h = absurd (cc h)
    from (Some table) h = ap (delete_unless database pending name) held

-- where the commit is lawful and the table is free nothing refuses it
pub delete_free : (database : Database) (pending : List Txn) (name : List ℕ) → IsLawful (delete_commit name database) database
    → holder (whole_table name) pending ≡ None
    → delete_effect (table_in name database.tables) database pending name ≡ commits true (delete_commit name database)
delete_free database pending name lawful free =
    delete_known database pending name lawful.applies.0 None free
    ∙ ap (λ (b : Bool). unless (if b then Some too_many_versions else None) (commits true (delete_commit name database)))
    (le_false (2 ^ 64) (database.version + 1) lawful.version.1)

takes_yet : (refusal : Option Answer) (e : Effect) → e.takes_memory ≡ true → (unless refusal e).takes_memory ≡ true
takes_yet None e is = is
takes_yet (Some answer) e is = is

pub commits_take : (settles : Bool) (c : CommitRecord) → (commits settles c).takes_memory ≡ true
commits_take settles c = takes_yet (length_refusal c) (adds settles c) refl

halts_never : (refusal : Option Answer) (e : Effect) → e.halts ≡ false → (unless refusal e).halts ≡ false
halts_never None e is = is
halts_never (Some answer) e is = is

commits_on : (settles : Bool) (c : CommitRecord) → (commits settles c).halts ≡ false
commits_on settles c = halts_never (length_refusal c) (adds settles c) refl

module _ {live : Open} {past : Past} {commits_of_log : List CommitRecord} {synced : ℕ}
    (shown : OpenShows live past commits_of_log synced) where
  abbrev base : Database
  base = (made commits_of_log).database

  told_as : (e : Effect) (reply : Reply) (result : Result Done Trouble) → result ≡ Ok (only reply) → IsAnswered e (answer reply)
      → Tries e commits_of_log synced result live past past
  told_as e reply result is answered =
      subst (λ r. Tries e commits_of_log synced r live past past) (sym is) (only_told shown e reply (only reply) answered refl)

  wants_as : (e : Effect) (result : Result Done Trouble) → result ≡ Err Memory → e.takes_memory ≡ true
      → Tries e commits_of_log synced result live past past
  wants_as e result is takes = subst (λ r. Tries e commits_of_log synced r live past past) (sym is) (wanted_memory shown e takes)

  pub create_refused : (d : Definition) (name : List ℕ) (error : SchemaErr) (result : Result Done Trouble) → d.name ≡ name
      → RefusesCreate error d (database live.tables) → IsRefusalOf error name result
      → Tries (create_effect base name (Ok d)) commits_of_log synced result live past past
  create_refused d name error result same why is = by error (subst (RefusesCreate error d) shown.same why) is
    where
      c : CommitRecord
      c = create_commit d base

      found : List ℕ → Bool
      found n = is_some (table_in n base.tables)

      by : (error : SchemaErr) → RefusesCreate error d base → IsRefusalOf error name result
          → Tries (create_effect base name (Ok d)) commits_of_log synced result live past past
      by (refusals.Exists other) (named, there) is =
          told_as _ (replies.Exists name) result is (refused_answered (create_refusal name base) (exists name) (commits true c)
          (commits_on true c)
          (ap (unless_found name base)
          (ap found (sym same)
          ∙ some_is_some (table_in d.name base.tables) (subst (λ (n : List ℕ). IsSome (table_in n base.tables)) named there))))
      by refusals.NoTable never is = absurd never
      by refusals.TooManyTables (none, many) is =
          told_as _ replies.TooManyTables result is (refused_answered (create_refusal name base) too_many_tables (commits true c)
          (commits_on true c)
          (ap (unless_found name base)
          (ap found (sym same) ∙ none_is_none (table_in d.name base.tables) none)
          ∙ ap (λ (b : Bool). if b then Some too_many_tables else version_refusal base) (le_true 1000 (length base.tables) many)))
      by refusals.TooManyVersions (none, few, last) is =
          told_as _ replies.TooManyVersions result is (refused_answered (create_refusal name base) too_many_versions (commits true c)
          (commits_on true c)
          (ap (unless_found name base)
          (ap found (sym same) ∙ none_is_none (table_in d.name base.tables) none)
          ∙ ap (λ (b : Bool). if b then Some too_many_tables else version_refusal base) (le_false 1000 (length base.tables) few)
          ∙ ap (λ (b : Bool). if b then Some too_many_versions else None) (le_true (2 ^ 64) (base.version + 1) last)))
      by refusals.Memory h is = wants_as _ result is (takes_yet (create_refusal name base) (commits true c) (commits_take true c))

  -- the options define none
  pub create_undefined : (name : List ℕ) (error : DefErr) (result : Result Done Trouble) → IsUndefined error name result
      → Tries (create_effect base name (Err error)) commits_of_log synced result live past past
  create_undefined name ill.BadName result is =
      told_as _ (replies.BadName name) result is (refuses_answered _ (bad_name name) refl)
  create_undefined name (ill.BadOption place) result is =
      told_as _ (replies.BadOption place) result is (refuses_answered _ (bad_option place) refl)
  create_undefined name ill.Memory result is = wants_as _ result is refl

  -- no table of this name stands
  pub delete_unknown : (pending : List Txn) (name : List ℕ) → table_in name base.tables ≡ None
      → IsAnswered (delete_effect (table_in name base.tables) base pending name) (no_table name)
  delete_unknown pending name none =
      refuses_answered _ (no_table name) (ap (λ (f : Option Table). delete_effect f base pending name) none)

  -- a table that stands and is free
  pub delete_refused : (pending : List Txn) (name : List ℕ) (error : SchemaErr) (result : Result Done Trouble)
      → IsSome (table_in name base.tables) → holder (whole_table name) pending ≡ None
      → RefusesDelete error name (database live.tables) → IsRefusalOf error name result
      → Tries (delete_effect (table_in name base.tables) base pending name) commits_of_log synced result live past past
  delete_refused pending name error result stands free why is =
      tries_as _ (delete_unless base pending name None) (delete_known base pending name stands None free)
      (by error (subst (RefusesDelete error name) shown.same why) is)
    where
      c : CommitRecord
      c = delete_commit name base

      by : (error : SchemaErr) → RefusesDelete error name base → IsRefusalOf error name result
          → Tries (delete_unless base pending name None) commits_of_log synced result live past past
      by (refusals.Exists other) never is = absurd never
      by refusals.NoTable none is = absurd (none_and_some (table_in name base.tables) none stands)
      by refusals.TooManyTables never is = absurd never
      by refusals.TooManyVersions (there, last) is =
          told_as _ replies.TooManyVersions result is (refused_answered (version_refusal base) too_many_versions (commits true c)
          (commits_on true c)
          (ap (λ (b : Bool). if b then Some too_many_versions else None) (le_true (2 ^ 64) (base.version + 1) last)))
      by refusals.Memory h is = wants_as _ result is (takes_yet (version_refusal base) (commits true c) (commits_take true c))

-- ---- a lock of a pending transaction

pub held_answered : (by : List ℕ) (e : Effect) → IsAnswered (unless_held (Some by) e) (locked by)
held_answered by e = record { answer = refl; entry = refl; settles = refl; halts = refl }

module _ {live : Open} {past : Past} {commits_of_log : List CommitRecord} {synced : ℕ}
    (held_shown : OpenShows live past commits_of_log synced) where
  -- a lock bars the command: its holder is told, or memory was wanting for the name
  pub held_tried : (e other : Effect) (by : List ℕ) (result : Result Done Trouble) → e ≡ unless_held (Some by) other
      → IfOk result (λ done. done ≡ only (replies.Locked by)) → IfErr result (λ trouble. trouble ≡ Memory)
      → Tries e commits_of_log synced result live past past
  held_tried e other by (Ok done) is told wanted =
      tries_as e (unless_held (Some by) other) is
      (only_told held_shown (unless_held (Some by) other) (replies.Locked by) done (held_answered by other) told)
  held_tried e other by (Err trouble) is told wanted =
      tries_as e (unless_held (Some by) other) is
      (subst (λ t. Tries (unless_held (Some by) other) commits_of_log synced (Err t) live past past) (sym wanted)
      (wanted_memory held_shown (unless_held (Some by) other) refl))
