-- What is read of the tables of a live database.
use Rattle.std.proofs.Common.{◌≡◌, ℕ, List, [], ◌∷◌, length, map, Option, Some, None, false, refl, sym, ap, ◌∙◌, subst}
use Rattle.std.specs.Borrow.{Bor}
use Rattle.std.specs.Option.{option_map, option_copied}
use Rattle.std.specs.Result.{IsErrAnd}
use Rattle.std.specs.Prelude.{Result, Ok, IsTrue, IsSome, IsSomeAnd}
use Rattle.sqlite_items.specs.declared.items.Items.{Items}
use Rattle.term_core.specs.Tree.{Tree, atom}
use Rattle.term_core.specs.View.{tree_of}
use Rattle.term_core.specs.declared.term.Term.{Term}
use Rattle.file_trait.specs.DiskModel.{Past}
use Rattle.db_model.specs.Commits.{CommitRecord}
use Rattle.db_model.specs.Database.{Contents, Table, Database, records_of}
use Rattle.db_model.specs.Definitions.{Definition}
use Rattle.db_model.specs.Lawful.{table_in}
use Rattle.db_model.specs.Names.{IsTableName}
use Rattle.db_model.specs.View.{definition}
use Rattle.db_model.specs.declared.definition.Kind.{Kind}
use Rattle.db_model.specs.declared.definition.TableDef.{TableDef}
use Rattle.db_state.specs.Live.{database, definition_of, table_shown}
use Rattle.txn_core.specs.Calls as calls
use Rattle.txn_core.specs.Pending.{Txn}
use Rattle.mn_node.specs.Durable.{made}
use Rattle.mn_node.specs.Effects.{Effect, finds, no_table, unless_held, holder_for, get_effect, name_tree, info_of, options_of, info_effect}
use Rattle.mn_node.specs.Inside.Tries.{Tries}
use Rattle.mn_node.specs.Shown.{OpenShows}
use Rattle.mn_node.specs.declared.open.Done.{Done}
use Rattle.mn_node.specs.declared.open.Open.{Open}
use Rattle.mn_node.specs.declared.open.Trouble.{Trouble}
use Rattle.mn_node.specs.declared.open.Trouble.TheVariants.{Memory}
use Rattle.mn_node.specs.declared.reply.Reply.TheVariants as replies
use Rattle.mn_node.proofs.Named.{taken_named, unknown}
use Rattle.mn_node.proofs.Acts.{refuses_answered, has_some, none_tried, only_told, found_terms}

-- ---- a table that is looked up

module _ {R X : Type 0} (seen : R → X) (shown : Table → X) (found : Option (Bor R)) (known : Option Table)
    (same : option_map seen (option_copied found) ≡ option_map shown known) where
  pub some_seen : (one : Bor R) → found ≡ Some one → (table : Table) × (known ≡ Some table) × (seen one.now ≡ shown table)
  some_seen one is = by known refl (sym (ap (λ (f : Option (Bor R)). option_map seen (option_copied f)) is) ∙ same)
    where
      by : (k : Option Table) → known ≡ k → Some (seen one.now) ≡ option_map shown k
          → (table : Table) × (known ≡ Some table) × (seen one.now ≡ shown table)
      by None e h = absurd (cc h)
      by (Some table) e h = (table, e, cc h)

  pub none_seen : found ≡ None → known ≡ None
  none_seen is = by known refl (sym (ap (λ (f : Option (Bor R)). option_map seen (option_copied f)) is) ∙ same)
    where
      by : (k : Option Table) → known ≡ k → None ≡ option_map shown k → known ≡ None
      by None e h = e
      by (Some table) e h = absurd (cc h)

one_table : (known : Option Table) (one other : Table) → known ≡ Some one → known ≡ Some other → one ≡ other
one_table known one other x y = let both : Some one ≡ Some other = sym x ∙ y in cc both

-- its definition and its records
pub both_seen : {D R : Type 0} (defined : D → Definition) (seen : R → Kind × Contents) (def : Option (Bor D)) (found : Option (Bor R))
    (known : Option Table) → option_map defined (option_copied def) ≡ option_map definition_of known
    → option_map seen (option_copied found) ≡ option_map table_shown known → (d : Bor D) (r : Bor R) → def ≡ Some d → found ≡ Some r
    → (table : Table) × (known ≡ Some table) × (defined d.now ≡ table.definition) × ((seen r.now).1 ≡ table.contents)
both_seen defined seen def found known x y d r def_is found_is =
    let one = some_seen defined definition_of def known x d def_is in
    let other = some_seen seen table_shown found known y r found_is in
    let same = one_table known other.0 one.0 other.1 one.1 in
    (one.0, one.1, one.2, ap (λ (p : Kind × Contents). p.1) other.2 ∙ ap (λ (t : Table). t.contents) same)

-- what holds of the table that was found
pub some_and : (P : Table → Type 0) (found : Option Table) → IsSomeAnd found P → (table : Table) × (found ≡ Some table) × P table
some_and P None h = absurd h
some_and P (Some table) h = (table, refl, h)

-- a table that was found under another name of the same look-up is there
pub some_there : {found known : Option Table} {P : Table → Type 0} → found ≡ known → (table : Table) × (found ≡ Some table) × P table
    → IsSome known
some_there {found} {known} {P} same (table, is, holds) = subst (λ (o : Option Table). IsSome o) (sym is ∙ same) refl

-- ---- names

pub names_same : (defs : List TableDef) (tables : List Table) → map definition defs ≡ map definition_of tables
    → map (λ (def : TableDef). atom def.name) defs ≡ map name_tree tables
names_same [] [] h = refl
names_same [] (t ∷ tables) h = absurd (cc h)
names_same (def ∷ defs) [] h = absurd (cc h)
names_same (def ∷ defs) (t ∷ tables) h =
    let first : definition def ≡ definition_of t = cc h in
    let others : map definition defs ≡ map definition_of tables = cc h in
    (λ i. atom (first i).name ∷ names_same defs tables others i)

none_from : (defs : List TableDef) (tables : List Table) → map definition defs ≡ map definition_of tables → map name_tree tables ≡ []
    → defs ≡ []
none_from [] tables h none = refl
none_from (def ∷ defs) [] h none = absurd (cc h)
none_from (def ∷ defs) (t ∷ tables) h none = absurd (cc none)

-- ---- what is told

module _ {live : Open} {past : Past} {commits : List CommitRecord} {synced : ℕ} (shown : OpenShows live past commits synced) where
  abbrev base : Database
  base = (made commits).database

  -- the table that is known of the live database is that of the commits
  pub known_as : (name : List ℕ) → table_in name (database live.tables).tables ≡ table_in name base.tables
  known_as name = ap (λ (d : Database). table_in name d.tables) shown.same

  -- where only what a table can be called was looked up
  pub none_standing : (name : List ℕ) → (IsTableName name → table_in name (database live.tables).tables ≡ None)
      → table_in name base.tables ≡ None
  none_standing name h = unknown name base.tables (taken_named commits shown.taken) (λ named. sym (known_as name) ∙ h named)

  pub get_unknown : (pending : List Txn) (name : List ℕ) (key : Tree) (done : Done) → table_in name (database live.tables).tables ≡ None
      → done ≡ record { reply = replies.NoTable name; wrote = false; settles = false; halts = false }
      → Tries (get_effect (table_in name base.tables) pending name key) commits synced (Ok done) live past past
  get_unknown pending name key done none told =
      only_told shown _ (replies.NoTable name) done
      (refuses_answered _ (no_table name) (ap (λ (f : Option Table). get_effect f pending name key) (sym (known_as name) ∙ none))) told

  pub get_held : (pending : List Txn) (name : List ℕ) (key : Tree) (table : Table) → table_in name (database live.tables).tables ≡ Some
      table
      → (by : Option (List ℕ)) → holder_for (calls.read name key) pending ≡ by
      → get_effect (table_in name base.tables) pending name key ≡ unless_held by (finds (records_of key table.contents))
  get_held pending name key table is by held =
      ap (λ (f : Option Table). get_effect f pending name key) (sym (known_as name) ∙ is)
      ∙ ap (λ (h : Option (List ℕ)). unless_held h (finds (records_of key table.contents))) held

  get_is : (pending : List Txn) (name : List ℕ) (key : Tree) (table : Table) → table_in name (database live.tables).tables ≡ Some table
      → holder_for (calls.read name key) pending ≡ None
      → get_effect (table_in name base.tables) pending name key ≡ finds (records_of key table.contents)
  get_is pending name key table is free =
      ap (λ (f : Option Table). get_effect f pending name key) (sym (known_as name) ∙ is)
      ∙ ap (λ (h : Option (List ℕ)). unless_held h (finds (records_of key table.contents))) free

  pub get_known : (pending : List Txn) (name : List ℕ) (key : Tree) (table : Table) (rows : List Term) (found : Items Term) (done : Done)
      → table_in name (database live.tables).tables ≡ Some table → holder_for (calls.read name key) pending ≡ None
      → map tree_of rows ≡ records_of key table.contents
      → map tree_of found ≡ map tree_of rows
      → done ≡ record { reply = replies.Found found; wrote = false; settles = false; halts = false }
      → Tries (get_effect (table_in name base.tables) pending name key) commits synced (Ok done) live past past
  get_known pending name key table rows found done is free read copied told =
      found_terms shown (records_of key table.contents) _ found done (get_is pending name key table is free) told (copied ∙ read)

  pub get_wants : (pending : List Txn) (name : List ℕ) (key : Tree) (table : Table) (rows : List Term) (result : Result Done Trouble)
      → table_in name (database live.tables).tables ≡ Some table → holder_for (calls.read name key) pending ≡ None
      → map tree_of rows ≡ records_of key table.contents
      → (map tree_of rows ≡ [] → ⊥) → IsErrAnd result (λ trouble. trouble ≡ Memory)
      → Tries (get_effect (table_in name base.tables) pending name key) commits synced result live past past
  get_wants pending name key table rows result is free read some wanted =
      none_tried shown _ result (subst (λ (e : Effect). IsTrue e.takes_memory) (sym (get_is pending name key table is free))
      (has_some (records_of key table.contents) (λ none. some (read ∙ none)))) wanted

  names_are : (defs : List TableDef) → map definition defs ≡ map definition_of (database live.tables).tables
      → map definition defs ≡ map definition_of base.tables
  names_are defs same = same ∙ ap (λ (d : Database). map definition_of d.tables) shown.same

  pub names_known : (defs : List TableDef) (found : Items Term) (done : Done)
      → map definition defs ≡ map definition_of (database live.tables).tables
      → map tree_of found ≡ map (λ (def : TableDef). atom def.name) defs
      → done ≡ record { reply = replies.Found found; wrote = false; settles = false; halts = false }
      → Tries (finds (map name_tree base.tables)) commits synced (Ok done) live past past
  names_known defs found done same named told =
      found_terms shown (map name_tree base.tables) _ found done refl told (named ∙ names_same defs base.tables (names_are defs same))

  pub names_want : (defs : List TableDef) (result : Result Done Trouble)
      → map definition defs ≡ map definition_of (database live.tables).tables → (defs ≡ [] → ⊥)
      → IsErrAnd result (λ trouble. trouble ≡ Memory)
      → Tries (finds (map name_tree base.tables)) commits synced result live past past
  names_want defs result same some wanted =
      none_tried shown _ result
      (has_some (map name_tree base.tables) (λ none. some (none_from defs base.tables (names_are defs same) none))) wanted

  info_is : (name : List ℕ) (table : Table) → table_in name (database live.tables).tables ≡ Some table
      → info_effect (table_in name base.tables) name ≡ finds (info_of table)
  info_is name table is = ap (λ (f : Option Table). info_effect f name) (sym (known_as name) ∙ is)

  pub info_unknown : (name : List ℕ) (done : Done) → table_in name (database live.tables).tables ≡ None
      → done ≡ record { reply = replies.NoTable name; wrote = false; settles = false; halts = false }
      → Tries (info_effect (table_in name base.tables) name) commits synced (Ok done) live past past
  info_unknown name done none told =
      only_told shown _ (replies.NoTable name) done
      (refuses_answered _ (no_table name) (ap (λ (f : Option Table). info_effect f name) (sym (known_as name) ∙ none))) told

  pub info_known : (name : List ℕ) (table : Table) (d : Definition) (size : ℕ) (found : Items Term) (done : Done)
      → table_in name (database live.tables).tables ≡ Some table → d ≡ table.definition → size ≡ length table.contents
      → map tree_of found ≡ options_of d size
      → done ≡ record { reply = replies.Found found; wrote = false; settles = false; halts = false }
      → Tries (info_effect (table_in name base.tables) name) commits synced (Ok done) live past past
  info_known name table d size found done is defined counted read told =
      found_terms shown (info_of table) _ found done (info_is name table is) told
      (read ∙ ap (λ (x : Definition). options_of x size) defined ∙ ap (options_of table.definition) counted)

  pub info_wants : (name : List ℕ) (table : Table) (result : Result Done Trouble)
      → table_in name (database live.tables).tables ≡ Some table → IsErrAnd result (λ trouble. trouble ≡ Memory)
      → Tries (info_effect (table_in name base.tables) name) commits synced result live past past
  info_wants name table result is wanted =
      none_tried shown _ result (subst (λ (e : Effect). IsTrue e.takes_memory) (sym (info_is name table is)) refl) wanted
