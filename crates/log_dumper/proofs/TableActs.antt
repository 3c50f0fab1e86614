-- The files of one table change, and all that a crash leaves still stands on the first database.
use Rattle.std.proofs.Common.{◌≡◌, ℕ, ◌<◌, ◌≤◌, arith, Bool, true, false, if◌then◌else◌, List, Option, None, Some, option_and_then, refl, ap, ◌∙◌, subst}
use Rattle.db_model.specs.Commits.{CommitRecord}
use Rattle.db_model.specs.Database.{Contents, same_name}
use Rattle.db_model.specs.Definitions.{Definition}
use Rattle.dump_laws.specs.Contents.{has}
use Rattle.dump_laws.specs.Directory.{TableOf, Schema, definition_of, reached_after, schema_after, of_table}
use Rattle.dump_laws.specs.Effects.{Between}
use Rattle.dump_laws.specs.Lists.{view_of}
use Rattle.dump_laws.specs.Order.{AreInTurn, First}
use Rattle.dump_laws.proofs.Names.{name_is, is_name}
use Rattle.dump_laws.proofs.Options.{some_same}
use Rattle.dump_laws.proofs.Stricts.{cookies_reached}
use Rattle.log_dumper.specs.Ordered.{IsTableInOrder, IsTableUpTo, synced_version, StandsOn, IsOrdered, standing, IsDefined}
use Rattle.log_dumper.specs.Stored.{StoredTable, Stored, contents_at, with_table, Cut, synced_ops, IsCut, cut_table, commits_at, image_at}
use Rattle.log_dumper.proofs.Cuts.{in_turn_at, reached_at, none_above}
use Rattle.log_dumper.proofs.OneImage.{reached_on, schema_on, files_moved}

-- ---- tables that stand

pub record Found (commits : List CommitRecord) (schema : Schema) (name : List ℕ) (d : Definition) : Type 0 where
  pub last : Schema
  pub reached : schema_after commits schema ≡ Some last
  pub table : TableOf (Unit {0})
  pub stands : last.tables name ≡ Some table
  pub is : table.definition ≡ d

pub found : (commits : List CommitRecord) (schema : Schema) (name : List ℕ) (d : Definition) → standing commits schema name ≡ Some d
    → Found commits schema name d
found commits schema name d is = go (schema_after commits schema) refl is
  where
    at : (last : Schema) → schema_after commits schema ≡ Some last → (t : Option (TableOf (Unit {0}))) → last.tables name ≡ t
        → definition_of t ≡ Some d → Found commits schema name d
    at last reached None stands h = cc h
    at last reached (Some table) stands h =
        record { last = last; reached = reached; table = table; stands = stands; is = some_same table.definition d h }

    go : (s : Option Schema) → schema_after commits schema ≡ s → option_and_then (λ last. definition_of (last.tables name)) s ≡ Some d
        → Found commits schema name d
    go None reached h = cc h
    go (Some last) reached h = at last reached (last.tables name) refl h

pub stands_so : (commits : List CommitRecord) (schema last : Schema) (name : List ℕ) (table : TableOf (Unit {0}))
    → schema_after commits schema ≡ Some last → last.tables name ≡ Some table → standing commits schema name ≡ Some table.definition
stands_so commits schema last name table reached stands =
    ap (option_and_then (λ now. definition_of (now.tables name))) reached ∙ ap definition_of stands

-- ---- between, for a table that stands

abbrev pub BetweenAt : First → Stored → List ℕ → ℕ → Definition → Contents → Type 0
BetweenAt first stored name n d contents =
    Between d.kind (first.rows name d.kind d.cookie) (of_table name d.cookie (commits_at n stored)) (has contents)

module _ (first : First) (stored : Stored) (o : IsOrdered first stored) (name : List ℕ) where
  -- so many ops of this table, and of the others those that are synced
  abbrev one_cut : ℕ → ℕ → Cut
  one_cut n k = record { commits = n; ops = λ other. if same_name name other then k else synced_ops (stored.tables other).changes }

  left_one : (n k : ℕ) → stored.synced ≤ n → synced_ops (stored.tables name).changes ≤ k → IsCut (one_cut n k) stored
  left_one n k low enough = record { commits = low; ops = λ other. go other (same_name name other) refl }
    where
      go : (other : List ℕ) (b : Bool) → same_name name other ≡ b
          → synced_ops (stored.tables other).changes ≤ (if b then k else synced_ops (stored.tables other).changes)
      go other true same = subst (λ t. synced_ops (stored.tables t).changes ≤ k) (name_is name other same) enough
      go other false apart = omega arith

  image_of : (n k : ℕ) → stored.synced ≤ n → synced_ops (stored.tables name).changes ≤ k → StandsOn first (image_at (one_cut n k) stored)
  image_of n k low enough = o.each (one_cut n k) (left_one n k low enough)

  pub between_now : (n k : ℕ) → stored.synced ≤ n → synced_ops (stored.tables name).changes ≤ k → (d : Definition)
      → standing (commits_at n stored) first.schema name ≡ Some d
      → BetweenAt first stored name n d (contents_at d.kind d.cookie (cut_table k (stored.tables name)))
  between_now n k low enough d is =
      let f : Found (commits_at n stored) first.schema name d = found (commits_at n stored) first.schema name d is in
      subst (λ e. BetweenAt first stored name n e (contents_at e.kind e.cookie (cut_table k (stored.tables name)))) f.is
      (subst (λ b. BetweenAt first stored name n f.table.definition (contents_at f.table.definition.kind f.table.definition.cookie
      (cut_table (if b then k else synced_ops (stored.tables name).changes) (stored.tables name))))
      (is_name name name refl)
      ((image_of n k low enough).on.between f.last f.reached name f.table f.stands))

  -- its cookie is reached with the synced commits
  pub cookie_reached : (d : Definition) → IsDefined first stored name (Some d) → d.cookie ≤ synced_version first stored
  cookie_reached d defined =
      let f : Found (commits_at stored.synced stored) first.schema name d =
      found (commits_at stored.synced stored) first.schema name d (defined stored.synced (omega arith)) in
      let h : StandsOn first (image_at (one_cut stored.synced (synced_ops (stored.tables name).changes)) stored) =
      image_of stored.synced (synced_ops (stored.tables name).changes) (omega arith) (omega arith) in
      let in_turn = in_turn_at first.schema.version stored stored.synced o.in_turn in
      subst (λ e. e.cookie ≤ synced_version first stored) f.is
      (subst (λ v. f.table.definition.cookie ≤ v) (reached_on first _ h.on in_turn)
      (cookies_reached (view_of (image_at (one_cut stored.synced (synced_ops (stored.tables name).changes)) stored)) f.last name f.table
      h.strict (schema_on first _ h.on in_turn ∙ f.reached) f.stands))

  -- ---- other files for the table

  module _ (table : StoredTable) where
    abbrev new : Stored
    new = with_table name table stored

    abbrev old_cut : Cut → Cut
    old_cut cut = record {
      commits = cut.commits;
      ops = λ other. if same_name name other then synced_ops (stored.tables name).changes else cut.ops other;
    }

    old_left : (cut : Cut) → IsCut cut new → IsCut (old_cut cut) stored
    old_left cut left = record { commits = left.commits; ops = λ other. go other (same_name name other) refl (left.ops other) }
      where
        go : (other : List ℕ) (b : Bool) → same_name name other ≡ b
            → synced_ops (if b then table else stored.tables other).changes ≤ cut.ops other
            → synced_ops (stored.tables other).changes ≤ (if b then synced_ops (stored.tables name).changes else cut.ops other)
        go other true same h =
            subst (λ t. synced_ops (stored.tables t).changes ≤ synced_ops (stored.tables name).changes) (name_is name other same)
            (omega arith)
        go other false apart h = h

    -- of this table, and of each other
    of_each : (P : List ℕ → StoredTable → Type 0) → P name table → ((other : List ℕ) → P other (stored.tables other))
        → (other : List ℕ) → P other (new.tables other)
    of_each P own others other = go (same_name name other) refl
      where
        go : (b : Bool) → same_name name other ≡ b → P other (if b then table else stored.tables other)
        go true same = subst (λ t. P t table) (name_is name other same) own
        go false apart = others other

    module _ (between : (n k : ℕ) → stored.synced ≤ n → synced_ops table.changes ≤ k → (d : Definition)
        → standing (commits_at n stored) first.schema name ≡ Some d
        → BetweenAt first stored name n d (contents_at d.kind d.cookie (cut_table k table)))
        (upto : IsTableUpTo (synced_version first stored) table) where
      new_each : (cut : Cut) → IsCut cut new → StandsOn first (image_at cut new)
      new_each cut left =
          files_moved first (image_at (old_cut cut) stored) (image_at cut new).files
          (λ last reached other t stands. at last reached other t stands (same_name name other) refl (left.ops other))
          (λ other kind cookie lt. none_above (synced_version first stored) (new.tables other) (cut.ops other) kind cookie
          (of_each (λ t u. IsTableUpTo (synced_version first stored) u) upto o.cookies other) (young cookie lt))
          h
        where
          h : StandsOn first (image_at (old_cut cut) stored)
          h = o.each (old_cut cut) (old_left cut left)

          in_turn : AreInTurn first.schema.version (commits_at cut.commits stored)
          in_turn = in_turn_at first.schema.version stored cut.commits o.in_turn

          young : (cookie : ℕ) → reached_after stored.version (commits_at cut.commits stored) < cookie
              → synced_version first stored < cookie
          young cookie lt = omega (
            arith,
            lt,
            reached_on first (image_at (old_cut cut) stored) h.on in_turn,
            reached_at first.schema.version stored stored.synced cut.commits left.commits,
          )

          at : (last : Schema) → schema_after (commits_at cut.commits stored) first.schema ≡ Some last → (other : List ℕ)
              (t : TableOf (Unit {0})) → last.tables other ≡ Some t → (b : Bool) → same_name name other ≡ b
              → synced_ops (if b then table else stored.tables other).changes ≤ cut.ops other
              → BetweenAt first stored other cut.commits t.definition (contents_at t.definition.kind t.definition.cookie
              (cut_table (cut.ops other) (if b then table else stored.tables other)))
          at last reached other t stands true same enough =
              subst (λ u. BetweenAt first stored u cut.commits t.definition (contents_at t.definition.kind t.definition.cookie
              (cut_table (cut.ops other) table)))
              (name_is name other same)
              (between cut.commits (cut.ops other) left.commits enough t.definition
              (stands_so (commits_at cut.commits stored) first.schema last name t reached
              (ap last.tables (name_is name other same) ∙ stands)))
          at last reached other t stands false apart enough =
              subst (λ b. BetweenAt first stored other cut.commits t.definition (contents_at t.definition.kind t.definition.cookie
              (cut_table (if b then synced_ops (stored.tables name).changes else cut.ops other) (stored.tables other))))
              apart (h.on.between last reached other t stands)

      pub table_changed : IsTableInOrder table → IsOrdered first new
      table_changed in_order = record {
        in_turn = o.in_turn;
        young = o.young;
        in_order = record {
          definitions = o.in_order.definitions;
          commits = o.in_order.commits;
          tables = of_each (λ t u. IsTableInOrder u) in_order o.in_order.tables;
        };
        cookies = of_each (λ t u. IsTableUpTo (synced_version first stored) u) upto o.cookies;
        each = new_each;
      }
