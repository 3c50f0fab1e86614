-- What an image of a directory says: what is stored, but for some of that which is not synced.
use Rattle.std.proofs.Common.{◌≡◌, ◌⊎◌, inl, inr, ℕ, zero, suc, ◌≤◌, arith, List, [], ◌∷◌, ◌++◌, take, drop, Option, None, Some, option_map, refl, sym, ap, ◌∙◌, subst, append_assoc}
use Rattle.std.specs.List.{AllZip, AllByRecursion}
use Rattle.std.proofs.lemmas.List.{take-append-drop}
use Rattle.log_items.specs.Items.{HasItems}
use Rattle.disk_logs.specs.Rests.{FileHas}
use Rattle.db_model.specs.Definitions.{Definition}
use Rattle.db_model.specs.Names.{IsTableName}
use Rattle.dump_laws.specs.Contents.{IsKeyed}
use Rattle.dump_laws.specs.Lists.{Directory, view_of}
use Rattle.dump_laws.specs.Order.{IsCutOf}
use Rattle.store_files.specs.Forms.{AreItemsOf}
use Rattle.store_files.specs.Names.{dcd_of, dcl_of}
use Rattle.store_files.specs.Pairs.{Changes, ChangesHave}
use Rattle.store_files.specs.Schema.{HasSchema}
use Rattle.log_dumper.specs.Directory.{Files, State, DirectoryHas}
use Rattle.log_dumper.specs.Stored.{tables_at, StoredRecords, StoredOps, Stored, Cut, synced_ops, cut_changes, image_at, whole, with_commits, IsImageOf}
use Rattle.log_dumper.specs.Says.{changes_form, SaysSchema, SaysRecords, SaysChanges, Says, HasStoredRecords, HasStoredOps, HasDirectory}
use Rattle.log_dumper.proofs.TableNames.{told_name}

-- ---- the schema file

schema_said : (items : Option (List (List ℕ))) (version : ℕ) (definitions : List Definition) (file : Option (List ℕ)) → FileHas items file
    → SaysSchema items version definitions → HasSchema record { version = version; tables = definitions } file
schema_said None version definitions file none (zero', empty) = inr (none, zero', empty)
schema_said (Some items) version definitions file (bytes, is, has) says =
    inl record { counts = tt; bytes = bytes; there = is; items = items; listed = has; are = says }

-- ---- the files of a table

records_said : (items : Option (List (List ℕ))) (records : Option StoredRecords) (file : Option (List ℕ)) → FileHas items file
    → SaysRecords items records → HasStoredRecords records file
records_said None None file none says = none
records_said None (Some records) file none never = absurd never
records_said (Some items) None file has never = absurd never
records_said (Some items) (Some records) file (bytes, is, has) says =
    record { counts = tt; bytes = bytes; there = is; items = items; listed = has; are = says }

zip_take : {A B : Type 0} (R : A → B → Type 0) (n : ℕ) (xs : List A) (ys : List B) → AllZip R xs ys → AllZip R (take n xs) (take n ys)
zip_take R zero xs ys h = tt
zip_take R (suc n) [] [] h = tt
zip_take R (suc n) [] (y ∷ ys) h = absurd h
zip_take R (suc n) (x ∷ xs) [] h = absurd h
zip_take R (suc n) (x ∷ xs) (y ∷ ys) h = (h.0, zip_take R n xs ys h.1)

pub all_take : {A : Type 0} (P : A → Type 0) (n : ℕ) (xs : List A) → AllByRecursion P xs → AllByRecursion P (take n xs)
all_take P zero xs h = tt
all_take P (suc n) [] h = tt
all_take P (suc n) (x ∷ xs) h = (h.0, all_take P n xs h.1)

-- so many ops are left, and the synced ones among them
record OpsLeft (changes : Option StoredOps) (file : Option (List ℕ)) : Type 0 where
  n : ℕ
  enough : synced_ops changes ≤ n
  has : HasStoredOps (option_map (cut_changes n) changes) file

front_said : (file : Changes) (changes : StoredOps) (bytes : List ℕ) (items : List (List ℕ)) (k : ℕ) → file.items ≡ items
    → AreItemsOf changes_form changes.cookie changes.ops items → suc changes.synced ≤ k → HasItems bytes (take k items)
    → OpsLeft (Some changes) (Some bytes)
front_said file changes bytes [] k is never low has = absurd never
front_said file changes bytes (first ∷ contents) zero is says low has = absurd (omega (arith, low))
front_said file changes bytes (first ∷ contents) (suc n) is (head, texts, keyed) low has = record {
  n = n;
  enough = omega (arith, low);
  has = record {
    counts = tt;
    bytes = bytes;
    there = refl;
    items = first ∷ take n contents;
    listed = has;
    are = (head, zip_take changes_form.Says n contents changes.ops texts, all_take IsKeyed n changes.ops keyed);
  };
}

changes_said : (file : Option Changes) (changes : Option StoredOps) (bytes : Option (List ℕ)) → ChangesHave file bytes
    → SaysChanges file changes → OpsLeft changes bytes
changes_said None None bytes none says = record { n = 0; enough = omega arith; has = none }
changes_said None (Some changes) bytes none never = absurd never
changes_said (Some file) None bytes has never = absurd never
changes_said (Some file) (Some changes) read (bytes, is, (k, low, high, has)) (says, synced) =
    subst (OpsLeft (Some changes)) (sym is)
    (front_said file changes bytes file.items k refl says (subst (λ n. n ≤ k) synced low) has)

-- ---- the ops of each table that are left, whatever the name

module _ (s : State) (stored : Stored) (image : Files) (says : Says s stored) (has : DirectoryHas s image) where
  abbrev left_of : (name : List ℕ) → IsTableName name → OpsLeft (stored.tables name).changes (image (dcl_of name))
  left_of name valid = changes_said (s.tables name).changes (stored.tables name).changes (image (dcl_of name))
      (has.tables name valid).1 (says.tables name valid).1

  abbrev count_of : (name : List ℕ) → IsTableName name ⊎ (IsTableName name → ⊥) → ℕ
  count_of name (inl valid) = (left_of name valid).n
  count_of name (inr not) = synced_ops (stored.tables name).changes

  enough_of : (name : List ℕ) (told : IsTableName name ⊎ (IsTableName name → ⊥))
      → synced_ops (stored.tables name).changes ≤ count_of name told
  enough_of name (inl valid) = (left_of name valid).enough
  enough_of name (inr not) = omega arith

  has_of : (name : List ℕ) → IsTableName name → (told : IsTableName name ⊎ (IsTableName name → ⊥))
      → HasStoredOps (option_map (cut_changes (count_of name told)) (stored.tables name).changes) (image (dcl_of name))
  has_of name valid (inl also) = (left_of name also).has
  has_of name valid (inr not) = absurd (not valid)

  abbrev the_cut : Cut
  the_cut = record { commits = has.logs.n; ops = λ name. count_of name (told_name name) }

  abbrev the_directory : Directory
  the_directory = with_commits has.logs.one has.logs.two (image_at the_cut stored)

  pub image_said : (directory : Directory) × (of : IsImageOf stored directory) × HasDirectory image (tables_at of.cut stored) directory
  image_said = (
    the_directory,
    record {
      cut = the_cut;
      left = record {
        commits = subst (λ n. n ≤ has.logs.n) says.synced has.logs.enough;
        ops = λ name. enough_of name (told_name name);
      };
      commits = has.logs.is ∙ ap (λ cs. cs ++ take has.logs.n s.logs.after) says.before
          ∙ ap (λ cs. stored.before ++ take has.logs.n cs) says.after;
      is = refl;
    },
    record {
      schema = schema_said s.schema stored.version stored.definitions _ has.schema says.schema;
      in_previous = has.logs.in_previous;
      in_latest = has.logs.in_latest;
      tables_read = λ name valid. (
        records_said (s.tables name).records (stored.tables name).records (image (dcd_of name))
            (has.tables name valid).0 (says.tables name valid).0,
        has_of name valid (told_name name),
      );
      gives = λ name kind cookie. refl;
    },
  )

-- ---- its commits are those of now but for some at the end

pub image_cut : (stored : Stored) (directory : Directory) → IsImageOf stored directory
    → IsCutOf (view_of (whole stored)) (view_of directory)
image_cut stored directory of = record {
  lost = drop of.cut.commits stored.after;
  logs = ap (λ cs. cs ++ drop of.cut.commits stored.after) of.commits
      ∙ append_assoc stored.before (take of.cut.commits stored.after) (drop of.cut.commits stored.after)
      ∙ ap (λ cs. stored.before ++ cs) (take-append-drop of.cut.commits stored.after);
  more = take of.cut.commits stored.after;
  all_previous = of.commits;
}
