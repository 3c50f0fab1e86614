-- An image means the base with a front of the entries done.
use Rattle.std.proofs.Common.{◌≡◌, ℕ, ◌+◌, ◌≤◌, arith, List, [], ◌∷◌, ◌++◌, length, Option, None, Some, option_and_then, refl, sym, ap, ◌∙◌, append_assoc, append-nil, length-append}
use Rattle.db_model.specs.Commits.{CommitRecord}
use Rattle.dump_laws.specs.Effects.{Rows, nothing, put}
use Rattle.dump_laws.specs.Directory.{DatabaseOf, View, under, commit_done}
use Rattle.dump_laws.specs.Order.{IsStrict, IsNext, StandsAt, entries_done, with_commit}
use Rattle.dump_laws.proofs.Plain.{live}

entries_done-append : (p q : List CommitRecord) (db : DatabaseOf Rows)
    → entries_done (p ++ q) db ≡ option_and_then (λ now. entries_done q now) (entries_done p db)
entries_done-append [] q db = refl
entries_done-append (x ∷ p) q db = go (commit_done put nothing x db) (λ now. entries_done-append p q now)
  where
    go : (t : Option (DatabaseOf Rows))
        → ((now : DatabaseOf Rows) → entries_done (p ++ q) now ≡ option_and_then (λ now. entries_done q now) (entries_done p now))
        → option_and_then (λ now. entries_done (p ++ q) now) t
        ≡ option_and_then (λ now. entries_done q now) (option_and_then (λ now. entries_done p now) t)
    go None ih = refl
    go (Some now) ih = ih now

pub stands_start : (v : View) (base : DatabaseOf Rows) → under v ≡ Some base → StandsAt base [] 0 v
stands_start v base is = record { front = []; lost = []; is = refl; enough = omega arith; means = is }

-- whatever leaves the meaning
pub stands_same : (base : DatabaseOf Rows) (entries : List CommitRecord) (synced : ℕ) (v w : View) → under w ≡ under v
    → StandsAt base entries synced v → StandsAt base entries synced w
stands_same base entries synced v w same h = record { front = h.front; lost = h.lost; is = h.is; enough = h.enough; means = same ∙ h.means }

-- a commit is appended, and the image lacks it
pub stands_lacking : (base : DatabaseOf Rows) (entries : List CommitRecord) (synced : ℕ) (x : CommitRecord) (v : View)
    → StandsAt base entries synced v → StandsAt base (entries ++ x ∷ []) synced v
stands_lacking base entries synced x v h = record {
  front = h.front;
  lost = h.lost ++ x ∷ [];
  is = sym (append_assoc h.front h.lost (x ∷ [])) ∙ ap (λ all. all ++ x ∷ []) h.is;
  enough = h.enough;
  means = h.means;
}

-- or the image had all entries, and has it
pub stands_having : (base db : DatabaseOf Rows) (entries : List CommitRecord) (synced : ℕ) (x : CommitRecord) (v : View) → IsStrict v
    → under v ≡ Some db → IsNext db.version x
    → entries_done entries base ≡ Some db → synced ≤ length entries + 1 → StandsAt base (entries ++ x ∷ []) synced (with_commit x v)
stands_having base db entries synced x v strict is next all le = record {
  front = entries ++ x ∷ [];
  lost = [];
  is = append-nil (entries ++ x ∷ []);
  enough = omega (arith, le, length-append entries (x ∷ []), one x);
  means = live v x db strict is next ∙ only (commit_done put nothing x db)
      ∙ sym (entries_done-append entries (x ∷ []) base ∙ ap (option_and_then (λ now. entries_done (x ∷ []) now)) all);
}
  where
    one : (x : CommitRecord) → length (x ∷ []) ≡ 1
    one x = refl

    only : (t : Option (DatabaseOf Rows)) → t ≡ option_and_then (λ now. Some now) t
    only None = refl
    only (Some now) = refl
