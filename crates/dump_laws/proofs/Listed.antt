-- Lists of tables by look-ups.
use Rattle.std.proofs.Common.{◌≡◌, ℕ, Bool, true, false, not, if◌then◌else◌, cond, filter, List, [], ◌∷◌, Option, None, Some, option_map, refl, sym, ap, ◌∙◌}
use Rattle.std.specs.Ordering.{nat_cmp, is_lt}
use Rattle.std.specs.Cmp.Lexicographic.{slice_cmp}
use Rattle.std.proofs.lemmas.Bool.{both_ways}
use Rattle.db_model.specs.Database.{Table, is_called, same_name, change_table, with_table}
use Rattle.db_model.specs.Lawful.{table_in}
use Rattle.dump_laws.proofs.Names.{name_is, is_name, same_name_sym}

-- a table that is found has the name
pub found_name : (name : List ℕ) (tables : List Table) (t : Table) → table_in name tables ≡ Some t → name ≡ t.definition.name
found_name name [] t found = cc found
found_name name (x ∷ xs) t found = by (is_called name x) refl found (found_name name xs t)
  where
    by : (b : Bool) → is_called name x ≡ b → (if b then Some x else table_in name xs) ≡ Some t
        → (table_in name xs ≡ Some t → name ≡ t.definition.name) → name ≡ t.definition.name
    by true called is ih = let same : x ≡ t = cc is in name_is name x.definition.name called ∙ ap (λ u. u.definition.name) same
    by false other is ih = ih is

pub in_with_table : (new : Table) (tables : List Table) (name : List ℕ) → table_in new.definition.name tables ≡ None
    → table_in name (with_table new tables) ≡ (if same_name new.definition.name name then Some new else table_in name tables)
in_with_table new [] name none = ap (λ b. if b then Some new else None) (same_name_sym name new.definition.name)
in_with_table new (t ∷ ts) name none =
    by (is_lt (slice_cmp nat_cmp new.definition.name t.definition.name)) (in_with_table new ts name other.1)
  where
    absent : (b : Bool) → is_called new.definition.name t ≡ b → (if b then Some t else table_in new.definition.name ts) ≡ None
        → (is_called new.definition.name t ≡ false) × (table_in new.definition.name ts ≡ None)
    absent true called is = cc is
    absent false called is = (called, is)

    other : (is_called new.definition.name t ≡ false) × (table_in new.definition.name ts ≡ None)
    other = absent (is_called new.definition.name t) refl none

    swapped : (n c : Bool) → same_name new.definition.name name ≡ n → is_called name t ≡ c
        → (if c then Some t else if n then Some new else table_in name ts)
        ≡ (if n then Some new else if c then Some t else table_in name ts)
    swapped true true same called =
        absurd (both_ways (is_called new.definition.name t) other.0
        (ap (λ n. is_called n t) (name_is new.definition.name name same) ∙ called))
    swapped true false same called = refl
    swapped false c same called = refl

    by : (b : Bool) → table_in name (with_table new ts) ≡ (if same_name new.definition.name name then Some new else table_in name ts)
        → table_in name (if b then new ∷ t ∷ ts else t ∷ with_table new ts)
        ≡ (if same_name new.definition.name name then Some new else table_in name (t ∷ ts))
    by true ih = ap (λ b. if b then Some new else table_in name (t ∷ ts)) (same_name_sym name new.definition.name)
    by false ih =
        ap (λ o. if is_called name t then Some t else o) ih
        ∙ swapped (same_name new.definition.name name) (is_called name t) refl refl

still : (b : Bool) (o : Option Table) → o ≡ (if b then o else o)
still true o = refl
still false o = refl

pub in_dropped : (gone : List ℕ) (tables : List Table) (name : List ℕ)
    → table_in name (filter (λ table. not (is_called gone table)) tables) ≡ (if same_name gone name then None else table_in name tables)
in_dropped gone [] name = still (same_name gone name) None
in_dropped gone (t ∷ ts) name = by (is_called gone t) (same_name gone name) (is_called name t) refl refl refl (in_dropped gone ts name)
  where
    by : (g n c : Bool) → is_called gone t ≡ g → same_name gone name ≡ n → is_called name t ≡ c
        → table_in name (filter (λ table. not (is_called gone table)) ts) ≡ (if same_name gone name then None else table_in name ts)
        → table_in name (cond (not g) (t ∷ filter (λ table. not (is_called gone table)) ts)
        (filter (λ table. not (is_called gone table)) ts))
        ≡ (if n then None else if c then Some t else table_in name ts)
    by true true c gs ns cs ih = ih ∙ ap (λ b. if b then None else table_in name ts) ns
    by true false true gs ns cs ih =
        absurd (both_ways (same_name gone name) ns
        (is_name gone name (name_is gone t.definition.name gs ∙ sym (name_is name t.definition.name cs))))
    by true false false gs ns cs ih = ih ∙ ap (λ b. if b then None else table_in name ts) ns
    by false true true gs ns cs ih =
        absurd (both_ways (is_called gone t) gs (is_name gone t.definition.name (name_is gone name ns ∙ name_is name t.definition.name cs)))
    by false true false gs ns cs ih = ap (λ b. if b then Some t else table_in name (filter (λ table. not (is_called gone table)) ts)) cs
        ∙ ih
        ∙ ap (λ b. if b then None else table_in name ts) ns
    by false false true gs ns cs ih = ap (λ b. if b then Some t else table_in name (filter (λ table. not (is_called gone table)) ts)) cs
    by false false false gs ns cs ih = ap (λ b. if b then Some t else table_in name (filter (λ table. not (is_called gone table)) ts)) cs
        ∙ ih
        ∙ ap (λ b. if b then None else table_in name ts) ns

pub in_changed : (its : List ℕ) (change : Table → Table)
    → ((t : Table) → is_called its t ≡ true → (change t).definition.name ≡ t.definition.name)
    → (tables : List Table) (name : List ℕ)
    → table_in name (change_table its change tables)
    ≡ (if same_name its name then option_map change (table_in name tables) else table_in name tables)
in_changed its change keeps [] name = still (same_name its name) None
in_changed its change keeps (t ∷ ts) name =
    by (is_called its t) (same_name its name) (is_called name t) refl refl refl (in_changed its change keeps ts name)
  where
    by : (g n c : Bool) → is_called its t ≡ g → same_name its name ≡ n → is_called name t ≡ c
        → table_in name (change_table its change ts)
        ≡ (if same_name its name then option_map change (table_in name ts) else table_in name ts)
        → table_in name ((if g then change t else t) ∷ change_table its change ts)
        ≡ (if n then option_map change (if c then Some t else table_in name ts) else if c then Some t else table_in name ts)
    by true true c gs ns cs ih = found c (ap (same_name name) (keeps t gs) ∙ cs)
      where
        found : (c : Bool) → is_called name (change t) ≡ c
            → (if is_called name (change t) then Some (change t) else table_in name (change_table its change ts))
            ≡ option_map change (if c then Some t else table_in name ts)
        found true called = ap (λ b. if b then Some (change t) else table_in name (change_table its change ts)) called
        found false called = ap (λ b. if b then Some (change t) else table_in name (change_table its change ts)) called ∙ ih
            ∙ ap (λ b. if b then option_map change (table_in name ts) else table_in name ts) ns
    by true false true gs ns cs ih =
        absurd (both_ways (same_name its name) ns
        (is_name its name (name_is its t.definition.name gs ∙ sym (name_is name t.definition.name cs))))
    by true false false gs ns cs ih =
        ap (λ b. if b then Some (change t) else table_in name (change_table its change ts)) (ap (same_name name) (keeps t gs) ∙ cs) ∙ ih
        ∙ ap (λ b. if b then option_map change (table_in name ts) else table_in name ts) ns
    by false true true gs ns cs ih =
        absurd (both_ways (is_called its t) gs (is_name its t.definition.name (name_is its name ns ∙ name_is name t.definition.name cs)))
    by false n false gs ns cs ih =
        ap (λ b. if b then Some t else table_in name (change_table its change ts)) cs ∙ ih
        ∙ ap (λ b. if b then option_map change (table_in name ts) else table_in name ts) ns
    by false false true gs ns cs ih = ap (λ b. if b then Some t else table_in name (change_table its change ts)) cs
