-- The files of a table give one contents, or have one first wrong place.
use Rattle.std.proofs.Common.{◌≡◌, ◌⊎◌, ℕ, List, [], Option, sym, ◌∙◌, inl, inr}
use Rattle.db_model.specs.Database.{Contents}
use Rattle.db_model.specs.Definitions.{Definition}
use Rattle.ram_table.specs.Contents.{put_ops}
use Rattle.store_files.specs.Forms.{Form, Gives, IsAbsent, IsWrong}
use Rattle.store_files.specs.Tables.{dcd_form, dcl_form, HaveContents, AreWrong}
use Rattle.store_files.proofs.OneFile.{IsTold, one_given, given_not_absent, given_not_wrong, absent_not_wrong, one_bad}
use Rattle.store_files.proofs.TableForms.{dcd_told, dcl_told}

-- what a file says, where it counts, and else nothing
abbrev GivesOwn : {X : Type 0} → Form X → ℕ → List X → Option (List ℕ) → Type 0
GivesOwn form number xs file = Gives form number xs file ⊎ ((xs ≡ []) × IsAbsent form file)

module _ {X : Type 0} (form : Form X) (told : IsTold form) (number : ℕ) where
  one_own : (xs ys : List X) (file : Option (List ℕ)) → GivesOwn form number xs file → GivesOwn form number ys file → xs ≡ ys
  one_own xs ys file (inl a) (inl b) = (one_given form told file number number xs ys a b).1
  one_own xs ys file (inl a) (inr (none, absent)) = absurd (given_not_absent form told file number xs a absent)
  one_own xs ys file (inr (none, absent)) (inl b) = absurd (given_not_absent form told file number ys b absent)
  one_own xs ys file (inr (none, absent)) (inr (also, again)) = none ∙ sym also

  own_not_wrong : (xs : List X) (file : Option (List ℕ)) (at : ℕ) → GivesOwn form number xs file → IsWrong form at file → ⊥
  own_not_wrong xs file at (inl a) wrong = given_not_wrong form told file number xs at a wrong
  own_not_wrong xs file at (inr (none, absent)) wrong = absent_not_wrong form told file at absent wrong

pub one_contents : (table : Definition) (dcd dcl : Option (List ℕ)) (contents other : Contents) → HaveContents table contents dcd dcl
    → HaveContents table other dcd dcl → contents ≡ other
one_contents table dcd dcl contents other a b =
    let rows = one_own (dcd_form table) (dcd_told table) table.cookie a.rows b.rows dcd a.records b.records in
    let ops = one_own (dcl_form table) (dcl_told table) table.cookie a.ops b.ops dcl a.changes b.changes in
    a.is ∙ (λ i. put_ops table.kind (ops i) (rows i)) ∙ sym b.is

pub table_not_wrong : (table : Definition) (dcd dcl : Option (List ℕ)) (contents : Contents) (name : List ℕ) (at : ℕ)
    → HaveContents table contents dcd dcl → AreWrong table name at dcd dcl → ⊥
table_not_wrong table dcd dcl contents name at a (inl (is, wrong)) =
    own_not_wrong (dcd_form table) (dcd_told table) table.cookie a.rows dcd at a.records wrong
table_not_wrong table dcd dcl contents name at a (inr (is, records, wrong)) =
    own_not_wrong (dcl_form table) (dcl_told table) table.cookie a.ops dcl at a.changes wrong

pub one_wrong_place : (table : Definition) (dcd dcl : Option (List ℕ)) (name other : List ℕ) (at place : ℕ)
    → AreWrong table name at dcd dcl → AreWrong table other place dcd dcl → (name ≡ other) × (at ≡ place)
one_wrong_place table dcd dcl name other at place (inl (is, wrong)) (inl (also, worse)) =
    (is ∙ sym also, one_bad (dcd_form table) (dcd_told table) dcd at place wrong worse)
one_wrong_place table dcd dcl name other at place (inl (is, wrong)) (inr (also, (rows, records), worse)) =
    absurd (own_not_wrong (dcd_form table) (dcd_told table) table.cookie rows dcd at records wrong)
one_wrong_place table dcd dcl name other at place (inr (is, (rows, records), wrong)) (inl (also, worse)) =
    absurd (own_not_wrong (dcd_form table) (dcd_told table) table.cookie rows dcd place records worse)
one_wrong_place table dcd dcl name other at place (inr (is, records, wrong)) (inr (also, more, worse)) =
    (is ∙ sym also, one_bad (dcl_form table) (dcl_told table) dcl at place wrong worse)
