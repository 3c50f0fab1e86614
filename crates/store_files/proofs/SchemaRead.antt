-- The file of the schema is read, as one schema.
use Rattle.std.proofs.Common.{◌≡◌, ℕ, List, map, Option, Some, Result, Ok, Err, sym, ◌∙◌, subst, inl, inr, codes}
use Rattle.std.specs.Prelude.{IfOk}
use Rattle.disk_logs.specs.Logs.{FileRead}
use Rattle.disk_logs.specs.declared.error.LogErr.{LogErr}
use Rattle.disk_logs.specs.declared.error.LogErr.TheVariants.{File, Bad, TooLong, Memory}
use Rattle.db_model.specs.View.{definition}
use Rattle.db_model.specs.declared.definition.Schema.{Schema}
use Rattle.store_files.specs.Forms.{Gives, IsWrong}
use Rattle.store_files.specs.Schema.{SchemaRecord, schema_form, HasSchema, HasSchemaRead}
use Rattle.store_files.specs.Inside.Found.{IsHeaded, HasFound}
use Rattle.store_files.specs.Inside.Reading.{HasItemsRead}
use Rattle.store_files.proofs.Definitions.{schema_told}
use Rattle.store_files.proofs.OneFile.{one_given, given_not_absent, given_not_wrong, absent_not_wrong}
use Rattle.store_files.proofs.FormItems.{gives_read, wrong_read, headless_wrong}

pub schema_read : (r : Result Schema LogErr) (name : List ℕ) (number : ℕ) (read : FileRead) (file : Option (List ℕ))
    → IsHeaded (codes "schema") number read → file ≡ Some read.bytes → IfOk r (λ schema. schema.version ≡ number)
    → HasItemsRead schema_form number name (λ schema. map definition schema.tables) r read.items → HasSchemaRead r file
schema_read (Ok schema) name number read file headed there version are =
    let tables = map definition schema.tables in
    let all = gives_read schema_form read file number tables headed.whole there tt are in
    inl (subst (λ v. Gives schema_form v tables file) (sym version) all)
schema_read (Err (File other)) name number read file headed there version h = absurd h
schema_read (Err (Bad other at)) name number read file headed there version h =
    wrong_read schema_form read file at headed.whole there h.1
schema_read (Err TooLong) name number read file headed there version h = h
schema_read (Err Memory) name number read file headed there version h = tt

pub schema_not_found : (error : LogErr) (name : List ℕ) (file : Option (List ℕ)) → HasFound (codes "schema") name (Err error) file
    → HasSchemaRead (Err error) file
schema_not_found (File other) name file h = tt
schema_not_found (Bad other at) name file h = headless_wrong schema_form at file h.1
schema_not_found TooLong name file h = h
schema_not_found Memory name file h = tt

-- ---- one schema

pub one_schema : (file : Option (List ℕ)) (schema other : SchemaRecord) → HasSchema schema file → HasSchema other file → schema ≡ other
one_schema file schema other (inl a) (inl b) =
    let same = one_given schema_form schema_told file schema.version other.version schema.tables other.tables a b in
    λ i. record { version = same.0 i; tables = same.1 i }
one_schema file schema other (inl a) (inr (none, version, tables)) =
    absurd (given_not_absent schema_form schema_told file schema.version schema.tables a (inl none))
one_schema file schema other (inr (none, version, tables)) (inl b) =
    absurd (given_not_absent schema_form schema_told file other.version other.tables b (inl none))
one_schema file schema other (inr (none, v, ts)) (inr (also, w, us)) =
    λ i. record { version = (v ∙ sym w) i; tables = (ts ∙ sym us) i }

pub schema_not_wrong : (file : Option (List ℕ)) (schema : SchemaRecord) (at : ℕ) → HasSchema schema file → IsWrong schema_form at file → ⊥
schema_not_wrong file schema at (inl a) wrong =
    given_not_wrong schema_form schema_told file schema.version schema.tables at a wrong
schema_not_wrong file schema at (inr (none, version, tables)) wrong = absent_not_wrong schema_form schema_told file at (inl none) wrong
