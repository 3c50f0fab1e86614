-- The files of a table are read.
use Rattle.std.proofs.Common.{◌≡◌, ◌⊎◌, ℕ, List, Option, Some, None, Result, Ok, Err, refl, sym, subst, inl, inr, codes}
use Rattle.std.specs.Prelude.{IfOk}
use Rattle.disk_logs.specs.Logs.{FileRead}
use Rattle.disk_logs.specs.declared.error.LogErr.{LogErr}
use Rattle.disk_logs.specs.declared.error.LogErr.TheVariants.{File, Bad, TooLong, Memory}
use Rattle.db_model.specs.Database.{Contents}
use Rattle.db_model.specs.Definitions.{Definition}
use Rattle.store_files.specs.Forms.{IsOfOther}
use Rattle.store_files.specs.Names.{dcd_of, dcl_of}
use Rattle.store_files.specs.Tables.{dcd_form, dcl_form, HasRecords, IsOwnFile, HasLoaded}
use Rattle.store_files.specs.Inside.Found.{IsHeaded, HasOwn}
use Rattle.store_files.specs.Inside.Loading.{HasRecordsRead, HasOpsRead}
use Rattle.store_files.specs.Inside.Reading.{HasOpsDone}
use Rattle.store_files.proofs.FormItems.{gives_read, wrong_read, headless_wrong}

-- ---- what was found of a file

pub own_absent : (word name : List ℕ) (number : ℕ) (found : Option FileRead) (file : Option (List ℕ)) → found ≡ None
    → HasOwn word name number (Ok found) file → (file ≡ None) ⊎ IsOfOther word (λ n. n ≡ number) file
own_absent word name number found file is h = subst (λ f. HasOwn word name number (Ok f) file) is h

pub own_bytes : (word name : List ℕ) (number : ℕ) (found : Option FileRead) (read : FileRead) (file : Option (List ℕ))
    → found ≡ Some read → HasOwn word name number (Ok found) file → file ≡ Some read.bytes
own_bytes word name number found read file is h = subst (λ f. HasOwn word name number (Ok f) file) is h

-- ---- records

pub records_not_read : (table : Definition) (error : LogErr) (file : Option (List ℕ))
    → HasOwn (codes "dcd") (dcd_of table.name) table.cookie (Err error) file → HasRecordsRead table (Err error) file
records_not_read table (File other) file h = tt
records_not_read table (Bad other at) file h = (h.0, headless_wrong (dcd_form table) at file h.1)
records_not_read table TooLong file h = h
records_not_read table Memory file h = tt

-- ---- ops

pub ops_read : (table : Definition) (rows after : Contents) (read : FileRead) (r : Result (Option FileRead) LogErr)
    (file : Option (List ℕ)) → IsHeaded (codes "dcl") table.cookie read → file ≡ Some read.bytes
    → IfOk r (λ found. found ≡ Some read) → HasOpsDone table (dcl_of table.name) rows after r read.items
    → HasOpsRead table rows after r file
ops_read table rows after read (Ok found) file headed there is h = (
  h.0,
  inl (gives_read (dcl_form table) read file table.cookie h.0 headed.whole there refl h.1),
  h.2,
  subst (λ f. IsOwnFile (dcl_form table) table.cookie f file) (sym is) (headed.whole, headed.begin, there),
)
ops_read table rows after read (Err (File other)) file headed there is h = tt
ops_read table rows after read (Err (Bad other at)) file headed there is h =
    (h.0, wrong_read (dcl_form table) read file at headed.whole there h.1)
ops_read table rows after read (Err TooLong) file headed there is h = h
ops_read table rows after read (Err Memory) file headed there is h = tt

pub ops_not_read : (table : Definition) (rows after : Contents) (error : LogErr) (file : Option (List ℕ))
    → HasOwn (codes "dcl") (dcl_of table.name) table.cookie (Err error) file → HasOpsRead table rows after (Err error) file
ops_not_read table rows after (File other) file h = tt
ops_not_read table rows after (Bad other at) file h = (h.0, headless_wrong (dcl_form table) at file h.1)
ops_not_read table rows after TooLong file h = h
ops_not_read table rows after Memory file h = tt

-- ---- both

pub changes_not_read : (table : Definition) (rows after : Contents) (error : LogErr) (dcd dcl : Option (List ℕ))
    → ((some : Contents) × HasRecords table some dcd) → HasOpsRead table rows after (Err error) dcl
    → HasLoaded table (Err error) dcd dcl
changes_not_read table rows after (File other) dcd dcl records h = tt
changes_not_read table rows after (Bad other at) dcd dcl records h = inr (h.0, records, h.1)
changes_not_read table rows after TooLong dcd dcl records h = h
changes_not_read table rows after Memory dcd dcl records h = tt
