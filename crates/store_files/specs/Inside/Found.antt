-- What is found of a file: its items, of which the first says a number.
use Rattle.std.specs.Prelude.{◌≡◌, ◌⊎◌, ℕ, ◌<◌, ◌^◌, List, length, Option, None, Some, Result, Ok, Err}
use Rattle.log_items.specs.Items.{HasItems}
use Rattle.log_items.specs.Scan.{IsBadAt}
use Rattle.disk_logs.specs.Logs.{FileRead, IsRead}
use Rattle.disk_logs.specs.declared.error.LogErr.{LogErr}
use Rattle.disk_logs.specs.declared.error.LogErr.TheVariants.{File, Bad, TooLong, Memory}
use Rattle.store_files.specs.Forms.{BeginWith, LackHead, IsOfOther}
use Rattle.store_files.specs.declared.headed.Headed.{Headed}

-- its items begin with this number
pub record IsHeaded (word : List ℕ) (number : ℕ) (read : FileRead) : Type 0 where
  pub whole : IsRead read
  pub few : length read.items < 2 ^ 63
  pub begin : BeginWith word number read.items

-- the file is no file of items, or its first item is another
abbrev pub IsHeadless : List ℕ → ℕ → Option (List ℕ) → Type 0
IsHeadless word at file = (bytes : List ℕ) × (file ≡ Some bytes)
    × (IsBadAt bytes at ⊎ ((items : List (List ℕ)) × HasItems bytes items × LackHead word items × (at ≡ 8)))

-- nothing where there is no file, its bytes where its items begin as they should, and else where they do not
abbrev pub HasFound : List ℕ → List ℕ → Result (Option Headed) LogErr → Option (List ℕ) → Type 0
HasFound word name (Ok None) file = file ≡ None
HasFound word name (Ok (Some found)) file = file ≡ Some found.file.bytes
HasFound word name (Err (Bad other at)) file = (other ≡ name) × IsHeadless word at file
HasFound word name (Err TooLong) file = ⊥
HasFound word name (Err (File other)) file = Unit {0}
HasFound word name (Err Memory) file = Unit {0}

-- the same of a file with this number, where one with another counts as absent
abbrev pub HasOwn : List ℕ → List ℕ → ℕ → Result (Option FileRead) LogErr → Option (List ℕ) → Type 0
HasOwn word name number (Ok None) file = (file ≡ None) ⊎ IsOfOther word (λ n. n ≡ number) file
HasOwn word name number (Ok (Some read)) file = file ≡ Some read.bytes
HasOwn word name number (Err (Bad other at)) file = (other ≡ name) × IsHeadless word at file
HasOwn word name number (Err TooLong) file = ⊥
HasOwn word name number (Err (File other)) file = Unit {0}
HasOwn word name number (Err Memory) file = Unit {0}
