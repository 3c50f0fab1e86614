-- A text, wherever it lies.
use Rattle.std.specs.Prelude.{ℕ, ◌≤◌, List, ⊤, take, string_bytes, IsUtf8}
use Rattle.term_core.specs.declared.text.Storage.{Storage}
use Rattle.term_core.specs.declared.text.Storage.TheVariants.{Inline, Heap}

abbrev pub stored_bytes : Storage → List ℕ
stored_bytes (Inline len bytes) = take len bytes
stored_bytes (Heap text) = string_bytes text.value

abbrev pub IsStored : Storage → Type 0
IsStored (Inline len bytes) = (len ≤ 22) × IsUtf8 (take len bytes)
IsStored (Heap _) = ⊤
