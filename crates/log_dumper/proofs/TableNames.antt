-- Which names a table can have is told.
use Rattle.std.proofs.Common.{◌≡◌, ◌⊎◌, inl, inr, ℕ, ◌≤◌, arith, List, [], ◌∷◌, length, codes}
use Rattle.std.specs.Char.{IsAsciiAlphanumeric}
use Rattle.std.specs.List.{AllByRecursion}
use Rattle.std.proofs.lemmas.Bool.{cases_lt, cases_eq, cases_Bool}
use Rattle.std.proofs.lemmas.List.Elements.{All-from_recursion, recursion_from_All}
use Rattle.db_model.specs.Database.{same_name}
use Rattle.db_model.specs.Names.{IsNameByte, IsTableName}
use Rattle.dump_laws.proofs.Names.{name_is, is_name}

abbrev Told : Type 0 → Type 0
Told P = P ⊎ (P → ⊥)

told_range : (low high n : ℕ) → Told ((low ≤ n) × (n ≤ high))
told_range low high n = elim (cases_lt n low) [
  | inl below ↦ inr (λ h. let at : low ≤ n = h.0 in absurd (omega (arith, below, at)))
  | inr from ↦ elim (cases_lt high n) [
    | inl above ↦ inr (λ h. let at : n ≤ high = h.1 in absurd (omega (arith, above, at)))
    | inr upto ↦ inl (from, upto)
  ]
]

told_either : (P Q : Type 0) → Told P → Told Q → Told (P ⊎ Q)
told_either P Q (inl p) q = inl (inl p)
told_either P Q (inr not) (inl q) = inl (inr q)
told_either P Q (inr not) (inr nor) = inr (λ h. elim h [ inl p ↦ not p | inr q ↦ nor q ])

told_both : (P Q : Type 0) → Told P → Told Q → Told (P × Q)
told_both P Q (inl p) (inl q) = inl (p, q)
told_both P Q (inl p) (inr not) = inr (λ h. not h.1)
told_both P Q (inr not) q = inr (λ h. not h.0)

told_byte : (byte : ℕ) → Told (IsNameByte byte)
told_byte byte = told_either (IsAsciiAlphanumeric byte) ((byte ≡ 95) ⊎ (byte ≡ 64))
    (told_either _ _ (told_either _ _ (told_range 48 57 byte) (told_range 65 90 byte)) (told_range 97 122 byte))
    (told_either (byte ≡ 95) (byte ≡ 64) (cases_eq byte 95) (cases_eq byte 64))

told_bytes : (name : List ℕ) → Told (AllByRecursion IsNameByte name)
told_bytes [] = inl tt
told_bytes (byte ∷ name) = told_both (IsNameByte byte) (AllByRecursion IsNameByte name) (told_byte byte) (told_bytes name)

told_schema : (name : List ℕ) → Told (name ≡ codes "schema" → ⊥)
told_schema name = elim (cases_Bool (same_name name (codes "schema"))) [
  | inl same ↦ inr (λ other. other (name_is name (codes "schema") same))
  | inr apart ↦ inl (λ is. let same = is_name name (codes "schema") is in absurd (cc (same, apart)))
]

pub told_name : (name : List ℕ) → IsTableName name ⊎ (IsTableName name → ⊥)
told_name name = elim (told_range 1 64 (length name)) [
  | inr not ↦ inr (λ h. not (omega (arith, h.0.some), h.0.few))
  | inl size ↦ elim (told_bytes name) [
    | inr not ↦ inr (λ h. not (recursion_from_All IsNameByte name h.0.bytes))
    | inl bytes ↦ elim (told_schema name) [
      | inr not ↦ inr (λ h. not h.1)
      | inl other ↦ inl (
        record { some = omega (arith, size.0); few = size.1; bytes = All-from_recursion IsNameByte name bytes },
        other,
      )
    ]
  ]
]
