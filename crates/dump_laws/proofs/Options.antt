-- What is there.
use Rattle.std.proofs.Common.{◌≡◌, Some}

pub some_same : {X : Type 0} (a b : X) → Some a ≡ Some b → a ≡ b
some_same a b h = cc h
