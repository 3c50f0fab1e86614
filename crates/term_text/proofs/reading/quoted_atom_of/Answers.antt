use Rattle.std.proofs.Common.{◌≡◌, ap, sym, ◌∙◌, refl}
use Rattle.std.specs.Prelude.{string_bytes}
use Rattle.std.specs.Str.{chars, encode_utf8_all}
use Rattle.std.proofs.lemmas.Str.{encodes-chars, IsUtf8-string_bytes}
use Rattle.term_core.specs.Tree.{atom}
use Rattle.term_core.specs.View.{tree_of}
use Rattle.term_text.specs.Reading.{quoted_atom_at}
use Rattle.term_text.proofs.reading.quoted_atom_of.Goals as goal

pub returns : goal.returns
unfolding quoted_atom_at
returns c =
    let name : encode_utf8_all (chars (string_bytes c.in_ok-name.name)) ≡ string_bytes c.in_ok-name.name = encodes-chars (string_bytes c.in_ok-name.name) (IsUtf8-string_bytes c.in_ok-name.name) in
    let made : tree_of c.in_ok-atom_named.field-0 ≡ atom (encode_utf8_all (chars (string_bytes c.in_ok-name.name))) = c.in_ok-atom_named.ensures.made ∙ ap atom (c.as_str.ensures.value ∙ sym name) in
    rw (c.in_ok-name.ensures.read, made) refl
