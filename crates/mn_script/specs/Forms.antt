-- The forms of lines.
use Rattle.std.specs.Prelude.{ℕ, ◌&&◌, ◌||◌, ◌==◌, not, nat_le, nat_lt, Bool, true, false, List, [], ◌∷◌, length, codes, pos}
use Rattle.std.specs.Char.{is_ascii_digit, is_ascii_lowercase}
use Rattle.std.specs.List.{list_all}
use Rattle.std.specs.Str.{bytes_eq}
use Rattle.term_core.specs.Tree.{Tree, int, atom}
use Rattle.term_text.specs.Grammar.{is_blank, is_name_byte}
use Rattle.mn_script.specs.declared.forms.Kind.{Kind}
use Rattle.mn_script.specs.declared.forms.Kind.TheVariants as kind
use Rattle.mn_script.specs.declared.forms.Form.{Form}

-- a word, and what is due behind it
pub record Shape : Type 0 where
  pub word : List ℕ
  pub kinds : List Kind

abbrev pub shape_of : Form → Shape
shape_of form = record { word = form.word.now; kinds = form.kinds.now }

-- 1 to 64 name bytes
abbrev pub is_name : List ℕ → Bool
is_name a = list_all is_name_byte a && nat_le 1 (length a) && nat_le (length a) 64

-- a backup's or a text file's name
abbrev pub is_file_name : List ℕ → Bool
is_file_name a = is_name a && not (bytes_eq a (codes "FALLBACK"))

-- whether a term is of this kind
abbrev pub fits : Kind → Tree → Bool
fits kind.Term t = true
fits kind.Atom (atom a) = true
fits kind.Name (atom a) = is_file_name a
fits (kind.Number low high) (int (pos n)) = nat_le low n && nat_le n high
fits k t = false

-- the bytes that an argument of this kind may begin with; of a term, whose reader tells its places, any but a blank
abbrev pub may_begin : Kind → ℕ → Bool
may_begin kind.Term byte = not (is_blank byte)
may_begin kind.Atom byte = is_ascii_lowercase byte || (byte == 39)
may_begin kind.Name byte = is_ascii_lowercase byte || (byte == 39)
may_begin (kind.Number low high) byte = is_ascii_digit byte

-- ---- tables of forms

abbrev pub is_due : Kind → Bool
is_due (kind.Number low high) = nat_le low high && nat_lt low 18446744073709551616
is_due k = true

-- a word has no blanks, and is not empty and no comment
abbrev pub is_word : List ℕ → Bool
is_word [] = false
is_word (byte ∷ word) = not (byte == 37) && list_all (λ b. not (is_blank b)) (byte ∷ word)

-- a word of a table, and of each kind that is due there are arguments
abbrev pub is_form : Shape → Bool
is_form form = is_word form.word && list_all is_due form.kinds

-- no word is there twice
abbrev pub is_table : List Shape → Bool
is_table [] = true
is_table (form ∷ forms) =
    is_form form && (list_all (λ other. not (bytes_eq form.word other.word)) forms && is_table forms)
