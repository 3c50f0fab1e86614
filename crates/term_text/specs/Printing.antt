-- The one text that is written of a tree.
use Rattle.std.specs.Prelude.{ℕ, zero, suc, Bool, false, not, ◌&&◌, ◌||◌, ◌==◌, if◌then◌else◌, nat_lt, List, [], ◌∷◌, ◌++◌, codes, decimal}
use Rattle.std.specs.Char.{encode_utf8}
use Rattle.std.specs.Fmt.{signed_decimal, digits}
use Rattle.std.specs.List.{list_any, flat_map}
use Rattle.std.specs.Str.{bytes_eq, chars}
use Rattle.term_core.specs.Tree.{Tree, int, atom, tuple, list, bin, Trees, no_trees, tree}
use Rattle.term_text.specs.Grammar.{is_name}

-- the words that Erlang keeps for itself
abbrev pub reserved_words : List (List ℕ)
reserved_words =
    codes "after" ∷ codes "and" ∷ codes "andalso" ∷ codes "band" ∷ codes "begin" ∷ codes "bnot" ∷ codes "bor" ∷ codes "bsl"
    ∷ codes "bsr" ∷ codes "bxor" ∷ codes "case" ∷ codes "catch" ∷ codes "cond" ∷ codes "div" ∷ codes "end" ∷ codes "fun"
    ∷ codes "if" ∷ codes "let" ∷ codes "maybe" ∷ codes "not" ∷ codes "of" ∷ codes "or" ∷ codes "orelse" ∷ codes "receive"
    ∷ codes "rem" ∷ codes "try" ∷ codes "when" ∷ codes "xor" ∷ []

abbrev pub is_reserved : List ℕ → Bool
is_reserved name = list_any (λ word. bytes_eq word name) reserved_words

-- `\x{`, the fewest digits in lower case, and `}`
abbrev pub numbered : ℕ → List ℕ
numbered c = codes "\\x{" ++ (digits 16 false c ++ codes "}")

-- A character in quotes. Those that would end the quotes and those that are not seen are written by an escape.
abbrev pub character_text : ℕ → List ℕ
character_text c =
    if (c == 92) || (c == 39) then 92 ∷ c ∷ []
    else (if c == 10 then codes "\\n"
    else (if c == 13 then codes "\\r"
    else (if c == 9 then codes "\\t"
    else (if nat_lt c 32 || (c == 127) then numbered c else encode_utf8 c))))

-- an atom is written without quotes where it is a name and no reserved word
abbrev pub atom_text : List ℕ → List ℕ
atom_text name = if is_name name && not (is_reserved name) then name else 39 ∷ (flat_map character_text (chars name) ++ 39 ∷ [])

-- the comma before an element, unless it is the first
abbrev pub comma_before : ℕ → List ℕ
comma_before zero = []
comma_before (suc i) = 44 ∷ []

-- the bytes of a binary, each behind a comma, and with commas between
abbrev pub more_bytes_text : List ℕ → List ℕ
more_bytes_text [] = []
more_bytes_text (n ∷ ns) = 44 ∷ (decimal n ++ more_bytes_text ns)

abbrev pub bytes_text : List ℕ → List ℕ
bytes_text [] = []
bytes_text (n ∷ ns) = decimal n ++ more_bytes_text ns

abbrev mutual
  -- the text of a tree, without blanks
  pub printed : Tree → List ℕ
  printed (int n) = signed_decimal n
  printed (atom name) = atom_text name
  printed (tuple ts) = codes "{" ++ (trees_text ts ++ codes "}")
  printed (list ts) = codes "[" ++ (trees_text ts ++ codes "]")
  printed (bin bytes) = codes "<<" ++ (bytes_text bytes ++ codes ">>")

  -- with commas between
  pub trees_text : Trees → List ℕ
  trees_text no_trees = []
  trees_text (tree t ts) = printed t ++ more_trees_text ts

  -- each behind a comma
  pub more_trees_text : Trees → List ℕ
  more_trees_text no_trees = []
  more_trees_text (tree t ts) = 44 ∷ (printed t ++ more_trees_text ts)
