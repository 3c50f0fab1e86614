-- The commands of a script, and their lines.
use Rattle.std.specs.Prelude.{◌≡◌, ℕ, List, [], ◌∷◌, map, codes, pos, Option, Some, None, Result, Ok, Err}
use Rattle.std.specs.Bool.{MatchBool}
use Rattle.std.specs.List.{slice_get}
use Rattle.std.specs.Option.{option_and_then}
use Rattle.term_core.specs.Tree.{Tree, int, atom}
use Rattle.term_core.specs.View.{tree_of}
use Rattle.mn_script.specs.declared.forms.Kind.{Kind}
use Rattle.mn_script.specs.declared.forms.Kind.TheVariants as kind
use Rattle.mn_script.specs.declared.forms.Kind.TheVariants.{Atom, Term}
use Rattle.mn_script.specs.declared.commands.Command as code
use Rattle.mn_script.specs.declared.commands.Command.TheVariants as code_command
use Rattle.mn_script.specs.declared.reading.LineErr.{LineErr}
use Rattle.mn_script.specs.declared.reading.LineErr.TheVariants.{Badarg, Memory}
use Rattle.mn_script.specs.Forms.{Shape}
use Rattle.mn_script.specs.Grammar as grammar
use Rattle.mn_script.specs.Grammar.{Said, IsNone, IsOfForm, IsPlace, is_later}
use Rattle.mn_script.specs.Reading.{said}

-- what a line asks for; atoms are the bytes of their text
pub data Command : Type 0 where
  start : Command
  stop : Command
  sync_log : Command
  put : (table : List ℕ) (item : Tree) → Command
  get : (table : List ℕ) (key : Tree) → Command
  create_table : (name : List ℕ) (options : Tree) → Command
  delete_table : (name : List ℕ) → Command
  tables : Command
  table_info : (name : List ℕ) → Command
  -- of the transaction of this name
  begin : (name : List ℕ) → Command
  write : (name table : List ℕ) (item : Tree) → Command
  delete : (name table : List ℕ) (key : Tree) → Command
  delete_object : (name table : List ℕ) (item : Tree) → Command
  read : (name table : List ℕ) (key : Tree) → Command
  match_object : (name table : List ℕ) (pattern : Tree) → Command
  all_keys : (name table : List ℕ) → Command
  commit : (name : List ℕ) → Command
  abort : (name : List ℕ) → Command

-- a command of the code
abbrev pub seen : code.Command → Command
seen code_command.Start = start
seen code_command.Stop = stop
seen code_command.SyncLog = sync_log
seen (code_command.Put table item) = put table (tree_of item)
seen (code_command.Get table key) = get table (tree_of key)
seen (code_command.CreateTable name options) = create_table name (tree_of options)
seen (code_command.DeleteTable name) = delete_table name
seen code_command.Tables = tables
seen (code_command.TableInfo name) = table_info name
seen (code_command.Begin name) = begin name
seen (code_command.Write name table item) = write name table (tree_of item)
seen (code_command.Delete name table key) = delete name table (tree_of key)
seen (code_command.DeleteObject name table item) = delete_object name table (tree_of item)
seen (code_command.Read name table key) = read name table (tree_of key)
seen (code_command.MatchObject name table pattern) = match_object name table (tree_of pattern)
seen (code_command.AllKeys name table) = all_keys name table
seen (code_command.Commit name) = commit name
seen (code_command.Abort name) = abort name

-- ---- the table of forms

-- what makes a command of arguments of these kinds: of an atom's bytes, of a number, of a term's tree
abbrev pub Makes : List Kind → Type 0
Makes [] = Command
Makes (kind.Atom ∷ kinds) = List ℕ → Makes kinds
Makes (kind.Name ∷ kinds) = List ℕ → Makes kinds
Makes (kind.Term ∷ kinds) = Tree → Makes kinds
Makes (kind.Number low high ∷ kinds) = ℕ → Makes kinds

-- a command's word, the kinds of its arguments, and the command that they make
pub record Row : Type 0 where
  pub word : List ℕ
  pub kinds : List Kind
  pub make : Makes kinds

abbrev pub row : (word : List ℕ) (kinds : List Kind) → Makes kinds → Row
row word kinds make = record { word = word; kinds = kinds; make = make }

abbrev pub rows : List Row
rows =
    row (codes "start") [] start
    ∷ row (codes "stop") [] stop
    ∷ row (codes "sync_log") [] sync_log
    ∷ row (codes "put") (Atom ∷ Term ∷ []) put
    ∷ row (codes "get") (Atom ∷ Term ∷ []) get
    ∷ row (codes "create_table") (Atom ∷ Term ∷ []) create_table
    ∷ row (codes "delete_table") (Atom ∷ []) delete_table
    ∷ row (codes "tables") [] tables
    ∷ row (codes "table_info") (Atom ∷ []) table_info
    ∷ row (codes "begin") (Atom ∷ []) begin
    ∷ row (codes "write") (Atom ∷ Atom ∷ Term ∷ []) write
    ∷ row (codes "delete") (Atom ∷ Atom ∷ Term ∷ []) delete
    ∷ row (codes "delete_object") (Atom ∷ Atom ∷ Term ∷ []) delete_object
    ∷ row (codes "read") (Atom ∷ Atom ∷ Term ∷ []) read
    ∷ row (codes "match_object") (Atom ∷ Atom ∷ Term ∷ []) match_object
    ∷ row (codes "all_keys") (Atom ∷ Atom ∷ []) all_keys
    ∷ row (codes "commit") (Atom ∷ []) commit
    ∷ row (codes "abort") (Atom ∷ []) abort
    ∷ []

abbrev pub form_of : Row → Shape
form_of row = record { word = row.word; kinds = row.kinds }

abbrev pub forms : List Shape
forms = map form_of rows

-- the words of commands that are not here yet
abbrev pub later : List (List ℕ)
later =
    codes "dump_log"
    ∷ codes "add_table_index"
    ∷ codes "del_table_index"
    ∷ codes "transform_table"
    ∷ codes "index_read"
    ∷ codes "activate_checkpoint"
    ∷ codes "deactivate_checkpoint"
    ∷ codes "checkpoint_read"
    ∷ codes "checkpoint_keys"
    ∷ codes "checkpoint_retained"
    ∷ codes "backup_checkpoint"
    ∷ codes "traverse_backup"
    ∷ codes "jobs"
    ∷ codes "restore"
    ∷ codes "install_fallback"
    ∷ codes "uninstall_fallback"
    ∷ codes "generate"
    ∷ []

-- ---- the command of a form's arguments

abbrev pub first_atom : List Tree → Option (List ℕ × List Tree)
first_atom (atom a ∷ trees) = Some (a, trees)
first_atom trees = None

abbrev pub first_number : List Tree → Option (ℕ × List Tree)
first_number (int (pos n) ∷ trees) = Some (n, trees)
first_number trees = None

abbrev pub first_tree : List Tree → Option (Tree × List Tree)
first_tree (tree ∷ trees) = Some (tree, trees)
first_tree [] = None

-- what is made of these arguments, where they are of the kinds and as many
unfoldable pub made_of : (kinds : List Kind) → Makes kinds → List Tree → Option Command
made_of [] command [] = Some command
made_of [] command (tree ∷ trees) = None
made_of (kind.Atom ∷ kinds) make trees = option_and_then (λ x. made_of kinds (make x.0) x.1) (first_atom trees)
made_of (kind.Name ∷ kinds) make trees = option_and_then (λ x. made_of kinds (make x.0) x.1) (first_atom trees)
made_of (kind.Term ∷ kinds) make trees = option_and_then (λ x. made_of kinds (make x.0) x.1) (first_tree trees)
made_of (kind.Number low high ∷ kinds) make trees =
    option_and_then (λ x. made_of kinds (make x.0) x.1) (first_number trees)

abbrev pub made_by : List Tree → Row → Option Command
made_by trees row = made_of row.kinds row.make trees

-- what the row of this number makes
abbrev pub made : ℕ → List Tree → Option Command
made n trees = option_and_then (made_by trees) (slice_get rows n)

-- ---- what a line asks for

-- a line of this command: of a form, with the arguments that make the command
abbrev pub IsLineOf : Command → List ℕ → Type 0
IsLineOf command line = (n : ℕ) × (trees : List Tree) × IsOfForm forms n trees line × (made n trees ≡ Some command)

-- that a line asks for nothing, for this command, or is refused at this place
pub data Asked : Type 0 where
  nothing : Asked
  asks : (command : Command) → Asked
  refused : (at : ℕ) → Asked

-- What a line asks for: blanks alone and a comment for nothing, and a command's line for the command. Any other line
-- is refused, at once where its first word is one of those to come.
abbrev pub IsMeant : List ℕ → Asked → Type 0
IsMeant line nothing = IsNone line
IsMeant line (asks command) = IsLineOf command line
IsMeant line (refused at) =
    (IsNone line → ⊥) × ((command : Command) → IsLineOf command line → ⊥)
    × MatchBool (is_later later line) (at ≡ 0) (IsPlace forms line at)

abbrev pub asked_for : Option Command → Asked
asked_for None = nothing
asked_for (Some command) = asks command

-- by what is said of the line; the arguments of a form's line always make a command
abbrev pub asked_by : Said → Asked
asked_by grammar.nothing = nothing
asked_by (grammar.of_form n trees) = asked_for (made n trees)
asked_by (grammar.bad at) = refused at

-- what this line asks for
unfoldable pub asked : List ℕ → Asked
asked line = asked_by (said forms later line)

-- What is answered of a line is what it asks for, unless memory is wanting.
abbrev pub Answers : Result (Option code.Command) LineErr → Asked → Type 0
Answers (Ok None) what = what ≡ nothing
Answers (Ok (Some command)) what = what ≡ asks (seen command)
Answers (Err (Badarg at)) what = what ≡ refused at
Answers (Err Memory) what = Unit {0}
