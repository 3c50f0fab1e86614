-- What a line asks of the node.
use Rattle.std.specs.Prelude.{◌≡◌, ℕ, List, [], ◌∷◌, Option, Some, None, Result, Ok, Err}
use Rattle.term_core.specs.Tree.{Tree}
use Rattle.db_model.specs.Definitions.{Definition}
use Rattle.db_model.specs.Ops as ops
use Rattle.db_model.specs.Options.{IsDefinedBy, IsRefusal}
use Rattle.db_model.specs.declared.error.DefErr.{DefErr}
use Rattle.txn_core.specs.Calls as calls
use Rattle.mn_node.specs.Effects as effects
use Rattle.mn_node.specs.Machine.{Event}
use Rattle.mn_node.specs.Machine as machine
use Rattle.mn_script.specs.Commands as script
use Rattle.mn_script.specs.Commands.{Command, Asked, asked}

-- what a script asks, by its lines and by its end
pub data Request : Type 0 where
  asks : (c : Command) → Request
  -- a line that is no command, from this byte on
  refused : (at : ℕ) → Request
  ends : Request

abbrev pub request_asked : Asked → Option Request
request_asked script.nothing = None
request_asked (script.asks command) = Some (asks command)
request_asked (script.refused at) = Some (refused at)

-- the request of a line, where it makes one
abbrev pub request_of : List ℕ → Option Request
request_of line = request_asked (asked line)

-- What a list of options reads as: the table of this name that it defines, with cookie 0, or why it defines none.
abbrev pub IsRead : List ℕ → Tree → Result Definition DefErr → Type 0
IsRead name options (Ok definition) =
    (definition.name ≡ name) × (definition.cookie ≡ 0) × IsDefinedBy options definition
IsRead name options (Err error) = IsRefusal name options error

-- The event is the command's. A list of options is read before, and memory may be wanting then.
abbrev pub IsAskedAs : Command → Event → Type 0
IsAskedAs script.start event = event ≡ machine.start
IsAskedAs script.stop event = event ≡ machine.command effects.stop
IsAskedAs script.sync_log event = event ≡ machine.command effects.sync_log
IsAskedAs (script.put table item) event = event ≡ machine.command (effects.put table item)
IsAskedAs (script.get table key) event = event ≡ machine.command (effects.get table key)
IsAskedAs (script.create_table name options) event =
    (read : Result Definition DefErr) × IsRead name options read
    × (event ≡ machine.command (effects.create_table name read))
IsAskedAs (script.delete_table name) event = event ≡ machine.command (effects.delete_table name)
IsAskedAs script.tables event = event ≡ machine.command effects.tables
IsAskedAs (script.table_info name) event = event ≡ machine.command (effects.table_info name)
IsAskedAs (script.begin name) event = event ≡ machine.command (effects.begin name)
IsAskedAs (script.write name table item) event =
    event ≡ machine.command (effects.ask name (calls.change (ops.write table item)))
IsAskedAs (script.delete name table key) event =
    event ≡ machine.command (effects.ask name (calls.change (ops.delete table key)))
IsAskedAs (script.delete_object name table item) event =
    event ≡ machine.command (effects.ask name (calls.change (ops.delete_object table item)))
IsAskedAs (script.read name table key) event = event ≡ machine.command (effects.ask name (calls.read table key))
IsAskedAs (script.match_object name table pattern) event =
    event ≡ machine.command (effects.ask name (calls.match_object table pattern))
IsAskedAs (script.all_keys name table) event = event ≡ machine.command (effects.ask name (calls.all_keys table))
IsAskedAs (script.commit name) event = event ≡ machine.command (effects.commit_txn name)
IsAskedAs (script.abort name) event = event ≡ machine.command (effects.abort name)

abbrev pub IsEventOf : Request → Event → Type 0
IsEventOf (asks command) event = IsAskedAs command event
IsEventOf (refused at) event = event ≡ machine.refused at
IsEventOf ends event = event ≡ machine.end

-- these events, one for each request
abbrev pub AreEventsOf : List Request → List Event → Type 0
AreEventsOf [] [] = Unit {0}
AreEventsOf (request ∷ requests) (event ∷ events) = IsEventOf request event × AreEventsOf requests events
AreEventsOf requests events = ⊥
