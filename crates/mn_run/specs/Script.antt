-- What a script asks for, by its lines.
use Rattle.std.specs.Prelude.{ℕ, ◌+◌, ◌||◌, ◌&&◌, nat_le, nat_lt, is_some, if◌then◌else◌, Bool, List, [], ◌∷◌, ◌++◌, length, Option, Some, None}
use Rattle.mn_script.specs.Commands.{start}
use Rattle.mn_run.specs.Commands.{Request, asks, ends, request_of}
use Rattle.mn_run.specs.Lines.{lines_of}
use Rattle.mn_run.specs.declared.lines.TheConstants.{MOST_LINE}
use Rattle.mn_run.specs.declared.asks.TheConstants.{MOST_LINES, MOST_COMMANDS}

-- the requests up to the first line over a limit, and the number of that line, from 1, where there is one
pub record Plan : Type 0 where
  pub commands : List Request
  pub over : Option ℕ

abbrev pub behind : List Request → Plan → Plan
behind commands plan = record { commands = commands ++ plan.commands; over = plan.over }

abbrev pub behind_line : Option Request → Plan → Plan
behind_line None plan = plan
behind_line (Some request) plan = behind (request ∷ []) plan

abbrev pub counted : Option Request → ℕ → ℕ
counted None done = done
counted (Some request) done = done + 1

-- a line that comes after so many lines and commands is over a limit
abbrev pub is_over : ℕ → ℕ → List ℕ → Bool
is_over before done line =
    nat_le MOST_LINES before || nat_lt MOST_LINE (length line)
    || (is_some (request_of line) && nat_le MOST_COMMANDS done)

-- the plan of the lines that come after so many lines and commands
abbrev pub plan_from : ℕ → ℕ → List (List ℕ) → Plan
plan_from before done [] = record { commands = []; over = None }
plan_from before done (line ∷ lines) =
    if is_over before done line then record { commands = []; over = Some (before + 1) }
    else behind_line (request_of line) (plan_from (before + 1) (counted (request_of line) done) lines)

abbrev pub plan_of : List ℕ → Plan
plan_of script = plan_from 0 0 (lines_of script)

-- the script's end is reached where no line is over a limit
abbrev pub at_end : Option ℕ → List Request
at_end None = ends ∷ []
at_end (Some line) = []

-- what is to be done: a start, the commands, and the script's end
abbrev pub requests_of_plan : Plan → List Request
requests_of_plan plan = asks start ∷ plan.commands ++ at_end plan.over
