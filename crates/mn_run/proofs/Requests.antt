-- Requests, the events that come of them, and what lines and options are read as.
use Rattle.std.proofs.Common.{◌≡◌, ◌⊎◌, ℕ, ◌<◌, ◌^◌, Bool, true, false, IsTrue, List, [], ◌∷◌, ◌++◌, Some, Result, Ok, Err, refl, sym, ap, subst, inl, inr, arith}
use Rattle.std.specs.Prelude.{IfOk, IfErr}
use Rattle.term_core.specs.Tree.{Tree}
use Rattle.db_model.specs.Definitions.{Definition, IsDefinition}
use Rattle.db_model.specs.Options.{IsDefinedBy, IsRefusal}
use Rattle.db_model.specs.View.{definition}
use Rattle.db_model.specs.declared.definition.TableDef.{TableDef}
use Rattle.db_model.specs.declared.error.DefErr.{DefErr}
use Rattle.db_model.specs.declared.error.DefErr.TheVariants.{Memory}
use Rattle.db_model.proofs.Defined.{defined_lawful}
use Rattle.mn_node.specs.Effects.{create_table, IsAskable}
use Rattle.mn_node.specs.Machine.{Event}
use Rattle.mn_node.specs.Seen.{read_as}
use Rattle.mn_script.specs.Commands as script
use Rattle.mn_script.specs.Commands.{Command, Asked}
use Rattle.mn_run.specs.Commands.{Request, asks, refused, ends, request_asked, IsRead, IsAskedAs, IsEventOf, AreEventsOf}
use Rattle.mn_run.specs.Seen.{event, IsAskableLine, IsReadAs}
use Rattle.mn_run.specs.declared.commands.Line.{Line}
use Rattle.mn_run.specs.declared.commands.Line.TheVariants.{Refused}

-- one event more
pub events_push : (requests : List Request) (events : List Event) (r : Request) (e : Event) → AreEventsOf requests events → IsEventOf r e
    → AreEventsOf (requests ++ r ∷ []) (events ++ e ∷ [])
events_push [] [] r e are is = (is, tt)
events_push (x ∷ requests) (y ∷ events) r e are is = (are.0, events_push requests events r e are.1 is)
events_push [] (y ∷ events) r e are is = absurd are
events_push (x ∷ requests) [] r e are is = absurd are

-- a request of which this is told where the source tells its bytes
pub request_told : (told : Bool) (P : Request → Type 0) → (IsTrue told → (r : Request) × P r) → (r : Request) × (IsTrue told → P r)
request_told true P some = let h = some refl in (h.0, λ told. h.1)
request_told false P some = (ends, λ told. absurd (cc told))

-- ---- what options read as

pub read_of : (name : List ℕ) (options : Tree) (read : Result TableDef DefErr)
    → IfOk read (λ def. (def.name ≡ name) × (def.cookie ≡ 0) × IsDefinedBy options (definition def))
    → IfErr read (λ error. IsRefusal name options error) → IsRead name options (read_as read)
read_of name options (Ok def) defined refusal = defined
read_of name options (Err error) defined refusal = refusal

pub boxed_read : (name : List ℕ) (options : Tree) (read boxed : Result TableDef DefErr) → (boxed ≡ read) ⊎ (boxed ≡ Err Memory)
    → IsRead name options (read_as read) → IsRead name options (read_as boxed)
boxed_read name options read boxed (inl is) h = subst (λ r. IsRead name options (read_as r)) (sym is) h
boxed_read name options read boxed (inr is) h = subst (λ r. IsRead name options (read_as r)) (sym is) tt

pub read_askable : (name : List ℕ) (options : Tree) (read : Result Definition DefErr) → IsRead name options read
    → IsAskable (create_table name read)
read_askable name options (Ok d) (called, cookie, defined) =
    let small : d.cookie < 2 ^ 64 = omega (arith, cookie) in
    let same : d ≡ record d { cookie = 0 } = λ i. record d { cookie = cookie i } in
    (called, subst IsDefinition same (defined_lawful options d small defined))
read_askable name options (Err error) refusal = tt

-- ---- what a line was read as

pub command_read : (what : Asked) (command : Command) (line : Line) → what ≡ script.asks command → IsAskedAs command (event line)
    → IsAskableLine line → IsReadAs (request_asked what) (Some line)
command_read what command line is asked askable = (asks command, ap request_asked is, asked, askable)

pub refusal_read : (what : Asked) (at : ℕ) → what ≡ script.refused at → IsReadAs (request_asked what) (Some (Refused at))
refusal_read what at is = (refused at, ap request_asked is, refl, tt)
