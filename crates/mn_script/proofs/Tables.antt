-- One turn of the readers over kinds and over forms.
use Rattle.std.proofs.Common.{◌≡◌, ℕ, suc, ◌+◌, ◌<◌, ◌≤◌, Bool, true, false, cond, List, [], ◌∷◌, ◌++◌, length, get_or, drop, map, Result, Ok, Err, refl, sym, ap, ◌∙◌, arith, add-one, drop-cons}
use Rattle.std.specs.Prelude.{◌||◌, ◌&&◌, not, min}
use Rattle.std.specs.List.{list_any}
use Rattle.std.proofs.lemmas.Grind.{common_steps}
use Rattle.std.proofs.lemmas.List.{map-append}
use Rattle.term_core.specs.Tree.{Tree}
use Rattle.term_core.specs.View.{tree_of}
use Rattle.term_core.specs.declared.term.Term.{Term}
use Rattle.term_text.specs.Grammar.{begins, is_blank}
use Rattle.term_text.specs.Reading.{unblanked}
use Rattle.mn_script.specs.declared.forms.Kind.{Kind}
use Rattle.mn_script.specs.declared.forms.Form.{Form}
use Rattle.mn_script.specs.Forms.{Shape, shape_of}
use Rattle.mn_script.specs.Reading.{◌>>=◌, behind_blanks, at_end, argument_at, arguments_at, formed_at, form_at, line_from, further}

pub any_map : {X Y : Type 0} (p : Y → Bool) (f : X → Y) (xs : List X)
    → list_any p (map f xs) ≡ list_any (λ x. p (f x)) xs
any_map p f [] = refl
any_map p f (x ∷ xs) = ap (λ (b : Bool). p (f x) || b) (any_map p f xs)

-- ---- arguments

blanks_bind : {A B : Type 0} (due : Bool) (read : List ℕ → Result A ℕ) (f : A → Result B ℕ) (line : List ℕ)
    → behind_blanks due (λ rest. read rest >>= f) line ≡ (behind_blanks due read line >>= f)
unfolding behind_blanks
blanks_bind {A} {B} due read f line = by (due && not (begins is_blank line))
  where
    by : (b : Bool)
        → cond b (Err (length line))
        (read (unblanked line) >>= f) ≡ (cond b (Err (length line)) (read (unblanked line)) >>= f)
    by true = refl
    by false = refl

some_kind : (k : Kind) (ks : List Kind) (before : List Tree) (line : List ℕ)
    → arguments_at (k ∷ ks) before
    line ≡ (behind_blanks true (argument_at k) line >>= λ x. arguments_at ks (before ++ x.0 ∷ []) x.1)
unfolding arguments_at
some_kind k ks before line = blanks_bind true (argument_at k) (λ x. arguments_at ks (before ++ x.0 ∷ []) x.1) line

pub next_ok : (i : ℕ) (kinds : List Kind) (k : Kind) (before : List Tree) (t : Tree) (rest more : List ℕ)
    → i < length kinds → behind_blanks true (argument_at (get_or kinds i k)) rest ≡ Ok (t, more)
    → arguments_at (drop i kinds) before rest ≡ arguments_at (drop (i + 1) kinds) (before ++ t ∷ []) more
next_ok i kinds k before t rest more lt e =
    rw (add-one, drop-cons kinds i k)
    (some_kind (get_or kinds i k) (drop (suc i) kinds) before rest
    ∙ ap (λ r. r >>= λ x. arguments_at (drop (suc i) kinds) (before ++ x.0 ∷ []) x.1) e)

pub next_err : (i : ℕ) (kinds : List Kind) (k : Kind) (before : List Tree) (rest : List ℕ) (left : ℕ)
    → i < length kinds → behind_blanks true (argument_at (get_or kinds i k)) rest ≡ Err left
    → arguments_at (drop i kinds) before rest ≡ Err left
next_err i kinds k before rest left lt e =
    rw (drop-cons kinds i k)
    (some_kind (get_or kinds i k) (drop (suc i) kinds) before rest
    ∙ ap (λ r. r >>= λ x. arguments_at (drop (suc i) kinds) (before ++ x.0 ∷ []) x.1) e)

pub all_read : (i : ℕ) (kinds : List Kind) (before : List Tree) (rest : List ℕ) → length kinds ≤ i
    → arguments_at (drop i kinds) before rest ≡ behind_blanks false (at_end before) rest
unfolding arguments_at
all_read i kinds before rest h = let none : drop i kinds ≡ [] = grind (arith, common_steps) in rw none refl

-- ---- forms

pub some_form : (n left : ℕ) (form : Shape) (forms : List Shape) (line : List ℕ)
    → line_from n left (form ∷ forms) line ≡ further n left (λ least. line_from (n + 1) least forms line)
    (form_at form line)
unfolding line_from
some_form n left form forms line = refl

-- a form reads behind the blanks in front
formed : (form : Shape) (line rest : List ℕ) → rest ≡ unblanked line → form_at form line ≡ formed_at form rest
unfolding form_at behind_blanks
formed form line rest e = ap (formed_at form) (sym e)

pub turn_ok : (i left : ℕ) (forms : List Form) (form : Form) (line rest : List ℕ) (ts : List Tree)
    → i < length forms → rest ≡ unblanked line → formed_at (shape_of (get_or forms i form)) rest ≡ Ok ts
    → line_from i left (map shape_of (drop i forms)) line ≡ Ok (i, ts)
turn_ok i left forms form line rest ts lt behind e =
    rw (drop-cons forms i form)
    (some_form i left (shape_of (get_or forms i form)) (map shape_of (drop (suc i) forms)) line
    ∙ ap (further i left (λ least. line_from (i + 1) least (map shape_of (drop (suc i) forms)) line))
    (formed (shape_of (get_or forms i form)) line rest behind ∙ e))

pub turn_err : (i left other : ℕ) (forms : List Form) (form : Form) (line rest : List ℕ)
    → i < length forms → rest ≡ unblanked line → formed_at (shape_of (get_or forms i form)) rest ≡ Err other
    → line_from i left (map shape_of (drop i forms)) line ≡ line_from (i + 1) (min left other)
    (map shape_of (drop (i + 1) forms)) line
turn_err i left other forms form line rest lt behind e =
    rw (add-one, drop-cons forms i form)
    (some_form i left (shape_of (get_or forms i form)) (map shape_of (drop (suc i) forms)) line
    ∙ ap (further i left (λ least. line_from (i + 1) least (map shape_of (drop (suc i) forms)) line))
    (formed (shape_of (get_or forms i form)) line rest behind ∙ e)
    ∙ ap (λ n. line_from n (min left other) (map shape_of (drop (suc i) forms)) line) (add-one i))

pub all_tried : (i left : ℕ) (forms : List Form) (line : List ℕ) → length forms ≤ i
    → line_from i left (map shape_of (drop i forms)) line ≡ Err left
unfolding line_from
all_tried i left forms line h = let none : drop i forms ≡ [] = grind (arith, common_steps) in rw none refl

-- ---- places

pub left_least : (n left : ℕ) (forms : List Shape) (line : List ℕ) (place : ℕ) → line_from n left forms line ≡ Err place
    → place ≤ left
unfolding line_from
left_least n left [] line place e = let same : left ≡ place = cc in omega (arith, same)
left_least n left (form ∷ forms) line place e = by (form_at form line) (λ least h. left_least (n + 1) least forms line place h) e
  where
    by : (r : Result (List Tree) ℕ) → ((least : ℕ) → line_from (n + 1) least forms line ≡ Err place → place ≤ least)
        → further n left (λ least. line_from (n + 1) least forms line) r ≡ Err place → place ≤ left
    by (Ok ts) again h = absurd cc
    by (Err other) again h = omega (arith, again (min left other) h)

-- one argument more was read
pub next_kept : (i : ℕ) (kinds : List Kind) (k : Kind) (arguments now : List Term) (argument : Term)
    (rest more : List ℕ) (total : Result (List Tree) ℕ)
    → i < length kinds → behind_blanks true (argument_at (get_or kinds i k)) rest ≡ Ok (tree_of argument, more)
    → now ≡ arguments ++ argument ∷ []
    → arguments_at (drop i kinds) (map tree_of arguments) rest ≡ total
    → arguments_at (drop (i + 1) kinds) (map tree_of now) more ≡ total
next_kept i kinds k arguments now argument rest more total lt e grown so_far =
    let trees : map tree_of now ≡ map tree_of arguments ++ tree_of argument ∷ [] = ap (map tree_of) grown
    ∙ map-append tree_of arguments (argument ∷ []) in
    ap (λ (ts : List Tree). arguments_at (drop (i + 1) kinds) ts more) trees
    ∙ sym (next_ok i kinds k (map tree_of arguments) (tree_of argument) rest more lt e) ∙ so_far

pub ruleset turns = (turn_ok, turn_err, all_tried)
