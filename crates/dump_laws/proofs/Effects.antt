-- Ops at one record.
use Rattle.std.proofs.Common.{◌≡◌, ◌⊎◌, inl, inr, Bool, true, false, List, [], ◌∷◌, ◌++◌, refl, sym, ap, ◌∙◌, subst, true≢false}
use Rattle.term_core.specs.Tree.{Tree}
use Rattle.db_model.specs.Ops.{Operation}
use Rattle.db_model.specs.declared.definition.Kind.{Kind}
use Rattle.dump_laws.specs.Effects.{Effect, leaves, settles, effect, act, Rows, put, after, IsFront, ReachedAt, Between}

-- what a list of ops does to the presence of one record
abbrev pub acts : Kind → Tree → List Operation → Bool → Bool
acts kind r [] b = b
acts kind r (op ∷ ops) b = acts kind r ops (act (effect kind op r) b)

pub after-at : (kind : Kind) (ops : List Operation) (c : Rows) (r : Tree) → after put kind ops c r ≡ acts kind r ops (c r)
after-at kind [] c r = refl
after-at kind (op ∷ ops) c r = after-at kind ops (put kind op c) r

pub acts-append : (kind : Kind) (r : Tree) (front rest : List Operation) (b : Bool)
    → acts kind r (front ++ rest) b ≡ acts kind r rest (acts kind r front b)
acts-append kind r [] rest b = refl
acts-append kind r (op ∷ front) rest b = acts-append kind r front rest (act (effect kind op r) b)

-- the key: ops done over what some front of them has made give what they give over what was there first
pub acts_again : (kind : Kind) (r : Tree) (front rest : List Operation) (b : Bool)
    → acts kind r (front ++ rest) (acts kind r front b) ≡ acts kind r (front ++ rest) b
acts_again kind r [] rest b = refl
acts_again kind r (op ∷ front) rest b = go (effect kind op r)
    (acts_again kind r front rest b)
  where
    go : (e : Effect) → acts kind r (front ++ rest) (acts kind r front b) ≡ acts kind r (front ++ rest) b
        → acts kind r (front ++ rest) (act e (acts kind r front (act e b))) ≡ acts kind r (front ++ rest) (act e b)
    go leaves h = h
    go (settles v) h = refl

pub again_at : (kind : Kind) (c f : Rows) (ops : List Operation) (r : Tree) → ReachedAt kind c ops f r
    → after put kind ops f r ≡ after put kind ops c r
again_at kind c f ops r h =
    after-at kind ops f r
    ∙ ap (acts kind r ops) (h.is ∙ after-at kind h.front c r)
    ∙ subst (λ all. acts kind r all (acts kind r h.front (c r)) ≡ acts kind r all (c r)) h.short.is
    (acts_again kind r h.front h.short.rest (c r))
    ∙ sym (after-at kind ops c r)

pub again : (kind : Kind) (c f : Rows) (ops : List Operation) → Between kind c ops f → (r : Tree)
    → after put kind ops f r ≡ after put kind ops c r
again kind c f ops h r = again_at kind c f ops r (h r)

pub after-append-at : (kind : Kind) (front rest : List Operation) (c : Rows) (r : Tree)
    → after put kind (front ++ rest) c r ≡ acts kind r rest (after put kind front c r)
after-append-at kind front rest c r = after-at kind (front ++ rest) c r ∙ acts-append kind r front rest (c r)
    ∙ ap (acts kind r rest) (sym (after-at kind front c r))

-- ops give one presence whatever was there, or leave what was there
abbrev pub IsConstant : Kind → Tree → List Operation → Type 0
IsConstant kind r ops = (b b' : Bool) → acts kind r ops b ≡ acts kind r ops b'

abbrev pub Leaves : Kind → Tree → List Operation → Type 0
Leaves kind r ops = (b : Bool) → acts kind r ops b ≡ b

pub cases_acts : (kind : Kind) (r : Tree) (ops : List Operation) → IsConstant kind r ops ⊎ Leaves kind r ops
cases_acts kind r [] = inr (λ b. refl)
cases_acts kind r (op ∷ ops) = go (effect kind op r) (cases_acts kind r ops)
  where
    go : (e : Effect) → ((b b' : Bool) → acts kind r ops b ≡ acts kind r ops b') ⊎ ((b : Bool) → acts kind r ops b ≡ b)
        → ((b b' : Bool) → acts kind r ops (act e b) ≡ acts kind r ops (act e b')) ⊎ ((b : Bool) → acts kind r ops (act e b) ≡ b)
    go leaves h = h
    go (settles v) h = inl (λ b b'. refl)

-- some op of these settles the record to this presence
abbrev pub SettlesTo : Kind → Tree → Bool → List Operation → Type 0
SettlesTo kind r v [] = ⊥
SettlesTo kind r v (op ∷ ops) = (effect kind op r ≡ settles v) ⊎ SettlesTo kind r v ops

-- what a front gives is what was there, or what some op of it settles
pub front_settles : (kind : Kind) (r : Tree) (front rest : List Operation) (b : Bool)
    → (acts kind r front b ≡ b) ⊎ SettlesTo kind r (acts kind r front b) (front ++ rest)
front_settles kind r [] rest b = inl refl
front_settles kind r (op ∷ front) rest b = go (effect kind op r) refl (front_settles kind r front rest (act (effect kind op r) b))
  where
    go : (e : Effect) → effect kind op r ≡ e
        → (acts kind r front (act (effect kind op r) b) ≡ act (effect kind op r) b)
        ⊎ SettlesTo kind r (acts kind r front (act (effect kind op r) b)) (front ++ rest)
        → (acts kind r front (act (effect kind op r) b) ≡ b)
        ⊎ ((effect kind op r ≡ settles (acts kind r front (act (effect kind op r) b)))
        ⊎ SettlesTo kind r (acts kind r front (act (effect kind op r) b)) (front ++ rest))
    go e is (inr h) = inr (inr h)
    go leaves is (inl h) = inl (h ∙ ap (λ e. act e b) is)
    go (settles v) is (inl h) = inr (inl (is ∙ ap settles (sym (h ∙ ap (λ e. act e b) is))))

pub record Gives (kind : Kind) (r : Tree) (v : Bool) (ops : List Operation) : Type 0 where
  pub front : List Operation
  pub short : IsFront front ops
  pub gives : (b : Bool) → acts kind r front b ≡ v

pub settles_front : (kind : Kind) (r : Tree) (v : Bool) (ops : List Operation) → SettlesTo kind r v ops → Gives kind r v ops
settles_front kind r v [] h = absurd h
settles_front kind r v (op ∷ ops) (inl is) =
    record { front = op ∷ []; short = record { rest = ops; is = refl }; gives = λ b. ap (λ e. act e b) is }
settles_front kind r v (op ∷ ops) (inr h) =
    let g : Gives kind r v ops = settles_front kind r v ops h in
    record {
      front = op ∷ g.front;
      short = record { rest = g.short.rest; is = ap (λ all. op ∷ all) g.short.is };
      gives =
          λ b. g.gives (act (effect kind op r) b);
    }

pub settles-append : (kind : Kind) (r : Tree) (v : Bool) (a b : List Operation) → SettlesTo kind r v (a ++ b)
    → SettlesTo kind r v a ⊎ SettlesTo kind r v b
settles-append kind r v [] b h = inr h
settles-append kind r v (op ∷ a) b (inl is) = inl (inl is)
settles-append kind r v (op ∷ a) b (inr h) = elim (settles-append kind r v a b h) [ inl x ↦ inl (inr x) | inr x ↦ inr x ]

pub settles_constant : (kind : Kind) (r : Tree) (v : Bool) (ops : List Operation) → SettlesTo kind r v ops → IsConstant kind r ops
settles_constant kind r v [] h b b' = absurd h
settles_constant kind r v (op ∷ ops) (inl is) b b' = ap (acts kind r ops) (ap (λ e. act e b) is ∙ sym (ap (λ e. act e b') is))
settles_constant kind r v (op ∷ ops) (inr h) b b' = settles_constant kind r v ops h (act (effect kind op r) b) (act (effect kind op r) b')

pub not_both : (kind : Kind) (r : Tree) (ops : List Operation) → IsConstant kind r ops → Leaves kind r ops → ⊥
not_both kind r ops h g = true≢false (sym (g true) ∙ h true false ∙ g false)

-- the two ways to say that a record is between
pub reached_cases : (kind : Kind) (c f : Rows) (ops : List Operation) (r : Tree) → ReachedAt kind c ops f r
    → (f r ≡ c r) ⊎ SettlesTo kind r (f r) ops
reached_cases kind c f ops r h = elim (front_settles kind r h.front h.short.rest (c r)) [
  | inl same ↦ inl (h.is ∙ after-at kind h.front c r ∙ same)
  | inr by ↦ inr (subst (λ all. SettlesTo kind r (f r) all) h.short.is
      (subst (λ v. SettlesTo kind r v (h.front ++ h.short.rest)) (sym (h.is ∙ after-at kind h.front c r)) by))
]

pub reached_from : (kind : Kind) (c f : Rows) (ops : List Operation) (r : Tree) → (f r ≡ c r) ⊎ SettlesTo kind r (f r) ops
    → ReachedAt kind c ops f r
reached_from kind c f ops r (inl same) = record { front = []; short = record { rest = ops; is = refl }; is = same }
reached_from kind c f ops r (inr by) =
    let g : Gives kind r (f r) ops = settles_front kind r (f r) ops by in
    record { front = g.front; short = g.short; is = sym (after-at kind g.front c r ∙ g.gives (c r)) }
