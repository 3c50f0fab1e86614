-- How contents stay between while ops are appended and carried, and while a draft is written and swapped in.
use Rattle.std.proofs.Common.{◌≡◌, ◌⊎◌, inl, inr, Bool, true, false, List, [], ◌∷◌, ◌++◌, refl, sym, ap, ◌∙◌, append_assoc, append-nil, true≢false}
use Rattle.std.proofs.lemmas.Bool.{cases_Bool}
use Rattle.term_core.specs.Tree.{Tree}
use Rattle.db_model.specs.Ops.{Operation}
use Rattle.db_model.specs.declared.definition.Kind.{Kind}
use Rattle.dump_laws.specs.Effects.{Effect, leaves, settles, effect, act, Rows, nothing, put, after, IsFront, ReachedAt, Between, IsAmong, IsDraft, IsRight, IsCarried, AreIdle}
use Rattle.dump_laws.proofs.Effects.{acts, after-at, acts-append, again, after-append-at, Leaves, cases_acts, settles-append, settles_constant, not_both, reached_cases, reached_from}

pub front-append : (front ops more : List Operation) → IsFront front ops → IsFront front (ops ++ more)
front-append front ops more h = record { rest = h.rest ++ more; is = sym (append_assoc front h.rest more) ∙ ap (λ all. all ++ more) h.is }

pub front_after : (ops front more : List Operation) → IsFront front more → IsFront (ops ++ front) (ops ++ more)
front_after ops front more h = record { rest = h.rest; is = append_assoc ops front h.rest ∙ ap (λ all. ops ++ all) h.is }

-- nothing done is between
pub still : (kind : Kind) (c : Rows) (ops : List Operation) → Between kind c ops c
still kind c ops r = record { front = []; short = record { rest = ops; is = refl }; is = refl }

-- more ops
pub appended : (kind : Kind) (c f : Rows) (ops more : List Operation) → Between kind c ops f → Between kind c (ops ++ more) f
appended kind c f ops more h r = let at : ReachedAt kind c ops f r =
    h r in record { front = at.front; short = front-append at.front ops more at.short; is = at.is }

-- one of the ops is done
pub carried : (kind : Kind) (c f : Rows) (ops : List Operation) (op : Operation) → IsAmong op ops → Between kind c ops f
    → Between kind c ops (put kind op f)
carried kind c f ops op one h r = go (effect kind op r) refl
  where
    go : (e : Effect) → effect kind op r ≡ e → ReachedAt kind c ops (put kind op f) r
    go leaves is = record { front = (h r).front; short = (h r).short; is = ap (λ e. act e (f r)) is ∙ (h r).is }
    go (settles v) is = record {
      front = one.before ++ op ∷ [];
      short = record { rest = one.behind; is = append_assoc one.before (op ∷ []) one.behind ∙ one.is };
      is = ap (λ e. act e (f r)) is ∙ sym
          (after-append-at kind one.before (op ∷ []) c r ∙ ap (λ e. act e (after put kind one.before c r)) is);
    }

-- between over what is between
pub through : (kind : Kind) (c f d : Rows) (ops : List Operation) → Between kind c ops f → Between kind f ops d → Between kind c ops d
through kind c f d ops h g r = elim (cases_acts kind r (g r).front) [
  | inl same ↦ record {
    front = (g r).front;
    short = (g r).short;
    is = (g r).is ∙ after-at kind (g r).front f r ∙ same (f r) (c r)
        ∙ sym (after-at kind (g r).front c r);
  }
  | inr left ↦ record { front = (h r).front; short = (h r).short; is = (g r).is ∙ after-at kind (g r).front f r ∙ left (f r) ∙ (h r).is }
]

-- each record as in the one or as in the other
pub either : (kind : Kind) (c f d m : Rows) (ops : List Operation) → Between kind c ops f → Between kind c ops d
    → ((r : Tree) → (m r ≡ f r) ⊎ (m r ≡ d r)) → Between kind c ops m
either kind c f d m ops h g which r = elim (which r) [
  | inl is ↦ record { front = (h r).front; short = (h r).short; is = is ∙ (h r).is }
  | inr is ↦ record { front = (g r).front; short = (g r).short; is = is ∙ (g r).is }
]

-- ---- carrying

-- the ops carried so far can be left out, and with the next one done over f it can be too
pub next_carried : (kind : Kind) (f : Rows) (gone : List Operation) (op : Operation) (left : List Operation)
    → AreIdle kind gone (op ∷ left) f → AreIdle kind (gone ++ op ∷ []) left (put kind op f)
next_carried kind f gone op left h r =
    h r
    ∙ sym (again kind f (put kind op f) (gone ++ op ∷ left)
    (carried kind f f (gone ++ op ∷ left) op record { before = gone; behind = left; is = refl } (still kind f (gone ++ op ∷ left))) r)
    ∙ ap (λ all. after put kind all (put kind op f) r) (sym (append_assoc gone (op ∷ []) left))

-- when ops are appended to the log
pub idle-append : (kind : Kind) (f : Rows) (gone left more : List Operation) → AreIdle kind gone left f → AreIdle kind gone (left ++ more) f
idle-append kind f gone left more h r =
    after-append-at kind left more f r ∙ ap (acts kind r more) (h r) ∙ sym (after-append-at kind (gone ++ left) more f r)
    ∙ ap (λ all. after put kind all f r) (append_assoc gone left more)

-- where previous leaves the record, what is between with it is between without it
pub without_idle : (kind : Kind) (c f : Rows) (previous latest : List Operation) (r : Tree) → Leaves kind r previous
    → ReachedAt kind c (previous ++ latest) f r → ReachedAt kind (after put kind previous c) latest f r
without_idle kind c f previous latest r idle h = elim (reached_cases kind c f (previous ++ latest) r h) [
  | inl same ↦ reached_from kind (after put kind previous c) f latest r (inl (same ∙ sym (idle (c r)) ∙ sym (after-at kind previous c r)))
  | inr by ↦ elim (settles-append kind r (f r) previous latest by) [
    | inl early ↦ absurd (not_both kind r previous (settles_constant kind r (f r) previous early) idle)
    | inr late ↦ reached_from kind (after put kind previous c) f latest r (inr late)
  ]
]

-- with all of previous done over f
pub all_carried : (kind : Kind) (c f : Rows) (previous latest : List Operation) → Between kind c (previous ++ latest) f
    → IsCarried kind c previous latest (after put kind previous f)
all_carried kind c f previous latest h r = elim (cases_acts kind r previous) [
  | inl same ↦ record {
    front = [];
    short = record { rest = latest; is = refl };
    is = after-at kind previous f r ∙ same (f r) (c r)
        ∙ sym (after-at kind previous c r);
  }
  | inr left ↦
      let at : ReachedAt kind (after put kind previous c) latest f r = without_idle kind c f previous latest r left (h r) in
      record { front = at.front; short = at.short; is = after-at kind previous f r ∙ left (f r) ∙ at.is }
]

-- what is carried gives, over latest alone, what all the ops give over c
pub carried_gives : (kind : Kind) (c f : Rows) (previous latest : List Operation) → IsCarried kind c previous latest f → (r : Tree)
    → after put kind latest f r ≡ after put kind (previous ++ latest) c r
carried_gives kind c f previous latest h r =
    again kind (after put kind previous c) f latest h r
    ∙ after-at kind latest (after put kind previous c) r
    ∙ sym (after-append-at kind previous latest c r)

-- and it is between, with previous too
pub carried_between : (kind : Kind) (c f : Rows) (previous latest : List Operation) → IsCarried kind c previous latest f
    → Between kind c (previous ++ latest) f
carried_between kind c f previous latest h r = record {
  front = previous ++ (h r).front;
  short = front_after previous (h r).front latest (h r).short;
  is = (h r).is ∙ after-at kind (h r).front (after put kind previous c) r ∙ sym (after-append-at kind previous (h r).front c r);
}

pub carried_idle : (kind : Kind) (c f : Rows) (previous latest : List Operation) → IsCarried kind c previous latest f
    → AreIdle kind previous latest f
carried_idle kind c f previous latest h r =
    carried_gives kind c f previous latest h r ∙ sym (again kind c f (previous ++ latest) (carried_between kind c f previous latest h) r)

-- ---- drafts

pub draft_between : (kind : Kind) (f d : Rows) (previous latest : List Operation) → IsDraft kind f previous latest d
    → Between kind f (previous ++ latest) d
draft_between kind f d previous latest h r =
    record { front = previous ++ (h r).more; short = front_after previous (h r).more latest (h r).short; is = (h r).is }

pub draft_carried : (kind : Kind) (c f d : Rows) (previous latest : List Operation) → Between kind c (previous ++ latest) f
    → IsDraft kind f previous latest d → IsCarried kind c previous latest d
draft_carried kind c f d previous latest h g r = elim (cases_acts kind r (previous ++ (g r).more)) [
  | inl same ↦ record {
    front = (g r).more;
    short = (g r).short;
    is = (g r).is ∙ after-at kind (previous ++ (g r).more) f r ∙ same (f r) (c r) ∙ sym (after-at kind (previous ++ (g r).more) c r)
        ∙ after-append-at kind previous (g r).more c r ∙ sym (after-at kind (g r).more (after put kind previous c) r);
  }
  | inr left ↦
      let at : ReachedAt kind (after put kind previous c) latest f r =
      without_idle kind c f previous latest r (front_leaves kind r previous (g r).more left) (h r) in
      record { front = at.front; short = at.short; is = (g r).is ∙ after-at kind (previous ++ (g r).more) f r ∙ left (f r) ∙ at.is }
]
  where
    front_leaves : (kind : Kind) (r : Tree) (front rest : List Operation) → Leaves kind r (front ++ rest) → Leaves kind r front
    front_leaves kind r front rest all = elim (cases_acts kind r front) [
      | inl same ↦ absurd (true≢false
          (sym (all true) ∙ acts-append kind r front rest true ∙ ap (acts kind r rest) (same true false)
          ∙ sym (acts-append kind r front rest false) ∙ all false))
      | inr left ↦ left
    ]

-- the new file beside the old one of ops: those ops are done over the draft
pub beside : (kind : Kind) (base f d : Rows) (history : List Operation) → ((r : Tree) → f r ≡ after put kind history base r) → (r : Tree)
    → (after put kind history d r ≡ f r) ⊎ (after put kind history d r ≡ d r)
beside kind base f d history is r = elim (cases_acts kind r history) [
  | inl same ↦ inl (after-at kind history d r ∙ same (d r) (base r) ∙ sym (after-at kind history base r) ∙ sym (is r))
  | inr left ↦ inr (after-at kind history d r ∙ left (d r))
]

-- a draft is a draft over any contents of which each record is as before or as in the draft
pub draft_over : (kind : Kind) (f d m : Rows) (previous latest : List Operation) → ((r : Tree) → (m r ≡ f r) ⊎ (m r ≡ d r))
    → IsDraft kind f previous latest d → IsDraft kind m previous latest d
draft_over kind f d m previous latest which h r = record {
  more = (h r).more;
  short = (h r).short;
  is = elim (which r) [
    | inl is ↦ (h r).is ∙ after-at kind (previous ++ (h r).more) f r ∙ ap (acts kind r (previous ++ (h r).more)) (sym is)
        ∙ sym (after-at kind (previous ++ (h r).more) m r)
    | inr is ↦ elim (cases_acts kind r (previous ++ (h r).more)) [
      | inl same ↦ (h r).is ∙ after-at kind (previous ++ (h r).more) f r ∙ same (f r) (m r)
          ∙ sym (after-at kind (previous ++ (h r).more) m r)
      | inr left ↦ sym is ∙ sym (left (m r)) ∙ sym (after-at kind (previous ++ (h r).more) m r)
    ]
  ];
}

pub idle_either : (kind : Kind) (f d m : Rows) (gone left : List Operation) → ((r : Tree) → (m r ≡ f r) ⊎ (m r ≡ d r))
    → AreIdle kind gone left f → AreIdle kind gone left d → AreIdle kind gone left m
idle_either kind f d m gone left which h g r = elim (which r) [
  | inl is ↦ after-at kind left m r ∙ ap (acts kind r left) is ∙ sym (after-at kind left f r) ∙ h r ∙ after-at kind (gone ++ left) f r
      ∙ ap (acts kind r (gone ++ left)) (sym is) ∙ sym (after-at kind (gone ++ left) m r)
  | inr is ↦ after-at kind left m r ∙ ap (acts kind r left) is ∙ sym (after-at kind left d r) ∙ g r ∙ after-at kind (gone ++ left) d r
      ∙ ap (acts kind r (gone ++ left)) (sym is) ∙ sym (after-at kind (gone ++ left) m r)
]

pub draft_idle : (kind : Kind) (f d : Rows) (previous latest : List Operation) → IsDraft kind f previous latest d
    → AreIdle kind previous latest d
draft_idle kind f d previous latest h =
    carried_idle kind f d previous latest (draft_carried kind f f d previous latest (still kind f (previous ++ latest)) h)

-- ---- a draft that is written while ops come

pub right_begun : (kind : Kind) (f : Rows) (previous latest : List Operation) → IsRight kind f previous latest nothing (λ r. false)
right_begun kind f previous latest = record { below = λ r is. absurd (true≢false (sym is)); above = λ r is. refl }

-- a walk writes what it finds in the live table, up to a place further on
pub right_walked : (kind : Kind) (f : Rows) (previous latest : List Operation) (d d' live : Rows) (upto upto' : Tree → Bool)
    → ((r : Tree) → live r ≡ after put kind (previous ++ latest) f r)
    → ((r : Tree) → upto r ≡ true → d' r ≡ d r) → ((r : Tree) → upto r ≡ false → upto' r ≡ true → d' r ≡ live r)
    → ((r : Tree) → upto' r ≡ false → d' r ≡ false)
    → IsRight kind f previous latest d upto → IsRight kind f previous latest d' upto'
right_walked kind f previous latest d d' live upto upto' is same found none h = record {
  below = λ r in_new. elim (cases_Bool (upto r)) [
    | inl old ↦ record { more = (h.below r old).more; short = (h.below r old).short; is = same r old ∙ (h.below r old).is }
    | inr new ↦ record { more = latest; short = record { rest = []; is = append-nil latest }; is = found r new in_new ∙ is r }
  ];
  above = none;
}

pub right-append : (kind : Kind) (f : Rows) (previous latest more : List Operation) (d : Rows) (upto : Tree → Bool)
    → IsRight kind f previous latest d upto → IsRight kind f previous (latest ++ more) d upto
right-append kind f previous latest more d upto h = record {
  below = λ r is. record {
    more = (h.below r is).more;
    short =
        front-append (h.below r is).more latest more (h.below r is).short;
    is = (h.below r is).is;
  };
  above = h.above;
}

among-append : (op : Operation) (ops more : List Operation) → IsAmong op ops → IsAmong op (ops ++ more)
among-append op ops more h = record {
  before = h.before;
  behind = h.behind ++ more;
  is = sym (append_assoc h.before (op ∷ h.behind) more)
      ∙ ap (λ all. all ++ more) h.is;
}

pub right_carried : (kind : Kind) (f : Rows) (previous latest : List Operation) (op : Operation) (d : Rows) (upto : Tree → Bool)
    → IsAmong op previous
    → IsRight kind f previous latest d upto → IsRight kind (put kind op f) previous latest d upto
right_carried kind f previous latest op d upto one h = record {
  below = λ r is. record {
    more = (h.below r is).more;
    short = (h.below r is).short;
    is = (h.below r is).is ∙ sym (again kind f (put kind op f) (previous ++ (h.below r is).more)
        (carried kind f f (previous ++ (h.below r is).more) op (among-append op previous (h.below r is).more one)
        (still kind f (previous ++ (h.below r is).more))) r);
  };
  above = h.above;
}

pub right_whole : (kind : Kind) (f : Rows) (previous latest : List Operation) (d : Rows) (upto : Tree → Bool) → ((r : Tree) → upto r ≡ true)
    → IsRight kind f previous latest d upto → IsDraft kind f previous latest d
right_whole kind f previous latest d upto all h r = h.below r (all r)
