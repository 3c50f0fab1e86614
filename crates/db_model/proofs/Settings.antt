-- What options say.
use Rattle.std.proofs.Common.{◌≡◌, ◌≢◌, ℕ, ◌+◌, ◌-◌, ◌<◌, ◌≤◌, List, [], ◌∷◌, ◌++◌, get_or, take, map, length, refl, sym, ap, subst, ◌∙◌, arith, inl, inr, Option, Some, None, IsTrue, Bool, true, false}
use Rattle.std.specs.Prelude.{All, slice_get, MatchOption, ◌↔◌}
use Rattle.std.specs.Borrow.{Bor}
use Rattle.std.specs.List.{AllPairs, filter_map, cons_option}
use Rattle.std.specs.Option.{option_map, option_copied}
use Rattle.std.proofs.lemmas.List.{get_or-map, get_or-take, length-map, length-take-le, take_more, take_all, take-map, map-append, append-nil}
use Rattle.std.proofs.lemmas.List.Elements.{All-nil, All-cons, All-append, All-map, filter_map-append}
use Rattle.std.proofs.lemmas.List.Quantifiers.{all_pairs_push}
use Rattle.std.proofs.lemmas.Option.{slice_get-map}
use Rattle.term_core.specs.Tree.{Tree, atom, tuple, list, tree, count, inner}
use Rattle.term_core.specs.View.{tree_of, trees_of, forest_of}
use Rattle.term_core.specs.declared.term.Term.{Term}
use Rattle.term_core.proofs.Forests.{count_forest_of}
use Rattle.db_model.specs.declared.definition.Kind.TheVariants.{Set}
use Rattle.db_model.specs.declared.error.DefErr.{DefErr}
use Rattle.db_model.specs.declared.error.DefErr.TheVariants.{BadName, BadOption, Memory}
use Rattle.db_model.specs.declared.setting.Setting.{Setting}
use Rattle.db_model.specs.Names.{IsTableName}
use Rattle.db_model.specs.Options.{TableSetting, kind_is, word_of, value_of, option_shape, option_of, IsAllowed, IsOptionOf, IsNoOption, HaveOtherWords, AreOptionsOf, IsFirstIll, IsIllOption, IsRefusal, attributes_at}
use Rattle.db_model.specs.View.{setting}
use Rattle.db_model.proofs.Forests.{all_from_map}

-- no option has three elements or more
pub no_longer_option : (word : List ℕ) (rest : List Term) → 2 ≤ length rest → IsNoOption (tuple (tree (atom word) (forest_of rest)))
no_longer_option word rest long setting says =
    let size : count (forest_of rest) + 1 ≡ count (inner (option_of setting)) = ap (λ (t : Tree). count (inner t)) says.is in
    absurd (omega (arith, size, count_forest_of rest))

-- ---- lists of options

same_word : (word other : List ℕ) (value more : Tree) → option_shape word value ≡ option_shape other more → word ≡ other
same_word word other value more is = cc

-- the option at a place says what the setting at that place says
option_at : (settings : List TableSetting) (options : List Tree) (most n : ℕ) (s : TableSetting) (t : Tree) → n < most
    → most ≤ length options
    → take most options ≡ map option_of settings → get_or options n t ≡ option_of (get_or settings n s)
option_at settings options most n s t lt within are =
    let size : length settings ≡ most = sym (length-map settings option_of) ∙ ap length (sym are) ∙ length-take-le most options within in
    sym (get_or-take most options n t lt) ∙ ap (λ (ts : List Tree). get_or ts n t) are ∙ get_or-map option_of settings n s t (omega arith)

settings_count : (settings : List TableSetting) (options : List Tree) (most : ℕ) → most ≤ length options
    → take most options ≡ map option_of settings → length settings ≡ most
settings_count settings options most within are = sym (length-map settings option_of) ∙ ap length (sym are)
    ∙ length-take-le most options within

-- where the option at a place says nothing, the options up to it say nothing
pub ill_at : (options : List Tree) (n : ℕ) (t : Tree) → n < length options → get_or options n t ≡ t → IsNoOption t
    → (settings : List TableSetting) → AreOptionsOf settings (take (n + 1) options) → ⊥
ill_at options n t lt at none settings say =
    let size = settings_count settings options (n + 1) (omega arith) say.are in
    none (get_or settings n (kind_is Set)) (record {
      is = sym at ∙ option_at settings options (n + 1) n (kind_is Set) t (omega arith) (omega arith) say.are;
      allowed = say.allowed n (kind_is Set) (omega arith);
    })

-- nor do they where it says what an earlier one says
pub ill_word : (options : List Tree) (n : ℕ) (t : Tree) (s : TableSetting) (earlier : List TableSetting) → n < length options
    → get_or options n t ≡ t
    → IsOptionOf s t → AreOptionsOf earlier (take n options) → (All (λ other. word_of other ≢ word_of s) earlier → ⊥)
    → (settings : List TableSetting) → AreOptionsOf settings (take (n + 1) options) → ⊥
ill_word options n t s earlier lt at says were twice settings say =
    let size = settings_count settings options (n + 1) (omega arith) say.are in
    let count = settings_count earlier options n (omega arith) were.are in
    twice (λ k d within same.
    let here : option_of (get_or settings n d) ≡ option_of s = sym (option_at settings options (n + 1) n d t (omega arith) (omega arith)
    say.are) ∙ at ∙ says.is in
    let there : option_of (get_or settings k d) ≡ option_of (get_or earlier k d) =
    sym (option_at settings options (n + 1) k d t (omega arith) (omega arith) say.are)
    ∙ option_at earlier options n k d t (omega arith) (omega arith) were.are in
    say.different k n d (omega arith) (omega arith)
    (same_word _ _ _ _ there ∙ same ∙ sym (same_word _ _ _ _ here)))

-- one more option that may stand there
pub more_options : (options : List Tree) (n : ℕ) (t : Tree) (s : TableSetting) (earlier : List TableSetting) → n < length options
    → get_or options n t ≡ t
    → IsOptionOf s t → AreOptionsOf earlier (take n options) → All (λ other. word_of other ≢ word_of s) earlier
    → AreOptionsOf (earlier ++ s ∷ []) (take (n + 1) options)
more_options options n t s earlier lt at says were other =
    let front : take (n + 1) options ≡ take n options ++ t ∷ [] = take_more options n t lt
    ∙ ap (λ (u : Tree). take n options ++ u ∷ []) at in
    record {
      are = front ∙ (λ i. were.are i ++ says.is i ∷ []) ∙ sym (map-append option_of earlier (s ∷ []));
      allowed = All-append IsAllowed earlier (s ∷ []) were.allowed (All-cons IsAllowed s [] says.allowed (All-nil IsAllowed));
      different = all_pairs_push HaveOtherWords earlier s were.different other;
    }

pub first_ill : (options : List Tree) (n place : ℕ) (earlier : List TableSetting) → place ≡ n + 1 → n < length options
    → AreOptionsOf earlier (take n options)
    → ((settings : List TableSetting) → AreOptionsOf settings (take (n + 1) options) → ⊥) → IsFirstIll place options
first_ill options n place earlier is lt were ill =
    let before : place - 1 ≡ n = omega arith in
    record {
      from_one = omega arith;
      within = omega arith;
      earlier = (earlier, subst (λ m. AreOptionsOf earlier (take m options)) (sym before) were);
      ill = subst (λ m. (settings : List TableSetting) → AreOptionsOf settings (take m options) → ⊥) (sym is) ill;
    }

-- ---- the same of terms, as they are read

tree_at : (ts : List Term) (n : ℕ) (t : Term) → n < length ts → t ≡ get_or ts n t → get_or (map tree_of ts) n (tree_of t) ≡ tree_of t
tree_at ts n t lt at = get_or-map tree_of ts n t (tree_of t) lt ∙ sym (ap tree_of at)

-- what was read, as trees
as_trees : (ts : List Term) (n : ℕ) (settings : List TableSetting) → AreOptionsOf settings (map tree_of (take n ts))
    → AreOptionsOf settings (take n (map tree_of ts))
as_trees ts n settings say = subst (AreOptionsOf settings) (sym (take-map tree_of n ts)) say

trees_count : (ts : List Term) (n : ℕ) → n < length ts → n < length (map tree_of ts)
trees_count ts n lt = subst (λ m. n < m) (sym (length-map ts tree_of)) lt

none_told : (found : Option Setting) (t : Tree) → MatchOption found (IsNoOption t) (λ s. IsOptionOf (setting s) t) → found ≡ None
    → IsNoOption t
none_told found t says is = subst (λ (o : Option Setting). MatchOption o (IsNoOption t) (λ s. IsOptionOf (setting s) t)) is says

some_told : (found : Option Setting) (t : Tree) (s : Setting) → MatchOption found (IsNoOption t) (λ s. IsOptionOf (setting s) t)
    → found ≡ Some s → IsOptionOf (setting s) t
some_told found t s says is = subst (λ (o : Option Setting). MatchOption o (IsNoOption t) (λ s. IsOptionOf (setting s) t)) is says

pub ill_term : (ts : List Term) (n : ℕ) (t : Term) (found : Option Setting) (earlier : List Setting) → n < length ts → t ≡ get_or ts n t
    → AreOptionsOf (map setting earlier) (map tree_of (take n ts)) → MatchOption found (IsNoOption (tree_of t))
    (λ s. IsOptionOf (setting s) (tree_of t)) → found ≡ None
    → IsFirstIll (n + 1) (map tree_of ts)
ill_term ts n t found earlier lt at were says is =
    first_ill (map tree_of ts) n (n + 1) (map setting earlier) refl (trees_count ts n lt) (as_trees ts n _ were)
    (ill_at (map tree_of ts) n (tree_of t) (trees_count ts n lt) (tree_at ts n t lt at) (none_told found (tree_of t) says is))

pub ill_term_word : (ts : List Term) (n : ℕ) (t : Term) (found : Option Setting) (s : Setting) (earlier seen : List Setting) (b : Bool)
    → n < length ts → t ≡ get_or ts n t
    → AreOptionsOf (map setting earlier) (map tree_of (take n ts)) → MatchOption found (IsNoOption (tree_of t))
    (λ s. IsOptionOf (setting s) (tree_of t)) → found ≡ Some s
    → seen ≡ earlier → IsTrue b ↔ All (λ other. word_of (setting other) ≢ word_of (setting s)) seen → b ≡ false
    → IsFirstIll (n + 1) (map tree_of ts)
ill_term_word ts n t found s earlier seen b lt at were says is same tests twice =
    first_ill (map tree_of ts) n (n + 1) (map setting earlier) refl (trees_count ts n lt) (as_trees ts n _ were)
    (ill_word (map tree_of ts) n (tree_of t) (setting s) (map setting earlier) (trees_count ts n lt) (tree_at ts n t lt at)
    (some_told found (tree_of t) s says is) (as_trees ts n _ were)
    (λ other. let yes : b ≡ true = tests.1 (subst (All (λ o. word_of (setting o) ≢ word_of (setting s))) (sym same)
    (all_from_map (λ o. word_of o ≢ word_of (setting s)) setting earlier other)) in cc))

pub more_terms : (ts : List Term) (n : ℕ) (t : Term) (found : Option Setting) (s : Setting) (earlier seen more : List Setting)
    → n < length ts → t ≡ get_or ts n t
    → AreOptionsOf (map setting earlier) (map tree_of (take n ts)) → MatchOption found (IsNoOption (tree_of t))
    (λ s. IsOptionOf (setting s) (tree_of t)) → found ≡ Some s
    → seen ≡ earlier → All (λ other. word_of (setting other) ≢ word_of (setting s)) seen → more ≡ earlier ++ s ∷ []
    → AreOptionsOf (map setting more) (map tree_of (take (n + 1) ts))
more_terms ts n t found s earlier seen more lt at were says is same other grown =
    let all : map setting more ≡ map setting earlier ++ setting s ∷ [] = ap (map setting) grown ∙ map-append setting earlier (s ∷ []) in
    let made = more_options (map tree_of ts) n (tree_of t) (setting s) (map setting earlier) (trees_count ts n lt) (tree_at ts n t lt at)
    (some_told found (tree_of t) s says is) (as_trees ts n _ were)
    (All-map (λ o. word_of o ≢ word_of (setting s)) setting earlier (subst (All (λ o. word_of (setting o) ≢ word_of (setting s))) same
    other)) in
    subst (AreOptionsOf (map setting more)) (take-map tree_of (n + 1) ts)
    (subst (λ ss. AreOptionsOf ss (take (n + 1) (map tree_of ts))) (sym all) made)

pub all_terms : (ts : List Term) (n : ℕ) (settings : List Setting) → length ts ≤ n
    → AreOptionsOf (map setting settings) (map tree_of (take n ts))
    → AreOptionsOf (map setting settings) (map tree_of ts)
all_terms ts n settings past say = subst (λ (us : List Term). AreOptionsOf (map setting settings) (map tree_of us)) (take_all n ts past) say

pub list_refused : (name : List ℕ) (term : Tree) (options : List Tree) (error : DefErr) → IsTableName name → term ≡ list (trees_of options)
    → IsIllOption options error
    → IsRefusal name term error
list_refused name term options BadName named is ill = absurd ill
list_refused name term options (BadOption place) named is ill = (named, inr (options, is, ill))
list_refused name term options Memory named is ill = tt

-- ---- indexed attributes

cons_found : (h : ℕ → Option Tree) (p : ℕ) (found : Option Tree) → h p ≡ found → filter_map h (p ∷ []) ≡ cons_option found []
cons_found h p found is = ap (λ (o : Option Tree). cons_option o []) is

more_indexed : (attributes : List Term) (positions : List ℕ) (n k : ℕ) (got : Option (Bor Term)) (found : Option Term)
    → n < length positions → k ≡ get_or positions n 0 - 2
    → option_copied got ≡ slice_get attributes k → option_copied got ≡ found
    → attributes_at (map tree_of attributes) (take (n + 1) positions) ≡ attributes_at (map tree_of attributes) (take n positions) ++
    cons_option (option_map tree_of found) []
more_indexed attributes positions n k got found lt less gives is =
    let p = get_or positions n 0 in
    let h : ℕ → Option Tree = λ q. slice_get (map tree_of attributes) (q - 2) in
    let here : slice_get attributes (p - 2) ≡ found = ap (slice_get attributes) (sym less) ∙ sym gives ∙ is in
    ap (filter_map h) (take_more positions n 0 lt) ∙ filter_map-append h (take n positions) (p ∷ [])
    ∙ ap (λ ts. filter_map h (take n positions) ++ ts) (cons_found h p (option_map tree_of found) (slice_get-map tree_of attributes (p - 2)
    ∙ ap (option_map tree_of) here))

-- a position at which there is no attribute
pub none_indexed : (attributes found : List Term) (positions : List ℕ) (n k : ℕ) (got : Option (Bor Term)) → n < length positions
    → k ≡ get_or positions n 0 - 2
    → option_copied got ≡ slice_get attributes k → got ≡ None → map tree_of found ≡ attributes_at (map tree_of attributes)
    (take n positions)
    → map tree_of found ≡ attributes_at (map tree_of attributes) (take (n + 1) positions)
none_indexed attributes found positions n k got lt less gives is were =
    were ∙ sym (more_indexed attributes positions n k got None lt less gives (ap option_copied is) ∙ append-nil _)

pub one_indexed : (attributes found more : List Term) (positions : List ℕ) (n k : ℕ) (got : Option (Bor Term)) (one : Bor Term)
    (copy : Term) → n < length positions
    → k ≡ get_or positions n 0 - 2 → option_copied got ≡ slice_get attributes k → got ≡ Some one
    → map tree_of found ≡ attributes_at (map tree_of attributes) (take n positions) → copy ≡ one.now
    → more ≡ found ++ copy ∷ [] → map tree_of more ≡ attributes_at (map tree_of attributes) (take (n + 1) positions)
one_indexed attributes found more positions n k got one copy lt less gives is were same grown =
    ap (map tree_of) grown ∙ map-append tree_of found (copy ∷ []) ∙ (λ i. were i ++ tree_of (same i) ∷ [])
    ∙ sym (more_indexed attributes positions n k got (Some one.now) lt less gives (ap option_copied is))
