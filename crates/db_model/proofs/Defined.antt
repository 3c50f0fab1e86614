-- What a list of options defines.
use Rattle.std.proofs.Common.{◌≡◌, ◌≢◌, ℕ, ◌+◌, ◌<◌, ◌≤◌, ◌^◌, List, [], ◌∷◌, get_or, take, map, length, refl, sym, ap, subst, ◌∙◌, arith, inl, inr, Option, Some, None, Result, Ok, Err}
use Rattle.std.specs.Prelude.{All, MatchOption, IfOk, codes}
use Rattle.std.specs.List.{AllPairs}
use Rattle.std.proofs.lemmas.List.{get_or-take, length-take, take-map}
use Rattle.std.proofs.lemmas.List.Elements.{All-nil, All-cons, All-head, All-tail, All-take}
use Rattle.std.proofs.lemmas.List.Kept.{AllPairs-cons}
use Rattle.term_core.specs.Tree.{Tree, atom, list}
use Rattle.term_core.specs.View.{trees_of}
use Rattle.db_model.specs.declared.definition.Kind.{Kind}
use Rattle.db_model.specs.declared.definition.Kind.TheVariants.{Set, OrderedSet, Bag}
use Rattle.db_model.specs.declared.definition.TableDef.{TableDef}
use Rattle.db_model.specs.declared.error.DefErr.{DefErr}
use Rattle.db_model.specs.declared.error.DefErr.TheVariants.{BadName, BadOption, Memory}
use Rattle.db_model.specs.Definitions.{Definition, IsAtom, Differ, AreAttributes, IsPosition, AreIndexed, IsDefinition}
use Rattle.db_model.specs.Options.{TableSetting, kind_is, record_name_is, attributes_are, indexed_are, kind_word, word_of, value_of, option_shape, option_of, IsAllowed, HaveOtherWords, AreOptionsOf, attributes_in, made_of, IsDefinedBy, IsRefusal, attributes_at, settings_of, create_tree}
use Rattle.db_model.specs.View.{definition}
use Rattle.db_model.proofs.Forests.{same_lists}

-- ---- one table is defined

same_value : (word other : List ℕ) (value more : Tree) → option_shape word value ≡ option_shape other more → value ≡ more
same_value word other value more is = cc

same_text : (one other : List ℕ) → atom one ≡ atom other → one ≡ other
same_text one other is = cc

-- words that begin with other letters
abbrev first_letter : List ℕ → ℕ
first_letter word = get_or word 0 0

set_ordered : kind_word Set ≡ kind_word OrderedSet → ⊥
set_ordered is = let h : 115 ≡ 111 = ap first_letter is in omega (arith, h)

set_bag : kind_word Set ≡ kind_word Bag → ⊥
set_bag is = let h : 115 ≡ 98 = ap first_letter is in omega (arith, h)

ordered_bag : kind_word OrderedSet ≡ kind_word Bag → ⊥
ordered_bag is = let h : 111 ≡ 98 = ap first_letter is in omega (arith, h)

same_kind : (kind other : Kind) → kind_word kind ≡ kind_word other → kind ≡ other
same_kind Set Set is = refl
same_kind Set OrderedSet is = absurd (set_ordered is)
same_kind Set Bag is = absurd (set_bag is)
same_kind OrderedSet Set is = absurd (set_ordered (sym is))
same_kind OrderedSet OrderedSet is = refl
same_kind OrderedSet Bag is = absurd (ordered_bag is)
same_kind Bag Set is = absurd (set_bag (sym is))
same_kind Bag OrderedSet is = absurd (ordered_bag (sym is))
same_kind Bag Bag is = refl

same_option : (one other : TableSetting) → option_of one ≡ option_of other → one ≡ other
same_option (kind_is kind) (kind_is more) is =
    ap kind_is (same_kind kind more (same_text (kind_word kind) (kind_word more)
    (same_value (codes "type") (codes "type") (atom (kind_word kind)) (atom (kind_word more)) is)))
same_option (kind_is kind) other is = absurd cc
same_option (record_name_is name) (record_name_is more) is = cc
same_option (record_name_is name) other is = absurd cc
same_option (attributes_are attributes) (attributes_are more) is =
    ap attributes_are (same_lists attributes more (same_value (codes "attributes") (codes "attributes") (list (trees_of attributes))
    (list (trees_of more)) is))
same_option (attributes_are attributes) other is = absurd cc
same_option (indexed_are attributes) (indexed_are more) is =
    ap indexed_are (same_lists attributes more (same_value (codes "index") (codes "index") (list (trees_of attributes))
    (list (trees_of more)) is))
same_option (indexed_are attributes) other is = absurd cc

first_is : (t u : Tree) (ts us : List Tree) → t ∷ ts ≡ u ∷ us → t ≡ u
first_is t u ts us is = cc

others_are : (t u : Tree) (ts us : List Tree) → t ∷ ts ≡ u ∷ us → ts ≡ us
others_are t u ts us is = cc

same_settings : (settings others : List TableSetting) → map option_of settings ≡ map option_of others → settings ≡ others
same_settings [] [] is = refl
same_settings [] (o ∷ others) is = absurd cc
same_settings (s ∷ settings) [] is = absurd cc
same_settings (s ∷ settings) (o ∷ others) is =
    λ i. same_option s o (first_is (option_of s) (option_of o) (map option_of settings) (map option_of others) is) i
    ∷ same_settings settings others (others_are (option_of s) (option_of o) (map option_of settings) (map option_of others) is) i

pub one_definition : (term : Tree) (one other : Definition) → one.name ≡ other.name → one.cookie ≡ other.cookie → IsDefinedBy term one
    → IsDefinedBy term other → one ≡ other
one_definition term one other name cookie x y =
    let options : x.options ≡ y.options = same_lists x.options y.options (sym x.is ∙ y.is) in
    let settings : x.settings ≡ y.settings = same_settings x.settings y.settings (sym x.say.are ∙ options ∙ y.say.are) in
    x.made ∙ (λ i. made_of (name i) (cookie i) (settings i)) ∙ sym y.made

-- ---- what is refused defines nothing

pairs_before : {X : Type 0} (R : X → X → Type 0) (xs : List X) (n : ℕ) → AllPairs R xs → AllPairs R (take n xs)
pairs_before R xs n pairs i j d lt within =
    let last : j < n = omega (arith, length-take n xs) in
    let inside : j < length xs = omega (arith, length-take n xs) in
    subst (λ x. R x (get_or (take n xs) j d)) (sym (get_or-take n xs i d (omega arith)))
    (subst (λ x. R (get_or xs i d) x) (sym (get_or-take n xs j d last)) (pairs i j d lt inside))

options_before : (settings : List TableSetting) (options : List Tree) (n : ℕ) → AreOptionsOf settings options
    → AreOptionsOf (take n settings) (take n options)
options_before settings options n say = record {
  are = ap (take n) say.are ∙ take-map option_of n settings;
  allowed = All-take IsAllowed n settings say.allowed;
  different = pairs_before HaveOtherWords settings n say.different;
}

pub not_refused : (term : Tree) (one : Definition) (error : DefErr) → IsRefusal one.name term error → error ≢ Memory → IsDefinedBy term one
    → ⊥
not_refused term one BadName refusal other x = refusal x.named
not_refused term one (BadOption place) refusal other x = elim refusal.1 [
  | inl none ↦ none.1 (trees_of x.options) x.is
  | inr ill ↦ ill.2.ill (take place x.settings) (options_before x.settings ill.0 place
      (subst (AreOptionsOf x.settings) (same_lists x.options ill.0 (sym x.is ∙ ill.1)) x.say))
]
not_refused term one Memory refusal other x = other refl

pub refused_definition : {E : Type 0} (name : List ℕ) (cookie : ℕ) (term : Tree) (error : DefErr) (r : Result (Option TableDef) E)
    → IsRefusal name term error
    → IfOk r (λ found. (found ≡ None) × (error ≡ Memory → ⊥))
    → IfOk r (λ found. MatchOption found ((one : Definition) → one.name ≡ name → IsDefinedBy term one → ⊥) (λ def. (def.name ≡ name)
    × (def.cookie ≡ cookie) × IsDefinedBy term (definition def)))
refused_definition name cookie term error (Ok None) refusal h =
    λ one called x. not_refused term one error (subst (λ n. IsRefusal n term error) (sym called) refusal) h.1 x
refused_definition name cookie term error (Ok (Some def)) refusal h = let none : Some def ≡ None = h.0 in absurd (cc)
refused_definition name cookie term error (Err e) refusal h = tt

-- ---- what is defined can be

no_pairs : {X : Type 0} (R : X → X → Type 0) → AllPairs R []
no_pairs R i j d lt within = absurd (omega arith)

key_is_not_val : Differ (atom (codes "key")) (atom (codes "val"))
key_is_not_val is = let h : 107 ≡ 118 = ap first_letter (same_text (codes "key") (codes "val") is) in omega (arith, h)

key_and_val : AreAttributes (atom (codes "key") ∷ atom (codes "val") ∷ [])
key_and_val =
    let key = atom (codes "key") in
    let val = atom (codes "val") in
    record {
      some = omega arith;
      few = omega arith;
      atoms = All-cons IsAtom key (val ∷ []) tt (All-cons IsAtom val [] tt (All-nil IsAtom));
      different = AllPairs-cons Differ key (val ∷ []) (All-cons (Differ key) val [] key_is_not_val (All-nil (Differ key)))
          (AllPairs-cons Differ val [] (All-nil (Differ val)) (no_pairs Differ));
    }

attributes_allowed : (settings : List TableSetting) → All IsAllowed settings → AreAttributes (attributes_in settings)
attributes_allowed [] allowed = key_and_val
attributes_allowed (attributes_are attributes ∷ others) allowed = All-head IsAllowed (attributes_are attributes) others allowed
attributes_allowed (kind_is kind ∷ others) allowed = attributes_allowed others (All-tail IsAllowed (kind_is kind) others allowed)
attributes_allowed (record_name_is name ∷ others) allowed = attributes_allowed others
    (All-tail IsAllowed (record_name_is name) others allowed)
attributes_allowed (indexed_are attributes ∷ others) allowed = attributes_allowed others
    (All-tail IsAllowed (indexed_are attributes) others allowed)

none_indexed : (attributes : ℕ) → AreIndexed attributes []
none_indexed attributes = record { increasing = λ k lt. absurd (omega arith); within = All-nil (IsPosition attributes); none = refl }

pub defined_lawful : (term : Tree) (one : Definition) → one.cookie < 2 ^ 64 → IsDefinedBy term one → IsDefinition one
defined_lawful term one cookie x = record {
  named = x.named;
  attributes = subst (λ (d : Definition). AreAttributes d.attributes) (sym x.made) (attributes_allowed x.settings x.say.allowed);
  index = subst (λ (d : Definition). AreIndexed (length d.attributes) d.index) (sym x.made)
      (none_indexed (length (attributes_in x.settings)));
  cookie = cookie;
}

-- ---- create lists

kind_or_name : (kind : Kind) (name : List ℕ) → HaveOtherWords (kind_is kind) (record_name_is name)
kind_or_name kind name is = let h : 116 ≡ 114 = ap first_letter is in omega (arith, h)

kind_or_attributes : (kind : Kind) (attributes : List Tree) → HaveOtherWords (kind_is kind) (attributes_are attributes)
kind_or_attributes kind attributes is = let h : 116 ≡ 97 = ap first_letter is in omega (arith, h)

kind_or_index : (kind : Kind) (attributes : List Tree) → HaveOtherWords (kind_is kind) (indexed_are attributes)
kind_or_index kind attributes is = let h : 116 ≡ 105 = ap first_letter is in omega (arith, h)

name_or_attributes : (name : List ℕ) (attributes : List Tree) → HaveOtherWords (record_name_is name) (attributes_are attributes)
name_or_attributes name attributes is = let h : 114 ≡ 97 = ap first_letter is in omega (arith, h)

name_or_index : (name : List ℕ) (attributes : List Tree) → HaveOtherWords (record_name_is name) (indexed_are attributes)
name_or_index name attributes is = let h : 114 ≡ 105 = ap first_letter is in omega (arith, h)

attributes_or_index : (attributes indexed : List Tree) → HaveOtherWords (attributes_are attributes) (indexed_are indexed)
attributes_or_index attributes indexed is = let h : 97 ≡ 105 = ap first_letter is in omega (arith, h)

abbrev all_settings : Kind → List ℕ → List Tree → List Tree → List TableSetting
all_settings kind name attributes indexed = kind_is kind ∷ record_name_is name ∷ attributes_are attributes ∷ indexed_are indexed ∷ []

other_words : (kind : Kind) (name : List ℕ) (attributes indexed : List Tree)
    → AllPairs HaveOtherWords (all_settings kind name attributes indexed)
other_words kind name attributes indexed =
    let k = kind_is kind in
    let n = record_name_is name in
    let a = attributes_are attributes in
    let x = indexed_are indexed in
    let R = HaveOtherWords in
    AllPairs-cons R k (n ∷ a ∷ x ∷ []) (All-cons (R k) n (a ∷ x ∷ []) (kind_or_name kind name)
    (All-cons (R k) a (x ∷ []) (kind_or_attributes kind attributes)
    (All-cons (R k) x [] (kind_or_index kind indexed) (All-nil (R k)))))
    (AllPairs-cons R n (a ∷ x ∷ []) (All-cons (R n) a (x ∷ []) (name_or_attributes name attributes)
    (All-cons (R n) x [] (name_or_index name indexed) (All-nil (R n))))
    (AllPairs-cons R a (x ∷ []) (All-cons (R a) x [] (attributes_or_index attributes indexed) (All-nil (R a)))
    (AllPairs-cons R x [] (All-nil (R x)) (no_pairs R))))

all_allowed : (kind : Kind) (name : List ℕ) (attributes indexed : List Tree) → AreAttributes attributes → indexed ≡ []
    → All IsAllowed (all_settings kind name attributes indexed)
all_allowed kind name attributes indexed are none =
    let k = kind_is kind in
    let n = record_name_is name in
    let a = attributes_are attributes in
    let x = indexed_are indexed in
    All-cons IsAllowed k (n ∷ a ∷ x ∷ []) tt (All-cons IsAllowed n (a ∷ x ∷ []) tt
    (All-cons IsAllowed a (x ∷ []) are (All-cons IsAllowed x [] none (All-nil IsAllowed))))

pub read_back : (one : Definition) (cookie : ℕ) → IsDefinition one → IsDefinedBy (create_tree one) (record one { cookie = cookie })
read_back one cookie is =
    let indexed = attributes_at one.attributes one.index in
    let none : indexed ≡ [] = ap (attributes_at one.attributes) is.index.none in
    record {
      named = is.named;
      settings = settings_of one;
      options = map option_of (settings_of one);
      is = refl;
      say = record {
        are = refl;
        allowed = all_allowed one.kind one.record_name one.attributes indexed is.attributes none;
        different = other_words one.kind one.record_name one.attributes indexed;
      };
      made = λ i. record {
        name = one.name;
        kind = one.kind;
        record_name = one.record_name;
        attributes = one.attributes;
        index =
            is.index.none i;
        cookie = cookie;
      };
    }
