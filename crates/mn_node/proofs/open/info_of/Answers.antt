use Rattle.std.proofs.Common.{◌≡◌, [], ◌∷◌, ◌++◌, map, sym, ap, ◌∙◌}
use Rattle.std.proofs.lemmas.List.{map-append}
use Rattle.term_core.specs.View.{tree_of}
use Rattle.db_model.specs.Options.{option_of, settings_of}
use Rattle.db_model.specs.View.{definition}
use Rattle.db_model.proofs.Forests.{list_tree, same_lists}
use Rattle.mn_node.proofs.open.info_of.Goals as goal

pub returns : goal.returns
returns c =
    let terms = c.in-List.terms in
    let options = map option_of (settings_of (definition c.args.def.now)) in
    let same : map tree_of terms ≡ options =
    same_lists (map tree_of terms) options (sym (list_tree c.in_ok-terms.field-0 terms c.in-List.is) ∙ c.in_ok-terms.ensures) in
    let size = c.in_ok-size_option-in-List.ensures in
    ap (map tree_of) c.in_ok-push-in-List.ensures.ok ∙ map-append tree_of terms (c.in_ok-size_option-in-List.field-0 ∷ [])
    ∙ (λ i. same i ++ size i ∷ [])
