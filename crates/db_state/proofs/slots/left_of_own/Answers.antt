use Rattle.std.proofs.Common.{◌≡◌, true, None, Some, sym, ap, subst}
use Rattle.db_model.specs.Commits.{SchemaOperation, remake}
use Rattle.db_model.specs.View.{definition, schema_operation}
use Rattle.db_state.specs.Live.{is_named}
use Rattle.db_state.specs.Inside.Slots.{op_name, HasKeys, IsLeft}
use Rattle.db_state.specs.declared.slots.Slot.{Slot}
use Rattle.db_state.proofs.SlotLists.{dropped, index_added, index_deleted, remade, keyed_def}
use Rattle.db_state.proofs.slots.left_of_own.Goals as goal

pub returns-in-DropTable : goal.returns-in-DropTable
returns-in-DropTable c =
    let is = ap schema_operation c.in-DropTable.is in
    let slot = c.args.slot in
    let own = subst (λ (o : SchemaOperation). is_named (op_name o) slot.def ≡ true) is c.requires.own in
    λ old. subst (λ (o : SchemaOperation). IsLeft o old slot None) (sym is) (dropped c.in-DropTable.field-0 old slot own)

pub returns-in_ok-slot-in-AddIndex : goal.returns-in_ok-slot-in-AddIndex
returns-in_ok-slot-in-AddIndex c =
    let is = ap schema_operation c.in-AddIndex.is in
    let slot = c.args.slot in
    let own = subst (λ (o : SchemaOperation). is_named (op_name o) slot.def ≡ true) is c.requires.own in
    let index = c.in_ok-slot-in-AddIndex.field-0 in
    λ old. subst (λ (o : SchemaOperation). IsLeft o old slot (Some (record { def = record slot.def { index = index }; source = slot.source })))
    (sym is)
    (index_added c.in-AddIndex.field-0 c.in-AddIndex.position old slot index own c.in_ok-slot-in-AddIndex.ensures)

pub returns-in_ok-slot-in-DelIndex : goal.returns-in_ok-slot-in-DelIndex
returns-in_ok-slot-in-DelIndex c =
    let is = ap schema_operation c.in-DelIndex.is in
    let slot = c.args.slot in
    let own = subst (λ (o : SchemaOperation). is_named (op_name o) slot.def ≡ true) is c.requires.own in
    let index = c.in_ok-slot-in-DelIndex.field-0 in
    λ old. subst (λ (o : SchemaOperation). IsLeft o old slot (Some (record { def = record slot.def { index = index }; source = slot.source })))
    (sym is)
    (index_deleted c.in-DelIndex.field-0 c.in-DelIndex.position old slot index own c.in_ok-slot-in-DelIndex.ensures)

pub returns-in_ok-made-in-Remake : goal.returns-in_ok-made-in-Remake
returns-in_ok-made-in-Remake c =
    let is = ap schema_operation c.in-Remake.is in
    let slot = c.args.slot in
    let def = c.in-Remake.def in
    let own = subst (λ (o : SchemaOperation). is_named (op_name o) slot.def ≡ true) is c.requires.own in
    let keyed = keyed_def def (subst HasKeys is c.requires.keyed) in
    λ old. subst (λ (o : SchemaOperation). IsLeft o old slot (Some c.in_ok-made-in-Remake.field-0)) (sym is)
    (subst (λ (s : Slot). IsLeft (remake (definition def)) old slot (Some s)) (sym c.in_ok-made-in-Remake.ensures)
    (remade def old slot own keyed))
