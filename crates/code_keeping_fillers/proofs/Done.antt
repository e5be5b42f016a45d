-- What a frame asks for with a store into a list fits, and something comes.
use Rattle.std.proofs.Common.{refl}
use Rattle.operations.specs.declared.operation.Operation.TheVariants as op
use Rattle.value_model.specs.Meaning.{Answers}
use Rattle.stack_code.specs.Places.{surroundings}
use Rattle.code_keeping.proofs.Done.{row-done-at, takes-all}
use Rattle.code_keeping.proofs.Operands.{three-long}
use Rattle.code_keeping_fillers.specs.Laws.{ItemStoresAreDone}
use Rattle.code_keeping_fillers.proofs.Filled.{set-item}

pub item-stores-are-done : (natives : Answers) → ItemStoresAreDone natives
item-stores-are-done natives fillers code c t knows =
    row-done-at natives fillers code c t op.SetItem refl (λ e. e) (takes-all 3 op.SetItem (λ captured l. refl) (λ code place os r typed. three-long os _ typed.0)) (λ u station names. set-item fillers natives code t knows c (surroundings code u station))
