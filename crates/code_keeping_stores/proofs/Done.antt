-- What a frame asks for with a store fits, and something comes.
use Rattle.std.proofs.Common.{refl}
use Rattle.operations.specs.declared.operation.Operation.TheVariants as op
use Rattle.value_model.specs.Meaning.{Answers}
use Rattle.stack_code.specs.Places.{surroundings}
use Rattle.code_keeping.proofs.Done.{row-done-at, takes-all}
use Rattle.code_keeping.proofs.Operands.{three-long}
use Rattle.code_keeping_stores.specs.Laws.{KeyStoresAreDone}
use Rattle.code_keeping_stores.proofs.Keys.{set-key}

pub key-stores-are-done : (natives : Answers) → KeyStoresAreDone natives
key-stores-are-done natives fillers code c t =
    row-done-at natives fillers code c t op.SetKey refl (λ e. e) (takes-all 3 op.SetKey (λ captured l. refl) (λ code place os r typed. three-long os _ typed.0)) (λ u station names. set-key fillers natives code t c (surroundings code u station))
