-- What a frame asks for with an operation on structures fits, and something comes.
use Rattle.std.proofs.Common.{suc, refl}
use Rattle.operations.specs.declared.operation.Operation.TheVariants as op
use Rattle.value_model.specs.Meaning.{Answers}
use Rattle.op_model.specs.Local.{twice}
use Rattle.stack_code.specs.Places.{surroundings}
use Rattle.code_keeping.proofs.Done.{row-done-at, takes-all}
use Rattle.code_keeping.proofs.Operands.{one-long, two-long}
use Rattle.code_keeping_heap.specs.Laws.{ConstructorsAreDone, ReadsAreDone}
use Rattle.code_keeping_heap.proofs.Entries.{pairs-long}
use Rattle.code_keeping_heap.proofs.Erring.{error-long, make-error}
use Rattle.code_keeping_heap.proofs.Keyed.{get-field, get-key, get-optional}
use Rattle.code_keeping_heap.proofs.Listing.{make-list}
use Rattle.code_keeping_heap.proofs.Making.{make-function}
use Rattle.code_keeping_heap.proofs.Mapping.{make-mapping}
use Rattle.code_keeping_heap.proofs.Reading.{get-item}

pub constructors-are-done : (natives : Answers) → ConstructorsAreDone natives
constructors-are-done natives fillers = (
  (λ unit count code c t. row-done-at natives fillers code c t (op.MakeFunction unit count) refl (λ e. e) (takes-all count (op.MakeFunction unit count) (λ captured l. refl) (λ code place os r typed. typed.0))
      (λ u station names. make-function fillers natives code t c u station unit count names)),
  (λ atom count immutable code c t. row-done-at natives fillers code c t (op.MakeList atom immutable count) refl (λ e. e) (takes-all count (op.MakeList atom immutable count) (λ captured l. refl) (λ code place os r typed. typed.0))
      (λ u station names. make-list fillers natives code t c u station atom count immutable names)),
  (λ atom count immutable code c t. row-done-at natives fillers code c t (op.MakeMapping atom immutable count) refl (λ e. e) (takes-all (twice count) (op.MakeMapping atom immutable count) (λ captured l. refl) (λ code place os r typed. pairs-long count os _ typed))
      (λ u station names. make-mapping fillers natives code t c u station atom count immutable names)),
  (λ count code c t. row-done-at natives fillers code c t (op.MakeError count) refl (λ e. e) (takes-all (suc (suc (twice count))) (op.MakeError count) (λ captured l. refl) (λ code place os r typed. error-long os count _ typed))
      (λ u station names. make-error fillers natives code t c (surroundings code u station) count)),
)

pub reads-are-done : (natives : Answers) → ReadsAreDone natives
reads-are-done natives fillers = (
  (λ code c t. row-done-at natives fillers code c t op.GetItem refl (λ e. e) (takes-all 2 op.GetItem (λ captured l. refl) (λ code place os r typed. two-long os _ typed)) (λ u station names. get-item fillers natives code t c (surroundings code u station))),
  (λ code c t. row-done-at natives fillers code c t op.GetKey refl (λ e. e) (takes-all 2 op.GetKey (λ captured l. refl) (λ code place os r typed. two-long os _ typed)) (λ u station names. get-key fillers natives code t c (surroundings code u station))),
  (λ name code c t. row-done-at natives fillers code c t (op.GetField name) refl (λ e. e) (takes-all 1 (op.GetField name) (λ captured l. refl) (λ code place os r typed. one-long os _ typed)) (λ u station names. get-field fillers natives code t c (surroundings code u station) name)),
  (λ name code c t. row-done-at natives fillers code c t (op.GetOptional name) refl (λ e. e) (takes-all 1 (op.GetOptional name) (λ captured l. refl) (λ code place os r typed. one-long os _ typed)) (λ u station names. get-optional fillers natives code t c (surroundings code u station) name)),
)
