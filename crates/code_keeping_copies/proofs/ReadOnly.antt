-- A value is cloned so that it can't change.
use Rattle.std.proofs.Common.{◌≡◌, ℕ, Bool, true, false, List, [], ◌∷◌, Option, refl}
use Rattle.std.specs.Prelude.{if◌then◌else◌}
use Rattle.type_model.specs.declared.basic.SemType.{SemType}
use Rattle.operations.specs.declared.library.LibraryCall.TheVariants.{CloneReadOnly}
use Rattle.operations.specs.declared.operation.Operation.TheVariants as op
use Rattle.operations.specs.Kinds.{IsImmutableData}
use Rattle.operations.specs.Rows.{IsWithin, ResultHas, Surroundings}
use Rattle.type_model.specs.Anydata.{IsAnydata}
use Rattle.value_model.specs.declared.filler.Filler.{Filler}
use Rattle.value_model.specs.declared.panics.PanicName.TheVariants.{CyclicValue}
use Rattle.value_model.specs.declared.value.Value.{Value}
use Rattle.op_model.specs.Common.{Common}
use Rattle.op_model.specs.Copies.{copy_of, freezes, has_cycle, reached_from, with_copies}
use Rattle.op_model.specs.Library.{LibraryAnswers}
use Rattle.op_model.specs.Rows.{gives, panics, within}
use Rattle.machine_model.specs.Runs.{Running}
use Rattle.stack_code.specs.declared.code.Code.{Code}
use Rattle.stack_code.specs.Good.{GoodCommon}
use Rattle.stack_code.specs.Places.{surroundings}
use Rattle.stack_code.specs.Values.{Fits}
use Rattle.stack_code.specs.WellTyped.{WellTyped}
use Rattle.code_keeping.proofs.Coming.{IsTyped, does-else, panics-typed}
use Rattle.code_keeping.proofs.Done.{row-done-at, takes-all}
use Rattle.code_keeping.proofs.Operands.{one-fit}
use Rattle.code_keeping_library.proofs.Calls.{Answered, does-call-at}
use Rattle.code_keeping_library.proofs.Lists.{Row}
use Rattle.code_keeping_copies.specs.Laws.{ReadOnlyClonesAreDone}
use Rattle.code_keeping_copies.proofs.Freezing.{frozen-typed}

module _ (code : Code) (t : WellTyped code) (c : Common) (good : GoodCommon code c Running) (result : Option SemType) (v : Value) (a : SemType) (fits : Fits code c v a) (holds : IsWithin code.atoms IsAnydata a) (has : ResultHas code.atoms result IsImmutableData) where
  freeze-typed : IsTyped code c good result (freezes c.world v)
  freeze-typed = by (has_cycle c.world.heap (reached_from c.world v)) refl
    where
      by : (b : Bool) → has_cycle c.world.heap (reached_from c.world v) ≡ b → IsTyped code c good result (if b then panics c.world CyclicValue else within (gives (with_copies false c.world v) (copy_of c.world v)))
      by true e = panics-typed code c good result CyclicValue refl
      by false e = frozen-typed code t c good.nearly.heap v e a fits holds result good has

pub clone-read-only : (fillers : ℕ → List Filler) (code : Code) (t : WellTyped code) (place : Surroundings) (c : Common) → Row fillers code t place c CloneReadOnly
clone-read-only fillers code t place c atom count names operands result vs caller good (long, typed) fit =
    one-fit code c (Answered fillers code t place c CloneReadOnly atom count caller result) operands vs _ typed fit
    (λ a v (within, (none, has)) f. does-call-at fillers code t place c good result CloneReadOnly atom count caller (v ∷ []) (does-else code c good result (freezes c.world v) (freeze-typed code t c good result v a f within has)))

pub read-only-clones-are-done : ReadOnlyClonesAreDone
read-only-clones-are-done fillers atom count code c t =
    row-done-at LibraryAnswers fillers code c t (op.Library CloneReadOnly atom count) refl (λ h. h) (takes-all count (op.Library CloneReadOnly atom count) (λ captured l. refl) (λ code place os r h. h.0))
    (λ u station names. clone-read-only fillers code t (surroundings code u station) c atom count names)
