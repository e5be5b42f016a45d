-- A value is cloned: the copy is of each type that the value is of.
use Rattle.std.proofs.Common.{ℕ, List, [], ◌∷◌, Option, Some, None}
use Rattle.std.specs.Prelude.{option_to_list}
use Rattle.type_model.specs.declared.basic.SemType.{SemType}
use Rattle.type_model.specs.Membership.{In}
use Rattle.operations.specs.declared.library.LibraryCall.TheVariants.{Clone}
use Rattle.operations.specs.Rows.{ResultHas, Surroundings}
use Rattle.value_model.specs.declared.filler.Filler.{Filler}
use Rattle.value_model.specs.declared.value.Value.{Value}
use Rattle.op_model.specs.Common.{Common}
use Rattle.op_model.specs.Copies.{clones, copy_of}
use Rattle.machine_model.specs.Runs.{Running}
use Rattle.stack_code.specs.declared.code.Code.{Code}
use Rattle.stack_code.specs.Good.{GoodCommon}
use Rattle.stack_code.specs.Values.{AllFit, Fits}
use Rattle.stack_code.specs.WellTyped.{WellTyped}
use Rattle.code_keeping.proofs.Coming.{IsTyped, does-else}
use Rattle.code_keeping.proofs.Growing.{gave-typed, within-gave}
use Rattle.code_keeping.proofs.Operands.{one-fit}
use Rattle.code_keeping_library.proofs.Calls.{Answered, does-call-at}
use Rattle.code_keeping_library.proofs.Lists.{Row, of-row}
use Rattle.code_keeping_sends.proofs.Copying.{copy-fits, d, grown, grows, world-then}
use Rattle.code_keeping_copies.specs.Laws.{ClonesAreDone}

module _ (code : Code) (c : Common) (good : GoodCommon code c Running) (result : Option SemType) (v : Value) (a : SemType) (fits : Fits code c v a) (has : ResultHas code.atoms result (λ x. In code.atoms x a)) where
  abbrev then : Common
  then = d code c good.nearly.heap v

  given : (r : Option SemType) → ResultHas code.atoms r (λ x. In code.atoms x a) → AllFit code then (copy_of c.world v ∷ []) (option_to_list r)
  given (Some r) has = let (closed, made, belongs) = copy-fits code c good.nearly.heap v a fits in ((closed, made, (λ x ok stands. has x ok (belongs x ok stands))), tt)
  given None has = absurd has

  clone-typed : IsTyped code c good result (clones c.world v)
  clone-typed =
      within-gave code c result (copy_of c.world v ∷ []) (world-then code c good.nearly.heap v)
      (λ small. gave-typed code c result (copy_of c.world v ∷ []) (world-then code c good.nearly.heap v) good good.nearly.heap (grows code c good.nearly.heap v) (grown code c good.nearly.heap v) (given result has))

pub clone : (fillers : ℕ → List Filler) (code : Code) (t : WellTyped code) (place : Surroundings) (c : Common) → Row fillers code t place c Clone
clone fillers code t place c atom count names operands result vs caller good (long, typed) fit =
    one-fit code c (Answered fillers code t place c Clone atom count caller result) operands vs _ typed fit
    (λ a v (within, (none, has)) f. does-call-at fillers code t place c good result Clone atom count caller (v ∷ []) (does-else code c good result (clones c.world v) (clone-typed code c good result v a f has)))

pub clones-are-done : ClonesAreDone
clones-are-done = of-row Clone clone
