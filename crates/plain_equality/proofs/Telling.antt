-- What is told of two values is what the operation comes to.
use Rattle.std.proofs.Common.{◌≡◌, ◌↔◌, Bool, true, IsTrue, [], ◌∷◌, Some, refl, sym, subst}
use Rattle.value_model.specs.declared.value.Value.{Value}
use Rattle.value_model.specs.declared.value.Value.TheVariants.{Bool as Truth}
use Rattle.operations.specs.declared.operation.Operation.TheVariants as operation
use Rattle.op_model.specs.Equality.{AreEqual}
use Rattle.op_model.specs.Rows.{gives}
use Rattle.plain_run.specs.declared.facts.ProgramFacts.{ProgramFacts}
use Rattle.plain_run.specs.declared.held.Caller.{Caller}
use Rattle.plain_run.specs.declared.held.Common.{Common}
use Rattle.plain_run.specs.declared.effect.Effect.TheVariants.{Gives}
use Rattle.plain_run.specs.declared.effect.Performed.{Performed}
use Rattle.plain_run.specs.declared.effect.Performed.TheVariants.{Done}
use Rattle.plain_run.specs.Effects.{IsPerformed}
use Rattle.plain_run.specs.Held.{heap_of, world_of}

pub equal-done : (a b : Value) (facts : ProgramFacts) (caller : Caller) (c : Common) (equal : Bool) (done : Performed) → IsTrue equal ↔ AreEqual (heap_of c.world.heap) a b → done ≡ Done (Gives (Some (Truth equal))) → IsPerformed facts operation.Equal (a ∷ b ∷ []) caller c c ⊥ done
equal-done a b facts caller c equal done h e = subst (IsPerformed facts operation.Equal (a ∷ b ∷ []) caller c c ⊥) (sym e) (gives (world_of c.world) (Truth equal), (equal, h, refl), refl)
