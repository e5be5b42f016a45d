-- What is told is what the operation comes to.
use Rattle.std.proofs.Common.{◌≡◌, ◌↔◌, inl, inr, Bool, true, false, IsTrue, [], ◌∷◌, Some, refl, sym, subst}
use Rattle.std.proofs.lemmas.Bool.{false≢true}
use Rattle.type_model.specs.declared.basic.SemType.{SemType}
use Rattle.value_model.specs.declared.value.Value.{Value}
use Rattle.value_model.specs.declared.value.Value.TheVariants.{Bool as Truth}
use Rattle.value_model.specs.Stands.{Belongs}
use Rattle.operations.specs.declared.operation.Operation.TheVariants as operation
use Rattle.op_model.specs.Effects.{lifted}
use Rattle.op_model.specs.ProgramFacts.{own_types}
use Rattle.op_model.specs.Rows.{gives}
use Rattle.op_model.specs.ValueRows.{Casts}
use Rattle.plain_run.specs.declared.facts.ProgramFacts.{ProgramFacts}
use Rattle.plain_run.specs.declared.held.Caller.{Caller}
use Rattle.plain_run.specs.declared.held.Common.{Common}
use Rattle.plain_run.specs.declared.held.World.{World}
use Rattle.plain_run.specs.declared.world.Came.{Came}
use Rattle.plain_run.specs.declared.effect.Effect.{Effect}
use Rattle.plain_run.specs.declared.effect.Effect.TheVariants.{Gives}
use Rattle.plain_run.specs.declared.effect.Performed.{Performed}
use Rattle.plain_run.specs.declared.effect.Performed.TheVariants.{Done}
use Rattle.plain_run.specs.Came.{came_of}
use Rattle.plain_run.specs.Effects.{IsPerformed, effect_of}
use Rattle.plain_run.specs.ProgramFacts.{facts_of}
use Rattle.plain_run.specs.Held.{common_of, heap_of, with_world, world_of}
use Rattle.plain_tests.specs.Tells.{IsCast, Tells}

module _ (v : Value) (t : SemType) (cause : Type 0) (holds : Bool) (facts : ProgramFacts) (caller : Caller) where
  pub test-done : (c : Common) (done : Performed) → Tells facts c.world.heap v t (Some holds) → done ≡ Done (Gives (Some (Truth holds))) → IsPerformed facts (operation.Test t) (v ∷ []) caller c c cause done
  test-done c done tells e =
      subst (IsPerformed facts (operation.Test t) (v ∷ []) caller c c cause) (sym e)
      (gives (world_of c.world) (Truth holds), (holds, tells, refl), refl)

  pub cast-done : (old : Common) (w : World) (came : Came) (effect : Effect) → Tells facts old.world.heap v t (Some holds) → IsCast old.world v holds w came → effect_of effect (with_world old w) ≡ lifted (common_of old) (came_of came w) → IsPerformed facts (operation.Cast t) (v ∷ []) caller old (with_world old w) cause (Done effect)
  cast-done old w came effect tells is e = (came_of came w, row holds tells is, e)
    where
      row : (holds : Bool) → IsTrue holds ↔ Belongs (own_types (facts_of facts)) (heap_of old.world.heap) v t → IsCast old.world v holds w came → Casts (own_types (facts_of facts)) t v (world_of old.world) (came_of came w)
      row true b is = inl (b.0 refl, is)
      row false b is = inr (λ yes. false≢true (b.1 yes), is)
