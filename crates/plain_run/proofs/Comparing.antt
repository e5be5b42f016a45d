-- What is told of two values is what a comparison of them comes to.
use Rattle.std.proofs.Common.{◌≡◌, ◌↔◌, Bool, IsTrue, [], ◌∷◌, Some, None, refl, sym, subst}
use Rattle.value_model.specs.declared.value.Value.{Value}
use Rattle.value_model.specs.declared.value.Value.TheVariants.{Bool as Truth}
use Rattle.operations.specs.declared.operation.Operation.TheVariants as operation
use Rattle.op_model.specs.Rows.{gives}
use Rattle.plain_run.specs.declared.facts.ProgramFacts.{ProgramFacts}
use Rattle.plain_run.specs.declared.held.Caller.{Caller}
use Rattle.plain_run.specs.declared.held.Common.{Common}
use Rattle.plain_run.specs.declared.effect.Effect.TheVariants.{Gives}
use Rattle.plain_run.specs.declared.effect.Performed.{Performed}
use Rattle.plain_run.specs.declared.effect.Performed.TheVariants.{Done, Stuck}
use Rattle.plain_run.specs.declared.values.Comparison.{Comparison}
use Rattle.plain_run.specs.declared.values.Comparison.TheVariants.{Less, LessEqual}
use Rattle.plain_run.specs.Effects.{IsPerformed}
use Rattle.plain_run.specs.Held.{world_of}
use Rattle.plain_run.specs.Values.{AreCompared, comparison_of}

module _ (a b : Value) (facts : ProgramFacts) (caller : Caller) (c : Common) where
  pub compared-done : (how : Comparison) (holds : Bool) (done : Performed) → AreCompared how a b (Some holds) → done ≡ Done (Gives (Some (Truth holds))) → IsPerformed facts (comparison_of how) (a ∷ b ∷ []) caller c c ⊥ done
  compared-done how holds done h e = subst (IsPerformed facts (comparison_of how) (a ∷ b ∷ []) caller c c ⊥) (sym e) (by how h)
    where
      by : (o : Comparison) → AreCompared o a b (Some holds) → IsPerformed facts (comparison_of o) (a ∷ b ∷ []) caller c c ⊥ (Done (Gives (Some (Truth holds))))
      by Less row = (gives (world_of c.world) (Truth holds), row (world_of c.world), refl)
      by LessEqual row = (gives (world_of c.world) (Truth holds), row (world_of c.world), refl)

  pub compared-stuck : (how : Comparison) → AreCompared how a b None → IsPerformed facts (comparison_of how) (a ∷ b ∷ []) caller c c ⊥ Stuck
  compared-stuck Less h = λ effect (came, row, e). h (world_of c.world) came row
  compared-stuck LessEqual h = λ effect (came, row, e). h (world_of c.world) came row

  pub same-done : (same : Bool) (done : Performed) → IsTrue same ↔ (a ≡ b) → done ≡ Done (Gives (Some (Truth same))) → IsPerformed facts operation.Same (a ∷ b ∷ []) caller c c ⊥ done
  same-done same done h e = subst (IsPerformed facts operation.Same (a ∷ b ∷ []) caller c c ⊥) (sym e) (gives (world_of c.world) (Truth same), (same, h, refl), refl)
