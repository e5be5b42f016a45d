-- What was done is what the operation comes to.
use Rattle.std.proofs.Common.{◌≡◌, ◌++◌, ℤ, List, [], ◌∷◌, sym, subst}
use Rattle.bal_base.specs.declared.text.Text.{Text}
use Rattle.value_model.specs.declared.value.Value.{Value}
use Rattle.value_model.specs.declared.value.Value.TheVariants.{Int, Str}
use Rattle.op_model.specs.Effects.{lifted}
use Rattle.std.specs.Prelude.{neg_ℤ}
use Rattle.operations.specs.declared.operation.Operation.TheVariants as operation
use Rattle.op_model.specs.Rows.{GivesInt, GivesText}
use Rattle.plain_run.specs.declared.facts.ProgramFacts.{ProgramFacts}
use Rattle.plain_run.specs.declared.held.Caller.{Caller}
use Rattle.plain_run.specs.declared.held.Common.{Common}
use Rattle.plain_run.specs.declared.effect.Effect.{Effect}
use Rattle.plain_run.specs.declared.effect.Ints.{Ints}
use Rattle.plain_run.specs.declared.effect.Ints.TheVariants as ints
use Rattle.plain_run.specs.declared.effect.Performed.TheVariants.{Done}
use Rattle.plain_run.specs.declared.world.Came.{Came}
use Rattle.plain_run.specs.Came.{came_of}
use Rattle.plain_run.specs.Held.{common_of, world_of}
use Rattle.plain_run.specs.Effects.{IntsRow, IsPerformed, effect_of, operation_on}

pub ints-done : (op : Ints) (vs : List Value) (x y : ℤ) (facts : ProgramFacts) (caller : Caller) (old new : Common) (came : Came) (effect : Effect) → vs ≡ Int x ∷ Int y ∷ [] → IntsRow op x y (world_of old.world) (came_of came new.world) → effect_of effect new ≡ lifted (common_of old) (came_of came new.world) → IsPerformed facts (operation_on op) vs caller old new ⊥ (Done effect)
ints-done op vs x y facts caller old new came effect is row e = subst (λ l. IsPerformed facts (operation_on op) l caller old new ⊥ (Done effect)) (sym is) (by op row)
  where
    by : (o : Ints) → IntsRow o x y (world_of old.world) (came_of came new.world) → IsPerformed facts (operation_on o) (Int x ∷ Int y ∷ []) caller old new ⊥ (Done effect)
    by ints.Add r = (came_of came new.world, r, e)
    by ints.Subtract r = (came_of came new.world, r, e)
    by ints.Multiply r = (came_of came new.world, r, e)
    by ints.Divide r = (came_of came new.world, r, e)
    by ints.Remainder r = (came_of came new.world, r, e)

pub negate-done : (vs : List Value) (x : ℤ) (facts : ProgramFacts) (caller : Caller) (old new : Common) (came : Came) (effect : Effect) → vs ≡ Int x ∷ [] → GivesInt (world_of old.world) (neg_ℤ x) (came_of came new.world) → effect_of effect new ≡ lifted (common_of old) (came_of came new.world) → IsPerformed facts operation.Negate vs caller old new ⊥ (Done effect)
negate-done vs x facts caller old new came effect is row e = subst (λ l. IsPerformed facts operation.Negate l caller old new ⊥ (Done effect)) (sym is) ((came_of came new.world, row, e))

pub concat-done : (vs : List Value) (s t text : Text) (facts : ProgramFacts) (caller : Caller) (old new : Common) (came : Came) (effect : Effect) → vs ≡ Str s ∷ Str t ∷ [] → text ≡ s ++ t → GivesText (world_of old.world) text (came_of came new.world) → effect_of effect new ≡ lifted (common_of old) (came_of came new.world) → IsPerformed facts operation.Concat vs caller old new ⊥ (Done effect)
concat-done vs s t text facts caller old new came effect is both row e =
    subst (λ l. IsPerformed facts operation.Concat l caller old new ⊥ (Done effect)) (sym is) (came_of came new.world, subst (λ x. GivesText (world_of old.world) x (came_of came new.world)) both row, e)
