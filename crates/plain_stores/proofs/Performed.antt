-- What was tried of a store is what the operation comes to.
use Rattle.std.proofs.Common.{◌≡◌, ℕ, ℤ, List, [], ◌∷◌, sym, subst}
use Rattle.bal_base.specs.declared.text.Text.{Text}
use Rattle.value_model.specs.declared.value.Value.{Value}
use Rattle.value_model.specs.declared.value.Value.TheVariants.{Int, Str, Struct}
use Rattle.operations.specs.declared.operation.Operation.TheVariants as operation
use Rattle.op_model.specs.ProgramFacts.{own_types}
use Rattle.op_model.specs.Rows.{place_of}
use Rattle.op_model.specs.StructureRows.{SetsItem, SetsKey}
use Rattle.plain_run.specs.declared.effect.Performed.{Performed}
use Rattle.plain_run.specs.declared.facts.ProgramFacts.{ProgramFacts}
use Rattle.plain_run.specs.declared.held.Caller.{Caller}
use Rattle.plain_run.specs.declared.held.Common.{Common}
use Rattle.plain_run.specs.declared.held.World.{World}
use Rattle.plain_run.specs.Effects.{IsPerformed}
use Rattle.plain_run.specs.ProgramFacts.{facts_of}
use Rattle.plain_run.specs.Held.{with_world, world_of}
use Rattle.plain_structures.specs.declared.answer.Tried.{Tried}
use Rattle.plain_structures.specs.Rows.{IsAnswerOf, IsTried}
use Rattle.plain_structures.proofs.Doing.{tried-done}
use Rattle.store_tests.specs.Questions.{EntryIsBeyond, StoreIsBeyond}
use Rattle.plain_stores.specs.Questions.{SetItemIsBeyond, SetKeyIsBeyond}

module _ (facts : ProgramFacts) (caller : Caller) (vs : List Value) (old : Common) (w : World) (tried : Tried) (done : Performed) (answer : IsAnswerOf tried (with_world old w) done) where
  pub item-done : (n : ℕ) (i : ℤ) (v : Value) → vs ≡ Struct n ∷ Int i ∷ v ∷ [] → IsTried (SetsItem (own_types (facts_of facts)) (facts_of facts).fillers (world_of old.world) n i v) (StoreIsBeyond facts old.world n (place_of i) v) w tried → IsPerformed facts operation.SetItem vs caller old (with_world old w) (SetItemIsBeyond facts vs old.world) done
  item-done n i v is row =
      subst (λ l. IsPerformed facts operation.SetItem l caller old (with_world old w) (SetItemIsBeyond facts l old.world) done) (sym is)
      (tried-done facts caller operation.SetItem (Struct n ∷ Int i ∷ v ∷ []) old (λ x. SetsItem (own_types (facts_of facts)) (facts_of facts).fillers x n i v) (StoreIsBeyond facts old.world n (place_of i) v) (λ effect h. h) (λ effect h. h) w tried done row answer)

  pub key-done : (n : ℕ) (key : Text) (v : Value) → vs ≡ Struct n ∷ Str key ∷ v ∷ [] → IsTried (SetsKey (own_types (facts_of facts)) (facts_of facts).fillers (world_of old.world) n key v) (EntryIsBeyond facts old.world n key v) w tried → IsPerformed facts operation.SetKey vs caller old (with_world old w) (SetKeyIsBeyond facts vs old.world) done
  key-done n key v is row =
      subst (λ l. IsPerformed facts operation.SetKey l caller old (with_world old w) (SetKeyIsBeyond facts l old.world) done) (sym is)
      (tried-done facts caller operation.SetKey (Struct n ∷ Str key ∷ v ∷ []) old (λ x. SetsKey (own_types (facts_of facts)) (facts_of facts).fillers x n key v) (EntryIsBeyond facts old.world n key v) (λ effect h. h) (λ effect h. h) w tried done row answer)
