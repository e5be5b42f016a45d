-- What came of a row is what the operation comes to.
use Rattle.std.proofs.Common.{◌≡◌, ℕ, ℤ, List, [], ◌∷◌, Option, Some, None, Bool, refl, sym, subst, ap, ◌∙◌}
use Rattle.bal_base.specs.declared.text.Text.{Text}
use Rattle.value_model.specs.declared.value.Value.{Value}
use Rattle.value_model.specs.declared.value.Value.TheVariants.{Int, Str, Struct}
use Rattle.value_model.specs.World as model
use Rattle.operations.specs.declared.operation.Operation.{Operation}
use Rattle.operations.specs.declared.operation.Operation.TheVariants as operation
use Rattle.op_model.specs.Effects.{Effect, lifted}
use Rattle.op_model.specs.Library.{LibraryAnswers}
use Rattle.op_model.specs.Operands.{AString}
use Rattle.op_model.specs.Performs.{OnWorld, Performs}
use Rattle.op_model.specs.StructureRows.{MakesError, MakesMapping, ReadsField, ReadsItem, ReadsKey, ReadsOptional, reads_char}
use Rattle.plain_run.specs.declared.effect.Effect.{Effect as PlainEffect}
use Rattle.plain_run.specs.declared.effect.Performed.{Performed}
use Rattle.plain_run.specs.declared.effect.Performed.TheVariants.{Done, Stuck, Undecided}
use Rattle.plain_run.specs.declared.facts.ProgramFacts.{ProgramFacts}
use Rattle.plain_run.specs.declared.held.Caller.{Caller}
use Rattle.plain_run.specs.declared.held.Common.{Common}
use Rattle.plain_run.specs.declared.held.World.{World}
use Rattle.plain_run.specs.declared.world.Came.{Came}
use Rattle.plain_run.specs.declared.world.Came.TheVariants.{Gave, Threw, PassesCells}
use Rattle.plain_run.specs.Came.{came_of}
use Rattle.plain_run.specs.Effects.{IsPerformed, effect_of}
use Rattle.plain_run.specs.ProgramFacts.{facts_of}
use Rattle.plain_run.specs.Held.{caller_of, common_of, with_world, world_of}
use Rattle.plain_structures.specs.Entries.{MakesNamed}
use Rattle.plain_structures.specs.declared.answer.Tried.{Tried}
use Rattle.plain_structures.specs.declared.answer.Tried.TheVariants as tries
use Rattle.plain_structures.specs.Rows.{IsAnswerFor, IsAnswerOf, IsRowOf, IsTried, RowStays, TriedStays}

-- where the world is what it was, all that came stays
pub row-stays : (w : World) (came : Option Came) → RowStays w w came
row-stays w (Some (Gave v)) = tt
row-stays w (Some (Threw e)) = tt
row-stays w (Some PassesCells) = refl
row-stays w None = refl

module _ (facts : ProgramFacts) (caller : Caller) (op : Operation) (vs : List Value) (old : Common) where
  abbrev Comes : Effect → Type 0
  Comes effect = Performs (facts_of facts) LibraryAnswers op vs (caller_of caller) (common_of old) effect

  pub row-done : (P : model.World → model.Came → Type 0) → ((effect : Effect) → OnWorld P (common_of old) effect → Comes effect) → ((effect : Effect) → Comes effect → OnWorld P (common_of old) effect) → (w : World) (came : Option Came) (done : Performed) → IsRowOf (P (world_of old.world)) w came → IsAnswerFor came (with_world old w) done → IsPerformed facts op vs caller old (with_world old w) ⊥ done
  row-done P to from w (Some came) (Done effect) row e = to (effect_of effect (with_world old w)) (came_of came w, row, e)
  row-done P to from w (Some came) Stuck row e = absurd e
  row-done P to from w (Some came) Undecided row e = absurd e
  row-done P to from w None (Done effect) row e = absurd e
  row-done P to from w None Stuck row e = λ effect comes. let it = from effect comes in row it.0 it.1
  row-done P to from w None Undecided row e = absurd e

  -- the same of a row that asks questions of types
  pub tried-done : (P : model.World → model.Came → Type 0) (cause : Type 0) → ((effect : Effect) → OnWorld P (common_of old) effect → Comes effect) → ((effect : Effect) → Comes effect → OnWorld P (common_of old) effect) → (w : World) (tried : Tried) (done : Performed) → IsTried (P (world_of old.world)) cause w tried → IsAnswerOf tried (with_world old w) done → IsPerformed facts op vs caller old (with_world old w) cause done
  tried-done P cause to from w (tries.Came came) (Done effect) row e = to (effect_of effect (with_world old w)) (came_of came w, row, e)
  tried-done P cause to from w (tries.Came came) Stuck row e = absurd e
  tried-done P cause to from w (tries.Came came) Undecided row e = absurd e
  tried-done P cause to from w tries.Stuck (Done effect) row e = absurd e
  tried-done P cause to from w tries.Stuck Stuck row e = λ effect comes. let it = from effect comes in row it.0 it.1
  tried-done P cause to from w tries.Stuck Undecided row e = absurd e
  tried-done P cause to from w tries.Undecided (Done effect) row e = absurd e
  tried-done P cause to from w tries.Undecided Stuck row e = absurd e
  tried-done P cause to from w tries.Undecided Undecided row e = row

-- where the world is what it was, all that was tried stays
pub tried-stays : (w : World) (tried : Tried) → TriedStays w w tried
tried-stays w (tries.Came (Gave v)) = tt
tried-stays w (tries.Came (Threw e)) = tt
tried-stays w (tries.Came PassesCells) = refl
tried-stays w tries.Stuck = refl
tried-stays w tries.Undecided = refl

-- ---- the operations on their operands

module _ (facts : ProgramFacts) (caller : Caller) (vs : List Value) (old : Common) (w : World) (came : Option Came) (done : Performed) (answer : IsAnswerFor came (with_world old w) done) where
  abbrev IsDone : Operation → Type 0
  IsDone op = IsPerformed facts op vs caller old (with_world old w) ⊥ done

  pub item-done : (n : ℕ) (i : ℤ) → vs ≡ Struct n ∷ Int i ∷ [] → IsRowOf (ReadsItem (world_of old.world) n i) w came → IsDone operation.GetItem
  item-done n i is row =
      subst (λ l. IsPerformed facts operation.GetItem l caller old (with_world old w) ⊥ done) (sym is)
      (row-done facts caller operation.GetItem (Struct n ∷ Int i ∷ []) old (λ v. ReadsItem v n i) (λ effect h. h) (λ effect h. h) w came done row answer)

  pub key-done : (n : ℕ) (key : Text) → vs ≡ Struct n ∷ Str key ∷ [] → IsRowOf (ReadsKey (world_of old.world) n key) w came → IsDone operation.GetKey
  key-done n key is row =
      subst (λ l. IsPerformed facts operation.GetKey l caller old (with_world old w) ⊥ done) (sym is)
      (row-done facts caller operation.GetKey (Struct n ∷ Str key ∷ []) old (λ v. ReadsKey v n key) (λ effect h. h) (λ effect h. h) w came done row answer)

  pub field-done : (n : ℕ) (name : Text) → vs ≡ Struct n ∷ [] → IsRowOf (ReadsField (world_of old.world) n name) w came → IsDone (operation.GetField name)
  field-done n name is row =
      subst (λ l. IsPerformed facts (operation.GetField name) l caller old (with_world old w) ⊥ done) (sym is)
      (row-done facts caller (operation.GetField name) (Struct n ∷ []) old (λ v. ReadsField v n name) (λ effect h. h) (λ effect h. h) w came done row answer)

  pub optional-done : (m : Value) (name : Text) → vs ≡ m ∷ [] → IsRowOf (ReadsOptional (world_of old.world) m name) w came → IsDone (operation.GetOptional name)
  optional-done m name is row =
      subst (λ l. IsPerformed facts (operation.GetOptional name) l caller old (with_world old w) ⊥ done) (sym is)
      (row-done facts caller (operation.GetOptional name) (m ∷ []) old (λ v. ReadsOptional v m name) (λ effect h. h) (λ effect h. h) w came done row answer)

  pub mapping-done : (atom count : ℕ) (immutable : Bool) → IsRowOf (MakesMapping (world_of old.world) atom immutable vs) w came → IsDone (operation.MakeMapping atom immutable count)
  mapping-done atom count immutable row =
      row-done facts caller (operation.MakeMapping atom immutable count) vs old (λ v. MakesMapping v atom immutable vs) (λ effect h. h) (λ effect h. h) w came done row answer

  pub error-done : (count : ℕ) (message cause : Value) (details : List Value) → vs ≡ message ∷ cause ∷ details → IsRowOf (MakesNamed (world_of old.world) message cause details) w came → IsDone (operation.MakeError count)
  error-done count message cause details is row =
      subst (λ l. IsPerformed facts (operation.MakeError count) l caller old (with_world old w) ⊥ done) (sym is)
      (row-done facts caller (operation.MakeError count) (message ∷ cause ∷ details) old (λ v. MakesNamed v message cause details) (λ effect h. to message effect h) (λ effect h. from message effect h) w came done row answer)
    where
      to : (m : Value) (effect : Effect) → OnWorld (λ v. MakesNamed v m cause details) (common_of old) effect → AString m (λ t. OnWorld (λ v. MakesError v t cause details) (common_of old) effect)
      to (Str t) effect h = h
      to _ effect h = absurd h.1

      from : (m : Value) (effect : Effect) → AString m (λ t. OnWorld (λ v. MakesError v t cause details) (common_of old) effect) → OnWorld (λ v. MakesNamed v m cause details) (common_of old) effect
      from (Str t) effect h = h
      from _ effect h = absurd h

-- a character
pub char-done : (facts : ProgramFacts) (caller : Caller) (vs : List Value) (old : Common) (w : World) (came : Came) (effect : PlainEffect) (t : Text) (i : ℤ) → vs ≡ Str t ∷ Int i ∷ [] → came_of came w ≡ reads_char (world_of old.world) t i → effect_of effect (with_world old w) ≡ lifted (common_of old) (came_of came w) → IsPerformed facts operation.GetChar vs caller old (with_world old w) ⊥ (Done effect)
char-done facts caller vs old w came effect t i is row e =
    subst (λ l. IsPerformed facts operation.GetChar l caller old (with_world old w) ⊥ (Done effect)) (sym is) (e ∙ ap (lifted (common_of old)) row)
