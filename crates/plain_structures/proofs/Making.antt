-- Mappings and errors that are made of keys and values in turn.
use Rattle.std.proofs.Common.{◌≡◌, ◌∙◌, ℕ, Bool, List, [], ◌∷◌, Option, Some, None, IsSomeAnd, sym, subst, ap}
use Rattle.std.specs.Prelude.{not, option_map, if◌then◌else◌}
use Rattle.bal_base.specs.declared.text.Text.{Text}
use Rattle.value_model.specs.declared.value.Value.{Value}
use Rattle.value_model.specs.declared.value.Value.TheVariants.{Error}
use Rattle.value_model.specs.Heap.{Entries}
use Rattle.value_model.specs.World.{Came, World, Gave, PassesCells}
use Rattle.op_model.specs.Operands.{cause_of, pairs_of}
use Rattle.op_model.specs.Rows.{gives, gives_structure, makes_error, new_structure, next_error, within}
use Rattle.op_model.specs.Stores.{entries_from}
use Rattle.op_model.specs.StructureRows.{MakesError, MakesMapping}
use Rattle.plain_run.specs.declared.held.World.{World as PlainWorld}
use Rattle.plain_run.specs.declared.world.Came.{Came as PlainCame}
use Rattle.plain_run.specs.Came.{IsErrorMade}
use Rattle.plain_structures.specs.Entries.{MakesCaused}
use Rattle.plain_structures.specs.Rows.{IsRowOf}
use Rattle.plain_structures.proofs.Finding.{none-of, some-of}

-- ---- mappings

module _ (w : World) (atom : ℕ) (immutable : Bool) (vs : List Value) where
  abbrev made : List (Text × Value) → Came
  made es = gives_structure w (new_structure (Some atom) (not immutable) (Entries es))

  pub mapping-made : (es : List (Text × Value)) (came : Came) → Some es ≡ option_map (λ ps. entries_from [] ps) (pairs_of vs) → came ≡ gives_structure w (new_structure (Some atom) (not immutable) (Entries es)) → MakesMapping w atom immutable vs came
  mapping-made es came e h = some-of (λ ps. entries_from [] ps) (pairs_of vs) es (λ ps. came ≡ made (entries_from [] ps)) e (λ ps is. h ∙ ap made is)

  pub mapping-absent : None ≡ option_map (λ ps. entries_from [] ps) (pairs_of vs) → (came : Came) → ¬ (MakesMapping w atom immutable vs came)
  mapping-absent e came row = none-of (λ ps. entries_from [] ps) (pairs_of vs) (λ ps. came ≡ made (entries_from [] ps)) e row

-- ---- errors

module _ (w : World) (message : Text) (vs : List Value) where
  abbrev error_of : Option ℕ → List (Text × Value) → Came
  error_of e es = within (gives (makes_error w message e es) (Error (next_error w)))

  pub caused-made : (e : Option ℕ) (es : List (Text × Value)) (came : Came) → Some es ≡ option_map (λ ps. entries_from [] ps) (pairs_of vs) → came ≡ within (gives (makes_error w message e es) (Error (next_error w))) → MakesCaused w message e vs came
  caused-made e es came has h = some-of (λ ps. entries_from [] ps) (pairs_of vs) es (λ ps. came ≡ error_of e (entries_from [] ps)) has (λ ps same. h ∙ ap (error_of e) same)

  pub caused-absent : (e : Option ℕ) → None ≡ option_map (λ ps. entries_from [] ps) (pairs_of vs) → (came : Came) → ¬ (MakesCaused w message e vs came)
  caused-absent e has came row = none-of (λ ps. entries_from [] ps) (pairs_of vs) (λ ps. came ≡ error_of e (entries_from [] ps)) has row

  pub error-caused : (cause : Value) (e : Option ℕ) (made : PlainWorld) (came : Option PlainCame) → Some e ≡ cause_of cause → IsRowOf (MakesCaused w message e vs) made came → IsRowOf (MakesError w message cause vs) made came
  error-caused cause e made came is row = subst (λ o. IsRowOf (λ x. IsSomeAnd o (λ y. MakesCaused w message y vs x)) made came) is row

  pub error-uncaused : (cause : Value) → None ≡ cause_of cause → (came : Came) → ¬ (MakesError w message cause vs came)
  error-uncaused cause is came row = subst (λ o. IsSomeAnd o (λ x. MakesCaused w message x vs came)) (sym is) row

-- ---- an error that was made is given

module _ (w v : World) (message : Text) (cause : Option ℕ) (details : List (Text × Value)) where
  pub error-given : (number : ℕ) → IsErrorMade w message cause details v (Some number) → Gave (Error number ∷ []) v ≡ within (gives (makes_error w message cause details) (Error (next_error w)))
  error-given number (n, e, r) =
      let made = makes_error w message cause details in
      (λ i. Gave (Error (n i) ∷ []) (e i)) ∙ sym (ap (λ b. if b then Gave (Error (next_error w) ∷ []) made else PassesCells) r)

  pub error-passes : IsErrorMade w message cause details v None → PassesCells ≡ within (gives (makes_error w message cause details) (Error (next_error w)))
  error-passes (e, r) =
      let made = makes_error w message cause details in
      sym (ap (λ b. if b then Gave (Error (next_error w) ∷ []) made else PassesCells) r)
