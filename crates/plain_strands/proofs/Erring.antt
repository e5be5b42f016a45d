-- An error that is given.
use Rattle.std.proofs.Common.{◌≡◌, ◌∙◌, ℕ, List, [], ◌∷◌, Some, None, refl, sym, ap}
use Rattle.std.specs.Prelude.{if◌then◌else◌}
use Rattle.std.specs.Str.{chars}
use Rattle.bal_base.specs.declared.text.Text.{Text}
use Rattle.value_model.specs.declared.value.Value.{Value}
use Rattle.value_model.specs.declared.value.Value.TheVariants.{Error}
use Rattle.value_model.specs.PanicName.{future_taken}
use Rattle.value_model.specs.World.{World, Gave, PassesCells}
use Rattle.op_model.specs.Rows.{gives_error, makes_error, next_error, within, gives}
use Rattle.plain_run.specs.Came.{IsErrorMade}

-- it is ASCII
pub taken_chars : chars future_taken ≡ future_taken
unfolding chars
taken_chars = refl

module _ (w v : World) (message : Text) (details : List (Text × Value)) (ed : details ≡ []) where
  pub error-gave : (number : ℕ) → IsErrorMade w message None details v (Some number) → Gave (Error number ∷ []) v ≡ gives_error w message
  error-gave number (n, e, r) =
      let made = makes_error w message None details in
      (λ i. Gave (Error (n i) ∷ []) (e i))
      ∙ (sym (ap (λ b. if b then Gave (Error (next_error w) ∷ []) made else PassesCells) r) ∙ (λ i. within (gives (makes_error w message None (ed i)) (Error (next_error w)))))

  pub error-none : IsErrorMade w message None details v None → PassesCells ≡ gives_error w message
  error-none (e, r) =
      let made = makes_error w message None details in
      sym (ap (λ b. if b then Gave (Error (next_error w) ∷ []) made else PassesCells) r) ∙ (λ i. within (gives (makes_error w message None (ed i)) (Error (next_error w))))
