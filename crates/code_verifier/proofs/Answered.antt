-- What answers of questions say of needs.
use Rattle.std.proofs.Common.{◌↔◌, List, Some, Result, Ok, Err, IfOk}
use Rattle.bal_base.specs.declared.shape.Shape.{Shape}
use Rattle.bal_base.specs.declared.stop.Stop.{Stop}
use Rattle.operations.specs.Rows.{IsWithin, ResultHas}
use Rattle.type_model.specs.declared.answers.Answer.{Answer}
use Rattle.type_model.specs.declared.answers.Answer.TheVariants.{Yes, No}
use Rattle.type_model.specs.declared.answers.TypeLimit.{TypeLimit}
use Rattle.type_model.specs.declared.atoms.AtomDef.{AtomDef}
use Rattle.type_model.specs.declared.basic.SemType.{SemType}
use Rattle.type_model.specs.Inclusion.{AnswersSub, HasExactly}
use Rattle.code_verifier.specs.Asked.{IsLeftOut, IsOutside, Tells}

module _ (env : List AtomDef) where
  -- all shapes of the type have the property of the other type's
  pub within-told : (s want : SemType) (P : Shape → Type 0) → HasExactly env want P → (r : Result Answer (Stop TypeLimit)) → IfOk r (AnswersSub env s want) → IfOk r (Tells (IsWithin env P s) (IsOutside env P s))
  within-told s want P exact (Ok Yes) h = λ x k. (exact x k.0).0 (h x k.0 k.1)
  within-told s want P exact (Ok (No x)) h = ((h.0, (λ p. h.1 ((exact x h.0.0).1 p))), (λ met. h.1 ((exact x h.0.0).1 (met x h.0))))
  within-told s want P exact (Err e) h = tt

  -- the type has all shapes with the property
  pub left-told : (want t : SemType) (P : Shape → Type 0) → HasExactly env want P → (r : Result Answer (Stop TypeLimit)) → IfOk r (AnswersSub env want t) → IfOk r (Tells (ResultHas env (Some t) P) (IsLeftOut env t P))
  left-told want t P exact (Ok Yes) h = λ x v p. h x v ((exact x v).1 p)
  left-told want t P exact (Ok (No x)) h = let p : P x = (exact x h.0.0).0 h.0.1 in ((h.0.0, p, h.1), (λ met. h.1 (met x h.0.0 p)))
  left-told want t P exact (Err e) h = tt

-- the same is told of what is the same
pub told-of-same : {A B : Type 0} (P Q : Shape → Type 0) → A ↔ B → ((x : Shape) → P x → Q x) → (r : Result Answer (Stop TypeLimit)) → IfOk r (Tells A P) → IfOk r (Tells B Q)
told-of-same P Q same shows (Ok Yes) h = same.0 h
told-of-same P Q same shows (Ok (No x)) h = (shows x h.0, (λ met. h.1 (same.1 met)))
told-of-same P Q same shows (Err e) h = tt
