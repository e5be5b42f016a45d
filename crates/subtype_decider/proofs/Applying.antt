-- The question for the arguments of an application, and its results.
use Rattle.std.proofs.Common.{◌≡◌, ◌&&◌, not, true, List, [], ◌∷◌, ◌++◌, None, sym, subst, ◌∙◌}
use Rattle.bal_base.specs.declared.shape.Shape.{Shape}
use Rattle.type_model.specs.declared.basic.SemType.{SemType, Basic}
use Rattle.type_model.specs.declared.basic.BasicSet.TheVariants.{ListAll, Readonly}
use Rattle.type_model.specs.declared.atoms.AtomDef.{AtomDef}
use Rattle.type_diagrams.specs.Conditions.{Condition, AreOne, LooksAtKinds, condition_of, asks}
use Rattle.type_diagrams.specs.Questions.{lists, readonly}
use Rattle.type_diagrams.proofs.Reaching.{one-Looks, type-Looks}
use Rattle.empty_arrow.specs.Giving.{GiveResults, TellsResults}

module _ (env : List AtomDef) where
  pub arguments-Looks : (args : SemType) (d : Condition) → AreOne d (asks (condition_of env args ∷ lists env ∷ []) (readonly env ∷ [])) → LooksAtKinds env d
  arguments-Looks args d one =
      one-Looks env (asks (condition_of env args ∷ lists env ∷ []) (readonly env ∷ [])) d one
      (λ k v w agree. λ i. (type-Looks env args k v w agree i && (type-Looks env (Basic ListAll) k v w agree i && true)) && (not (type-Looks env (Basic Readonly) k v w agree i) && true))

  pub given-of : (IsOne : Shape → Type 0) (args : Condition) (old new : List SemType) → old ≡ [] → TellsResults env IsOne args old new None → GiveResults env IsOne args new
  given-of IsOne args old new none told = subst (GiveResults env IsOne args) (sym (told.1 ∙ (λ i. none i ++ told.0))) told.2
