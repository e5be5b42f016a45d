-- What a shape of a question, or that it has none, says of types.
use Rattle.std.proofs.Common.{◌≡◌, ⊎_elim, ◌∷◌, [], List, Option, Some, None, All, Contains, sym, subst}
use Rattle.std.proofs.lemmas.List.Elements.{All-contains_itself}
use Rattle.bal_base.specs.declared.shape.Shape.{Shape}
use Rattle.type_model.specs.declared.basic.SemType.{SemType}
use Rattle.type_model.specs.declared.atoms.AtomDef.{AtomDef}
use Rattle.type_model.specs.Calls.{Alone, Without}
use Rattle.type_model.specs.Inclusion.{Sub, AnswersSub, FindsShape, HaveSameShapes}
use Rattle.type_model.specs.declared.answers.Answer.{Answer}
use Rattle.type_model.specs.declared.answers.Answer.TheVariants.{Yes, No}
use Rattle.type_model.specs.Membership.{In}
use Rattle.type_model.proofs.Decided.{In-decided}
use Rattle.type_diagrams.specs.Conditions.{Condition, AreOne, condition_of, without}
use Rattle.type_diagrams.specs.Reach.{Reached, IsFirst, first}
use Rattle.type_diagrams.specs.Whole.{IsMetWhere}
use Rattle.type_diagrams.proofs.Asking.{asks_itself, asks_one_less}
use Rattle.type_diagrams.proofs.Shapes.{one-further}
use Rattle.subtype_decider.specs.Closed.{HasNoShape, FindsShapeOf}
use Rattle.subtype_decider.proofs.Grown.{Entries}

-- the answer by a shape that was found
abbrev pub answer_of : Option Shape → Answer
answer_of (Some x) = No x
answer_of None = Yes

-- a table that is as it was keeps all
pub kept_as : (old new : Entries) → new ≡ old → All (Contains new) old
kept_as old new is = subst (λ (l : Entries). All (Contains l) old) (sym is) (All-contains_itself old)

module _ (env : List AtomDef) where
  -- the first questions
  pub alone-Reached : (t : SemType) (c : Condition) → AreOne c (condition_of env t) → Reached env (IsFirst env (Alone t)) c
  alone-Reached t c one = first c (one-further c (condition_of env t) _ one (asks_itself (condition_of env t)))

  pub without-Reached : (s t : SemType) (c : Condition) → AreOne c (without (condition_of env s) (condition_of env t)) → Reached env (IsFirst env (Without s t)) c
  without-Reached s t c one =
      first c (one-further c (without (condition_of env s) (condition_of env t)) _ one (asks_one_less (condition_of env s) (condition_of env s ∷ []) [] (condition_of env t) (asks_itself (condition_of env s))))

  -- a shape of the type, or that it has none
  pub found-FindsShape : (t : SemType) (c : Condition) (o : Option Shape) → IsMetWhere env c (λ x. In env x t) → FindsShapeOf env c o → FindsShape env t o
  found-FindsShape t c (Some x) met f = (f.0, (met x f.0).0 f.1)
  found-FindsShape t c None met f = λ x valid h. f x (valid, (met x valid).1 h)

  -- no shape of the first type is outside the second
  pub none-Sub : (s t : SemType) (c : Condition) → IsMetWhere env c (λ x. In env x s × ¬ In env x t) → HasNoShape env c → Sub env s t
  none-Sub s t c met none x valid h = ⊎_elim (λ (i : In env x t). i) (λ (n : ¬ In env x t). absurd (none x (valid, (met x valid).1 (h, n)))) (In-decided env x t)

  pub found-AnswersSub : (s t : SemType) (c : Condition) (o : Option Shape) → IsMetWhere env c (λ x. In env x s × ¬ In env x t) → FindsShapeOf env c o → AnswersSub env s t (answer_of o)
  found-AnswersSub s t c (Some x) met f = let both = (met x f.0).0 f.1 in ((f.0, both.0), both.1)
  found-AnswersSub s t c None met f = none-Sub s t c met f

  -- two types with the shapes of one condition
  pub met-HaveSameShapes : (s t : SemType) (c : Condition) → IsMetWhere env c (λ x. In env x s) → IsMetWhere env c (λ x. In env x t) → HaveSameShapes env s t
  met-HaveSameShapes s t c p q x valid = (λ i. (q x valid).0 ((p x valid).1 i), λ i. (p x valid).0 ((q x valid).1 i))
