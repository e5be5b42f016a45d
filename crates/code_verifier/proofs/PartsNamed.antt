-- What is told of parts at keys that something names.
use Rattle.std.proofs.Common.{◌↔◌, List, Some, inl, inr, Result, IfOk}
use Rattle.bal_base.specs.declared.shape.Shape.{Shape}
use Rattle.bal_base.specs.declared.stop.Stop.{Stop}
use Rattle.operations.specs.Rows.{IsWithin, ResultHas}
use Rattle.type_model.specs.declared.answers.Answer.{Answer}
use Rattle.type_model.specs.declared.answers.Keys.{Keys}
use Rattle.type_model.specs.declared.answers.TypeLimit.{TypeLimit}
use Rattle.type_model.specs.declared.atoms.AtomDef.{AtomDef}
use Rattle.type_model.specs.declared.basic.SemType.{SemType}
use Rattle.type_model.specs.Calls.{Asked}
use Rattle.type_model.specs.Parts.{StandsAt}
use Rattle.code_needs.specs.Needs.{PartHas, PartIn}
use Rattle.code_verifier.specs.Asked.{Answers, IsLeftOut, IsOutside, Tells}
use Rattle.code_verifier.specs.LedTo.{AsksOfPart, AsksPart, IsTypeOf}
use Rattle.code_verifier.proofs.Answered.{told-of-same}

module _ (env : List AtomDef) (whole : SemType) (keys : Keys) (Q : Shape → Type 0) (at : (x : Shape) → Q x ↔ StandsAt env whole keys x) where
  -- ---- answers

  pub in-told : (t : SemType) (r : Result Answer (Stop TypeLimit)) → IfOk r (Answers env (PartIn whole keys t)) → IfOk r (Tells (ResultHas env (Some t) Q) (IsLeftOut env t Q))
  in-told t =
      told-of-same (IsLeftOut env t (StandsAt env whole keys)) (IsLeftOut env t Q) ((λ h x v s. h x v ((at x).0 s)), (λ h x v s. h x v ((at x).1 s)))
      (λ x p. (p.0, (at x).1 p.1, p.2))

  pub has-told : (v : SemType) (r : Result Answer (Stop TypeLimit)) → IfOk r (Answers env (PartHas whole keys v)) → IfOk r (Tells (IsWithin env Q v) (IsOutside env Q v))
  has-told v =
      told-of-same (IsOutside env (StandsAt env whole keys) v) (IsOutside env Q v) ((λ h x i. (at x).1 (h x i)), (λ h x i. (at x).0 (h x i))) (λ x p. (p.0, (λ s. p.1 ((at x).0 s))))

  -- ---- questions

  so-type : (want : SemType) → IsTypeOf env (StandsAt env whole keys) want → IsTypeOf env Q want
  so-type want (defined, exact) = (defined, (λ x v. ((λ i. (at x).1 ((exact x v).0 i)), (λ s. (exact x v).1 ((at x).0 s)))))

  pub part-leads : (t : SemType) (asked : Asked) → AsksPart env whole (StandsAt env whole keys) t asked → AsksPart env whole Q t asked
  part-leads t asked (inl e) = inl e
  part-leads t asked (inr (want, is, e)) = inr (want, so-type want is, e)

  pub of-part-leads : (v : SemType) (asked : Asked) → AsksOfPart env whole (StandsAt env whole keys) v asked → AsksOfPart env whole Q v asked
  of-part-leads v asked (inl e) = inl e
  of-part-leads v asked (inr (want, is, e)) = inr (want, so-type want is, e)
