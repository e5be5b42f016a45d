-- A shape that isn't in a type shows that no is right.
use Rattle.std.proofs.Common.{◌≡◌, Bool, List, refl, sym, subst}
use Rattle.type_model.specs.declared.answers.Answer.{Answer}
use Rattle.type_model.specs.declared.answers.Answer.TheVariants.{Yes, No}
use Rattle.type_model.specs.declared.atoms.AtomDef.{AtomDef}
use Rattle.type_model.specs.declared.basic.SemType.{SemType}
use Rattle.type_model.specs.Inclusion.{AnswersSub}
use Rattle.code_verifier.specs.Deciding.{DecidesSub}
use Rattle.code_verifier.specs.inner.Pairs.{is_yes}

module _ (env : List AtomDef) (s t : SemType) where
  answer-told : (a : Answer) → AnswersSub env s t a → DecidesSub env s t (is_yes a)
  answer-told Yes h = ((λ e. h), (λ sub. refl))
  answer-told (No x) h = ((λ e. absurd (let q : ⊥ = cc in q)), (λ sub. absurd (h.1 (sub x h.0.0 h.0.1))))

  pub sub-decided : (a : Answer) (b : Bool) → b ≡ is_yes a → AnswersSub env s t a → DecidesSub env s t b
  sub-decided a b e h = subst (DecidesSub env s t) (sym e) (answer-told a h)
