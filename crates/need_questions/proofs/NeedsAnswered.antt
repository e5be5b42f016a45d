-- What answers tell of the needs of a question.
use Rattle.std.proofs.Common.{◌≡◌, List, [], ◌∷◌, Result, Ok, Err, IfOk, inl, inr, refl, subst, sym, zero, suc}
use Rattle.std.proofs.lemmas.List.Elements.{All-cons, All-nil}
use Rattle.bal_base.specs.declared.stop.Stop.{Stop}
use Rattle.bal_base.specs.declared.stop.Stop.TheVariants.{Fault, Memory}
use Rattle.bal_base.specs.Stops.{IfFault}
use Rattle.type_model.specs.declared.answers.Answer.{Answer}
use Rattle.type_model.specs.declared.answers.Answer.TheVariants.{Yes, No}
use Rattle.type_model.specs.declared.answers.TypeLimit.{TypeLimit}
use Rattle.type_model.specs.declared.atoms.AtomDef.{AtomDef}
use Rattle.type_model.specs.Calls.{KeepsTypes}
use Rattle.type_model.proofs.Kept.{KeepsTypes-same}
use Rattle.code_needs.specs.Needs.{IsMet, Need}
use Rattle.code_verifier.specs.Asked.{Answers}
use Rattle.atom_questions.specs.Both.{AnswersBoth}
use Rattle.atom_questions.specs.declared.limits.QuestionLimit.{QuestionLimit}
use Rattle.need_questions.specs.inner.Widened.{widened}
use Rattle.need_questions.specs.NeedsAsked.{AnswersNeeds}
use Rattle.need_questions.specs.declared.question.NeedQuestion.{NeedQuestion}
use Rattle.need_questions.specs.NeedStops.{HasAddedFor, OfTypes}

-- ---- limits in wider words

pub widened-ok : (P : Answer → Type 0) (r : Result Answer (Stop TypeLimit)) (s : Result Answer (Stop QuestionLimit)) → s ≡ widened r → IfOk r P → IfOk s P
widened-ok P r s e h = subst (λ (t : Result Answer (Stop QuestionLimit)). IfOk t P) (sym e) (by r h)
  where
    by : (r : Result Answer (Stop TypeLimit)) → IfOk r P → IfOk (widened r) P
    by (Ok a) k = k
    by (Err Memory) k = tt
    by (Err (Fault l)) k = tt

pub widened-limit : (P : TypeLimit → Type 0) (r : Result Answer (Stop TypeLimit)) (s : Result Answer (Stop QuestionLimit)) → s ≡ widened r → IfFault r P → IfFault s (OfTypes P)
widened-limit P r s e h = subst (λ (t : Result Answer (Stop QuestionLimit)). IfFault t (OfTypes P)) (sym e) (by r h)
  where
    by : (r : Result Answer (Stop TypeLimit)) → IfFault r P → IfFault (widened r) (OfTypes P)
    by (Ok a) k = tt
    by (Err Memory) k = tt
    by (Err (Fault l)) k = k

-- ---- one need, and two

module _ (env : List AtomDef) where
  one-answer : (need : Need) (a : Answer) → Answers env need a → AnswersNeeds env (need ∷ []) a
  one-answer need Yes met = All-cons (IsMet env) need [] met (All-nil (IsMet env))
  one-answer need (No x) h = (zero, need, refl, All-nil (IsMet env), h.0, h.1)

  pub one-answered : (need : Need) (r : Result Answer (Stop QuestionLimit)) → IfOk r (Answers env need) → IfOk r (AnswersNeeds env (need ∷ []))
  one-answered need (Ok a) h = one-answer need a h
  one-answered need (Err e) h = tt

  both-answer : (n m : Need) (a : Answer) → AnswersBoth env n m a → AnswersNeeds env (n ∷ m ∷ []) a
  both-answer n m Yes h = All-cons (IsMet env) n (m ∷ []) h.0 (All-cons (IsMet env) m [] h.1 (All-nil (IsMet env)))
  both-answer n m (No x) (inl h) = (zero, n, refl, All-nil (IsMet env), h.0, h.1)
  both-answer n m (No x) (inr h) = (suc zero, m, refl, All-cons (IsMet env) n [] h.0 (All-nil (IsMet env)), h.1, h.2)

  pub both-answered : (n m : Need) (r : Result Answer (Stop QuestionLimit)) → IfOk r (AnswersBoth env n m) → IfOk r (AnswersNeeds env (n ∷ m ∷ []))
  both-answered n m (Ok a) h = both-answer n m a h
  both-answered n m (Err e) h = tt

pub kept-same : (old new : List AtomDef) → new ≡ old → KeepsTypes old new
kept-same old new e = subst (λ (env : List AtomDef). KeepsTypes old env) (sym e) (KeepsTypes-same old)

-- the atoms that a question adds, by its kind
pub added-of : (old : List AtomDef) (q p : NeedQuestion) → q ≡ p → (new : List AtomDef) → HasAddedFor old p new → HasAddedFor old q new
added-of old q p e new h = subst (λ (r : NeedQuestion). HasAddedFor old r new) (sym e) h
