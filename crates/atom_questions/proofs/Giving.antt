-- What applications to lists of arguments tell of needs.
use Rattle.std.proofs.Common.{◌≡◌, ◌↔◌, ◌++◌, ℕ, List, [], ◌∷◌, Option, Some, None, All, Result, Ok, Err, IfOk, inl, inr, length, refl, sym, subst, slice_get}
use Rattle.std.proofs.lemmas.List.Elements.{All-head, All-tail}
use Rattle.std.specs.List.{AllZip}
use Rattle.bal_base.specs.declared.shape.Shape.{Shape}
use Rattle.bal_base.specs.declared.stop.Stop.{Stop}
use Rattle.bal_base.specs.declared.stop.Stop.TheVariants.{Fault, Memory}
use Rattle.bal_base.specs.Shapes.{shapes_list}
use Rattle.bal_base.specs.Stops.{IfFault}
use Rattle.operations.specs.Rows.{MayAnswer, MayGive, NeverFails}
use Rattle.type_model.specs.declared.answers.Answer.{Answer}
use Rattle.type_model.specs.declared.answers.Answer.TheVariants.{Yes, No}
use Rattle.type_model.specs.declared.answers.Apply.{Apply}
use Rattle.type_model.specs.declared.answers.Apply.TheVariants.{Result as Given, Outside}
use Rattle.type_model.specs.declared.answers.TypeLimit.{TypeLimit}
use Rattle.type_model.specs.declared.atoms.AtomDef.{AtomDef}
use Rattle.type_model.specs.declared.basic.SemType.{SemType, Atom}
use Rattle.type_model.specs.Application.{Applies as AppliesTo, IsLeastResult}
use Rattle.type_model.specs.Calls.{Applied, Asked, KeepsTypes, Without}
use Rattle.type_model.specs.Defined.{IsDefined}
use Rattle.type_model.specs.Inclusion.{HasExactly, IsShapeOf}
use Rattle.type_model.specs.Membership.{In}
use Rattle.type_model.proofs.ApplicationLaws.{Answers-in}
use Rattle.code_needs.specs.Needs.{Applies, Gives}
use Rattle.code_verifier.specs.Asked.{FailsAt}
use Rattle.atom_questions.specs.Added.{IsArgsDef, IsFunctionsOf}
use Rattle.atom_questions.specs.Both.{AnswersBoth}
use Rattle.atom_questions.specs.declared.limits.QuestionLimit.{QuestionLimit}
use Rattle.atom_questions.specs.declared.limits.QuestionLimit.TheVariants.{Atoms, Types}
use Rattle.atom_questions.specs.inner.Stopping.{ApplyPasses, IsToldByApplying, IsToldOf}
use Rattle.atom_questions.specs.Limits.{AsksGiven, OneMoreStops}
use Rattle.atom_questions.proofs.Arguments.{fails-at, from-list, to-list}
use Rattle.atom_questions.proofs.Stops.{last-there}

-- ---- over the atoms with the new one

module _ (env : List AtomDef) (n : ℕ) (def : AtomDef) (args : List SemType) (there : slice_get env n ≡ Some def) (is : IsArgsDef args def) (f g : SemType) (only : IsFunctionsOf f g) (t : SemType) (least : IsLeastResult env g (Atom n) t) where
  pub never-fails : NeverFails env f args
  never-fails m =
      let l = to-list env n def args there is f g only None m in
      let (x, own, h) = l.can in
      Answers-in env (Atom n) t x l.arguments None (least.below x own.0 own.1) h l.shape.1

  pub results : HasExactly env t (MayGive env f args)
  results x v = (
    (λ i. let (arguments, shape, can) = least.least x v i in from-list env n def args there is f g only arguments (Some x) shape can),
    (λ m.
        let l = to-list env n def args there is f g only (Some x) m in
        let (y, own, h) = l.can in
        Answers-in env (Atom n) t y l.arguments (Some x) (least.below y own.0 own.1) h l.shape.1),
  )

-- ---- over the atoms before

module _ (env new : List AtomDef) (keeps : KeepsTypes env new) (f : SemType) (args : List SemType) (f_defined : IsDefined env f) (args_defined : All (IsDefined env) args) where
  zip-kept : (ys : List Shape) (ss : List SemType) → All (IsDefined env) ss → AllZip (λ y s. IsShapeOf env s y) ys ss ↔ AllZip (λ y s. IsShapeOf new s y) ys ss
  zip-kept [] [] d = ((λ z. z), (λ z. z))
  zip-kept [] (s ∷ ss) d = ((λ z. z), (λ z. z))
  zip-kept (y ∷ ys) [] d = ((λ z. z), (λ z. z))
  zip-kept (y ∷ ys) (s ∷ ss) d =
      let here = keeps.shapes s (All-head (IsDefined env) s ss d) y in
      let more = zip-kept ys ss (All-tail (IsDefined env) s ss d) in
      ((λ z. ((z.0.0, here.0 z.0.1), more.0 z.1)), (λ z. ((z.0.0, here.1 z.0.1), more.1 z.1)))

  pub answer-kept : (answer : Option Shape) → MayAnswer env f args answer ↔ MayAnswer new f args answer
  answer-kept answer = (so, back)
    where
      so : MayAnswer env f args answer → MayAnswer new f args answer
      so (x, c, shape, answers, zip, e) = (x, c, (shape.0, (keeps.shapes f f_defined x).0 shape.1), answers, (zip-kept (shapes_list c.args) args args_defined).0 zip, e)

      back : MayAnswer new f args answer → MayAnswer env f args answer
      back (x, c, shape, answers, zip, e) = (x, c, (shape.0, (keeps.shapes f f_defined x).1 shape.1), answers, (zip-kept (shapes_list c.args) args args_defined).1 zip, e)

  pub fails-back : (x : Shape) → FailsAt env f args x → FailsAt new f args x
  fails-back x (h, c, shape, answers, zip, e, o) = (h, c, (shape.0, (keeps.shapes f f_defined h).0 shape.1), answers, (zip-kept (shapes_list c.args) args args_defined).0 zip, e, o)

  pub fails-kept : (x : Shape) → FailsAt new f args x → FailsAt env f args x
  fails-kept x (h, c, shape, answers, zip, e, o) = (h, c, (shape.0, (keeps.shapes f f_defined h).1 shape.1), answers, (zip-kept (shapes_list c.args) args args_defined).1 zip, e, o)

  -- arguments at which a function fails show that one does
  pub so-fails : (x : Shape) → FailsAt env f args x → ¬ (NeverFails env f args)
  so-fails x (h, c, shape, answers, zip, e, o) never = never (h, c, shape, answers, zip, e)

  module _ (n : ℕ) (def : AtomDef) (there : slice_get new n ≡ Some def) (is : IsArgsDef args def) (r : SemType) (r_defined : IsDefined env r) where
    by-applying : (g : SemType) → IsFunctionsOf f g → (applied : Apply) → AppliesTo new g (Atom n) applied → (answer : Answer) → IsToldOf new r applied answer → AnswersBoth env (Applies f args) (Gives f args r) answer
    by-applying g only (Given t) least Yes sub = (
      (λ m. never-fails new n def args there is f g only t least ((answer-kept None).0 m)),
      (λ x v m. (keeps.shapes r r_defined x).1 (sub x v ((results new n def args there is f g only t least x v).1 ((answer-kept (Some x)).0 m)))),
    )
    by-applying g only (Given t) least (No x) h =
        let m : MayGive env f args x = (answer-kept (Some x)).1 ((results new n def args there is f g only t least x h.0.0).0 h.0.1) in
        let out : ¬ (In env x r) = λ i. h.1 ((keeps.shapes r r_defined x).0 i) in
        inr (
          (λ m. never-fails new n def args there is f g only t least ((answer-kept None).0 m)),
          (h.0.0, m, out),
          (λ met. out (met x h.0.0 m)),
        )
    by-applying g only (Outside arguments) (shape, can) answer e =
        let fails : FailsAt env f args arguments = fails-kept arguments (fails-at new n def args there is f g only arguments shape can) in
        subst (AnswersBoth env (Applies f args) (Gives f args r)) (sym e) (inl (fails, so-fails arguments fails))

    given-told : (g : SemType) → IsFunctionsOf f g → (answer : Answer) → IsToldByApplying new g (Atom n) r answer → AnswersBoth env (Applies f args) (Gives f args r) answer
    given-told g only answer (applied, applies, told) = by-applying g only applied applies answer told

    pub given-answers : (res : Result Answer (Stop QuestionLimit)) → IfOk res (λ answer. (h : SemType) × IsFunctionsOf f h × IsToldByApplying new h (Atom n) r answer) → IfOk res (AnswersBoth env (Applies f args) (Gives f args r))
    given-answers (Err e) h = tt
    given-answers (Ok a) h = one a h
      where
        one : (a : Answer) → (h : SemType) × IsFunctionsOf f h × IsToldByApplying new h (Atom n) r a → AnswersBoth env (Applies f args) (Gives f args r) a
        one a (h, alone, told) = given-told h alone a told

-- ---- limits

module _ (passes : List AtomDef → Asked → TypeLimit → Type 0) (old : List AtomDef) (def : AtomDef) (args : List SemType) (is : IsArgsDef args def) (f r : SemType) where
  abbrev Grown : List AtomDef
  Grown = old ++ def ∷ []

  abbrev Stopped : List AtomDef → ℕ → QuestionLimit → Type 0
  Stopped new n l = (g : SemType) × IsFunctionsOf f g × ApplyPasses passes new g (Atom n) r l

  abbrev Told : QuestionLimit → Type 0
  Told l = OneMoreStops passes old (λ d. d ≡ def) (AsksGiven f args (length old) r) l

  by-limit : (l : QuestionLimit) → Stopped Grown (length old) l → Told l
  by-limit Atoms (g, only, inl h) = absurd h
  by-limit Atoms (g, only, inr (t, d, least, h)) = absurd h
  by-limit (Types l) (g, only, inl h) = (def, refl, (Applied g (Atom (length old)), inl (g, only, refl), h))
  by-limit (Types l) (g, only, inr (t, d, least, h)) =
      (def, refl, (Without t r, inr (t, (d, results Grown (length old) def args (last-there old def) is f g only t least), refl), h))

  pub given-stops : (new : List AtomDef) (n : ℕ) → n ≡ length old → new ≡ Grown → {A : Type 0} (res : Result A (Stop QuestionLimit)) → IfFault res (Stopped new n) → IfFault res Told
  given-stops new n first added (Ok a) h = tt
  given-stops new n first added (Err Memory) h = tt
  given-stops new n first added (Err (Fault l)) h =
      by-limit l (subst (λ (env : List AtomDef). Stopped env (length old) l) added (subst (λ (k : ℕ). Stopped new k l) first h))
