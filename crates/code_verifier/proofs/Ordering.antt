-- What two answers tell of two types.
use Rattle.std.proofs.Common.{◌≡◌, ◌↔◌, List, inl, inr, true, false, Result, Ok, Err, IfOk}
use Rattle.bal_base.specs.declared.shape.Shape.{Shape}
use Rattle.bal_base.specs.declared.stop.Stop.{Stop}
use Rattle.operations.specs.Kinds.{IsInteger, IsString}
use Rattle.operations.specs.Rows.{IsWithin}
use Rattle.type_model.specs.declared.answers.Answer.{Answer}
use Rattle.type_model.specs.declared.answers.Answer.TheVariants.{Yes, No}
use Rattle.type_model.specs.declared.answers.TypeLimit.{TypeLimit}
use Rattle.type_model.specs.declared.atoms.AtomDef.{AtomDef}
use Rattle.type_model.specs.declared.basic.BasicSet.TheVariants.{StringAll}
use Rattle.type_model.specs.declared.basic.SemType.{SemType, Basic}
use Rattle.type_model.specs.Inclusion.{AnswersSub, HasExactly, Sub}
use Rattle.type_model.proofs.Same.{itself}
use Rattle.code_needs.specs.Needs.{AreOrdered, Ordered}
use Rattle.code_verifier.specs.Asked.{Answers}
use Rattle.code_verifier.specs.inner.Pairs.{TellsBelow, is_yes}
use Rattle.code_verifier.specs.KindSets.{all_ints}
use Rattle.code_verifier.proofs.KindShapes.{ints-exactly}

module _ (env : List AtomDef) (a b : SemType) where
  -- ---- both below a type

  pub then-second : (t : SemType) (first : Answer) → first ≡ Yes → AnswersSub env a t first → (r : Result Answer (Stop TypeLimit)) → IfOk r (AnswersSub env b t) → IfOk r (TellsBelow env a b t)
  then-second t Yes e h (Ok Yes) k = (h, k)
  then-second t Yes e h (Ok (No x)) k = ((inr k.0, k.1), (λ met. k.1 (met.1 x k.0.0 k.0.1)))
  then-second t Yes e h (Err s) k = tt
  then-second t (No x) e h r k = absurd (let q : ⊥ = cc in q)

  pub first-fails : (t : SemType) (x : Shape) → AnswersSub env a t (No x) → TellsBelow env a b t (No x)
  first-fails t x h = ((inl h.0, h.1), (λ met. h.1 (met.0 x h.0.0 h.0.1)))

  -- ---- in order

  so-within : (want s : SemType) (P : Shape → Type 0) → HasExactly env want P → Sub env s want ↔ IsWithin env P s
  so-within want s P exact = ((λ sub x i. (exact x i.0).0 (sub x i.0 i.1)), (λ w x v i. (exact x v).1 (w x (v, i))))

  pub ints-told : (told : Answer) → is_yes told ≡ true → TellsBelow env a b (Basic all_ints) told → Answers env (Ordered a b) Yes
  ints-told Yes e h = inl ((so-within (Basic all_ints) a IsInteger (ints-exactly env)).0 h.0, (so-within (Basic all_ints) b IsInteger (ints-exactly env)).0 h.1)
  ints-told (No x) e h = absurd (let q : ⊥ = cc in q)

  strings-exactly : HasExactly env (Basic StringAll) IsString
  strings-exactly x v = itself

  pub strings-told : (told : Answer) → is_yes told ≡ false → TellsBelow env a b (Basic all_ints) told → (r : Result Answer (Stop TypeLimit)) → IfOk r (TellsBelow env a b (Basic StringAll)) → IfOk r (Answers env (Ordered a b))
  strings-told Yes e h r k = absurd (let q : ⊥ = cc in q)
  strings-told (No y) e h (Err s) k = tt
  strings-told (No y) e h (Ok Yes) k = inr ((so-within (Basic StringAll) a IsString strings-exactly).0 k.0, (so-within (Basic StringAll) b IsString strings-exactly).0 k.1)
  strings-told (No y) e h (Ok (No x)) k = (k.0, neither-so)
    where
      neither-so : AreOrdered env a b → ⊥
      neither-so (inl ints) = h.1 ((so-within (Basic all_ints) a IsInteger (ints-exactly env)).1 ints.0, (so-within (Basic all_ints) b IsInteger (ints-exactly env)).1 ints.1)
      neither-so (inr strings) = k.1 ((so-within (Basic StringAll) a IsString strings-exactly).1 strings.0, (so-within (Basic StringAll) b IsString strings-exactly).1 strings.1)
