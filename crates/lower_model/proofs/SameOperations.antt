-- Operations that are the same but for where a type lies in memory come to the same.
use Rattle.std.proofs.Common.{◌≡◌, ◌↔◌, ℕ, [], ◌∷◌, refl, inl, inr, ⊎_elim}
use Rattle.type_model.specs.declared.basic.SemType.{SemType}
use Rattle.type_model.specs.SameType.{IsSameType}
use Rattle.type_model.proofs.SameTypes.{In-same}
use Rattle.operations.specs.declared.operation.Operation.{Operation}
use Rattle.operations.specs.declared.operation.Operation.TheVariants.{Load, Cast}
use Rattle.operations.specs.Talk.{talk_of}
use Rattle.value_model.specs.declared.panics.PanicName.TheVariants.{TypeCastError}
use Rattle.value_model.specs.declared.value.Value.{Value}
use Rattle.value_model.specs.Meaning.{Answers}
use Rattle.value_model.specs.Stands.{Belongs}
use Rattle.value_model.specs.World.{World, Came}
use Rattle.op_model.specs.Common.{Common}
use Rattle.op_model.specs.ProgramFacts.{ProgramFacts, own_types}
use Rattle.op_model.specs.Rows.{Else, Tells, Unless, gives, panics}
use Rattle.machine_model.specs.Following.{AreAlike}
use Rattle.lower_model.specs.Lowered.{IsSameOperation, cast, same, test}

-- and say the same to other workers
pub same-talk : (op also : Operation) → IsSameOperation op also → talk_of also ≡ talk_of op
same-talk op _ same = refl
same-talk _ _ (test e) = refl
same-talk _ _ (cast e) = refl

module _ (facts : ProgramFacts) where
  belong-same : (c : Common) (v : Value) (s t : SemType) → IsSameType s t → Belongs (own_types facts) c.world.heap v s ↔ Belongs (own_types facts) c.world.heap v t
  belong-same c v s t e =
      (λ h x valid at. (In-same (own_types facts).atoms x s t e).0 (h x valid at), λ h x valid at. (In-same (own_types facts).atoms x s t e).1 (h x valid at))

  tells-same : {P Q : Type 0} (w : World) (came : Came) → P ↔ Q → Tells w P came ↔ Tells w Q came
  tells-same w came e =
      (λ h. (h.0, (λ b. e.0 (h.1.0 b), λ q. h.1.1 (e.1 q)), h.2), λ h. (h.0, (λ b. e.1 (h.1.0 b), λ q. h.1.1 (e.0 q)), h.2))

  casts-same : {P Q : Type 0} (w : World) (v : Value) (came : Came) → P ↔ Q → Unless P (panics w TypeCastError) (Else (gives w v)) came → Unless Q (panics w TypeCastError) (Else (gives w v)) came
  casts-same w v came e h = ⊎_elim (λ x. inl (e.0 x.0, x.1)) (λ x. inr (λ q. x.0 (e.1 q), x.1)) h

  turned : {P Q : Type 0} → P ↔ Q → Q ↔ P
  turned e = (e.1, e.0)

  pub alike : (natives : Answers) (op also : Operation) → IsSameOperation op also → AreAlike facts natives op also
  alike natives op _ same vs caller c effect = (λ h. h, λ h. h)
  alike natives _ _ (test {s = s} {t = t} e) (v ∷ []) caller c effect =
      (λ h. (h.0, (tells-same c.world h.0 (belong-same c v s t e)).0 h.1, h.2), λ h. (h.0, (tells-same c.world h.0 (belong-same c v s t e)).1 h.1, h.2))
  alike natives _ _ (cast {s = s} {t = t} e) (v ∷ []) caller c effect =
      (λ h. (h.0, casts-same c.world v h.0 (belong-same c v s t e) h.1, h.2), λ h. (h.0, casts-same c.world v h.0 (turned (belong-same c v s t e)) h.1, h.2))
  alike natives _ _ (test e) [] caller c effect = (λ h. h, λ h. h)
  alike natives _ _ (test e) (v ∷ w ∷ vs) caller c effect = (λ h. h, λ h. h)
  alike natives _ _ (cast e) [] caller c effect = (λ h. h, λ h. h)
  alike natives _ _ (cast e) (v ∷ w ∷ vs) caller c effect = (λ h. h, λ h. h)

  -- a load has no type, so it is the same load
  pub loading : (slot : ℕ) (also : Operation) → IsSameOperation (Load slot) also → also ≡ Load slot
  loading slot _ same = refl

  -- a value that belongs to the type of a cast belongs to that of the other one
  abbrev pub Casting : Common → SemType → Operation → Type 0
  Casting c t also =
      (u : SemType) × ((v : Value) → Belongs (own_types facts) c.world.heap v t → Belongs (own_types facts) c.world.heap v u) × (also ≡ Cast u)

  pub casting : (c : Common) (t : SemType) (also : Operation) → IsSameOperation (Cast t) also → Casting c t also
  casting c t _ same = (t, λ v h. h, refl)
  casting c t _ (cast {t = u} e) = (u, λ v h. (belong-same c v t u e).0 h, refl)
