-- The worked cases.
use Rattle.std.proofs.Common.{◌≤◌, ◌<◌, ◌∙◌, ℕ, zero, suc, [], ◌∷◌, Some, None, arith, refl, ap}
use Rattle.std.specs.Prelude.{slice_set}
use Rattle.type_model.specs.declared.basic.SemType.{SemType}
use Rattle.flow_narrowing.specs.Flows.{now}
use Rattle.tree_promises.specs.Known.{IsFree, Known}
use Rattle.flow_needs.specs.Cases.{EndedWaysAreNotNarrower, KnownSlotsAreNotFree, NothingIsReached, SharedSlotsAreRefused, VariablesAreInSlots}

pub variables-are-in-slots : VariablesAreInSlots
variables-are-in-slots r s t v w first last =
    ap (λ (k : Known). Some k)
    (ap (λ n. slice_set (slice_set (None ∷ None ∷ None ∷ []) n (Some (now w).sem)) v.slot (Some (now v).sem)) last
    ∙ ap (λ n. slice_set (None ∷ None ∷ Some (now w).sem ∷ []) n (Some (now v).sem)) first)

pub nothing-is-reached : NothingIsReached
nothing-is-reached around f = refl

pub shared-slots-are-refused : SharedSlotsAreRefused
shared-slots-are-refused v w same h = h.0.0 same

free-second : (t : SemType) (slot : ℕ) → 1 ≤ slot → slot < 2 → IsFree slot (Some (Some (Some t ∷ None ∷ [])))
free-second t zero le lt = absurd (omega (arith, le))
free-second t (suc zero) le lt = refl
free-second t (suc (suc n)) le lt = absurd (omega (arith, lt))

pub known-slots-are-not-free : KnownSlotsAreNotFree
known-slots-are-not-free t = (free-second t, (λ h. let e = h 0 (omega arith) (omega arith) in let bad : ⊥ = cc in bad))

pub ended-ways-are-not-narrower : EndedWaysAreNotNarrower
ended-ways-are-not-narrower env f g first second h = let e = h.reached in let bad : ⊥ = cc in bad
