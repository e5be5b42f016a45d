-- Worked cases of the definitions, reasoned out by hand.
use Rattle.std.specs.Prelude.{◌≡◌, true, false, [], ◌∷◌, List, Some, None}
use Rattle.type_model.specs.declared.atoms.AtomDef.{AtomDef}
use Rattle.type_model.specs.declared.basic.SemType.{SemType}
use Rattle.flow_narrowing.specs.declared.flow.Flow.{Flow}
use Rattle.flow_narrowing.specs.declared.flow.Variable.{Variable}
use Rattle.flow_narrowing.specs.Flows.{now}
use Rattle.tree_promises.specs.Flows.{Around}
use Rattle.flow_needs.specs.Narrower.{IsNarrower}
use Rattle.flow_needs.specs.Runs.{known_in}
use Rattle.flow_needs.specs.Slots.{AreApart, IsFreeFrom}

-- three slots of these types
abbrev pub three_slots : SemType → SemType → SemType → Around
three_slots r s t = record { slots = r ∷ s ∷ t ∷ []; captured = [] }

-- of variables in the first slot and in the last one is known what they are, and of the slot between them nothing
abbrev pub VariablesAreInSlots : Type 0
VariablesAreInSlots =
    (r s t : SemType) (v w : Variable) → v.slot ≡ 0 → w.slot ≡ 2
    → known_in (three_slots r s t) true (record { variables = v ∷ w ∷ []; reached = true }) ≡ Some (Some (now v).sem ∷ None ∷ Some (now w).sem ∷ [])

-- where a place isn't reached nothing is, whatever its variables are
abbrev pub NothingIsReached : Type 0
NothingIsReached = (around : Around) (f : Flow) → known_in around false f ≡ None

-- two variables in one slot don't stand in slots of their own
abbrev pub SharedSlotsAreRefused : Type 0
SharedSlotsAreRefused = (v w : Variable) → w.slot ≡ v.slot → ¬ AreApart (v ∷ w ∷ [])

-- where the first of two slots is known wherever a panic lands, the second one may be stored there and the first one may not
abbrev pub KnownSlotsAreNotFree : Type 0
KnownSlotsAreNotFree =
    (t : SemType) → IsFreeFrom 1 2 (Some (Some (Some t ∷ None ∷ []))) × (¬ IsFreeFrom 0 2 (Some (Some (Some t ∷ None ∷ []))))

-- a way that isn't reached is no narrower one of a way that is
abbrev pub EndedWaysAreNotNarrower : Type 0
EndedWaysAreNotNarrower = (env : List AtomDef) (f g : Flow) → f.reached ≡ true → g.reached ≡ false → ¬ IsNarrower env f g
