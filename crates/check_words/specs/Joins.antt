-- How flows are narrowed and joined.
use Rattle.std.specs.Prelude.{◌≡◌, List, [], ◌∷◌, Some}
use Rattle.bal_base.specs.declared.fault.FaultCode.TheVariants.{TypeLimit as TooLarge}
use Rattle.bal_base.specs.declared.fault.Kept.TheVariants.{Nothing as ShowsNothing}
use Rattle.bal_base.specs.declared.place.Place.{Place}
use Rattle.checks.specs.Checks.{Check, Gives, Refuses, gives, ◌▷◌}
use Rattle.checks.specs.Questions.{IsFault}
use Rattle.flow_narrowing.specs.declared.flow.Flow.{Flow}
use Rattle.flow_narrowing.specs.Asked.{NarrowsBeyond}
use Rattle.flow_narrowing.specs.Flows.{IsJoin}
use Rattle.flow_narrowing.specs.Narrowed.{WhereFalse, WhereTrue}
use Rattle.type_model.specs.declared.answers.TypeLimit.{TypeLimit}
use Rattle.type_model.specs.declared.atoms.AtomDef.{AtomDef}
use Rattle.type_model.specs.declared.basic.Ty.{Ty}
use Rattle.type_model.specs.Calls.{Asked}
use Rattle.typed_tree.specs.SharedTypes.{Shared}
use Rattle.check_words.specs.State.{State}
use Rattle.check_words.specs.Words.{Atoms, asking, some_over}

-- ---- joins

-- what is known where two ways meet
abbrev pub joins_two : Flow → Flow → Check State Flow
joins_two f g = some_over (λ env h. IsJoin env f g h)

-- several, in order
abbrev pub joins_from : Flow → List Flow → Check State Flow
joins_from f [] = gives f
joins_from f (g ∷ gs) = joins_two f g ▷ λ h. joins_from h gs

-- ---- narrowing

module _ (passes : List AtomDef → Asked → TypeLimit → Type 0) where
  -- The type that a failed test for t leaves of s. To find it questions may be asked whether parts of s lie in t.
  unfoldable pub where_false : Ty → Ty → Place → Check Atoms Shared
  where_false s t at old (Gives u) new = WhereFalse old s t u.value × (new ≡ old)
  where_false s t at old (Refuses f) new =
      ((limit : TypeLimit) × NarrowsBeyond passes old s.sem t.sem limit × IsFault TooLarge (Some at) ShowsNothing f) × (new ≡ old)

  -- the types that a test for t leaves of s: where it holds, and where it doesn't
  abbrev pub narrows_to : Shared → Shared → Place → Check State (Shared × Shared)
  narrows_to s t at =
      some_over (λ env (u : Shared). WhereTrue env s.value t.value u.value) ▷ λ yes.
      asking (where_false s.value t.value at) ▷ λ no. gives (yes, no)
