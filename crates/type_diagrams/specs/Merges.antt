-- Two rising lists of places, as one.
use Rattle.std.specs.Prelude.{◌≡◌, List, [], ◌∷◌, Bool, true, ◌||◌, if◌then◌else◌, not, ◌⊎◌}
use Rattle.std.specs.declared.cmp.Ordering.{Ordering}
use Rattle.type_diagrams.specs.declared.merge.Rule.{Rule}
use Rattle.type_diagrams.specs.Operations.{meaning}
use Rattle.type_diagrams.specs.Sets.{IsBelowAll, Rises, answer_for, covers}

-- the answer of an operation where the two have their first answers
abbrev pub first_answer : Rule → Bool
first_answer r = meaning r.operation r.left r.right

-- the value is one of the list's
abbrev pub IsOneOf : {X : Type 0} → List X → X → Type 0
IsOneOf [] y = ⊥
IsOneOf (x ∷ xs) y = (x ≡ y) ⊎ IsOneOf xs y

-- the answer of a rule is another one than that of the next
abbrev pub turns_over : Rule → Rule → Bool
turns_over r s = if first_answer r then not (first_answer s) else first_answer s

module _ {X : Type 0} (cmp : X → X → Ordering) where
  -- the next place of two rising lists, whether it is in each, and what is behind it
  pub record IsNext (left right : List X) (p : X) (in_left in_right : Bool) (left_rest right_rest : List X) : Type 0 where
    pub of_left : left ≡ (if in_left then p ∷ left_rest else left_rest)
    pub of_right : right ≡ (if in_right then p ∷ right_rest else right_rest)
    pub some : (in_left || in_right) ≡ true
    pub below_left : IsBelowAll cmp p left_rest
    pub below_right : IsBelowAll cmp p right_rest

  -- the places of the result of an operation on two sets: they rise, each is from one of the two, and the
  -- answers are those of the operation
  pub record IsMerged (r : Rule) (left right places : List X) : Type 0 where
    pub rises : Rises cmp places
    pub from : (p : X) → IsOneOf places p → IsOneOf left p ⊎ IsOneOf right p
    pub answers : (x : X) → answer_for (covers r.lasting cmp) (first_answer r) places x ≡ meaning r.operation (answer_for (covers r.lasting cmp) r.left left x) (answer_for (covers r.lasting cmp) r.right right x)
