-- Maps of code in the making: the types of the operands at each place of it, the last operand last, and those that the place of each
-- label is to have.
use Rattle.std.specs.Prelude.{◌≡◌, ◌≤◌, ◌<◌, ◌+◌, ◌++◌, ℕ, zero, suc, List, [], ◌∷◌, Option, Some, None, length, slice_get, ⊤}
use Rattle.type_model.specs.declared.atoms.AtomDef.{AtomDef}
use Rattle.operations.specs.Rows.{AreBelow, Surroundings}
use Rattle.eval_model.specs.Expressions.{error_type}
use Rattle.eval_model.specs.Ways.{Turns}
use Rattle.stack_code.specs.Commands.{Command, Do, GoTo, GoToIfNot, OpenTrap, CloseTrap}
use Rattle.tree_promises.specs.Types.{DoesTypes, Stack, TakesTypes}
use Rattle.lower_model.specs.Making.{Making}

-- the types at the k-th of some places, or those behind the last one
abbrev pub at_or : List Stack → Stack → ℕ → Stack
at_or [] end k = end
at_or (s ∷ ss) end zero = s
at_or (s ∷ ss) end (suc k) = at_or ss end k

-- what was wanted is wanted
abbrev pub More : List Stack → List Stack → Type 0
More wants more = (l : ℕ) (want : Stack) → slice_get wants l ≡ Some want → slice_get more l ≡ Some want

module _ (env : List AtomDef) (place : Surroundings) where
  -- the label's place is to have such types
  abbrev pub Wants : List Stack → ℕ → (Stack → Type 0) → Type 0
  Wants wants l P = (want : Stack) × (slice_get wants l ≡ Some want) × P want

  -- the command takes what is there, and what it leaves is below what is at the next place, and at the place to which it leads; a trap
  -- lands where an error stands above what was there when it was opened
  abbrev pub IsTyped : List Stack → Command → Stack → Stack → Type 0
  IsTyped wants (Do op) at next = DoesTypes env place op at next
  IsTyped wants (GoTo l) at next = Wants wants l (λ want. AreBelow env at want)
  IsTyped wants (GoToIfNot l) at next = TakesTypes env place at next × Wants wants l (λ want. TakesTypes env place at want)
  IsTyped wants (OpenTrap l) at next = AreBelow env at next × Wants wants l (λ want. want ≡ at ++ error_type ∷ [])
  IsTyped wants CloseTrap at next = AreBelow env at next

  -- each command is typed between the types at its place and those at the next one; these are behind the last one
  abbrev pub AreTyped : List Stack → List Command → List Stack → Stack → Type 0
  AreTyped wants [] [] end = ⊤
  AreTyped wants [] (s ∷ ss) end = ⊥
  AreTyped wants (c ∷ cs) [] end = ⊥
  AreTyped wants (c ∷ cs) (s ∷ ss) end = IsTyped wants c s (at_or ss end 0) × AreTyped wants cs ss end

  -- what was added to the first to come to the second has a map that leads from these types to those; the labels that were there are to
  -- have the old types, and all labels these
  pub record Mapped (m n : Making) (old wants : List Stack) (p q : Stack) : Type 0 where
    -- what was added, and the types at its places
    pub news : List Command
    pub stacks : List Stack
    pub steps : n.steps ≡ m.steps ++ news
    pub typed : AreTyped wants news stacks q
    pub begins : AreBelow env p (at_or stacks q 0)
    -- labels that were there are as they were, and each label is to have types
    pub grown : More old wants
    pub many : length n.labels ≡ length wants
    pub fewer : length m.labels ≤ length n.labels
    pub keeps : (l : ℕ) → l < length m.labels → slice_get n.labels l ≡ slice_get m.labels l
    -- the place of each label that was added is one of these places or the one behind, and what it is to have is below what it has
    pub lands : (l to : ℕ) → length m.labels ≤ l → slice_get n.labels l ≡ Some (Some to) →
        (k : ℕ) × (to ≡ length m.steps + k) × (k ≤ length stacks) × Wants wants l (λ want. AreBelow env want (at_or stacks q k))

  -- the labels of a loop, if there is one, are to have the types at the loop's head and behind it
  abbrev pub InLoop : List Stack → Option (Turns ℕ) → Option (Turns Stack) → Type 0
  InLoop wants None None = ⊤
  InLoop wants None (Some t) = ⊥
  InLoop wants (Some l) None = ⊥
  InLoop wants (Some l) (Some t) = (slice_get wants l.head ≡ Some t.head) × (slice_get wants l.exit ≡ Some t.exit)

  -- what is added within this loop leads from these types to those, whatever was there
  abbrev pub Leads : Option (Turns ℕ) → Option (Turns Stack) → (Making → Making) → Stack → Stack → Type 0
  Leads labels loop F p q = (m : Making) (old : List Stack) → length m.labels ≡ length old → InLoop old labels loop → (wants : List Stack) × Mapped m (F m) old wants p q
