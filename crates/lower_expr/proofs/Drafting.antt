-- What a draft holds, with one more command or with a label that gets its place.
use Rattle.std.proofs.Common.{◌≡◌, ℕ, suc, zero, ◌<◌, List, [], ◌∷◌, ◌++◌, length, map, refl, ap, arith}
use Rattle.std.proofs.lemmas.List.{map-append, length-map}
use Rattle.std.specs.Prelude.{slice_set}
use Rattle.operations.specs.declared.operation.Operation.{Operation}
use Rattle.lower_model.specs.Making.{Making, all_do}
use Rattle.lower_expr.specs.declared.draft.Step.{Step}
use Rattle.lower_expr.specs.Drafts.{step_of}

pub steps-more : (xs : List Step) (s : Step) → map step_of (xs ++ s ∷ []) ≡ map step_of xs ++ step_of s ∷ []
steps-more xs s = map-append step_of xs (s ∷ [])

pub steps-length : (xs : List Step) → length (map step_of xs) ≡ length xs
steps-length xs = length-map xs step_of

pub set-beyond : {X : Type 0} (xs : List X) (i : ℕ) (x : X) → ¬ (i < length xs) → slice_set xs i x ≡ xs
set-beyond [] i x not = refl
set-beyond (y ∷ xs) zero x not = absurd (not (omega arith))
set-beyond (y ∷ xs) (suc i) x not = ap (λ l. y ∷ l) (set-beyond xs i x (λ lt. not (omega (arith, lt))))

pub all-do-append : (xs ys : List Operation) (m : Making) → all_do (xs ++ ys) m ≡ all_do ys (all_do xs m)
all-do-append [] ys m = refl
all-do-append (x ∷ xs) ys m = all-do-append xs ys _

pub ruleset drafting = (steps-more, steps-length, set-beyond, all-do-append, length-map)
