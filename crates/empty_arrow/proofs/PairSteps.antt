-- The steps of the search for a pair.
use Rattle.std.proofs.Common.{◌≡◌, ℕ, ◌-◌, ◌<◌, ◌≤◌, List, [], ◌∷◌, take, drop, length, get_or, All, Bool, false, Option, sym, ap, subst, ◌∙◌, arith}
use Rattle.std.proofs.Math.Seq.{take-length}
use Rattle.bal_base.specs.declared.shape.Shape.{Shape}
use Rattle.bal_base.specs.declared.shape.Case.{Case}
use Rattle.type_model.specs.declared.basic.SemType.{SemType}
use Rattle.type_model.specs.declared.atoms.AtomDef.{AtomDef}
use Rattle.type_diagrams.specs.Conditions.{AreOne, condition_of, and_of, without}
use Rattle.type_diagrams.specs.Members.{arguments_of, outcome_of}
use Rattle.type_diagrams.specs.Tables.{Table, IsDiagram, condition}
use Rattle.type_diagrams.specs.Turns.{IsSound}
use Rattle.type_diagrams.specs.Whole.{Keeps, Gives}
use Rattle.empty_arrow.specs.declared.pairs.Found.{Found}
use Rattle.empty_arrow.specs.declared.pairs.Found.TheVariants.{Pair, Empty, Ask}
use Rattle.empty_arrow.specs.Pairs.{TellsPair}
use Rattle.empty_arrow.proofs.PairLaws.{tells-left-pair, tells-left-ask, tells-taken-pair, tells-taken-ask, tells-none}

-- what stands behind the first of a list
abbrev pub rest_of : List ℕ → List ℕ
rest_of xs = take (length xs - 1) (drop 1 xs)

pub first-rest : (xs : List ℕ) → 1 ≤ length xs → xs ≡ get_or xs 0 0 ∷ rest_of xs
first-rest [] h = absurd (omega (arith, h))
first-rest (x ∷ xs) h = let long : length (x ∷ xs) - 1 ≡ length xs = omega arith in ap (λ ys. x ∷ ys) (sym (ap (λ n. take n xs) long ∙ take-length xs))

pub rest-shorter : (xs : List ℕ) → 1 ≤ length xs → length (rest_of xs) < length xs
rest-shorter xs h = let same = ap length (first-rest xs h) in omega (arith, same)

module _ (env : List AtomDef) where
  -- the diagrams of a step, by what the arrow takes and gives
  pub left-condition : (defs : List AtomDef) → defs ≡ env → (old mid : Table) (args left first : ℕ) (t : SemType) → arguments_of defs first ≡ condition_of defs t → Gives mid (without (condition old args) (condition_of env t)) left
      → AreOne (condition mid left) (without (condition old args) (arguments_of env first))
  left-condition defs same old mid args left first t asks gives =
      subst (λ d. AreOne (condition mid left) (without (condition old args) d)) (sym (subst (λ e. arguments_of e first ≡ condition_of e t) same asks)) gives.condition

  pub taken-condition : (defs : List AtomDef) → defs ≡ env → (old mid new : Table) (result taken first : ℕ) (t : SemType) → outcome_of defs first ≡ condition_of defs t → IsDiagram old result → Keeps old mid → Gives new (and_of (condition mid result) (condition_of env t)) taken
      → AreOne (condition new taken) (and_of (condition old result) (outcome_of env first))
  taken-condition defs same old mid new result taken first t asks is keeps gives =
      subst (λ d. AreOne (condition new taken) (and_of (condition old result) d)) (sym (subst (λ e. outcome_of e first ≡ condition_of e t) same asks))
      (subst (λ c. AreOne (condition new taken) (and_of c (condition_of env t))) (keeps.conditions result is) gives.condition)

  module _ (kept : List (ℕ × Option Shape)) (arrows : List ℕ) (some : 1 ≤ length arrows) (old : Table) (args result : ℕ) (may_fail : Bool) where
    -- a pair or a question of the arrows behind the first, without the arguments that the first takes
    module _ (mid new : Table) (left : ℕ) (is : IsDiagram old result) (keeps : Keeps old mid) (is_left : AreOne (condition mid left) (without (condition old args) (arguments_of env (get_or arrows 0 0)))) where
      pub step_left-pair : (c : Case) → TellsPair env new kept (condition mid left) (condition mid result) may_fail (rest_of arrows) (Pair c) → TellsPair env new kept (condition old args) (condition old result) may_fail arrows (Pair c)
      step_left-pair c h =
          subst (λ xs. TellsPair env new kept (condition old args) (condition old result) may_fail xs (Pair c)) (sym (first-rest arrows some))
          (tells-left-pair env (get_or arrows 0 0) (rest_of arrows) (condition old args) (condition old result) may_fail new kept (condition mid left) is_left c
          (subst (λ d. TellsPair env new kept (condition mid left) d may_fail (rest_of arrows) (Pair c)) (keeps.conditions result is) h))

      pub step_left-ask : (q : ℕ) → TellsPair env new kept (condition mid left) (condition mid result) may_fail (rest_of arrows) (Ask q) → TellsPair env new kept (condition old args) (condition old result) may_fail arrows (Ask q)
      step_left-ask q h =
          subst (λ xs. TellsPair env new kept (condition old args) (condition old result) may_fail xs (Ask q)) (sym (first-rest arrows some))
          (tells-left-ask env (get_or arrows 0 0) (rest_of arrows) (condition old args) (condition old result) may_fail new kept (condition mid left) is_left q
          (subst (λ d. TellsPair env new kept (condition mid left) d may_fail (rest_of arrows) (Ask q)) (keeps.conditions result is) h))

    -- what is told of the arrows behind the first, with the results that it gives, where there was nothing before
    pub step_taken : (first second third new : Table) (left taken : ℕ) → IsDiagram old args → IsDiagram old result → Keeps old first → Keeps old third → Keeps second new → All (IsSound env second) kept
        → AreOne (condition first left) (without (condition old args) (arguments_of env (get_or arrows 0 0)))
        → AreOne (condition third taken) (and_of (condition old result) (outcome_of env (get_or arrows 0 0)))
        → TellsPair env second kept (condition first left) (condition first result) may_fail (rest_of arrows) Empty
        → (found : Found) → TellsPair env new kept (condition third args) (condition third taken) false (rest_of arrows) found → TellsPair env new kept (condition old args) (condition old result) may_fail arrows found
    step_taken first second third new left taken args_is result_is keeps keeps_third keeps_new sound is_left is_taken nothing found h =
        subst (λ xs. TellsPair env new kept (condition old args) (condition old result) may_fail xs found) (sym (first-rest arrows some))
        (by found (subst (λ d. TellsPair env new kept d (condition third taken) false (rest_of arrows) found) (keeps_third.conditions args args_is) h))
      where
        before : TellsPair env second kept (condition first left) (condition old result) may_fail (rest_of arrows) Empty
        before = subst (λ d. TellsPair env second kept (condition first left) d may_fail (rest_of arrows) Empty) (keeps.conditions result result_is) nothing

        by : (found : Found) → TellsPair env new kept (condition old args) (condition third taken) false (rest_of arrows) found → TellsPair env new kept (condition old args) (condition old result) may_fail (get_or arrows 0 0 ∷ rest_of arrows) found
        by (Pair c) h = tells-taken-pair env (get_or arrows 0 0) (rest_of arrows) (condition old args) (condition old result) may_fail new kept (condition third taken) is_taken c h
        by Empty h = tells-none env (get_or arrows 0 0) (rest_of arrows) (condition old args) (condition old result) may_fail new kept second (condition first left) (condition third taken) is_left is_taken sound keeps_new before h
        by (Ask q) h = tells-taken-ask env (get_or arrows 0 0) (rest_of arrows) (condition old args) (condition old result) may_fail new kept (condition third taken) is_taken q h
