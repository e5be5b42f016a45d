-- The first of some arrows, and the arguments that it doesn't take.
use Rattle.std.proofs.Common.{◌≡◌, ◌≢◌, ◌&&◌, not, ℕ, ◌<◌, ◌≤◌, List, [], ◌∷◌, ◌++◌, length, get_or, true, false, refl, Bool, Option, Some, None, sym, subst, arith}
use Rattle.bal_base.specs.declared.shape.Shape.{Shape}
use Rattle.type_model.specs.declared.basic.SemType.{SemType}
use Rattle.type_model.specs.declared.atoms.AtomDef.{AtomDef}
use Rattle.type_diagrams.specs.Conditions.{Condition, AreOne, IsShapeOf, LooksAtKinds, condition_of, without}
use Rattle.type_diagrams.specs.Members.{arguments_of}
use Rattle.type_diagrams.specs.Tables.{Table, IsDiagram, condition}
use Rattle.type_diagrams.specs.Whole.{Gives, Keeps}
use Rattle.type_diagrams.proofs.Reaching.{one-Looks, type-Looks}
use Rattle.empty_arrow.specs.Pairs.{AreArguments}
use Rattle.empty_arrow.specs.Giving.{IsMeeting, TellsGiven}
use Rattle.empty_arrow.proofs.Giving.{last-fails, no_arguments, last-gives}
use Rattle.empty_arrow.proofs.PairLaws.{fewer-arguments}
use Rattle.empty_arrow.proofs.PairSteps.{rest_of, first-rest, left-condition}
use Rattle.subtype_decider.specs.Closed.{FindsShapeOf, TellsSome}

pub empty-is : {X : Type 0} (xs : List X) → length xs < 1 → xs ≡ []
empty-is [] lt = refl
empty-is (x ∷ xs) lt = absurd (omega (arith, lt))

-- what is told where there is a shape, and where there is none
pub told-some : (P : Shape → Type 0) (b : Bool) → b ≡ true → TellsSome P b → (x : Shape) × P x
told-some P b is h = subst (TellsSome P) is h

pub told-none : (P : Shape → Type 0) (b : Bool) → b ≡ false → TellsSome P b → (x : Shape) → ¬ P x
told-none P b is h = subst (TellsSome P) is h

module _ (env : List AtomDef) where
  -- ---- no arrow is left

  pub found-TellsGiven : (args : Condition) (taken : List ℕ) (types : List SemType) → length taken < 1 → (o : Option Shape) → FindsShapeOf env args o → TellsGiven env args taken [] types types o
  found-TellsGiven args taken types none (Some s) f = last-fails env args taken types s (empty-is taken none) f
  found-TellsGiven args taken types none None f = no_arguments env args taken [] types f

  pub given-TellsGiven : (args : Condition) (taken : List ℕ) (old new : List SemType) (t : SemType) (defs : List AtomDef) → 1 ≤ length taken → defs ≡ env → AreArguments env args → (s : Shape) × IsShapeOf env args s → IsMeeting defs (get_or taken 0 0 ∷ rest_of taken) t → new ≡ old ++ t ∷ [] → TellsGiven env args taken [] old new None
  given-TellsGiven args taken old new t defs some same are shape is added =
      let meeting = subst (λ ts. IsMeeting env ts t) (sym (first-rest taken some)) (subst (λ e. IsMeeting e (get_or taken 0 0 ∷ rest_of taken) t) same is) in
      subst (λ ts. TellsGiven env args taken [] old ts None) (sym added) (last-gives env args taken (not_empty taken some) t meeting old shape.0 are shape.1)
    where
      not_empty : (ts : List ℕ) → 1 ≤ length ts → ts ≢ []
      not_empty [] some e = absurd (omega (arith, some))
      not_empty (x ∷ xs) some e = cc

  -- ---- the first arrow

  without-Looks : (c d : Condition) → LooksAtKinds env c → LooksAtKinds env d → LooksAtKinds env (without c d)
  without-Looks c d h g k v w agree = λ i. h k v w agree i && not (g k v w agree i)

  module _ (old found mid : Table) (args left first : ℕ) (t : SemType) (defs : List AtomDef) (same : defs ≡ env) (keeps : Keeps old found) (is : IsDiagram old args) (asks : arguments_of defs first ≡ condition_of defs t)
      (gives : Gives mid (without (condition found args) (condition_of env t)) left) where
    pub left-one : AreOne (condition mid left) (without (condition old args) (arguments_of env first))
    left-one = subst (λ c. AreOne (condition mid left) (without c (arguments_of env first))) (keeps.conditions args is) (left-condition env defs same found mid args left first t asks gives)

    pub left-looks : LooksAtKinds env (condition old args) → LooksAtKinds env (condition mid left)
    left-looks looks =
        one-Looks env (without (condition found args) (condition_of env t)) (condition mid left) gives.condition
        (without-Looks (condition found args) (condition_of env t) (subst (LooksAtKinds env) (sym (keeps.conditions args is)) looks) (type-Looks env t))

    pub left-lists : AreArguments env (condition old args) → AreArguments env (condition mid left)
    left-lists are = fewer-arguments env (condition old args) (condition mid left) (arguments_of env first) left-one are
