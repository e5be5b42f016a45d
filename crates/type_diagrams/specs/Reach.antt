-- Which questions a call leads to, and when these pass the limits.
use Rattle.std.specs.Prelude.{◌<◌, ℕ, List, [], ◌∷◌, filter, length, All, AllPairs, Bool, ◌⊎◌}
use Rattle.type_model.specs.declared.basic.SemType.{SemType}
use Rattle.type_model.specs.declared.atoms.AtomDef.{AtomDef}
use Rattle.type_model.specs.declared.answers.TypeLimit.{TypeLimit}
use Rattle.type_model.specs.declared.answers.TypeLimit.TheVariants.{Questions, Arrows}
use Rattle.type_model.specs.Calls.{Asked, Without, Alone, Applied}
use Rattle.type_diagrams.specs.declared.kind.Kind.{Kind}
use Rattle.type_diagrams.specs.declared.kind.Kind.TheVariants.{Function as Functions}
use Rattle.type_diagrams.specs.declared.path.Path.{Path}
use Rattle.type_diagrams.specs.declared.turn.TheConstants.{MOST_QUESTIONS, MOST_ARROWS}
use Rattle.type_diagrams.specs.Members.{atoms_in}
use Rattle.type_diagrams.specs.Conditions.{Condition, AreOne, condition_of, asks}
use Rattle.type_diagrams.specs.Questions.{IsPathOf, IsMemberQuestion, asks_arguments}

-- how many questions a call may lead to, and how many arrows a path may want
abbrev pub most_questions : ℕ
most_questions = MOST_QUESTIONS

abbrev pub most_arrows : ℕ
most_arrows = MOST_ARROWS

module _ (env : List AtomDef) where
  -- the question for a shape of the type
  abbrev pub alone : SemType → Condition
  alone t = asks (condition_of env t ∷ []) []

  -- arguments that none of some wanted arrows of a path of the functions takes
  abbrev pub IsOutsideQuestion : SemType → SemType → Condition → Type 0
  IsOutsideQuestion f args d =
      (p : Path) × (chosen : ℕ → Bool) × IsPathOf (alone f) Functions p
      × AreOne d (asks_arguments env (condition_of env args) (filter chosen (atoms_in p.pos)))

  -- the questions with which a call begins
  abbrev pub IsFirst : Asked → Condition → Type 0
  IsFirst (Without s t) d = AreOne d (asks (condition_of env s ∷ []) (condition_of env t ∷ []))
  IsFirst (Alone t) d = AreOne d (alone t)
  IsFirst (Applied f args) d = AreOne d (alone f) ⊎ IsOutsideQuestion f args d

  -- the questions to which those lead
  pub data Reached (First : Condition → Type 0) : Condition → Type 0 where
    first : (d : Condition) → First d → Reached First d
    next : (c d : Condition) (k : Kind) (p : Path) → Reached First c → IsPathOf c k p → IsMemberQuestion env k p d → Reached First d

  -- A call passes a limit where it leads to more questions than it may, no two of which count as one, or
  -- to a question with a path that wants more arrows than it may.
  abbrev pub Passes : Asked → TypeLimit → Type 0
  Passes asked Questions =
      (questions : List Condition)
      × (most_questions < length questions)
      × AllPairs (λ c d. ¬ AreOne c d) questions
      × All (Reached (IsFirst asked)) questions
  Passes asked Arrows =
      (c : Condition) × (p : Path) × Reached (IsFirst asked) c × IsPathOf c Functions p × (most_arrows < length (atoms_in p.pos))
