-- What is told of applications, and of futures of what they give.
use Rattle.std.specs.Prelude.{◌≡◌, ◌++◌, [], ◌∷◌, List, length}
use Rattle.type_model.specs.declared.answers.Answer.{Answer}
use Rattle.type_model.specs.declared.answers.Answer.TheVariants.{No}
use Rattle.type_model.specs.declared.answers.Apply.{Apply}
use Rattle.type_model.specs.declared.answers.Apply.TheVariants.{Result, Outside}
use Rattle.type_model.specs.declared.answers.TypeLimit.{TypeLimit}
use Rattle.type_model.specs.declared.atoms.AtomDef.{AtomDef}
use Rattle.type_model.specs.declared.atoms.AtomDef.TheVariants.{Future as FutureAtom}
use Rattle.type_model.specs.declared.basic.SemType.{SemType, Atom}
use Rattle.type_model.specs.Calls.{Asked, KeepsTypes}
use Rattle.type_model.specs.Inclusion.{AnswersSub, HasExactly}
use Rattle.operations.specs.Rows.{MayGive, NeverFails}
use Rattle.code_verifier.specs.Asked.{FailsAt}
use Rattle.atom_questions.specs.declared.limits.QuestionLimit.{QuestionLimit}
use Rattle.atom_questions.specs.FutureNeeds.{AsksAtom}
use Rattle.atom_questions.specs.Limits.{OneMoreStops}

-- no function fails, and the type has just what they give; or these are arguments at which one fails
abbrev pub IsGiven : List AtomDef → SemType → List SemType → Apply → Type 0
IsGiven env f args (Result t) = NeverFails env f args × HasExactly env t (MayGive env f args)
IsGiven env f args (Outside x) = FailsAt env f args x

-- with an atom more the types are kept, and it is answered whether the atom is below the type
abbrev pub IsAnsweredOf : List AtomDef → AtomDef → SemType → Answer → Type 0
IsAnsweredOf old def r answer = KeepsTypes old (old ++ def ∷ []) × AnswersSub (old ++ def ∷ []) (Atom (length old)) r answer

-- ---- of futures of what was given

abbrev pub IsFutureOfGiven : Apply → AtomDef → Type 0
IsFutureOfGiven (Result t) def = def ≡ FutureAtom t
IsFutureOfGiven (Outside x) def = ⊥

abbrev pub IsFutureTold : List AtomDef → SemType → Apply → Answer → Type 0
IsFutureTold env r (Result t) answer = IsAnsweredOf env (FutureAtom t) r answer
IsFutureTold env r (Outside x) answer = answer ≡ No x

abbrev pub FutureOfStops : (List AtomDef → Asked → TypeLimit → Type 0) → List AtomDef → SemType → Apply → QuestionLimit → Type 0
FutureOfStops passes env r (Result t) limit = OneMoreStops passes env (λ d. d ≡ FutureAtom t) (AsksAtom (length env) r) limit
FutureOfStops passes env r (Outside x) limit = ⊥
