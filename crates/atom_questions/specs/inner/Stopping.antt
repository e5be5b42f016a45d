-- Limits of single steps.
use Rattle.std.specs.Prelude.{◌≡◌, ◌⊎◌, ◌+◌, ◌<◌, ◌++◌, [], ◌∷◌, ⊤, List, length}
use Rattle.bal_base.specs.declared.limits.TheConstants.{MOST_ATOMS}
use Rattle.type_model.specs.declared.answers.Answer.{Answer}
use Rattle.type_model.specs.declared.answers.Answer.TheVariants.{No}
use Rattle.type_model.specs.declared.answers.Apply.{Apply}
use Rattle.type_model.specs.declared.answers.Apply.TheVariants.{Result, Outside}
use Rattle.type_model.specs.declared.answers.TypeLimit.{TypeLimit}
use Rattle.type_model.specs.declared.atoms.AtomDef.{AtomDef}
use Rattle.type_model.specs.declared.atoms.AtomDef.TheVariants.{List as ListAtom, Mapping as MappingAtom, Arrow, Error as ErrorAtom, Future as FutureAtom}
use Rattle.type_model.specs.declared.basic.SemType.{SemType, Atom}
use Rattle.type_model.specs.Application.{Applies, IsLeastResult}
use Rattle.type_model.specs.Calls.{Applied, Asked, KeepsTypes, Without}
use Rattle.type_model.specs.Defined.{IsDefined}
use Rattle.type_model.specs.Inclusion.{AnswersSub}
use Rattle.atom_questions.specs.declared.limits.QuestionLimit.{QuestionLimit}
use Rattle.atom_questions.specs.declared.limits.QuestionLimit.TheVariants.{Atoms, Types}

-- there would be too many atoms
abbrev pub TooManyAtoms : List AtomDef → List AtomDef → QuestionLimit → Type 0
TooManyAtoms env defs Atoms = MOST_ATOMS < length env + length defs
TooManyAtoms env defs (Types limit) = ⊥

-- the question passes the limit
abbrev pub TypesPass : (List AtomDef → Asked → TypeLimit → Type 0) → List AtomDef → Asked → QuestionLimit → Type 0
TypesPass passes env asked Atoms = ⊥
TypesPass passes env asked (Types limit) = passes env asked limit

-- the functions of the one type are applied to the arguments of the other, or what they give at least is asked about
abbrev pub ApplyPasses : (List AtomDef → Asked → TypeLimit → Type 0) → List AtomDef → SemType → SemType → SemType → QuestionLimit → Type 0
ApplyPasses passes env g args r limit =
    TypesPass passes env (Applied g args) limit ⊎ ((t : SemType) × IsDefined env t × IsLeastResult env g args t × TypesPass passes env (Without t r) limit)

-- what is told of results that were given
abbrev pub IsToldOf : List AtomDef → SemType → Apply → Answer → Type 0
IsToldOf env r (Result t) answer = AnswersSub env t r answer
IsToldOf env r (Outside arguments) answer = answer ≡ No arguments

abbrev pub ResultPasses : (List AtomDef → Asked → TypeLimit → Type 0) → List AtomDef → SemType → Apply → QuestionLimit → Type 0
ResultPasses passes env r (Result t) limit = TypesPass passes env (Without t r) limit
ResultPasses passes env r (Outside arguments) limit = ⊥

-- functions are applied, and this is told of what they give
abbrev pub IsToldByApplying : List AtomDef → SemType → SemType → SemType → Answer → Type 0
IsToldByApplying env g args r answer = (applied : Apply) × Applies env g args applied × IsToldOf env r applied answer

-- the definition is one of lists
abbrev pub IsListDef : AtomDef → Type 0
IsListDef (ListAtom fixed rest) = ⊤
IsListDef (MappingAtom fields rest) = ⊥
IsListDef (Arrow args outcome alone) = ⊥
IsListDef (ErrorAtom detail) = ⊥
IsListDef (FutureAtom outcome) = ⊥

-- with an atom more the types are kept, and it is answered whether the type is below the atom
abbrev pub IsAnsweredIn : List AtomDef → AtomDef → SemType → Answer → Type 0
IsAnsweredIn old def m answer = KeepsTypes old (old ++ def ∷ []) × AnswersSub (old ++ def ∷ []) m (Atom (length old)) answer
