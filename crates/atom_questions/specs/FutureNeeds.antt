-- Futures of what functions give: which atoms are added for them, and which limits are passed.
use Rattle.std.specs.Prelude.{◌≡◌, ◌⊎◌, ◌++◌, ℕ, [], ◌∷◌, List, length}
use Rattle.type_model.specs.declared.answers.TypeLimit.{TypeLimit}
use Rattle.type_model.specs.declared.atoms.AtomDef.{AtomDef}
use Rattle.type_model.specs.declared.atoms.AtomDef.TheVariants.{Future as FutureAtom}
use Rattle.type_model.specs.declared.basic.SemType.{SemType, Atom}
use Rattle.type_model.specs.Calls.{Applied, Asked, Without}
use Rattle.operations.specs.Rows.{MayGive}
use Rattle.code_verifier.specs.LedTo.{IsTypeOf}
use Rattle.atom_questions.specs.Added.{HasOneMore, IsArgsDef, IsFunctionsOf}
use Rattle.atom_questions.specs.declared.limits.QuestionLimit.{QuestionLimit}
use Rattle.atom_questions.specs.Limits.{OneMoreStops}

-- ---- which atoms are added

-- futures with just such results as are given
abbrev pub IsFutureDef : List AtomDef → SemType → List SemType → AtomDef → Type 0
IsFutureDef env f args def = (t : SemType) × IsTypeOf env (MayGive env f args) t × (def ≡ FutureAtom t)

-- the atoms are as before; or there is one more, of lists of the arguments, and behind it at most one of such futures
abbrev pub HasFutureMore : List AtomDef → SemType → List SemType → List AtomDef → Type 0
HasFutureMore old f args new =
    (new ≡ old) ⊎ ((def : AtomDef) × IsArgsDef args def × HasOneMore (old ++ def ∷ []) (IsFutureDef (old ++ def ∷ []) f args) new)

-- ---- limits

-- the functions of f alone are applied to lists of the atom
abbrev pub AsksApplied : SemType → ℕ → List AtomDef → Asked → Type 0
AsksApplied f atom env asked = (g : SemType) × IsFunctionsOf f g × (asked ≡ Applied g (Atom atom))

-- whether the atom is below the type
abbrev pub AsksAtom : ℕ → SemType → List AtomDef → Asked → Type 0
AsksAtom atom r env asked = asked ≡ Without (Atom atom) r

-- where functions are applied; or where it is asked whether futures of what they give are in r
abbrev pub FutureStops : (List AtomDef → Asked → TypeLimit → Type 0) → List AtomDef → SemType → List SemType → SemType → QuestionLimit → Type 0
FutureStops passes old f args r limit =
    OneMoreStops passes old (IsArgsDef args) (AsksApplied f (length old)) limit
    ⊎ ((def : AtomDef) × IsArgsDef args def
    × OneMoreStops passes (old ++ def ∷ []) (IsFutureDef (old ++ def ∷ []) f args) (AsksAtom (length (old ++ def ∷ [])) r) limit)
