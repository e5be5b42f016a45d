-- Why a question that wants an atom isn't answered.
use Rattle.std.specs.Prelude.{◌≡◌, ◌⊎◌, ◌+◌, ◌<◌, ◌++◌, ℕ, [], ◌∷◌, List, length}
use Rattle.bal_base.specs.declared.limits.TheConstants.{MOST_ATOMS}
use Rattle.type_model.specs.declared.answers.TypeLimit.{TypeLimit}
use Rattle.type_model.specs.declared.atoms.AtomDef.{AtomDef}
use Rattle.type_model.specs.declared.basic.SemType.{SemType, Atom}
use Rattle.type_model.specs.Calls.{Applied, Asked}
use Rattle.operations.specs.Rows.{MayGive}
use Rattle.code_verifier.specs.LedTo.{AsksAbove, IsTypeOf, SomePasses}
use Rattle.atom_questions.specs.Added.{IsFunctionsOf}
use Rattle.atom_questions.specs.declared.limits.QuestionLimit.{QuestionLimit}
use Rattle.atom_questions.specs.declared.limits.QuestionLimit.TheVariants.{Atoms, Types}

-- there would be too many atoms with one more; or over the atoms with one so defined a question that is led to passes the limit
abbrev pub OneMoreStops : (List AtomDef → Asked → TypeLimit → Type 0) → List AtomDef → (AtomDef → Type 0) → (List AtomDef → Asked → Type 0) → QuestionLimit → Type 0
OneMoreStops passes env IsDef L Atoms = MOST_ATOMS < length env + 1
OneMoreStops passes env IsDef L (Types limit) = (def : AtomDef) × IsDef def × SomePasses passes (env ++ def ∷ []) (L (env ++ def ∷ [])) limit

-- the functions of f alone are applied to lists of the atom, and then it is asked whether what they give is in r
abbrev pub AsksGiven : SemType → List SemType → ℕ → SemType → List AtomDef → Asked → Type 0
AsksGiven f args atom r env asked =
    ((g : SemType) × IsFunctionsOf f g × (asked ≡ Applied g (Atom atom))) ⊎ AsksAbove r (IsTypeOf env (MayGive env f args)) asked
