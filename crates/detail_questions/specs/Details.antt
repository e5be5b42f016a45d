-- Which atoms are added where errors with details of pairs are asked about, and which limits are passed.
use Rattle.std.specs.Prelude.{◌≡◌, ◌⊎◌, ◌+◌, ◌<◌, ◌++◌, ℕ, Bool, true, false, List, [], ◌∷◌, Option, Some, None, filter, length}
use Rattle.bal_base.specs.declared.limits.TheConstants.{MOST_ATOMS}
use Rattle.bal_base.specs.declared.text.Text.{Text}
use Rattle.type_model.specs.declared.answers.TypeLimit.{TypeLimit}
use Rattle.type_model.specs.declared.atoms.AtomDef.{AtomDef}
use Rattle.type_model.specs.declared.atoms.AtomDef.TheVariants.{Error as ErrorAtom}
use Rattle.type_model.specs.declared.basic.SemType.{SemType, Atom}
use Rattle.type_model.specs.Calls.{Asked, Without}
use Rattle.type_model.specs.Defined.{IsDefined}
use Rattle.type_model.specs.Inclusion.{HasExactly}
use Rattle.operations.specs.Kinds.{IsErrorOf}
use Rattle.operations.specs.Structures.{IsDetailOf}
use Rattle.pair_questions.specs.declared.pair.Pair.{Pair}
use Rattle.pair_questions.specs.Pairs.{pairs_of}
use Rattle.atom_questions.specs.declared.limits.QuestionLimit.{QuestionLimit}
use Rattle.atom_questions.specs.declared.limits.QuestionLimit.TheVariants.{Atoms, Types}
use Rattle.detail_questions.specs.inner.Cells.{only_text}

abbrev pub PairDefined : List AtomDef → Pair → Type 0
PairDefined env p = IsDefined env p.key.now × IsDefined env p.value.now

-- the key isn't written as a single string
abbrev pub no_text : Option Text → Bool
no_text (Some text) = false
no_text None = true

abbrev pub is_open : SemType → Bool
is_open key = no_text (only_text key)

abbrev pub count_open : List Pair → ℕ
count_open pairs = length (filter (λ p. is_open p.key.now) pairs)

-- the last of these atoms has just the errors with such details; there is one of details, and one for each open key
abbrev pub IsErrorGroup : List AtomDef → List Pair → List AtomDef → Type 0
IsErrorGroup old pairs defs =
    (front : List AtomDef) × (detail : SemType) × (defs ≡ front ++ ErrorAtom detail ∷ []) × (length front ≡ count_open pairs + 1)
    × HasExactly (old ++ defs) (Atom (length old + (count_open pairs + 1))) (IsErrorOf (IsDetailOf (old ++ defs) (pairs_of pairs)))

-- the atoms are as before, or there are these more
abbrev pub HasErrorsMore : List AtomDef → List Pair → List AtomDef → Type 0
HasErrorsMore old pairs new = (new ≡ old) ⊎ ((defs : List AtomDef) × IsErrorGroup old pairs defs × (new ≡ old ++ defs))

-- there would be too many atoms with these; or over the atoms with them it is too large a question whether the errors are in r
abbrev pub ErrorStops : (List AtomDef → Asked → TypeLimit → Type 0) → List AtomDef → List Pair → SemType → QuestionLimit → Type 0
ErrorStops passes old pairs r Atoms = MOST_ATOMS < length old + (count_open pairs + 2)
ErrorStops passes old pairs r (Types limit) =
    (defs : List AtomDef) × IsErrorGroup old pairs defs × passes (old ++ defs) (Without (Atom (length old + (count_open pairs + 1))) r) limit
