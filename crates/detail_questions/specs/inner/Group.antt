-- The definitions of details, of mappings that lack keys, and of errors.
use Rattle.std.specs.Prelude.{◌≡◌, ◌+◌, ◌<◌, ◌++◌, ℕ, zero, suc, true, false, List, [], ◌∷◌, filter, length}
use Rattle.std.specs.List.{AllZip}
use Rattle.bal_base.specs.declared.limits.TheConstants.{MOST_ATOMS}
use Rattle.bal_base.specs.declared.text.Text.{Text}
use Rattle.type_model.specs.declared.answers.Answer.{Answer}
use Rattle.type_model.specs.declared.answers.TypeLimit.{TypeLimit}
use Rattle.type_model.specs.declared.atoms.AtomDef.{AtomDef}
use Rattle.type_model.specs.declared.atoms.AtomDef.TheVariants.{Error as ErrorAtom}
use Rattle.type_model.specs.declared.basic.SemType.{SemType, Atom, Not'}
use Rattle.type_model.specs.Calls.{Asked, KeepsTypes, Without}
use Rattle.type_model.specs.Inclusion.{AnswersSub}
use Rattle.code_verifier.specs.KindSets.{IsBoth}
use Rattle.pair_questions.specs.declared.pair.Pair.{Pair}
use Rattle.atom_questions.specs.declared.limits.QuestionLimit.{QuestionLimit}
use Rattle.atom_questions.specs.declared.limits.QuestionLimit.TheVariants.{Atoms, Types}
use Rattle.detail_questions.specs.Details.{is_open}
use Rattle.detail_questions.specs.inner.Cells.{AnyBelow, IsLackingAt, IsTable, IsValueAt, ValuesBelow, always_lacks, may_lack}
use Rattle.detail_questions.specs.inner.Names.{with_keys}

-- ---- mappings that have none of a pair's keys

abbrev pub IsLack : List Text → Pair → AtomDef → Type 0
IsLack names p def = IsTable (IsLackingAt p.key.now) AnyBelow always_lacks names def

abbrev pub HasLack : List Text → SemType → List AtomDef → List AtomDef → Type 0
HasLack names key old new =
    (is_open key ≡ false → new ≡ old) × (is_open key ≡ true → (def : AtomDef) × IsTable (IsLackingAt key) AnyBelow always_lacks names def × (new ≡ old ++ def ∷ []))

-- ---- details

abbrev pub IsNotAtom : ℕ → SemType → Type 0
IsNotAtom atom (Not' _ t) = t ≡ Atom atom
IsNotAtom atom _ = ⊥

-- in the first atom, and in none of so many behind it
abbrev pub IsDetailType : ℕ → ℕ → SemType → Type 0
IsDetailType first zero t = t ≡ Atom first
IsDetailType first (suc n) t = IsBoth (IsDetailType first n) (IsNotAtom (first + suc n)) t

-- ---- the group

abbrev pub IsGroup : ℕ → List Pair → List AtomDef → Type 0
IsGroup first pairs defs =
    (details : AtomDef) × (lacking : List AtomDef) × (detail : SemType) × IsTable (IsValueAt pairs) (ValuesBelow pairs) (may_lack pairs) (with_keys pairs) details
    × AllZip (IsLack (with_keys pairs)) (filter (λ p. is_open p.key.now) pairs) lacking × IsDetailType first (length lacking) detail
    × (defs ≡ (details ∷ lacking) ++ ErrorAtom detail ∷ [])

-- ---- the question

-- with the atoms more the types are kept, and it is answered whether the one is below the type
abbrev pub IsAnsweredOver : List AtomDef → List AtomDef → ℕ → SemType → Answer → Type 0
IsAnsweredOver old defs last r answer = KeepsTypes old (old ++ defs) × AnswersSub (old ++ defs) (Atom last) r answer

abbrev pub GroupStops : (List AtomDef → Asked → TypeLimit → Type 0) → List AtomDef → List AtomDef → ℕ → SemType → QuestionLimit → Type 0
GroupStops passes old defs last r Atoms = MOST_ATOMS < length old + length defs
GroupStops passes old defs last r (Types limit) = passes (old ++ defs) (Without (Atom last) r) limit
