-- Pairs of a key and a value, and which questions about types a need of them leads to.
use Rattle.std.specs.Prelude.{◌≡◌, ◌⊎◌, List, Contains, map}
use Rattle.bal_base.specs.declared.text.Text.{Text}
use Rattle.type_model.specs.declared.atoms.AtomDef.{AtomDef}
use Rattle.type_model.specs.declared.basic.BasicSet.TheVariants.{StringOne}
use Rattle.type_model.specs.declared.basic.SemType.{SemType, Basic}
use Rattle.type_model.specs.Calls.{Asked, Without}
use Rattle.type_model.specs.Defined.{IsDefined}
use Rattle.pair_questions.specs.declared.pair.Pair.{Pair}

-- the pairs of a need
abbrev pub pair_of : Pair → SemType × SemType
pair_of p = (p.key.now, p.value.now)

abbrev pub pairs_of : List Pair → List (SemType × SemType)
pairs_of pairs = map pair_of pairs

abbrev pub KeyDefined : List AtomDef → Pair → Type 0
KeyDefined env p = IsDefined env p.key.now

-- ---- questions

-- whether each of the two is below the other
abbrev pub AsksBoth : SemType → SemType → Asked → Type 0
AsksBoth s t asked = (asked ≡ Without s t) ⊎ (asked ≡ Without t s)

-- whether the type is that of the string alone
abbrev pub AsksSingle : SemType → Text → Asked → Type 0
AsksSingle t name asked = AsksBoth t (Basic (StringOne name)) asked

-- whether some key is
abbrev pub AsksName : List Pair → Text → Asked → Type 0
AsksName pairs name asked = (p : Pair) × Contains pairs p × AsksSingle p.key.now name asked
