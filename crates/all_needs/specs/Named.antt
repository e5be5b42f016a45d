-- What it means that a need is met, where what names stand for is a part of the state that no need changes.
use Rattle.std.specs.Prelude.{◌≡◌, List}
use Rattle.checks.specs.Checks.{Check}
use Rattle.descriptors.specs.declared.names.Names.{Names}
use Rattle.needs.specs.Needs.{Going}
use Rattle.type_model.specs.declared.answers.TypeLimit.{TypeLimit}
use Rattle.type_model.specs.declared.atoms.AtomDef.{AtomDef}
use Rattle.type_model.specs.Calls.{Asked}
use Rattle.expr_needs.specs.Needs.{Need}
use Rattle.check_words.specs.Meets.{meets}
use Rattle.check_words.specs.State.{State}
use Rattle.package_checks.specs.Checked.{standing}
use Rattle.check_work.specs.Views.{Holds, going}
use Rattle.check_work.specs.declared.work.Work.{Work}

-- a check that looks at names, which stay
unfoldable pub named : {A : Type 0} → (Names → Check State A) → Check (Names × State) A
named check old o new = (new.0 ≡ old.0) × check old.0 old.1 o new.1

abbrev pub with_names : Names → Going State → Going (Names × State)
with_names names g = ((names, g.0), g.1)

-- what a checker is at, over these atoms and names
unfoldable pub going_of : List AtomDef → Names → Work → Going (Names × State)
going_of env names w = with_names names (going env w)

-- what holds of it between any two needs
unfoldable pub stands_over : List AtomDef → Names → Work → Type 0
stands_over env names w = Holds env names w

-- what it means that a need is met, which leaves what is at hand so that each of its types names atoms that are there, and so does what names
-- stand for
unfoldable pub meaning_of : (List AtomDef → Asked → TypeLimit → Type 0) → Need → Check (Names × State) (Unit {0})
meaning_of passes need = named (λ names. standing names (meets passes names) need)
