-- What is said of two types at once.
use Rattle.std.specs.Prelude.{◌⊎◌, Bool, true, false, List}
use Rattle.type_model.specs.declared.answers.Answer.{Answer}
use Rattle.type_model.specs.declared.answers.Answer.TheVariants.{Yes, No}
use Rattle.type_model.specs.declared.atoms.AtomDef.{AtomDef}
use Rattle.type_model.specs.declared.basic.SemType.{SemType}
use Rattle.type_model.specs.Inclusion.{IsShapeOf, Sub}
use Rattle.type_model.specs.Membership.{In}
use Rattle.code_verifier.specs.Asked.{Tells}

-- both are below the last type, or a shape of one of them isn't in it
abbrev pub TellsBelow : List AtomDef → SemType → SemType → SemType → Answer → Type 0
TellsBelow env a b t answer =
    Tells (Sub env a t × Sub env b t) (λ x. (IsShapeOf env a x ⊎ IsShapeOf env b x) × (¬ (In env x t))) answer

abbrev pub is_yes : Answer → Bool
is_yes Yes = true
is_yes (No x) = false
