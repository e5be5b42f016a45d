-- The laws of lowering.
use Rattle.std.specs.Prelude.{ℕ, List}
use Rattle.type_model.specs.declared.atoms.AtomDef.{AtomDef}
use Rattle.typed_tree.specs.declared.package.TypedPackage.{TypedPackage}
use Rattle.value_model.specs.declared.filler.Filler.{Filler}
use Rattle.value_model.specs.Meaning.{Answers}
use Rattle.machine_model.specs.Following.{FramesFollow}
use Rattle.eval_model.specs.Narrowed.{IsFine}
use Rattle.eval_model.specs.Trees.{facts_of, trees}
use Rattle.stack_code.specs.declared.code.Code.{Code}
use Rattle.stack_code.specs.CodeMachine.{codes}
use Rattle.lower_model.specs.Following.{Follows}
use Rattle.lower_model.specs.Whole.{IsLowered}

-- each frame of a package is followed by one of its code, where its narrowed variables hold values of their narrower types
abbrev pub LoweredFramesFollow : Answers → Type 0
LoweredFramesFollow natives =
    (atoms : List AtomDef) (fillers : ℕ → List Filler) (p : TypedPackage) (code : Code) → IsLowered atoms p code →
    FramesFollow natives (trees atoms fillers p) (codes fillers code) (Follows code) (IsFine (facts_of atoms fillers p))
