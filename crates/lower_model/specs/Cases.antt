-- Worked cases of the definitions, reasoned out by hand.
use Rattle.std.specs.Prelude.{◌≡◌, ℕ, pos, true, [], ◌∷◌, Some}
use Rattle.std.specs.Global.{Box}
use Rattle.bal_base.specs.declared.place.Place.{Place}
use Rattle.operations.specs.declared.operation.Constant.TheVariants.{Int}
use Rattle.operations.specs.declared.operation.Operation.TheVariants.{Const}
use Rattle.typed_tree.specs.declared.expr.TypedExpr.{TypedExpr, Implied, Trap}
use Rattle.typed_tree.specs.SharedTypes.{Shared}
use Rattle.typed_tree.specs.Units.{OfAnonymous}
use Rattle.stack_code.specs.declared.code.Code.{Code}
use Rattle.stack_code.specs.declared.instr.Instr.TheVariants as instr
use Rattle.stack_code.specs.Commands.{Do, GoTo, OpenTrap, CloseTrap}
use Rattle.stack_code.specs.Worked.{code_of}
use Rattle.lower_model.specs.Laying.{BodyAt}
use Rattle.lower_model.specs.Lowered.{ExprAt}
use Rattle.lower_model.specs.Making.{expr_made, unmade}

-- ---- trap 7

-- what is made: the landing has the label 0, and what is behind the trap the label 1
abbrev pub TrapIsMade : Type 0
TrapIsMade =
    (seven : Box TypedExpr) (type : Shared) (at : Place) → seven.value ≡ Implied (Int (pos 7)) type at →
    expr_made (Trap seven type at) unmade
    ≡ record { steps = OpenTrap 0 ∷ Do (Const (Int (pos 7))) ∷ CloseTrap ∷ GoTo 1 ∷ GoTo 1 ∷ []; labels = Some 4 ∷ Some 5 ∷ []; sound = true }

-- () => trap 7, where the trap lands at this place
abbrev pub trapping : ℕ → Code
trapping landing =
    code_of [] (instr.Tick ∷ instr.Trap landing ∷ instr.Const 0 ∷ instr.Untrap ∷ instr.Jump 6 ∷ instr.Jump 6 ∷ instr.Return ∷ []) []

abbrev pub TrapStands : Type 0
TrapStands =
    (seven : Box TypedExpr) (type : Shared) (at : Place) → seven.value ≡ Implied (Int (pos 7)) type at →
    BodyAt (trapping 5) (OfAnonymous (Trap seven type at)) 0

-- a trap that lands in its own reach stands for no trap
abbrev pub OwnReachIsRefused : Type 0
OwnReachIsRefused =
    (seven : Box TypedExpr) (type : Shared) (at : Place) → seven.value ≡ Implied (Int (pos 7)) type at →
    ¬ (ExprAt (trapping 2) (Trap seven type at) 1 6)
