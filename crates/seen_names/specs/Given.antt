-- Names as expressions: what a call makes of one, and what becomes of the state.
use Rattle.std.specs.Prelude.{◌≡◌, ◌++◌, ℕ, [], ◌∷◌, None, Result, Ok, Err, ⊤}
use Rattle.bal_base.specs.declared.fault.Fault.{Fault}
use Rattle.bal_base.specs.declared.place.Place.{Place}
use Rattle.bal_base.specs.declared.stop.Stop.{Stop}
use Rattle.checks.specs.Checks.{Comes}
use Rattle.descriptors.specs.Steps.{MeaningBelow}
use Rattle.flow_narrowing.specs.Flows.{VariableBelow}
use Rattle.type_model.specs.declared.basic.Ty.{Ty}
use Rattle.typed_tree.specs.declared.expr.TypedExpr.{TypedExpr}
use Rattle.typed_tree.specs.declared.form.StrictForm.{StrictForm}
use Rattle.typed_tree.specs.SharedTypes.{Shared}
use Rattle.typed_tree.specs.Views.{IsStrict}
use Rattle.check_words.specs.Seen.{Seen, SeenConstant, SeenLibrary, SeenMeaning, SeenNothing, SeenVariable, SeenWorker}
use Rattle.check_words.specs.State.{State}
use Rattle.check_words.specs.Words.{Step}

-- ---- what is made

abbrev pub ended : Result TypedExpr (Stop Fault) → Result (Unit {0}) (Stop Fault)
ended (Ok e) = Ok tt
ended (Err stop) = Err stop

-- a part more, which says nothing of variables
abbrev pub with_part : State → Result TypedExpr (Stop Fault) → State
with_part s (Ok e) = record s { found = s.found ++ e ∷ []; ways = None }
with_part s (Err stop) = s

-- in every state the check comes to this part behind the others, or to this stop
unfoldable pub Puts : Step → Result TypedExpr (Stop Fault) → Type 0
Puts check r = (s : State) → Comes check s (ended r) (with_part s r)

-- an expression of this form without operands, of this type
pub record IsSole (form : StrictForm) (ty : Ty) (at : Place) (e : TypedExpr) : Type 0 where
  pub type : Shared
  pub is : type.value ≡ ty
  pub strict : IsStrict form [] type at e

-- ---- which atoms it names

abbrev pub SeenBelow : ℕ → Seen → Type 0
SeenBelow n (SeenVariable v) = VariableBelow n v
SeenBelow n (SeenWorker w) = ⊤
SeenBelow n (SeenConstant c) = ⊤
SeenBelow n (SeenLibrary r) = ⊤
SeenBelow n (SeenMeaning m) = MeaningBelow n m
SeenBelow n (SeenNothing code) = ⊤
