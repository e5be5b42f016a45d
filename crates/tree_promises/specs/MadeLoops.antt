-- What is made of typed parts: loops over lists and ranges, and assignments with an operator to members.
use Rattle.std.specs.Prelude.{◌≡◌, ◌+◌, ℕ, Bool, true, List, [], ◌∷◌, None, Some, slice_get}
use Rattle.std.specs.Global.{Box, Vec}
use Rattle.bal_base.specs.declared.place.Place.{Place}
use Rattle.type_model.specs.declared.atoms.AtomDef.{AtomDef}
use Rattle.type_model.specs.declared.basic.SemType.{SemType}
use Rattle.type_model.specs.Inclusion.{HasExactly, Sub}
use Rattle.operations.specs.declared.library.LibraryCall.TheVariants.{ListLength}
use Rattle.operations.specs.declared.operation.Operation.TheVariants.{GetItem, Library}
use Rattle.operations.specs.Kinds.{IsBoolean, IsInteger}
use Rattle.operations.specs.Rows.{Surroundings}
use Rattle.operations.specs.Typing.{OpTyped}
use Rattle.typed_tree.specs.declared.expr.TypedExpr.{TypedExpr}
use Rattle.typed_tree.specs.declared.form.Operator.{Operator}
use Rattle.typed_tree.specs.declared.form.Read.{Read}
use Rattle.typed_tree.specs.declared.stmt.RangeEnd.TheVariants.{Excluded, Included}
use Rattle.typed_tree.specs.declared.stmt.Source.TheVariants as source
use Rattle.typed_tree.specs.declared.stmt.TypedStmt.{TypedStmt, out-TypedStmt}
use Rattle.typed_tree.specs.declared.stmt.TypedStmt.TheOpen as layer
use Rattle.typed_tree.specs.declared.stmt.UpdateTarget.TheVariants as target
use Rattle.typed_tree.specs.SharedTypes.{Shared}
use Rattle.held_operations.specs.Constructs.{operator_operations}
use Rattle.eval_model.specs.Statements.{reads_member, sets_member}
use Rattle.tree_promises.specs.Made.{LeadsTo, sem}
use Rattle.tree_promises.specs.MadeStmts.{AreTypedStmts, IsTypedStmt}
use Rattle.tree_promises.specs.Types.{IsTypedExpr}

module _ (env : List AtomDef) (place : Surroundings) where
  -- what the slot keeps
  abbrev pub Keeps : ℕ → SemType → Type 0
  Keeps slot t = slice_get place.slots slot ≡ Some t

  -- the variable of a loop takes what is of this type
  abbrev pub Takes : ℕ → SemType → Type 0
  Takes slot t = (declared : SemType) × Keeps slot declared × Sub env t declared

  abbrev pub KeepsInt : ℕ → SemType → Type 0
  KeepsInt slot int = Keeps slot int × HasExactly env int IsInteger

  -- `truth`: a type of the booleans
  pub record MadeLoopIsTyped (truth : SemType) (inside : Bool) (s : TypedStmt) (at : Place) : Type 0 where
    -- the list is kept, and behind it the index of the current item
    pub over_list : (slot own : ℕ) (list : Box TypedExpr) (body : Vec TypedStmt) (t int item : SemType) → HasExactly env truth IsBoolean
        → out-TypedStmt s ≡ layer.Foreach slot (source.List own list) body at → IsTypedExpr env place list.value
        → Keeps own t → Sub env (sem list.value) t → KeepsInt (own + 1) int → OpTyped env place (Library ListLength None 1) (t ∷ []) (Some int)
        → OpTyped env place GetItem (t ∷ int ∷ []) (Some item) → Takes slot item → AreTypedStmts env place true body.items → IsTypedStmt env place inside s
    -- the next int is kept, and behind it the last one
    pub below_end : (slot own : ℕ) (from to : Box TypedExpr) (body : Vec TypedStmt) (next last : SemType) → HasExactly env truth IsBoolean
        → out-TypedStmt s ≡ layer.Foreach slot (source.Range own Excluded from to) body at → IsTypedExpr env place from.value → IsTypedExpr env place to.value
        → KeepsInt own next → Sub env (sem from.value) next → KeepsInt (own + 1) last → Sub env (sem to.value) last → Takes slot next
        → AreTypedStmts env place true body.items → IsTypedStmt env place inside s
    -- and where the end is included whether one is left
    pub through_end : (slot own : ℕ) (from to : Box TypedExpr) (body : Vec TypedStmt) (next last : SemType) → HasExactly env truth IsBoolean
        → out-TypedStmt s ≡ layer.Foreach slot (source.Range own Included from to) body at → IsTypedExpr env place from.value → IsTypedExpr env place to.value
        → KeepsInt own next → Sub env (sem from.value) next → KeepsInt (own + 1) last → Sub env (sem to.value) last → Keeps (own + 2) truth
        → Takes slot next → AreTypedStmts env place true body.items → IsTypedStmt env place inside s
    -- the container and the key are kept; what is read and the value are the operands, and what the operator gives is set
    pub member_updated : (own : ℕ) (how : Read) (container key : Box TypedExpr) (t : Shared) (op : Operator) (value : Box TypedExpr) (held named read r : SemType)
        → out-TypedStmt s ≡ layer.Update (target.Member own how container key t) op value at
        → IsTypedExpr env place container.value → IsTypedExpr env place key.value → IsTypedExpr env place value.value
        → Keeps own held → Sub env (sem container.value) held → Keeps (own + 1) named → Sub env (sem key.value) named
        → LeadsTo env place (reads_member how own) [] read → LeadsTo env place (operator_operations op) (read ∷ sem value.value ∷ []) r
        → OpTyped env place (sets_member how) (held ∷ named ∷ r ∷ []) None → IsTypedStmt env place inside s
