-- What loops over lists and ranges, and assignments with an operator, leave of the flow.
use Rattle.std.specs.Prelude.{◌≡◌, ◌+◌, ℕ, Bool, List, None, Option, Some, slice_get, ⊤}
use Rattle.std.specs.Global.{Box, Vec}
use Rattle.bal_base.specs.declared.place.Place.{Place}
use Rattle.type_model.specs.declared.atoms.AtomDef.{AtomDef}
use Rattle.type_model.specs.declared.basic.SemType.{SemType}
use Rattle.typed_tree.specs.declared.expr.TypedExpr.{TypedExpr}
use Rattle.typed_tree.specs.declared.form.Operator.{Operator}
use Rattle.typed_tree.specs.declared.form.Read.{Read}
use Rattle.typed_tree.specs.declared.stmt.RangeEnd.TheVariants.{Excluded, Included}
use Rattle.typed_tree.specs.declared.stmt.Source.TheVariants as source
use Rattle.typed_tree.specs.declared.stmt.TypedStmt.{TypedStmt, out-TypedStmt}
use Rattle.typed_tree.specs.declared.stmt.TypedStmt.TheOpen as layer
use Rattle.typed_tree.specs.declared.stmt.UpdateTarget.TheVariants as target
use Rattle.typed_tree.specs.SharedTypes.{Shared, sem_of}
use Rattle.tree_promises.specs.Flows.{Around}
use Rattle.tree_promises.specs.Known.{Flow, FlowBelow, Has, set_in}
use Rattle.tree_promises.specs.MadeFlows.{IsKnown}
use Rattle.tree_promises.specs.MadeStmtFlows.{BlockLeaves, LoopFlow, StmtLeaves, Value}

-- the slot holds a value
abbrev pub Holds : ℕ → Flow → Type 0
Holds slot None = ⊤
Holds slot (Some ks) = Has (λ s. ⊤) slot ks

-- the slot is of this declared type
abbrev pub IsDeclared : Around → ℕ → SemType → Type 0
IsDeclared around slot t = slice_get around.slots slot ≡ Some t

module _ (env : List AtomDef) (around : Around) (loop : Option LoopFlow) where
  pub record MadeLoopKeepsFlow (s : TypedStmt) (at : Place) : Type 0 where
    -- the list and the index are kept; each turn raises the index, and takes an item
    pub over_list : (slot own : ℕ) (list : Box TypedExpr) (body : Vec TypedStmt) (t int item : SemType) (f g i h : Flow) (l : LoopFlow)
        → out-TypedStmt s ≡ layer.Foreach slot (source.List own list) body at → Value env around list.value f g
        → IsDeclared around own t → IsDeclared around (own + 1) int → IsDeclared around slot item → FlowBelow env (set_in (own + 1) int (set_in own t g)) l.head
        → Holds own l.head → Holds (own + 1) l.head → Holds own (set_in (own + 1) int l.head) → Holds (own + 1) (set_in (own + 1) int l.head)
        → BlockLeaves env around (Some l) body.items (set_in slot item (set_in (own + 1) int l.head)) i → FlowBelow env i l.head
        → FlowBelow env (set_in (own + 1) int l.head) l.exit → FlowBelow env l.exit h → StmtLeaves env around loop s f h
    -- the next int and the last one are kept; each turn takes the next, and raises it
    pub below_end : (slot own : ℕ) (from to : Box TypedExpr) (body : Vec TypedStmt) (next last item : SemType) (f g j i h : Flow) (l : LoopFlow)
        → out-TypedStmt s ≡ layer.Foreach slot (source.Range own Excluded from to) body at → Value env around from.value f g
        → Value env around to.value (set_in own next g) j → IsDeclared around own next → IsDeclared around (own + 1) last → IsDeclared around slot item
        → FlowBelow env (set_in (own + 1) last j) l.head → Holds own l.head → Holds (own + 1) l.head → Holds own (set_in slot item l.head)
        → BlockLeaves env around (Some l) body.items (set_in own next (set_in slot item l.head)) i → FlowBelow env i l.head
        → FlowBelow env l.head l.exit → FlowBelow env l.exit h → StmtLeaves env around loop s f h
    -- and where the end is included whether one is left, and the last one isn't raised
    pub through_end : (slot own : ℕ) (from to : Box TypedExpr) (body : Vec TypedStmt) (next last left item : SemType) (f g j u i h : Flow) (l : LoopFlow)
        → out-TypedStmt s ≡ layer.Foreach slot (source.Range own Included from to) body at → Value env around from.value f g
        → Value env around to.value (set_in own next g) j → IsDeclared around own next → IsDeclared around (own + 1) last → IsDeclared around (own + 2) left → IsDeclared around slot item
        → Holds own (set_in (own + 1) last j) → Holds (own + 1) (set_in (own + 1) last j)
        → FlowBelow env (set_in (own + 2) left (set_in (own + 1) last j)) l.head → Holds (own + 2) l.head
        → Holds own l.head → Holds own (set_in slot item l.head) → Holds (own + 1) (set_in slot item l.head)
        → Holds own (set_in (own + 2) left (set_in slot item l.head)) → Holds (own + 2) (set_in (own + 2) left (set_in slot item l.head))
        → FlowBelow env (set_in own next (set_in (own + 2) left (set_in slot item l.head))) u
        → FlowBelow env (set_in (own + 2) left (set_in slot item l.head)) u → BlockLeaves env around (Some l) body.items u i → FlowBelow env i l.head
        → FlowBelow env l.head l.exit → FlowBelow env l.exit h → StmtLeaves env around loop s f h

  pub record MadeUpdateKeepsFlow (s : TypedStmt) (at : Place) : Type 0 where
    pub of_local : (slot : ℕ) (narrow : Bool) (t : Shared) (op : Operator) (value : Box TypedExpr) (declared : SemType) (f g h : Flow)
        → out-TypedStmt s ≡ layer.Update (target.Local slot narrow t) op value at → IsKnown env around slot narrow (sem_of t) f
        → Value env around value.value f g → IsDeclared around slot declared → FlowBelow env (set_in slot declared g) h → StmtLeaves env around loop s f h
    pub of_variable : (x : ℕ) (op : Operator) (value : Box TypedExpr) (f g h : Flow) → out-TypedStmt s ≡ layer.Update (target.Variable x) op value at
        → Value env around value.value f g → FlowBelow env g h → StmtLeaves env around loop s f h
    -- the container and the key are kept
    pub of_member : (own : ℕ) (how : Read) (container key : Box TypedExpr) (t : Shared) (op : Operator) (value : Box TypedExpr) (held named : SemType)
        (f g j k h : Flow) → out-TypedStmt s ≡ layer.Update (target.Member own how container key t) op value at
        → Value env around container.value f g → Value env around key.value (set_in own held g) j → IsDeclared around own held → IsDeclared around (own + 1) named
        → Holds own (set_in (own + 1) named j) → Holds (own + 1) (set_in (own + 1) named j)
        → Value env around value.value (set_in (own + 1) named j) k → FlowBelow env k h → StmtLeaves env around loop s f h
