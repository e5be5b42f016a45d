-- A package whose variables are read as they are declared: no read is narrowed, and what a construct keeps in a slot of its own may be
-- anything. Behind the statements of a body whose end isn't reached stands one that can't be done.
use Rattle.std.specs.Prelude.{◌≡◌, ◌++◌, Bool, true, false, List, [], ◌∷◌, Some, None, IsFalse}
use Rattle.std.specs.Global.{Box, Global}
use Rattle.std.specs.List.{AllZip}
use Rattle.std.specs.declared.vec.Vec.{Vec}
use Rattle.bal_base.specs.declared.place.Place.{Place}
use Rattle.bal_base.specs.declared.shape.Shape.{Shape}
use Rattle.type_model.specs.declared.atoms.AtomDef.{AtomDef}
use Rattle.type_model.specs.declared.basic.SemType.{SemType}
use Rattle.type_model.specs.Membership.{In}
use Rattle.operations.specs.declared.operation.Constant.TheVariants as constant
use Rattle.typed_tree.specs.declared.expr.AnonymousFunction.{AnonymousFunction}
use Rattle.typed_tree.specs.declared.expr.TypedExpr.{TypedExpr, Strict, Strict', Implied, Local as Variable, And, And', Or, Or', Conditional, Conditional', Elvis, Elvis', Check, Check', Trap, Trap', Function, Function', Parens, Parens', Row_of-TypedExpr, end_of-TypedExpr, more_of-TypedExpr}
use Rattle.typed_tree.specs.declared.package.Initial.{Initial}
use Rattle.typed_tree.specs.declared.package.Initialiser.{Initialiser}
use Rattle.typed_tree.specs.declared.package.TypedPackage.{TypedPackage}
use Rattle.typed_tree.specs.declared.stmt.Source.{Source}
use Rattle.typed_tree.specs.declared.stmt.Source.TheVariants.{Range, List as ListSource}
use Rattle.typed_tree.specs.declared.stmt.TypedClause.{TypedClause, out-TypedClause}
use Rattle.typed_tree.specs.declared.stmt.TypedStmt.{TypedStmt, out-TypedStmt, Set, Perform, Update, If, If', While, While', Foreach, Foreach', Match, Match', Return, Block, Block' as BlockStmt, Break, Continue, Row_of-TypedStmt, end_of-TypedStmt, more_of-TypedStmt, Row_of-TypedClause, end_of-TypedClause, more_of-TypedClause}
use Rattle.typed_tree.specs.declared.stmt.TypedStmt.TheOpen as layer
use Rattle.typed_tree.specs.declared.stmt.UpdateTarget.{UpdateTarget}
use Rattle.typed_tree.specs.declared.stmt.UpdateTarget.TheVariants as target
use Rattle.typed_tree.specs.declared.unit.Captured.{Captured}
use Rattle.typed_tree.specs.declared.unit.TypedBody.{TypedBody}
use Rattle.typed_tree.specs.declared.unit.TypedBody.TheVariants.{Block as BlockBody, Expr as ValueBody}
use Rattle.typed_tree.specs.declared.unit.TypedFunction.{TypedFunction}
use Rattle.typed_tree.specs.declared.unit.TypedWorker.{TypedWorker}
use Rattle.typed_tree.specs.SharedTypes.{Shared, sem_of}

-- each shape is in the type
abbrev pub IsAnything : SemType → Type 0
IsAnything t = (atoms : List AtomDef) (s : Shape) → In atoms s t

-- ---- reads: the second is the first, but that it reads variables as declared

-- a variable is captured as it is declared
abbrev pub IsBareCapture : Captured → Captured → Type 0
IsBareCapture c d = (d.slot ≡ c.slot) × IsFalse d.narrowed

pub record IsBareFunction (f g : AnonymousFunction) : Type 0 where
  pub isolated : g.isolated ≡ f.isolated
  pub unit : g.unit ≡ f.unit
  pub args : g.args ≡ f.args
  pub captured : AllZip IsBareCapture f.captured g.captured

abbrev mutual
  pub IsBare : TypedExpr → TypedExpr → Type 0
  IsBare (Strict' form _ operands type at) f = (es : Vec TypedExpr Global) × AreBare operands es.items × (f ≡ Strict form es type at)
  IsBare (Implied value type at) f = f ≡ Implied value type at
  IsBare (Variable slot narrowed type at) f = f ≡ Variable slot false type at
  IsBare (And' _ left _ right type at) f = (l r : Box TypedExpr) × IsBare left l.value × IsBare right r.value × (f ≡ And l r type at)
  IsBare (Or' _ left _ right type at) f = (l r : Box TypedExpr) × IsBare left l.value × IsBare right r.value × (f ≡ Or l r type at)
  IsBare (Conditional' _ condition _ middle _ last type at) f =
      (c m l : Box TypedExpr) × IsBare condition c.value × IsBare middle m.value × IsBare last l.value × (f ≡ Conditional c m l type at)
  -- what it keeps may be anything
  IsBare (Elvis' own _ left _ right type at) f =
      (l r : Box TypedExpr) × (t : Shared) × IsBare left l.value × IsBare right r.value × IsAnything (sem_of t) × (f ≡ Elvis own l r t at)
  IsBare (Check' panics own _ operand type at) f =
      (o : Box TypedExpr) × (t : Shared) × IsBare operand o.value × IsAnything (sem_of t) × (f ≡ Check panics own o t at)
  IsBare (Trap' _ operand type at) f = (o : Box TypedExpr) × IsBare operand o.value × (f ≡ Trap o type at)
  IsBare (Function' function _ value type at) f =
      (g : Box AnonymousFunction) × (v : Box TypedExpr) × IsBareFunction function.value g.value × IsBare value v.value × (f ≡ Function g v type at)
  IsBare (Parens' _ inner type at) f = (i : Box TypedExpr) × IsBare inner i.value × (f ≡ Parens i type at)

  pub AreBare : {n : _} → Row_of-TypedExpr n → List TypedExpr → Type 0
  AreBare end_of-TypedExpr fs = fs ≡ []
  AreBare (more_of-TypedExpr e rest) fs = (f : TypedExpr) × (gs : List TypedExpr) × IsBare e f × AreBare rest gs × (fs ≡ f ∷ gs)

abbrev pub IsBareTarget : UpdateTarget → UpdateTarget → Type 0
IsBareTarget (target.Local slot narrowed type) u = u ≡ target.Local slot false type
IsBareTarget (target.Variable m) u = u ≡ target.Variable m
IsBareTarget (target.Member own how container key type) u =
    (c k : Box TypedExpr) × IsBare container.value c.value × IsBare key.value k.value × (u ≡ target.Member own how c k type)

abbrev pub IsBareSource : Source → Source → Type 0
IsBareSource (Range own end from to) r = (f t : Box TypedExpr) × IsBare from.value f.value × IsBare to.value t.value × (r ≡ Range own end f t)
IsBareSource (ListSource own list) r = (l : Box TypedExpr) × IsBare list.value l.value × (r ≡ ListSource own l)

abbrev mutual
  pub IsBareStmt : TypedStmt → TypedStmt → Type 0
  IsBareStmt (Set slot value at) s = (v : Box TypedExpr) × IsBare value.value v.value × (s ≡ Set slot v at)
  IsBareStmt (Perform form operands at) s = (es : Vec TypedExpr Global) × AllZip IsBare operands.items es.items × (s ≡ Perform form es at)
  IsBareStmt (Update t op value at) s =
      (u : UpdateTarget) × (v : Box TypedExpr) × IsBareTarget t u × IsBare value.value v.value × (s ≡ Update u op v at)
  IsBareStmt (If' condition _ first _ second at) s =
      (c : Box TypedExpr) × (f g : Vec TypedStmt Global) × IsBare condition.value c.value × AreBareStmts first f.items × AreBareStmts second g.items × (s ≡ If c f g at)
  IsBareStmt (While' condition _ body at) s =
      (c : Box TypedExpr) × (b : Vec TypedStmt Global) × IsBare condition.value c.value × AreBareStmts body b.items × (s ≡ While c b at)
  IsBareStmt (Foreach' slot source _ body at) s =
      (r : Source) × (b : Vec TypedStmt Global) × IsBareSource source r × AreBareStmts body b.items × (s ≡ Foreach slot r b at)
  IsBareStmt (Match' own subject _ clauses at) s =
      (e : Box TypedExpr) × (cs : Vec TypedClause Global) × IsBare subject.value e.value × AreBareClauses clauses cs.items × (s ≡ Match own e cs at)
  IsBareStmt (Return None at) s = s ≡ Return None at
  IsBareStmt (Return (Some value) at) s = (v : Box TypedExpr) × IsBare value.value v.value × (s ≡ Return (Some v) at)
  IsBareStmt (BlockStmt _ stmts at) s = (b : Vec TypedStmt Global) × AreBareStmts stmts b.items × (s ≡ Block b at)
  IsBareStmt (Break at) s = s ≡ Break at
  IsBareStmt (Continue at) s = s ≡ Continue at

  pub AreBareStmts : {n : _} → Row_of-TypedStmt n → List TypedStmt → Type 0
  AreBareStmts end_of-TypedStmt us = us ≡ []
  AreBareStmts (more_of-TypedStmt s rest) us = (u : TypedStmt) × (vs : List TypedStmt) × IsBareStmt s u × AreBareStmts rest vs × (us ≡ u ∷ vs)

  pub AreBareClauses : {n : _} → Row_of-TypedClause n → List TypedClause → Type 0
  AreBareClauses end_of-TypedClause ds = ds ≡ []
  AreBareClauses (more_of-TypedClause patterns _ stmts at rest) ds =
      (d : TypedClause) × (ls : List TypedClause) × ((out-TypedClause d).patterns ≡ patterns) × AreBareStmts stmts (out-TypedClause d).stmts.items × AreBareClauses rest ls × (ds ≡ d ∷ ls)

-- ---- ends

-- the statement can't be done: it goes on by nil, which is no boolean
pub record IsNever (s : TypedStmt) : Type 0 where
  pub condition : Box TypedExpr
  pub first : Vec TypedStmt Global
  pub second : Vec TypedStmt Global
  pub type : Shared
  pub at : Place
  pub is : out-TypedStmt s ≡ layer.If condition first second at
  pub nil : condition.value ≡ Implied constant.Nil type at
  pub nothing : first.items ≡ []
  pub as_well : second.items ≡ []

-- what stands behind the statements of a body: nothing if its end is reached, and else a statement that can't be done
abbrev pub IsEnd : Bool → List TypedStmt → Type 0
IsEnd true end = end ≡ []
IsEnd false end = (s : TypedStmt) × (end ≡ s ∷ []) × IsNever s

-- ---- packages: the second is the first, with its variables read as declared

abbrev pub AreDeclared : Bool → List TypedStmt → List TypedStmt → Type 0
AreDeclared ends old new = (us end : List TypedStmt) × AllZip IsBareStmt old us × IsEnd ends end × (new ≡ us ++ end)

pub record IsDeclaredWorker (w v : TypedWorker) : Type 0 where
  pub unit : v.unit ≡ w.unit
  pub captured : v.captured ≡ w.captured
  pub ends : v.ends ≡ w.ends
  pub stmts : AreDeclared w.ends w.stmts.items v.stmts.items

abbrev pub IsDeclaredBody : TypedBody → TypedBody → Type 0
IsDeclaredBody (BlockBody initial workers rest ends close) (BlockBody initial' workers' rest' ends' close') =
    AllZip IsBareStmt initial.items initial'.items × AllZip IsDeclaredWorker workers.items workers'.items
    × AreDeclared ends rest.items rest'.items × (ends' ≡ ends)
IsDeclaredBody (ValueBody value) (ValueBody value') = IsBare value.value value'.value
IsDeclaredBody (BlockBody initial workers rest ends close) (ValueBody value) = ⊥
IsDeclaredBody (ValueBody value) (BlockBody initial workers rest ends close) = ⊥

abbrev pub IsDeclaredFunction : TypedFunction → TypedFunction → Type 0
IsDeclaredFunction f g = (g.unit ≡ f.unit) × IsDeclaredBody f.body g.body

abbrev pub IsDeclaredInitial : Initial → Initial → Type 0
IsDeclaredInitial i j = (j.variable ≡ i.variable) × IsBare i.value.value j.value.value

abbrev pub IsDeclaredInitialiser : Initialiser → Initialiser → Type 0
IsDeclaredInitialiser i j = (j.unit ≡ i.unit) × AllZip IsDeclaredInitial i.values.items j.values.items

pub record IsDeclared (p q : TypedPackage) : Type 0 where
  pub functions : AllZip IsDeclaredFunction p.functions.items q.functions.items
  pub variables : q.variables ≡ p.variables
  pub initialisers : AllZip IsDeclaredInitialiser p.initialisers.items q.initialisers.items
  pub start : q.start ≡ p.start
  pub words : q.words ≡ p.words
  pub units : q.units ≡ p.units
