-- States of two runs that correspond: the same, but for types that do.
use Rattle.std.specs.Prelude.{◌≡◌, Result, Ok, Err, ⊤}
use Rattle.std.specs.List.{AllZip}
use Rattle.bal_base.specs.declared.fault.Fault.{Fault}
use Rattle.checks.specs.Agreement.{SameFault}
use Rattle.flow_narrowing.specs.declared.flow.Flow.{Flow}
use Rattle.flow_narrowing.specs.declared.flow.Variable.{Variable}
use Rattle.type_model.specs.declared.basic.Ty.{Ty}
use Rattle.typed_tree.specs.declared.expr.TypedExpr.{TypedExpr}
use Rattle.typed_tree.specs.declared.stmt.TypedClause.{TypedClause}
use Rattle.typed_tree.specs.declared.stmt.TypedStmt.{TypedStmt}
use Rattle.typed_tree.specs.declared.unit.Captured.{Captured}
use Rattle.typed_tree.specs.Exprs.{type_of}
use Rattle.typed_tree.specs.SharedTypes.{Shared}
use Rattle.check_words.specs.Sharing.{SameOption}
use Rattle.check_words.specs.State.{BlockAtWork, CallAtWork, Called, OfFunction, OfLibrary, OfValue, ChoiceAtWork, ConstructorAtWork, Done, InitialiserAtWork, MatchAtWork, Site, State, UnitAtWork, Ways}
use Rattle.check_answers.specs.Pieces.{SamePieces, captured_pieces, clause_pieces, function_pieces, initial_pieces, initialiser_pieces, stmt_pieces, variable_pieces, worker_pieces, written}

-- ---- what is finished

-- `D`: which types correspond
module _ (D : Ty → Ty → Type 0) where
  abbrev pub StmtTwins : TypedStmt → TypedStmt → Type 0
  StmtTwins s t = SamePieces D (stmt_pieces s) (stmt_pieces t)

  abbrev pub ClauseTwins : TypedClause → TypedClause → Type 0
  ClauseTwins c d = SamePieces D (clause_pieces c) (clause_pieces d)

  abbrev pub CapturedTwins : Captured → Captured → Type 0
  CapturedTwins c d = SamePieces D (captured_pieces c) (captured_pieces d)

  pub record BlockTwins (b c : BlockAtWork) : Type 0 where
    pub stmts : AllZip StmtTwins b.stmts c.stmts
    pub scope : c.scope ≡ b.scope

  pub record DoneTwins (d e : Done) : Type 0 where
    pub next_unit : e.next_unit ≡ d.next_unit
    pub functions : AllZip (λ f g. SamePieces D (function_pieces f) (function_pieces g)) d.functions e.functions
    pub workers : AllZip (λ w x. SamePieces D (worker_pieces w) (worker_pieces x)) d.workers e.workers
    pub variables : AllZip (λ v w. SamePieces D (variable_pieces v) (variable_pieces w)) d.variables e.variables
    pub initialisers : AllZip (λ i j. SamePieces D (initialiser_pieces i) (initialiser_pieces j)) d.initialisers e.initialisers

-- ---- what is at work

-- `D`: which types correspond in what is finished; `R`: which do elsewhere
module _ (D R : Ty → Ty → Type 0) where
  abbrev pub SharedTwins : Shared → Shared → Type 0
  SharedTwins t u = R t.value u.value

  -- ---- what is known of variables

  pub record VariableTwins (v u : Variable) : Type 0 where
    pub name : u.name ≡ v.name
    pub slot : u.slot ≡ v.slot
    pub declared : SharedTwins v.declared u.declared
    pub narrowed : SameOption SharedTwins v.narrowed u.narrowed
    pub fixed : u.fixed ≡ v.fixed
    pub assigned : u.assigned ≡ v.assigned
    pub captured : u.captured ≡ v.captured

  pub record FlowTwins (f g : Flow) : Type 0 where
    pub variables : AllZip VariableTwins f.variables g.variables
    pub reached : g.reached ≡ f.reached

  pub record WaysTwins (w x : Ways) : Type 0 where
    pub yes : FlowTwins w.yes x.yes
    pub no : FlowTwins w.no x.no

  -- ---- parts of trees

  -- a part: its own type is one that is open, and those within it are finished
  pub record PartTwins (e f : TypedExpr) : Type 0 where
    pub ty : SharedTwins (type_of e) (type_of f)
    pub inner : SamePieces D (written e).inner (written f).inner

  -- ---- what is open

  pub record ChoiceTwins (c d : ChoiceAtWork) : Type 0 where
    pub before : FlowTwins c.before d.before
    pub other : FlowTwins c.other d.other
    pub first : FlowTwins c.first d.first

  pub record MatchTwins (m n : MatchAtWork) : Type 0 where
    pub at : n.at ≡ m.at
    pub on : n.on ≡ m.on
    pub before : FlowTwins m.before n.before
    pub left : SharedTwins m.left n.left
    pub patterns : n.patterns ≡ m.patterns
    pub clauses : AllZip (ClauseTwins D) m.clauses n.clauses
    pub ends : AllZip FlowTwins m.ends n.ends

  pub record ConstructorTwins (c d : ConstructorAtWork) : Type 0 where
    pub choice : d.choice ≡ c.choice
    pub immutable : d.immutable ≡ c.immutable
    pub keys : d.keys ≡ c.keys
    pub types : AllZip R c.types d.types

  abbrev pub CalledTwins : Called → Called → Type 0
  CalledTwins (OfFunction f) (OfFunction g) = g ≡ f
  CalledTwins OfValue OfValue = ⊤
  CalledTwins (OfLibrary r t) (OfLibrary q u) = (q ≡ r) × SameOption SharedTwins t u
  CalledTwins (OfFunction f) OfValue = ⊥
  CalledTwins (OfFunction f) (OfLibrary q u) = ⊥
  CalledTwins OfValue (OfFunction g) = ⊥
  CalledTwins OfValue (OfLibrary q u) = ⊥
  CalledTwins (OfLibrary r t) (OfFunction g) = ⊥
  CalledTwins (OfLibrary r t) OfValue = ⊥

  pub record CallTwins (c d : CallAtWork) : Type 0 where
    pub callee : CalledTwins c.callee d.callee
    pub args : d.args ≡ c.args

  -- ---- units

  pub record UnitTwins (u v : UnitAtWork) : Type 0 where
    pub number : v.number ≡ u.number
    pub worker : v.worker ≡ u.worker
    pub slots : AllZip SharedTwins u.slots v.slots
    pub params : v.params ≡ u.params
    pub rest : v.rest ≡ u.rest
    pub rest_member : SameOption SharedTwins u.rest_member v.rest_member
    pub result : SharedTwins u.result v.result
    pub arrow : v.arrow ≡ u.arrow
    pub future : v.future ≡ u.future
    pub captured : AllZip (CapturedTwins D) u.captured v.captured
    pub flow : FlowTwins u.flow v.flow

  -- what a worker gives, or the fault of its descriptor
  abbrev pub ResultTwins : Result Shared Fault → Result Shared Fault → Type 0
  ResultTwins (Ok t) (Ok u) = SharedTwins t u
  ResultTwins (Err f) (Err g) = SameFault f g
  ResultTwins (Ok t) (Err g) = ⊥
  ResultTwins (Err f) (Ok u) = ⊥

  pub record SiteTwins (s t : Site) : Type 0 where
    pub scope : t.scope ≡ s.scope
    pub workers : t.workers ≡ s.workers
    pub results : AllZip ResultTwins s.results t.results
    pub events : t.events ≡ s.events

  pub record InitialiserTwins (i j : InitialiserAtWork) : Type 0 where
    pub unit : UnitTwins i.unit j.unit
    pub values : AllZip (λ x y. SamePieces D (initial_pieces x) (initial_pieces y)) i.values j.values

  -- ---- the whole, but for the atoms

  pub record StateTwins (s t : State) : Type 0 where
    pub site : SiteTwins s.site t.site
    pub found : AllZip PartTwins s.found t.found
    pub ways : SameOption WaysTwins s.ways t.ways
    pub wants : AllZip (SameOption SharedTwins) s.wants t.wants
    pub sorts : t.sorts ≡ s.sorts
    pub accesses : t.accesses ≡ s.accesses
    pub constructors : AllZip ConstructorTwins s.constructors t.constructors
    pub calls : AllZip CallTwins s.calls t.calls
    pub choices : AllZip ChoiceTwins s.choices t.choices
    pub matches : AllZip MatchTwins s.matches t.matches
    pub blocks : AllZip (BlockTwins D) s.blocks t.blocks
    pub units : AllZip UnitTwins s.units t.units
    pub initialiser : SameOption InitialiserTwins s.initialiser t.initialiser
    pub done : DoneTwins D s.done t.done
