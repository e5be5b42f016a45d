-- Trees that are typed as they are written: over each list of operands, each operation takes what the maps say and gives what is below
-- what they say behind it. What an expression gives is of the type that the tree says.
use Rattle.std.specs.Prelude.{◌≡◌, ◌++◌, ◌+◌, ℕ, Bool, true, false, negsuc, List, [], ◌∷◌, Option, Some, None, length, map, ⊤}
use Rattle.type_model.specs.declared.atoms.AtomDef.{AtomDef}
use Rattle.type_model.specs.declared.basic.SemType.{SemType}
use Rattle.operations.specs.declared.library.LibraryCall.TheVariants.{ListLength}
use Rattle.operations.specs.declared.operation.Constant.{Constant}
use Rattle.operations.specs.declared.operation.Constant.TheVariants as constant
use Rattle.operations.specs.declared.operation.Operation.{Operation}
use Rattle.operations.specs.declared.operation.Operation.TheVariants.{Const, Load, Store, LoadModule, StoreModule, Tick, Less, LessEqual, GetItem, Test, Cast, Library, Return as ReturnOp, Workers}
use Rattle.operations.specs.Rows.{AreBelow, Surroundings}
use Rattle.typed_tree.specs.declared.expr.TypedExpr.{TypedExpr, Strict', Implied, Local as Variable, And', Or', Conditional', Elvis', Check', Trap', Function', Parens', Row_of-TypedExpr, end_of-TypedExpr, more_of-TypedExpr, items-the_row-TypedExpr as exprs_in}
use Rattle.typed_tree.specs.declared.form.Operator.{Operator}
use Rattle.typed_tree.specs.declared.package.Initial.{Initial}
use Rattle.typed_tree.specs.declared.stmt.RangeEnd.TheVariants.{Included, Excluded}
use Rattle.typed_tree.specs.declared.stmt.Source.{Source}
use Rattle.typed_tree.specs.declared.stmt.Source.TheVariants.{Range, List as ListSource}
use Rattle.typed_tree.specs.declared.stmt.TypedPattern.{TypedPattern}
use Rattle.typed_tree.specs.declared.stmt.TypedStmt.{TypedStmt, Set, Perform, Update, If', While', Foreach', Match', Return, Block' as BlockStmt, Break, Continue, Row_of-TypedStmt, end_of-TypedStmt, more_of-TypedStmt, Row_of-TypedClause, end_of-TypedClause, more_of-TypedClause}
use Rattle.typed_tree.specs.declared.stmt.UpdateTarget.{UpdateTarget}
use Rattle.typed_tree.specs.declared.stmt.UpdateTarget.TheVariants as target
use Rattle.typed_tree.specs.declared.unit.Captured.{Captured}
use Rattle.typed_tree.specs.declared.unit.TypedBody.TheVariants.{Block as BlockBody, Expr as ValueBody}
use Rattle.typed_tree.specs.declared.unit.TypedWorker.{TypedWorker}
use Rattle.typed_tree.specs.SharedTypes.{sem_of}
use Rattle.typed_tree.specs.Units.{UnitBody, OfFunction, OfWorker, OfAnonymous, OfInitialiser}
use Rattle.held_operations.specs.Constructs.{operations_of, operator_operations, perform_operations}
use Rattle.held_operations.specs.Operation.{singleton}
use Rattle.eval_model.specs.Expressions.{check_ends, error_type, makes_function, narrowed_to, nil_type}
use Rattle.eval_model.specs.Loops.{raises}
use Rattle.eval_model.specs.Statements.{reads_member, sets_member}
use Rattle.tree_promises.specs.Types.{DoesTypes, Stack, TakesTypes}
use Rattle.typed_making.specs.Mapped.{at_or}
use Rattle.map_model.specs.Points.{PlainTypes, form_points, member_points, operator_points, operator_type, raise_points, slot_type, tested_points, variable_type}
use Rattle.map_model.specs.Maps.{above, captured_type, each, next_points, own_type, own_types, tried_type, tries_points}

module _ (plain : PlainTypes) (env : List AtomDef) (place : Surroundings) where
  abbrev Does : Operation → Stack → Stack → Type 0
  Does op p q = DoesTypes env place op p q

  abbrev Below : Stack → Stack → Type 0
  Below p q = AreBelow env p q

  -- the operand above these is a boolean
  abbrev Tests : SemType → Stack → Type 0
  Tests t p = TakesTypes env place (p ++ t ∷ []) p

  -- ---- operations

  -- each is done from its own point, and leaves what is below the next one, the last one what is below these
  abbrev pub RunsAlong : List Operation → List Stack → Stack → Type 0
  RunsAlong [] [] q = ⊤
  RunsAlong [] (s ∷ ss) q = ⊥
  RunsAlong (op ∷ ops) [] q = ⊥
  RunsAlong (op ∷ ops) (s ∷ ss) q = Does op s (at_or ss q 0) × RunsAlong ops ss q

  -- the first one where it begins
  abbrev pub BeginsAt : List Stack → Stack → Stack → Type 0
  BeginsAt [] p q = Below p q
  BeginsAt (s ∷ ss) p q = p ≡ s

  abbrev pub Runs : List Operation → List Stack → Stack → Stack → Type 0
  Runs ops points p q = BeginsAt points p q × RunsAlong ops points q

  abbrev pub GetsWritten : ℕ → Option SemType → Stack → Stack → Type 0
  GetsWritten slot None p q = Does (Load slot) p q
  GetsWritten slot (Some t) p q = Does (Load slot) p (p ++ slot_type place slot ∷ []) × Does (Cast t) (p ++ slot_type place slot ∷ []) q

  abbrev pub CapturesWritten : List Captured → Stack → Type 0
  CapturesWritten [] p = ⊤
  CapturesWritten (c ∷ cs) p = GetsWritten c.slot (narrowed_to c.narrowed c.ty) p (p ++ captured_type c ∷ []) × CapturesWritten cs (p ++ captured_type c ∷ [])

  -- a value is kept in a slot and tested
  abbrev pub TestsWritten : ℕ → SemType → SemType → Stack → Type 0
  TestsWritten own given t p = Runs (Store own ∷ Load own ∷ Test t ∷ []) (each p (tested_points plain place own given)) (p ++ given ∷ []) (p ++ plain.boolean ∷ []) × Tests plain.boolean p

  -- ---- expressions, over these operands

  abbrev mutual
    pub ExprWritten : TypedExpr → Stack → Type 0
    ExprWritten (Strict' form shape operands type at) p =
        RowWritten operands p
        × Runs (operations_of form (length (exprs_in _ operands))) (each p (form_points plain form (own_types (exprs_in _ operands)))) (above p (own_types (exprs_in _ operands))) (p ++ sem_of type ∷ [])
    ExprWritten (Implied value type at) p = Does (Const value) p (p ++ sem_of type ∷ [])
    ExprWritten (Variable slot narrowed type at) p = GetsWritten slot (narrowed_to narrowed type) p (p ++ sem_of type ∷ [])
    ExprWritten (And' _ left _ right type at) p =
        ExprWritten left p × Tests (own_type left) p × ExprWritten right p × Below (p ++ own_type right ∷ []) (p ++ sem_of type ∷ [])
        × Does (Const (constant.Bool false)) p (p ++ sem_of type ∷ [])
    ExprWritten (Or' _ left _ right type at) p =
        ExprWritten left p × Tests (own_type left) p × Does (Const (constant.Bool true)) p (p ++ sem_of type ∷ [])
        × ExprWritten right p × Below (p ++ own_type right ∷ []) (p ++ sem_of type ∷ [])
    ExprWritten (Conditional' _ condition _ middle _ last type at) p =
        ExprWritten condition p × Tests (own_type condition) p × ExprWritten middle p × Below (p ++ own_type middle ∷ []) (p ++ sem_of type ∷ [])
        × ExprWritten last p × Below (p ++ own_type last ∷ []) (p ++ sem_of type ∷ [])
    ExprWritten (Elvis' own _ left _ right type at) p =
        ExprWritten left p × TestsWritten own (own_type left) nil_type p × ExprWritten right p × Below (p ++ own_type right ∷ []) (p ++ sem_of type ∷ [])
        × GetsWritten own (Some (sem_of type)) p (p ++ sem_of type ∷ [])
    ExprWritten (Check' panics own _ operand type at) p =
        ExprWritten operand p × TestsWritten own (own_type operand) error_type p
        × GetsWritten own (Some error_type) p (p ++ error_type ∷ []) × Does (check_ends panics) (p ++ error_type ∷ []) (p ++ sem_of type ∷ [])
        × GetsWritten own (Some (sem_of type)) p (p ++ sem_of type ∷ [])
    ExprWritten (Trap' _ operand type at) p =
        ExprWritten operand p × Below (p ++ own_type operand ∷ []) (p ++ sem_of type ∷ []) × Below (p ++ error_type ∷ []) (p ++ sem_of type ∷ [])
    ExprWritten (Function' function _ value type at) p =
        CapturesWritten function.value.captured p
        × Does (makes_function function.value) (above p (map captured_type function.value.captured)) (p ++ sem_of type ∷ [])
    ExprWritten (Parens' _ inner type at) p = ExprWritten inner p × (own_type inner ≡ sem_of type)

    pub RowWritten : {n : _} → Row_of-TypedExpr n → Stack → Type 0
    RowWritten end_of-TypedExpr p = ⊤
    RowWritten (more_of-TypedExpr e rest) p = ExprWritten e p × RowWritten rest (p ++ own_type e ∷ [])

  abbrev pub ExprsWritten : List TypedExpr → Stack → Type 0
  ExprsWritten [] p = ⊤
  ExprsWritten (e ∷ es) p = ExprWritten e p × ExprsWritten es (p ++ own_type e ∷ [])

  -- ---- assignments with an operator

  abbrev pub StoresWritten : SemType → Operator → TypedExpr → Operation → Stack → Stack → Type 0
  StoresWritten t op value store p q =
      ExprWritten value (p ++ t ∷ [])
      × Runs (operator_operations op) (each p (operator_points plain op (t ∷ own_type value ∷ []))) (above p (t ∷ own_type value ∷ [])) (p ++ operator_type plain op ∷ [])
      × Does store (p ++ operator_type plain op ∷ []) q

  abbrev pub UpdateWritten : UpdateTarget → Operator → TypedExpr → Stack → Type 0
  UpdateWritten (target.Local slot narrowed type) op value p =
      GetsWritten slot (narrowed_to narrowed type) p (p ++ sem_of type ∷ []) × StoresWritten (sem_of type) op value (Store slot) p p
  UpdateWritten (target.Variable x) op value p =
      Does (LoadModule x) p (p ++ variable_type place x ∷ []) × StoresWritten (variable_type place x) op value (StoreModule x) p p
  UpdateWritten (target.Member own how container key type) op value p =
      let kept = above p (slot_type place own ∷ slot_type place (own + 1) ∷ []) in
      ExprWritten container.value p × Does (Store own) (p ++ own_type container.value ∷ []) p × ExprWritten key.value p × Does (Store (own + 1)) (p ++ own_type key.value ∷ []) p
      × Runs (Load own ∷ Load (own + 1) ∷ reads_member how own) (each p (member_points plain place how own)) p (kept ++ sem_of type ∷ [])
      × StoresWritten (sem_of type) op value (sets_member how) kept p

  -- ---- loops

  abbrev pub BeginsWritten : Source → Stack → Type 0
  BeginsWritten (Range own Included from to) p =
      ExprWritten from.value p × Does (Store own) (p ++ own_type from.value ∷ []) p × ExprWritten to.value p × Does (Store (own + 1)) (p ++ own_type to.value ∷ []) p
      × Runs (Load own ∷ Load (own + 1) ∷ LessEqual ∷ Store (own + 2) ∷ [])
      (each p ([] ∷ (slot_type place own ∷ []) ∷ (slot_type place own ∷ slot_type place (own + 1) ∷ []) ∷ (plain.boolean ∷ []) ∷ [])) p p
  BeginsWritten (Range own Excluded from to) p =
      ExprWritten from.value p × Does (Store own) (p ++ own_type from.value ∷ []) p × ExprWritten to.value p × Does (Store (own + 1)) (p ++ own_type to.value ∷ []) p
  BeginsWritten (ListSource own list) p =
      ExprWritten list.value p
      × Runs (Store own ∷ Const (constant.Int (negsuc 0)) ∷ Store (own + 1) ∷ []) (each p ((own_type list.value ∷ []) ∷ [] ∷ (plain.int ∷ []) ∷ [])) (p ++ own_type list.value ∷ []) p

  abbrev pub tries_operations : Source → List Operation
  tries_operations (Range own Included from to) = Load (own + 2) ∷ []
  tries_operations (Range own Excluded from to) = Load own ∷ Load (own + 1) ∷ Less ∷ []
  tries_operations (ListSource own list) = raises (own + 1) ++ Load (own + 1) ∷ Load own ∷ Library ListLength None 1 ∷ Less ∷ []

  abbrev pub TriesWritten : Source → Stack → Type 0
  TriesWritten source p =
      Runs (tries_operations source) (each p (tries_points plain place source)) p (p ++ tried_type plain place source ∷ []) × Tests (tried_type plain place source) p

  abbrev pub PreparesWritten : ℕ → Source → Stack → Type 0
  PreparesWritten slot (Range own Included from to) p =
      Runs (Load own ∷ Store slot ∷ Load own ∷ Load (own + 1) ∷ Less ∷ Store (own + 2) ∷ Load (own + 2) ∷ []) (each p (next_points plain place own slot)) p (p ++ slot_type place (own + 2) ∷ [])
      × Tests (slot_type place (own + 2)) p × Runs (raises own) (each p (raise_points plain place own)) p p
  PreparesWritten slot (Range own Excluded from to) p =
      Runs (Load own ∷ Store slot ∷ raises own) (each p ([] ∷ (slot_type place own ∷ []) ∷ raise_points plain place own)) p p
  PreparesWritten slot (ListSource own list) p =
      Runs (Load own ∷ Load (own + 1) ∷ GetItem ∷ Store slot ∷ [])
      (each p ([] ∷ (slot_type place own ∷ []) ∷ (slot_type place own ∷ slot_type place (own + 1) ∷ []) ∷ (slot_type place slot ∷ []) ∷ [])) p p

  -- ---- statements, in a loop or not

  abbrev pub PatternWritten : ℕ → Option Constant → Stack → Type 0
  PatternWritten own (Some c) p =
      Runs (Load own ∷ Test (singleton c) ∷ []) (p ∷ (p ++ slot_type place own ∷ []) ∷ []) p (p ++ plain.boolean ∷ []) × Tests plain.boolean p
  PatternWritten own None p = ⊤

  abbrev pub PatternsWritten : ℕ → List TypedPattern → Stack → Type 0
  PatternsWritten own [] p = ⊤
  PatternsWritten own (t ∷ ts) p = PatternWritten own t.value p × PatternsWritten own ts p

  abbrev pub InSome : Bool → Type 0
  InSome true = ⊤
  InSome false = ⊥

  abbrev mutual
    pub StmtWritten : TypedStmt → Bool → Stack → Type 0
    StmtWritten (Set slot value at) looped p = ExprWritten value.value p × Does (Store slot) (p ++ own_type value.value ∷ []) p
    StmtWritten (Perform form operands at) looped p =
        ExprsWritten operands.items p
        × Runs (perform_operations form) (above p (own_types operands.items) ∷ []) (above p (own_types operands.items)) p
    StmtWritten (Update t op value at) looped p = UpdateWritten t op value.value p
    StmtWritten (If' condition shape first shape' second at) looped p =
        ExprWritten condition.value p × Tests (own_type condition.value) p × StmtsWritten first looped p × StmtsWritten second looped p
    StmtWritten (While' condition shape body at) looped p = Does Tick p p × ExprWritten condition.value p × Tests (own_type condition.value) p × StmtsWritten body true p
    StmtWritten (Foreach' slot source shape body at) looped p =
        BeginsWritten source p × Does Tick p p × TriesWritten source p × PreparesWritten slot source p × StmtsWritten body true p
    StmtWritten (Match' own subject shape clauses at) looped p =
        ExprWritten subject.value p × Does (Store own) (p ++ own_type subject.value ∷ []) p × ClausesWritten own clauses looped p
    StmtWritten (Return None at) looped p = Does (Const constant.Nil) p (p ++ nil_type ∷ []) × Does ReturnOp (p ++ nil_type ∷ []) p
    StmtWritten (Return (Some e) at) looped p = ExprWritten e.value p × Does ReturnOp (p ++ own_type e.value ∷ []) p
    StmtWritten (BlockStmt shape stmts at) looped p = StmtsWritten stmts looped p
    StmtWritten (Break at) looped p = InSome looped
    StmtWritten (Continue at) looped p = InSome looped

    pub StmtsWritten : {n : _} → Row_of-TypedStmt n → Bool → Stack → Type 0
    StmtsWritten end_of-TypedStmt looped p = ⊤
    StmtsWritten (more_of-TypedStmt s rest) looped p = StmtWritten s looped p × StmtsWritten rest looped p

    pub ClausesWritten : {n : _} → ℕ → Row_of-TypedClause n → Bool → Stack → Type 0
    ClausesWritten own end_of-TypedClause looped p = ⊤
    ClausesWritten own (more_of-TypedClause patterns shape stmts at rest) looped p =
        PatternsWritten own patterns.items p × StmtsWritten stmts looped p × ClausesWritten own rest looped p

  abbrev pub BlockWritten : List TypedStmt → Stack → Type 0
  BlockWritten [] p = ⊤
  BlockWritten (s ∷ ss) p = StmtWritten s false p × BlockWritten ss p

  -- ---- units

  abbrev pub NamedWritten : List TypedWorker → Type 0
  NamedWritten [] = ⊤
  NamedWritten (w ∷ ws) = Does Workers [] []

  abbrev pub EndWritten : Bool → Type 0
  EndWritten true = Does (Const constant.Nil) [] (nil_type ∷ []) × Does ReturnOp (nil_type ∷ []) []
  EndWritten false = ⊤

  abbrev pub InitialsWritten : List Initial → Type 0
  InitialsWritten [] = ⊤
  InitialsWritten (i ∷ is) = ExprWritten i.value.value [] × Does (StoreModule i.variable) (own_type i.value.value ∷ []) [] × InitialsWritten is

  abbrev pub ValueWritten : TypedExpr → Type 0
  ValueWritten e = ExprWritten e [] × Does ReturnOp (own_type e ∷ []) []

  abbrev pub BodyWritten : UnitBody → Type 0
  BodyWritten (OfFunction (BlockBody initial workers rest ends close)) =
      BlockWritten initial.items [] × NamedWritten workers.items × BlockWritten rest.items [] × EndWritten ends
  BodyWritten (OfFunction (ValueBody value)) = ValueWritten value.value
  BodyWritten (OfWorker stmts ends) = BlockWritten stmts [] × EndWritten ends
  BodyWritten (OfAnonymous value) = ValueWritten value
  BodyWritten (OfInitialiser values) = InitialsWritten values × EndWritten true
