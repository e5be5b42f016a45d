-- Lines of the table of statements: where what is read of their values and blocks comes to typed parts and blocks, what is read of the whole comes to one typed statement more.
use Rattle.std.specs.Prelude.{Bool, false, List, None, Option, Some}
use Rattle.std.specs.Global.{Box}
use Rattle.bal_base.specs.declared.place.Place.{Place}
use Rattle.bal_tree.specs.declared.action.Rhs.{Rhs}
use Rattle.bal_tree.specs.declared.name.QualifiedName.{QualifiedName}
use Rattle.bal_tree.specs.declared.name.Word.{Word}
use Rattle.bal_tree.specs.declared.stmt.AssignOp.{AssignOp}
use Rattle.bal_tree.specs.declared.stmt.LocalType.{LocalType}
use Rattle.bal_tree.specs.declared.stmt.Pattern.{Pattern}
use Rattle.bal_tree.specs.declared.stmt.Range.{Range}
use Rattle.check_words.specs.State.{State}
use Rattle.descriptors.specs.declared.names.Names.{Names}
use Rattle.expr_needs.specs.ExprTable.{Reading, against, as_wanted, element_needs, freely, read_expr}
use Rattle.expr_needs.specs.Needs.{Assigns, BeginsBlock, Breaks, Continues, EndsBlock, ExpectsStored, HasField, IsAssignable, IsIgnorable, IsOperand, MakesBlock, Need, Performs, ReadsName, ReadsStored, ReadsStoredField, Stops, Stores, UpdatesElement, UpdatesField, UpdatesName}
use Rattle.expr_needs.specs.declared.kind.Kind.TheVariants as kind
use Rattle.operations.specs.Kinds.{IsBoolean}
use Rattle.operations.specs.Rows.{Surroundings}
use Rattle.stmt_needs.specs.StmtTable.{StmtReading, Within, block_needs, clause_needs, declaration_needs, foreach_needs, if_needs, jump_needs, match_needs, otherwise_needs, return_needs, while_needs}
use Rattle.type_model.specs.Calls.{Asked}
use Rattle.type_model.specs.Inclusion.{HasExactly}
use Rattle.type_model.specs.declared.answers.TypeLimit.{TypeLimit}
use Rattle.type_model.specs.declared.atoms.AtomDef.{AtomDef}
use Rattle.type_model.specs.declared.basic.SemType.{SemType}
use Rattle.typed_bodies.specs.Claims.{AllClausesKnown, AllKnown, BlockClaim, CanAct, KnowsBlock, KnowsClauses, KnowsStmt, KnowsValue, StmtClaim}
use Rattle.typed_needs.specs.Placing.{AreNamed}
use Rattle.typed_stmts.specs.Assigned.{TakeValues}
use Rattle.typed_tree.specs.Listed.{Listed, one, ◌&◌}
use Rattle.typed_tree.specs.declared.stmt.PerformForm.TheVariants as perform

module _ (passes : List AtomDef → Asked → TypeLimit → Type 0) (names : Names) (env : List AtomDef) (place : Surroundings) (Can : State → Type 0) where
  abbrev pub Known : Reading → Type 0
  Known = KnowsValue passes names env place Can

  abbrev pub KnownBlock : (Within → Listed Need) → Type 0
  KnownBlock = KnowsBlock passes names env place Can

  abbrev pub Line : (Within → Listed Need) → Type 0
  Line = StmtClaim passes names env place Can

  -- statements without blocks, but for assignments to names and with an operator
  pub record PlainLines : Type 0 where
    pub ignored : (r : Reading) (at : Place) → Known r → Line (λ w. freely r & one (Performs perform.Ignore 1 at))
    pub evaluated : (r : Reading) (at : Place) → Known r → Line (λ w. freely r & one (IsIgnorable at) & one (Performs perform.Evaluate 1 at))
    pub panicked : (r : Reading) (at : Place) → Known r → Line (λ w. against kind.AnyError r & one (Performs perform.Panic 1 at) & one Stops)
    pub returned : (r : Reading) (at : Place) → Known r → Line (λ w. return_needs (Some r) at)
    pub nil_returned : (at : Place) → Line (λ w. return_needs None at)
    -- in loops; outside of them it is refused
    pub broken : (at : Place) → Line (λ w. jump_needs (Breaks at) at w.loop)
    pub continued : (at : Place) → Line (λ w. jump_needs (Continues at) at w.loop)
    pub declared : (final : Bool) (t : LocalType) (name : Word) (r : Reading) (at : Place) → Known r → Line (declaration_needs final t name r at)
    -- `a[i] = r;`, and `a.f = r;`
    pub item_stored : (a i r : Reading) (there at : Place) → Known a → Known i → Known r
        → Line (λ w. (element_needs false a i & one (ExpectsStored there)) & as_wanted r & one (Stores at))
    pub field_stored : (a r : Reading) (field : Word) (there at : Place) → Known a → Known r
        → Line (λ w. ((against kind.AnyMapping a & one (HasField field)) & one (ExpectsStored there)) & as_wanted r & one (Stores at))

  -- assignments with an operator to members; `truth`: a type of the booleans
  pub record UpdateLines : Type 0 where
    pub items : (a i r : Reading) (assign : AssignOp) (there at : Place) → Known a → Known i → Known r
        → Line (λ w. ((element_needs false a i & one (ExpectsStored there)) & one (ReadsStored there)) & (one (IsOperand assign there) & as_wanted r) & one (UpdatesElement assign at))
    pub fields : (a r : Reading) (field : Word) (assign : AssignOp) (there at : Place) → Known a → Known r
        → Line (λ w. (((against kind.AnyMapping a & one (HasField field)) & one (ExpectsStored there)) & one (ReadsStoredField field there))
        & (one (IsOperand assign there) & as_wanted r) & one (UpdatesField field assign at))

  -- assignments to names, with an operator and without one
  pub record NameLines : Type 0 where
    pub assigned : (q : QualifiedName) (r : Reading) (at : Place) → Known r → Line (λ w. one (IsAssignable q) & as_wanted r & one (Assigns q at))
    -- where the place has the package's variables and functions, and there is a type of the booleans
    pub updated : AreNamed env names place → (truth : SemType) → HasExactly env truth IsBoolean → (q : QualifiedName) (assign : AssignOp) (r : Reading) (at : Place) → Known r
        → Line (λ w. (one (IsAssignable q) & one (ReadsName q)) & (one (IsOperand assign q.at) & as_wanted r) & one (UpdatesName q assign at))

  -- blocks, and statements with blocks, but for loops over lists and ranges, and for matches
  pub record BlockLines : Type 0 where
    pub block : (ss : List StmtReading) → AllKnown passes names env place Can ss → BlockClaim passes names env place Can (λ w. block_needs w.loop ss)
    pub blocked : (needs : Within → Listed Need) (at : Place) → KnownBlock needs → Line (λ w. needs w & one (MakesBlock at))
    pub branched : (c : Reading) (first : StmtReading) (second : Option (Box StmtReading)) (at : Place) → Known c → KnownBlock first.needs → KnownBlock (otherwise_needs second)
        → Line (if_needs c first second at)
    -- where there is no `else`, and behind `else if`
    pub no_else : BlockClaim passes names env place Can (otherwise_needs None)
    pub else_if : (needs : Within → Listed Need) → KnowsStmt passes names env place Can needs
        → BlockClaim passes names env place Can (λ w. one BeginsBlock & needs w & one EndsBlock)
    pub repeated : (c : Reading) (body : StmtReading) (at : Place) → Known c → KnownBlock body.needs → Line (λ w. while_needs c body at)

  -- loops over lists and ranges
  pub record LoopLines : Type 0 where
    pub walked : (t : LocalType) (name : Word) (from : Reading) (body : StmtReading) (at : Place) → Known from → KnownBlock body.needs
        → Line (λ w. foreach_needs t name from None body at)
    pub counted : (t : LocalType) (name : Word) (from : Reading) (range : Range) (body : StmtReading) (at : Place) → Known from → Known (read_expr range.end.value)
        → KnownBlock body.needs → Line (λ w. foreach_needs t name from (Some range) body at)

  -- matches, and their clauses
  pub record MatchLines : Type 0 where
    pub clause : (ps : List Pattern) (body : StmtReading) (at : Place) → KnownBlock body.needs → KnowsClauses passes names env place Can (clause_needs ps body at)
    pub matched : (e : Reading) (clauses : List StmtReading) (at : Place) → Known e → AllClausesKnown passes names env place Can clauses → Line (match_needs e clauses at)

-- in each package, wherever a statement stands, and whatever actions there are in it
pub record LinesAreTyped (passes : List AtomDef → Asked → TypeLimit → Type 0) (names : Names) (env : List AtomDef) (place : Surroundings) (actions : List Rhs) : Type 0 where
  pub plain : PlainLines passes names env place (CanAct env place actions)
  pub blocks : BlockLines passes names env place (CanAct env place actions)
  -- where the variables of modules take at the place all that is of their types
  pub names_assigned : TakeValues env names place → NameLines passes names env place (CanAct env place actions)
  -- where there is a type of the booleans
  pub updates : (truth : SemType) → HasExactly env truth IsBoolean → UpdateLines passes names env place (CanAct env place actions)
  pub matches : (truth : SemType) → HasExactly env truth IsBoolean → MatchLines passes names env place (CanAct env place actions)
  pub loops : (truth : SemType) → HasExactly env truth IsBoolean → LoopLines passes names env place (CanAct env place actions)

abbrev pub AllLinesAreTyped : (List AtomDef → Asked → TypeLimit → Type 0) → Type 0
AllLinesAreTyped passes = (names : Names) (env : List AtomDef) (place : Surroundings) (actions : List Rhs) → LinesAreTyped passes names env place actions
