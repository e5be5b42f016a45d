-- What constructs need: one step of checking each, as data. `specs/Meets` of `check_words` says what it means that a need is met.
use Rattle.std.specs.Prelude.{ℕ, Bool, List, Option}
use Rattle.bal_base.specs.declared.fault.FaultCode.{FaultCode}
use Rattle.bal_base.specs.declared.place.Place.{Place}
use Rattle.bal_base.specs.declared.text.Name.{Name}
use Rattle.bal_base.specs.declared.text.Text.{Text}
use Rattle.bal_tree.specs.declared.action.Peer.{Peer}
use Rattle.bal_tree.specs.declared.def.ConstDef.{ConstDef}
use Rattle.bal_tree.specs.declared.def.FunctionDef.{FunctionDef}
use Rattle.bal_tree.specs.declared.def.VariableDef.{VariableDef}
use Rattle.bal_tree.specs.declared.def.Worker.{Worker}
use Rattle.bal_tree.specs.declared.name.Literal.{Literal}
use Rattle.bal_tree.specs.declared.name.QualifiedName.{QualifiedName}
use Rattle.bal_tree.specs.declared.name.Word.{Word}
use Rattle.bal_tree.specs.declared.stmt.AssignOp.{AssignOp}
use Rattle.bal_tree.specs.declared.stmt.Pattern.{Pattern}
use Rattle.bal_tree.specs.declared.stmt.RangeOp.{RangeOp}
use Rattle.bal_tree.specs.declared.types.TypeTree.{TypeTree}
use Rattle.typed_tree.specs.declared.form.Operator.{Operator}
use Rattle.typed_tree.specs.declared.stmt.PerformForm.{PerformForm}
use Rattle.expr_needs.specs.declared.expected.Expected.{Expected}
use Rattle.expr_needs.specs.declared.kind.Kind.{Kind}

-- a member of a mapping constructor as it is seen in the text: its key, where it isn't a computed one, and the literal that it is
pub record MemberSeen : Type 0 where
  pub key : Option Text
  pub literal : Option Literal

pub data Need : Type 0 where
  -- ---- any construct

  -- it is refused
  Fails : FaultCode → Place → Need
  -- the last part is of the kind
  IsOf : Kind → Place → Need
  -- the last part is below the type that is wanted last, if there is one
  IsWanted : Place → Need
  -- a type is wanted: that of the descriptor; that of the last part, widened; the result of the unit
  Describes : TypeTree → Need
  Widens : Place → Need
  WantsResult : Need
  -- what is wanted last, or an error, is wanted beside it; and what is wanted last is wanted no more
  WantsErrorToo : Need
  DropsWant : Need
  -- ---- names, literals and operators

  GivesLiteral : Literal → Need
  GivesNamed : QualifiedName → Need
  -- so many parts are the operands of the operator, which gives the kind
  Forms : Operator → ℕ → Kind → Place → Need
  -- the operator works on ints, where the last part is below int, and else on strings; the last part is so; the last two are its operands
  Decides : Place → Need
  IsSort : Place → Need
  Adds : Place → Need
  Compares : Operator → Place → Need
  -- the last part is a condition, one way of which is entered: where it holds, or where it doesn't; then the other one
  Splits : Bool → Need
  Switches : Need
  -- the ways of a condition: exchanged, and put together with those of the one before it
  Turns : Place → Need
  Conjoins : Place → Need
  Disjoins : Place → Need
  -- the last three parts are a conditional expression, and the last two one that looks for nil
  Chooses : Place → Need
  FillsNil : Place → Need
  -- whether the last part, which is this name if it is one, is of the wanted type; and the last part cast to it
  Tests : Option QualifiedName → Place → Need
  Casts : Place → Need
  Checks : Place → Need
  ChecksPanicking : Place → Need
  Traps : Place → Need
  Encloses : Place → Need
  -- ---- members

  -- a member of the last part is taken, of a string only where so marked; the last part is its index or key; the member is read
  IsAccessed : Bool → Place → Need
  IsIndex : Place → Need
  ReadsElement : Place → Need
  ReadsField : Word → Place → Need
  ReadsOptional : Word → Place → Need
  -- ---- constructors

  ChoosesList : Expected → List (Option Literal) → Place → Need
  ChoosesMapping : Expected → List MemberSeen → Place → Need
  -- the details of an error, or what a wait names, begin
  BeginsKeys : Need
  -- a key more, which is a part, and one that is none; the last part is a computed key
  GivesKey : Text → Place → Need
  TakesKey : Text → Place → Need
  ComputesKey : Need
  -- the type of the next member of a list is wanted, and that at the last key of a mapping
  ExpectsItem : Need
  ExpectsMember : Need
  -- the last part is an item, a member, and a detail
  IsItem : Place → Need
  IsMember : Place → Need
  IsDetail : Place → Need
  LacksCause : Place → Need
  -- so many members make their construct
  MakesList : ℕ → Place → Need
  MakesMapping : ℕ → Place → Need
  MakesError : ℕ → Place → Need
  -- ---- calls

  -- what the name stands for is called, or where so marked started, with so many arguments; the last part is; a method of the last part is
  CallsNamed : Bool → QualifiedName → ℕ → Place → Need
  CallsValue : Need
  CallsMethod : Word → ℕ → Place → Need
  -- the type of the next argument is wanted; the last part is the next argument; the call is made, or that at the first place is started
  ExpectsArgument : Place → Need
  IsArgument : Place → Need
  MakesCall : Place → Need
  Starts : Place → Place → Need
  -- an anonymous function begins; it has a parameter of the wanted type, or takes the rest so; its value, which uses these names,
  -- has to be of the wanted type; the last part is its value
  BeginsAnonymous : Need
  HasParameter : Word → Need
  HasRest : Word → Need
  BeginsValue : List Word → Need
  MakesAnonymous : Bool → Place → Need
  -- ---- actions

  Awaits : QualifiedName → Need
  WaitsForAny : List QualifiedName → Place → Need
  WaitsForAll : List QualifiedName → Place → Need
  Receives : Expected → Peer → Place → Need
  Sends : Peer → Place → Need
  SendsAndWaits : Peer → Place → Need
  Flushes : Peer → Place → Need
  -- ---- statements

  -- no variable or worker that is seen has the name
  IsNew : Word → Need
  -- a variable of this name has the wanted type and the last part's value: whether it is final, and is assigned behind it
  Declares : Name → Bool → Bool → Place → Need
  -- the name may be assigned, and its declared type is wanted; the last part is assigned to it
  IsAssignable : QualifiedName → Need
  Assigns : QualifiedName → Place → Need
  -- the field is the key with which a member of a mapping is taken
  HasField : Word → Need
  -- a member is stored: its type is wanted; the last part is stored
  ExpectsStored : Place → Need
  Stores : Place → Need
  -- what is read before it is assigned: a name, a member, and one by its field; its type is wanted
  ReadsName : QualifiedName → Need
  ReadsStored : Place → Need
  ReadsStoredField : Word → Place → Need
  -- what was read is the left operand of the assignment; the last part is the right one
  IsOperand : AssignOp → Place → Need
  UpdatesName : QualifiedName → AssignOp → Place → Need
  UpdatesElement : AssignOp → Place → Need
  UpdatesField : Word → AssignOp → Place → Need
  -- the last part is nil
  IsIgnorable : Place → Need
  -- so many parts are the operands of a statement of this form
  Performs : PerformForm → ℕ → Place → Need
  -- no way goes on from here
  Stops : Need
  Returns : Place → Need
  ReturnsNil : Place → Need
  Breaks : Place → Need
  Continues : Place → Need
  -- ---- blocks, branches and loops

  BeginsBlock : Need
  EndsBlock : Need
  MakesBlock : Place → Need
  MakesIf : Place → Need
  -- the body assigns these names
  Heads : List Word → Need
  OpensLoop : Need
  -- whether something is left behind the loop
  MakesWhile : Bool → Place → Need
  -- a member of the last part is below what is wanted; it is wanted, widened; an int is below what is wanted; an int is wanted
  IsItemOfLoop : Place → Need
  WidensItem : Place → Need
  IsCounter : Place → Need
  WantsCounter : Need
  -- the loop has a variable of this name and the wanted type, and whether its body assigns it
  HasItem : Name → Bool → Need
  MakesForeach : Place → Need
  MakesRange : RangeOp → Place → Need
  -- a match on the last part, which is this name if it is one; a pattern of the next clause; the clause begins, and whether it
  -- takes all that is left; it ends; the match ends, and whether a clause took all
  BeginsMatch : Option QualifiedName → Place → Need
  HasPattern : Pattern → Need
  BeginsClause : Bool → Need
  EndsClause : Place → Need
  MakesMatch : Bool → Place → Need
  -- ---- units

  EntersFile : ℕ → ℕ → Need
  -- a function; its parameter of this name, and whether its body assigns it; what takes the rest; it ends
  BeginsFunction : FunctionDef → Need
  NamesParameter : Word → Bool → Need
  EndsFunction : FunctionDef → Place → Need
  EndsValueFunction : FunctionDef → Need
  -- a worker with this number, which uses these names
  BeginsWorker : Worker → ℕ → List Word → Need
  EndsWorker : Worker → Place → Need
  -- the initial value of a variable of the module, and whether the module is initialised; the module ends
  BeginsInitial : VariableDef → Bool → Need
  EndsInitial : VariableDef → Bool → Need
  EndsModule : ℕ → Need
  -- the value of a constant is of its type
  IsConstant : ConstDef → Need
