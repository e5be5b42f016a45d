-- What it means that the needs of statements are met, but for branches and loops (Ballerina specification, section 7).
use Rattle.std.specs.Prelude.{◌≡◌, ◌++◌, ℕ, Bool, true, false, List, [], ◌∷◌, length, Some, None, is_some}
use Rattle.bal_base.specs.declared.fault.FaultCode.TheVariants.{AssignFinal, Ignored, NameAsValue, Unknown}
use Rattle.bal_base.specs.declared.place.Place.{Place}
use Rattle.bal_base.specs.declared.text.Name.{Name}
use Rattle.bal_tree.specs.declared.name.QualifiedName.{QualifiedName}
use Rattle.bal_tree.specs.declared.name.Word.{Word}
use Rattle.bal_tree.specs.declared.stmt.AssignOp.{AssignOp}
use Rattle.bal_tree.specs.declared.stmt.AssignOp.TheVariants.{Set, Add, Subtract, Multiply, Divide}
use Rattle.checks.specs.Checks.{Check, either, gives, gives_some, ◌▷◌}
use Rattle.checks.specs.Questions.{below}
use Rattle.descriptors.specs.declared.names.Meaning.{Meaning}
use Rattle.descriptors.specs.declared.names.Meaning.TheVariants as meaning
use Rattle.descriptors.specs.declared.names.Names.{Names}
use Rattle.descriptors.specs.Described.{IsCopy}
use Rattle.type_model.specs.declared.answers.TypeLimit.{TypeLimit}
use Rattle.type_model.specs.declared.atoms.AtomDef.{AtomDef}
use Rattle.type_model.specs.declared.basic.Ty.{Ty}
use Rattle.type_model.specs.Calls.{Asked}
use Rattle.typed_tree.specs.declared.expr.TypedExpr.{TypedExpr}
use Rattle.typed_tree.specs.declared.form.Operator.{Operator}
use Rattle.typed_tree.specs.declared.form.Operator.TheVariants as operator
use Rattle.typed_tree.specs.declared.form.Read.{Read}
use Rattle.typed_tree.specs.declared.form.Read.TheVariants as read
use Rattle.typed_tree.specs.declared.stmt.PerformForm.{PerformForm}
use Rattle.typed_tree.specs.declared.stmt.PerformForm.TheVariants as perform
use Rattle.typed_tree.specs.declared.stmt.TypedStmt.{TypedStmt}
use Rattle.typed_tree.specs.declared.stmt.UpdateTarget.{UpdateTarget}
use Rattle.typed_tree.specs.declared.stmt.UpdateTarget.TheVariants as target
use Rattle.typed_tree.specs.Exprs.{type_of}
use Rattle.typed_tree.specs.SharedTypes.{Shared, sem_of}
use Rattle.check_words.specs.declared.access.Access.{Access}
use Rattle.check_words.specs.declared.access.Access.TheVariants.{Char, Item, Key}
use Rattle.expr_needs.specs.declared.kind.Kind.{Kind}
use Rattle.expr_needs.specs.declared.kind.Kind.TheVariants as kind
use Rattle.check_words.specs.Members.{read_of, takes_access}
use Rattle.check_words.specs.Seen.{Seen, SeenVariable, SeenWorker, SeenConstant, SeenLibrary, SeenMeaning, SeenNothing, looks_up}
use Rattle.flow_narrowing.specs.declared.flow.Variable.{Variable}
use Rattle.check_words.specs.State.{BlockAtWork, IsLast, State, all_but, shared_now, outside, replaced, stopped, with_type, with_variable}
use Rattle.check_words.specs.StmtViews.{IsBlock, IsBreak, IsContinue, IsMemberTarget, IsPerform, IsReturn, IsReturnNil, IsSet, IsUpdate}
use Rattle.check_words.specs.Values.{drops_want, operator_of, sort_kind, sorts, takes_sort, uses}
use Rattle.check_words.specs.Words.{OfKind, Step, asking, becomes, changes_flow, done, fails, flow_now, is_within, last_part, new_slot, sem, some_over, takes, unit_now, unless, wanted, wants, wants_no_more, wants_some, whether_within}

-- ---- blocks

abbrev pub last_block : Check State BlockAtWork
last_block = gives_some (λ s b. IsLast s.blocks b)

abbrev pub closes_block : Check State BlockAtWork
closes_block = last_block ▷ λ b. becomes (λ s. record s { blocks = all_but 1 s.blocks }) ▷ λ u. gives b

-- a statement of which this holds stands next in the block at hand
abbrev pub adds_stmt : (TypedStmt → Type 0) → Step
adds_stmt P =
    last_block ▷ λ b. gives_some (λ s stmt. P stmt) ▷ λ stmt.
    becomes (λ s. record s { blocks = replaced s.blocks (record b { stmts = b.stmts ++ stmt ∷ [] }) })

abbrev pub begins_block : Step
begins_block = flow_now ▷ λ f. becomes (λ s. record s { blocks = s.blocks ++ record { stmts = []; scope = length f.variables } ∷ [] })

-- its variables are seen no more; the block waits for its construct
abbrev pub ends_block : Step
ends_block = last_block ▷ λ b. changes_flow (outside b.scope)

abbrev pub makes_block : Place → Step
makes_block at = closes_block ▷ λ b. adds_stmt (IsBlock b.stmts at)

-- ---- declarations

abbrev pub local_variable : Name → ℕ → Shared → (fixed assigned : Bool) → Variable
local_variable name slot t fixed assigned =
    record { name = name; slot = slot; declared = t; narrowed = None; fixed = fixed; assigned = assigned; captured = false }

-- the last part alone
abbrev pub takes_part : Check State TypedExpr
takes_part = last_part ▷ λ e. takes 1 ▷ λ parts. gives e

abbrev pub takes_want : Check State Shared
takes_want = wanted ▷ λ t. wants_no_more 1 ▷ λ u. gives t

abbrev pub declares : Name → Bool → Bool → Place → Step
declares name final assigned at =
    takes_part ▷ λ value. takes_want ▷ λ t. new_slot t ▷ λ slot.
    changes_flow (with_variable (local_variable name slot t final assigned)) ▷ λ u. adds_stmt (IsSet slot value at)

-- ---- assignments

abbrev pub variable_assignable : Variable → Place → Step
variable_assignable v at = either v.fixed (fails AssignFinal at) (uses v at) ▷ λ u. wants (Some v.declared)

abbrev pub meaning_assignable : Meaning → Place → Step
meaning_assignable (meaning.TypeName t) at = fails Unknown at
meaning_assignable (meaning.Constant t) at = fails AssignFinal at
meaning_assignable (meaning.Variable number final t) at = either final (fails AssignFinal at) (wants_some (λ env. IsCopy t))
meaning_assignable (meaning.Function f) at = fails AssignFinal at

abbrev pub seen_assignable : Seen → Place → Step
seen_assignable (SeenVariable v) at = variable_assignable v at
seen_assignable (SeenWorker w) at = fails NameAsValue at
seen_assignable (SeenConstant c) at = fails AssignFinal at
seen_assignable (SeenLibrary r) at = fails Unknown at
seen_assignable (SeenMeaning m) at = meaning_assignable m at
seen_assignable (SeenNothing code) at = fails code at

-- what a name that may be assigned stands for: a variable of the unit, or one of a module by its number
pub data Assigned : Type 0 where
  AssignsVariable : Variable → Assigned
  AssignsModule : ℕ → Ty → Assigned

abbrev pub IsAssigned : Seen → Assigned → Type 0
IsAssigned (SeenVariable v) a = a ≡ AssignsVariable v
IsAssigned (SeenMeaning (meaning.Variable number final t)) a = a ≡ AssignsModule number t
IsAssigned (SeenMeaning (meaning.TypeName t)) a = ⊥
IsAssigned (SeenMeaning (meaning.Constant t)) a = ⊥
IsAssigned (SeenMeaning (meaning.Function f)) a = ⊥
IsAssigned (SeenWorker w) a = ⊥
IsAssigned (SeenConstant c) a = ⊥
IsAssigned (SeenLibrary r) a = ⊥
IsAssigned (SeenNothing code) a = ⊥

-- a local variable gets its declared type back
abbrev pub assigns_to : Assigned → TypedExpr → Place → Step
assigns_to (AssignsVariable v) value at = changes_flow (with_type v.name None) ▷ λ u. adds_stmt (IsSet v.slot value at)
assigns_to (AssignsModule number t) value at = adds_stmt (IsPerform (perform.SetVariable number) (value ∷ []) at)

abbrev pub store_form : Access → PerformForm → Type 0
store_form Char form = ⊥
store_form Item form = form ≡ perform.SetItem
store_form Key form = form ≡ perform.SetKey

-- a container, an index or key, and a value
abbrev pub stores : Place → Step
stores at =
    wants_no_more 1 ▷ λ u. takes_access ▷ λ a. takes 3 ▷ λ parts. gives_some (λ s form. store_form a form) ▷ λ form.
    adds_stmt (IsPerform form parts at)

-- ---- assignments with an operator

-- what is read of a name that may be assigned
abbrev pub reads_assigned : Assigned → Step
reads_assigned (AssignsVariable v) = wants (Some (shared_now v))
reads_assigned (AssignsModule number t) = wants_some (λ env. IsCopy t)

-- the operator, which works on strings only where it is `+`
abbrev pub update_operator : AssignOp → Bool → Operator → Type 0
update_operator Set ints op = ⊥
update_operator Add ints op = op ≡ operator_of ints
update_operator Subtract ints op = op ≡ operator.Subtract
update_operator Multiply ints op = op ≡ operator.Multiply
update_operator Divide ints op = op ≡ operator.Divide

abbrev pub takes_operator : AssignOp → Check State Operator
takes_operator assign = takes_sort ▷ λ ints. gives_some (λ s op. update_operator assign ints op)

abbrev pub updates : (UpdateTarget → Type 0) → Operator → TypedExpr → Place → Step
updates P op value at = gives_some (λ s what. P what) ▷ λ what. adds_stmt (IsUpdate what op value at)

abbrev pub updates_assigned : Assigned → Shared → Operator → TypedExpr → Place → Step
updates_assigned (AssignsVariable v) read_type op value at =
    changes_flow (with_type v.name None) ▷ λ u. updates (λ what. what ≡ target.Local v.slot (is_some v.narrowed) read_type) op value at
updates_assigned (AssignsModule number t) read_type op value at = updates (λ what. what ≡ target.Variable number) op value at

-- the container and the key are kept in two slots
abbrev pub keeps_two : TypedExpr → TypedExpr → Check State ℕ
keeps_two container key = new_slot (type_of container) ▷ λ own. new_slot (type_of key) ▷ λ next. gives own

abbrev pub updates_member : Read → Shared → Operator → List TypedExpr → Place → Step
updates_member how read_type op parts at =
    gives_some (λ s (p : TypedExpr × TypedExpr × TypedExpr). parts ≡ p.0 ∷ p.1 ∷ p.2 ∷ []) ▷ λ p. keeps_two p.0 p.1 ▷ λ own.
    updates (IsMemberTarget own how p.0 p.1 read_type) op p.2 at

-- ---- other statements

abbrev pub performs : PerformForm → ℕ → Place → Step
performs form count at = takes count ▷ λ parts. adds_stmt (IsPerform form parts at)

-- no way goes on
abbrev pub stops : Step
stops = changes_flow stopped

abbrev pub returns : Place → Step
returns at = takes_part ▷ λ value. drops_want ▷ λ u. adds_stmt (IsReturn value at) ▷ λ v. stops

abbrev pub breaks : Place → Step
breaks at = adds_stmt (IsBreak at) ▷ λ u. stops

abbrev pub continues : Place → Step
continues at = adds_stmt (IsContinue at) ▷ λ u. stops

module _ (names : Names) where
  abbrev pub is_assignable : QualifiedName → Step
  is_assignable q = looks_up names q ▷ λ seen. seen_assignable seen q.at

  abbrev pub assigned_by : QualifiedName → Check State Assigned
  assigned_by q = looks_up names q ▷ λ seen. gives_some (λ s a. IsAssigned seen a)

  abbrev pub assigns : QualifiedName → Place → Step
  assigns q at = takes_part ▷ λ value. drops_want ▷ λ u. assigned_by q ▷ λ a. assigns_to a value at

  abbrev pub reads_name : QualifiedName → Step
  reads_name q = assigned_by q ▷ λ a. reads_assigned a

module _ (passes : List AtomDef → Asked → TypeLimit → Type 0) where
  -- nil, or nothing: all else is ignored
  abbrev pub is_ignorable : Place → Step
  is_ignorable at = last_part ▷ λ e. whether_within passes (OfKind kind.Nothing) (sem e) at ▷ λ b. unless b Ignored at

  -- nil is below the result of the unit
  abbrev pub nil_is_result : Place → Step
  nil_is_result at =
      unit_now ▷ λ u. some_over (OfKind kind.Nothing) ▷ λ nil. asking (below passes nil.sem (sem_of u.result) (Some at))

  abbrev pub returns_nil : Place → Step
  returns_nil at = nil_is_result at ▷ λ u. adds_stmt (IsReturnNil at) ▷ λ v. stops

  -- ---- assignments with an operator: what is wanted last is the type of what was read, and before it that of what is stored

  -- `+` works on ints where what was read is below int, and else on strings; the others work on ints
  abbrev pub operand_kind : AssignOp → Kind
  operand_kind Set = kind.Integer
  operand_kind Add = kind.IntOrText
  operand_kind Subtract = kind.Integer
  operand_kind Multiply = kind.Integer
  operand_kind Divide = kind.Integer

  abbrev pub operand_sort : AssignOp → Shared → Place → Check State Bool
  operand_sort Set t at = gives true
  operand_sort Add t at =
      whether_within passes (OfKind kind.Integer) (sem_of t) at ▷ λ ints.
      either ints done (is_within passes (OfKind kind.Text) (sem_of t) at) ▷ λ u. gives ints
  operand_sort Subtract t at = gives true
  operand_sort Multiply t at = gives true
  operand_sort Divide t at = gives true

  -- the other operand is wanted to be of the sort
  abbrev pub is_operand : AssignOp → Place → Step
  is_operand assign at =
      wanted ▷ λ t. is_within passes (OfKind (operand_kind assign)) (sem_of t) at ▷ λ u.
      operand_sort assign t at ▷ λ ints. sorts ints ▷ λ v. wants_some (OfKind (sort_kind ints))

  -- the result is below what is stored; the type of what was read is handed on
  abbrev pub result_fits : Place → Check State Shared
  result_fits at =
      takes_want ▷ λ result. takes_want ▷ λ read_type. takes_want ▷ λ stored.
      asking (below passes (sem_of result) (sem_of stored) (Some at)) ▷ λ u. gives read_type

  abbrev pub updates_element : AssignOp → Place → Step
  updates_element assign at =
      result_fits at ▷ λ read_type. takes_operator assign ▷ λ op. takes_access ▷ λ a. takes 3 ▷ λ parts.
      updates_member (read_of a) read_type op parts at

  abbrev pub updates_field : Word → AssignOp → Place → Step
  updates_field w assign at =
      result_fits at ▷ λ read_type. takes_operator assign ▷ λ op. takes_access ▷ λ a. takes 3 ▷ λ parts.
      updates_member (read.Field w.name) read_type op parts at

  module _ (names : Names) where
    abbrev pub updates_name : QualifiedName → AssignOp → Place → Step
    updates_name q assign at =
        result_fits at ▷ λ read_type. takes_operator assign ▷ λ op. takes_part ▷ λ value. assigned_by names q ▷ λ a.
        updates_assigned a read_type op value at
