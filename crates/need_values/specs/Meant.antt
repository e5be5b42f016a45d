-- Which need each of those that are handed about as values is.
use Rattle.std.specs.Prelude.{map}
use Rattle.bal_tree.specs.declared.stmt.Block.{out-Block}
use Rattle.tree_places.specs.Assigned.{assigned_in_block}
use Rattle.tree_places.specs.UsedInStmts.{used_in_block}
use Rattle.typed_tree.specs.Listed.{members}
use Rattle.expr_needs.specs.ExprTable.{read_expr, read_member, seen_of}
use Rattle.stmt_needs.specs.PackageTable.{assigned_in_body, within}
use Rattle.stmt_needs.specs.StmtTable.{is_among}
use Rattle.expr_needs.specs.Needs.{Need, Adds, Assigns, Awaits, BeginsAnonymous, BeginsBlock, BeginsClause, BeginsFunction, BeginsInitial, BeginsKeys, BeginsMatch, BeginsValue, BeginsWorker, Breaks, CallsMethod, CallsNamed, CallsValue, Casts, Checks, ChecksPanicking, Chooses, ChoosesList, ChoosesMapping, Compares, ComputesKey, Conjoins, Continues, Decides, Declares, Describes, Disjoins, DropsWant, Encloses, EndsBlock, EndsClause, EndsFunction, EndsInitial, EndsModule, EndsValueFunction, EndsWorker, EntersFile, ExpectsArgument, ExpectsItem, ExpectsMember, ExpectsStored, Fails, FillsNil, Flushes, Forms, GivesKey, GivesLiteral, GivesNamed, HasField, HasItem, HasParameter, HasPattern, HasRest, Heads, IsAccessed, IsArgument, IsAssignable, IsConstant, IsCounter, IsDetail, IsIgnorable, IsIndex, IsItem, IsItemOfLoop, IsMember, IsNew, IsOf, IsOperand, IsSort, IsWanted, LacksCause, MakesAnonymous, MakesBlock, MakesCall, MakesError, MakesForeach, MakesIf, MakesList, MakesMapping, MakesMatch, MakesRange, MakesWhile, NamesParameter, OpensLoop, Performs, ReadsElement, ReadsField, ReadsName, ReadsOptional, ReadsStored, ReadsStoredField, Receives, Returns, ReturnsNil, Sends, SendsAndWaits, Splits, Starts, Stops, Stores, Switches, TakesKey, Tests, Traps, Turns, UpdatesElement, UpdatesField, UpdatesName, WaitsForAll, WaitsForAny, WantsCounter, WantsErrorToo, WantsResult, Widens, WidensItem}
use Rattle.need_values.specs.declared.values.ValueNeed.{ValueNeed}
use Rattle.need_values.specs.declared.values.ValueNeed.TheVariants as value
use Rattle.need_values.specs.declared.operators.OperatorNeed.{OperatorNeed}
use Rattle.need_values.specs.declared.operators.OperatorNeed.TheVariants as operator
use Rattle.need_values.specs.declared.members.MemberNeed.{MemberNeed}
use Rattle.need_values.specs.declared.members.MemberNeed.TheVariants as member
use Rattle.need_values.specs.declared.structures.StructureNeed.{StructureNeed}
use Rattle.need_values.specs.declared.structures.StructureNeed.TheVariants as structure
use Rattle.need_values.specs.declared.calls.CallNeed.{CallNeed}
use Rattle.need_values.specs.declared.calls.CallNeed.TheVariants as call
use Rattle.need_values.specs.declared.units.UnitNeed.{UnitNeed}
use Rattle.need_values.specs.declared.units.UnitNeed.TheVariants as unit
use Rattle.need_values.specs.declared.actions.ActionNeed.{ActionNeed}
use Rattle.need_values.specs.declared.actions.ActionNeed.TheVariants as action
use Rattle.need_values.specs.declared.statements.StmtNeed.{StmtNeed}
use Rattle.need_values.specs.declared.statements.StmtNeed.TheVariants as statement
use Rattle.need_values.specs.declared.loops.LoopNeed.{LoopNeed}
use Rattle.need_values.specs.declared.loops.LoopNeed.TheVariants as loop

-- names, literals, conditions, and what is wanted
abbrev pub value_need : ValueNeed → Need
value_need (value.Fails code at) = Fails code at
value_need (value.IsWanted at) = IsWanted at
value_need (value.Describes tree) = Describes tree.now
value_need value.WantsErrorToo = WantsErrorToo
value_need value.DropsWant = DropsWant
value_need (value.GivesLiteral literal) = GivesLiteral literal.now
value_need (value.GivesNamed name) = GivesNamed name.now
value_need (value.Decides at) = Decides at
value_need (value.Splits holds) = Splits holds
value_need value.Switches = Switches
value_need (value.Turns at) = Turns at
value_need (value.Conjoins at) = Conjoins at
value_need (value.Disjoins at) = Disjoins at
value_need (value.Chooses at) = Chooses at
value_need (value.FillsNil at) = FillsNil at
value_need (value.Tests operand at) = Tests (read_expr operand.now).name at
value_need (value.Encloses at) = Encloses at
value_need (value.Widens at) = Widens at
value_need value.WantsResult = WantsResult

-- operators, casts, `check` and `trap`
abbrev pub operator_need : OperatorNeed → Need
operator_need (operator.IsOf kind at) = IsOf kind at
operator_need (operator.Forms op count kind at) = Forms op count kind at
operator_need (operator.IsSort at) = IsSort at
operator_need (operator.Adds at) = Adds at
operator_need (operator.Compares op at) = Compares op at
operator_need (operator.Casts at) = Casts at
operator_need (operator.Checks at) = Checks at
operator_need (operator.ChecksPanicking at) = ChecksPanicking at
operator_need (operator.Traps at) = Traps at

-- members, read and stored
abbrev pub member_need : MemberNeed → Need
member_need (member.IsAccessed texts at) = IsAccessed texts at
member_need (member.IsIndex at) = IsIndex at
member_need (member.ReadsElement at) = ReadsElement at
member_need (member.ReadsField field at) = ReadsField field.now at
member_need (member.ReadsOptional field at) = ReadsOptional field.now at
member_need (member.HasField field) = HasField field.now
member_need (member.ExpectsStored at) = ExpectsStored at
member_need (member.Stores at) = Stores at
member_need (member.ReadsStored at) = ReadsStored at
member_need (member.ReadsStoredField field at) = ReadsStoredField field.now at
member_need (member.IsOperand op at) = IsOperand op at
member_need (member.UpdatesElement op at) = UpdatesElement op at
member_need (member.UpdatesField field op at) = UpdatesField field.now op at

-- constructors
abbrev pub structure_need : StructureNeed → Need
structure_need (structure.ChoosesList expected items at) = ChoosesList expected (map (λ i. i.literal) (map read_expr items.now)) at
structure_need (structure.ChoosesMapping expected members at) = ChoosesMapping expected (map seen_of (map read_member members.now)) at
structure_need structure.BeginsKeys = BeginsKeys
structure_need (structure.GivesKey key at) = GivesKey key.now at
structure_need (structure.TakesKey key at) = TakesKey key.now at
structure_need structure.ComputesKey = ComputesKey
structure_need structure.ExpectsItem = ExpectsItem
structure_need structure.ExpectsMember = ExpectsMember
structure_need (structure.IsItem at) = IsItem at
structure_need (structure.IsMember at) = IsMember at
structure_need (structure.IsDetail at) = IsDetail at
structure_need (structure.LacksCause at) = LacksCause at
structure_need (structure.MakesList count at) = MakesList count at
structure_need (structure.MakesMapping count at) = MakesMapping count at
structure_need (structure.MakesError count at) = MakesError count at

-- calls
abbrev pub call_need : CallNeed → Need
call_need (call.CallsNamed started name count at) = CallsNamed started name.now count at
call_need call.CallsValue = CallsValue
call_need (call.CallsMethod method count at) = CallsMethod method.now count at
call_need (call.ExpectsArgument at) = ExpectsArgument at
call_need (call.IsArgument at) = IsArgument at
call_need (call.MakesCall at) = MakesCall at
call_need (call.Starts here at) = Starts here at
call_need (call.IsIgnorable at) = IsIgnorable at
call_need (call.Performs form count at) = Performs form count at

-- functions, workers, initial values and modules
abbrev pub unit_need : UnitNeed → Need
unit_need unit.BeginsAnonymous = BeginsAnonymous
unit_need (unit.HasParameter name) = HasParameter name.now
unit_need (unit.HasRest name) = HasRest name.now
unit_need (unit.BeginsValue value) = BeginsValue (members (read_expr value.now).used)
unit_need (unit.MakesAnonymous isolated at) = MakesAnonymous isolated at
unit_need (unit.EntersFile number file) = EntersFile number file
unit_need (unit.BeginsFunction d) = BeginsFunction d.now
unit_need (unit.NamesParameter name body) = NamesParameter name.now (is_among name.now.name (assigned_in_body body.now))
unit_need (unit.EndsFunction d close) = EndsFunction d.now close
unit_need (unit.EndsValueFunction d) = EndsValueFunction d.now
unit_need (unit.BeginsWorker worker number) = BeginsWorker worker.now number (members (used_in_block worker.now.body))
unit_need (unit.EndsWorker worker) = EndsWorker worker.now (out-Block worker.now.body).close
unit_need (unit.BeginsInitial d kept) = BeginsInitial d.now kept
unit_need (unit.EndsInitial d kept) = EndsInitial d.now kept
unit_need (unit.EndsModule number) = EndsModule number
unit_need (unit.IsConstant d) = IsConstant d.now

-- messages and waits
abbrev pub action_need : ActionNeed → Need
action_need (action.Awaits name) = Awaits name.now
action_need (action.WaitsForAny names at) = WaitsForAny names.now at
action_need (action.WaitsForAll members at) = WaitsForAll (map (λ m. m.name) members.now) at
action_need (action.Receives expected peer at) = Receives expected peer.now at
action_need (action.Sends peer at) = Sends peer.now at
action_need (action.SendsAndWaits peer at) = SendsAndWaits peer.now at
action_need (action.Flushes peer at) = Flushes peer.now at

-- declarations, assignments, blocks and what ends them
abbrev pub stmt_need : StmtNeed → Need
stmt_need (statement.IsNew name) = IsNew name.now
stmt_need (statement.Declares name is_final around at) = Declares name.now.name is_final (is_among name.now.name (within around).behind) at
stmt_need (statement.IsAssignable name) = IsAssignable name.now
stmt_need (statement.Assigns name at) = Assigns name.now at
stmt_need (statement.ReadsName name) = ReadsName name.now
stmt_need (statement.UpdatesName name op at) = UpdatesName name.now op at
stmt_need statement.Stops = Stops
stmt_need (statement.Returns at) = Returns at
stmt_need (statement.ReturnsNil at) = ReturnsNil at
stmt_need (statement.Breaks at) = Breaks at
stmt_need (statement.Continues at) = Continues at
stmt_need statement.BeginsBlock = BeginsBlock
stmt_need statement.EndsBlock = EndsBlock
stmt_need (statement.MakesBlock at) = MakesBlock at
stmt_need (statement.MakesIf at) = MakesIf at
stmt_need (statement.Heads body) = Heads (members (assigned_in_block body.now))
stmt_need statement.OpensLoop = OpensLoop
stmt_need (statement.MakesWhile leaves at) = MakesWhile leaves at

-- loops over lists and ranges, and matches
abbrev pub loop_need : LoopNeed → Need
loop_need (loop.IsItemOfLoop at) = IsItemOfLoop at
loop_need (loop.WidensItem at) = WidensItem at
loop_need (loop.IsCounter at) = IsCounter at
loop_need loop.WantsCounter = WantsCounter
loop_need (loop.HasItem name body) = HasItem name.now.name (is_among name.now.name (members (assigned_in_block body.now)))
loop_need (loop.MakesForeach at) = MakesForeach at
loop_need (loop.MakesRange op at) = MakesRange op at
loop_need (loop.BeginsMatch value) = BeginsMatch (read_expr value.now).name (read_expr value.now).at
loop_need (loop.HasPattern pattern) = HasPattern pattern.now
loop_need (loop.BeginsClause any) = BeginsClause any
loop_need (loop.EndsClause at) = EndsClause at
loop_need (loop.MakesMatch any at) = MakesMatch any at
