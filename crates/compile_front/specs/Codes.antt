-- Which codes faults of the front have: that of a package without `main`, and those of names, of the checks of bodies, of isolation, and
-- of messages.
use Rattle.std.specs.Prelude.{⊤}
use Rattle.bal_base.specs.declared.fault.FaultCode.{FaultCode}
use Rattle.bal_base.specs.declared.fault.FaultCode.TheVariants.{NotUtf8, BadToken, Syntax, Depth, LeftOut, NotBuilt, NoModule, ImportCycle, Duplicate, Unknown, NotPublic, IllFounded, TypeLimit, AtomLimit, NoMain, FileTooLong, BadManifest, TooLarge, NotSubtype, Arity, NoField, AssignFinal, Captured, MissingReturn, BadBreak, Ignored, BadMain, NotIsolated, ReadOnlyHolds, NoChoice, NeedsType, Conditional, Unpaired, SuccessBefore, WaitCycle, NameAsValue, NoPeer, BadMessage, WorkerLimit, CodeLimit, TestLimit}

abbrev pub IsFrontCode : FaultCode → Type 0
IsFrontCode NotUtf8 = ⊥
IsFrontCode BadToken = ⊥
IsFrontCode Syntax = ⊥
IsFrontCode Depth = ⊥
IsFrontCode LeftOut = ⊥
IsFrontCode NotBuilt = ⊥
IsFrontCode NoModule = ⊥
IsFrontCode ImportCycle = ⊥
IsFrontCode Duplicate = ⊤
IsFrontCode Unknown = ⊤
IsFrontCode NotPublic = ⊤
IsFrontCode IllFounded = ⊤
IsFrontCode TypeLimit = ⊤
IsFrontCode AtomLimit = ⊤
IsFrontCode NoMain = ⊤
IsFrontCode FileTooLong = ⊥
IsFrontCode BadManifest = ⊥
IsFrontCode TooLarge = ⊥
IsFrontCode NotSubtype = ⊤
IsFrontCode Arity = ⊤
IsFrontCode NoField = ⊤
IsFrontCode AssignFinal = ⊤
IsFrontCode Captured = ⊤
IsFrontCode MissingReturn = ⊤
IsFrontCode BadBreak = ⊤
IsFrontCode Ignored = ⊤
IsFrontCode BadMain = ⊤
IsFrontCode NotIsolated = ⊤
IsFrontCode ReadOnlyHolds = ⊤
IsFrontCode NoChoice = ⊤
IsFrontCode NeedsType = ⊤
IsFrontCode Conditional = ⊤
IsFrontCode Unpaired = ⊤
IsFrontCode SuccessBefore = ⊤
IsFrontCode WaitCycle = ⊤
IsFrontCode NameAsValue = ⊤
IsFrontCode NoPeer = ⊤
IsFrontCode BadMessage = ⊤
IsFrontCode WorkerLimit = ⊤
IsFrontCode CodeLimit = ⊥
IsFrontCode TestLimit = ⊥
