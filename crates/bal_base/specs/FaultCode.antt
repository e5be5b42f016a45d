-- The numbers of the faults, as they are printed.
use Rattle.std.specs.Prelude.{ℕ}
use Rattle.bal_base.specs.declared.fault.FaultCode.{FaultCode}
use Rattle.bal_base.specs.declared.fault.FaultCode.TheVariants.{NotUtf8, BadToken, Syntax, Depth, LeftOut, NotBuilt, NoModule, ImportCycle, Duplicate, Unknown, NotPublic, IllFounded, TypeLimit, AtomLimit, NoMain, FileTooLong, BadManifest, TooLarge, NotSubtype, Arity, NoField, AssignFinal, Captured, MissingReturn, BadBreak, Ignored, BadMain, NotIsolated, ReadOnlyHolds, NoChoice, NeedsType, Conditional, Unpaired, SuccessBefore, WaitCycle, NameAsValue, NoPeer, BadMessage, WorkerLimit, CodeLimit, TestLimit}

abbrev pub code_number : FaultCode → ℕ
code_number NotUtf8 = 101
code_number BadToken = 102
code_number Syntax = 103
code_number Depth = 104
code_number LeftOut = 105
code_number NotBuilt = 199
code_number NoModule = 201
code_number ImportCycle = 202
code_number Duplicate = 203
code_number Unknown = 204
code_number NotPublic = 205
code_number IllFounded = 206
code_number TypeLimit = 207
code_number AtomLimit = 208
code_number NoMain = 209
code_number FileTooLong = 211
code_number BadManifest = 212
code_number TooLarge = 213
code_number NotSubtype = 301
code_number Arity = 302
code_number NoField = 303
code_number AssignFinal = 304
code_number Captured = 305
code_number MissingReturn = 306
code_number BadBreak = 307
code_number Ignored = 308
code_number BadMain = 309
code_number NotIsolated = 310
code_number ReadOnlyHolds = 311
code_number NoChoice = 312
code_number NeedsType = 313
code_number Conditional = 401
code_number Unpaired = 402
code_number SuccessBefore = 403
code_number WaitCycle = 404
code_number NameAsValue = 405
code_number NoPeer = 406
code_number BadMessage = 407
code_number WorkerLimit = 408
code_number CodeLimit = 501
code_number TestLimit = 502
