-- What a frame of well-typed code asks for fits, whatever its command is, and something comes.
use Rattle.std.proofs.Common.{◌≡◌, ℕ, List, Option, Some, None, refl, sym, subst}
use Rattle.std.specs.Prelude.{IsSomeAnd}
use Rattle.operations.specs.declared.operation.Operation.{Operation}
use Rattle.operations.specs.declared.operation.Operation.TheVariants as op
use Rattle.value_model.specs.declared.filler.Filler.{Filler}
use Rattle.value_model.specs.Meaning.{Answers}
use Rattle.op_model.specs.Common.{Common}
use Rattle.op_model.specs.Effects.{Enters, Leaves}
use Rattle.op_model.specs.Performs.{Performs}
use Rattle.machine_model.specs.Keeping.{AskFits}
use Rattle.machine_model.specs.Machine.{Ask, Frame}
use Rattle.machine_model.specs.Runs.{Running}
use Rattle.stack_code.specs.declared.code.Code.{Code}
use Rattle.stack_code.specs.CodeMachine.{Standing, code_facts, codes}
use Rattle.stack_code.specs.Commands.{CloseTrap, Command, Do, GoTo, GoToIfNot, OpenTrap, command_at}
use Rattle.stack_code.specs.Flow.{IsTypedBy}
use Rattle.stack_code.specs.Frames.{TopFits}
use Rattle.stack_code.specs.Good.{GoodCommon, code_invariant}
use Rattle.stack_code.specs.WellTyped.{WellTyped}
use Rattle.code_keeping.specs.Laws.{AskComes, AskedComes, GoesOn, IsDone, IsDoneAt}
use Rattle.code_keeping.specs.Rows.{Comes}
use Rattle.code_keeping.proofs.Asks.{strict-operations-come}
use Rattle.code_keeping.proofs.Calling.{calls-keep}
use Rattle.code_keeping.proofs.Done.{numbers-and-texts-are-done, takes-all, tests-are-done, variables-are-done}
use Rattle.code_keeping.proofs.Operands.{one-fit, one-long}
use Rattle.code_keeping.proofs.Panicking.{panics-are-done}
use Rattle.code_keeping.proofs.Places.{at-place, typed-in}
use Rattle.code_keeping.proofs.Returning.{returns-keep}
use Rattle.code_keeping.proofs.Unstuck.{never-stuck}
use Rattle.code_keeping_calls.proofs.Calls.{values-are-called, values-are-started}
use Rattle.code_keeping_heap.proofs.Done.{constructors-are-done, reads-are-done}
use Rattle.code_keeping_sends.proofs.Done.{sends-are-done}
use Rattle.code_keeping_starts.proofs.Starting.{starts-are-done}
use Rattle.code_keeping_fillers.proofs.Done.{item-stores-are-done}
use Rattle.code_keeping_stores.proofs.Done.{key-stores-are-done}
use Rattle.code_keeping_talk.proofs.Done.{receives-are-done}
use Rattle.code_keeping_waits.proofs.All.{multiple-waits-are-done}
use Rattle.code_keeping_waits.proofs.Any.{alternate-waits-are-done}
use Rattle.code_keeping_waits.proofs.One.{single-waits-are-done}
use Rattle.code_keeping_workers.proofs.Named.{workers-are-started}
use Rattle.code_keeping_all.specs.Laws.{FillersAreKnown, LibraryIsDone}

module _ (natives : Answers) (fillers : ℕ → List Filler) (code : Code) (t : WellTyped code) (c : Common) where
  -- a unit is entered, and a value is returned
  call-comes : (unit count : ℕ) → AskedComes fillers natives code c (op.Call unit count)
  call-comes unit count =
      strict-operations-come natives fillers code c (op.Call unit count) t (takes-all count (op.Call unit count) (λ captured l. refl) (λ code place os r h. h.0))
      (λ u station names operands result vs caller good typed fit never. never (Enters unit vs c) refl)

  return-comes : AskedComes fillers natives code c op.Return
  return-comes =
      strict-operations-come natives fillers code c op.Return t (takes-all 1 op.Return (λ captured l. refl) (λ code place os r h. one-long os _ h.0))
      (λ u station names operands result vs caller good typed fit.
      one-fit code c (λ us. Comes (Performs (code_facts fillers code) natives op.Return us caller c)) operands vs _ typed.0 fit (λ a v below f never. never (Leaves v) refl))

  module _ (knows : FillersAreKnown fillers code) (library : LibraryIsDone fillers natives code) (depth : ℕ) (good : GoodCommon code c Running) (f : Frame Standing) (fits : TopFits code c f) where
    abbrev p : ℕ
    p = f.control.place

    abbrev look : Ask Standing
    look = (codes fillers code).look f.unit f.control

    abbrev Both : Ask Standing → Type 0
    Both ask = AskFits natives (codes fillers code) (code_invariant code) c depth f ask × AskComes natives (code_facts fillers code) c depth f ask

    by-itself : GoesOn code fillers c f → Both look
    by-itself (next, is, fit) = subst Both (sym is) (fit, tt)

    done-at : (o : Operation) → IsDoneAt fillers natives code c o → command_at code p ≡ Some (Do o) → Both look
    done-at o h ec = (h.0 depth f good fits ec, h.1 depth f good fits ec)

    done : (o : Operation) → IsDone fillers natives o → command_at code p ≡ Some (Do o) → Both look
    done o h ec = done-at o (h code c t) ec

    of-operation : (o : Operation) → command_at code p ≡ Some (Do o) → Both look
    of-operation (op.Const k) ec = by-itself ((never-stuck code fillers c f t good fits).0 k ec)
    of-operation (op.Store slot) ec = by-itself ((never-stuck code fillers c f t good fits).1 slot ec)
    of-operation op.Pop ec = by-itself ((never-stuck code fillers c f t good fits).2 ec)
    of-operation (op.Load slot) ec = done (op.Load slot) ((variables-are-done natives fillers).2 slot) ec
    of-operation (op.LoadModule m) ec = done (op.LoadModule m) ((variables-are-done natives fillers).1 m).0 ec
    of-operation (op.StoreModule m) ec = done (op.StoreModule m) ((variables-are-done natives fillers).1 m).1 ec
    of-operation op.Tick ec = done op.Tick (variables-are-done natives fillers).0 ec
    of-operation op.Add ec = done op.Add (numbers-and-texts-are-done natives fillers).0 ec
    of-operation op.Subtract ec = done op.Subtract (numbers-and-texts-are-done natives fillers).1 ec
    of-operation op.Multiply ec = done op.Multiply (numbers-and-texts-are-done natives fillers).2 ec
    of-operation op.Divide ec = done op.Divide (numbers-and-texts-are-done natives fillers).3 ec
    of-operation op.Remainder ec = done op.Remainder (numbers-and-texts-are-done natives fillers).4 ec
    of-operation op.Negate ec = done op.Negate (numbers-and-texts-are-done natives fillers).5 ec
    of-operation op.Concat ec = done op.Concat (numbers-and-texts-are-done natives fillers).6 ec
    of-operation op.GetChar ec = done op.GetChar (numbers-and-texts-are-done natives fillers).7 ec
    of-operation op.Less ec = done op.Less (tests-are-done natives fillers).0 ec
    of-operation op.LessEqual ec = done op.LessEqual (tests-are-done natives fillers).1 ec
    of-operation op.Not ec = done op.Not (tests-are-done natives fillers).2 ec
    of-operation op.Equal ec = done op.Equal (tests-are-done natives fillers).3 ec
    of-operation op.Same ec = done op.Same (tests-are-done natives fillers).4 ec
    of-operation (op.Test s) ec = done (op.Test s) ((tests-are-done natives fillers).5 s).0 ec
    of-operation (op.Cast s) ec = done (op.Cast s) ((tests-are-done natives fillers).5 s).1 ec
    of-operation (op.MakeFunction unit count) ec = done (op.MakeFunction unit count) ((constructors-are-done natives fillers).0 unit count) ec
    of-operation (op.MakeList atom immutable count) ec = done (op.MakeList atom immutable count) ((constructors-are-done natives fillers).1 atom count immutable) ec
    of-operation (op.MakeMapping atom immutable count) ec = done (op.MakeMapping atom immutable count) ((constructors-are-done natives fillers).2 atom count immutable) ec
    of-operation (op.MakeError count) ec = done (op.MakeError count) ((constructors-are-done natives fillers).3 count) ec
    of-operation op.GetItem ec = done op.GetItem (reads-are-done natives fillers).0 ec
    of-operation op.GetKey ec = done op.GetKey (reads-are-done natives fillers).1 ec
    of-operation (op.GetField name) ec = done (op.GetField name) ((reads-are-done natives fillers).2 name) ec
    of-operation (op.GetOptional name) ec = done (op.GetOptional name) ((reads-are-done natives fillers).3 name) ec
    of-operation op.SetItem ec = done-at op.SetItem (item-stores-are-done natives fillers code c t knows) ec
    of-operation op.SetKey ec = done op.SetKey (key-stores-are-done natives fillers) ec
    of-operation (op.Call unit count) ec = (calls-keep natives fillers unit count code c t depth f good fits ec, call-comes unit count depth f good fits ec)
    of-operation (op.CallValue count) ec = done (op.CallValue count) (values-are-called natives fillers count) ec
    of-operation (op.Library call atom count) ec = done-at (op.Library call atom count) (library c call atom count) ec
    of-operation op.Return ec = (returns-keep natives fillers code c t depth f good fits ec, return-comes depth f good fits ec)
    of-operation op.Panic ec = done op.Panic (panics-are-done natives fillers) ec
    of-operation (op.Start unit count) ec = done (op.Start unit count) (starts-are-done natives fillers unit count) ec
    of-operation (op.StartValue count) ec = done (op.StartValue count) (values-are-started natives fillers count) ec
    of-operation op.Workers ec = done op.Workers (workers-are-started natives fillers) ec
    of-operation (op.Send w) ec = done (op.Send w) (sends-are-done natives fillers w).0 ec
    of-operation (op.Post w) ec = done (op.Post w) (sends-are-done natives fillers w).1 ec
    of-operation (op.Receive w) ec = done (op.Receive w) (receives-are-done natives fillers w).0 ec
    of-operation (op.Flush w) ec = done (op.Flush w) (receives-are-done natives fillers w).1 ec
    of-operation (op.Done w) ec = done (op.Done w) (receives-are-done natives fillers w).2 ec
    of-operation (op.WaitWorker w) ec = done (op.WaitWorker w) ((single-waits-are-done natives fillers).0 w) ec
    of-operation op.WaitFuture ec = done op.WaitFuture (single-waits-are-done natives fillers).1 ec
    of-operation (op.WaitAny names) ec = done (op.WaitAny names) (alternate-waits-are-done natives fillers names) ec
    of-operation (op.WaitAll atom names) ec = done (op.WaitAll atom names) (multiple-waits-are-done natives fillers atom names) ec

    of-command : (command : Option Command) → command_at code p ≡ command → Both look
    of-command (Some (Do o)) ec = of-operation o ec
    of-command (Some (GoTo to)) ec = by-itself ((never-stuck code fillers c f t good fits).3 to ec)
    of-command (Some (GoToIfNot to)) ec = by-itself ((never-stuck code fillers c f t good fits).4 to ec)
    of-command (Some (OpenTrap to)) ec = by-itself ((never-stuck code fillers c f t good fits).5 to ec)
    of-command (Some CloseTrap) ec = by-itself ((never-stuck code fillers c f t good fits).6 ec)
    of-command None ec =
        let at = at-place code c f fits.0 in
        let typed = typed-in code t f.unit at.u at.is at.station at.stationed p at.here.0 in
        absurd (subst (λ o. IsSomeAnd o (IsTypedBy code at.u at.station p)) ec typed.command)

    pub asks-done : Both look
    asks-done = of-command (command_at code p) refl
