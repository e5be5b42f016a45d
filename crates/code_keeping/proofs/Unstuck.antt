-- What a frame does by itself is never stuck: it goes on, and fits there.
use Rattle.std.proofs.Common.{◌≡◌, ◌≢◌, ◌+◌, ◌∙◌, ℕ, true, false, List, [], ◌∷◌, ◌++◌, Option, Some, None, reverse, refl, sym, ap, subst}
use Rattle.std.specs.Prelude.{IsSomeAnd}
use Rattle.std.specs.List.{AllZip}
use Rattle.type_model.specs.declared.basic.SemType.{SemType}
use Rattle.operations.specs.declared.operation.Operation.{Operation}
use Rattle.operations.specs.declared.operation.Operation.TheVariants as op
use Rattle.operations.specs.Rows.{One}
use Rattle.value_model.specs.declared.filler.Filler.{Filler}
use Rattle.value_model.specs.declared.value.Value.{Value}
use Rattle.value_model.specs.declared.value.Value.TheVariants.{Bool as Truth}
use Rattle.op_model.specs.Common.{Common}
use Rattle.op_model.specs.Local.{Local, acts, constant_value, dropped, pushed, stored, with_stack}
use Rattle.machine_model.specs.Machine.{Ask, Frame, On, asks, captured_slots}
use Rattle.machine_model.specs.Runs.{Running}
use Rattle.stack_code.specs.declared.code.Code.{Code}
use Rattle.stack_code.specs.CodeMachine.{OpenedTrap, Standing, branches, closes, code_facts, codes, obeys, standing}
use Rattle.stack_code.specs.Commands.{CloseTrap, Command, Do, GoTo, GoToIfNot, OpenTrap, command_at}
use Rattle.stack_code.specs.Flow.{BranchesTyped, DoesTyped, IsTypedBy}
use Rattle.stack_code.specs.Frames.{TopFits, TrapFits}
use Rattle.stack_code.specs.Good.{GoodCommon}
use Rattle.stack_code.specs.Places.{traps_at}
use Rattle.stack_code.specs.Values.{AllFit}
use Rattle.stack_code.specs.WellTyped.{WellTyped}
use Rattle.code_keeping.specs.Kinds.{Booleans}
use Rattle.code_keeping.specs.Laws.{GoesOn, IsNeverStuck}
use Rattle.code_keeping.proofs.Itself.{goes-on-by-itself}
use Rattle.code_keeping.proofs.Lists.{of-some, some-there}
use Rattle.code_keeping.proofs.Moving.{one-off}
use Rattle.code_keeping.proofs.OfKind.{of-kind}
use Rattle.code_keeping.proofs.Operands.{a-boolean, booleans}
use Rattle.code_keeping.proofs.Places.{IsAt, at-place, typed-by, typed-in}

module _ (code : Code) (fillers : ℕ → List Filler) (t : WellTyped code) (c : Common) (good : GoodCommon code c Running) (f : Frame Standing) (fits : TopFits code c f) (at : IsAt code c f) where
  abbrev p : ℕ
  p = f.control.place

  abbrev l : Local
  l = f.control.local

  abbrev traps : List OpenedTrap
  traps = f.control.traps

  typed : (command : Command) → command_at code p ≡ Some command → IsTypedBy code at.u at.station p command
  typed command ec = typed-by code at.u at.station p command ec (typed-in code t f.unit at.u at.is at.station at.stationed p at.here.0)

  look-is : (command : Command) → command_at code p ≡ Some command → (codes fillers code).look f.unit f.control ≡ obeys (captured_slots (code_facts fillers code) f.unit) f.control (Some command)
  look-is command ec = ap (λ o. obeys (captured_slots (code_facts fillers code) f.unit) f.control o) ec

  goes : (next : Standing) → (codes fillers code).look f.unit f.control ≡ On next → GoesOn code fillers c f
  goes next e = (next, e, goes-on-by-itself code fillers c f next t good.nearly.heap.closed fits e)

  -- with one operand taken off
  with-one : (o : Operation) (ec : command_at code p ≡ Some (Do o)) (P : SemType → Type 0) → (d : DoesTyped code at.u at.station p o) → One d.operands P → ((v : Value) (below : List Value) → l.stack ≡ v ∷ below → GoesOn code fillers c f) → GoesOn code fillers c f
  with-one o ec P d row k = by d.operands refl row
    where
      by : (os : List SemType) → d.operands ≡ os → One os P → GoesOn code fillers c f
      by (a ∷ []) is h = let one = one-off code c l.stack d.rest a (subst (λ ts. AllFit code c (reverse l.stack) ts) (d.stack ∙ ap (λ os. d.rest ++ os) is) fits.1) in k one.value one.below one.is
      by [] is h = absurd h
      by (a ∷ b ∷ os) is h = absurd h

  branch-goes : (to : ℕ) → command_at code p ≡ Some (GoToIfNot to) → GoesOn code fillers c f
  branch-goes to ec =
      let b : BranchesTyped code at.u at.station p to = typed (GoToIfNot to) ec in
      let one = one-off code c l.stack b.rest b.condition (subst (λ ts. AllFit code c (reverse l.stack) ts) b.stack fits.1) in
      a-boolean c.world.heap (λ v. l.stack ≡ v ∷ one.below → GoesOn code fillers c f) one.value (of-kind code t c good.nearly.heap (λ k. k ≡ Booleans) one.value b.condition one.fits (λ x h. booleans x (b.boolean x h)))
      (λ truth is. by truth one.below (look-is (GoToIfNot to) ec ∙ ap (λ s. branches (p + 1) to traps l s) is)) one.is
    where
      by : (truth : _) (below : List Value) → (codes fillers code).look f.unit f.control ≡ branches (p + 1) to traps l (Truth truth ∷ below) → GoesOn code fillers c f
      by true below e = goes (standing (p + 1) traps (with_stack l below)) e
      by false below e = goes (standing to traps (with_stack l below)) e

  close-goes : command_at code p ≡ Some CloseTrap → GoesOn code fillers c f
  close-goes ec =
      let (ts, et, held) = some-there _ (traps_at code at.u p) at.here.2 in
      let open-trap : ts ≢ [] = of-some (λ ts. ts ≢ []) (traps_at code at.u p) ts et (typed CloseTrap ec).0 in
      by traps ts held open-trap (look-is CloseTrap ec)
    where
      by : (others : List OpenedTrap) (ts : List ℕ) → AllZip (TrapFits code c l.stack) others ts → ts ≢ [] → (codes fillers code).look f.unit f.control ≡ closes (p + 1) others l → GoesOn code fillers c f
      by (trap ∷ others) ts held ne e = goes (standing (p + 1) others l) e
      by [] [] held ne e = absurd (ne refl)
      by [] (k ∷ ts) held ne e = absurd held

  pub goes-on : IsNeverStuck code fillers c f
  goes-on = (
    (λ k ec. goes (standing (p + 1) traps (pushed l (constant_value k))) (look-is (Do (op.Const k)) ec)),
    (λ slot ec. let d = typed (Do (op.Store slot)) ec in with-one (op.Store slot) ec _ d d.typed.0 (λ v below is. goes _ (look-is (Do (op.Store slot)) ec ∙ ap (λ s. asks (standing (p + 1) traps) (stored l slot s)) is))),
    (λ ec. let d = typed (Do op.Pop) ec in with-one op.Pop ec _ d d.typed (λ v below is. goes _ (look-is (Do op.Pop) ec ∙ ap (λ s. asks (standing (p + 1) traps) (dropped l s)) is))),
    (λ to ec. goes (standing to traps l) (look-is (GoTo to) ec)),
    branch-goes,
    (λ to ec. goes (standing (p + 1) (record { landing = to; below = l.stack } ∷ traps) l) (look-is (OpenTrap to) ec)),
    close-goes,
  )

pub never-stuck : (code : Code) (fillers : ℕ → List Filler) (c : Common) (f : Frame Standing) → WellTyped code → GoodCommon code c Running → TopFits code c f → IsNeverStuck code fillers c f
never-stuck code fillers c f t good fits = goes-on code fillers t c good f fits (at-place code c f fits.0)
