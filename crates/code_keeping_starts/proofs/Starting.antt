-- What a frame asks for at a start: a strand more begins the unit with its arguments, and its future is given.
use Rattle.std.proofs.Common.{◌≡◌, ◌≢◌, ◌∙◌, ◌+◌, ℕ, Bool, true, false, List, [], ◌∷◌, ◌++◌, Some, None, inl, length, reverse, refl, sym, ap, subst, arith}
use Rattle.std.proofs.lemmas.List.{append-nil}
use Rattle.std.specs.Prelude.{if◌then◌else◌, nat_lt, option_map, option_to_list, slice_get}
use Rattle.bal_base.specs.declared.fault.LimitKind.TheVariants.{Strands}
use Rattle.type_model.specs.declared.basic.SemType.{Atom}
use Rattle.type_model.specs.Membership.{In}
use Rattle.operations.specs.declared.operation.Operation.{Operation}
use Rattle.operations.specs.declared.operation.Operation.TheVariants as op
use Rattle.operations.specs.Rows.{AreBelow, ResultHas}
use Rattle.value_model.specs.declared.filler.Filler.{Filler}
use Rattle.value_model.specs.declared.value.Value.{Value}
use Rattle.value_model.specs.declared.value.Value.TheVariants.{Future}
use Rattle.value_model.specs.Meaning.{Answers}
use Rattle.op_model.specs.CallRows.{starts}
use Rattle.op_model.specs.Common.{Common, Strand}
use Rattle.op_model.specs.Effects.{Beyond, Effect, Spawns}
use Rattle.op_model.specs.Limits.{most_strands}
use Rattle.op_model.specs.Local.{Local, takes, with_stack}
use Rattle.op_model.specs.Strands.{strand_made}
use Rattle.machine_model.specs.Keeping.{AskFits, EffectFits}
use Rattle.machine_model.specs.Machine.{Ask, Frame, asks, captured_slots}
use Rattle.machine_model.specs.Runs.{Running}
use Rattle.machine_model.proofs.Once.{some-same}
use Rattle.stack_code.specs.declared.code.Code.{Code}
use Rattle.stack_code.specs.declared.code.Unit.{Unit as CodeUnit}
use Rattle.stack_code.specs.CodeMachine.{Standing, code_facts, codes, entry, obeys, standing}
use Rattle.stack_code.specs.Commands.{Do, command_at}
use Rattle.stack_code.specs.Flow.{DoesTyped}
use Rattle.stack_code.specs.Frames.{TallyIs, TopFits}
use Rattle.stack_code.specs.Good.{GoodCommon, code_invariant}
use Rattle.stack_code.specs.Places.{IsStation, IsWorkerUnit, Station, tally_at}
use Rattle.stack_code.specs.Tables.{IsCallable}
use Rattle.stack_code.specs.Values.{AllFit, Fits, code_types}
use Rattle.stack_code.specs.WellTyped.{WellTyped}
use Rattle.code_keeping.specs.Laws.{AskComes}
use Rattle.code_keeping.proofs.Calling.{signature-at}
use Rattle.code_keeping.proofs.Doing.{quietly-behind}
use Rattle.code_keeping.proofs.Entering.{begins, entry-in}
use Rattle.code_keeping.proofs.Growing.{one-given}
use Rattle.code_keeping.proofs.Lists.{at-some, of-some}
use Rattle.code_keeping.proofs.Places.{IsAt, at-place, first-of-crew, typed-by, typed-in}
use Rattle.code_keeping.proofs.Shapes.{get-map}
use Rattle.code_keeping.proofs.Staying.{above, all-later}
use Rattle.code_keeping.proofs.Taking.{take-operands}
use Rattle.code_keeping_starts.specs.Laws.{StartsAreDone}
use Rattle.code_keeping_starts.proofs.Spawning.{d, good-so, later, many, new, new-there}

-- the first frame of a strand that is made for a unit that is no worker's, with arguments that fit
module _ (code : Code) (t : WellTyped code) (c : Common) (unit : ℕ) (g : CodeUnit) (eg : slice_get code.units unit ≡ Some g) (no-worker : ¬ (IsWorkerUnit code unit)) where
  abbrev station : Station
  station = record { function = unit; worker = 0 }

  stationed : IsStation code unit station
  stationed = (first-of-crew code unit g eg, λ z. no-worker)

  first-frame : (args : List Value) → AllFit code c args (g.params ++ g.captured) → TopFits code c (record { unit = unit; role = None; control = entry args g })
  first-frame args fit =
      let none : tally_at code g.first ≡ None = ((((t.places g.first).typed unit g eg (entry-in code t unit g eg) station stationed).1).0 refl).3 no-worker in
      begins code t c unit g eg station stationed args None fit (subst (λ k. TallyIs code c None k) (sym none) tt) no-worker

  pub enters : (fillers : ℕ → List Filler) (args : List Value) → AllFit code c args (g.params ++ g.captured) → (k : Standing) → (codes fillers code).enter unit args ≡ Some k → TopFits code c (record { unit = unit; role = None; control = k })
  enters fillers args fit k e =
      let is : entry args g ≡ k = some-same (entry args g) k (sym (ap (λ o. option_map (entry args) o) eg) ∙ e) in
      subst (λ k. TopFits code c (record { unit = unit; role = None; control = k })) is (first-frame args fit)

module _ (code : Code) (fillers : ℕ → List Filler) (natives : Answers) (t : WellTyped code) (c : Common) (depth : ℕ) (good : GoodCommon code c Running) (f : Frame Standing) (fits : TopFits code c f) (at : IsAt code c f)
    (unit count : ℕ) (ec : command_at code f.control.place ≡ Some (Do (op.Start unit count))) where
  abbrev p : ℕ
  p = f.control.place

  abbrev l : Local
  l = f.control.local

  abbrev o : Operation
  o = op.Start unit count

  abbrev typed : DoesTyped code at.u at.station p o
  typed = typed-by code at.u at.station p (Do o) ec (typed-in code t f.unit at.u at.is at.station at.stationed p at.here.0)

  callable : IsCallable code unit
  callable = ((t.places p).uses f.unit at.u at.is at.here.0).functions o ec 0 unit (omega arith)

  abbrev z : Common
  z = d code c good unit None

  module _ (g : CodeUnit) (eg : slice_get code.units unit ≡ Some g) (below-params : AreBelow code.atoms typed.operands g.params) (has : ResultHas code.atoms typed.result (λ x. In code.atoms x (Atom g.future))) where
    captures-nothing : g.captured ≡ []
    captures-nothing = of-some (λ u. u.captured ≡ []) (slice_get code.units unit) g eg ((((t.places p).uses f.unit at.u at.is at.here.0).named o ec).1 0 unit (omega arith))

    -- strand 0 was there before
    not-first : length c.strands ≢ 0
    not-first e = let l = good.nearly.ready.there in omega (arith, l, e)

    future-fits : AllFit code z (Future (length c.strands) unit ∷ []) (option_to_list typed.result)
    future-fits =
        one-given code z typed.result (λ x. In code.atoms x (Atom g.future)) (Future (length c.strands) unit) has good.nearly.heap.closed
        (tt, tt, (not-first, at-some (λ (s : Strand). (s.unit ≡ unit) × (s.role ≡ None)) (slice_get z.strands (length c.strands)) (new code c good unit None) (new-there code c good unit None) (refl, refl), callable))
        (λ x valid s. of-some (λ u. In code.atoms x (Atom u.1)) (slice_get (code_types code).units unit) (g.arrow, g.future) (get-map (λ (u : CodeUnit). (u.arrow, u.future)) code.units unit ∙ ap (λ o. option_map (λ (u : CodeUnit). (u.arrow, u.future)) o) eg) s)

    abbrev Fit : List Value → Effect → Type 0
    Fit below effect = EffectFits natives (codes fillers code) (code_invariant code) c depth f (standing (p + 1) f.control.traps (with_stack l below)) effect

    begun : (args below : List Value) → l.stack ≡ reverse args ++ below → AllFit code c args typed.operands → AllFit code c (reverse below) typed.rest →
        Fit below (Spawns (record { unit = unit; args = args; role = None } ∷ []) f.role (Future (length c.strands) unit ∷ []) z)
    begun args below is fit others =
        let numbers : AllFit code z args (g.params ++ g.captured) =
        subst (λ ts. AllFit code z args ts) (sym (ap (λ cs. g.params ++ cs) captures-nothing ∙ append-nil g.params)) (all-later code None c z (later code c good unit None None) args g.params (above code c args typed.operands g.params fit below-params)) in (
          good-so code c good unit None,
          refl,
          many code c good unit None,
          (λ q apart. later code c good unit None q),
          inl refl,
          quietly-behind code f at.u at.is at.station o ec typed (λ h. h) refl c z (later code c good unit None f.role) (reverse args) below (Future (length c.strands) unit ∷ []) is others future-fits fits.0,
          (
            (
              (λ k e. enters code t z unit g eg callable.1 fillers args numbers k e),
              tt,
              inl (at-some (λ (s : Strand). s.unit ≡ unit) (slice_get z.strands (length c.strands)) (new code c good unit None) (new-there code c good unit None) refl),
            ),
            tt,
          ),
        )

    started : (args below : List Value) → l.stack ≡ reverse args ++ below → AllFit code c args typed.operands → AllFit code c (reverse below) typed.rest → Fit below (starts c f.role unit args)
    started args below is fit others = by (nat_lt (length c.strands) most_strands)
      where
        by : (b : Bool) → Fit below (if b then Spawns (record { unit = unit; args = args; role = None } ∷ []) f.role (Future (length c.strands) unit ∷ []) (strand_made unit None c) else Beyond Strands)
        by true = begun args below is fit others
        by false = tt

  abbrev Looks : Ask Standing → Type 0
  Looks ask = AskFits natives (codes fillers code) (code_invariant code) c depth f ask × AskComes natives (code_facts fillers code) c depth f ask

  pub start-done : Looks ((codes fillers code).look f.unit f.control)
  start-done =
      let captured = captured_slots (code_facts fillers code) f.unit in
      let (g, eg, row) = signature-at code unit (λ u. AreBelow code.atoms typed.operands u.params × ResultHas code.atoms typed.result (λ x. In code.atoms x (Atom u.future))) typed.typed.1 in
      let taken = take-operands (Fits code c) o l typed.rest typed.operands (subst (λ ts. AllFit code c (reverse l.stack) ts) typed.stack fits.1) in
      subst (λ x. Looks (obeys captured f.control x)) (sym ec)
      (subst (λ a. Looks (asks (standing (p + 1) f.control.traps) a)) (sym (ap (λ n. takes o l n) (sym typed.typed.0) ∙ taken.is)) (
        (λ effect is. subst (λ x. EffectFits natives (codes fillers code) (code_invariant code) c depth f (standing (p + 1) f.control.traps (with_stack l taken.below)) x) (sym is)
            (started g eg row.0 row.1 taken.args taken.below taken.stack taken.fit taken.others)),
        (λ never. never (starts c f.role unit taken.args) refl),
      ))

pub starts-are-done : (natives : Answers) → StartsAreDone natives
starts-are-done natives fillers unit count code c t = (
  (λ depth f good fits ec. (start-done code fillers natives t c depth good f fits (at-place code c f fits.0) unit count ec).0),
  (λ depth f good fits ec. (start-done code fillers natives t c depth good f fits (at-place code c f fits.0) unit count ec).1),
)
