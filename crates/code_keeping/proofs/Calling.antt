-- What a frame asks for at a call: the unit begins with its arguments, and the frame awaits the result.
use Rattle.std.proofs.Common.{◌≡◌, ◌∙◌, ◌+◌, ℕ, List, [], ◌∷◌, ◌++◌, Option, Some, None, inl, map, reverse, refl, sym, ap, subst, arith}
use Rattle.std.proofs.lemmas.List.{append-nil}
use Rattle.std.specs.Prelude.{IsSomeAnd, option_map, option_to_list, slice_get}
use Rattle.std.specs.List.{AllZip}
use Rattle.type_model.specs.declared.basic.SemType.{SemType}
use Rattle.type_model.specs.Membership.{In}
use Rattle.operations.specs.declared.operation.Operation.{Operation}
use Rattle.operations.specs.declared.operation.Operation.TheVariants as op
use Rattle.operations.specs.Rows.{AreBelow, IsWithin, ResultHas, Signature}
use Rattle.value_model.specs.declared.filler.Filler.{Filler}
use Rattle.value_model.specs.declared.value.Value.{Value}
use Rattle.value_model.specs.Meaning.{Answers}
use Rattle.op_model.specs.Common.{Common}
use Rattle.op_model.specs.Effects.{Enters}
use Rattle.op_model.specs.Local.{Local, takes, with_stack}
use Rattle.machine_model.specs.Keeping.{AskFits, EffectFits}
use Rattle.machine_model.specs.Machine.{Ask, Frame, asks, captured_slots, goes_to}
use Rattle.machine_model.specs.Runs.{Running}
use Rattle.machine_model.proofs.Once.{some-same}
use Rattle.stack_code.specs.declared.code.Code.{Code}
use Rattle.stack_code.specs.declared.code.Unit.{Unit as CodeUnit}
use Rattle.stack_code.specs.CodeMachine.{Standing, code_facts, codes, entry, obeys, standing}
use Rattle.stack_code.specs.Commands.{Do, command_at}
use Rattle.stack_code.specs.Flow.{DoesTyped}
use Rattle.stack_code.specs.Frames.{AwaitsResult, TallyIs, TopFits}
use Rattle.stack_code.specs.Good.{GoodCommon, code_invariant}
use Rattle.stack_code.specs.Messages.{IsBelow}
use Rattle.stack_code.specs.Places.{IsIn, IsStation, IsWorkerUnit, signature_of, stack_at, tally_at}
use Rattle.stack_code.specs.Values.{AllFit, Fits}
use Rattle.stack_code.specs.WellTyped.{WellTyped}
use Rattle.code_keeping.specs.Laws.{CallsKeep}
use Rattle.code_keeping.proofs.Doing.{well-behind}
use Rattle.code_keeping.proofs.Entering.{begins, entry-in}
use Rattle.code_keeping.proofs.Lists.{at-some, of-some}
use Rattle.code_keeping.proofs.Places.{IsAt, at-place, first-of-crew, typed-by, typed-in}
use Rattle.code_keeping.proofs.Shapes.{get-map}
use Rattle.code_keeping.proofs.Staying.{above, same}
use Rattle.code_keeping.proofs.Taking.{take-operands}

-- ---- lists

-- what is below a list with a last one
pub record EndsWith {A B : Type 0} (P : A → B → Type 0) (xs : List A) (x : A) (zs : List B) : Type 0 where
  pub front : List B
  pub last : B
  pub is : zs ≡ front ++ last ∷ []
  pub below : AllZip P xs front
  pub at : P x last

pub ends-with : {A B : Type 0} (P : A → B → Type 0) (xs : List A) (x : A) (zs : List B) → AllZip P (xs ++ x ∷ []) zs → EndsWith P xs x zs
ends-with P [] x [] h = absurd h
ends-with P [] x (z ∷ []) h = record { front = []; last = z; is = refl; below = tt; at = h.0 }
ends-with P [] x (z ∷ y ∷ zs) h = absurd h.1
ends-with P (y ∷ xs) x [] h = absurd h
ends-with P (y ∷ xs) x (z ∷ zs) h =
    let e = ends-with P xs x zs h.1 in
    record { front = z ∷ e.front; last = e.last; is = ap (λ ys. z ∷ ys) e.is; below = (h.0, e.below); at = e.at }

-- the unit whose signature a row speaks of
pub signature-at : (code : Code) (unit : ℕ) (P : Signature → Type 0) → IsSomeAnd (slice_get (map signature_of code.units) unit) P → (g : CodeUnit) × (slice_get code.units unit ≡ Some g) × P (signature_of g)
signature-at code unit P h = by (slice_get code.units unit) refl (subst (λ o. IsSomeAnd o P) (get-map signature_of code.units unit) h)
  where
    by : (o : Option CodeUnit) → slice_get code.units unit ≡ o → IsSomeAnd (option_map signature_of o) P → (g : CodeUnit) × (slice_get code.units unit ≡ Some g) × P (signature_of g)
    by (Some g) e h = (g, e, h)
    by None e h = absurd h

module _ (code : Code) (fillers : ℕ → List Filler) (natives : Answers) (t : WellTyped code) (c : Common) (depth : ℕ) (good : GoodCommon code c Running) (f : Frame Standing) (fits : TopFits code c f) (at : IsAt code c f)
    (unit count : ℕ) (ec : command_at code f.control.place ≡ Some (Do (op.Call unit count))) where
  abbrev p : ℕ
  p = f.control.place

  abbrev l : Local
  l = f.control.local

  abbrev o : Operation
  o = op.Call unit count

  abbrev typed : DoesTyped code at.u at.station p o
  typed = typed-by code at.u at.station p (Do o) ec (typed-in code t f.unit at.u at.is at.station at.stationed p at.here.0)

  abbrev Asks : Ask Standing → Type 0
  Asks ask = AskFits natives (codes fillers code) (code_invariant code) c depth f ask

  no-worker : ¬ (IsWorkerUnit code unit)
  no-worker = ((((t.places p).uses f.unit at.u at.is at.here.0).named o ec).0 0 unit (omega arith)).0

  module _ (g : CodeUnit) (eg : slice_get code.units unit ≡ Some g) (below-params : AreBelow code.atoms typed.operands g.params) (has : ResultHas code.atoms typed.result (λ x. In code.atoms x g.result)) where
    captures-nothing : g.captured ≡ []
    captures-nothing = of-some (λ u. u.captured ≡ []) (slice_get code.units unit) g eg ((((t.places p).uses f.unit at.u at.is at.here.0).named o ec).1 0 unit (omega arith))

    stationed : IsStation code unit (record { function = unit; worker = 0 })
    stationed = (first-of-crew code unit g eg, λ z. no-worker)

    begins-so : (args : List Value) → AllFit code c args typed.operands → TopFits code c (record { unit = unit; role = None; control = entry args g })
    begins-so args fit =
        let none : tally_at code g.first ≡ None = ((((t.places g.first).typed unit g eg first-in (record { function = unit; worker = 0 }) stationed).1).0 refl).3 no-worker in
        begins code t c unit g eg (record { function = unit; worker = 0 }) stationed args None
        (subst (λ ts. AllFit code c args ts) (sym (ap (λ cs. g.params ++ cs) captures-nothing ∙ append-nil g.params)) (above code c args typed.operands g.params fit below-params))
        (subst (λ k. TallyIs code c None k) (sym none) tt) no-worker
      where
        first-in : IsIn g g.first
        first-in = entry-in code t unit g eg

    enters : (args : List Value) → AllFit code c args typed.operands → (k : Standing) → (codes fillers code).enter unit args ≡ Some k → TopFits code c (record { unit = unit; role = None; control = k })
    enters args fit k e =
        let is : entry args g ≡ k = some-same (entry args g) k (sym (ap (λ o. option_map (entry args) o) eg) ∙ e) in
        subst (λ k. TopFits code c (record { unit = unit; role = None; control = k })) is (begins-so args fit)

    awaits-so : (args below : List Value) → l.stack ≡ reverse args ++ below → AllFit code c (reverse below) typed.rest → (r : Option SemType) → typed.result ≡ r → AwaitsResult code c (goes_to f (standing (p + 1) f.control.traps (with_stack l below))) unit
    awaits-so args below is others None er = absurd (subst (λ r. ResultHas code.atoms r (λ x. In code.atoms x g.result)) er has)
    awaits-so args below is others (Some r) er =
        let next = typed.next (λ h. h) in
        let e = ends-with (λ s t. IsWithin code.atoms (λ x. In code.atoms x t) s) typed.rest r (stack_at code (p + 1)) (subst (λ z. AreBelow code.atoms (typed.rest ++ option_to_list z) (stack_at code (p + 1))) er next.1) in
        let gives : ResultHas code.atoms (Some r) (λ x. In code.atoms x g.result) = subst (λ z. ResultHas code.atoms z (λ x. In code.atoms x g.result)) er has in
        record {
          call = p;
          rest = e.front;
          result = e.last;
          behind = refl;
          inside = at-some (λ u. IsIn u p) (slice_get code.units f.unit) at.u at.is at.here.0;
          is_call = inl (unit, count, ec);
          stack = e.is;
          stands = well-behind code f at.u at.is at.station o ec typed (λ h. h) c c (same None c) (reverse args) below [] is others fits.0 (subst (λ k. TallyIs code c f.role k) (sym next.2) fits.0.1) fits.0.2;
          operands = above code c (reverse below) typed.rest e.front others e.below;
          below = at-some (λ u. IsBelow code u.result e.last) (slice_get code.units unit) g eg (λ x h. e.at x (h.0, gives x h.0 h.1));
        }

    called : (args below : List Value) → l.stack ≡ reverse args ++ below → AllFit code c args typed.operands → AllFit code c (reverse below) typed.rest → EffectFits natives (codes fillers code) (code_invariant code) c depth f (standing (p + 1) f.control.traps (with_stack l below)) (Enters unit args c)
    called args below is fit others = (good, (refl, refl), (λ q. same q c), enters args fit, awaits-so args below is others typed.result refl)

  pub asks-call : Asks ((codes fillers code).look f.unit f.control)
  asks-call =
      let captured = captured_slots (code_facts fillers code) f.unit in
      let (g, eg, row) = signature-at code unit (λ u. AreBelow code.atoms typed.operands u.params × ResultHas code.atoms typed.result (λ x. In code.atoms x u.result)) typed.typed.1 in
      let taken = take-operands (Fits code c) o l typed.rest typed.operands (subst (λ ts. AllFit code c (reverse l.stack) ts) typed.stack fits.1) in
      subst (λ x. Asks (obeys captured f.control x)) (sym ec)
      (subst (λ a. Asks (asks (standing (p + 1) f.control.traps) a)) (sym (ap (λ n. takes o l n) (sym typed.typed.0) ∙ taken.is))
      (λ effect is. subst (λ x. EffectFits natives (codes fillers code) (code_invariant code) c depth f (standing (p + 1) f.control.traps (with_stack l taken.below)) x) (sym is)
      (called g eg row.0 row.1 taken.args taken.below taken.stack taken.fit taken.others)))

pub calls-keep : (natives : Answers) → CallsKeep natives
calls-keep natives fillers unit count code c t depth f good fits ec = asks-call code fillers natives t c depth good f fits (at-place code c f fits.0) unit count ec
