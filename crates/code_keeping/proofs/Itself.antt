-- What a frame does by itself: constants, slots, operands that are dropped, jumps, branches and traps.
use Rattle.std.proofs.Common.{◌≡◌, ◌≤◌, ◌∙◌, ◌+◌, ℕ, zero, suc, true, false, List, [], ◌∷◌, ◌++◌, Option, Some, None, length, reverse, refl, sym, ap, subst, arith}
use Rattle.std.proofs.lemmas.List.{append-nil, length-reverse}
use Rattle.std.specs.Prelude.{All, IsSomeAnd, option_to_list, slice_get, slice_set}
use Rattle.std.specs.List.{AllZip}
use Rattle.bal_base.specs.declared.shape.Shape.{Shape, Nil as NilShape, Bool as BoolShape, Int as IntShape, Str as StrShape, List', Mapping', Error', Function as FunctionShape, Future'}
use Rattle.bal_base.specs.Valid.{IsValid}
use Rattle.type_model.specs.declared.basic.SemType.{SemType}
use Rattle.type_model.specs.Membership.{In}
use Rattle.operations.specs.declared.operation.Constant.{Constant}
use Rattle.operations.specs.declared.operation.Constant.TheVariants.{Nil as NilConstant, Bool as BoolConstant, Int as IntConstant, Str as StrConstant}
use Rattle.operations.specs.declared.operation.Operation.{Operation}
use Rattle.operations.specs.declared.operation.Operation.TheVariants as op
use Rattle.operations.specs.Rows.{IsWithin, One, ResultHas, shape_of}
use Rattle.operations.specs.Talk.{NoTalk, talk_of}
use Rattle.value_model.specs.declared.filler.Filler.{Filler}
use Rattle.value_model.specs.declared.value.Value.{Value}
use Rattle.value_model.specs.declared.value.Value.TheVariants.{Nil, Bool as Truth, Int, Str, Struct, Error, Function, Future}
use Rattle.value_model.specs.Heap.{IsClosed}
use Rattle.value_model.specs.Stands.{HasShape, Stands}
use Rattle.op_model.specs.Common.{Common}
use Rattle.op_model.specs.Local.{Local, acts, captured_from, captures, constant_value, dropped, futures_in, loaded, pushed, stored, taken, twice, with_stack}
use Rattle.machine_model.specs.Following.{EndsFrame}
use Rattle.machine_model.specs.Machine.{Frame, On, asks, captured_slots, goes_to}
use Rattle.stack_code.specs.declared.code.Code.{Code}
use Rattle.stack_code.specs.CodeMachine.{OpenedTrap, Standing, branches, closes, code_facts, obeys, standing}
use Rattle.stack_code.specs.Commands.{CloseTrap, Command, Do, GoTo, GoToIfNot, OpenTrap, command_at}
use Rattle.stack_code.specs.Flow.{BranchesTyped, DoesTyped, GoesOnAt, IsTypedAt, IsTypedBy}
use Rattle.stack_code.specs.Frames.{SlotsFit, StandsIn, TopFits, TrapFits}
use Rattle.stack_code.specs.Places.{stack_at, tally_at, traps_at}
use Rattle.stack_code.specs.Tables.{IsConstant}
use Rattle.stack_code.specs.Values.{AllFit, Fits, IsMade, code_types}
use Rattle.stack_code.specs.WellTyped.{WellTyped}
use Rattle.code_keeping.specs.Laws.{GoesOnByItself}
use Rattle.code_keeping.proofs.Constants.{constant-at}
use Rattle.code_keeping.proofs.Doing.{quietly-behind, trap-stays}
use Rattle.code_keeping.proofs.Lists.{all-at, at-some, of-some, some-there, zip-all}
use Rattle.code_keeping.proofs.Moving.{arrives, loaded-fits, one-off, stored-fits}
use Rattle.code_keeping.proofs.Places.{IsAt, at-place, closed-behind, jumped-behind, opened-behind, typed-by, typed-in}
use Rattle.code_keeping.proofs.Staying.{same}
use Rattle.code_keeping.proofs.Taking.{zip-length}

on-same : (x y : Standing) → On x ≡ On y → x ≡ y
on-same x y e = let q : x ≡ y = cc in q

-- ---- an operation that takes operands isn't done at once

takes-some : (go : Local → Standing) (o : Operation) (l : Local) (n : ℕ) (args stack : List Value) (next : Standing) → asks go (taken o l n args stack) ≡ On next → ⊥
takes-some go o l zero args stack next e = let q : ⊥ = cc in q
takes-some go o l (suc n) args [] next e = let q : ⊥ = cc in q
takes-some go o l (suc n) args (v ∷ stack) next e = takes-some go o l n (v ∷ args) stack next e

captures-some : (go : Local → Standing) (l : Local) (slots : List ℕ) (vs : List Value) (next : Standing) → asks go (captures op.Workers l slots vs) ≡ On next → ⊥
captures-some go l [] vs next e = let q : ⊥ = cc in q
captures-some go l (s ∷ slots) vs next e = by (λ v h. captures-some go l slots (vs ++ v ∷ []) next h) (slice_get l.slots s) e
  where
    by : ((v : Value) → asks go (captures op.Workers l slots (vs ++ v ∷ [])) ≡ On next → ⊥) → (r : Option (Option Value)) → asks go (captured_from l s r (λ v. captures op.Workers l slots (vs ++ v ∷ []))) ≡ On next → ⊥
    by more (Some (Some v)) e = more v e
    by more (Some None) e = let q : ⊥ = cc in q
    by more None e = let q : ⊥ = cc in q

-- ---- constants

-- a constant is made, and stands for its own shape alone
pub its-shape : (code : Code) (c : Common) (k : Constant) (x : Shape) → HasShape c.world.heap x (constant_value k) → x ≡ shape_of k
its-shape code c NilConstant NilShape e = refl
its-shape code c (BoolConstant b) (BoolShape d) e = ap (λ z. BoolShape z) (let q : d ≡ b = cc in q)
its-shape code c (IntConstant i) (IntShape j) e = ap (λ z. IntShape z) (let q : j ≡ i = cc in q)
its-shape code c (StrConstant t) (StrShape s) e = ap (λ z. StrShape z) (let q : s ≡ t = cc in q)
its-shape code c NilConstant (BoolShape d) e = absurd (let q : ⊥ = cc in q)
its-shape code c NilConstant (IntShape d) e = absurd (let q : ⊥ = cc in q)
its-shape code c NilConstant (StrShape d) e = absurd (let q : ⊥ = cc in q)
its-shape code c (BoolConstant b) NilShape e = absurd (let q : ⊥ = cc in q)
its-shape code c (BoolConstant b) (IntShape d) e = absurd (let q : ⊥ = cc in q)
its-shape code c (BoolConstant b) (StrShape d) e = absurd (let q : ⊥ = cc in q)
its-shape code c (IntConstant i) NilShape e = absurd (let q : ⊥ = cc in q)
its-shape code c (IntConstant i) (BoolShape d) e = absurd (let q : ⊥ = cc in q)
its-shape code c (IntConstant i) (StrShape d) e = absurd (let q : ⊥ = cc in q)
its-shape code c (StrConstant t) NilShape e = absurd (let q : ⊥ = cc in q)
its-shape code c (StrConstant t) (BoolShape d) e = absurd (let q : ⊥ = cc in q)
its-shape code c (StrConstant t) (IntShape d) e = absurd (let q : ⊥ = cc in q)
its-shape code c NilConstant (List' mark _ items) e = absurd e.1
its-shape code c (BoolConstant b) (List' mark _ items) e = absurd e.1
its-shape code c (IntConstant b) (List' mark _ items) e = absurd e.1
its-shape code c (StrConstant b) (List' mark _ items) e = absurd e.1
its-shape code c NilConstant (Mapping' mark _ fields) e = absurd e.1
its-shape code c (BoolConstant b) (Mapping' mark _ fields) e = absurd e.1
its-shape code c (IntConstant b) (Mapping' mark _ fields) e = absurd e.1
its-shape code c (StrConstant b) (Mapping' mark _ fields) e = absurd e.1
its-shape code c NilConstant (Error' _ detail) e = absurd e
its-shape code c (BoolConstant b) (Error' _ detail) e = absurd e
its-shape code c (IntConstant b) (Error' _ detail) e = absurd e
its-shape code c (StrConstant b) (Error' _ detail) e = absurd e
its-shape code c NilConstant (FunctionShape isolated graph) e = absurd e
its-shape code c (BoolConstant b) (FunctionShape isolated graph) e = absurd e
its-shape code c (IntConstant b) (FunctionShape isolated graph) e = absurd e
its-shape code c (StrConstant b) (FunctionShape isolated graph) e = absurd e
its-shape code c NilConstant (Future' _ results) e = absurd e
its-shape code c (BoolConstant b) (Future' _ results) e = absurd e
its-shape code c (IntConstant b) (Future' _ results) e = absurd e
its-shape code c (StrConstant b) (Future' _ results) e = absurd e

module _ (code : Code) (c : Common) (closed : IsClosed c.world.heap) where
  made : (k : Constant) → IsValid (shape_of k) → IsMade code c (constant_value k)
  made NilConstant v = (tt, tt, tt)
  made (BoolConstant b) v = (tt, tt, tt)
  made (IntConstant i) v = (tt, v, tt)
  made (StrConstant s) v = (tt, v, tt)

  stands : (k : Constant) (x : Shape) → Stands (code_types code) c.world.heap (constant_value k) x → HasShape c.world.heap x (constant_value k)
  stands NilConstant x h = h
  stands (BoolConstant b) x h = h
  stands (IntConstant i) x h = h
  stands (StrConstant s) x h = h

  pub constant-fits : (k : Constant) → IsValid (shape_of k) → (r : Option SemType) → ResultHas code.atoms r (λ x. x ≡ shape_of k) → AllFit code c (constant_value k ∷ []) (option_to_list r)
  constant-fits k valid None h = absurd h
  constant-fits k valid (Some r) h = ((closed, made k valid, (λ x ok s. h x ok (its-shape code c k x (stands k x s)))), tt)

-- ---- a frame in well-typed code

module _ (code : Code) (fillers : ℕ → List Filler) (t : WellTyped code) (c : Common) (closed : IsClosed c.world.heap) (f : Frame Standing) (fits : TopFits code c f) (at : IsAt code c f) where
  abbrev p : ℕ
  p = f.control.place

  abbrev l : Local
  l = f.control.local

  abbrev traps : List OpenedTrap
  traps = f.control.traps

  abbrev typed : IsTypedAt code at.u at.station p
  typed = typed-in code t f.unit at.u at.is at.station at.stationed p at.here.0

  -- at a place of its unit, in the traps of its own place, with operands taken off
  goes-there : (to : ℕ) (types : List SemType) (gone below : List Value) → l.stack ≡ gone ++ below → GoesOnAt code at.u at.station to types (tally_at code p) → AllFit code c (reverse below) types →
      IsSomeAnd (traps_at code at.u p) (λ ts. All (λ k. length (stack_at code k) ≤ length types) ts) → traps_at code at.u to ≡ traps_at code at.u p → TopFits code c (goes_to f (standing to traps (with_stack l below)))
  goes-there to types gone below is goes fit kept as-here =
      let (ts, et, held) = some-there _ (traps_at code at.u p) at.here.2 in
      arrives code f at.u at.is at.station c to types (tally_at code p) l.slots below traps ts goes at.here.1 fit (as-here ∙ et)
      (zip-all (TrapFits code c (gone ++ below)) (TrapFits code c below) (λ k. length (stack_at code k) ≤ length types)
      (λ trap k h small. trap-stays code c c None (same None c) gone below [] (length types) (omega (arith, as-many)) trap k h small)
      traps ts (subst (λ s. AllZip (TrapFits code c s) traps ts) is held) (of-some _ (traps_at code at.u p) ts et kept))
      fits.0.1 fits.0.2
    where
      as-many : length below ≡ length types
      as-many = sym (length-reverse below) ∙ zip-length (Fits code c) (reverse below) types fit

  -- with all its operands
  goes-whole : (to : ℕ) (ts : List ℕ) (others : List OpenedTrap) → GoesOnAt code at.u at.station to (stack_at code p) (tally_at code p) → traps_at code at.u to ≡ Some ts → AllZip (TrapFits code c l.stack) others ts →
      TopFits code c (goes_to f (standing to others l))
  goes-whole to ts others goes et held = arrives code f at.u at.is at.station c to (stack_at code p) (tally_at code p) l.slots l.stack others ts goes at.here.1 fits.1 et held fits.0.1 fits.0.2

  -- ---- commands

  branch : (to : ℕ) → command_at code p ≡ Some (GoToIfNot to) → BranchesTyped code at.u at.station p to → (next : Standing) → branches (p + 1) to traps l l.stack ≡ On next → TopFits code c (goes_to f next)
  branch to ec b next e =
      let one = one-off code c l.stack b.rest b.condition (subst (λ ts. AllFit code c (reverse l.stack) ts) b.stack fits.1) in
      by one.value one.below one.is one.others (subst (λ s. branches (p + 1) to traps l s ≡ On next) one.is e)
    where
      by : (v : Value) (below : List Value) → l.stack ≡ v ∷ below → AllFit code c (reverse below) b.rest → branches (p + 1) to traps l (v ∷ below) ≡ On next → TopFits code c (goes_to f next)
      by (Truth true) below is others e =
          subst (λ n. TopFits code c (goes_to f n)) (on-same (standing (p + 1) traps (with_stack l below)) next e)
          (goes-there (p + 1) b.rest (Truth true ∷ []) below is b.next others b.kept (jumped-behind code at.u p at.here.0.0 (GoToIfNot to) ec tt))
      by (Truth false) below is others e =
          subst (λ n. TopFits code c (goes_to f n)) (on-same (standing to traps (with_stack l below)) next e)
          (goes-there to b.rest (Truth false ∷ []) below is b.other others b.kept b.lands.2)
      by Nil below is others e = let q : ⊥ = cc in absurd q
      by (Int i) below is others e = let q : ⊥ = cc in absurd q
      by (Str s) below is others e = let q : ⊥ = cc in absurd q
      by (Struct n) below is others e = let q : ⊥ = cc in absurd q
      by (Error n) below is others e = let q : ⊥ = cc in absurd q
      by (Function n) below is others e = let q : ⊥ = cc in absurd q
      by (Future n unit) below is others e = let q : ⊥ = cc in absurd q

  close : command_at code p ≡ Some CloseTrap → IsTypedBy code at.u at.station p CloseTrap → (next : Standing) → closes (p + 1) traps l ≡ On next → TopFits code c (goes_to f next)
  close ec (inside, goes) next e =
      let (ts, et, held) = some-there _ (traps_at code at.u p) at.here.2 in
      by traps ts et held e
    where
      by : (others : List OpenedTrap) (ts : List ℕ) → traps_at code at.u p ≡ Some ts → AllZip (TrapFits code c l.stack) others ts → closes (p + 1) others l ≡ On next → TopFits code c (goes_to f next)
      by [] ts et held e = let q : ⊥ = cc in absurd q
      by (trap ∷ others) [] et held e = absurd held
      by (trap ∷ others) (k ∷ ts) et (first, held) e =
          subst (λ n. TopFits code c (goes_to f n)) (on-same (standing (p + 1) others l) next e)
          (goes-whole (p + 1) ts others goes (closed-behind code at.u p at.here.0.0 k ts ec et) held)

  -- ---- operations that are done at once

  module _ (o : Operation) (ec : command_at code p ≡ Some (Do o)) (d : DoesTyped code at.u at.station p o) where
    abbrev Lands : Standing → Type 0
    Lands next = TopFits code c (goes_to f next)

    -- where the operation takes nothing
    all-stay : d.operands ≡ [] → AllFit code c (reverse l.stack) d.rest
    all-stay none = subst (λ ts. AllFit code c (reverse l.stack) ts) (d.stack ∙ (ap (λ os. d.rest ++ os) none ∙ append-nil d.rest)) fits.1

  constant : (k : Constant) → command_at code p ≡ Some (Do (op.Const k)) → DoesTyped code at.u at.station p (op.Const k) → IsValid (shape_of k) → TopFits code c (goes_to f (standing (p + 1) traps (pushed l (constant_value k))))
  constant k ec d valid =
      quietly-behind code f at.u at.is at.station (op.Const k) ec d (λ e. e) refl c c (same f.role c) [] l.stack (constant_value k ∷ []) refl (all-stay (op.Const k) ec d d.typed.0) (constant-fits code c closed k valid d.result d.typed.1) fits.0

  -- a slot is loaded
  load : (s : ℕ) → command_at code p ≡ Some (Do (op.Load s)) → DoesTyped code at.u at.station p (op.Load s) → (next : Standing) → asks (standing (p + 1) traps) (loaded l s (slice_get l.slots s)) ≡ On next → TopFits code c (goes_to f next)
  load s ec d next e = by (slice_get l.slots s) refl e
    where
      given : (v : Value) (r : Option SemType) (o : Option SemType) → IsSomeAnd o (λ t. Fits code c v t) → IsSomeAnd o (λ t. ResultHas code.atoms r (λ x. In code.atoms x t)) → AllFit code c (v ∷ []) (option_to_list r)
      given v r None h k = absurd h
      given v None (Some t) h k = absurd k
      given v (Some r) (Some t) (closed, made, belongs) k = ((closed, made, (λ x valid stands. k x valid (belongs x valid stands))), tt)

      by : (held : Option (Option Value)) → slice_get l.slots s ≡ held → asks (standing (p + 1) traps) (loaded l s held) ≡ On next → TopFits code c (goes_to f next)
      by (Some (Some v)) is e =
          subst (λ n. TopFits code c (goes_to f n)) (on-same (standing (p + 1) traps (pushed l v)) next e)
          (quietly-behind code f at.u at.is at.station (op.Load s) ec d (λ e. e) refl c c (same f.role c) [] l.stack (v ∷ []) refl (all-stay (op.Load s) ec d d.typed.0)
          (given v d.result (slice_get at.u.slots s) (loaded-fits code c l.slots at.u.slots s v at.here.1.0 is) d.typed.1) fits.0)
      by (Some None) is e = let q : ⊥ = cc in absurd q
      by None is e = let q : ⊥ = cc in absurd q

  -- other slots that fit
  with-slots : (q : ℕ) (others : List OpenedTrap) (slots : List (Option Value)) (stack : List Value) → SlotsFit code c at.u slots → TopFits code c (goes_to f (standing q others (record { slots = l.slots; stack = stack }))) →
      TopFits code c (goes_to f (standing q others (record { slots = slots; stack = stack })))
  with-slots q others slots stack held ((unit, tally, own), operands) =
      let (inside, before, open-traps) = of-some (StandsIn code c q l.slots stack others) (slice_get code.units f.unit) at.u at.is unit in
      ((at-some (StandsIn code c q slots stack others) (slice_get code.units f.unit) at.u at.is (inside, held, open-traps), tally, own), operands)

  -- an operand is taken off and nothing is given
  drops : (o : Operation) (ec : command_at code p ≡ Some (Do o)) (d : DoesTyped code at.u at.station p o) → talk_of o ≡ NoTalk → (¬ (EndsFrame o)) → d.result ≡ None → (a : SemType) → d.operands ≡ a ∷ [] →
      (v : Value) × (below : List Value) × (l.stack ≡ v ∷ below) × Fits code c v a × TopFits code c (goes_to f (standing (p + 1) traps (with_stack l below)))
  drops o ec d quiet goes none a is =
      let one = one-off code c l.stack d.rest a (subst (λ ts. AllFit code c (reverse l.stack) ts) (d.stack ∙ ap (λ os. d.rest ++ os) is) fits.1) in (
        one.value,
        one.below,
        one.is,
        one.fits,
        quietly-behind code f at.u at.is at.station o ec d goes quiet c c (same f.role c) (one.value ∷ []) one.below [] one.is one.others (subst (λ r. AllFit code c [] (option_to_list r)) (sym none) tt) fits.0,
      )

  drop : command_at code p ≡ Some (Do op.Pop) → DoesTyped code at.u at.station p op.Pop → (next : Standing) → asks (standing (p + 1) traps) (dropped l l.stack) ≡ On next → TopFits code c (goes_to f next)
  drop ec d next e = by d.operands refl d.typed
    where
      by : (os : List SemType) → d.operands ≡ os → One os (λ v. d.result ≡ None) → TopFits code c (goes_to f next)
      by [] is h = absurd h
      by (a ∷ b ∷ os) is h = absurd h
      by (a ∷ []) is none =
          let (v, below, es, fit, lands) = drops op.Pop ec d refl (λ e. e) none a is in
          subst (λ n. TopFits code c (goes_to f n)) (on-same (standing (p + 1) traps (with_stack l below)) next (subst (λ s. asks (standing (p + 1) traps) (dropped l s) ≡ On next) es e)) lands

  -- a slot is stored
  store : (s : ℕ) → command_at code p ≡ Some (Do (op.Store s)) → DoesTyped code at.u at.station p (op.Store s) → (next : Standing) → asks (standing (p + 1) traps) (stored l s l.stack) ≡ On next → TopFits code c (goes_to f next)
  store s ec d next e = by d.operands refl d.typed.0
    where
      fits-slot : (v : Value) (a : SemType) (o : Option SemType) → Fits code c v a → IsSomeAnd o (λ t. IsWithin code.atoms (λ x. In code.atoms x t) a) → IsSomeAnd o (λ t. Fits code c v t)
      fits-slot v a None fit h = absurd h
      fits-slot v a (Some t) (closed, made, belongs) h = (closed, made, (λ x valid stands. h x (valid, belongs x valid stands)))

      by : (os : List SemType) → d.operands ≡ os → One os (λ a. IsSomeAnd (slice_get at.u.slots s) (λ t. IsWithin code.atoms (λ x. In code.atoms x t) a)) → TopFits code c (goes_to f next)
      by [] is h = absurd h
      by (a ∷ b ∷ os) is h = absurd h
      by (a ∷ []) is h =
          let (v, below, es, fit, lands) = drops (op.Store s) ec d refl (λ e. e) d.typed.1 a is in
          subst (λ n. TopFits code c (goes_to f n)) (on-same (standing (p + 1) traps (record { slots = slice_set l.slots s (Some v); stack = below })) next (subst (λ x. asks (standing (p + 1) traps) (stored l s x) ≡ On next) es e))
          (with-slots (p + 1) traps (slice_set l.slots s (Some v)) below (stored-fits code c at.u l.slots s v at.here.1 (fits-slot v a (slice_get at.u.slots s) fit h)) lands)

  does : (captured : List ℕ) (o : Operation) → command_at code p ≡ Some (Do o) → DoesTyped code at.u at.station p o → (next : Standing) → asks (standing (p + 1) traps) (acts captured o l) ≡ On next → TopFits code c (goes_to f next)
  does captured (op.Const k) ec d next e =
      let (i, ei) = constant-at code k p ec in
      subst (λ n. TopFits code c (goes_to f n)) (on-same (standing (p + 1) traps (pushed l (constant_value k))) next e) (constant k ec d (all-at (IsConstant code) code.constants i k t.fields.constants ei))
  does captured (op.Load s) ec d next e = load s ec d next e
  does captured (op.Store s) ec d next e = store s ec d next e
  does captured op.Pop ec d next e = drop ec d next e
  does captured op.Workers ec d next e = absurd (captures-some (standing (p + 1) traps) l captured [] next e)
  does captured (op.LoadModule m) ec d next e = absurd (takes-some (standing (p + 1) traps) (op.LoadModule m) l 0 [] l.stack next e)
  does captured (op.StoreModule m) ec d next e = absurd (takes-some (standing (p + 1) traps) (op.StoreModule m) l 1 [] l.stack next e)
  does captured op.Tick ec d next e = absurd (takes-some (standing (p + 1) traps) op.Tick l 0 [] l.stack next e)
  does captured op.Add ec d next e = absurd (takes-some (standing (p + 1) traps) op.Add l 2 [] l.stack next e)
  does captured op.Subtract ec d next e = absurd (takes-some (standing (p + 1) traps) op.Subtract l 2 [] l.stack next e)
  does captured op.Multiply ec d next e = absurd (takes-some (standing (p + 1) traps) op.Multiply l 2 [] l.stack next e)
  does captured op.Divide ec d next e = absurd (takes-some (standing (p + 1) traps) op.Divide l 2 [] l.stack next e)
  does captured op.Remainder ec d next e = absurd (takes-some (standing (p + 1) traps) op.Remainder l 2 [] l.stack next e)
  does captured op.Negate ec d next e = absurd (takes-some (standing (p + 1) traps) op.Negate l 1 [] l.stack next e)
  does captured op.Concat ec d next e = absurd (takes-some (standing (p + 1) traps) op.Concat l 2 [] l.stack next e)
  does captured op.Less ec d next e = absurd (takes-some (standing (p + 1) traps) op.Less l 2 [] l.stack next e)
  does captured op.LessEqual ec d next e = absurd (takes-some (standing (p + 1) traps) op.LessEqual l 2 [] l.stack next e)
  does captured op.Not ec d next e = absurd (takes-some (standing (p + 1) traps) op.Not l 1 [] l.stack next e)
  does captured op.Equal ec d next e = absurd (takes-some (standing (p + 1) traps) op.Equal l 2 [] l.stack next e)
  does captured op.Same ec d next e = absurd (takes-some (standing (p + 1) traps) op.Same l 2 [] l.stack next e)
  does captured (op.MakeList atom immutable count) ec d next e = absurd (takes-some (standing (p + 1) traps) (op.MakeList atom immutable count) l count [] l.stack next e)
  does captured (op.MakeMapping atom immutable count) ec d next e = absurd (takes-some (standing (p + 1) traps) (op.MakeMapping atom immutable count) l (twice count) [] l.stack next e)
  does captured (op.MakeError count) ec d next e = absurd (takes-some (standing (p + 1) traps) (op.MakeError count) l (suc (suc (twice count))) [] l.stack next e)
  does captured (op.MakeFunction unit count) ec d next e = absurd (takes-some (standing (p + 1) traps) (op.MakeFunction unit count) l count [] l.stack next e)
  does captured op.GetItem ec d next e = absurd (takes-some (standing (p + 1) traps) op.GetItem l 2 [] l.stack next e)
  does captured op.GetKey ec d next e = absurd (takes-some (standing (p + 1) traps) op.GetKey l 2 [] l.stack next e)
  does captured op.GetChar ec d next e = absurd (takes-some (standing (p + 1) traps) op.GetChar l 2 [] l.stack next e)
  does captured (op.GetField name) ec d next e = absurd (takes-some (standing (p + 1) traps) (op.GetField name) l 1 [] l.stack next e)
  does captured (op.GetOptional name) ec d next e = absurd (takes-some (standing (p + 1) traps) (op.GetOptional name) l 1 [] l.stack next e)
  does captured op.SetItem ec d next e = absurd (takes-some (standing (p + 1) traps) op.SetItem l 3 [] l.stack next e)
  does captured op.SetKey ec d next e = absurd (takes-some (standing (p + 1) traps) op.SetKey l 3 [] l.stack next e)
  does captured (op.Test x) ec d next e = absurd (takes-some (standing (p + 1) traps) (op.Test x) l 1 [] l.stack next e)
  does captured (op.Cast x) ec d next e = absurd (takes-some (standing (p + 1) traps) (op.Cast x) l 1 [] l.stack next e)
  does captured (op.Call unit count) ec d next e = absurd (takes-some (standing (p + 1) traps) (op.Call unit count) l count [] l.stack next e)
  does captured (op.CallValue count) ec d next e = absurd (takes-some (standing (p + 1) traps) (op.CallValue count) l (suc count) [] l.stack next e)
  does captured (op.Library call atom count) ec d next e = absurd (takes-some (standing (p + 1) traps) (op.Library call atom count) l count [] l.stack next e)
  does captured op.Return ec d next e = absurd (takes-some (standing (p + 1) traps) op.Return l 1 [] l.stack next e)
  does captured op.Panic ec d next e = absurd (takes-some (standing (p + 1) traps) op.Panic l 1 [] l.stack next e)
  does captured (op.Start unit count) ec d next e = absurd (takes-some (standing (p + 1) traps) (op.Start unit count) l count [] l.stack next e)
  does captured (op.StartValue count) ec d next e = absurd (takes-some (standing (p + 1) traps) (op.StartValue count) l (suc count) [] l.stack next e)
  does captured (op.Send w) ec d next e = absurd (takes-some (standing (p + 1) traps) (op.Send w) l 1 [] l.stack next e)
  does captured (op.Post w) ec d next e = absurd (takes-some (standing (p + 1) traps) (op.Post w) l 1 [] l.stack next e)
  does captured (op.Done w) ec d next e = absurd (takes-some (standing (p + 1) traps) (op.Done w) l 0 [] l.stack next e)
  does captured (op.Receive w) ec d next e = absurd (takes-some (standing (p + 1) traps) (op.Receive w) l 0 [] l.stack next e)
  does captured (op.Flush w) ec d next e = absurd (takes-some (standing (p + 1) traps) (op.Flush w) l 0 [] l.stack next e)
  does captured (op.WaitWorker w) ec d next e = absurd (takes-some (standing (p + 1) traps) (op.WaitWorker w) l 0 [] l.stack next e)
  does captured op.WaitFuture ec d next e = absurd (takes-some (standing (p + 1) traps) op.WaitFuture l 1 [] l.stack next e)
  does captured (op.WaitAny names) ec d next e = absurd (takes-some (standing (p + 1) traps) (op.WaitAny names) l (futures_in names) [] l.stack next e)
  does captured (op.WaitAll atom names) ec d next e = absurd (takes-some (standing (p + 1) traps) (op.WaitAll atom names) l (futures_in names) [] l.stack next e)

  obeyed : (captured : List ℕ) (command : Option Command) → command_at code p ≡ command → (next : Standing) → obeys captured f.control command ≡ On next → TopFits code c (goes_to f next)
  obeyed captured (Some (Do o)) ec next e = does captured o ec (typed-by code at.u at.station p (Do o) ec typed) next e
  obeyed captured (Some (GoTo to)) ec next e =
      let (lands, goes) = typed-by code at.u at.station p (GoTo to) ec typed in
      let (ts, et, held) = some-there _ (traps_at code at.u p) at.here.2 in
      subst (λ n. TopFits code c (goes_to f n)) (on-same (standing to traps l) next e) (goes-whole to ts traps goes (lands.2 ∙ et) held)
  obeyed captured (Some (GoToIfNot to)) ec next e = branch to ec (typed-by code at.u at.station p (GoToIfNot to) ec typed) next e
  obeyed captured (Some (OpenTrap to)) ec next e =
      let (lands, landing, tallies, goes) = typed-by code at.u at.station p (OpenTrap to) ec typed in
      let (ts, et, held) = some-there _ (traps_at code at.u p) at.here.2 in
      subst (λ n. TopFits code c (goes_to f n)) (on-same (standing (p + 1) (record { landing = to; below = l.stack } ∷ traps) l) next e)
      (goes-whole (p + 1) (p ∷ ts) (record { landing = to; below = l.stack } ∷ traps) goes (opened-behind code at.u p at.here.0.0 to ts ec et) ((ec, fits.1, ([], refl)), held))
  obeyed captured (Some CloseTrap) ec next e = close ec (typed-by code at.u at.station p CloseTrap ec typed) next e
  obeyed captured None ec next e = let q : ⊥ = cc in absurd q

pub goes-on-by-itself : GoesOnByItself
goes-on-by-itself code fillers c f next t closed fits e =
    obeyed code fillers t c closed f fits (at-place code c f fits.0) (captured_slots (code_facts fillers code) f.unit) (command_at code f.control.place) refl next e
