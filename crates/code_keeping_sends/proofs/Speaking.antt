-- What a frame asks for with a send and with the first half of a synchronous one.
use Rattle.std.proofs.Common.{◌≡◌, ◌∙◌, ℕ, Bool, true, false, List, [], ◌∷◌, ◌++◌, Option, Some, None, inl, inr, length, reverse, refl, sym, ap, subst}
use Rattle.std.proofs.lemmas.List.{length-map}
use Rattle.std.specs.Prelude.{◌+◌, ◌⊎◌, ◌↔◌, IsSomeAnd, get_or, if◌then◌else◌, nat_le, option_to_list, slice_get, slice_set}
use Rattle.type_model.specs.declared.basic.SemType.{SemType}
use Rattle.bal_base.specs.declared.fault.LimitKind.TheVariants.{Cells}
use Rattle.operations.specs.declared.operation.Constant.TheVariants.{Nil as NilConstant}
use Rattle.operations.specs.declared.operation.Operation.{Operation}
use Rattle.operations.specs.declared.operation.Operation.TheVariants as op
use Rattle.operations.specs.Kinds.{IsNil}
use Rattle.operations.specs.Rows.{One as OneOperand}
use Rattle.operations.specs.Talk.{Sends, talk_of}
use Rattle.operations.specs.Typing.{OpTyped}
use Rattle.value_model.specs.declared.filler.Filler.{Filler}
use Rattle.value_model.specs.declared.value.Value.{Value}
use Rattle.value_model.specs.declared.value.Value.TheVariants.{Nil}
use Rattle.value_model.specs.Heap.{cells}
use Rattle.value_model.specs.Meaning.{Answers}
use Rattle.op_model.specs.Common.{Activation, Caller, Common, Role}
use Rattle.op_model.specs.Copies.{copy_of, with_copies}
use Rattle.op_model.specs.Effects.{Beyond, Effect, Gives, with_world}
use Rattle.op_model.specs.Limits.{most_cells}
use Rattle.op_model.specs.Local.{Later, Local, acts, takes, with_stack}
use Rattle.op_model.specs.Messages.{one_sent, sends}
use Rattle.op_model.specs.Operands.{One}
use Rattle.op_model.specs.Performs.{AsWorker, Performs}
use Rattle.op_model.specs.Strands.{activation_at, channel_at, settled, with_channel, woken}
use Rattle.machine_model.specs.Following.{EndsFrame}
use Rattle.machine_model.specs.Keeping.{AskFits, EffectFits}
use Rattle.machine_model.specs.Machine.{Ask, Frame, asks, captured_slots}
use Rattle.machine_model.specs.Runs.{Running}
use Rattle.stack_code.specs.declared.code.Code.{Code}
use Rattle.stack_code.specs.CodeMachine.{Standing, code_facts, codes, obeys, standing}
use Rattle.stack_code.specs.Commands.{Do, command_at}
use Rattle.stack_code.specs.Flow.{DoesTyped, tally_behind, tally_then}
use Rattle.stack_code.specs.Frames.{IsOfItsUnit, TallyIs, TopFits, end_in_call}
use Rattle.stack_code.specs.Good.{GoodCommon, IsLater, NearlyCommon, code_invariant}
use Rattle.stack_code.specs.Messages.{peers_in}
use Rattle.stack_code.specs.Places.{IsStation, crew, surroundings, tally_at}
use Rattle.stack_code.specs.Values.{AllFit, Fits}
use Rattle.stack_code.specs.WellTyped.{WellTyped}
use Rattle.code_keeping.specs.Laws.{AskComes, StandsAt, TalkedWell}
use Rattle.code_keeping.proofs.Changing.{get-set-same}
use Rattle.code_keeping.proofs.Doing.{fits-behind}
use Rattle.code_keeping.proofs.Growing.{good-so, heap-so, later as grown-later, one-given}
use Rattle.code_keeping.proofs.Itself.{its-shape}
use Rattle.code_keeping.proofs.Lists.{at-some}
use Rattle.code_keeping.proofs.Places.{IsAt, typed-by, typed-in}
use Rattle.code_keeping.proofs.Returning.{nearly-so}
use Rattle.code_keeping.proofs.Sending.{sends-keep}
use Rattle.code_keeping.proofs.Settling.{settling-keeps}
use Rattle.code_keeping.proofs.Staying.{tally-later, unit-later}
use Rattle.code_keeping.proofs.Taking.{IsTaken, take-operands}
use Rattle.code_keeping.proofs.Talking.{IsTalking, now-is, talking, was}
use Rattle.code_keeping_talk.proofs.Following.{later-follows}
use Rattle.code_keeping_talk.proofs.Hearing.{its-role}
use Rattle.code_keeping_talk.proofs.Lasting.{what-held-holds}
use Rattle.code_keeping_sends.proofs.Copying.{copy-fits, grown, grows, world-then}

-- the last of a list is one
last-same : {A : Type 0} (front other : List A) (x y : A) → front ++ x ∷ [] ≡ other ++ y ∷ [] → x ≡ y
last-same [] [] x y e = let q : x ≡ y = cc in q
last-same [] (z ∷ other) x y e = absurd (none other (let q : [] ≡ other ++ y ∷ [] = cc in q))
  where
    none : (l : List _) → [] ≡ l ++ y ∷ [] → ⊥
    none [] e = let q : ⊥ = cc in q
    none (z ∷ l) e = let q : ⊥ = cc in q
last-same (z ∷ front) [] x y e = absurd (none front (let q : front ++ x ∷ [] ≡ [] = cc in q))
  where
    none : (l : List _) → l ++ x ∷ [] ≡ [] → ⊥
    none [] e = let q : ⊥ = cc in q
    none (w ∷ l) e = let q : ⊥ = cc in q
last-same (z ∷ front) (w ∷ other) x y e = last-same front other x y (let q : front ++ x ∷ [] ≡ other ++ y ∷ [] = cc in q)

module _ (code : Code) (fillers : ℕ → List Filler) (natives : Answers) (t : WellTyped code) (c : Common) (depth : ℕ) (good : GoodCommon code c Running) (f : Frame Standing) (fits : TopFits code c f) (at : IsAt code c f)
    (w : ℕ) (o : Operation) (which : (o ≡ op.Send w) ⊎ (o ≡ op.Post w)) (ec : command_at code f.control.place ≡ Some (Do o)) where
  abbrev p : ℕ
  p = f.control.place

  abbrev l : Local
  l = f.control.local

  abbrev typed : DoesTyped code at.u at.station p o
  typed = typed-by code at.u at.station p (Do o) ec (typed-in code t f.unit at.u at.is at.station at.stationed p at.here.0)

  -- what both have in common: what is given then fits in any state
  record IsSend (given : List Value) : Type 0 where
    goes : ¬ (EndsFrame o)
    talk : talk_of o ≡ Sends w
    one : OneOperand typed.operands (λ s. Unit {0})
    fit : (d : Common) → GoodCommon code d Running → AllFit code d given (option_to_list typed.result)
    begins : (captured : List ℕ) → acts captured o l ≡ takes o l 1
    performs : (vs : List Value) (caller : Caller) (effect : Effect) → Performs (code_facts fillers code) natives o vs caller c effect ↔ One vs (λ v. AsWorker caller (λ r. effect ≡ sends c r w v given))

  module _ (given : List Value) (it : IsSend given) where
    abbrev Effects : List Value → Effect → Type 0
    Effects below effect = EffectFits natives (codes fillers code) (code_invariant code) c depth f (standing (p + 1) f.control.traps (with_stack l below)) effect

    module _ (r : Role) (er : f.role ≡ Some r) (a : SemType) (ea : typed.operands ≡ a ∷ []) (v : Value) (below : List Value) (fv : Fits code c v a) (stack : l.stack ≡ v ∷ below) (others : AllFit code c (reverse below) typed.rest) where
      -- ---- the copies are made

      abbrev c1 : Common
      c1 = with_world c (world-then code c good.nearly.heap v)

      later1 : (q : Option Role) → IsLater q c c1
      later1 q = grown-later code c (world-then code c good.nearly.heap v) good.nearly.heap (grows code c good.nearly.heap v) (grown code c good.nearly.heap v) q

      good1 : GoodCommon code c1 Running
      good1 = good-so code c (world-then code c good.nearly.heap v) Running (later1 None) (heap-so code c (world-then code c good.nearly.heap v) good.nearly.heap (grows code c good.nearly.heap v) (grown code c good.nearly.heap v)) good

      fits1 : TopFits code c1 f
      fits1 = (what-held-holds code c c1).0 f (later1 f.role) fits

      abbrev s : StandsAt code c1 f r o
      s = record { typed = t; role = er; fits = fits1; command = ec; good = good1.nearly.activations }

      abbrev copy : Value
      copy = copy_of c.world v

      -- ---- the message is sent

      abbrev b : ℕ
      b = r.activation

      abbrev x : Activation
      x = activation_at c1 b

      abbrev d : Common
      d = with_channel c1 b r.worker w (one_sent (channel_at c1 b r.worker w) copy)

      talked : TalkedWell code c1 d f o
      talked = sends-keep code c1 f r o w copy s which (λ z last. subst (λ y. Fits code c1 copy y) (last-same typed.rest last.0 a z (sym (typed.stack ∙ ap (λ os. typed.rest ++ os) ea) ∙ last.1)) (copy-fits code c good.nearly.heap v a fv))

      k : IsTalking code c1 f r o
      k = talking code c1 f r o s

      x-is : x ≡ k.x
      x-is = was code c1 b k.x k.x k.there

      x-there : slice_get c1.activations b ≡ Some x
      x-there = k.there ∙ ap (λ z. Some z) (sym x-is)

      abbrev new : Activation
      new = record { unit = x.unit; strands = x.strands; ends = x.ends; channels = slice_set x.channels r.worker (slice_set (get_or x.channels r.worker []) w (one_sent (channel_at c1 b r.worker w) copy)) }

      nearly : NearlyCommon code d Running
      nearly = nearly-so code c1 b x new x-there refl Running good1.nearly talked.good

      own-so : IsOfItsUnit code d f.unit f.role
      own-so = subst (λ q. IsOfItsUnit code d f.unit q) (sym er) (
        at-some (λ z. IsStation code f.unit (record { function = z.unit; worker = r.worker })) (slice_get d.activations b) new (get-set-same c1.activations b new x x-there)
            (subst (λ z. IsStation code f.unit (record { function = z.unit; worker = r.worker })) (sym x-is) k.stationed),
        subst (λ z. end_in_call z r.worker ≡ None) (sym (now-is code c1 b x new x-there)) (subst (λ z. end_in_call z r.worker ≡ None) (sym x-is) k.open-end),
      )

      abbrev z : Common
      z = settled d

      settles : GoodCommon code z Running × ((q : Option Role) → IsLater q d z)
      settles = settling-keeps code d Running nearly

      later-z : IsLater None c z
      later-z = later-follows None c c1 z (later1 None) (later-follows None c1 d z (talked.others None tt) (settles.1 None))

      behind-numbers : TallyIs code z f.role (tally_behind (length (crew code at.station.function)) o (tally_at code p))
      behind-numbers =
          tally-later code d z f.role (tally_behind (length (crew code at.station.function)) o (tally_at code p)) (settles.1 f.role)
          (subst (λ q. TallyIs code d f.role q) (ap (λ k. tally_then 0 k (tally_at code p)) it.talk ∙ sym (ap (λ k. tally_then (length (crew code at.station.function)) k (tally_at code p)) it.talk)) talked.numbers)

      sent : Effects below (Gives given z)
      sent = (
        settles.0,
        (refl, length-map d.strands (woken d)),
        (λ q apart. later-follows q c c1 z (later1 q) (later-follows q c1 d z (talked.others q apart) (settles.1 q))),
        fits-behind code f at.u at.is at.station o ec typed it.goes c z later-z (v ∷ []) below given stack others (it.fit z settles.0) fits.0 behind-numbers (unit-later code f.role d z (settles.1 f.role) f.unit own-so),
      )

      all-sent : Effects below (sends c r w v given)
      all-sent = by (nat_le (cells (with_copies true c.world v).heap) most_cells)
        where
          by : (b : Bool) → Effects below (if b then Gives given z else Beyond Cells)
          by true = sent
          by false = tt

    -- ---- the frame asks

    abbrev Looks : Ask Standing → Type 0
    Looks ask = AskFits natives (codes fillers code) (code_invariant code) c depth f ask × AskComes natives (code_facts fillers code) c depth f ask

    with-taken : (r : Role) → f.role ≡ Some r → (a : SemType) → typed.operands ≡ a ∷ [] → IsTaken (Fits code c) o l typed.rest (a ∷ []) → Looks (asks (standing (p + 1) f.control.traps) (takes o l 1))
    with-taken r er a ea taken = by taken.args taken.fit taken.is taken.stack
      where
        caller : Caller
        caller = record { unit = f.unit; role = f.role; depth = depth }

        by : (args : List Value) → AllFit code c args (a ∷ []) → takes o l 1 ≡ Later o args (with_stack l taken.below) → l.stack ≡ reverse args ++ taken.below → Looks (asks (standing (p + 1) f.control.traps) (takes o l 1))
        by [] fit is stack = absurd fit
        by (v ∷ u ∷ vs) fit is stack = absurd fit.1
        by (v ∷ []) (fv, end) is stack =
            subst (λ q. Looks (asks (standing (p + 1) f.control.traps) q)) (sym is) (
              (λ effect does. subst (λ e. Effects taken.below e) (sym (subst (λ q. IsSomeAnd q (λ r. effect ≡ sends c r w v given)) er ((it.performs (v ∷ []) caller effect).0 does)))
                  (all-sent r er a ea v taken.below fv stack taken.others)),
              (λ never. never (sends c r w v given) ((it.performs (v ∷ []) caller (sends c r w v given)).1 (subst (λ q. IsSomeAnd q (λ z. sends c r w v given ≡ sends c z w v given)) (sym er) refl))),
            )

    send-looks : Looks ((codes fillers code).look f.unit f.control)
    send-looks =
        let (r, er) = its-role code fillers natives t c depth good f fits at o ec it.goes w (ap peers_in it.talk) in
        let captured = captured_slots (code_facts fillers code) f.unit in
        subst (λ x. Looks (obeys captured f.control x)) (sym ec)
        (subst (λ a. Looks (asks (standing (p + 1) f.control.traps) a)) (sym (it.begins captured)) (by r er typed.operands refl it.one))
      where
        by : (r : Role) → f.role ≡ Some r → (os : List SemType) → typed.operands ≡ os → OneOperand os (λ s. Unit {0}) → Looks (asks (standing (p + 1) f.control.traps) (takes o l 1))
        by r er [] e one = absurd one
        by r er (a ∷ b ∷ os) e one = absurd one
        by r er (a ∷ []) e one =
            with-taken r er a e (take-operands (Fits code c) o l typed.rest (a ∷ []) (subst (λ ts. AllFit code c (reverse l.stack) ts) (typed.stack ∙ ap (λ os. typed.rest ++ os) e) fits.1))

-- ---- a send gives nil, and the first half of a synchronous one nothing

module _ (code : Code) (fillers : ℕ → List Filler) (natives : Answers) (t : WellTyped code) (c : Common) (depth : ℕ) (good : GoodCommon code c Running) (f : Frame Standing) (fits : TopFits code c f) (at : IsAt code c f) (w : ℕ) where
  one-of : (P Q : SemType → Type 0) → ((s : SemType) → P s → Q s) → (os : List SemType) → OneOperand os P → OneOperand os Q
  one-of P Q h (a ∷ []) k = h a k
  one-of P Q h [] k = absurd k
  one-of P Q h (a ∷ b ∷ os) k = absurd k

  module _ (ec : command_at code f.control.place ≡ Some (Do (op.Send w))) where
    abbrev row : DoesTyped code at.u at.station f.control.place (op.Send w)
    row = typed-by code at.u at.station f.control.place (Do (op.Send w)) ec (typed-in code t f.unit at.u at.is at.station at.stationed f.control.place at.here.0)

    nil-fits : (os : List SemType) (result : Option SemType) → OpTyped code.atoms (surroundings code at.u at.station) (op.Send w) os result → (d : Common) → GoodCommon code d Running → AllFit code d (Nil ∷ []) (option_to_list result)
    nil-fits (a ∷ []) result (sendable, has) d ok = one-given code d result IsNil Nil has ok.nearly.heap.closed (tt, tt, tt) (λ x valid s. its-shape code d NilConstant x s)
    nil-fits [] result h d ok = absurd h
    nil-fits (a ∷ b ∷ os) result h d ok = absurd h

    is-send : IsSend code fillers natives t c depth good f fits at w (op.Send w) (inl refl) ec (Nil ∷ [])
    is-send =
        record {
          goes = λ h. h;
          talk = refl;
          one = one-of _ _ (λ s h. tt) row.operands row.typed;
          fit = nil-fits row.operands row.result row.typed;
          begins = λ captured. refl;
          performs = λ vs caller effect. ((λ h. h), (λ h. h));
        }

    pub send-done : AskFits natives (codes fillers code) (code_invariant code) c depth f ((codes fillers code).look f.unit f.control) × AskComes natives (code_facts fillers code) c depth f ((codes fillers code).look f.unit f.control)
    send-done = send-looks code fillers natives t c depth good f fits at w (op.Send w) (inl refl) ec (Nil ∷ []) is-send

  module _ (ec : command_at code f.control.place ≡ Some (Do (op.Post w))) where
    abbrev post-row : DoesTyped code at.u at.station f.control.place (op.Post w)
    post-row = typed-by code at.u at.station f.control.place (Do (op.Post w)) ec (typed-in code t f.unit at.u at.is at.station at.stationed f.control.place at.here.0)

    nothing-fits : (os : List SemType) (result : Option SemType) → OpTyped code.atoms (surroundings code at.u at.station) (op.Post w) os result → (d : Common) → AllFit code d [] (option_to_list result)
    nothing-fits (a ∷ []) result (sendable, none) d = subst (λ r. AllFit code d [] (option_to_list r)) (sym none) tt
    nothing-fits [] result h d = absurd h
    nothing-fits (a ∷ b ∷ os) result h d = absurd h

    is-post : IsSend code fillers natives t c depth good f fits at w (op.Post w) (inr refl) ec []
    is-post =
        record {
          goes = λ h. h;
          talk = refl;
          one = one-of _ _ (λ s h. tt) post-row.operands post-row.typed;
          fit = λ d ok. nothing-fits post-row.operands post-row.result post-row.typed d;
          begins = λ captured. refl;
          performs = λ vs caller effect. ((λ h. h), (λ h. h));
        }

    pub post-done : AskFits natives (codes fillers code) (code_invariant code) c depth f ((codes fillers code).look f.unit f.control) × AskComes natives (code_facts fillers code) c depth f ((codes fillers code).look f.unit f.control)
    post-done = send-looks code fillers natives t c depth good f fits at w (op.Post w) (inr refl) ec [] is-post
