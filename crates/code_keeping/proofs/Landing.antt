-- A panic that is caught lands where the map of its trap says, with the error above.
use Rattle.std.proofs.Common.{◌≡◌, ◌≤◌, ◌<◌, ◌∙◌, ◌+◌, ◌-◌, ℕ, zero, suc, List, [], ◌∷◌, ◌++◌, Option, Some, None, length, reverse, refl, sym, ap, subst, arith}
use Rattle.std.proofs.lemmas.List.{length-append, length-reverse, reverse-append}
use Rattle.std.specs.Prelude.{All, Contains, IsSomeAnd, slice_get}
use Rattle.std.specs.List.{AllZip}
use Rattle.bal_base.specs.declared.shape.Shape.{Shape, Nil as NilShape, Bool as BoolShape, Int as IntShape, Str as StrShape, List', Mapping', Error', Function as FunctionShape, Future'}
use Rattle.type_model.specs.declared.basic.BasicSet.TheVariants.{ErrorAll}
use Rattle.type_model.specs.declared.basic.SemType.{SemType, Basic}
use Rattle.type_model.specs.Inclusion.{HaveSameShapes}
use Rattle.type_model.specs.Membership.{In}
use Rattle.operations.specs.Rows.{AreBelow}
use Rattle.value_model.specs.declared.value.Value.{Value}
use Rattle.value_model.specs.declared.value.Value.TheVariants.{Nil, Bool as Truth, Int, Str, Struct, Error, Function, Future}
use Rattle.value_model.specs.Heap.{Heap, IsClosed}
use Rattle.value_model.specs.Stands.{HasShape}
use Rattle.op_model.specs.Common.{Common}
use Rattle.op_model.specs.Local.{Local, with_stack}
use Rattle.machine_model.specs.Keeping.{Caught}
use Rattle.machine_model.specs.Machine.{Frame}
use Rattle.stack_code.specs.declared.code.Code.{Code}
use Rattle.stack_code.specs.declared.code.Unit.{Unit as CodeUnit}
use Rattle.stack_code.specs.CodeMachine.{OpenedTrap, Standing, lands}
use Rattle.stack_code.specs.Commands.{Command, Do, GoTo, GoToIfNot, OpenTrap, CloseTrap, command_at}
use Rattle.stack_code.specs.Flow.{AreSame, BeginsBelow, IsTypedAt, tally_landing}
use Rattle.stack_code.specs.Frames.{IsOfItsUnit, SlotsFit, StandsIn, TallyIs, TopFits, TrapFits}
use Rattle.stack_code.specs.Good.{IsLater}
use Rattle.stack_code.specs.Places.{IsIn, Station, stack_at, tally_at, traps_at, traps_from, traps_then}
use Rattle.stack_code.specs.Values.{AllFit, Fits, IsMadeError, StackFits}
use Rattle.code_keeping.proofs.Doing.{trap-stays}
use Rattle.code_keeping.proofs.Lists.{at-some, of-some, zip-all, zip-both}
use Rattle.code_keeping.proofs.Places.{typed-by}
use Rattle.code_keeping.proofs.Staying.{all-later, slots-later}
use Rattle.code_keeping.proofs.Taking.{zip-length}

-- ---- where the innermost trap was opened

heads : (x y : ℕ) (xs ys : List ℕ) → Some (x ∷ xs) ≡ Some (y ∷ ys) → x ≡ y
heads x y xs ys e = let q : x ≡ y = cc in q

rests : (x y : ℕ) (xs ys : List ℕ) → Some (x ∷ xs) ≡ Some (y ∷ ys) → xs ≡ ys
rests x y xs ys e = let q : xs ≡ ys = cc in q

-- t was opened so many places behind the first one, in the reach of the others
abbrev WasOpened : Code → ℕ → ℕ → ℕ → List ℕ → Type 0
WasOpened code first n t ts = (k landing : ℕ) × (k < n) × (t ≡ first + k) × (command_at code t ≡ Some (OpenTrap landing)) × (traps_from code first k ≡ Some ts)

later-opened : (code : Code) (first n m t : ℕ) (ts : List ℕ) → n ≤ m → WasOpened code first n t ts → WasOpened code first m t ts
later-opened code first n m t ts le (k, landing, l, e, c, h) = (k, landing, omega (arith, l, le), e, c, h)

-- by the number of places, which bounds how far back it is
pub opened : (code : Code) (first fuel n t : ℕ) (ts : List ℕ) → n ≤ fuel → traps_from code first n ≡ Some (t ∷ ts) → WasOpened code first n t ts
opened code first fuel zero t ts le e = absurd (let q : ⊥ = cc in q)
opened code first zero (suc n) t ts le e = absurd (omega (arith, le))
opened code first (suc fuel) (suc n) t ts le e = by (λ m x xs k h. opened code first fuel m x xs k h) (command_at code (first + n)) (traps_from code first n) refl refl e
  where
    by : ((m x : ℕ) (xs : List ℕ) → m ≤ fuel → traps_from code first m ≡ Some (x ∷ xs) → WasOpened code first m x xs) →
        (c : Option Command) (o : Option (List ℕ)) → command_at code (first + n) ≡ c → traps_from code first n ≡ o → traps_then (first + n) c o ≡ Some (t ∷ ts) → WasOpened code first (suc n) t ts
    by go c None ec e h = absurd (let q : ⊥ = cc in q)
    by go (Some (OpenTrap landing)) (Some traps) ec e h =
        let same : first + n ≡ t = heads (first + n) t traps ts h in
        (n, landing, omega arith, sym same, subst (λ q. command_at code q ≡ Some (OpenTrap landing)) same ec, e ∙ ap (λ xs. Some xs) (rests (first + n) t traps ts h))
    by go (Some CloseTrap) (Some []) ec e h = absurd (let q : ⊥ = cc in q)
    by go (Some CloseTrap) (Some (x ∷ traps)) ec e h =
        let (k, landing, l, is, does, more) = go n x traps (omega (arith, le)) e in
        later-opened code first k (suc n) t ts (omega (arith, l)) (go k t ts (omega (arith, l, le)) (more ∙ h))
    by go (Some (Do o)) (Some traps) ec e h = later-opened code first n (suc n) t ts (omega arith) (go n t ts (omega (arith, le)) (e ∙ h))
    by go (Some (GoTo to)) (Some traps) ec e h = later-opened code first n (suc n) t ts (omega arith) (go n t ts (omega (arith, le)) (e ∙ h))
    by go (Some (GoToIfNot to)) (Some traps) ec e h = later-opened code first n (suc n) t ts (omega arith) (go n t ts (omega (arith, le)) (e ∙ h))
    by go None (Some traps) ec e h = later-opened code first n (suc n) t ts (omega arith) (go n t ts (omega (arith, le)) (e ∙ h))

-- ---- errors

pub error-shape : (h : Heap) (env : _) (n : ℕ) (s : Shape) → HasShape h s (Error n) → In env s (Basic ErrorAll)
error-shape h env n NilShape e = absurd (let q : ⊥ = cc in q)
error-shape h env n (BoolShape b) e = absurd (let q : ⊥ = cc in q)
error-shape h env n (IntShape i) e = absurd (let q : ⊥ = cc in q)
error-shape h env n (StrShape t) e = absurd (let q : ⊥ = cc in q)
error-shape h env n (List' mark _ items) e = absurd e.1
error-shape h env n (Mapping' mark _ fields) e = absurd e.1
error-shape h env n (Error' _ detail) e = tt
error-shape h env n (FunctionShape isolated graph) e = absurd e
error-shape h env n (Future' _ results) e = absurd e

pub error-fits : (code : Code) (d : Common) → IsClosed d.world.heap → (e : Value) → IsMadeError code d e → (t : SemType) → HaveSameShapes code.atoms t (Basic ErrorAll) → Fits code d e t
error-fits code d closed (Error n) (is, made) t same = (closed, made, (λ s valid stands. (same s valid).1 (error-shape d.world.heap code.atoms n s stands)))
error-fits code d closed Nil (is, made) t same = absurd (let q : ⊥ = cc in q)
error-fits code d closed (Truth b) (is, made) t same = absurd (let q : ⊥ = cc in q)
error-fits code d closed (Int i) (is, made) t same = absurd (let q : ⊥ = cc in q)
error-fits code d closed (Str s) (is, made) t same = absurd (let q : ⊥ = cc in q)
error-fits code d closed (Struct n) (is, made) t same = absurd (let q : ⊥ = cc in q)
error-fits code d closed (Function n) (is, made) t same = absurd (let q : ⊥ = cc in q)
error-fits code d closed (Future n unit) (is, made) t same = absurd (let q : ⊥ = cc in q)

-- a value of each type is of the same one, from the second to the first
pub back-same : (code : Code) (c : Common) (vs : List Value) (own ts : List SemType) → AllFit code c vs ts → AreSame code own ts → AllFit code c vs own
back-same code c [] [] [] h k = tt
back-same code c [] (o ∷ own) [] h k = absurd k
back-same code c [] own (t ∷ ts) h k = absurd h
back-same code c (v ∷ vs) own [] h k = absurd h
back-same code c (v ∷ vs) [] (t ∷ ts) h k = absurd k
back-same code c (v ∷ vs) (o ∷ own) (t ∷ ts) ((closed, made, belongs), more) (k, others) =
    ((closed, made, (λ x valid stands. (k x valid).1 (belongs x valid stands))), back-same code c vs own ts more others)

-- the frame may have gone on by now: it is at a place q of its unit, or awaits the result of a call there
module _ (code : Code) (f : Frame Standing) (u : CodeUnit) (eu : slice_get code.units f.unit ≡ Some u) (station : Station) (typed : (q : ℕ) → IsIn u q → IsTypedAt code u station q) where
  abbrev l : Local
  l = f.control.local

  -- the operands of a trap that was opened in the reach of another one are more than that one's
  outer : (t : ℕ) → BeginsBelow code u station t → (ts : List ℕ) → traps_at code u t ≡ Some ts → All (λ k. length (stack_at code k) ≤ length (stack_at code t)) ts
  outer t begins ts e n d lt =
      let (front, back, is, below) = (of-some _ (traps_at code u t) ts e begins) n d lt in
      let same = zip-len front _ below in
      let sum = ap length is ∙ length-append front back in
      omega (arith, same, sum)
    where
      zip-len : (xs ys : List SemType) → AreBelow code.atoms xs ys → length xs ≡ length ys
      zip-len [] [] h = refl
      zip-len [] (y ∷ ys) h = absurd h
      zip-len (x ∷ xs) [] h = absurd h
      zip-len (x ∷ xs) (y ∷ ys) h = ap suc (zip-len xs ys h.1)

  -- where its numbers are those with which a panic comes from a place q in these traps
  pub caught : (q : ℕ) → IsIn u q → (c d : Common) (e : Value) → IsClosed d.world.heap → IsMadeError code d e → IsLater None c d → SlotsFit code c u l.slots →
      TallyIs code d f.role (tally_landing (command_at code q) (tally_at code q)) → IsOfItsUnit code d f.unit f.role →
      (held stack : List Value) (traps : List OpenedTrap) (r : Option (List ℕ)) → traps_at code u q ≡ r → IsSomeAnd r (λ ts. AllZip (TrapFits code c held) traps ts) → Caught (TopFits code d) f (lands (with_stack l stack) e traps)
  caught q in-q c d e closed error later slots numbers own held stack [] r er h = tt
  caught q in-q c d e closed error later slots numbers own held stack (trap ∷ traps) None er h = absurd h
  caught q in-q c d e closed error later slots numbers own held stack (trap ∷ traps) (Some []) er h = absurd h
  caught q in-q c d e closed error later slots numbers own held stack (trap ∷ traps) (Some (t ∷ ts)) er ((command, fit, (more, is)), others) =
      let (k, landing, lt, et, ec, ek) = opened code u.first (q - u.first) (q - u.first) t ts (omega arith) er in
      let at-t : traps_at code u t ≡ Some ts = ap (λ n. traps_from code u.first n) (place t k et) ∙ ek in
      let in-t : IsIn u t = (omega (arith, et), omega (arith, et, lt, in-q.0, in-q.1)) in
      let there = typed t in-t in
      let (lands-at, landing, tallies, goes) = typed-by code u station t (OpenTrap trap.landing) command there in
      let (own-types, error-type, stack-is, same, errors) = landing in (
        (
          at-some (StandsIn code d trap.landing l.slots (e ∷ trap.below) traps) (slice_get code.units f.unit) u eu (
            lands-at.0,
            slots-later code None c d later u l.slots slots,
            at-some (λ ts. AllZip (TrapFits code d (e ∷ trap.below)) traps ts) (traps_at code u trap.landing) ts (lands-at.2 ∙ at-t)
                (zip-all (TrapFits code c (more ++ trap.below)) (TrapFits code d (e ∷ trap.below)) (λ k. length (stack_at code k) ≤ length (stack_at code t))
                (λ x k fits small. trap-stays code c d None later more trap.below (e ∷ []) (length (stack_at code t)) (sized t trap fit) x k fits small)
                traps ts (subst (λ s. AllZip (TrapFits code c s) traps ts) is others) (outer t there.begins ts at-t)),
          ),
          subst (λ x. TallyIs code d f.role x) (tallies q in-q (at-some (λ traps. Contains traps t) (traps_at code u q) (t ∷ ts) er (0, omega arith, refl))) numbers,
          own,
        ),
        subst (λ ts. AllFit code d (reverse (e ∷ trap.below)) ts) (sym stack-is)
            (subst (λ xs. AllFit code d xs (own-types ++ error-type ∷ [])) (sym (reverse-append (e ∷ []) trap.below))
            (zip-both (Fits code d) (reverse trap.below) (e ∷ []) own-types (error-type ∷ []) (back-same code d (reverse trap.below) own-types (stack_at code t) (all-later code None c d later (reverse trap.below) (stack_at code t) fit) same)
            (error-fits code d closed e error error-type errors, tt))),
      )
    where
      place : (t k : ℕ) → t ≡ u.first + k → t - u.first ≡ k
      place t k e = omega (arith, e)

      sized : (t : ℕ) (trap : OpenedTrap) → StackFits code c trap.below (stack_at code t) → length (stack_at code t) ≤ length trap.below
      sized t trap fit = let n : length trap.below ≡ length (stack_at code t) = sym (length-reverse trap.below) ∙ zip-length (Fits code c) (reverse trap.below) (stack_at code t) fit in omega (arith, n)
