-- What a function captures: variables of the unit around it, in slots behind those of its parameters.
use Rattle.std.proofs.Common.{◌≡◌, ◌∙◌, ◌++◌, ◌+◌, ℕ, suc, Bool, true, false, List, [], ◌∷◌, length, map, drop, take, All, IfSome, Option, Some, None, append_assoc, arith, length-append, refl, sym, subst, ap}
use Rattle.std.specs.Prelude.{fold, is_some, slice_get, unwrap_or, if◌then◌else◌}
use Rattle.std.specs.List.{AllZip}
use Rattle.std.proofs.lemmas.List.{length-map}
use Rattle.std.proofs.lemmas.List.Elements.{All-append, All-cons, All-head, All-nil, All-tail}
use Rattle.std.proofs.Math.Seq.{take-append_seam}
use Rattle.bal_base.specs.declared.place.Place.{Place}
use Rattle.bal_tree.specs.declared.name.Word.{Word}
use Rattle.operations.specs.Rows.{Surroundings}
use Rattle.type_model.specs.declared.atoms.AtomDef.{AtomDef}
use Rattle.type_model.specs.declared.basic.SemType.{SemType}
use Rattle.type_model.specs.declared.basic.Ty.{Ty}
use Rattle.type_model.specs.Inclusion.{Sub}
use Rattle.typed_tree.specs.declared.unit.Captured.{Captured}
use Rattle.typed_tree.specs.SharedTypes.{Shared, sem_of}
use Rattle.flow_narrowing.specs.declared.flow.Variable.{Variable}
use Rattle.check_words.specs.Calls.{Capture, capture_if, captured_as, captures, in_function, is_captured}
use Rattle.check_words.specs.Sharing.{SameCaptured}
use Rattle.check_words.specs.State.{find_variable, shared_now}
use Rattle.tree_promises.specs.Made.{AllCapturedTyped}
use Rattle.typed_needs.specs.Placing.{IsStored}
use Rattle.typed_needs.proofs.Naming.{found-has}
use Rattle.typed_needs.proofs.Placed.{get-behind, get-in-front}

-- where the slots of the unit at hand are these, the variable's slot is of its declared type
abbrev pub InSlots : Surroundings → List SemType → Variable → Type 0
InSlots place slots = IsStored (record place { slots = slots })

-- the types of the slots of what is captured
abbrev pub types_of : List Capture → List SemType
types_of cs = map sem_of (map (λ (c : Capture). shared_now c.0) cs)

-- ---- lists

pub types-append : (ts us : List Shared) → map sem_of (ts ++ us) ≡ map sem_of ts ++ map sem_of us
types-append [] us = refl
types-append (t ∷ ts) us = ap (λ l. sem_of t ∷ l) (types-append ts us)

drop-front : (xs ys : List SemType) → drop (length xs) (xs ++ ys) ≡ ys
drop-front [] ys = refl
drop-front (x ∷ xs) ys = drop-front xs ys

-- those behind the first ones
pub between-these : (front back more : List SemType) (p n : ℕ) → p ≡ length front → n ≡ length back → take n (drop p ((front ++ back) ++ more)) ≡ back
between-these front back more p n is many =
    ap (λ i. take n (drop i ((front ++ back) ++ more))) is ∙ ap (λ xs. take n (drop (length front) xs)) (append_assoc front back more)
    ∙ ap (λ xs. take n xs) (drop-front front (back ++ more)) ∙ ap (λ i. take i (back ++ more)) many ∙ take-append_seam back more

-- with further slots behind
pub more-slots : (place : Surroundings) (xs ys : List SemType) (vs : List Variable) → All (InSlots place xs) vs → All (InSlots place (xs ++ ys)) vs
more-slots place xs ys [] h = All-nil _
more-slots place xs ys (v ∷ vs) h =
    All-cons (InSlots place (xs ++ ys)) v vs (get-in-front xs ys v.slot (sem_of v.declared) (All-head (InSlots place xs) v vs h))
    (more-slots place xs ys vs (All-tail (InSlots place xs) v vs h))

-- ---- variables in a function

pub captured-in : (place : Surroundings) (front : List SemType) (cs : List Capture) → All (InSlots place (front ++ types_of cs)) (in_function (length front) cs)
captured-in place front [] = All-nil _
captured-in place front (c ∷ cs) =
    let t : SemType = sem_of (shared_now c.0) in
    let long : length (front ++ t ∷ []) ≡ suc (length front) = (let more = length-append front (t ∷ []) in omega (arith, more)) in
    let slots : (front ++ t ∷ []) ++ types_of cs ≡ front ++ types_of (c ∷ cs) = append_assoc front (t ∷ []) (types_of cs) in
    let rest : All (InSlots place ((front ++ t ∷ []) ++ types_of cs)) (in_function (length (front ++ t ∷ [])) cs) = captured-in place (front ++ t ∷ []) cs in
    let rest' : All (InSlots place (front ++ types_of (c ∷ cs))) (in_function (length (front ++ t ∷ [])) cs) =
    subst (λ xs. All (InSlots place xs) (in_function (length (front ++ t ∷ [])) cs)) slots rest in
    All-cons (InSlots place (front ++ types_of (c ∷ cs)))
    (record { name = c.0.name; slot = length front; declared = shared_now c.0; narrowed = None; fixed = c.0.fixed; assigned = c.0.assigned; captured = true })
    (in_function (suc (length front)) cs) (get-behind front t (types_of cs))
    (subst (λ n. All (InSlots place (front ++ types_of (c ∷ cs))) (in_function n cs)) long rest')

-- ---- captures are variables that are seen

module _ (P : Variable → Type 0) where
  abbrev Both : Capture → Type 0
  Both c = P c.0

  if-captured : (b : Bool) (done : List Capture) (c : Capture) → P c.0 → All Both done → All Both (if b then done else done ++ c ∷ [])
  if-captured true done c p h = h
  if-captured false done c p h = All-append Both done (c ∷ []) h (All-cons Both c [] p (All-nil Both))

  captured-more : (o : Option Variable) (at : Place) (done : List Capture) → IfSome o P → All Both done → All Both (capture_if done at o)
  captured-more None at done p h = h
  captured-more (Some v) at done p h = if-captured (is_captured done v.name) done (v, at) p h

  captures-from : (vs : List Variable) (uses : List Word) (done : List Capture) → All P vs → All Both done
      → All Both (fold (λ done u. capture_if done u.at (find_variable vs u.name)) done uses)
  captures-from vs [] done all h = h
  captures-from vs (u ∷ uses) done all h =
      captures-from vs uses (capture_if done u.at (find_variable vs u.name)) all
      (captured-more (find_variable vs u.name) u.at done (found-has P vs u.name all) h)

  pub captures-have : (vs : List Variable) (uses : List Word) → All P vs → All Both (captures vs uses)
  captures-have vs uses all = captures-from vs uses [] all (All-nil Both)

-- ---- as they are captured

pub captured-types : (cs : List Capture) (ds : List Captured) → AllZip SameCaptured (map captured_as cs) ds → map (λ d. sem_of d.ty) ds ≡ types_of cs
captured-types [] [] h = refl
captured-types (c ∷ cs) (d ∷ ds) h =
    ap (λ t. t ∷ map (λ (d : Captured). sem_of d.ty) ds) (one c d h.0) ∙ ap (λ l. sem_of (shared_now c.0) ∷ l) (captured-types cs ds h.1)
  where
    one : (c : Capture) (d : Captured) → SameCaptured (captured_as c) d → sem_of d.ty ≡ sem_of (shared_now c.0)
    one c d s = ap (λ (t : Ty). t.sem) s.ty
captured-types [] (d ∷ ds) h = absurd h
captured-types (c ∷ cs) [] h = absurd h

pub captured-long : (cs : List Capture) (ds : List Captured) → AllZip SameCaptured (map captured_as cs) ds → length ds ≡ length (types_of cs)
captured-long cs ds h = sym (length-map ds (λ d. sem_of d.ty)) ∙ ap (λ (ts : List SemType). length ts) (captured-types cs ds h)

module _ (env : List AtomDef) (place : Surroundings) where
  -- what isn't narrowed has its declared type
  not-narrowed : (o : Option Shared) (d : Shared) → is_some o ≡ false → Sub env (sem_of d) (sem_of (unwrap_or o d))
  not-narrowed None d e = λ x valid i. i
  not-narrowed (Some t) d e = absurd (let bad : ⊥ = cc in bad)

  pub captured-typed : (cs : List Capture) (ds : List Captured) → AllZip SameCaptured (map captured_as cs) ds → All (λ (c : Capture). IsStored place c.0) cs
      → AllCapturedTyped env place ds
  captured-typed [] [] h all = tt
  captured-typed (c ∷ cs) (d ∷ ds) h all =
      (one c d h.0 (All-head (λ (c : Capture). IsStored place c.0) c cs all), captured-typed cs ds h.1 (All-tail (λ (c : Capture). IsStored place c.0) c cs all))
    where
      one : (c : Capture) (d : Captured) → SameCaptured (captured_as c) d → IsStored place c.0
          → (s : SemType) × (slice_get place.slots d.slot ≡ Some s) × (d.narrowed ≡ false → Sub env s (sem_of d.ty))
      one c d s stored = (
        sem_of c.0.declared,
        ap (λ n. slice_get place.slots n) s.slot ∙ stored,
        (λ narrow.
            subst (λ (t : Ty). Sub env (sem_of c.0.declared) t.sem) (sym s.ty) (not-narrowed c.0.narrowed c.0.declared (sym s.narrowed ∙ narrow))),
      )
  captured-typed [] (d ∷ ds) h all = absurd h
  captured-typed (c ∷ cs) [] h all = absurd h
