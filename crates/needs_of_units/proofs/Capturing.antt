-- Variables that are captured, one more at a time, and that they name atoms that are there.
use Rattle.std.proofs.Common.{◌≡◌, ◌++◌, ◌∙◌, ◌+◌, ◌<◌, ℕ, suc, Bool, true, false, List, [], ◌∷◌, length, get_or, map, take, find, fold, All, Option, Some, None, IfSome, unwrap_or, if◌then◌else◌, ap, append_assoc, append-nil, arith, refl, subst, sym}
use Rattle.std.specs.List.{AllZip}
use Rattle.std.proofs.lemmas.List.{length-append, length-map, map-append, map_more, take_more}
use Rattle.std.proofs.lemmas.List.Elements.{All-append, All-cons, All-head, All-nil, All-tail, AllZip-push, length_all_zip}
use Rattle.std.proofs.lemmas.List.Sums.{fold-append}
use Rattle.bal_base.specs.declared.place.Place.{Place}
use Rattle.bal_base.specs.declared.text.Name.{Name}
use Rattle.bal_tree.specs.declared.name.Word.{Word}
use Rattle.flow_narrowing.specs.declared.flow.Flow.{Flow}
use Rattle.flow_narrowing.specs.declared.flow.Variable.{Variable}
use Rattle.flow_narrowing.specs.Flows.{IfShared, VariableBelow}
use Rattle.type_model.specs.Defined.{TyBelow}
use Rattle.type_model.specs.Places.{is_same_text}
use Rattle.typed_tree.specs.declared.unit.Captured.{Captured}
use Rattle.typed_tree.specs.SharedTypes.{Shared}
use Rattle.check_words.specs.Calls.{Capture, capture_if, captured_as, captures, is_captured}
use Rattle.check_words.specs.Sharing.{SameCaptured, SameShared, SameUnit, SameVariable}
use Rattle.check_words.specs.Stands.{SharedBelow, UnitBelow}
use Rattle.check_words.specs.State.{UnitAtWork, find_variable, shared_now, with_variable}
use Rattle.check_words.proofs.Same.{same-unit}
use Rattle.check_words.proofs.Standing.{also-has, flow-below, same-below, shared-below}
use Rattle.needs_of_units.specs.declared.captures.Capture.{Capture as CaptureHeld}
use Rattle.needs_of_units.specs.Captures.{IsCapturedInto, capture_of, inner_from, inner_narrowed, inner_type, inner_variable, with_captures}

-- ---- which are captured

-- one word more
pub captures-more : (vs : List Variable) (uses : List Word) (i : ℕ) (w : Word) (old new : List Capture) → i < length uses → w ≡ get_or uses i w
    → old ≡ captures vs (take i uses) → new ≡ capture_if old w.at (find_variable vs w.name) → new ≡ captures vs (take (i + 1) uses)
captures-more vs uses i w old new lt e before step =
    step ∙ ap (λ done. capture_if done w.at (find_variable vs w.name)) before
    ∙ sym
    (ap (captures vs) (take_more uses i w lt ∙ ap (λ x. take i uses ++ x ∷ []) (sym e))
    ∙ fold-append (λ done u. capture_if done u.at (find_variable vs u.name)) [] (take i uses) (w ∷ []))

module _ (n : ℕ) where
  abbrev CaptureBelow : Capture → Type 0
  CaptureBelow c = VariableBelow n c.0

  found-below : (vs : List Variable) (name : Name) → All (VariableBelow n) vs → IfSome (find_variable vs name) (VariableBelow n)
  found-below [] name h = tt
  found-below (v ∷ vs) name h = by (is_same_text v.name name) (found-below vs name (All-tail (VariableBelow n) v vs h))
    where
      by : (b : Bool) → IfSome (find_variable vs name) (VariableBelow n) → IfSome (if b then Some v else find_variable vs name) (VariableBelow n)
      by true k = All-head (VariableBelow n) v vs h
      by false k = k

  capture-below : (done : List Capture) (at : Place) (v : Option Variable) → IfSome v (VariableBelow n) → All CaptureBelow done → All CaptureBelow (capture_if done at v)
  capture-below done at None h k = k
  capture-below done at (Some v) h k = by (is_captured done v.name)
    where
      by : (b : Bool) → All CaptureBelow (if b then done else done ++ (v, at) ∷ [])
      by true = k
      by false = also-has CaptureBelow done (v, at) k h

  captured-from : (vs : List Variable) (uses : List Word) (done : List Capture) → All (VariableBelow n) vs → All CaptureBelow done
      → All CaptureBelow (fold (λ done u. capture_if done u.at (find_variable vs u.name)) done uses)
  captured-from vs [] done h k = k
  captured-from vs (u ∷ us) done h k =
      captured-from vs us (capture_if done u.at (find_variable vs u.name)) h (capture-below done u.at (find_variable vs u.name) (found-below vs u.name h) k)

  pub captures-below : (vs : List Variable) (uses : List Word) → All (VariableBelow n) vs → All CaptureBelow (captures vs uses)
  captures-below vs uses h = captured-from vs uses [] h (All-nil CaptureBelow)

-- ---- how they come into the unit

inner-append : (worker : Bool) (slot : ℕ) (cs : List Capture) (c : Capture)
    → inner_from worker slot (cs ++ c ∷ []) ≡ inner_from worker slot cs ++ inner_variable worker (slot + length cs) c ∷ []
inner-append worker slot [] c = let e : slot ≡ slot + 0 = omega arith in ap (λ k. inner_variable worker k c ∷ []) e
inner-append worker slot (x ∷ cs) c = let e : suc slot + length cs ≡ slot + length (x ∷ cs) = omega arith in
    ap (λ vs. inner_variable worker slot x ∷ vs)
    (inner-append worker (suc slot) cs c ∙ ap (λ k. inner_from worker (suc slot) cs ++ inner_variable worker k c ∷ []) e)

pub captured-none : (worker : Bool) (u : UnitAtWork) → SameUnit (with_captures worker [] u) u
captured-none worker u = let h = same-unit u in
    record {
      number = refl;
      worker = refl;
      slots = subst (λ ts. AllZip SameShared ts u.slots) (sym (append-nil u.slots)) h.slots;
      params = refl;
      rest = refl;
      rest_member = h.rest_member;
      result = refl;
      arrow = refl;
      future = refl;
      captured = subst (λ cs. AllZip SameCaptured cs u.captured) (sym (append-nil u.captured)) h.captured;
      flow = record { variables = subst (λ vs. AllZip SameVariable vs u.flow.variables) (sym (append-nil u.flow.variables)) h.flow.variables; reached = refl };
    }

mapped-more : {A B : Type 0} (xs : List B) (f : A → B) (ys : List A) (y : A) → (xs ++ map f ys) ++ f y ∷ [] ≡ xs ++ map f (ys ++ y ∷ [])
mapped-more xs f ys y = append_assoc xs (map f ys) (f y ∷ []) ∙ ap (λ zs. xs ++ zs) (sym (map-append f ys (y ∷ [])))

inner-more : (worker : Bool) (vs : List Variable) (slots : List Shared) (cs : List Capture) (c : Capture) (k : ℕ) → k ≡ length slots + length cs
    → (vs ++ inner_from worker (length slots) cs) ++ inner_variable worker k c ∷ [] ≡ vs ++ inner_from worker (length slots) (cs ++ c ∷ [])
inner-more worker vs slots cs c k e =
    ap (λ m. (vs ++ inner_from worker (length slots) cs) ++ inner_variable worker m c ∷ []) e
    ∙ append_assoc vs (inner_from worker (length slots) cs) (inner_variable worker (length slots + length cs) c ∷ [])
    ∙ ap (λ ys. vs ++ ys) (sym (inner-append worker (length slots) cs c))

pub captured-more : (worker : Bool) (cs : List Capture) (c : Capture) (u v w : UnitAtWork) → SameUnit (with_captures worker cs u) v → IsCapturedInto worker c v w
    → SameUnit (with_captures worker (cs ++ c ∷ []) u) w
captured-more worker cs c u v w h k =
    let len : length v.slots ≡ length u.slots + length cs = omega (
      arith,
      length_all_zip SameShared (u.slots ++ map (inner_type worker) cs) v.slots h.slots,
      length-append u.slots (map (inner_type worker) cs),
      length-map cs (inner_type worker),
    ) in
    subst (SameUnit (with_captures worker (cs ++ c ∷ []) u)) (sym k.after)
    (record {
      number = h.number;
      worker = h.worker;
      slots = subst (λ ts. AllZip SameShared ts (v.slots ++ k.ty ∷ [])) (mapped-more u.slots (inner_type worker) cs c)
          (AllZip-push SameShared (u.slots ++ map (inner_type worker) cs) v.slots (inner_type worker c) k.ty h.slots k.same_type);
      params = h.params;
      rest = h.rest;
      rest_member = h.rest_member;
      result = h.result;
      arrow = h.arrow;
      future = h.future;
      captured = subst (λ xs. AllZip SameCaptured xs (v.captured ++ k.captured ∷ [])) (mapped-more u.captured captured_as cs c)
          (AllZip-push SameCaptured (u.captured ++ map captured_as cs) v.captured (captured_as c) k.captured h.captured k.same_captured);
      flow =
          record {
            variables = subst (λ vs. AllZip SameVariable vs (v.flow.variables ++ k.variable ∷ [])) (inner-more worker u.flow.variables u.slots cs c (length v.slots) len)
                (AllZip-push SameVariable (u.flow.variables ++ inner_from worker (length u.slots) cs) v.flow.variables (inner_variable worker (length v.slots) c) k.variable
                h.flow.variables k.same_variable);
            reached = h.flow.reached;
          };
    })

-- what became of a unit in which a slot, how it is captured, and a variable were put
pub captured-so : (worker : Bool) (c : Capture) (u m : UnitAtWork) (ty : Shared) (slot : ℕ) (w : Variable) (x : Captured) (xs : List Captured) (g : Flow)
    → SameShared (inner_type worker c) ty → slot ≡ length u.slots → m ≡ record u { slots = u.slots ++ ty ∷ [] } → SameVariable (inner_variable worker slot c) w
    → SameCaptured (captured_as c) x → xs ≡ m.captured ++ x ∷ [] → g ≡ with_variable w m.flow → IsCapturedInto worker c u (record m { captured = xs; flow = g })
captured-so worker c u m ty slot w x xs g st at em sv sc ex eg =
    record {
      ty = ty;
      captured = x;
      variable = w;
      same_type = st;
      same_captured = sc;
      same_variable = subst (λ k. SameVariable (inner_variable worker k c) w) at sv;
      after = ap (λ ys. record m { captured = ys; flow = g }) ex ∙ ap (λ f. record m { captured = m.captured ++ x ∷ []; flow = f }) eg
          ∙ ap (λ (y : UnitAtWork). record y { captured = y.captured ++ x ∷ []; flow = with_variable w y.flow }) em;
    }

-- of a list of those that are captured the first i + 1
pub captured-next : (worker : Bool) (xs : List CaptureHeld) (i : ℕ) (x : CaptureHeld) (u v w : UnitAtWork) → i < length xs → x ≡ get_or xs i x
    → SameUnit (with_captures worker (map capture_of (take i xs)) u) v → IsCapturedInto worker (capture_of x) v w
    → SameUnit (with_captures worker (map capture_of (take (i + 1) xs)) u) w
captured-next worker xs i x u v w lt e h k =
    subst (λ cs. SameUnit (with_captures worker cs u) w) (sym (map_more capture_of xs i x lt ∙ ap (λ y. map capture_of (take i xs) ++ capture_of y ∷ []) (sym e)))
    (captured-more worker (map capture_of (take i xs)) (capture_of x) u v w h k)

-- ---- which atoms they name

module _ (n : ℕ) where
  now-below : (t : Option Shared) (d : Shared) → IfShared (TyBelow n) t → SharedBelow n d → SharedBelow n (unwrap_or t d)
  now-below None d h k = k
  now-below (Some t) d h k = h

  inner-type-below : (worker : Bool) (c : Capture) → VariableBelow n c.0 → SharedBelow n (inner_type worker c)
  inner-type-below true c h = h.declared
  inner-type-below false c h = now-below c.0.narrowed c.0.declared h.narrowed h.declared

  inner-narrowed-below : (worker : Bool) (c : Capture) → VariableBelow n c.0 → IfShared (TyBelow n) (inner_narrowed worker c)
  inner-narrowed-below true c h = h.narrowed
  inner-narrowed-below false c h = tt

  inner-types-below : (worker : Bool) (cs : List Capture) → All (λ c. VariableBelow n c.0) cs → All (SharedBelow n) (map (inner_type worker) cs)
  inner-types-below worker [] h = All-nil (SharedBelow n)
  inner-types-below worker (c ∷ cs) h =
      All-cons (SharedBelow n) (inner_type worker c) (map (inner_type worker) cs) (inner-type-below worker c (All-head (λ c. VariableBelow n c.0) c cs h))
      (inner-types-below worker cs (All-tail (λ c. VariableBelow n c.0) c cs h))

  inner-below : (worker : Bool) (slot : ℕ) (cs : List Capture) → All (λ c. VariableBelow n c.0) cs → All (VariableBelow n) (inner_from worker slot cs)
  inner-below worker slot [] h = All-nil (VariableBelow n)
  inner-below worker slot (c ∷ cs) h = let first = All-head (λ c. VariableBelow n c.0) c cs h in
      All-cons (VariableBelow n) (inner_variable worker slot c) (inner_from worker (suc slot) cs)
      (record { declared = inner-type-below worker c first; narrowed = inner-narrowed-below worker c first })
      (inner-below worker (suc slot) cs (All-tail (λ c. VariableBelow n c.0) c cs h))

  pub with-captures-below : (worker : Bool) (cs : List Capture) (u : UnitAtWork) → All (λ c. VariableBelow n c.0) cs → UnitBelow n u → UnitBelow n (with_captures worker cs u)
  with-captures-below worker cs u h k =
      record {
        slots = All-append (SharedBelow n) u.slots (map (inner_type worker) cs) k.slots (inner-types-below worker cs h);
        rest = k.rest;
        rest_member = k.rest_member;
        result = k.result;
        flow = All-append (VariableBelow n) u.flow.variables (inner_from worker (length u.slots) cs) k.flow (inner-below worker (length u.slots) cs h);
      }

  shared-list-below : (ts us : List Shared) → AllZip SameShared ts us → All (SharedBelow n) ts → All (SharedBelow n) us
  shared-list-below [] [] s h = All-nil (SharedBelow n)
  shared-list-below [] (u ∷ us) s h = absurd s
  shared-list-below (t ∷ ts) [] s h = absurd s
  shared-list-below (t ∷ ts) (u ∷ us) s h =
      All-cons (SharedBelow n) u us (shared-below n t u s.0 (All-head (SharedBelow n) t ts h)) (shared-list-below ts us s.1 (All-tail (SharedBelow n) t ts h))

  pub same-unit-below : (u v : UnitAtWork) → SameUnit u v → UnitBelow n u → UnitBelow n v
  same-unit-below u v s h =
      record {
        slots = shared-list-below u.slots v.slots s.slots h.slots;
        rest = subst (λ r. IfSome r (λ atom. atom < n)) (sym s.rest) h.rest;
        rest_member = same-below n u.rest_member v.rest_member s.rest_member h.rest_member;
        result = shared-below n u.result v.result s.result h.result;
        flow = flow-below n u.flow v.flow s.flow h.flow;
      }
