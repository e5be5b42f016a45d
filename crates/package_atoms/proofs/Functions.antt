-- Units that begin and end, and what they capture.
use Rattle.std.proofs.Common.{◌++◌, ℕ, Bool, true, false, List, [], ◌∷◌, All, IfSome, Option, None, Some, fold, map, refl}
use Rattle.std.specs.Prelude.{if◌then◌else◌, unwrap_or}
use Rattle.std.proofs.lemmas.List.Elements.{All-head, All-map, All-nil, All-tail, All-weaker}
use Rattle.bal_base.specs.declared.place.Place.{Place}
use Rattle.bal_base.specs.declared.text.Name.{Name}
use Rattle.bal_tree.specs.declared.name.Word.{Word}
use Rattle.type_model.specs.Defined.{TyBelow}
use Rattle.type_model.specs.Places.{is_same_text}
use Rattle.typed_tree.specs.SharedTypes.{Shared}
use Rattle.flow_narrowing.specs.declared.flow.Variable.{Variable}
use Rattle.flow_narrowing.specs.Flows.{IfShared, VariableBelow}
use Rattle.check_words.specs.Calls.{Capture, begins_anonymous, begins_value, capture_if, captured_as, captures, closes_unit, has_parameter, has_rest, is_captured, makes_anonymous, new_number, opens_unit}
use Rattle.check_words.specs.Stands.{FlowBelow}
use Rattle.check_words.specs.State.{UnitAtWork, all_but, find_variable}
use Rattle.check_words.proofs.Standing.{also-has, last-has, others-have}
use Rattle.isolation_check.proofs.Held.{function-held}
use Rattle.package_atoms.proofs.Keeping.{Any, Keeps, asked, becoming, behind, chosen, chosen-as, forgetting, given, handled, knowing}
use Rattle.package_atoms.proofs.Questions.{adds-grows}
use Rattle.package_atoms.proofs.Calls.{new-kept}
use Rattle.package_atoms.proofs.Values.{one-held}
use Rattle.package_atoms.proofs.Words.{CapturedHeld, Held, Standing, Stays, UnitHeld, made, no-more, unit-held, unit-same, unit-set, standing-held}

-- ---- which variables are captured

module _ (n : ℕ) where
  abbrev pub CaptureBelow : Capture → Type 0
  CaptureBelow c = VariableBelow n c.0

  found-below : (vs : List Variable) (name : Name) → All (VariableBelow n) vs → IfSome (find_variable vs name) (VariableBelow n)
  found-below [] name h = tt
  found-below (v ∷ vs) name h = by (is_same_text v.name name) (found-below vs name (All-tail (VariableBelow n) v vs h))
    where
      by : (b : Bool) → IfSome (find_variable vs name) (VariableBelow n) → IfSome (if b then Some v else find_variable vs name) (VariableBelow n)
      by true k = All-head (VariableBelow n) v vs h
      by false k = k

  capture-below : (done : List Capture) (at : Place) (v : Option Variable) → IfSome v (VariableBelow n) → All CaptureBelow done → All CaptureBelow (capture_if done at v)
  capture-below done at None h k = k
  capture-below done at (Some v) h k = by (is_captured done v.name)
    where
      by : (b : Bool) → All CaptureBelow (if b then done else done ++ (v, at) ∷ [])
      by true = k
      by false = also-has CaptureBelow done (v, at) k h

  captured-from : (vs : List Variable) (uses : List Word) (done : List Capture) → All (VariableBelow n) vs → All CaptureBelow done
      → All CaptureBelow (fold (λ done u. capture_if done u.at (find_variable vs u.name)) done uses)
  captured-from vs [] done h k = k
  captured-from vs (u ∷ us) done h k =
      captured-from vs us (capture_if done u.at (find_variable vs u.name)) h (capture-below done u.at (find_variable vs u.name) (found-below vs u.name h) k)

  now-below : (narrowed : Option Shared) (declared : Shared) → IfShared (TyBelow n) narrowed → TyBelow n declared.value → TyBelow n (unwrap_or narrowed declared).value
  now-below None declared h k = k
  now-below (Some t) declared h k = h

  -- they have types that name atoms that are there
  pub captured-held : (vs : List Variable) (uses : List Word) → All (VariableBelow n) vs → All (CapturedHeld n) (map captured_as (captures vs uses))
  captured-held vs uses h =
      All-map (CapturedHeld n) captured_as (captures vs uses)
      (All-weaker CaptureBelow (λ c. CapturedHeld n (captured_as c)) (λ c k. now-below c.0.narrowed c.0.declared k.narrowed k.declared) (captures vs uses)
      (captured-from vs uses [] h (All-nil CaptureBelow)))

-- ---- what is kept

module _ (n : ℕ) where
  pub number-taken : (so : Type 0) → Stays n so new_number
  unfolding Held
  number-taken so = behind (chosen _ _ _) (λ k. behind (becoming (Held n) _ (Held n) _ (λ old. refl) (λ old c h. h)) (λ u. chosen _ _ _))

  pub unit-opened : (so : Type 0) (u : UnitAtWork) → (so → UnitHeld n u) → Stays n so (opens_unit u)
  unfolding Held
  unit-opened so u f =
      knowing (handled _ _ _ _ (UnitHeld n) (λ v s c. unit-same n u v s (f c))) (λ v.
      becoming (Held n) _ (Held n) _ (λ old. refl) (λ old c h. (h.0, h.1, h.2, also-has (UnitHeld n) old.units v h.3 c.1, h.4, h.5)))

  pub unit-closed : (so : Type 0) → Keeps (Held n) so closes_unit (UnitHeld n) (Held n)
  unfolding Held
  unit-closed so =
      knowing (unit-held n _) (λ u. behind (becoming (Held n) _ (Held n) _ (λ old. refl) (λ old c h. (h.0, h.1, h.2, others-have (UnitHeld n) 1 old.units h.3, h.4, h.5)))
      (λ v. given _ _ u (UnitHeld n) (λ c. c.1)))

  pub anonymous-begun : (so : Type 0) → Stays n so begins_anonymous
  anonymous-begun so = behind (chosen _ _ _) (λ around. behind (number-taken _) (λ k. unit-opened _ _ (λ c. All-nil (CapturedHeld n))))

  pub parameter-kept : (so : Type 0) (w : Word) → Stays n so (has_parameter w)
  parameter-kept so w =
      behind (new-kept _ _ w) (λ u. behind (chosen _ _ _) (λ t. behind (no-more n _ 1) (λ v. knowing (unit-held n _) (λ unit. unit-set n _ _ (λ c. c.1)))))

  pub rest-kept : (so : Type 0) (w : Word) → Stays n so (has_rest w)
  rest-kept so w =
      behind (new-kept _ _ w) (λ u. behind (chosen _ _ _) (λ t. behind (no-more n _ 1) (λ v. behind (asked _ _ _ (adds-grows _ _)) (λ atom. behind (chosen _ _ _) (λ l.
      knowing (unit-held n _) (λ unit. unit-set n _ _ (λ c. c.1)))))))

  pub value-begun : (so : Type 0) (uses : List Word) → Keeps (Standing n) so (begins_value uses) Any (Held n)
  value-begun so uses =
      behind (chosen _ _ _) (λ t. knowing
      (chosen-as (Standing n) _ _ (λ u. FlowBelow n u.flow) (λ old u l c h.
      last-has (λ v. FlowBelow n v.flow) (all_but 1 old.units) u l (others-have (λ v. FlowBelow n v.flow) 1 old.units h.1.flows)))
      (λ around. behind (chosen _ _ _) (λ unit. forgetting (Standing n) (standing-held n) (unit-set n _ _ (λ c. captured-held n around.flow.variables uses c.1)))))

  pub anonymous-kept : (so : Type 0) (isolated : Bool) (at : Place) → Stays n so (makes_anonymous isolated at)
  anonymous-kept so isolated at =
      behind (no-more n _ 1) (λ v. knowing (unit-closed _) (λ u. behind (asked _ _ _ (adds-grows _ _)) (λ first.
      made n _ _ _ (λ env parts e x c all. function-held n _ x.0 x.2 at e x.4 c.1 (one-held n parts x.0 x.1 all)))))
