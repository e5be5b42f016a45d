-- A variable that is narrowed by its name.
use Rattle.std.proofs.Common.{◌≡◌, ◌<◌, ◌≤◌, ℕ, zero, suc, Bool, true, false, List, [], ◌∷◌, Option, Some, None, length, get_or, refl, sym, subst, ap, ◌∙◌, arith}
use Rattle.std.specs.Prelude.{nat_lt, slice_set, if◌then◌else◌}
use Rattle.std.specs.List.{AllZip, position, position_or_len}
use Rattle.std.proofs.lemmas.Bool.{ltb-false}
use Rattle.std.proofs.lemmas.List.Elements.{All-cons, All-head, All-nil, All-tail}
use Rattle.std.proofs.lemmas.List.Quantifiers.{position-Some}
use Rattle.std.proofs.lemmas.List.Sums.{fails_before_first}
use Rattle.bal_base.specs.declared.text.Name.{Name}
use Rattle.flow_narrowing.specs.declared.flow.Flow.{Flow}
use Rattle.flow_narrowing.specs.declared.flow.Variable.{Variable}
use Rattle.flow_narrowing.specs.Changes.{with_narrowed}
use Rattle.flow_narrowing.specs.Flows.{AreSame, IfShared, VariableBelow, VariablesBelow}
use Rattle.type_model.specs.Defined.{TyBelow}
use Rattle.type_model.specs.Places.{is_same_text}
use Rattle.typed_tree.specs.SharedTypes.{Shared}
use Rattle.check_words.specs.Sharing.{SameFlow, SameVariable}
use Rattle.check_words.specs.Stands.{FlowBelow}
use Rattle.check_words.specs.State.{narrowed_by_name, with_type}

-- ---- where the name stands first

module _ (name : Name) (t : Option Shared) where
  abbrev has_name : Variable → Bool
  has_name v = is_same_text v.name name

  narrow-here : (v : Variable) (vs : List Variable) → has_name v ≡ true → with_narrowed v t ∷ vs ≡ narrowed_by_name (v ∷ vs) name t
  narrow-here v vs h = sym (ap (λ b. if b then with_narrowed v t ∷ vs else v ∷ narrowed_by_name vs name t) h)

  narrow-behind : (v : Variable) (vs : List Variable) → has_name v ≡ false → v ∷ narrowed_by_name vs name t ≡ narrowed_by_name (v ∷ vs) name t
  narrow-behind v vs h = sym (ap (λ b. if b then with_narrowed v t ∷ vs else v ∷ narrowed_by_name vs name t) h)

  narrow-at : (vs : List Variable) (i : ℕ) (d : Variable) → i < length vs → has_name (get_or vs i d) ≡ true → ((k : ℕ) → k < i → has_name (get_or vs k d) ≡ false)
      → slice_set vs i (with_narrowed (get_or vs i d) t) ≡ narrowed_by_name vs name t
  narrow-at [] i d l h f = absurd (omega (arith, l))
  narrow-at (v ∷ vs) zero d l h f = narrow-here v vs h
  narrow-at (v ∷ vs) (suc i) d l h f =
      let first : 0 < suc i = omega arith in
      let m : i < length vs = omega (arith, l) in
      ap (λ xs. v ∷ xs) (narrow-at vs i d m h (λ k b. let c : suc k < suc i = omega (arith, b) in f (suc k) c)) ∙ narrow-behind v vs (f 0 first)

  narrow-past : (vs : List Variable) (d : Variable) → ((k : ℕ) → k < length vs → has_name (get_or vs k d) ≡ false) → vs ≡ narrowed_by_name vs name t
  narrow-past [] d f = refl
  narrow-past (v ∷ vs) d f =
      let first : 0 < length (v ∷ vs) = omega arith in
      ap (λ xs. v ∷ xs) (narrow-past vs d (λ k b. let c : suc k < length (v ∷ vs) = omega (arith, b) in f (suc k) c)) ∙ narrow-behind v vs (f 0 first)

  pub narrow-position : (vs : List Variable) (i : ℕ) (d : Variable) → position has_name vs ≡ Some i → slice_set vs i (with_narrowed (get_or vs i d) t) ≡ narrowed_by_name vs name t
  narrow-position vs i d h = let at = position-Some has_name vs i d h in narrow-at vs i d at.0 at.1 at.2

  none-of : (vs : List Variable) (d : Variable) → position has_name vs ≡ None → (k : ℕ) → k < length vs → has_name (get_or vs k d) ≡ false
  none-of vs d h k l =
      let all : length vs ≤ position_or_len has_name vs = by (nat_lt (position_or_len has_name vs) (length vs)) refl h in
      let m : k < position_or_len has_name vs = omega (arith, all, l) in fails_before_first has_name vs k d m
    where
      some : {A : Type 0} (a : A) → Some a ≡ None → ⊥
      some a e = cc

      by : (b : Bool) → nat_lt (position_or_len has_name vs) (length vs) ≡ b → (if b then Some (position_or_len has_name vs) else None) ≡ None
          → length vs ≤ position_or_len has_name vs
      by true e h = absurd (some (position_or_len has_name vs) h)
      by false e h = ltb-false (position_or_len has_name vs) (length vs) e

  pub narrow-no-position : (vs : List Variable) → position has_name vs ≡ None → vs ≡ narrowed_by_name vs name t
  narrow-no-position [] h = refl
  narrow-no-position (v ∷ vs) h = narrow-past (v ∷ vs) v (none-of (v ∷ vs) v h)

pub ruleset retyping = (narrow-position, narrow-no-position)

-- ---- by other handles

module _ (name : Name) (t u : Option Shared) (same : AreSame t u) where
  narrowed-same : (v w : Variable) → SameVariable v w → SameVariable (with_narrowed v t) (with_narrowed w u)
  narrowed-same v w h = record {
    variable = record {
      name = h.variable.name;
      slot = h.variable.slot;
      declared = h.variable.declared;
      fixed = h.variable.fixed;
      assigned = h.variable.assigned;
      captured = h.variable.captured;
    };
    narrowed = same;
  }

  all-retyped : (vs ws : List Variable) → AllZip SameVariable vs ws → AllZip SameVariable (narrowed_by_name vs name t) (narrowed_by_name ws name u)
  all-retyped [] [] h = tt
  all-retyped [] (w ∷ ws) h = absurd h
  all-retyped (v ∷ vs) [] h = absurd h
  all-retyped (v ∷ vs) (w ∷ ws) h =
      subst (λ b. AllZip SameVariable (narrowed_by_name (v ∷ vs) name t) (if b then with_narrowed w u ∷ ws else w ∷ narrowed_by_name ws name u))
      (ap (λ n. is_same_text n name) (sym h.0.variable.name)) (by (all-retyped vs ws h.1) (is_same_text v.name name))
    where
      by : AllZip SameVariable (narrowed_by_name vs name t) (narrowed_by_name ws name u) → (b : Bool)
          → AllZip SameVariable (if b then with_narrowed v t ∷ vs else v ∷ narrowed_by_name vs name t) (if b then with_narrowed w u ∷ ws else w ∷ narrowed_by_name ws name u)
      by behind true = (narrowed-same v w h.0, h.1)
      by behind false = (h.0, behind)

  pub same-retyped : (f g : Flow) → SameFlow f g → SameFlow (with_type name t f) (with_type name u g)
  same-retyped f g h = record { variables = all-retyped f.variables g.variables h.variables; reached = h.reached }

-- ---- types that are there

module _ (n : ℕ) (name : Name) (t : Option Shared) (below : IfShared (TyBelow n) t) where
  all-below : (vs : List Variable) → VariablesBelow n vs → VariablesBelow n (narrowed_by_name vs name t)
  all-below [] h = All-nil (VariableBelow n)
  all-below (v ∷ vs) h = by (all-below vs (All-tail (VariableBelow n) v vs h)) (is_same_text v.name name)
    where
      by : VariablesBelow n (narrowed_by_name vs name t) → (b : Bool) → VariablesBelow n (if b then with_narrowed v t ∷ vs else v ∷ narrowed_by_name vs name t)
      by behind true =
          All-cons (VariableBelow n) (with_narrowed v t) vs (record { declared = (All-head (VariableBelow n) v vs h).declared; narrowed = below }) (All-tail (VariableBelow n) v vs h)
      by behind false = All-cons (VariableBelow n) v (narrowed_by_name vs name t) (All-head (VariableBelow n) v vs h) behind

  pub retyped-below : (f : Flow) → FlowBelow n f → FlowBelow n (with_type name t f)
  retyped-below f h = all-below f.variables h
