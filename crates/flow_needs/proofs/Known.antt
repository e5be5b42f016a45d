-- What is known of variables, as what is known of slots.
use Rattle.std.proofs.Common.{◌≡◌, ◌≤◌, ◌<◌, ◌∙◌, inr, ℕ, zero, suc, Bool, true, false, List, [], ◌∷◌, length, Option, None, Some, arith, refl, sym, subst, ap}
use Rattle.std.specs.Prelude.{if◌then◌else◌, is_some, slice_get, slice_set}
use Rattle.std.specs.List.{AllZip}
use Rattle.bal_base.specs.declared.text.Name.{Name}
use Rattle.type_model.specs.declared.atoms.AtomDef.{AtomDef}
use Rattle.type_model.specs.declared.basic.SemType.{SemType}
use Rattle.type_model.specs.declared.basic.Ty.{Ty}
use Rattle.type_model.specs.Inclusion.{Sub}
use Rattle.type_model.specs.Places.{is_same_text}
use Rattle.typed_tree.specs.SharedTypes.{Shared, sem_of}
use Rattle.flow_narrowing.specs.declared.flow.Flow.{Flow}
use Rattle.flow_narrowing.specs.declared.flow.Variable.{Variable}
use Rattle.flow_narrowing.specs.Changes.{with_narrowed}
use Rattle.flow_narrowing.specs.Flows.{AreSame, now, or_declared}
use Rattle.check_words.specs.Sharing.{SameVariable}
use Rattle.check_words.specs.State.{find_variable, narrowed_by_name}
use Rattle.tree_promises.specs.Flows.{Around}
use Rattle.tree_promises.specs.Known.{FlowBelow, IsFreeIn, Known, KnownBelow, set_in}
use Rattle.tree_promises.specs.KnownOf.{if_reached, known_by}
use Rattle.tree_promises.specs.MadeFlows.{IsKnown}
use Rattle.tree_promises.proofs.Order.{known-itself}
use Rattle.flow_needs.specs.Knowing.{AllVariablesAreKnown, VariablesAreKnown}
use Rattle.flow_needs.specs.Narrower.{IsNarrowerVariable}
use Rattle.flow_needs.specs.Slots.{AreApart, AreWithin, IsSlotOfNone}
use Rattle.flow_needs.proofs.Slots.{get-none, get-other, get-set, none-long, set-again, set-apart, set-long}

-- ---- variables that are found

pub same-some : {A : Type 0} (x y : A) → Some x ≡ Some y → x ≡ y
same-some x y e = let q : x ≡ y = cc in q

-- by a name: the first one, or one behind it
abbrev pub Found : Bool → Variable → List Variable → Name → Option Variable
Found b u vs name = if b then Some u else find_variable vs name

-- the slot of one that is found is another one than a slot in which none stands
pub found-apart : (vs : List Variable) (name : Name) (v : Variable) (slot : ℕ) → find_variable vs name ≡ Some v → IsSlotOfNone slot vs → ¬ (v.slot ≡ slot)
found-apart [] name v slot e none = absurd (let bad : ⊥ = cc in bad)
found-apart (u ∷ vs) name v slot e none = by (is_same_text u.name name) (λ k. found-apart vs name v slot k none.1) e
  where
    by : (b : Bool) → (find_variable vs name ≡ Some v → ¬ (v.slot ≡ slot)) → Found b u vs name ≡ Some v → ¬ (v.slot ≡ slot)
    by true later e = subst (λ (w : Variable). ¬ (w.slot ≡ slot)) (same-some u v e) none.0
    by false later e = later e

pub found-within : (n : ℕ) (vs : List Variable) (name : Name) (v : Variable) → find_variable vs name ≡ Some v → AreWithin n vs → v.slot < n
found-within n [] name v e within = absurd (let bad : ⊥ = cc in bad)
found-within n (u ∷ vs) name v e within = by (is_same_text u.name name) (λ k. found-within n vs name v k within.1) e
  where
    by : (b : Bool) → (find_variable vs name ≡ Some v → v.slot < n) → Found b u vs name ≡ Some v → v.slot < n
    by true later e = subst (λ (w : Variable). w.slot < n) (same-some u v e) within.0
    by false later e = later e

-- ---- one slot

pub known-long : (count : ℕ) (vs : List Variable) → length (known_by count vs) ≡ count
known-long count [] = none-long count
known-long count (v ∷ vs) = set-long (known_by count vs) v.slot (Some (now v).sem) ∙ known-long count vs

pub known-at : (count : ℕ) (vs : List Variable) (name : Name) (v : Variable) → AreApart vs → AreWithin count vs → find_variable vs name ≡ Some v
    → slice_get (known_by count vs) v.slot ≡ Some (Some (now v).sem)
known-at count [] name v apart within e = absurd (let bad : ⊥ = cc in bad)
known-at count (u ∷ vs) name v apart within e = by (is_same_text u.name name) (λ k. known-at count vs name v apart.1 within.1 k) e
  where
    by : (b : Bool) → (find_variable vs name ≡ Some v → slice_get (known_by count vs) v.slot ≡ Some (Some (now v).sem)) → Found b u vs name ≡ Some v
        → slice_get (known_by count (u ∷ vs)) v.slot ≡ Some (Some (now v).sem)
    by true later e =
        subst (λ (w : Variable). slice_get (known_by count (u ∷ vs)) w.slot ≡ Some (Some (now w).sem)) (same-some u v e)
        (get-set (known_by count vs) u.slot (Some (now u).sem) (let long = known-long count vs in let lt = within.0 in omega (arith, long, lt)))
    by false later e = get-other (known_by count vs) u.slot v.slot (Some (now u).sem) (λ same. found-apart vs name v u.slot e apart.0 (sym same)) ∙ later e

known-free : (count : ℕ) (vs : List Variable) (slot n : ℕ) → AreWithin n vs → n ≤ slot → slot < count → slice_get (known_by count vs) slot ≡ Some None
known-free count [] slot n within le lt = get-none count slot lt
known-free count (v ∷ vs) slot n within le lt =
    get-other (known_by count vs) v.slot slot (Some (now v).sem) (λ same. let first = within.0 in omega (arith, same, first, le)) ∙ known-free count vs slot n within.1 le lt

-- ---- a variable with another type

narrowed-set : (count : ℕ) (vs : List Variable) (name : Name) (v : Variable) (t : Shared) → AreApart vs → find_variable vs name ≡ Some v
    → known_by count (narrowed_by_name vs name (Some t)) ≡ slice_set (known_by count vs) v.slot (Some (sem_of t))
narrowed-set count [] name v t apart e = absurd (let bad : ⊥ = cc in bad)
narrowed-set count (u ∷ vs) name v t apart e = by (is_same_text u.name name) (λ k. narrowed-set count vs name v t apart.1 k) e
  where
    by : (b : Bool) → (find_variable vs name ≡ Some v → known_by count (narrowed_by_name vs name (Some t)) ≡ slice_set (known_by count vs) v.slot (Some (sem_of t)))
        → Found b u vs name ≡ Some v
        → known_by count (if b then with_narrowed u (Some t) ∷ vs else u ∷ narrowed_by_name vs name (Some t)) ≡ slice_set (known_by count (u ∷ vs)) v.slot (Some (sem_of t))
    by true later e =
        subst (λ (w : Variable). slice_set (known_by count vs) u.slot (Some (sem_of t)) ≡ slice_set (known_by count (u ∷ vs)) w.slot (Some (sem_of t))) (same-some u v e)
        (sym (set-again (known_by count vs) u.slot (Some (now u).sem) (Some (sem_of t))))
    by false later e =
        ap (λ ks. slice_set ks u.slot (Some (now u).sem)) (later e)
        ∙ set-apart (known_by count vs) v.slot u.slot (Some (sem_of t)) (Some (now u).sem) (found-apart vs name v u.slot e apart.0)

-- ---- other handles

pub same-now : (a b : Option Shared) (s t : Shared) → AreSame a b → t.value ≡ s.value → or_declared b t ≡ or_declared a s
same-now None None s t same is = is
same-now (Some x) (Some y) s t same is = same
same-now None (Some y) s t same is = absurd same
same-now (Some x) None s t same is = absurd same

same-known : (count : ℕ) (vs us : List Variable) → AllZip SameVariable vs us → known_by count us ≡ known_by count vs
same-known count [] [] same = refl
same-known count (v ∷ vs) (u ∷ us) same =
    ap (λ ks. slice_set ks u.slot (Some (now u).sem)) (same-known count vs us same.1)
    ∙ ap (λ n. slice_set (known_by count vs) n (Some (now u).sem)) same.0.variable.slot
    ∙ ap (λ (t : Ty). slice_set (known_by count vs) v.slot (Some t.sem)) (same-now v.narrowed u.narrowed v.declared u.declared same.0.narrowed same.0.variable.declared)
same-known count [] (u ∷ us) same = absurd same
same-known count (v ∷ vs) [] same = absurd same

-- ---- whole flows

module _ (env : List AtomDef) (around : Around) (count : ℕ) where
  known-read : (f : Flow) (v : Variable) → slice_get (known_by count f.variables) v.slot ≡ Some (Some (now v).sem) → (b : Bool)
      → IsKnown env around v.slot (is_some v.narrowed) (now v).sem (if_reached b (known_by count f.variables))
  known-read f v e b = by (is_some v.narrowed) b
    where
      by : (narrowed : Bool) (b : Bool) → IsKnown env around v.slot narrowed (now v).sem (if_reached b (known_by count f.variables))
      by true true = inr ((now v).sem, e, (λ x valid i. i))
      by true false = tt
      by false true = inr ((now v).sem, e, tt)
      by false false = tt

  reached-set : (b : Bool) (slot : ℕ) (t : SemType) (ks js : Known) → ks ≡ slice_set js slot (Some t) → if_reached b ks ≡ set_in slot t (if_reached b js)
  reached-set true slot t ks js e = ap (λ xs. Some xs) e
  reached-set false slot t ks js e = refl

  reached-free : (b : Bool) (slot : ℕ) (ks : Known) → slice_get ks slot ≡ Some None → IsFreeIn slot (if_reached b ks)
  reached-free true slot ks e = e
  reached-free false slot ks e = tt

  set-wider : (ks js : Known) (slot : ℕ) (s t : SemType) → KnownBelow env ks js → Sub env s t → KnownBelow env (slice_set ks slot (Some s)) (slice_set js slot (Some t))
  set-wider [] [] slot s t c under = tt
  set-wider (k ∷ ks) (j ∷ js) zero s t c under = (under, c.1)
  set-wider (k ∷ ks) (j ∷ js) (suc slot) s t c under = (c.0, set-wider ks js slot s t c.1 under)
  set-wider [] (j ∷ js) slot s t c under = absurd c
  set-wider (k ∷ ks) [] slot s t c under = absurd c

  narrower-known : (vs us : List Variable) → AllZip (IsNarrowerVariable env) vs us → KnownBelow env (known_by count us) (known_by count vs)
  narrower-known [] [] each = known-itself env (known_by count [])
  narrower-known (v ∷ vs) (u ∷ us) each =
      subst (λ n. KnownBelow env (slice_set (known_by count us) n (Some (now u).sem)) (known_by count (v ∷ vs))) (sym each.0.same.slot)
      (set-wider (known_by count us) (known_by count vs) v.slot (now u).sem (now v).sem (narrower-known vs us each.1) each.0.below)
  narrower-known [] (u ∷ us) each = absurd each
  narrower-known (v ∷ vs) [] each = absurd each

  reached-below : (a b : Bool) (ks js : Known) → b ≡ a → KnownBelow env ks js → FlowBelow env (if_reached b ks) (if_reached a js)
  reached-below true true ks js e below = inr below
  reached-below false false ks js e below = tt
  reached-below true false ks js e below = tt
  reached-below false true ks js e below = absurd (let bad : ⊥ = cc in bad)

  variables-are-known : VariablesAreKnown env around count
  variables-are-known =
      record {
        reads = λ f name v slots e. known-read f v (known-at count f.variables name v slots.apart slots.within e) f.reached;
        narrows = λ f name v t slots e.
            reached-set f.reached v.slot (sem_of t) (known_by count (narrowed_by_name f.variables name (Some t))) (known_by count f.variables) (narrowed-set count f.variables name v t slots.apart e);
        free = λ n f slot slots le lt. reached-free f.reached slot (known_by count f.variables) (known-free count f.variables slot n slots.within le lt);
        same = λ f g same. ap (λ ks. if_reached g.reached ks) (same-known count f.variables g.variables same.variables) ∙ ap (λ b. if_reached b (known_by count f.variables)) same.reached;
        below = λ f g narrower.
            reached-below f.reached g.reached (known_by count g.variables) (known_by count f.variables) narrower.reached (narrower-known f.variables g.variables narrower.variables);
      }

pub all-variables-are-known : AllVariablesAreKnown
all-variables-are-known env around count = variables-are-known env around count
