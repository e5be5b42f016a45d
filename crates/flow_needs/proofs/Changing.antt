-- What statements change of what is known of variables.
use Rattle.std.proofs.Common.{◌≡◌, ◌≤◌, ◌∙◌, ◌++◌, inr, ℕ, zero, suc, Bool, true, false, List, [], ◌∷◌, length, take, Option, None, Some, replicate, arith, refl, sym, subst, ap}
use Rattle.std.specs.Prelude.{if◌then◌else◌, slice_set}
use Rattle.std.specs.List.{AllZip}
use Rattle.bal_base.specs.declared.text.Name.{Name}
use Rattle.bal_tree.specs.declared.name.Word.{Word}
use Rattle.type_model.specs.declared.atoms.AtomDef.{AtomDef}
use Rattle.type_model.specs.declared.basic.SemType.{SemType}
use Rattle.type_model.specs.Places.{is_same_text}
use Rattle.typed_tree.specs.SharedTypes.{sem_of}
use Rattle.flow_narrowing.specs.declared.flow.Flow.{Flow}
use Rattle.flow_narrowing.specs.declared.flow.Variable.{Variable}
use Rattle.flow_narrowing.specs.Changes.{with_narrowed}
use Rattle.flow_narrowing.specs.Flows.{now, or_declared}
use Rattle.check_words.specs.Branches.{at_head}
use Rattle.check_words.specs.State.{find_variable, narrowed_by_name, with_type}
use Rattle.tree_promises.specs.Known.{FlowBelow, Known, KnownBelow, SlotBelow, set_in}
use Rattle.tree_promises.specs.KnownOf.{if_reached, known_by}
use Rattle.flow_needs.specs.Changing.{AllChangesAreKnown, AreBelowDeclared, ChangesAreKnown}
use Rattle.flow_needs.specs.Narrower.{IsNarrower, IsNarrowerVariable}
use Rattle.flow_needs.specs.Slots.{AreApart, AreWithin}
use Rattle.flow_needs.proofs.Known.{Found, found-apart, known-long, same-some}
use Rattle.flow_needs.proofs.Narrowing.{all-ways-are-narrower, each-itself, same-itself}
use Rattle.flow_needs.proofs.Slots.{set-again, set-apart}

-- ---- declarations and assignments

-- a variable at the end is set first, and no other one is in its slot
declared-set : (count n : ℕ) (vs : List Variable) (v : Variable) → AreWithin n vs → n ≤ v.slot
    → known_by count (vs ++ v ∷ []) ≡ slice_set (known_by count vs) v.slot (Some (now v).sem)
declared-set count n [] v within le = refl
declared-set count n (u ∷ vs) v within le =
    ap (λ ks. slice_set ks u.slot (Some (now u).sem)) (declared-set count n vs v within.1 le)
    ∙ set-apart (known_by count vs) v.slot u.slot (Some (now v).sem) (Some (now u).sem) (λ e. let lt = within.0 in omega (arith, e, lt, le))

assigned-set : (count : ℕ) (vs : List Variable) (name : Name) (v : Variable) → AreApart vs → find_variable vs name ≡ Some v
    → known_by count (narrowed_by_name vs name None) ≡ slice_set (known_by count vs) v.slot (Some (sem_of v.declared))
assigned-set count [] name v apart e = absurd (let bad : ⊥ = cc in bad)
assigned-set count (u ∷ vs) name v apart e = by (is_same_text u.name name) (λ k. assigned-set count vs name v apart.1 k) e
  where
    by : (b : Bool) → (find_variable vs name ≡ Some v → known_by count (narrowed_by_name vs name None) ≡ slice_set (known_by count vs) v.slot (Some (sem_of v.declared)))
        → Found b u vs name ≡ Some v
        → known_by count (if b then with_narrowed u None ∷ vs else u ∷ narrowed_by_name vs name None) ≡ slice_set (known_by count (u ∷ vs)) v.slot (Some (sem_of v.declared))
    by true later e =
        subst (λ (w : Variable). slice_set (known_by count vs) u.slot (Some (sem_of u.declared)) ≡ slice_set (known_by count (u ∷ vs)) w.slot (Some (sem_of w.declared))) (same-some u v e)
        (sym (set-again (known_by count vs) u.slot (Some (now u).sem) (Some (sem_of u.declared))))
    by false later e =
        ap (λ ks. slice_set ks u.slot (Some (now u).sem)) (later e)
        ∙ set-apart (known_by count vs) v.slot u.slot (Some (sem_of v.declared)) (Some (now u).sem) (found-apart vs name v u.slot e apart.0)

set-if : (b : Bool) (slot : ℕ) (t : SemType) (ks js : Known) → ks ≡ slice_set js slot (Some t) → if_reached b ks ≡ set_in slot t (if_reached b js)
set-if true slot t ks js e = ap (λ xs. Some xs) e
set-if false slot t ks js e = refl

-- ---- heads of loops

module _ (env : List AtomDef) where
  -- without its narrowing a variable has its declared type
  reset-wider : (vs : List Variable) (name : Name) → AreBelowDeclared env vs → AllZip (IsNarrowerVariable env) (narrowed_by_name vs name None) vs
  reset-wider [] name h = tt
  reset-wider (v ∷ vs) name h = by (is_same_text v.name name) (reset-wider vs name h.1)
    where
      by : (b : Bool) → AllZip (IsNarrowerVariable env) (narrowed_by_name vs name None) vs
          → AllZip (IsNarrowerVariable env) (if b then with_narrowed v None ∷ vs else v ∷ narrowed_by_name vs name None) (v ∷ vs)
      by true later =
          (record { same = record { name = refl; slot = refl; declared = refl; fixed = refl; assigned = refl; captured = refl }; below = h.0 }, each-itself env vs)
      by false later = (record { same = same-itself v; below = λ x valid i. i }, later)

  reset-below : (vs : List Variable) (name : Name) → AreBelowDeclared env vs → AreBelowDeclared env (narrowed_by_name vs name None)
  reset-below [] name h = tt
  reset-below (v ∷ vs) name h = by (is_same_text v.name name) (reset-below vs name h.1)
    where
      by : (b : Bool) → AreBelowDeclared env (narrowed_by_name vs name None) → AreBelowDeclared env (if b then with_narrowed v None ∷ vs else v ∷ narrowed_by_name vs name None)
      by true later = ((λ x valid i. i), h.1)
      by false later = (h.0, later)

  headed : (words : List Word) (f : Flow) → AreBelowDeclared env f.variables → IsNarrower env (at_head words f) f
  headed [] f h = record { variables = each-itself env f.variables; reached = refl }
  headed (w ∷ words) f h =
      let next : Flow = with_type w.name None f in
      let later = headed words next (reset-below f.variables w.name h) in
      let all = all-ways-are-narrower [] env in
      all.then (at_head words next) next f later (record { variables = reset-wider f.variables w.name h; reached = refl })

  -- ---- ends of blocks

  -- whatever is known of so many slots
  all-below-none : (count : ℕ) (ks : Known) → length ks ≡ count → KnownBelow env ks (replicate count None)
  all-below-none zero [] e = tt
  all-below-none (suc n) (k ∷ ks) e = (one-below-none k, all-below-none n ks (omega (arith, e)))
    where
      one-below-none : (k : Option SemType) → SlotBelow env k None
      one-below-none None = tt
      one-below-none (Some t) = tt
  all-below-none zero (k ∷ ks) e = absurd (omega (arith, e))
  all-below-none (suc n) [] e = absurd (omega (arith, e))

  set-below : (ks js : Known) (slot : ℕ) (t : SemType) → KnownBelow env ks js → KnownBelow env (slice_set ks slot (Some t)) (slice_set js slot (Some t))
  set-below [] [] slot t c = tt
  set-below (k ∷ ks) (j ∷ js) zero t c = ((λ x valid i. i), c.1)
  set-below (k ∷ ks) (j ∷ js) (suc slot) t c = (c.0, set-below ks js slot t c.1)
  set-below [] (j ∷ js) slot t c = absurd c
  set-below (k ∷ ks) [] slot t c = absurd c

  first-known-below : (count scope : ℕ) (vs : List Variable) → KnownBelow env (known_by count vs) (known_by count (take scope vs))
  first-known-below count zero vs = all-below-none count (known_by count vs) (known-long count vs)
  first-known-below count (suc n) [] = all-below-none count (known_by count []) (known-long count [])
  first-known-below count (suc n) (v ∷ vs) =
      set-below (known_by count vs) (known_by count (take n vs)) v.slot (now v).sem (first-known-below count n vs)

  reached-under : (b : Bool) (ks js : Known) → KnownBelow env ks js → FlowBelow env (if_reached b ks) (if_reached b js)
  reached-under true ks js h = inr h
  reached-under false ks js h = tt

  changes-are-known : (count : ℕ) → ChangesAreKnown env count
  changes-are-known count =
      record {
        declared = λ n f v slots le none.
            set-if f.reached v.slot (sem_of v.declared) (known_by count (f.variables ++ v ∷ [])) (known_by count f.variables)
            (declared-set count n f.variables v slots.within le ∙ ap (λ o. slice_set (known_by count f.variables) v.slot (Some (or_declared o v.declared).sem)) none);
        assigned = λ f name v slots e.
            set-if f.reached v.slot (sem_of v.declared) (known_by count (narrowed_by_name f.variables name None)) (known_by count f.variables)
            (assigned-set count f.variables name v slots.apart e);
        headed = headed;
        outside = λ scope f. reached-under f.reached (known_by count f.variables) (known_by count (take scope f.variables)) (first-known-below count scope f.variables);
        stopped = λ f. refl;
      }

pub all-changes-are-known : AllChangesAreKnown
all-changes-are-known env count = changes-are-known env count
