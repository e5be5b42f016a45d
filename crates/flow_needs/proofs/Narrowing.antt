-- Ways on which more is known of the same variables.
use Rattle.std.proofs.Common.{◌≡◌, ◌<◌, ◌∙◌, ◌⊎◌, inl, inr, ⊎_elim, ℕ, suc, Bool, true, false, List, [], ◌∷◌, length, All, Option, None, Some, arith, refl, sym, subst, ap}
use Rattle.std.specs.Prelude.{◌||◌, if◌then◌else◌}
use Rattle.std.specs.List.{AllZip}
use Rattle.std.proofs.lemmas.List.Elements.{All-head, All-tail}
use Rattle.bal_base.specs.declared.shape.Shape.{Shape}
use Rattle.bal_base.specs.declared.text.Name.{Name}
use Rattle.bal_base.specs.Valid.{IsValid}
use Rattle.type_model.specs.declared.atoms.AtomDef.{AtomDef}
use Rattle.type_model.specs.declared.basic.SemType.{SemType}
use Rattle.type_model.specs.declared.basic.Ty.{Ty}
use Rattle.type_model.specs.Calls.{KeepsTypes}
use Rattle.type_model.specs.Defined.{IsDefined, TyBelow}
use Rattle.type_model.specs.Inclusion.{Sub}
use Rattle.type_model.specs.Membership.{In}
use Rattle.type_model.specs.Places.{is_same_text}
use Rattle.typed_tree.specs.SharedTypes.{Shared, sem_of}
use Rattle.flow_narrowing.specs.declared.flow.Flow.{Flow}
use Rattle.flow_narrowing.specs.declared.flow.Variable.{Variable}
use Rattle.flow_narrowing.specs.Changes.{with_narrowed}
use Rattle.flow_narrowing.specs.Flows.{AreJoined, IfShared, IsJoin, IsJoined, IsSameVariable, UnionOf, VariableBelow, VariablesBelow, joins, now, or_declared}
use Rattle.flow_narrowing.specs.Narrowed.{LiesIn, MayFail, Part, Plain, Lists, Mappings, Functions, Futures, WhereFalse, WhereTrue, part_of}
use Rattle.check_words.specs.Sharing.{SameVariable}
use Rattle.check_words.specs.State.{find_variable, narrowed_by_name}
use Rattle.tree_promises.specs.Flows.{LeavesFalse, LeavesTrue}
use Rattle.flow_needs.specs.Meeting.{AllWaysAreNarrower, MeetsNarrower}
use Rattle.flow_needs.specs.Narrower.{IsNarrower, IsNarrowerVariable}
use Rattle.flow_needs.specs.Slots.{AreApart, AreWithin, IsSlotOfNone}
use Rattle.flow_needs.proofs.Known.{Found, same-now, same-some}

-- ---- the same variable

pub same-itself : (v : Variable) → IsSameVariable v v
same-itself v = record { name = refl; slot = refl; declared = refl; fixed = refl; assigned = refl; captured = refl }

same-then : (u v w : Variable) → IsSameVariable u v → IsSameVariable v w → IsSameVariable u w
same-then u v w f g =
    record {
      name = g.name ∙ f.name;
      slot = g.slot ∙ f.slot;
      declared = g.declared ∙ f.declared;
      fixed = g.fixed ∙ f.fixed;
      assigned = g.assigned ∙ f.assigned;
      captured = g.captured ∙ f.captured;
    }

same-back : (u v : Variable) → IsSameVariable u v → IsSameVariable v u
same-back u v f =
    record { name = sym f.name; slot = sym f.slot; declared = sym f.declared; fixed = sym f.fixed; assigned = sym f.assigned; captured = sym f.captured }

same-narrowed : (v : Variable) (t : Option Shared) → IsSameVariable v (with_narrowed v t)
same-narrowed v t = record { name = refl; slot = refl; declared = refl; fixed = refl; assigned = refl; captured = refl }

-- ---- types that are there

pub now-below : (n : ℕ) (v : Variable) → VariableBelow n v → TyBelow n (now v)
now-below n v h = by v.narrowed h.narrowed
  where
    by : (t : Option Shared) → IfShared (TyBelow n) t → TyBelow n (or_declared t v.declared)
    by (Some t) below = below
    by None below = h.declared

module _ (env : List AtomDef) where
  abbrev Each : List Variable → List Variable → Type 0
  Each = AllZip (IsNarrowerVariable env)

  -- ---- the order

  pub each-itself : (vs : List Variable) → Each vs vs
  each-itself [] = tt
  each-itself (v ∷ vs) = (record { same = same-itself v; below = λ x valid i. i }, each-itself vs)

  each-then : (us vs ws : List Variable) → Each us vs → Each vs ws → Each us ws
  each-then [] [] [] f g = tt
  each-then (u ∷ us) (v ∷ vs) (w ∷ ws) f g =
      (record { same = same-then u v w f.0.same g.0.same; below = λ x valid i. f.0.below x valid (g.0.below x valid i) }, each-then us vs ws f.1 g.1)
  each-then [] [] (w ∷ ws) f g = absurd g
  each-then [] (v ∷ vs) ws f g = absurd f
  each-then (u ∷ us) [] ws f g = absurd f
  each-then (u ∷ us) (v ∷ vs) [] f g = absurd g

  handles-there : (vs us : List Variable) → AllZip SameVariable vs us → Each vs us
  handles-there [] [] same = tt
  handles-there (v ∷ vs) (u ∷ us) same =
      let is : now u ≡ now v = same-now v.narrowed u.narrowed v.declared u.declared same.0.narrowed same.0.variable.declared in
      (record { same = same.0.variable; below = λ x valid i. subst (λ (t : Ty). In env x t.sem) is i }, handles-there vs us same.1)
  handles-there [] (u ∷ us) same = absurd same
  handles-there (v ∷ vs) [] same = absurd same

  handles-back : (vs us : List Variable) → AllZip SameVariable vs us → Each us vs
  handles-back [] [] same = tt
  handles-back (v ∷ vs) (u ∷ us) same =
      let is : now u ≡ now v = same-now v.narrowed u.narrowed v.declared u.declared same.0.narrowed same.0.variable.declared in
      (record { same = same-back v u same.0.variable; below = λ x valid i. subst (λ (t : Ty). In env x t.sem) (sym is) i }, handles-back vs us same.1)
  handles-back [] (u ∷ us) same = absurd same
  handles-back (v ∷ vs) [] same = absurd same

  -- ---- slots

  slot-of-none : (slot : ℕ) (vs us : List Variable) → Each vs us → IsSlotOfNone slot vs → IsSlotOfNone slot us
  slot-of-none slot [] [] each h = tt
  slot-of-none slot (v ∷ vs) (u ∷ us) each h = ((λ e. h.0 (sym each.0.same.slot ∙ e)), slot-of-none slot vs us each.1 h.1)
  slot-of-none slot [] (u ∷ us) each h = absurd each
  slot-of-none slot (v ∷ vs) [] each h = absurd each

  still-apart : (vs us : List Variable) → Each vs us → AreApart vs → AreApart us
  still-apart [] [] each h = tt
  still-apart (v ∷ vs) (u ∷ us) each h =
      (subst (λ n. IsSlotOfNone n us) (sym each.0.same.slot) (slot-of-none v.slot vs us each.1 h.0), still-apart vs us each.1 h.1)
  still-apart [] (u ∷ us) each h = absurd each
  still-apart (v ∷ vs) [] each h = absurd each

  still-within : (n : ℕ) (vs us : List Variable) → Each vs us → AreWithin n vs → AreWithin n us
  still-within n [] [] each h = tt
  still-within n (v ∷ vs) (u ∷ us) each h = (subst (λ k. k < n) (sym each.0.same.slot) h.0, still-within n vs us each.1 h.1)
  still-within n [] (u ∷ us) each h = absurd each
  still-within n (v ∷ vs) [] each h = absurd each

  -- ---- tests

  tested-each : (vs : List Variable) (name : Name) (v : Variable) (t : Shared) → find_variable vs name ≡ Some v → Sub env (sem_of t) (now v).sem
      → Each vs (narrowed_by_name vs name (Some t))
  tested-each [] name v t e under = absurd (let bad : ⊥ = cc in bad)
  tested-each (u ∷ vs) name v t e under = by (is_same_text u.name name) (λ k. tested-each vs name v t k under) e
    where
      by : (b : Bool) → (find_variable vs name ≡ Some v → Each vs (narrowed_by_name vs name (Some t))) → Found b u vs name ≡ Some v → Each (u ∷ vs) (if b then with_narrowed u (Some t) ∷ vs else u ∷ narrowed_by_name vs name (Some t))
      by true later e =
          (record { same = same-narrowed u (Some t); below = subst (λ (w : Variable). Sub env (sem_of t) (now w).sem) (sym (same-some u v e)) under }, each-itself vs)
      by false later e = (record { same = same-itself u; below = λ x valid i. i }, later e)

  module _ (old : List AtomDef) (keeps : KeepsTypes old env) where
    forth : (t : SemType) → IsDefined old t → (x : Shape) → In old x t → In env x t
    forth t defined x i = (keeps.shapes t defined x).0 i

    back : (t : SemType) → IsDefined old t → (x : Shape) → In env x t → In old x t
    back t defined x i = (keeps.shapes t defined x).1 i

    -- ---- where two ways meet

    -- what is known where they meet lies in both together, and each of them in that
    record Meets (v w u : Variable) : Type 0 where
      either : (x : Shape) → IsValid x → In env x (now u).sem → In env x (now v).sem ⊎ In env x (now w).sem
      first : Sub env (now v).sem (now u).sem
      second : Sub env (now w).sem (now u).sem

    of-union : (v w u : Variable) (a b c : Option Shared) → v.narrowed ≡ a → w.narrowed ≡ b → u.narrowed ≡ c → IsSameVariable v w → IsSameVariable v u
        → TyBelow (length old) (now v) → TyBelow (length old) (now w) → TyBelow (length old) (now u) → UnionOf old (now v) (now w) a b c → Meets v w u
    of-union v w u None None c va wb uc vw vu dv dw du is =
        let none : u.narrowed ≡ None = uc ∙ is in
        let one : now u ≡ now v = ap (λ o. or_declared o u.declared) none ∙ vu.declared ∙ sym (ap (λ o. or_declared o v.declared) va) in
        let other : now w ≡ now v = ap (λ o. or_declared o w.declared) wb ∙ vw.declared ∙ sym (ap (λ o. or_declared o v.declared) va) in
        record {
          either = λ x valid i. inl (subst (λ (t : Ty). In env x t.sem) one i);
          first = λ x valid i. subst (λ (t : Ty). In env x t.sem) (sym one) i;
          second = λ x valid i. subst (λ (t : Ty). In env x t.sem) (other ∙ sym one) i;
        }
    of-union v w u (Some a) b (Some c) va wb uc vw vu dv dw du is =
        let one : c.value ≡ now u = sym (ap (λ o. or_declared o u.declared) uc) in
        let dc : IsDefined old c.value.sem = subst (λ (t : Ty). IsDefined old t.sem) (sym one) du.0 in
        record {
          either = λ x valid i. ⊎_elim (λ h. inl (forth (now v).sem dv.0 x h)) (λ h. inr (forth (now w).sem dw.0 x h))
              ((is.shapes x valid).0 (back c.value.sem dc x (subst (λ (t : Ty). In env x t.sem) (sym one) i)));
          first = λ x valid i. subst (λ (t : Ty). In env x t.sem) one (forth c.value.sem dc x ((is.shapes x valid).1 (inl (back (now v).sem dv.0 x i))));
          second = λ x valid i. subst (λ (t : Ty). In env x t.sem) one (forth c.value.sem dc x ((is.shapes x valid).1 (inr (back (now w).sem dw.0 x i))));
        }
    of-union v w u None (Some b) (Some c) va wb uc vw vu dv dw du is =
        let one : c.value ≡ now u = sym (ap (λ o. or_declared o u.declared) uc) in
        let dc : IsDefined old c.value.sem = subst (λ (t : Ty). IsDefined old t.sem) (sym one) du.0 in
        record {
          either = λ x valid i. ⊎_elim (λ h. inl (forth (now v).sem dv.0 x h)) (λ h. inr (forth (now w).sem dw.0 x h))
              ((is.shapes x valid).0 (back c.value.sem dc x (subst (λ (t : Ty). In env x t.sem) (sym one) i)));
          first = λ x valid i. subst (λ (t : Ty). In env x t.sem) one (forth c.value.sem dc x ((is.shapes x valid).1 (inl (back (now v).sem dv.0 x i))));
          second = λ x valid i. subst (λ (t : Ty). In env x t.sem) one (forth c.value.sem dc x ((is.shapes x valid).1 (inr (back (now w).sem dw.0 x i))));
        }
    of-union v w u (Some a) b None va wb uc vw vu dv dw du is = absurd is
    of-union v w u None (Some b) None va wb uc vw vu dv dw du is = absurd is

    -- both ways are reached, or neither
    of-joined : (r : Bool) (v w u : Variable) → IsJoined old (joins r r) v w u → IsSameVariable v w → VariableBelow (length old) v → VariableBelow (length old) w
        → VariableBelow (length old) u → Meets v w u
    of-joined true v w u j vw dv dw du =
        of-union v w u v.narrowed w.narrowed u.narrowed refl refl refl vw j.same (now-below (length old) v dv) (now-below (length old) w dw) (now-below (length old) u du) j.narrowed
    of-joined false v w u j vw dv dw du =
        of-union v w u v.narrowed w.narrowed u.narrowed refl refl refl vw j.same (now-below (length old) v dv) (now-below (length old) w dw) (now-below (length old) u du) j.narrowed

    abbrev Joined : Bool → List Variable → List Variable → List Variable → Type 0
    Joined r vs ws us = AreJoined old (joins r r) (length vs) vs ws us

    front : (r : Bool) (v w u : Variable) (vs ws us : List Variable) → Joined r (v ∷ vs) (w ∷ ws) (u ∷ us) → IsJoined old (joins r r) v w u
    front r v w u vs ws us j = j.each 0 v w (omega arith) refl refl

    behind : (r : Bool) (v w u : Variable) (vs ws us : List Variable) → Joined r (v ∷ vs) (w ∷ ws) (u ∷ us) → Joined r vs ws us
    behind r v w u vs ws us j =
        record { length = (let long = j.length in omega arith); each = λ i x y lt e f. j.each (suc i) x y (omega (arith, lt)) e f }

    meet-each : (r : Bool) (fs vs ws us : List Variable) → Each fs vs → Each fs ws → All (VariableBelow (length old)) vs → All (VariableBelow (length old)) ws
        → All (VariableBelow (length old)) us → Joined r vs ws us → Each fs us × Each us vs × Each us ws
    meet-each r [] [] [] [] fv fw dv dw du j = (tt, tt, tt)
    meet-each r (f ∷ fs) (v ∷ vs) (w ∷ ws) (u ∷ us) fv fw dv dw du j =
        let B : Variable → Type 0 = VariableBelow (length old) in
        let one = front r v w u vs ws us j in
        let vw = same-then v f w (same-back f v fv.0.same) fw.0.same in
        let m = of-joined r v w u one vw (All-head B v vs dv) (All-head B w ws dw) (All-head B u us du) in
        let (a, b, c) = meet-each r fs vs ws us fv.1 fw.1 (All-tail B v vs dv) (All-tail B w ws dw) (All-tail B u us du) (behind r v w u vs ws us j) in (
          (
            record {
              same = same-then f v u fv.0.same one.same;
              below = λ x valid i. ⊎_elim (λ h. fv.0.below x valid h) (λ h. fw.0.below x valid h) (m.either x valid i);
            },
            a,
          ),
          (record { same = same-back v u one.same; below = m.first }, b),
          (record { same = same-then u v w (same-back v u one.same) vw; below = m.second }, c),
        )
    meet-each r [] [] [] (u ∷ us) fv fw dv dw du j = absurd (let long = j.length in omega arith)
    meet-each r [] [] (w ∷ ws) us fv fw dv dw du j = absurd fw
    meet-each r [] (v ∷ vs) ws us fv fw dv dw du j = absurd fv
    meet-each r (f ∷ fs) [] ws us fv fw dv dw du j = absurd fv
    meet-each r (f ∷ fs) (v ∷ vs) [] us fv fw dv dw du j = absurd fw
    meet-each r (f ∷ fs) (v ∷ vs) (w ∷ ws) [] fv fw dv dw du j = absurd (let long = j.length in omega arith)

    both-reached : (b : Bool) → (b || b) ≡ b
    both-reached true = refl
    both-reached false = refl

    meet : (f g h k : Flow) → VariablesBelow (length old) g.variables → VariablesBelow (length old) h.variables → VariablesBelow (length old) k.variables
        → IsNarrower env f g → IsNarrower env f h → IsJoin old g h k → MeetsNarrower env f g h k
    meet f g h k dg dh dk fg fh j =
        let r : joins g.reached h.reached ≡ joins f.reached f.reached = ap (λ a. joins a h.reached) fg.reached ∙ ap (λ b. joins f.reached b) fh.reached in
        let joined : Joined f.reached g.variables h.variables k.variables = subst (λ which. AreJoined old which (length g.variables) g.variables h.variables k.variables) r j.variables in
        let reached : k.reached ≡ f.reached = j.reached ∙ ap (λ a. a || h.reached) fg.reached ∙ ap (λ b. f.reached || b) fh.reached ∙ both-reached f.reached in
        let (a, b, c) = meet-each f.reached f.variables g.variables h.variables k.variables fg.variables fh.variables dg dh dk joined in
        record {
          narrower = record { variables = a; reached = reached };
          first = record { variables = b; reached = fg.reached ∙ sym reached };
          second = record { variables = c; reached = fh.reached ∙ sym reached };
        }

    -- ---- what a test leaves

    lies-back : (s t : SemType) (part : Part) → IsDefined old s → IsDefined old t → LiesIn env s t part → LiesIn old s t part
    lies-back s t part ds dt lies x valid is i = back t dt x (lies x valid is (forth s ds x i))

    lies-forth : (s t : SemType) (part : Part) → IsDefined old s → IsDefined old t → LiesIn old s t part → LiesIn env s t part
    lies-forth s t part ds dt lies x valid is i = forth t dt x (lies x valid is (back s ds x i))

    fail-forth : (s t : SemType) (x : Shape) (part : Part) → IsDefined old s → IsDefined old t → MayFail old s t x part → MayFail env s t x part
    fail-forth s t x Plain ds dt h = λ i. h (back t dt x i)
    fail-forth s t x (Lists false) ds dt h = λ lies. h (lies-back s t (Lists false) ds dt lies)
    fail-forth s t x (Lists true) ds dt h = λ lies i. h (lies-back s t (Lists false) ds dt lies) (back t dt x i)
    fail-forth s t x (Mappings false) ds dt h = λ lies. h (lies-back s t (Mappings false) ds dt lies)
    fail-forth s t x (Mappings true) ds dt h = λ lies i. h (lies-back s t (Mappings false) ds dt lies) (back t dt x i)
    fail-forth s t x Functions ds dt h = λ lies. h (lies-back s t Functions ds dt lies)
    fail-forth s t x Futures ds dt h = λ lies. h (lies-back s t Futures ds dt lies)

    fail-back : (s t : SemType) (x : Shape) (part : Part) → IsDefined old s → IsDefined old t → MayFail env s t x part → MayFail old s t x part
    fail-back s t x Plain ds dt h = λ i. h (forth t dt x i)
    fail-back s t x (Lists false) ds dt h = λ lies. h (lies-forth s t (Lists false) ds dt lies)
    fail-back s t x (Lists true) ds dt h = λ lies i. h (lies-forth s t (Lists false) ds dt lies) (forth t dt x i)
    fail-back s t x (Mappings false) ds dt h = λ lies. h (lies-forth s t (Mappings false) ds dt lies)
    fail-back s t x (Mappings true) ds dt h = λ lies i. h (lies-forth s t (Mappings false) ds dt lies) (forth t dt x i)
    fail-back s t x Functions ds dt h = λ lies. h (lies-forth s t Functions ds dt lies)
    fail-back s t x Futures ds dt h = λ lies. h (lies-forth s t Futures ds dt lies)

    holds : (s t u : Ty) → IsDefined old s.sem → IsDefined old t.sem → IsDefined old u.sem → WhereTrue old s t u → LeavesTrue env s.sem t.sem u.sem
    holds s t u ds dt du h x valid = (
      (λ i. let (a, b) = (h.shapes x valid).0 (back u.sem du x i) in (forth s.sem ds x a, forth t.sem dt x b)),
      (λ (a, b). forth u.sem du x ((h.shapes x valid).1 (back s.sem ds x a, back t.sem dt x b))),
    )

    fails : (s t u : Ty) → IsDefined old s.sem → IsDefined old t.sem → IsDefined old u.sem → WhereFalse old s t u → LeavesFalse env s.sem t.sem u.sem
    fails s t u ds dt du h x valid = (
      (λ i. let (a, b) = (h.shapes x valid).0 (back u.sem du x i) in (forth s.sem ds x a, fail-forth s.sem t.sem x (part_of x) ds dt b)),
      (λ (a, b). forth u.sem du x ((h.shapes x valid).1 (back s.sem ds x a, fail-back s.sem t.sem x (part_of x) ds dt b))),
    )

pub all-ways-are-narrower : AllWaysAreNarrower
all-ways-are-narrower old env =
    record {
      itself = λ f. record { variables = each-itself env f.variables; reached = refl };
      then = λ f g h x y. record { variables = each-then env f.variables g.variables h.variables x.variables y.variables; reached = y.reached ∙ x.reached };
      handles = λ f g same. (
        record { variables = handles-there env f.variables g.variables same.variables; reached = same.reached },
        record { variables = handles-back env f.variables g.variables same.variables; reached = sym same.reached },
      );
      slots = λ n f g narrower h.
          record {
            apart = still-apart env f.variables g.variables narrower.variables h.apart;
            within = still-within env n f.variables g.variables narrower.variables h.within;
          };
      meet = λ f g h k keeps dg dh dk fg fh j. meet env old keeps f g h k dg dh dk fg fh j;
      tested = λ f name v t e under. record { variables = tested-each env f.variables name v t e under; reached = refl };
      holds = λ s t u keeps ds dt du h. holds env old keeps s t u ds dt du h;
      fails = λ s t u keeps ds dt du h. fails env old keeps s t u ds dt du h;
    }
