-- What checkers know of variables where ways meet.
use Rattle.std.proofs.Common.{◌≡◌, ◌∙◌, inl, inr, ℕ, zero, suc, Bool, true, false, List, [], ◌∷◌, length, Option, Some, None, arith, refl, sym, subst}
use Rattle.std.specs.Prelude.{◌||◌, slice_set}
use Rattle.std.specs.List.{AllZip}
use Rattle.type_model.specs.declared.atoms.AtomDef.{AtomDef}
use Rattle.type_model.specs.declared.basic.SemType.{SemType}
use Rattle.type_model.specs.declared.basic.Ty.{Ty}
use Rattle.type_model.specs.Inclusion.{Sub}
use Rattle.type_model.specs.Membership.{In}
use Rattle.typed_tree.specs.SharedTypes.{Shared}
use Rattle.flow_narrowing.specs.declared.flow.Variable.{Variable}
use Rattle.flow_narrowing.specs.Flows.{AreJoined, AreSame, IsJoined, IsSameVariable, NarrowedTo, UnionOf, joins, now, or_declared}
use Rattle.tree_promises.specs.Known.{FlowBelow, Known, KnownBelow}
use Rattle.tree_promises.specs.KnownOf.{JoinsFollow, TestsAgree, if_reached, known_by}
use Rattle.tree_promises.proofs.Order.{known-itself}

module _ (env : List AtomDef) where
  set-wider : (ks js : Known) (slot : ℕ) (s t : SemType) → KnownBelow env ks js → Sub env s t → KnownBelow env (slice_set ks slot (Some s)) (slice_set js slot (Some t))
  set-wider [] [] slot s t c under = tt
  set-wider (k ∷ ks) (j ∷ js) zero s t c under = (under, c.1)
  set-wider (k ∷ ks) (j ∷ js) (suc slot) s t c under = (c.0, set-wider ks js slot s t c.1 under)
  set-wider [] (j ∷ js) slot s t c under = absurd c
  set-wider (k ∷ ks) [] slot s t c under = absurd c

  -- ---- one variable

  -- the same type
  same-under : (s t : Ty) → t ≡ s → Sub env s.sem t.sem
  same-under s t is x valid i = subst (λ (u : Ty). In env x u.sem) (sym is) i

  kept-under : (a b : Option Shared) (s t : Shared) → AreSame a b → t.value ≡ s.value → Sub env (or_declared a s).sem (or_declared b t).sem
  kept-under None None s t same is = same-under s.value t.value is
  kept-under (Some x) (Some y) s t same is = same-under x.value y.value same
  kept-under None (Some y) s t same is = absurd same
  kept-under (Some x) None s t same is = absurd same

  -- each is below the union of both
  union-first : (a b c : Option Shared) (s r t : Shared) → UnionOf env (or_declared a s) (or_declared b r) a b c → t.value ≡ s.value
      → Sub env (or_declared a s).sem (or_declared c t).sem
  union-first None None c s r t u is = subst (λ (o : Option Shared). Sub env s.value.sem (or_declared o t).sem) (sym u) (same-under s.value t.value is)
  union-first (Some x) b (Some y) s r t u is = λ z valid i. (u.shapes z valid).1 (inl i)
  union-first None (Some x) (Some y) s r t u is = λ z valid i. (u.shapes z valid).1 (inl i)
  union-first (Some x) b None s r t u is = absurd u
  union-first None (Some x) None s r t u is = absurd u

  union-second : (a b c : Option Shared) (s r t : Shared) → UnionOf env (or_declared a s) (or_declared b r) a b c → t.value ≡ r.value
      → Sub env (or_declared b r).sem (or_declared c t).sem
  union-second None None c s r t u is = subst (λ (o : Option Shared). Sub env r.value.sem (or_declared o t).sem) (sym u) (same-under r.value t.value is)
  union-second (Some x) b (Some y) s r t u is = λ z valid i. (u.shapes z valid).1 (inr i)
  union-second None (Some x) (Some y) s r t u is = λ z valid i. (u.shapes z valid).1 (inr i)
  union-second (Some x) b None s r t u is = absurd u
  union-second None (Some x) None s r t u is = absurd u

  -- where the first way goes on, and where the second does
  first-under : (b : Bool) (v w u : Variable) → NarrowedTo env (joins true b) v w u.narrowed → u.declared.value ≡ v.declared.value → Sub env (now v).sem (now u).sem
  first-under true v w u is declared = union-first v.narrowed w.narrowed u.narrowed v.declared w.declared u.declared is declared
  first-under false v w u is declared = kept-under v.narrowed u.narrowed v.declared u.declared is declared

  second-under : (a : Bool) (v w u : Variable) → NarrowedTo env (joins a true) v w u.narrowed → u.declared.value ≡ w.declared.value → Sub env (now w).sem (now u).sem
  second-under true v w u is declared = union-second v.narrowed w.narrowed u.narrowed v.declared w.declared u.declared is declared
  second-under false v w u is declared = kept-under w.narrowed u.narrowed w.declared u.declared is declared

  -- ---- all variables

  abbrev Joined : Bool → Bool → List Variable → List Variable → List Variable → Type 0
  Joined a b vs ws us = AreJoined env (joins a b) (length vs) vs ws us

  front : (a b : Bool) (v w u : Variable) (vs ws us : List Variable) → Joined a b (v ∷ vs) (w ∷ ws) (u ∷ us) → IsJoined env (joins a b) v w u
  front a b v w u vs ws us j = j.each 0 v w (omega arith) refl refl

  behind : (a b : Bool) (v w u : Variable) (vs ws us : List Variable) → Joined a b (v ∷ vs) (w ∷ ws) (u ∷ us) → Joined a b vs ws us
  behind a b v w u vs ws us j =
      record { length = (let long = j.length in omega arith); each = λ i x y lt e f. j.each (suc i) x y (omega (arith, lt)) e f }

  first-follows : (b : Bool) (count : ℕ) (vs ws us : List Variable) → AllZip IsSameVariable vs ws → Joined true b vs ws us
      → KnownBelow env (known_by count vs) (known_by count us)
  first-follows b count [] [] [] same j = known-itself env (known_by count [])
  first-follows b count (v ∷ vs) (w ∷ ws) (u ∷ us) same j =
      let one = front true b v w u vs ws us j in
      subst (λ n. KnownBelow env (known_by count (v ∷ vs)) (slice_set (known_by count us) n (Some (now u).sem))) (sym one.same.slot)
      (set-wider (known_by count vs) (known_by count us) v.slot (now v).sem (now u).sem (first-follows b count vs ws us same.1 (behind true b v w u vs ws us j))
      (first-under b v w u one.narrowed one.same.declared))
  first-follows b count [] [] (u ∷ us) same j = absurd (let long = j.length in omega arith)
  first-follows b count (v ∷ vs) (w ∷ ws) [] same j = absurd (let long = j.length in omega arith)
  first-follows b count [] (w ∷ ws) us same j = absurd same
  first-follows b count (v ∷ vs) [] us same j = absurd same

  second-follows : (a : Bool) (count : ℕ) (vs ws us : List Variable) → AllZip IsSameVariable vs ws → Joined a true vs ws us
      → KnownBelow env (known_by count ws) (known_by count us)
  second-follows a count [] [] [] same j = known-itself env (known_by count [])
  second-follows a count (v ∷ vs) (w ∷ ws) (u ∷ us) same j =
      let one = front a true v w u vs ws us j in
      let slot : w.slot ≡ u.slot = same.0.slot ∙ sym one.same.slot in
      let declared : u.declared.value ≡ w.declared.value = one.same.declared ∙ sym same.0.declared in
      subst (λ n. KnownBelow env (known_by count (w ∷ ws)) (slice_set (known_by count us) n (Some (now u).sem))) slot
      (set-wider (known_by count ws) (known_by count us) w.slot (now w).sem (now u).sem (second-follows a count vs ws us same.1 (behind a true v w u vs ws us j))
      (second-under a v w u one.narrowed declared))
  second-follows a count [] [] (u ∷ us) same j = absurd (let long = j.length in omega arith)
  second-follows a count (v ∷ vs) (w ∷ ws) [] same j = absurd (let long = j.length in omega arith)
  second-follows a count [] (w ∷ ws) us same j = absurd same
  second-follows a count (v ∷ vs) [] us same j = absurd same

  -- ---- whole flows

  first-way : (a b c : Bool) (ks js : Known) → c ≡ (a || b) → (a ≡ true → KnownBelow env ks js) → FlowBelow env (if_reached a ks) (if_reached c js)
  first-way false b c ks js is f = tt
  first-way true b c ks js is f = subst (λ x. FlowBelow env (Some ks) (if_reached x js)) (sym is) (inr (f refl))

  second-way : (a b c : Bool) (ks js : Known) → c ≡ (a || b) → (b ≡ true → KnownBelow env ks js) → FlowBelow env (if_reached b ks) (if_reached c js)
  second-way a false c ks js is f = tt
  second-way true true c ks js is f = subst (λ x. FlowBelow env (Some ks) (if_reached x js)) (sym is) (inr (f refl))
  second-way false true c ks js is f = subst (λ x. FlowBelow env (Some ks) (if_reached x js)) (sym is) (inr (f refl))

pub joins-follow : JoinsFollow
joins-follow env count f g h same j = (
  first-way env f.reached g.reached h.reached (known_by count f.variables) (known_by count h.variables) j.reached
      (λ goes. first-follows env g.reached count f.variables g.variables h.variables same
      (subst (λ a. AreJoined env (joins a g.reached) (length f.variables) f.variables g.variables h.variables) goes j.variables)),
  second-way env f.reached g.reached h.reached (known_by count g.variables) (known_by count h.variables) j.reached
      (λ goes. second-follows env f.reached count f.variables g.variables h.variables same
      (subst (λ b. AreJoined env (joins f.reached b) (length f.variables) f.variables g.variables h.variables) goes j.variables)),
)

pub tests-agree : TestsAgree
tests-agree env s t u = ((λ h. h.shapes), (λ h. h.shapes))
