-- Ways that meet, by other handles of their types, and one after another.
use Rattle.std.proofs.Common.{◌≡◌, ◌+◌, ◌<◌, ◌||◌, ◌∙◌, ℕ, Bool, true, false, List, ◌∷◌, drop, get_or, length, slice_get, MatchOption, Option, Some, None, IsSomeAnd, Result, Ok, refl, sym, subst, ap, arith}
use Rattle.std.specs.List.{AllZip}
use Rattle.std.proofs.lemmas.List.{drop_all, drop_more}
use Rattle.std.proofs.lemmas.Slice.Zip.{AllZip-left, AllZip-long}
use Rattle.bal_base.specs.declared.fault.Fault.{Fault}
use Rattle.bal_base.specs.declared.stop.Stop.{Stop}
use Rattle.checks.specs.Checks.{Comes}
use Rattle.descriptors.specs.Described.{IsUnion}
use Rattle.type_model.specs.declared.basic.Ty.{Ty}
use Rattle.typed_tree.specs.SharedTypes.{Shared}
use Rattle.flow_narrowing.specs.declared.flow.Flow.{Flow}
use Rattle.flow_narrowing.specs.declared.flow.Variable.{Variable}
use Rattle.flow_narrowing.specs.Flows.{AreJoined, AreSame, IsJoin, IsJoined, NarrowedTo, UnionOf, joins, now}
use Rattle.check_words.specs.Joins.{joins_from, joins_two}
use Rattle.check_words.specs.Sharing.{SameFlow, SameVariable}
use Rattle.check_words.specs.State.{State}
use Rattle.check_words.specs.Words.{Atoms}
use Rattle.check_words.proofs.Coming.{given, next}
use Rattle.check_words.proofs.Handles.{now-same, same-variable-through, type-through}
use Rattle.check_words.proofs.Same.{same-flow}
use Rattle.flow_joins.specs.Joined.{JoinsFrom}

-- ---- one variable

some-is : {A : Type 0} (P : A → Type 0) (o : Option A) → IsSomeAnd o P → (a : A) × (o ≡ Some a) × P a
some-is P (Some a) h = (a, refl, h)
some-is P None h = absurd h

at-place : (vs ws : List Variable) (i : ℕ) (v : Variable) → AllZip SameVariable vs ws → slice_get vs i ≡ Some v
    → (w : Variable) × (slice_get ws i ≡ Some w) × SameVariable v w
at-place vs ws i v h e =
    some-is (SameVariable v) (slice_get ws i)
    (subst (λ o. MatchOption o (Unit {0}) (λ x. IsSomeAnd (slice_get ws i) (SameVariable x))) e (AllZip-left SameVariable vs ws h i))

none-by : (t u : Option Shared) → AreSame t u → t ≡ None → u ≡ None
none-by None None h e = refl
none-by None (Some u) h e = absurd h
none-by (Some t) u h e = let no : ⊥ = cc in absurd no

module _ (env : Atoms) where
  union-is-by : (s t : Ty) (x y : Option Shared) → AreSame x y → IsSomeAnd x (λ a. IsUnion s t env a.value) → IsSomeAnd y (λ a. IsUnion s t env a.value)
  union-is-by s t (Some x) (Some y) e h = subst (IsUnion s t env) (sym e) h
  union-is-by s t None y e h = absurd h
  union-is-by s t (Some x) None e h = absurd e

  union-by : (s t : Ty) (a b c d x y : Option Shared) → AreSame a c → AreSame b d → AreSame x y → UnionOf env s t c d x → UnionOf env s t a b y
  union-by s t None None None None x y p q e h = none-by x y e h
  union-by s t (Some a) b (Some c) d x y p q e h = union-is-by s t x y e h
  union-by s t None (Some b) None (Some d) x y p q e h = union-is-by s t x y e h
  union-by s t None b (Some c) d x y p q e h = absurd p
  union-by s t (Some a) b None d x y p q e h = absurd p
  union-by s t None None None (Some d) x y p q e h = absurd q
  union-by s t None (Some b) None None x y p q e h = absurd q

  both-by : (v w u x y z : Variable) → SameVariable v x → SameVariable w y → SameVariable z u
      → UnionOf env (now x) (now y) x.narrowed y.narrowed z.narrowed → UnionOf env (now v) (now w) v.narrowed w.narrowed u.narrowed
  both-by v w u x y z p q e h =
      union-by (now v) (now w) v.narrowed w.narrowed x.narrowed y.narrowed z.narrowed u.narrowed p.narrowed q.narrowed e.narrowed
      (subst (λ s. UnionOf env s (now w) x.narrowed y.narrowed z.narrowed) (now-same v x p)
      (subst (λ t. UnionOf env (now x) t x.narrowed y.narrowed z.narrowed) (now-same w y q) h))

  -- a and b: whether the two ways go on

  narrowed-by : (a b : Bool) (v w u x y z : Variable) → SameVariable v x → SameVariable w y → SameVariable z u
      → NarrowedTo env (joins a b) x y z.narrowed → NarrowedTo env (joins a b) v w u.narrowed
  narrowed-by true true v w u x y z p q e h = both-by v w u x y z p q e h
  narrowed-by false false v w u x y z p q e h = both-by v w u x y z p q e h
  narrowed-by true false v w u x y z p q e h =
      type-through v.narrowed x.narrowed u.narrowed p.narrowed (type-through x.narrowed z.narrowed u.narrowed h e.narrowed)
  narrowed-by false true v w u x y z p q e h =
      type-through w.narrowed y.narrowed u.narrowed q.narrowed (type-through y.narrowed z.narrowed u.narrowed h e.narrowed)

  joined-by : (a b : Bool) (v w u x y z : Variable) → SameVariable v x → SameVariable w y → SameVariable z u → IsJoined env (joins a b) x y z
      → IsJoined env (joins a b) v w u
  joined-by a b v w u x y z p q e j =
      record {
        same = same-variable-through v z u (same-variable-through v x z p.variable j.same) e.variable;
        narrowed = narrowed-by a b v w u x y z p q e j.narrowed;
      }

  -- ---- all variables

  are-joined-by : (a b : Bool) (vs ws us xs ys zs : List Variable) → AllZip SameVariable vs xs → AllZip SameVariable ws ys → AllZip SameVariable zs us
      → AreJoined env (joins a b) (length xs) xs ys zs → AreJoined env (joins a b) (length vs) vs ws us
  are-joined-by a b vs ws us xs ys zs p q e j = let long = AllZip-long SameVariable vs xs p in
      record {
        length = AllZip-long SameVariable zs us e ∙ j.length ∙ long;
        each = λ i v w lt at_v at_w.
            let x = at-place vs xs i v p at_v in
            let y = at-place ws ys i w q at_w in
            let z = some-is (IsJoined env (joins a b) x.0 y.0) (slice_get zs i) (j.each i x.0 y.0 (subst (λ n. i < n) (sym long) lt) x.1 y.1) in
            let u = at-place zs us i z.0 e z.1 in
            subst (λ o. IsSomeAnd o (IsJoined env (joins a b) v w)) (sym u.1) (joined-by a b v w u.0 x.0 y.0 z.0 x.2 y.2 u.2 z.2);
      }

  -- ways meet whatever the handles of their types
  pub join-by-handles : (f g h k l m : Flow) → SameFlow f k → SameFlow g l → SameFlow m h → IsJoin env k l m → IsJoin env f g h
  join-by-handles f g h k l m p q e j =
      record {
        as_many = sym (AllZip-long SameVariable g.variables l.variables q.variables) ∙ j.as_many ∙ AllZip-long SameVariable f.variables k.variables p.variables;
        variables = are-joined-by f.reached g.reached f.variables g.variables h.variables k.variables l.variables m.variables p.variables q.variables e.variables
            (subst (λ b. AreJoined env (joins f.reached b) (length k.variables) k.variables l.variables m.variables) q.reached
            (subst (λ a. AreJoined env (joins a l.reached) (length k.variables) k.variables l.variables m.variables) p.reached j.variables));
        reached = e.reached ∙ j.reached ∙ ap (λ b. b || l.reached) p.reached ∙ ap (λ b. f.reached || b) q.reached;
      }

pub join-comes : (s : State) (f g h : Flow) → IsJoin s.atoms f g h → Comes (joins_two f g) s (Ok h) s
join-comes s f g h j = given _ s h j

-- ---- one after another

-- what becomes of the ways that are left is what becomes of all of them
abbrev pub Leads : Atoms → Flow → List Flow → List Flow → Flow → Type 0
Leads env f all rest g =
    (h : Flow) × SameFlow h g
    × ((s new : State) (r : Result Flow (Stop Fault)) → s.atoms ≡ env → Comes (joins_from h rest) s r new → Comes (joins_from f all) s r new)

module _ (env : Atoms) (f : Flow) (all : List Flow) where
  pub leads-begin : (g : Flow) → SameFlow f g → Leads env f all all g
  leads-begin g same = (f, same, λ s new r e h. h)

  pub leads-on : (i : ℕ) (g other k : Flow) → i < length all → other ≡ get_or all i other → Leads env f all (drop i all) g → IsJoin env g other k
      → Leads env f all (drop (i + 1) all) k
  leads-on i g other k lt is l j =
      let more : drop i all ≡ other ∷ drop (i + 1) all = drop_more all i other lt ∙ ap (λ x. x ∷ drop (i + 1) all) (sym is) in
      let met = join-by-handles env l.0 other k g other k l.1 (same-flow other) (same-flow k) j in (
        k,
        same-flow k,
        λ s new r e h.
            l.2 s new r e
            (subst (λ xs. Comes (joins_from l.0 xs) s r new) (sym more)
            (next _ _ _ _ _ k s (join-comes s l.0 other k (subst (λ m. IsJoin m l.0 other k) (sym e) met)) h)),
      )

  pub leads-end : (i : ℕ) (g : Flow) → length all ≡ i → Leads env f all (drop i all) g → JoinsFrom env f all g
  leads-end i g is l =
      (l.0, l.1, λ s e. l.2 s s (Ok l.0) e (subst (λ xs. Comes (joins_from l.0 xs) s (Ok l.0) s) (sym (drop_all i all (omega (arith, is)))) (given _ s l.0 refl)))
