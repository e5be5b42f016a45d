-- Flows that are joined and narrowed in two runs.
use Rattle.std.proofs.Common.{◌≡◌, ◌||◌, ◌<◌, ℕ, zero, suc, Bool, true, false, List, [], ◌∷◌, length, get_or, slice_get, IsSomeAnd, Option, None, Some, refl, sym, subst, ap, ◌∙◌, arith}
use Rattle.std.specs.List.{AllZip}
use Rattle.std.proofs.lemmas.List.Elements.{AllZip-get_or}
use Rattle.std.proofs.lemmas.Option.{slice_get-get_or, slice_get_within}
use Rattle.descriptors.specs.Described.{IsUnion, with_choices}
use Rattle.flow_narrowing.specs.declared.flow.Flow.{Flow}
use Rattle.flow_narrowing.specs.declared.flow.Variable.{Variable}
use Rattle.flow_narrowing.specs.Flows.{AreJoined, IsJoin, IsJoined, NarrowedTo, UnionOf, joins, now, or_declared}
use Rattle.type_model.specs.declared.basic.Ty.{Ty}
use Rattle.type_model.proofs.Same.{either}
use Rattle.typed_tree.specs.SharedTypes.{Shared}
use Rattle.check_words.specs.Sharing.{SameOption}
use Rattle.check_words.specs.Words.{Atoms}
use Rattle.check_answers.specs.TwinStates.{FlowTwins, SharedTwins, VariableTwins}
use Rattle.check_answers.specs.TwinTypes.{SettledTwins, TwinTypes}
use Rattle.check_answers.proofs.Handed.{equal-handed, shared-handed, want-handed}
use Rattle.check_answers.proofs.Meanings.{meanings-twin}
use Rattle.check_answers.proofs.Zips.{zip-long}

-- what holds place by place
zip-places : {A : Type 0} (R : A → A → Type 0) (xs ys : List A) → length xs ≡ length ys
    → ((i : ℕ) (x y : A) → slice_get xs i ≡ Some x → slice_get ys i ≡ Some y → R x y) → AllZip R xs ys
zip-places R [] [] e f = tt
zip-places R (x ∷ xs) (y ∷ ys) e f = (f zero x y refl refl, zip-places R xs ys (omega (arith, e)) (λ i a b p q. f (suc i) a b p q))
zip-places R [] (y ∷ ys) e f = absurd (omega (arith, e))
zip-places R (x ∷ xs) [] e f = absurd (omega (arith, e))

module _ (m n : Atoms) where
  abbrev D : Ty → Ty → Type 0
  D = SettledTwins m n

  abbrev W : Ty → Ty → Type 0
  W = TwinTypes m n

  -- ---- the union of two types

  union-twins : (s t u v a b : Ty) → W s u → W t v → IsUnion s t m a → IsUnion u v n b → W a b
  union-twins s t u v a b h k x y =
      meanings-twin m n _ _ (with_choices s.lists t.lists) (with_choices s.maps t.maps) (with_choices u.lists v.lists) (with_choices u.maps v.maps) a b
      (λ i valid. either (h.shapes i valid) (k.shapes i valid))
      (ap (λ l. with_choices l v.lists) h.lists ∙ ap (with_choices s.lists) k.lists)
      (ap (λ l. with_choices l v.maps) h.maps ∙ ap (with_choices s.maps) k.maps) x y

  unions-twin : (s t u v : Ty) (o p : Option Shared) → W s u → W t v → IsSomeAnd o (λ x. IsUnion s t m x.value) → IsSomeAnd p (λ x. IsUnion u v n x.value)
      → SameOption (SharedTwins D W) o p
  unions-twin s t u v (Some a) (Some b) h k x y = union-twins s t u v a.value b.value h k x y
  unions-twin s t u v None p h k x y = absurd x
  unions-twin s t u v (Some a) None h k x y = absurd y

  both-none : (o p : Option Shared) → o ≡ None → p ≡ None → SameOption (SharedTwins D W) o p
  both-none o p e f = subst (λ k. SameOption (SharedTwins D W) k p) (sym e) (subst (SameOption (SharedTwins D W) None) (sym f) tt)

  joined-narrowed : (s t u v : Ty) (a b c d o p : Option Shared) → W s u → W t v → SameOption (SharedTwins D W) a c → SameOption (SharedTwins D W) b d
      → UnionOf m s t a b o → UnionOf n u v c d p → SameOption (SharedTwins D W) o p
  joined-narrowed s t u v None None None None o p h k i j x y = both-none o p x y
  joined-narrowed s t u v (Some a) b (Some c) d o p h k i j x y = unions-twin s t u v o p h k x y
  joined-narrowed s t u v None (Some b) None (Some d) o p h k i j x y = unions-twin s t u v o p h k x y
  joined-narrowed s t u v None b (Some c) d o p h k i j x y = absurd i
  joined-narrowed s t u v (Some a) b None d o p h k i j x y = absurd i
  joined-narrowed s t u v None None None (Some d) o p h k i j x y = absurd j
  joined-narrowed s t u v None (Some b) None None o p h k i j x y = absurd j

  now-same : (v u : Variable) → VariableTwins D W v u → W (now v) (now u)
  now-same v u h = by v.narrowed u.narrowed h.narrowed
    where
      by : (o p : Option Shared) → SameOption (SharedTwins D W) o p → W (or_declared o v.declared) (or_declared p u.declared)
      by None None e = h.declared
      by (Some t) (Some w) e = e
      by None (Some w) e = absurd e
      by (Some t) None e = absurd e

  narrowed-twins : (p q : Bool) (v w u a b c : Variable) → VariableTwins D W v a → VariableTwins D W w b
      → NarrowedTo m (joins p q) v w u.narrowed → NarrowedTo n (joins p q) a b c.narrowed → SameOption (SharedTwins D W) u.narrowed c.narrowed
  narrowed-twins true false v w u a b c h k x y = want-handed D W v.narrowed a.narrowed u.narrowed c.narrowed h.narrowed x y
  narrowed-twins false true v w u a b c h k x y = want-handed D W w.narrowed b.narrowed u.narrowed c.narrowed k.narrowed x y
  narrowed-twins true true v w u a b c h k x y =
      joined-narrowed _ _ _ _ v.narrowed w.narrowed a.narrowed b.narrowed u.narrowed c.narrowed (now-same v a h) (now-same w b k) h.narrowed k.narrowed x y
  narrowed-twins false false v w u a b c h k x y =
      joined-narrowed _ _ _ _ v.narrowed w.narrowed a.narrowed b.narrowed u.narrowed c.narrowed (now-same v a h) (now-same w b k) h.narrowed k.narrowed x y

  variable-joined : (p q : Bool) (v w u a b c : Variable) → VariableTwins D W v a → VariableTwins D W w b
      → IsJoined m (joins p q) v w u → IsJoined n (joins p q) a b c → VariableTwins D W u c
  variable-joined p q v w u a b c h k x y =
      record {
        name = equal-handed D W v.name a.name u.name c.name h.name x.same.name y.same.name;
        slot = equal-handed D W v.slot a.slot u.slot c.slot h.slot x.same.slot y.same.slot;
        declared = shared-handed D W v.declared a.declared u.declared c.declared h.declared x.same.declared y.same.declared;
        narrowed = narrowed-twins p q v w u a b c h k x.narrowed y.narrowed;
        fixed = equal-handed D W v.fixed a.fixed u.fixed c.fixed h.fixed x.same.fixed y.same.fixed;
        assigned = equal-handed D W v.assigned a.assigned u.assigned c.assigned h.assigned x.same.assigned y.same.assigned;
        captured = equal-handed D W v.captured a.captured u.captured c.captured h.captured x.same.captured y.same.captured;
      }

  -- ---- all variables

  -- what is known of the variable at a place
  at-place : (env : Atoms) (p q : Bool) (vs ws us : List Variable) (i : ℕ) (u d : Variable) → AreJoined env (joins p q) (length vs) vs ws us
      → length ws ≡ length vs → slice_get us i ≡ Some u → IsJoined env (joins p q) (get_or vs i d) (get_or ws i d) u
  at-place env p q vs ws us i u d h even at =
      let lt : i < length vs = subst (λ k. i < k) h.length (slice_get_within us i u at) in
      subst (λ o. IsSomeAnd o (IsJoined env (joins p q) (get_or vs i d) (get_or ws i d))) at
      (h.each i (get_or vs i d) (get_or ws i d) lt (slice_get-get_or vs i d lt) (slice_get-get_or ws i d (subst (λ k. i < k) (sym even) lt)))

  variables-joined : (p q : Bool) (vs ws us rs bs cs : List Variable) → AllZip (VariableTwins D W) vs rs → AllZip (VariableTwins D W) ws bs
      → length ws ≡ length vs → AreJoined m (joins p q) (length vs) vs ws us → AreJoined n (joins p q) (length rs) rs bs cs → AllZip (VariableTwins D W) us cs
  variables-joined p q vs ws us rs bs cs h k even x y =
      let one = zip-long (VariableTwins D W) vs rs h in
      let two = zip-long (VariableTwins D W) ws bs k in
      zip-places (VariableTwins D W) us cs (x.length ∙ one ∙ sym y.length)
      (λ i u c e f.
      let lt : i < length vs = subst (λ l. i < l) x.length (slice_get_within us i u e) in
      variable-joined p q (get_or vs i u) (get_or ws i u) u (get_or rs i u) (get_or bs i u) c
      (AllZip-get_or (VariableTwins D W) vs rs i u u h lt) (AllZip-get_or (VariableTwins D W) ws bs i u u k (subst (λ l. i < l) (sym even) lt))
      (at-place m p q vs ws us i u u x even e) (at-place n p q rs bs cs i c u y (sym two ∙ even ∙ one) f))

  -- ways that meet
  pub joins-twin : (f g h a b c : Flow) → FlowTwins D W f a → FlowTwins D W g b → IsJoin m f g h → IsJoin n a b c → FlowTwins D W h c
  joins-twin f g h a b c p q x y =
      record {
        variables = variables-joined f.reached g.reached f.variables g.variables h.variables a.variables b.variables c.variables p.variables q.variables x.as_many
            x.variables (subst (λ k. AreJoined n (joins f.reached k) (length a.variables) a.variables b.variables c.variables) q.reached
            (subst (λ k. AreJoined n (joins k b.reached) (length a.variables) a.variables b.variables c.variables) p.reached y.variables));
        reached = y.reached ∙ ap (λ k. k || b.reached) p.reached ∙ ap (λ k. f.reached || k) q.reached ∙ sym x.reached;
      }
