-- A flat union has the shapes of the one of which it is made, and names the same atoms.
use Rattle.std.proofs.Common.{◌≡◌, ◌↔◌, ◌⊎◌, inl, inr, ℕ, ◌<◌, List, [], ◌∷◌, ◌++◌, Bool, true, false, cond, refl, sym, ap, subst, ◌∙◌, IsSomeAnd, slice_get, append_assoc, ◌≤◌, length, map, take, drop, get_or, arith, Result, Ok, Err, IfOk}
use Rattle.std.proofs.lemmas.List.{append-nil, map-append, take-append-drop}
use Rattle.std.specs.Prelude.{⊤}
use Rattle.std.specs.List.{flat_map}
use Rattle.bal_base.specs.declared.shape.Shape.{Shape}
use Rattle.type_model.specs.Basic.{InBasic}
use Rattle.descriptors.specs.Described.{Atoms, IsRewritten}
use Rattle.type_model.specs.Defined.{ChoicesBelow, NamesBelow, TyBelow}
use Rattle.type_model.specs.declared.basic.Ty.{Ty}
use Rattle.type_model.specs.Membership.{In, Fits}
use Rattle.type_model.specs.SameType.{IsSameType}
use Rattle.type_model.specs.declared.atoms.AtomDef.{AtomDef}
use Rattle.type_model.specs.declared.basic.BasicSet.{BasicSet}
use Rattle.type_model.specs.declared.basic.BasicSet.TheVariants.{Never}
use Rattle.std.proofs.lemmas.Bool.{false≢true}
use Rattle.type_model.specs.declared.basic.SemType.{SemType, Basic, Atom, Or', And', Not'}
use Rattle.type_model.proofs.SameTypes.{In-same, NamesBelow-same}
use Rattle.type_builder.specs.Flat.{AddsMember, AddsMembers, AreKeysOf, AreSameTypes, Gathers, IsAmong, IsFlat, IsFlatType, IsSameMember, found_in, is_never, members_of}
use Rattle.type_builder.specs.declared.flat.Found.{Found}

-- P: what is so of types, the same of those that are the same; whole: it is so of a union exactly where it is so of one of both, or of both
module _ (P : SemType → Type 0) where
  abbrev pub AnyOf : List SemType → Type 0
  AnyOf [] = ⊥
  AnyOf (m ∷ ms) = P m ⊎ AnyOf ms

  abbrev pub EachOf : List SemType → Type 0
  EachOf [] = ⊤
  EachOf (m ∷ ms) = P m × EachOf ms

  any-left : (xs ys : List SemType) → AnyOf xs → AnyOf (xs ++ ys)
  any-left [] ys h = absurd h
  any-left (x ∷ xs) ys (inl h) = inl h
  any-left (x ∷ xs) ys (inr h) = inr (any-left xs ys h)

  any-right : (xs ys : List SemType) → AnyOf ys → AnyOf (xs ++ ys)
  any-right [] ys h = h
  any-right (x ∷ xs) ys h = inr (any-right xs ys h)

  any-cases : (xs ys : List SemType) → AnyOf (xs ++ ys) → AnyOf xs ⊎ AnyOf ys
  any-cases [] ys h = inr h
  any-cases (x ∷ xs) ys (inl h) = inl (inl h)
  any-cases (x ∷ xs) ys (inr h) = by (any-cases xs ys h)
    where
      by : AnyOf xs ⊎ AnyOf ys → (P x ⊎ AnyOf xs) ⊎ AnyOf ys
      by (inl a) = inl (inr a)
      by (inr b) = inr b

  each-both : (xs ys : List SemType) → EachOf xs → EachOf ys → EachOf (xs ++ ys)
  each-both [] ys a b = b
  each-both (x ∷ xs) ys a b = (a.0, each-both xs ys a.1 b)

  each-left : (xs ys : List SemType) → EachOf (xs ++ ys) → EachOf xs
  each-left [] ys h = tt
  each-left (x ∷ xs) ys h = (h.0, each-left xs ys h.1)

  each-right : (xs ys : List SemType) → EachOf (xs ++ ys) → EachOf ys
  each-right [] ys h = h
  each-right (x ∷ xs) ys h = each-right xs ys h.1

  -- where a member is one of the others, it is so of it where it is so of one of them
  module _ (one : (s t : SemType) → IsSameMember s t → P t → P s) where
    among-any : (ms : List SemType) (t : SemType) → IsAmong ms t → P t → AnyOf ms
    among-any [] t h p = absurd h
    among-any (m ∷ ms) t (inl e) p = inl (one m t e p)
    among-any (m ∷ ms) t (inr h) p = inr (among-any ms t h p)

    adds-any : (old ts new : List SemType) → AddsMembers old ts new → AnyOf old ⊎ AnyOf ts → AnyOf new
    adds-any old [] new e (inl h) = subst AnyOf (sym e) h
    adds-any old [] new e (inr h) = absurd h
    adds-any old (t ∷ ts) new (mid, first, rest) h = adds-any mid ts new rest (by h)
      where
        on : AddsMember old t mid → AnyOf old ⊎ P t → AnyOf mid
        on (inl a) (inl o) = subst AnyOf (sym a.1) o
        on (inl a) (inr p) = subst AnyOf (sym a.1) (among-any old t a.0 p)
        on (inr a) (inl o) = subst AnyOf (sym a.1) (any-left old (t ∷ []) o)
        on (inr a) (inr p) = subst AnyOf (sym a.1) (any-right old (t ∷ []) (inl p))

        by : AnyOf old ⊎ (P t ⊎ AnyOf ts) → AnyOf mid ⊎ AnyOf ts
        by (inl o) = inl (on first (inl o))
        by (inr (inl p)) = inl (on first (inr p))
        by (inr (inr r)) = inr r

  any-adds : (old ts new : List SemType) → AddsMembers old ts new → AnyOf new → AnyOf old ⊎ AnyOf ts
  any-adds old [] new e h = inl (subst AnyOf e h)
  any-adds old (t ∷ ts) new (mid, first, rest) h = by (any-adds mid ts new rest h)
    where
      on : AddsMember old t mid → AnyOf mid → AnyOf old ⊎ (P t ⊎ AnyOf ts)
      on (inl a) m = inl (subst AnyOf a.1 m)
      on (inr a) m = last (any-cases old (t ∷ []) (subst AnyOf a.1 m))
        where
          last : AnyOf old ⊎ (P t ⊎ ⊥) → AnyOf old ⊎ (P t ⊎ AnyOf ts)
          last (inl o) = inl o
          last (inr (inl p)) = inr (inl p)
          last (inr (inr p)) = absurd p

      by : AnyOf mid ⊎ AnyOf ts → AnyOf old ⊎ (P t ⊎ AnyOf ts)
      by (inl m) = on first m
      by (inr r) = inr (inr r)

  each-adds : (old ts new : List SemType) → AddsMembers old ts new → EachOf old → EachOf ts → EachOf new
  each-adds old [] new e o r = subst EachOf (sym e) o
  each-adds old (t ∷ ts) new (mid, first, rest) o r = each-adds mid ts new rest (on first) r.1
    where
      on : AddsMember old t mid → EachOf mid
      on (inl a) = subst EachOf (sym a.1) o
      on (inr a) = subst EachOf (sym a.1) (each-both old (t ∷ []) o (r.0, tt))

  module _ (same : (s t : SemType) → IsSameType s t → P s → P t) where
    same-each : (ts us : List SemType) → AreSameTypes ts us → EachOf ts → EachOf us
    same-each [] [] e h = tt
    same-each (t ∷ ts) (u ∷ us) e h = (same t u e.0 h.0, same-each ts us e.1 h.1)
    same-each _ _ e h = absurd e

    same-any : (ts us : List SemType) → AreSameTypes ts us → AnyOf ts → AnyOf us
    same-any [] [] e h = h
    same-any (t ∷ ts) (u ∷ us) e (inl h) = inl (same t u e.0 h)
    same-any (t ∷ ts) (u ∷ us) e (inr h) = inr (same-any ts us e.1 h)
    same-any _ _ e h = absurd e

  module _ (same : (s t : SemType) → IsSameType s t → P t → P s) where
    any-same : (ts us : List SemType) → AreSameTypes ts us → AnyOf us → AnyOf ts
    any-same [] [] e h = h
    any-same (t ∷ ts) (u ∷ us) e (inl h) = inl (same t u e.0 h)
    any-same (t ∷ ts) (u ∷ us) e (inr h) = inr (any-same ts us e.1 h)
    any-same _ _ e h = absurd e

-- ---- shapes

module _ (env : List AtomDef) (x : Shape) where
  abbrev Has : SemType → Type 0
  Has = In env x

  never-has : (b : BasicSet) → is_never b ≡ true → InBasic x b → ⊥
  never-has Never e h = h
  never-has _ e h = false≢true e

  to-members : (t : SemType) → Has t → AnyOf Has (members_of t)
  to-members (Basic b) h = by (is_never b) refl
    where
      by : (never : Bool) → is_never b ≡ never → AnyOf Has (cond never [] (Basic b ∷ []))
      by true e = absurd (never-has b e h)
      by false e = inl h
  to-members (Atom n) h = inl h
  to-members (Or' _ s _ t) (inl h) = any-left Has (members_of s) (members_of t) (to-members s h)
  to-members (Or' _ s _ t) (inr h) = any-right Has (members_of s) (members_of t) (to-members t h)
  to-members (And' _ s _ t) h = inl h
  to-members (Not' _ t) h = inl h

  only : (A : Type 0) → A ⊎ ⊥ → A
  only A (inl a) = a
  only A (inr b) = absurd b

  from-members : (t : SemType) → AnyOf Has (members_of t) → Has t
  from-members (Basic b) h = by (is_never b) h
    where
      by : (never : Bool) → AnyOf Has (cond never [] (Basic b ∷ [])) → Has (Basic b)
      by true h = absurd h
      by false h = only (Has (Basic b)) h
  from-members (Atom n) h = only (Has (Atom n)) h
  from-members (Or' a s b t) h = by (from-members s) (from-members t) (any-cases Has (members_of s) (members_of t) h)
    where
      by : (AnyOf Has (members_of s) → Has s) → (AnyOf Has (members_of t) → Has t) → AnyOf Has (members_of s) ⊎ AnyOf Has (members_of t) → Has (Or' a s b t)
      by f g (inl l) = inl (f l)
      by f g (inr r) = inr (g r)
  from-members (And' a s b t) h = only (Has (And' a s b t)) h
  from-members (Not' a t) h = only (Has (Not' a t)) h

  one-shape : (s t : SemType) → IsSameMember s t → Has t → Has s
  one-shape (Basic b) (Basic c) e h = subst (InBasic x) (sym e) h
  one-shape (Atom m) (Atom n) e h = subst (λ k. IsSomeAnd (slice_get env k) (Fits env x)) (sym e) h
  one-shape _ _ e h = absurd e

  pub flat-shapes : (t u : SemType) → IsFlat t u → Has u ↔ Has t
  flat-shapes t u flat = (
    λ h. from-members t (only-right (any-adds Has [] (members_of t) flat.once flat.are
        (any-same Has (λ s r e. (In-same env x s r e).1) flat.once (members_of u) flat.same (to-members u h)))),
    λ h. from-members u (same-any Has (λ s r e. (In-same env x s r e).0) flat.once (members_of u) flat.same
        (adds-any Has one-shape [] (members_of t) flat.once flat.are (inr (to-members t h)))),
  )
    where
      only-right : ⊥ ⊎ AnyOf Has (members_of t) → AnyOf Has (members_of t)
      only-right (inl b) = absurd b
      only-right (inr r) = r

-- ---- atoms

module _ (n : ℕ) where
  each-below : (t : SemType) → NamesBelow n t → EachOf (NamesBelow n) (members_of t)
  each-below (Basic b) h = by (is_never b)
    where
      by : (never : Bool) → EachOf (NamesBelow n) (cond never [] (Basic b ∷ []))
      by true = tt
      by false = (tt, tt)
  each-below (Atom m) h = (h, tt)
  each-below (Or' _ s _ t) h = each-both (NamesBelow n) (members_of s) (members_of t) (each-below s h.0) (each-below t h.1)
  each-below (And' _ s _ t) h = (h, tt)
  each-below (Not' _ t) h = (h, tt)

  below-each : (t : SemType) → EachOf (NamesBelow n) (members_of t) → NamesBelow n t
  below-each (Basic b) h = tt
  below-each (Atom m) h = h.0
  below-each (Or' _ s _ t) h = (
    below-each s (each-left (NamesBelow n) (members_of s) (members_of t) h),
    below-each t (each-right (NamesBelow n) (members_of s) (members_of t) h),
  )
  below-each (And' _ s _ t) h = h.0
  below-each (Not' _ t) h = h.0

  pub flat-below : (t u : SemType) → IsFlat t u → NamesBelow n t → NamesBelow n u
  flat-below t u flat h =
      below-each u (same-each (NamesBelow n) (NamesBelow-same n) flat.once (members_of u) flat.same
      (each-adds (NamesBelow n) [] (members_of t) flat.once flat.are tt (each-below t h)))

-- ---- how unions are put together

pub same-both : (a b c d : List SemType) → AreSameTypes a b → AreSameTypes c d → AreSameTypes (a ++ c) (b ++ d)
same-both [] [] c d e f = f
same-both (x ∷ a) (y ∷ b) c d e f = (e.0, same-both a b c d e.1 f)
same-both _ _ c d e f = absurd e

pub same-members : (s t : SemType) → IsSameType s t → AreSameTypes (members_of s) (members_of t)
same-members (Basic b) (Basic c) e = subst (λ d. AreSameTypes (members_of (Basic b)) (members_of (Basic d))) e (by (is_never b))
  where
    by : (never : Bool) → AreSameTypes (cond never [] (Basic b ∷ [])) (cond never [] (Basic b ∷ []))
    by true = tt
    by false = (refl, tt)
same-members (Atom m) (Atom n) e = (e, tt)
same-members (Or' _ s _ t) (Or' _ u _ v) e = same-both (members_of s) (members_of u) (members_of t) (members_of v) (same-members s u e.0) (same-members t v e.1)
same-members (And' _ s _ t) (And' _ u _ v) e = (e, tt)
same-members (Not' _ t) (Not' _ v) e = (e, tt)
same-members _ _ e = absurd e

-- members are no unions
abbrev IsMember : SemType → Type 0
IsMember m = members_of m ≡ m ∷ []

are-members : (t : SemType) → EachOf IsMember (members_of t)
are-members (Basic b) = by (is_never b) refl
  where
    by : (never : Bool) → is_never b ≡ never → EachOf IsMember (cond never [] (Basic b ∷ []))
    by true e = tt
    by false e = (ap (λ x. cond x [] (Basic b ∷ [])) e, tt)
are-members (Atom n) = (refl, tt)
are-members (Or' _ s _ t) = each-both IsMember (members_of s) (members_of t) (are-members s) (are-members t)
are-members (And' _ s _ t) = (refl, tt)
are-members (Not' _ t) = (refl, tt)

all-themselves : (ms : List SemType) → EachOf IsMember ms → flat_map members_of ms ≡ ms
all-themselves [] h = refl
all-themselves (m ∷ ms) h = ap (λ x. x ++ flat_map members_of ms) h.0 ∙ ap (λ xs. m ∷ xs) (all-themselves ms h.1)

-- what was found of a type, put together
pub made-flat : (t u : SemType) (found : List SemType) → AddsMembers [] (members_of t) found → AreSameTypes (flat_map members_of found) (members_of u) → IsFlat t u
made-flat t u found adds same = record {
  once = found;
  are = adds;
  same = subst (λ ms. AreSameTypes ms (members_of u)) (all-themselves found (each-adds IsMember [] (members_of t) found adds tt (are-members t))) same;
}

pub flat_map-both : {A B : Type 0} (f : A → List B) (xs ys : List A) → flat_map f (xs ++ ys) ≡ flat_map f xs ++ flat_map f ys
flat_map-both f [] ys = refl
flat_map-both f (x ∷ xs) ys = ap (λ zs. f x ++ zs) (flat_map-both f xs ys) ∙ sym (append_assoc (f x) (flat_map f xs) (flat_map f ys))

-- two halves, each put together
pub halves-made : {A : Type 0} (now : A → SemType) (n : ℕ) (all front back : List A) (x y : List SemType) → front ≡ take n all → back ≡ drop n all
    → AreSameTypes (flat_map members_of (map now front)) x → AreSameTypes (flat_map members_of (map now back)) y → AreSameTypes (flat_map members_of (map now all)) (x ++ y)
halves-made now n all front back x y first last a b =
    subst (λ ms. AreSameTypes ms (x ++ y))
    (sym (ap (λ zs. flat_map members_of (map now zs)) (sym (take-append-drop n all) ∙ ap (λ zs. zs ++ drop n all) (sym first) ∙ ap (λ zs. front ++ zs) (sym last))
    ∙ ap (flat_map members_of) (map-append now front back) ∙ flat_map-both members_of (map now front) (map now back)))
    (same-both (flat_map members_of (map now front)) x (flat_map members_of (map now back)) y a b)

-- a single one
one-item : {A : Type 0} (all : List A) (m : A) → 1 ≤ length all → length all < 2 → m ≡ get_or all 0 m → all ≡ m ∷ []
one-item [] m a b e = absurd (omega (arith, a))
one-item (x ∷ []) m a b e = ap (λ z. z ∷ []) (sym e)
one-item (x ∷ y ∷ zs) m a b e = absurd (omega (arith, b))

pub one-made : {A E : Type 0} (now : A → SemType) (all : List A) (m : A) (r : Result SemType E) → 1 ≤ length all → length all < 2 → m ≡ get_or all 0 m → IfOk r (IsSameType (now m))
    → IfOk r (λ u. AreSameTypes (flat_map members_of (map now all)) (members_of u))
one-made now all m (Err x) a b e h = tt
one-made now all m (Ok u) a b e h =
    subst (λ ms. AreSameTypes ms (members_of u)) (sym (ap (λ zs. flat_map members_of (map now zs)) (one-item all m a b e) ∙ append-nil (members_of (now m)))) (same-members (now m) u h)

-- all of a type, from nothing
pub flat-made : (t u : SemType) (start end : Found) → found_in start ≡ [] → start.keys.keys ≡ [] → Gathers (members_of t) start end
    → AreSameTypes (flat_map members_of (found_in end)) (members_of u) → IsFlat t u
flat-made t u start end none no_keys gathers same =
    made-flat t u (found_in end) (subst (λ ms. AddsMembers ms (members_of t) (found_in end)) none
    (gathers.adds (subst (λ ms. AreKeysOf ms start.keys.keys) (sym none) (subst (AreKeysOf []) (sym no_keys) (λ s k e. ((λ h. h), (λ h. h))))))) same

pub flat-came : {A E : Type 0} (now : A → SemType) (t : SemType) (start end : Found) (all : List A) (r : Result SemType E) → map now all ≡ found_in end → found_in start ≡ [] → start.keys.keys ≡ []
    → Gathers (members_of t) start end → IfOk r (λ u. AreSameTypes (flat_map members_of (map now all)) (members_of u)) → IfOk r (IsFlat t)
flat-came now t start end all (Err x) is none no_keys gathers same = tt
flat-came now t start end all (Ok u) is none no_keys gathers same = flat-made t u start end none no_keys gathers (subst (λ ms. AreSameTypes (flat_map members_of ms) (members_of u)) is same)

-- ---- whole types

pub flat-rewritten : (env : Atoms) (t u : Ty) → IsFlatType t u → IsRewritten t env u
flat-rewritten env t u flat = record { shapes = λ x valid. flat-shapes env x t.sem u.sem flat.sem; lists = flat.lists; maps = flat.maps }

pub flat-type-below : (n : ℕ) (t u : Ty) → IsFlatType t u → TyBelow n t → TyBelow n u
flat-type-below n t u flat h = (flat-below n t.sem u.sem flat.sem h.0, subst (ChoicesBelow n) (sym flat.lists) h.1, subst (ChoicesBelow n) (sym flat.maps) h.2)

-- what is written again twice is written again
pub rewritten-on : (env : Atoms) (s t u : Ty) → IsRewritten s env t → IsRewritten t env u → IsRewritten s env u
rewritten-on env s t u a b = record {
  shapes = λ x valid. let first = a.shapes x valid in let second = b.shapes x valid in ((λ h. first.0 (second.0 h)), (λ h. second.1 (first.1 h)));
  lists = b.lists ∙ a.lists;
  maps = b.maps ∙ a.maps;
}
