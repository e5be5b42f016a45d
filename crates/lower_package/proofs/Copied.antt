-- Copies of definitions have the same inherent atoms.
use Rattle.std.proofs.Common.{◌≡◌, ◌∙◌, ◌++◌, ℕ, zero, suc, List, [], ◌∷◌, Option, Some, None, length, refl, sym, subst, ap}
use Rattle.std.specs.Prelude.{Contains, option_to_list, slice_get}
use Rattle.std.specs.List.{AllZip}
use Rattle.std.proofs.lemmas.Option.{get_or_from_slice_get, slice_get_read, slice_get_within}
use Rattle.type_model.specs.declared.basic.Ty.{Ty}
use Rattle.type_model.specs.declared.atoms.AtomDef.{AtomDef}
use Rattle.type_model.specs.declared.atoms.AtomDef.TheVariants.{List as ListAtom, Mapping as MappingAtom, Arrow, Error as ErrorAtom, Future as FutureAtom}
use Rattle.op_model.specs.Inherent.{IsInherent, IsOneChoice, MayFill, named, fills}
use Rattle.code_assembly.specs.Copies.{AreSameRests, IsSameDef, IsSameTy}

-- ---- lists, one by one

pub there : {X Y : Type 0} (R : X → Y → Type 0) (xs : List X) (ys : List Y) (k : ℕ) (x : X) → AllZip R xs ys → slice_get xs k ≡ Some x → (y : Y) × (slice_get ys k ≡ Some y) × R x y
there R [] ys k x all at = absurd (let bad : ⊥ = cc in bad)
there R (z ∷ xs) [] k x all at = absurd all
there R (z ∷ xs) (y ∷ ys) zero x all at = (y, refl, subst (λ w. R w y) (same at) all.0)
  where
    same : Some z ≡ Some x → z ≡ x
    same e = cc
there R (z ∷ xs) (y ∷ ys) (suc k) x all at = there R xs ys k x all.1 at

pub back : {X Y : Type 0} (R : X → Y → Type 0) (xs : List X) (ys : List Y) (k : ℕ) (y : Y) → AllZip R xs ys → slice_get ys k ≡ Some y → (x : X) × (slice_get xs k ≡ Some x) × R x y
back R xs [] k y all at = absurd (let bad : ⊥ = cc in bad)
back R [] (z ∷ ys) k y all at = absurd all
back R (x ∷ xs) (z ∷ ys) zero y all at = (x, refl, subst (λ w. R x w) (same at) all.0)
  where
    same : Some z ≡ Some y → z ≡ y
    same e = cc
back R (x ∷ xs) (z ∷ ys) (suc k) y all at = back R xs ys k y all.1 at

pub zip-append : {X Y : Type 0} (R : X → Y → Type 0) (xs : List X) (ys : List Y) (vs : List X) (ws : List Y) → AllZip R xs ys → AllZip R vs ws → AllZip R (xs ++ vs) (ys ++ ws)
zip-append R [] [] vs ws all more = more
zip-append R [] (y ∷ ys) vs ws all more = absurd all
zip-append R (x ∷ xs) [] vs ws all more = absurd all
zip-append R (x ∷ xs) (y ∷ ys) vs ws all more = (all.0, zip-append R xs ys vs ws all.1 more)

at-place : (ts : List Ty) (t : Ty) → Contains ts t → (k : ℕ) × (slice_get ts k ≡ Some t)
at-place ts t (k, lt, is) = (k, slice_get_read ts (length ts) k t refl lt (sym is))

contains-at : (ts : List Ty) (t : Ty) (k : ℕ) → slice_get ts k ≡ Some t → Contains ts t
contains-at ts t k at = (k, slice_get_within ts k t at, get_or_from_slice_get ts k t t at)

-- ---- members of lists

pub rests : (rest rest' : Option Ty) → AreSameRests rest rest' → AllZip IsSameTy (option_to_list rest) (option_to_list rest')
rests (Some s) (Some t) same = (same, tt)
rests (Some s) None same = absurd same
rests None (Some t) same = absurd same
rests None None same = tt

pub members : (fixed fixed' : List Ty) (rest rest' : Option Ty) → AllZip IsSameTy fixed fixed' × AreSameRests rest rest' → AllZip IsSameTy (fixed ++ option_to_list rest) (fixed' ++ option_to_list rest')
members fixed fixed' rest rest' same = zip-append IsSameTy fixed fixed' (option_to_list rest) (option_to_list rest') same.0 (rests rest rest' same.1)

choice-there : (s t : Ty) (b : ℕ) → IsSameTy s t → IsOneChoice s b → IsOneChoice t b
choice-there s t b same (c, e, is) = (c, ap (λ l. l ++ t.maps) (sym same.lists) ∙ ap (λ m. s.lists ++ m) (sym same.maps) ∙ e, is)

choice-back : (s t : Ty) (b : ℕ) → IsSameTy s t → IsOneChoice t b → IsOneChoice s b
choice-back s t b same (c, e, is) = (c, ap (λ l. l ++ s.maps) same.lists ∙ ap (λ m. t.lists ++ m) same.maps ∙ e, is)

-- ---- definitions

module _ (defs copies : List AtomDef) (all : AllZip IsSameDef defs copies) (a b : ℕ) where
  fill-there : MayFill defs a b → MayFill copies a b
  fill-there (ListAtom fixed rest, t, at, kind, m, one) =
      let (d, at-d, same) = there IsSameDef defs copies a (ListAtom fixed rest) all at in go d at-d same
    where
      go : (d : AtomDef) → slice_get copies a ≡ Some d → IsSameDef (ListAtom fixed rest) d → MayFill copies a b
      go (ListAtom fixed' rest') at-d same =
          let (k, at-t) = at-place (fixed ++ option_to_list rest) t m in
          let (u, at-u, same-u) = there IsSameTy (fixed ++ option_to_list rest) (fixed' ++ option_to_list rest') k t (members fixed fixed' rest rest' same) at-t in
          (ListAtom fixed' rest', u, at-d, tt, contains-at (fixed' ++ option_to_list rest') u k at-u, choice-there t u b same-u one)
      go (MappingAtom fields rest') at-d same = absurd same
      go (Arrow args outcome alone) at-d same = absurd same
      go (ErrorAtom detail) at-d same = absurd same
      go (FutureAtom outcome) at-d same = absurd same
  fill-there (MappingAtom fields rest, t, at, kind, m, one) = absurd kind
  fill-there (Arrow args outcome alone, t, at, kind, m, one) = absurd kind
  fill-there (ErrorAtom detail, t, at, kind, m, one) = absurd kind
  fill-there (FutureAtom outcome, t, at, kind, m, one) = absurd kind

  fill-back : MayFill copies a b → MayFill defs a b
  fill-back (ListAtom fixed' rest', t, at, kind, m, one) =
      let (d, at-d, same) = back IsSameDef defs copies a (ListAtom fixed' rest') all at in go d at-d same
    where
      go : (d : AtomDef) → slice_get defs a ≡ Some d → IsSameDef d (ListAtom fixed' rest') → MayFill defs a b
      go (ListAtom fixed rest) at-d same =
          let (k, at-t) = at-place (fixed' ++ option_to_list rest') t m in
          let (u, at-u, same-u) = back IsSameTy (fixed ++ option_to_list rest) (fixed' ++ option_to_list rest') k t (members fixed fixed' rest rest' same) at-t in
          (ListAtom fixed rest, u, at-d, tt, contains-at (fixed ++ option_to_list rest) u k at-u, choice-back u t b same-u one)
      go (MappingAtom fields rest) at-d same = absurd same
      go (Arrow args outcome alone) at-d same = absurd same
      go (ErrorAtom detail) at-d same = absurd same
      go (FutureAtom outcome) at-d same = absurd same
  fill-back (MappingAtom fields rest, t, at, kind, m, one) = absurd kind
  fill-back (Arrow args outcome alone, t, at, kind, m, one) = absurd kind
  fill-back (ErrorAtom detail, t, at, kind, m, one) = absurd kind
  fill-back (FutureAtom outcome, t, at, kind, m, one) = absurd kind

module _ (defs copies : List AtomDef) (all : AllZip IsSameDef defs copies) (Named : ℕ → Type 0) where
  pub inherent-there : (a : ℕ) → IsInherent defs Named a → IsInherent copies Named a
  inherent-there a (named a' n) = named a' n
  inherent-there b (fills a b' i f) = fills a b' (inherent-there a i) (fill-there defs copies all a b' f)

  pub inherent-back : (a : ℕ) → IsInherent copies Named a → IsInherent defs Named a
  inherent-back a (named a' n) = named a' n
  inherent-back b (fills a b' i f) = fills a b' (inherent-back a i) (fill-back defs copies all a b' f)
