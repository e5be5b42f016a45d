-- Fillers of types, as a code's tables know them: each type that has one is filled by it, and new structures stand in one another at
-- most as often as there are atoms.
use Rattle.std.proofs.Common.{◌≡◌, ◌<◌, ◌≤◌, ◌+◌, ◌++◌, ℕ, zero, suc, false, List, [], ◌∷◌, Option, Some, inl, inr, flat_map, length, map, refl, sym, ap, subst, arith}
use Rattle.std.proofs.lemmas.List.Elements.{All-append, All-cons, All-head, All-nil, All-tail}
use Rattle.std.specs.List.{AllZip}
use Rattle.std.specs.Prelude.{All, Contains, IsSomeAnd, IsTrue, slice_get, take, ⊤}
use Rattle.bal_base.specs.declared.shape.Shape.{Shape, Nil as NilShape, Bool as BoolShape, Int as IntShape, Str as StrShape, List', Mapping', Error', Function as FunctionShape, Future', Row_of-Shape, end_of-Shape, more_of-Shape, items-the_row-Shape as shapes_in}
use Rattle.bal_base.specs.Valid.{AreValid, IsValid}
use Rattle.type_model.specs.declared.atoms.AtomDef.{AtomDef}
use Rattle.type_model.specs.declared.atoms.AtomDef.TheVariants.{List as ListAtom, Mapping as MappingAtom}
use Rattle.type_model.specs.declared.atoms.FieldDef.{FieldDef}
use Rattle.type_model.specs.declared.basic.SemType.{SemType, Atom}
use Rattle.type_model.specs.declared.basic.Ty.{Ty}
use Rattle.type_model.specs.Inclusion.{HaveSameShapes, IsShapeOf}
use Rattle.type_model.specs.Membership.{EachIn, Fits as ShapeFits, In}
use Rattle.type_model.specs.Places.{item_type, or_rest}
use Rattle.value_model.specs.declared.filler.Filler.{Filler}
use Rattle.value_model.specs.declared.filler.Filler.TheVariants.{Nothing, Nil as NilFiller, Bool as BoolFiller, Int as IntFiller, Str as StrFiller, List as NewList, Mapping as NewMapping}
use Rattle.value_model.specs.Exact.{Fills, IsFiller, IsSimpleFiller}
use Rattle.value_model.specs.Stands.{IsUnmarked}
use Rattle.op_model.specs.Fillers.{IsThereFiller, filler_at, fillers_from, is_new, new_ones}
use Rattle.machine_model.proofs.Once.{some-same}
use Rattle.code_keeping.proofs.Changing.{within}
use Rattle.code_keeping.proofs.Growing.{all-from}
use Rattle.code_keeping.proofs.Lists.{all-at, of-some}
use Rattle.code_keeping_fillers.proofs.Walks.{IsAmong}

-- ---- lists

pub of-contained : {A : Type 0} (P : A → Type 0) (xs : List A) (x : A) → Contains xs x → All P xs → P x
of-contained P xs x (k, l, e) h = subst P e (h k x l)

pub zip-first : {A B : Type 0} (P R : A → B → Type 0) (Q : A → Type 0) → ((a : A) (b : B) → P a b → Q a → R a b) → (xs : List A) (ys : List B) → AllZip P xs ys → All Q xs → AllZip R xs ys
zip-first P R Q f [] [] h all = tt
zip-first P R Q f [] (y ∷ ys) h all = absurd h
zip-first P R Q f (x ∷ xs) [] h all = absurd h
zip-first P R Q f (x ∷ xs) (y ∷ ys) (h, more) all = (f x y h (All-head Q x xs all), zip-first P R Q f xs ys more (All-tail Q x xs all))

pub zip-front : {A B : Type 0} (P : A → B → Type 0) (xs zs : List A) (ys : List B) → AllZip P (xs ++ zs) ys → AllZip P xs (take (length xs) ys)
zip-front P [] zs ys h = tt
zip-front P (x ∷ xs) zs [] h = absurd h
zip-front P (x ∷ xs) zs (y ∷ ys) (h, more) = (h, zip-front P xs zs ys more)

pub front-all : {A : Type 0} (P : A → Type 0) (xs ys : List A) → All P (xs ++ ys) → All P xs
front-all P [] ys h = All-nil P
front-all P (x ∷ xs) ys h = All-cons P x xs (All-head P x (xs ++ ys) h) (front-all P xs ys (All-tail P x (xs ++ ys) h))

pub last-all : {A : Type 0} (P : A → Type 0) (xs : List A) (y : A) → All P (xs ++ y ∷ []) → P y
last-all P [] y h = All-head P y [] h
last-all P (x ∷ xs) y h = last-all P xs y (All-tail P x (xs ++ y ∷ []) h)

none-zip : {A B : Type 0} (P : A → B → Type 0) (xs : List A) (u : A) → AllZip P (xs ++ u ∷ []) [] → ⊥
none-zip P [] u h = h
none-zip P (x ∷ xs) u h = h

pub mapped-at : {A B : Type 0} (f : A → B) (xs : List A) (j : ℕ) (y : B) → slice_get (map f xs) j ≡ Some y → (x : A) × (slice_get xs j ≡ Some x) × (f x ≡ y)
mapped-at f [] j y e = absurd (let q : ⊥ = cc in q)
mapped-at f (x ∷ xs) zero y e = (x, refl, some-same (f x) y e)
mapped-at f (x ∷ xs) (suc j) y e = mapped-at f xs j y e

pub mapped-all : {A B : Type 0} (P : B → Type 0) (f : A → B) (xs : List A) → All P (map f xs) → All (λ x. P (f x)) xs
mapped-all P f [] h = All-nil _
mapped-all P f (x ∷ xs) h = All-cons (λ x. P (f x)) x xs (All-head P (f x) (map f xs) h) (mapped-all P f xs (All-tail P (f x) (map f xs) h))

pub flat-all : {A B : Type 0} (P : A → Type 0) (Q : B → Type 0) (f : A → List B) → ((x : A) → P x → All Q (f x)) → (xs : List A) → All P xs → All Q (flat_map f xs)
flat-all P Q f h [] all = All-nil Q
flat-all P Q f h (x ∷ xs) all = All-append Q (f x) (flat_map f xs) (h x (All-head P x xs all)) (flat-all P Q f h xs (All-tail P x xs all))

-- ---- fillers of places

-- the last one serves all places behind the fixed ones
pub rest-filler : {A : Type 0} (P : A → Filler → Type 0) (fx : List A) (u : A) (fs : List Filler) → AllZip P (fx ++ u ∷ []) fs → (k : ℕ) → length fx ≤ k → P u (filler_at fs k)
rest-filler P [] u [] h k le = absurd h
rest-filler P [] u (f ∷ []) (h, end) k le = h
rest-filler P [] u (f ∷ g ∷ fs) (h, end) k le = absurd end
rest-filler P (x ∷ fx) u [] h k le = absurd h
rest-filler P (x ∷ fx) u (f ∷ []) (h, more) k le = absurd (none-zip P fx u more)
rest-filler P (x ∷ fx) u (f ∷ g ∷ fs) (h, more) zero le = absurd (omega (arith, le))
rest-filler P (x ∷ fx) u (f ∷ g ∷ fs) (h, more) (suc k) le = rest-filler P fx u (g ∷ fs) more k (omega (arith, le))

pub fillers-long : (fs : List Filler) (first count : ℕ) → length (fillers_from fs first count) ≡ count
fillers-long fs first zero = refl
fillers-long fs first (suc count) = ap suc (fillers-long fs (first + 1) count)

pub filler-from : (fs : List Filler) (first count i : ℕ) (f : Filler) → slice_get (fillers_from fs first count) i ≡ Some f → filler_at fs (first + i) ≡ f
filler-from fs first zero i f e = absurd (let q : ⊥ = cc in q)
filler-from fs first (suc count) zero f e = some-same (filler_at fs (first + 0)) f (subst (λ n. Some (filler_at fs n) ≡ Some f) (let q : first ≡ first + 0 = omega arith in q) e)
filler-from fs first (suc count) (suc i) f e = subst (λ n. filler_at fs n ≡ f) (let q : first + 1 + i ≡ first + suc i = omega arith in q) (filler-from fs (first + 1) count i f e)

-- the atom of a new structure
abbrev pub node : Filler → ℕ
node (NewList a) = a
node (NewMapping a) = a
node Nothing = 0
node NilFiller = 0
node (BoolFiller b) = 0
node (IntFiller i) = 0
node (StrFiller s) = 0

abbrev pub IsNew : Filler → Type 0
IsNew f = IsTrue (is_new f)

pub new-among : (fs : List Filler) (i : ℕ) (f : Filler) → slice_get (new_ones fs) i ≡ Some f → IsNew f × IsAmong fs f
new-among [] i f e = absurd (let q : ⊥ = cc in q)
new-among (NewList a ∷ fs) zero f e = let same = some-same (NewList a) f e in (subst IsNew same refl, (0, e))
new-among (NewMapping a ∷ fs) zero f e = let same = some-same (NewMapping a) f e in (subst IsNew same refl, (0, e))
new-among (NewList a ∷ fs) (suc i) f e = let (is, (k, at)) = new-among fs i f e in (is, (suc k, at))
new-among (NewMapping a ∷ fs) (suc i) f e = let (is, (k, at)) = new-among fs i f e in (is, (suc k, at))
new-among (Nothing ∷ fs) i f e = let (is, (k, at)) = new-among fs i f e in (is, (suc k, at))
new-among (NilFiller ∷ fs) i f e = let (is, (k, at)) = new-among fs i f e in (is, (suc k, at))
new-among (BoolFiller b ∷ fs) i f e = let (is, (k, at)) = new-among fs i f e in (is, (suc k, at))
new-among (IntFiller n ∷ fs) i f e = let (is, (k, at)) = new-among fs i f e in (is, (suc k, at))
new-among (StrFiller t ∷ fs) i f e = let (is, (k, at)) = new-among fs i f e in (is, (suc k, at))

pub new-all : (P : Filler → Type 0) (fs : List Filler) → All P fs → All (λ f. IsNew f × P f) (new_ones fs)
new-all P fs h = all-from (λ f. IsNew f × P f) (new_ones fs) (λ i f e. let (is, (k, at)) = new-among fs i f e in (is, all-at P fs k f h at))

-- ---- shapes that types of fillers have

abbrev IsPlain : Shape → Type 0
IsPlain NilShape = ⊤
IsPlain (BoolShape b) = ⊤
IsPlain (IntShape i) = ⊤
IsPlain (StrShape t) = ⊤
IsPlain (List' mark _ items) = ⊥
IsPlain (Mapping' mark _ fields) = ⊥
IsPlain (Error' _ detail) = ⊥
IsPlain (FunctionShape isolated graph) = ⊥
IsPlain (Future' _ results) = ⊥

abbrev pub HasOne : List AtomDef → Ty → Type 0
HasOne atoms t = (x : Shape) × IsShapeOf atoms t.sem x

abbrev pub HasUnmarked : List AtomDef → ℕ → Type 0
HasUnmarked atoms a = (x : Shape) × IsValid x × IsUnmarked x × In atoms x (Atom a)

module _ (atoms : List AtomDef) where
  -- a type with a simple filler and some shape has a simple shape
  plain-shape : (t : SemType) (f : Filler) (x : Shape) → IsSimpleFiller atoms t f → IsShapeOf atoms t x → (y : Shape) × IsShapeOf atoms t y × IsPlain y
  plain-shape t Nothing x h s = absurd h
  plain-shape t NilFiller x h s = (NilShape, (tt, h), tt)
  plain-shape t (BoolFiller b) x (inl (there, only)) s = (x, s, subst IsPlain (sym ((only x s.0).0 s.1)) tt)
  plain-shape t (BoolFiller b) x (inr (is, (kind, inside))) s = let (c, e) = kind x s in (x, s, subst IsPlain (sym e) tt)
  plain-shape t (IntFiller i) x (inl (there, only)) s = (x, s, subst IsPlain (sym ((only x s.0).0 s.1)) tt)
  plain-shape t (IntFiller i) x (inr (is, (kind, inside))) s = let (c, e) = kind x s in (x, s, subst IsPlain (sym e) tt)
  plain-shape t (StrFiller u) x (inl (there, only)) s = (x, s, subst IsPlain (sym ((only x s.0).0 s.1)) tt)
  plain-shape t (StrFiller u) x (inr (is, (kind, inside))) s = let (c, e) = kind x s in (x, s, subst IsPlain (sym e) tt)
  plain-shape t (NewList a) x h s = absurd h
  plain-shape t (NewMapping a) x h s = absurd h

  no-plain : (y : Shape) (d : AtomDef) → IsPlain y → ShapeFits atoms y d → ⊥
  no-plain NilShape d p f = f
  no-plain (BoolShape b) d p f = f
  no-plain (IntShape i) d p f = f
  no-plain (StrShape t) d p f = f
  no-plain (List' mark _ items) d p f = p
  no-plain (Mapping' mark _ fields) d p f = p
  no-plain (Error' _ detail) d p f = p
  no-plain (FunctionShape isolated graph) d p f = p
  no-plain (Future' _ results) d p f = p

  pub clash : (t : SemType) (f : Filler) (x : Shape) (a : ℕ) (d : AtomDef) → IsSimpleFiller atoms t f → IsShapeOf atoms t x → HaveSameShapes atoms t (Atom a) → slice_get atoms a ≡ Some d → ⊥
  clash t f x a d simple s same e =
      let (y, (valid, inside), plain) = plain-shape t f x simple s in
      no-plain y d plain (of-some (ShapeFits atoms y) (slice_get atoms a) d e ((same y valid).0 inside))

  -- ---- what stands in a shape of a list

  row-at : (n : _) (row : Row_of-Shape n) (k : ℕ) (fixed : List Ty) (rest : Option Ty) → EachIn atoms row k fixed rest → AreValid row → (i : ℕ) → i < length (shapes_in n row) → (y : Shape) × IsValid y × IsSomeAnd (item_type fixed rest (k + i)) (λ t. In atoms y t.sem)
  row-at n end_of-Shape k fixed rest each valid i l = absurd (omega (arith, l))
  row-at n (more_of-Shape x xs) k fixed rest each valid zero l = (x, valid.0, subst (λ m. IsSomeAnd (item_type fixed rest m) (λ t. In atoms x t.sem)) (let q : k ≡ k + 0 = omega arith in q) each.0)
  row-at n (more_of-Shape x xs) k fixed rest each valid (suc i) l =
      let (y, ok, inside) = row-at _ xs (k + 1) fixed rest each.1 valid.1 i (omega (arith, l)) in
      (y, ok, subst (λ m. IsSomeAnd (item_type fixed rest m) (λ t. In atoms y t.sem)) (let q : k + 1 + i ≡ k + suc i = omega arith in q) inside)

  -- so each fixed place has a shape
  pub places-have : (x : Shape) (a : ℕ) (fixed : List Ty) (rest : Option Ty) → IsValid x → slice_get atoms a ≡ Some (ListAtom fixed rest) → In atoms x (Atom a) → (i : ℕ) (u : Ty) → slice_get fixed i ≡ Some u → HasOne atoms u
  places-have x a fixed rest valid e inside i u eu = by x valid (of-some (ShapeFits atoms x) (slice_get atoms a) (ListAtom fixed rest) e inside)
    where
      by : (x : Shape) → IsValid x → ShapeFits atoms x (ListAtom fixed rest) → HasOne atoms u
      by (List' mark _ items) valid fits =
          let (y, ok, is) = row-at _ items 0 fixed rest fits.1 valid.1 i (let l = within fixed i u eu in let m = fits.0 in omega (arith, l, m)) in
          (y, (ok, subst (λ o. IsSomeAnd o (λ t. In atoms y t.sem)) (ap (λ o. or_rest o rest) (subst (λ n. slice_get fixed n ≡ Some u) (let q : i ≡ 0 + i = omega arith in q) eu)) is))
      by (Mapping' mark _ fields) valid fits = absurd fits
      by (Error' _ detail) valid fits = absurd fits
      by (FunctionShape isolated graph) valid fits = absurd fits
      by (Future' _ results) valid fits = absurd fits
      by NilShape valid fits = absurd fits
      by (BoolShape b) valid fits = absurd fits
      by (IntShape j) valid fits = absurd fits
      by (StrShape t) valid fits = absurd fits

  -- an atom of lists or mappings that has a shape has an unmarked one
  pub unmarked-list : (x : Shape) (a : ℕ) (fixed : List Ty) (rest : Option Ty) → IsValid x → slice_get atoms a ≡ Some (ListAtom fixed rest) → In atoms x (Atom a) → HasUnmarked atoms a
  unmarked-list x a fixed rest valid e inside = by x valid inside (of-some (ShapeFits atoms x) (slice_get atoms a) (ListAtom fixed rest) e inside)
    where
      by : (x : Shape) → IsValid x → In atoms x (Atom a) → ShapeFits atoms x (ListAtom fixed rest) → HasUnmarked atoms a
      by (List' mark slice items) valid inside fits = (List' false slice items, ((λ f. absurd (let q : ⊥ = cc in q)), valid.1), refl, inside)
      by (Mapping' mark _ fields) valid inside fits = absurd fits
      by (Error' _ detail) valid inside fits = absurd fits
      by (FunctionShape isolated graph) valid inside fits = absurd fits
      by (Future' _ results) valid inside fits = absurd fits
      by NilShape valid inside fits = absurd fits
      by (BoolShape b) valid inside fits = absurd fits
      by (IntShape j) valid inside fits = absurd fits
      by (StrShape t) valid inside fits = absurd fits

  pub unmarked-mapping : (x : Shape) (a : ℕ) (fields : List FieldDef) (rest : Option Ty) → IsValid x → slice_get atoms a ≡ Some (MappingAtom fields rest) → In atoms x (Atom a) → HasUnmarked atoms a
  unmarked-mapping x a fields rest valid e inside = by x valid inside (of-some (ShapeFits atoms x) (slice_get atoms a) (MappingAtom fields rest) e inside)
    where
      by : (x : Shape) → IsValid x → In atoms x (Atom a) → ShapeFits atoms x (MappingAtom fields rest) → HasUnmarked atoms a
      by (Mapping' mark slice members) valid inside fits = (Mapping' false slice members, (valid.0, valid.1, (λ f. absurd (let q : ⊥ = cc in q)), valid.3), refl, inside)
      by (List' mark _ items) valid inside fits = absurd fits
      by (Error' _ detail) valid inside fits = absurd fits
      by (FunctionShape isolated graph) valid inside fits = absurd fits
      by (Future' _ results) valid inside fits = absurd fits
      by NilShape valid inside fits = absurd fits
      by (BoolShape b) valid inside fits = absurd fits
      by (IntShape j) valid inside fits = absurd fits
      by (StrShape t) valid inside fits = absurd fits

-- a filler that is there fills its type
pub is-filler : (atoms : List AtomDef) (t : Ty) (f : Filler) → Fills atoms t f → IsThereFiller f → IsFiller atoms t f
is-filler atoms t Nothing h some = absurd (some refl)
is-filler atoms t NilFiller h some = h
is-filler atoms t (BoolFiller b) h some = h
is-filler atoms t (IntFiller i) h some = h
is-filler atoms t (StrFiller u) h some = h
is-filler atoms t (NewList a) h some = h
is-filler atoms t (NewMapping a) h some = h
