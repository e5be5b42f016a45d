-- What fills a gap in a list: values that belong to their places, and the structures that are made for them.
use Rattle.std.proofs.Common.{◌≡◌, ◌+◌, ◌-◌, ◌++◌, ◌∙◌, ℕ, zero, suc, Bool, true, false, List, [], ◌∷◌, Option, Some, None, inl, inr, flat_map, length, refl, sym, ap, subst, arith}
use Rattle.std.proofs.lemmas.List.Elements.{All-head, All-tail}
use Rattle.std.specs.List.{AllZip}
use Rattle.std.specs.Prelude.{All, IsSomeAnd, IsTrue, slice_get}
use Rattle.bal_base.specs.declared.shape.Shape.{Shape, Bool as BoolShape, Int as IntShape, Str as StrShape}
use Rattle.bal_base.specs.Valid.{IsInt, IsText, IsValid}
use Rattle.type_model.specs.declared.basic.SemType.{Atom}
use Rattle.type_model.specs.declared.basic.Ty.{Ty}
use Rattle.type_model.specs.Inclusion.{HaveSameShapes}
use Rattle.type_model.specs.Membership.{In}
use Rattle.operations.specs.declared.operation.Constant.TheVariants.{Nil as NilConstant, Bool as BoolConstant, Int as IntConstant, Str as StrConstant}
use Rattle.value_model.specs.declared.filler.Filler.{Filler}
use Rattle.value_model.specs.declared.filler.Filler.TheVariants.{Nothing, Nil as NilFiller, Bool as BoolFiller, Int as IntFiller, Str as StrFiller, List as NewList, Mapping as NewMapping}
use Rattle.value_model.specs.declared.value.Value.{Value}
use Rattle.value_model.specs.declared.value.Value.TheVariants.{Nil, Bool as Truth, Int, Str, Struct}
use Rattle.value_model.specs.Exact.{Fills, IsFillerWithin, IsSimpleFiller}
use Rattle.value_model.specs.Heap.{Entries, Items, Structure}
use Rattle.value_model.specs.Stands.{Belongs, StructureStands}
use Rattle.op_model.specs.Common.{Common}
use Rattle.op_model.specs.Fillers.{IsThereFiller, filler_structures, filler_values, inner_fillers, new_ones}
use Rattle.op_model.specs.Rows.{new_structure}
use Rattle.machine_model.proofs.Once.{some-same}
use Rattle.stack_code.specs.declared.code.Code.{Code}
use Rattle.stack_code.specs.Values.{IsMade, code_types}
use Rattle.code_keeping.proofs.Changing.{within}
use Rattle.code_keeping.proofs.Growing.{get-behind, get-front}
use Rattle.code_keeping.proofs.Itself.{its-shape}
use Rattle.code_keeping.proofs.Lists.{of-some, some-there}
use Rattle.code_keeping_fillers.proofs.Fillers.{HasOne, IsNew, node}

-- ---- values of fillers, in a heap with these structures

module _ (ss : List Structure) where
  -- a new structure of the filler's atom stands there
  abbrev pub IsPut : ℕ → Filler → Type 0
  IsPut m f = IsSomeAnd (slice_get ss m) (λ x. (x.atom ≡ Some (node f)) × IsTrue x.mutable)

  abbrev pub IsValueOf : Filler → Value → Type 0
  IsValueOf Nothing v = ⊥
  IsValueOf NilFiller v = v ≡ Nil
  IsValueOf (BoolFiller b) v = v ≡ Truth b
  IsValueOf (IntFiller i) v = v ≡ Int i
  IsValueOf (StrFiller s) v = v ≡ Str s
  IsValueOf (NewList a) v = (m : ℕ) × (v ≡ Struct m) × IsPut m (NewList a)
  IsValueOf (NewMapping a) v = (m : ℕ) × (v ≡ Struct m) × IsPut m (NewMapping a)

  abbrev pub ArePut : ℕ → List Filler → Type 0
  ArePut p fs = (i : ℕ) (g : Filler) → slice_get fs i ≡ Some g → IsPut (p + i) g

  first-put : (p : ℕ) (g : Filler) (fs : List Filler) → ArePut p (g ∷ fs) → IsPut p g
  first-put p g fs put = subst (λ m. IsPut m g) (let q : p + 0 ≡ p = omega arith in q) (put 0 g refl)

  others-put : (p : ℕ) (g : Filler) (fs : List Filler) → ArePut p (g ∷ fs) → ArePut (p + 1) fs
  others-put p g fs put i h e = subst (λ m. IsPut m h) (let q : p + suc i ≡ p + 1 + i = omega arith in q) (put (suc i) h e)

  -- each filler that is there has its value
  pub values-of : (p : ℕ) (fs : List Filler) → All IsThereFiller fs → ArePut p (new_ones fs) → AllZip IsValueOf fs (filler_values p fs)
  values-of p [] some put = tt
  values-of p (Nothing ∷ fs) some put = absurd (All-head IsThereFiller Nothing fs some refl)
  values-of p (NilFiller ∷ fs) some put = (refl, values-of p fs (All-tail IsThereFiller NilFiller fs some) put)
  values-of p (BoolFiller b ∷ fs) some put = (refl, values-of p fs (All-tail IsThereFiller (BoolFiller b) fs some) put)
  values-of p (IntFiller i ∷ fs) some put = (refl, values-of p fs (All-tail IsThereFiller (IntFiller i) fs some) put)
  values-of p (StrFiller s ∷ fs) some put = (refl, values-of p fs (All-tail IsThereFiller (StrFiller s) fs some) put)
  values-of p (NewList a ∷ fs) some put = ((p, refl, first-put p (NewList a) (new_ones fs) put), values-of (p + 1) fs (All-tail IsThereFiller (NewList a) fs some) (others-put p (NewList a) (new_ones fs) put))
  values-of p (NewMapping a ∷ fs) some put = ((p, refl, first-put p (NewMapping a) (new_ones fs) put), values-of (p + 1) fs (All-tail IsThereFiller (NewMapping a) fs some) (others-put p (NewMapping a) (new_ones fs) put))

-- ---- and it belongs to the type that it fills

module _ (code : Code) (d : Common) where
  -- what the filler says of the type
  simple-of : (n : ℕ) (u : Ty) (f : Filler) → IsFillerWithin code.atoms n u f → ¬ (IsNew f) → IsSimpleFiller code.atoms u.sem f
  simple-of zero u f h old = h
  simple-of (suc n) u f (inl h) old = h
  simple-of (suc n) u (NewList a) (inr h) old = absurd (old refl)
  simple-of (suc n) u (NewMapping a) (inr h) old = absurd (old refl)
  simple-of (suc n) u Nothing (inr h) old = absurd h
  simple-of (suc n) u NilFiller (inr h) old = absurd h
  simple-of (suc n) u (BoolFiller b) (inr h) old = absurd h
  simple-of (suc n) u (IntFiller i) (inr h) old = absurd h
  simple-of (suc n) u (StrFiller s) (inr h) old = absurd h

  list-shapes : (n : ℕ) (u : Ty) (a : ℕ) → IsFillerWithin code.atoms n u (NewList a) → HaveSameShapes code.atoms u.sem (Atom a)
  list-shapes zero u a h = absurd h
  list-shapes (suc n) u a (inl h) = absurd h
  list-shapes (suc n) u a (inr (of, places)) = of.3

  mapping-shapes : (n : ℕ) (u : Ty) (a : ℕ) → IsFillerWithin code.atoms n u (NewMapping a) → HaveSameShapes code.atoms u.sem (Atom a)
  mapping-shapes zero u a h = absurd h
  mapping-shapes (suc n) u a (inl h) = absurd h
  mapping-shapes (suc n) u a (inr (of, required)) = of.3

  abbrev pub IsIn : Value → Ty → Type 0
  IsIn v u = IsMade code d v × Belongs (code_types code) d.world.heap v u.sem

  int-in : (u : Ty) (i : _) → HasOne code.atoms u → IsSimpleFiller code.atoms u.sem (IntFiller i) → IsIn (Int i) u
  int-in u i (x, s) (inl (there, only)) =
      let e = (only x s.0).0 s.1 in
      let int : IsInt i = subst IsValid e s.0 in
      ((tt, int, tt), (λ y valid stands. subst (λ z. In code.atoms z u.sem) (sym (its-shape code d (IntConstant i) y stands)) ((only (IntShape i) int).1 refl)))
  int-in u i (x, s) (inr (is, (kind, inside))) =
      let int : IsInt i = subst IsInt (sym is) (omega arith, omega arith) in
      ((tt, int, tt), (λ y valid stands. subst (λ z. In code.atoms z u.sem) (sym (its-shape code d (IntConstant i) y stands)) (subst (λ j. In code.atoms (IntShape j) u.sem) (sym is) inside)))

  text-in : (u : Ty) (s : _) → HasOne code.atoms u → IsSimpleFiller code.atoms u.sem (StrFiller s) → IsIn (Str s) u
  text-in u s (x, h) (inl (there, only)) =
      let e = (only x h.0).0 h.1 in
      let text : IsText s = subst IsValid e h.0 in
      ((tt, text, tt), (λ y valid stands. subst (λ z. In code.atoms z u.sem) (sym (its-shape code d (StrConstant s) y stands)) ((only (StrShape s) text).1 refl)))
  text-in u s (x, h) (inr (is, (kind, inside))) =
      let text : IsText s = subst IsText (sym is) refl in
      ((tt, text, tt), (λ y valid stands. subst (λ z. In code.atoms z u.sem) (sym (its-shape code d (StrConstant s) y stands)) (subst (λ j. In code.atoms (StrShape j) u.sem) (sym is) inside)))

  truth-in : (u : Ty) (b : _) → IsSimpleFiller code.atoms u.sem (BoolFiller b) → IsIn (Truth b) u
  truth-in u b (inl (there, only)) = ((tt, tt, tt), (λ y valid stands. subst (λ z. In code.atoms z u.sem) (sym (its-shape code d (BoolConstant b) y stands)) ((only (BoolShape b) tt).1 refl)))
  truth-in u b (inr (is, (kind, inside))) = ((tt, tt, tt), (λ y valid stands. subst (λ z. In code.atoms z u.sem) (sym (its-shape code d (BoolConstant b) y stands)) (subst (λ j. In code.atoms (BoolShape j) u.sem) (sym is) inside)))

  -- a new structure stands for shapes of its atom
  put-in : (u : Ty) (f : Filler) (m : ℕ) → HaveSameShapes code.atoms u.sem (Atom (node f)) → IsPut d.world.heap.structures m f → IsIn (Struct m) u
  put-in u f m same put =
      let (x, e, (atom, mutable)) = some-there (λ x. (x.atom ≡ Some (node f)) × IsTrue x.mutable) (slice_get d.world.heap.structures m) put in (
        (within d.world.heap.structures m x e, tt, tt),
        (λ y valid stands. (same y valid).1 (of-atom x.mutable x.atom mutable atom y (of-some (λ z. StructureStands (code_types code) d.world.heap z.mutable z.atom m y) (slice_get d.world.heap.structures m) x e stands))),
      )
    where
      of-atom : (b : Bool) (o : Option ℕ) → IsTrue b → o ≡ Some (node f) → (y : Shape) → StructureStands (code_types code) d.world.heap b o m y → In code.atoms y (Atom (node f))
      of-atom false o is e y h = absurd (let q : ⊥ = cc in q)
      of-atom true o is e y h = of-some (λ a. In code.atoms y (Atom a)) o (node f) e h.1

  pub value-in : (u : Ty) (f : Filler) (v : Value) → HasOne code.atoms u → Fills code.atoms u f → IsValueOf d.world.heap.structures f v → IsIn v u
  value-in u Nothing v one fills is = absurd is
  value-in u NilFiller v one (n, w) is =
      let inside = simple-of n u NilFiller w (λ e. let q : ⊥ = cc in q) in
      subst (λ v. IsIn v u) (sym is) ((tt, tt, tt), (λ y valid stands. subst (λ z. In code.atoms z u.sem) (sym (its-shape code d NilConstant y stands)) inside))
  value-in u (BoolFiller b) v one (n, w) is = subst (λ v. IsIn v u) (sym is) (truth-in u b (simple-of n u (BoolFiller b) w (λ e. let q : ⊥ = cc in q)))
  value-in u (IntFiller i) v one (n, w) is = subst (λ v. IsIn v u) (sym is) (int-in u i one (simple-of n u (IntFiller i) w (λ e. let q : ⊥ = cc in q)))
  value-in u (StrFiller s) v one (n, w) is = subst (λ v. IsIn v u) (sym is) (text-in u s one (simple-of n u (StrFiller s) w (λ e. let q : ⊥ = cc in q)))
  value-in u (NewList a) v one (n, w) (m, is, put) = subst (λ v. IsIn v u) (sym is) (put-in u (NewList a) m (list-shapes n u a w) put)
  value-in u (NewMapping a) v one (n, w) (m, is, put) = subst (λ v. IsIn v u) (sym is) (put-in u (NewMapping a) m (mapping-shapes n u a w) put)

-- ---- structures of fillers

module _ (inside : ℕ → List Filler) where
  abbrev pub inner : Filler → List Filler
  inner f = new_ones (inner_fillers inside f)

  -- the structure of a filler, where those inside it are numbered from one on
  abbrev pub built : Filler → ℕ → Structure
  built (NewList a) p = new_structure (Some a) true (Items (filler_values p (inside a)))
  built (NewMapping a) p = new_structure (Some a) true (Entries [])
  built Nothing p = new_structure None false (Entries [])
  built NilFiller p = new_structure None false (Entries [])
  built (BoolFiller b) p = new_structure None false (Entries [])
  built (IntFiller i) p = new_structure None false (Entries [])
  built (StrFiller s) p = new_structure None false (Entries [])

  -- how many stand inside those before the place
  abbrev pub offset : ℕ → List Filler → ℕ
  offset zero fs = 0
  offset (suc m) [] = 0
  offset (suc m) (f ∷ fs) = length (inner f) + offset m fs

  one-more : (next : ℕ) (f : Filler) (fs : List Filler) → IsNew f → filler_structures inside next (f ∷ fs) ≡ built f next ∷ filler_structures inside (next + length (inner f)) fs
  one-more next (NewList a) fs is = refl
  one-more next (NewMapping a) fs is = ap (λ n. new_structure (Some a) true (Entries []) ∷ filler_structures inside n fs) (let q : next ≡ next + 0 = omega arith in q)
  one-more next Nothing fs is = absurd (let q : ⊥ = cc in q)
  one-more next NilFiller fs is = absurd (let q : ⊥ = cc in q)
  one-more next (BoolFiller b) fs is = absurd (let q : ⊥ = cc in q)
  one-more next (IntFiller i) fs is = absurd (let q : ⊥ = cc in q)
  one-more next (StrFiller s) fs is = absurd (let q : ⊥ = cc in q)

  pub as-many : (next : ℕ) (fs : List Filler) → All IsNew fs → length (filler_structures inside next fs) ≡ length fs
  as-many next [] new = refl
  as-many next (f ∷ fs) new = ap length (one-more next f fs (All-head IsNew f fs new)) ∙ ap suc (as-many (next + length (inner f)) fs (All-tail IsNew f fs new))

  pub built-at : (next : ℕ) (fs : List Filler) → All IsNew fs → (m : ℕ) (f : Filler) → slice_get fs m ≡ Some f → slice_get (filler_structures inside next fs) m ≡ Some (built f (next + offset m fs))
  built-at next [] new m f e = absurd (let q : ⊥ = cc in q)
  built-at next (g ∷ fs) new zero f e =
      let same : g ≡ f = some-same g f e in
      ap (λ ss. slice_get ss 0) (one-more next g fs (All-head IsNew g fs new)) ∙ (ap (λ h. Some (built h next)) same ∙ ap (λ n. Some (built f n)) (let q : next ≡ next + 0 = omega arith in q))
  built-at next (g ∷ fs) new (suc m) f e =
      ap (λ ss. slice_get ss (suc m)) (one-more next g fs (All-head IsNew g fs new))
      ∙ (built-at (next + length (inner g)) fs (All-tail IsNew g fs new) m f e ∙ ap (λ n. Some (built f n)) (let q : next + length (inner g) + offset m fs ≡ next + (length (inner g) + offset m fs) = omega arith in q))

  -- those inside one stand in the list of all that stand inside
  pub inside-at : (fs : List Filler) (m : ℕ) (f : Filler) → slice_get fs m ≡ Some f → (i : ℕ) (g : Filler) → slice_get (inner f) i ≡ Some g → slice_get (flat_map inner fs) (offset m fs + i) ≡ Some g
  inside-at [] m f e i g eg = absurd (let q : ⊥ = cc in q)
  inside-at (h ∷ fs) zero f e i g eg =
      get-front (inner h) (flat_map inner fs) (0 + i) g (subst (λ n. slice_get (inner h) n ≡ Some g) (let q : i ≡ 0 + i = omega arith in q) (subst (λ k. slice_get (inner k) i ≡ Some g) (sym (some-same h f e)) eg))
  inside-at (h ∷ fs) (suc m) f e i g eg =
      subst (λ n. slice_get (inner h ++ flat_map inner fs) n ≡ Some g) (let q : length (inner h) + (offset m fs + i) ≡ length (inner h) + offset m fs + i = omega arith in q)
      (get-behind (inner h) (flat_map inner fs) (offset m fs + i) g (inside-at fs m f e i g eg))
