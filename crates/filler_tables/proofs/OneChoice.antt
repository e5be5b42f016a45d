-- Candidates of types with one constructor choice, and of others.
use Rattle.std.proofs.Common.{◌≡◌, ◌↔◌, ◌∙◌, ℕ, zero, suc, List, [], ◌∷◌, inl, inr, refl, sym, subst, ap}
use Rattle.bal_base.specs.declared.shape.Shape.{Shape}
use Rattle.type_model.specs.declared.atoms.AtomDef.{AtomDef}
use Rattle.type_model.specs.declared.basic.Choice.{Choice}
use Rattle.type_model.specs.declared.basic.SemType.{Atom}
use Rattle.type_model.specs.declared.basic.Ty.{Ty}
use Rattle.type_model.specs.Inclusion.{HaveSameShapes, IsShapeOf}
use Rattle.type_model.specs.Membership.{In}
use Rattle.type_model.proofs.SameTypes.{In-same}
use Rattle.value_model.specs.declared.filler.Filler.{Filler}
use Rattle.value_model.specs.declared.filler.Filler.TheVariants.{Nothing, Nil, Bool as Truth, Int, Str, List as NewList, Mapping as NewMapping}
use Rattle.value_model.specs.Exact.{IsFiller, IsOfAtom, IsSimpleFiller}
use Rattle.list_fillers.specs.declared.candidate.Candidate.{Candidate}
use Rattle.list_fillers.specs.declared.candidate.Candidate.TheVariants.{OfList, Settled, Without}
use Rattle.list_fillers.specs.Candidates.{IsCandidate}
use Rattle.filler_tables.specs.declared.places.Made.{Made}
use Rattle.filler_tables.specs.declared.places.Made.TheVariants.{List as MadeList, Mapping as MadeMapping, Otherwise}
use Rattle.filler_tables.specs.declared.places.Place.{Place}
use Rattle.filler_tables.specs.declared.simple.Simple.TheVariants.{Filled, Shapeless, Unfilled}
use Rattle.filler_tables.specs.Asked.{IsPlaceOf, made_of}
use Rattle.filler_tables.specs.inner.Telling.{IsCandidateAt, IsList, IsMade, IsMapping, IsSimple, LacksRequired}
use Rattle.filler_tables.proofs.Alike.{empty-on, shapes-on, simple-on}
use Rattle.filler_tables.proofs.SimpleShapes.{empty-none}

-- the one choice, and none of the other list
abbrev pub IsOne : List Choice → List Choice → ℕ → Type 0
IsOne own other a = ((c : Choice) × (own ≡ c ∷ []) × (c.atom ≡ a)) × (other ≡ [])

none-is-one : (c : Choice) → [] ≡ c ∷ [] → ⊥
none-is-one c e = cc

two-are-one : (c d x : Choice) (ds : List Choice) → c ∷ d ∷ ds ≡ x ∷ [] → ⊥
two-are-one c d x ds e = cc

some-are-none : (c : Choice) (cs : List Choice) → c ∷ cs ≡ [] → ⊥
some-are-none c cs e = cc

pub list-one : (a : ℕ) (ls ms : List Choice) → MadeList a ≡ made_of ls ms → IsOne ls ms a
list-one a [] [] e = absurd (let bad : ⊥ = cc in bad)
list-one a [] (c ∷ []) e = absurd (let bad : ⊥ = cc in bad)
list-one a [] (c ∷ d ∷ ds) e = absurd (let bad : ⊥ = cc in bad)
list-one a (c ∷ []) [] e = let same : a ≡ c.atom = cc in ((c, refl, sym same), refl)
list-one a (c ∷ []) (d ∷ ds) e = absurd (let bad : ⊥ = cc in bad)
list-one a (c ∷ d ∷ ds) ms e = absurd (let bad : ⊥ = cc in bad)

pub mapping-one : (a : ℕ) (ls ms : List Choice) → MadeMapping a ≡ made_of ls ms → IsOne ms ls a
mapping-one a [] [] e = absurd (let bad : ⊥ = cc in bad)
mapping-one a [] (c ∷ []) e = let same : a ≡ c.atom = cc in ((c, refl, sym same), refl)
mapping-one a [] (c ∷ d ∷ ds) e = absurd (let bad : ⊥ = cc in bad)
mapping-one a (c ∷ []) [] e = absurd (let bad : ⊥ = cc in bad)
mapping-one a (c ∷ []) (d ∷ ds) e = absurd (let bad : ⊥ = cc in bad)
mapping-one a (c ∷ d ∷ ds) ms e = absurd (let bad : ⊥ = cc in bad)

pub otherwise-none : (ls ms : List Choice) → Otherwise ≡ made_of ls ms → (a : ℕ) → (¬ IsOne ls ms a) × (¬ IsOne ms ls a)
otherwise-none [] [] e a = ((λ h. none-is-one h.0.0 h.0.1), (λ h. none-is-one h.0.0 h.0.1))
otherwise-none [] (c ∷ []) e a = absurd (let bad : ⊥ = cc in bad)
otherwise-none [] (c ∷ d ∷ ds) e a = ((λ h. none-is-one h.0.0 h.0.1), (λ h. two-are-one c d h.0.0 ds h.0.1))
otherwise-none (c ∷ []) [] e a = absurd (let bad : ⊥ = cc in bad)
otherwise-none (c ∷ []) (d ∷ ds) e a = ((λ h. some-are-none d ds h.1), (λ h. some-are-none c [] h.1))
otherwise-none (c ∷ d ∷ ds) ms e a = ((λ h. two-are-one c d h.0.0 ds h.0.1), (λ h. some-are-none c (d ∷ ds) h.1))

same-one : (own other own' other' : List Choice) (a b : ℕ) → own ≡ own' → IsOne own other a → IsOne own' other' b → a ≡ b
same-one own other own' other' a b e ((c, f, g), none) ((x, h, k), none') =
    let both : c ∷ [] ≡ x ∷ [] = sym f ∙ e ∙ h in
    let same : c ≡ x = cc in
    sym g ∙ ap (λ (z : Choice). z.atom) same ∙ k

not-both : (own other : List Choice) (a b : ℕ) → IsOne own other a → IsOne other own b → ⊥
not-both own other a b ((c, f, g), none) ((x, h, k), none') = none-is-one c (sym none' ∙ f)

module _ (env : List AtomDef) (t : Ty) where
  -- the choice of which a type is
  one-of : (own other : List Choice) (a : ℕ) → IsOfAtom env t own other a → IsOne own other a
  one-of own other a (some, one, none, same) = (one, none)

  same-of : (own other : List Choice) (a : ℕ) → IsOfAtom env t own other a → HaveSameShapes env t.sem (Atom a)
  same-of own other a (some, one, none, same) = same

  of-atom : (own other : List Choice) (a : ℕ) → (x : Shape) × IsShapeOf env t.sem x → IsOne own other a → HaveSameShapes env t.sem (Atom a) → IsOfAtom env t own other a
  of-atom own other a some one same = (some, one.0, one.1, same)

  without : ((f : Filler) → ¬ IsSimpleFiller env t.sem f) → ((a : ℕ) → ¬ IsOfAtom env t t.lists t.maps a) → ((a : ℕ) → IsOfAtom env t t.maps t.lists a → LacksRequired env a → ⊥) → (f : Filler) → ¬ IsFiller env t f
  without none lists maps f (zero, w) = none f w
  without none lists maps f (suc n, inl w) = none f w
  without none lists maps (NewList a) (suc n, inr w) = lists a w.0
  without none lists maps (NewMapping a) (suc n, inr w) = maps a w.0 w.1
  without none lists maps Nothing (suc n, inr w) = w
  without none lists maps Nil (suc n, inr w) = w
  without none lists maps (Truth b) (suc n, inr w) = w
  without none lists maps (Int i) (suc n, inr w) = w
  without none lists maps (Str s) (suc n, inr w) = w

  module _ (none : (f : Filler) → ¬ IsSimpleFiller env t.sem f) (some : (x : Shape) × IsShapeOf env t.sem x) where
    of-list : (a : ℕ) → IsOne t.lists t.maps a → (c : Candidate) → IsList env t.sem a c → IsCandidate env t c
    of-list a one (OfList b) (e, same) = subst (λ (k : ℕ). IsCandidate env t (OfList k)) (sym e) (none, of-atom t.lists t.maps a some one same)
    of-list a one Without differs =
        without none
        (λ b of. differs (subst (λ (k : ℕ). HaveSameShapes env t.sem (Atom k)) (same-one t.lists t.maps t.lists t.maps b a refl (one-of t.lists t.maps b of) one) (same-of t.lists t.maps b of)))
        (λ b of lacks. not-both t.lists t.maps a b one (one-of t.maps t.lists b of))
    of-list a one (Settled f) h = absurd h

    of-mapping : (a : ℕ) → IsOne t.maps t.lists a → (c : Candidate) → IsMapping env t.sem a c → IsCandidate env t c
    of-mapping a one (Settled f) (e, same, lacks) = subst (λ (g : Filler). IsFiller env t g) (sym e) (1, inr (of-atom t.maps t.lists a some one same, lacks))
    of-mapping a one Without differs =
        without none (λ b of. not-both t.maps t.lists a b one (one-of t.lists t.maps b of))
        (λ b of lacks.
        let e = same-one t.maps t.lists t.maps t.lists b a refl (one-of t.maps t.lists b of) one in
        differs (subst (λ (k : ℕ). HaveSameShapes env t.sem (Atom k)) e (same-of t.maps t.lists b of), subst (λ (k : ℕ). LacksRequired env k) e lacks))
    of-mapping a one (OfList b) h = absurd h

    of-none : ((a : ℕ) → (¬ IsOne t.lists t.maps a) × (¬ IsOne t.maps t.lists a)) → (c : Candidate) → c ≡ Without → IsCandidate env t c
    of-none absent c e =
        subst (IsCandidate env t) (sym e)
        (without none (λ b of. (absent b).0 (one-of t.lists t.maps b of)) (λ b of lacks. (absent b).1 (one-of t.maps t.lists b of)))

-- ---- of each type of which this is a place

module _ (env : List AtomDef) (p : Place) where
  module _ (t : Ty) (is : IsPlaceOf t p) where
    forth : (x : Shape) → In env x p.sem ↔ In env x t.sem
    forth x = let h = In-same env x t.sem p.sem is.0 in (h.1, h.0)

    back : (x : Shape) → In env x t.sem ↔ In env x p.sem
    back x = In-same env x t.sem p.sem is.0

    none-on : ((f : Filler) → ¬ IsSimpleFiller env p.sem f) → (f : Filler) → ¬ IsSimpleFiller env t.sem f
    none-on none f h = none f (simple-on env t.sem p.sem back f h)

    some-on : (x : Shape) × IsShapeOf env p.sem x → (x : Shape) × IsShapeOf env t.sem x
    some-on (x, (v, i)) = (x, (v, (forth x).0 i))

    list-on : (a : ℕ) (c : Candidate) → IsList env p.sem a c → IsList env t.sem a c
    list-on a (OfList b) (e, same) = (e, shapes-on env p.sem t.sem forth (Atom a) same)
    list-on a Without differs = λ same. differs (shapes-on env t.sem p.sem back (Atom a) same)
    list-on a (Settled f) h = h

    mapping-on : (a : ℕ) (c : Candidate) → IsMapping env p.sem a c → IsMapping env t.sem a c
    mapping-on a (Settled f) (e, same, lacks) = (e, shapes-on env p.sem t.sem forth (Atom a) same, lacks)
    mapping-on a Without differs = λ h. differs (shapes-on env t.sem p.sem back (Atom a) h.0, h.1)
    mapping-on a (OfList b) h = h

    made-on : (m : Made) → m ≡ made_of t.lists t.maps → IsSimple env p.sem Unfilled → (c : Candidate) → IsMade env p.sem m c → IsCandidate env t c
    made-on (MadeList a) e (none, some) c h = of-list env t (none-on none) (some-on some) a (list-one a t.lists t.maps e) c (list-on a c h)
    made-on (MadeMapping a) e (none, some) c h = of-mapping env t (none-on none) (some-on some) a (mapping-one a t.lists t.maps e) c (mapping-on a c h)
    made-on Otherwise e (none, some) c h = of-none env t (none-on none) (some-on some) (otherwise-none t.lists t.maps e) c h

  pub filled-at : (f : Filler) → IsSimple env p.sem (Filled f) → IsCandidateAt env p (Settled f)
  filled-at f h t is = (0, simple-on env p.sem t.sem (forth t is) f h)

  pub made-at : IsSimple env p.sem Unfilled → (c : Candidate) → IsMade env p.sem p.made c → IsCandidateAt env p c
  made-at simple c h t is = made-on t is p.made is.1 simple c h

  pub shapeless-at : IsSimple env p.sem Shapeless → IsCandidateAt env p Without
  shapeless-at empty t is =
      let none = empty-on env p.sem t.sem (forth t is) empty in
      without env t (empty-none env t.sem none) (λ a of. none of.0.0 of.0.1.0 of.0.1.1) (λ a of lacks. none of.0.0 of.0.1.0 of.0.1.1)
