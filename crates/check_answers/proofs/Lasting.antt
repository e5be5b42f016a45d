-- What corresponds over the atoms of two runs whatever stands behind them, and checks that add atoms one behind another.
use Rattle.std.proofs.Common.{◌≡◌, ◌⊎◌, ◌++◌, ◌+◌, ◌<◌, ◌≤◌, ℕ, [], ◌∷◌, Option, Ok, length, length-append, slice_get, Some, inl, inr, arith, refl, sym, subst, ap, ◌∙◌}
use Rattle.std.proofs.lemmas.List.{append-nil, append_assoc}
use Rattle.std.specs.List.{AllZip}
use Rattle.bal_base.specs.declared.fault.Fault.{Fault}
use Rattle.bal_base.specs.declared.fault.FaultCode.{FaultCode}
use Rattle.bal_base.specs.declared.fault.FaultCode.TheVariants.{AtomLimit as TooManyAtoms}
use Rattle.bal_base.specs.declared.fault.Kept.TheVariants.{Nothing}
use Rattle.bal_base.specs.declared.limits.TheConstants.{MOST_ATOMS}
use Rattle.bal_base.specs.declared.place.Place.{Place}
use Rattle.checks.specs.Agreement.{Alike, AreTwins, IsLimit, SameFault}
use Rattle.checks.specs.Checks.{Check, Gives, Outcome, Refuses, gives_some, refuses, ◌▷◌}
use Rattle.checks.specs.Questions.{IsFault, adds}
use Rattle.descriptors.specs.declared.names.Names.{Names}
use Rattle.descriptors.specs.declared.names.Scope.{Scope}
use Rattle.descriptors.specs.Described.{by_now, new_atom}
use Rattle.descriptors.specs.Naming.{type_named}
use Rattle.bal_tree.specs.declared.name.QualifiedName.{QualifiedName}
use Rattle.type_model.specs.declared.atoms.AtomDef.{AtomDef}
use Rattle.type_model.specs.declared.basic.SemType.{Atom}
use Rattle.type_model.specs.declared.basic.Ty.{Ty}
use Rattle.check_words.specs.Words.{Atoms}
use Rattle.check_answers.specs.TwinTypes.{TwinAtoms, TwinDefs, TwinTypes}
use Rattle.check_answers.proofs.Made.{get-behind, some-fits}
use Rattle.check_answers.proofs.Zips.{zip-append, zip-long}

-- ---- what lasts

-- twins, whatever stands behind the atoms
abbrev pub Lasting : Atoms → Atoms → Ty → Ty → Type 0
Lasting k l s t = (more others : Atoms) → TwinTypes (k ++ more) (l ++ others) s t

abbrev pub LastingDefs : Atoms → Atoms → AtomDef → AtomDef → Type 0
LastingDefs k l d e = (more others : Atoms) → TwinDefs (k ++ more) (l ++ others) d e

-- what is so whatever stands behind is so where these atoms stand behind
pub lasts : (P : Atoms → Atoms → Type 0) (k l k2 l2 d e : Atoms) → k2 ≡ k ++ d → l2 ≡ l ++ e → ((more others : Atoms) → P (k ++ more) (l ++ others))
    → (more others : Atoms) → P (k2 ++ more) (l2 ++ others)
lasts P k l k2 l2 d e first second h more others =
    subst (λ i. P i (l2 ++ others)) (sym (ap (λ x. x ++ more) first ∙ append_assoc k d more))
    (subst (P (k ++ (d ++ more))) (sym (ap (λ x. x ++ others) second ∙ append_assoc l e others)) (h (d ++ more) (e ++ others)))

-- what is so whatever stands behind is so now
pub now-so : (P : Atoms → Atoms → Type 0) (k l : Atoms) → ((more others : Atoms) → P (k ++ more) (l ++ others)) → P k l
now-so P k l h = subst (λ i. P i l) (append-nil k) (subst (P (k ++ [])) (append-nil l) (h [] []))

module _ (names : Names) where
  -- the atoms are twins, and each type that a name stands for is its own, whatever stands behind
  pub record Fine (k l : Atoms) : Type 0 where
    pub defs : (more others : Atoms) → AllZip (TwinDefs (k ++ more) (l ++ others)) k l
    pub named : (scope : Scope) (q : QualifiedName) (t : Ty) → type_named names scope q ≡ Ok t → Lasting k l t t

  pub fine-twins : (k l : Atoms) → Fine k l → TwinAtoms k l
  fine-twins k l h = now-so (λ i j. AllZip (TwinDefs i j) k l) k l h.defs

  pub fine-long : (k l : Atoms) → Fine k l → length k ≡ length l
  fine-long k l h = zip-long (TwinDefs k l) k l (fine-twins k l h)

  -- these atoms stand behind those, and are as fine
  pub record From (k l k2 l2 : Atoms) : Type 0 where
    pub more : Atoms
    pub others : Atoms
    pub first : k2 ≡ k ++ more
    pub second : l2 ≡ l ++ others
    pub fine : Fine k2 l2

  pub from-same : (k l : Atoms) → Fine k l → From k l k l
  from-same k l h = record { more = []; others = []; first = sym (append-nil k); second = sym (append-nil l); fine = h }

  pub from-then : (k l k1 l1 k2 l2 : Atoms) → From k l k1 l1 → From k1 l1 k2 l2 → From k l k2 l2
  from-then k l k1 l1 k2 l2 f g =
      record {
        more = f.more ++ g.more;
        others = f.others ++ g.others;
        first = g.first ∙ ap (λ x. x ++ g.more) f.first ∙ append_assoc k f.more g.more;
        second = g.second ∙ ap (λ x. x ++ g.others) f.second ∙ append_assoc l f.others g.others;
        fine = g.fine;
      }

  -- what lasts goes on
  pub moved : (P : Atoms → Atoms → Type 0) (k l k2 l2 : Atoms) → From k l k2 l2 → ((more others : Atoms) → P (k ++ more) (l ++ others))
      → (more others : Atoms) → P (k2 ++ more) (l2 ++ others)
  moved P k l k2 l2 f h = lasts P k l k2 l2 f.more f.others f.first f.second h

  pub moved-type : (k l k2 l2 : Atoms) → From k l k2 l2 → (s t : Ty) → Lasting k l s t → Lasting k2 l2 s t
  moved-type k l k2 l2 f s t h = moved (λ i j. TwinTypes i j s t) k l k2 l2 f h

  -- ---- an atom more

  -- a number that is one in both, and means the same whatever stands behind
  abbrev pub SameAtom : Atoms → Atoms → ℕ → ℕ → Type 0
  SameAtom k l a b = (b ≡ a) × ((more others : Atoms) → AreTwins (k ++ more) (Atom a) (l ++ others) (Atom b))

  module _ (k l : Atoms) (fine : Fine k l) (d e : AtomDef) (same : LastingDefs k l d e) where
    abbrev K : Atoms
    K = k ++ d ∷ []

    abbrev L : Atoms
    L = l ++ e ∷ []

    def-there : LastingDefs K L d e
    def-there = lasts (λ i j. TwinDefs i j d e) k l K L (d ∷ []) (e ∷ []) refl refl same

    added-fine : Fine K L
    added-fine =
        record {
          defs = λ more others. zip-append (TwinDefs (K ++ more) (L ++ others)) k (d ∷ []) l (e ∷ [])
              (lasts (λ i j. AllZip (TwinDefs i j) k l) k l K L (d ∷ []) (e ∷ []) refl refl fine.defs more others) (def-there more others, tt);
          named = λ scope q t is. lasts (λ i j. TwinTypes i j t t) k l K L (d ∷ []) (e ∷ []) refl refl (fine.named scope q t is);
        }

    at-place : (xs : Atoms) (x : AtomDef) (more : Atoms) → slice_get ((xs ++ x ∷ []) ++ more) (length xs) ≡ Some x
    at-place xs x more = subst (λ i. slice_get i (length xs) ≡ Some x) (sym (append_assoc xs (x ∷ []) more)) (get-behind xs more x)

    added-twins : (more others : Atoms) → AreTwins (K ++ more) (Atom (length k)) (L ++ others) (Atom (length l))
    added-twins more others x valid = some-fits (K ++ more) (L ++ others) _ _ d e x valid (at-place k d more) (at-place l e others) (def-there more others)

    added-from : From k l K L
    added-from = record { more = d ∷ []; others = e ∷ []; first = refl; second = refl; fine = added-fine }

    pub added : (k2 l2 : Atoms) (a b : ℕ) → k2 ≡ K → l2 ≡ L → a ≡ length k → b ≡ length l → From k l k2 l2 × SameAtom k2 l2 a b
    added k2 l2 a b x y f g =
        let long : b ≡ a = g ∙ sym (fine-long k l fine) ∙ sym f in
        subst (λ i. From k l i l2 × SameAtom i l2 a b) (sym x)
        (subst (λ j. From k l K j × SameAtom K j a b) (sym y) (
          added-from,
          (
            long,
            λ more others. subst (λ i. AreTwins (K ++ more) (Atom i) (L ++ others) (Atom b)) (sym f)
                (subst (λ j. AreTwins (K ++ more) (Atom (length k)) (L ++ others) (Atom j)) (sym g) (added-twins more others)),
          ),
        ))

  -- ---- two runs of a check that adds atoms

  abbrev IsTooMany : Fault → Type 0
  IsTooMany f = f.code ≡ TooManyAtoms

  -- Both give what corresponds, or refuse with one fault, and their atoms go on together. Where only one of two was refused an atom, the other
  -- one has too many.
  abbrev pub Together : {A B : Type 0} → (Atoms → Atoms → A → B → Type 0) → Atoms → Atoms → Outcome A → Atoms → Outcome B → Atoms → Type 0
  Together Q k l (Gives a) k2 (Gives b) l2 = From k l k2 l2 × Q k2 l2 a b
  Together Q k l (Gives a) k2 (Refuses g) l2 = IsTooMany g × (MOST_ATOMS < length k2)
  Together Q k l (Refuses f) k2 (Gives b) l2 = IsTooMany f × (MOST_ATOMS < length l2)
  Together Q k l (Refuses f) k2 (Refuses g) l2 =
      (SameFault f g × From k l k2 l2) ⊎ ((IsTooMany f × (MOST_ATOMS < length l2)) ⊎ (IsTooMany g × (MOST_ATOMS < length k2)))

  abbrev pub Go : {A B : Type 0} → (Atoms → Atoms → A → B → Type 0) → Atoms → Atoms → Check Atoms A → Check Atoms B → Type 0
  Go {A} {B} Q k l c d = (o : Outcome A) (p : Outcome B) (k2 l2 : Atoms) → c k o k2 → d l p l2 → Together Q k l o k2 p l2

  -- no atom is taken away
  abbrev pub Grows : {A : Type 0} → Check Atoms A → Type 0
  Grows {A} c = (k : Atoms) (o : Outcome A) (k2 : Atoms) → c k o k2 → length k ≤ length k2

  module _ {A : Type 0} where
    pub grows-some : (P : Atoms → A → Type 0) → Grows (gives_some P)
    unfolding gives_some
    grows-some P k (Gives a) k2 x = let e : length k2 ≡ length k = ap length x.1 in omega (arith, e)
    grows-some P k (Refuses f) k2 x = absurd x

    pub grows-refuses : (P : Atoms → Fault → Type 0) → Grows (refuses {A = A} P)
    unfolding refuses
    grows-refuses P k (Gives a) k2 x = absurd x
    grows-refuses P k (Refuses f) k2 x = let e : length k2 ≡ length k = ap length x.1 in omega (arith, e)

  pub grows-atom : (d : AtomDef) (at : Place) → Grows (new_atom d at)
  unfolding adds
  grows-atom d at k (Gives a) k2 (ds, p, x, i) = let e : length k2 ≡ length k + length ds = ap length i ∙ length-append k ds in omega (arith, e)
  grows-atom d at k (Refuses f) k2 (ds, p, full, x, i) = let e : length k2 ≡ length k = ap length i in omega (arith, e)

  module _ {A B : Type 0} where
    pub grows-then : (c : Check Atoms A) (next : A → Check Atoms B) → Grows c → ((a : A) → Grows (next a)) → Grows (c ▷ next)
    unfolding ◌▷◌
    grows-then c next f g k (Gives b) k2 (a, k1, x, y) = let i = f k (Gives a) k1 x in let j = g a k1 (Gives b) k2 y in omega (arith, i, j)
    grows-then c next f g k (Refuses e) k2 (inl x) = f k (Refuses e) k2 x
    grows-then c next f g k (Refuses e) k2 (inr (a, k1, x, y)) = let i = f k (Gives a) k1 x in let j = g a k1 (Refuses e) k2 y in omega (arith, i, j)

  module _ {A B : Type 0} (Q : Atoms → Atoms → A → B → Type 0) where
    -- from further behind
    wider : (k l k1 l1 : Atoms) → From k l k1 l1 → (o : Outcome A) (p : Outcome B) (k2 l2 : Atoms) → Together Q k1 l1 o k2 p l2 → Together Q k l o k2 p l2
    wider k l k1 l1 f (Gives a) (Gives b) k2 l2 h = (from-then k l k1 l1 k2 l2 f h.0, h.1)
    wider k l k1 l1 f (Gives a) (Refuses g) k2 l2 h = h
    wider k l k1 l1 f (Refuses e) (Gives b) k2 l2 h = h
    wider k l k1 l1 f (Refuses e) (Refuses g) k2 l2 (inl h) = inl (h.0, from-then k l k1 l1 k2 l2 f h.1)
    wider k l k1 l1 f (Refuses e) (Refuses g) k2 l2 (inr h) = inr h

    pub go-some : (k l : Atoms) → Fine k l → (P : Atoms → A → Type 0) (R : Atoms → B → Type 0) → ((a : A) (b : B) → P k a → R l b → Q k l a b)
        → Go Q k l (gives_some P) (gives_some R)
    unfolding gives_some
    go-some k l fine P R f (Gives a) (Gives b) k2 l2 x y =
        subst (λ i. From k l i l2 × Q i l2 a b) (sym x.1) (subst (λ j. From k l k j × Q k j a b) (sym y.1) (from-same k l fine, f a b x.0 y.0))
    go-some k l fine P R f (Gives a) (Refuses g) k2 l2 x y = absurd y
    go-some k l fine P R f (Refuses e) p k2 l2 x y = absurd x

    -- what holds whatever stands behind
    pub go-now : (k l : Atoms) → Fine k l → (P : Atoms → A → Type 0) (R : Atoms → B → Type 0)
        → ((a : A) (b : B) → ((more : Atoms) → P (k ++ more) a) → ((others : Atoms) → R (l ++ others) b) → Q k l a b) → Go Q k l (by_now A P) (by_now B R)
    go-now k l fine P R f = go-some k l fine _ _ f

    pub go-refused : (k l : Atoms) → Fine k l → (code : FaultCode) (at : Option Place)
        → Go Q k l (refuses (λ s f. IsFault code at Nothing f)) (refuses (λ s f. IsFault code at Nothing f))
    unfolding refuses
    go-refused k l fine code at (Gives a) p k2 l2 x y = absurd x
    go-refused k l fine code at (Refuses f) (Gives b) k2 l2 x y = absurd y
    go-refused k l fine code at (Refuses f) (Refuses g) k2 l2 x y =
        inl (
          record { code = x.0.has_code ∙ sym y.0.has_code; at = x.0.stands ∙ sym y.0.stands },
          subst (λ i. From k l i l2) (sym x.1) (subst (From k l k) (sym y.1) (from-same k l fine)),
        )

  -- an atom more in both
  too-many : (k l k2 : Atoms) (d e : AtomDef) (ds es : Atoms) → length k ≡ length l → ds ≡ d ∷ [] → es ≡ e ∷ [] → k2 ≡ k ++ ds → MOST_ATOMS < length l + length es
      → MOST_ATOMS < length k2
  too-many k l k2 d e ds es long p q i full =
      let m : length k2 ≡ length k + length ds = ap length i ∙ length-append k ds in
      let n : length ds ≡ 1 = ap length p in
      let o : length es ≡ 1 = ap length q in omega (arith, long, m, n, o, full)

  pub go-atom : (k l : Atoms) → Fine k l → (d e : AtomDef) (at : Place) → LastingDefs k l d e → Go SameAtom k l (new_atom d at) (new_atom e at)
  unfolding adds
  go-atom k l fine d e at same (Gives a) (Gives b) k2 l2 (ds, p, x, i) (es, q, y, j) =
      added k l fine d e same k2 l2 a b (i ∙ ap (λ z. k ++ z) p) (j ∙ ap (λ z. l ++ z) q) x y
  go-atom k l fine d e at same (Gives a) (Refuses g) k2 l2 (ds, p, x, i) (es, q, full, y, j) =
      (y.has_code, too-many k l k2 d e ds es (fine-long k l fine) p q i full)
  go-atom k l fine d e at same (Refuses f) (Gives b) k2 l2 (ds, p, full, x, i) (es, q, y, j) =
      (x.has_code, too-many l k l2 e d es ds (sym (fine-long k l fine)) q p j full)
  go-atom k l fine d e at same (Refuses f) (Refuses g) k2 l2 (ds, p, full, x, i) (es, q, more, y, j) =
      inl (
        record { code = x.has_code ∙ sym y.has_code; at = x.stands ∙ sym y.stands },
        subst (λ z. From k l z l2) (sym i) (subst (From k l k) (sym j) (from-same k l fine)),
      )

  -- one check first, and then what follows
  module _ {A B C D : Type 0} (Q : Atoms → Atoms → A → B → Type 0) (O : Atoms → Atoms → C → D → Type 0) where
    pub go-then : (k l : Atoms) (c : Check Atoms A) (d : Check Atoms B) (next : A → Check Atoms C) (other : B → Check Atoms D) → Go Q k l c d
        → ((a : A) → Grows (next a)) → ((b : B) → Grows (other b))
        → ((a : A) (b : B) (k1 l1 : Atoms) → From k l k1 l1 → Q k1 l1 a b → Go O k1 l1 (next a) (other b)) → Go O k l (c ▷ next) (d ▷ other)
    unfolding ◌▷◌
    go-then k l c d next other h g1 g2 f (Gives u) (Gives v) k2 l2 (a, k1, x, y) (b, l1, z, w) =
        let r = h (Gives a) (Gives b) k1 l1 x z in wider O k l k1 l1 r.0 (Gives u) (Gives v) k2 l2 (f a b k1 l1 r.0 r.1 (Gives u) (Gives v) k2 l2 y w)
    go-then k l c d next other h g1 g2 f (Gives u) (Refuses g) k2 l2 (a, k1, x, y) (inl z) =
        let r = h (Gives a) (Refuses g) k1 l2 x z in let i = g1 a k1 (Gives u) k2 y in let j = r.1 in (r.0, omega (arith, i, j))
    go-then k l c d next other h g1 g2 f (Gives u) (Refuses g) k2 l2 (a, k1, x, y) (inr (b, l1, z, w)) =
        let r = h (Gives a) (Gives b) k1 l1 x z in wider O k l k1 l1 r.0 (Gives u) (Refuses g) k2 l2 (f a b k1 l1 r.0 r.1 (Gives u) (Refuses g) k2 l2 y w)
    go-then k l c d next other h g1 g2 f (Refuses e) (Gives v) k2 l2 (inl x) (b, l1, z, w) =
        let r = h (Refuses e) (Gives b) k2 l1 x z in let i = g2 b l1 (Gives v) l2 w in let j = r.1 in (r.0, omega (arith, i, j))
    go-then k l c d next other h g1 g2 f (Refuses e) (Gives v) k2 l2 (inr (a, k1, x, y)) (b, l1, z, w) =
        let r = h (Gives a) (Gives b) k1 l1 x z in wider O k l k1 l1 r.0 (Refuses e) (Gives v) k2 l2 (f a b k1 l1 r.0 r.1 (Refuses e) (Gives v) k2 l2 y w)
    go-then k l c d next other h g1 g2 f (Refuses e) (Refuses g) k2 l2 (inl x) (inl z) = h (Refuses e) (Refuses g) k2 l2 x z
    go-then k l c d next other h g1 g2 f (Refuses e) (Refuses g) k2 l2 (inl x) (inr (b, l1, z, w)) =
        let r = h (Refuses e) (Gives b) k2 l1 x z in let i = g2 b l1 (Refuses g) l2 w in let j = r.1 in inr (inl (r.0, omega (arith, i, j)))
    go-then k l c d next other h g1 g2 f (Refuses e) (Refuses g) k2 l2 (inr (a, k1, x, y)) (inl z) =
        let r = h (Gives a) (Refuses g) k1 l2 x z in let i = g1 a k1 (Refuses e) k2 y in let j = r.1 in inr (inr (r.0, omega (arith, i, j)))
    go-then k l c d next other h g1 g2 f (Refuses e) (Refuses g) k2 l2 (inr (a, k1, x, y)) (inr (b, l1, z, w)) =
        let r = h (Gives a) (Gives b) k1 l1 x z in wider O k l k1 l1 r.0 (Refuses e) (Refuses g) k2 l2 (f a b k1 l1 r.0 r.1 (Refuses e) (Refuses g) k2 l2 y w)

  -- what goes together agrees
  pub go-alike : {A B : Type 0} (Q : Atoms → Atoms → A → B → Type 0) (k l : Atoms) (c : Check Atoms A) (d : Check Atoms B) → Go Q k l c d
      → Alike (λ k2 a l2 b. From k l k2 l2 × Q k2 l2 a b) k l c d
  go-alike Q k l c d h (Gives a) (Gives b) k2 l2 x y = h (Gives a) (Gives b) k2 l2 x y
  go-alike Q k l c d h (Gives a) (Refuses g) k2 l2 x y = let r = h (Gives a) (Refuses g) k2 l2 x y in inr r.0
  go-alike Q k l c d h (Refuses f) (Gives b) k2 l2 x y = let r = h (Refuses f) (Gives b) k2 l2 x y in inr r.0
  go-alike Q k l c d h (Refuses f) (Refuses g) k2 l2 x y = one (h (Refuses f) (Refuses g) k2 l2 x y)
    where
      one : (SameFault f g × From k l k2 l2) ⊎ ((IsTooMany f × (MOST_ATOMS < length l2)) ⊎ (IsTooMany g × (MOST_ATOMS < length k2))) → IsLimit f ⊎ (IsLimit g ⊎ SameFault f g)
      one (inl r) = inr (inr r.0)
      one (inr (inl r)) = inl (inr r.0)
      one (inr (inr r)) = inr (inl (inr r.0))
