-- The parts that stand at the places of a product, where one place is made narrower.
use Rattle.std.proofs.Common.{◌≡◌, ⊎_elim, ℕ, zero, suc, ◌<◌, List, [], ◌∷◌, ◌++◌, length, All, Any, Bool, Option, Some, slice_get, refl, sym, subst, ap, ◌∙◌, arith}
use Rattle.std.proofs.Math.ListN.{set, length-set}
use Rattle.std.proofs.lemmas.Bool.{cases_eq}
use Rattle.std.proofs.lemmas.Option.{slice_get_within}
use Rattle.std.proofs.lemmas.List.Elements.{All-nil, All-cons, All-weaker}
use Rattle.bal_base.specs.declared.shape.Shape.{Shape}
use Rattle.type_model.specs.declared.atoms.AtomDef.{AtomDef}
use Rattle.type_diagrams.specs.Conditions.{Condition, AreOne, asks, without}
use Rattle.type_diagrams.proofs.Asking.{asks_first_unwanted, asks_itself, asks_one_less}
use Rattle.type_diagrams.proofs.Interning.{at_or_last}
use Rattle.type_diagrams.proofs.NodeTrees.{member_at}
use Rattle.type_diagrams.proofs.Shapes.{one-further}
use Rattle.empty_product.specs.Products.{AsksPart, Avoids, IsIn}
use Rattle.empty_product.specs.Slots.{Place, Asking, IsAt, AvoidsAt, IsAbsentAs, IsNarrower, condition_at}

-- ---- lists in which one is replaced

module _ {X : Type 0} where
  pub slice_get-set_same : (xs : List X) (i : ℕ) (y : X) → i < length xs → slice_get (set xs i y) i ≡ Some y
  slice_get-set_same [] i y lt = absurd (omega (arith, lt))
  slice_get-set_same (x ∷ xs) zero y lt = refl
  slice_get-set_same (x ∷ xs) (suc i) y lt = slice_get-set_same xs i y (omega (arith, lt))

  pub slice_get-set_other : (xs : List X) (i k : ℕ) (y : X) → (k ≡ i → ⊥) → slice_get (set xs i y) k ≡ slice_get xs k
  slice_get-set_other [] i k y ne = refl
  slice_get-set_other (x ∷ xs) zero zero y ne = absurd (ne refl)
  slice_get-set_other (x ∷ xs) zero (suc k) y ne = refl
  slice_get-set_other (x ∷ xs) (suc i) zero y ne = refl
  slice_get-set_other (x ∷ xs) (suc i) (suc k) y ne = slice_get-set_other xs i k y (λ e. ne (ap suc e))

  pub some_same : (x y : X) → Some x ≡ Some y → x ≡ y
  some_same x y e = cc

-- ---- the part at a place

module _ (env : List AtomDef) (places : List Place) (parts : List (Option Shape)) (is : IsIn env places parts) where
  pub part-at : (k : ℕ) (p : Place) → slice_get places k ≡ Some p → (x : Option Shape) × (slice_get parts k ≡ Some x) × IsAt env p x
  part-at k p at =
      let found = member_at parts k (omega (arith, is.length, slice_get_within places k p at)) in
      (found.0, found.1, is.each k p found.0 at found.1)

  -- where all that may stand at a place avoids what is asked there
  pub avoided-at : (askings : List Asking) (k : ℕ) (p : Place) (a : Asking) → slice_get places k ≡ Some p → slice_get askings k ≡ Some a → ((x : Option Shape) → IsAt env p x → AvoidsAt env a x) → Avoids env askings parts
  avoided-at askings k p a at asks_at outside =
      let found = part-at k p at in
      record { place = k; asking = a; part = found.0; asks = asks_at; stands = found.1; avoids = outside found.0 found.2 }

-- the parts that there are stand at the first places
abbrev pub StandFirst : List AtomDef → List Place → List (Option Shape) → Type 0
StandFirst env places parts = (k : ℕ) (p : Place) (x : Option Shape) → slice_get places k ≡ Some p → slice_get parts k ≡ Some x → IsAt env p x

pub none_stand : (env : List AtomDef) (places : List Place) → StandFirst env places []
none_stand env places k p x at stands = cc

pub one_more_stands : (env : List AtomDef) (places : List Place) (parts : List (Option Shape)) (i : ℕ) (p : Place) (x : Option Shape) → length parts ≡ i → slice_get places i ≡ Some p → IsAt env p x → StandFirst env places parts → StandFirst env places (parts ++ x ∷ [])
one_more_stands env places parts i p x long at is first k q y here there = ⊎_elim
    (λ (e : slice_get parts k ≡ Some y). first k q y here e)
    (λ (e : (k ≡ length parts) × (x ≡ y)). let same : p ≡ q = some_same p q (sym at ∙ (ap (slice_get places) (sym (e.0 ∙ long)) ∙ here)) in subst (λ r. IsAt env r y) same (subst (λ z. IsAt env p z) e.1 is))
    (at_or_last parts x k y there)

-- ---- one place made narrower

module _ (env : List AtomDef) (places : List Place) (place : ℕ) (p narrower : Place) (a : Asking) (absent : Bool) (at : slice_get places place ≡ Some p) (narrows : IsNarrower p a absent narrower) where
  within : place < length places
  within = slice_get_within places place p at

  length-narrowed : length (set places place narrower) ≡ length places
  length-narrowed = length-set places place narrower

  -- a filling that avoids the atom there, as the step says, is one of the narrower places
  pub narrower-IsIn : (parts : List (Option Shape)) (x : Option Shape) → IsIn env places parts → slice_get parts place ≡ Some x → AvoidsAt env a x → IsAbsentAs env absent x → IsIn env (set places place narrower) parts
  narrower-IsIn parts x is stands avoids absence = record {
    length = is.length ∙ sym length-narrowed;
    each = λ k q y here there. ⊎_elim
        (λ (e : k ≡ place). at_place q y (sym (ap (slice_get (set places place narrower)) e) ∙ here) (sym (ap (slice_get parts) e) ∙ there))
        (λ (ne : k ≡ place → ⊥). is.each k q y (sym (slice_get-set_other places place k narrower ne) ∙ here) there)
        (cases_eq k place);
  }
    where
      at_place : (q : Place) (y : Option Shape) → slice_get (set places place narrower) place ≡ Some q → slice_get parts place ≡ Some y → IsAt env q y
      at_place q y here there =
          let eq : narrower ≡ q = some_same narrower q (sym (slice_get-set_same places place narrower within) ∙ here) in
          let ey : x ≡ y = some_same x y (sym stands ∙ there) in
          subst (λ r. IsAt env r y) eq (subst (λ z. IsAt env narrower z) ey (narrows.from env x (is.each place p x at stands) avoids absence))

  -- and one of the narrower places is one of these, and avoids the atom
  pub wider-IsIn : (parts : List (Option Shape)) → IsIn env (set places place narrower) parts → IsIn env places parts
  wider-IsIn parts is = record {
    length = is.length ∙ length-narrowed;
    each = λ k q y here there. ⊎_elim
        (λ (e : k ≡ place). at_place q y (sym (ap (slice_get places) e) ∙ here) (sym (ap (slice_get parts) e) ∙ there))
        (λ (ne : k ≡ place → ⊥). is.each k q y (slice_get-set_other places place k narrower ne ∙ here) there)
        (cases_eq k place);
  }
    where
      at_place : (q : Place) (y : Option Shape) → slice_get places place ≡ Some q → slice_get parts place ≡ Some y → IsAt env q y
      at_place q y here there =
          subst (λ r. IsAt env r y) (some_same p q (sym at ∙ here)) (narrows.to env y (is.each place narrower y (slice_get-set_same places place narrower within) there)).0

  pub narrower-Avoids : (askings : List Asking) → slice_get askings place ≡ Some a → (parts : List (Option Shape)) → IsIn env (set places place narrower) parts → Avoids env askings parts
  narrower-Avoids askings is_asking parts is =
      avoided-at env (set places place narrower) parts is askings place narrower a (slice_get-set_same places place narrower within) is_asking (λ x h. (narrows.to env x h).1)

-- ---- one of several

module _ {X : Type 0} (P : X → Type 0) (y : X) (xs : List X) where
  pub Any-first : P y → Any P (y ∷ xs)
  Any-first h = (0, y, omega arith, refl, h)

  pub Any-later : Any P xs → Any P (y ∷ xs)
  Any-later h = (suc h.0, h.1, omega (arith, h.2), h.3, h.4)

-- ---- questions about a part

-- what is asked at a place by one of these atoms
abbrev IsAskedBy : ℕ → List (List Asking) → Condition → Type 0
IsAskedBy place atoms c = Any (λ askings. (a : Asking) × (slice_get askings place ≡ Some a) × (c ≡ a.part)) atoms

asked-later : (place : ℕ) (askings : List Asking) (atoms : List (List Asking)) (left : List Condition) → All (IsAskedBy place atoms) left → All (IsAskedBy place (askings ∷ atoms)) left
asked-later place askings atoms left =
    All-weaker (IsAskedBy place atoms) (IsAskedBy place (askings ∷ atoms)) (λ c. Any-later (λ askings. (a : Asking) × (slice_get askings place ≡ Some a) × (c ≡ a.part)) askings atoms) left

asked-first : (place : ℕ) (askings : List Asking) (atoms : List (List Asking)) (a : Asking) → slice_get askings place ≡ Some a → IsAskedBy place (askings ∷ atoms) a.part
asked-first place askings atoms a at = Any-first (λ askings. (b : Asking) × (slice_get askings place ≡ Some b) × (a.part ≡ b.part)) askings atoms (a, at, refl)

module _ (places : List Place) (d : Condition) where
  -- of a place as it is
  pub base-AsksPart : (atoms : List (List Asking)) (place : ℕ) (p : Place) (base : Condition) → slice_get places place ≡ Some p → condition_at p ≡ Some base → AreOne d base → AsksPart places atoms d
  base-AsksPart atoms place p base at has is = record {
    place = place;
    at = p;
    base = base;
    is_at = at;
    has = has;
    left = [];
    among = All-nil (IsAskedBy place atoms);
    asked = one-further d base (asks (base ∷ []) []) is (asks_itself base);
  }

  module _ (askings : List Asking) (atoms : List (List Asking)) where
    -- of one more atom
    pub more-AsksPart : AsksPart places atoms d → AsksPart places (askings ∷ atoms) d
    more-AsksPart h = record {
      place = h.place;
      at = h.at;
      base = h.base;
      is_at = h.is_at;
      has = h.has;
      left = h.left;
      among = asked-later h.place askings atoms h.left h.among;
      asked = h.asked;
    }

    module _ (place : ℕ) (p : Place) (a : Asking) (at : slice_get places place ≡ Some p) (is_asking : slice_get askings place ≡ Some a) where
      -- of a place without what an atom asks there
      pub step-AsksPart : (base : Condition) → condition_at p ≡ Some base → AreOne d (without base a.part) → AsksPart places (askings ∷ atoms) d
      step-AsksPart base has is = record {
        place = place;
        at = p;
        base = base;
        is_at = at;
        has = has;
        left = a.part ∷ [];
        among = All-cons (IsAskedBy place (askings ∷ atoms)) a.part [] (asked-first place askings atoms a is_asking) (All-nil (IsAskedBy place (askings ∷ atoms)));
        asked = one-further d (without base a.part) (asks (base ∷ []) (a.part ∷ [])) is (asks_one_less base (base ∷ []) [] a.part (asks_itself base));
      }

      -- of the narrower places
      pub narrower-AsksPart : (narrower : Place) (absent : Bool) → IsNarrower p a absent narrower → AsksPart (set places place narrower) atoms d → AsksPart places (askings ∷ atoms) d
      narrower-AsksPart narrower absent narrows h = ⊎_elim
          (λ (e : h.place ≡ place).
          let eq : narrower ≡ h.at = some_same narrower h.at (sym (slice_get-set_same places place narrower (slice_get_within places place p at)) ∙ (sym (ap (slice_get (set places place narrower)) e) ∙ h.is_at)) in
          let same = narrows.same h.base (ap condition_at eq ∙ h.has) in
          at_place same.0 same.1 (one-further d (asks (h.base ∷ []) h.left) (asks (same.0 ∷ []) (a.part ∷ h.left)) h.asked (asks_first_unwanted h.base same.0 a.part h.left same.2)) (subst (λ k. All (IsAskedBy k atoms) h.left) e h.among))
          (λ (ne : h.place ≡ place → ⊥). more-AsksPart (record {
            place = h.place;
            at = h.at;
            base = h.base;
            is_at = sym (slice_get-set_other places place h.place narrower ne) ∙ h.is_at;
            has = h.has;
            left = h.left;
            among = h.among;
            asked = h.asked;
          }))
          (cases_eq h.place place)
        where
          at_place : (base : Condition) → condition_at p ≡ Some base → AreOne d (asks (base ∷ []) (a.part ∷ h.left)) → All (IsAskedBy place atoms) h.left → AsksPart places (askings ∷ atoms) d
          at_place base has is among = record {
            place = place;
            at = p;
            base = base;
            is_at = at;
            has = has;
            left = a.part ∷ h.left;
            among = All-cons (IsAskedBy place (askings ∷ atoms)) a.part h.left (asked-first place askings atoms a is_asking) (asked-later place askings atoms h.left among);
            asked = is;
          }
