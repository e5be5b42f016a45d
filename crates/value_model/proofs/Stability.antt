-- What a value stands for stays the same while the heap grows.
use Rattle.std.proofs.Common.{◌≡◌, ◌<◌, ◌↔◌, ◌++◌, ℕ, zero, suc, Bool, true, false, List, [], ◌∷◌, Option, Some, None, All, IfSome, IsSomeAnd, length, map, slice_get, sym, subst, refl, ⊎_elim, if◌then◌else◌, arith}
use Rattle.std.specs.Prelude.{IsFalse, ⊤}
use Rattle.std.proofs.lemmas.List.Elements.{All-head, All-tail}
use Rattle.std.proofs.lemmas.Option.{slice_get_cases}
use Rattle.bal_base.specs.declared.text.Text.{Text}
use Rattle.bal_base.specs.declared.shape.Shape.{Shape, Nil as NilShape, Bool as BoolShape, Int as IntShape, Str as StrShape, List', Mapping', Error', Function as FunctionShape, Future', Row_of-Shape, end_of-Shape, more_of-Shape, Row_of-Fields-items-2 as Row_of-Field, end_of-Fields-items-2 as end_of-Field, more_of-Fields-items-2 as more_of-Field, items-the_row-Fields-items-2 as fields_in}
use Rattle.type_model.specs.declared.basic.SemType.{SemType, Atom}
use Rattle.type_model.specs.Membership.{In}
use Rattle.type_model.specs.Places.{is_same_text}
use Rattle.type_model.proofs.Same.{both, itself, at_some}
use Rattle.value_model.specs.declared.value.Value.{Value}
use Rattle.value_model.specs.declared.value.Value.TheVariants.{Nil, Bool as Truth, Int, Str, Struct, Error, Function, Future}
use Rattle.value_model.specs.Heap.{Heap, Structure, ErrorObject, FunctionObject, Members, Items, Entries, IsThere, IsClosed, Grows, Stays, Begins, values_of, entry_at}
use Rattle.value_model.specs.Laws.{BelongingIsStable}
use Rattle.value_model.specs.Stands.{OwnTypes, HasShape, HaveShapes, HaveFields, IsFrozenWith, IsErrorWith, IsList, IsMapping, StructureStands, Stands, Belongs}

-- ---- lists

at_place : {X : Type 0} (R : X → Type 0) (xs : List X) (a : ℕ) → All R xs → IfSome (slice_get xs a) R
at_place R [] a h = tt
at_place R (x ∷ xs) zero h = All-head R x xs h
at_place R (x ∷ xs) (suc a) h = at_place R xs a (All-tail R x xs h)

there : {X : Type 0} (xs : List X) (n : ℕ) → n < length xs → IsSomeAnd (slice_get xs n) (λ _. ⊤)
there {X} xs n h =
    ⊎_elim (λ c. let P : Option X → Type 0 = λ o. IsSomeAnd o (λ _. ⊤) in subst P (sym c.2) tt) (λ c. absurd (omega arith)) (slice_get_cases xs n).1

front_kept : {X : Type 0} (xs ys : List X) (n : ℕ) → n < length xs → slice_get (xs ++ ys) n ≡ slice_get xs n
front_kept [] ys n h = absurd (omega arith)
front_kept (x ∷ xs) ys zero h = refl
front_kept (x ∷ xs) ys (suc n) h = front_kept xs ys n (omega arith)

later_kept : {X : Type 0} (old new : List X) (n : ℕ) → Begins old new → n < length old → slice_get new n ≡ slice_get old n
later_kept {X} old new n (rest, e) h = let P : List X → Type 0 = λ l. slice_get l n ≡ slice_get old n in subst P (sym e) (front_kept old rest n h)

choose : {X : Type 0} (P : Option X → Type 0) (b : Bool) (x y : Option X) → P x → P y → P (if b then x else y)
choose P true x y h k = h
choose P false x y h k = k

entry_there : (R : Value → Type 0) (es : List (Text × Value)) (key : Text) → All R (map (λ e. e.1) es) → IfSome (entry_at es key) R
entry_there R [] key h = tt
entry_there R (e ∷ es) key h =
    choose (λ o. IfSome o R) (is_same_text e.0 key) (Some e.1) (entry_at es key) (All-head R e.1 (map (λ d. d.1) es) h) (entry_there R es key (All-tail R e.1 (map (λ d. d.1) es) h))

-- ---- structures

at_structure : (o p : Option Structure) (P Q : Structure → Type 0) → IsSomeAnd o (λ _. ⊤) → ((s : Structure) → o ≡ Some s → IsSomeAnd p (Stays s)) → ((s t : Structure) → o ≡ Some s → Stays s t → P s ↔ Q t) → IsSomeAnd o P ↔ IsSomeAnd p Q
at_structure None p P Q h grows same = absurd h
at_structure (Some s) None P Q h grows same = absurd (grows s refl)
at_structure (Some s) (Some t) P Q h grows same = same s t refl (grows s refl)

frozen_same : (P Q : Members → Type 0) (s t : Structure) → Stays s t → P s.members ↔ Q s.members → (IsFalse s.mutable × P s.members) ↔ (IsFalse t.mutable × Q t.members)
frozen_same P Q s t stays same = (
  λ h. let R : Structure → Type 0 = λ x. IsFalse x.mutable × Q x.members in subst R (sym (stays.frozen h.0)) (h.0, same.0 h.1),
  λ h. let f : IsFalse s.mutable = subst IsFalse stays.mutable h.0 in let R : Structure → Type 0 = λ x. Q x.members in (f, same.1 (subst R (stays.frozen f) h.1)),
)

module _ (old new : Heap) (closed : IsClosed old) (g : Grows old new) where
  parts_there : (n : ℕ) (s : Structure) → slice_get old.structures n ≡ Some s → All (IsThere old) (values_of s.members)
  parts_there n s e =
      let P : Option Structure → Type 0 = λ o. IfSome o (λ x. All (IsThere old) (values_of x.members)) in
      subst P e (at_place (λ x. All (IsThere old) (values_of x.members)) old.structures n closed.members)

  frozen : (v : Value) (P Q : Members → Type 0) → IsThere old v → ((m : Members) → All (IsThere old) (values_of m) → P m ↔ Q m) → IsFrozenWith old P v ↔ IsFrozenWith new Q v
  frozen Nil P Q h same = itself
  frozen (Truth b) P Q h same = itself
  frozen (Int i) P Q h same = itself
  frozen (Str t) P Q h same = itself
  frozen (Struct n) P Q h same =
      at_structure (slice_get old.structures n) (slice_get new.structures n) (λ s. IsFalse s.mutable × P s.members) (λ s. IsFalse s.mutable × Q s.members) (there old.structures n h) (g.structures n) (λ s t e stays. frozen_same P Q s t stays (same s.members (parts_there n s e)))
  frozen (Error n) P Q h same = itself
  frozen (Function n) P Q h same = itself
  frozen (Future strand unit) P Q h same = itself

  erring : (v : Value) (P Q : Value → Type 0) → IsThere old v → ((w : Value) → IsThere old w → P w ↔ Q w) → IsErrorWith old P v ↔ IsErrorWith new Q v
  erring Nil P Q h same = itself
  erring (Truth b) P Q h same = itself
  erring (Int i) P Q h same = itself
  erring (Str t) P Q h same = itself
  erring (Struct n) P Q h same = itself
  erring (Error n) P Q h same =
      let R : Option ErrorObject → Type 0 = λ o. IsSomeAnd (slice_get old.errors n) (λ e. P (Struct e.detail)) ↔ IsSomeAnd o (λ e. Q (Struct e.detail)) in
      subst R (sym (later_kept old.errors new.errors n g.errors h)) (at_some (slice_get old.errors n) (λ e. e.detail < length old.structures) (λ e. P (Struct e.detail)) (λ e. Q (Struct e.detail)) (at_place (λ e. e.detail < length old.structures) old.errors n closed.details) (λ e b. same (Struct e.detail) b))
  erring (Function n) P Q h same = itself
  erring (Future strand unit) P Q h same = itself

  listed : (m : Members) (P Q : List Value → Type 0) → All (IsThere old) (values_of m) → ((vs : List Value) → All (IsThere old) vs → P vs ↔ Q vs) → IsList old P m ↔ IsList new Q m
  listed (Items vs) P Q h same = same vs h
  listed (Entries es) P Q h same = itself

  mapped : (m : Members) (P Q : List (Text × Value) → Type 0) → All (IsThere old) (values_of m) → ((es : List (Text × Value)) → All (IsThere old) (map (λ e. e.1) es) → P es ↔ Q es) → IsMapping old P m ↔ IsMapping new Q m
  mapped (Items vs) P Q h same = itself
  mapped (Entries es) P Q h same = same es h

  mutual
    pub HasShape-stable : (s : Shape) (v : Value) → IsThere old v → HasShape old s v ↔ HasShape new s v
    HasShape-stable NilShape v h = itself
    HasShape-stable (BoolShape b) v h = itself
    HasShape-stable (IntShape i) v h = itself
    HasShape-stable (StrShape t) v h = itself
    HasShape-stable (List' mark _ items) v h =
        both itself (frozen v (IsList old (HaveShapes old items)) (IsList new (HaveShapes new items)) h (λ m k. listed m (HaveShapes old items) (HaveShapes new items) k (λ vs l. HaveShapes-stable _ items vs l)))
    HasShape-stable (Mapping' mark _ fields) v h =
        both itself (frozen v (IsMapping old (λ es. (length es ≡ length (fields_in _ fields)) × HaveFields old fields es)) (IsMapping new (λ es. (length es ≡ length (fields_in _ fields)) × HaveFields new fields es)) h (λ m k. mapped m (λ es. (length es ≡ length (fields_in _ fields)) × HaveFields old fields es) (λ es. (length es ≡ length (fields_in _ fields)) × HaveFields new fields es) k (λ es l. both itself (HaveFields-stable _ fields es l))))
    HasShape-stable (Error' _ detail) v h = erring v (HasShape old detail) (HasShape new detail) h (λ w k. HasShape-stable detail w k)
    HasShape-stable (FunctionShape isolated graph) v h = itself
    HasShape-stable (Future' _ results) v h = itself

    HaveShapes-stable : (n : _) (row : Row_of-Shape n) (vs : List Value) → All (IsThere old) vs → HaveShapes old row vs ↔ HaveShapes new row vs
    HaveShapes-stable n end_of-Shape vs h = itself
    HaveShapes-stable n (more_of-Shape x xs) [] h = itself
    HaveShapes-stable n (more_of-Shape x xs) (v ∷ vs) h =
        both (HasShape-stable x v (All-head (IsThere old) v vs h)) (HaveShapes-stable _ xs vs (All-tail (IsThere old) v vs h))

    HaveFields-stable : (n : _) (row : Row_of-Field n) (es : List (Text × Value)) → All (IsThere old) (map (λ e. e.1) es) → HaveFields old row es ↔ HaveFields new row es
    HaveFields-stable n end_of-Field es h = itself
    HaveFields-stable n (more_of-Field key x more) es h =
        both (at_some (entry_at es key) (IsThere old) (HasShape old x) (HasShape new x) (entry_there (IsThere old) es key h) (λ v k. HasShape-stable x v k)) (HaveFields-stable _ more es h)

  module _ (own : OwnTypes) where
    structure_stable : (b : Bool) (atom : Option ℕ) (n : ℕ) (s : Shape) → n < length old.structures → StructureStands own old b atom n s ↔ StructureStands own new b atom n s
    structure_stable true atom n s h = itself
    structure_stable false atom n s h = HasShape-stable s (Struct n) h

    moved : (s t : Structure) (n : ℕ) (x : Shape) → n < length old.structures → Stays s t → StructureStands own old s.mutable s.atom n x ↔ StructureStands own new t.mutable t.atom n x
    moved s t n x h stays =
        let P : Bool → Type 0 = λ b. StructureStands own old s.mutable s.atom n x ↔ StructureStands own new b t.atom n x in
        let Q : Option ℕ → Type 0 = λ a. StructureStands own old s.mutable s.atom n x ↔ StructureStands own new s.mutable a n x in
        subst P (sym stays.mutable) (subst Q (sym stays.atom) (structure_stable s.mutable s.atom n x h))

    Stands-stable : (v : Value) (x : Shape) → IsThere old v → Stands own old v x ↔ Stands own new v x
    Stands-stable Nil x h = HasShape-stable x Nil h
    Stands-stable (Truth b) x h = HasShape-stable x (Truth b) h
    Stands-stable (Int i) x h = HasShape-stable x (Int i) h
    Stands-stable (Str t) x h = HasShape-stable x (Str t) h
    Stands-stable (Struct n) x h =
        at_structure (slice_get old.structures n) (slice_get new.structures n) (λ s. StructureStands own old s.mutable s.atom n x) (λ s. StructureStands own new s.mutable s.atom n x) (there old.structures n h) (g.structures n) (λ s t e stays. moved s t n x h stays)
    Stands-stable (Error n) x h = HasShape-stable x (Error n) h
    Stands-stable (Function n) x h =
        let P : Option FunctionObject → Type 0 = λ o. Stands own old (Function n) x ↔ IsSomeAnd o (λ f. IsSomeAnd (slice_get own.units f.unit) (λ u. In own.atoms x (Atom u.0))) in
        subst P (sym (later_kept old.functions new.functions n g.functions h)) itself
    Stands-stable (Future strand unit) x h = itself

    pub Belongs-stable : (v : Value) → IsThere old v → (t : SemType) → Belongs own old v t ↔ Belongs own new v t
    Belongs-stable v h t = (λ b s valid st. b s valid ((Stands-stable v s h).1 st), λ b s valid st. b s valid ((Stands-stable v s h).0 st))

pub stable : BelongingIsStable
stable own old new closed g v h t = Belongs-stable old new closed g own v h t
