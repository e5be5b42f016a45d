-- Types that a test narrows in two runs.
use Rattle.std.proofs.Common.{◌≡◌, ◌↔◌, Bool, true, false, List, [], ◌∷◌, Option, inl, sym, subst, ap, if◌then◌else◌}
use Rattle.std.specs.List.{AllZip}
use Rattle.bal_base.specs.declared.place.Place.{Place}
use Rattle.bal_base.specs.declared.shape.Shape.{Shape}
use Rattle.bal_base.specs.declared.text.Name.{Name}
use Rattle.bal_base.specs.Valid.{IsValid}
use Rattle.checks.specs.Agreement.{Alike, AreTwins, BothKeep}
use Rattle.checks.specs.Checks.{Gives, Refuses}
use Rattle.flow_narrowing.specs.declared.flow.Flow.{Flow}
use Rattle.flow_narrowing.specs.declared.flow.Variable.{Variable}
use Rattle.flow_narrowing.specs.Changes.{with_narrowed}
use Rattle.flow_narrowing.specs.Narrowed.{Functions, Futures, LiesIn, Lists, Mappings, MayFail, Part, Plain, WhereFalse, WhereTrue, part_of}
use Rattle.type_model.specs.declared.answers.TypeLimit.{TypeLimit}
use Rattle.type_model.specs.declared.atoms.AtomDef.{AtomDef}
use Rattle.type_model.specs.declared.basic.SemType.{SemType}
use Rattle.type_model.specs.declared.basic.Ty.{Ty}
use Rattle.type_model.specs.Calls.{Asked}
use Rattle.type_model.specs.Places.{is_same_text}
use Rattle.type_model.proofs.Same.{both, neither, where_so}
use Rattle.typed_tree.specs.SharedTypes.{Shared}
use Rattle.check_words.specs.Joins.{narrows_to, where_false}
use Rattle.check_words.specs.Sharing.{SameOption}
use Rattle.check_words.specs.State.{State, narrowed_by_name, with_type}
use Rattle.check_words.specs.Words.{Atoms}
use Rattle.check_answers.specs.TwinStates.{FlowTwins, SharedTwins, VariableTwins}
use Rattle.check_answers.specs.TwinTypes.{TwinTypes}
use Rattle.check_answers.proofs.Leading.{Leads, Pairs, leads-asking, leads-gives, leads-over, leads-then}
use Rattle.check_answers.proofs.Meanings.{meanings-twin}

module _ (m n : Atoms) where
  -- ---- what may fail a test

  module _ (s t u v : SemType) (h : AreTwins m s n u) (k : AreTwins m t n v) where
    lies-twins : (part : Part) → LiesIn m s t part ↔ LiesIn n u v part
    lies-twins part = (
      λ f x valid e i. (k x valid).0 (f x valid e ((h x valid).1 i)),
      λ f x valid e i. (k x valid).1 (f x valid e ((h x valid).0 i)),
    )

    fails-twins : (x : Shape) → IsValid x → (part : Part) → MayFail m s t x part ↔ MayFail n u v x part
    fails-twins x valid Plain = neither (k x valid)
    fails-twins x valid (Lists false) = neither (lies-twins (Lists false))
    fails-twins x valid (Lists true) = where_so (lies-twins (Lists false)) (neither (k x valid))
    fails-twins x valid (Mappings false) = neither (lies-twins (Mappings false))
    fails-twins x valid (Mappings true) = where_so (lies-twins (Mappings false)) (neither (k x valid))
    fails-twins x valid Functions = neither (lies-twins Functions)
    fails-twins x valid Futures = neither (lies-twins Futures)

  where-true-twin : (s t u v a b : Ty) → TwinTypes m n s u → TwinTypes m n t v → WhereTrue m s t a → WhereTrue n u v b → TwinTypes m n a b
  where-true-twin s t u v a b h k x y =
      meanings-twin m n _ _ t.lists t.maps v.lists v.maps a b (λ i valid. both (h.shapes i valid) (k.shapes i valid)) k.lists k.maps x y

  where-false-twin : (s t u v a b : Ty) → TwinTypes m n s u → TwinTypes m n t v → WhereFalse m s t a → WhereFalse n u v b → TwinTypes m n a b
  where-false-twin s t u v a b h k x y =
      meanings-twin m n _ _ s.lists s.maps u.lists u.maps a b
      (λ i valid. both (h.shapes i valid) (fails-twins s.sem t.sem u.sem v.sem h.shapes k.shapes i valid (part_of i))) h.lists h.maps x y

  abbrev TwinShared : Shared → Shared → Type 0
  TwinShared a b = TwinTypes m n a.value b.value

  abbrev pub TwinPairs : Shared × Shared → Shared × Shared → Type 0
  TwinPairs p q = TwinTypes m n p.0.value q.0.value × TwinTypes m n p.1.value q.1.value

  module _ (passes : List AtomDef → Asked → TypeLimit → Type 0) where
    false-alike : (s t u v : Ty) (at : Place) → TwinTypes m n s u → TwinTypes m n t v
        → Alike (BothKeep m n TwinShared) m n (where_false passes s t at) (where_false passes u v at)
    unfolding where_false
    false-alike s t u v at h k (Gives a) (Gives b) m2 n2 x y = (where-false-twin s t u v a.value b.value h k x.0 y.0, x.1, y.1)
    false-alike s t u v at h k (Gives a) (Refuses g) m2 n2 x y = inl y.0.2.has_code
    false-alike s t u v at h k (Refuses f) (Gives b) m2 n2 x y = inl x.0.2.has_code
    false-alike s t u v at h k (Refuses f) (Refuses g) m2 n2 x y = inl (inl x.0.2.has_code)

    pub narrows-leads : (F : Pairs) (s t u v : Shared) (at : Place) → ((i j : State) → F i j → (i.atoms ≡ m) × (j.atoms ≡ n))
        → TwinTypes m n s.value u.value → TwinTypes m n t.value v.value → Leads F F TwinPairs (narrows_to passes s t at) (narrows_to passes u v at)
    narrows-leads F s t u v at here h k =
        leads-then F F F TwinShared TwinPairs _ _ _ _
        (leads-over m n F TwinShared _ _ here (λ a b x y. where-true-twin s.value t.value u.value v.value a.value b.value h k x y))
        (λ a b e. leads-then F F F TwinShared TwinPairs _ _ _ _
        (leads-asking m n F TwinShared _ _ here (false-alike s.value t.value u.value v.value at h k))
        (λ c d f. leads-gives F TwinPairs (a, c) (b, d) (e, f)))

-- ---- variables that get a type by their name

module _ (D R : Ty → Ty → Type 0) where
  retyped-one : (v u : Variable) (o p : Option Shared) → VariableTwins D R v u → SameOption (SharedTwins D R) o p
      → VariableTwins D R (with_narrowed v o) (with_narrowed u p)
  retyped-one v u o p h k =
      record {
        name = h.name;
        slot = h.slot;
        declared = h.declared;
        narrowed = k;
        fixed = h.fixed;
        assigned = h.assigned;
        captured = h.captured;
      }

  retyped-if : (b c : Bool) (vs us ws xs : List Variable) → c ≡ b → AllZip (VariableTwins D R) vs ws → AllZip (VariableTwins D R) us xs
      → AllZip (VariableTwins D R) (if b then vs else us) (if c then ws else xs)
  retyped-if true true vs us ws xs e h k = h
  retyped-if false false vs us ws xs e h k = k
  retyped-if true false vs us ws xs e h k = absurd (cc)
  retyped-if false true vs us ws xs e h k = absurd (cc)

  retyped : (vs us : List Variable) (name : Name) (o p : Option Shared) → AllZip (VariableTwins D R) vs us → SameOption (SharedTwins D R) o p
      → AllZip (VariableTwins D R) (narrowed_by_name vs name o) (narrowed_by_name us name p)
  retyped [] [] name o p h k = tt
  retyped (v ∷ vs) (u ∷ us) name o p h k =
      retyped-if (is_same_text v.name name) (is_same_text u.name name) (with_narrowed v o ∷ vs) (v ∷ narrowed_by_name vs name o) (with_narrowed u p ∷ us)
      (u ∷ narrowed_by_name us name p) (ap (λ s. is_same_text s name) h.0.name) (retyped-one v u o p h.0 k, h.1) (h.0, retyped vs us name o p h.1 k)
  retyped [] (u ∷ us) name o p h k = absurd h
  retyped (v ∷ vs) [] name o p h k = absurd h

  pub flow-retyped : (name : Name) (o p : Option Shared) (f g : Flow) → FlowTwins D R f g → SameOption (SharedTwins D R) o p
      → FlowTwins D R (with_type name o f) (with_type name p g)
  flow-retyped name o p f g h k = record { variables = retyped f.variables g.variables name o p h.variables k; reached = h.reached }

  -- by a name that is the same in both
  pub flow-retyped-at : (a b : Name) (o p : Option Shared) (f g : Flow) → b ≡ a → FlowTwins D R f g → SameOption (SharedTwins D R) o p
      → FlowTwins D R (with_type a o f) (with_type b p g)
  flow-retyped-at a b o p f g e h k = subst (λ i. FlowTwins D R (with_type a o f) (with_type i p g)) (sym e) (flow-retyped a o p f g h k)
