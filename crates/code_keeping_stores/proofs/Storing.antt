-- A structure in the heap gets other members, and structures are made behind all that are there.
use Rattle.std.proofs.Common.{◌≡◌, ◌≢◌, ◌<◌, ◌≤◌, ◌+◌, ◌^◌, ◌∙◌, ℕ, true, List, [], ◌++◌, Option, Some, inl, inr, length, refl, sym, ap, subst, arith}
use Rattle.std.proofs.Math.Nat.{le-max_right}
use Rattle.std.proofs.lemmas.List.{append-nil}
use Rattle.std.specs.Prelude.{◌⊎◌, All, IsSomeAnd, IsTrue, max, option_to_list, slice_get, slice_set, sum_by}
use Rattle.bal_base.specs.Valid.{IsValid}
use Rattle.bal_base.specs.declared.shape.Shape.{Shape}
use Rattle.type_model.specs.declared.atoms.AtomDef.{AtomDef}
use Rattle.type_model.specs.declared.basic.SemType.{SemType, Atom}
use Rattle.type_model.specs.Membership.{In}
use Rattle.operations.specs.Rows.{NoResult}
use Rattle.value_model.specs.Heap.{AreAlike, Grows, Heap, Members, Stays, Structure, IsThere, cells, values_of}
use Rattle.value_model.specs.Stands.{IsUnmarked, MembersBelong}
use Rattle.value_model.specs.Valid.{AreValidMembers}
use Rattle.value_model.specs.declared.value.Value.{Value}
use Rattle.value_model.specs.World.{Gave, World}
use Rattle.op_model.specs.Common.{Common}
use Rattle.op_model.specs.Effects.{lifted, with_world}
use Rattle.op_model.specs.Limits.{most_cells}
use Rattle.op_model.specs.Rows.{gives_nothing, size_of, within}
use Rattle.op_model.specs.Stores.{stored, with_members}
use Rattle.machine_model.specs.Runs.{Running}
use Rattle.machine_model.proofs.Once.{some-same}
use Rattle.stack_code.specs.declared.code.Code.{Code}
use Rattle.stack_code.specs.Good.{GoodCommon}
use Rattle.stack_code.specs.Tables.{IsInherent}
use Rattle.stack_code.specs.Values.{AreKeysApart, AllFit, GoodHeap, IsMade, IsWithinAtom, code_types}
use Rattle.code_keeping.specs.Rows.{EffectTyped}
use Rattle.code_keeping.proofs.Changing.{get-set-other, get-set-same, length-set, same-or-not}
use Rattle.code_keeping.proofs.Growing.{IsGrown, IsNewStructure, front-or-behind, gave-typed, get-front, within-gave, within-so}
use Rattle.code_keeping.proofs.Lists.{all-at, at-some, of-some, some-there}
use Rattle.code_keeping.proofs.Staying.{stays-same}
use Rattle.code_keeping_heap.proofs.Adding.{greatest-at}

module _ (code : Code) (c : Common) (all : GoodCommon code c Running) (n : ℕ) (s : Structure) (e : slice_get c.world.heap.structures n ≡ Some s) (mutable : IsTrue s.mutable) (m : Members) (kind : AreAlike s.members m) (more : List Structure) where
  abbrev heap : Heap
  heap = c.world.heap

  abbrev good : GoodHeap code c
  good = all.nearly.heap

  abbrev pub changed : Structure
  changed = with_members s m

  abbrev pub set : List Structure
  set = slice_set heap.structures n changed

  abbrev pub world-then : World
  world-then = stored c.world n s m more

  abbrev pub d : Common
  d = with_world c world-then

  pub grows : Grows heap world-then.heap
  grows = record { structures = λ k x ex. by k x ex (same-or-not n k); errors = ([], sym (append-nil heap.errors)); functions = ([], sym (append-nil heap.functions)) }
    where
      own : Stays s changed
      own = record { kind = kind; atom = refl; mutable = refl; frozen = λ f. absurd (let q : ⊥ = cc in q) }

      by : (k : ℕ) (x : Structure) → slice_get heap.structures k ≡ Some x → (n ≡ k) ⊎ (n ≢ k) → IsSomeAnd (slice_get (set ++ more) k) (Stays x)
      by k x ex (inl is) =
          let same : s ≡ x = some-same s x (sym e ∙ ap (λ j. slice_get heap.structures j) is ∙ ex) in
          let there : slice_get set k ≡ Some changed = subst (λ j. slice_get set j ≡ Some changed) is (get-set-same heap.structures n changed s e) in
          at-some (Stays x) (slice_get (set ++ more) k) changed (get-front set more k changed there) (subst (λ z. Stays z changed) same own)
      by k x ex (inr ne) = at-some (Stays x) (slice_get (set ++ more) k) x (get-front set more k x (get-set-other heap.structures n k changed ne ∙ ex)) (stays-same x)

  -- what it has belongs to its atom, also in the heap that comes
  abbrev pub IsOfAtom : Members → ℕ → Type 0
  IsOfAtom m a = IsInherent code a × ((x : Shape) × IsValid x × IsUnmarked x × In code.atoms x (Atom a)) × IsSomeAnd (slice_get code.atoms a) (MembersBelong (code_types code) world-then.heap m)

  pub within-then : IsSomeAnd s.atom (IsOfAtom s.members)
  within-then =
      within-so code c world-then good grows s (all-at (λ s. All (IsThere heap) (values_of s.members)) heap.structures n s good.closed.members e)
      (all-at (IsWithinAtom code c) heap.structures n s good.mutable e) mutable

  -- what is asked of the members: they are those of the atom
  pub record IsFine : Type 0 where
    pub belong : (a : ℕ) (definition : AtomDef) → s.atom ≡ Some a → slice_get code.atoms a ≡ Some definition → MembersBelong (code_types code) world-then.heap s.members definition →
        MembersBelong (code_types code) world-then.heap m definition
    pub made : All (IsMade code d) (values_of m)
    pub valid : AreValidMembers m
    pub apart : AreKeysApart m

  abbrev pub IsSmall : Type 0
  IsSmall = cells world-then.heap ≤ most_cells

  pub short : IsSmall → size_of m < 2 ^ 63
  short small =
      let at : slice_get world-then.heap.structures n ≡ Some changed = get-front set more n changed (get-set-same heap.structures n changed s e) in
      let l : changed.greatest ≤ sum_by (λ (x : Structure). x.greatest + 1) world-then.heap.structures = greatest-at world-then.heap.structures n changed 0 at in
      let k : size_of m ≤ max s.greatest (size_of m) = le-max_right s.greatest (size_of m) in
      omega (arith, l, k, small)

  -- and of the structures that are made
  abbrev pub AreNew : Type 0
  AreNew = (j : ℕ) (x : Structure) → slice_get more j ≡ Some x → IsNewStructure code c world-then good grows (length heap.structures + j) x

  module _ (fine : IsFine) (few : size_of m < 2 ^ 63) (news : AreNew) where
    changed-so : IsNewStructure code c world-then good grows n changed
    changed-so = record { mutable = λ f. within; frozen = λ f. absurd (let q : ⊥ = cc in q); made = fine.made; valid = fine.valid; short = few; apart = fine.apart }
      where
        within : IsSomeAnd s.atom (IsOfAtom m)
        within =
            let (a, ea, (known, shape, belong)) = some-there (IsOfAtom s.members) s.atom within-then in
            let (definition, ed, old) = some-there (MembersBelong (code_types code) world-then.heap s.members) (slice_get code.atoms a) belong in
            at-some (IsOfAtom m) s.atom a ea (known, shape, at-some (MembersBelong (code_types code) world-then.heap m) (slice_get code.atoms a) definition ed (fine.belong a definition ea ed old))

    pub grown : IsGrown code c world-then good grows
    grown = record { structures = λ k x ex. by k x (front-or-behind set more k x ex); errors = λ k x ex. inl ex; functions = λ k x ex. inl ex }
      where
        at-set : (k : ℕ) (x : Structure) → slice_get set k ≡ Some x → (n ≡ k) ⊎ (n ≢ k) → (slice_get heap.structures k ≡ Some x) ⊎ IsNewStructure code c world-then good grows k x
        at-set k x ex (inl is) =
            let same : changed ≡ x = some-same changed x (sym (get-set-same heap.structures n changed s e) ∙ ap (λ j. slice_get set j) is ∙ ex) in
            inr (subst (λ j. IsNewStructure code c world-then good grows j x) is (subst (λ z. IsNewStructure code c world-then good grows n z) same changed-so))
        at-set k x ex (inr ne) = inl (sym (get-set-other heap.structures n k changed ne) ∙ ex)

        by : (k : ℕ) (x : Structure) → (slice_get set k ≡ Some x) ⊎ ((j : ℕ) × (k ≡ length set + j) × (slice_get more j ≡ Some x)) → (slice_get heap.structures k ≡ Some x) ⊎ IsNewStructure code c world-then good grows k x
        by k x (inl ex) = at-set k x ex (same-or-not n k)
        by k x (inr (j, at, ex)) = inr (subst (λ i. IsNewStructure code c world-then good grows i x) (let long = length-set heap.structures n changed in let q : length heap.structures + j ≡ k = omega (arith, at, long) in q) (news j x ex))

  -- values that fit there may be given
  pub given-typed : IsFine → size_of m < 2 ^ 63 → AreNew → (vs : List Value) (result : Option SemType) → AllFit code d vs (option_to_list result) → EffectTyped code c result (lifted c (Gave vs world-then))
  given-typed fine few news vs result fit = gave-typed code c result vs world-then all good grows (grown fine few news) fit

  pub store-typed : IsFine → (IsSmall → AreNew) → (result : Option SemType) → NoResult result → EffectTyped code c result (lifted c (within (gives_nothing world-then)))
  store-typed fine news result none =
      within-gave code c result [] world-then
      (λ small. given-typed fine (short small) (news small) [] result (subst (λ r. AllFit code d [] (option_to_list r)) (sym none) tt))

  -- members that belonged to an atom belong to it there
  pub members-then : (a : ℕ) (definition : AtomDef) → s.atom ≡ Some a → slice_get code.atoms a ≡ Some definition → All (IsThere heap) (values_of m) → MembersBelong (code_types code) heap m definition → MembersBelong (code_types code) world-then.heap m definition
  members-then a definition ea ed there belong =
      let (known, shape, old) = of-some (λ a. IsInherent code a × ((x : Shape) × IsValid x × IsUnmarked x × In code.atoms x (Atom a)) × IsSomeAnd (slice_get code.atoms a) (MembersBelong (code_types code) heap s.members)) s.atom a ea (all-at (IsWithinAtom code c) heap.structures n s good.mutable e mutable) in
      let then : IsSomeAnd (slice_get code.atoms a) (MembersBelong (code_types code) world-then.heap m) =
      (within-so code c world-then good grows (record { atom = Some a; mutable = true; members = m; greatest = 0 }) there
      (λ is. (known, shape, at-some (MembersBelong (code_types code) heap m) (slice_get code.atoms a) definition ed belong)) refl).2 in
      of-some (MembersBelong (code_types code) world-then.heap m) (slice_get code.atoms a) definition ed then
