-- A structure is made behind those that are there: a list or a mapping of an atom.
use Rattle.std.proofs.Common.{◌≡◌, ◌<◌, ◌≤◌, ◌+◌, ◌^◌, ℕ, zero, suc, Bool, true, false, List, [], ◌∷◌, ◌++◌, Option, Some, None, inl, inr, length, refl, sym, ap, subst, arith}
use Rattle.std.proofs.lemmas.List.{append-nil, length-append}
use Rattle.std.specs.Prelude.{◌⊎◌, All, IsFalse, IsTrue, not, slice_get, sum_by}
use Rattle.std.specs.List.{fold}
use Rattle.bal_base.specs.declared.shape.Shape.{Shape, Nil as NilShape, Bool as BoolShape, Int as IntShape, Str as StrShape, List', Mapping', Error', Function as FunctionShape, Future'}
use Rattle.bal_base.specs.Valid.{IsValid}
use Rattle.type_model.specs.declared.atoms.AtomDef.{AtomDef}
use Rattle.type_model.specs.declared.basic.SemType.{SemType, Atom}
use Rattle.type_model.specs.Membership.{In}
use Rattle.type_model.proofs.SameShapes.{In-same}
use Rattle.operations.specs.Kinds.{IsReadonly}
use Rattle.operations.specs.Rows.{ResultHas}
use Rattle.operations.specs.Structures.{IsMade as IsMadeOf}
use Rattle.value_model.specs.declared.value.Value.TheVariants.{Struct}
use Rattle.value_model.specs.Heap.{Grows, Heap, Members, Stays, Structure, cells, values_of}
use Rattle.value_model.specs.Stands.{HasShape, IsUnmarked, MembersBelong, Stands, StructureStands}
use Rattle.value_model.specs.Valid.{AreValidMembers}
use Rattle.value_model.specs.World.{World}
use Rattle.value_model.proofs.OneShape.{one}
use Rattle.op_model.specs.Common.{Common}
use Rattle.op_model.specs.Effects.{lifted, with_world}
use Rattle.op_model.specs.Limits.{most_cells}
use Rattle.op_model.specs.Rows.{gives_structure, makes, new_structure, size_of}
use Rattle.machine_model.specs.Runs.{Running}
use Rattle.machine_model.proofs.Once.{some-same}
use Rattle.stack_code.specs.declared.code.Code.{Code}
use Rattle.stack_code.specs.Good.{GoodCommon}
use Rattle.stack_code.specs.Tables.{IsInherent}
use Rattle.stack_code.specs.Values.{AreKeysApart, IsMade, code_types}
use Rattle.code_keeping.specs.Rows.{EffectTyped}
use Rattle.code_keeping.proofs.Growing.{IsGrown, IsNewStructure, front-or-behind, gave-typed, get-front, get-last, later, made-there, one-given, within-gave}
use Rattle.code_keeping.proofs.Lists.{at-some, of-some}
use Rattle.code_keeping.proofs.Serving.{all-to}
use Rattle.code_keeping.proofs.Staying.{stays-same}
use Rattle.code_keeping_heap.proofs.Making.{one-there}

-- what is made last takes its own cells
pub greatest-last : (ss : List Structure) (s : Structure) (before : ℕ) → s.greatest ≤ fold (λ a x. a + (x.greatest + 1)) before (ss ++ s ∷ [])
greatest-last [] s before = omega arith
greatest-last (x ∷ ss) s before = greatest-last ss s (before + (x.greatest + 1))

fold-least : (ss : List Structure) (before : ℕ) → before ≤ fold (λ a x. a + (x.greatest + 1)) before ss
fold-least [] before = omega arith
fold-least (x ∷ ss) before = let l = fold-least ss (before + (x.greatest + 1)) in omega (arith, l)

-- and so does each other one
pub greatest-at : (ss : List Structure) (k : ℕ) (s : Structure) (before : ℕ) → slice_get ss k ≡ Some s → s.greatest ≤ fold (λ a x. a + (x.greatest + 1)) before ss
greatest-at [] k s before e = absurd (let q : ⊥ = cc in q)
greatest-at (x ∷ ss) zero s before e =
    subst (λ z. z.greatest ≤ fold (λ a y. a + (y.greatest + 1)) (before + (x.greatest + 1)) ss) (some-same x s e) (let l = fold-least ss (before + (x.greatest + 1)) in omega (arith, l))
greatest-at (x ∷ ss) (suc k) s before e = greatest-at ss k s (before + (x.greatest + 1)) e

pub grows-by-one : (h : Heap) (s : Structure) → Grows h (record { structures = h.structures ++ s ∷ []; errors = h.errors; functions = h.functions })
grows-by-one h s =
    record {
      structures = λ n x e. at-some (Stays x) (slice_get (h.structures ++ s ∷ []) n) x (get-front h.structures (s ∷ []) n x e) (stays-same x);
      errors = ([], sym (append-nil h.errors));
      functions = ([], sym (append-nil h.functions));
    }

-- what an immutable structure has is immutable
readonly : (h : Heap) (n : ℕ) (x : Shape) → HasShape h x (Struct n) → IsReadonly x
readonly h n (List' mark _ items) k = k.0
readonly h n (Mapping' mark _ fields) k = k.0
readonly h n NilShape k = tt
readonly h n (BoolShape b) k = tt
readonly h n (IntShape i) k = tt
readonly h n (StrShape s) k = tt
readonly h n (Error' _ detail) k = absurd k
readonly h n (FunctionShape isolated graph) k = absurd k
readonly h n (Future' _ results) k = absurd k

module _ (code : Code) (c : Common) (good : GoodCommon code c Running) (atom : ℕ) (immutable : Bool) (members : Members) where
  abbrev heap : Heap
  heap = c.world.heap

  abbrev pub added : Structure
  added = new_structure (Some atom) (not immutable) members

  abbrev pub world-then : World
  world-then = makes c.world (added ∷ [])

  abbrev pub number : ℕ
  number = length heap.structures

  pub grows : Grows heap world-then.heap
  grows = grows-by-one heap added

  abbrev d : Common
  d = with_world c world-then

  pub at-last : slice_get world-then.heap.structures number ≡ Some added
  at-last = get-last heap.structures added

  abbrev pub IsSmall : Type 0
  IsSmall = cells world-then.heap ≤ most_cells

  -- it has no more members than a shape may have
  pub short : IsSmall → size_of members < 2 ^ 63
  short small = let l : size_of members ≤ sum_by (λ (x : Structure). x.greatest + 1) world-then.heap.structures = greatest-last heap.structures added 0 in omega (arith, l, small)

  -- what is asked of its members: they are those of the atom, and so it has a shape
  pub record IsFine (definition : AtomDef) : Type 0 where
    pub known : IsInherent code atom
    pub defined : slice_get code.atoms atom ≡ Some definition
    pub belong : MembersBelong (code_types code) world-then.heap members definition
    pub made : All (IsMade code c) (values_of members)
    pub valid : AreValidMembers members
    pub apart : AreKeysApart members
    pub unmarked : IsSmall → (x : Shape) × IsValid x × IsUnmarked x × In code.atoms x (Atom atom)
    pub frozen : IsSmall → IsTrue immutable → (x : Shape) × IsValid x × HasShape world-then.heap x (Struct number) × In code.atoms x (Atom atom)

  of-not : (b : Bool) → IsFalse (not b) → IsTrue b
  of-not true e = refl
  of-not false e = absurd (let q : ⊥ = cc in q)

  module _ (definition : AtomDef) (fine : IsFine definition) (small : IsSmall) where
    new-so : IsNewStructure code c world-then good.nearly.heap grows number added
    new-so =
        record {
          mutable = λ m. (fine.known, fine.unmarked small, at-some (MembersBelong (code_types code) world-then.heap members) (slice_get code.atoms atom) definition fine.defined fine.belong);
          frozen = λ f. let (x, valid, stands, inside) = fine.frozen small (of-not immutable f) in (x, valid, stands);
          made = all-to (IsMade code c) (IsMade code d) (made-there code c world-then good.nearly.heap grows) (values_of members) fine.made;
          valid = fine.valid;
          short = short small;
          apart = fine.apart;
        }

    grown : IsGrown code c world-then good.nearly.heap grows
    grown = record { structures = λ n s e. by n s (front-or-behind heap.structures (added ∷ []) n s e); errors = λ n e is. inl is; functions = λ n f e. inl e }
      where
        by : (n : ℕ) (s : Structure) → (slice_get heap.structures n ≡ Some s) ⊎ ((m : ℕ) × (n ≡ number + m) × (slice_get (added ∷ []) m ≡ Some s)) → (slice_get heap.structures n ≡ Some s) ⊎ IsNewStructure code c world-then good.nearly.heap grows n s
        by n s (inl e) = inl e
        by n s (inr (zero, at, e)) = inr (subst (λ k. IsNewStructure code c world-then good.nearly.heap grows k s) (let q : number ≡ n = omega (arith, at) in q) (subst (λ x. IsNewStructure code c world-then good.nearly.heap grows number x) (one-there added zero s e) new-so))
        by n s (inr (suc m, at, e)) = absurd (let q : ⊥ = cc in q)

    -- it stands for shapes of its atom, that are marked where it is immutable
    of-atom : (b : Bool) → immutable ≡ b → (x : Shape) → IsValid x → StructureStands (code_types code) world-then.heap (not b) (Some atom) number x → IsMadeOf code.atoms atom b x
    of-atom false e x valid (unmarked, inside) = (inside, λ f. absurd (let q : ⊥ = cc in q))
    of-atom true e x valid stands =
        let (y, ok, has, inside) = fine.frozen small e in
        let same = one world-then.heap y x (Struct number) ok valid has stands in
        ((In-same code.atoms y x same (Atom atom)).0 inside, λ m. readonly world-then.heap number x stands)

    stands-so : (x : Shape) → IsValid x → Stands (code_types code) world-then.heap (Struct number) x → IsMadeOf code.atoms atom immutable x
    stands-so x valid h = of-atom immutable refl x valid (of-some (λ s. StructureStands (code_types code) world-then.heap s.mutable s.atom number x) (slice_get world-then.heap.structures number) added at-last h)

  pub structure-typed : (definition : AtomDef) → IsFine definition → (result : Option SemType) → ResultHas code.atoms result (IsMadeOf code.atoms atom immutable) → EffectTyped code c result (lifted c (gives_structure c.world added))
  structure-typed definition fine result has =
      within-gave code c result (Struct number ∷ []) world-then
      (λ small. gave-typed code c result (Struct number ∷ []) world-then good good.nearly.heap grows (grown definition fine small)
      (one-given code d result (IsMadeOf code.atoms atom immutable) (Struct number) has ((later code c world-then good.nearly.heap grows (grown definition fine small) None).closed good.nearly.heap.closed)
      ((let n = length-append heap.structures (added ∷ []) in omega (arith, n)), tt, tt) (λ x valid h. stands-so definition fine small x valid h)))
