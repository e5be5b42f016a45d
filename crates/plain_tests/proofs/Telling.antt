-- Whether a value belongs to a type, from what is told of its shape and of its atom.
use Rattle.std.proofs.Common.{◌≡◌, ◌↔◌, ℕ, ◌<◌, Bool, true, false, IsTrue, List, Option, Some, None, IsSomeAnd, length, is_none, slice_get, option_and_then, option_map, refl, sym, ap, subst}
use Rattle.std.specs.Prelude.{if◌then◌else◌}
use Rattle.std.proofs.lemmas.Bool.{false≢true}
use Rattle.std.proofs.lemmas.Option.{none-some, same_Some}
use Rattle.bal_base.specs.declared.shape.Shape.{Shape}
use Rattle.type_model.specs.declared.basic.SemType.{SemType, Atom}
use Rattle.type_model.specs.declared.basic.Ty.{Ty}
use Rattle.type_model.specs.declared.atoms.AtomDef.{AtomDef}
use Rattle.type_model.specs.Inclusion.{AnswersSub, Sub}
use Rattle.type_model.specs.Membership.{In}
use Rattle.type_model.proofs.SameShapes.{In-same}
use Rattle.subtype_decider.proofs.Answering.{answer_of}
use Rattle.value_model.specs.declared.value.Value.{Value}
use Rattle.value_model.specs.declared.value.Value.TheVariants.{Nil, Bool as Truth, Int, Str, Struct, Error, Function, Future}
use Rattle.value_model.specs.Heap.{Heap as ModelHeap, Structure, FunctionObject}
use Rattle.value_model.specs.Stands.{HasShape, IsUnmarked, OwnTypes, StructureStands}
use Rattle.op_model.specs.ProgramFacts.{own_types}
use Rattle.plain_run.specs.declared.facts.ProgramFacts.{ProgramFacts}
use Rattle.plain_run.specs.declared.held.Heap.{Heap}
use Rattle.plain_run.specs.ProgramFacts.{facts_of}
use Rattle.plain_run.specs.Held.{heap_of}
use Rattle.plain_tests.specs.Own.{TellsAtomIf, TellsMutableIf, arrow_at, arrow_of, future_of, mutable_at, mutable_in}
use Rattle.plain_tests.specs.Shapes.{FindsShape, TellsOne, frozen_in}
use Rattle.plain_tests.specs.Tells.{IsOfMutable, Tells, TellsIf, TellsIfOne}
use Rattle.plain_tests.proofs.Finding.{has_held}
use Rattle.value_model.proofs.OneShape.{one}

-- ---- the answer of a question

-- no shape was found: all are in the other
pub none_found : (env : List AtomDef) (s t : SemType) (found : Option Shape) → AnswersSub env s t (answer_of found) → IsTrue (is_none found) ↔ Sub env s t
none_found env s t None sub = (λ _. sub, λ _. refl)
none_found env s t (Some x) out = (λ e. absurd (false≢true e), λ sub. absurd (out.1 (sub x out.0.0 out.0.1)))

-- ---- the one shape

module _ (h : ModelHeap) (atoms : List AtomDef) (v : Value) (t : SemType) where
  pub no_shape_told : FindsShape h v None → TellsOne h atoms v t true
  no_shape_told none = (λ _ x valid has. absurd (none x valid has), λ _. refl)

  pub shape_told : (x : Shape) (holds : Bool) → FindsShape h v (Some x) → IsTrue holds ↔ In atoms x t → TellsOne h atoms v t holds
  shape_told x holds found is =
      (λ yes y valid has. (In-same atoms x y (one h x y v found.0 valid found.1 has) t).0 (is.0 yes), λ all. is.1 (all x found.0 found.1))

module _ (facts : ProgramFacts) (heap : Heap) where
  abbrev own : OwnTypes
  own = own_types (facts_of facts)

  abbrev h : ModelHeap
  h = heap_of heap

  -- ---- simple values and errors

  pub one_told : (v : Value) (t : SemType) (holds : Bool) → TellsOne h facts.atoms.now v t holds → TellsIfOne facts heap v t (Some holds)
  one_told Nil t holds tells = tells
  one_told (Truth b) t holds tells = tells
  one_told (Int i) t holds tells = tells
  one_told (Str s) t holds tells = tells
  one_told (Struct n) t holds tells = tt
  one_told (Error n) t holds tells = tells
  one_told (Function n) t holds tells = tt
  one_told (Future strand unit) t holds tells = tt

  -- ---- structures

  frozen-stands : (n : ℕ) (o : Option Structure) → slice_get h.structures n ≡ o → option_and_then mutable_in o ≡ None → (x : Shape) → IsSomeAnd o (λ s. StructureStands own h s.mutable s.atom n x) ↔ HasShape h x (Struct n)
  frozen-stands n None at none x = ((λ p. absurd p), λ has. has_held h n None (ap (option_and_then frozen_in) at) x has)
  frozen-stands n (Some s) at none x = by s.mutable none
    where
      by : (b : Bool) → (if b then Some s.atom else None) ≡ None → StructureStands own h b s.atom n x ↔ HasShape h x (Struct n)
      by true none = absurd (none-some s.atom (sym none))
      by false none = (λ p. p, λ p. p)

  pub frozen_told : (n : ℕ) (t : SemType) (holds : Bool) → mutable_at h n ≡ None → TellsOne h facts.atoms.now (Struct n) t holds → Tells facts heap (Struct n) t (Some holds)
  frozen_told n t holds at tells =
      let same = frozen-stands n (slice_get h.structures n) refl at in
      (λ yes x valid p. tells.0 yes x valid ((same x).0 p), λ all. tells.1 (λ x valid has. all x valid ((same x).1 has)))

  abbrev Mutable : Option (Option ℕ) → Shape → Type 0
  Mutable o x = IsSomeAnd o (λ atom. IsUnmarked x × IsSomeAnd atom (λ a. In own.atoms x (Atom a)))

  mutable-stands : (n : ℕ) (o : Option Structure) (atom : Option ℕ) → option_and_then mutable_in o ≡ Some atom → (x : Shape) → IsSomeAnd o (λ s. StructureStands own h s.mutable s.atom n x) ↔ (IsUnmarked x × IsSomeAnd atom (λ a. In own.atoms x (Atom a)))
  mutable-stands n None atom at x = cc
  mutable-stands n (Some s) atom at x = by s.mutable at
    where
      by : (b : Bool) → (if b then Some s.atom else None) ≡ Some atom → StructureStands own h b s.atom n x ↔ (IsUnmarked x × IsSomeAnd atom (λ a. In own.atoms x (Atom a)))
      by true at = subst (λ o. (IsUnmarked x × IsSomeAnd s.atom (λ a. In own.atoms x (Atom a))) ↔ (IsUnmarked x × IsSomeAnd o (λ a. In own.atoms x (Atom a)))) (same_Some s.atom atom at) (λ p. p, λ p. p)
      by false at = cc

  own-type : (n : ℕ) (s : SemType) (o : Option Structure) (atom : Option ℕ) → option_and_then mutable_in o ≡ Some atom → IsSomeAnd atom (λ a. IsSomeAnd (slice_get own.atoms a) (λ d. IsOfMutable a d s)) → IsSomeAnd o (λ x. IsTrue x.mutable × IsSomeAnd x.atom (λ a. IsSomeAnd (slice_get own.atoms a) (λ d. IsOfMutable a d s)))
  own-type n s None atom at is = cc
  own-type n s (Some x) atom at is = by x.mutable refl at
    where
      by : (b : Bool) → x.mutable ≡ b → (if b then Some x.atom else None) ≡ Some atom → IsTrue x.mutable × IsSomeAnd x.atom (λ a. IsSomeAnd (slice_get own.atoms a) (λ d. IsOfMutable a d s))
      by true e at = (e, subst (λ o. IsSomeAnd o (λ a. IsSomeAnd (slice_get own.atoms a) (λ d. IsOfMutable a d s))) (sym (same_Some x.atom atom at)) is)
      by false e at = cc

  pub mutable_told : (n : ℕ) (t : SemType) (atom : Option ℕ) (told : Option Bool) → mutable_at h n ≡ Some atom → TellsMutableIf facts.atoms.now atom t told → Tells facts heap (Struct n) t told
  mutable_told n t atom (Some holds) at tells =
      let same = mutable-stands n (slice_get h.structures n) atom at in
      (λ yes x valid p. tells.0 yes x valid ((same x).0 p), λ all. tells.1 (λ x valid p. all x valid ((same x).1 p)))
  mutable_told n t atom None at (s, is, undecided) = (s, own-type n s (slice_get h.structures n) atom at is, undecided)

  -- ---- functions and futures

  function-is : (P : ℕ → Type 0) (o : Option FunctionObject) → IsSomeAnd o (λ f. IsSomeAnd (slice_get own.units f.unit) (λ u. P u.0)) ↔ IsSomeAnd (option_and_then (λ f. arrow_of own f.unit) o) P
  function-is P None = (λ p. p, λ p. p)
  function-is P (Some f) = by (slice_get own.units f.unit)
    where
      by : (o : Option (ℕ × ℕ)) → IsSomeAnd o (λ u. P u.0) ↔ IsSomeAnd (option_map (λ u. u.0) o) P
      by None = (λ p. p, λ p. p)
      by (Some u) = (λ p. p, λ p. p)

  future-is : (P : ℕ → Type 0) (o : Option (ℕ × ℕ)) → IsSomeAnd o (λ u. P u.1) ↔ IsSomeAnd (option_map (λ u. u.1) o) P
  future-is P None = (λ p. p, λ p. p)
  future-is P (Some u) = (λ p. p, λ p. p)

  pub function_told : (n : ℕ) (t : SemType) (told : Option Bool) → TellsAtomIf facts.atoms.now (arrow_at own h n) t told → Tells facts heap (Function n) t told
  function_told n t (Some holds) tells =
      let same : (x : Shape) → _ = λ x. function-is (λ a. In own.atoms x (Atom a)) (slice_get h.functions n) in
      (λ yes x valid p. tells.0 yes x valid ((same x).0 p), λ all. tells.1 (λ x valid p. all x valid ((same x).1 p)))
  function_told n t None (s, is, undecided) = (s, (function-is (λ a. (a < length own.atoms) × (s ≡ Atom a)) (slice_get h.functions n)).1 is, undecided)

  pub future_told : (strand unit : ℕ) (t : SemType) (told : Option Bool) → TellsAtomIf facts.atoms.now (future_of own unit) t told → Tells facts heap (Future strand unit) t told
  future_told strand unit t (Some holds) tells =
      let same : (x : Shape) → _ = λ x. future-is (λ a. In own.atoms x (Atom a)) (slice_get own.units unit) in
      (λ yes x valid p. tells.0 yes x valid ((same x).0 p), λ all. tells.1 (λ x valid p. all x valid ((same x).1 p)))
  future_told strand unit t None (s, is, undecided) = (s, (future-is (λ a. (a < length own.atoms) × (s ≡ Atom a)) (slice_get own.units unit)).1 is, undecided)

  -- ---- a type that is there

  pub told_there : (v : Value) (u : Ty) (t : Option Ty) (told : Option Bool) → t ≡ Some u → Tells facts heap v u.sem told → TellsIf facts heap v t told
  told_there v u t told e is = subst (λ o. TellsIf facts heap v o told) (sym e) (by told is)
    where
      by : (o : Option Bool) → Tells facts heap v u.sem o → TellsIf facts heap v (Some u) o
      by (Some b) is = is
      by None is = is
