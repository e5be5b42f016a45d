-- Calls of the library that make lists.
use Rattle.std.proofs.Common.{◌≡◌, ◌≤◌, ◌+◌, ◌∙◌, ℕ, ℤ, true, false, zero, suc, pos, List, [], ◌∷◌, Option, Some, None, length, map, refl, sym, ap, subst, arith}
use Rattle.std.proofs.Math.Utf8.{scalar_fits}
use Rattle.std.proofs.lemmas.Int.{ints}
use Rattle.std.proofs.lemmas.List.Elements.{All-cons, All-nil}
use Rattle.std.specs.Prelude.{All, IsSomeAnd, replicate, slice_get}
use Rattle.bal_base.specs.declared.shape.Shape.{Shape}
use Rattle.bal_base.specs.declared.text.Text.{Text}
use Rattle.bal_base.specs.Valid.{IsInt, IsText}
use Rattle.type_model.specs.declared.atoms.AtomDef.TheVariants.{List as ListAtom}
use Rattle.type_model.specs.declared.basic.SemType.{SemType, Atom}
use Rattle.type_model.specs.declared.basic.Ty.{Ty}
use Rattle.type_model.specs.Membership.{In}
use Rattle.operations.specs.declared.library.LibraryCall.{LibraryCall}
use Rattle.operations.specs.declared.library.LibraryCall.TheVariants.{Keys, ToCodePointInts}
use Rattle.operations.specs.declared.operation.Constant.TheVariants.{Int as IntConstant, Str as StrConstant}
use Rattle.operations.specs.declared.operation.Operation.TheVariants as op
use Rattle.operations.specs.Kinds.{IsInteger, IsString}
use Rattle.operations.specs.Rows.{ResultHas, Surroundings}
use Rattle.operations.specs.Structures.{IsListAtom, IsMade as IsMadeOf, ItemsFit, MayStandIn}
use Rattle.value_model.specs.declared.filler.Filler.{Filler}
use Rattle.value_model.specs.declared.panics.PanicName.TheVariants.{TooLong}
use Rattle.value_model.specs.declared.value.Value.{Value}
use Rattle.value_model.specs.declared.value.Value.TheVariants.{Int, Str, Struct}
use Rattle.value_model.specs.Heap.{Items}
use Rattle.value_model.specs.Valid.{AreValidMembers, IsValidValue}
use Rattle.op_model.specs.Common.{Common}
use Rattle.op_model.specs.Effects.{lifted}
use Rattle.op_model.specs.Library.{LibraryAnswers}
use Rattle.op_model.specs.Limits.{most_items}
use Rattle.op_model.specs.Rows.{Else, GivesList, gives_structure, new_structure, panics}
use Rattle.machine_model.specs.Runs.{Running}
use Rattle.stack_code.specs.declared.code.Code.{Code}
use Rattle.stack_code.specs.Good.{GoodCommon}
use Rattle.stack_code.specs.Places.{surroundings}
use Rattle.stack_code.specs.Tables.{IsInherent}
use Rattle.stack_code.specs.Values.{AllFit, Fits}
use Rattle.stack_code.specs.WellTyped.{WellTyped}
use Rattle.code_keeping.specs.Kinds.{Mappings, Strings}
use Rattle.code_keeping.specs.Rows.{EffectTyped, NamesWell}
use Rattle.code_keeping.proofs.Beginning.{list-of as list-atom}
use Rattle.code_keeping.proofs.Done.{row-done-at, takes-all}
use Rattle.code_keeping.proofs.Coming.{Does, RowHolds, does-else, does-unless, panics-typed}
use Rattle.code_keeping.proofs.Itself.{its-shape}
use Rattle.code_keeping.proofs.Lists.{all-at, some-there}
use Rattle.code_keeping.proofs.OfKind.{of-kind}
use Rattle.code_keeping.proofs.Operands.{a-string, mappings, one-fit, strings}
use Rattle.code_keeping.proofs.Valuing.{text-at, text-parts}
use Rattle.code_keeping_heap.proofs.Keyed.{at-mapping}
use Rattle.code_keeping_heap.proofs.Listing.{list-typed}
use Rattle.code_keeping_heap.proofs.Mapped.{a-mapping}
use Rattle.code_keeping_library.specs.Laws.{CallIsDone, ListsAreMade}
use Rattle.code_keeping_library.proofs.Calls.{Answered, does-call-at}

-- ---- lists

from-map : {A B : Type 0} (f : A → B) (xs : List A) (j : ℕ) (y : B) → slice_get (map f xs) j ≡ Some y → (x : A) × (slice_get xs j ≡ Some x) × (f x ≡ y)
from-map f [] j y e = absurd (let q : ⊥ = cc in q)
from-map f (x ∷ xs) zero y e = (x, refl, let k : Some (f x) ≡ Some y = e in (let q : f x ≡ y = cc in q))
from-map f (x ∷ xs) (suc j) y e = from-map f xs j y e

repeated : (code : Code) (c : Common) (s : SemType) (vs : List Value) → ((i : ℕ) (v : Value) → slice_get vs i ≡ Some v → Fits code c v s) → AllFit code c vs (replicate (length vs) s)
repeated code c s [] h = tt
repeated code c s (v ∷ vs) h = (h 0 v refl, repeated code c s vs (λ i v e. h (suc i) v e))

repeated-items : (code : Code) (q : Ty) (n k : ℕ) → ItemsFit code.atoms (replicate n q.sem) k [] (Some q)
repeated-items code q zero k = tt
repeated-items code q (suc n) k = ((λ x h. h.1), repeated-items code q n (k + 1))

repeated-may : (code : Code) (s : SemType) (n : ℕ) → All (MayStandIn code.atoms false) (replicate n s)
repeated-may code s zero = All-nil _
repeated-may code s (suc n) = All-cons (MayStandIn code.atoms false) s (replicate n s) (λ f. absurd (let q : ⊥ = cc in q)) (repeated-may code s n)

has-less : (code : Code) (P Q : Shape → Type 0) → ((x : Shape) → Q x → P x) → (r : Option SemType) → ResultHas code.atoms r P → ResultHas code.atoms r Q
has-less code P Q less (Some r) h = λ x ok q. h x ok (less x q)
has-less code P Q less None h = absurd h

-- ---- a list of items of a kind

module _ (code : Code) (t : WellTyped code) (c : Common) (good : GoodCommon code c Running) (result : Option SemType) (a : ℕ) (P : Shape → Type 0) (known : IsInherent code a)
    (is-list : IsListAtom code.atoms a (λ fixed rest. (fixed ≡ []) × IsSomeAnd rest (λ t. ResultHas code.atoms (Some t.sem) P))) (has : ResultHas code.atoms result (λ x. In code.atoms x (Atom a))) where
  made-of : (vs : List Value) → ((s : SemType) → ResultHas code.atoms (Some s) P → (i : ℕ) (v : Value) → slice_get vs i ≡ Some v → Fits code c v s) →
      EffectTyped code c result (lifted c (gives_structure c.world (new_structure (Some a) true (Items vs))))
  made-of vs fit =
      let (fixed, rest, ea, (empty, some)) = list-atom code.atoms a (λ fixed rest. (fixed ≡ []) × IsSomeAnd rest (λ t. ResultHas code.atoms (Some t.sem) P)) is-list in
      let (q, er, items) = some-there (λ (t : Ty). ResultHas code.atoms (Some t.sem) P) rest some in
      list-typed code t c good a false (replicate (length vs) q.sem) vs (repeated code c q.sem vs (fit q.sem items)) known [] (Some q)
      (ea ∙ (ap (λ f. Some (ListAtom f rest)) empty ∙ ap (λ r. Some (ListAtom [] r)) er)) (omega arith) (repeated-items code q (length vs) 0) (repeated-may code q.sem (length vs)) result
      (has-less code (λ x. In code.atoms x (Atom a)) (IsMadeOf code.atoms a false) (λ x made. made.0) result has)

  pub gives-list : (vs : List Value) → ((s : SemType) → ResultHas code.atoms (Some s) P → (i : ℕ) (v : Value) → slice_get vs i ≡ Some v → Fits code c v s) → Does code c good result (GivesList c.world a vs)
  gives-list vs fit =
      does-unless code c good result (length vs ≤ most_items) (panics c.world TooLong) (Else (gives_structure c.world (new_structure (Some a) true (Items vs)))) (panics-typed code c good result TooLong refl)
      (λ few. does-else code c good result (gives_structure c.world (new_structure (Some a) true (Items vs))) (made-of vs fit))

module _ (fillers : ℕ → List Filler) (code : Code) (t : WellTyped code) (place : Surroundings) (c : Common) (good : GoodCommon code c Running) where
  text-fits : (x : Text) → IsText x → (s : SemType) → ResultHas code.atoms (Some s) IsString → Fits code c (Str x) s
  text-fits x text s has = (good.nearly.heap.closed, (tt, text, tt), (λ y ok st. has y ok (subst IsString (sym (its-shape code c (StrConstant x) y st)) tt)))

  int-fits : (n : ℤ) → IsInt n → (s : SemType) → ResultHas code.atoms (Some s) IsInteger → Fits code c (Int n) s
  int-fits n int s has = (good.nearly.heap.closed, (tt, int, tt), (λ y ok st. has y ok (n, its-shape code c (IntConstant n) y st)))

module _ (fillers : ℕ → List Filler) (code : Code) (t : WellTyped code) (place : Surroundings) (c : Common) where
  abbrev pub Row : LibraryCall → Type 0
  Row call = (atom : Option ℕ) (count : ℕ) → NamesWell code (op.Library call atom count) → RowHolds code fillers LibraryAnswers c place (op.Library call atom count)

  -- the keys of a mapping
  pub keys : Row Keys
  keys None count names operands result vs caller good (long, typed) fit = one-fit code c (Answered fillers code t place c Keys None count caller result) operands vs _ typed fit (λ a v (within, never) f. absurd never)
  keys (Some m) count names operands result vs caller good (long, typed) fit =
      one-fit code c (Answered fillers code t place c Keys (Some m) count caller result) operands vs _ typed fit
      (λ a v (within, (is-list, has)) f. a-mapping c.world.heap (λ z. Answered fillers code t place c Keys (Some m) count caller result (z ∷ [])) v (of-kind code t c good.nearly.heap (λ k. k ≡ Mappings) v a f (λ x h. mappings x (within x h)))
      (λ n s es e is. does-call-at fillers code t place c good result Keys (Some m) count caller (Struct n ∷ [])
      (at-mapping code t c good result n s es e is (λ s es came. GivesList c.world m (map (λ (e : Text × Value). Str e.0) es) came)
      (gives-list code t c good result m IsString (names.atoms 0 0 (omega arith)) is-list has (map (λ (e : Text × Value). Str e.0) es)
      (λ r items i v ev.
      let (x, ex, same) = from-map (λ (e : Text × Value). Str e.0) es i v ev in
      let valid = subst AreValidMembers is (all-at (λ s. AreValidMembers s.members) c.world.heap.structures n s good.nearly.heap.valid.members e) in
      subst (λ z. Fits code c z r) same (text-fits fillers code t place c good x.0 (all-at (λ (e : Text × Value). IsText e.0 × IsValidValue e.1) es i x valid ex).0 r items))))))

  char-int : (s : Text) (i ch : ℕ) → slice_get s i ≡ Some ch → IsText s → IsInt (pos ch)
  char-int s i ch e text = let lt = scalar_fits ch (text-parts ch [] (text-at s i ch e text)).0 in (omega (arith, ints, lt), omega (arith, ints, lt))

  -- the characters of a string as ints
  pub code-points : Row ToCodePointInts
  code-points None count names operands result vs caller good (long, typed) fit = one-fit code c (Answered fillers code t place c ToCodePointInts None count caller result) operands vs _ typed fit (λ a v (within, never) f. absurd never)
  code-points (Some m) count names operands result vs caller good (long, typed) fit =
      one-fit code c (Answered fillers code t place c ToCodePointInts (Some m) count caller result) operands vs _ typed fit
      (λ a v (within, (is-list, has)) f. a-string c.world.heap (λ z. Fits code c z a → Answered fillers code t place c ToCodePointInts (Some m) count caller result (z ∷ [])) v (of-kind code t c good.nearly.heap (λ k. k ≡ Strings) v a f (λ x h. strings x (within x h)))
      (λ s fs. does-call-at fillers code t place c good result ToCodePointInts (Some m) count caller (Str s ∷ [])
      (gives-list code t c good result m IsInteger (names.atoms 0 0 (omega arith)) is-list has (map (λ c. Int (pos c)) s)
      (λ r items i v ev.
      let (x, ex, same) = from-map (λ (c : ℕ). Int (pos c)) s i v ev in
      subst (λ z. Fits code c z r) same (int-fits fillers code t place c good (pos x) (char-int s i x ex fs.1.1) r items)))) f)

pub of-row : (call : LibraryCall) → ((fillers : ℕ → List Filler) (code : Code) (t : WellTyped code) (place : Surroundings) (c : Common) → Row fillers code t place c call) → CallIsDone call
of-row call row fillers atom count code c t =
    row-done-at LibraryAnswers fillers code c t (op.Library call atom count) refl (λ h. h) (takes-all count (op.Library call atom count) (λ captured l. refl) (λ code place os r h. h.0))
    (λ u station names. row fillers code t (surroundings code u station) c atom count names)

pub lists-are-made : ListsAreMade
lists-are-made = (of-row Keys keys, of-row ToCodePointInts code-points)
