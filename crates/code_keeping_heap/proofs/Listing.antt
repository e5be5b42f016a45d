-- Lists are made.
use Rattle.std.proofs.Common.{◌≡◌, ◌<◌, ◌≤◌, ◌+◌, ◌^◌, ℕ, zero, suc, Bool, true, false, List, [], ◌∷◌, Option, Some, length, refl, ap, subst, arith}
use Rattle.std.specs.Prelude.{All, not, slice_get}
use Rattle.std.specs.List.{AllZip}
use Rattle.bal_base.specs.declared.shape.Shape.{Shape}
use Rattle.bal_base.specs.Valid.{IsFrozen, IsValid}
use Rattle.type_model.specs.declared.atoms.AtomDef.TheVariants.{List as ListAtom}
use Rattle.type_model.specs.declared.basic.SemType.{SemType}
use Rattle.type_model.specs.declared.basic.Ty.{Ty}
use Rattle.type_model.specs.Membership.{In}
use Rattle.type_model.specs.Places.{item_type}
use Rattle.operations.specs.declared.operation.Operation.TheVariants as op
use Rattle.operations.specs.Rows.{IsWithin, ResultHas}
use Rattle.operations.specs.Structures.{IsMade as IsMadeOf, ItemsFit, MayStandIn}
use Rattle.value_model.specs.declared.filler.Filler.{Filler}
use Rattle.value_model.specs.declared.value.Value.{Value}
use Rattle.value_model.specs.Heap.{Heap, Items}
use Rattle.value_model.specs.Meaning.{Answers}
use Rattle.value_model.specs.Stands.{Belongs, BelongsIf, HasShape}
use Rattle.value_model.specs.World.{World}
use Rattle.value_model.proofs.Stability.{HasShape-stable}
use Rattle.op_model.specs.Common.{Common}
use Rattle.op_model.specs.Effects.{lifted}
use Rattle.op_model.specs.StructureRows.{makes_list}
use Rattle.machine_model.specs.Runs.{Running}
use Rattle.machine_model.proofs.Once.{some-same}
use Rattle.stack_code.specs.declared.code.Code.{Code}
use Rattle.stack_code.specs.declared.code.Unit.{Unit as CodeUnit}
use Rattle.stack_code.specs.Good.{GoodCommon}
use Rattle.stack_code.specs.Places.{Station, surroundings}
use Rattle.stack_code.specs.Tables.{IsInherent}
use Rattle.stack_code.specs.Values.{AllFit, Fits, IsMade, code_types}
use Rattle.stack_code.specs.WellTyped.{WellTyped}
use Rattle.code_keeping.specs.Rows.{EffectTyped, NamesWell}
use Rattle.code_keeping.proofs.Beginning.{list-of as list-atom}
use Rattle.code_keeping.proofs.Coming.{RowHolds, at-once}
use Rattle.code_keeping.proofs.Growing.{belongs-there}
use Rattle.code_keeping.proofs.Lists.{all-at, some-to, zip-to}
use Rattle.code_keeping.proofs.Serving.{all-to, all-zipped}
use Rattle.code_keeping_heap.proofs.Adding.{IsFine, IsSmall, added, at-last, grows, number, short, structure-typed, world-then}
use Rattle.code_keeping_heap.proofs.Shaping.{IsShown, all-frozen, all-shown, list-in, list-of, list-stands, list-valid, zip-long, zip-second}

module _ (code : Code) (t : WellTyped code) (c : Common) (good : GoodCommon code c Running) (atom : ℕ) (immutable : Bool) (operands : List SemType) (vs : List Value) (fit : AllFit code c vs operands) (known : IsInherent code atom)
    (fixed : List Ty) (rest : Option Ty) (ea : slice_get code.atoms atom ≡ Some (ListAtom fixed rest)) (long : length fixed ≤ length vs) (each : ItemsFit code.atoms operands 0 fixed rest) (may : All (MayStandIn code.atoms immutable) operands) where
  abbrev heap : Heap
  heap = c.world.heap

  abbrev w : World
  w = world-then code c good atom immutable (Items vs)

  made-all : All (IsMade code c) vs
  made-all = all-zipped (Fits code c) (IsMade code c) (λ v s k. k.1) vs operands fit

  -- each item belongs to its place
  place-so : (vs : List Value) (ts : List SemType) (k : ℕ) → AllFit code c vs ts → ItemsFit code.atoms ts k fixed rest → (i : ℕ) (v : Value) → slice_get vs i ≡ Some v → BelongsIf (code_types code) heap v (item_type fixed rest (k + i))
  place-so [] ts k fit each i v e = absurd (let q : ⊥ = cc in q)
  place-so (x ∷ vs) [] k fit each i v e = absurd fit
  place-so (x ∷ vs) (s ∷ ts) k (f, fit) (within, each) zero v e =
      subst (λ n. BelongsIf (code_types code) heap v (item_type fixed rest n)) (omega arith)
      (some-to (λ u. IsWithin code.atoms (λ y. In code.atoms y u.sem) s) (λ u. Belongs (code_types code) heap v u.sem) (item_type fixed rest k)
      (λ u below. subst (λ z. Belongs (code_types code) heap z u.sem) (some-same x v e) (λ y valid stands. below y (valid, f.2 y valid stands))) within)
  place-so (x ∷ vs) (s ∷ ts) k (f, fit) (within, each) (suc i) v e = subst (λ n. BelongsIf (code_types code) heap v (item_type fixed rest n)) (omega arith) (place-so vs ts (k + 1) fit each i v e)

  belong : (i : ℕ) (v : Value) → slice_get vs i ≡ Some v → BelongsIf (code_types code) heap v (item_type fixed rest i)
  belong i v e = subst (λ n. BelongsIf (code_types code) heap v (item_type fixed rest n)) (omega arith) (place-so vs operands 0 fit each i v e)

  belong-there : (i : ℕ) (v : Value) → slice_get vs i ≡ Some v → BelongsIf (code_types code) w.heap v (item_type fixed rest i)
  belong-there i v e =
      some-to (λ u. Belongs (code_types code) heap v u.sem) (λ u. Belongs (code_types code) w.heap v u.sem) (item_type fixed rest i)
      (λ u b. belongs-there code c w good.nearly.heap (grows code c good atom immutable (Items vs)) v u.sem (all-at (IsMade code c) vs i v made-all e).0 b) (belong i v e)

  few : IsSmall code c good atom immutable (Items vs) → (P : Value → Shape → Type 0) (xs : List Shape) → AllZip P vs xs → length xs < 2 ^ 63
  few small P xs zip = subst (λ n. n < 2 ^ 63) (zip-long P vs xs zip) (short code c good atom immutable (Items vs) small)

  fine : IsFine code c good atom immutable (Items vs) (ListAtom fixed rest)
  fine =
      record {
        known = known;
        defined = ea;
        belong = (long, belong-there);
        made = made-all;
        apart = tt;
        valid = all-to (IsMade code c) _ (λ v m. m.1) vs made-all;
        unmarked = λ small.
            let (xs, shown) = all-shown code c t good.nearly.heap vs made-all in
            let little = few small (IsShown code c) xs shown in
            (list-of false xs little, list-valid false xs little (λ f. absurd (let q : ⊥ = cc in q)) (zip-second (IsShown code c) IsValid (λ v x k. k.0) vs xs shown), refl, list-in code c false vs xs little fixed rest atom ea shown long belong);
        frozen = λ small is.
            let (xs, shown) = all-frozen code t c good.nearly.heap vs operands fit (all-to (MayStandIn code.atoms immutable) (IsWithin code.atoms IsFrozen) (λ s h. h is) operands may) in
            let little = few small _ xs shown in (
              list-of true xs little,
              list-valid true xs little (λ m. zip-second _ IsFrozen (λ v x k. k.1) vs xs shown) (zip-second _ IsValid (λ v x k. k.0.0) vs xs shown),
              list-stands w.heap (number code c good atom immutable (Items vs)) (added code c good atom immutable (Items vs)) vs xs little (at-last code c good atom immutable (Items vs)) (ap not is) refl (still vs xs made-all shown),
              list-in code c true vs xs little fixed rest atom ea (zip-to _ (IsShown code c) (λ v x k. k.0) vs xs shown) long belong,
            );
      }
    where
      still : (vs : List Value) (xs : List Shape) → All (IsMade code c) vs → AllZip (λ v x. IsShown code c v x × IsFrozen x × HasShape heap x v) vs xs → AllZip (λ v x. HasShape w.heap x v) vs xs
      still [] [] made h = tt
      still [] (x ∷ xs) made h = absurd h
      still (v ∷ vs) [] made h = absurd h
      still (v ∷ vs) (x ∷ xs) made (k, h) = ((HasShape-stable heap w.heap good.nearly.heap.closed (grows code c good atom immutable (Items _)) x v (made 0 v (omega arith)).0).0 k.2, still vs xs (λ i d l. made (suc i) d (omega (arith, l))) h)

  pub list-typed : (result : Option SemType) → ResultHas code.atoms result (IsMadeOf code.atoms atom immutable) → EffectTyped code c result (lifted c (makes_list c.world atom immutable vs))
  list-typed result has = structure-typed code c good atom immutable (Items vs) (ListAtom fixed rest) fine result has

pub make-list : (fillers : ℕ → List Filler) (natives : Answers) (code : Code) → WellTyped code → (c : Common) (u : CodeUnit) (station : Station) (atom count : ℕ) (immutable : Bool) → NamesWell code (op.MakeList atom immutable count) →
    RowHolds code fillers natives c (surroundings code u station) (op.MakeList atom immutable count)
make-list fillers natives code t c u station atom count immutable names operands result vs caller good (many, is-list, may, has) fit =
    let (fixed, rest, ea, bounds) = list-atom code.atoms atom (λ fixed rest. (length fixed ≤ count) × ItemsFit code.atoms operands 0 fixed rest) is-list in
    let as-many = zip-long (Fits code c) vs operands fit in
    at-once code c good result (makes_list c.world atom immutable vs)
    (list-typed code t c good atom immutable operands vs fit (names.atoms 0 0 (omega arith)) fixed rest ea (let q : length fixed ≤ length vs = omega (arith, bounds.0, many, as-many) in q) bounds.1 may result has)
