-- The arguments of a call of a function value fit the parameters of its unit, where those past the others go into a new list.
use Rattle.std.proofs.Common.{◌≡◌, ◌≤◌, ◌<◌, ◌+◌, ◌-◌, ◌^◌, ◌∙◌, ℕ, zero, suc, true, false, List, [], ◌∷◌, ◌++◌, Option, Some, None, inl, inr, drop, length, map, refl, sym, ap, subst, take, arith}
use Rattle.std.proofs.Math.Seq.{take-append_seam}
use Rattle.std.proofs.lemmas.List.{length-append, length-map, length-take-le, take_all}
use Rattle.std.proofs.lemmas.List.Elements.{All-cons, All-head, All-nil}
use Rattle.std.proofs.lemmas.Option.{slice_get_past}
use Rattle.std.specs.Prelude.{◌⊎◌, All, IsSomeAnd, if◌then◌else◌, nat_le, option_to_list, replicate, slice_get}
use Rattle.std.specs.List.{AllZip}
use Rattle.bal_base.specs.declared.shape.Shape.{Shape}
use Rattle.bal_base.specs.Valid.{IsValid}
use Rattle.type_model.specs.declared.basic.SemType.{SemType, Atom}
use Rattle.type_model.specs.declared.basic.Ty.{Ty}
use Rattle.type_model.specs.declared.atoms.AtomDef.TheVariants.{List as ListAtom}
use Rattle.type_model.specs.Inclusion.{HaveSameShapes}
use Rattle.type_model.specs.Membership.{In}
use Rattle.type_model.specs.Places.{item_type, or_rest}
use Rattle.operations.specs.Rows.{NeverFails}
use Rattle.operations.specs.Structures.{IsListAtom, ItemsFit, MayStandIn}
use Rattle.value_model.specs.declared.value.Value.{Value}
use Rattle.value_model.specs.declared.value.Value.TheVariants.{Function, Struct}
use Rattle.value_model.specs.Heap.{FunctionObject, cells}
use Rattle.value_model.specs.Stands.{Stands}
use Rattle.value_model.specs.World.{Gave, PassesCells}
use Rattle.op_model.specs.CallRows.{passed, with_rest}
use Rattle.op_model.specs.Common.{Common, Role}
use Rattle.op_model.specs.Effects.{lifted, with_world}
use Rattle.op_model.specs.Limits.{most_cells}
use Rattle.op_model.specs.Rows.{next_structure}
use Rattle.op_model.specs.StructureRows.{makes_list}
use Rattle.machine_model.specs.Keeping.{KeepsStrands}
use Rattle.machine_model.specs.Runs.{Running}
use Rattle.machine_model.proofs.Once.{some-same}
use Rattle.stack_code.specs.declared.code.Code.{Code}
use Rattle.stack_code.specs.declared.code.Unit.{Unit as CodeUnit}
use Rattle.stack_code.specs.Good.{GoodCommon, IsLater}
use Rattle.stack_code.specs.Tables.{HasRest, IsInherent, IsRestOf, LastIs, single_params}
use Rattle.stack_code.specs.Values.{AllFit, Fits, IsMade, code_types}
use Rattle.stack_code.specs.WellTyped.{WellTyped}
use Rattle.code_keeping.specs.Rows.{EffectTyped}
use Rattle.code_keeping.proofs.Beginning.{list-of as list-atom}
use Rattle.code_keeping.proofs.Changing.{below-or-not}
use Rattle.code_keeping.proofs.Lists.{all-at, at-some, some-there, there, zip-both, zip-then}
use Rattle.code_keeping.proofs.Staying.{all-later, same}
use Rattle.code_keeping_heap.proofs.Listing.{list-typed}
use Rattle.code_keeping_heap.proofs.Shaping.{zip-at, zip-long}
use Rattle.code_keeping_calls.proofs.Arrows.{ItsArrow, all-made, arrow, long-enough, place-so, shown}

-- ---- lists

zip-by : {A B : Type 0} (P : A → B → Type 0) (xs : List A) (ys : List B) → length xs ≡ length ys → ((i : ℕ) (x : A) (y : B) → slice_get xs i ≡ Some x → slice_get ys i ≡ Some y → P x y) → AllZip P xs ys
zip-by P [] [] e h = tt
zip-by P [] (y ∷ ys) e h = absurd (omega (arith, e))
zip-by P (x ∷ xs) [] e h = absurd (omega (arith, e))
zip-by P (x ∷ xs) (y ∷ ys) e h = (h 0 x y refl refl, zip-by P xs ys (omega (arith, e)) (λ i x y ex ey. h (suc i) x y ex ey))

get-take : {A : Type 0} (m : ℕ) (xs : List A) (i : ℕ) (x : A) → slice_get (take m xs) i ≡ Some x → slice_get xs i ≡ Some x
get-take zero xs i x e = absurd (let q : ⊥ = cc in q)
get-take (suc m) [] i x e = absurd (let q : ⊥ = cc in q)
get-take (suc m) (y ∷ xs) zero x e = e
get-take (suc m) (y ∷ xs) (suc i) x e = get-take m xs i x e

get-drop : {A : Type 0} (m : ℕ) (xs : List A) (i : ℕ) (x : A) → slice_get (drop m xs) i ≡ Some x → slice_get xs (m + i) ≡ Some x
get-drop zero xs i x e = subst (λ k. slice_get xs k ≡ Some x) (let q : i ≡ 0 + i = omega arith in q) e
get-drop (suc m) [] i x e = absurd (let q : ⊥ = cc in q)
get-drop (suc m) (y ∷ xs) i x e = subst (λ k. slice_get (y ∷ xs) k ≡ Some x) (let q : suc (m + i) ≡ suc m + i = omega arith in q) (get-drop m xs i x e)

from-map : {A B : Type 0} (f : A → B) (xs : List A) (j : ℕ) (y : B) → slice_get (map f xs) j ≡ Some y → (x : A) × (slice_get xs j ≡ Some x) × (f x ≡ y)
from-map f [] j y e = absurd (let q : ⊥ = cc in q)
from-map f (x ∷ xs) zero y e = (x, refl, let k : Some (f x) ≡ Some y = e in (let q : f x ≡ y = cc in q))
from-map f (x ∷ xs) (suc j) y e = from-map f xs j y e

-- as many of one type as there are values
repeated : (code : Code) (c : Common) (s : SemType) (vs : List Value) → ((i : ℕ) (v : Value) → slice_get vs i ≡ Some v → Fits code c v s) → AllFit code c vs (replicate (length vs) s)
repeated code c s [] h = tt
repeated code c s (v ∷ vs) h = (h 0 v refl, repeated code c s vs (λ i v e. h (suc i) v e))

repeated-items : (code : Code) (q : Ty) (n k : ℕ) → ItemsFit code.atoms (replicate n q.sem) k [] (Some q)
repeated-items code q zero k = tt
repeated-items code q (suc n) k = ((λ x h. h.1), repeated-items code q n (k + 1))

repeated-may : (code : Code) (s : SemType) (n : ℕ) → All (MayStandIn code.atoms false) (replicate n s)
repeated-may code s zero = All-nil _
repeated-may code s (suc n) = All-cons (MayStandIn code.atoms false) s (replicate n s) (λ f. absurd (let q : ⊥ = cc in q)) (repeated-may code s n)

module _ (code : Code) (t : WellTyped code) (c : Common) (good : GoodCommon code c Running) (n : ℕ) (o : FunctionObject) (eo : slice_get c.world.heap.functions n ≡ Some o) (u : CodeUnit) (eu : slice_get code.units o.unit ≡ Some u)
    (a : SemType) (args : List SemType) (fv : Fits code c (Function n) a) (vs : List Value) (fit : AllFit code c vs args) (few : length vs < 2 ^ 63) (never : NeverFails code.atoms a args) where
  abbrev its : ItsArrow code u
  its = arrow code t c good.nearly.heap n o eo u eu a args fv vs fit few never

  -- ---- the arguments one by one

  placed : (i : ℕ) (v : Value) → slice_get vs i ≡ Some v → (x : Shape) → IsValid x → Stands (code_types code) c.world.heap v x → IsSomeAnd (item_type its.fixed its.rest i) (λ q. In code.atoms x q.sem)
  placed i v ev x ok stands = place-so code t c good.nearly.heap n o eo u eu a args fv vs fit few never i v ev x ok stands

  as-few : length its.fixed ≤ length vs
  as-few = long-enough code t c good.nearly.heap n o eo u eu a args fv vs fit few never

  -- one at a place of its own
  in-fixed : (i : ℕ) (v : Value) (q : Ty) → slice_get vs i ≡ Some v → slice_get its.fixed i ≡ Some q → Fits code c v q.sem
  in-fixed i v q ev eq = (
    good.nearly.heap.closed,
    all-at (IsMade code c) vs i v (all-made code t c good.nearly.heap n o eo u eu a args fv vs fit few never) ev,
    (λ x ok stands. subst (λ z. IsSomeAnd z (λ q. In code.atoms x q.sem)) (ap (λ z. or_rest z its.rest) eq) (placed i v ev x ok stands)),
  )

  -- one behind these
  in-rest : (i : ℕ) (v : Value) (q : Ty) → slice_get vs i ≡ Some v → length its.fixed ≤ i → its.rest ≡ Some q → Fits code c v q.sem
  in-rest i v q ev le er = (
    good.nearly.heap.closed,
    all-at (IsMade code c) vs i v (all-made code t c good.nearly.heap n o eo u eu a args fv vs fit few never) ev,
    (λ x ok stands. subst (λ z. IsSomeAnd z (λ q. In code.atoms x q.sem)) (ap (λ z. or_rest z its.rest) (slice_get_past its.fixed i le) ∙ er) (placed i v ev x ok stands)),
  )

  -- there is none behind, where the unit takes no more
  no-more : its.rest ≡ None → length vs ≤ length its.fixed
  no-more er = by (below-or-not (length its.fixed) (length vs))
    where
      by : (length its.fixed < length vs) ⊎ (length vs ≤ length its.fixed) → length vs ≤ length its.fixed
      by (inr le) = le
      by (inl lt) =
          let (v, ev) = there vs (length its.fixed) lt in
          let (xs, zip) = shown code t c good.nearly.heap n o eo u eu a args fv vs fit few never in
          let (x, ex) = there xs (length its.fixed) (subst (λ k. length its.fixed < k) (zip-long _ vs xs zip) lt) in
          let (w, ew, is) = zip-at _ vs xs (length its.fixed) x zip ex in
          let same : w ≡ v = some-same w v (sym ew ∙ ev) in
          absurd (subst (λ z. IsSomeAnd z (λ q. In code.atoms x q.sem)) (ap (λ z. or_rest z its.rest) (slice_get_past its.fixed (length its.fixed) (omega arith)) ∙ er) (placed (length its.fixed) w ew x is.0 is.1))

  -- those at places of their own
  front-fit : AllFit code c (take (length its.fixed) vs) (single_params code u)
  front-fit =
      zip-then (Fits code c) (HaveSameShapes code.atoms) (Fits code c) (λ v s z f same. (f.0, f.1, (λ x ok stands. (same x ok).0 (f.2 x ok stands)))) (take (length its.fixed) vs) (map (λ q. q.sem) its.fixed) (single_params code u)
      (zip-by (Fits code c) (take (length its.fixed) vs) (map (λ q. q.sem) its.fixed) (length-take-le (length its.fixed) vs as-few ∙ sym (length-map its.fixed (λ q. q.sem)))
      (λ i v s ev es. let (q, eq, is) = from-map (λ q. q.sem) its.fixed i s es in subst (λ z. Fits code c v z) is (in-fixed i v q (get-take (length its.fixed) vs i v ev) eq)))
      its.params

  single-long : length its.fixed ≡ length (single_params code u)
  single-long = sym (length-map its.fixed (λ q. q.sem)) ∙ zip-long (HaveSameShapes code.atoms) (map (λ q. q.sem) its.fixed) (single_params code u) its.params

  -- ---- what is passed

  pub record Passed (d : Common) (xs : List Value) : Type 0 where
    pub sound : GoodCommon code d Running
    pub keeps : KeepsStrands c d
    pub later : (q : Option Role) → IsLater q c d
    pub arguments : AllFit code d xs u.params

  abbrev d-of : Option ℕ → Common
  d-of rest = with_world c (with_rest rest (length u.params) c.world vs)

  own-rest : HasRest code u u.rest × All (IsInherent code) (option_to_list u.rest)
  own-rest = t.fields.rests o.unit u eu

  -- as many as there are parameters
  passed-plain : u.rest ≡ None → Passed c vs
  passed-plain er =
      let none : its.rest ≡ None = subst (λ r. IsRestOf code r its.rest) er its.behind in
      let le = no-more none in
      let all-taken : take (length its.fixed) vs ≡ vs = take_all (length its.fixed) vs le in
      let singles : single_params code u ≡ u.params = ap (λ r. take (length u.params - length (option_to_list r)) u.params) er ∙ take_all (length u.params - 0) u.params (omega arith) in
      record {
        sound = good;
        keeps = (refl, refl);
        later = λ q. same q c;
        arguments = subst (λ ts. AllFit code c vs ts) singles (subst (λ xs. AllFit code c xs (single_params code u)) all-taken front-fit);
      }

  module _ (atom : ℕ) (er : u.rest ≡ Some atom) where
    known : IsInherent code atom
    known = All-head (IsInherent code) atom [] (subst (λ r. All (IsInherent code) (option_to_list r)) er own-rest.1)

    abbrev more : List Value
    more = drop (length u.params - 1) vs

    -- the last parameter has the lists of the atom
    last : IsListAtom code.atoms atom (λ fixed rest. fixed ≡ []) × LastIs code u.params (HaveSameShapes code.atoms (Atom atom))
    last = subst (λ r. HasRest code u r) er own-rest.0

    module _ (front : List SemType) (p : SemType) (ends : u.params ≡ front ++ p ∷ []) (lists : HaveSameShapes code.atoms (Atom atom) p) (q : Ty) (ea : slice_get code.atoms atom ≡ Some (ListAtom [] (Some q)))
        (z : Ty) (ez : its.rest ≡ Some z) (alike : HaveSameShapes code.atoms z.sem q.sem) where
      many : length u.params ≡ length front + 1
      many = ap length ends ∙ length-append front (p ∷ [])

      singles : single_params code u ≡ front
      singles =
          ap (λ r. take (length u.params - length (option_to_list r)) u.params) er
          ∙ (ap (λ k. take k u.params) (let e : length u.params - 1 ≡ length front = omega (arith, many) in e) ∙ (ap (λ l. take (length front) l) ends ∙ take-append_seam front (p ∷ [])))

      front-long : length its.fixed ≡ length front
      front-long = single-long ∙ ap length singles

      taken-front : AllFit code c (take (length u.params - 1) vs) front
      taken-front = subst (λ ts. AllFit code c (take (length u.params - 1) vs) ts) singles (subst (λ k. AllFit code c (take k vs) (single_params code u)) (let e : length its.fixed ≡ length u.params - 1 = omega (arith, many, front-long) in e) front-fit)

      more-fit : AllFit code c more (replicate (length more) q.sem)
      more-fit = repeated code c q.sem more (λ i v e.
          let f = in-rest (length u.params - 1 + i) v z (get-drop (length u.params - 1) vs i v e) (let le : length its.fixed ≤ length u.params - 1 + i = omega (arith, many, front-long) in le) ez in
          (f.0, f.1, (λ x ok stands. (alike x ok).0 (f.2 x ok stands))))

      -- the list that is made
      made : EffectTyped code c (Some p) (lifted c (makes_list c.world atom false more))
      made = list-typed code t c good atom false (replicate (length more) q.sem) more more-fit known [] (Some q) ea (omega arith) (repeated-items code q (length more) 0) (repeated-may code q.sem (length more)) (Some p)
          (λ x ok is. (lists x ok).0 is.0)

      passed-list : nat_le (cells (d-of (Some atom)).world.heap) most_cells ≡ true → Passed (d-of (Some atom)) (passed (Some atom) (length u.params) c.world vs)
      passed-list small =
          let (better, keeps, later, one) =
          subst (λ b. EffectTyped code c (Some p) (lifted c (if b then Gave (Struct (next_structure c.world) ∷ []) (d-of (Some atom)).world else PassesCells))) small made in
          record {
            sound = better;
            keeps = keeps;
            later = later;
            arguments = subst (λ ts. AllFit code (d-of (Some atom)) (passed (Some atom) (length u.params) c.world vs) ts) (sym ends)
                (zip-both (Fits code (d-of (Some atom))) (take (length u.params - 1) vs) (Struct (next_structure c.world) ∷ []) front (p ∷ []) (all-later code None c (d-of (Some atom)) (later None) (take (length u.params - 1) vs) front taken-front) one);
          }

    passed-rest : nat_le (cells (d-of (Some atom)).world.heap) most_cells ≡ true → Passed (d-of (Some atom)) (passed (Some atom) (length u.params) c.world vs)
    passed-rest small =
        let (front, p, ends, lists) = last.1 in
        let behind : IsRestOf code (Some atom) its.rest = subst (λ r. IsRestOf code r its.rest) er its.behind in
        let (fixed, items, ea, both) = list-atom code.atoms atom (λ fixed items. (fixed ≡ []) × IsSomeAnd items (λ t. IsSomeAnd its.rest (λ s. HaveSameShapes code.atoms s.sem t.sem))) (with-both last.0 behind) in
        let (q, eq, z, ez, alike) = of-both items both.1 in
        passed-list front p ends lists q (subst (λ l. slice_get code.atoms atom ≡ Some (ListAtom l (Some q))) both.0 (ea ∙ ap (λ i. Some (ListAtom fixed i)) eq)) z ez alike small
      where
        of-both : (items : Option Ty) → IsSomeAnd items (λ t. IsSomeAnd its.rest (λ s. HaveSameShapes code.atoms s.sem t.sem)) → (q : Ty) × (items ≡ Some q) × (z : Ty) × (its.rest ≡ Some z) × HaveSameShapes code.atoms z.sem q.sem
        of-both items h =
            let (q, eq, k) = some-there (λ t. IsSomeAnd its.rest (λ s. HaveSameShapes code.atoms s.sem t.sem)) items h in
            let (z, ez, alike) = some-there (λ s. HaveSameShapes code.atoms s.sem q.sem) its.rest k in
            (q, eq, z, ez, alike)

        with-both : IsListAtom code.atoms atom (λ fixed rest. fixed ≡ []) → IsRestOf code (Some atom) its.rest → IsListAtom code.atoms atom (λ fixed items. (fixed ≡ []) × IsSomeAnd items (λ t. IsSomeAnd its.rest (λ s. HaveSameShapes code.atoms s.sem t.sem)))
        with-both h k =
            let (fixed, items, ea, empty) = list-atom code.atoms atom (λ fixed rest. fixed ≡ []) h in
            let (fixed', items', ea', typed) = list-atom code.atoms atom (λ fixed items. IsSomeAnd items (λ t. IsSomeAnd its.rest (λ s. HaveSameShapes code.atoms s.sem t.sem))) k in
            put fixed items ea empty fixed' items' ea' typed
          where
            put : (fixed : List Ty) (items : Option Ty) → slice_get code.atoms atom ≡ Some (ListAtom fixed items) → fixed ≡ [] → (fixed' : List Ty) (items' : Option Ty) → slice_get code.atoms atom ≡ Some (ListAtom fixed' items') →
                IsSomeAnd items' (λ t. IsSomeAnd its.rest (λ s. HaveSameShapes code.atoms s.sem t.sem)) → IsListAtom code.atoms atom (λ fixed items. (fixed ≡ []) × IsSomeAnd items (λ t. IsSomeAnd its.rest (λ s. HaveSameShapes code.atoms s.sem t.sem)))
            put fixed items ea empty fixed' items' ea' typed =
                let same : ListAtom fixed items ≡ ListAtom fixed' items' = some-same (ListAtom fixed items) (ListAtom fixed' items') (sym ea ∙ ea') in
                let items-same : items' ≡ items = cc in
                at-some _ (slice_get code.atoms atom) (ListAtom fixed items) ea (empty, subst (λ i. IsSomeAnd i (λ t. IsSomeAnd its.rest (λ s. HaveSameShapes code.atoms s.sem t.sem))) items-same typed)

  pub passed-fit : (rest : Option ℕ) → u.rest ≡ rest → nat_le (cells (d-of rest).world.heap) most_cells ≡ true → Passed (d-of rest) (passed rest (length u.params) c.world vs)
  passed-fit None er small = passed-plain er
  passed-fit (Some atom) er small = passed-rest atom er small
