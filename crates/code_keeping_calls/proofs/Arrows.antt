-- A function value that never fails at arguments of these types: they fit its unit's parameters, and its result is among what
-- it may give.
use Rattle.std.proofs.Common.{◌≡◌, ◌≤◌, ◌<◌, ◌^◌, ◌∙◌, ℕ, Bool, true, false, List, [], ◌∷◌, Option, Some, None, inl, inr, length, map, refl, sym, ap, subst, arith}
use Rattle.std.proofs.lemmas.List.Elements.{All-cons, All-nil}
use Rattle.std.proofs.lemmas.Option.{slice_get_within}
use Rattle.std.specs.Prelude.{◌⊎◌, All, Contains, IsSomeAnd, option_map, slice_get, slice_set}
use Rattle.std.specs.List.{AllZip}
use Rattle.std.specs.Ptr.{null_ptr}
use Rattle.bal_base.specs.declared.shape.Case.{Case}
use Rattle.bal_base.specs.declared.shape.Graph.{Graph, out-roll-Graph, roll-Graph}
use Rattle.bal_base.specs.declared.shape.Shape.{Shape, Function as AFunction}
use Rattle.bal_base.specs.Shapes.{graph_list}
use Rattle.bal_base.specs.Valid.{CaseIsValid, IsValid}
use Rattle.bal_base.proofs.Rows.{IsValid-Function}
use Rattle.type_model.specs.declared.atoms.AtomDef.{AtomDef}
use Rattle.type_model.specs.declared.atoms.AtomDef.TheVariants.{List as ListAtom, Mapping as MappingAtom, Arrow, Error as ErrorAtom, Future as FutureAtom}
use Rattle.type_model.specs.declared.basic.SemType.{SemType, Atom}
use Rattle.type_model.specs.declared.basic.Ty.{Ty}
use Rattle.type_model.specs.Elements.{CaseMaps}
use Rattle.type_model.specs.Inclusion.{HaveSameShapes, IsShapeOf}
use Rattle.type_model.specs.Membership.{Fits as ShapeFits, In}
use Rattle.type_model.specs.Places.{item_type}
use Rattle.type_model.proofs.Decided.{In-decided}
use Rattle.type_model.proofs.Unfolding.{Fits-Function, Fits-List}
use Rattle.operations.specs.Rows.{MayGive, NeverFails}
use Rattle.value_model.specs.declared.value.Value.{Value}
use Rattle.value_model.specs.declared.value.Value.TheVariants.{Function}
use Rattle.value_model.specs.Heap.{FunctionObject, Heap}
use Rattle.value_model.specs.Stands.{Stands}
use Rattle.op_model.specs.Common.{Common}
use Rattle.machine_model.proofs.Once.{some-same}
use Rattle.stack_code.specs.declared.code.Code.{Code}
use Rattle.stack_code.specs.declared.code.Unit.{Unit as CodeUnit}
use Rattle.stack_code.specs.Flow.{AreSame}
use Rattle.stack_code.specs.Tables.{IsArrowOf, IsCallable, IsRestOf, single_params}
use Rattle.stack_code.specs.Values.{AllFit, Fits, GoodHeap, IsMade, IsWithinUnit, code_types}
use Rattle.stack_code.specs.WellTyped.{WellTyped}
use Rattle.code_keeping.proofs.Changing.{or-there}
use Rattle.code_keeping.proofs.Lists.{all-at, at-some, some-there}
use Rattle.code_keeping.proofs.Serving.{all-zipped}
use Rattle.code_keeping.proofs.Shapes.{get-map}
use Rattle.code_keeping.proofs.Beginning.{list-of as list-atom}
use Rattle.code_keeping_heap.proofs.Shaping.{IsShown, all-shown, list-of, shapes-of, zip-long, zip-set}

-- ---- functions with one case

abbrev one-case : Case → Graph
one-case k = roll-Graph (record { items = record { ptr = null_ptr; len = 1; cap = 1; alloc = record { memory = _ }; items = k ∷ []; ok = (refl, omega arith); small = omega arith } })

one-listed : (k : Case) → graph_list (one-case k) ≡ k ∷ []
one-listed k = ap (λ l. l.items.items) (out-roll-Graph _)

-- ---- the arrow of a unit

-- what the definition of a unit's arrow says
pub record ItsArrow (code : Code) (u : CodeUnit) : Type 0 where
  pub lists : ℕ
  pub outcome : SemType
  pub alone : Bool
  pub fixed : List Ty
  pub rest : Option Ty
  pub arrow : slice_get code.atoms u.arrow ≡ Some (Arrow (Atom lists) outcome alone)
  pub list : slice_get code.atoms lists ≡ Some (ListAtom fixed rest)
  pub params : AreSame code (map (λ t. t.sem) fixed) (single_params code u)
  pub behind : IsRestOf code u.rest rest
  pub result : HaveSameShapes code.atoms outcome u.result

its-arrow : (code : Code) (t : WellTyped code) (unit : ℕ) (u : CodeUnit) → slice_get code.units unit ≡ Some u → IsCallable code unit → ItsArrow code u
its-arrow code t unit u eu callable =
    let (d, ed, of) = some-there (IsArrowOf code u) (slice_get code.atoms u.arrow) (((t.fields.atoms unit u eu).1 callable.1 callable.2).0) in
    by d ed of
  where
    by : (d : AtomDef) → slice_get code.atoms u.arrow ≡ Some d → IsArrowOf code u d → ItsArrow code u
    by (Arrow args outcome alone) ed ((lists, same, are), result) =
        let (fixed, rest, el, (params, behind)) = list-atom code.atoms lists (λ fixed rest. AreSame code (map (λ t. t.sem) fixed) (single_params code u) × IsRestOf code u.rest rest) are in
        record {
          lists = lists;
          outcome = outcome;
          alone = alone;
          fixed = fixed;
          rest = rest;
          arrow = ed ∙ ap (λ a. Some (Arrow a outcome alone)) same;
          list = el;
          params = params;
          behind = behind;
          result = result;
        }
    by (ListAtom fixed rest) ed of = absurd of
    by (MappingAtom fields rest) ed of = absurd of
    by (ErrorAtom detail) ed of = absurd of
    by (FutureAtom outcome) ed of = absurd of

module _ (code : Code) (t : WellTyped code) (c : Common) (good : GoodHeap code c) (n : ℕ) (o : FunctionObject) (eo : slice_get c.world.heap.functions n ≡ Some o) (u : CodeUnit) (eu : slice_get code.units o.unit ≡ Some u)
    (a : SemType) (args : List SemType) (fv : Fits code c (Function n) a) (vs : List Value) (fit : AllFit code c vs args) (few : length vs < 2 ^ 63) (never : NeverFails code.atoms a args) where
  abbrev h : Heap
  h = c.world.heap

  pub callable : IsCallable code o.unit
  callable = (all-at (IsWithinUnit code c) h.functions n o good.functions eo).0

  pub arrow : ItsArrow code u
  arrow = its-arrow code t o.unit u eu callable

  -- ---- a function with one case is one of those that the value stands for

  module _ (k : Case) (maps : CaseMaps code.atoms (Atom arrow.lists) arrow.outcome k) (valid : CaseIsValid k) where
    abbrev function : Shape
    function = AFunction true (one-case k)

    function-valid : IsValid function
    function-valid = (IsValid-Function true (one-case k)).1 (subst (All CaseIsValid) (sym (one-listed k)) (All-cons CaseIsValid k [] valid (All-nil CaseIsValid)))

    function-in : In code.atoms function (Atom u.arrow)
    function-in =
        at-some (ShapeFits code.atoms function) (slice_get code.atoms u.arrow) (Arrow (Atom arrow.lists) arrow.outcome arrow.alone) arrow.arrow
        ((Fits-Function code.atoms true (one-case k) (Arrow (Atom arrow.lists) arrow.outcome arrow.alone)).1
        ((λ alone. refl), subst (All (CaseMaps code.atoms (Atom arrow.lists) arrow.outcome)) (sym (one-listed k)) (All-cons (CaseMaps code.atoms (Atom arrow.lists) arrow.outcome) k [] maps (All-nil _))))

    function-stands : Stands (code_types code) h (Function n) function
    function-stands =
        at-some (λ f. IsSomeAnd (slice_get (code_types code).units f.unit) (λ q. In code.atoms function (Atom q.0))) (slice_get h.functions n) o eo
        (at-some (λ q. In code.atoms function (Atom q.0)) (slice_get (code_types code).units o.unit) (u.arrow, u.future)
        (get-map (λ (u : CodeUnit). (u.arrow, u.future)) code.units o.unit ∙ ap (λ q. option_map (λ (u : CodeUnit). (u.arrow, u.future)) q) eu) function-in)

    function-of : IsShapeOf code.atoms a function
    function-of = (function-valid, fv.2 function function-valid function-stands)

    has-case : Contains (graph_list (one-case k)) k
    has-case = subst (λ ks. Contains ks k) (sym (one-listed k)) (0, omega arith, refl)

  -- ---- the arguments are in its domain

  module _ (xs : List Shape) (small : length xs < 2 ^ 63) (valid : All IsValid xs) (are : AllZip (λ y s. IsShapeOf code.atoms s y) xs args) where
    in-domain : In code.atoms (list-of false xs small) (Atom arrow.lists)
    in-domain = by (In-decided code.atoms (list-of false xs small) (Atom arrow.lists))
      where
        by : In code.atoms (list-of false xs small) (Atom arrow.lists) ⊎ (¬ (In code.atoms (list-of false xs small) (Atom arrow.lists))) → In code.atoms (list-of false xs small) (Atom arrow.lists)
        by (inl inside) = inside
        by (inr outside) =
            let k : Case = record { args = shapes-of xs small; result = None } in
            let maps : CaseMaps code.atoms (Atom arrow.lists) arrow.outcome k = λ inside. absurd (outside inside) in
            absurd (never (function k maps (valid, tt), k, function-of k maps (valid, tt), has-case k maps (valid, tt), are, refl))

    -- and it may give each shape of its unit's result
    pub may-give : (x : Shape) → IsValid x → In code.atoms x u.result → MayGive code.atoms a args x
    may-give x ok inside =
        let k : Case = record { args = shapes-of xs small; result = Some x } in
        let maps : CaseMaps code.atoms (Atom arrow.lists) arrow.outcome k = λ is-in. (arrow.result x ok).1 inside in
        (function k maps (valid, ok), k, function-of k maps (valid, ok), has-case k maps (valid, ok), are, refl)

  -- ---- shapes of the arguments

  pub all-made : All (IsMade code c) vs
  all-made = all-zipped (Fits code c) (IsMade code c) (λ v s k. k.1) vs args fit

  pub shown : (xs : List Shape) × AllZip (IsShown code c) vs xs
  shown = all-shown code c t good vs all-made

  shapes-are : (vs : List Value) (args : List SemType) (xs : List Shape) → AllFit code c vs args → AllZip (IsShown code c) vs xs → All IsValid xs × AllZip (λ y s. IsShapeOf code.atoms s y) xs args
  shapes-are [] [] [] fit shown = (All-nil _, tt)
  shapes-are [] (s ∷ args) xs fit shown = absurd fit
  shapes-are [] [] (x ∷ xs) fit shown = absurd shown
  shapes-are (v ∷ vs) [] xs fit shown = absurd fit
  shapes-are (v ∷ vs) (s ∷ args) [] fit shown = absurd shown
  shapes-are (v ∷ vs) (s ∷ args) (x ∷ xs) (f, fit) ((valid, stands), shown) =
      let (all, are) = shapes-are vs args xs fit shown in
      (All-cons IsValid x xs valid all, ((valid, f.2 x valid stands), are))

  -- the result may be any of the unit's
  pub gives-all : (x : Shape) → IsValid x → In code.atoms x u.result → MayGive code.atoms a args x
  gives-all x ok inside =
      let (xs, zip) = shown in
      let (valid, are) = shapes-are vs args xs fit zip in
      may-give xs (subst (λ k. k < 2 ^ 63) (zip-long (IsShown code c) vs xs zip) few) valid are x ok inside

  -- ---- each argument is in the type of its place

  pub place-so : (i : ℕ) (v : Value) → slice_get vs i ≡ Some v → (x : Shape) → IsValid x → Stands (code_types code) h v x → IsSomeAnd (item_type arrow.fixed arrow.rest i) (λ q. In code.atoms x q.sem)
  place-so i v ev x ok stands =
      let (ys, zip) = shown in
      let (set, at) = zip-set (IsShown code c) vs ys i v x zip ev (ok, stands) in
      let xs = slice_set ys i x in
      let (valid, are) = shapes-are vs args xs fit set in
      let small : length xs < 2 ^ 63 = subst (λ k. k < 2 ^ 63) (zip-long (IsShown code c) vs xs set) few in
      let inside = in-domain xs small valid are in
      let (d, ed, fits) = some-there (ShapeFits code.atoms (list-of false xs small)) (slice_get code.atoms arrow.lists) inside in
      let is : ListAtom arrow.fixed arrow.rest ≡ d = some-same (ListAtom arrow.fixed arrow.rest) d (sym arrow.list ∙ ed) in
      let each = ((Fits-List code.atoms false (shapes-of xs small) (ListAtom arrow.fixed arrow.rest)).0 (subst (ShapeFits code.atoms (list-of false xs small)) (sym is) fits)).1 in
      subst (λ y. IsSomeAnd (item_type arrow.fixed arrow.rest i) (λ q. In code.atoms y q.sem)) (or-there xs i x x at) (each i x (slice_get_within xs i x at))

  pub long-enough : length arrow.fixed ≤ length vs
  long-enough =
      let (xs, zip) = shown in
      let (valid, are) = shapes-are vs args xs fit zip in
      let same = zip-long (IsShown code c) vs xs zip in
      let small : length xs < 2 ^ 63 = subst (λ k. k < 2 ^ 63) same few in
      let (d, ed, fits) = some-there (ShapeFits code.atoms (list-of false xs small)) (slice_get code.atoms arrow.lists) (in-domain xs small valid are) in
      let is : ListAtom arrow.fixed arrow.rest ≡ d = some-same (ListAtom arrow.fixed arrow.rest) d (sym arrow.list ∙ ed) in
      let l : length arrow.fixed ≤ length xs = ((Fits-List code.atoms false (shapes-of xs small) (ListAtom arrow.fixed arrow.rest)).0 (subst (ShapeFits code.atoms (list-of false xs small)) (sym is) fits)).0 in
      omega (arith, l, same)
