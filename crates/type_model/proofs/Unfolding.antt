-- What it is to fit the definition of an atom, by the lists of a shape's parts.
use Rattle.std.proofs.Common.{◌≡◌, ℕ, zero, suc, ◌+◌, ◌<◌, ◌≤◌, ◌↔◌, List, [], ◌∷◌, length, get_or, slice_get, All, IsSomeAnd, Bool, false, sym, subst, ◌∙◌, Option, Some, None, Global, Box, arith}
use Rattle.std.proofs.lemmas.List.Elements.{All-nil, All-cons, All-head, All-tail}
use mathlib.Core.Former.{Count, this, arity as arity_of}
use Rattle.std.specs.formers.vec.Vec.{the_former}
use Rattle.bal_base.specs.declared.shape.Shape.TheBlock.{shown-the_row-Shape-0, items_shown-the_row-Shape-0, items_shown-the_row-Case-2}
use Rattle.bal_base.specs.declared.text.Text.{Text}
use Rattle.bal_base.specs.declared.shape.Shape.{Shape, List as ListOf, List', Mapping, Mapping', Error, Function, Future, Future', Row_of-Shape, end_of-Shape, more_of-Shape, items-the_row-Shape as shapes_in, items_hidden-the_row-Shape-0, Row_of-Fields-items-2 as Row_of-Field, end_of-Fields-items-2 as end_of-Field, more_of-Fields-items-2 as more_of-Field, items-the_row-Fields-items-2 as fields_in, items_hidden-the_row-Fields-items-2-1}
use Rattle.bal_base.specs.declared.shape.Shapes.{Shapes}
use Rattle.bal_base.specs.declared.shape.Fields.{Fields}
use Rattle.bal_base.specs.declared.shape.Case.{Case, view-Case-result, Held-Case-result, None', Some'}
use Rattle.bal_base.specs.declared.shape.Graph.{Graph, Graph', outs-Graph', Row_of-Case, end_of-Case, more_of-Case, items-the_row-Case as cases_in}
use Rattle.bal_base.specs.Shapes.{shapes_list, fields_list, graph_list}
use Rattle.type_model.specs.declared.basic.SemType.{SemType, Basic, Atom, Or', And', Not'}
use Rattle.type_model.specs.declared.basic.BasicSet.{BasicSet}
use Rattle.type_model.specs.declared.basic.BasicSet.TheVariants.{Nil as NilOnly, Bool as BoolOne, IntRange, StringOne, StringAll, ListAll, MappingAll, ErrorAll, FunctionAll, FutureAll, Readonly, Never}
use Rattle.type_model.specs.declared.basic.Ty.{Ty}
use Rattle.type_model.specs.declared.atoms.FieldDef.{FieldDef}
use Rattle.type_model.specs.declared.atoms.AtomDef.{AtomDef}
use Rattle.type_model.specs.declared.atoms.AtomDef.TheVariants.{List as ListAtom, Mapping as MappingAtom, Arrow, Error as ErrorAtom, Future as FutureAtom}
use Rattle.type_model.specs.Basic.{InBasic}
use Rattle.type_model.specs.Places.{item_type, HasRequired}
use Rattle.type_model.specs.Membership.{In, InBy, Fits, EachIn, MembersIn, AllIn, Maps, CasesMap, ResultIn, ListFits, MappingFits, ErrorFits, FunctionFits, FutureFits}
use Rattle.type_model.specs.Elements.{ItemsIn, MemberIn, CaseMaps}
use Rattle.type_model.proofs.Same.{both, either, neither, where_so, itself}

-- ---- the items of a list

abbrev row_of : Shape → (n : Count) × Row_of-Shape n
row_of (List' mark _ row) = (_, row)
row_of (Future' _ row) = (_, row)
row_of _ = (_, end_of-Shape)

module _ (env : List AtomDef) (fixed : List Ty) (rest : Option Ty) where
  -- the item at a place, and the items at the places from k on
  abbrev At : ℕ → Shape → Type 0
  At k x = IsSomeAnd (item_type fixed rest k) (λ t. In env x t.sem)

  abbrev From : ℕ → List Shape → Type 0
  From k xs = (i : ℕ) (d : Shape) → i < length xs → At (k + i) (get_or xs i d)

  from_nil : (k : ℕ) → From k []
  from_nil k i d lt = absurd (omega (arith, lt))

  from_cons : (k : ℕ) (x : Shape) (xs : List Shape) → At k x → From (k + 1) xs → From k (x ∷ xs)
  from_cons k x xs h t zero d lt = subst (λ j. At j x) (omega arith) h
  from_cons k x xs h t (suc i) d lt = subst (λ j. At j (get_or xs i d)) (omega arith) (t i d (omega (arith, lt)))

  from_head : (k : ℕ) (x : Shape) (xs : List Shape) → From k (x ∷ xs) → At k x
  from_head k x xs h = subst (λ j. At j x) (omega arith) (h 0 x (omega arith))

  from_tail : (k : ℕ) (x : Shape) (xs : List Shape) → From k (x ∷ xs) → From (k + 1) xs
  from_tail k x xs h i d lt = subst (λ j. At j (get_or xs i d)) (omega arith) (h (suc i) d (omega (arith, lt)))

  of_row : (n : _) (row : Row_of-Shape n) (k : ℕ) → EachIn env row k fixed rest → From k (shapes_in n row)
  of_row n end_of-Shape k h = from_nil k
  of_row n (more_of-Shape x xs) k h = from_cons k x _ h.0 (of_row _ xs (k + 1) h.1)

  to_row : (n : _) (row : Row_of-Shape n) (k : ℕ) → From k (shapes_in n row) → EachIn env row k fixed rest
  to_row n end_of-Shape k h = tt
  to_row n (more_of-Shape x xs) k h = (from_head k x _ h, to_row _ xs (k + 1) (from_tail k x _ h))

  from_zero : (xs : List Shape) → From 0 xs ↔ ItemsIn env xs fixed rest
  from_zero xs = (
    λ h i d lt. subst (λ j. At j (get_or xs i d)) (omega arith) (h i d lt),
    λ h i d lt. subst (λ j. At j (get_or xs i d)) (omega arith) (h i d lt),
  )

  EachIn-row : (n : _) (row : Row_of-Shape n) → EachIn env row 0 fixed rest ↔ ItemsIn env (shapes_in n row) fixed rest
  EachIn-row n row = (
    λ h. (from_zero _).0 (of_row n row 0 h),
    λ h. to_row n row 0 ((from_zero _).1 h),
  )

module _ (env : List AtomDef) where
  -- a list atom asks the same of a row and of its list
  ListFits-row : (n : _) (row : Row_of-Shape n) (xs : List Shape) → shapes_in n row ≡ xs → (d : AtomDef) → ListFits (shapes_in n row) (EachIn env row 0) d ↔ ListFits xs (ItemsIn env xs) d
  ListFits-row n row xs is (ListAtom fixed rest) =
      subst (λ ys. ((length fixed ≤ length (shapes_in n row)) × EachIn env row 0 fixed rest) ↔ ((length fixed ≤ length ys) × ItemsIn env ys fixed rest)) is (both itself (EachIn-row env fixed rest n row))
  ListFits-row n row xs is (MappingAtom fields rest) = itself
  ListFits-row n row xs is (Arrow args outcome alone) = itself
  ListFits-row n row xs is (ErrorAtom detail) = itself
  ListFits-row n row xs is (FutureAtom outcome) = itself

  pub Fits-List : (mark : Bool) (items : Shapes) (d : AtomDef) → Fits env (ListOf mark items) d ↔ ListFits (shapes_list items) (ItemsIn env (shapes_list items)) d
  Fits-List mark items d =
      let row = row_of (ListOf mark items) in
      ListFits-row row.0 row.1 (shapes_list items) (items_hidden-the_row-Shape-0 items.items) d

-- ---- the members of a mapping

abbrev fields_of : Shape → (n : Count) × Row_of-Field n
fields_of (Mapping' mark _ row) = (_, row)
fields_of _ = (_, end_of-Field)

module _ (env : List AtomDef) (fs : List FieldDef) (rest : Option Ty) where
  of_fields : (n : _) (row : Row_of-Field n) → MembersIn env row fs rest → All (MemberIn env fs rest) (fields_in n row)
  of_fields n end_of-Field h = All-nil (MemberIn env fs rest)
  of_fields n (more_of-Field key x more) h = All-cons (MemberIn env fs rest) (key, x) _ h.0 (of_fields _ more h.1)

  to_fields : (n : _) (row : Row_of-Field n) → All (MemberIn env fs rest) (fields_in n row) → MembersIn env row fs rest
  to_fields n end_of-Field h = tt
  to_fields n (more_of-Field key x more) h = (All-head (MemberIn env fs rest) (key, x) _ h, to_fields _ more (All-tail (MemberIn env fs rest) (key, x) _ h))

module _ (env : List AtomDef) where
  abbrev Each : List (Text × Shape) → List FieldDef → Option Ty → Type 0
  Each ms fs rest = All (MemberIn env fs rest) ms

  MappingFits-row : (n : _) (row : Row_of-Field n) (ms : List (Text × Shape)) → fields_in n row ≡ ms → (d : AtomDef) → MappingFits (fields_in n row) (MembersIn env row) d ↔ MappingFits ms (Each ms) d
  MappingFits-row n row ms is (MappingAtom fs rest) =
      subst (λ ys. (HasRequired fs (fields_in n row) × MembersIn env row fs rest) ↔ (HasRequired fs ys × Each ys fs rest)) is (both itself (of_fields env fs rest n row, to_fields env fs rest n row))
  MappingFits-row n row ms is (ListAtom fixed rest) = itself
  MappingFits-row n row ms is (Arrow args outcome alone) = itself
  MappingFits-row n row ms is (ErrorAtom detail) = itself
  MappingFits-row n row ms is (FutureAtom outcome) = itself

  pub Fits-Mapping : (mark : Bool) (fields : Fields) (d : AtomDef) → Fits env (Mapping mark fields) d ↔ MappingFits (fields_list fields) (λ fs rest. All (MemberIn env fs rest) (fields_list fields)) d
  Fits-Mapping mark fields d =
      let row = fields_of (Mapping mark fields) in
      MappingFits-row row.0 row.1 (fields_list fields) (items_hidden-the_row-Fields-items-2-1 fields.items) d

  -- ---- the detail of an error

  pub Fits-Error : (detail : Box Shape Global) (d : AtomDef) → Fits env (Error detail) d ↔ ErrorFits (In env detail.value) d
  Fits-Error detail d = itself

  -- ---- the results of a future

  of_all : (t : SemType) (n : _) (row : Row_of-Shape n) → AllIn env row t → All (λ x. In env x t) (shapes_in n row)
  of_all t n end_of-Shape h = All-nil (λ x. In env x t)
  of_all t n (more_of-Shape x xs) h = All-cons (λ x. In env x t) x _ h.0 (of_all t _ xs h.1)

  to_all : (t : SemType) (n : _) (row : Row_of-Shape n) → All (λ x. In env x t) (shapes_in n row) → AllIn env row t
  to_all t n end_of-Shape h = tt
  to_all t n (more_of-Shape x xs) h = (All-head (λ x. In env x t) x _ h, to_all t _ xs (All-tail (λ x. In env x t) x _ h))

  FutureFits-row : (n : _) (row : Row_of-Shape n) (xs : List Shape) → shapes_in n row ≡ xs → (d : AtomDef) → FutureFits (AllIn env row) d ↔ FutureFits (λ t. All (λ x. In env x t) xs) d
  FutureFits-row n row xs is (FutureAtom outcome) =
      subst (λ ys. AllIn env row outcome ↔ All (λ x. In env x outcome) ys) is (of_all outcome n row, to_all outcome n row)
  FutureFits-row n row xs is (ListAtom fixed rest) = itself
  FutureFits-row n row xs is (MappingAtom fields rest) = itself
  FutureFits-row n row xs is (Arrow args outcome alone) = itself
  FutureFits-row n row xs is (ErrorAtom detail) = itself

  pub Fits-Future : (results : Shapes) (d : AtomDef) → Fits env (Future results) d ↔ FutureFits (λ t. All (λ x. In env x t) (shapes_list results)) d
  Fits-Future results d =
      let row = row_of (Future results) in
      FutureFits-row row.0 row.1 (shapes_list results) (items_hidden-the_row-Shape-0 results.items) d

  -- ---- the cases of a function

  -- every unmarked list is in the same basic sets
  InBasic-unmarked : (s : (the_former (this {0}) Global).Shape) (xs : Row_of-Shape (arity_of (the_former (this {0}) Global) s)) (items : Shapes) (b : BasicSet) → InBasic (List' false s xs) b ↔ InBasic (ListOf false items) b
  InBasic-unmarked s xs items NilOnly = itself
  InBasic-unmarked s xs items (BoolOne c) = itself
  InBasic-unmarked s xs items (IntRange low high) = itself
  InBasic-unmarked s xs items (StringOne t) = itself
  InBasic-unmarked s xs items StringAll = itself
  InBasic-unmarked s xs items ListAll = itself
  InBasic-unmarked s xs items MappingAll = itself
  InBasic-unmarked s xs items ErrorAll = itself
  InBasic-unmarked s xs items FunctionAll = itself
  InBasic-unmarked s xs items FutureAll = itself
  InBasic-unmarked s xs items Readonly = itself
  InBasic-unmarked s xs items Never = itself

  module _ (s : (the_former (this {0}) Global).Shape) (xs : Row_of-Shape (arity_of (the_former (this {0}) Global) s)) (items : Shapes) (is : shapes_in _ xs ≡ shapes_list items) where
    fits_same : (d : AtomDef) → ListFits (shapes_in _ xs) (EachIn env xs 0) d ↔ Fits env (ListOf false items) d
    fits_same d =
        let l = ListFits-row env _ xs (shapes_list items) is d in
        let r = Fits-List env false items d in
        (λ h. r.1 (l.0 h), λ h. l.1 (r.0 h))

    In-unmarked : (t : SemType) → InBy env (List' false s xs) (ListFits (shapes_in _ xs) (EachIn env xs 0)) t ↔ In env (ListOf false items) t
    In-unmarked (Basic b) = InBasic-unmarked s xs items b
    In-unmarked (Atom a) = at_some_def (slice_get env a)
      where
        at_some_def : (o : Option AtomDef) → IsSomeAnd o (ListFits (shapes_in _ xs) (EachIn env xs 0)) ↔ IsSomeAnd o (Fits env (ListOf false items))
        at_some_def None = itself
        at_some_def (Some d) = fits_same d
    In-unmarked (Or' _ p _ q) = either (In-unmarked p) (In-unmarked q)
    In-unmarked (And' _ p _ q) = both (In-unmarked p) (In-unmarked q)
    In-unmarked (Not' _ p) = neither (In-unmarked p)

  ResultIn-held : (r : Held-Case-result) (t : SemType) → ResultIn env r t ↔ IsSomeAnd (view-Case-result r) (λ x. In env x t)
  ResultIn-held None' t = itself
  ResultIn-held (Some' x) t = itself

  abbrev case_of : (s : (the_former (this {0}) Global).Shape) → Row_of-Shape (arity_of (the_former (this {0}) Global) s) → Held-Case-result → Case
  case_of s args result = record { args = record { items = shown-the_row-Shape-0 s args }; result = view-Case-result result }

  CaseMaps-row : (args outcome : SemType) (s : (the_former (this {0}) Global).Shape) (xs : Row_of-Shape (arity_of (the_former (this {0}) Global) s)) (result : Held-Case-result) → (InBy env (List' false s xs) (ListFits (shapes_in _ xs) (EachIn env xs 0)) args → ResultIn env result outcome) ↔ CaseMaps env args outcome (case_of s xs result)
  CaseMaps-row args outcome s xs result =
      where_so (In-unmarked s xs (case_of s xs result).args (sym (items_shown-the_row-Shape-0 s xs)) args) (ResultIn-held result outcome)

  of_cases : (args outcome : SemType) (n : _) (row : Row_of-Case n) → CasesMap env row args outcome → All (CaseMaps env args outcome) (cases_in n row)
  of_cases args outcome n end_of-Case h = All-nil (CaseMaps env args outcome)
  of_cases args outcome n (more_of-Case s xs result rest) h =
      All-cons (CaseMaps env args outcome) (case_of s xs result) _ ((CaseMaps-row args outcome s xs result).0 h.0) (of_cases args outcome _ rest h.1)

  to_cases : (args outcome : SemType) (n : _) (row : Row_of-Case n) → All (CaseMaps env args outcome) (cases_in n row) → CasesMap env row args outcome
  to_cases args outcome n end_of-Case h = tt
  to_cases args outcome n (more_of-Case s xs result rest) h = (
    (CaseMaps-row args outcome s xs result).1 (All-head (CaseMaps env args outcome) (case_of s xs result) _ h),
    to_cases args outcome _ rest (All-tail (CaseMaps env args outcome) (case_of s xs result) _ h),
  )

  Maps-row : (g : Graph) (args outcome : SemType) → Maps env g args outcome ↔ All (CaseMaps env args outcome) (graph_list g)
  Maps-row (Graph' s row) args outcome =
      let same = (λ i. (outs-Graph' s row i).items.items) ∙ items_shown-the_row-Case-2 s row in (
        λ h. subst (All (CaseMaps env args outcome)) (sym same) (of_cases args outcome _ row h),
        λ h. to_cases args outcome _ row (subst (All (CaseMaps env args outcome)) same h),
      )

  pub Fits-Function : (isolated : Bool) (g : Graph) (d : AtomDef) → Fits env (Function isolated g) d ↔ FunctionFits isolated (λ args outcome. All (CaseMaps env args outcome) (graph_list g)) d
  Fits-Function isolated g (Arrow args outcome alone) = both itself (Maps-row g args outcome)
  Fits-Function isolated g (ListAtom fixed rest) = itself
  Fits-Function isolated g (MappingAtom fields rest) = itself
  Fits-Function isolated g (ErrorAtom detail) = itself
  Fits-Function isolated g (FutureAtom outcome) = itself
