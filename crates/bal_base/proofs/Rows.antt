-- The facts of a shape's parts, as facts of lists.
pub use Rattle.bal_base.proofs.Loops.{one_more, at_end}
use Rattle.std.proofs.Common.{◌↔◌, List, All, IfSome, IsTrue, Bool, sym, subst, ◌∙◌}
use Rattle.std.proofs.lemmas.List.Elements.{All-nil, All-cons, All-head, All-tail}
use mathlib.Core.Former.{Count, this, arity as arity_of}
use Rattle.std.specs.formers.vec.Vec.{the_former}
use Rattle.std.proofs.Common.{Global}
use Rattle.bal_base.specs.declared.shape.Shape.TheBlock.{shown-the_row-Shape-0, items_shown-the_row-Shape-0, items_shown-the_row-Case-2}
use Rattle.bal_base.specs.declared.text.Text.{Text}
use Rattle.bal_base.specs.declared.shape.Shape.{Shape, List as AList, List', Mapping, Mapping', Function, Future, Future', Row_of-Shape, end_of-Shape, more_of-Shape, items-the_row-Shape as shapes_in, items_hidden-the_row-Shape-0, Row_of-Fields-items-2 as Row_of-Field, end_of-Fields-items-2 as end_of-Field, more_of-Fields-items-2 as more_of-Field, items-the_row-Fields-items-2 as fields_in, items_hidden-the_row-Fields-items-2-1}
use Rattle.bal_base.specs.declared.shape.Shapes.{Shapes}
use Rattle.bal_base.specs.declared.shape.Fields.{Fields}
use Rattle.bal_base.specs.declared.shape.Case.{Case, view-Case-result, Held-Case-result, None', Some'}
use Rattle.bal_base.specs.declared.shape.Graph.{Graph, Graph', out-Graph, outs-Graph', Row_of-Case, end_of-Case, more_of-Case, items-the_row-Case as cases_in}
use Rattle.bal_base.specs.Valid.{IsFrozen, IsValid, AreValid, FieldsValid, ResultValid, CasesValid, GraphValid, CaseIsValid, KeysRise, AreTexts}

abbrev pub row_of : Shape → (n : Count) × Row_of-Shape n
row_of (List' mark _ row) = (_, row)
row_of (Future' _ row) = (_, row)
row_of _ = (_, end_of-Shape)

of_row : (n : _) (row : Row_of-Shape n) → AreValid row → All IsValid (shapes_in n row)
of_row n end_of-Shape h = All-nil IsValid
of_row n (more_of-Shape x rest) h = All-cons IsValid x _ h.0 (of_row _ rest h.1)

to_row : (n : _) (row : Row_of-Shape n) → All IsValid (shapes_in n row) → AreValid row
to_row n end_of-Shape h = tt
to_row n (more_of-Shape x rest) h = (All-head IsValid x _ h, to_row _ rest (All-tail IsValid x _ h))

pub IsValid-Future : (results : Shapes) → IsValid (Future results) ↔ All IsValid results.items.items
IsValid-Future results =
    let row = row_of (Future results) in
    let same = items_hidden-the_row-Shape-0 results.items in
    (λ h. subst (All IsValid) same (of_row row.0 row.1 h), λ h. to_row row.0 row.1 (subst (All IsValid) (sym same) h))

pub IsValid-List : (mark : Bool) (items : Shapes) → IsValid (AList mark items) ↔ (IsTrue mark → All IsFrozen items.items.items) × All IsValid items.items.items
IsValid-List mark items =
    let row = row_of (AList mark items) in
    let same = items_hidden-the_row-Shape-0 items.items in (
      λ h. (λ m. subst (All IsFrozen) same (h.0 m), subst (All IsValid) same (of_row row.0 row.1 h.1)),
      λ h. (λ m. subst (All IsFrozen) (sym same) (h.0 m), to_row row.0 row.1 (subst (All IsValid) (sym same) h.1)),
    )

-- ---- the fields of a mapping

abbrev pub fields_of : Shape → (n : Count) × Row_of-Field n
fields_of (Mapping' mark _ row) = (_, row)
fields_of _ = (_, end_of-Field)

abbrev ValidField : Text × Shape → Type 0
ValidField f = IsValid f.1

of_fields : (n : _) (row : Row_of-Field n) → FieldsValid row → All ValidField (fields_in n row)
of_fields n end_of-Field h = All-nil ValidField
of_fields n (more_of-Field key x rest) h = All-cons ValidField (key, x) _ h.0 (of_fields _ rest h.1)

to_fields : (n : _) (row : Row_of-Field n) → All ValidField (fields_in n row) → FieldsValid row
to_fields n end_of-Field h = tt
to_fields n (more_of-Field key x rest) h = (All-head ValidField (key, x) _ h, to_fields _ rest (All-tail ValidField (key, x) _ h))

module _ (mark : Bool) (fields : Fields) where
  abbrev Parts : List (Text × Shape) → Type 0
  Parts fs = AreTexts fs × KeysRise fs × (IsTrue mark → All (λ f. IsFrozen f.1) fs) × All (λ f. IsValid f.1) fs

  pub IsValid-Mapping : IsValid (Mapping mark fields) ↔ Parts fields.items.items
  IsValid-Mapping =
      let row = fields_of (Mapping mark fields) in
      let same = items_hidden-the_row-Fields-items-2-1 fields.items in (
        λ h. subst Parts same (h.0, h.1, h.2, of_fields row.0 row.1 h.3),
        λ h. let k = subst Parts (sym same) h in (k.0, k.1, k.2, to_fields row.0 row.1 k.3),
      )

-- ---- the cases of a graph

abbrev pub case_of : (s : (the_former (this {0}) Global).Shape) → Row_of-Shape (arity_of (the_former (this {0}) Global) s) → Held-Case-result → Case
case_of s args result = record { args = record { items = shown-the_row-Shape-0 s args }; result = view-Case-result result }

of_result : (r : Held-Case-result) → ResultValid r → IfSome (view-Case-result r) IsValid
of_result None' h = tt
of_result (Some' x) h = h

to_result : (r : Held-Case-result) → IfSome (view-Case-result r) IsValid → ResultValid r
to_result None' h = tt
to_result (Some' x) h = h

of_cases : (n : _) (row : Row_of-Case n) → CasesValid row → All CaseIsValid (cases_in n row)
of_cases n end_of-Case h = All-nil CaseIsValid
of_cases n (more_of-Case s args result rest) h =
    All-cons CaseIsValid (case_of s args result) _ (subst (All IsValid) (sym (items_shown-the_row-Shape-0 s args)) (of_row _ args h.0), of_result result h.1) (of_cases _ rest h.2)

to_cases : (n : _) (row : Row_of-Case n) → All CaseIsValid (cases_in n row) → CasesValid row
to_cases n end_of-Case h = tt
to_cases n (more_of-Case s args result rest) h =
    let first = All-head CaseIsValid (case_of s args result) _ h in (
      to_row _ args (subst (All IsValid) (items_shown-the_row-Shape-0 s args) first.0),
      to_result result first.1,
      to_cases _ rest (All-tail CaseIsValid (case_of s args result) _ h),
    )

abbrev cases_of : Graph → (n : Count) × Row_of-Case n
cases_of (Graph' _ row) = (_, row)

GraphValid-row : (g : Graph) → GraphValid g ↔ All CaseIsValid (out-Graph g).items.items
GraphValid-row (Graph' s row) =
    let same = (λ i. (outs-Graph' s row i).items.items) ∙ items_shown-the_row-Case-2 s row in
    (λ h. subst (All CaseIsValid) (sym same) (of_cases _ row h), λ h. to_cases _ row (subst (All CaseIsValid) same h))

pub IsValid-Function : (isolated : Bool) (g : Graph) → IsValid (Function isolated g) ↔ All CaseIsValid (out-Graph g).items.items
IsValid-Function isolated g = GraphValid-row g
