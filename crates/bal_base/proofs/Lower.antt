-- The parts of a shape have fewer levels.
use Rattle.std.proofs.Common.{◌≡◌, ℕ, ◌+◌, ◌<◌, [], ◌∷◌, max, List, Box, Global, Bool, false, All, IfSome, refl, sym, ap, subst, ◌∙◌, arith}
use Rattle.std.proofs.lemmas.List.Elements.{All-nil, All-cons}
use mathlib.Core.Former.{this, arity as arity_of}
use Rattle.std.specs.formers.vec.Vec.{the_former}
use Rattle.bal_base.specs.declared.shape.Shape.TheBlock.{shown-the_row-Shape-0, items_shown-the_row-Shape-0, items_shown-the_row-Case-2, items_hidden-the_row-Shape-0}
use Rattle.bal_base.specs.declared.text.Text.{Text}
use Rattle.bal_base.specs.declared.shape.Shape.{Shape, List as AList, Mapping, Error, Function, Future, Row_of-Shape, end_of-Shape, more_of-Shape, items-the_row-Shape as shapes_in, Row_of-Fields-items-2 as Row_of-Field, end_of-Fields-items-2 as end_of-Field, more_of-Fields-items-2 as more_of-Field, items-the_row-Fields-items-2 as fields_in, items_hidden-the_row-Fields-items-2-1}
use Rattle.bal_base.specs.declared.shape.Shapes.{Shapes}
use Rattle.bal_base.specs.declared.shape.Fields.{Fields}
use Rattle.bal_base.specs.declared.shape.Case.{Case, view-Case-result, Held-Case-result, None', Some'}
use Rattle.bal_base.specs.declared.shape.Graph.{Graph, Graph', out-Graph, outs-Graph', Row_of-Case, end_of-Case, more_of-Case, items-the_row-Case as cases_in}
use Rattle.bal_base.specs.Levels.{levels, greatest, greatest_field, greatest_of, greatest_case, levels_of}
use Rattle.bal_base.proofs.Rows.{row_of, fields_of, case_of}

abbrev pub IsBelow : ℕ → Shape → Type 0
IsBelow n x = levels x < n

abbrev pub FieldIsBelow : ℕ → Text × Shape → Type 0
FieldIsBelow n f = levels f.1 < n

-- the results and the arguments, as a list, of a pair of a graph
abbrev pub CaseIsBelow : ℕ → Case → Type 0
CaseIsBelow n c = (levels (AList false c.args) < n) × IfSome c.result (IsBelow n)

below_row : (b n : _) (row : Row_of-Shape n) → greatest row < b → All (IsBelow b) (shapes_in n row)
below_row b n end_of-Shape h = All-nil (IsBelow b)
below_row b n (more_of-Shape x rest) h = All-cons (IsBelow b) x _ (omega (arith, h)) (below_row b _ rest (omega (arith, h)))

below_fields : (b n : _) (row : Row_of-Field n) → greatest_field row < b → All (FieldIsBelow b) (fields_in n row)
below_fields b n end_of-Field h = All-nil (FieldIsBelow b)
below_fields b n (more_of-Field key x rest) h = All-cons (FieldIsBelow b) (key, x) _ (omega (arith, h)) (below_fields b _ rest (omega (arith, h)))

pub levels-List : (mark : Bool) (items : Shapes) → All (IsBelow (levels (AList mark items))) items.items.items
levels-List mark items =
    let row = row_of (AList mark items) in
    subst (All (IsBelow (levels (AList mark items)))) (items_hidden-the_row-Shape-0 items.items) (below_row (greatest row.1 + 1) row.0 row.1 (omega arith))

pub levels-Mapping : (mark : Bool) (fields : Fields) → All (FieldIsBelow (levels (Mapping mark fields))) fields.items.items
levels-Mapping mark fields =
    let row = fields_of (Mapping mark fields) in
    subst (All (FieldIsBelow (levels (Mapping mark fields)))) (items_hidden-the_row-Fields-items-2-1 fields.items) (below_fields (greatest_field row.1 + 1) row.0 row.1 (omega arith))

pub levels-Error : (detail : Box Shape Global) → levels detail.value < levels (Error detail)
levels-Error detail = omega arith

pub levels-Future : (results : Shapes) → All (IsBelow (levels (Future results))) results.items.items
levels-Future results =
    let row = row_of (Future results) in
    subst (All (IsBelow (levels (Future results)))) (items_hidden-the_row-Shape-0 results.items) (below_row (greatest row.1 + 1) row.0 row.1 (omega arith))

-- the greatest of a list
most : List Shape → ℕ
most [] = 0
most (x ∷ xs) = max (levels x) (most xs)

greatest-most : (n : _) (row : Row_of-Shape n) → greatest row ≡ most (shapes_in n row)
unfolding most
greatest-most n end_of-Shape = refl
greatest-most n (more_of-Shape x rest) = ap (max (levels x)) (greatest-most _ rest)

-- a list has as many levels, however its members are held
greatest-held : (s : (the_former (this {0}) Global).Shape) (args : Row_of-Shape (arity_of (the_former (this {0}) Global) s)) → greatest (row_of (AList false (record { items = shown-the_row-Shape-0 s args }))).1 ≡ greatest args
greatest-held s args =
    let held : Shapes = record { items = shown-the_row-Shape-0 s args } in
    let row = row_of (AList false held) in
    greatest-most row.0 row.1 ∙ ap most (items_hidden-the_row-Shape-0 held.items ∙ items_shown-the_row-Shape-0 s args) ∙ sym (greatest-most _ args)

below_result : (b : ℕ) (r : Held-Case-result) → levels_of r < b → IfSome (view-Case-result r) (IsBelow b)
below_result b None' h = tt
below_result b (Some' x) h = h

below_cases : (b n : _) (row : Row_of-Case n) → greatest_case row < b → All (CaseIsBelow b) (cases_in n row)
below_cases b n end_of-Case h = All-nil (CaseIsBelow b)
below_cases b n (more_of-Case s args result rest) h =
    All-cons (CaseIsBelow b) (case_of s args result) _ (omega (arith, h, greatest-held s args), below_result b result (omega (arith, h))) (below_cases b _ rest (omega (arith, h)))

below_graph : (g : Graph) → All (CaseIsBelow (greatest_of g + 1)) (out-Graph g).items.items
below_graph (Graph' s row) =
    let same = (λ i. (outs-Graph' s row i).items.items) ∙ items_shown-the_row-Case-2 s row in
    subst (All (CaseIsBelow (greatest_case row + 1))) (sym same) (below_cases (greatest_case row + 1) _ row (omega arith))

pub levels-Function : (isolated : Bool) (graph : Graph) → All (CaseIsBelow (levels (Function isolated graph))) (out-Graph graph).items.items
levels-Function isolated graph = below_graph graph
