-- Parts that are the same, as lists, make shapes that are the same.
use Rattle.std.proofs.Common.{◌≡◌, List, take, length, get_or, ℕ, ◌+◌, ◌<◌, ◌++◌, [], ◌∷◌, Bool, refl, ap, sym, subst, ◌∙◌}
use Rattle.std.specs.List.{AllZip}
use Rattle.std.proofs.lemmas.List.{take_more}
use Rattle.std.proofs.lemmas.List.Elements.{AllZip-push}
use Rattle.bal_base.specs.declared.shape.Shape.TheBlock.{items_shown-the_row-Shape-0, items_shown-the_row-Case-2}
use Rattle.bal_base.specs.declared.shape.Shape.{Shape, List as AList, Mapping, Function, Future, Row_of-Shape, end_of-Shape, more_of-Shape, items-the_row-Shape as shapes_in, items_hidden-the_row-Shape-0, Row_of-Fields-items-2 as Row_of-Field, end_of-Fields-items-2 as end_of-Field, more_of-Fields-items-2 as more_of-Field, items-the_row-Fields-items-2 as fields_in, items_hidden-the_row-Fields-items-2-1}
use Rattle.bal_base.specs.declared.shape.Shapes.{Shapes}
use Rattle.bal_base.specs.declared.shape.Fields.{Fields}
use Rattle.bal_base.specs.declared.shape.Case.{view-Case-result, Held-Case-result, None', Some'}
use Rattle.bal_base.specs.declared.shape.Graph.{Graph, Graph', out-Graph, outs-Graph', Row_of-Case, end_of-Case, more_of-Case, items-the_row-Case as cases_in}
use Rattle.bal_base.specs.Same.{IsSame, AreSame, FieldsSame, GraphSame, CasesSame, ResultSame, IsSameField, IsSameCase, IsSameResult}
use Rattle.bal_base.proofs.Rows.{row_of, fields_of}

-- the same pairs of two lists that are equal to these
zip-along : {X Y : Type 0} (R : X → Y → Type 0) (xs xs' : List X) (ys ys' : List Y) → xs ≡ xs' → ys ≡ ys' → AllZip R xs' ys' → AllZip R xs ys
zip-along R xs xs' ys ys' e f h = subst (λ zs. AllZip R zs ys) (sym e) (subst (AllZip R xs') (sym f) h)

-- a loop that copies one member after another
pub copied_more : {X : Type 0} (R : X → X → Type 0) (xs ys : List X) (i : ℕ) (x y : X) → i < length xs → x ≡ get_or xs i x → AllZip R (take i xs) ys → R x y → AllZip R (take (i + 1) xs) (ys ++ y ∷ [])
copied_more R xs ys i x y lt is all same =
    let more : take (i + 1) xs ≡ take i xs ++ x ∷ [] = take_more xs i x lt ∙ ap (λ z. take i xs ++ z ∷ []) (sym is) in
    subst (λ zs. AllZip R zs (ys ++ y ∷ [])) (sym more) (AllZip-push R (take i xs) ys x y all same)

-- a shape that was read and a shape that was made, by their parts
pub by_copies : {X : Type 0} (R : X → X → Type 0) (s v w : Shape) {xs seen ys made : List X} → s ≡ v → seen ≡ xs → ys ≡ made → (AllZip R xs ys → IsSame v w) → AllZip R seen made → IsSame s w
by_copies R s v w is read makes same all = subst (λ v. IsSame v w) (sym is) (same (zip-along R _ _ _ _ (sym read) makes all))

same_row : (n m : _) (row : Row_of-Shape n) (row' : Row_of-Shape m) → AllZip IsSame (shapes_in n row) (shapes_in m row') → AreSame row row'
same_row n m end_of-Shape end_of-Shape h = tt
same_row n m end_of-Shape (more_of-Shape y rest') h = h
same_row n m (more_of-Shape x rest) end_of-Shape h = h
same_row n m (more_of-Shape x rest) (more_of-Shape y rest') h = (h.0, same_row _ _ rest rest' h.1)

same_fields : (n m : _) (row : Row_of-Field n) (row' : Row_of-Field m) → AllZip IsSameField (fields_in n row) (fields_in m row') → FieldsSame row row'
same_fields n m end_of-Field end_of-Field h = tt
same_fields n m end_of-Field (more_of-Field key' y rest') h = h
same_fields n m (more_of-Field key x rest) end_of-Field h = h
same_fields n m (more_of-Field key x rest) (more_of-Field key' y rest') h = (h.0.0, h.0.1, same_fields _ _ rest rest' h.1)

same_result : (r r' : Held-Case-result) → IsSameResult (view-Case-result r) (view-Case-result r') → ResultSame r r'
same_result None' None' h = tt
same_result None' (Some' y) h = h
same_result (Some' x) None' h = h
same_result (Some' x) (Some' y) h = h

same_cases : (n m : _) (row : Row_of-Case n) (row' : Row_of-Case m) → AllZip IsSameCase (cases_in n row) (cases_in m row') → CasesSame row row'
same_cases n m end_of-Case end_of-Case h = tt
same_cases n m end_of-Case (more_of-Case s' args' result' rest') h = h
same_cases n m (more_of-Case s args result rest) end_of-Case h = h
same_cases n m (more_of-Case s args result rest) (more_of-Case s' args' result' rest') h = (
  same_row _ _ args args' (zip-along IsSame _ _ _ _ (sym (items_shown-the_row-Shape-0 s args)) (sym (items_shown-the_row-Shape-0 s' args')) h.0.0),
  same_result result result' h.0.1,
  same_cases _ _ rest rest' h.1,
)

same_shapes : (xs ys : Shapes) → AllZip IsSame xs.items.items ys.items.items → AreSame (row_of (Future xs)).1 (row_of (Future ys)).1
same_shapes xs ys h =
    let row = row_of (Future xs) in
    let row' = row_of (Future ys) in
    same_row row.0 row'.0 row.1 row'.1 (zip-along IsSame _ _ _ _ (items_hidden-the_row-Shape-0 xs.items) (items_hidden-the_row-Shape-0 ys.items) h)

pub IsSame-List : (mark : Bool) (xs ys : Shapes) → AllZip IsSame xs.items.items ys.items.items → IsSame (AList mark xs) (AList mark ys)
IsSame-List mark xs ys h = (refl, same_shapes xs ys h)

pub IsSame-Future : (xs ys : Shapes) → AllZip IsSame xs.items.items ys.items.items → IsSame (Future xs) (Future ys)
IsSame-Future xs ys h = same_shapes xs ys h

pub IsSame-Mapping : (mark : Bool) (fs gs : Fields) → AllZip IsSameField fs.items.items gs.items.items → IsSame (Mapping mark fs) (Mapping mark gs)
IsSame-Mapping mark fs gs h =
    let row = fields_of (Mapping mark fs) in
    let row' = fields_of (Mapping mark gs) in
    (refl, same_fields row.0 row'.0 row.1 row'.1 (zip-along IsSameField _ _ _ _ (items_hidden-the_row-Fields-items-2-1 fs.items) (items_hidden-the_row-Fields-items-2-1 gs.items) h))

graph-same : (g h : Graph) → AllZip IsSameCase (out-Graph g).items.items (out-Graph h).items.items → GraphSame g h
graph-same (Graph' s row) (Graph' s' row') all =
    let first = (λ i. (outs-Graph' s row i).items.items) ∙ items_shown-the_row-Case-2 s row in
    let second = (λ i. (outs-Graph' s' row' i).items.items) ∙ items_shown-the_row-Case-2 s' row' in
    same_cases _ _ row row' (zip-along IsSameCase _ _ _ _ (sym first) (sym second) all)

pub IsSame-Function : (isolated : Bool) (g h : Graph) → AllZip IsSameCase (out-Graph g).items.items (out-Graph h).items.items → IsSame (Function isolated g) (Function isolated h)
IsSame-Function isolated g h all = (refl, graph-same g h all)
