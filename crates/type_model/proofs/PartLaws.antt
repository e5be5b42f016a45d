-- The parts of valid shapes are valid.
use Rattle.std.proofs.Common.{◌≡◌, ℕ, zero, suc, List, [], ◌∷◌, slice_get, All, IfSome, false, Option, Some, None, subst}
use Rattle.std.proofs.lemmas.Bool.{false≢true}
use Rattle.std.proofs.lemmas.List.Elements.{All-nil, All-cons, All-head, All-tail, All-contains, All-map}
use Rattle.bal_base.specs.declared.text.Text.{Text}
use Rattle.bal_base.specs.declared.shape.Shape.{Shape, List', Mapping', Function, Future', Row_of-Shape, end_of-Shape, more_of-Shape, items-the_row-Shape as shapes_in, Row_of-Fields-items-2 as Row_of-Field, end_of-Fields-items-2 as end_of-Field, more_of-Fields-items-2 as more_of-Field, items-the_row-Fields-items-2 as fields_in}
use Rattle.bal_base.specs.Shapes.{graph_list}
use Rattle.bal_base.specs.Valid.{IsValid, AreValid, FieldsValid, CaseIsValid}
use Rattle.bal_base.proofs.Rows.{IsValid-List, IsValid-Function}
use Rattle.type_model.specs.declared.answers.Keys.{Keys}
use Rattle.type_model.specs.declared.answers.Keys.TheVariants.{Index, AnyIndex, Field, AnyField, Results}
use Rattle.type_model.specs.Parts.{StandsIn}
use Rattle.type_model.specs.Application.{Answers}

of_row : (n : _) (row : Row_of-Shape n) → AreValid row → All IsValid (shapes_in n row)
of_row n end_of-Shape h = All-nil IsValid
of_row n (more_of-Shape x rest) h = All-cons IsValid x _ h.0 (of_row _ rest h.1)

abbrev ValidField : Text × Shape → Type 0
ValidField f = IsValid f.1

of_fields : (n : _) (row : Row_of-Field n) → FieldsValid row → All ValidField (fields_in n row)
of_fields n end_of-Field h = All-nil ValidField
of_fields n (more_of-Field key x rest) h = All-cons ValidField (key, x) _ h.0 (of_fields _ rest h.1)

All-at : {X : Type 0} (P : X → Type 0) (xs : List X) (k : ℕ) (x : X) → All P xs → slice_get xs k ≡ Some x → P x
All-at P [] k x h is = absurd (not_there is)
  where
    not_there : {X : Type 0} {y : X} → None ≡ Some y → ⊥
    not_there e = cc
All-at P (y ∷ ys) zero x h is = subst P (the_same is) (All-head P y ys h)
  where
    the_same : {X : Type 0} {a b : X} → Some a ≡ Some b → a ≡ b
    the_same e = cc
All-at P (y ∷ ys) (suc k) x h is = All-at P ys k x (All-tail P y ys h) is

-- a part of a valid shape is valid
pub StandsIn-IsValid : (keys : Keys) (whole part : Shape) → StandsIn keys whole part → IsValid whole → IsValid part
StandsIn-IsValid (Index place) (List' mark _ items) part h v = All-at IsValid _ place part (of_row _ items v.1) h
StandsIn-IsValid AnyIndex (List' mark _ items) part h v = All-contains IsValid _ part (of_row _ items v.1) h
StandsIn-IsValid (Field name) (Mapping' mark _ fields) part h v = All-contains ValidField _ (name, part) (of_fields _ fields v.3) h
StandsIn-IsValid AnyField (Mapping' mark _ fields) part h v =
    All-contains IsValid _ part (All-map IsValid (λ f. f.1) (fields_in _ fields) (of_fields _ fields v.3)) h
StandsIn-IsValid Results (Future' _ results) part h v = All-contains IsValid _ part (of_row _ results v) h
StandsIn-IsValid _ _ part h v = absurd h

-- the arguments at which a valid function answers are valid, and so is the result
pub Answers-IsValid : (x arguments : Shape) (answer : Option Shape) → Answers x arguments answer → IsValid x → IsValid arguments × IfSome answer IsValid
Answers-IsValid (Function isolated graph) arguments answer h v =
    let valid = All-contains CaseIsValid (graph_list graph) h.0 ((IsValid-Function isolated graph).0 v) h.1 in
    let c = h.0 in (
      subst IsValid h.2 ((IsValid-List false c.args).1 (λ m. absurd (false≢true m), valid.0)),
      subst (λ o. IfSome o IsValid) h.3 valid.1,
    )
Answers-IsValid _ arguments answer h v = absurd h
