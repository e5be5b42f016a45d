-- Shapes that are the same are valid together and have as many levels.
use Rattle.std.proofs.Common.{◌≡◌, ℕ, ◌+◌, List, ◌∷◌, map, max, length, get_or, IsTrue, All, refl, sym, ap, subst, ◌∙◌, arith}
use Rattle.std.proofs.Math.ListN.{get_or-map, length-map}
use Rattle.std.proofs.lemmas.List.Elements.{All-nil, All-cons, All-head, All-tail}
use Rattle.std.specs.Ordering.{nat_cmp}
use Rattle.std.specs.Cmp.Lexicographic.{slice_cmp}
use Rattle.bal_base.specs.declared.text.Text.{Text}
use Rattle.bal_base.specs.declared.shape.Shape.{Shape, Nil, Bool, Int, Str, List', Mapping', Error', Function, Future', Row_of-Shape, end_of-Shape, more_of-Shape, items-the_row-Shape as shapes_in, Row_of-Fields-items-2 as Row_of-Field, end_of-Fields-items-2 as end_of-Field, more_of-Fields-items-2 as more_of-Field, items-the_row-Fields-items-2 as fields_in}
use Rattle.bal_base.specs.declared.shape.Case.{Held-Case-result, None', Some'}
use Rattle.bal_base.specs.declared.shape.Graph.{Graph, Graph', Row_of-Case, end_of-Case, more_of-Case}
use Rattle.bal_base.specs.Levels.{levels, greatest, greatest_field, greatest_of, greatest_case, levels_of}
use Rattle.bal_base.specs.Same.{IsSame, AreSame, FieldsSame, GraphSame, CasesSame, ResultSame}
use Rattle.bal_base.specs.Valid.{IsInt, IsText, AreTexts, IsFrozen, IsMarkedMapping, KeysRise, IsValid, AreValid, FieldsValid, GraphValid, CasesValid, ResultValid}

-- ---- levels

mutual
  pub levels-same : (x y : Shape) → IsSame x y → levels x ≡ levels y
  levels-same Nil Nil h = refl
  levels-same Nil _ h = absurd h
  levels-same (Bool a) (Bool b) h = refl
  levels-same (Bool a) _ h = absurd h
  levels-same (Int i) (Int j) h = refl
  levels-same (Int i) _ h = absurd h
  levels-same (Str s) (Str t) h = refl
  levels-same (Str s) _ h = absurd h
  levels-same (List' _ _ items) (List' _ _ items') h = ap (λ n. n + 1) (greatest-same _ _ items items' h.1)
  levels-same (List' _ _ items) _ h = absurd h
  levels-same (Mapping' _ _ fields) (Mapping' _ _ fields') h = ap (λ n. n + 1) (greatest_field-same _ _ fields fields' h.1)
  levels-same (Mapping' _ _ fields) _ h = absurd h
  levels-same (Error' _ detail) (Error' _ detail') h = ap (λ n. n + 1) (levels-same detail detail' h)
  levels-same (Error' _ detail) _ h = absurd h
  levels-same (Function _ graph) (Function _ graph') h = ap (λ n. n + 1) (greatest_of-same graph graph' h.1)
  levels-same (Function _ graph) _ h = absurd h
  levels-same (Future' _ results) (Future' _ results') h = ap (λ n. n + 1) (greatest-same _ _ results results' h)
  levels-same (Future' _ results) _ h = absurd h

  greatest-same : (n m : _) (row : Row_of-Shape n) (row' : Row_of-Shape m) → AreSame row row' → greatest row ≡ greatest row'
  greatest-same n m end_of-Shape end_of-Shape h = refl
  greatest-same n m end_of-Shape (more_of-Shape y rest') h = absurd h
  greatest-same n m (more_of-Shape x rest) end_of-Shape h = absurd h
  greatest-same n m (more_of-Shape x rest) (more_of-Shape y rest') h = λ i. max (levels-same x y h.0 i) (greatest-same _ _ rest rest' h.1 i)

  greatest_field-same : (n m : _) (row : Row_of-Field n) (row' : Row_of-Field m) → FieldsSame row row' → greatest_field row ≡ greatest_field row'
  greatest_field-same n m end_of-Field end_of-Field h = refl
  greatest_field-same n m end_of-Field (more_of-Field _ y rest') h = absurd h
  greatest_field-same n m (more_of-Field _ x rest) end_of-Field h = absurd h
  greatest_field-same n m (more_of-Field _ x rest) (more_of-Field _ y rest') h = λ i. max (levels-same x y h.1 i) (greatest_field-same _ _ rest rest' h.2 i)

  greatest_of-same : (g h : Graph) → GraphSame g h → greatest_of g ≡ greatest_of h
  greatest_of-same (Graph' _ cases) (Graph' _ cases') same = greatest_case-same _ _ cases cases' same

  greatest_case-same : (n m : _) (row : Row_of-Case n) (row' : Row_of-Case m) → CasesSame row row' → greatest_case row ≡ greatest_case row'
  greatest_case-same n m end_of-Case end_of-Case h = refl
  greatest_case-same n m end_of-Case (more_of-Case _ args' result' rest') h = absurd h
  greatest_case-same n m (more_of-Case _ args result rest) end_of-Case h = absurd h
  greatest_case-same n m (more_of-Case _ args result rest) (more_of-Case _ args' result' rest') h =
      λ i. max (max (greatest-same _ _ args args' h.0 i + 1) (levels_of-same result result' h.1 i)) (greatest_case-same _ _ rest rest' h.2 i)

  levels_of-same : (r r' : Held-Case-result) → ResultSame r r' → levels_of r ≡ levels_of r'
  levels_of-same None' None' h = refl
  levels_of-same None' (Some' y) h = absurd h
  levels_of-same (Some' x) None' h = absurd h
  levels_of-same (Some' x) (Some' y) h = levels-same x y h

-- ---- valid shapes

pub IsFrozen-same : (x y : Shape) → IsSame x y → IsFrozen x → IsFrozen y
IsFrozen-same Nil Nil h frozen = tt
IsFrozen-same Nil _ h frozen = absurd h
IsFrozen-same (Bool a) (Bool b) h frozen = tt
IsFrozen-same (Bool a) _ h frozen = absurd h
IsFrozen-same (Int i) (Int j) h frozen = tt
IsFrozen-same (Int i) _ h frozen = absurd h
IsFrozen-same (Str s) (Str t) h frozen = tt
IsFrozen-same (Str s) _ h frozen = absurd h
IsFrozen-same (List' mark _ items) (List' mark' _ items') h frozen = subst IsTrue h.0 frozen
IsFrozen-same (List' mark _ items) _ h frozen = absurd h
IsFrozen-same (Mapping' mark _ fields) (Mapping' mark' _ fields') h frozen = subst IsTrue h.0 frozen
IsFrozen-same (Mapping' mark _ fields) _ h frozen = absurd h
IsFrozen-same (Error' _ detail) y h frozen = absurd frozen
IsFrozen-same (Function _ graph) y h frozen = absurd frozen
IsFrozen-same (Future' _ results) y h frozen = absurd frozen

IsMarkedMapping-same : (x y : Shape) → IsSame x y → IsMarkedMapping x → IsMarkedMapping y
IsMarkedMapping-same (Mapping' mark _ fields) (Mapping' mark' _ fields') h marked = subst IsTrue h.0 marked
IsMarkedMapping-same (Mapping' mark _ fields) _ h marked = absurd h
IsMarkedMapping-same _ y h marked = absurd marked

frozen-row : (n m : _) (row : Row_of-Shape n) (row' : Row_of-Shape m) → AreSame row row' → All IsFrozen (shapes_in n row) → All IsFrozen (shapes_in m row')
frozen-row n m end_of-Shape end_of-Shape h all = All-nil IsFrozen
frozen-row n m end_of-Shape (more_of-Shape y rest') h all = absurd h
frozen-row n m (more_of-Shape x rest) end_of-Shape h all = absurd h
frozen-row n m (more_of-Shape x rest) (more_of-Shape y rest') h all =
    All-cons IsFrozen y _ (IsFrozen-same x y h.0 (All-head IsFrozen x _ all)) (frozen-row _ _ rest rest' h.1 (All-tail IsFrozen x _ all))

abbrev FrozenField : Text × Shape → Type 0
FrozenField f = IsFrozen f.1

frozen-fields : (n m : _) (row : Row_of-Field n) (row' : Row_of-Field m) → FieldsSame row row' → All FrozenField (fields_in n row) → All FrozenField (fields_in m row')
frozen-fields n m end_of-Field end_of-Field h all = All-nil FrozenField
frozen-fields n m end_of-Field (more_of-Field key' y rest') h all = absurd h
frozen-fields n m (more_of-Field key x rest) end_of-Field h all = absurd h
frozen-fields n m (more_of-Field key x rest) (more_of-Field key' y rest') h all =
    All-cons FrozenField (key', y) _ (IsFrozen-same x y h.1 (All-head FrozenField (key, x) _ all)) (frozen-fields _ _ rest rest' h.2 (All-tail FrozenField (key, x) _ all))

-- the same fields have the same keys
abbrev pub keys_of : List (Text × Shape) → List Text
keys_of fs = map (λ f. f.0) fs

pub keys-same : (n m : _) (row : Row_of-Field n) (row' : Row_of-Field m) → FieldsSame row row' → keys_of (fields_in n row) ≡ keys_of (fields_in m row')
keys-same n m end_of-Field end_of-Field h = refl
keys-same n m end_of-Field (more_of-Field key' y rest') h = absurd h
keys-same n m (more_of-Field key x rest) end_of-Field h = absurd h
keys-same n m (more_of-Field key x rest) (more_of-Field key' y rest') h = λ i. h.0 i ∷ keys-same _ _ rest rest' h.2 i

abbrev TextField : Text × Shape → Type 0
TextField f = IsText f.0

texts-fields : (n m : _) (row : Row_of-Field n) (row' : Row_of-Field m) → FieldsSame row row' → AreTexts (fields_in n row) → AreTexts (fields_in m row')
texts-fields n m end_of-Field end_of-Field h all = All-nil TextField
texts-fields n m end_of-Field (more_of-Field key' y rest') h all = absurd h
texts-fields n m (more_of-Field key x rest) end_of-Field h all = absurd h
texts-fields n m (more_of-Field key x rest) (more_of-Field key' y rest') h all =
    All-cons TextField (key', y) _ (subst IsText h.0 (All-head TextField (key, x) _ all)) (texts-fields _ _ rest rest' h.2 (All-tail TextField (key, x) _ all))

rise-same : (fs gs : List (Text × Shape)) → keys_of fs ≡ keys_of gs → KeysRise fs → KeysRise gs
rise-same fs gs same rise k d lt =
    let key : (j : ℕ) → (get_or gs j d).0 ≡ (get_or fs j d).0 = λ j. sym (get_or-map (λ f. f.0) gs j d) ∙ ap (λ ks. get_or ks j d.0) (sym same) ∙ get_or-map (λ f. f.0) fs j d in
    let long : length fs ≡ length gs = sym (length-map fs (λ f. f.0)) ∙ ap length same ∙ length-map gs (λ f. f.0) in
    (λ i. slice_cmp nat_cmp (key k i) (key (k + 1) i)) ∙ rise k d (omega (arith, lt, long))

mutual
  pub IsValid-same : (x y : Shape) → IsSame x y → IsValid x → IsValid y
  IsValid-same Nil Nil h valid = tt
  IsValid-same Nil _ h valid = absurd h
  IsValid-same (Bool a) (Bool b) h valid = tt
  IsValid-same (Bool a) _ h valid = absurd h
  IsValid-same (Int i) (Int j) h valid = subst IsInt h valid
  IsValid-same (Int i) _ h valid = absurd h
  IsValid-same (Str s) (Str t) h valid = subst IsText h valid
  IsValid-same (Str s) _ h valid = absurd h
  IsValid-same (List' mark _ items) (List' mark' _ items') h valid =
      (λ m. frozen-row _ _ items items' h.1 (valid.0 (subst IsTrue (sym h.0) m)), row-valid _ _ items items' h.1 valid.1)
  IsValid-same (List' mark _ items) _ h valid = absurd h
  IsValid-same (Mapping' mark _ fields) (Mapping' mark' _ fields') h valid = (
    texts-fields _ _ fields fields' h.1 valid.0,
    rise-same _ _ (keys-same _ _ fields fields' h.1) valid.1,
    λ m. frozen-fields _ _ fields fields' h.1 (valid.2 (subst IsTrue (sym h.0) m)),
    fields-valid _ _ fields fields' h.1 valid.3,
  )
  IsValid-same (Mapping' mark _ fields) _ h valid = absurd h
  IsValid-same (Error' _ detail) (Error' _ detail') h valid = (IsMarkedMapping-same detail detail' h valid.0, IsValid-same detail detail' h valid.1)
  IsValid-same (Error' _ detail) _ h valid = absurd h
  IsValid-same (Function _ graph) (Function _ graph') h valid = graph-valid graph graph' h.1 valid
  IsValid-same (Function _ graph) _ h valid = absurd h
  IsValid-same (Future' _ results) (Future' _ results') h valid = row-valid _ _ results results' h valid
  IsValid-same (Future' _ results) _ h valid = absurd h

  row-valid : (n m : _) (row : Row_of-Shape n) (row' : Row_of-Shape m) → AreSame row row' → AreValid row → AreValid row'
  row-valid n m end_of-Shape end_of-Shape h valid = tt
  row-valid n m end_of-Shape (more_of-Shape y rest') h valid = absurd h
  row-valid n m (more_of-Shape x rest) end_of-Shape h valid = absurd h
  row-valid n m (more_of-Shape x rest) (more_of-Shape y rest') h valid = (IsValid-same x y h.0 valid.0, row-valid _ _ rest rest' h.1 valid.1)

  fields-valid : (n m : _) (row : Row_of-Field n) (row' : Row_of-Field m) → FieldsSame row row' → FieldsValid row → FieldsValid row'
  fields-valid n m end_of-Field end_of-Field h valid = tt
  fields-valid n m end_of-Field (more_of-Field key' y rest') h valid = absurd h
  fields-valid n m (more_of-Field key x rest) end_of-Field h valid = absurd h
  fields-valid n m (more_of-Field key x rest) (more_of-Field key' y rest') h valid = (IsValid-same x y h.1 valid.0, fields-valid _ _ rest rest' h.2 valid.1)

  graph-valid : (g h : Graph) → GraphSame g h → GraphValid g → GraphValid h
  graph-valid (Graph' _ cases) (Graph' _ cases') same valid = cases-valid _ _ cases cases' same valid

  cases-valid : (n m : _) (row : Row_of-Case n) (row' : Row_of-Case m) → CasesSame row row' → CasesValid row → CasesValid row'
  cases-valid n m end_of-Case end_of-Case h valid = tt
  cases-valid n m end_of-Case (more_of-Case _ args' result' rest') h valid = absurd h
  cases-valid n m (more_of-Case _ args result rest) end_of-Case h valid = absurd h
  cases-valid n m (more_of-Case _ args result rest) (more_of-Case _ args' result' rest') h valid =
      (row-valid _ _ args args' h.0 valid.0, result-valid result result' h.1 valid.1, cases-valid _ _ rest rest' h.2 valid.2)

  result-valid : (r r' : Held-Case-result) → ResultSame r r' → ResultValid r → ResultValid r'
  result-valid None' None' h valid = tt
  result-valid None' (Some' y) h valid = absurd h
  result-valid (Some' x) None' h valid = absurd h
  result-valid (Some' x) (Some' y) h valid = IsValid-same x y h valid
