-- Shapes that are the same are in the same types.
use Rattle.std.proofs.Common.{◌≡◌, ◌↔◌, ℕ, suc, ◌+◌, ◌<◌, ◌≤◌, ◌⊎◌, List, map, length, get_or, slice_get, IsSomeAnd, IsTrue, false, Option, Some, None, refl, sym, ap, subst, ◌∙◌, arith}
use Rattle.std.proofs.Math.ListN.{get_or-map, length-map}
use Rattle.std.proofs.lemmas.List.{get_or_default}
use Rattle.bal_base.specs.declared.text.Text.{Text}
use Rattle.bal_base.specs.declared.shape.Shape.{Shape, Nil, Bool as BoolShape, Int, Str, List', Mapping', Error', Function, Future', Row_of-Shape, end_of-Shape, more_of-Shape, items-the_row-Shape as shapes_in, Row_of-Fields-items-2 as Row_of-Field, end_of-Fields-items-2 as end_of-Field, more_of-Fields-items-2 as more_of-Field, items-the_row-Fields-items-2 as fields_in}
use Rattle.bal_base.specs.declared.shape.Case.{Held-Case-result, None', Some'}
use Rattle.bal_base.specs.declared.shape.Graph.{Graph, Graph', Row_of-Case, end_of-Case, more_of-Case}
use Rattle.bal_base.specs.Same.{IsSame, AreSame, FieldsSame, GraphSame, CasesSame, ResultSame}
use Rattle.bal_base.proofs.SameShapes.{keys-same}
use Rattle.type_model.specs.declared.basic.SemType.{SemType, Basic, Atom, Or', And', Not'}
use Rattle.type_model.specs.declared.basic.BasicSet.{BasicSet}
use Rattle.type_model.specs.declared.basic.BasicSet.TheVariants.{Readonly}
use Rattle.type_model.specs.declared.basic.Ty.{Ty}
use Rattle.type_model.specs.declared.atoms.FieldDef.{FieldDef}
use Rattle.type_model.specs.declared.atoms.AtomDef.{AtomDef}
use Rattle.type_model.specs.declared.atoms.AtomDef.TheVariants.{List as ListAtom, Mapping as MappingAtom, Arrow, Error as ErrorAtom, Future as FutureAtom}
use Rattle.type_model.specs.Basic.{InBasic}
use Rattle.type_model.specs.Places.{item_type, key_type, HasKey, HasRequired}
use Rattle.type_model.specs.Membership.{InBy, Fits, EachIn, MembersIn, AllIn, Maps, CasesMap, ResultIn, In, ListFits, MappingFits, ErrorFits, FunctionFits, FutureFits}
use Rattle.type_model.proofs.Same.{both, either, neither, where_so, itself}

along : {X : Type 0} (P : X → Type 0) (x y : X) → x ≡ y → P x ↔ P y
along P x y same = (subst P same, subst P (sym same))

some-same : {X : Type 0} (P Q : X → Type 0) → ((x : X) → P x ↔ Q x) → (o : Option X) → IsSomeAnd o P ↔ IsSomeAnd o Q
some-same P Q same None = itself
some-same P Q same (Some x) = same x

at-key : {X : Type 0} (o o' : Option X) → o ≡ o' → (P Q : X → Type 0) → ((x : X) → P x ↔ Q x) → IsSomeAnd o P ↔ IsSomeAnd o' Q
at-key o o' is P Q same = let here = some-same P Q same o in (λ h. subst (λ z. IsSomeAnd z Q) is (here.0 h), λ h. here.1 (subst (λ z. IsSomeAnd z Q) (sym is) h))

-- ---- the basic sets

InBasic-same : (x y : Shape) → IsSame x y → (b : BasicSet) → InBasic x b ↔ InBasic y b
InBasic-same Nil Nil h b = itself
InBasic-same Nil _ h b = absurd h
InBasic-same (BoolShape c) (BoolShape d) h b = along (λ e. InBasic (BoolShape e) b) c d h
InBasic-same (BoolShape c) _ h b = absurd h
InBasic-same (Int i) (Int j) h b = along (λ k. InBasic (Int k) b) i j h
InBasic-same (Int i) _ h b = absurd h
InBasic-same (Str s) (Str t) h b = along (λ u. InBasic (Str u) b) s t h
InBasic-same (Str s) _ h b = absurd h
InBasic-same (List' mark _ items) (List' mark' _ items') h Readonly = along IsTrue mark mark' h.0
InBasic-same (List' mark _ items) (List' mark' _ items') h _ = itself
InBasic-same (List' mark _ items) _ h b = absurd h
InBasic-same (Mapping' mark _ fields) (Mapping' mark' _ fields') h Readonly = along IsTrue mark mark' h.0
InBasic-same (Mapping' mark _ fields) (Mapping' mark' _ fields') h _ = itself
InBasic-same (Mapping' mark _ fields) _ h b = absurd h
InBasic-same (Error' _ detail) (Error' _ detail') h _ = itself
InBasic-same (Error' _ detail) _ h b = absurd h
InBasic-same (Function isolated graph) (Function isolated' graph') h _ = itself
InBasic-same (Function isolated graph) _ h b = absurd h
InBasic-same (Future' _ results) (Future' _ results') h _ = itself
InBasic-same (Future' _ results) _ h b = absurd h

-- ---- what atoms ask of shapes of their kind

HasKey-along : (ms ns : List (Text × Shape)) → map (λ m. m.0) ms ≡ map (λ m. m.0) ns → (key : Text) → HasKey ms key → HasKey ns key
HasKey-along ms ns keys key (k, m, lt, is, named) =
    let long : length ms ≡ length ns = sym (length-map ms (λ f. f.0)) ∙ ap length keys ∙ length-map ns (λ f. f.0) in
    let here : (get_or ns k m).0 ≡ m.0 = sym (get_or-map (λ f. f.0) ns k m) ∙ ap (λ ks. get_or ks k m.0) (sym keys) ∙ get_or-map (λ f. f.0) ms k m ∙ ap (λ f. f.0) is in
    let lt' : k < length ns = omega (arith, lt, long) in
    (k, get_or ns k m, lt', get_or_default ns k (get_or ns k m) m lt', here ∙ named)

HasRequired-same : (ms ns : List (Text × Shape)) → map (λ m. m.0) ms ≡ map (λ m. m.0) ns → (fields : List FieldDef) → HasRequired fields ms ↔ HasRequired fields ns
HasRequired-same ms ns keys fields =
    let each : (f : FieldDef) → (IsTrue f.optional ⊎ HasKey ms f.name) ↔ (IsTrue f.optional ⊎ HasKey ns f.name) = λ f. either itself (HasKey-along ms ns keys f.name, HasKey-along ns ms (sym keys) f.name) in
    (λ h i d lt. (each (get_or fields i d)).0 (h i d lt), λ h i d lt. (each (get_or fields i d)).1 (h i d lt))

list-same : (xs ys : List Shape) (each each' : List Ty → Option Ty → Type 0) → length xs ≡ length ys → ((fixed : List Ty) (rest : Option Ty) → each fixed rest ↔ each' fixed rest) → (d : AtomDef) → ListFits xs each d ↔ ListFits ys each' d
list-same xs ys each each' long e (ListAtom fixed rest) = both (along (λ n. length fixed ≤ n) (length xs) (length ys) long) (e fixed rest)
list-same xs ys each each' long e _ = itself

mapping-same : (ms ns : List (Text × Shape)) (each each' : List FieldDef → Option Ty → Type 0) → map (λ m. m.0) ms ≡ map (λ m. m.0) ns → ((fields : List FieldDef) (rest : Option Ty) → each fields rest ↔ each' fields rest) → (d : AtomDef) → MappingFits ms each d ↔ MappingFits ns each' d
mapping-same ms ns each each' keys e (MappingAtom fields rest) = both (HasRequired-same ms ns keys fields) (e fields rest)
mapping-same ms ns each each' keys e _ = itself

error-same : (detail_in detail_in' : SemType → Type 0) → ((t : SemType) → detail_in t ↔ detail_in' t) → (d : AtomDef) → ErrorFits detail_in d ↔ ErrorFits detail_in' d
error-same detail_in detail_in' e (ErrorAtom detail) = e detail
error-same detail_in detail_in' e _ = itself

function-same : (isolated isolated' : _) (maps maps' : SemType → SemType → Type 0) → isolated ≡ isolated' → ((args outcome : SemType) → maps args outcome ↔ maps' args outcome) → (d : AtomDef) → FunctionFits isolated maps d ↔ FunctionFits isolated' maps' d
function-same isolated isolated' maps maps' same e (Arrow args outcome alone) = both (where_so itself (along IsTrue isolated isolated' same)) (e args outcome)
function-same isolated isolated' maps maps' same e _ = itself

future-same : (each_in each_in' : SemType → Type 0) → ((t : SemType) → each_in t ↔ each_in' t) → (d : AtomDef) → FutureFits each_in d ↔ FutureFits each_in' d
future-same each_in each_in' e (FutureAtom outcome) = e outcome
future-same each_in each_in' e _ = itself

length-same : (n m : _) (row : Row_of-Shape n) (row' : Row_of-Shape m) → AreSame row row' → length (shapes_in n row) ≡ length (shapes_in m row')
length-same n m end_of-Shape end_of-Shape h = refl
length-same n m end_of-Shape (more_of-Shape y rest') h = absurd h
length-same n m (more_of-Shape x rest) end_of-Shape h = absurd h
length-same n m (more_of-Shape x rest) (more_of-Shape y rest') h = ap suc (length-same _ _ rest rest' h.1)

module _ (env : List AtomDef) where
  InBy-same : (x y : Shape) → ((b : BasicSet) → InBasic x b ↔ InBasic y b) → (fits fits' : AtomDef → Type 0) → ((d : AtomDef) → fits d ↔ fits' d) → (t : SemType) → InBy env x fits t ↔ InBy env y fits' t
  InBy-same x y basic fits fits' e (Basic b) = basic b
  InBy-same x y basic fits fits' e (Atom n) = some-same fits fits' e (slice_get env n)
  InBy-same x y basic fits fits' e (Or' _ s _ t) = either (InBy-same x y basic fits fits' e s) (InBy-same x y basic fits fits' e t)
  InBy-same x y basic fits fits' e (And' _ s _ t) = both (InBy-same x y basic fits fits' e s) (InBy-same x y basic fits fits' e t)
  InBy-same x y basic fits fits' e (Not' _ t) = neither (InBy-same x y basic fits fits' e t)

  -- a part and the same part
  part-same : (x y : Shape) → IsSame x y → ((d : AtomDef) → Fits env x d ↔ Fits env y d) → (t : SemType) → In env x t ↔ In env y t
  part-same x y h e = InBy-same x y (InBasic-same x y h) (Fits env x) (Fits env y) e

  mutual
    pub Fits-same : (x y : Shape) → IsSame x y → (d : AtomDef) → Fits env x d ↔ Fits env y d
    Fits-same Nil Nil h d = itself
    Fits-same Nil _ h d = absurd h
    Fits-same (BoolShape b) (BoolShape c) h d = itself
    Fits-same (BoolShape b) _ h d = absurd h
    Fits-same (Int i) (Int j) h d = itself
    Fits-same (Int i) _ h d = absurd h
    Fits-same (Str s) (Str t) h d = itself
    Fits-same (Str s) _ h d = absurd h
    Fits-same (List' mark _ items) (List' mark' _ items') h d =
        list-same (shapes_in _ items) (shapes_in _ items') (EachIn env items 0) (EachIn env items' 0) (length-same _ _ items items' h.1) (λ fixed rest. EachIn-same _ _ items items' h.1 0 fixed rest) d
    Fits-same (List' mark _ items) _ h d = absurd h
    Fits-same (Mapping' mark _ fields) (Mapping' mark' _ fields') h d =
        mapping-same (fields_in _ fields) (fields_in _ fields') (MembersIn env fields) (MembersIn env fields') (keys-same _ _ fields fields' h.1) (λ fs rest. MembersIn-same _ _ fields fields' h.1 fs rest) d
    Fits-same (Mapping' mark _ fields) _ h d = absurd h
    Fits-same (Error' _ detail) (Error' _ detail') h d = error-same (In env detail) (In env detail') (part-same detail detail' h (λ e. Fits-same detail detail' h e)) d
    Fits-same (Error' _ detail) _ h d = absurd h
    Fits-same (Function isolated graph) (Function isolated' graph') h d = function-same isolated isolated' (Maps env graph) (Maps env graph') h.0 (λ args outcome. Maps-same graph graph' h.1 args outcome) d
    Fits-same (Function isolated graph) _ h d = absurd h
    Fits-same (Future' _ results) (Future' _ results') h d = future-same (AllIn env results) (AllIn env results') (λ t. AllIn-same _ _ results results' h t) d
    Fits-same (Future' _ results) _ h d = absurd h

    EachIn-same : (n m : _) (row : Row_of-Shape n) (row' : Row_of-Shape m) → AreSame row row' → (k : ℕ) (fixed : List Ty) (rest : Option Ty) → EachIn env row k fixed rest ↔ EachIn env row' k fixed rest
    EachIn-same n m end_of-Shape end_of-Shape h k fixed rest = itself
    EachIn-same n m end_of-Shape (more_of-Shape y ys) h k fixed rest = absurd h
    EachIn-same n m (more_of-Shape x xs) end_of-Shape h k fixed rest = absurd h
    EachIn-same n m (more_of-Shape x xs) (more_of-Shape y ys) h k fixed rest =
        both (some-same (λ t. In env x t.sem) (λ t. In env y t.sem) (λ t. part-same x y h.0 (λ e. Fits-same x y h.0 e) t.sem) (item_type fixed rest k)) (EachIn-same _ _ xs ys h.1 (k + 1) fixed rest)

    MembersIn-same : (n m : _) (row : Row_of-Field n) (row' : Row_of-Field m) → FieldsSame row row' → (fields : List FieldDef) (rest : Option Ty) → MembersIn env row fields rest ↔ MembersIn env row' fields rest
    MembersIn-same n m end_of-Field end_of-Field h fields rest = itself
    MembersIn-same n m end_of-Field (more_of-Field key' y more') h fields rest = absurd h
    MembersIn-same n m (more_of-Field key x more) end_of-Field h fields rest = absurd h
    MembersIn-same n m (more_of-Field key x more) (more_of-Field key' y more') h fields rest =
        both (at-key (key_type fields rest key) (key_type fields rest key') (ap (key_type fields rest) h.0) (λ t. In env x t.sem) (λ t. In env y t.sem) (λ t. part-same x y h.1 (λ e. Fits-same x y h.1 e) t.sem)) (MembersIn-same _ _ more more' h.2 fields rest)

    AllIn-same : (n m : _) (row : Row_of-Shape n) (row' : Row_of-Shape m) → AreSame row row' → (t : SemType) → AllIn env row t ↔ AllIn env row' t
    AllIn-same n m end_of-Shape end_of-Shape h t = itself
    AllIn-same n m end_of-Shape (more_of-Shape y ys) h t = absurd h
    AllIn-same n m (more_of-Shape x xs) end_of-Shape h t = absurd h
    AllIn-same n m (more_of-Shape x xs) (more_of-Shape y ys) h t = both (part-same x y h.0 (λ e. Fits-same x y h.0 e) t) (AllIn-same _ _ xs ys h.1 t)

    Maps-same : (g h : Graph) → GraphSame g h → (args outcome : SemType) → Maps env g args outcome ↔ Maps env h args outcome
    Maps-same (Graph' _ cases) (Graph' _ cases') same args outcome = CasesMap-same _ _ cases cases' same args outcome

    CasesMap-same : (n m : _) (row : Row_of-Case n) (row' : Row_of-Case m) → CasesSame row row' → (args outcome : SemType) → CasesMap env row args outcome ↔ CasesMap env row' args outcome
    CasesMap-same n m end_of-Case end_of-Case h args outcome = itself
    CasesMap-same n m end_of-Case (more_of-Case s' ys result' rest') h args outcome = absurd h
    CasesMap-same n m (more_of-Case s xs result rest) end_of-Case h args outcome = absurd h
    CasesMap-same n m (more_of-Case s xs result rest) (more_of-Case s' ys result' rest') h args outcome =
        both
        (where_so
        (InBy-same (List' false s xs) (List' false s' ys) (InBasic-same (List' false s xs) (List' false s' ys) (refl, h.0)) (ListFits (shapes_in _ xs) (EachIn env xs 0)) (ListFits (shapes_in _ ys) (EachIn env ys 0))
        (list-same (shapes_in _ xs) (shapes_in _ ys) (EachIn env xs 0) (EachIn env ys 0) (length-same _ _ xs ys h.0) (λ fixed more. EachIn-same _ _ xs ys h.0 0 fixed more)) args)
        (ResultIn-same result result' h.1 outcome))
        (CasesMap-same _ _ rest rest' h.2 args outcome)

    ResultIn-same : (r r' : Held-Case-result) → ResultSame r r' → (t : SemType) → ResultIn env r t ↔ ResultIn env r' t
    ResultIn-same None' None' h t = itself
    ResultIn-same None' (Some' y) h t = absurd h
    ResultIn-same (Some' x) None' h t = absurd h
    ResultIn-same (Some' x) (Some' y) h t = part-same x y h (λ e. Fits-same x y h e) t

  pub In-same : (x y : Shape) → IsSame x y → (t : SemType) → In env x t ↔ In env y t
  In-same x y h = part-same x y h (Fits-same x y h)
