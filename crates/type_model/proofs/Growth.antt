-- A type that names only atoms of an environment has the same shapes in each environment that keeps these.
use Rattle.std.proofs.Common.{◌≡◌, ℕ, ◌+◌, ◌<◌, ◌↔◌, zero, suc, List, [], ◌∷◌, length, slice_get, All, IfSome, IsSomeAnd, Option, Some, Bool, true, false, sym, subst, if◌then◌else◌}
use Rattle.std.proofs.lemmas.List.Elements.{All-head, All-tail}
use Rattle.bal_base.specs.declared.text.Text.{Text}
use Rattle.bal_base.specs.declared.shape.Shape.{Shape, Nil, Bool as BoolShape, Int, Str, List', Mapping', Error', Function, Future', Row_of-Shape, end_of-Shape, more_of-Shape, items-the_row-Shape as shapes_in, Row_of-Fields-items-2 as Row_of-Field, end_of-Fields-items-2 as end_of-Field, more_of-Fields-items-2 as more_of-Field, items-the_row-Fields-items-2 as fields_in}
use Rattle.bal_base.specs.declared.shape.Case.{Held-Case-result, None', Some'}
use Rattle.bal_base.specs.declared.shape.Graph.{Graph, Graph', Row_of-Case, end_of-Case, more_of-Case}
use Rattle.type_model.specs.declared.basic.SemType.{SemType, Basic, Atom, Or', And', Not'}
use Rattle.type_model.specs.declared.basic.Ty.{Ty}
use Rattle.type_model.specs.declared.atoms.FieldDef.{FieldDef}
use Rattle.type_model.specs.declared.atoms.AtomDef.{AtomDef}
use Rattle.type_model.specs.declared.atoms.AtomDef.TheVariants.{List as ListAtom, Mapping as MappingAtom, Arrow, Error as ErrorAtom, Future as FutureAtom}
use Rattle.type_model.specs.Places.{item_type, key_type, is_same_text}
use Rattle.type_model.specs.Membership.{InBy, Fits, EachIn, MembersIn, AllIn, Maps, CasesMap, ResultIn, In, ListFits, MappingFits, ErrorFits, FunctionFits, FutureFits}
use Rattle.type_model.proofs.Same.{both, either, neither, where_so, itself, at_some}
use Rattle.type_model.specs.Defined.{NamesBelow, TyBelow, DefBelow, IsDefined, IsClosed}

-- ---- types at places

item_type_below : (n : ℕ) (fixed : List Ty) (rest : Option Ty) (k : ℕ) → All (TyBelow n) fixed → IfSome rest (TyBelow n) → IfSome (item_type fixed rest k) (TyBelow n)
item_type_below n [] rest k f r = r
item_type_below n (t ∷ ts) rest zero f r = All-head (TyBelow n) t ts f
item_type_below n (t ∷ ts) rest (suc k) f r = item_type_below n ts rest k (All-tail (TyBelow n) t ts f) r

choose : (P : Option Ty → Type 0) (b : Bool) (x y : Option Ty) → P x → P y → P (if b then x else y)
choose P true x y h k = h
choose P false x y h k = k

key_type_below : (n : ℕ) (fields : List FieldDef) (rest : Option Ty) (key : Text) → All (λ f. TyBelow n f.ty) fields → IfSome rest (TyBelow n) → IfSome (key_type fields rest key) (TyBelow n)
key_type_below n [] rest key f r = r
key_type_below n (t ∷ ts) rest key f r =
    choose (λ o. IfSome o (TyBelow n)) (is_same_text t.name key) (Some t.ty) (key_type ts rest key) (All-head (λ f. TyBelow n f.ty) t ts f) (key_type_below n ts rest key (All-tail (λ f. TyBelow n f.ty) t ts f) r)

at_place : {X : Type 0} (R : X → Type 0) (xs : List X) (a : ℕ) → All R xs → IfSome (slice_get xs a) R
at_place R [] a h = tt
at_place R (x ∷ xs) zero h = All-head R x xs h
at_place R (x ∷ xs) (suc a) h = at_place R xs a (All-tail R x xs h)

-- ---- what an atom asks, where the parts are in the same types

module _ (n : ℕ) where
  abbrev Types : List Ty → Option Ty → Type 0
  Types fixed rest = All (TyBelow n) fixed × IfSome rest (TyBelow n)

  abbrev Members : List FieldDef → Option Ty → Type 0
  Members fields rest = All (λ f. TyBelow n f.ty) fields × IfSome rest (TyBelow n)

  list_same : (xs : List Shape) (P Q : List Ty → Option Ty → Type 0) → ((fixed : List Ty) (rest : Option Ty) → Types fixed rest → P fixed rest ↔ Q fixed rest) → (d : AtomDef) → DefBelow n d → ListFits xs P d ↔ ListFits xs Q d
  list_same xs P Q same (ListAtom fixed rest) h = both itself (same fixed rest h)
  list_same xs P Q same (MappingAtom fields rest) h = itself
  list_same xs P Q same (Arrow args outcome alone) h = itself
  list_same xs P Q same (ErrorAtom detail) h = itself
  list_same xs P Q same (FutureAtom outcome) h = itself

  mapping_same : (ms : List (Text × Shape)) (P Q : List FieldDef → Option Ty → Type 0) → ((fields : List FieldDef) (rest : Option Ty) → Members fields rest → P fields rest ↔ Q fields rest) → (d : AtomDef) → DefBelow n d → MappingFits ms P d ↔ MappingFits ms Q d
  mapping_same ms P Q same (ListAtom fixed rest) h = itself
  mapping_same ms P Q same (MappingAtom fields rest) h = both itself (same fields rest h)
  mapping_same ms P Q same (Arrow args outcome alone) h = itself
  mapping_same ms P Q same (ErrorAtom detail) h = itself
  mapping_same ms P Q same (FutureAtom outcome) h = itself

  error_same : (P Q : SemType → Type 0) → ((t : SemType) → NamesBelow n t → P t ↔ Q t) → (d : AtomDef) → DefBelow n d → ErrorFits P d ↔ ErrorFits Q d
  error_same P Q same (ListAtom fixed rest) h = itself
  error_same P Q same (MappingAtom fields rest) h = itself
  error_same P Q same (Arrow args outcome alone) h = itself
  error_same P Q same (ErrorAtom detail) h = same detail h
  error_same P Q same (FutureAtom outcome) h = itself

  function_same : (isolated : Bool) (P Q : SemType → SemType → Type 0) → ((args outcome : SemType) → NamesBelow n args → NamesBelow n outcome → P args outcome ↔ Q args outcome) → (d : AtomDef) → DefBelow n d → FunctionFits isolated P d ↔ FunctionFits isolated Q d
  function_same isolated P Q same (ListAtom fixed rest) h = itself
  function_same isolated P Q same (MappingAtom fields rest) h = itself
  function_same isolated P Q same (Arrow args outcome alone) h = both itself (same args outcome h.0 h.1)
  function_same isolated P Q same (ErrorAtom detail) h = itself
  function_same isolated P Q same (FutureAtom outcome) h = itself

  future_same : (P Q : SemType → Type 0) → ((t : SemType) → NamesBelow n t → P t ↔ Q t) → (d : AtomDef) → DefBelow n d → FutureFits P d ↔ FutureFits Q d
  future_same P Q same (ListAtom fixed rest) h = itself
  future_same P Q same (MappingAtom fields rest) h = itself
  future_same P Q same (Arrow args outcome alone) h = itself
  future_same P Q same (ErrorAtom detail) h = itself
  future_same P Q same (FutureAtom outcome) h = same outcome h

module _ (old new : List AtomDef) (closed : IsClosed old) (kept : (a : ℕ) → a < length old → slice_get new a ≡ slice_get old a) where
  abbrev n : ℕ
  n = length old

  InBy-kept : (x : Shape) (P Q : AtomDef → Type 0) → ((d : AtomDef) → DefBelow n d → P d ↔ Q d) → (t : SemType) → NamesBelow n t → InBy old x P t ↔ InBy new x Q t
  InBy-kept x P Q same (Basic b) h = itself
  InBy-kept x P Q same (Atom a) h =
      subst (λ o. IsSomeAnd (slice_get old a) P ↔ IsSomeAnd o Q) (sym (kept a h)) (at_some (slice_get old a) (DefBelow n) P Q (at_place (DefBelow n) old a closed) same)
  InBy-kept x P Q same (Or' _ s _ t) h = either (InBy-kept x P Q same s h.0) (InBy-kept x P Q same t h.1)
  InBy-kept x P Q same (And' _ s _ t) h = both (InBy-kept x P Q same s h.0) (InBy-kept x P Q same t h.1)
  InBy-kept x P Q same (Not' _ t) h = neither (InBy-kept x P Q same t h)

  mutual
    pub Fits-kept : (x : Shape) (d : AtomDef) → DefBelow n d → Fits old x d ↔ Fits new x d
    Fits-kept Nil d h = itself
    Fits-kept (BoolShape b) d h = itself
    Fits-kept (Int i) d h = itself
    Fits-kept (Str t) d h = itself
    Fits-kept (List' mark _ items) d h =
        list_same n (shapes_in _ items) (EachIn old items 0) (EachIn new items 0) (λ fixed rest below. EachIn-kept _ items 0 fixed rest below) d h
    Fits-kept (Mapping' mark _ fields) d h =
        mapping_same n (fields_in _ fields) (MembersIn old fields) (MembersIn new fields) (λ fs rest below. MembersIn-kept _ fields fs rest below) d h
    Fits-kept (Error' _ detail) d h =
        error_same n (InBy old detail (Fits old detail)) (InBy new detail (Fits new detail)) (λ t below. InBy-kept detail (Fits old detail) (Fits new detail) (λ e k. Fits-kept detail e k) t below) d h
    Fits-kept (Function isolated graph) d h =
        function_same n isolated (Maps old graph) (Maps new graph) (λ args outcome a r. Maps-kept graph args outcome a r) d h
    Fits-kept (Future' _ results) d h =
        future_same n (AllIn old results) (AllIn new results) (λ t below. AllIn-kept _ results t below) d h

    EachIn-kept : (m : _) (row : Row_of-Shape m) (k : ℕ) (fixed : List Ty) (rest : Option Ty) → Types n fixed rest → EachIn old row k fixed rest ↔ EachIn new row k fixed rest
    EachIn-kept m end_of-Shape k fixed rest below = itself
    EachIn-kept m (more_of-Shape x xs) k fixed rest below =
        both (at_some (item_type fixed rest k) (TyBelow n) (λ t. InBy old x (Fits old x) t.sem) (λ t. InBy new x (Fits new x) t.sem) (item_type_below n fixed rest k below.0 below.1) (λ t b. InBy-kept x (Fits old x) (Fits new x) (λ e j. Fits-kept x e j) t.sem b.0)) (EachIn-kept _ xs (k + 1) fixed rest below)

    MembersIn-kept : (m : _) (row : Row_of-Field m) (fields : List FieldDef) (rest : Option Ty) → Members n fields rest → MembersIn old row fields rest ↔ MembersIn new row fields rest
    MembersIn-kept m end_of-Field fields rest below = itself
    MembersIn-kept m (more_of-Field key x more) fields rest below =
        both (at_some (key_type fields rest key) (TyBelow n) (λ t. InBy old x (Fits old x) t.sem) (λ t. InBy new x (Fits new x) t.sem) (key_type_below n fields rest key below.0 below.1) (λ t b. InBy-kept x (Fits old x) (Fits new x) (λ e j. Fits-kept x e j) t.sem b.0)) (MembersIn-kept _ more fields rest below)

    AllIn-kept : (m : _) (row : Row_of-Shape m) (t : SemType) → NamesBelow n t → AllIn old row t ↔ AllIn new row t
    AllIn-kept m end_of-Shape t below = itself
    AllIn-kept m (more_of-Shape x xs) t below =
        both (InBy-kept x (Fits old x) (Fits new x) (λ e j. Fits-kept x e j) t below) (AllIn-kept _ xs t below)

    Maps-kept : (graph : Graph) (args outcome : SemType) → NamesBelow n args → NamesBelow n outcome → Maps old graph args outcome ↔ Maps new graph args outcome
    Maps-kept (Graph' _ cases) args outcome a r = CasesMap-kept _ cases args outcome a r

    CasesMap-kept : (m : _) (row : Row_of-Case m) (args outcome : SemType) → NamesBelow n args → NamesBelow n outcome → CasesMap old row args outcome ↔ CasesMap new row args outcome
    CasesMap-kept m end_of-Case args outcome a r = itself
    CasesMap-kept m (more_of-Case s xs result rest) args outcome a r =
        both (where_so (InBy-kept (List' false s xs) (ListFits (shapes_in _ xs) (EachIn old xs 0)) (ListFits (shapes_in _ xs) (EachIn new xs 0)) (λ e j. list_same n (shapes_in _ xs) (EachIn old xs 0) (EachIn new xs 0) (λ fixed more below. EachIn-kept _ xs 0 fixed more below) e j) args a) (ResultIn-kept result outcome r)) (CasesMap-kept _ rest args outcome a r)

    ResultIn-kept : (result : Held-Case-result) (t : SemType) → NamesBelow n t → ResultIn old result t ↔ ResultIn new result t
    ResultIn-kept None' t below = itself
    ResultIn-kept (Some' x) t below = InBy-kept x (Fits old x) (Fits new x) (λ e j. Fits-kept x e j) t below

  pub In-kept : (x : Shape) (t : SemType) → IsDefined old t → In old x t ↔ In new x t
  In-kept x t below = InBy-kept x (Fits old x) (Fits new x) (Fits-kept x) t below
