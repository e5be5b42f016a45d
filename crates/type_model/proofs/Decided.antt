-- Membership is decided: a shape is in a type, or it isn't.
use Rattle.std.proofs.Common.{◌≡◌, ℕ, zero, suc, ◌+◌, ◌<◌, ◌≤◌, ◌≤ℤ◌, ◌<ℤ◌, ℤ, ◌⊎◌, ⊎_elim, inl, inr, List, [], ◌∷◌, length, get_or, slice_get, All, Any, IsSomeAnd, IsTrue, Bool, true, false, Option, Some, None, refl, sym, subst, arith}
use Rattle.std.specs.Cmp.Lexicographic.{bytes_decides}
use Rattle.std.proofs.lemmas.Bool.{false≢true}
use Rattle.std.proofs.lemmas.Int.{by_lt_z, ints}
use Rattle.std.proofs.lemmas.List.Elements.{All-nil, All-cons, All-head, All-tail}
use Rattle.bal_base.specs.declared.text.Text.{Text}
use Rattle.bal_base.specs.declared.shape.Shape.{Shape, Nil, Bool as BoolShape, Int, Str, List', Mapping', Error', Function, Future', Row_of-Shape, end_of-Shape, more_of-Shape, items-the_row-Shape as shapes_in, Row_of-Fields-items-2 as Row_of-Field, end_of-Fields-items-2 as end_of-Field, more_of-Fields-items-2 as more_of-Field, items-the_row-Fields-items-2 as fields_in}
use Rattle.bal_base.specs.declared.shape.Case.{Held-Case-result, None', Some'}
use Rattle.bal_base.specs.declared.shape.Graph.{Graph, Graph', Row_of-Case, end_of-Case, more_of-Case}
use Rattle.type_model.specs.declared.basic.SemType.{SemType, Basic, Atom, Or', And', Not'}
use Rattle.type_model.specs.declared.basic.BasicSet.{BasicSet}
use Rattle.type_model.specs.declared.basic.BasicSet.TheVariants.{Nil as NilOnly, Bool as BoolOne, IntRange, StringOne, StringAll, ListAll, MappingAll, ErrorAll, FunctionAll, FutureAll, Readonly}
use Rattle.type_model.specs.declared.basic.Ty.{Ty}
use Rattle.type_model.specs.declared.atoms.FieldDef.{FieldDef}
use Rattle.type_model.specs.declared.atoms.AtomDef.{AtomDef}
use Rattle.type_model.specs.declared.atoms.AtomDef.TheVariants.{List as ListAtom, Mapping as MappingAtom, Arrow, Error as ErrorAtom, Future as FutureAtom}
use Rattle.type_model.specs.Basic.{InBasic}
use Rattle.type_model.specs.Places.{item_type, key_type, is_same_text, HasKey, HasRequired}
use Rattle.type_model.specs.Membership.{InBy, Fits, EachIn, MembersIn, AllIn, Maps, CasesMap, ResultIn, In, ListFits, MappingFits, ErrorFits, FunctionFits, FutureFits}

abbrev pub Decided : Type 0 → Type 0
Decided A = A ⊎ (¬ A)

yes : Decided (Unit {0})
yes = inl tt

no : Decided ⊥
no = inr (λ h. h)

decided_and : {A B : Type 0} → Decided A → Decided B → Decided (A × B)
decided_and {A} {B} d e =
    ⊎_elim (λ (a : A). ⊎_elim (λ (b : B). inl (a, b)) (λ (n : ¬ B). inr (λ h. n h.1)) e) (λ (n : ¬ A). inr (λ h. n h.0)) d

decided_or : {A B : Type 0} → Decided A → Decided B → Decided (A ⊎ B)
decided_or {A} {B} d e =
    ⊎_elim (λ (a : A). inl (inl a)) (λ (n : ¬ A). ⊎_elim (λ (b : B). inl (inr b)) (λ (m : ¬ B). inr (⊎_elim (λ (a : A). n a) (λ (b : B). m b))) e) d

decided_not : {A : Type 0} → Decided A → Decided (¬ A)
decided_not {A} d = ⊎_elim (λ (a : A). inr (λ n. n a)) (λ (n : ¬ A). inl n) d

decided_if : {A B : Type 0} → Decided A → Decided B → Decided (A → B)
decided_if {A} {B} d e =
    ⊎_elim (λ (a : A). ⊎_elim (λ (b : B). inl (λ _. b)) (λ (m : ¬ B). inr (λ h. m (h a))) e) (λ (n : ¬ A). inl (λ a. absurd (n a))) d

decided_true : (b : Bool) → Decided (IsTrue b)
decided_true true = inl refl
decided_true false = inr (λ h. false≢true h)

decided_same : (a b : Bool) → Decided (a ≡ b)
decided_same true true = inl refl
decided_same true false = inr (λ h. false≢true (sym h))
decided_same false true = inr (λ h. false≢true h)
decided_same false false = inl refl

by_test : (A : Type 0) (b : Bool) → (b ≡ true → A) → (A → b ≡ true) → Decided A
by_test A true t f = inl (t refl)
by_test A false t f = inr (λ a. false≢true (f a))

decided_text : (s t : Text) → Decided (s ≡ t)
decided_text s t = by_test (s ≡ t) (is_same_text s t) ((bytes_decides s t).0) ((bytes_decides s t).1)

decided_le : (m n : ℕ) → Decided (m ≤ n)
decided_le m n = ⊎_elim (λ (l : m ≤ n). inl l) (λ (g : n < m). inr (λ h. omega arith)) (le_or m n)
  where
    le_or : (a b : ℕ) → (a ≤ b) ⊎ (b < a)
    le_or a b = grind arith

All-decided : {X : Type 0} (P : X → Type 0) → ((x : X) → Decided (P x)) → (xs : List X) → Decided (All P xs)
All-decided P d [] = inl (All-nil P)
All-decided P d (x ∷ xs) =
    ⊎_elim (λ (h : P x × All P xs). inl (All-cons P x xs h.0 h.1)) (λ (n : ¬ (P x × All P xs)). inr (λ h. n (All-head P x xs h, All-tail P x xs h))) (decided_and (d x) (All-decided P d xs))

Any-here : {X : Type 0} (P : X → Type 0) (x : X) (xs : List X) → P x → Any P (x ∷ xs)
Any-here P x xs h = (0, x, omega arith, refl, h)

Any-later : {X : Type 0} (P : X → Type 0) (x : X) (xs : List X) → Any P xs → Any P (x ∷ xs)
Any-later P x xs h = (suc h.0, h.1, omega (arith, h.2), h.3, h.4)

Any-cases : {X : Type 0} (P : X → Type 0) (x : X) (xs : List X) → Any P (x ∷ xs) → P x ⊎ Any P xs
Any-cases {X} P x xs (k, y, lt, is, h) = at k lt is
  where
    at : (k : ℕ) → k < length (x ∷ xs) → get_or (x ∷ xs) k y ≡ y → P x ⊎ Any P xs
    at zero lt is = inl (subst P (sym is) h)
    at (suc k) lt is = inr (k, y, omega (arith, lt), is, h)

Any-decided : {X : Type 0} (P : X → Type 0) → ((x : X) → Decided (P x)) → (xs : List X) → Decided (Any P xs)
Any-decided P d [] = inr (λ h. absurd (omega (arith, h.2)))
Any-decided P d (x ∷ xs) =
    ⊎_elim (λ (h : P x ⊎ Any P xs). inl (⊎_elim (λ (a : P x). Any-here P x xs a) (λ (a : Any P xs). Any-later P x xs a) h)) (λ (n : ¬ (P x ⊎ Any P xs)). inr (λ h. n (Any-cases P x xs h))) (decided_or (d x) (Any-decided P d xs))

decided_le_int : (m n : ℤ) → Decided (m ≤ℤ n)
decided_le_int m n = by_lt_z n m (λ (g : n <ℤ m). inr (λ (l : m ≤ℤ n). omega (arith, ints))) (λ (l : m ≤ℤ n). inl l)

-- ---- the basic sets

InBasic-decided : (x : Shape) (b : BasicSet) → Decided (InBasic x b)
InBasic-decided Nil NilOnly = yes
InBasic-decided (BoolShape b) (BoolOne c) = decided_same b c
InBasic-decided (Int i) (IntRange low high) = decided_and (decided_le_int low i) (decided_le_int i high)
InBasic-decided (Str t) (StringOne u) = decided_text t u
InBasic-decided (Str t) StringAll = yes
InBasic-decided (List' mark _ items) ListAll = yes
InBasic-decided (Mapping' mark _ fields) MappingAll = yes
InBasic-decided (Error' _ detail) ErrorAll = yes
InBasic-decided (Function isolated graph) FunctionAll = yes
InBasic-decided (Future' _ results) FutureAll = yes
InBasic-decided Nil Readonly = yes
InBasic-decided (BoolShape b) Readonly = yes
InBasic-decided (Int i) Readonly = yes
InBasic-decided (Str t) Readonly = yes
InBasic-decided (List' mark _ items) Readonly = decided_true mark
InBasic-decided (Mapping' mark _ fields) Readonly = decided_true mark
InBasic-decided (Error' _ detail) Readonly = yes
InBasic-decided (Function isolated graph) Readonly = yes
InBasic-decided _ _ = no

-- ---- the atoms

IsSomeAnd-decided : {X : Type 0} (P : X → Type 0) → ((x : X) → Decided (P x)) → (o : Option X) → Decided (IsSomeAnd o P)
IsSomeAnd-decided P d None = no
IsSomeAnd-decided P d (Some x) = d x

HasRequired-decided : (fields : List FieldDef) (members : List (Text × Shape)) → Decided (HasRequired fields members)
HasRequired-decided fields members =
    All-decided (λ f. IsTrue f.optional ⊎ HasKey members f.name) (λ f. decided_or (decided_true f.optional) (Any-decided (λ m. m.0 ≡ f.name) (λ m. decided_text m.0 f.name) members)) fields

list_decided : (items : List Shape) (each : List Ty → Option Ty → Type 0) → ((fixed : List Ty) (rest : Option Ty) → Decided (each fixed rest)) → (d : AtomDef) → Decided (ListFits items each d)
list_decided items each e (ListAtom fixed rest) = decided_and (decided_le (length fixed) (length items)) (e fixed rest)
list_decided items each e _ = no

mapping_decided : (members : List (Text × Shape)) (each : List FieldDef → Option Ty → Type 0) → ((fields : List FieldDef) (rest : Option Ty) → Decided (each fields rest)) → (d : AtomDef) → Decided (MappingFits members each d)
mapping_decided members each e (MappingAtom fields rest) = decided_and (HasRequired-decided fields members) (e fields rest)
mapping_decided members each e _ = no

error_decided : (detail_in : SemType → Type 0) → ((t : SemType) → Decided (detail_in t)) → (d : AtomDef) → Decided (ErrorFits detail_in d)
error_decided detail_in e (ErrorAtom detail) = e detail
error_decided detail_in e _ = no

function_decided : (isolated : Bool) (maps : SemType → SemType → Type 0) → ((args outcome : SemType) → Decided (maps args outcome)) → (d : AtomDef) → Decided (FunctionFits isolated maps d)
function_decided isolated maps e (Arrow args outcome alone) = decided_and (decided_if (decided_true alone) (decided_true isolated)) (e args outcome)
function_decided isolated maps e _ = no

future_decided : (each_in : SemType → Type 0) → ((t : SemType) → Decided (each_in t)) → (d : AtomDef) → Decided (FutureFits each_in d)
future_decided each_in e (FutureAtom outcome) = e outcome
future_decided each_in e _ = no

module _ (env : List AtomDef) where
  InBy-decided : (x : Shape) (fits : AtomDef → Type 0) → ((d : AtomDef) → Decided (fits d)) → (t : SemType) → Decided (InBy env x fits t)
  InBy-decided x fits e (Basic b) = InBasic-decided x b
  InBy-decided x fits e (Atom n) = IsSomeAnd-decided fits e (slice_get env n)
  InBy-decided x fits e (Or' _ s _ t) = decided_or (InBy-decided x fits e s) (InBy-decided x fits e t)
  InBy-decided x fits e (And' _ s _ t) = decided_and (InBy-decided x fits e s) (InBy-decided x fits e t)
  InBy-decided x fits e (Not' _ t) = decided_not (InBy-decided x fits e t)

  mutual
    pub Fits-decided : (x : Shape) (d : AtomDef) → Decided (Fits env x d)
    Fits-decided Nil d = no
    Fits-decided (BoolShape b) d = no
    Fits-decided (Int i) d = no
    Fits-decided (Str t) d = no
    Fits-decided (List' mark _ items) d = list_decided (shapes_in _ items) (EachIn env items 0) (λ fixed rest. EachIn-decided _ items 0 fixed rest) d
    Fits-decided (Mapping' mark _ fields) d = mapping_decided (fields_in _ fields) (MembersIn env fields) (λ fs rest. MembersIn-decided _ fields fs rest) d
    Fits-decided (Error' _ detail) d = error_decided (InBy env detail (Fits env detail)) (λ t. InBy-decided detail (Fits env detail) (λ e. Fits-decided detail e) t) d
    Fits-decided (Function isolated graph) d = function_decided isolated (Maps env graph) (λ args outcome. Maps-decided graph args outcome) d
    Fits-decided (Future' _ results) d = future_decided (AllIn env results) (λ t. AllIn-decided _ results t) d

    EachIn-decided : (m : _) (row : Row_of-Shape m) (k : ℕ) (fixed : List Ty) (rest : Option Ty) → Decided (EachIn env row k fixed rest)
    EachIn-decided m end_of-Shape k fixed rest = yes
    EachIn-decided m (more_of-Shape x xs) k fixed rest =
        decided_and (IsSomeAnd-decided (λ t. InBy env x (Fits env x) t.sem) (λ t. InBy-decided x (Fits env x) (λ e. Fits-decided x e) t.sem) (item_type fixed rest k)) (EachIn-decided _ xs (k + 1) fixed rest)

    MembersIn-decided : (m : _) (row : Row_of-Field m) (fields : List FieldDef) (rest : Option Ty) → Decided (MembersIn env row fields rest)
    MembersIn-decided m end_of-Field fields rest = yes
    MembersIn-decided m (more_of-Field key x more) fields rest =
        decided_and (IsSomeAnd-decided (λ t. InBy env x (Fits env x) t.sem) (λ t. InBy-decided x (Fits env x) (λ e. Fits-decided x e) t.sem) (key_type fields rest key)) (MembersIn-decided _ more fields rest)

    AllIn-decided : (m : _) (row : Row_of-Shape m) (t : SemType) → Decided (AllIn env row t)
    AllIn-decided m end_of-Shape t = yes
    AllIn-decided m (more_of-Shape x xs) t = decided_and (InBy-decided x (Fits env x) (λ e. Fits-decided x e) t) (AllIn-decided _ xs t)

    Maps-decided : (graph : Graph) (args outcome : SemType) → Decided (Maps env graph args outcome)
    Maps-decided (Graph' _ cases) args outcome = CasesMap-decided _ cases args outcome

    CasesMap-decided : (m : _) (row : Row_of-Case m) (args outcome : SemType) → Decided (CasesMap env row args outcome)
    CasesMap-decided m end_of-Case args outcome = yes
    CasesMap-decided m (more_of-Case s xs result rest) args outcome =
        decided_and (decided_if (InBy-decided (List' false s xs) (ListFits (shapes_in _ xs) (EachIn env xs 0)) (λ e. list_decided (shapes_in _ xs) (EachIn env xs 0) (λ fixed more. EachIn-decided _ xs 0 fixed more) e) args) (ResultIn-decided result outcome)) (CasesMap-decided _ rest args outcome)

    ResultIn-decided : (result : Held-Case-result) (t : SemType) → Decided (ResultIn env result t)
    ResultIn-decided None' t = no
    ResultIn-decided (Some' x) t = InBy-decided x (Fits env x) (λ e. Fits-decided x e) t

  pub In-decided : (x : Shape) (t : SemType) → Decided (In env x t)
  In-decided x t = InBy-decided x (Fits env x) (Fits-decided x) t
