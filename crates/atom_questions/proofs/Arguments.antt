-- Arguments as lists of an atom, and what functions answer to them.
use Rattle.std.proofs.Common.{◌≡◌, ◌≤◌, ◌<◌, ◌↔◌, ℕ, zero, suc, List, [], ◌∷◌, Option, Some, None, All, false, refl, sym, subst, length, slice_get, arith}
use Rattle.std.proofs.lemmas.Bool.{false≢true}
use Rattle.std.proofs.lemmas.List.Elements.{All-cons, All-head, All-nil, All-tail}
use Rattle.std.specs.List.{AllZip}
use Rattle.bal_base.specs.declared.shape.Case.{Case}
use Rattle.bal_base.specs.declared.shape.Shape.{Shape, List as ListOf, Nil, Bool as BoolShape, Int, Str, List', Mapping', Error', Function, Future'}
use Rattle.bal_base.specs.declared.shape.Shapes.{Shapes}
use Rattle.bal_base.specs.Shapes.{shapes_list}
use Rattle.bal_base.specs.Valid.{IsValid}
use Rattle.bal_base.proofs.Rows.{IsValid-List}
use Rattle.operations.specs.Kinds.{AnswersIn}
use Rattle.operations.specs.Rows.{MayAnswer}
use Rattle.type_model.specs.declared.atoms.AtomDef.{AtomDef}
use Rattle.type_model.specs.declared.atoms.AtomDef.TheVariants.{List as ListAtom, Mapping as MappingAtom, Arrow, Error as ErrorAtom, Future as FutureAtom}
use Rattle.type_model.specs.declared.basic.BasicSet.TheVariants.{FunctionAll, ListAll}
use Rattle.type_model.specs.declared.basic.Choice.{Choice}
use Rattle.type_model.specs.declared.basic.SemType.{SemType, Atom, Basic}
use Rattle.type_model.specs.declared.basic.Ty.{Ty}
use Rattle.type_model.specs.Application.{Answers, CanAnswer, arguments_of}
use Rattle.type_model.specs.Basic.{InBasic}
use Rattle.type_model.specs.Defined.{ChoicesBelow, DefBelow, IsDefined, NamesBelow, TyBelow}
use Rattle.type_model.specs.Elements.{ItemsIn}
use Rattle.type_model.specs.Inclusion.{IsShapeOf, Sub}
use Rattle.type_model.specs.Membership.{Fits, In, ListFits}
use Rattle.type_model.specs.Places.{HasDistinctFields}
use Rattle.type_model.specs.SameType.{IsSameType}
use Rattle.type_model.proofs.Laws.{In-Atom}
use Rattle.type_model.proofs.Same.{both, itself}
use Rattle.type_model.proofs.SameTypes.{In-same, NamesBelow-same}
use Rattle.type_model.proofs.Unfolding.{Fits-List}
use Rattle.code_verifier.specs.Asked.{FailsAt}
use Rattle.code_verifier.proofs.KindShapes.{both-below, both-shapes}
use Rattle.atom_questions.specs.Added.{IsArgsDef, IsFunctionsOf, IsPlainOf}
use Rattle.atom_questions.specs.inner.Stopping.{IsListDef}

turned : {A B : Type 0} → A ↔ B → B ↔ A
turned e = (e.1, e.0)

then-same : {A B C : Type 0} → A ↔ B → B ↔ C → A ↔ C
then-same e f = ((λ a. f.0 (e.0 a)), (λ c. e.1 (f.1 c)))

module _ (env : List AtomDef) where
  -- ---- as many items as there are fixed places

  zip-of : (items : List Shape) (fixed : List Ty) → length fixed ≤ length items → ItemsIn env items fixed None → AllZip (λ y t. In env y t.sem) items fixed
  zip-of [] [] le h = tt
  zip-of [] (t ∷ ts) le h = absurd (omega (arith, le))
  zip-of (y ∷ ys) [] le h = absurd (h zero y (omega arith))
  zip-of (y ∷ ys) (t ∷ ts) le h = (h zero y (omega arith), zip-of ys ts (omega (arith, le)) (λ i d lt. h (suc i) d (omega (arith, lt))))

  long-of : (items : List Shape) (fixed : List Ty) → AllZip (λ y t. In env y t.sem) items fixed → length fixed ≤ length items
  long-of [] [] z = omega arith
  long-of [] (t ∷ ts) z = absurd z
  long-of (y ∷ ys) [] z = absurd z
  long-of (y ∷ ys) (t ∷ ts) z = let l : length ts ≤ length ys = long-of ys ts z.1 in omega (arith, l)

  items-of : (items : List Shape) (fixed : List Ty) → AllZip (λ y t. In env y t.sem) items fixed → ItemsIn env items fixed None
  items-of [] fixed z i d lt = absurd (omega (arith, lt))
  items-of (y ∷ ys) [] z i d lt = absurd z
  items-of (y ∷ ys) (t ∷ ts) z zero d lt = z.0
  items-of (y ∷ ys) (t ∷ ts) z (suc i) d lt = items-of ys ts z.1 i d (omega (arith, lt))

  -- types that lie elsewhere
  of-args : (items : List Shape) (fixed : List Ty) (args : List SemType) → AllZip IsPlainOf args fixed → AllZip (λ y t. In env y t.sem) items fixed ↔ AllZip (λ y s. In env y s) items args
  of-args [] [] [] p = itself
  of-args (y ∷ ys) [] [] p = itself
  of-args [] (t ∷ ts) (s ∷ ss) p = itself
  of-args (y ∷ ys) (t ∷ ts) (s ∷ ss) p = both (turned (In-same env y s t.sem p.0.0)) (of-args ys ts ss p.1)
  of-args items (t ∷ ts) [] p = absurd p
  of-args items [] (s ∷ ss) p = absurd p

  -- ---- valid ones

  valid-of : (ys : List Shape) (ss : List SemType) → AllZip (λ y s. IsShapeOf env s y) ys ss → All IsValid ys
  valid-of [] ss z = All-nil IsValid
  valid-of (y ∷ ys) [] z = absurd z
  valid-of (y ∷ ys) (s ∷ ss) z = All-cons IsValid y ys z.0.0 (valid-of ys ss z.1)

  in-of : (ys : List Shape) (ss : List SemType) → AllZip (λ y s. IsShapeOf env s y) ys ss → AllZip (λ y s. In env y s) ys ss
  in-of [] [] z = tt
  in-of [] (s ∷ ss) z = absurd z
  in-of (y ∷ ys) [] z = absurd z
  in-of (y ∷ ys) (s ∷ ss) z = (z.0.1, in-of ys ss z.1)

  shapes-of : (ys : List Shape) (ss : List SemType) → All IsValid ys → AllZip (λ y s. In env y s) ys ss → AllZip (λ y s. IsShapeOf env s y) ys ss
  shapes-of [] [] v z = tt
  shapes-of [] (s ∷ ss) v z = absurd z
  shapes-of (y ∷ ys) [] v z = absurd z
  shapes-of (y ∷ ys) (s ∷ ss) v z = ((All-head IsValid y ys v, z.0), shapes-of ys ss (All-tail IsValid y ys v) z.1)

-- ---- functions by their cases

answers-of : (x : Shape) (c : Case) (answer : Option Shape) → AnswersIn x c → c.result ≡ answer → Answers x (arguments_of c) answer
answers-of (Function isolated graph) c answer h e = (c, h, refl, e)
answers-of Nil c answer h e = absurd h
answers-of (BoolShape b) c answer h e = absurd h
answers-of (Int i) c answer h e = absurd h
answers-of (Str t) c answer h e = absurd h
answers-of (List' mark _ items) c answer h e = absurd h
answers-of (Mapping' mark _ fields) c answer h e = absurd h
answers-of (Error' _ detail) c answer h e = absurd h
answers-of (Future' _ results) c answer h e = absurd h

is-function : (x : Shape) (c : Case) → AnswersIn x c → InBasic x FunctionAll
is-function (Function isolated graph) c h = tt
is-function Nil c h = absurd h
is-function (BoolShape b) c h = absurd h
is-function (Int i) c h = absurd h
is-function (Str t) c h = absurd h
is-function (List' mark _ items) c h = absurd h
is-function (Mapping' mark _ fields) c h = absurd h
is-function (Error' _ detail) c h = absurd h
is-function (Future' _ results) c h = absurd h

-- a case of a function that answers so
pub record AnswersBy (x arguments : Shape) (answer : Option Shape) : Type 0 where
  pub one : Case
  pub answers : AnswersIn x one
  pub of : arguments_of one ≡ arguments
  pub gives : one.result ≡ answer

case-of : (x arguments : Shape) (answer : Option Shape) → Answers x arguments answer → AnswersBy x arguments answer
case-of (Function isolated graph) arguments answer (c, h, e, r) = record { one = c; answers = h; of = e; gives = r }
case-of Nil arguments answer h = absurd h
case-of (BoolShape b) arguments answer h = absurd h
case-of (Int i) arguments answer h = absurd h
case-of (Str t) arguments answer h = absurd h
case-of (List' mark _ items) arguments answer h = absurd h
case-of (Mapping' mark _ fields) arguments answer h = absurd h
case-of (Error' _ detail) arguments answer h = absurd h
case-of (Future' _ results) arguments answer h = absurd h

module _ (env : List AtomDef) (n : ℕ) (def : AtomDef) (args : List SemType) (there : slice_get env n ≡ Some def) (is : IsArgsDef args def) where
  -- ---- lists of arguments

  pub list-in : (items : Shapes) → In env (ListOf false items) (Atom n) ↔ AllZip (λ y s. In env y s) (shapes_list items) args
  list-in items =
      let atom : In env (ListOf false items) (Atom n) ↔ Fits env (ListOf false items) def = In-Atom env (ListOf false items) n def there in
      let fits : Fits env (ListOf false items) def ↔ ListFits (shapes_list items) (ItemsIn env (shapes_list items)) (ListAtom is.fixed None) =
      subst (λ (d : AtomDef). Fits env (ListOf false items) d ↔ ListFits (shapes_list items) (ItemsIn env (shapes_list items)) (ListAtom is.fixed None)) (sym is.is) (Fits-List env false items (ListAtom is.fixed None)) in
      let zip : ListFits (shapes_list items) (ItemsIn env (shapes_list items)) (ListAtom is.fixed None) ↔ AllZip (λ y t. In env y t.sem) (shapes_list items) is.fixed =
      ((λ h. zip-of env (shapes_list items) is.fixed h.0 h.1), (λ z. (long-of env (shapes_list items) is.fixed z, items-of env (shapes_list items) is.fixed z))) in
      then-same atom (then-same fits (then-same zip (of-args env (shapes_list items) is.fixed args is.are)))

  -- ---- functions alone

  module _ (f g : SemType) (only : IsFunctionsOf f g) where
    functions-in : (x : Shape) → In env x g ↔ (In env x f × InBasic x FunctionAll)
    functions-in x =
        both-shapes env x (IsSameType f) (λ s. s ≡ Basic FunctionAll) (λ s e. turned (In-same env x f s e)) (λ s e. subst (λ u. In env x u ↔ InBasic x FunctionAll) (sym e) itself) g only

    -- ---- what they answer

    pub record ByList (answer : Option Shape) : Type 0 where
      pub arguments : Shape
      pub shape : IsShapeOf env (Atom n) arguments
      pub can : CanAnswer env g arguments answer

    pub to-list : (answer : Option Shape) → MayAnswer env f args answer → ByList answer
    to-list answer (x, c, shape, answers, zip, e) = record {
      arguments = arguments_of c;
      shape = (
        (IsValid-List false c.args).1 ((λ m. absurd (false≢true m)), valid-of env (shapes_list c.args) args zip),
        (list-in c.args).1 (in-of env (shapes_list c.args) args zip),
      );
      can = (x, (shape.0, (functions-in x).1 (shape.1, is-function x c answers)), answers-of x c answer answers e);
    }

    module _ (arguments : Shape) (answer : Option Shape) (shape : IsShapeOf env (Atom n) arguments) where
      zip-back : (c : Case) → arguments_of c ≡ arguments → AllZip (λ y t. IsShapeOf env t y) (shapes_list c.args) args
      zip-back c e =
          let own : IsShapeOf env (Atom n) (arguments_of c) = subst (λ (w : Shape). IsShapeOf env (Atom n) w) (sym e) shape in
          shapes-of env (shapes_list c.args) args ((IsValid-List false c.args).0 own.0).1 ((list-in c.args).0 own.1)

      pub from-list : CanAnswer env g arguments answer → MayAnswer env f args answer
      from-list (x, own, h) =
          let by = case-of x arguments answer h in
          (x, by.one, (own.0, ((functions-in x).0 own.1).0), by.answers, zip-back by.one by.of, by.gives)

    pub fails-at : (arguments : Shape) → IsShapeOf env (Atom n) arguments → CanAnswer env g arguments None → FailsAt env f args arguments
    fails-at arguments shape (x, own, h) =
        let by = case-of x arguments None h in
        (x, by.one, (own.0, ((functions-in x).0 own.1).0), by.answers, zip-back arguments None shape by.one by.of, by.gives, sym by.of)

-- ---- functions of a type, as a type

module _ (env : List AtomDef) (f g : SemType) (only : IsFunctionsOf f g) where
  abbrev IsAllFunctions : SemType → Type 0
  IsAllFunctions s = s ≡ Basic FunctionAll

  pub functions-alone : Sub env g (Basic FunctionAll)
  functions-alone x v i =
      let both-in : In env x g ↔ (In env x f × InBasic x FunctionAll) =
      both-shapes env x (IsSameType f) IsAllFunctions (λ s e. turned (In-same env x f s e)) (λ s e. subst (λ u. In env x u ↔ InBasic x FunctionAll) (sym e) itself) g only in
      (both-in.0 i).1

  pub functions-defined : IsDefined env f → IsDefined env g
  functions-defined d =
      both-below (length env) (IsSameType f) IsAllFunctions (λ s e. NamesBelow-same (length env) f s e d) (λ s e. subst (NamesBelow (length env)) (sym e) tt) g only

-- ---- as they are made

pub args-below : (n : ℕ) (args : List SemType) (fixed : List Ty) → All (NamesBelow n) args → AllZip IsPlainOf args fixed → All (TyBelow n) fixed
args-below n [] [] d z = All-nil (TyBelow n)
args-below n [] (t ∷ ts) d z = absurd z
args-below n (s ∷ ss) [] d z = absurd z
args-below n (s ∷ ss) (t ∷ ts) d z =
    let ty : TyBelow n t = (
      NamesBelow-same n s t.sem z.0.0 (All-head (NamesBelow n) s ss d),
      subst (λ (cs : List Choice). ChoicesBelow n cs) (sym z.0.1) (All-nil (λ (c : Choice). c.atom < n)),
      subst (λ (cs : List Choice). ChoicesBelow n cs) (sym z.0.2) (All-nil (λ (c : Choice). c.atom < n)),
    ) in
    All-cons (TyBelow n) t ts ty (args-below n ss ts (All-tail (NamesBelow n) s ss d) z.1)

module _ (args : List SemType) (def : AtomDef) (is : IsArgsDef args def) where
  pub def-below : (n : ℕ) → All (NamesBelow n) args → DefBelow n def
  def-below n d = subst (DefBelow n) (sym is.is) (args-below n args is.fixed d is.are, tt)

  pub def-of-lists : IsListDef def
  def-of-lists = subst IsListDef (sym is.is) tt

pub no-fields : (def : AtomDef) → IsListDef def → HasDistinctFields def
no-fields (ListAtom fixed rest) h = tt
no-fields (MappingAtom fields rest) h = absurd h
no-fields (Arrow a b c) h = tt
no-fields (ErrorAtom d) h = tt
no-fields (FutureAtom t) h = tt

-- lists are all that a definition of lists has
pub of-lists : (env : List AtomDef) (n : ℕ) (def : AtomDef) → slice_get env n ≡ Some def → IsListDef def → Sub env (Atom n) (Basic ListAll)
of-lists env n (ListAtom fixed rest) there h x v i = by x ((In-Atom env x n (ListAtom fixed rest) there).0 i)
  where
    by : (x : Shape) → Fits env x (ListAtom fixed rest) → InBasic x ListAll
    by (List' mark _ items) k = tt
    by Nil k = absurd k
    by (BoolShape b) k = absurd k
    by (Int j) k = absurd k
    by (Str t) k = absurd k
    by (Mapping' mark _ fields) k = absurd k
    by (Error' _ detail) k = absurd k
    by (Function isolated graph) k = absurd k
    by (Future' _ results) k = absurd k
of-lists env n (MappingAtom fields rest) there h x v i = absurd h
of-lists env n (Arrow a b c) there h x v i = absurd h
of-lists env n (ErrorAtom d) there h x v i = absurd h
of-lists env n (FutureAtom t) there h x v i = absurd h
