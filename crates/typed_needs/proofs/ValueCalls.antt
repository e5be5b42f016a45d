-- Calls of function values.
use Rattle.std.proofs.Common.{◌≡◌, ◌≤◌, ◌<◌, ◌∙◌, ◌++◌, ◌-◌, ℕ, zero, suc, false, List, [], ◌∷◌, length, get_or, map, All, Option, Some, None, arith, length-append, refl, sym, subst, ap}
use Rattle.std.specs.Prelude.{IsSomeAnd, slice_get}
use Rattle.std.specs.List.{AllZip}
use Rattle.std.proofs.lemmas.List.{length-map}
use Rattle.std.proofs.lemmas.List.Elements.{All-head, All-tail, All-weaker}
use Rattle.bal_base.specs.declared.place.Place.{Place}
use Rattle.bal_base.specs.declared.shape.Case.{Case}
use Rattle.bal_base.specs.declared.shape.Shape.{Shape, Nil, Bool as BoolShape, Int, Str, List as ListOf, List', Mapping', Error', Function, Future'}
use Rattle.bal_base.specs.Shapes.{shapes_list}
use Rattle.checks.specs.Checks.{Gives, ◌▷◌, gives_some}
use Rattle.checks.specs.Questions.{adds, applied}
use Rattle.descriptors.specs.declared.names.Names.{Names}
use Rattle.descriptors.specs.Described.{plain}
use Rattle.needs.specs.Needs.{asks}
use Rattle.operations.specs.declared.operation.Operation.TheVariants.{CallValue}
use Rattle.operations.specs.Kinds.{AnswersIn}
use Rattle.operations.specs.Rows.{MayAnswer, MayGive, Surroundings}
use Rattle.type_model.specs.declared.answers.TypeLimit.{TypeLimit}
use Rattle.type_model.specs.declared.atoms.AtomDef.{AtomDef}
use Rattle.type_model.specs.declared.atoms.AtomDef.TheVariants.{List as ListAtom}
use Rattle.type_model.specs.declared.basic.SemType.{SemType, Atom}
use Rattle.type_model.specs.declared.basic.Ty.{Ty}
use Rattle.type_model.specs.Application.{Answers, IsLeastResult, arguments_of}
use Rattle.type_model.specs.Calls.{Asked, KeepsTypes}
use Rattle.type_model.specs.Defined.{IsDefined}
use Rattle.type_model.specs.Inclusion.{IsShapeOf}
use Rattle.type_model.specs.Membership.{Fits, In}
use Rattle.type_model.specs.Places.{or_rest}
use Rattle.type_model.proofs.ApplicationLaws.{Answers-in}
use Rattle.type_model.proofs.DefinedLaws.{NamesBelow-more}
use Rattle.type_model.proofs.SameTypes.{In-same}
use Rattle.type_model.proofs.Unfolding.{Fits-List}
use Rattle.typed_tree.specs.declared.expr.TypedExpr.{TypedExpr}
use Rattle.typed_tree.specs.declared.form.Callee.TheVariants as callee
use Rattle.typed_tree.specs.declared.form.StrictForm.TheVariants as form
use Rattle.check_words.specs.Calls.{AreTypesOf, applies_to, makes_call, makes_call_of}
use Rattle.check_words.specs.Stands.{PartBelow}
use Rattle.check_words.specs.State.{AreLast, CallAtWork, Called, IsLast, OfValue, State}
use Rattle.check_words.specs.Words.{Atoms}
use Rattle.check_words.proofs.Standing.{last-have}
use Rattle.tree_promises.specs.Made.{sem}
use Rattle.typed_needs.specs.ValueCalls.{ValueCallIsTyped}
use Rattle.typed_needs.proofs.FunctionCalls.{call-closed}
use Rattle.typed_needs.proofs.Leaving.{Makes, made}
use Rattle.typed_needs.proofs.Opened.{as-before, same-lasts}
use Rattle.typed_needs.proofs.Placed.{get-behind, last-same}
use Rattle.typed_needs.proofs.Strict.{StrictMade, one-typed}

-- ---- arguments as an unmarked list

answers-of : (x : Shape) (c : Case) (answer : Option Shape) → AnswersIn x c → c.result ≡ answer → Answers x (arguments_of c) answer
answers-of (Function isolated graph) c answer there is = (c, there, refl, is)
answers-of Nil c answer there is = absurd there
answers-of (BoolShape b) c answer there is = absurd there
answers-of (Int i) c answer there is = absurd there
answers-of (Str t) c answer there is = absurd there
answers-of (List' mark _ items) c answer there is = absurd there
answers-of (Mapping' mark _ fields) c answer there is = absurd there
answers-of (Error' _ detail) c answer there is = absurd there
answers-of (Future' _ results) c answer there is = absurd there

module _ (env mid : List AtomDef) (keeps : KeepsTypes mid env) where
  -- each argument is in the type that was copied from its part's
  items-in : (passes : List AtomDef → Asked → TypeLimit → Type 0) (es : List TypedExpr) (ts : List Ty) (xs : List Shape) → AreTypesOf passes es ts
      → All (λ e. IsDefined mid (sem e)) es → AllZip (λ y t. IsShapeOf env t y) xs (map sem es)
      → (i : ℕ) (d : Shape) → i < length xs → IsSomeAnd (slice_get ts i) (λ t. In mid (get_or xs i d) t.sem)
  items-in passes (e ∷ es) (t ∷ ts) (x ∷ xs) copies there shapes zero d lt =
      (In-same mid x (sem e) t.sem copies.0.sem).0 ((keeps.shapes (sem e) (All-head (λ p. IsDefined mid (sem p)) e es there) x).1 shapes.0.1)
  items-in passes (e ∷ es) (t ∷ ts) (x ∷ xs) copies there shapes (suc i) d lt =
      items-in passes es ts xs copies.1 (All-tail (λ p. IsDefined mid (sem p)) e es there) shapes.1 i d (omega (arith, lt))
  items-in passes es ts [] copies there shapes i d lt = absurd (omega (arith, lt))
  items-in passes [] ts (x ∷ xs) copies there shapes i d lt = absurd shapes
  items-in passes (e ∷ es) [] (x ∷ xs) copies there shapes i d lt = absurd copies

  as-many : (passes : List AtomDef → Asked → TypeLimit → Type 0) (es : List TypedExpr) (ts : List Ty) (xs : List Shape) → AreTypesOf passes es ts
      → AllZip (λ y t. IsShapeOf env t y) xs (map sem es) → length ts ≡ length xs
  as-many passes [] [] [] copies shapes = refl
  as-many passes (e ∷ es) (t ∷ ts) (x ∷ xs) copies shapes = ap suc (as-many passes es ts xs copies.1 shapes.1)
  as-many passes [] [] (x ∷ xs) copies shapes = absurd shapes
  as-many passes [] (t ∷ ts) xs copies shapes = absurd copies
  as-many passes (e ∷ es) [] xs copies shapes = absurd copies
  as-many passes (e ∷ es) (t ∷ ts) [] copies shapes = absurd shapes

  -- what may be answered is a result
  pub answered : (passes : List AtomDef → Asked → TypeLimit → Type 0) (f r : SemType) (atom : ℕ) (es : List TypedExpr) (ts : List Ty) (answer : Option Shape) → IsDefined mid f
      → All (λ e. IsDefined mid (sem e)) es → AreTypesOf passes es ts → slice_get mid atom ≡ Some (ListAtom ts None) → IsLeastResult mid f (Atom atom) r
      → MayAnswer env f (map sem es) answer → IsSomeAnd answer (λ x. In mid x r)
  answered passes f r atom es ts answer there parts copies is least (x, c, shape, answers, shapes, same) =
      let here : In mid x f = (keeps.shapes f there x).1 shape.1 in
      let fits = least.below x shape.0 here in
      let many : length ts ≡ length (shapes_list c.args) = as-many passes es ts (shapes_list c.args) copies shapes in
      let list : Fits mid (ListOf false c.args) (ListAtom ts None) =
      (Fits-List mid false c.args (ListAtom ts None)).1 (omega (arith, many), (λ i d lt. at-place ts i (get_or (shapes_list c.args) i d) (items-in passes es ts (shapes_list c.args) copies parts shapes i d lt))) in
      let arguments : In mid (arguments_of c) (Atom atom) = subst (λ o. IsSomeAnd o (Fits mid (ListOf false c.args))) (sym is) list in
      Answers-in mid (Atom atom) r x (arguments_of c) answer fits (answers-of x c answer answers same) arguments
    where
      at-place : (ts : List Ty) (i : ℕ) (y : Shape) → IsSomeAnd (slice_get ts i) (λ t. In mid y t.sem) → IsSomeAnd (or_rest (slice_get ts i) None) (λ t. In mid y t.sem)
      at-place ts i y h = by (slice_get ts i) h
        where
          by : (o : Option Ty) → IsSomeAnd o (λ t. In mid y t.sem) → IsSomeAnd (or_rest o None) (λ t. In mid y t.sem)
          by (Some t) h = h
          by None h = absurd h

-- ---- the call

module _ (passes : List AtomDef → Asked → TypeLimit → Type 0) where
  abbrev CallMade : SemType → Place → Atoms → List TypedExpr → TypedExpr → Type 0
  CallMade r at = StrictMade (form.Call callee.Value) (λ env t. t ≡ plain r) at

  -- the atom of the arguments, and the least result
  pub record Applied (f : TypedExpr) (args : List TypedExpr) (r : SemType) (old new : State) : Type 0 where
    pub types : List Ty
    pub copies : AreTypesOf passes args types
    pub grown : new ≡ record old { atoms = old.atoms ++ ListAtom types None ∷ [] }
    pub defined : IsDefined new.atoms r
    pub least : IsLeastResult new.atoms (sem f) (Atom (length old.atoms)) r

  pub applied-so : (f : TypedExpr) (args : List TypedExpr) (at : Place) (r : SemType) (old new : State) → applies_to passes (f ∷ args) at old (Gives r) new → Applied f args r old new
  unfolding ◌▷◌ asks adds applied
  applied-so f args at r old new (atom, mid, ((defs, (ts, copies, is), number, atoms), over), ((defined, least, same), again)) =
      let grown : mid ≡ record old { atoms = old.atoms ++ ListAtom ts None ∷ [] } = over ∙ ap (λ (xs : Atoms). record old { atoms = xs }) (atoms ∙ ap (λ ds. old.atoms ++ ds) is) in
      let to-new : new ≡ mid = again ∙ ap (λ (xs : Atoms). record mid { atoms = xs }) same in
      record {
        types = ts;
        copies = copies;
        grown = to-new ∙ grown;
        defined = subst (λ (s : State). IsDefined s.atoms r) (sym to-new) defined;
        least = subst (λ (s : State). IsLeastResult s.atoms (sem f) (Atom (length old.atoms)) r) (sym to-new) (subst (λ n. IsLeastResult mid.atoms (sem f) (Atom n) r) number least);
      }

  closed-opened : (at : Place) (old new : State) → makes_call passes at old (Gives tt) new
      → (c : CallAtWork) × (mid : State) × IsLast old.calls c × (mid.found ≡ old.found) × (mid.atoms ≡ old.atoms) × makes_call_of passes c.callee c.args at mid (Gives tt) new
  unfolding ◌▷◌
  closed-opened at old new (c, mid, closed, met) = let (last, found, atoms) = call-closed passes c old mid closed in (c, mid, last, found, atoms, met)

  value-opened : (n : ℕ) (at : Place) (old new : State) → makes_call_of passes OfValue n at old (Gives tt) new
      → (parts : List TypedExpr) × (r : SemType) × (mid : State) × AreLast old.found (suc n) parts × applies_to passes parts at old (Gives r) mid × Makes (suc n) (CallMade r at) mid new
  unfolding ◌▷◌ gives_some
  value-opened n at old new (parts, s, (last, first), (r, mid, asked, makes-it)) =
      (parts, r, mid, last, subst (λ (x : State). applies_to passes parts at x (Gives r) mid) first asked, made (suc n) (CallMade r at) tt mid new makes-it)

  module _ (names : Names) (env : List AtomDef) (place : Surroundings) where
    pub value-call-is-typed : ValueCallIsTyped passes names env place
    value-call-is-typed at old new c f args before after met last is many lasts typed function =
        let (d, s, l, found, older, made-of) = closed-opened at old new met in
        let one : d ≡ c = last-same old.calls d c l last in
        let made-of' : makes_call_of passes OfValue c.args at s (Gives tt) new =
        subst (λ (k : Called). makes_call_of passes k c.args at s (Gives tt) new) is (subst (λ (x : CallAtWork). makes_call_of passes x.callee x.args at s (Gives tt) new) one made-of) in
        let (parts, r, mid, ends, asked, made-it) = value-opened c.args at s new made-of' in
        let ends' : AreLast s.found (suc c.args) (f ∷ args) = subst (λ xs. AreLast xs (suc c.args) (f ∷ args)) (sym found) lasts in
        let same : parts ≡ f ∷ args = same-lasts s.found (suc c.args) parts (f ∷ args) ends ends' in
        let a : Applied f args r s mid = applied-so f args at r s mid (subst (λ es. applies_to passes es at s (Gives r) mid) same asked) in
        let kept : mid.found ≡ s.found = ap (λ (x : State). x.found) a.grown in
        let atoms : mid.atoms ≡ s.atoms ++ ListAtom a.types None ∷ [] = ap (λ (x : State). x.atoms) a.grown in
        let keeps : KeepsTypes mid.atoms env = subst (λ xs. KeepsTypes xs env) made-it.5 after.keeps in
        let there : slice_get mid.atoms (length s.atoms) ≡ Some (ListAtom a.types None) =
        ap (λ xs. slice_get xs (length s.atoms)) atoms ∙ get-behind s.atoms (ListAtom a.types None) [] in
        let more : length old.atoms ≤ length mid.atoms =
        (let l = ap length atoms in let k = length-append s.atoms (ListAtom a.types None ∷ []) in let o = ap length older in omega (arith, l, k, o)) in
        let all : All (λ e. IsDefined mid.atoms (sem e)) (f ∷ args) =
        All-weaker (PartBelow (length old.atoms)) (λ e. IsDefined mid.atoms (sem e)) (λ e h. NamesBelow-more (length old.atoms) (length mid.atoms) more (sem e) h.0) (f ∷ args)
        (last-have (PartBelow (length old.atoms)) (suc c.args) old.found (f ∷ args) lasts before.stands.found) in
        let function-there : IsDefined mid.atoms (sem f) = All-head (λ e. IsDefined mid.atoms (sem e)) f args all in
        let args-there : All (λ e. IsDefined mid.atoms (sem e)) args = All-tail (λ e. IsDefined mid.atoms (sem e)) f args all in
        let one-less : suc (length args) - 1 ≡ length args = omega arith in
        as-before env passes names place (suc c.args) old mid new (kept ∙ found)
        (one-typed env passes names place (form.Call callee.Value) (CallValue (length args)) (suc c.args) (f ∷ args) (λ env t. t ≡ plain r) (MayGive env (sem f) (map sem args)) at mid new after
        (subst (λ xs. AreLast xs (suc c.args) (f ∷ args)) (sym kept) ends') typed made-it (ap (λ (n : ℕ). CallValue n ∷ []) one-less)
        (λ t has. (length-map args sem, function, (λ may. answered env mid.atoms keeps passes (sem f) r (length s.atoms) args a.types None function-there args-there a.copies there a.least may), has))
        (λ t is here kept x valid may. subst (λ (y : Ty). In env x y.sem) (sym is) ((keeps.shapes r a.defined x).0
        (answered env mid.atoms keeps passes (sem f) r (length s.atoms) args a.types (Some x) function-there args-there a.copies there a.least may))))
