-- Starts of function values.
use Rattle.std.proofs.Common.{◌≡◌, ◌≤◌, ◌∙◌, ◌++◌, ◌-◌, ℕ, suc, List, [], ◌∷◌, length, map, All, Some, None, append_assoc, arith, length-append, sym, subst, ap}
use Rattle.std.specs.Prelude.{IsSomeAnd, slice_get}
use Rattle.std.proofs.lemmas.List.{length-map}
use Rattle.std.proofs.lemmas.List.Elements.{All-append, All-cons, All-head, All-nil, All-tail, All-weaker}
use Rattle.bal_base.specs.declared.place.Place.{Place}
use Rattle.bal_base.specs.declared.shape.Shape.{Shape, Nil, Bool as BoolShape, Int, Str, List', Mapping', Error', Function, Future', Row_of-Shape, end_of-Shape, more_of-Shape, items-the_row-Shape as shapes_in}
use Rattle.bal_base.specs.Valid.{AreValid, IsValid}
use Rattle.checks.specs.Checks.{Gives, ◌▷◌, gives_some}
use Rattle.checks.specs.Questions.{adds}
use Rattle.descriptors.specs.declared.names.Names.{Names}
use Rattle.descriptors.specs.Described.{IsCopy, plain}
use Rattle.needs.specs.Needs.{asks}
use Rattle.operations.specs.declared.operation.Operation.TheVariants.{StartValue}
use Rattle.operations.specs.Kinds.{IsFutureOf}
use Rattle.operations.specs.Rows.{MayGive, Surroundings}
use Rattle.type_model.specs.declared.answers.TypeLimit.{TypeLimit}
use Rattle.type_model.specs.declared.atoms.AtomDef.{AtomDef}
use Rattle.type_model.specs.declared.atoms.AtomDef.TheVariants.{List as ListAtom, Future as FutureAtom}
use Rattle.type_model.specs.declared.basic.SemType.{SemType, Atom}
use Rattle.type_model.specs.declared.basic.Ty.{Ty}
use Rattle.type_model.specs.Calls.{Asked, KeepsTypes}
use Rattle.type_model.specs.Defined.{ChoicesBelow, DefBelow, IsClosed, IsDefined, TyBelow}
use Rattle.type_model.specs.Membership.{AllIn, Fits, In}
use Rattle.type_model.specs.SameType.{IsSameType}
use Rattle.type_model.proofs.DefinedLaws.{DefBelow-more, NamesBelow-more, TyBelow-more}
use Rattle.type_model.proofs.Laws.{In-append}
use Rattle.type_model.proofs.SameTypes.{In-same, NamesBelow-same}
use Rattle.typed_tree.specs.declared.expr.TypedExpr.{TypedExpr}
use Rattle.typed_tree.specs.Exprs.{type_of}
use Rattle.typed_tree.specs.declared.form.Callee.TheVariants as callee
use Rattle.typed_tree.specs.declared.form.StrictForm.TheVariants as form
use Rattle.check_words.specs.Calls.{AreTypesOf, applies_to, starts, starts_of}
use Rattle.check_words.specs.Stands.{PartBelow}
use Rattle.check_words.specs.State.{AreLast, CallAtWork, Called, IsLast, OfValue, State}
use Rattle.check_words.specs.Words.{Atoms}
use Rattle.check_words.proofs.Standing.{last-have}
use Rattle.tree_promises.specs.Made.{sem}
use Rattle.typed_needs.specs.Items.{AreFirst}
use Rattle.typed_needs.proofs.AtomKinds.{added-atom}
use Rattle.typed_needs.proofs.FunctionCalls.{call-closed}
use Rattle.typed_needs.proofs.Leaving.{Makes, made}
use Rattle.typed_needs.proofs.Opened.{as-before, same-lasts}
use Rattle.typed_needs.proofs.Placed.{get-behind, last-same}
use Rattle.typed_needs.proofs.Strict.{StrictMade, one-typed}
use Rattle.typed_needs.proofs.ValueCalls.{Applied, answered, applied-so}
use Rattle.typed_calls.specs.ValueStarts.{ValueStartIsTyped}

-- ---- futures of an atom

module _ (env : List AtomDef) (P : Shape → Type 0) (s : SemType) (has : (y : Shape) → IsValid y → P y → In env y s) where
  all-in : (n : _) (row : Row_of-Shape n) → AreValid row → All P (shapes_in n row) → AllIn env row s
  all-in n end_of-Shape valid h = tt
  all-in n (more_of-Shape y more) valid h =
      (has y valid.0 (All-head P y (shapes_in _ more) h), all-in _ more valid.1 (All-tail P y (shapes_in _ more) h))

  future-fits : (x : Shape) → IsValid x → IsFutureOf P x → Fits env x (FutureAtom s)
  future-fits (Future' _ results) valid of = all-in _ results valid of
  future-fits Nil valid of = absurd of
  future-fits (BoolShape b) valid of = absurd of
  future-fits (Int i) valid of = absurd of
  future-fits (Str t) valid of = absurd of
  future-fits (List' mark _ items) valid of = absurd of
  future-fits (Mapping' mark _ fields) valid of = absurd of
  future-fits (Error' _ detail) valid of = absurd of
  future-fits (Function isolated graph) valid of = absurd of

  future-in : (atom : ℕ) (x : Shape) → slice_get env atom ≡ Some (FutureAtom s) → IsValid x → IsFutureOf P x → In env x (Atom atom)
  future-in atom x is valid of = subst (λ o. IsSomeAnd o (Fits env x)) (sym is) (future-fits x valid of)

-- ---- atoms that are all there

copy-below : (n : ℕ) (s t : Ty) → IsCopy s t → TyBelow n s → TyBelow n t
copy-below n s t copy h = (NamesBelow-same n s.sem t.sem copy.sem h.0, subst (ChoicesBelow n) copy.lists h.1, subst (ChoicesBelow n) copy.maps h.2)

pub copies-below : (passes : List AtomDef → Asked → TypeLimit → Type 0) (n : ℕ) (es : List TypedExpr) (ts : List Ty) → AreTypesOf passes es ts → All (PartBelow n) es → All (TyBelow n) ts
copies-below passes n [] [] copies h = All-nil (TyBelow n)
copies-below passes n (e ∷ es) (t ∷ ts) copies h =
    All-cons (TyBelow n) t ts (copy-below n (type_of e).value t copies.0 (All-head (PartBelow n) e es h)) (copies-below passes n es ts copies.1 (All-tail (PartBelow n) e es h))
copies-below passes n [] (t ∷ ts) copies h = absurd copies
copies-below passes n (e ∷ es) [] copies h = absurd copies

-- a list of such members more
closed-more : (atoms : List AtomDef) (types : List Ty) → IsClosed atoms → All (TyBelow (length atoms)) types → IsClosed (atoms ++ ListAtom types None ∷ [])
closed-more atoms types closed there =
    let n : ℕ = length (atoms ++ ListAtom types None ∷ []) in
    let le : length atoms ≤ n = (let l = length-append atoms (ListAtom types None ∷ []) in omega (arith, l)) in
    All-append (DefBelow n) atoms (ListAtom types None ∷ []) (All-weaker (DefBelow (length atoms)) (DefBelow n) (λ d h. DefBelow-more (length atoms) n le d h) atoms closed)
    (All-cons (DefBelow n) (ListAtom types None) [] (All-weaker (TyBelow (length atoms)) (TyBelow n) (λ t h. TyBelow-more (length atoms) n le t h) types there, tt) (All-nil (DefBelow n)))

pub keeps-closed : (env atoms : List AtomDef) → IsClosed atoms → AreFirst env atoms → KeepsTypes atoms env
keeps-closed env atoms closed (more, is) =
    let le : length atoms ≤ length (atoms ++ more) = (let l = length-append atoms more in omega (arith, l)) in
    subst (λ xs. KeepsTypes atoms xs) (sym is)
    (record {
      defined = λ t h. NamesBelow-more (length atoms) (length (atoms ++ more)) le t h;
      shapes = λ t h x. In-append atoms more closed x t h;
    })

-- fewer atoms are the first ones too
pub shorter : (env atoms more : List AtomDef) → AreFirst env (atoms ++ more) → AreFirst env atoms
shorter env atoms more (others, is) = (more ++ others, is ∙ append_assoc atoms more others)

-- ---- the start

module _ (passes : List AtomDef → Asked → TypeLimit → Type 0) where
  abbrev StartMade : ℕ → Place → Atoms → List TypedExpr → TypedExpr → Type 0
  StartMade atom at = StrictMade (form.Start callee.Value) (λ env t. t ≡ plain (Atom atom)) at

  closed-opened : (here at : Place) (old new : State) → starts passes here at old (Gives tt) new
      → (c : CallAtWork) × (mid : State) × IsLast old.calls c × (mid.found ≡ old.found) × (mid.atoms ≡ old.atoms) × starts_of passes c.callee c.args here at mid (Gives tt) new
  unfolding ◌▷◌
  closed-opened here at old new (c, mid, closed, met) = let (last, found, atoms) = call-closed passes c old mid closed in (c, mid, last, found, atoms, met)

  -- the function and its arguments, what it gives to them, and the atom of its futures
  record StartOpened (n : ℕ) (here at : Place) (old new : State) : Type 0 where
    pub parts : List TypedExpr
    pub r : SemType
    pub s : SemType
    pub applied : State
    pub mid : State
    pub lasts : AreLast old.found (suc n) parts
    pub applies : applies_to passes parts here old (Gives r) applied
    pub same : IsSameType r s
    pub found : mid.found ≡ applied.found
    pub atoms : mid.atoms ≡ applied.atoms ++ FutureAtom s ∷ []
    pub made : Makes (suc n) (StartMade (length applied.atoms) at) mid new

  value-opened : (n : ℕ) (here at : Place) (old new : State) → starts_of passes OfValue n here at old (Gives tt) new → StartOpened n here at old new
  unfolding ◌▷◌ gives_some asks adds
  value-opened n here at old new (parts, s1, (last, e1), (r, s2, asked, (atom, s3, ((defs, (s, same, is), number, atoms), over), makes-it))) =
      record {
        parts = parts;
        r = r;
        s = s;
        applied = s2;
        mid = s3;
        lasts = last;
        applies = subst (λ (x : State). applies_to passes parts here x (Gives r) s2) e1 asked;
        same = same;
        found = ap (λ (x : State). x.found) over;
        atoms = atoms ∙ ap (λ ds. s2.atoms ++ ds) is;
        made = subst (λ k. Makes (suc n) (StartMade k at) s3 new) number (made (suc n) (StartMade atom at) tt s3 new makes-it);
      }

  module _ (names : Names) (env : List AtomDef) (place : Surroundings) where
    pub value-start-is-typed : ValueStartIsTyped passes names env place
    value-start-is-typed here at old new c f args is-env before after first met last is many lasts typed function =
        let (d, s, l, found, older, made-of) = closed-opened here at old new met in
        let one : d ≡ c = last-same old.calls d c l last in
        let made-of' : starts_of passes OfValue c.args here at s (Gives tt) new =
        subst (λ (k : Called). starts_of passes k c.args here at s (Gives tt) new) is (subst (λ (x : CallAtWork). starts_of passes x.callee x.args here at s (Gives tt) new) one made-of) in
        let o = value-opened c.args here at s new made-of' in
        let ends : AreLast s.found (suc c.args) (f ∷ args) = subst (λ xs. AreLast xs (suc c.args) (f ∷ args)) (sym found) lasts in
        let same : o.parts ≡ f ∷ args = same-lasts s.found (suc c.args) o.parts (f ∷ args) o.lasts ends in
        let a : Applied passes f args o.r s o.applied = applied-so passes f args here o.r s o.applied (subst (λ es. applies_to passes es here s (Gives o.r) o.applied) same o.applies) in
        let kept : o.mid.found ≡ s.found = o.found ∙ ap (λ (x : State). x.found) a.grown in
        let atoms-2 : o.applied.atoms ≡ s.atoms ++ ListAtom a.types None ∷ [] = ap (λ (x : State). x.atoms) a.grown in
        let first-3 : AreFirst env o.mid.atoms = subst (AreFirst env) o.made.5 first in
        let first-2 : AreFirst env o.applied.atoms = shorter env o.applied.atoms (FutureAtom o.s ∷ []) (subst (AreFirst env) o.atoms first-3) in
        let there : slice_get o.applied.atoms (length s.atoms) ≡ Some (ListAtom a.types None) =
        ap (λ xs. slice_get xs (length s.atoms)) atoms-2 ∙ get-behind s.atoms (ListAtom a.types None) [] in
        let future : slice_get env (length o.applied.atoms) ≡ Some (FutureAtom o.s) =
        added-atom env o.applied.atoms (FutureAtom o.s) [] (subst (AreFirst env) o.atoms first-3) in
        let types-there : All (TyBelow (length s.atoms)) a.types =
        copies-below passes (length s.atoms) args a.types a.copies
        (All-tail (PartBelow (length s.atoms)) f args (subst (λ (xs : Atoms). All (PartBelow (length xs)) (f ∷ args)) (sym older) (last-have (PartBelow (length old.atoms)) (suc c.args) old.found (f ∷ args) lasts before.stands.found))) in
        let closed : IsClosed o.applied.atoms = subst IsClosed (sym atoms-2) (closed-more s.atoms a.types (subst IsClosed (sym older) is-env.closed) types-there) in
        let keeps-2 : KeepsTypes o.applied.atoms env = keeps-closed env o.applied.atoms closed first-2 in
        let more : length old.atoms ≤ length o.applied.atoms =
        (let l = ap length atoms-2 in let k = length-append s.atoms (ListAtom a.types None ∷ []) in let z = ap length older in omega (arith, l, k, z)) in
        let all : All (λ e. IsDefined o.applied.atoms (sem e)) (f ∷ args) =
        All-weaker (PartBelow (length old.atoms)) (λ e. IsDefined o.applied.atoms (sem e)) (λ e h. NamesBelow-more (length old.atoms) (length o.applied.atoms) more (sem e) h.0) (f ∷ args)
        (last-have (PartBelow (length old.atoms)) (suc c.args) old.found (f ∷ args) lasts before.stands.found) in
        let function-there : IsDefined o.applied.atoms (sem f) = All-head (λ e. IsDefined o.applied.atoms (sem e)) f args all in
        let args-there : All (λ e. IsDefined o.applied.atoms (sem e)) args = All-tail (λ e. IsDefined o.applied.atoms (sem e)) f args all in
        let one-less : suc (length args) - 1 ≡ length args = omega arith in
        as-before env passes names place (suc c.args) old o.mid new (kept ∙ found)
        (one-typed env passes names place (form.Start callee.Value) (StartValue (length args)) (suc c.args) (f ∷ args) (λ env t. t ≡ plain (Atom (length o.applied.atoms)))
        (IsFutureOf (MayGive env (sem f) (map sem args))) at o.mid new after (subst (λ xs. AreLast xs (suc c.args) (f ∷ args)) (sym kept) ends) typed o.made
        (ap (λ (n : ℕ). StartValue n ∷ []) one-less)
        (λ t has. (
          length-map args sem,
          function,
          (λ may. answered env o.applied.atoms keeps-2 passes (sem f) o.r (length s.atoms) args a.types None function-there args-there a.copies there a.least may),
          has,
        ))
        (λ t is-atom here-defined kept-types x valid of. subst (λ (y : Ty). In env x y.sem) (sym is-atom)
        (future-in env (MayGive env (sem f) (map sem args)) o.s
        (λ y valid-y may. (In-same env y o.r o.s o.same).0 ((keeps-2.shapes o.r a.defined y).0
        (answered env o.applied.atoms keeps-2 passes (sem f) o.r (length s.atoms) args a.types (Some y) function-there args-there a.copies there a.least may)))
        (length o.applied.atoms) x future valid of)))
