-- What is made of all operands by the operations of a form.
use Rattle.std.proofs.Common.{◌≡◌, ◌++◌, ℕ, Bool, true, false, List, [], ◌∷◌, length, map, Some, refl, rules, sym, subst}
use Rattle.bal_base.specs.declared.fault.FaultCode.{FaultCode}
use Rattle.bal_base.specs.declared.place.Place.{Place}
use Rattle.bal_base.specs.declared.shape.Shape.{Shape}
use Rattle.checks.specs.Checks.{Gives, refuses}
use Rattle.descriptors.specs.declared.names.Names.{Names}
use Rattle.type_model.specs.declared.answers.TypeLimit.{TypeLimit}
use Rattle.type_model.specs.declared.atoms.AtomDef.{AtomDef}
use Rattle.type_model.specs.declared.basic.SemType.{SemType}
use Rattle.type_model.specs.declared.basic.Ty.{Ty}
use Rattle.type_model.specs.Calls.{Asked, KeepsTypes}
use Rattle.type_model.specs.Defined.{IsDefined}
use Rattle.operations.specs.declared.operation.Operation.{Operation}
use Rattle.operations.specs.Rows.{AreBelow, ResultHas, Surroundings}
use Rattle.operations.specs.Typing.{OpTyped}
use Rattle.typed_tree.proofs.ExprLayers.{expr_layers}
use Rattle.typed_tree.specs.declared.expr.TypedExpr.{TypedExpr}
use Rattle.typed_tree.specs.declared.form.StrictForm.{StrictForm}
use Rattle.typed_tree.specs.Exprs.{type_of}
use Rattle.typed_tree.specs.SharedTypes.{Shared, sem_of}
use Rattle.typed_tree.specs.Views.{IsStrict}
use Rattle.held_operations.specs.Constructs.{operations_of}
use Rattle.check_words.specs.State.{AreLast, State, all_but}
use Rattle.check_words.specs.Words.{Atoms, fails, unless}
use Rattle.tree_promises.specs.Made.{AreTypedExprs, LeadsTo, MadeIsTyped, sem}
use Rattle.tree_promises.specs.Types.{DoesTypes, Stack}
use Rattle.tree_promises.proofs.Pieces.{made-is-typed}
use Rattle.typed_needs.specs.Pieces.{IsBefore, MakesTyped}
use Rattle.typed_needs.proofs.Leaving.{LeavesAll, Makes, all-some}
use Rattle.typed_needs.proofs.Opened.{last-defined, same-lasts}

pub types-itself : (env : List AtomDef) (p : Stack) → AreBelow env p p
types-itself env [] = tt
types-itself env (t ∷ ts) = ((λ x is. is.1), types-itself env ts)

pub does-row : (env : List AtomDef) (place : Surroundings) (op : Operation) (below operands : Stack) (t : SemType) → OpTyped env place op operands (Some t)
    → DoesTypes env place op (below ++ operands) (below ++ t ∷ [])
does-row env place op below operands t row =
    record { below = below; operands = operands; result = Some t; are = refl; row = row; behind = λ goes. types-itself env (below ++ t ∷ []) }

-- of a type of which this holds
abbrev pub StrictMade : StrictForm → (Atoms → Ty → Type 0) → Place → Atoms → List TypedExpr → TypedExpr → Type 0
StrictMade f P at env parts e = (t : Shared) × P env t.value × IsStrict f parts t at e

pub strict-type : (f : StrictForm) (parts : List TypedExpr) (t : Shared) (at : Place) (e : TypedExpr) → IsStrict f parts t at e → type_of e ≡ t
strict-type f parts t at e (v, is, same) = search (rules, expr_layers)

pub never : {u : Unit {0}} (code : FaultCode) (at : Place) (old new : State) → fails {A = Unit {0}} code at old (Gives u) new → ⊥
unfolding refuses
never code at old new x = x

pub unless-leaves : (b : Bool) (code : FaultCode) (at : Place) → LeavesAll (unless b code at)
unless-leaves true code at = all-some _
unless-leaves false code at = λ old new a x. absurd (never code at old new x)

module _ (env : List AtomDef) where
  -- the type of what was made names atoms that were there
  pub made-defined : (count : ℕ) (old new : State) (e : TypedExpr) (t : Shared) → IsBefore env new → type_of e ≡ t → new.found ≡ all_but count old.found ++ e ∷ []
      → new.atoms ≡ old.atoms → IsDefined old.atoms (sem_of t)
  made-defined count old new e t after type found atoms =
      subst (λ (u : Shared). IsDefined old.atoms (sem_of u)) type
      (subst (λ (xs : Atoms). IsDefined xs (sem e)) atoms (last-defined env new e after (record { kept = all_but count old.found; is = found })))

  module _ (passes : List AtomDef → Asked → TypeLimit → Type 0) (names : Names) (place : Surroundings) where
    pub strict-typed : (f : StrictForm) (count : ℕ) (parts : List TypedExpr) (P : Atoms → Ty → Type 0) (at : Place) (old new : State) → IsBefore env new
        → AreLast old.found count parts → AreTypedExprs env place parts → Makes count (StrictMade f P at) old new
        → ((t : Shared) → P old.atoms t.value → IsDefined old.atoms (sem_of t) → KeepsTypes old.atoms env
        → LeadsTo env place (operations_of f (length parts)) (map sem parts) (sem_of t))
        → MakesTyped passes names env place count old new
    strict-typed f count parts P at old new after last typed (ps, e, l, (t, holds, view), found, atoms) leads =
        let strict : IsStrict f parts t at e = subst (λ xs. IsStrict f xs t at e) (same-lasts old.found count ps parts l last) view in
        let defined = made-defined count old new e t after (strict-type f parts t at e strict) found atoms in
        let pieces : MadeIsTyped env place (sem_of t) = made-is-typed env place (sem_of t) in
        record {
          part = e;
          found = found;
          typed = pieces.strict f parts t at e strict typed (leads t holds defined (subst (λ (xs : Atoms). KeepsTypes xs env) atoms after.keeps));
        }

    -- by one operation, whose row gives this
    pub one-typed : (f : StrictForm) (op : Operation) (count : ℕ) (parts : List TypedExpr) (P : Atoms → Ty → Type 0) (Q : Shape → Type 0) (at : Place) (old new : State) → IsBefore env new
        → AreLast old.found count parts → AreTypedExprs env place parts → Makes count (StrictMade f P at) old new → operations_of f (length parts) ≡ op ∷ []
        → ((t : SemType) → ResultHas env (Some t) Q → OpTyped env place op (map sem parts) (Some t))
        → ((t : Shared) → P old.atoms t.value → IsDefined old.atoms (sem_of t) → KeepsTypes old.atoms env → ResultHas env (Some (sem_of t)) Q)
        → MakesTyped passes names env place count old new
    one-typed f op count parts P Q at old new after last typed makes-it does row has =
        strict-typed f count parts P at old new after last typed makes-it (λ t holds defined keeps.
        let pieces : MadeIsTyped env place (sem_of t) = made-is-typed env place (sem_of t) in
        subst (λ ops. LeadsTo env place ops (map sem parts) (sem_of t)) (sym does)
        (pieces.one_row op (map sem parts) (sem_of t) (row (sem_of t) (has t holds defined keeps))))
