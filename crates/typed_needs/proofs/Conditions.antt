-- Conditions that are put together, and parentheses: what changes beside the parts is of no account.
use Rattle.std.proofs.Common.{◌≡◌, ◌∙◌, ◌++◌, ℕ, true, false, List, [], ◌∷◌, refl, rules, sym, subst, ap}
use Rattle.bal_base.specs.declared.place.Place.{Place}
use Rattle.checks.specs.Checks.{Gives, ◌▷◌}
use Rattle.descriptors.specs.declared.names.Names.{Names}
use Rattle.type_model.specs.declared.answers.TypeLimit.{TypeLimit}
use Rattle.type_model.specs.declared.atoms.AtomDef.{AtomDef}
use Rattle.type_model.specs.declared.basic.Ty.{Ty}
use Rattle.type_model.specs.Calls.{Asked}
use Rattle.type_model.specs.Defined.{IsDefined}
use Rattle.type_model.specs.Inclusion.{HasExactly}
use Rattle.operations.specs.Kinds.{IsBoolean}
use Rattle.operations.specs.Rows.{Surroundings}
use Rattle.typed_tree.proofs.ExprLayers.{expr_layers}
use Rattle.typed_tree.specs.declared.expr.TypedExpr.{TypedExpr}
use Rattle.typed_tree.specs.declared.form.Operator.TheVariants as operator
use Rattle.typed_tree.specs.Exprs.{type_of}
use Rattle.typed_tree.specs.SharedTypes.{Shared, sem_of}
use Rattle.typed_tree.specs.declared.form.StrictForm.TheVariants as form
use Rattle.typed_tree.specs.Views.{IsAnd, IsOr, IsParens, IsStrict}
use Rattle.expr_needs.specs.declared.kind.Kind.TheVariants as kind
use Rattle.check_words.specs.Sharing.{SameShared}
use Rattle.check_words.specs.State.{State, all_but}
use Rattle.check_words.specs.Values.{conjoins, disjoins, encloses, turns}
use Rattle.check_words.specs.Words.{Atoms, OfKind, One, Two}
use Rattle.tree_promises.specs.Made.{MadeIsTyped, sem}
use Rattle.tree_promises.specs.Types.{IsTypedExpr}
use Rattle.tree_promises.proofs.Pieces.{made-is-typed}
use Rattle.typed_needs.specs.Pieces.{ConditionsAreTyped, ConjunctionIsTyped, DisjunctionIsTyped, IsBefore, NegationIsTyped, ParensAreTyped}
use Rattle.typed_needs.proofs.Leaving.{Makes, between, choice-left, flow-left, join-left, leaves-some, made, then-same, ways-left, ways-set}
use Rattle.typed_needs.proofs.Opened.{as-lasts, cons-same, exactly-later, last-defined, same-lasts}

abbrev NotMade : Place → Atoms → List TypedExpr → TypedExpr → Type 0
NotMade at env parts e = (t : Shared) × OfKind kind.Truth env t.value × IsStrict (form.Operator operator.Not) parts t at e

abbrev AndMade : Place → Atoms → List TypedExpr → TypedExpr → Type 0
AndMade at env parts e = Two parts (λ a b. (t : Shared) × OfKind kind.Truth env t.value × IsAnd a b t at e)

abbrev OrMade : Place → Atoms → List TypedExpr → TypedExpr → Type 0
OrMade at env parts e = Two parts (λ a b. (t : Shared) × OfKind kind.Truth env t.value × IsOr a b t at e)

abbrev ParensMade : Place → Atoms → List TypedExpr → TypedExpr → Type 0
ParensMade at env parts e = One parts (λ a. (t : Shared) × SameShared (type_of a) t × IsParens a t at e)

turns-opened : (at : Place) (old new : State) → turns at old (Gives tt) new → Makes 1 (NotMade at) old new
unfolding ◌▷◌
turns-opened at old new (w, a, first, (u, b, makes-it, set)) =
    between 1 (NotMade at) old a b new (ways-left old a w first) (made 1 (NotMade at) u a b makes-it) (ways-set _ b new tt set)

conjoins-opened : (at : Place) (old new : State) → conjoins at old (Gives tt) new → Makes 2 (AndMade at) old new
unfolding ◌▷◌
conjoins-opened at old new (w, a, first, (c, b, second, (n, d, third, (u, f, fourth, (v, g, makes-it, set))))) =
    between 2 (AndMade at) old f g new
    (then-same old a f (ways-left old a w first) (then-same a b f (choice-left a b c second) (then-same b d f (join-left _ _ b d n third) (flow-left _ d f u fourth))))
    (made 2 (AndMade at) v f g makes-it) (ways-set _ g new tt set)

disjoins-opened : (at : Place) (old new : State) → disjoins at old (Gives tt) new → Makes 2 (OrMade at) old new
unfolding ◌▷◌
disjoins-opened at old new (w, a, first, (c, b, second, (n, d, third, (u, f, fourth, (v, g, makes-it, set))))) =
    between 2 (OrMade at) old f g new
    (then-same old a f (ways-left old a w first) (then-same a b f (choice-left a b c second) (then-same b d f (join-left _ _ b d n third) (flow-left _ d f u fourth))))
    (made 2 (OrMade at) v f g makes-it) (ways-set _ g new tt set)

encloses-opened : (at : Place) (old new : State) → encloses at old (Gives tt) new → Makes 1 (ParensMade at) old new
unfolding ◌▷◌
encloses-opened at old new (w, a, first, (u, b, makes-it, set)) =
    between 1 (ParensMade at) old a b new (leaves-some _ old a w first) (made 1 (ParensMade at) u a b makes-it) (ways-set _ b new tt set)

not-type : (parts : List TypedExpr) (t : Shared) (at : Place) (e : TypedExpr) → IsStrict (form.Operator operator.Not) parts t at e → type_of e ≡ t
not-type parts t at e (v, is, same) = search (rules, expr_layers)

and-type : (a b : TypedExpr) (t : Shared) (at : Place) (e : TypedExpr) → IsAnd a b t at e → type_of e ≡ t
and-type a b t at e (l, r, is, left, right) = search (rules, expr_layers)

or-type : (a b : TypedExpr) (t : Shared) (at : Place) (e : TypedExpr) → IsOr a b t at e → type_of e ≡ t
or-type a b t at e (l, r, is, left, right) = search (rules, expr_layers)

module _ (env : List AtomDef) (passes : List AtomDef → Asked → TypeLimit → Type 0) (names : Names) (place : Surroundings) where
  -- the booleans, over the atoms at the end
  truth-later : (count : ℕ) (old new : State) (e : TypedExpr) (t : Shared) → IsBefore env new → type_of e ≡ t → new.found ≡ all_but count old.found ++ e ∷ []
      → new.atoms ≡ old.atoms → OfKind kind.Truth old.atoms t.value → HasExactly env (sem_of t) IsBoolean
  truth-later count old new e t before type found atoms truth =
      exactly-later env new.atoms IsBoolean (sem_of t) before.keeps
      (subst (λ (u : Shared). IsDefined new.atoms (sem_of u)) type (last-defined env new e before (record { kept = all_but count old.found; is = found })))
      (subst (λ (xs : Atoms). HasExactly xs (sem_of t) IsBoolean) (sym atoms) truth.0.shapes)

  negation : NegationIsTyped passes names env place
  negation at old new e truth before met last typed boolean is-truth =
      let (ps, p, l, (t, kind-of, view), found, atoms) = turns-opened at old new met in
      let same : ps ≡ e ∷ [] = same-lasts old.found 1 ps (e ∷ []) l (as-lasts old.found e last) in
      let not : IsStrict (form.Operator operator.Not) (e ∷ []) t at p = subst (λ xs. IsStrict (form.Operator operator.Not) xs t at p) same view in
      let exactly = truth-later 1 old new p t before (not-type (e ∷ []) t at p not) found atoms kind-of in
      let pieces : MadeIsTyped env place truth = made-is-typed env place truth in
      record {
        part = p;
        found = found;
        typed = pieces.strict (form.Operator operator.Not) (e ∷ []) t at p not (typed, tt)
            (pieces.operators operator.Not (sem e ∷ []) (sem_of t) is-truth boolean (λ x valid g. (exactly x valid).1 g));
      }

  conjunction : ConjunctionIsTyped passes names env place
  conjunction at old new a b before met ends first second one other =
      let (ps, p, l, (x, y, is, (t, kind-of, view)), found, atoms) = conjoins-opened at old new met in
      let same : x ∷ y ∷ [] ≡ a ∷ b ∷ [] = sym is ∙ same-lasts old.found 2 ps (a ∷ b ∷ []) l ends in
      let heads = cons-same x a (y ∷ []) (b ∷ []) same in let tails = cons-same y b [] [] heads.1 in
      let and : IsAnd a b t at p = subst (λ (z : TypedExpr). IsAnd a z t at p) tails.0 (subst (λ (z : TypedExpr). IsAnd z y t at p) heads.0 view) in
      let exactly = truth-later 2 old new p t before (and-type a b t at p and) found atoms kind-of in
      let pieces : MadeIsTyped env place (sem_of t) = made-is-typed env place (sem_of t) in
      record {
        part = p;
        found = found;
        typed = pieces.conjoined a b t at p and first second one (λ z valid i. (exactly z valid).1 (other z (valid, i))) (λ z valid e. (exactly z valid).1 (false, e));
      }

  disjunction : DisjunctionIsTyped passes names env place
  disjunction at old new a b before met ends first second one other =
      let (ps, p, l, (x, y, is, (t, kind-of, view)), found, atoms) = disjoins-opened at old new met in
      let same : x ∷ y ∷ [] ≡ a ∷ b ∷ [] = sym is ∙ same-lasts old.found 2 ps (a ∷ b ∷ []) l ends in
      let heads = cons-same x a (y ∷ []) (b ∷ []) same in let tails = cons-same y b [] [] heads.1 in
      let or : IsOr a b t at p = subst (λ (z : TypedExpr). IsOr a z t at p) tails.0 (subst (λ (z : TypedExpr). IsOr z y t at p) heads.0 view) in
      let exactly = truth-later 2 old new p t before (or-type a b t at p or) found atoms kind-of in
      let pieces : MadeIsTyped env place (sem_of t) = made-is-typed env place (sem_of t) in
      record {
        part = p;
        found = found;
        typed = pieces.disjoined a b t at p or first second one (λ z valid i. (exactly z valid).1 (other z (valid, i))) (λ z valid e. (exactly z valid).1 (true, e));
      }

  parens : ParensAreTyped passes names env place
  parens at old new e met last typed =
      let (ps, p, l, (a, is, (t, shared, view)), found, atoms) = encloses-opened at old new met in
      let same : a ∷ [] ≡ e ∷ [] = sym is ∙ same-lasts old.found 1 ps (e ∷ []) l (as-lasts old.found e last) in
      let one : a ≡ e = (cons-same a e [] [] same).0 in
      let part : IsTypedExpr env place a = subst (λ (z : TypedExpr). IsTypedExpr env place z) (sym one) typed in
      let pieces : MadeIsTyped env place (sem_of t) = made-is-typed env place (sem_of t) in
      record { part = p; found = found; typed = pieces.enclosed a t at p view part (sym (ap (λ (u : Ty). u.sem) shared)) }

pub conditions-are-typed : (env : List AtomDef) (passes : List AtomDef → Asked → TypeLimit → Type 0) (names : Names) (place : Surroundings) → ConditionsAreTyped passes names env place
conditions-are-typed env passes names place =
    record {
      negations = negation env passes names place;
      conjunctions = conjunction env passes names place;
      disjunctions = disjunction env passes names place;
      enclosed = parens env passes names place;
    }
