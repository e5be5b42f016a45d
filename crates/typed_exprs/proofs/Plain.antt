-- Operators that ask nothing of their operands.
use Rattle.std.proofs.Common.{◌≡◌, List, [], ◌∷◌, refl, sym, subst}
use Rattle.bal_base.specs.declared.place.Place.{Place}
use Rattle.bal_base.specs.declared.shape.Shape.{Shape}
use Rattle.checks.specs.Checks.{gives_some}
use Rattle.descriptors.specs.declared.names.Names.{Names}
use Rattle.operations.specs.Kinds.{IsBoolean}
use Rattle.operations.specs.Rows.{Surroundings}
use Rattle.type_model.specs.declared.answers.TypeLimit.{TypeLimit}
use Rattle.type_model.specs.declared.atoms.AtomDef.{AtomDef}
use Rattle.type_model.specs.declared.basic.SemType.{SemType}
use Rattle.type_model.specs.Calls.{Asked}
use Rattle.type_model.specs.Inclusion.{HasExactly}
use Rattle.typed_tree.specs.declared.expr.TypedExpr.{TypedExpr}
use Rattle.typed_tree.specs.declared.form.Operator.{Operator}
use Rattle.typed_tree.specs.Listed.{nothing, one, ◌&◌}
use Rattle.expr_needs.specs.declared.expected.Expected.{Expected}
use Rattle.expr_needs.specs.declared.expected.Expected.TheVariants as expected
use Rattle.expr_needs.specs.declared.kind.Kind.TheVariants as kind
use Rattle.expr_needs.specs.ExprTable.{Reading}
use Rattle.expr_needs.specs.Needs.{FillsNil, Forms}
use Rattle.check_words.specs.State.{State}
use Rattle.check_laws.specs.Laws.{IsReady}
use Rattle.tree_promises.specs.Made.{GivenBy, OperandsFit, sem}
use Rattle.typed_needs.specs.Between.{IsKept, IsSoFar}
use Rattle.typed_needs.specs.Choices.{ChoicesAreTyped}
use Rattle.typed_needs.specs.Placing.{AreNamed}
use Rattle.typed_needs.specs.TypedRuns.{ComesToTyped}
use Rattle.typed_needs.proofs.Choices.{choices-are-typed}
use Rattle.typed_needs.proofs.Opened.{operator-is-typed}
use Rattle.calm_needs.specs.Calm.{NeedsAreCalm}
use Rattle.typed_exprs.specs.Lines.{Knows, Left, Run}
use Rattle.typed_exprs.proofs.Operands.{two-found, two-units}
use Rattle.typed_exprs.proofs.Operators.{calm-so, lasts, left-ready, made-step, step-path}
use Rattle.typed_exprs.proofs.Steps.{before, calm-keeps, parted, so-far}

module _ (passes : List AtomDef → Asked → TypeLimit → Type 0) (names : Names) (env : List AtomDef) (calm : NeedsAreCalm passes names) where
  none-run : (old new : State) → Run passes names env nothing old new → new ≡ old
  unfolding gives_some
  none-run old new (is, same) = same

  -- ---- an operand of which nothing is asked

  plain-left : (e : Expected) (a : Reading) → Knows passes names env a → (old new : State) → IsReady e old → Run passes names env (a.needs e & nothing) old new → Left old new
  plain-left e a ka old new ready run =
      let (m, ra, rn) = parted passes names env (a.needs e) nothing old new run in
      subst (λ (s : State). Left old s) (sym (none-run m new rn)) (ka.leaves e old m ready ra)

  plain-typed : (e : Expected) (a : Reading) → Knows passes names env a → (place : Surroundings) (old new : State) → IsReady e old → Run passes names env (a.needs e & nothing) old new
      → IsKept place old → IsSoFar env place new → AreNamed env names place → ComesToTyped env place old new
  plain-typed e a ka place old new ready run kept far named =
      let (m, ra, rn) = parted passes names env (a.needs e) nothing old new run in
      let same : new ≡ m = none-run m new rn in
      subst (λ (s : State). ComesToTyped env place old s) (sym same) (ka.claim e place old m ready ra kept (subst (IsSoFar env place) same far) named)

  pub none-ready : (e : Expected) (s : State) → IsReady e s → IsReady expected.Nothing s
  none-ready e s h = record { unit = h.unit; wants = tt }

  module _ (truth : SemType) (boolean : HasExactly env truth IsBoolean) where
    -- `===`, and `!==`
    pub identical : (o : Operator) → ((x y : SemType) → OperandsFit env o (x ∷ y ∷ [])) → ((x : Shape) → GivenBy o x → IsBoolean x) → (a b : Reading) (at : Place)
        → Knows passes names env a → Knows passes names env b → (e : Expected) (place : Surroundings) (old new : State) → IsReady e old
        → Run passes names env ((a.needs expected.Nothing & nothing) & (b.needs expected.Nothing & nothing) & one (Forms o 2 kind.Truth at)) old new
        → IsKept place old → IsSoFar env place new → AreNamed env names place → ComesToTyped env place old new
    identical o fits gives a b at ka kb e place old new ready run kept far named =
        let (m, ra, rest) = parted passes names env (a.needs expected.Nothing & nothing) ((b.needs expected.Nothing & nothing) & one (Forms o 2 kind.Truth at)) old new run in
        let (n, rb, s) = parted passes names env (b.needs expected.Nothing & nothing) (one (Forms o 2 kind.Truth at)) m new rest in
        let ready-a = none-ready e old ready in
        let left-a = plain-left expected.Nothing a ka old m ready-a ra in
        let ready-b = left-ready passes names env calm expected.Nothing old m left-a ready-a in
        let left-b = plain-left expected.Nothing b kb m n ready-b rb in
        let far-n = so-far env place n new (step-path passes names env calm (Forms o 2 kind.Truth at) tt n new s) far in
        let far-m = so-far env place m n left-b.path far-n in
        let x = plain-typed expected.Nothing a ka place old m ready-a ra kept far-m named in
        let y = plain-typed expected.Nothing b kb place m n ready-b rb x.kept far-n named in
        let parts : List TypedExpr = x.part ∷ y.part ∷ [] in
        let found = two-found passes names env old m n x.part y.part x.found y.found in
        let kept-new = calm-keeps place n new (calm-so passes names env calm (Forms o 2 kind.Truth at) tt n new s) s.1 y.kept in
        made-step passes names env calm (Forms o 2 kind.Truth at) tt place 2 parts old n new found refl (two-units passes names env place x.part y.part x.units y.units) y.kept s
        (operator-is-typed env passes names place o 2 kind.Truth at n new parts truth (before env place new kept-new far) s.0 (lasts passes names env calm old n parts 2 found refl)
        (x.typed, (y.typed, tt)) (fits (sem x.part) (sem y.part)) gives boolean)

    -- `a ?: b`
    pub filled : (a b : Reading) (at : Place) → Knows passes names env a → Knows passes names env b → (e : Expected) (place : Surroundings) (old new : State) → IsReady e old
        → Run passes names env ((a.needs expected.Nothing & nothing) & (b.needs e & nothing) & one (FillsNil at)) old new
        → IsKept place old → IsSoFar env place new → AreNamed env names place → ComesToTyped env place old new
    filled a b at ka kb e place old new ready run kept far named =
        let (m, ra, rest) = parted passes names env (a.needs expected.Nothing & nothing) ((b.needs e & nothing) & one (FillsNil at)) old new run in
        let (n, rb, s) = parted passes names env (b.needs e & nothing) (one (FillsNil at)) m new rest in
        let ready-a = none-ready e old ready in
        let left-a = plain-left expected.Nothing a ka old m ready-a ra in
        let ready-b = left-ready passes names env calm e old m left-a ready in
        let left-b = plain-left e b kb m n ready-b rb in
        let far-n = so-far env place n new (step-path passes names env calm (FillsNil at) tt n new s) far in
        let far-m = so-far env place m n left-b.path far-n in
        let x = plain-typed expected.Nothing a ka place old m ready-a ra kept far-m named in
        let y = plain-typed e b kb place m n ready-b rb x.kept far-n named in
        let parts : List TypedExpr = x.part ∷ y.part ∷ [] in
        let found = two-found passes names env old m n x.part y.part x.found y.found in
        let kept-new = calm-keeps place n new (calm-so passes names env calm (FillsNil at) tt n new s) s.1 y.kept in
        let choices : ChoicesAreTyped passes names env place = choices-are-typed env passes names place in
        made-step passes names env calm (FillsNil at) tt place 2 parts old n new found refl (two-units passes names env place x.part y.part x.units y.units) y.kept s
        (choices.filled at n new x.part y.part truth (before env place n y.kept far-n) (before env place new kept-new far) s.0 (lasts passes names env calm old n parts 2 found refl)
        x.typed y.typed far.placed boolean)
