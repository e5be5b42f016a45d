-- Lines behind a prefix, and those that name a type.
use Rattle.std.proofs.Common.{◌≡◌, ◌∙◌, ◌++◌, List, [], ◌∷◌, Option, arith, refl, ap}
use Rattle.bal_base.specs.declared.place.Place.{Place}
use Rattle.bal_tree.specs.declared.expr.PrefixOp.{PrefixOp}
use Rattle.bal_tree.specs.declared.expr.PrefixOp.TheVariants as prefix
use Rattle.bal_tree.specs.declared.name.QualifiedName.{QualifiedName}
use Rattle.bal_tree.specs.declared.types.TypeTree.{TypeTree}
use Rattle.checks.specs.Checks.{Gives, ◌▷◌, gives_some}
use Rattle.needs.specs.Needs.{asks, does}
use Rattle.descriptors.specs.declared.names.Names.{Names}
use Rattle.operations.specs.Kinds.{IsBoolean}
use Rattle.type_model.specs.declared.answers.TypeLimit.{TypeLimit}
use Rattle.type_model.specs.declared.atoms.AtomDef.{AtomDef}
use Rattle.type_model.specs.declared.basic.SemType.{SemType}
use Rattle.type_model.specs.Calls.{Asked}
use Rattle.type_model.specs.Inclusion.{HasExactly}
use Rattle.typed_tree.specs.declared.form.Operator.TheVariants as operator
use Rattle.typed_tree.specs.Listed.{one, ◌&◌}
use Rattle.expr_needs.specs.declared.expected.Expected.TheVariants as expected
use Rattle.expr_needs.specs.declared.kind.Kind.{Kind}
use Rattle.expr_needs.specs.declared.kind.Kind.TheVariants as kind
use Rattle.expr_needs.specs.ExprTable.{Reading, against, freely}
use Rattle.expr_needs.specs.Needs.{Need, Casts, Checks, ChecksPanicking, Describes, Forms, IsOf, Tests, Turns}
use Rattle.expr_needs.specs.Operators.{expectation, prefix_expects, prefix_needs}
use Rattle.check_words.specs.State.{State}
use Rattle.check_words.specs.Values.{describes}
use Rattle.check_words.specs.Words.{by_handles}
use Rattle.check_laws.specs.Laws.{IsReady}
use Rattle.typed_needs.specs.Choices.{ChoicesAreTyped}
use Rattle.typed_needs.specs.Pieces.{ConditionsAreTyped}
use Rattle.typed_needs.proofs.Choices.{choices-are-typed}
use Rattle.typed_needs.proofs.Conditions.{conditions-are-typed}
use Rattle.typed_needs.proofs.Opened.{operator-is-typed}
use Rattle.calm_needs.specs.Calm.{AllNeedsAreCalm, NeedsAreCalm}
use Rattle.typed_exprs.specs.Lines.{Claim, Knows, Run}
use Rattle.typed_exprs.specs.Prefixes.{AllPrefixesAreTyped}
use Rattle.typed_exprs.proofs.Operands.{against-typed}
use Rattle.typed_exprs.proofs.Operators.{calm-so, lasts, made-step, made-with, of-kind-ready, step-path}
use Rattle.typed_exprs.proofs.Plain.{none-ready}
use Rattle.typed_exprs.proofs.Steps.{Step, before, calm-keeps, calm-path, parted, so-far}

module _ (passes : List AtomDef → Asked → TypeLimit → Type 0) (names : Names) (env : List AtomDef) (calm : NeedsAreCalm passes names) where
  -- what stands behind an operand of a kind
  pub behind : (k : Kind) (a : Reading) (need : Need) (old new : State) → Run passes names env (a.needs (expectation k) & one (IsOf k a.at) & one need) old new
      → (n : State) × Run passes names env (against k a) old n × Step passes names env need n new
  unfolding ◌▷◌
  behind k a need old new (u, m, x, (v, n, y, z)) = (n, (u, m, x, y), z)

  -- a type that is described leaves the parts
  described : (tree : TypeTree) (old new : State) → describes names tree old (Gives tt) new → new.found ≡ old.found
  unfolding ◌▷◌ gives_some asks by_handles does
  described tree old new (scope, a, (is, first), (t, b, (asked, second), (u, c, (copy, third), (w, d, (same, fourth), fifth)))) =
      ap (λ (s : State). s.found) fifth ∙ ap (λ (s : State). s.found) fourth ∙ ap (λ (s : State). s.found) third ∙ ap (λ (s : State). s.found) second
      ∙ ap (λ (s : State). s.found) first

  module _ (truth : SemType) (boolean : HasExactly env truth IsBoolean) where
    abbrev Line : PrefixOp → Type 0
    Line o = (a : Reading) (at : Place) → Knows passes names env a → Claim passes names env (λ e. a.needs (prefix_expects o) & prefix_needs o a.at at)

    negated : Line prefix.Negate
    negated a at ka e place old new ready run kept far named =
        let (n, both, s) = behind kind.Integer a (Forms operator.Negate 1 kind.Integer at) old new run in
        let far-n = so-far env place n new (step-path passes names env calm (Forms operator.Negate 1 kind.Integer at) tt n new s) far in
        let x = against-typed passes names env kind.Integer a ka place old n (of-kind-ready passes names env calm e kind.Integer old ready) both kept far-n named in
        let kept-new = calm-keeps place n new (calm-so passes names env calm (Forms operator.Negate 1 kind.Integer at) tt n new s) s.1 x.kept in
        made-step passes names env calm (Forms operator.Negate 1 kind.Integer at) tt place 1 (x.part ∷ []) old n new x.found refl x.units x.kept s
        (operator-is-typed env passes names place operator.Negate 1 kind.Integer at n new (x.part ∷ []) truth (before env place new kept-new far) s.0
        (lasts passes names env calm old n (x.part ∷ []) 1 x.found refl) (x.typed, tt) x.holds (λ y g. g) boolean)

    turned : Line prefix.Not
    turned a at ka e place old new ready run kept far named =
        let (n, both, s) = behind kind.Truth a (Turns at) old new run in
        let c = calm.turns at n new s.0 in
        let far-n = so-far env place n new (calm-path n new c.on c.units) far in
        let x = against-typed passes names env kind.Truth a ka place old n (of-kind-ready passes names env calm e kind.Truth old ready) both kept far-n named in
        let kept-new = calm-keeps place n new c s.1 x.kept in
        let conditions : ConditionsAreTyped passes names env place = conditions-are-typed env passes names place in
        made-with passes names env calm place 1 (x.part ∷ []) old n new x.found refl x.units x.kept c s.1
        (conditions.negations at n new x.part truth (before env place new kept-new far) s.0 (record { kept = old.found; is = x.found }) x.typed x.holds boolean)

    checked : Line prefix.Check
    checked a at ka e place old new ready run kept far named =
        let (n, ra, s) = parted passes names env (freely a) (one (Checks at)) old new run in
        let far-n = so-far env place n new (step-path passes names env calm (Checks at) tt n new s) far in
        let x = ka.claim expected.Nothing place old n (none-ready passes names env calm e old ready) ra kept far-n named in
        let choices : ChoicesAreTyped passes names env place = choices-are-typed env passes names place in
        made-step passes names env calm (Checks at) tt place 1 (x.part ∷ []) old n new x.found refl x.units x.kept s
        (choices.checks at n new x.part truth (before env place n x.kept far-n) s.0 (record { kept = old.found; is = x.found }) x.typed far.placed boolean)

    panicking : Line prefix.CheckPanic
    panicking a at ka e place old new ready run kept far named =
        let (n, ra, s) = parted passes names env (freely a) (one (ChecksPanicking at)) old new run in
        let far-n = so-far env place n new (step-path passes names env calm (ChecksPanicking at) tt n new s) far in
        let x = ka.claim expected.Nothing place old n (none-ready passes names env calm e old ready) ra kept far-n named in
        let choices : ChoicesAreTyped passes names env place = choices-are-typed env passes names place in
        made-step passes names env calm (ChecksPanicking at) tt place 1 (x.part ∷ []) old n new x.found refl x.units x.kept s
        (choices.panicking at n new x.part truth (before env place n x.kept far-n) s.0 (record { kept = old.found; is = x.found }) x.typed far.placed boolean)

    prefixed : (o : PrefixOp) → Line o
    prefixed prefix.Negate a at ka = negated a at ka
    prefixed prefix.Not a at ka = turned a at ka
    prefixed prefix.Check a at ka = checked a at ka
    prefixed prefix.CheckPanic a at ka = panicking a at ka

  cast : (type : TypeTree) (a : Reading) (at : Place) → Knows passes names env a → Claim passes names env (λ e. one (Describes type) & freely a & one (Casts at))
  cast type a at ka e place old new ready run kept far named =
      let (m, sd, rest) = parted passes names env (one (Describes type)) (freely a & one (Casts at)) old new run in
      let (n, ra, s) = parted passes names env (freely a) (one (Casts at)) m new rest in
      let same = described type old m sd.0 in
      let path = step-path passes names env calm (Describes type) tt old m sd in
      let ready-m : IsReady expected.Nothing m = record { unit = (let u = ready.unit in let q = path.many in omega (arith, u, q)); wants = tt } in
      let far-n = so-far env place n new (step-path passes names env calm (Casts at) tt n new s) far in
      let kept-m = calm-keeps place old m (calm-so passes names env calm (Describes type) tt old m sd) sd.1 kept in
      let x = ka.claim expected.Nothing place m n ready-m ra kept-m far-n named in
      let kept-new = calm-keeps place n new (calm-so passes names env calm (Casts at) tt n new s) s.1 x.kept in
      let found : n.found ≡ old.found ++ x.part ∷ [] = x.found ∙ ap (λ xs. xs ++ x.part ∷ []) same in
      let choices : ChoicesAreTyped passes names env place = choices-are-typed env passes names place in
      made-step passes names env calm (Casts at) tt place 1 (x.part ∷ []) old n new found refl x.units x.kept s
      (choices.casts at n new x.part (before env place n x.kept far-n) (before env place new kept-new far) s.0 (record { kept = old.found; is = found }) x.typed)

  tested : (type : TypeTree) (a : Reading) (name : Option QualifiedName) (at : Place) → Knows passes names env a
      → Claim passes names env (λ e. freely a & one (Describes type) & one (Tests name at))
  tested type a name at ka e place old new ready run kept far named =
      let (m, ra, rest) = parted passes names env (freely a) (one (Describes type) & one (Tests name at)) old new run in
      let (n, sd, s) = parted passes names env (one (Describes type)) (one (Tests name at)) m new rest in
      let c = calm.tests name at n new s.0 in
      let far-n = so-far env place n new (calm-path n new c.on c.units) far in
      let far-m = so-far env place m n (step-path passes names env calm (Describes type) tt m n sd) far-n in
      let x = ka.claim expected.Nothing place old m (none-ready passes names env calm e old ready) ra kept far-m named in
      let kept-n = calm-keeps place m n (calm-so passes names env calm (Describes type) tt m n sd) sd.1 x.kept in
      let kept-new = calm-keeps place n new c s.1 kept-n in
      let found : n.found ≡ old.found ++ x.part ∷ [] = described type m n sd.0 ∙ x.found in
      let choices : ChoicesAreTyped passes names env place = choices-are-typed env passes names place in
      made-with passes names env calm place 1 (x.part ∷ []) old n new found refl x.units kept-n c s.1
      (choices.tests name at n new x.part (before env place new kept-new far) s.0 (record { kept = old.found; is = found }) x.typed)

pub all-prefixes-are-typed : (passes : List AtomDef → Asked → TypeLimit → Type 0) → AllNeedsAreCalm passes → AllPrefixesAreTyped passes
all-prefixes-are-typed passes calm names env truth boolean =
    record { prefixes = prefixed passes names env (calm names) truth boolean; casts = cast passes names env (calm names); tests = tested passes names env (calm names) }
