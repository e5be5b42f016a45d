use Rattle.std.proofs.Common.{◌≤◌, ◌∙◌, Ok, Err, true, false, arith, get_or, length, subst}
use Rattle.std.proofs.lemmas.List.{get_or_default}
use Rattle.expr_needs.specs.declared.kind.Kind.TheVariants.{Integer}
use Rattle.type_model.specs.declared.basic.Ty.{Ty}
use Rattle.check_words.specs.Words.{OfKind, whether_within}
use Rattle.check_kinds.specs.declared.widening.TheConstants.{WIDE}
use Rattle.check_kinds.specs.Over.{ComesOver}
use Rattle.check_kinds.proofs.WideKinds.{kind-found, kind-stops, next-left, none-left}
use Rattle.check_kinds.proofs.widening.widened.Goals as goal

pub returns-in-Ok-true-clause-comes : goal.returns-in-Ok-true-clause-comes
returns-in-Ok-true-clause-comes g c =
    let env = g.T.Types.atoms c.args.types.now in
    let i = c.loop-kind.kind-index in
    let k = get_or WIDE i Integer in
    let found = c.in_ok-kind_shared-in-Ok-true in
    kind-found g.T.Types.passes env c.args.t c.args.at i k c.loop-kind-test.true (get_or_default WIDE i Integer k c.loop-kind-test.true) _ _ c.loop-kind.invariant.0 c.is_of_kind.ensures.atoms
    c.loop-kind.invariant.1 found.field-0 (found.ensures.is env c.requires.own)
    (subst (λ (v : Ty). ComesOver (whether_within g.T.Types.passes (OfKind k) v.sem c.args.at) (g.T.Types.atoms c.loop-kind.types) (Ok true) (g.T.Types.atoms c.is_of_kind.new.types)) c.deref.ensures
    (subst (λ b. ComesOver (whether_within g.T.Types.passes (OfKind k) c.deref.result.now.sem c.args.at) (g.T.Types.atoms c.loop-kind.types) (Ok b) (g.T.Types.atoms c.is_of_kind.new.types))
    c.in-Ok-true.field-0-test c.in-Ok-true.ensures.comes))

pub returns-in-Err-clause-comes : goal.returns-in-Err-clause-comes
returns-in-Err-clause-comes g c =
    let i = c.loop-kind.kind-index in
    let k = get_or WIDE i Integer in
    kind-stops g.T.Types.passes (g.T.Types.atoms c.args.types.now) c.args.t c.args.at i k c.loop-kind-test.true (get_or_default WIDE i Integer k c.loop-kind-test.true) _ _ c.loop-kind.invariant.0
    c.is_of_kind.ensures.atoms c.loop-kind.invariant.1 c.in-Err.stop
    (subst (λ (v : Ty). ComesOver (whether_within g.T.Types.passes (OfKind k) v.sem c.args.at) (g.T.Types.atoms c.loop-kind.types) (Err c.in-Err.stop) (g.T.Types.atoms c.is_of_kind.new.types)) c.deref.ensures
    c.in-Err.ensures.comes)

pub loop-kind-preserved : goal.loop-kind-preserved
loop-kind-preserved g c =
    let i = c.loop-kind.kind-index in
    let k = get_or WIDE i Integer in (
      c.is_of_kind.ensures.atoms ∙ c.loop-kind.invariant.0,
      next-left g.T.Types.passes (g.T.Types.atoms c.args.types.now) c.args.t c.args.at i k c.loop-kind-test.true (get_or_default WIDE i Integer k c.loop-kind-test.true) _ _ c.loop-kind.invariant.0
          c.is_of_kind.ensures.atoms c.loop-kind.invariant.1
          (subst (λ (v : Ty). ComesOver (whether_within g.T.Types.passes (OfKind k) v.sem c.args.at) (g.T.Types.atoms c.loop-kind.types) (Ok false) (g.T.Types.atoms c.is_of_kind.new.types)) c.deref.ensures
          (subst (λ b. ComesOver (whether_within g.T.Types.passes (OfKind k) c.deref.result.now.sem c.args.at) (g.T.Types.atoms c.loop-kind.types) (Ok b) (g.T.Types.atoms c.is_of_kind.new.types))
          c.in-Ok-false.field-0-test c.in-Ok-false.ensures.comes)),
    )

pub returns-clause-comes : goal.returns-clause-comes
returns-clause-comes g c =
    let le : length WIDE ≤ c.loop-kind.kind-index = omega (arith, c.loop-kind-test.false) in
    none-left g.T.Types.passes (g.T.Types.atoms c.args.types.now) c.args.t c.args.at c.loop-kind.kind-index _ le c.loop-kind.invariant.0 c.loop-kind.invariant.1
