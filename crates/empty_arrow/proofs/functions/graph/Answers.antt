use Rattle.std.proofs.Common.{◌+◌, take, get_or, subst, sym, ◌∙◌, ap, arith, true}
use Rattle.std.specs.List.{list_any}
use Rattle.std.proofs.lemmas.List.{take_all}
use Rattle.std.proofs.lemmas.List.Elements.{Contains-get_or}
use Rattle.bal_base.specs.declared.shape.Shape.{Function}
use Rattle.empty_arrow.specs.Arrows.{is_isolated}
use Rattle.empty_arrow.specs.Graphs.{AreCases, arguments_sought, results_sought}
use Rattle.empty_arrow.specs.Pairs.{TellsPair}
use Rattle.empty_arrow.proofs.Base.{base-keeps}
use Rattle.empty_arrow.proofs.GraphLaws.{is-IsFree, not-IsFree, one_free, one_more_case}
use Rattle.type_diagrams.proofs.Tellings.{sound-keeps}
use Rattle.type_diagrams.proofs.AskedDiagrams.{then_all}
use Rattle.empty_arrow.proofs.functions.graph.Goals as goal

pub loop-atom-preserved-then-is_free : goal.loop-atom-preserved-then-is_free
loop-atom-preserved-then-is_free g c =
    let env = c.args.context.now.env.now in
    let atom = get_or c.args.unwanted.now c.loop-atom.atom-index 0 in
    let free = is-IsFree env c.defs-defs.result.now c.defs-defs.ensures.value c.args.wanted.now atom c.any_isolated-isolated.result c.is_free.result c.any_isolated-isolated.ensures c.is_free.ensures c.if-is_free.true in (
      c.loop-atom.invariant.0,
      one_free env c.args.wanted.now c.args.unwanted.now c.loop-atom.atom-index c.loop-atom.cases.items (omega arith) c.loop-atom.invariant.1 free,
    )

pub avoiding_pair-requires-clause-base : goal.avoiding_pair-requires-clause-base
avoiding_pair-requires-clause-base g c =
    base-keeps c.args.context.now.env.now c.args.dia.now c.loop-atom.dia c.args.base.arguments c.args.base.results c.loop-atom.invariant.0.keeps c.requires.base

pub avoiding_pair-requires-clause-sound : goal.avoiding_pair-requires-clause-sound
avoiding_pair-requires-clause-sound g c =
    sound-keeps c.args.context.now.env.now c.args.dia.now c.loop-atom.dia (g.M.Member.kept c.args.context.now.m.now) c.loop-atom.invariant.0.keeps c.requires.sound

pub returns-in_err-case-clause-extends : goal.returns-in_err-case-clause-extends
returns-in_err-case-clause-extends g c = then_all _ _ _ _ c.loop-atom.invariant.0 c.avoiding_pair.ensures.extends

pub returns-in-Empty-clause-extends : goal.returns-in-Empty-clause-extends
returns-in-Empty-clause-extends g c = then_all _ _ _ _ c.loop-atom.invariant.0 c.avoiding_pair.ensures.extends

pub returns-in-Empty-clause-tells : goal.returns-in-Empty-clause-tells
returns-in-Empty-clause-tells g c =
    let env = c.args.context.now.env.now in
    let i = c.loop-atom.atom-index in
    let atom = get_or c.args.unwanted.now i 0 in
    let bound = not-IsFree env c.defs-defs.result.now c.defs-defs.ensures.value c.args.wanted.now atom c.any_isolated-isolated.result c.is_free.result c.any_isolated-isolated.ensures c.is_free.ensures c.if-is_free.false in
    let told = subst (TellsPair env c.avoiding_pair.new.dia (g.M.Member.kept c.args.context.now.m.now) (arguments_sought env atom) (results_sought env atom) true c.args.wanted.now) c.in-Empty.is c.in_ok-case.ensures.tells in
    (atom, Contains-get_or c.args.unwanted.now i 0 (omega arith), bound, told)

pub returns-in-Ask-clause-extends : goal.returns-in-Ask-clause-extends
returns-in-Ask-clause-extends g c = then_all _ _ _ _ c.loop-atom.invariant.0 c.avoiding_pair.ensures.extends

pub returns-in-Ask-clause-tells : goal.returns-in-Ask-clause-tells
returns-in-Ask-clause-tells g c =
    let env = c.args.context.now.env.now in
    let i = c.loop-atom.atom-index in
    let atom = get_or c.args.unwanted.now i 0 in
    let bound = not-IsFree env c.defs-defs.result.now c.defs-defs.ensures.value c.args.wanted.now atom c.any_isolated-isolated.result c.is_free.result c.any_isolated-isolated.ensures c.is_free.ensures c.if-is_free.false in
    let told = subst (TellsPair env c.avoiding_pair.new.dia (g.M.Member.kept c.args.context.now.m.now) (arguments_sought env atom) (results_sought env atom) true c.args.wanted.now) c.in-Ask.is c.in_ok-case.ensures.tells in
    (atom, Contains-get_or c.args.unwanted.now i 0 (omega arith), bound, told)

pub returns-in_err-push-clause-extends : goal.returns-in_err-push-clause-extends
returns-in_err-push-clause-extends g c = then_all _ _ _ _ c.loop-atom.invariant.0 c.avoiding_pair.ensures.extends

pub loop-atom-preserved : goal.loop-atom-preserved
loop-atom-preserved g c =
    let env = c.args.context.now.env.now in
    let i = c.loop-atom.atom-index in
    let atom = get_or c.args.unwanted.now i 0 in
    let told = subst (TellsPair env c.avoiding_pair.new.dia (g.M.Member.kept c.args.context.now.m.now) (arguments_sought env atom) (results_sought env atom) true c.args.wanted.now) c.in-Pair.is c.in_ok-case.ensures.tells in (
      then_all _ c.args.dia.now c.loop-atom.dia c.avoiding_pair.new.dia c.loop-atom.invariant.0 c.avoiding_pair.ensures.extends,
      subst (AreCases env c.args.wanted.now (take (i + 1) c.args.unwanted.now)) (sym c.in_ok-push.ensures.items)
          (one_more_case env c.args.wanted.now c.args.unwanted.now i c.loop-atom.cases.items c.in-Pair.case (omega arith) c.loop-atom.invariant.1 told),
    )

pub returns-clause-tells : goal.returns-clause-tells
returns-clause-tells g c =
    let env = c.args.context.now.env.now in
    let done = subst (λ us. AreCases env c.args.wanted.now us c.loop-atom.cases.items) (take_all c.loop-atom.atom-index c.args.unwanted.now (omega arith)) c.loop-atom.invariant.1 in
    let alone = c.any_isolated-isolated.ensures ∙ (λ j. list_any (is_isolated (c.defs-defs.ensures.value j)) c.args.wanted.now) in
    (c.of.result, c.in_ok-whole.ensures ∙ ap (λ b. Function b c.of.result) alone, subst (AreCases env c.args.wanted.now c.args.unwanted.now) (sym c.of.ensures) done)
