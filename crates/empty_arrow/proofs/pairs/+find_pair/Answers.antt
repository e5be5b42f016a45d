use Rattle.std.proofs.Common.{◌≤◌, length, get_or, All, subst, sym, arith}
use Rattle.std.proofs.lemmas.List.Elements.{All-tail}
use Rattle.type_diagrams.specs.Tables.{condition}
use Rattle.type_diagrams.proofs.Keeping.{length-grows}
use Rattle.type_diagrams.proofs.Shapes.{IfOk-map}
use Rattle.type_diagrams.specs.Members.{arguments_of}
use Rattle.empty_arrow.specs.Arrows.{IsArrow}
use Rattle.empty_arrow.specs.Pairs.{AreArguments, TellsPair}
use Rattle.empty_arrow.proofs.PairLaws.{fewer-arguments}
use Rattle.type_diagrams.proofs.Tellings.{sound-keeps}
use Rattle.empty_arrow.proofs.PairSteps.{rest_of, first-rest, rest-shorter, left-condition, taken-condition, step_left-pair, step_left-ask, step_taken}
use Rattle.type_diagrams.proofs.AskedDiagrams.{then_all}
use Rattle.empty_arrow.proofs.pairs.+find_pair.Goals as goal

pub find_pair-requires : goal.find_pair-requires
find_pair-requires g t c = λ κs h.
    let env = c.args.context.now.env.now in
    let arrows = c.args.arrows.now in
    let some : 1 ≤ length arrows = omega arith in
    let keeps = c.outside.ensures.extends.keeps in
    let left = left-condition env c.defs.result.now c.defs.ensures.value c.args.dia.now c.outside.new.dia c.args.sought.args c.in_ok-args-in-len1-up.args (get_or arrows 0 0) c.arrow_of-arrow.result.args.now c.arrow_of-arrow.ensures.args c.in_ok-args-in-len1-up.ensures.made in
    let shorter = rest-shorter arrows some in (
      omega (arith, shorter),
      (
        h,
        (
          c.in_ok-args-in-len1-up.ensures.made.diagram,
          (
            length-grows c.args.dia.now.diagrams c.outside.new.dia.diagrams c.args.sought.result keeps.diagrams c.requires.results,
            (
              fewer-arguments env (condition c.args.dia.now c.args.sought.args) (condition c.outside.new.dia c.in_ok-args-in-len1-up.args) (arguments_of env (get_or arrows 0 0)) left c.requires.lists,
              (
                All-tail (IsArrow env) (get_or arrows 0 0) (rest_of arrows) (subst (All (IsArrow env)) (first-rest arrows some) c.requires.arrows),
                sound-keeps env c.args.dia.now c.outside.new.dia (g.M.Member.kept c.args.context.now.m.now) keeps c.requires.sound,
              ),
            ),
          ),
        ),
      ),
    )

pub find_pair-requires-in-len1-up : goal.find_pair-requires-in-len1-up
find_pair-requires-in-len1-up g t c = λ κs h.
    let env = c.args.context.now.env.now in
    let arrows = c.args.arrows.now in
    let some : 1 ≤ length arrows = omega arith in
    let extends = then_all _ c.args.dia.now c.outside.new.dia c.within.new.dia c.outside.ensures.extends (then_all _ c.outside.new.dia c.find_pair.new.dia c.within.new.dia c.find_pair.ensures.extends c.within.ensures.extends) in
    let keeps = extends.keeps in
    let shorter = rest-shorter arrows some in (
      omega (arith, shorter),
      (
        h,
        (
          length-grows c.args.dia.now.diagrams c.within.new.dia.diagrams c.args.sought.args keeps.diagrams c.requires.args,
          (
            c.in_ok-result-in-len1-up.ensures.made.diagram,
            (
              subst (AreArguments env) (sym (keeps.conditions c.args.sought.args c.requires.args)) c.requires.lists,
              (
                All-tail (IsArrow env) (get_or arrows 0 0) (rest_of arrows) (subst (All (IsArrow env)) (first-rest arrows some) c.requires.arrows),
                sound-keeps env c.args.dia.now c.within.new.dia (g.M.Member.kept c.args.context.now.m.now) keeps c.requires.sound,
              ),
            ),
          ),
        ),
      ),
    )

pub returns-in_err-find_pair-in-len1-up-clause-extends : goal.returns-in_err-find_pair-in-len1-up-clause-extends
returns-in_err-find_pair-in-len1-up-clause-extends g t c = then_all _ _ _ _ c.outside.ensures.extends c.find_pair.ensures.extends

pub returns-in-Pair-clause-extends : goal.returns-in-Pair-clause-extends
returns-in-Pair-clause-extends g t c = then_all _ _ _ _ c.outside.ensures.extends c.find_pair.ensures.extends

pub returns-in-Pair-clause-tells : goal.returns-in-Pair-clause-tells
returns-in-Pair-clause-tells g t c =
    let env = c.args.context.now.env.now in
    let kept = g.M.Member.kept c.args.context.now.m.now in
    let arrows = c.args.arrows.now in
    let some : 1 ≤ length arrows = omega arith in
    let left = left-condition env c.defs.result.now c.defs.ensures.value c.args.dia.now c.outside.new.dia c.args.sought.args c.in_ok-args-in-len1-up.args (get_or arrows 0 0) c.arrow_of-arrow.result.args.now c.arrow_of-arrow.ensures.args c.in_ok-args-in-len1-up.ensures.made in
    let told = subst (TellsPair env c.find_pair.new.dia kept (condition c.outside.new.dia c.in_ok-args-in-len1-up.args) (condition c.outside.new.dia c.args.sought.result) c.args.sought.may_fail (rest_of arrows)) c.in-Pair.is c.in_ok-find_pair-in-len1-up.ensures.tells in
    step_left-pair env kept arrows some c.args.dia.now c.args.sought.args c.args.sought.result c.args.sought.may_fail c.outside.new.dia c.find_pair.new.dia c.in_ok-args-in-len1-up.args c.requires.results c.outside.ensures.extends.keeps left c.in-Pair.case told

pub returns-in-Ask-clause-extends : goal.returns-in-Ask-clause-extends
returns-in-Ask-clause-extends g t c = then_all _ _ _ _ c.outside.ensures.extends c.find_pair.ensures.extends

pub returns-in-Ask-clause-tells : goal.returns-in-Ask-clause-tells
returns-in-Ask-clause-tells g t c =
    let env = c.args.context.now.env.now in
    let kept = g.M.Member.kept c.args.context.now.m.now in
    let arrows = c.args.arrows.now in
    let some : 1 ≤ length arrows = omega arith in
    let left = left-condition env c.defs.result.now c.defs.ensures.value c.args.dia.now c.outside.new.dia c.args.sought.args c.in_ok-args-in-len1-up.args (get_or arrows 0 0) c.arrow_of-arrow.result.args.now c.arrow_of-arrow.ensures.args c.in_ok-args-in-len1-up.ensures.made in
    let told = subst (TellsPair env c.find_pair.new.dia kept (condition c.outside.new.dia c.in_ok-args-in-len1-up.args) (condition c.outside.new.dia c.args.sought.result) c.args.sought.may_fail (rest_of arrows)) c.in-Ask.is c.in_ok-find_pair-in-len1-up.ensures.tells in
    step_left-ask env kept arrows some c.args.dia.now c.args.sought.args c.args.sought.result c.args.sought.may_fail c.outside.new.dia c.find_pair.new.dia c.in_ok-args-in-len1-up.args c.requires.results c.outside.ensures.extends.keeps left c.in-Ask.question told

pub returns-in_err-result-in-len1-up-clause-extends : goal.returns-in_err-result-in-len1-up-clause-extends
returns-in_err-result-in-len1-up-clause-extends g t c = then_all _ _ _ _ c.outside.ensures.extends (then_all _ _ _ _ c.find_pair.ensures.extends c.within.ensures.extends)

pub returns-in_ok-result-in-len1-up-clause-extends : goal.returns-in_ok-result-in-len1-up-clause-extends
returns-in_ok-result-in-len1-up-clause-extends g t c =
    then_all _ _ _ _ c.outside.ensures.extends (then_all _ _ _ _ c.find_pair.ensures.extends (then_all _ _ _ _ c.within.ensures.extends c.find_pair-in-len1-up.ensures.extends))

pub returns-in_ok-result-in-len1-up-clause-tells : goal.returns-in_ok-result-in-len1-up-clause-tells
returns-in_ok-result-in-len1-up-clause-tells g t c =
    let env = c.args.context.now.env.now in
    let kept = g.M.Member.kept c.args.context.now.m.now in
    let arrows = c.args.arrows.now in
    let some : 1 ≤ length arrows = omega arith in
    let first = get_or arrows 0 0 in
    let left = left-condition env c.defs.result.now c.defs.ensures.value c.args.dia.now c.outside.new.dia c.args.sought.args c.in_ok-args-in-len1-up.args first c.arrow_of-arrow.result.args.now c.arrow_of-arrow.ensures.args c.in_ok-args-in-len1-up.ensures.made in
    let to_second = then_all _ c.args.dia.now c.outside.new.dia c.find_pair.new.dia c.outside.ensures.extends c.find_pair.ensures.extends in
    let to_third = then_all _ c.args.dia.now c.find_pair.new.dia c.within.new.dia to_second c.within.ensures.extends in
    let to_new = then_all _ c.find_pair.new.dia c.within.new.dia c.find_pair-in-len1-up.new.dia c.within.ensures.extends c.find_pair-in-len1-up.ensures.extends in
    let taken = taken-condition env c.defs.result.now c.defs.ensures.value c.args.dia.now c.find_pair.new.dia c.within.new.dia c.args.sought.result c.in_ok-result-in-len1-up.result first c.arrow_of-arrow.result.result.now c.arrow_of-arrow.ensures.result c.requires.results to_second.keeps c.in_ok-result-in-len1-up.ensures.made in
    let nothing = subst (TellsPair env c.find_pair.new.dia kept (condition c.outside.new.dia c.in_ok-args-in-len1-up.args) (condition c.outside.new.dia c.args.sought.result) c.args.sought.may_fail (rest_of arrows)) c.in-Empty.is c.in_ok-find_pair-in-len1-up.ensures.tells in
    IfOk-map _ _ (λ found h. step_taken env kept arrows some c.args.dia.now c.args.sought.args c.args.sought.result c.args.sought.may_fail c.outside.new.dia c.find_pair.new.dia c.within.new.dia c.find_pair-in-len1-up.new.dia c.in_ok-args-in-len1-up.args c.in_ok-result-in-len1-up.result
    c.requires.args c.requires.results c.outside.ensures.extends.keeps to_third.keeps to_new.keeps (sound-keeps env c.args.dia.now c.find_pair.new.dia kept to_second.keeps c.requires.sound) left taken nothing found h)
    c.find_pair-in-len1-up.result c.find_pair-in-len1-up.ensures.tells
