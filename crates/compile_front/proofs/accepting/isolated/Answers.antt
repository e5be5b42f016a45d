use Rattle.std.proofs.Common.{◌≡◌, Ok, Err, rules, subst, sym}
use Rattle.compile_front.proofs.FrontSteps.{isolated-goes, isolated-stops}
use Rattle.descriptors.specs.Steps.{AreNames}
use Rattle.compile_front.proofs.accepting.isolated.Goals as goal

pub returns-in-Ok-clause-comes : goal.returns-in-Ok-clause-comes
returns-in-Ok-clause-comes g c =
    let came : c.check_isolated.result ≡ Ok tt = search rules in
    isolated-goes g.T.Types.passes c.args.names c.args.«package» _ _ c.check_isolated.result c.check_isolated.ensures.comes c.planned.result.answer _ came c.planned.ensures.comes

pub returns-in-Err-clause-comes : goal.returns-in-Err-clause-comes
returns-in-Err-clause-comes g c =
    let came : c.check_isolated.result ≡ Err c.in-Err.stop = search rules in
    isolated-stops g.T.Types.passes c.args.names c.args.«package» _ _ c.check_isolated.result c.check_isolated.ensures.comes c.in-Err.stop came

pub planned-requires-clause-names : goal.planned-requires-clause-names
planned-requires-clause-names g c = subst (λ env. AreNames env c.args.names) (sym c.check_isolated.ensures.atoms) c.requires.names
