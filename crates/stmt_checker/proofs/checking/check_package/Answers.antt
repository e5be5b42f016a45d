use Rattle.std.proofs.Common.{refl, subst}
use Rattle.checks.proofs.Steps.{ran_out}
use Rattle.descriptors.specs.Steps.{AreNames}
use Rattle.type_model.specs.Defined.{IsEnv}
use Rattle.check_answers.proofs.Itself.{agrees-with}
use Rattle.check_work.specs.Views.{state_of}
use Rattle.all_needs.proofs.Named.{it-holds}
use Rattle.stmt_checker.proofs.Begun.{first-holds}
use Rattle.stmt_checker.proofs.Ended.{names-stay, package-ended, stands-still}
use Rattle.stmt_checker.proofs.Typed.{answer-typed}
use Rattle.stmt_checker.proofs.checking.check_package.Goals as goal

pub returns-in-Err-clause-comes : goal.returns-in-Err-clause-comes
returns-in-Err-clause-comes g c = ran_out _ _ _

pub returns-in-Err-clause-only : goal.returns-in-Err-clause-only
returns-in-Err-clause-only g c = λ o behind h. tt

pub meet-requires : goal.meet-requires
meet-requires g c =
    let env = g.T.Types.atoms c.args.types in
    first-holds env c.args.package.now c.args.names.now c.in-Ok.work c.requires (c.in-Ok.ensures env)

pub returns-clause-comes : goal.returns-clause-comes
returns-clause-comes g c =
    let env = g.T.Types.atoms c.args.types in
    let last = c.meet.new.all.meets.checker in
    let behind = g.T.Types.atoms last.types in
    package-ended g.T.Types.passes c.args.names.now c.args.package.now env behind last.names.now c.in-Ok.work last.work c.answer.result (c.in-Ok.ensures env)
    c.meet.ensures.met (c.answer.ensures behind c.args.package.now refl)

pub returns-clause-names : goal.returns-clause-names
returns-clause-names g c =
    let env = g.T.Types.atoms c.args.types in
    let last = c.meet.new.all.meets.checker in
    let behind = g.T.Types.atoms last.types in
    stands-still c.args.names.now c.args.package.now (state_of behind last.work) (AreNames behind c.args.names.now) last.work.stop c.answer.result
    (c.answer.ensures behind c.args.package.now refl)
    (λ none.
    subst (λ names. AreNames behind names)
    (names-stay g.T.Types.passes c.args.names.now c.args.package.now env behind last.names.now c.in-Ok.work last.work (c.in-Ok.ensures env) none c.meet.ensures.met)
    (it-holds behind last.names.now last.work c.meet.ensures.stands none).0)

pub returns-clause-only : goal.returns-clause-only
returns-clause-only g c = λ o behind h.
    let env = g.T.Types.atoms c.args.types in
    let last = c.meet.new.all.meets.checker in
    agrees-with g.T.Types.passes c.args.names.now c.args.package.now env (subst IsEnv c.env.ensures c.defs-atoms.ensures.env) c.requires o behind c.answer.result
    (g.T.Types.atoms last.types) h (returns-clause-comes g c)

pub returns-clause-typed : goal.returns-clause-typed
returns-clause-typed g c =
    answer-typed g.T.Types.passes c.args.names.now c.args.package.now (g.T.Types.atoms c.args.types) (g.T.Types.atoms c.meet.new.all.meets.checker.types)
    c.answer.result (subst IsEnv c.env.ensures c.defs-atoms.ensures.env) c.requires (returns-clause-comes g c)
