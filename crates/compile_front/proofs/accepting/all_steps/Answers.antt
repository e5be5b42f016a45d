use Rattle.std.proofs.Common.{◌≡◌, Err, false, rules, subst, sym, true, ◌∙◌}
use Rattle.bal_base.specs.declared.stop.Stop.TheVariants.{Fault as OwnFault}
use Rattle.checks.specs.Checks.{Comes}
use Rattle.compile_front.specs.Front.{front_of}
use Rattle.compile_front.specs.Mains.{has_main}
use Rattle.compile_front.proofs.FrontSteps.{main-goes, main-lacks}
use Rattle.compile_front.proofs.accepting.all_steps.Goals as goal

pub returns-then-not-has_main-clause-comes : goal.returns-then-not-has_main-clause-comes
returns-then-not-has_main-clause-comes g c =
    let p = c.args.«package».now in
    let atoms = g.T.Types.atoms c.args.types in
    subst (λ f. Comes (front_of g.T.Types.passes p) atoms (Err (OwnFault f)) atoms) (sym c.no_main.ensures)
    (main-lacks g.T.Types.passes p atoms (sym c.has_main.ensures ∙ c.if-not-has_main.true))

pub returns-clause-comes : goal.returns-clause-comes
returns-clause-comes g c =
    main-goes g.T.Types.passes c.args.«package».now c.named.result.answer _ _ (sym c.has_main.ensures ∙ c.if-not-has_main.false) c.named.ensures.comes
