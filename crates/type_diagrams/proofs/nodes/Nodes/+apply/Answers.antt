use Rattle.std.proofs.Common.{sym, subst}
use Rattle.type_diagrams.specs.Tables.{AreNodes, DependBelow}
use Rattle.type_diagrams.specs.Operations.{IsResultOf}
use Rattle.type_diagrams.proofs.Growing.{grows-further, result-here}
use Rattle.type_diagrams.proofs.Steps.{CanFollow-results, node-IsResultOf}
use Rattle.type_diagrams.proofs.Splits.{first-IsBelow}
use Rattle.type_diagrams.proofs.nodes.Nodes.+apply.Goals as goal

pub number-requires : goal.number-requires
number-requires t c =
    let before = c.args.self.now in
    let mid = c.apply.new.self in
    let after = c.apply-2.new.self in
    CanFollow-results before mid after c.args.step c.first_literal-on.result c.followers-left.result.0 c.followers-left.result.1 c.followers-right.result.0 c.followers-right.result.1 c.in_ok-yes.yes c.in_ok-no.no c.first_literal-on.ensures c.followers-left.ensures c.followers-right.ensures c.apply.ensures.grows c.apply-2.ensures.grows
    (subst (λ s. IsResultOf before s mid c.in_ok-yes.yes) c.at.ensures c.in_ok-yes.ensures.made)
    (subst (λ s. IsResultOf mid s after c.in_ok-no.no) c.at-2.ensures c.in_ok-no.ensures.made)

pub remember-requires-clause-result : goal.remember-requires-clause-result
remember-requires-clause-result t c =
    let before = c.args.self.now in
    let mid = c.apply.new.self in
    let after = c.apply-2.new.self in
    let last = c.number.new.self in
    let is = node-IsResultOf before mid after c.args.step c.first_literal-on.result c.followers-left.result.0 c.followers-left.result.1 c.followers-right.result.0 c.followers-right.result.1 c.in_ok-yes.yes c.in_ok-no.no c.first_literal-on.ensures c.followers-left.ensures c.followers-right.ensures c.apply.ensures.grows c.apply-2.ensures.grows
    (subst (λ s. IsResultOf before s mid c.in_ok-yes.yes) c.at.ensures c.in_ok-yes.ensures.made)
    (subst (λ s. IsResultOf mid s after c.in_ok-no.no) c.at-2.ensures c.in_ok-no.ensures.made)
    last c.in_ok-made.made c.in_ok-made.ensures.made in
    result-here before last (grows-further before after last (grows-further before mid after c.apply.ensures.grows c.apply-2.ensures.grows) c.number.ensures.grows) c.args.step c.in_ok-made.made c.requires is

pub returns-clause-made : goal.returns-clause-made
returns-clause-made t c =
    let before = c.args.self.now in
    let mid = c.apply.new.self in
    let after = c.apply-2.new.self in
    let last = c.number.new.self in
    let is = node-IsResultOf before mid after c.args.step c.first_literal-on.result c.followers-left.result.0 c.followers-left.result.1 c.followers-right.result.0 c.followers-right.result.1 c.in_ok-yes.yes c.in_ok-no.no c.first_literal-on.ensures c.followers-left.ensures c.followers-right.ensures c.apply.ensures.grows c.apply-2.ensures.grows
    (subst (λ s. IsResultOf before s mid c.in_ok-yes.yes) c.at.ensures c.in_ok-yes.ensures.made)
    (subst (λ s. IsResultOf mid s after c.in_ok-no.no) c.at-2.ensures c.in_ok-no.ensures.made)
    last c.in_ok-made.made c.in_ok-made.ensures.made in
    subst (λ nodes. IsResultOf before c.args.step nodes c.in_ok-made.made) (sym c.remember.ensures) is

pub returns-in_err-no-clause-atoms : goal.returns-in_err-no-clause-atoms
returns-in_err-no-clause-atoms t c n le h = c.apply-2.ensures.atoms n le (c.apply.ensures.atoms n le h)

pub returns-in_err-made-clause-atoms : goal.returns-in_err-made-clause-atoms
returns-in_err-made-clause-atoms t c n le h =
    c.number.ensures.atoms n (first-IsBelow c.args.self.now (subst AreNodes c.self.view_is c.self.invariant.are) c.args.step.left c.args.step.right c.first_literal-on.result n c.first_literal-on.ensures h) (c.apply-2.ensures.atoms n le (c.apply.ensures.atoms n le h))

pub returns-in_err-remember-clause-atoms : goal.returns-in_err-remember-clause-atoms
returns-in_err-remember-clause-atoms t c n le h =
    subst (DependBelow n) (sym c.remember.ensures) (c.number.ensures.atoms n (first-IsBelow c.args.self.now (subst AreNodes c.self.view_is c.self.invariant.are) c.args.step.left c.args.step.right c.first_literal-on.result n c.first_literal-on.ensures h) (c.apply-2.ensures.atoms n le (c.apply.ensures.atoms n le h)))

pub returns-clause-atoms : goal.returns-clause-atoms
returns-clause-atoms t c n le h =
    subst (DependBelow n) (sym c.remember.ensures) (c.number.ensures.atoms n (first-IsBelow c.args.self.now (subst AreNodes c.self.view_is c.self.invariant.are) c.args.step.left c.args.step.right c.first_literal-on.result n c.first_literal-on.ensures h) (c.apply-2.ensures.atoms n le (c.apply.ensures.atoms n le h)))
