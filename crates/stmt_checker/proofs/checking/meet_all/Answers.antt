use Rattle.stmt_checker.proofs.checking.meet_all.Goals as goal

pub package-requires : goal.package-requires
package-requires g c = c.requires

pub returns-clause-stands : goal.returns-clause-stands
returns-clause-stands g c = c.package.ensures.stands

pub returns-clause-met : goal.returns-clause-met
returns-clause-met g c = c.package.ensures.met
