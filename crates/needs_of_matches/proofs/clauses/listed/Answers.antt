use Rattle.std.proofs.Common.{◌∙◌, subst, sym}
use Rattle.type_model.specs.Defined.{TyBelow}
use Rattle.check_kinds.proofs.Shapes.{plain-below}
use Rattle.needs_of_matches.proofs.ClauseSteps.{first-of}
use Rattle.needs_of_matches.proofs.clauses.listed.Goals as goal

pub returns-clause-is : goal.returns-clause-is
returns-clause-is c = λ env. first-of c.args.patterns.now c.in_ok-sem.sem _ (c.in_ok-new.ensures.ok ∙ c.plain.ensures) c.in_ok-sem.ensures.shapes env

pub returns-clause-below : goal.returns-clause-below
returns-clause-below c = λ n. subst (TyBelow n) (sym (c.in_ok-new.ensures.ok ∙ c.plain.ensures)) (plain-below n c.in_ok-sem.sem (c.in_ok-sem.ensures.defined n))
