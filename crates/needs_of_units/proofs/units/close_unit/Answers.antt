use Rattle.std.proofs.Common.{map, ◌∙◌, ◌++◌, ◌∷◌, [], None, ap, subst, sym}
use Rattle.checks.specs.Checks.{Comes}
use Rattle.check_words.specs.Stands.{Stands}
use Rattle.check_words.specs.State.{State}
use Rattle.check_work.specs.Views.{state_of, unit_of, units_of}
use Rattle.check_work.proofs.Noting.{at-hand}
use Rattle.check_words.proofs.Entering.{unit-stands}
use Rattle.needs_of_units.proofs.Opening.{closed-comes, closed-stands}
use Rattle.needs_of_units.proofs.units.close_unit.Goals as goal

pub returns-clause-stands : goal.returns-clause-stands
returns-clause-stands c = λ env h.
    closed-stands (state_of env c.args.work.now) h _ (unit_of c.in_ok-unit.unit) (at-hand _ _ _ c.in_ok-unit.ensures ∙ ap (λ us. us ++ unit_of c.in_ok-unit.unit ∷ []) c.outer.ensures)

pub returns-clause-below : goal.returns-clause-below
returns-clause-below c = λ env h. unit-stands (state_of env c.args.work.now) h _ (unit_of c.in_ok-unit.unit) (at-hand _ _ _ c.in_ok-unit.ensures)

pub returns-clause-comes : goal.returns-clause-comes
returns-clause-comes c = λ env.
    closed-comes (state_of env c.args.work.now) _ (unit_of c.in_ok-unit.unit) (at-hand _ _ _ c.in_ok-unit.ensures ∙ ap (λ us. us ++ unit_of c.in_ok-unit.unit ∷ []) c.outer.ensures)
