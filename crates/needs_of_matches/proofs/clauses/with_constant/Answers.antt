use Rattle.std.proofs.Common.{◌≡◌, ◌⊎◌, ◌↔◌, subst, sym}
use Rattle.operations.specs.Rows.{shape_of}
use Rattle.type_model.specs.declared.basic.BasicSet.{BasicSet}
use Rattle.type_model.specs.declared.basic.SemType.{SemType}
use Rattle.type_model.specs.Basic.{InBasic}
use Rattle.type_model.specs.Membership.{In}
use Rattle.type_model.proofs.Same.{either, itself}
use Rattle.check_kinds.proofs.Shapes.{single-set}
use Rattle.needs_of_matches.proofs.clauses.with_constant.Goals as goal

pub returns-clause-shapes : goal.returns-clause-shapes
returns-clause-shapes c = λ env x.
    subst (λ (s : SemType). (In env x s ⊎ In env x c.in_ok-set.set.value) ↔ (In env x c.args.sem ⊎ (x ≡ shape_of c.args.c.now))) (sym c.in_ok-sem.ensures.ok)
    (subst (λ (s : SemType). (In env x c.args.sem ⊎ In env x s) ↔ (In env x c.args.sem ⊎ (x ≡ shape_of c.args.c.now))) (sym c.in_ok-set.ensures.ok)
    (subst (λ (b : BasicSet). (In env x c.args.sem ⊎ InBasic x b) ↔ (In env x c.args.sem ⊎ (x ≡ shape_of c.args.c.now))) (sym c.constant_set.ensures)
    (either itself (single-set c.args.c.now x))))
