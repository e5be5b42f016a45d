use Rattle.std.proofs.Common.{◌≡◌, length, subst, sym}
use Rattle.type_model.specs.declared.basic.Ty.{Ty}
use Rattle.type_model.specs.Defined.{TyBelow}
use Rattle.check_work.specs.Views.{state_of}
use Rattle.check_work.proofs.Making.{strict-made, strict-stands}
use Rattle.needs_of_made_calls.proofs.makers.make_strict.Goals as goal

pub returns-clause-stands : goal.returns-clause-stands
returns-clause-stands c = λ env below h.
    strict-stands c.args.form c.args.count c.in_ok-ty.ty c.args.at (state_of env c.args.work.now) _ c.in_ok-gather.ensures h
    (subst (λ (t : Ty). TyBelow (length env) t) (sym c.in_ok-ty.ensures.ok) below)

pub returns-clause-comes : goal.returns-clause-comes
returns-clause-comes c = λ env.
    strict-made c.args.form c.args.count c.in_ok-ty.ty c.args.at (state_of env c.args.work.now) _ c.in_ok-gather.ensures (λ e t. t ≡ c.args.ty) c.in_ok-ty.ensures.ok
