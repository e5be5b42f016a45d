use Rattle.std.proofs.Common.{refl}
use Rattle.check_words.proofs.Coming.{given, next}
use Rattle.check_work.specs.Views.{state_of}
use Rattle.needs_of_loops.proofs.loops.keep_kind.Goals as goal

pub returns-clause-stands : goal.returns-clause-stands
returns-clause-stands c = λ env own h. c.in_ok-slot.ensures.stands env (c.in_ok-ty.ensures.defined env own) h

pub returns-clause-comes : goal.returns-clause-comes
returns-clause-comes c = λ env own.
    let s = state_of env c.args.work.now in
    next _ _ _ _ _ c.in_ok-ty.ty s (given _ s c.in_ok-ty.ty (c.in_ok-ty.ensures.is env own)) (c.in_ok-slot.ensures.comes env c.in_ok-ty.ty refl)
