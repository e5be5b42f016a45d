use Rattle.std.proofs.Common.{refl}
use Rattle.descriptors.proofs.together.optional.Goals as goal

pub returns-clause-is : goal.returns-clause-is
returns-clause-is c = λ env. record { shapes = λ x v. c.in_ok-sem.ensures.shapes env x; lists = refl; maps = refl }

pub returns-clause-defined : goal.returns-clause-defined
returns-clause-defined c = λ n h. (c.in_ok-sem.ensures.defined n h.0 tt, h.1, h.2)
