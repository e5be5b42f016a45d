use Rattle.std.proofs.Common.{sym, subst}
use Rattle.type_model.specs.Defined.{ChoicesBelow}
use Rattle.descriptors.proofs.ChoicesBelow.{choices_with-below}
use Rattle.descriptors.proofs.together.intersection.Goals as goal

pub returns-clause-defined : goal.returns-clause-defined
returns-clause-defined c = λ n hs ht. (
  c.in_ok-sem.ensures.defined n hs.0 ht.0,
  subst (ChoicesBelow n) (sym c.in_ok-lists.ensures) (choices_with-below n c.args.is_readonly c.args.s.lists hs.1),
  subst (ChoicesBelow n) (sym c.in_ok-maps.ensures) (choices_with-below n c.args.is_readonly c.args.s.maps hs.2),
)

pub returns-clause-is : goal.returns-clause-is
returns-clause-is c = λ env. record { shapes = λ x v. c.in_ok-sem.ensures.shapes env x; lists = c.in_ok-lists.ensures; maps = c.in_ok-maps.ensures }
