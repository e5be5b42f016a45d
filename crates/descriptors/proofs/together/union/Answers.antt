use Rattle.std.proofs.Common.{sym, subst}
use Rattle.type_model.specs.Defined.{ChoicesBelow}
use Rattle.descriptors.proofs.ChoicesBelow.{with_choices-below}
use Rattle.descriptors.proofs.together.union.Goals as goal

pub returns-clause-defined : goal.returns-clause-defined
returns-clause-defined c = λ n hs ht. (
  c.in_ok-sem.ensures.defined n hs.0 ht.0,
  subst (ChoicesBelow n) (sym c.in_ok-lists.ensures) (with_choices-below n c.args.s.lists c.args.t.lists hs.1 ht.1),
  subst (ChoicesBelow n) (sym c.in_ok-maps.ensures) (with_choices-below n c.args.s.maps c.args.t.maps hs.2 ht.2),
)

pub returns-clause-is : goal.returns-clause-is
returns-clause-is c = λ env. record { shapes = λ x v. c.in_ok-sem.ensures.shapes env x; lists = c.in_ok-lists.ensures; maps = c.in_ok-maps.ensures }
