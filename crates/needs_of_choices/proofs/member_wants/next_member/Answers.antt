use Rattle.std.proofs.Common.{Option, map}
use Rattle.descriptors.proofs.Yielding.{weaker}
use Rattle.typed_tree.specs.SharedTypes.{Shared}
use Rattle.check_words.specs.Constructors.{IsMemberWant}
use Rattle.check_words.specs.State.{ConstructorAtWork, IsLast}
use Rattle.check_work.specs.Views.{constructor_of}
use Rattle.check_work.proofs.Noting.{mapped-last}
use Rattle.needs_of_choices.proofs.member_wants.next_member.Goals as goal

pub returns-in-Some : goal.returns-in-Some
returns-in-Some c = let last = c.in-Some.ensures in
    weaker c.member_want.result (IsMemberWant c.args.defs.now (constructor_of c.in-Some.c.now))
    (λ (w : Option Shared). (d : ConstructorAtWork) × IsLast (map constructor_of c.args.constructors.now) d × IsMemberWant c.args.defs.now d w) c.member_want.ensures
    (λ w want. (constructor_of c.in-Some.c.now, record { kept = map constructor_of last.kept; is = mapped-last constructor_of c.args.constructors.now last.kept c.in-Some.c.now last.is }, want))
