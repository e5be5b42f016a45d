use Rattle.std.proofs.Common.{ap, map}
use Rattle.check_work.specs.Views.{constructor_of, state_of}
use Rattle.needs_of_structures.proofs.members.take_member.Goals as goal

pub returns : goal.returns
returns c = λ env.
    record {
      changed = c.in_ok-add_member.ensures;
      after = ap (λ ws. record (state_of env c.args.work.now) { constructors = map constructor_of c.add_member.new.constructors.items; wants = ws }) c.drop_last.ensures;
    }
