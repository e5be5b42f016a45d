use Rattle.std.proofs.Common.{refl}
use Rattle.check_work.specs.Views.{choice_of}
use Rattle.check_work.proofs.Noting.{mapped-last}
use Rattle.needs_of_values.proofs.truths.leave.Goals as goal

pub returns : goal.returns
returns c =
    record {
      unit = c.in_ok-own.own;
      was = c.in_ok-own.ensures;
      here = c.enter.new.self;
      is = refl;
      choice = choice_of c.in_ok-choice.choice;
      closed = mapped-last choice_of _ _ _ c.in_ok-choice.ensures;
      before = c.in_ok-_after.ensures.entered;
      same = c.in_ok-ways.ensures;
      other = refl;
    }
