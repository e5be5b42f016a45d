use Rattle.needs_of_operators.proofs.CheckedParts.{put-back}
use Rattle.needs_of_operators.proofs.errors.put_check.Goals as goal

pub returns : goal.returns
returns c =
    record {
      part = c.in_ok-part.part;
      e = c.in_ok-whole.whole;
      last = c.in_ok-part.ensures.part;
      is_made = c.in_ok-whole.ensures;
      after = put-back _ _ _ c.in_ok-whole.whole c.in_ok-push.ensures.items c.in_ok-part.ensures.kept;
    }
