use Rattle.std.proofs.Common.{◌∙◌, ◌++◌, ◌∷◌, [], ap}
use Rattle.needs_of_values.proofs.truths.one_of.Goals as goal

pub returns : goal.returns
returns c =
    record {
      a = c.in_ok-left.left;
      b = c.in_ok-left.right;
      e = c.in_ok-whole.whole;
      last = c.in_ok-left.ensures.parts;
      made = c.in_ok-whole.ensures;
      after = c.in_ok-push.ensures.items ∙ ap (λ es. es ++ c.in_ok-whole.whole ∷ []) c.in_ok-left.ensures.kept;
    }
