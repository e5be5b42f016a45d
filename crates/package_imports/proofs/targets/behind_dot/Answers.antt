use Rattle.std.proofs.Common.{◌∙◌, ◌++◌}
use Rattle.std.specs.Str.{chars}
use Rattle.package_imports.proofs.targets.behind_dot.Goals as goal

pub returns : goal.returns
unfolding chars
returns c =
    c.of.ensures ∙ (c.in_ok-whole.ensures ∙ (λ i. c.as_text-2.ensures i ++ (c.in_ok-rest.ensures ∙ (λ j. c.in_ok-dot.ensures j ++ c.as_text.ensures j)) i))
