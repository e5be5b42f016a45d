use Rattle.std.proofs.Common.{ap}
use Rattle.std.specs.Str.Iter.{chars_rest}
use Rattle.shared_string.proofs.Behind.{behind-first}
use Rattle.shared_string.proofs.counted.behind_first.Goals as goal

pub returns : goal.returns
returns c =
    behind-first c.args.text.now c.as_str.result.now _ _ c.next.result c.utf8.text c.as_str.utf8 c.chars-left.ensures.rest c.as_str.ensures (λ e. ap chars_rest e) c.next.ensures.steps.0
