use denote.Text.{Utf8}
use denote.Shadow.{shadow}
use Rattle.shared_string.specs.Behind.{IsBehind}
use Rattle.shared_string.proofs.counted.behind.Given as goal

abbrev pub invariant-loop-passed : goal.invariant-loop-passed
invariant-loop-passed l = shadow (Utf8 l.left) × IsBehind l.text l._passed l.left
