use Rattle.std.specs.Prelude.{◌≡◌, take}
use Rattle.plain_run.proofs.frames.share_all.Given as goal

abbrev pub invariant-loop-v : goal.invariant-loop-v
invariant-loop-v l = l.shared.items ≡ take l.v-index l.values
