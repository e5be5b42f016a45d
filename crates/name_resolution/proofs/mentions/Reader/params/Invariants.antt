use Rattle.std.proofs.Common.{◌≡◌, take, fold}
use Rattle.name_resolution.specs.Mentions.{sources}
use Rattle.name_resolution.specs.Outlines.{param_mentions}
use Rattle.name_resolution.proofs.mentions.Reader.params.Given as goal

abbrev pub invariant-loop-p : goal.invariant-loop-p
invariant-loop-p l = l.out.items ≡ fold (param_mentions l.self.«module» (sources l.self.file.now)) l.initial.out.items (take l.p-index l.params)
