use Rattle.std.proofs.Common.{◌≡◌, take}
use Rattle.std.specs.List.{flat_map}
use Rattle.name_resolution.specs.Resolved.{part}
use Rattle.name_resolution.proofs.faults.Resolver.parts_in.Given as goal

abbrev pub invariant-loop-mention : goal.invariant-loop-mention
invariant-loop-mention l = l.parts.items ≡ flat_map (part l.self.outlines.now l.d.«module») (take l.mention-index l.d.mentions)
