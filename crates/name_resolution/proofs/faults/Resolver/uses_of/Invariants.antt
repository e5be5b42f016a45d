use Rattle.std.proofs.Common.{◌≡◌, take}
use Rattle.std.specs.List.{flat_map}
use Rattle.name_resolution.specs.Reached.{used_by}
use Rattle.name_resolution.proofs.faults.Resolver.uses_of.Given as goal

abbrev pub invariant-loop-mention : goal.invariant-loop-mention
invariant-loop-mention l = l.uses.items ≡ flat_map (used_by l.self.outlines.now l.d.«module») (take l.mention-index l.d.mentions)
