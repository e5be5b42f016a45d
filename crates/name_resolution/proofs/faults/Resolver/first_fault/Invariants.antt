use Rattle.std.proofs.Common.{◌≡◌, drop}
use Rattle.name_resolution.specs.Resolved.{first_fault}
use Rattle.name_resolution.proofs.faults.Resolver.first_fault.Given as goal

abbrev pub invariant-loop-mention : goal.invariant-loop-mention
invariant-loop-mention l = first_fault l.self.outlines.now l.number l.d (drop l.mention-index l.d.mentions) ≡ first_fault l.self.outlines.now l.number l.d l.d.mentions
