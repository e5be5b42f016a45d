use Rattle.std.proofs.Common.{◌≡◌, map}
use Rattle.package_making.specs.Making.{numbered}
use Rattle.module_loader.specs.Packages.{graph_from}
use Rattle.module_loader.proofs.linking.graph.Given as goal

abbrev pub invariant-loop-number : goal.invariant-loop-number
invariant-loop-number l = map (λ v. v.items) l.next.items ≡ graph_from l.home (numbered l.numbers 0 l.read) 0 l.number
