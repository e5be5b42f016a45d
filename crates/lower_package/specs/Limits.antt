-- When a package has too many nodes.
use Rattle.std.specs.Prelude.{◌≡◌, ◌<◌, None, Result, Ok, Err, ⊤}
use Rattle.bal_base.specs.declared.fault.Fault.{Fault}
use Rattle.bal_base.specs.declared.fault.FaultCode.TheVariants.{CodeLimit}
use Rattle.bal_base.specs.declared.fault.Kept.TheVariants.{Count}
use Rattle.bal_base.specs.declared.stop.Stop.{Stop}
use Rattle.bal_base.specs.declared.stop.Stop.TheVariants.{Memory, Fault as StopsFor}
use Rattle.typed_tree.specs.declared.package.TypedPackage.{TypedPackage}
use Rattle.typed_tree.specs.Nodes.{node_count}

abbrev pub PassesNodes : TypedPackage → Type 0
PassesNodes p = 1048576 < node_count p

-- the fault is that of a package that has too many nodes, and shows how many it has
abbrev pub IsCodeLimit : TypedPackage → Fault → Type 0
IsCodeLimit p f = (f.code ≡ CodeLimit) × (f.at ≡ None) × (f.kept ≡ Count (node_count p))

-- the call stopped for a fault
abbrev pub IsRefused : {T F : Type 0} → Result T (Stop F) → Type 0
IsRefused (Ok x) = ⊥
IsRefused (Err Memory) = ⊥
IsRefused (Err (StopsFor f)) = ⊤
