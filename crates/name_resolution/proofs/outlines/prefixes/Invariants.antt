use Rattle.std.proofs.Common.{◌≡◌, take}
use Rattle.bal_base.specs.declared.text.Name.{Name}
use Rattle.descriptors.specs.Naming.{file_source}
use Rattle.name_resolution.specs.Outlines.{import_source}
use Rattle.name_resolution.proofs.outlines.prefixes.Given as goal

abbrev pub invariant-loop-import : goal.invariant-loop-import
invariant-loop-import l = (q : Name) → file_source q l.names ≡ import_source l.home (take l.import-index l.imports) q
