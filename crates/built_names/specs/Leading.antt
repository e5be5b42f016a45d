-- The names that are built for a package lead to its definitions, and what takes the rest of a function's arguments is of its lists.
use Rattle.std.specs.Prelude.{◌++◌}
use Rattle.bal_tree.specs.declared.package.Package.{Package}
use Rattle.descriptors.specs.Described.{Atoms}
use Rattle.descriptors.specs.Steps.{AreNames}
use Rattle.descriptors.specs.declared.names.Names.{Names}
use Rattle.descriptors.specs.declared.names.OwnTypes.{OwnTypes}
use Rattle.type_builder.specs.Building.{AreNamesOf}
use Rattle.type_model.specs.Defined.{IsEnv}
use Rattle.typed_packages.specs.Naming.{NamesLead, RestsAreLists}

abbrev pub BuiltNamesLead : Type 0
BuiltNamesLead = (p : Package) (own : OwnTypes) (old group : Atoms) (names : Names) → AreNamesOf p own old group names → NamesLead names p

-- also over atoms that come later
abbrev pub BuiltRestsAreLists : Type 0
BuiltRestsAreLists =
    (p : Package) (own : OwnTypes) (old group more : Atoms) (names : Names) → AreNamesOf p own old group names → AreNames (old ++ group) names → IsEnv (old ++ group)
    → RestsAreLists ((old ++ group) ++ more) names
