-- Constants that names in patterns stand for.
use Rattle.bal_base.specs.declared.fault.FaultCode.TheVariants.{NameAsValue, Unknown}
use Rattle.bal_base.specs.declared.place.Place.{Place}
use Rattle.checks.specs.Checks.{Check, gives, ◌▷◌}
use Rattle.descriptors.specs.declared.names.Meaning.{Meaning}
use Rattle.descriptors.specs.declared.names.Meaning.TheVariants as meaning
use Rattle.descriptors.specs.declared.names.Names.{Names}
use Rattle.bal_tree.specs.declared.name.QualifiedName.{QualifiedName}
use Rattle.operations.specs.declared.operation.Constant.{Constant}
use Rattle.check_words.specs.Branches.{seen_pattern}
use Rattle.check_words.specs.Seen.{Seen, SeenVariable, SeenWorker, SeenConstant, SeenLibrary, SeenMeaning, SeenNothing, looks_up}
use Rattle.check_words.specs.State.{State}
use Rattle.check_words.specs.Values.{constant_in}
use Rattle.check_words.specs.Words.{Step, fails}

abbrev pub meaning_constant : Meaning → Place → Check State Constant
meaning_constant (meaning.Constant t) at = constant_in t
meaning_constant (meaning.TypeName t) at = fails Unknown at
meaning_constant (meaning.Variable number final t) at = fails Unknown at
meaning_constant (meaning.Function f) at = fails Unknown at

abbrev pub seen_constant : Seen → Place → Check State Constant
seen_constant (SeenVariable v) at = fails Unknown at
seen_constant (SeenWorker w) at = fails NameAsValue at
seen_constant (SeenConstant c) at = gives c
seen_constant (SeenLibrary r) at = fails Unknown at
seen_constant (SeenMeaning m) at = meaning_constant m at
seen_constant (SeenNothing code) at = fails code at

abbrev pub named_constant : Names → QualifiedName → Check State Constant
named_constant names q = looks_up names q ▷ λ seen. seen_constant seen q.at

-- a name in a pattern
abbrev pub named_pattern : Names → QualifiedName → Step
named_pattern names q = looks_up names q ▷ λ seen. seen_pattern seen q.at
