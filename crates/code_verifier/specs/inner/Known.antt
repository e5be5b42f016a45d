-- The type that a kind without sets is asked about as.
use Rattle.type_model.specs.declared.basic.SemType.{SemType}
use Rattle.code_needs.specs.declared.kind.Kind.{Kind}
use Rattle.code_needs.specs.declared.kind.Kind.TheVariants as kind
use Rattle.code_verifier.specs.declared.kind_types.KnownTypes.{KnownTypes}

-- the known type of a kind that has anydata in it
abbrev pub known_of : KnownTypes → Kind → SemType
known_of known kind.Nils = known.anydata
known_of known kind.Booleans = known.anydata
known_of known kind.Integers = known.anydata
known_of known kind.Strings = known.anydata
known_of known kind.Lists = known.anydata
known_of known kind.Mappings = known.anydata
known_of known kind.Errors = known.anydata
known_of known kind.Functions = known.anydata
known_of known kind.Futures = known.anydata
known_of known kind.Anydata = known.anydata
known_of known kind.Sendable = known.sendable
known_of known kind.ImmutableData = known.anydata
known_of known kind.Details = known.anydata
known_of known kind.NilsOrErrors = known.anydata
known_of known kind.MappingsOrNils = known.anydata
known_of known kind.IntegersOrErrors = known.anydata
