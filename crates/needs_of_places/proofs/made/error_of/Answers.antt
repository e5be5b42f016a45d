use Rattle.std.proofs.Common.{List, Option}
use Rattle.std.specs.Option.{option_copied}
use Rattle.type_model.specs.declared.basic.SemType.{SemType}
use Rattle.pair_questions.specs.declared.pair.Pair.{Pair}
use Rattle.pair_questions.specs.Pairs.{pairs_of}
use Rattle.code_needs.specs.Combining.{◌&◌, each, need, of_some}
use Rattle.code_needs.specs.declared.kind.Kind.TheVariants.{ImmutableData, NilsOrErrors, Strings}
use Rattle.code_needs.specs.Needs.{HasErrorsOf}
use Rattle.code_needs.specs.RowNeeds.{within}
use Rattle.needs_of_rows.proofs.Finding.{found-missing, found-there}
use Rattle.needs_of_places.proofs.made.error_of.Goals as goal

pub returns-in-Some : goal.returns-in-Some
returns-in-Some c = found-there (λ (o : Option (List Pair)). of_some o (λ ps. within c.args.message.now Strings & within c.args.cause.now NilsOrErrors & each (λ (p : SemType × SemType). within p.0 Strings & within p.1 ImmutableData) (pairs_of ps) & of_some (option_copied c.args.given) (λ r. need (HasErrorsOf r (pairs_of ps))))) c.args.pairs c.in-Some.pairs _ _ c.in-Some.is c.makes_error.ensures

pub returns-in-None : goal.returns-in-None
returns-in-None c = found-missing (λ (o : Option (List Pair)). of_some o (λ ps. within c.args.message.now Strings & within c.args.cause.now NilsOrErrors & each (λ (p : SemType × SemType). within p.0 Strings & within p.1 ImmutableData) (pairs_of ps) & of_some (option_copied c.args.given) (λ r. need (HasErrorsOf r (pairs_of ps))))) c.args.pairs _ _ c.in-None.is c.refuse.ensures
