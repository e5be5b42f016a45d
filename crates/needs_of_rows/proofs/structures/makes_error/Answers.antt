use Rattle.type_model.specs.declared.basic.SemType.{SemType}
use Rattle.std.specs.Option.{option_copied}
use Rattle.code_needs.specs.Combining.{◌&◌, each, need, of_some}
use Rattle.code_needs.specs.Needs.{HasErrorsOf}
use Rattle.code_needs.specs.declared.kind.Kind.TheVariants.{ImmutableData, NilsOrErrors, Strings}
use Rattle.code_needs.specs.RowNeeds.{within}
use Rattle.pair_questions.specs.Pairs.{pairs_of}
use Rattle.needs_of_rows.proofs.Finding.{found-split, found-then}
use Rattle.needs_of_rows.proofs.structures.makes_error.Goals as goal

pub returns : goal.returns
returns c =
    found-split (within c.args.message.now Strings) (within c.args.cause.now NilsOrErrors) (each (λ (p : SemType × SemType). within p.0 Strings & within p.1 ImmutableData) (pairs_of c.args.pairs.now) & of_some (option_copied c.args.given) (λ r. need (HasErrorsOf r (pairs_of c.args.pairs.now)))) _ _ _ c.both_within.ensures
    (found-then (each (λ (p : SemType × SemType). within p.0 Strings & within p.1 ImmutableData) (pairs_of c.args.pairs.now)) (of_some (option_copied c.args.given) (λ r. need (HasErrorsOf r (pairs_of c.args.pairs.now)))) _ _ _ c.details.ensures c.has_errors.ensures)
