use Rattle.type_model.specs.declared.basic.SemType.{SemType}
use Rattle.code_needs.specs.Combining.{each, need}
use Rattle.code_needs.specs.Needs.{FitsFields}
use Rattle.code_needs.specs.RowNeeds.{names_required}
use Rattle.pair_questions.specs.Pairs.{pairs_of}
use Rattle.needs_of_rows.proofs.Finding.{found-then}
use Rattle.needs_of_rows.proofs.structures.members_fit.Goals as goal

pub returns : goal.returns
returns c =
    found-then (each (λ (p : SemType × SemType). need (FitsFields c.args.fields.now c.args.rest.now p)) (pairs_of c.args.pairs.now)) (names_required c.args.fields.now (pairs_of c.args.pairs.now)) _ _ _ c.pairs_fit.ensures c.names_required.ensures
