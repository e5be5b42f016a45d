use Rattle.type_model.specs.declared.basic.SemType.{SemType}
use Rattle.std.specs.Option.{option_copied}
use Rattle.code_needs.specs.Combining.{each, need, of_mapping, of_some}
use Rattle.code_needs.specs.Needs.{HasMade}
use Rattle.code_needs.specs.declared.kind.Kind.TheVariants.{Strings}
use Rattle.code_needs.specs.RowNeeds.{may_stand, what_pairs_need, within}
use Rattle.pair_questions.specs.Pairs.{pairs_of}
use Rattle.needs_of_rows.proofs.Finding.{found-four}
use Rattle.needs_of_rows.proofs.structures.makes_mapping.Goals as goal

pub returns : goal.returns
returns c =
    found-four (each (λ (p : SemType × SemType). within p.0 Strings) (pairs_of c.args.pairs.now)) (of_mapping (option_copied c.args.def) (λ fields rest. what_pairs_need fields rest (pairs_of c.args.pairs.now))) (each (λ (p : SemType × SemType). may_stand c.args.making.immutable p.1) (pairs_of c.args.pairs.now)) (of_some (option_copied c.args.given) (λ r. need (HasMade r c.args.making.atom c.args.making.immutable))) _ _ _ _ _
    c.string_keys.ensures c.mapping_pairs.ensures c.values_stand.ensures c.has_made.ensures
