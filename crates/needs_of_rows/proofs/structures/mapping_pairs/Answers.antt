use Rattle.std.proofs.Common.{Option}
use Rattle.type_model.specs.declared.atoms.AtomDef.{AtomDef}
use Rattle.code_needs.specs.Combining.{of_mapping}
use Rattle.code_needs.specs.RowNeeds.{what_pairs_need}
use Rattle.pair_questions.specs.Pairs.{pairs_of}
use Rattle.needs_of_rows.proofs.Finding.{found-missing, found-there}
use Rattle.needs_of_rows.proofs.structures.mapping_pairs.Goals as goal

pub returns-in-Some : goal.returns-in-Some
returns-in-Some c = found-there (λ (o : Option AtomDef). of_mapping o (λ fields rest. what_pairs_need fields rest (pairs_of c.args.pairs.now))) c.args.def c.in-Some.def _ _ c.in-Some.is c.pairs_of_mapping.ensures

pub returns-in-None : goal.returns-in-None
returns-in-None c = found-missing (λ (o : Option AtomDef). of_mapping o (λ fields rest. what_pairs_need fields rest (pairs_of c.args.pairs.now))) c.args.def _ _ c.in-None.is c.refuse.ensures
