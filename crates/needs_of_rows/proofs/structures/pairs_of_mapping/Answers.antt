use Rattle.std.proofs.Common.{List, Some, subst}
use Rattle.type_model.specs.declared.atoms.AtomDef.{AtomDef}
use Rattle.type_model.specs.declared.atoms.FieldDef.{FieldDef}
use Rattle.code_needs.specs.Combining.{of_mapping}
use Rattle.code_needs.specs.RowNeeds.{what_pairs_need}
use Rattle.pair_questions.specs.Pairs.{pairs_of}
use Rattle.needs_of_rows.specs.Finding.{Finds}
use Rattle.needs_of_rows.proofs.Finding.{found-where}
use Rattle.needs_of_rows.proofs.structures.pairs_of_mapping.Goals as goal

pub returns-in-Mapping : goal.returns-in-Mapping
returns-in-Mapping c =
    found-where (λ (d : AtomDef). of_mapping (Some d) (λ fields rest. what_pairs_need fields rest (pairs_of c.args.pairs.now))) c.args.def.now _ _ _ c.in-Mapping.is
    (subst (λ (fs : List FieldDef). Finds (what_pairs_need fs c.in-Mapping.rest (pairs_of c.args.pairs.now)) c.args.found.now c.members_fit.new.found) c.as_slice.ensures c.members_fit.ensures)
