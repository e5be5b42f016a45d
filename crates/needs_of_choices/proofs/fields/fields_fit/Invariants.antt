use Rattle.std.proofs.Common.{◌≡◌, List, length}
use Rattle.type_model.specs.declared.atoms.FieldDef.{FieldDef}
use Rattle.check_words.specs.Words.{sem}
use Rattle.needs_of_choices.specs.ByKeys.{IsFieldsOf}
use Rattle.needs_of_choices.proofs.FieldByField.{AreLeft}
use Rattle.needs_of_choices.proofs.fields.fields_fit.Given as goal

abbrev pub invariant-loop-place : goal.invariant-loop-place
invariant-loop-place g l =
    (g.T.Types.atoms l.types ≡ g.T.Types.atoms l.initial.types)
    × ((fields : List FieldDef) → IsFieldsOf (g.T.Types.atoms l.initial.types) l.member.atom fields → l.count ≡ length fields
    → AreLeft g.T.Types.passes (sem l.member.key.now) l.member.value.now l.member.at fields (g.T.Types.atoms l.initial.types) l.place)
