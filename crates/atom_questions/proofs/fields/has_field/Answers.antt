use Rattle.std.proofs.Common.{◌≡◌, length, subst, sym}
use Rattle.type_model.specs.declared.basic.SemType.{Atom}
use Rattle.type_model.specs.Calls.{Without}
use Rattle.type_model.proofs.Kept.{KeepsTypes-same}
use Rattle.atom_questions.specs.Added.{IsFieldDef}
use Rattle.atom_questions.proofs.FieldAtoms.{field-answered, field-below, field-distinct}
use Rattle.atom_questions.proofs.Stops.{more-on, stops-on}
use Rattle.atom_questions.proofs.fields.has_field.Goals as goal

pub is_in_atom-requires-clause-named : goal.is_in_atom-requires-clause-named
is_in_atom-requires-clause-named g c = field-below c.args.name.now c.in-Ok.def c.in-Ok.ensures (length (g.T.Types.atoms c.args.types.now))

pub is_in_atom-requires-clause-distinct : goal.is_in_atom-requires-clause-distinct
is_in_atom-requires-clause-distinct g c = field-distinct c.args.name.now c.in-Ok.def c.in-Ok.ensures

pub returns-in-Ok-clause-added : goal.returns-in-Ok-clause-added
returns-in-Ok-clause-added g c =
    more-on (g.T.Types.atoms c.args.types.now) (λ d. d ≡ c.in-Ok.def) (IsFieldDef c.args.name.now) (λ d e. subst (IsFieldDef c.args.name.now) (sym e) c.in-Ok.ensures) _ c.is_in_atom.ensures.added

pub returns-in-Ok-clause-answers : goal.returns-in-Ok-clause-answers
returns-in-Ok-clause-answers g c =
    field-answered c.args.name.now c.in-Ok.def c.in-Ok.ensures (g.T.Types.atoms c.args.types.now) c.args.m.now c.requires c.is_in_atom.result c.is_in_atom.ensures.answer

pub returns-in-Ok-clause-limit : goal.returns-in-Ok-clause-limit
returns-in-Ok-clause-limit g c =
    let old = g.T.Types.atoms c.args.types.now in
    stops-on g.T.Types.passes old c.in-Ok.def (λ d. d ≡ c.in-Ok.def) (λ env asked. asked ≡ Without c.args.m.now (Atom (length old)))
    (IsFieldDef c.args.name.now) (λ d e. subst (IsFieldDef c.args.name.now) (sym e) c.in-Ok.ensures) c.is_in_atom.result c.is_in_atom.ensures.limit

pub returns-in-Err-clause-kept : goal.returns-in-Err-clause-kept
returns-in-Err-clause-kept g c = KeepsTypes-same (g.T.Types.atoms c.args.types.now)
