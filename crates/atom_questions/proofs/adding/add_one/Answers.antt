use Rattle.std.proofs.Common.{All, List, [], subst, sym}
use Rattle.std.proofs.lemmas.List.Elements.{All-cons, All-nil}
use Rattle.bal_base.specs.Stops.{IfFault}
use Rattle.type_model.specs.declared.atoms.AtomDef.{AtomDef}
use Rattle.type_model.specs.Defined.{IsDefinedGroup}
use Rattle.type_model.specs.Places.{HasDistinctFields}
use Rattle.type_model.proofs.DefinedLaws.{IsDefinedGroup-one}
use Rattle.type_model.proofs.Kept.{KeepsTypes-same}
use Rattle.atom_questions.specs.inner.Stopping.{TooManyAtoms}
use Rattle.atom_questions.proofs.adding.add_one.Goals as goal

pub add_defs-requires-clause-named : goal.add_defs-requires-clause-named
add_defs-requires-clause-named g c =
    let env = g.T.Types.atoms c.args.types.now in subst (λ (ds : List AtomDef). IsDefinedGroup env ds) (sym c.in-Ok.ensures) (IsDefinedGroup-one env c.args.def c.requires.named)

pub add_defs-requires-clause-distinct : goal.add_defs-requires-clause-distinct
add_defs-requires-clause-distinct g c = subst (λ (ds : List AtomDef). All HasDistinctFields ds) (sym c.in-Ok.ensures) (All-cons HasDistinctFields c.args.def [] c.requires.distinct (All-nil HasDistinctFields))

pub returns-in-Ok-clause-limit : goal.returns-in-Ok-clause-limit
returns-in-Ok-clause-limit g c = subst (λ (ds : List AtomDef). IfFault c.add_defs.result (TooManyAtoms (g.T.Types.atoms c.args.types.now) ds)) c.in-Ok.ensures c.add_defs.ensures.limit

pub returns-in-Err-clause-kept : goal.returns-in-Err-clause-kept
returns-in-Err-clause-kept g c = KeepsTypes-same (g.T.Types.atoms c.args.types.now)
