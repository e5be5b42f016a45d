use Rattle.std.proofs.Common.{Err, Ok, subst, sym}
use Rattle.type_model.specs.declared.answers.Keys.TheVariants.{AnyIndex}
use Rattle.type_model.specs.declared.basic.Ty.{Ty}
use Rattle.type_model.specs.Defined.{IsDefined}
use Rattle.check_kinds.specs.Over.{ComesOver}
use Rattle.check_words.specs.Members.{member_at}
use Rattle.check_words.specs.Words.{Atoms}
use Rattle.needs_of_made_calls.proofs.Expecting.{below-over, member-stops, member-then}
use Rattle.needs_of_made_calls.proofs.expected.stored.Goals as goal

pub member_at-requires : goal.member_at-requires
member_at-requires g c = subst (λ (t : Ty). IsDefined (g.T.Types.atoms c.args.types.now) t.sem) (sym c.deref.ensures) c.requires.0

pub of_items-requires : goal.of_items-requires
of_items-requires g c = subst (λ (e : Atoms). IsDefined e c.in-Ok.member) (sym c.member_at.ensures.atoms) c.in-Ok.ensures.defined

pub returns-in-Ok-clause-below : goal.returns-in-Ok-clause-below
returns-in-Ok-clause-below g c = below-over _ _ c.of_items.result c.member_at.ensures.atoms c.of_items.ensures.below

pub returns-in-Ok-clause-wants : goal.returns-in-Ok-clause-wants
returns-in-Ok-clause-wants g c =
    let old = g.T.Types.atoms c.args.types.now in
    let new = g.T.Types.atoms c.member_at.new.types in
    member-then g.T.Types.passes c.args.at old new c.args.container.now c.in-Ok.member c.of_items.result
    (subst (λ (t : Ty). ComesOver (member_at g.T.Types.passes t.sem AnyIndex c.args.at) old (Ok c.in-Ok.member) new) c.deref.ensures c.in-Ok.ensures.comes) c.of_items.ensures.wants

pub returns-clause-wants : goal.returns-clause-wants
returns-clause-wants g c =
    let old = g.T.Types.atoms c.args.types.now in
    let new = g.T.Types.atoms c.member_at.new.types in
    member-stops g.T.Types.passes c.args.at old new c.args.container.now c.in-Err.stop
    (subst (λ (t : Ty). ComesOver (member_at g.T.Types.passes t.sem AnyIndex c.args.at) old (Err c.in-Err.stop) new) c.deref.ensures c.in-Err.ensures.comes)
