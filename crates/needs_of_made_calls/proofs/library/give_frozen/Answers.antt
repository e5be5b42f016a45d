use Rattle.std.proofs.Common.{Ok, OnOk, length, subst, sym}
use Rattle.checks.specs.Checks.{Comes}
use Rattle.check_words.specs.Calls.{clones_readonly}
use Rattle.check_words.specs.Stands.{SharedBelow}
use Rattle.check_words.specs.Words.{Atoms}
use Rattle.check_work.specs.Views.{state_of}
use Rattle.needs_of_made_calls.proofs.Answering.{stands-over}
use Rattle.needs_of_made_calls.proofs.Giving.{frozen-given}
use Rattle.needs_of_made_calls.proofs.library.give_frozen.Goals as goal

pub returns-in-Ok-clause-stands : goal.returns-in-Ok-clause-stands
returns-in-Ok-clause-stands g c =
    let new = g.T.Types.atoms c.frozen.new.types in
    c.give_cast.ensures.stands new (subst (λ (e : Atoms). SharedBelow (length e) c.in-Ok.cast) (sym c.frozen.ensures.atoms) c.in-Ok.ensures.below)
    (stands-over (state_of (g.T.Types.atoms c.args.types.now) c.args.work.now) new c.frozen.ensures.atoms c.requires.stands)

pub returns-in-Ok-clause-comes : goal.returns-in-Ok-clause-comes
returns-in-Ok-clause-comes g c =
    let old = g.T.Types.atoms c.args.types.now in
    subst (λ (e : Atoms). OnOk c.give_cast.result (Comes (clones_readonly c.args.what.count c.args.receiver.now c.args.what.at) (state_of old c.args.work.now) (Ok tt) (state_of e c.give_cast.new.work)))
    (sym c.frozen.ensures.atoms)
    (frozen-given c.args.what.count c.args.receiver.now c.in-Ok.cast c.args.what.at (state_of old c.args.work.now) _ c.give_cast.result c.in-Ok.ensures.is c.in-Ok.ensures.below (c.give_cast.ensures.comes old))
