use Rattle.std.proofs.Common.{◌+◌, ◌∙◌, List, ap, arith, length, subst}
use Rattle.type_model.specs.declared.atoms.AtomDef.{AtomDef}
use Rattle.detail_questions.specs.inner.Group.{IsGroup}
use Rattle.detail_questions.proofs.Answering.{errors-answered, errors-stop, group-distinct, group-more, group-named, last-at, last-within}
use Rattle.detail_questions.proofs.errors.has_errors.Goals as goal

pub with_group-requires-clause-named : goal.with_group-requires-clause-named
with_group-requires-clause-named g c =
    let own = subst (λ (ds : List AtomDef). IsGroup (length ds) c.args.pairs.now c.in-Ok.defs.items) (c.defs-first.ensures.value ∙ c.env.ensures) c.in-Ok.ensures in
    group-named (g.T.Types.atoms c.args.types.now) c.args.pairs.now c.in-Ok.defs.items c.requires.pairs own

pub with_group-requires-clause-distinct : goal.with_group-requires-clause-distinct
with_group-requires-clause-distinct g c =
    let own = subst (λ (ds : List AtomDef). IsGroup (length ds) c.args.pairs.now c.in-Ok.defs.items) (c.defs-first.ensures.value ∙ c.env.ensures) c.in-Ok.ensures in
    group-distinct (g.T.Types.atoms c.args.types.now) c.args.pairs.now c.in-Ok.defs.items own

pub with_group-requires-clause-last : goal.with_group-requires-clause-last
with_group-requires-clause-last g c =
    let own = subst (λ (ds : List AtomDef). IsGroup (length ds) c.args.pairs.now c.in-Ok.defs.items) (c.defs-first.ensures.value ∙ c.env.ensures) c.in-Ok.ensures in
    let within = last-within (g.T.Types.atoms c.args.types.now) c.args.pairs.now c.in-Ok.defs.items own in
    let e = ap (λ (ds : List AtomDef). length ds) (c.defs-first.ensures.value ∙ c.env.ensures) in omega (arith, within, e, c.open_keys-keys.ensures)

pub returns-in-Ok-clause-added : goal.returns-in-Ok-clause-added
returns-in-Ok-clause-added g c =
    let own = subst (λ (ds : List AtomDef). IsGroup (length ds) c.args.pairs.now c.in-Ok.defs.items) (c.defs-first.ensures.value ∙ c.env.ensures) c.in-Ok.ensures in
    group-more (g.T.Types.atoms c.args.types.now) c.args.pairs.now c.in-Ok.defs.items _ own c.with_group.ensures.added

pub returns-in-Ok-clause-answers : goal.returns-in-Ok-clause-answers
returns-in-Ok-clause-answers g c =
    let old = g.T.Types.atoms c.args.types.now in
    let own = subst (λ (ds : List AtomDef). IsGroup (length ds) c.args.pairs.now c.in-Ok.defs.items) (c.defs-first.ensures.value ∙ c.env.ensures) c.in-Ok.ensures in
    errors-answered old c.args.pairs.now c.args.r.now c.requires.right c.requires.pairs c.in-Ok.defs.items own (length c.defs-first.result.now + (c.open_keys-keys.result + 1))
    (last-at old c.defs-first.result.now c.args.pairs.now c.open_keys-keys.result (c.defs-first.ensures.value ∙ c.env.ensures) c.open_keys-keys.ensures) c.with_group.result c.with_group.ensures.answer

pub returns-in-Ok-clause-limit : goal.returns-in-Ok-clause-limit
returns-in-Ok-clause-limit g c =
    let old = g.T.Types.atoms c.args.types.now in
    let own = subst (λ (ds : List AtomDef). IsGroup (length ds) c.args.pairs.now c.in-Ok.defs.items) (c.defs-first.ensures.value ∙ c.env.ensures) c.in-Ok.ensures in
    errors-stop g.T.Types.passes old c.args.pairs.now c.args.r.now c.in-Ok.defs.items own (length c.defs-first.result.now + (c.open_keys-keys.result + 1))
    (last-at old c.defs-first.result.now c.args.pairs.now c.open_keys-keys.result (c.defs-first.ensures.value ∙ c.env.ensures) c.open_keys-keys.ensures) c.with_group.result c.with_group.ensures.limit
