use Rattle.std.proofs.Common.{◌<◌, ◌∙◌, arith, map}
use Rattle.expr_needs.specs.ExprTable.{read_member, seen_of}
use Rattle.check_words.specs.Constructors.{MappingFits}
use Rattle.made_atoms.proofs.Groups.{all-at}
use Rattle.check_constructors.proofs.FirstFits.{choice_at, found-first, is-there, none-left, one-less, over-no-choice}
use Rattle.check_constructors.proofs.choosing.first_mapping_choice.Goals as goal

pub returns-then-mapping_fits-clause-comes : goal.returns-then-mapping_fits-clause-comes
returns-then-mapping_fits-clause-comes g c =
    let choices = c.args.choices.now in
    let i = c.loop-choice.choice-index in
    found-first (MappingFits (map seen_of (map read_member c.args.members.now))) choices c.args.at (g.T.Types.atoms c.args.types.now) c.defs-defs.result.now i (choice_at choices i) c.mapping_fits.result
    (c.defs-defs.ensures.value ∙ c.env.ensures) c.mapping_fits.ensures c.if-mapping_fits.true c.loop-choice.invariant (is-there choices i (grind (arith, c.loop-choice-test.true)))

pub returns-then-mapping_fits-clause-below : goal.returns-then-mapping_fits-clause-below
returns-then-mapping_fits-clause-below g c = λ n h.
    let choices = c.args.choices.now in
    let i = c.loop-choice.choice-index in
    all-at (λ d. d.atom < n) choices i (choice_at choices i) (is-there choices i (grind (arith, c.loop-choice-test.true))) h

pub loop-choice-preserved : goal.loop-choice-preserved
loop-choice-preserved g c =
    let choices = c.args.choices.now in
    let i = c.loop-choice.choice-index in
    one-less (MappingFits (map seen_of (map read_member c.args.members.now))) choices c.args.at (g.T.Types.atoms c.args.types.now) c.defs-defs.result.now i (choice_at choices i) c.mapping_fits.result
    (c.defs-defs.ensures.value ∙ c.env.ensures) c.mapping_fits.ensures c.if-mapping_fits.false c.loop-choice.invariant (is-there choices i (grind (arith, c.loop-choice-test.true)))

pub returns-clause-comes : goal.returns-clause-comes
returns-clause-comes g c =
    over-no-choice (MappingFits (map seen_of (map read_member c.args.members.now))) c.args.choices.now c.args.at (g.T.Types.atoms c.args.types.now) c.no_choice.result
    (none-left (MappingFits (map seen_of (map read_member c.args.members.now)) (g.T.Types.atoms c.args.types.now)) c.args.choices.now c.loop-choice.choice-index (omega (arith, c.loop-choice-test.false)) c.loop-choice.invariant) c.no_choice.ensures
