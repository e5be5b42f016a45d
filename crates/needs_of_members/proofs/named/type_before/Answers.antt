use Rattle.std.proofs.Common.{subst, sym}
use Rattle.check_kinds.specs.Over.{ComesOver}
use Rattle.typed_tree.specs.SharedTypes.{Shared}
use Rattle.expr_needs.specs.declared.kind.Kind.TheVariants.{Text}
use Rattle.check_words.specs.Members.{stored_type}
use Rattle.check_words.specs.Words.{OfKind}
use Rattle.needs_of_members.proofs.Over.{have-at, lifted-have, over-lifted}
use Rattle.needs_of_members.proofs.named.type_before.Goals as goal

pub returns-in-Char-clause-below : goal.returns-in-Char-clause-below
returns-in-Char-clause-below g c =
    lifted-have _ c.text_shared.result _ c.lift.ensures (have-at (g.T.Types.atoms c.args.types.now) _ _ c.text_shared.result c.requires.own c.text_shared.ensures.below)

pub returns-in-Char-clause-comes : goal.returns-in-Char-clause-comes
returns-in-Char-clause-comes g c =
    let env = g.T.Types.atoms c.args.types.now in
    subst (λ a. ComesOver (stored_type g.T.Types.passes a c.args.sides.container.now.sem c.args.sides.key.now c.args.at) env c.lift.result env) (sym c.in-Char.is)
    (over-lifted (λ o (t : Shared). OfKind Text o t.value) env c.text_shared.result _ c.lift.ensures (have-at env _ _ c.text_shared.result c.requires.own c.text_shared.ensures.is))
