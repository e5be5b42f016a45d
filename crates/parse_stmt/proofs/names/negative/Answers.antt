use Rattle.std.proofs.Common.{rules, ◌≡◌, true, refl, sym, subst, arith, w64}
use mir.Val.{to_z, of_z}
use Rattle.std.proofs.lemmas.Int.{to_z-of_z}
use Rattle.bal_base.specs.declared.token.TokenKind.TheVariants.{Int as IntKind}
use Rattle.bal_tree.specs.Spells.{Heads}
use Rattle.parse_stmt.proofs.names.negative.Goals as goal

pub returns-clause-reads : goal.returns-clause-reads
returns-clause-reads c =
    let minus = c.in_ok-after_sign.ensures in
    let int = c.in_ok-int.ensures in
    let same : to_z w64 (of_z w64 c.in_ok-int.int) ≡ c.in_ok-int.int = search rules in
    record {
      formed = refl;
      spells = (c.args.tokens.now, (c.place-at.ensures, refl), (c.in_ok-after_sign.field-0.now, minus.heads, subst (λ n. Heads (IntKind n) c.in_ok-after_sign.field-0.now c.in_ok-int.rest.now) (sym same) int.heads));
      shorter = omega (arith, minus.shorter, int.shorter);
    }
