use Rattle.std.proofs.Common.{◌≡◌, [], ◌∷◌, ◌++◌, map, length, refl, sym, ap, ◌∙◌, subst, arith}
use Rattle.bal_base.specs.declared.token.Sign.TheVariants.{Comma}
use Rattle.bal_tree.specs.ActionRules.{has_members}
use Rattle.bal_tree.specs.Pieces.{separated}
use Rattle.bal_tree.specs.ActionPieces.{wait_member_pieces}
use Rattle.bal_tree.specs.Spells.{Spells, kinds_of}
use Rattle.parse_types.proofs.Holding.{leaves-missing, leaves-found}
use Rattle.parse_types.proofs.Levels.{loop-more, loop-done}
use Rattle.parse_types.proofs.Readings.{kinds-less}
use Rattle.parse_stmt.specs.Reaches.{wait_members, comma_member}
use Rattle.parse_stmt.proofs.StmtReadings.{spells-separated, has-one-more}
use Rattle.parse_stmt.proofs.reader.StmtReader.wait_members.Goals as goal

pub loop-members-preserved : goal.loop-members-preserved
loop-members-preserved c =
    let front = c.loop-members.invariant in
    let old = c.loop-members.members.items in
    let rest = c.loop-members.rest.now in
    let after = c.in-Some.after.now in
    let next = c.in-Some.next in
    let ok = rw c.in-Some.is at c.in_ok-next.ensures in
    let found = leaves-found (comma_member (kinds_of rest)) c.comma_member.result (next, c.in-Some.after) ok c.comma_member.ensures.end in
    let reads = rw ok at c.comma_member.ensures.reads in
    let items = c.in_ok-push-2.ensures.items in
    record {
      goes = loop-more length comma_member (wait_members (kinds_of c.args.tokens.now)) (kinds_of rest) (kinds_of after) front.goes (sym found) (kinds-less after rest reads.shorter);
      formed = ap has_members items ∙ has-one-more old next;
      spells = subst (λ l. Spells c.args.self.file (separated Comma (map wait_member_pieces l)) c.args.tokens.now after) (sym items) (spells-separated wait_member_pieces Comma c.args.self.file old next c.args.tokens.now rest after front.formed front.spells reads.spells);
      shorter = omega (arith, reads.shorter, front.shorter);
    }

pub returns-clause-end : goal.returns-clause-end
returns-clause-end c =
    let rest = c.loop-members.rest.now in
    let missing = rw c.in_default.is at c.in_ok-next.ensures in
    let none = leaves-missing (comma_member (kinds_of rest)) c.comma_member.result missing.0 missing.1 c.comma_member.ensures.end in
    loop-done length comma_member (wait_members (kinds_of c.args.tokens.now)) (kinds_of rest) c.loop-members.invariant.goes (sym none)
