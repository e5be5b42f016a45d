use Rattle.std.proofs.Common.{◌≡◌, ◌&&◌, true, false, refl, sym, ap, ◌∙◌, subst, arith}
use Rattle.std.specs.Prelude.{not}
use Rattle.bal_base.specs.declared.token.Sign.TheVariants.{DoubleArrow}
use Rattle.bal_tree.specs.ActionPieces.{action_pieces, peer_pieces}
use Rattle.bal_tree.specs.ActionRules.{action_is_formed}
use Rattle.bal_tree.specs.ExprRules.{expr_facts, expr_is_formed}
use Rattle.bal_tree.specs.declared.action.Action.{SyncSend}
use Rattle.parse_types.proofs.Readings.{both-true}
use Rattle.parse_types.specs.Starts.{Reading}
use Rattle.parse_stmt.proofs.StmtReadings.{check-is}
use Rattle.parse_stmt.proofs.reader.StmtReader.plain_sync_send.Goals as goal

pub returns-clause-reads : goal.returns-clause-reads
returns-clause-reads c =
    let file = c.args.self.file in
    let tokens = c.args.tokens.now in
    let value = c.in_ok-value.value in
    let e = value.value in
    let reads = c.in_ok-value.ensures.reads in
    let peer = c.in_ok-peer.ensures.reads in
    let arrow = c.in_ok-rest.ensures in
    let no_check = sym (check-is file e tokens c.in_ok-value.rest.now reads.spells) ∙ c.requires in
    subst (λ a. Reading (action_is_formed a) (action_pieces a) file tokens c.in_ok-peer.rest.now) (sym c.in_ok-new.ensures.ok)
    record {
      formed = both-true (not (expr_facts e).begins_with_check) (expr_is_formed e false) (ap not no_check) reads.formed;
      spells = (tokens, (c.place-at.ensures, refl), (c.in_ok-value.rest.now, reads.spells, (c.in_ok-rest.rest.now, arrow.heads, peer.spells)));
      shorter = omega (arith, reads.shorter, arrow.shorter, peer.shorter);
    }
