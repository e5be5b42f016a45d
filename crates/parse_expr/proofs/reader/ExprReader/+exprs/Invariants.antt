use Rattle.std.proofs.Common.{◌≡◌, ◌+◌, ◌*◌, ◌≤◌, Some, true, false, map, length}
use Rattle.std.specs.List.{list_all}
use Rattle.bal_base.specs.declared.token.Sign.TheVariants.{Comma}
use Rattle.bal_tree.specs.ExprPieces.{expr_pieces, member_pieces, detail_pieces}
use Rattle.bal_tree.specs.ExprRules.{expr_is_formed, member_is_formed, detail_is_formed}
use Rattle.bal_tree.specs.Levels.{rank}
use Rattle.bal_tree.specs.Pieces.{behind}
use Rattle.bal_tree.specs.Spells.{Spells, kinds_of}
use Rattle.parse_types.specs.Loops.{many}
use Rattle.parse_types.proofs.Commas.{trailed}
use Rattle.parse_expr.specs.Operators.{step}
use Rattle.parse_expr.specs.Reaches.{left_length, suffix_step, postfix, up_to, item_comma, mapping_member, detail, details, inside}
use Rattle.parse_expr.specs.Starts.{Binds, Ended, ExprReading, PostfixReading, end_of, postfix_left}
use Rattle.parse_expr.proofs.reader.ExprReader.+exprs.Given as goal

abbrev pub decreases-inner : goal.decreases-inner
decreases-inner l = l.room * 64 + (0)

abbrev pub decreases-up_to : goal.decreases-up_to
decreases-up_to l = l.room * 64 + (4 * rank l.level + 10)

abbrev pub decreases-chain : goal.decreases-chain
decreases-chain l = l.room * 64 + (4 * rank l.level + 9)

abbrev pub decreases-right : goal.decreases-right
decreases-right l = l.room * 64 + (4 * rank l.tighter + 11)

abbrev pub decreases-comparison : goal.decreases-comparison
decreases-comparison l = l.room * 64 + (25)

abbrev pub decreases-elvis : goal.decreases-elvis
decreases-elvis l = l.room * 64 + (41)

abbrev pub decreases-conditional : goal.decreases-conditional
decreases-conditional l = l.room * 64 + (45)

abbrev pub decreases-branches : goal.decreases-branches
decreases-branches l = l.room * 64 + (1)

abbrev pub decreases-loosest : goal.decreases-loosest
decreases-loosest l = l.room * 64 + (49)

abbrev pub decreases-tight : goal.decreases-tight
decreases-tight l = l.room * 64 + (13)

abbrev pub decreases-cast : goal.decreases-cast
decreases-cast l = l.room * 64 + (1)

abbrev pub decreases-trap : goal.decreases-trap
decreases-trap l = l.room * 64 + (1)

abbrev pub decreases-function : goal.decreases-function
decreases-function l = l.room * 64 + (1)

abbrev pub decreases-suffixed : goal.decreases-suffixed
decreases-suffixed l = l.room * 64 + (9)

abbrev pub decreases-postfix : goal.decreases-postfix
decreases-postfix l = l.room * 64 + (8)

abbrev pub decreases-primary : goal.decreases-primary
decreases-primary l = l.room * 64 + (7)

abbrev pub decreases-keyword_primary : goal.decreases-keyword_primary
decreases-keyword_primary l = l.room * 64 + (6)

abbrev pub decreases-sign_primary : goal.decreases-sign_primary
decreases-sign_primary l = l.room * 64 + (6)

abbrev pub decreases-parens : goal.decreases-parens
decreases-parens l = l.room * 64 + (1)

abbrev pub decreases-list : goal.decreases-list
decreases-list l = l.room * 64 + (3)

abbrev pub decreases-items_until : goal.decreases-items_until
decreases-items_until l = l.room * 64 + (2)

abbrev pub decreases-items : goal.decreases-items
decreases-items l = l.room * 64 + (1)

abbrev pub decreases-mapping : goal.decreases-mapping
decreases-mapping l = l.room * 64 + (5)

abbrev pub decreases-members : goal.decreases-members
decreases-members l = l.room * 64 + (4)

abbrev pub decreases-mapping_member : goal.decreases-mapping_member
decreases-mapping_member l = l.room * 64 + (3)

abbrev pub decreases-key : goal.decreases-key
decreases-key l = l.room * 64 + (2)

abbrev pub decreases-computed_key : goal.decreases-computed_key
decreases-computed_key l = l.room * 64 + (1)

abbrev pub decreases-error : goal.decreases-error
decreases-error l = l.room * 64 + (4)

abbrev pub decreases-cause : goal.decreases-cause
decreases-cause l = l.room * 64 + (1)

abbrev pub decreases-details : goal.decreases-details
decreases-details l = l.room * 64 + (2)

abbrev pub decreases-detail : goal.decreases-detail
decreases-detail l = l.room * 64 + (1)

abbrev pub decreases-suffix : goal.decreases-suffix
decreases-suffix l = l.room * 64 + (5)

abbrev pub decreases-call : goal.decreases-call
decreases-call l = l.room * 64 + (4)

abbrev pub decreases-arguments : goal.decreases-arguments
decreases-arguments l = l.room * 64 + (3)

abbrev pub decreases-member : goal.decreases-member
decreases-member l = l.room * 64 + (4)

abbrev pub decreases-index : goal.decreases-index
decreases-index l = l.room * 64 + (1)

abbrev pub invariant-chain-loop-right : goal.invariant-chain-loop-right
invariant-chain-loop-right l = record {
  goes : up_to (inside l.room) l.self.middle (rank l.level) (kinds_of l.fn.tokens) ≡ Some (many length (step (rank l.level) (up_to (inside l.room) l.self.middle (rank l.tighter))) (kinds_of l.rest));
  reads : ExprReading l.self.middle l.whole.value l.self.file l.fn.tokens l.rest;
  binds : Binds l.level l.whole.value;
  ended : Ended (end_of l.whole.value) (kinds_of l.rest);
}

abbrev pub decreases-chain-loop-right : goal.decreases-chain-loop-right
decreases-chain-loop-right l = length l.rest

abbrev pub invariant-postfix-loop-whole : goal.invariant-postfix-loop-whole
invariant-postfix-loop-whole l = record {
  goes : postfix (inside l.room 10 false) l.self.middle (kinds_of l.fn.tokens) ≡ Some (many left_length (suffix_step (inside l.room 10 false)) (postfix_left l.whole (kinds_of l.rest)));
  reads : PostfixReading l.self.middle l.whole l.self.file l.fn.tokens l.rest;
}

abbrev pub decreases-postfix-loop-whole : goal.decreases-postfix-loop-whole
decreases-postfix-loop-whole l = length l.rest

abbrev pub invariant-items-items : goal.invariant-items-items
invariant-items-items l = record {
  goes : many length (item_comma (inside l.room 10 false)) (kinds_of l.fn.tokens) ≡ many length (item_comma (inside l.room 10 false)) (kinds_of l.rest);
  formed : list_all (λ e. expr_is_formed e false) l.items.items ≡ true;
  spells : Spells l.self.file (trailed expr_pieces l.items.items) l.fn.tokens l.rest;
  no_longer : length l.rest ≤ length l.fn.tokens;
}

abbrev pub decreases-items-items : goal.decreases-items-items
decreases-items-items l = length l.rest

abbrev pub invariant-members-members : goal.invariant-members-members
invariant-members-members l = record {
  goes : many length (item_comma (mapping_member (inside l.room 10 false))) (kinds_of l.fn.tokens) ≡ many length (item_comma (mapping_member (inside l.room 10 false))) (kinds_of l.rest);
  formed : list_all (λ m. member_is_formed m false) l.members.items ≡ true;
  spells : Spells l.self.file (trailed member_pieces l.members.items) l.fn.tokens l.rest;
  no_longer : length l.rest ≤ length l.fn.tokens;
}

abbrev pub decreases-members-members : goal.decreases-members-members
decreases-members-members l = length l.rest

abbrev pub invariant-details-loop-details : goal.invariant-details-loop-details
invariant-details-loop-details l = record {
  goes : many length (detail (inside l.room 10 false)) (kinds_of l.fn.tokens) ≡ many length (detail (inside l.room 10 false)) (kinds_of l.rest);
  formed : list_all (λ d. detail_is_formed d false) l.details.items ≡ true;
  spells : Spells l.self.file (behind Comma (map detail_pieces l.details.items)) l.fn.tokens l.rest;
  no_longer : length l.rest ≤ length l.fn.tokens;
}

abbrev pub decreases-details-loop-details : goal.decreases-details-loop-details
decreases-details-loop-details l = length l.rest
