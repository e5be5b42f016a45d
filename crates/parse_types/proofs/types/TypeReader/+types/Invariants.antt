use Rattle.std.proofs.Common.{◌≡◌, ◌+◌, ◌*◌, ◌≤◌, Some, true, map, length}
use Rattle.std.specs.List.{list_all}
use Rattle.bal_tree.specs.Pieces.{joined}
use Rattle.bal_tree.specs.Spells.{Spells, kinds_of}
use Rattle.bal_tree.specs.TypePieces.{type_pieces, field_pieces, param_type_pieces}
use Rattle.bal_tree.specs.TypeRules.{type_is_formed, field_is_formed, param_type_is_formed}
use Rattle.parse_types.specs.Loops.{many}
use Rattle.parse_types.specs.Reaches.{left_length, suffix_step, ampersand_step, bar_step, postfix, intersection, union, inside, type_comma, param_comma, field}
use Rattle.parse_types.specs.Starts.{TypeReading, IntersectionReading, PostfixReading, type_left, intersection_left, postfix_left}
use Rattle.parse_types.proofs.Commas.{trailed}
use Rattle.parse_types.proofs.types.TypeReader.+types.Given as goal

abbrev pub decreases-inner : goal.decreases-inner
decreases-inner l = l.room * 16 + 0

abbrev pub decreases-type_tree : goal.decreases-type_tree
decreases-type_tree l = l.room * 16 + 12

abbrev pub decreases-bar_part : goal.decreases-bar_part
decreases-bar_part l = l.room * 16 + 11

abbrev pub decreases-intersection : goal.decreases-intersection
decreases-intersection l = l.room * 16 + 10

abbrev pub decreases-ampersand_part : goal.decreases-ampersand_part
decreases-ampersand_part l = l.room * 16 + 9

abbrev pub decreases-postfix : goal.decreases-postfix
decreases-postfix l = l.room * 16 + 8

abbrev pub decreases-primary : goal.decreases-primary
decreases-primary l = l.room * 16 + 7

abbrev pub decreases-keyword_type : goal.decreases-keyword_type
decreases-keyword_type l = l.room * 16 + 6

abbrev pub decreases-sign_type : goal.decreases-sign_type
decreases-sign_type l = l.room * 16 + 6

abbrev pub decreases-map_type : goal.decreases-map_type
decreases-map_type l = l.room * 16 + 5

abbrev pub decreases-future_type : goal.decreases-future_type
decreases-future_type l = l.room * 16 + 5

abbrev pub decreases-error_type : goal.decreases-error_type
decreases-error_type l = l.room * 16 + 5

abbrev pub decreases-parens : goal.decreases-parens
decreases-parens l = l.room * 16 + 5

abbrev pub decreases-in_angles : goal.decreases-in_angles
decreases-in_angles l = l.room * 16 + 4

abbrev pub decreases-tuple : goal.decreases-tuple
decreases-tuple l = l.room * 16 + 5

abbrev pub decreases-type_list : goal.decreases-type_list
decreases-type_list l = l.room * 16 + 3

abbrev pub decreases-function_type : goal.decreases-function_type
decreases-function_type l = l.room * 16 + 5

abbrev pub decreases-returns : goal.decreases-returns
decreases-returns l = l.room * 16 + 3

abbrev pub decreases-params : goal.decreases-params
decreases-params l = l.room * 16 + 4

abbrev pub decreases-param_list : goal.decreases-param_list
decreases-param_list l = l.room * 16 + 3

abbrev pub decreases-record_type : goal.decreases-record_type
decreases-record_type l = l.room * 16 + 5

abbrev pub decreases-closed_record : goal.decreases-closed_record
decreases-closed_record l = l.room * 16 + 4

abbrev pub decreases-open_record : goal.decreases-open_record
decreases-open_record l = l.room * 16 + 4

abbrev pub decreases-fields : goal.decreases-fields
decreases-fields l = l.room * 16 + 3

abbrev pub invariant-type_tree-loop-whole : goal.invariant-type_tree-loop-whole
invariant-type_tree-loop-whole l = record {
  goes : union (inside l.room) l.self.middle (kinds_of l.fn.tokens) ≡ Some (many left_length (bar_step (inside l.room) l.self.middle) (type_left l.whole (kinds_of l.rest)));
  reads : TypeReading l.self.middle l.whole l.self.file l.fn.tokens l.rest;
}

abbrev pub decreases-type_tree-loop-whole : goal.decreases-type_tree-loop-whole
decreases-type_tree-loop-whole l = length l.rest

abbrev pub invariant-intersection-loop-whole : goal.invariant-intersection-loop-whole
invariant-intersection-loop-whole l = record {
  goes : intersection (inside l.room) l.self.middle (kinds_of l.fn.tokens) ≡ Some (many left_length (ampersand_step (inside l.room) l.self.middle) (intersection_left l.whole (kinds_of l.rest)));
  reads : IntersectionReading l.self.middle l.whole l.self.file l.fn.tokens l.rest;
}

abbrev pub decreases-intersection-loop-whole : goal.decreases-intersection-loop-whole
decreases-intersection-loop-whole l = length l.rest

abbrev pub invariant-postfix-loop-suffix : goal.invariant-postfix-loop-suffix
invariant-postfix-loop-suffix l = record {
  goes : postfix (inside l.room) l.self.middle (kinds_of l.fn.tokens) ≡ Some (many left_length suffix_step (postfix_left l.whole (kinds_of l.rest)));
  reads : PostfixReading l.self.middle l.whole l.self.file l.fn.tokens l.rest;
}

abbrev pub decreases-postfix-loop-suffix : goal.decreases-postfix-loop-suffix
decreases-postfix-loop-suffix l = length l.rest

abbrev pub invariant-type_list-types : goal.invariant-type_list-types
invariant-type_list-types l = record {
  goes : many length (type_comma (inside l.room l.self.middle)) (kinds_of l.fn.tokens) ≡ many length (type_comma (inside l.room l.self.middle)) (kinds_of l.rest);
  formed : list_all (λ t. type_is_formed t l.self.middle) l.members.items ≡ true;
  spells : Spells l.self.file (trailed type_pieces l.members.items) l.fn.tokens l.rest;
  no_longer : length l.rest ≤ length l.fn.tokens;
}

abbrev pub decreases-type_list-types : goal.decreases-type_list-types
decreases-type_list-types l = length l.rest

abbrev pub invariant-param_list-params : goal.invariant-param_list-params
invariant-param_list-params l = record {
  goes : many length (param_comma (inside l.room l.self.middle)) (kinds_of l.fn.tokens) ≡ many length (param_comma (inside l.room l.self.middle)) (kinds_of l.rest);
  formed : list_all (λ t. param_type_is_formed t l.self.middle) l.members.items ≡ true;
  spells : Spells l.self.file (trailed param_type_pieces l.members.items) l.fn.tokens l.rest;
  no_longer : length l.rest ≤ length l.fn.tokens;
}

abbrev pub decreases-param_list-params : goal.decreases-param_list-params
decreases-param_list-params l = length l.rest

abbrev pub invariant-fields-fields : goal.invariant-fields-fields
invariant-fields-fields l = record {
  goes : many length (field (inside l.room l.self.middle)) (kinds_of l.fn.tokens) ≡ many length (field (inside l.room l.self.middle)) (kinds_of l.rest);
  formed : list_all (λ t. field_is_formed t l.self.middle) l.members.items ≡ true;
  spells : Spells l.self.file (joined (map field_pieces l.members.items)) l.fn.tokens l.rest;
  no_longer : length l.rest ≤ length l.fn.tokens;
}

abbrev pub decreases-fields-fields : goal.decreases-fields-fields
decreases-fields-fields l = length l.rest
