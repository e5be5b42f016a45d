use Rattle.std.proofs.Common.{rules, ◌≡◌, ◌≤◌, ◌<◌, ℕ, suc, Bool, true, false, ◌&&◌, List, [], ◌∷◌, ◌++◌, map, Option, None, Some, length, refl, sym, ap, ◌∙◌, subst, arith}
use Rattle.std.specs.Prelude.{is_some}
use Rattle.std.specs.List.{list_all}
use Rattle.std.proofs.lemmas.List.{map-append}
use Rattle.bal_base.specs.declared.token.Keyword.TheVariants.{Error as ErrorKey, Trap}
use Rattle.bal_base.specs.declared.token.Sign.TheVariants.{Comma, OpenParen, CloseParen, CloseBracket, Question, Colon}
use Rattle.bal_base.specs.declared.token.TokenKind.TheVariants.{Sign as SignKind}
use Rattle.bal_tree.specs.declared.expr.Primary.TheVariants.{Error}
use Rattle.bal_tree.specs.ExprPieces.{expr_pieces, postfix_pieces, primary_pieces, member_pieces, detail_pieces, binary_sign, as_next}
use Rattle.bal_tree.specs.ExprRules.{ExprEnd, expr_is_formed, postfix_is_formed, primary_is_formed, member_is_formed, detail_is_formed, level}
use Rattle.bal_tree.specs.Levels.{rank}
use Rattle.bal_tree.specs.Pieces.{◌&◌, starts, key, sign, if_boxed, separated, behind}
use Rattle.bal_tree.specs.Spells.{Spells, kinds_of}
use Rattle.parse_types.specs.Loops.{◌>>=◌, many}
use Rattle.parse_types.specs.Starts.{IfMissing, Leaves}
use Rattle.token_steps.specs.Tokens.{take_sign, take_key}
use Rattle.parse_types.proofs.Commas.{trailed, spells-trailed, spells-last}
use Rattle.parse_types.proofs.Holding.{leaves-missing, leaves-found, if-missing}
use Rattle.parse_types.proofs.Law.{both_pass}
use Rattle.parse_types.proofs.Levels.{loop-more, loop-done}
use Rattle.parse_types.proofs.Readings.{spelling, joins, ends_in, reads-as, both-true, all-push, kinds-less}
use Rattle.parse_expr.specs.Listings.{cause_is_formed}
use Rattle.parse_expr.specs.Operators.{is_chain, step, test, branches as branches_read}
use Rattle.parse_expr.specs.Ranks.{op_rank}
use Rattle.parse_expr.specs.Reaches.{left_length, suffix, suffix_step, postfix, type_at, take_function, up_to, items, items_until, list, arguments, mapping_member, cause, detail, details, inside}
use Rattle.parse_expr.specs.Starts.{Binds, Ended, ExprReading, end_of, postfix_left}
use Rattle.parse_expr.specs.Suffixes.{suffix_pieces, suffix_is_formed, MayFollow}
use Rattle.parse_expr.proofs.Listing.{items-missing, items-ends, items-goes, details-end, details-goes}
use Rattle.parse_expr.proofs.Ending.{some-map, no-type-end, no-name-behind, loosest-level}
use Rattle.parse_expr.proofs.ExprReadings.{expr_readings}
use Rattle.parse_expr.proofs.Rooms.{next-missing, chain-from, compare-found, test-found, compare-stays, elvis-found, elvis-stays, conditional-found, conditional-stays}
use Rattle.parse_expr.proofs.Shapes.{takes-chain, takes-compare, takes-elvis, no_looser-prefix}
use Rattle.parse_expr.proofs.TreeReadings.{error-pieces, error-formed, member-made, member-made-formed, detail-made, detail-made-formed, spells-behind}
use Rattle.parse_expr.proofs.reader.ExprReader.+exprs.Goals as goal

-- ---- levels that group to the left

pub chain-loop-right-init : goal.chain-loop-right-init
chain-loop-right-init t c =
    let r = inside c.args.room in
    let m = c.args.self.middle in
    let ks = kinds_of c.args.tokens.now in
    let k = rank c.args.tighter in
    let next = c.requires.next in
    let first = c.in_ok-whole.ensures in
    record {
      goes = subst (λ (i : ℕ). up_to r m i ks ≡ Some (many length (step i (up_to r m k)) (kinds_of c.in_ok-whole.rest.now))) (sym next)
          (chain-from r m k ks (kinds_of c.in_ok-whole.rest.now) c.requires.lower c.requires.upper (ap is_chain (sym next) ∙ c.requires.groups) first.end);
      reads = first.reads;
      binds = omega (arith, first.binds, next);
      ended = first.ended;
    }

pub chain-returns-clause-end : goal.chain-returns-clause-end
chain-returns-clause-end t c =
    let r = inside c.args.room in
    let m = c.args.self.middle in
    loop-done length (step (rank c.args.level) (up_to r m (rank c.args.tighter))) (up_to r m (rank c.args.level) (kinds_of c.args.tokens.now)) (kinds_of c.loop-right.rest.now) c.loop-right.invariant.goes (rw c.in_default.is at c.in_ok-right.ensures.end)

pub chain-loop-right-preserved : goal.chain-loop-right-preserved
chain-loop-right-preserved t c =
    let r = inside c.args.room in
    let m = c.args.self.middle in
    let whole = c.loop-right.whole.value in
    let rest = c.loop-right.rest.now in
    let new = c.in_ok-whole-2.whole.value in
    let after = c.in-Some.after.now in
    let op = c.in-Some.right.0 in
    let operand = c.in-Some.right.1.value in
    let e = rw c.in-Some.is at c.in_ok-right.ensures.end in
    let reads = rw c.in-Some.is at c.in_ok-right.ensures.reads in
    let same = rw c.in-Some.is at c.in_ok-right.ensures.operator in
    let tight = rw c.in-Some.is at c.in_ok-right.ensures.binds in
    let ended = rw c.in-Some.is at c.in_ok-right.ensures.ended in
    let left = c.loop-right.invariant in
    let made = c.in_ok-whole-2.ensures in
    let rank_is : op_rank op ≡ rank c.args.level = ap rank same in
    let one = ap length reads.1.splits in
    let takes_both = takes-chain op (level whole) (level operand) (ap is_chain rank_is ∙ c.requires.groups) (omega (arith, left.binds, rank_is)) (omega (arith, tight, rank_is, c.requires.next)) in
    record {
      goes = loop-more length (step (rank c.args.level) (up_to r m (rank c.args.tighter))) (up_to r m (rank c.args.level) (kinds_of c.args.tokens.now)) (kinds_of rest) (kinds_of after) left.goes e (kinds-less after rest (omega (arith, reads.2.shorter)));
      reads = joins c.args.self.file c.args.tokens.now after rest reads.0 c.place-at.result (expr_pieces whole) (expr_pieces operand) (expr_pieces new) (binary_sign op) (expr_is_formed whole m) (expr_is_formed operand m) (expr_is_formed new m) c.place-at.ensures left.reads reads.1 reads.2 made.pieces (made.formed m takes_both left.reads.formed reads.2.formed);
      binds = let l = ap rank made.level in omega (arith, l, rank_is);
      ended = subst (λ (x : ExprEnd). Ended x (kinds_of after)) (sym made.end) ended;
    }

-- ---- suffixes

pub postfix-returns-clause-end : goal.postfix-returns-clause-end
postfix-returns-clause-end t c =
    let br = inside c.args.room 10 false in
    loop-done left_length (suffix_step br) (postfix br c.args.self.middle (kinds_of c.args.tokens.now)) (postfix_left c.loop-whole.whole (kinds_of c.loop-whole.rest.now)) c.loop-whole.invariant.goes (rw c.in_default.is at c.in_ok-suffix.ensures.end ∙ ap (λ b. suffix br b (kinds_of c.loop-whole.rest.now)) c.is_field.ensures)

pub postfix-loop-whole-preserved : goal.postfix-loop-whole-preserved
postfix-loop-whole-preserved t c =
    let br = inside c.args.room 10 false in
    let m = c.args.self.middle in
    let whole = c.loop-whole.whole in
    let rest = c.loop-whole.rest.now in
    let new = c.in_ok-whole.whole in
    let after = c.in-Some.after.now in
    let suffix_now = c.in-Some.suffix in
    let e = rw c.in-Some.is at c.in_ok-suffix.ensures.end in
    let behind = rw c.in-Some.is at c.in_ok-suffix.ensures.reads in
    let may = rw c.in-Some.is at c.in_ok-suffix.ensures.may_follow in
    let left = c.loop-whole.invariant.reads in
    let made = c.in_ok-whole.ensures in
    record {
      goes = loop-more left_length (suffix_step br) (postfix br m (kinds_of c.args.tokens.now)) (postfix_left whole (kinds_of rest)) (postfix_left new (kinds_of after)) c.loop-whole.invariant.goes (ap (λ b. Some record { is_field = b; rest = kinds_of after }) made.is_field ∙ e ∙ ap (λ b. suffix br b (kinds_of rest)) c.is_field.ensures) (kinds-less after rest behind.shorter);
      reads = ends_in c.args.self.file c.args.tokens.now after rest c.place-at.result (postfix_pieces whole) (suffix_pieces suffix_now) (postfix_pieces new) (postfix_is_formed whole m) (suffix_is_formed suffix_now) (postfix_is_formed new m) c.place-at.ensures left behind made.pieces (made.formed m (subst (λ b. MayFollow b suffix_now) c.is_field.ensures may) left.formed behind.formed);
    }

pub postfix-loop-whole-smaller : goal.postfix-loop-whole-smaller
postfix-loop-whole-smaller t c = let behind = rw c.in-Some.is at c.in_ok-suffix.ensures.reads in omega (arith, behind.shorter)

-- ---- lists

pub items-returns-in_err-e-clause-end : goal.items-returns-in_err-e-clause-end
items-returns-in_err-e-clause-end t c =
    let br = inside c.args.room 10 false in
    let ks = kinds_of c.args.tokens.now in
    let e : IfMissing c.in_err-e.field-0.0 (items br ks ≡ None) = if-missing c.in_err-e.field-0.0 (items-missing br ks (kinds_of c.items.rest.now) c.items.invariant.goes) (rw c.bracketed.ensures.middle at c.in_err-e.ensures.end) in
    search rules

pub items-items-preserved : goal.items-items-preserved
items-items-preserved t c =
    let file = c.args.self.file in
    let br = inside c.args.room 10 false in
    let front = c.items.invariant in
    let reads = rw (c.bracketed.ensures.file, c.bracketed.ensures.middle) at c.in_ok-e.ensures.reads in
    let comma = c.in-Some.ensures in
    let old = c.items.items.items in
    let item = c.in_ok-e.e.value in
    let same : c.into_inner-item.result ≡ item = search rules in
    let items = c.in_ok-push.ensures.items ∙ ap (λ y. old ++ y ∷ []) same in
    let rest = c.items.rest.now in
    let behind = c.in_ok-e.behind.now in
    let after = c.in-Some.after.now in
    record {
      goes = items-goes br (kinds_of c.args.tokens.now) (kinds_of rest) front.goes (kinds_of behind) (kinds_of after) (rw c.bracketed.ensures.middle at c.in_ok-e.ensures.end) comma.end (kinds-less after rest (omega (arith, reads.shorter, comma.shorter)));
      formed = ap (list_all (λ x. expr_is_formed x false)) items ∙ all-push (λ x. expr_is_formed x false) old item front.formed reads.formed;
      spells = subst (λ l. Spells file (trailed expr_pieces l) c.args.tokens.now after) (sym items) (spells-trailed expr_pieces file old item c.args.tokens.now rest behind after front.spells reads.spells comma.heads);
      no_longer = omega (arith, reads.shorter, comma.shorter, front.no_longer);
    }

pub items-returns-in-None-clause-end : goal.items-returns-in-None-clause-end
items-returns-in-None-clause-end t c =
    items-ends (inside c.args.room 10 false) (kinds_of c.args.tokens.now) (kinds_of c.items.rest.now) c.items.invariant.goes (kinds_of c.in_ok-e.behind.now) (rw c.bracketed.ensures.middle at c.in_ok-e.ensures.end) c.in-None.ensures.end

pub items-returns-in-None-clause-reads : goal.items-returns-in-None-clause-reads
items-returns-in-None-clause-reads t c =
    let file = c.args.self.file in
    let front = c.items.invariant in
    let reads = rw (c.bracketed.ensures.file, c.bracketed.ensures.middle) at c.in_ok-e.ensures.reads in
    let old = c.items.items.items in
    let item = c.in_ok-e.e.value in
    let same : c.into_inner-item.result ≡ item = search rules in
    let items = c.in_ok-push.ensures.items ∙ ap (λ y. old ++ y ∷ []) same in
    let behind = c.in_ok-e.behind.now in
    record {
      formed = ap (list_all (λ x. expr_is_formed x false)) items ∙ all-push (λ x. expr_is_formed x false) old item front.formed reads.formed;
      spells = subst (λ l. Spells file (separated Comma (map expr_pieces l)) c.args.tokens.now behind) (sym items) (subst (λ ps. Spells file (separated Comma ps) c.args.tokens.now behind) (sym (map-append expr_pieces old (item ∷ []))) (spells-last expr_pieces file old (expr_pieces item) c.args.tokens.now c.items.rest.now behind front.spells reads.spells));
      shorter = omega (arith, reads.shorter, front.no_longer);
    }

-- ---- members

pub members-returns-in_err-member-clause-end : goal.members-returns-in_err-member-clause-end
members-returns-in_err-member-clause-end t c =
    let item = mapping_member (inside c.args.room 10 false) in
    let ks = kinds_of c.args.tokens.now in
    let e : IfMissing c.in_err-member.field-0.0 (items item ks ≡ None) = if-missing c.in_err-member.field-0.0 (items-missing item ks (kinds_of c.members.rest.now) c.members.invariant.goes) c.in_err-member.ensures.end in
    search rules

pub members-members-preserved : goal.members-members-preserved
members-members-preserved t c =
    let file = c.args.self.file in
    let item = mapping_member (inside c.args.room 10 false) in
    let front = c.members.invariant in
    let reads = c.in_ok-member.ensures.reads in
    let comma = c.in-Some.ensures in
    let old = c.members.members.items in
    let member = c.in_ok-member.member in
    let items = c.in_ok-push.ensures.items in
    let rest = c.members.rest.now in
    let behind = c.in_ok-member.behind.now in
    let after = c.in-Some.after.now in
    record {
      goes = items-goes item (kinds_of c.args.tokens.now) (kinds_of rest) front.goes (kinds_of behind) (kinds_of after) c.in_ok-member.ensures.end comma.end (kinds-less after rest (omega (arith, reads.shorter, comma.shorter)));
      formed = ap (list_all (λ x. member_is_formed x false)) items ∙ all-push (λ x. member_is_formed x false) old member front.formed reads.formed;
      spells = subst (λ l. Spells file (trailed member_pieces l) c.args.tokens.now after) (sym items) (spells-trailed member_pieces file old member c.args.tokens.now rest behind after front.spells reads.spells comma.heads);
      no_longer = omega (arith, reads.shorter, comma.shorter, front.no_longer);
    }

pub members-returns-in-None-clause-end : goal.members-returns-in-None-clause-end
members-returns-in-None-clause-end t c =
    items-ends (mapping_member (inside c.args.room 10 false)) (kinds_of c.args.tokens.now) (kinds_of c.members.rest.now) c.members.invariant.goes (kinds_of c.in_ok-member.behind.now) c.in_ok-member.ensures.end c.in-None.ensures.end

pub members-returns-in-None-clause-reads : goal.members-returns-in-None-clause-reads
members-returns-in-None-clause-reads t c =
    let file = c.args.self.file in
    let front = c.members.invariant in
    let reads = c.in_ok-member.ensures.reads in
    let old = c.members.members.items in
    let member = c.in_ok-member.member in
    let items = c.in_ok-push.ensures.items in
    let behind = c.in_ok-member.behind.now in
    record {
      formed = ap (list_all (λ x. member_is_formed x false)) items ∙ all-push (λ x. member_is_formed x false) old member front.formed reads.formed;
      spells = subst (λ l. Spells file (separated Comma (map member_pieces l)) c.args.tokens.now behind) (sym items) (subst (λ ps. Spells file (separated Comma ps) c.args.tokens.now behind) (sym (map-append member_pieces old (member ∷ []))) (spells-last member_pieces file old (member_pieces member) c.args.tokens.now c.members.rest.now behind front.spells reads.spells));
      shorter = omega (arith, reads.shorter, front.no_longer);
    }

-- ---- a level whose operand is missing

pub chain-returns-in_err-whole-clause-end : goal.chain-returns-in_err-whole-clause-end
chain-returns-in_err-whole-clause-end t c =
    let r = inside c.args.room in
    let m = c.args.self.middle in
    let ks = kinds_of c.args.tokens.now in
    let e : IfMissing c.in_err-whole.field-0.0 (up_to r m (rank c.args.level) ks ≡ None) =
    if-missing c.in_err-whole.field-0.0 (λ none. subst (λ (i : ℕ). up_to r m i ks ≡ None) (sym c.requires.next) (next-missing r m (rank c.args.tighter) ks c.requires.lower c.requires.upper none)) c.in_err-whole.ensures.end in
    search rules

pub comparison-returns-in_err-left-clause-end : goal.comparison-returns-in_err-left-clause-end
comparison-returns-in_err-left-clause-end t c =
    let r = inside c.args.room in
    let m = c.args.self.middle in
    let ks = kinds_of c.args.tokens.now in
    let e : IfMissing c.in_err-left.field-0.0 (up_to r m 4 ks ≡ None) = if-missing c.in_err-left.field-0.0 (next-missing r m 3 ks (omega arith) (omega arith)) c.in_err-left.ensures.end in
    search rules

pub elvis-returns-in_err-left-clause-end : goal.elvis-returns-in_err-left-clause-end
elvis-returns-in_err-left-clause-end t c =
    let r = inside c.args.room in
    let m = c.args.self.middle in
    let ks = kinds_of c.args.tokens.now in
    let e : IfMissing c.in_err-left.field-0.0 (up_to r m 8 ks ≡ None) = if-missing c.in_err-left.field-0.0 (next-missing r m 7 ks (omega arith) (omega arith)) c.in_err-left.ensures.end in
    search rules

pub conditional-returns-in_err-condition-clause-end : goal.conditional-returns-in_err-condition-clause-end
conditional-returns-in_err-condition-clause-end t c =
    let r = inside c.args.room in
    let m = c.args.self.middle in
    let ks = kinds_of c.args.tokens.now in
    let e : IfMissing c.in_err-condition.field-0.0 (up_to r m 9 ks ≡ None) = if-missing c.in_err-condition.field-0.0 (next-missing r m 8 ks (omega arith) (omega arith)) c.in_err-condition.ensures.end in
    search rules

-- ---- comparisons

pub comparison-returns-in-Some-clause-end : goal.comparison-returns-in-Some-clause-end
comparison-returns-in-Some-clause-end t c =
    let reads = rw c.in-Some.is at c.in_ok-right.ensures.reads in
    let one = ap length reads.1.splits in
    compare-found (inside c.args.room) c.args.self.middle (kinds_of c.args.tokens.now) c.in_ok-left.rest.now c.in-Some.after.now (omega (arith, reads.2.shorter)) c.in_ok-left.ensures.end (rw c.in-Some.is at c.in_ok-right.ensures.end)

pub comparison-returns-in-Some-clause-reads : goal.comparison-returns-in-Some-clause-reads
comparison-returns-in-Some-clause-reads t c =
    let m = c.args.self.middle in
    let left = c.in_ok-left.left.value in
    let op = c.in-Some.right.0 in
    let operand = c.in-Some.right.1.value in
    let reads = rw c.in-Some.is at c.in_ok-right.ensures.reads in
    let same = rw c.in-Some.is at c.in_ok-right.ensures.operator in
    let tight = rw c.in-Some.is at c.in_ok-right.ensures.binds in
    let first = c.in_ok-left.ensures in
    let made = c.in_ok-binary_of.ensures in
    let whole = c.in_ok-binary_of.field-0.value in
    let rank_is : op_rank op ≡ 4 = ap rank same in
    joins c.args.self.file c.args.tokens.now c.in-Some.after.now c.in_ok-left.rest.now reads.0 c.place-at.result (expr_pieces left) (expr_pieces operand) (expr_pieces whole) (binary_sign op) (expr_is_formed left m) (expr_is_formed operand m) (expr_is_formed whole m) c.place-at.ensures first.reads reads.1 reads.2 made.pieces
    (made.formed m (takes-compare op (level left) (level operand) rank_is (omega (arith, first.binds)) (omega (arith, tight))) first.reads.formed reads.2.formed)

pub comparison-returns-in-None-clause-end : goal.comparison-returns-in-None-clause-end
comparison-returns-in-None-clause-end t c =
    let r = inside c.args.room in
    let m = c.args.self.middle in
    let rs = kinds_of c.in_ok-left.rest.now in
    let missing = rw c.in-None.is at c.in_ok-ty.ensures in
    compare-stays r m (kinds_of c.args.tokens.now) rs c.in_ok-left.ensures.end (rw c.in_default.is at c.in_ok-right.ensures.end) (leaves-missing (test (type_at m) rs) c.tested.result missing.0 missing.1 c.tested.ensures.end)

pub comparison-returns-in_ok-test_of-in-Some-2-clause-end : goal.comparison-returns-in_ok-test_of-in-Some-2-clause-end
comparison-returns-in_ok-test_of-in-Some-2-clause-end t c =
    let r = inside c.args.room in
    let m = c.args.self.middle in
    let ok = rw c.in-Some-2.is at c.in_ok-ty.ensures in
    let reads = rw ok at c.tested.ensures.reads in
    let found = leaves-found (test (type_at m) (kinds_of c.in_ok-left.rest.now)) c.tested.result (c.in-Some-2.ty, c.in-Some-2.after) ok c.tested.ensures.end in
    test-found r m (kinds_of c.args.tokens.now) c.in_ok-left.rest.now c.in-Some-2.after.now reads.shorter c.in_ok-left.ensures.end (rw c.in_default.is at c.in_ok-right.ensures.end) found

-- ---- `?:`

pub elvis-returns-in_default-clause-end : goal.elvis-returns-in_default-clause-end
elvis-returns-in_default-clause-end t c =
    let m = c.args.self.middle in
    elvis-stays (inside c.args.room) m (kinds_of c.args.tokens.now) (kinds_of c.in_ok-left.rest.now) c.in_ok-left.ensures.end (ap (λ o. o >>= inside c.args.room 8 m) (sym c.in_default.ensures.end))

pub elvis-returns-in-None-clause-end : goal.elvis-returns-in-None-clause-end
elvis-returns-in-None-clause-end t c =
    let m = c.args.self.middle in
    let missing = rw c.in-None.is at c.in_ok-right.ensures in
    let none = leaves-missing (inside c.args.room 8 m (kinds_of c.in-Some.after.now)) c.inner.result missing.0 missing.1 c.inner.ensures.end in
    elvis-stays (inside c.args.room) m (kinds_of c.args.tokens.now) (kinds_of c.in_ok-left.rest.now) c.in_ok-left.ensures.end (ap (λ o. o >>= inside c.args.room 8 m) (sym c.in-Some.ensures.end) ∙ none)

pub elvis-returns-in_ok-binary_of-in-Some-2-clause-end : goal.elvis-returns-in_ok-binary_of-in-Some-2-clause-end
elvis-returns-in_ok-binary_of-in-Some-2-clause-end t c =
    let m = c.args.self.middle in
    let ok = rw c.in-Some-2.is at c.in_ok-right.ensures in
    let reads = rw ok at c.inner.ensures.reads in
    let found = leaves-found (inside c.args.room 8 m (kinds_of c.in-Some.after.now)) c.inner.result (c.in-Some-2.right, c.in-Some-2.after) ok c.inner.ensures.end in
    elvis-found (inside c.args.room) m (kinds_of c.args.tokens.now) c.in_ok-left.rest.now c.in-Some-2.after.now (omega (arith, reads.shorter, c.in-Some.ensures.shorter)) c.in_ok-left.ensures.end (ap (λ o. o >>= inside c.args.room 8 m) (sym c.in-Some.ensures.end) ∙ found)

pub elvis-returns-in_ok-binary_of-in-Some-2-clause-reads : goal.elvis-returns-in_ok-binary_of-in-Some-2-clause-reads
elvis-returns-in_ok-binary_of-in-Some-2-clause-reads t c =
    let m = c.args.self.middle in
    let left = c.in_ok-left.left.value in
    let op = c.in-Some.op in
    let operand = c.in-Some-2.right.value in
    let ok = rw c.in-Some-2.is at c.in_ok-right.ensures in
    let reads = rw ok at c.inner.ensures.reads in
    let binds = rw ok at c.inner.ensures.binds in
    let first = c.in_ok-left.ensures in
    let made = c.in_ok-binary_of-in-Some-2.ensures in
    let whole = c.in_ok-binary_of-in-Some-2.field-0.value in
    let rank_is : op_rank op ≡ 8 = ap rank c.in-Some.ensures.level in
    joins c.args.self.file c.args.tokens.now c.in-Some-2.after.now c.in_ok-left.rest.now c.in-Some.after.now c.place-at.result (expr_pieces left) (expr_pieces operand) (expr_pieces whole) (binary_sign op) (expr_is_formed left m) (expr_is_formed operand m) (expr_is_formed whole m) c.place-at.ensures first.reads c.in-Some.ensures.heads reads made.pieces
    (made.formed m (takes-elvis op (level left) (level operand) rank_is (omega (arith, first.binds)) (omega (arith, binds))) first.reads.formed reads.formed)

-- ---- `? :`

pub conditional-returns-in-None-clause-end : goal.conditional-returns-in-None-clause-end
conditional-returns-in-None-clause-end t c =
    let r = inside c.args.room in
    let m = c.args.self.middle in
    let rs = kinds_of c.in_ok-condition.rest.now in
    let missing = rw c.in-None.is at c.in_ok-branches.ensures in
    conditional-stays r m (kinds_of c.args.tokens.now) rs c.in_ok-condition.ensures.end (leaves-missing (branches_read (r 9 true) (r 9 m) rs) c.branches.result missing.0 missing.1 c.branches.ensures.end)

pub conditional-returns-in_ok-conditional_of-in-Some-clause-end : goal.conditional-returns-in_ok-conditional_of-in-Some-clause-end
conditional-returns-in_ok-conditional_of-in-Some-clause-end t c =
    let r = inside c.args.room in
    let m = c.args.self.middle in
    let ok = rw c.in-Some.is at c.in_ok-branches.ensures in
    let reads = rw ok at c.branches.ensures.reads in
    let found = leaves-found (branches_read (r 9 true) (r 9 m) (kinds_of c.in_ok-condition.rest.now)) c.branches.result (c.in-Some.branches, c.in-Some.after) ok c.branches.ensures.end in
    conditional-found r m (kinds_of c.args.tokens.now) c.in_ok-condition.rest.now c.in-Some.after.now reads.shorter c.in_ok-condition.ensures.end found

pub conditional-returns-in_ok-conditional_of-in-Some-clause-reads : goal.conditional-returns-in_ok-conditional_of-in-Some-clause-reads
conditional-returns-in_ok-conditional_of-in-Some-clause-reads t c =
    let m = c.args.self.middle in
    let condition = c.in_ok-condition.condition.value in
    let middle = c.in-Some.branches.0.value in
    let last = c.in-Some.branches.1.value in
    let ok = rw c.in-Some.is at c.in_ok-branches.ensures in
    let reads = rw ok at c.branches.ensures.reads in
    let fits = rw ok at c.branches.ensures.fits in
    let behind = rw ok at c.branches.ensures.behind in
    let middle_binds = rw ok at c.branches.ensures.middle_binds in
    let last_binds = rw ok at c.branches.ensures.last_binds in
    let first = c.in_ok-condition.ensures in
    let made = c.in_ok-conditional_of-in-Some.ensures in
    let whole = c.in_ok-conditional_of-in-Some.field-0.value in
    let formed = both_pass (expr_is_formed middle true) (expr_is_formed last m) reads.formed in
    let open_end = no-type-end (end_of condition).in_type (take_sign Question (kinds_of c.in_ok-condition.rest.now)) behind first.ended.no_question in
    ends_in c.args.self.file c.args.tokens.now c.in-Some.after.now c.in_ok-condition.rest.now c.place-at.result (expr_pieces condition) (sign Question & expr_pieces middle & sign Colon & expr_pieces last) (expr_pieces whole) (expr_is_formed condition m) (expr_is_formed middle true && expr_is_formed last m) (expr_is_formed whole m) c.place-at.ensures first.reads reads made.pieces
    (made.formed m (omega (arith, first.binds)) open_end middle_binds last_binds fits first.reads.formed formed.0 formed.1)

pub branches-returns-clause-reads : goal.branches-returns-clause-reads
branches-returns-clause-reads t c =
    let m = c.args.self.middle in
    let question = c.in_ok-rest.ensures in
    let colon = c.in_ok-rest-2.ensures in
    let middle = rw (c.between.ensures.file, c.between.ensures.middle) at c.in_ok-middle.ensures.reads in
    let last = c.in_ok-last.ensures.reads in
    record {
      formed = both-true (expr_is_formed c.in_ok-middle.middle.value true) (expr_is_formed c.in_ok-last.last.value m) middle.formed last.formed;
      spells = (c.in_ok-rest.rest.now, question.heads, (c.in_ok-middle.rest.now, middle.spells, (c.in_ok-rest-2.rest.now, colon.heads, last.spells)));
      shorter = omega (arith, question.shorter, middle.shorter, colon.shorter, last.shorter);
    }

pub branches-returns-clause-fits : goal.branches-returns-clause-fits
branches-returns-clause-fits t c =
    no-name-behind c.args.self.file (end_of c.in_ok-middle.middle.value).in_int c.in_ok-last.last.value c.in_ok-middle.rest.now c.in_ok-rest-2.rest.now c.in_ok-last.rest.now c.in_ok-middle.ensures.ended.no_name c.in_ok-rest-2.ensures.heads c.in_ok-last.ensures.reads.spells

-- ---- what stands before an operand

pub tight-returns-in-Some-clause-reads : goal.tight-returns-in-Some-clause-reads
tight-returns-in-Some-clause-reads t c =
    let fits = no_looser-prefix (level c.in_ok-operand.operand.value) c.in_ok-operand.ensures.binds in
    let spelled = c.in-Some.ensures.spells c.args.self.file in
    let operand = c.in_ok-operand.ensures.reads in
    search (rules, spelling, expr_readings)

pub cast-returns-clause-reads : goal.cast-returns-clause-reads
cast-returns-clause-reads t c =
    let fits = no_looser-prefix (level c.in_ok-operand.operand.value) c.in_ok-operand.ensures.binds in
    search (rules, spelling, expr_readings)

-- ---- neither `trap` nor an anonymous function

pub loosest-returns-clause-end : goal.loosest-returns-clause-end
loosest-returns-clause-end t c =
    let r = inside c.args.room in
    let m = c.args.self.middle in
    let ks = kinds_of c.args.tokens.now in
    let no_trap : is_some (take_key Trap ks) ≡ false = ap is_some (sym c.after_key.ensures.end) ∙ some-map _ c.after_key.result ∙ sym c.is_some.ensures ∙ c.if-is_some.false in
    let no_function : is_some (take_function ks) ≡ false = sym c.begins_function.ensures ∙ c.if-begins_function.false in
    subst (λ o. Leaves o c.up_to.result) (sym (loosest-level r m ks no_trap no_function)) c.up_to.ensures.end

-- ---- members, lists, errors

pub mapping_member-returns-clause-end : goal.mapping_member-returns-clause-end
mapping_member-returns-clause-end t c =
    let br = inside c.args.room 10 false in
    ap (λ o. o >>= take_sign Colon >>= br) c.in_ok-key.ensures.end ∙ ap (λ o. o >>= br) c.in_ok-rest.ensures.end ∙ rw c.bracketed.ensures.middle at c.in_ok-value.ensures.end

pub details-returns-clause-end : goal.details-returns-clause-end
details-returns-clause-end t c =
    let br = inside c.args.room 10 false in
    let rs = kinds_of c.loop-details.rest.now in
    let missing = rw c.in_default.is at c.in_ok-detail.ensures in
    let none = leaves-missing (detail br rs) c.detail.result missing.0 missing.1 c.detail.ensures.end in
    sym (details-end br (kinds_of c.args.tokens.now) rs c.loop-details.invariant.goes none)

pub details-loop-details-preserved : goal.details-loop-details-preserved
details-loop-details-preserved t c =
    let file = c.args.self.file in
    let br = inside c.args.room 10 false in
    let front = c.loop-details.invariant in
    let rest = c.loop-details.rest.now in
    let after = c.in-Some.after.now in
    let old = c.loop-details.details.items in
    let d = c.in-Some.detail in
    let ok = rw c.in-Some.is at c.in_ok-detail.ensures in
    let reads = rw ok at c.detail.ensures.reads in
    let found = leaves-found (detail br (kinds_of rest)) c.detail.result (d, c.in-Some.after) ok c.detail.ensures.end in
    let items = c.in_ok-push.ensures.items in
    record {
      goes = details-goes br (kinds_of c.args.tokens.now) (kinds_of rest) front.goes (kinds_of after) found (kinds-less after rest reads.shorter);
      formed = ap (list_all (λ x. detail_is_formed x false)) items ∙ all-push (λ x. detail_is_formed x false) old d front.formed reads.formed;
      spells = subst (λ l. Spells file (behind Comma (map detail_pieces l)) c.args.tokens.now after) (sym items) (spells-behind detail_pieces file old d c.args.tokens.now rest after front.spells reads.spells);
      no_longer = omega (arith, reads.shorter, front.no_longer);
    }

pub error-returns-clause-end : goal.error-returns-clause-end
error-returns-clause-end t c =
    let br = inside c.args.room 10 false in
    ap (λ o. o >>= take_sign OpenParen >>= br >>= cause br >>= λ a. take_sign CloseParen (details br a)) c.in_ok-rest.ensures.end
    ∙ ap (λ o. o >>= br >>= cause br >>= λ a. take_sign CloseParen (details br a)) c.in_ok-rest-2.ensures.end
    ∙ ap (λ o. o >>= cause br >>= λ a. take_sign CloseParen (details br a)) (rw c.bracketed.ensures.middle at c.in_ok-message.ensures.end)
    ∙ ap (λ o. o >>= λ a. take_sign CloseParen (details br a)) c.in_ok-cause.ensures.end
    ∙ ap (take_sign CloseParen) (sym c.in_ok-details.ensures.end) ∙ c.in_ok-rest-3.ensures.end

pub error-returns-clause-reads : goal.error-returns-clause-reads
error-returns-clause-reads t c =
    let m = c.args.self.middle in
    let at = c.place-at.result in
    let word = c.in_ok-rest.ensures in
    let opens = c.in_ok-rest-2.ensures in
    let closes = c.in_ok-rest-3.ensures in
    let message = c.in_ok-message.message in
    let cause_now = c.in_ok-cause.cause in
    let details_now = c.in_ok-details.details in
    let reads = rw (c.bracketed.ensures.file, c.bracketed.ensures.middle) at c.in_ok-message.ensures.reads in
    let because = c.in_ok-cause.ensures in
    let listed = c.in_ok-details.ensures in
    reads-as c.args.self.file c.args.tokens.now c.in_ok-rest-3.rest.now (expr_is_formed message.value false && (cause_is_formed cause_now && list_all (λ d. detail_is_formed d false) details_now.items)) (primary_is_formed (Error message cause_now details_now at) m) (starts at & key ErrorKey & sign OpenParen & expr_pieces message.value & if_boxed (λ e. as_next (expr_pieces e)) cause_now & behind Comma (map detail_pieces details_now.items) & sign CloseParen) (primary_pieces (Error message cause_now details_now at)) (error-formed message cause_now details_now at m) (error-pieces message cause_now details_now at)
    record {
      formed = both-true (expr_is_formed message.value false) (cause_is_formed cause_now && list_all (λ d. detail_is_formed d false) details_now.items) reads.formed (both-true (cause_is_formed cause_now) (list_all (λ d. detail_is_formed d false) details_now.items) because.formed listed.formed);
      spells = (c.args.tokens.now, (c.place-at.ensures, refl), (c.in_ok-rest.rest.now, word.heads, (c.in_ok-rest-2.rest.now, opens.heads, (c.in_ok-message.rest.now, reads.spells, (c.in_ok-cause.rest.now, because.spells, (c.in_ok-details.rest.now, listed.spells, closes.heads))))));
      shorter = omega (arith, word.shorter, opens.shorter, reads.shorter, because.no_longer, listed.no_longer, closes.shorter);
    }

pub list-returns-clause-end : goal.list-returns-clause-end
list-returns-clause-end t c = ap (λ o. o >>= items_until (inside c.args.room 10 false) CloseBracket) c.in_ok-inside.ensures.end ∙ c.in_ok-items.ensures.end

pub list-returns-in_err-items-clause-end : goal.list-returns-in_err-items-clause-end
list-returns-in_err-items-clause-end t c =
    let br = inside c.args.room 10 false in
    let ks = kinds_of c.args.tokens.now in
    let e : IfMissing c.in_err-items.field-0.0 (list br ks ≡ None) = if-missing c.in_err-items.field-0.0 (λ none. ap (λ o. o >>= items_until br CloseBracket) c.in_ok-inside.ensures.end ∙ none) c.in_err-items.ensures.end in
    search rules

pub arguments-returns-clause-end : goal.arguments-returns-clause-end
arguments-returns-clause-end t c = ap (λ o. o >>= items_until (inside c.args.room 10 false) CloseParen) c.in_ok-inside.ensures.end ∙ c.in_ok-args.ensures.end

pub arguments-returns-in_err-args-clause-end : goal.arguments-returns-in_err-args-clause-end
arguments-returns-in_err-args-clause-end t c =
    let br = inside c.args.room 10 false in
    let ks = kinds_of c.args.tokens.now in
    let e : IfMissing c.in_err-args.field-0.0 (arguments br ks ≡ None) = if-missing c.in_err-args.field-0.0 (λ none. ap (λ o. o >>= items_until br CloseParen) c.in_ok-inside.ensures.end ∙ none) c.in_err-args.ensures.end in
    search rules
