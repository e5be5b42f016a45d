use Rattle.std.proofs.Common.{◌≡◌, [], ◌∷◌, ◌++◌, ◌&&◌, true, false, map, length, Some, refl, sym, ap, ◌∙◌, subst, arith}
use Rattle.std.specs.List.{list_all}
use Rattle.bal_base.specs.declared.token.Keyword.TheVariants.{Match as MatchKey}
use Rattle.bal_base.specs.declared.token.Sign.TheVariants.{OpenBrace, CloseBrace}
use Rattle.bal_tree.specs.ActionRules.{has_members}
use Rattle.bal_tree.specs.ExprPieces.{expr_pieces}
use Rattle.bal_tree.specs.ExprRules.{expr_is_formed}
use Rattle.bal_tree.specs.Pieces.{starts, ◌&◌, key, sign, joined}
use Rattle.bal_tree.specs.Spells.{Spells, kinds_of}
use Rattle.bal_tree.specs.StmtPieces.{block_pieces, clause_pieces, foreach_head, if_pieces, stmt_pieces}
use Rattle.bal_tree.specs.StmtRules.{block_is_formed, clause_is_formed, if_is_formed, local_type_is_formed, range_is_formed, stmt_is_formed}
use Rattle.bal_tree.specs.declared.stmt.Stmt.TheVariants.{Foreach, Match}
use Rattle.bal_tree.proofs.Spelling.{spells-onto}
use Rattle.parse_types.specs.Loops.{◌>>=◌, many}
use Rattle.parse_types.proofs.Commas.{spells-joined}
use Rattle.parse_types.proofs.Holding.{leaves-missing, leaves-found}
use Rattle.parse_types.proofs.Law.{both_pass}
use Rattle.parse_types.proofs.Levels.{loop-more, loop-done}
use Rattle.parse_types.proofs.Readings.{all-push, both-true, kinds-less, reads-as}
use Rattle.parse_stmt.specs.Chosen.{AreChosen, led_in_clause, led_in_clauses, led_in_else, led_in_stmt, led_in_stmts}
use Rattle.parse_stmt.specs.Reaches.{clause, clauses, inside, stmt}
use Rattle.parse_stmt.proofs.ChosenMaking.{block-chosen, block-stmt-chosen, clause-chosen, else-block-chosen, else-if-chosen, foreach-chosen, if-chosen, if-stmt-chosen, match-chosen, more-chosen, none-chosen, while-chosen, whole-chosen}
use Rattle.parse_stmt.proofs.ChosenReading.{own-chosen}
use Rattle.parse_stmt.proofs.Going.{stmts-is}
use Rattle.parse_stmt.proofs.KnownAll.{known}
use Rattle.parse_stmt.proofs.Making.{block-made, block-made-formed, foreach-formed, foreach-pieces, match-formed, match-pieces}
use Rattle.parse_stmt.proofs.StmtReadings.{has-one-more, inside-leaves, on-done, on-goes, shorter-of}
use Rattle.parse_stmt.proofs.reader.StmtReader.+stmts.Goals as goal

-- ---- inside others

pub inner_block-returns-clause-end : goal.inner_block-returns-clause-end
inner_block-returns-clause-end t c = inside-leaves c.args.room false c.args.tokens.now c.block.result c.if-room-eq0.false c.block.ensures.end (shorter-of block_is_formed block_pieces c.args.self.file c.args.tokens.now c.block.result c.block.ensures.reads)

pub inner_if-returns-clause-end : goal.inner_if-returns-clause-end
inner_if-returns-clause-end t c = inside-leaves c.args.room true c.args.tokens.now c.if_stmt.result c.if-room-eq0.false c.if_stmt.ensures.end (shorter-of if_is_formed if_pieces c.args.self.file c.args.tokens.now c.if_stmt.result c.if_stmt.ensures.reads)

-- ---- statements

pub stmts-loop-stmts-preserved : goal.stmts-loop-stmts-preserved
stmts-loop-stmts-preserved t c =
    let step = stmt (inside c.args.room) in
    let ks = kinds_of c.args.tokens.now in
    let front = c.loop-stmts.invariant in
    let old = c.loop-stmts.stmts.items in
    let rest = c.loop-stmts.rest.now in
    let after = c.in-Some.after.now in
    let next = c.in-Some.s in
    let ok = rw c.in-Some.is at c.in_ok-s.ensures in
    let found = leaves-found (step (kinds_of rest)) c.stmt.result (next, c.in-Some.after) ok c.stmt.ensures.end in
    let reads = rw ok at c.stmt.ensures.reads in
    let within = rw ok at c.stmt.ensures.chosen in
    let own = own-chosen known c.args.room (stmt_pieces next) (kinds_of after) (ap step (sym (spells-onto c.args.self.file (stmt_pieces next) rest after reads.spells)) ∙ found) in
    let items = c.in_ok-push.ensures.items in
    let inner = inside c.args.room in
    record {
      goes = stmts-is inner ks ∙ on-goes step ks (kinds_of rest) (kinds_of after) (sym (stmts-is inner ks) ∙ front.goes ∙ stmts-is inner (kinds_of rest)) found (kinds-less after rest reads.shorter) ∙ sym (stmts-is inner (kinds_of after));
      chosen = subst (λ l. AreChosen (led_in_stmts l)) (sym items) (more-chosen led_in_stmt old next front.chosen (whole-chosen (stmt_pieces next) (led_in_stmt next) within own));
      formed = ap (list_all stmt_is_formed) items ∙ all-push stmt_is_formed old next front.formed reads.formed;
      spells = subst (λ l. Spells c.args.self.file (joined (map stmt_pieces l)) c.args.tokens.now after) (sym items) (spells-joined stmt_pieces c.args.self.file old next c.args.tokens.now rest after front.spells reads.spells);
      no_longer = omega (arith, reads.shorter, front.no_longer);
    }

pub stmts-returns-clause-end : goal.stmts-returns-clause-end
stmts-returns-clause-end t c =
    let inner = inside c.args.room in
    let step = stmt inner in
    let ks = kinds_of c.args.tokens.now in
    let rest = c.loop-stmts.rest.now in
    let missing = rw c.in_default.is at c.in_ok-s.ensures in
    on-done step ks (kinds_of rest) (sym (stmts-is inner ks) ∙ c.loop-stmts.invariant.goes ∙ stmts-is inner (kinds_of rest)) (leaves-missing (step (kinds_of rest)) c.stmt.result missing.0 missing.1 c.stmt.ensures.end) ∙ sym (stmts-is inner ks)

pub block-returns-clause-reads : goal.block-returns-clause-reads
block-returns-clause-reads t c =
    let file = c.args.self.file in
    let tokens = c.args.tokens.now in
    let b = c.new.result in
    let made = c.new.ensures in
    let stmts = c.in_ok-stmts.stmts in
    let close = c.place-close.result in
    let at = c.place-at.result in
    let rest = c.in_ok-rest.rest.now in
    let inside_now = c.in_ok-inside.inside.now in
    let behind = c.in_ok-stmts.behind.now in
    let opens = c.in_ok-inside.ensures in
    let closes = c.in_ok-rest.ensures in
    let inner = c.in_ok-stmts.ensures in
    reads-as file tokens rest (list_all stmt_is_formed stmts.items) (block_is_formed b) (starts at & sign OpenBrace & joined (map stmt_pieces stmts.items) & starts close & sign CloseBrace) (block_pieces b) (block-made-formed b stmts made.stmts) (block-made b stmts close at made.stmts made.close made.at)
    record {
      formed = inner.formed;
      spells = (tokens, (c.place-at.ensures, refl), (inside_now, opens.heads, (behind, inner.spells, (behind, (c.place-close.ensures, refl), closes.heads))));
      shorter = omega (arith, opens.shorter, inner.no_longer, closes.shorter);
    }

-- ---- clauses

pub clauses-loop-clauses-init : goal.clauses-loop-clauses-init
clauses-loop-clauses-init t c =
    let file = c.args.self.file in
    let tokens = c.args.tokens.now in
    let first = c.in_ok-first.first in
    let rest = c.in_ok-first.rest.now in
    let reads = c.in_ok-first.ensures.reads in
    let none = c.new-clauses.ensures.items in
    let items : c.push.new.self.items ≡ first ∷ [] = c.in_ok-push.ensures.items ∙ ap (λ l. l ++ first ∷ []) none in
    record {
      goes = ap (λ o. o >>= λ a. Some (many length (clause (inside c.args.room)) a)) c.in_ok-first.ensures.end;
      some = ap has_members items;
      chosen = subst (λ l. AreChosen (led_in_clauses l)) (sym items) (more-chosen led_in_clause [] first none-chosen c.in_ok-first.ensures.chosen);
      formed = ap (list_all clause_is_formed) items ∙ all-push clause_is_formed [] first refl reads.formed;
      spells = subst (λ l. Spells file (joined (map clause_pieces l)) tokens rest) (sym items) (spells-joined clause_pieces file [] first tokens tokens rest refl reads.spells);
      shorter = reads.shorter;
    }

pub clauses-loop-clauses-preserved : goal.clauses-loop-clauses-preserved
clauses-loop-clauses-preserved t c =
    let step = clause (inside c.args.room) in
    let front = c.loop-clauses.invariant in
    let old = c.loop-clauses.clauses.items in
    let rest = c.loop-clauses.rest.now in
    let after = c.in-Some.after.now in
    let next = c.in-Some.next in
    let ok = rw c.in-Some.is at c.in_ok-next.ensures in
    let found = leaves-found (step (kinds_of rest)) c.clause-in-loop-clauses.result (next, c.in-Some.after) ok c.clause-in-loop-clauses.ensures.end in
    let reads = rw ok at c.clause-in-loop-clauses.ensures.reads in
    let items = c.in_ok-push-2.ensures.items in
    record {
      goes = loop-more length step (clauses (inside c.args.room) (kinds_of c.args.tokens.now)) (kinds_of rest) (kinds_of after) front.goes (sym found) (kinds-less after rest reads.shorter);
      some = ap has_members items ∙ has-one-more old next;
      chosen = subst (λ l. AreChosen (led_in_clauses l)) (sym items) (more-chosen led_in_clause old next front.chosen (rw ok at c.clause-in-loop-clauses.ensures.chosen));
      formed = ap (list_all clause_is_formed) items ∙ all-push clause_is_formed old next front.formed reads.formed;
      spells = subst (λ l. Spells c.args.self.file (joined (map clause_pieces l)) c.args.tokens.now after) (sym items) (spells-joined clause_pieces c.args.self.file old next c.args.tokens.now rest after front.spells reads.spells);
      shorter = omega (arith, reads.shorter, front.shorter);
    }

pub clauses-returns-clause-end : goal.clauses-returns-clause-end
clauses-returns-clause-end t c =
    let step = clause (inside c.args.room) in
    let rest = c.loop-clauses.rest.now in
    let missing = rw c.in_default.is at c.in_ok-next.ensures in
    loop-done length step (clauses (inside c.args.room) (kinds_of c.args.tokens.now)) (kinds_of rest) c.loop-clauses.invariant.goes (sym (leaves-missing (step (kinds_of rest)) c.clause-in-loop-clauses.result missing.0 missing.1 c.clause-in-loop-clauses.ensures.end))

pub match_stmt-returns-clause-reads : goal.match_stmt-returns-clause-reads
match_stmt-returns-clause-reads t c =
    let file = c.args.self.file in
    let tokens = c.args.tokens.now in
    let value = c.in_ok-value.value in
    let list = c.in_ok-clauses.clauses in
    let at = c.place-at.result in
    let word = c.in_ok-rest.ensures in
    let v = c.in_ok-value.ensures.reads in
    let opens = c.in_ok-inside.ensures in
    let l = c.in_ok-clauses.ensures.reads in
    let closes = c.in_ok-rest-2.ensures in
    reads-as file tokens c.in_ok-rest-2.rest.now ((expr_is_formed value.value false && has_members list.items) && list_all clause_is_formed list.items) (stmt_is_formed (Match value list at)) (starts at & key MatchKey & expr_pieces value.value & sign OpenBrace & joined (map clause_pieces list.items) & sign CloseBrace) (stmt_pieces (Match value list at)) (match-formed value list at) (match-pieces value list at)
    record {
      formed = let b = both_pass (has_members list.items) (list_all clause_is_formed list.items) l.formed in both-true (expr_is_formed value.value false && has_members list.items) (list_all clause_is_formed list.items) (both-true (expr_is_formed value.value false) (has_members list.items) v.formed b.0) b.1;
      spells = (tokens, (c.place-at.ensures, refl), (c.in_ok-rest.rest.now, word.heads, (c.in_ok-value.rest.now, v.spells, (c.in_ok-inside.inside.now, opens.heads, (c.in_ok-clauses.rest.now, l.spells, closes.heads)))));
      shorter = omega (arith, word.shorter, v.shorter, opens.shorter, l.shorter, closes.shorter);
    }

pub foreach-returns-clause-reads : goal.foreach-returns-clause-reads
foreach-returns-clause-reads t c =
    let file = c.args.self.file in
    let tokens = c.args.tokens.now in
    let ty = c.in_ok-ty.ty in
    let name = c.in_ok-ty.name in
    let from = c.in_ok-ty.from in
    let range = c.in_ok-ty.range in
    let body = c.in_ok-body.body in
    let at = c.place-at.result in
    let h = c.in_ok-ty.ensures.reads in
    let b = c.in_ok-body.ensures.reads in
    reads-as file tokens c.in_ok-body.rest.now (((local_type_is_formed ty && expr_is_formed from.value false) && range_is_formed range) && (block_is_formed body && true)) (stmt_is_formed (Foreach ty name from range body at)) (starts at & foreach_head ty name from.value range & block_pieces body) (stmt_pieces (Foreach ty name from range body at)) (foreach-formed ty name from range body at) (foreach-pieces ty name from range body at)
    record {
      formed = both-true ((local_type_is_formed ty && expr_is_formed from.value false) && range_is_formed range) (block_is_formed body && true) h.formed (both-true (block_is_formed body) true b.formed refl);
      spells = (tokens, (c.place-at.ensures, refl), (c.in_ok-ty.rest.now, h.spells, b.spells));
      shorter = omega (arith, h.shorter, b.shorter);
    }

-- ---- what is chosen

pub block-returns-clause-chosen : goal.block-returns-clause-chosen
block-returns-clause-chosen t c = block-chosen c.new.result c.in_ok-stmts.stmts c.new.ensures.stmts c.in_ok-stmts.ensures.chosen

pub if_stmt-returns-clause-chosen : goal.if_stmt-returns-clause-chosen
if_stmt-returns-clause-chosen t c =
    let made = c.new.ensures in
    if-chosen c.new.result c.in_ok-then.then c.in_ok-otherwise.otherwise made.then made.otherwise c.in_ok-then.ensures.chosen c.in_ok-otherwise.ensures.chosen

pub while_stmt-returns-clause-chosen : goal.while_stmt-returns-clause-chosen
while_stmt-returns-clause-chosen t c = while-chosen c.in_ok-condition.condition c.in_ok-body.body c.place-at.result c.in_ok-body.ensures.chosen

pub foreach-returns-clause-chosen : goal.foreach-returns-clause-chosen
foreach-returns-clause-chosen t c =
    let head = c.in_ok-ty in
    foreach-chosen head.ty head.name head.from head.range c.in_ok-body.body c.place-at.result c.in_ok-body.ensures.chosen

pub match_stmt-returns-clause-chosen : goal.match_stmt-returns-clause-chosen
match_stmt-returns-clause-chosen t c = match-chosen c.in_ok-value.value c.in_ok-clauses.clauses c.place-at.result c.in_ok-clauses.ensures.chosen

pub clause-returns-clause-chosen : goal.clause-returns-clause-chosen
clause-returns-clause-chosen t c = clause-chosen c.new.result c.in_ok-body.body c.new.ensures.body c.in_ok-body.ensures.chosen

pub brace_stmt-returns-clause-chosen : goal.brace_stmt-returns-clause-chosen
brace_stmt-returns-clause-chosen t c = block-stmt-chosen c.in_ok-block.block c.in_ok-block.ensures.chosen

pub keyword_stmt-returns-in_ok-s-in-If-clause-chosen : goal.keyword_stmt-returns-in_ok-s-in-If-clause-chosen
keyword_stmt-returns-in_ok-s-in-If-clause-chosen t c = if-stmt-chosen c.in_ok-s-in-If.s c.in_ok-s-in-If.ensures.chosen

pub else_behind-returns-then-is_some-clause-chosen : goal.else_behind-returns-then-is_some-clause-chosen
else_behind-returns-then-is_some-clause-chosen t c = subst (λ e. AreChosen (led_in_else e)) (sym c.in_ok-new.ensures.ok) (else-if-chosen c.in_ok-s.s c.in_ok-s.ensures.chosen)

pub else_behind-returns-clause-chosen : goal.else_behind-returns-clause-chosen
else_behind-returns-clause-chosen t c = subst (λ e. AreChosen (led_in_else e)) (sym c.in_ok-new-2.ensures.ok) (else-block-chosen c.in_ok-b.b c.in_ok-b.ensures.chosen)
