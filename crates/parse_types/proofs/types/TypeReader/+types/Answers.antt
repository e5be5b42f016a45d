use Rattle.std.proofs.Common.{rules, ◌≡◌, true, false, ◌&&◌, [], ◌∷◌, ◌++◌, map, None, Some, length, refl, sym, ap, ◌∙◌, subst, arith}
use Rattle.std.specs.Prelude.{option_map}
use Rattle.std.specs.List.{list_all}
use Rattle.std.proofs.lemmas.List.{map-append}
use Rattle.bal_base.specs.declared.token.Sign.TheVariants.{Bar, Ampersand, Comma, Ellipsis, OpenBrace, CloseBrace, OpenBraceBar, CloseBraceBar, OpenBracket, CloseBracket, OpenParen, CloseParen}
use Rattle.bal_base.specs.declared.token.TokenKind.TheVariants.{Sign as SignKind}
use Rattle.bal_base.specs.declared.token.Keyword.TheVariants.{Record}
use Rattle.bal_tree.specs.Pieces.{◌&◌, starts, joined, separated, sign, key}
use Rattle.bal_tree.specs.Spells.{Spells, kinds_of}
use Rattle.bal_tree.specs.TypePieces.{type_pieces, intersection_pieces, postfix_type_pieces, primary_type_pieces, field_pieces, param_type_pieces, param_types_pieces, as_rest, with_last_boxed}
use Rattle.bal_tree.specs.TypeRules.{type_is_formed, intersection_is_formed, postfix_type_is_formed, primary_type_is_formed, field_is_formed, param_type_is_formed, param_types_are_formed}
use Rattle.bal_tree.specs.declared.types.PrimaryType.TheVariants.{Tuple, ClosedRecord, OpenRecord}
use Rattle.parse_types.specs.Listings.{rest_is_formed, rest_field_pieces}
use Rattle.parse_types.specs.Loops.{◌>>=◌, or_else}
use Rattle.token_steps.specs.Tokens.{take_sign}
use Rattle.parse_types.specs.Reaches.{open_at, tuple, params, record_type, record_behind, open_record, left_length, suffix_step, ampersand_step, bar_step, postfix, intersection, union, inside, type_list, param_list, fields}
use Rattle.parse_types.specs.Starts.{IfMissing, type_left, intersection_left, postfix_left}
use Rattle.parse_types.specs.Suffixes.{suffix_pieces, suffix_fits}
use Rattle.parse_types.proofs.Levels.{loop-more, loop-done}
use Rattle.parse_types.proofs.Readings.{joins, ends_in, reads-as, both-true, all-push, heads-kinds, kinds-less}
use Rattle.parse_types.proofs.Commas.{trailed, spells-trailed, spells-last, spells-joined}
use Rattle.parse_types.proofs.Law.{both_pass}
use Rattle.parse_types.proofs.Listing.{type_list-missing, param_list-missing, type_list-rest, type_list-ends, type_list-goes, param_list-rest, param_list-ends, param_list-goes, fields-ends, fields-rest, fields-missing, fields-goes}
use Rattle.parse_types.proofs.Holding.{leaves-missing, leaves-found, no-rest, if-missing, so-missing}
use Rattle.parse_types.proofs.TypeReadings.{tuple-pieces, tuple-formed, closed_record-pieces, closed_record-formed, open_record-pieces, open_record-formed, field-made, field-made-formed, param-made, param-made-formed, params-pieces, params-formed, function-reads, params-reads}
use Rattle.parse_types.proofs.types.TypeReader.+types.Goals as goal

-- ---- unions

pub type_tree-returns-clause-end : goal.type_tree-returns-clause-end
type_tree-returns-clause-end t c =
    let n = c.args.room in
    let m = c.args.self.middle in
    loop-done left_length (bar_step (inside n) m) (union (inside n) m (kinds_of c.args.tokens.now)) (type_left c.loop-whole.whole (kinds_of c.loop-whole.rest.now)) c.loop-whole.invariant.goes (rw c.in_default.is at c.in_ok-right.ensures.end)

pub type_tree-loop-whole-preserved : goal.type_tree-loop-whole-preserved
type_tree-loop-whole-preserved t c =
    let n = c.args.room in
    let m = c.args.self.middle in
    let whole = c.loop-whole.whole in
    let rest = c.loop-whole.rest.now in
    let new = c.in_ok-whole.whole in
    let after = c.in-Some.after.now in
    let e = rw c.in-Some.is at c.in_ok-right.ensures.end in
    let r = rw c.in-Some.is at c.in_ok-right.ensures.reads in
    let left = c.loop-whole.invariant.reads in
    let made = c.in_ok-whole.ensures in
    let one = ap length r.1.1.splits in
    record {
      goes = loop-more left_length (bar_step (inside n) m) (union (inside n) m (kinds_of c.args.tokens.now)) (type_left whole (kinds_of rest)) (type_left new (kinds_of after)) c.loop-whole.invariant.goes (ap (λ b. Some record { in_result = b; rest = kinds_of after }) made.end ∙ e) (kinds-less after rest (omega (arith, r.1.2.shorter)));
      reads = joins c.args.self.file c.args.tokens.now after rest r.1.0 c.place-at.result (type_pieces whole) (intersection_pieces c.in-Some.right) (type_pieces new) Bar (type_is_formed whole m) (intersection_is_formed c.in-Some.right m) (type_is_formed new m) c.place-at.ensures left r.1.1 r.1.2 made.pieces (made.formed m r.0 left.formed r.1.2.formed);
    }

-- ---- intersections

pub intersection-returns-clause-end : goal.intersection-returns-clause-end
intersection-returns-clause-end t c =
    let n = c.args.room in
    let m = c.args.self.middle in
    loop-done left_length (ampersand_step (inside n) m) (intersection (inside n) m (kinds_of c.args.tokens.now)) (intersection_left c.loop-whole.whole (kinds_of c.loop-whole.rest.now)) c.loop-whole.invariant.goes (rw c.in_default.is at c.in_ok-right.ensures.end)

pub intersection-loop-whole-preserved : goal.intersection-loop-whole-preserved
intersection-loop-whole-preserved t c =
    let n = c.args.room in
    let m = c.args.self.middle in
    let whole = c.loop-whole.whole in
    let rest = c.loop-whole.rest.now in
    let new = c.in_ok-whole.whole in
    let after = c.in-Some.after.now in
    let e = rw c.in-Some.is at c.in_ok-right.ensures.end in
    let r = rw c.in-Some.is at c.in_ok-right.ensures.reads in
    let left = c.loop-whole.invariant.reads in
    let made = c.in_ok-whole.ensures in
    let one = ap length r.1.1.splits in
    record {
      goes = loop-more left_length (ampersand_step (inside n) m) (intersection (inside n) m (kinds_of c.args.tokens.now)) (intersection_left whole (kinds_of rest)) (intersection_left new (kinds_of after)) c.loop-whole.invariant.goes (ap (λ b. Some record { in_result = b; rest = kinds_of after }) made.end ∙ e) (kinds-less after rest (omega (arith, r.1.2.shorter)));
      reads = joins c.args.self.file c.args.tokens.now after rest r.1.0 c.place-at.result (intersection_pieces whole) (postfix_type_pieces c.in-Some.right) (intersection_pieces new) Ampersand (intersection_is_formed whole m) (postfix_type_is_formed c.in-Some.right m) (intersection_is_formed new m) c.place-at.ensures left r.1.1 r.1.2 made.pieces (made.formed m r.0 left.formed r.1.2.formed);
    }

-- ---- suffixes

pub postfix-returns-clause-end : goal.postfix-returns-clause-end
postfix-returns-clause-end t c =
    loop-done left_length suffix_step (postfix (inside c.args.room) c.args.self.middle (kinds_of c.args.tokens.now)) (postfix_left c.loop-suffix.whole (kinds_of c.loop-suffix.rest.now)) c.loop-suffix.invariant.goes c.in_default.ensures.end

pub postfix-loop-suffix-preserved : goal.postfix-loop-suffix-preserved
postfix-loop-suffix-preserved t c =
    let m = c.args.self.middle in
    let whole = c.loop-suffix.whole in
    let rest = c.loop-suffix.rest.now in
    let new = c.in_ok-whole.whole in
    let after = c.in-Some.after.now in
    let left = c.loop-suffix.invariant.reads in
    let behind = c.in-Some.ensures.reads c.args.self.file in
    let made = c.in_ok-whole.ensures in
    record {
      goes = loop-more left_length suffix_step (postfix (inside c.args.room) m (kinds_of c.args.tokens.now)) (postfix_left whole (kinds_of rest)) (postfix_left new (kinds_of after)) c.loop-suffix.invariant.goes (ap (λ b. Some record { in_result = b; rest = kinds_of after }) made.stays_open ∙ c.in-Some.ensures.end) (kinds-less after rest behind.shorter);
      reads = ends_in c.args.self.file c.args.tokens.now after rest c.place-at.result (postfix_type_pieces whole) (suffix_pieces c.in-Some.suffix) (postfix_type_pieces new) (postfix_type_is_formed whole m) (suffix_fits c.in-Some.suffix) (postfix_type_is_formed new m) c.place-at.ensures left behind made.pieces (made.formed m c.in-Some.ensures.was_open left.formed behind.formed);
    }

pub postfix-loop-suffix-smaller : goal.postfix-loop-suffix-smaller
postfix-loop-suffix-smaller t c = omega (arith, (c.in-Some.ensures.reads 0).shorter)

-- ---- lists of types

pub type_list-returns-in-Some-clause-end : goal.type_list-returns-in-Some-clause-end
type_list-returns-in-Some-clause-end t c =
    let ellipsis = heads-kinds (SignKind Ellipsis) c.in_ok-t.behind.now c.in-Some.after.now c.in-Some.ensures.heads in
    type_list-rest c.args.room c.args.self.middle (kinds_of c.args.tokens.now) (kinds_of c.types.rest.now) (kinds_of c.in-Some.after.now) c.types.invariant.goes (c.in_ok-t.ensures.end ∙ ap Some ellipsis)

pub type_list-returns-in-Some-clause-reads : goal.type_list-returns-in-Some-clause-reads
type_list-returns-in-Some-clause-reads t c =
    let m = c.args.self.middle in
    let reads = c.in_ok-t.ensures.reads in
    let front = c.types.invariant in
    let last = c.in_ok-t.t.value in
    record {
      formed = both-true (list_all (λ x. type_is_formed x m) c.types.members.items) (type_is_formed last m) front.formed reads.formed;
      spells = spells-last type_pieces c.args.self.file c.types.members.items (as_rest (type_pieces last)) c.args.tokens.now c.types.rest.now c.in-Some.after.now front.spells (c.in_ok-t.behind.now, reads.spells, c.in-Some.ensures.heads);
      shorter = omega (arith, reads.shorter, c.in-Some.ensures.shorter, front.no_longer);
    }

pub type_list-types-preserved : goal.type_list-types-preserved
type_list-types-preserved t c =
    let m = c.args.self.middle in
    let reads = c.in_ok-t.ensures.reads in
    let comma = c.in-Some-after_sign.ensures in
    let front = c.types.invariant in
    let member = c.in_ok-t.t.value in
    let same : c.into_inner-member.result ≡ member = search rules in
    let items = c.in_ok-push.ensures.items ∙ ap (λ y. c.types.members.items ++ y ∷ []) same in
    record {
      goes = type_list-goes c.args.room m (kinds_of c.args.tokens.now) (kinds_of c.types.rest.now) (kinds_of c.in_ok-t.behind.now) (kinds_of c.in-Some-after_sign.after.now) front.goes c.in_ok-t.ensures.end comma.end (kinds-less c.in-Some-after_sign.after.now c.types.rest.now (omega (arith, reads.shorter, comma.shorter)));
      formed = ap (list_all (λ x. type_is_formed x m)) items ∙ all-push (λ x. type_is_formed x m) c.types.members.items member front.formed reads.formed;
      spells = subst (λ l. Spells c.args.self.file (trailed type_pieces l) c.args.tokens.now c.in-Some-after_sign.after.now) (sym items) (spells-trailed type_pieces c.args.self.file c.types.members.items member c.args.tokens.now c.types.rest.now c.in_ok-t.behind.now c.in-Some-after_sign.after.now front.spells reads.spells comma.heads);
      no_longer = omega (arith, reads.shorter, comma.shorter, front.no_longer);
    }

pub type_list-returns-in-None-clause-end : goal.type_list-returns-in-None-clause-end
type_list-returns-in-None-clause-end t c =
    type_list-ends c.args.room c.args.self.middle (kinds_of c.args.tokens.now) (kinds_of c.types.rest.now) (kinds_of c.in_ok-t.behind.now) c.types.invariant.goes c.in_ok-t.ensures.end c.in_default.ensures.end c.in-None.ensures.end

pub type_list-returns-in-None-clause-reads : goal.type_list-returns-in-None-clause-reads
type_list-returns-in-None-clause-reads t c =
    let m = c.args.self.middle in
    let file = c.args.self.file in
    let reads = c.in_ok-t.ensures.reads in
    let front = c.types.invariant in
    let old = c.types.members.items in
    let member = c.in_ok-t.t.value in
    let same : c.into_inner-member.result ≡ member = search rules in
    let items = c.in_ok-push.ensures.items ∙ ap (λ y. old ++ y ∷ []) same in
    record {
      formed = ap (λ l. list_all (λ x. type_is_formed x m) l && true) items ∙ both-true (list_all (λ x. type_is_formed x m) (old ++ member ∷ [])) true (all-push (λ x. type_is_formed x m) old member front.formed reads.formed) refl;
      spells = subst (λ l. Spells file (separated Comma (map type_pieces l)) c.args.tokens.now c.in_ok-t.behind.now) (sym items) (subst (λ ps. Spells file (separated Comma ps) c.args.tokens.now c.in_ok-t.behind.now) (sym (map-append type_pieces old (member ∷ []))) (spells-last type_pieces file old (type_pieces member) c.args.tokens.now c.types.rest.now c.in_ok-t.behind.now front.spells reads.spells));
      shorter = omega (arith, reads.shorter, front.no_longer);
    }

pub type_list-returns-in_err-t-clause-end : goal.type_list-returns-in_err-t-clause-end
type_list-returns-in_err-t-clause-end t c =
    let n = c.args.room in
    let m = c.args.self.middle in
    let ks = kinds_of c.args.tokens.now in
    let e : IfMissing c.in_err-t.field-0.0 (type_list (inside n m) ks ≡ None) = if-missing c.in_err-t.field-0.0 (type_list-missing n m ks (kinds_of c.types.rest.now) c.types.invariant.goes) c.in_err-t.ensures.end in
    search rules

-- ---- tuples

pub tuple-returns-in-Some-clause-reads : goal.tuple-returns-in-Some-clause-reads
tuple-returns-in-Some-clause-reads t c =
    let m = c.args.self.middle in
    let members = c.new-members.result in
    let none : members.items ≡ [] = search rules in
    let opens = c.in_ok-inside.ensures in
    let closes = c.in-Some.ensures in
    reads-as c.args.self.file c.args.tokens.now c.in-Some.rest.now (list_all (λ x. type_is_formed x false) members.items && true) (primary_type_is_formed (Tuple members None c.place-at.result) m) (starts c.place-at.result & sign OpenBracket & separated Comma (map type_pieces members.items) & sign CloseBracket) (primary_type_pieces (Tuple members None c.place-at.result)) (tuple-formed members None c.place-at.result m) (tuple-pieces members None c.place-at.result)
    record {
      formed = ap (λ l. list_all (λ x. type_is_formed x false) l && true) none;
      spells = (c.args.tokens.now, (c.place-at.ensures, refl), (c.in_ok-inside.inside.now, opens.heads, (c.in_ok-inside.inside.now, subst (λ l. Spells c.args.self.file (separated Comma (map type_pieces l)) c.in_ok-inside.inside.now c.in_ok-inside.inside.now) (sym none) refl, closes.heads)));
      shorter = omega (arith, opens.shorter, closes.shorter);
    }

pub tuple-returns-clause-reads : goal.tuple-returns-clause-reads
tuple-returns-clause-reads t c =
    let m = c.args.self.middle in
    let inner = c.bracketed.ensures in
    let listed = rw (inner.file, inner.middle) at c.in_ok-listed.ensures.reads in
    let opens = c.in_ok-inside.ensures in
    let closes = c.in_ok-rest.ensures in
    let members = c.in_ok-listed.listed.0 in
    let last = c.in_ok-listed.listed.1 in
    let at = c.place-at.result in
    reads-as c.args.self.file c.args.tokens.now c.in_ok-rest.rest.now (list_all (λ x. type_is_formed x false) members.items && rest_is_formed false last) (primary_type_is_formed (Tuple members last at) m) (starts at & sign OpenBracket & separated Comma (with_last_boxed (λ x. as_rest (type_pieces x)) (map type_pieces members.items) last) & sign CloseBracket) (primary_type_pieces (Tuple members last at)) (tuple-formed members last at m) (tuple-pieces members last at)
    record {
      formed = listed.formed;
      spells = (c.args.tokens.now, (c.place-at.ensures, refl), (c.in_ok-inside.inside.now, opens.heads, (c.in_ok-listed.behind.now, listed.spells, closes.heads)));
      shorter = omega (arith, opens.shorter, listed.shorter, closes.shorter);
    }

-- no closing bracket
pub tuple-returns-in_err-rest-clause-end : goal.tuple-returns-in_err-rest-clause-end
tuple-returns-in_err-rest-clause-end t c =
    let r = inside c.args.room false in
    let within = kinds_of c.in_ok-inside.inside.now in
    let listed : type_list r within ≡ Some (kinds_of c.in_ok-listed.behind.now) = rw c.bracketed.ensures.middle at c.in_ok-listed.ensures.end in
    let e : IfMissing c.in_err-rest.field-0.0 (option_map open_at (tuple r (kinds_of c.args.tokens.now)) ≡ None) =
    so-missing c.in_err-rest.field-0.0
    (ap (λ o. option_map open_at (o >>= λ a. or_else (take_sign CloseBracket a) (type_list r a >>= take_sign CloseBracket))) c.in_ok-inside.ensures.end
    ∙ ap (λ o. option_map open_at (or_else o (type_list r within >>= take_sign CloseBracket))) (sym c.in_default.ensures.end)
    ∙ ap (λ o. option_map open_at (o >>= take_sign CloseBracket)) listed ∙ ap (option_map open_at) c.in_err-rest.ensures.end)
    in
    search rules

-- ---- parameters of function types

pub param_list-returns-in-Some-clause-end : goal.param_list-returns-in-Some-clause-end
param_list-returns-in-Some-clause-end t c =
    let ellipsis = heads-kinds (SignKind Ellipsis) c.in_ok-ty.behind.now c.in-Some.after.now c.in-Some.ensures.heads in
    param_list-rest c.args.room c.args.self.middle (kinds_of c.args.tokens.now) (kinds_of c.params.rest.now) (kinds_of c.in-Some.after.now) c.params.invariant.goes (c.in_ok-ty.ensures.end ∙ ap Some ellipsis)

pub param_list-returns-in-Some-clause-reads : goal.param_list-returns-in-Some-clause-reads
param_list-returns-in-Some-clause-reads t c =
    let m = c.args.self.middle in
    let reads = c.in_ok-ty.ensures.reads in
    let front = c.params.invariant in
    let last = c.in_ok-ty.ty.value in
    record {
      formed = both-true (list_all (λ x. param_type_is_formed x m) c.params.members.items) (type_is_formed last m) front.formed reads.formed;
      spells = spells-last param_type_pieces c.args.self.file c.params.members.items (as_rest (type_pieces last)) c.args.tokens.now c.params.rest.now c.in-Some.after.now front.spells (c.in_ok-ty.behind.now, reads.spells, c.in-Some.ensures.heads);
      shorter = omega (arith, reads.shorter, c.in-Some.ensures.shorter, front.no_longer);
    }

pub param_list-params-preserved : goal.param_list-params-preserved
param_list-params-preserved t c =
    let m = c.args.self.middle in
    let file = c.args.self.file in
    let reads = c.in_ok-ty.ensures.reads in
    let named = c.word_if_there-name in
    let comma = c.in-Some-after_sign.ensures in
    let front = c.params.invariant in
    let old = c.params.members.items in
    let made = c.new-param.ensures in
    let p = c.new-param.result in
    let ty = c.in_ok-ty.ty in
    let at = c.place-at.result in
    let items = c.in_ok-push.ensures.items in
    let pieces = param-made p ty named.result.0 at made.ty made.name made.at in
    let here : Spells file (param_type_pieces p) c.params.rest.now named.result.1.now = subst (λ q. Spells file q c.params.rest.now named.result.1.now) (sym pieces) (c.params.rest.now, (c.place-at.ensures, refl), (c.in_ok-ty.behind.now, reads.spells, named.ensures.spells)) in
    record {
      goes = param_list-goes c.args.room m (kinds_of c.args.tokens.now) (kinds_of c.params.rest.now) (kinds_of c.in_ok-ty.behind.now) (kinds_of named.result.1.now) (kinds_of c.in-Some-after_sign.after.now) front.goes c.in_ok-ty.ensures.end named.ensures.end comma.end (kinds-less c.in-Some-after_sign.after.now c.params.rest.now (omega (arith, reads.shorter, comma.shorter, named.ensures.no_longer)));
      formed = ap (list_all (λ x. param_type_is_formed x m)) items ∙ all-push (λ x. param_type_is_formed x m) old p front.formed (param-made-formed p ty m made.ty ∙ reads.formed);
      spells = subst (λ l. Spells file (trailed param_type_pieces l) c.args.tokens.now c.in-Some-after_sign.after.now) (sym items) (spells-trailed param_type_pieces file old p c.args.tokens.now c.params.rest.now named.result.1.now c.in-Some-after_sign.after.now front.spells here comma.heads);
      no_longer = omega (arith, reads.shorter, comma.shorter, named.ensures.no_longer, front.no_longer);
    }

pub param_list-returns-in-None-clause-end : goal.param_list-returns-in-None-clause-end
param_list-returns-in-None-clause-end t c =
    param_list-ends c.args.room c.args.self.middle (kinds_of c.args.tokens.now) (kinds_of c.params.rest.now) (kinds_of c.in_ok-ty.behind.now) (kinds_of c.word_if_there-name.result.1.now) c.params.invariant.goes c.in_ok-ty.ensures.end c.in_default.ensures.end c.word_if_there-name.ensures.end c.in-None.ensures.end

pub param_list-returns-in-None-clause-reads : goal.param_list-returns-in-None-clause-reads
param_list-returns-in-None-clause-reads t c =
    let m = c.args.self.middle in
    let file = c.args.self.file in
    let reads = c.in_ok-ty.ensures.reads in
    let named = c.word_if_there-name in
    let front = c.params.invariant in
    let old = c.params.members.items in
    let made = c.new-param.ensures in
    let p = c.new-param.result in
    let ty = c.in_ok-ty.ty in
    let at = c.place-at.result in
    let rest = named.result.1.now in
    let items = c.in_ok-push.ensures.items in
    let pieces = param-made p ty named.result.0 at made.ty made.name made.at in
    let here : Spells file (param_type_pieces p) c.params.rest.now rest = subst (λ q. Spells file q c.params.rest.now rest) (sym pieces) (c.params.rest.now, (c.place-at.ensures, refl), (c.in_ok-ty.behind.now, reads.spells, named.ensures.spells)) in
    record {
      formed = ap (λ l. list_all (λ x. param_type_is_formed x m) l && true) items ∙ both-true (list_all (λ x. param_type_is_formed x m) (old ++ p ∷ [])) true (all-push (λ x. param_type_is_formed x m) old p front.formed (param-made-formed p ty m made.ty ∙ reads.formed)) refl;
      spells = subst (λ l. Spells file (separated Comma (map param_type_pieces l)) c.args.tokens.now rest) (sym items) (subst (λ ps. Spells file (separated Comma ps) c.args.tokens.now rest) (sym (map-append param_type_pieces old (p ∷ []))) (spells-last param_type_pieces file old (param_type_pieces p) c.args.tokens.now c.params.rest.now rest front.spells here));
      shorter = omega (arith, reads.shorter, named.ensures.no_longer, front.no_longer);
    }

pub param_list-returns-in_err-ty-clause-end : goal.param_list-returns-in_err-ty-clause-end
param_list-returns-in_err-ty-clause-end t c =
    let n = c.args.room in
    let m = c.args.self.middle in
    let ks = kinds_of c.args.tokens.now in
    let e : IfMissing c.in_err-ty.field-0.0 (param_list (inside n m) ks ≡ None) = if-missing c.in_err-ty.field-0.0 (param_list-missing n m ks (kinds_of c.params.rest.now) c.params.invariant.goes) c.in_err-ty.ensures.end in
    search rules

-- ---- fields

pub fields-returns-in_default-clause-end : goal.fields-returns-in_default-clause-end
fields-returns-in_default-clause-end t c =
    let n = c.args.room in
    let m = c.args.self.middle in
    let missing = rw c.in_default.is at c.in_ok-ty.ensures in
    let rs = kinds_of c.fields.rest.now in
    fields-ends n m (kinds_of c.args.tokens.now) rs c.fields.invariant.goes (leaves-missing (inside n m rs) c.inner.result missing.0 missing.1 c.inner.ensures.end)

pub fields-returns-in-Some-after_sign-clause-end : goal.fields-returns-in-Some-after_sign-clause-end
fields-returns-in-Some-after_sign-clause-end t c =
    let n = c.args.room in
    let m = c.args.self.middle in
    let rs = kinds_of c.fields.rest.now in
    let ok = rw c.in-Some.is at c.in_ok-ty.ensures in
    let found = leaves-found (inside n m rs) c.inner.result (c.in-Some.ty, c.in-Some.behind) ok c.inner.ensures.end in
    let ellipsis = heads-kinds (SignKind Ellipsis) c.in-Some.behind.now c.in-Some-after_sign.after.now c.in-Some-after_sign.ensures.heads in
    fields-rest n m (kinds_of c.args.tokens.now) rs (kinds_of c.in-Some-after_sign.after.now) (Some (kinds_of c.in_ok-after.after.now)) c.fields.invariant.goes (found ∙ ap Some ellipsis) c.in_ok-after.ensures.end

pub fields-returns-in_err-after-clause-end : goal.fields-returns-in_err-after-clause-end
fields-returns-in_err-after-clause-end t c =
    let n = c.args.room in
    let m = c.args.self.middle in
    let ks = kinds_of c.args.tokens.now in
    let rs = kinds_of c.fields.rest.now in
    let ok = rw c.in-Some.is at c.in_ok-ty.ensures in
    let found = leaves-found (inside n m rs) c.inner.result (c.in-Some.ty, c.in-Some.behind) ok c.inner.ensures.end in
    let ellipsis = heads-kinds (SignKind Ellipsis) c.in-Some.behind.now c.in-Some-after_sign.after.now c.in-Some-after_sign.ensures.heads in
    let e : fields (inside n m) ks ≡ None = fields-rest n m ks rs (kinds_of c.in-Some-after_sign.after.now) None c.fields.invariant.goes (found ∙ ap Some ellipsis) c.in_err-after.ensures.end in
    search rules

pub fields-returns-in_err-f-clause-end : goal.fields-returns-in_err-f-clause-end
fields-returns-in_err-f-clause-end t c =
    let n = c.args.room in
    let m = c.args.self.middle in
    let ks = kinds_of c.args.tokens.now in
    let rs = kinds_of c.fields.rest.now in
    let ok = rw c.in-Some.is at c.in_ok-ty.ensures in
    let found = leaves-found (inside n m rs) c.inner.result (c.in-Some.ty, c.in-Some.behind) ok c.inner.ensures.end in
    let e : IfMissing c.in_err-f.field-0.0 (fields (inside n m) ks ≡ None) = if-missing c.in_err-f.field-0.0 (λ none. fields-missing n m ks rs (kinds_of c.in-Some.behind.now) c.fields.invariant.goes found c.in_default-after_sign.ensures.end none) c.in_err-f.ensures.end in
    search rules

pub fields-returns-in-Some-after_sign-clause-formed : goal.fields-returns-in-Some-after_sign-clause-formed
fields-returns-in-Some-after_sign-clause-formed t c =
    let m = c.args.self.middle in
    let ok = rw c.in-Some.is at c.in_ok-ty.ensures in
    let reads = rw ok at c.inner.ensures.reads in
    both-true (list_all (λ x. field_is_formed x m) c.fields.members.items) (type_is_formed c.in-Some.ty.value m) c.fields.invariant.formed reads.formed

pub fields-returns-in-Some-after_sign-clause-spells : goal.fields-returns-in-Some-after_sign-clause-spells
fields-returns-in-Some-after_sign-clause-spells t c =
    let ok = rw c.in-Some.is at c.in_ok-ty.ensures in
    let reads = rw ok at c.inner.ensures.reads in
    let ellipsis = c.in-Some-after_sign.after.now in
    (c.fields.rest.now, c.fields.invariant.spells, (ellipsis, (c.in-Some.behind.now, reads.spells, c.in-Some-after_sign.ensures.heads), c.in_ok-after.ensures.heads))

pub fields-fields-preserved : goal.fields-fields-preserved
fields-fields-preserved t c =
    let n = c.args.room in
    let m = c.args.self.middle in
    let file = c.args.self.file in
    let rs = kinds_of c.fields.rest.now in
    let ok = rw c.in-Some.is at c.in_ok-ty.ensures in
    let found = leaves-found (inside n m rs) c.inner.result (c.in-Some.ty, c.in-Some.behind) ok c.inner.ensures.end in
    let reads = rw ok at c.inner.ensures.reads in
    let f = c.in_ok-f.f in
    let made = c.in_ok-f.ensures in
    let after = c.in_ok-f.after.now in
    let front = c.fields.invariant in
    let old = c.fields.members.items in
    let ty = c.in-Some.ty in
    let at = c.place-at.result in
    let items = c.in_ok-push.ensures.items in
    let pieces = field-made f ty at made.ty made.at in
    let here : Spells file (field_pieces f) c.fields.rest.now after = subst (λ q. Spells file q c.fields.rest.now after) (sym pieces) (c.fields.rest.now, (c.place-at.ensures, refl), (c.in-Some.behind.now, reads.spells, made.reads.spells)) in
    record {
      goes = fields-goes n m (kinds_of c.args.tokens.now) rs (kinds_of c.in-Some.behind.now) (kinds_of after) front.goes found made.end (kinds-less after c.fields.rest.now (omega (arith, reads.shorter, made.reads.shorter)));
      formed = ap (list_all (λ x. field_is_formed x m)) items ∙ all-push (λ x. field_is_formed x m) old f front.formed (field-made-formed f ty m made.ty ∙ reads.formed);
      spells = subst (λ l. Spells file (joined (map field_pieces l)) c.args.tokens.now after) (sym items) (spells-joined field_pieces file old f c.args.tokens.now c.fields.rest.now after front.spells here);
      no_longer = omega (arith, reads.shorter, made.reads.shorter, front.no_longer);
    }

-- ---- the parameters in their parentheses

pub params-returns-in-Some-clause-reads : goal.params-returns-in-Some-clause-reads
params-returns-in-Some-clause-reads t c =
    let m = false in
    let file = c.args.self.file in
    let p = c.new-params.result in
    let made = c.new-params.ensures in
    let members = c.new-none.result in
    let none : members.items ≡ [] = search rules in
    let inside_now = c.in_ok-inside.inside.now in
    let rest = c.in-Some.rest.now in
    let opens = c.in_ok-inside.ensures in
    let closes = c.in-Some.ensures in
    reads-as file c.args.tokens.now rest (list_all (λ q. param_type_is_formed q false) members.items && true) (param_types_are_formed p m) (sign OpenParen & separated Comma (map param_type_pieces members.items) & sign CloseParen) (param_types_pieces p) (params-formed p members None m made.params made.rest) (params-pieces p members None made.params made.rest)
    record {
      formed = ap (λ l. list_all (λ q. param_type_is_formed q false) l && true) none;
      spells = (inside_now, opens.heads, (inside_now, subst (λ l. Spells file (separated Comma (map param_type_pieces l)) inside_now inside_now) (sym none) refl, closes.heads));
      shorter = omega (arith, opens.shorter, closes.shorter);
    }

pub params-returns-clause-reads : goal.params-returns-clause-reads
params-returns-clause-reads t c =
    let m = false in
    let file = c.args.self.file in
    let p = c.new-params-2.result in
    let made = c.new-params-2.ensures in
    let members = c.in_ok-listed.listed.0 in
    let last = c.in_ok-listed.listed.1 in
    let inner = c.bracketed.ensures in
    let listed = rw (inner.file, inner.middle) at c.in_ok-listed.ensures.reads in
    let rest = c.in_ok-rest.rest.now in
    let opens = c.in_ok-inside.ensures in
    let closes = c.in_ok-rest.ensures in
    reads-as file c.args.tokens.now rest (list_all (λ q. param_type_is_formed q false) members.items && rest_is_formed false last) (param_types_are_formed p m) (sign OpenParen & separated Comma (with_last_boxed (λ x. as_rest (type_pieces x)) (map param_type_pieces members.items) last) & sign CloseParen) (param_types_pieces p) (params-formed p members last m made.params made.rest) (params-pieces p members last made.params made.rest)
    record {
      formed = listed.formed;
      spells = (c.in_ok-inside.inside.now, opens.heads, (c.in_ok-listed.behind.now, listed.spells, closes.heads));
      shorter = omega (arith, opens.shorter, listed.shorter, closes.shorter);
    }

-- no closing parenthesis
pub params-returns-in_err-rest-clause-end : goal.params-returns-in_err-rest-clause-end
params-returns-in_err-rest-clause-end t c =
    let r = inside c.args.room false in
    let within = kinds_of c.in_ok-inside.inside.now in
    let listed : param_list r within ≡ Some (kinds_of c.in_ok-listed.behind.now) = rw c.bracketed.ensures.middle at c.in_ok-listed.ensures.end in
    let e : IfMissing c.in_err-rest.field-0.0 (params r (kinds_of c.args.tokens.now) ≡ None) =
    so-missing c.in_err-rest.field-0.0
    (ap (λ o. o >>= λ a. or_else (take_sign CloseParen a) (param_list r a >>= take_sign CloseParen)) c.in_ok-inside.ensures.end
    ∙ ap (λ o. or_else o (param_list r within >>= take_sign CloseParen)) (sym c.in_default.ensures.end)
    ∙ ap (λ o. o >>= take_sign CloseParen) listed ∙ c.in_err-rest.ensures.end)
    in
    search rules

-- ---- record types

pub closed_record-returns-clause-reads : goal.closed_record-returns-clause-reads
closed_record-returns-clause-reads t c =
    let listed = c.in_ok-listed.ensures in
    let closes = c.in_ok-rest.ensures in
    let s = listed.spells in
    record {
      formed = listed.formed;
      spells = (s.0, s.1, (c.in_ok-listed.behind.now, s.2, closes.heads));
      shorter = omega (arith, listed.no_longer, closes.shorter);
    }

pub open_record-returns-clause-reads : goal.open_record-returns-clause-reads
open_record-returns-clause-reads t c =
    let m = c.args.self.middle in
    let file = c.args.self.file in
    let listed = c.in_ok-listed.ensures in
    let closes = c.in_ok-rest.ensures in
    let fs = c.in_ok-listed.listed.0.items in
    let behind = c.in_ok-listed.behind.now in
    let none = no-rest c.in_ok-listed.listed.1 (sym c.is_some.ensures ∙ c.if-is_some.false) in
    let s = subst (λ r. Spells file (joined (map field_pieces fs) & rest_field_pieces r) c.args.tokens.now behind) none listed.spells in
    record {
      formed = (both_pass (list_all (λ x. field_is_formed x m) fs) (rest_is_formed m c.in_ok-listed.listed.1) listed.formed).0;
      spells = (behind, subst (λ x. Spells file (joined (map field_pieces fs)) c.args.tokens.now x) s.2 s.1, closes.heads);
      shorter = omega (arith, listed.no_longer, closes.shorter);
    }

pub record_type-returns-in_ok-listed-in-Some-clause-reads : goal.record_type-returns-in_ok-listed-in-Some-clause-reads
record_type-returns-in_ok-listed-in-Some-clause-reads t c =
    let m = c.args.self.middle in
    let file = c.args.self.file in
    let at = c.place-at.result in
    let fs = c.in_ok-listed-in-Some.listed.0 in
    let last = c.in_ok-listed-in-Some.listed.1 in
    let inner = c.bracketed.ensures in
    let listed = rw (inner.file, inner.middle) at c.in_ok-listed-in-Some.ensures.reads in
    let word = c.in_ok-rest.ensures in
    let opens = c.in-Some.ensures in
    reads-as file c.args.tokens.now c.in_ok-listed-in-Some.behind.now (list_all (λ f. field_is_formed f false) fs.items && rest_is_formed false last) (primary_type_is_formed (ClosedRecord fs last at) m) (starts at & key Record & sign OpenBraceBar & joined (map field_pieces fs.items) & rest_field_pieces last & sign CloseBraceBar) (primary_type_pieces (ClosedRecord fs last at)) (closed_record-formed fs last at m) (closed_record-pieces fs last at)
    record {
      formed = listed.formed;
      spells = (c.args.tokens.now, (c.place-at.ensures, refl), (c.in_ok-rest.rest.now, word.heads, (c.in-Some.inside.now, opens.heads, listed.spells)));
      shorter = omega (arith, word.shorter, opens.shorter, listed.shorter);
    }

pub record_type-returns-in_ok-fields-in-None-clause-reads : goal.record_type-returns-in_ok-fields-in-None-clause-reads
record_type-returns-in_ok-fields-in-None-clause-reads t c =
    let m = c.args.self.middle in
    let file = c.args.self.file in
    let at = c.place-at.result in
    let fs = c.in_ok-fields-in-None.fields in
    let inner = c.bracketed-in-None.ensures in
    let listed = rw (inner.file, inner.middle) at c.in_ok-fields-in-None.ensures.reads in
    let word = c.in_ok-rest.ensures in
    let opens = c.in_ok-inside-in-None.ensures in
    reads-as file c.args.tokens.now c.in_ok-fields-in-None.behind.now (list_all (λ f. field_is_formed f false) fs.items) (primary_type_is_formed (OpenRecord fs at) m) (starts at & key Record & sign OpenBrace & joined (map field_pieces fs.items) & sign CloseBrace) (primary_type_pieces (OpenRecord fs at)) (open_record-formed fs at m) (open_record-pieces fs at)
    record {
      formed = listed.formed;
      spells = (c.args.tokens.now, (c.place-at.ensures, refl), (c.in_ok-rest.rest.now, word.heads, (c.in_ok-inside-in-None.inside.now, opens.heads, listed.spells)));
      shorter = omega (arith, word.shorter, opens.shorter, listed.shorter);
    }

-- what stands between the braces is missing
pub record_type-returns-in_err-listed-in-Some-clause-end : goal.record_type-returns-in_err-listed-in-Some-clause-end
record_type-returns-in_err-listed-in-Some-clause-end t c =
    let r = inside c.args.room false in
    let e : IfMissing c.in_err-listed-in-Some.field-0.0 (option_map open_at (record_type r (kinds_of c.args.tokens.now)) ≡ None) =
    if-missing c.in_err-listed-in-Some.field-0.0
    (λ none.
    ap (λ o. option_map open_at (o >>= λ a. record_behind r (take_sign OpenBraceBar a) a)) c.in_ok-rest.ensures.end
    ∙ ap (λ o. option_map open_at (record_behind r o (kinds_of c.in_ok-rest.rest.now))) (sym c.in-Some.ensures.end) ∙ ap (option_map open_at) none)
    (rw c.bracketed.ensures.middle at c.in_err-listed-in-Some.ensures.end)
    in
    search rules

pub record_type-returns-in_err-fields-in-None-clause-end : goal.record_type-returns-in_err-fields-in-None-clause-end
record_type-returns-in_err-fields-in-None-clause-end t c =
    let r = inside c.args.room false in
    let rest = kinds_of c.in_ok-rest.rest.now in
    let e : IfMissing c.in_err-fields-in-None.field-0.0 (option_map open_at (record_type r (kinds_of c.args.tokens.now)) ≡ None) =
    if-missing c.in_err-fields-in-None.field-0.0
    (λ none.
    ap (λ o. option_map open_at (o >>= λ a. record_behind r (take_sign OpenBraceBar a) a)) c.in_ok-rest.ensures.end
    ∙ ap (λ o. option_map open_at (record_behind r o rest)) (sym c.in-None.ensures.end)
    ∙ ap (λ o. option_map open_at (o >>= open_record r)) c.in_ok-inside-in-None.ensures.end ∙ ap (option_map open_at) none)
    (rw c.bracketed-in-None.ensures.middle at c.in_err-fields-in-None.ensures.end)
    in
    search rules

-- ---- function types

pub function_type-returns-in-None-clause-reads : goal.function_type-returns-in-None-clause-reads
function_type-returns-in-None-clause-reads t c =
    let word = c.isolated_if_there-isolated in
    let function = c.in_ok-rest.ensures in
    function-reads c.args.self.file c.args.tokens.now word.result.1.now c.in_ok-rest.rest.now word.result.0 c.args.self.middle c.place-at.result c.place-at.ensures (word.ensures.spells c.args.self.file) word.ensures.no_longer function.heads

pub function_type-returns-in-None-2-clause-reads : goal.function_type-returns-in-None-2-clause-reads
function_type-returns-in-None-2-clause-reads t c =
    let word = c.isolated_if_there-isolated in
    let function = c.in_ok-rest.ensures in
    let params = rw (rw c.in-Some.is at c.in_ok-optional.ensures) at c.params.ensures.reads in
    params-reads c.args.self.file c.args.tokens.now word.result.1.now c.in_ok-rest.rest.now c.in-Some.rest.now c.in-Some.rest.now word.result.0 c.in-Some.params None c.args.self.middle c.place-at.result c.place-at.ensures (word.ensures.spells c.args.self.file) word.ensures.no_longer function.heads params refl refl (omega arith)

pub function_type-returns-in-Some-2-clause-reads : goal.function_type-returns-in-Some-2-clause-reads
function_type-returns-in-Some-2-clause-reads t c =
    let word = c.isolated_if_there-isolated in
    let function = c.in_ok-rest.ensures in
    let params = rw (rw c.in-Some.is at c.in_ok-optional.ensures) at c.params.ensures.reads in
    let returns = rw (rw c.in-Some-2.is at c.in_ok-optional-in-Some.ensures) at c.returns.ensures.reads in
    params-reads c.args.self.file c.args.tokens.now word.result.1.now c.in_ok-rest.rest.now c.in-Some.rest.now c.in-Some-2.rest.now word.result.0 c.in-Some.params (Some c.in-Some-2.t) c.args.self.middle c.place-at.result c.place-at.ensures (word.ensures.spells c.args.self.file) word.ensures.no_longer function.heads params returns.formed returns.spells (omega (arith, returns.shorter))
