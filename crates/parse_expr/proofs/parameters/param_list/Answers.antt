use Rattle.std.proofs.Common.{rules, ◌≡◌, true, ◌&&◌, List, [], ◌∷◌, ◌++◌, map, None, Some, length, refl, sym, ap, ◌∙◌, subst, arith}
use Rattle.std.specs.List.{list_all}
use Rattle.std.proofs.lemmas.List.{map-append}
use Rattle.bal_base.specs.declared.token.TokenKind.TheVariants.{Sign as SignKind}
use Rattle.bal_base.specs.declared.token.Sign.TheVariants.{Comma, Ellipsis}
use Rattle.bal_tree.specs.declared.params.Param.{Param}
use Rattle.bal_tree.specs.Pieces.{separated}
use Rattle.bal_tree.specs.Spells.{Spells, kinds_of}
use Rattle.bal_tree.specs.TypePieces.{param_pieces, rest_param_pieces}
use Rattle.bal_tree.specs.TypeRules.{param_is_formed}
use Rattle.parse_types.specs.Starts.{IfMissing}
use Rattle.parse_types.proofs.Commas.{trailed, spells-trailed, spells-last}
use Rattle.parse_types.proofs.Holding.{if-missing}
use Rattle.parse_types.proofs.Readings.{both-true, all-push, heads-kinds, kinds-less}
use Rattle.parse_expr.specs.Reaches.{param_list}
use Rattle.parse_expr.proofs.Listing.{params-missing, params-rest, params-nameless, params-end, params-goes}
use Rattle.parse_expr.proofs.parameters.param_list.Goals as goal

pub returns-in_err-ty-clause-end : goal.returns-in_err-ty-clause-end
returns-in_err-ty-clause-end c =
    let ks = kinds_of c.args.tokens.now in
    let e : IfMissing c.in_err-ty.field-0.0 (param_list ks ≡ None) = if-missing c.in_err-ty.field-0.0 (params-missing ks (kinds_of c.params.rest.now) c.params.invariant.goes) c.in_err-ty.ensures.end in
    search rules

pub returns-in_err-name-clause-end : goal.returns-in_err-name-clause-end
returns-in_err-name-clause-end c =
    let ks = kinds_of c.args.tokens.now in
    let ellipsis = heads-kinds (SignKind Ellipsis) c.in_ok-ty.behind.now c.in-Some.after.now c.in-Some.ensures.heads in
    let at = params-rest ks (kinds_of c.params.rest.now) c.params.invariant.goes (kinds_of c.in-Some.after.now) (c.in_ok-ty.ensures.end ∙ ap Some ellipsis) in
    let e : IfMissing c.in_err-name.field-0.0 (param_list ks ≡ None) = if-missing c.in_err-name.field-0.0 (λ none. at ∙ none) c.in_err-name.ensures.end in
    search rules

pub returns-in-Some-clause-end : goal.returns-in-Some-clause-end
returns-in-Some-clause-end c =
    let ellipsis = heads-kinds (SignKind Ellipsis) c.in_ok-ty.behind.now c.in-Some.after.now c.in-Some.ensures.heads in
    params-rest (kinds_of c.args.tokens.now) (kinds_of c.params.rest.now) c.params.invariant.goes (kinds_of c.in-Some.after.now) (c.in_ok-ty.ensures.end ∙ ap Some ellipsis) ∙ c.in_ok-name.ensures.end

pub returns-in-Some-clause-reads : goal.returns-in-Some-clause-reads
returns-in-Some-clause-reads c =
    let front = c.params.invariant in
    let reads = c.in_ok-ty.ensures.reads in
    let named = c.in_ok-name.ensures.reads in
    let ellipsis = c.in-Some.ensures in
    let old = c.params.params.items in
    let last : Param = record { ty = c.in_ok-ty.ty; name = c.in_ok-name.name; at = c.place-at.result } in
    record {
      formed = both-true (list_all param_is_formed old) (param_is_formed last) front.formed reads.formed;
      spells = spells-last param_pieces c.args.file old (rest_param_pieces last) c.args.tokens.now c.params.rest.now c.in_ok-name.after.now front.spells
          (c.params.rest.now, (c.place-at.ensures, refl), (c.in-Some.after.now, (c.in_ok-ty.behind.now, reads.spells, ellipsis.heads), named.spells));
      shorter = omega (arith, reads.shorter, ellipsis.shorter, named.shorter, front.no_longer);
    }

pub returns-in_err-name-2-clause-end : goal.returns-in_err-name-2-clause-end
returns-in_err-name-2-clause-end c =
    let ks = kinds_of c.args.tokens.now in
    let e : IfMissing c.in_err-name-2.field-0.0 (param_list ks ≡ None) = if-missing c.in_err-name-2.field-0.0 (params-nameless ks (kinds_of c.params.rest.now) c.params.invariant.goes (kinds_of c.in_ok-ty.behind.now) c.in_ok-ty.ensures.end c.in_default.ensures.end) c.in_err-name-2.ensures.end in
    search rules

pub params-preserved : goal.params-preserved
params-preserved c =
    let file = c.args.file in
    let front = c.params.invariant in
    let reads = c.in_ok-ty.ensures.reads in
    let named = c.in_ok-name-2.ensures in
    let comma = c.in-Some-after_sign.ensures in
    let old = c.params.params.items in
    let p : Param = record { ty = c.in_ok-ty.ty; name = c.in_ok-name-2.name; at = c.place-at.result } in
    let items = c.in_ok-push.ensures.items in
    let after = c.in-Some-after_sign.after.now in
    let here : Spells file (param_pieces p) c.params.rest.now c.in_ok-name-2.behind.now = (c.params.rest.now, (c.place-at.ensures, refl), (c.in_ok-ty.behind.now, reads.spells, named.reads.spells)) in
    record {
      goes = params-goes (kinds_of c.args.tokens.now) (kinds_of c.params.rest.now) front.goes (kinds_of c.in_ok-ty.behind.now) c.in_ok-ty.ensures.end (kinds_of c.in_ok-name-2.behind.now) (kinds_of after) named.end comma.end (kinds-less after c.params.rest.now (omega (arith, reads.shorter, named.reads.shorter, comma.shorter)));
      formed = ap (list_all param_is_formed) items ∙ all-push param_is_formed old p front.formed reads.formed;
      spells = subst (λ l. Spells file (trailed param_pieces l) c.args.tokens.now after) (sym items) (spells-trailed param_pieces file old p c.args.tokens.now c.params.rest.now c.in_ok-name-2.behind.now after front.spells here comma.heads);
      no_longer = omega (arith, reads.shorter, named.reads.shorter, comma.shorter, front.no_longer);
    }

pub returns-in-None-clause-end : goal.returns-in-None-clause-end
returns-in-None-clause-end c =
    params-end (kinds_of c.args.tokens.now) (kinds_of c.params.rest.now) c.params.invariant.goes (kinds_of c.in_ok-ty.behind.now) c.in_ok-ty.ensures.end (kinds_of c.in_ok-name-2.behind.now) c.in_default.ensures.end c.in_ok-name-2.ensures.end c.in-None.ensures.end

pub returns-in-None-clause-reads : goal.returns-in-None-clause-reads
returns-in-None-clause-reads c =
    let file = c.args.file in
    let front = c.params.invariant in
    let reads = c.in_ok-ty.ensures.reads in
    let named = c.in_ok-name-2.ensures.reads in
    let old = c.params.params.items in
    let p : Param = record { ty = c.in_ok-ty.ty; name = c.in_ok-name-2.name; at = c.place-at.result } in
    let items = c.in_ok-push.ensures.items in
    let rest = c.in_ok-name-2.behind.now in
    let here : Spells file (param_pieces p) c.params.rest.now rest = (c.params.rest.now, (c.place-at.ensures, refl), (c.in_ok-ty.behind.now, reads.spells, named.spells)) in
    record {
      formed = ap (λ l. list_all param_is_formed l && true) items ∙ both-true (list_all param_is_formed (old ++ p ∷ [])) true (all-push param_is_formed old p front.formed reads.formed) refl;
      spells = subst (λ l. Spells file (separated Comma (map param_pieces l)) c.args.tokens.now rest) (sym items) (subst (λ ps. Spells file (separated Comma ps) c.args.tokens.now rest) (sym (map-append param_pieces old (p ∷ []))) (spells-last param_pieces file old (param_pieces p) c.args.tokens.now c.params.rest.now rest front.spells here));
      shorter = omega (arith, reads.shorter, named.shorter, front.no_longer);
    }
