-- The law at the parameters of a function, and at what stands before the `=>` of an anonymous one.
use Rattle.std.proofs.Common.{◌≡◌, ℕ, ◌+◌, ◌<◌, ◌≤◌, Bool, true, false, ◌&&◌, List, [], ◌∷◌, ◌++◌, map, length, Option, None, Some, refl, sym, ap, ◌∙◌, arith}
use Rattle.std.specs.Prelude.{if◌then◌else◌}
use Rattle.std.specs.List.{list_all}
use Rattle.bal_base.specs.declared.token.TokenKind.TheVariants.{Word as WordKind, Keyword as KeywordKind, Sign as SignKind}
use Rattle.bal_base.specs.declared.token.Keyword.TheVariants.{Returns}
use Rattle.bal_base.specs.declared.token.Sign.TheVariants.{OpenParen, CloseParen, Comma, Ellipsis, FatArrow}
use Rattle.bal_tree.specs.declared.params.Param.{Param}
use Rattle.bal_tree.specs.declared.params.Params.{Params}
use Rattle.bal_tree.specs.declared.types.TypeTree.{TypeTree}
use Rattle.bal_tree.specs.ExprPieces.{function_head as head_pieces}
use Rattle.bal_tree.specs.Pieces.{Pieces, ◌&◌, sign, separated}
use Rattle.bal_tree.specs.Spells.{onto}
use Rattle.bal_tree.specs.TypePieces.{type_pieces, param_pieces, rest_param_pieces, params_pieces, with_last}
use Rattle.bal_tree.specs.TypeRules.{type_is_formed, param_is_formed, last_is_formed, params_are_formed}
use Rattle.parse_types.specs.Loops.{◌>>=◌, else_stays, many}
use Rattle.token_steps.specs.Tokens.{Kinds, take_sign, take_key, take_word}
use Rattle.parse_types.proofs.Law.{both_pass}
use Rattle.parse_types.proofs.ListLaw.{ListEnds, Item, Last, Listed, chain, bracketed, ellipsis-closes}
use Rattle.parse_types.proofs.PrimaryLaw.{paren-closes, word-closes}
use Rattle.parse_expr.specs.Reaches.{type_at, param_comma, last_param, param_list, params, function_head}
use Rattle.parse_expr.proofs.Follows.{closes}
use Rattle.parse_expr.proofs.TypeLaws.{type-before, no-type-at-paren}

module _ (n : ℕ) (p : Param) (formed : param_is_formed p ≡ true) where
  param-item : Item param_comma last_param n (param_pieces p)
  param-item = record {
    goes = λ ks fits. ap (λ o. o >>= take_word >>= take_sign Comma) (type-before p.ty.value false (WordKind p.name.name ∷ SignKind Comma ∷ ks) formed (word-closes p.name.name (SignKind Comma ∷ ks)));
    as_last = record {
      stops = λ ks fits e. ap (λ o. o >>= take_word >>= take_sign Comma) (type-before p.ty.value false (WordKind p.name.name ∷ ks) formed (word-closes p.name.name ks)) ∙ e.no_comma;
      ends = λ ks fits e. ap (λ o. o >>= λ a. take_word (else_stays (take_sign Ellipsis a) a)) (type-before p.ty.value false (WordKind p.name.name ∷ ks) formed (word-closes p.name.name ks));
    };
  }

  rest-last : Last param_comma last_param n (rest_param_pieces p)
  rest-last = record {
    stops = λ ks fits e. ap (λ o. o >>= take_word >>= take_sign Comma) (type-before p.ty.value false (SignKind Ellipsis ∷ WordKind p.name.name ∷ ks) formed (ellipsis-closes (WordKind p.name.name ∷ ks)));
    ends = λ ks fits e. ap (λ o. o >>= λ a. take_word (else_stays (take_sign Ellipsis a) a)) (type-before p.ty.value false (SignKind Ellipsis ∷ WordKind p.name.name ∷ ks) formed (ellipsis-closes (WordKind p.name.name ∷ ks)));
  }

abbrev ParamsListed : ℕ → List Pieces → Type 0
ParamsListed n [] = Unit {0}
ParamsListed n (p ∷ ps) = Listed param_comma last_param n p ps

listed : (n : ℕ) (xs : List Param) → list_all param_is_formed xs ≡ true → ParamsListed n (map param_pieces xs)
listed n [] h = tt
listed n (x ∷ []) h = (param-item n x (both_pass (param_is_formed x) true h).0).as_last
listed n (x ∷ y ∷ xs) h =
    let b = both_pass (param_is_formed x) (list_all param_is_formed (y ∷ xs)) h in
    (param-item n x b.0, listed n (y ∷ xs) b.1)

listed-rest : (n : ℕ) (xs : List Param) (r : Param) → list_all param_is_formed xs ≡ true → param_is_formed r ≡ true → ParamsListed n (map param_pieces xs ++ rest_param_pieces r ∷ [])
listed-rest n [] r h k = rest-last n r k
listed-rest n (x ∷ []) r h k = (param-item n x (both_pass (param_is_formed x) true h).0, rest-last n r k)
listed-rest n (x ∷ y ∷ xs) r h k =
    let b = both_pass (param_is_formed x) (list_all param_is_formed (y ∷ xs)) h in
    (param-item n x b.0, listed-rest n (y ∷ xs) r b.1 k)

paren-ends : (ks : Kinds) → ListEnds (SignKind CloseParen ∷ ks)
paren-ends ks = record { closes = paren-closes ks; no_comma = refl; no_word = refl; no_ellipsis = refl }

no-param : (ks : Kinds) → (param_comma (SignKind CloseParen ∷ ks) ≡ None) × (last_param (SignKind CloseParen ∷ ks) ≡ None)
no-param ks =
    let e = no-type-at-paren false ks in
    (ap (λ o. o >>= take_word >>= take_sign Comma) e, ap (λ o. o >>= λ a. take_word (else_stays (take_sign Ellipsis a) a)) e)

row-law : (n : ℕ) (ps : List Pieces) (ks : Kinds) → ParamsListed n ps → length (onto (separated Comma ps & sign CloseParen) ks) < n → params (onto (sign OpenParen & separated Comma ps & sign CloseParen) ks) ≡ Some ks
unfolding param_list
row-law n [] ks all fits = refl
row-law n (p ∷ ps) ks all fits =
    bracketed param_comma last_param CloseParen no-param (onto (separated Comma (p ∷ ps)) (SignKind CloseParen ∷ ks)) ks (chain param_comma last_param n p ps (SignKind CloseParen ∷ ks) all fits (paren-ends ks)) refl

pub params-law : (p : Params) (ks : Kinds) → params_are_formed p ≡ true → params (onto (params_pieces p) ks) ≡ Some ks
params-law p ks h = law p.rest (both_pass (list_all param_is_formed p.params.items) (last_is_formed p.rest) h)
  where
    law : (rest : Option Param) → (list_all param_is_formed p.params.items ≡ true) × (last_is_formed rest ≡ true) → params (onto (sign OpenParen & separated Comma (with_last rest_param_pieces (map param_pieces p.params.items) rest) & sign CloseParen) ks) ≡ Some ks
    law None b =
        let ps = map param_pieces p.params.items in
        row-law (length (onto (separated Comma ps & sign CloseParen) ks) + 1) ps ks (listed (length (onto (separated Comma ps & sign CloseParen) ks) + 1) p.params.items b.0) (omega arith)
    law (Some r) b =
        let ps = map param_pieces p.params.items ++ rest_param_pieces r ∷ [] in
        row-law (length (onto (separated Comma ps & sign CloseParen) ks) + 1) ps ks (listed-rest (length (onto (separated Comma ps & sign CloseParen) ks) + 1) p.params.items r b.0 b.1) (omega arith)

pub head-law : (isolated : Bool) (p : Params) (t : TypeTree) (middle : Bool) (ks : Kinds) → params_are_formed p ≡ true → type_is_formed t middle ≡ true → function_head middle (onto (head_pieces isolated p t) (SignKind FatArrow ∷ ks)) ≡ Some (SignKind FatArrow ∷ ks)
head-law isolated p t middle ks h k = begins isolated
  where
    behind : params (onto (params_pieces p) (KeywordKind Returns ∷ onto (type_pieces t) (SignKind FatArrow ∷ ks))) >>= take_key Returns >>= type_at middle ≡ Some (SignKind FatArrow ∷ ks)
    behind =
        ap (λ o. o >>= take_key Returns >>= type_at middle) (params-law p (KeywordKind Returns ∷ onto (type_pieces t) (SignKind FatArrow ∷ ks)) h)
        ∙ type-before t middle (SignKind FatArrow ∷ ks) k (closes FatArrow ks refl).type_closes

    begins : (b : Bool) → function_head middle (onto (head_pieces b p t) (SignKind FatArrow ∷ ks)) ≡ Some (SignKind FatArrow ∷ ks)
    begins true = behind
    begins false = behind
