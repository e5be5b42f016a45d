-- Steps of the loops over lists, as the code meets them. `ks` is where the list begins and `rs` where the loop stands.
use Rattle.std.proofs.Common.{◌≡◌, ℕ, ◌<◌, ◌≤◌, Bool, false, List, [], ◌∷◌, length, Option, None, Some, refl, sym, ap, ◌∙◌, arith}
use Rattle.std.specs.Prelude.{option_map}
use Rattle.bal_base.specs.declared.token.TokenKind.TheVariants.{Sign as SignKind}
use Rattle.bal_base.specs.declared.token.Sign.TheVariants.{Comma, Ellipsis}
use Rattle.parse_types.specs.Loops.{◌>>=◌, else_stays, many}
use Rattle.parse_types.specs.Reaches.{Left, longest_type}
use Rattle.token_steps.specs.Tokens.{Kinds, take_sign, take_word}
use Rattle.parse_types.proofs.Going.{many-stops, many-goes}
use Rattle.parse_expr.specs.Reaches.{type_rest, type_at, item_comma, items, param_comma, last_param, param_list, detail, details}

-- ---- types

module _ (middle : Bool) (ks : Kinds) where
  pub type_at-found : (b : Bool) (rest : Kinds) → longest_type middle ks ≡ Some record { in_result = b; rest = rest } → type_at middle ks ≡ Some rest
  unfolding type_at
  type_at-found b rest e = ap (option_map type_rest) e

  pub type_at-missing : longest_type middle ks ≡ None → type_at middle ks ≡ None
  unfolding type_at
  type_at-missing e = ap (option_map type_rest) e

-- ---- parts of one kind

module _ (item : Kinds → Option Kinds) (ks rs : Kinds) (goes : many length (item_comma item) ks ≡ many length (item_comma item) rs) where
  pub items-missing : item rs ≡ None → items item ks ≡ None
  unfolding items
  items-missing e = ap item (goes ∙ many-stops length (item_comma item) rs (ap (λ o. o >>= take_sign Comma) e)) ∙ e

  pub items-ends : (bs : Kinds) → item rs ≡ Some bs → None ≡ take_sign Comma bs → items item ks ≡ Some bs
  unfolding items
  items-ends bs e no_comma = ap item (goes ∙ many-stops length (item_comma item) rs (ap (λ o. o >>= take_sign Comma) e ∙ sym no_comma)) ∙ e

  pub items-goes : (bs xs : Kinds) → item rs ≡ Some bs → Some xs ≡ take_sign Comma bs → length xs < length rs → many length (item_comma item) ks ≡ many length (item_comma item) xs
  items-goes bs xs e comma lt = goes ∙ many-goes length (item_comma item) rs xs (ap (λ o. o >>= take_sign Comma) e ∙ sym comma) lt

-- ---- details

module _ (bracketed : Kinds → Option Kinds) (ks rs : Kinds) (goes : many length (detail bracketed) ks ≡ many length (detail bracketed) rs) where
  pub details-end : detail bracketed rs ≡ None → details bracketed ks ≡ rs
  unfolding details
  details-end e = goes ∙ many-stops length (detail bracketed) rs e

  pub details-goes : (xs : Kinds) → detail bracketed rs ≡ Some xs → length xs < length rs → many length (detail bracketed) ks ≡ many length (detail bracketed) xs
  details-goes xs e lt = goes ∙ many-goes length (detail bracketed) rs xs e lt

pub details-begin : (bracketed : Kinds → Option Kinds) (ks : Kinds) → details bracketed ks ≡ many length (detail bracketed) ks
unfolding details
details-begin bracketed ks = refl

-- ---- parameters

module _ (ks rs : Kinds) (goes : many length param_comma ks ≡ many length param_comma rs) where
  stops : param_comma rs ≡ None → param_list ks ≡ last_param rs
  unfolding param_list
  stops none = ap last_param (goes ∙ many-stops length param_comma rs none)

  pub params-missing : type_at false rs ≡ None → param_list ks ≡ None
  params-missing e = stops (ap (λ o. o >>= take_word >>= take_sign Comma) e) ∙ ap (λ o. o >>= λ a. take_word (else_stays (take_sign Ellipsis a) a)) e

  pub params-rest : (xs : Kinds) → type_at false rs ≡ Some (SignKind Ellipsis ∷ xs) → param_list ks ≡ take_word xs
  params-rest xs e = stops (ap (λ o. o >>= take_word >>= take_sign Comma) e) ∙ ap (λ o. o >>= λ a. take_word (else_stays (take_sign Ellipsis a) a)) e

  module _ (bs : Kinds) (e : type_at false rs ≡ Some bs) where
    at-last : None ≡ take_sign Ellipsis bs → last_param rs ≡ take_word bs
    at-last no_rest = ap (λ o. o >>= λ a. take_word (else_stays (take_sign Ellipsis a) a)) e ∙ ap (λ o. take_word (else_stays o bs)) (sym no_rest)

    pub params-nameless : None ≡ take_sign Ellipsis bs → take_word bs ≡ None → param_list ks ≡ None
    params-nameless no_rest none = stops (ap (λ o. o >>= take_word >>= take_sign Comma) e ∙ ap (λ o. o >>= take_sign Comma) none) ∙ at-last no_rest ∙ none

    pub params-end : (ws : Kinds) → None ≡ take_sign Ellipsis bs → take_word bs ≡ Some ws → None ≡ take_sign Comma ws → param_list ks ≡ Some ws
    params-end ws no_rest word no_comma =
        stops (ap (λ o. o >>= take_word >>= take_sign Comma) e ∙ ap (λ o. o >>= take_sign Comma) word ∙ sym no_comma) ∙ at-last no_rest ∙ word

    pub params-goes : (ws xs : Kinds) → take_word bs ≡ Some ws → Some xs ≡ take_sign Comma ws → length xs < length rs → many length param_comma ks ≡ many length param_comma xs
    params-goes ws xs word comma lt =
        goes ∙ many-goes length param_comma rs xs (ap (λ o. o >>= take_word >>= take_sign Comma) e ∙ ap (λ o. o >>= take_sign Comma) word ∙ sym comma) lt
