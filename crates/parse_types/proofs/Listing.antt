-- Steps of the loops over lists, as the code meets them. `ks` is where the list begins and `rs` where the loop stands.
use Rattle.std.proofs.Common.{◌≡◌, ℕ, ◌<◌, ◌∷◌, length, Option, None, Some, Bool, true, false, sym, ap, ◌∙◌}
use Rattle.bal_base.specs.declared.token.TokenKind.TheVariants.{Sign as SignKind}
use Rattle.bal_base.specs.declared.token.Sign.TheVariants.{Comma, Ellipsis, Semicolon}
use Rattle.parse_types.specs.Loops.{◌>>=◌, or_else, else_stays, many}
use Rattle.parse_types.specs.Reaches.{inside, type_comma, last_type, type_list, param_comma, last_param, param_list, word_if_there, field, fields, fields_behind, field_behind}
use Rattle.token_steps.specs.Tokens.{Kinds, take_sign}
use Rattle.parse_types.proofs.Going.{many-stops, many-goes}

module _ (n : ℕ) (middle : Bool) (ks rs : Kinds) where
  -- ---- types

  pub type_list-missing : many length (type_comma (inside n middle)) ks ≡ many length (type_comma (inside n middle)) rs → inside n middle rs ≡ None → type_list (inside n middle) ks ≡ None
  type_list-missing goes e =
      ap (last_type (inside n middle)) (goes ∙ many-stops length (type_comma (inside n middle)) rs (ap (λ o. o >>= take_sign Comma) e))
      ∙ ap (λ o. o >>= λ b. Some (else_stays (take_sign Ellipsis b) b)) e

  pub type_list-rest : (xs : Kinds) → many length (type_comma (inside n middle)) ks ≡ many length (type_comma (inside n middle)) rs → inside n middle rs ≡ Some (SignKind Ellipsis ∷ xs) → type_list (inside n middle) ks ≡ Some xs
  type_list-rest xs goes e =
      ap (last_type (inside n middle)) (goes ∙ many-stops length (type_comma (inside n middle)) rs (ap (λ o. o >>= take_sign Comma) e))
      ∙ ap (λ o. o >>= λ b. Some (else_stays (take_sign Ellipsis b) b)) e

  pub type_list-ends : (bs : Kinds) → many length (type_comma (inside n middle)) ks ≡ many length (type_comma (inside n middle)) rs → inside n middle rs ≡ Some bs → None ≡ take_sign Ellipsis bs → None ≡ take_sign Comma bs → type_list (inside n middle) ks ≡ Some bs
  type_list-ends bs goes e no_rest no_comma =
      ap (last_type (inside n middle)) (goes ∙ many-stops length (type_comma (inside n middle)) rs (ap (λ o. o >>= take_sign Comma) e ∙ sym no_comma))
      ∙ ap (λ o. o >>= λ b. Some (else_stays (take_sign Ellipsis b) b)) e ∙ ap (λ o. Some (else_stays o bs)) (sym no_rest)

  pub type_list-goes : (bs xs : Kinds) → many length (type_comma (inside n middle)) ks ≡ many length (type_comma (inside n middle)) rs → inside n middle rs ≡ Some bs → Some xs ≡ take_sign Comma bs → length xs < length rs → many length (type_comma (inside n middle)) ks ≡ many length (type_comma (inside n middle)) xs
  type_list-goes bs xs goes e comma lt = goes ∙ many-goes length (type_comma (inside n middle)) rs xs (ap (λ o. o >>= take_sign Comma) e ∙ sym comma) lt

  -- ---- parameters

  pub param_list-missing : many length (param_comma (inside n middle)) ks ≡ many length (param_comma (inside n middle)) rs → inside n middle rs ≡ None → param_list (inside n middle) ks ≡ None
  param_list-missing goes e =
      ap (last_param (inside n middle)) (goes ∙ many-stops length (param_comma (inside n middle)) rs (ap (λ o. o >>= λ b. take_sign Comma (word_if_there b)) e))
      ∙ ap (λ o. o >>= λ b. or_else (take_sign Ellipsis b) (Some (word_if_there b))) e

  pub param_list-rest : (xs : Kinds) → many length (param_comma (inside n middle)) ks ≡ many length (param_comma (inside n middle)) rs → inside n middle rs ≡ Some (SignKind Ellipsis ∷ xs) → param_list (inside n middle) ks ≡ Some xs
  param_list-rest xs goes e =
      ap (last_param (inside n middle)) (goes ∙ many-stops length (param_comma (inside n middle)) rs (ap (λ o. o >>= λ b. take_sign Comma (word_if_there b)) e))
      ∙ ap (λ o. o >>= λ b. or_else (take_sign Ellipsis b) (Some (word_if_there b))) e

  pub param_list-ends : (bs xs : Kinds) → many length (param_comma (inside n middle)) ks ≡ many length (param_comma (inside n middle)) rs → inside n middle rs ≡ Some bs → None ≡ take_sign Ellipsis bs → xs ≡ word_if_there bs → None ≡ take_sign Comma xs → param_list (inside n middle) ks ≡ Some xs
  param_list-ends bs xs goes e no_rest word no_comma =
      ap (last_param (inside n middle)) (goes ∙ many-stops length (param_comma (inside n middle)) rs (ap (λ o. o >>= λ b. take_sign Comma (word_if_there b)) e ∙ ap (take_sign Comma) (sym word) ∙ sym no_comma))
      ∙ ap (λ o. o >>= λ b. or_else (take_sign Ellipsis b) (Some (word_if_there b))) e ∙ ap (λ o. or_else o (Some (word_if_there bs))) (sym no_rest) ∙ ap Some (sym word)

  pub param_list-goes : (bs ws xs : Kinds) → many length (param_comma (inside n middle)) ks ≡ many length (param_comma (inside n middle)) rs → inside n middle rs ≡ Some bs → ws ≡ word_if_there bs → Some xs ≡ take_sign Comma ws → length xs < length rs → many length (param_comma (inside n middle)) ks ≡ many length (param_comma (inside n middle)) xs
  param_list-goes bs ws xs goes e word comma lt =
      goes ∙ many-goes length (param_comma (inside n middle)) rs xs (ap (λ o. o >>= λ b. take_sign Comma (word_if_there b)) e ∙ ap (take_sign Comma) (sym word) ∙ sym comma) lt

  -- ---- fields

  fields-stop : field (inside n middle) rs ≡ None → many length (field (inside n middle)) ks ≡ many length (field (inside n middle)) rs → fields (inside n middle) ks ≡ fields_behind rs (inside n middle rs)
  fields-stop none goes = ap (λ a. fields_behind a (inside n middle a)) (goes ∙ many-stops length (field (inside n middle)) rs none)

  pub fields-ends : many length (field (inside n middle)) ks ≡ many length (field (inside n middle)) rs → inside n middle rs ≡ None → fields (inside n middle) ks ≡ Some (false, rs)
  fields-ends goes e = fields-stop (ap (λ o. o >>= field_behind) e) goes ∙ ap (fields_behind rs) e

  -- behind the type of the rest
  pub fields-rest : (xs : Kinds) (o : Option Kinds) → many length (field (inside n middle)) ks ≡ many length (field (inside n middle)) rs → inside n middle rs ≡ Some (SignKind Ellipsis ∷ xs) → take_sign Semicolon xs ≡ o → fields (inside n middle) ks ≡ (o >>= λ b. Some (true, b))
  fields-rest xs o goes e semicolon =
      fields-stop (ap (λ r. r >>= field_behind) e) goes ∙ ap (fields_behind rs) e ∙ ap (λ r. r >>= λ b. Some (true, b)) semicolon

  -- a type that begins no field and is no rest
  pub fields-missing : (bs : Kinds) → many length (field (inside n middle)) ks ≡ many length (field (inside n middle)) rs → inside n middle rs ≡ Some bs → None ≡ take_sign Ellipsis bs → field_behind bs ≡ None → fields (inside n middle) ks ≡ None
  fields-missing bs goes e no_rest no_field =
      fields-stop (ap (λ r. r >>= field_behind) e ∙ no_field) goes ∙ ap (fields_behind rs) e ∙ ap (λ r. r >>= take_sign Semicolon >>= λ b. Some (true, b)) (sym no_rest)

  pub fields-goes : (bs xs : Kinds) → many length (field (inside n middle)) ks ≡ many length (field (inside n middle)) rs → inside n middle rs ≡ Some bs → field_behind bs ≡ Some xs → length xs < length rs → many length (field (inside n middle)) ks ≡ many length (field (inside n middle)) xs
  fields-goes bs xs goes e is lt =
      goes ∙ many-goes length (field (inside n middle)) rs xs (ap (λ r. r >>= field_behind) e ∙ is) lt

pub ruleset listing = (type_list-missing, param_list-missing)
