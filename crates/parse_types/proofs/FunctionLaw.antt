-- The law at function types.
use Rattle.std.proofs.Common.{◌≡◌, ℕ, ◌≤◌, Bool, true, false, ◌∷◌, length, Option, None, Some, refl, ap, ◌∙◌, arith}
use Rattle.std.proofs.lemmas.Option.{option_and_then_some}
use Rattle.std.proofs.lemmas.Bool.{false≢true}
use Rattle.bal_base.specs.declared.token.TokenKind.TheVariants.{Keyword as KeywordKind}
use Rattle.bal_base.specs.declared.token.Keyword.TheVariants.{Returns}
use Rattle.bal_base.specs.declared.token.Sign.TheVariants.{OpenParen, CloseParen, Ellipsis}
use Rattle.bal_tree.specs.Pieces.{Pieces, ◌&◌, nothing}
use Rattle.bal_tree.specs.Spells.{onto}
use Rattle.bal_tree.specs.TypePieces.{function_word, returning}
use Rattle.bal_tree.specs.TypeRules.{TypeFacts, closed}
use Rattle.parse_types.specs.Loops.{◌>>=◌, or_else, many}
use Rattle.token_steps.specs.Tokens.{Kinds, take_sign, take_key, take_word}
use Rattle.parse_types.specs.Reaches.{word_if_there, param_comma, param_list, params, params_or, result_or, returns, result_if_there, function_behind, primary, inside}
use Rattle.parse_types.proofs.Going.{many-less}
use Rattle.parse_types.proofs.Taking.{take_sign-less, take_key-less, take_word-less, else_stays-less, or_else-less}
use Rattle.parse_types.proofs.Onto.{onto-longer}
use Rattle.parse_types.proofs.Follows.{Went}
use Rattle.parse_types.proofs.Law.{At, TypeLaw, inside-type, inside-less}

module _ (n : ℕ) where
  word_if_there-less : (ks : Kinds) → length (word_if_there ks) ≤ length ks
  word_if_there-less ks = else_stays-less (take_word ks) ks (λ a e. let h = take_word-less ks a e in omega arith)

  param_list-less : (ks a : Kinds) → param_list (inside n false) ks ≡ Some a → length a ≤ length ks
  param_list-less ks a e =
      let xs = many length (param_comma (inside n false)) ks in
      let m = many-less length (param_comma (inside n false)) ks in
      option_and_then_some (λ b. or_else (take_sign Ellipsis b) (Some (word_if_there b))) (inside n false xs) a e
      (λ x p q. let i = inside-less n false xs x p in let j = or_else-less (take_sign Ellipsis x) (Some (word_if_there x)) a x q (λ b f. let h = take_sign-less Ellipsis x b f in omega arith) (λ b f. let h = word_if_there-less x in let same : word_if_there x ≡ b = cc f in let size = ap length same in omega arith) in omega arith)

  params-less : (ks a : Kinds) → params (inside n false) ks ≡ Some a → length a ≤ length ks
  params-less ks a e =
      option_and_then_some (λ b. or_else (take_sign CloseParen b) (param_list (inside n false) b >>= take_sign CloseParen)) (take_sign OpenParen ks) a e
      (λ x p q.
      let h = take_sign-less OpenParen ks x p in
      let j = or_else-less (take_sign CloseParen x) (param_list (inside n false) x >>= take_sign CloseParen) a x q (λ b f. let k = take_sign-less CloseParen x b f in omega arith)
      (λ b f. option_and_then_some (take_sign CloseParen) (param_list (inside n false) x) b f (λ y u v. let k = param_list-less x y u in let l = take_sign-less CloseParen y b v in omega arith)) in
      omega arith)

  returns-less : (middle : Bool) (ks a : Kinds) → returns (inside n middle) ks ≡ Some a → length a ≤ length ks
  returns-less middle ks a e = option_and_then_some (inside n middle) (take_key Returns ks) a e (λ x p q. let h = take_key-less Returns ks x p in let k = inside-less n middle x a q in omega arith)

  result-went : (middle : Bool) (ks : Kinds) → Went middle closed ks (result_if_there (inside n middle) ks)
  result-went middle ks = record {
    no_more = less (returns (inside n middle) ks) (returns-less middle ks);
    took = λ h. absurd (false≢true h);
    just = λ s. ap (λ o. result_or (o >>= inside n middle) ks) s.returns;
  }
    where
      less : (o : Option Kinds) → ((a : Kinds) → o ≡ Some a → length a ≤ length ks) → length (result_or o ks).rest ≤ length ks
      less None h = omega arith
      less (Some a) h = h a refl

  any-went : (middle : Bool) (ks : Kinds) → Went middle closed ks (function_behind (inside n) middle ks)
  any-went middle ks = record {
    no_more = less (params (inside n false) ks) (params-less ks);
    took = λ h. absurd (false≢true h);
    just = λ s. ap (λ o. params_or (inside n middle) (o >>= λ a. or_else (take_sign CloseParen a) (param_list (inside n false) a >>= take_sign CloseParen)) ks) s.paren;
  }
    where
      less : (o : Option Kinds) → ((a : Kinds) → o ≡ Some a → length a ≤ length ks) → length (params_or (inside n middle) o ks).rest ≤ length ks
      less None h = omega arith
      less (Some a) h = let k = h a refl in let w = (result-went middle a).no_more in omega arith

  -- `function` alone
  pub any-law : (middle isolated : Bool) (ks : Kinds) → At (primary (inside n) middle) (λ l. l) (onto (function_word isolated) ks) middle closed ks
  any-law middle true ks = record { left = function_behind (inside n) middle ks; is = refl; went = any-went middle ks }
  any-law middle false ks = record { left = function_behind (inside n) middle ks; is = refl; went = any-went middle ks }

  -- its parameters leave what stands behind them
  module _ (p : Pieces) (middle : Bool) where
    with-params : (isolated : Bool) (ks : Kinds) → params (inside n false) (onto p ks) ≡ Some ks → primary (inside n) middle (onto (function_word isolated & p) ks) ≡ Some (result_if_there (inside n middle) ks)
    with-params true ks e = ap (λ o. Some (params_or (inside n middle) o (onto p ks))) e
    with-params false ks e = ap (λ o. Some (params_or (inside n middle) o (onto p ks))) e

    pub plain-law : (isolated : Bool) (ks : Kinds) → params (inside n false) (onto p ks) ≡ Some ks → At (primary (inside n) middle) (λ l. l) (onto (function_word isolated & p & nothing) ks) middle closed ks
    plain-law isolated ks e = record { left = result_if_there (inside n middle) ks; is = with-params isolated ks e; went = result-went middle ks }

    pub result-law : (q : Pieces) (f : TypeFacts) → TypeLaw q f → (isolated : Bool) (ks : Kinds) → f.is_formed middle ≡ true → length (onto (function_word isolated & p & returning q) ks) ≤ n → params (inside n false) (onto p (KeywordKind Returns ∷ onto q ks)) ≡ Some (KeywordKind Returns ∷ onto q ks) → At (primary (inside n) middle) (λ l. l) (onto (function_word isolated & p & returning q) ks) middle record { in_result = true; in_int = f.end.in_int } ks
    result-law q f law isolated ks formed fits e =
        let longer = onto-longer (function_word isolated & p) (KeywordKind Returns ∷ onto q ks) in
        let i = inside-type q f law n middle ks formed (omega arith) in
        record {
          left = record { in_result = true; rest = i.rest };
          is = with-params isolated (KeywordKind Returns ∷ onto q ks) e ∙ ap (λ o. Some (result_or o (KeywordKind Returns ∷ onto q ks))) i.is;
          went = record { no_more = i.no_more; took = i.took; just = λ s. ap (λ r. record { in_result = true; rest = r }) (i.just s.0 s.1) };
        }
