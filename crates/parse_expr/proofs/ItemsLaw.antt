-- Lists of one kind of part, with commas between them, up to the sign that closes them.
use Rattle.std.proofs.Common.{rules, ◌≡◌, ℕ, ◌<◌, ◌≤◌, Bool, true, false, List, [], ◌∷◌, length, Option, None, Some, refl, sym, ap, ◌∙◌, arith}
use Rattle.std.specs.Prelude.{if◌then◌else◌}
use denote.Enum.Bare.{sameb, same_true}
use Rattle.bal_base.specs.contracts.token.Sign.{the_type as the_signs}
use Rattle.bal_base.specs.declared.token.TokenKind.TheVariants.{Sign as SignKind}
use Rattle.bal_base.specs.declared.token.Sign.{Sign}
use Rattle.bal_base.specs.declared.token.Sign.TheVariants.{Comma}
use Rattle.bal_tree.specs.Pieces.{Pieces, ◌&◌, sign, separated}
use Rattle.bal_tree.specs.Spells.{onto}
use Rattle.parse_types.specs.Loops.{◌>>=◌, or_else, many}
use Rattle.token_steps.specs.Tokens.{Kinds, take_sign}
use Rattle.parse_types.proofs.Going.{many-stops, many-goes, many-less}
use Rattle.parse_types.proofs.Onto.{onto-longer}
use Rattle.parse_types.proofs.Taking.{take_sign-less, or_else-less}
use Rattle.std.proofs.lemmas.Option.{option_and_then_some}
use Rattle.parse_expr.specs.Reaches.{item_comma, items, items_until}

-- a list does not begin with its closing sign
pub not-first : (s : Sign) (xs : Kinds) → ((ks : Kinds) → xs ≡ SignKind s ∷ ks → ⊥) → take_sign s xs ≡ None
not-first s [] never = refl
not-first s (SignKind x ∷ ks) never = test (sameb the_signs x s) refl
  where
    test : (b : Bool) → sameb the_signs x s ≡ b → (if b then Some ks else None) ≡ None
    test true e = absurd (never ks (ap (λ (y : Sign). SignKind y ∷ ks) (same_true the_signs (search rules) x s e)))
    test false e = refl
not-first s (k ∷ ks) never = refl

-- the reader of parts at one of fewer than so many tokens, before a comma and before the closing sign
pub record ItemAt (item : Kinds → Option Kinds) (s : Sign) (n : ℕ) (p : Pieces) : Type 0 where
  pub goes : (ks : Kinds) → length (onto p (SignKind Comma ∷ ks)) < n → item (onto p (SignKind Comma ∷ ks)) ≡ Some (SignKind Comma ∷ ks)
  pub ends : (ks : Kinds) → length (onto p (SignKind s ∷ ks)) < n → item (onto p (SignKind s ∷ ks)) ≡ Some (SignKind s ∷ ks)

abbrev pub ItemsAt : (Kinds → Option Kinds) → Sign → ℕ → List Pieces → Type 0
ItemsAt item s n [] = Unit {0}
ItemsAt item s n (p ∷ ps) = ItemAt item s n p × ItemsAt item s n ps

module _ (item : Kinds → Option Kinds) (s : Sign) (n : ℕ) (no_comma : (ks : Kinds) → take_sign Comma (SignKind s ∷ ks) ≡ None) where
  chain : (p : Pieces) (ps : List Pieces) (ks : Kinds) → ItemsAt item s n (p ∷ ps) → length (onto (separated Comma (p ∷ ps)) (SignKind s ∷ ks)) < n → item (many length (item_comma item) (onto (separated Comma (p ∷ ps)) (SignKind s ∷ ks))) ≡ Some (SignKind s ∷ ks)
  chain p [] ks all fits =
      let here = all.0.ends ks fits in
      ap item (many-stops length (item_comma item) (onto p (SignKind s ∷ ks)) (ap (λ o. o >>= take_sign Comma) here ∙ no_comma ks)) ∙ here
  chain p (q ∷ ps) ks all fits =
      let zs = onto (separated Comma (q ∷ ps)) (SignKind s ∷ ks) in
      let longer = onto-longer p (SignKind Comma ∷ zs) in
      ap item (many-goes length (item_comma item) (onto p (SignKind Comma ∷ zs)) zs (ap (λ o. o >>= take_sign Comma) (all.0.goes zs fits)) (omega arith)) ∙ chain q ps ks all.1 (omega arith)

  module _ (none : (ks : Kinds) → item (SignKind s ∷ ks) ≡ None) (same : sameb the_signs s s ≡ true) where
    pub items-law : (ps : List Pieces) (ks : Kinds) → ItemsAt item s n ps → length (onto (separated Comma ps & sign s) ks) < n → items_until item s (onto (separated Comma ps & sign s) ks) ≡ Some ks
    unfolding items
    items-law [] ks all fits = ap (λ b. or_else (if b then Some ks else None) (items item (SignKind s ∷ ks) >>= take_sign s)) same
    items-law (p ∷ ps) ks all fits =
        let xs = onto (separated Comma (p ∷ ps)) (SignKind s ∷ ks) in
        let read = chain p ps ks all fits in
        ap (λ o. or_else o (items item xs >>= take_sign s)) (not-first s xs (λ zs is. clash zs is read))
        ∙ ap (λ o. o >>= take_sign s) read ∙ ap (λ b. if b then Some ks else None) same
      where
        clash : (zs : Kinds) → onto (separated Comma (p ∷ ps)) (SignKind s ∷ ks) ≡ SignKind s ∷ zs → item (many length (item_comma item) (onto (separated Comma (p ∷ ps)) (SignKind s ∷ ks))) ≡ Some (SignKind s ∷ ks) → ⊥
        clash zs is read =
            let stuck = many-stops length (item_comma item) (SignKind s ∷ zs) (ap (λ o. o >>= take_sign Comma) (none zs)) in
            let bad : None ≡ Some (SignKind s ∷ ks) = sym (none zs) ∙ ap item (sym stuck) ∙ ap (λ r. item (many length (item_comma item) r)) (sym is) ∙ read in
            cc bad

-- ---- what is left of a list is no more than stood there

module _ (item : Kinds → Option Kinds) (less : (ks a : Kinds) → item ks ≡ Some a → length a ≤ length ks) where
  items-less : (ks a : Kinds) → items item ks ≡ Some a → length a ≤ length ks
  unfolding items
  items-less ks a e = let h = less (many length (item_comma item) ks) a e in let k = many-less length (item_comma item) ks in omega arith

  pub items_until-less : (s : Sign) (ks a : Kinds) → items_until item s ks ≡ Some a → length a ≤ length ks
  items_until-less s ks a e =
      or_else-less (take_sign s ks) (items item ks >>= take_sign s) a ks e (λ b f. let h = take_sign-less s ks b f in omega arith)
      (λ b f. option_and_then_some (take_sign s) (items item ks) b f (λ x p q. let h = items-less ks x p in let k = take_sign-less s x b q in omega arith))
