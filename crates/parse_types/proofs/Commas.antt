-- Lists of parts with commas between them, part by part.
use Rattle.std.proofs.Common.{ℕ, List, [], ◌∷◌, ◌++◌, map, refl, sym, subst}
use Rattle.bal_base.specs.declared.token.Token.{Token}
use Rattle.bal_base.specs.declared.token.TokenKind.TheVariants.{Sign as SignKind}
use Rattle.bal_base.specs.declared.token.Sign.TheVariants.{Comma}
use Rattle.bal_tree.specs.Pieces.{Pieces, nothing, ◌&◌, sign, behind, separated, joined}
use Rattle.bal_tree.specs.Spells.{Heads, Spells}

module _ {X : Type 0} (f : X → Pieces) where
  -- a comma behind each
  abbrev pub trailed : List X → Pieces
  trailed [] = nothing
  trailed (x ∷ xs) = (f x & sign Comma) & trailed xs

  module _ (file : ℕ) where
    pub spells-trailed : (xs : List X) (x : X) (a b c d : List Token) → Spells file (trailed xs) a b → Spells file (f x) b c → Heads (SignKind Comma) c d → Spells file (trailed (xs ++ x ∷ [])) a d
    spells-trailed [] x a b c d front here comma = subst (λ t. Spells file (trailed (x ∷ [])) t d) (sym front) (d, (c, here, comma), refl)
    spells-trailed (y ∷ ys) x a b c d front here comma = (front.0, front.1, spells-trailed ys x front.0 b c d front.2 here comma)

    -- the last part, whatever it is
    pub spells-last : (xs : List X) (q : Pieces) (a b c : List Token) → Spells file (trailed xs) a b → Spells file q b c → Spells file (separated Comma (map f xs ++ q ∷ [])) a c
    spells-last [] q a b c front here = subst (λ t. Spells file (separated Comma (q ∷ [])) t c) (sym front) (c, here, refl)
    spells-last (y ∷ ys) q a b c front here =
        let comma = front.1 in
        (comma.0, comma.1, tail ys front.0 comma.0 front.2 comma.2)
      where
        tail : (zs : List X) (a' m : List Token) → Spells file (trailed zs) a' b → Heads (SignKind Comma) m a' → Spells file (behind Comma (map f zs ++ q ∷ [])) m c
        tail [] a' m front comma = (a', comma, (c, subst (λ t. Spells file q t c) (sym front) here, refl))
        tail (z ∷ zs) a' m front comma = (a', comma, (front.1.0, front.1.1, tail zs front.0 front.1.0 front.2 front.1.2))

    pub spells-joined : (xs : List X) (x : X) (a b c : List Token) → Spells file (joined (map f xs)) a b → Spells file (f x) b c → Spells file (joined (map f (xs ++ x ∷ []))) a c
    spells-joined [] x a b c front here = subst (λ t. Spells file (joined (f x ∷ [])) t c) (sym front) (c, here, refl)
    spells-joined (y ∷ ys) x a b c front here = (front.0, front.1, spells-joined ys x front.0 b c front.2 here)
