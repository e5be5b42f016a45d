-- What tokens say that spell a tree.
use Rattle.std.proofs.Common.{◌≡◌, ℕ, List, ◌∷◌, ◌++◌, refl, sym, ap, ◌∙◌, append_assoc}
use Rattle.bal_base.specs.declared.place.Place.{Place}
use Rattle.bal_base.specs.declared.token.Token.{Token}
use Rattle.bal_base.specs.declared.token.TokenKind.{TokenKind}
use Rattle.bal_tree.specs.Pieces.{Pieces, nothing, token, starts, ◌&◌, kinds}
use Rattle.bal_tree.specs.Places.{BeginsAt}
use Rattle.bal_tree.specs.Spells.{first_place, Spells, onto, kinds_of}

module _ (file : ℕ) where
  -- the place that the pieces begin with is that of the first token
  pub spells-begins : (p : Pieces) (at : Place) (tokens rest : List Token) → BeginsAt p at → Spells file p tokens rest → at ≡ first_place file tokens
  spells-begins nothing at tokens rest b h = absurd b
  spells-begins (token kind) at tokens rest b h = absurd b
  spells-begins (starts a) at tokens rest b h = sym b ∙ h.0
  spells-begins (p & q) at tokens rest b h = spells-begins p at tokens h.0 b h.1

  -- the tokens are those of the pieces, and behind them the rest
  pub spells-onto : (p : Pieces) (tokens rest : List Token) → Spells file p tokens rest → kinds_of tokens ≡ onto p (kinds_of rest)
  spells-onto nothing tokens rest h = ap kinds_of h
  spells-onto (token kind) tokens rest h = ap kinds_of h.splits ∙ ap (λ k. k ∷ kinds_of rest) h.is
  spells-onto (starts at) tokens rest h = ap kinds_of h.1
  spells-onto (p & q) tokens rest h = spells-onto p tokens h.0 h.1 ∙ ap (onto p) (spells-onto q h.0 rest h.2)

pub onto-kinds : (p : Pieces) (ks : List TokenKind) → onto p ks ≡ kinds p ++ ks
onto-kinds nothing ks = refl
onto-kinds (token kind) ks = refl
onto-kinds (starts at) ks = refl
onto-kinds (p & q) ks = onto-kinds p (onto q ks) ∙ ap (λ r. kinds p ++ r) (onto-kinds q ks) ∙ sym (append_assoc (kinds p) (kinds q) ks)
