-- Trees that are written out alike: the same forms with the same tokens, wherever their places are.
use Rattle.std.proofs.Common.{◌≡◌, ℕ, List, [], ◌∷◌, refl, sym, ap, ◌∙◌, subst}
use Rattle.std.proofs.lemmas.List.{append_cancel_right}
use Rattle.bal_base.specs.declared.token.Token.{Token}
use Rattle.bal_base.specs.declared.token.TokenKind.{TokenKind}
use Rattle.bal_tree.specs.Pieces.{Pieces, nothing, token, starts, ◌&◌, kinds}
use Rattle.bal_tree.specs.Spells.{Spells, onto}
use Rattle.bal_tree.proofs.Spelling.{onto-kinds}
use Rattle.token_steps.specs.Tokens.{Kinds}

abbrev pub Alike : Pieces → Pieces → Type 0
Alike nothing nothing = Unit {0}
Alike (token k) (token l) = k ≡ l
Alike (starts at) (starts other) = Unit {0}
Alike (p & q) (r & s) = Alike p r × Alike q s
Alike p q = ⊥

-- they are alike, and the same stands behind them
abbrev pub Same : Pieces → Pieces → Kinds → Kinds → Type 0
Same p q ks ls = Alike p q × (ks ≡ ls)

-- behind the first token
abbrev pub behind_first : Kinds → Kinds
behind_first [] = []
behind_first (k ∷ ks) = ks

pub first-token : (x y : TokenKind) (xs ys : Kinds) → x ∷ xs ≡ y ∷ ys → x ≡ y
first-token x y xs ys e = cc e

-- before the same tokens their own are the same
pub same-kinds : (p q : Pieces) (ks ls : Kinds) → ks ≡ ls → onto p ks ≡ onto q ls → kinds p ≡ kinds q
same-kinds p q ks ls same e =
    append_cancel_right (kinds p) (kinds q) ks (sym (onto-kinds p ks) ∙ e ∙ ap (onto q) (sym same) ∙ onto-kinds q ks)

-- where the places are those of the same tokens, all is the same
module _ (file : ℕ) where
  pub placed : (p q : Pieces) (tokens r s : List Token) → Spells file p tokens r → Spells file q tokens s → Alike p q → (p ≡ q) × (r ≡ s)
  placed nothing nothing tokens r s h k a = (refl, sym h ∙ k)
  placed (token x) (token y) tokens r s h k a = (ap token a, let both : h.first ∷ r ≡ k.first ∷ s = sym h.splits ∙ k.splits in cc both)
  placed (starts x) (starts y) tokens r s h k a = (ap starts (h.0 ∙ sym k.0), sym h.1 ∙ k.1)
  placed (p & q) (v & w) tokens r s h k a =
      let front = placed p v tokens h.0 k.0 h.1 k.1 a.0 in
      let back = placed q w h.0 r s h.2 (subst (λ z. Spells file w z s) (sym front.1) k.2) a.1 in
      (λ i. front.0 i & back.0 i, back.1)
  placed p q tokens r s h k a = absurd a
