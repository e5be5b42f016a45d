-- Parts that are taken, one before the other.
use Rattle.std.proofs.Common.{◌≡◌, ◌++◌, ◌∙◌, List, [], ◌∷◌, ap, append_assoc, refl, sym}
use Rattle.check_words.specs.State.{AreLast, all_but}
use Rattle.check_words.proofs.LastOnes.{kept-is, split-last}

module _ {A : Type 0} where
  pub one-last : (xs kept : List A) (a : A) → xs ≡ kept ++ a ∷ [] → AreLast xs 1 (a ∷ [])
  one-last xs kept a e = record { kept = kept; is = e; many = refl }

  pub two-last : (xs mid kept : List A) (a b : A) → xs ≡ mid ++ b ∷ [] → mid ≡ kept ++ a ∷ [] → AreLast xs 2 (a ∷ b ∷ [])
  two-last xs mid kept a b e f = record { kept = kept; is = e ∙ ap (λ ys. ys ++ b ∷ []) f ∙ append_assoc kept (a ∷ []) (b ∷ []); many = refl }

  pub three-last : (xs last mid kept : List A) (a b c : A) → xs ≡ last ++ c ∷ [] → last ≡ mid ++ b ∷ [] → mid ≡ kept ++ a ∷ [] → AreLast xs 3 (a ∷ b ∷ c ∷ [])
  three-last xs last mid kept a b c e f g =
      record {
        kept = kept;
        is = e ∙ ap (λ ys. ys ++ c ∷ []) (f ∙ ap (λ ys. ys ++ b ∷ []) g ∙ append_assoc kept (a ∷ []) (b ∷ [])) ∙ append_assoc kept (a ∷ b ∷ []) (c ∷ []);
        many = refl;
      }

  -- what stays
  pub kept-one : (xs kept : List A) (a : A) → xs ≡ kept ++ a ∷ [] → kept ≡ all_but 1 xs
  kept-one xs kept a e = sym (kept-is 1 xs kept (a ∷ []) e refl)

  pub kept-two : (xs mid kept : List A) (a b : A) → xs ≡ mid ++ b ∷ [] → mid ≡ kept ++ a ∷ [] → kept ≡ all_but 2 xs
  unfolding two-last
  kept-two xs mid kept a b e f = sym (kept-is 2 xs kept (a ∷ b ∷ []) (two-last xs mid kept a b e f).is refl)

  pub kept-three : (xs last mid kept : List A) (a b c : A) → xs ≡ last ++ c ∷ [] → last ≡ mid ++ b ∷ [] → mid ≡ kept ++ a ∷ [] → kept ≡ all_but 3 xs
  unfolding three-last
  kept-three xs last mid kept a b c e f g = sym (kept-is 3 xs kept (a ∷ b ∷ c ∷ []) (three-last xs last mid kept a b c e f g).is refl)

pub ruleset taking = (split-last, one-last, two-last, three-last, kept-one, kept-two, kept-three)
