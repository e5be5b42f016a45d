-- Rows of the library by their calls.
use Rattle.std.proofs.Common.{◌≡◌, ◌∙◌, ℕ, Bool, true, false, List, [], ◌∷◌, Some, IsUtf8, IsAscii, chars, find, map, nat_eq, refl, cond}
use Rattle.std.specs.Option.{option_map}
use Rattle.std.specs.Cmp.Lexicographic.{nat_list_eq_equiv, pointwise}
use Rattle.std.proofs.lemmas.Str.{chars-IsAscii, IsUtf8-from_ascii}
use Rattle.bal_base.proofs.Points.{chars-same}

-- ---- names

text-turned : (s t : List ℕ) → pointwise nat_eq s t ≡ pointwise nat_eq t s
text-turned s t = nat_list_eq_equiv.symm s t

-- what is said of bytes is said of the text
pub turned-word : (bytes text word : List ℕ) → IsUtf8 bytes → chars bytes ≡ text → IsAscii word → pointwise nat_eq bytes word ≡ pointwise nat_eq word text
turned-word bytes text word u e ascii =
    chars-same bytes word u (IsUtf8-from_ascii word ascii)
    ∙ ((λ i. pointwise nat_eq (e i) (chars-IsAscii word ascii i)) ∙ text-turned text word)

-- ---- what is found

pub found-row : {A B : Type 0} (f : A → B) (p : B → Bool) (xs : List A) → option_map f (find (λ x. p (f x)) xs) ≡ find p (map f xs)
found-row f p [] = refl
found-row f p (x ∷ xs) = by (p (f x)) (found-row f p xs)
  where
    by : (b : Bool) → option_map f (find (λ x. p (f x)) xs) ≡ find p (map f xs)
        → option_map f (cond b (Some x) (find (λ x. p (f x)) xs)) ≡ cond b (Some (f x)) (find p (map f xs))
    by true behind = refl
    by false behind = behind
