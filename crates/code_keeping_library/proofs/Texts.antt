-- Texts that are made of texts.
use Rattle.std.proofs.Common.{◌≡◌, ◌+◌, ◌-◌, ◌≤◌, ℕ, zero, suc, Bool, true, false, [], ◌∷◌, map, reverse, refl, sym, subst, arith}
use Rattle.std.proofs.Math.Utf8.{low_scalar, scalar}
use Rattle.std.proofs.lemmas.Bool.{and_parts, leb-true}
use Rattle.std.proofs.lemmas.List.{reverse-append}
use Rattle.std.specs.Prelude.{drop, if◌then◌else◌, nat_le, take}
use Rattle.bal_base.specs.declared.text.Text.{Text}
use Rattle.bal_base.specs.Valid.{IsText}
use Rattle.op_model.specs.Strings.{is_between, is_blank, lower_ascii, part_of, trimmed, upper_ascii, without_front}
use Rattle.code_keeping.proofs.Valuing.{text-append, text-both, text-parts}

text-take : (n : ℕ) (t : Text) → IsText t → IsText (take n t)
text-take zero t h = refl
text-take (suc n) [] h = refl
text-take (suc n) (x ∷ t) h = let (one, more) = text-parts x t h in text-both x (take n t) one (text-take n t more)

text-drop : (n : ℕ) (t : Text) → IsText t → IsText (drop n t)
text-drop zero t h = h
text-drop (suc n) [] h = refl
text-drop (suc n) (x ∷ t) h = text-drop n t (text-parts x t h).1

pub text-part : (i j : ℕ) (t : Text) → IsText t → IsText (part_of i j t)
text-part i j t h = text-take (j - i) (drop i t) (text-drop i t h)

text-reverse : (t : Text) → IsText t → IsText (reverse t)
text-reverse [] h = refl
text-reverse (x ∷ t) h =
    let (one, more) = text-parts x t h in
    subst IsText (sym (reverse-append (x ∷ []) t)) (text-append (reverse t) (x ∷ []) (text-reverse t more) (text-both x [] one refl))

text-front : (t : Text) → IsText t → IsText (without_front t)
text-front [] h = refl
text-front (x ∷ t) h = by (is_blank x) (text-front t (text-parts x t h).1)
  where
    by : (b : Bool) → IsText (without_front t) → IsText (if b then without_front t else x ∷ t)
    by true more = more
    by false more = h

pub text-trimmed : (t : Text) → IsText t → IsText (trimmed t)
text-trimmed t h = text-reverse (without_front (reverse (without_front t))) (text-front (reverse (without_front t)) (text-reverse (without_front t) (text-front t h)))

-- each character by itself
text-map : (f : ℕ → ℕ) → ((x : ℕ) → scalar x ≡ true → scalar (f x) ≡ true) → (t : Text) → IsText t → IsText (map f t)
text-map f ok [] h = refl
text-map f ok (x ∷ t) h = let (one, more) = text-parts x t h in text-both (f x) (map f t) (ok x one) (text-map f ok t more)

below-high : (low high c : ℕ) → is_between low high c ≡ true → c ≤ high
below-high low high c e = leb-true c high (and_parts (nat_le low c) (nat_le c high) e).1

upper-ok : (c : ℕ) → scalar c ≡ true → scalar (upper_ascii c) ≡ true
upper-ok c h = by (is_between 97 122 c) refl
  where
    by : (b : Bool) → is_between 97 122 c ≡ b → scalar (if b then c - 32 else c) ≡ true
    by true e = let le = below-high 97 122 c e in low_scalar (c - 32) (omega (arith, le))
    by false e = h

lower-ok : (c : ℕ) → scalar c ≡ true → scalar (lower_ascii c) ≡ true
lower-ok c h = by (is_between 65 90 c) refl
  where
    by : (b : Bool) → is_between 65 90 c ≡ b → scalar (if b then c + 32 else c) ≡ true
    by true e = let le = below-high 65 90 c e in low_scalar (c + 32) (omega (arith, le))
    by false e = h

pub text-upper : (t : Text) → IsText t → IsText (map upper_ascii t)
text-upper t h = text-map upper_ascii upper-ok t h

pub text-lower : (t : Text) → IsText t → IsText (map lower_ascii t)
text-lower t h = text-map lower_ascii lower-ok t h
