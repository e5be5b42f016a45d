-- Writing one part behind another, in a row and in a loop.
use Rattle.std.proofs.Common.{◌≡◌, ℕ, zero, suc, ◌+◌, ◌<◌, List, [], ◌∷◌, ◌++◌, length, get_or, take, map, refl, sym, ap, ◌∙◌, append_assoc, arith, Bool, true, false, Option, None, Some}
use Rattle.std.proofs.Math.Bool.{not}
use Rattle.std.proofs.Math.Dec.{eqb, ltb, eqb-suc-zero}
use Rattle.std.proofs.lemmas.Bool.{lt-ltb}
use Rattle.std.proofs.lemmas.List.{append-nil, map-append, take_more}
use Rattle.std.specs.Global.{Box}
use Rattle.bal_base.specs.declared.token.TokenKind.{TokenKind}
use Rattle.bal_base.specs.declared.token.TokenKind.TheVariants.{Sign as SignKind}
use Rattle.bal_base.specs.declared.token.Sign.{Sign}
use Rattle.bal_base.specs.declared.token.Sign.TheVariants.{Comma}
use Rattle.bal_tree.specs.Pieces.{Pieces, ◌&◌, sign, sign_if, if_there, if_boxed, kinds, joined, behind, separated}
use Rattle.bal_tree.specs.TypePieces.{with_last, with_last_boxed}
use Rattle.bal_tree.specs.Writing.{Written, Writes, behind_all}
use Rattle.bal_tree.proofs.Kept.{same-kinds}

writes-both : (old mid new : Written) (p q : Pieces) → Writes old p mid → Writes mid q new → Writes old (p & q) new
writes-both old mid new p q h k = k ∙ ap (behind_all q) h

-- what has the same tokens comes to the same
writes-same : (old new : Written) (p q : Pieces) → Writes old p new → kinds q ≡ kinds p → Writes old q new
writes-same old new p q h same = h ∙ sym (same-kinds q p old same)

-- ---- one more part of a list

joined-push : (ps : List Pieces) (q : Pieces) → kinds (joined (ps ++ q ∷ [])) ≡ kinds (joined ps & q)
joined-push [] q = append-nil (kinds q)
joined-push (p ∷ ps) q = ap (λ ks. kinds p ++ ks) (joined-push ps q) ∙ sym (append_assoc (kinds p) (kinds (joined ps)) (kinds q))

behind-push : (s : Sign) (ps : List Pieces) (q : Pieces) → kinds (behind s (ps ++ q ∷ [])) ≡ kinds (behind s ps) ++ SignKind s ∷ kinds q
behind-push s [] q = ap (λ ks. SignKind s ∷ ks) (append-nil (kinds q))
behind-push s (p ∷ ps) q =
    ap (λ ks. SignKind s ∷ (kinds p ++ ks)) (behind-push s ps q) ∙ ap (λ ks. SignKind s ∷ ks) (sym (append_assoc (kinds p) (kinds (behind s ps)) (SignKind s ∷ kinds q)))

abbrev is_some_part : List Pieces → Bool
is_some_part [] = false
is_some_part (p ∷ ps) = true

separated-push : (s : Sign) (ps : List Pieces) (q : Pieces) → kinds (separated s (ps ++ q ∷ [])) ≡ kinds (separated s ps & sign_if (is_some_part ps) s & q)
separated-push s [] q = append-nil (kinds q)
separated-push s (p ∷ ps) q = ap (λ ks. kinds p ++ ks) (behind-push s ps q) ∙ sym (append_assoc (kinds p) (kinds (behind s ps)) (SignKind s ∷ kinds q))

module _ {X : Type 0} (f : X → Pieces) where
  map-more : (xs : List X) (i : ℕ) (x : X) → i < length xs → x ≡ get_or xs i x → map f (take (i + 1) xs) ≡ map f (take i xs) ++ f x ∷ []
  map-more xs i x lt is =
      ap (map f) (take_more xs i x lt ∙ ap (λ y. take i xs ++ y ∷ []) (sym is)) ∙ map-append f (take i xs) (x ∷ [])

  some_before : (xs : List X) (i : ℕ) → i < length xs → is_some_part (map f (take i xs)) ≡ ltb 0 i
  some_before [] i lt = absurd (omega (arith, lt))
  some_before (y ∷ ys) zero lt = refl
  some_before (y ∷ ys) (suc i) lt = sym (lt-ltb 0 (suc i) (omega arith))

  some_at_all : (xs : List X) → is_some_part (map f xs) ≡ not (eqb (length xs) 0)
  some_at_all [] = refl
  some_at_all (y ∷ ys) = sym (ap not (eqb-suc-zero (length ys)))

  -- a step of a loop that writes the parts one behind the other
  pub joined-more : (xs : List X) (i : ℕ) (x : X) (old mid new : Written) → i < length xs → x ≡ get_or xs i x → Writes old (joined (map f (take i xs))) mid → Writes mid (f x) new → Writes old (joined (map f (take (i + 1) xs))) new
  joined-more xs i x old mid new lt is before next =
      let ps = map f (take i xs) in
      writes-same old new (joined ps & f x) (joined (map f (take (i + 1) xs))) (writes-both old mid new (joined ps) (f x) before next)
      (ap (λ parts. kinds (joined parts)) (map-more xs i x lt is) ∙ joined-push ps (f x))

  -- a step of a loop that writes each part behind a sign
  pub behind-more : (s : Sign) (xs : List X) (i : ℕ) (x : X) (old mid new : Written) → i < length xs → x ≡ get_or xs i x → Writes old (behind s (map f (take i xs))) mid → Writes mid (sign s & f x) new → Writes old (behind s (map f (take (i + 1) xs))) new
  behind-more s xs i x old mid new lt is before next =
      let ps = map f (take i xs) in
      writes-same old new (behind s ps & (sign s & f x)) (behind s (map f (take (i + 1) xs))) (writes-both old mid new (behind s ps) (sign s & f x) before next)
      (ap (λ parts. kinds (behind s parts)) (map-more xs i x lt is) ∙ behind-push s ps (f x))

  -- a step of a loop that writes the sign and each part, and no sign before the first
  pub separated-more : (s : Sign) (xs : List X) (i : ℕ) (x : X) (a b c d : Written) → i < length xs → x ≡ get_or xs i x → Writes a (separated s (map f (take i xs))) b → Writes b (sign_if (ltb 0 i) s) c → Writes c (f x) d → Writes a (separated s (map f (take (i + 1) xs))) d
  separated-more s xs i x a b c d lt is before sign here =
      let ps = map f (take i xs) in
      let both = sign_if (ltb 0 i) s & f x in
      writes-same a d (separated s ps & both) (separated s (map f (take (i + 1) xs))) (writes-both a b d (separated s ps) both before (writes-both b c d (sign_if (ltb 0 i) s) (f x) sign here))
      (ap (λ parts. kinds (separated s parts)) (map-more xs i x lt is) ∙ separated-push s ps (f x) ∙ ap (λ some. kinds (separated s ps & sign_if some s & f x)) (some_before xs i lt))

  -- ---- a list and what takes the rest behind it: the comma is there unless the list is empty

  last_part : {Y : Type 0} (g : Y → Pieces) (xs : List X) (y : Y) → kinds (separated Comma (map f xs ++ g y ∷ [])) ≡ kinds (separated Comma (map f xs) & sign_if (not (eqb (length xs) 0)) Comma & g y)
  last_part g xs y =
      separated-push Comma (map f xs) (g y) ∙ ap (λ some. kinds (separated Comma (map f xs) & sign_if some Comma & g y)) (some_at_all xs)

  with_last-kinds : {Y : Type 0} (g : Y → Pieces) (xs : List X) (rest : Option Y) → kinds (separated Comma (with_last g (map f xs) rest)) ≡ kinds (separated Comma (map f xs) & if_there (λ y. sign_if (not (eqb (length xs) 0)) Comma & g y) rest)
  with_last-kinds g xs None = sym (append-nil (kinds (separated Comma (map f xs))))
  with_last-kinds g xs (Some y) = last_part g xs y

  with_last_boxed-kinds : {Y : Type 0} (g : Y → Pieces) (xs : List X) (rest : Option (Box Y)) → kinds (separated Comma (with_last_boxed g (map f xs) rest)) ≡ kinds (separated Comma (map f xs) & if_boxed (λ y. sign_if (not (eqb (length xs) 0)) Comma & g y) rest)
  with_last_boxed-kinds g xs None = sym (append-nil (kinds (separated Comma (map f xs))))
  with_last_boxed-kinds g xs (Some y) = last_part g xs y.value

  pub behind_all-with_last : {Y : Type 0} (g : Y → Pieces) (xs : List X) (rest : Option Y) (w : Written)
      → behind_all (separated Comma (with_last g (map f xs) rest)) w ≡ behind_all (separated Comma (map f xs) & if_there (λ y. sign_if (not (eqb (length xs) 0)) Comma & g y) rest) w
  behind_all-with_last g xs rest w =
      same-kinds (separated Comma (with_last g (map f xs) rest)) (separated Comma (map f xs) & if_there (λ y. sign_if (not (eqb (length xs) 0)) Comma & g y) rest) w (with_last-kinds g xs rest)

  pub behind_all-with_last_boxed : {Y : Type 0} (g : Y → Pieces) (xs : List X) (rest : Option (Box Y)) (w : Written)
      → behind_all (separated Comma (with_last_boxed g (map f xs) rest)) w ≡ behind_all (separated Comma (map f xs) & if_boxed (λ y. sign_if (not (eqb (length xs) 0)) Comma & g y) rest) w
  behind_all-with_last_boxed g xs rest w =
      same-kinds (separated Comma (with_last_boxed g (map f xs) rest)) (separated Comma (map f xs) & if_boxed (λ y. sign_if (not (eqb (length xs) 0)) Comma & g y) rest) w (with_last_boxed-kinds g xs rest)

-- what a function needs that writes several parts one behind the other
pub ruleset adding = (behind_all-with_last, behind_all-with_last_boxed)
