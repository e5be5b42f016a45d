-- Lists of two runs, member by member.
use Rattle.std.proofs.Common.{◌≡◌, ◌-◌, ◌++◌, ℕ, zero, suc, List, [], ◌∷◌, length, length-append, take, Option, Some, None, slice_get, arith, sym, subst, ap, ◌∙◌, refl}
use Rattle.std.specs.List.{AllZip}
use Rattle.check_words.specs.Sharing.{SameOption}
use Rattle.check_words.specs.State.{AreLast, IsLast, all_but, replaced}

module _ {A : Type 0} (R : A → A → Type 0) where
  pub zip-append : (xs us : List A) (ys vs : List A) → AllZip R xs ys → AllZip R us vs → AllZip R (xs ++ us) (ys ++ vs)
  zip-append [] us [] vs h k = k
  zip-append (x ∷ xs) us (y ∷ ys) vs h k = (h.0, zip-append xs us ys vs h.1 k)
  zip-append [] us (y ∷ ys) vs h k = absurd h
  zip-append (x ∷ xs) us [] vs h k = absurd h

  pub zip-one : (xs : List A) (ys : List A) (x : A) (y : A) → AllZip R xs ys → R x y → AllZip R (xs ++ x ∷ []) (ys ++ y ∷ [])
  zip-one xs ys x y h r = zip-append xs (x ∷ []) ys (y ∷ []) h (r, tt)

  pub zip-take : (k : ℕ) (xs : List A) (ys : List A) → AllZip R xs ys → AllZip R (take k xs) (take k ys)
  zip-take zero xs ys h = tt
  zip-take (suc k) [] [] h = tt
  zip-take (suc k) (x ∷ xs) (y ∷ ys) h = (h.0, zip-take k xs ys h.1)
  zip-take (suc k) [] (y ∷ ys) h = absurd h
  zip-take (suc k) (x ∷ xs) [] h = absurd h

  pub zip-long : (xs : List A) (ys : List A) → AllZip R xs ys → length xs ≡ length ys
  zip-long [] [] h = refl
  zip-long (x ∷ xs) (y ∷ ys) h = ap suc (zip-long xs ys h.1)
  zip-long [] (y ∷ ys) h = absurd h
  zip-long (x ∷ xs) [] h = absurd h

  pub zip-but : (count : ℕ) (xs : List A) (ys : List A) → AllZip R xs ys → AllZip R (all_but count xs) (all_but count ys)
  zip-but count xs ys h =
      subst (λ k. AllZip R (all_but count xs) (take (k - count) ys)) (zip-long xs ys h) (zip-take (length xs - count) xs ys h)

  pub zip-get : (xs : List A) (ys : List A) (k : ℕ) → AllZip R xs ys → SameOption R (slice_get xs k) (slice_get ys k)
  zip-get [] [] k h = tt
  zip-get (x ∷ xs) (y ∷ ys) zero h = h.0
  zip-get (x ∷ xs) (y ∷ ys) (suc k) h = zip-get xs ys k h.1
  zip-get [] (y ∷ ys) k h = absurd h
  zip-get (x ∷ xs) [] k h = absurd h

  -- the last ones correspond
  ends-twin : (kept others : List A) (x y : A) → AllZip R (kept ++ x ∷ []) (others ++ y ∷ []) → R x y
  ends-twin [] [] x y h = h.0
  ends-twin (k ∷ kept) (o ∷ others) x y h = ends-twin kept others x y h.1
  ends-twin [] (o ∷ []) x y h = absurd h.1
  ends-twin [] (o ∷ p ∷ others) x y h = absurd h.1
  ends-twin (k ∷ []) [] x y h = absurd h.1
  ends-twin (k ∷ l ∷ kept) [] x y h = absurd h.1

  pub zip-last : (xs ys : List A) (x y : A) → AllZip R xs ys → IsLast xs x → IsLast ys y → R x y
  zip-last xs ys x y h p q = ends-twin p.kept q.kept x y (subst (λ l. AllZip R l (q.kept ++ y ∷ [])) p.is (subst (AllZip R xs) q.is h))

  ends-twins : (kept others xs ys : List A) → length xs ≡ length ys → AllZip R (kept ++ xs) (others ++ ys) → AllZip R xs ys
  ends-twins [] [] xs ys e h = h
  ends-twins (k ∷ kept) (o ∷ others) xs ys e h = ends-twins kept others xs ys e h.1
  ends-twins [] (o ∷ others) xs ys e h =
      let l = zip-long xs (o ∷ others ++ ys) h in let m = length-append others ys in absurd (omega (arith, l, m, e))
  ends-twins (k ∷ kept) [] xs ys e h =
      let l = zip-long (k ∷ kept ++ xs) ys h in let m = length-append kept xs in absurd (omega (arith, l, m, e))

  pub zip-lasts : (count : ℕ) (xs ys us vs : List A) → AllZip R xs ys → AreLast xs count us → AreLast ys count vs → AllZip R us vs
  zip-lasts count xs ys us vs h p q =
      ends-twins p.kept q.kept us vs (p.many ∙ sym q.many) (subst (λ l. AllZip R l (q.kept ++ vs)) p.is (subst (AllZip R xs) q.is h))

  pub zip-other : (xs ys : List A) (x y : A) → AllZip R xs ys → R x y → AllZip R (replaced xs x) (replaced ys y)
  zip-other xs ys x y h r = zip-one (all_but 1 xs) (all_but 1 ys) x y (zip-but 1 xs ys h) r

-- where what corresponds in one way does in another
pub zip-map : {A : Type 0} (R Q : A → A → Type 0) → ((x y : A) → R x y → Q x y) → (xs ys : List A) → AllZip R xs ys → AllZip Q xs ys
zip-map R Q f [] [] h = tt
zip-map R Q f (x ∷ xs) (y ∷ ys) h = (f x y h.0, zip-map R Q f xs ys h.1)
zip-map R Q f [] (y ∷ ys) h = absurd h
zip-map R Q f (x ∷ xs) [] h = absurd h

pub option-map : {A : Type 0} (R Q : A → A → Type 0) → ((x y : A) → R x y → Q x y) → (o p : Option A) → SameOption R o p → SameOption Q o p
option-map R Q f None None h = tt
option-map R Q f (Some x) (Some y) h = f x y h
option-map R Q f None (Some y) h = absurd h
option-map R Q f (Some x) None h = absurd h

pub zip-itself : {A : Type 0} (xs : List A) → AllZip (λ a b. b ≡ a) xs xs
zip-itself [] = tt
zip-itself (x ∷ xs) = (refl, zip-itself xs)

pub zip-equal : {A : Type 0} (xs ys : List A) → ys ≡ xs → AllZip (λ a b. b ≡ a) xs ys
zip-equal xs ys e = subst (AllZip (λ a b. b ≡ a) xs) (sym e) (zip-itself xs)

pub last-same : {A : Type 0} (xs ys : List A) (x y : A) → ys ≡ xs → IsLast xs x → IsLast ys y → y ≡ x
last-same xs ys x y e p q = zip-last (λ a b. b ≡ a) xs ys x y (zip-equal xs ys e) p q
