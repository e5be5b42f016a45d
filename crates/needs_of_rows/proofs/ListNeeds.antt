-- Needs of each member of a list, one member more.
use Rattle.std.proofs.Common.{◌≡◌, ◌∙◌, ◌<◌, ◌≤◌, ◌+◌, ℕ, suc, List, [], ◌∷◌, ◌++◌, None, length, map, take, get_or, refl, sym, ap, arith}
use Rattle.std.proofs.lemmas.List.{get_or-map, length-take-le, take_all, take_more}
use Rattle.code_needs.specs.Combining.{Needs, ◌&◌, each, each_zip}
use Rattle.needs_of_rows.specs.declared.found.Found.{Found}
use Rattle.needs_of_rows.specs.Finding.{Finds}
use Rattle.needs_of_rows.proofs.Finding.{and-assoc, and-none, and-nothing, found-as, found-then, nothing-and}

each-end : {A : Type 0} (f : A → Needs) (xs : List A) (x : A) → each f (xs ++ x ∷ []) ≡ each f xs & f x
each-end f [] x = and-nothing (f x) ∙ sym (nothing-and (f x))
each-end f (y ∷ xs) x = ap (λ n. f y & n) (each-end f xs x) ∙ sym (and-assoc (f y) (each f xs) (f x))

pub each-more : {A : Type 0} (f : A → Needs) (xs : List A) (k : ℕ) (x : A) (old mid new : Found) → k < length xs → x ≡ get_or xs k x
    → Finds (each f (take k xs)) old mid → Finds (f x) mid new → Finds (each f (take (k + 1) xs)) old new
each-more f xs k x old mid new lt is p q =
    found-as (each f (take k xs) & f x) (each f (take (k + 1) xs)) old new
    (sym (ap (each f) (take_more xs k x lt ∙ ap (λ y. take k xs ++ y ∷ []) (sym is)) ∙ each-end f (take k xs) x))
    (found-then (each f (take k xs)) (f x) old mid new p q)

pub each-whole : {A : Type 0} (f : A → Needs) (xs : List A) (k : ℕ) (old new : Found) → length xs ≤ k → Finds (each f (take k xs)) old new → Finds (each f xs) old new
each-whole f xs k old new all p = found-as (each f (take k xs)) (each f xs) old new (ap (each f) (take_all k xs all)) p

-- ---- two lists, pair by pair

zip-end : {A B : Type 0} (f : A → B → Needs) (xs : List A) (ys : List B) (x : A) (y : B) → length xs ≡ length ys
    → each_zip f (xs ++ x ∷ []) (ys ++ y ∷ []) ≡ each_zip f xs ys & f x y
zip-end f [] [] x y e = and-nothing (f x y) ∙ sym (nothing-and (f x y))
zip-end f [] (b ∷ ys) x y e = absurd (omega (arith, e))
zip-end f (a ∷ xs) [] x y e = absurd (omega (arith, e))
zip-end f (a ∷ xs) (b ∷ ys) x y e =
    let less : length xs ≡ length ys = omega (arith, e) in
    ap (λ n. f a b & n) (zip-end f xs ys x y less) ∙ sym (and-assoc (f a b) (each_zip f xs ys) (f x y))

pub zip-more : {A B : Type 0} (f : A → B → Needs) (xs : List A) (ys : List B) (k : ℕ) (x : A) (y : B) (old mid new : Found) → length xs ≡ length ys → k < length xs
    → x ≡ get_or xs k x → y ≡ get_or ys k y → Finds (each_zip f (take k xs) (take k ys)) old mid → Finds (f x y) mid new
    → Finds (each_zip f (take (k + 1) xs) (take (k + 1) ys)) old new
zip-more f xs ys k x y old mid new same lt is are p q =
    let lt2 : k < length ys = omega (arith, same, lt) in
    let le : k ≤ length xs = omega (arith, lt) in
    let le2 : k ≤ length ys = omega (arith, lt2) in
    let front = ap (λ l. each_zip f l (take (k + 1) ys)) (take_more xs k x lt ∙ ap (λ z. take k xs ++ z ∷ []) (sym is)) in
    let back = ap (λ l. each_zip f (take k xs ++ x ∷ []) l) (take_more ys k y lt2 ∙ ap (λ z. take k ys ++ z ∷ []) (sym are)) in
    found-as (each_zip f (take k xs) (take k ys) & f x y) (each_zip f (take (k + 1) xs) (take (k + 1) ys)) old new
    (sym (front ∙ back ∙ zip-end f (take k xs) (take k ys) x y (length-take-le k xs le ∙ sym (length-take-le k ys le2))))
    (found-then (each_zip f (take k xs) (take k ys)) (f x y) old mid new p q)

pub zip-whole : {A B : Type 0} (f : A → B → Needs) (xs : List A) (ys : List B) (k : ℕ) (old new : Found) → length xs ≡ length ys → length xs ≤ k
    → Finds (each_zip f (take k xs) (take k ys)) old new → Finds (each_zip f xs ys) old new
zip-whole f xs ys k old new same all p =
    let all2 : length ys ≤ k = omega (arith, same, all) in
    found-as (each_zip f (take k xs) (take k ys)) (each_zip f xs ys) old new (ap (λ l. each_zip f l (take k ys)) (take_all k xs all) ∙ ap (λ l. each_zip f xs l) (take_all k ys all2)) p

pub zip-none : {A B : Type 0} (f : A → B → Needs) (xs : List A) (ys : List B) → (length xs ≡ length ys → ⊥) → each_zip f xs ys ≡ None
zip-none f [] [] no-such = absurd (no-such refl)
zip-none f [] (y ∷ ys) no-such = refl
zip-none f (x ∷ xs) [] no-such = refl
zip-none f (x ∷ xs) (y ∷ ys) no-such =
    ap (λ n. f x y & n) (zip-none f xs ys (λ e. no-such (ap (λ n. suc n) e))) ∙ and-none (f x y)

-- ---- a list that is mapped

as-long : {X A : Type 0} (v : X → A) (xs : List X) → length (map v xs) ≡ length xs
as-long v [] = refl
as-long v (x ∷ xs) = ap (λ n. suc n) (as-long v xs)

pub mapped-more : {X A : Type 0} (v : X → A) (f : A → Needs) (xs : List X) (k : ℕ) (x : X) (old mid new : Found) → k < length xs → x ≡ get_or xs k x
    → Finds (each f (take k (map v xs))) old mid → Finds (f (v x)) mid new → Finds (each f (take (k + 1) (map v xs))) old new
mapped-more v f xs k x old mid new lt is p q =
    let long = as-long v xs in
    each-more f (map v xs) k (v x) old mid new (omega (arith, lt, long)) (ap v is ∙ sym (get_or-map v xs k x (v x) lt)) p q

pub mapped-whole : {X A : Type 0} (v : X → A) (f : A → Needs) (xs : List X) (k : ℕ) (old new : Found) → length xs ≤ k → Finds (each f (take k (map v xs))) old new
    → Finds (each f (map v xs)) old new
mapped-whole v f xs k old new all p = let long = as-long v xs in each-whole f (map v xs) k old new (omega (arith, all, long)) p
