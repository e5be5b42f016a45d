-- Strands by their numbers: those that are blocked, and how many have ended.
use Rattle.std.proofs.Common.{◌≡◌, ◌≢◌, ◌∙◌, ◌+◌, ◌<◌, ◌≤◌, ℕ, zero, suc, Bool, true, false, List, [], ◌∷◌, ◌++◌, Some, None, drop, get_or, length, map, take, arith, refl, sym, ap}
use Rattle.std.specs.Prelude.{if◌then◌else◌, is_some, nat_eq, slice_get, slice_set}
use Rattle.std.specs.List.{insert, remove, sum_by}
use Rattle.std.proofs.lemmas.Bool.{eq-eqb, le-ltb, lt-ltb, ne_eqb}
use Rattle.std.proofs.lemmas.List.{append_assoc, take-append-drop, take_more}
use Rattle.std.proofs.lemmas.List.Sums.{sum_by-cons}
use Rattle.op_model.specs.Common as model
use Rattle.op_model.specs.Strands.{end_in, ended_count, no_strand, settled, strand_at, strand_ended, wakes, woken as awake, woken_from}
use Rattle.plain_run.specs.declared.held.Common.{Common}
use Rattle.plain_run.specs.declared.held.Status.{Status}
use Rattle.plain_run.specs.declared.held.Status.TheVariants.{Active, Blocked, Ended}
use Rattle.plain_run.specs.declared.held.Strand.{Strand}
use Rattle.plain_run.specs.Blocked.{blocked_from, ended_by, is_blocked, listed_if, noted}
use Rattle.plain_run.specs.Held.{common_of, status_of, strand_of}
use Rattle.plain_run.specs.Strands.{all_woken, stands_so, woken_among}
use Rattle.plain_run.proofs.Settling.{woken-all, woken-more}
use Rattle.plain_run.proofs.Walking.{rest-one, take-more}

abbrev by : {A : Type 0} → Bool → A → A → A
by b x y = if b then x else y

-- ---- rising numbers

pub noted-behind : (n m : ℕ) (is : Bool) (ms : List ℕ) → m < n → noted n is (m ∷ ms) ≡ m ∷ noted n is ms
noted-behind n m is ms l = λ i. by (lt-ltb m n l i) (m ∷ noted n is ms) (listed_if is n ++ by (nat_eq m n) ms (m ∷ ms))

noted-same : (n : ℕ) (is : Bool) (ms : List ℕ) → noted n is (n ∷ ms) ≡ listed_if is n ++ ms
noted-same n is ms =
    (λ i. by (le-ltb n n (omega arith) i) (n ∷ noted n is ms) (listed_if is n ++ by (nat_eq n n) ms (n ∷ ms)))
    ∙ λ i. listed_if is n ++ by (eq-eqb n n refl i) ms (n ∷ ms)

noted-before : (n m : ℕ) (is : Bool) (ms : List ℕ) → n < m → noted n is (m ∷ ms) ≡ listed_if is n ++ m ∷ ms
noted-before n m is ms l =
    (λ i. by (le-ltb m n (omega (arith, l)) i) (m ∷ noted n is ms) (listed_if is n ++ by (nat_eq m n) ms (m ∷ ms)))
    ∙ λ i. listed_if is n ++ by (ne_eqb m n (λ e. omega (arith, e, l)) i) ms (m ∷ ms)

append-none : {A : Type 0} (ys : List A) → ys ++ [] ≡ ys
append-none [] = refl
append-none (y ∷ ys) = ap (λ zs. y ∷ zs) (append-none ys)

-- one more that stands before the number
pub split-more : (n : ℕ) (is : Bool) (xs : List ℕ) (i m : ℕ) → i < length xs → m ≡ get_or xs i m → m < n → noted n is xs ≡ take i xs ++ noted n is (drop i xs) → noted n is xs ≡ take (i + 1) xs ++ noted n is (drop (i + 1) xs)
split-more n is xs i m l e k h =
    h
    ∙ ap (λ ys. take i xs ++ noted n is ys) (rest-one xs i m l e)
    ∙ ap (λ ys. take i xs ++ ys) (noted-behind n m is (drop (i + 1) xs) k)
    ∙ sym (append_assoc (take i xs) (m ∷ []) (noted n is (drop (i + 1) xs)))
    ∙ ap (λ ys. ys ++ noted n is (drop (i + 1) xs)) (sym (take-more xs i m l e))

drop-get : (xs : List ℕ) (at n : ℕ) → slice_get xs at ≡ Some n → drop at xs ≡ n ∷ drop (suc at) xs
drop-get [] at n e = absurd (none n e)
  where
    none : {A : Type 0} (a : A) → None ≡ Some a → ⊥
    none a e = cc
drop-get (x ∷ xs) zero n e = ap (λ y. y ∷ xs) (same x n e)
  where
    same : {A : Type 0} (a b : A) → Some a ≡ Some b → a ≡ b
    same a b e = cc
drop-get (x ∷ xs) (suc at) n e = drop-get xs at n e

drop-other : (is : Bool) (xs : List ℕ) (at n : ℕ) → (slice_get xs at ≡ Some n → ⊥) → ((m : ℕ) → slice_get xs at ≡ Some m → n ≤ m) → noted n is (drop at xs) ≡ listed_if is n ++ drop at xs
drop-other is [] zero n a b = sym (append-none (listed_if is n))
drop-other is [] (suc at) n a b = sym (append-none (listed_if is n))
drop-other is (x ∷ xs) zero n a b =
    let apart : x ≢ n = λ e. a (ap Some e) in
    let least = b x refl in
    noted-before n x is xs (omega (arith, least, λ (e : n ≡ x). apart (sym e)))
drop-other is (x ∷ xs) (suc at) n a b = drop-other is xs at n a b

pub stays-listed : (xs : List ℕ) (at n : ℕ) → noted n true xs ≡ take at xs ++ noted n true (drop at xs) → slice_get xs at ≡ Some n → xs ≡ noted n true xs
stays-listed xs at n s e =
    let d = drop-get xs at n e in
    sym (s ∙ (ap (λ ys. take at xs ++ noted n true ys) d ∙ (ap (λ ys. take at xs ++ ys) (noted-same n true (drop (suc at) xs) ∙ sym d) ∙ take-append-drop at xs)))

pub is-listed : (xs : List ℕ) (at n : ℕ) → noted n true xs ≡ take at xs ++ noted n true (drop at xs) → (slice_get xs at ≡ Some n → ⊥) → ((m : ℕ) → slice_get xs at ≡ Some m → n ≤ m) → insert xs at n ≡ noted n true xs
is-listed xs at n s a b = sym (s ∙ ap (λ ys. take at xs ++ ys) (drop-other true xs at n a b))

pub is-unlisted : (xs : List ℕ) (at n : ℕ) → noted n false xs ≡ take at xs ++ noted n false (drop at xs) → slice_get xs at ≡ Some n → remove xs at ≡ noted n false xs
is-unlisted xs at n s e = sym (s ∙ (ap (λ ys. take at xs ++ noted n false ys) (drop-get xs at n e) ∙ ap (λ ys. take at xs ++ ys) (noted-same n false (drop (suc at) xs))))

pub stays-unlisted : (xs : List ℕ) (at n : ℕ) → noted n false xs ≡ take at xs ++ noted n false (drop at xs) → (slice_get xs at ≡ Some n → ⊥) → ((m : ℕ) → slice_get xs at ≡ Some m → n ≤ m) → xs ≡ noted n false xs
stays-unlisted xs at n s a b = sym (s ∙ (ap (λ ys. take at xs ++ ys) (drop-other false xs at n a b) ∙ take-append-drop at xs))

-- ---- those that are blocked

-- no number of them is below the first strand's
noted-first : (n k : ℕ) (is : Bool) (xs : List Strand) → n < k → noted n is (blocked_from k xs) ≡ listed_if is n ++ blocked_from k xs
noted-first n k is [] l = sym (append-none (listed_if is n))
noted-first n k is (x ∷ xs) l = cases (is_blocked x.status) (noted-first n (k + 1) is xs (omega (arith, l)))
  where
    cases : (b : Bool) → noted n is (blocked_from (k + 1) xs) ≡ listed_if is n ++ blocked_from (k + 1) xs → noted n is (listed_if b k ++ blocked_from (k + 1) xs) ≡ listed_if is n ++ (listed_if b k ++ blocked_from (k + 1) xs)
    cases true more = noted-before n k is (blocked_from (k + 1) xs) l
    cases false more = more

blocked-set : (k n : ℕ) (xs : List Strand) (s : Strand) → n < length xs → blocked_from k (slice_set xs n s) ≡ noted (k + n) (is_blocked s.status) (blocked_from k xs)
blocked-set k n [] s l = absurd (omega (arith, l))
blocked-set k zero (x ∷ xs) s l = sym (ap (λ m. noted m (is_blocked s.status) (blocked_from k (x ∷ xs))) (let q : k + 0 ≡ k = omega arith in q) ∙ cases (is_blocked x.status))
  where
    cases : (b : Bool) → noted k (is_blocked s.status) (listed_if b k ++ blocked_from (k + 1) xs) ≡ listed_if (is_blocked s.status) k ++ blocked_from (k + 1) xs
    cases true = noted-same k (is_blocked s.status) (blocked_from (k + 1) xs)
    cases false = noted-first k (k + 1) (is_blocked s.status) xs (omega arith)
blocked-set k (suc n) (x ∷ xs) s l =
    ap (λ ys. listed_if (is_blocked x.status) k ++ ys) (blocked-set (k + 1) n xs s (omega (arith, l)))
    ∙ ap (λ m. listed_if (is_blocked x.status) k ++ noted m (is_blocked s.status) (blocked_from (k + 1) xs)) (let q : (k + 1) + n ≡ k + suc n = omega arith in q)
    ∙ cases (is_blocked x.status)
  where
    cases : (b : Bool) → listed_if b k ++ noted (k + suc n) (is_blocked s.status) (blocked_from (k + 1) xs) ≡ noted (k + suc n) (is_blocked s.status) (listed_if b k ++ blocked_from (k + 1) xs)
    cases true = sym (noted-behind (k + suc n) k (is_blocked s.status) (blocked_from (k + 1) xs) (omega arith))
    cases false = refl

get-within : {X : Type 0} (xs : List X) (n : ℕ) (x : X) → slice_get xs n ≡ Some x → n < length xs
get-within [] n x e = absurd (none x e)
  where
    none : {A : Type 0} (a : A) → None ≡ Some a → ⊥
    none a e = cc
get-within (y ∷ ys) zero x e = omega arith
get-within (y ∷ ys) (suc n) x e = let l = get-within ys n x e in omega (arith, l)

pub blocked-at : (xs : List Strand) (n : ℕ) (t : Strand) → n < length xs → blocked_from 0 (slice_set xs n t) ≡ noted n (is_blocked t.status) (blocked_from 0 xs)
blocked-at xs n t l = blocked-set 0 n xs t l ∙ ap (λ m. noted m (is_blocked t.status) (blocked_from 0 xs)) (let q : 0 + n ≡ n = omega arith in q)

pub blocked-stands : (xs : List Strand) (n : ℕ) (s t : Strand) (old new : List ℕ) → slice_get xs n ≡ Some s → old ≡ blocked_from 0 xs → new ≡ noted n (is_blocked t.status) old → new ≡ blocked_from 0 (slice_set xs n t)
blocked-stands xs n s t old new e h k =
    k ∙ (ap (noted n (is_blocked t.status)) h ∙ sym (blocked-set 0 n xs t (get-within xs n s e) ∙ ap (λ m. noted m (is_blocked t.status) (blocked_from 0 xs)) (let q : 0 + n ≡ n = omega arith in q)))

pub blocked-as : (k n : ℕ) (xs : List Strand) (s t : Strand) → slice_get xs n ≡ Some s → t.status ≡ s.status → blocked_from k (slice_set xs n t) ≡ blocked_from k xs
blocked-as k n [] s t e h = refl
blocked-as k zero (x ∷ xs) s t e h = λ i. listed_if (is_blocked ((h ∙ sym (same e)) i)) k ++ blocked_from (k + 1) xs
  where
    same : Some x ≡ Some s → x.status ≡ s.status
    same e = ap (λ (y : Strand). y.status) (inner x s e)
      where
        inner : (a b : Strand) → Some a ≡ Some b → a ≡ b
        inner a b e = cc
blocked-as k (suc n) (x ∷ xs) s t e h = ap (λ ys. listed_if (is_blocked x.status) k ++ ys) (blocked-as (k + 1) n xs s t e h)

pub blocked-same : (xs : List Strand) (n : ℕ) (s t : Strand) (old : List ℕ) → slice_get xs n ≡ Some s → t.status ≡ s.status → old ≡ blocked_from 0 xs → old ≡ blocked_from 0 (slice_set xs n t)
blocked-same xs n s t old e h k = k ∙ sym (blocked-as 0 n xs s t e h)

blocked-last : (k : ℕ) (xs : List Strand) (s : Strand) → s.status ≡ Active → blocked_from k (xs ++ s ∷ []) ≡ blocked_from k xs
blocked-last k [] s h = λ i. listed_if (is_blocked (h i)) k ++ []
blocked-last k (x ∷ xs) s h = ap (λ ys. listed_if (is_blocked x.status) k ++ ys) (blocked-last (k + 1) xs s h)

pub blocked-push : (xs ys : List Strand) (s : Strand) (old : List ℕ) → s.status ≡ Active → ys ≡ xs ++ s ∷ [] → old ≡ blocked_from 0 xs → old ≡ blocked_from 0 ys
blocked-push xs ys s old h e k = k ∙ sym (ap (blocked_from 0) e ∙ blocked-last 0 xs s h)

-- ---- those that have ended

abbrev ended : Strand → ℕ
ended s = ended_by s.status

pub ended-push : (xs ys : List Strand) (s : Strand) (old : ℕ) → s.status ≡ Active → ys ≡ xs ++ s ∷ [] → old ≡ sum_by (λ x. ended_by x.status) xs → old ≡ sum_by (λ x. ended_by x.status) ys
ended-push xs ys s old h e k = k ∙ sym (ap (sum_by ended) e ∙ more xs)
  where
    none : ended s ≡ 0
    none = λ i. ended_by (h i)

    more : (zs : List Strand) → sum_by ended (zs ++ s ∷ []) ≡ sum_by ended zs
    more [] = let one = sum_by-cons ended s [] in omega (arith, one, none)
    more (z ∷ zs) = sum_by-cons ended z (zs ++ s ∷ []) ∙ (ap (λ n. ended z + n) (more zs) ∙ sym (sum_by-cons ended z zs))

set-sum : (xs : List Strand) (n : ℕ) (s t : Strand) → slice_get xs n ≡ Some s → sum_by ended (slice_set xs n t) + ended s ≡ sum_by ended xs + ended t
set-sum [] n s t e = absurd (none s e)
  where
    none : {A : Type 0} (a : A) → None ≡ Some a → ⊥
    none a e = cc
set-sum (x ∷ xs) zero s t e =
    let same : ended x ≡ ended s = ap ended (inner x s e) in
    let a = sum_by-cons ended t xs in
    let b = sum_by-cons ended x xs in
    omega (arith, same, a, b)
  where
    inner : (a b : Strand) → Some a ≡ Some b → a ≡ b
    inner a b e = cc
set-sum (x ∷ xs) (suc n) s t e =
    let more = set-sum xs n s t e in
    let a = sum_by-cons ended x (slice_set xs n t) in
    let b = sum_by-cons ended x xs in
    omega (arith, more, a, b)

pub ended-stands : (xs : List Strand) (n : ℕ) (s t : Strand) (old new : ℕ) → slice_get xs n ≡ Some s → old ≡ sum_by (λ x. ended_by x.status) xs → new + ended_by s.status ≡ old + ended_by t.status → new ≡ sum_by (λ x. ended_by x.status) (slice_set xs n t)
ended-stands xs n s t old new e h k = let all = set-sum xs n s t e in omega (arith, all, h, k)

pub ended-same : (xs : List Strand) (n : ℕ) (s t : Strand) (old : ℕ) → slice_get xs n ≡ Some s → t.status ≡ s.status → old ≡ sum_by (λ x. ended_by x.status) xs → old ≡ sum_by (λ x. ended_by x.status) (slice_set xs n t)
ended-same xs n s t old e h k = ended-stands xs n s t old old e k (ap (λ c. old + ended_by c) (sym h))

pub ended-least : (xs : List Strand) (n : ℕ) (s : Strand) (old : ℕ) → slice_get xs n ≡ Some s → old ≡ sum_by (λ x. ended_by x.status) xs → ended_by s.status ≤ old
ended-least xs n s old e h = let l = least xs n e in omega (arith, l, h)
  where
    least : (zs : List Strand) (m : ℕ) → slice_get zs m ≡ Some s → ended s ≤ sum_by ended zs
    least [] m e = absurd (none s e)
      where
        none : {A : Type 0} (a : A) → None ≡ Some a → ⊥
        none a e = cc
    least (z ∷ zs) zero e = let a = sum_by-cons ended z zs in let same : ended z ≡ ended s = ap ended (inner z s e) in omega (arith, a, same)
      where
        inner : (a b : Strand) → Some a ≡ Some b → a ≡ b
        inner a b e = cc
    least (z ∷ zs) (suc m) e = let a = sum_by-cons ended z zs in let l = least zs m e in omega (arith, a, l)

pub once-most : (status : Status) → ended_by status ≤ 1
once-most Active = omega arith
once-most (Blocked need) = omega arith
once-most (Ended place end) = omega arith

pub ended-most : (xs : List Strand) → sum_by (λ x. ended_by x.status) xs ≤ length xs
ended-most [] = omega arith
ended-most (x ∷ xs) = let a = sum_by-cons ended x xs in let one = once-most x.status in let l = ended-most xs in omega (arith, a, one, l)

pub count-held : (xs : List Strand) → ended_count (map strand_of xs) ≡ sum_by (λ x. ended_by x.status) xs
count-held [] = refl
count-held (x ∷ xs) = ap (λ n. n + ended_count (map strand_of xs)) (one x.status) ∙ (ap (λ n. ended x + n) (count-held xs) ∙ sym (sum_by-cons ended x xs))
  where
    one : (s : Status) → (if is_some (end_in (status_of s)) then 1 else 0) ≡ ended_by s
    one Active = refl
    one (Blocked need) = refl
    one (Ended place end) = refl

-- the running strand has ended, after as many as are counted
pub ended-so : (c : Common) (ss : List Strand) (place : ℕ) (end : model.End) → place ≡ sum_by (λ x. ended_by x.status) c.strands → map strand_of ss ≡ stands_so (map strand_of c.strands) c.running (model.IsEnded place end) → record (common_of c) { strands = map strand_of ss } ≡ strand_ended end (common_of c)
ended-so c ss place end p h =
    (λ i. record (common_of c) { strands = h i })
    ∙ λ i. record (common_of c) { strands = stands_so (map strand_of c.strands) c.running (model.IsEnded ((p ∙ sym (count-held c.strands)) i) end) }

-- ---- who wakes

among-more : (c : model.Common) (ns ms : List ℕ) → woken_among c (ns ++ ms) ≡ woken_among c ns ++ woken_among c ms
among-more c [] ms = refl
among-more c (n ∷ ns) ms =
    ap (λ ys. listed_if (wakes c (strand_at c n).status) n ++ ys) (among-more c ns ms)
    ∙ sym (append_assoc (listed_if (wakes c (strand_at c n).status) n) (woken_among c ns) (woken_among c ms))

pub among-step : (c : model.Common) (ns : List ℕ) (i n : ℕ) (old woken next : List ℕ) → i < length ns → n ≡ get_or ns i 0 → woken ≡ old ++ woken_among c (take i ns) → next ≡ woken ++ listed_if (wakes c (strand_at c n).status) n → next ≡ old ++ woken_among c (take (i + 1) ns)
among-step c ns i n old woken next l e h s =
    s
    ∙ ap (λ ys. ys ++ listed_if (wakes c (strand_at c n).status) n) h
    ∙ append_assoc old (woken_among c (take i ns)) (listed_if (wakes c (strand_at c n).status) n)
    ∙ ap (λ ys. old ++ ys) (sym (ap (woken_among c) (take_more ns i 0 l ∙ ap (λ y. take i ns ++ y ∷ []) (sym e)) ∙ (among-more c (take i ns) (n ∷ []) ∙ ap (λ ys. woken_among c (take i ns) ++ ys) (append-none (listed_if (wakes c (strand_at c n).status) n)))))

seam : (front : List model.Strand) (s : model.Strand) (ss : List model.Strand) → get_or (front ++ s ∷ ss) (length front) no_strand ≡ s
seam [] s ss = refl
seam (x ∷ front) s ss = seam front s ss

among-blocked : (c : model.Common) (k : ℕ) (front : List model.Strand) (xs : List Strand) → k ≡ length front → c.strands ≡ front ++ map strand_of xs → woken_from c k (map strand_of xs) ≡ woken_among c (blocked_from k xs)
among-blocked c k front [] e h = refl
among-blocked c k front (x ∷ xs) e h =
    woken-more c k (strand_of x) (map strand_of xs)
    ∙ ap (λ ys. listed_if (wakes c (status_of x.status)) k ++ ys) (among-blocked c (k + 1) (front ++ strand_of x ∷ []) xs (longer front (strand_of x) k e) (h ∙ sym (append_assoc front (strand_of x ∷ []) (map strand_of xs))))
    ∙ cases x.status (ap (λ (s : model.Strand). s.status) here)
  where
    longer : (ys : List model.Strand) (y : model.Strand) (m : ℕ) → m ≡ length ys → m + 1 ≡ length (ys ++ y ∷ [])
    longer [] y m e = omega (arith, e)
    longer (z ∷ ys) y zero e = absurd (omega (arith, e))
    longer (z ∷ ys) y (suc m) e = let l = longer ys y m (omega (arith, e)) in omega (arith, l)

    here : strand_at c k ≡ strand_of x
    here = (λ i. get_or (h i) (e i) no_strand) ∙ seam front (strand_of x) (map strand_of xs)

    cases : (s : Status) → (strand_at c k).status ≡ status_of s → listed_if (wakes c (status_of s)) k ++ woken_among c (blocked_from (k + 1) xs) ≡ woken_among c (listed_if (is_blocked s) k ++ blocked_from (k + 1) xs)
    cases Active q = refl
    cases (Blocked need) q = λ i. listed_if (wakes c (sym q i)) k ++ woken_among c (blocked_from (k + 1) xs)
    cases (Ended place end) q = refl

pub blocked-wake : (c : model.Common) (xs : List Strand) → c.strands ≡ map strand_of xs → woken_among c (blocked_from 0 xs) ≡ woken_from c 0 (map strand_of xs)
blocked-wake c xs h = sym (among-blocked c 0 [] xs refl h)

-- all that wake are ready
pub settled-so : (c : Common) (numbers woken : List ℕ) (ss : List Strand) → numbers ≡ blocked_from 0 c.strands → woken ≡ [] ++ woken_among (common_of c) numbers → map strand_of ss ≡ all_woken woken (map strand_of c.strands) → (ready : List ℕ) → ready ≡ c.ready.items ++ woken → record (common_of c) { strands = map strand_of ss; ready = ready } ≡ settled (common_of c)
settled-so c numbers woken ss b w h ready r =
    let same : woken ≡ woken_from (common_of c) 0 (map strand_of c.strands) = w ∙ (ap (woken_among (common_of c)) b ∙ blocked-wake (common_of c) c.strands refl) in
    let all : map strand_of ss ≡ map (awake (common_of c)) (map strand_of c.strands) = h ∙ (ap (λ ns. all_woken ns (map strand_of c.strands)) same ∙ woken-all (common_of c) (map strand_of c.strands)) in
    let rs : ready ≡ c.ready.items ++ woken_from (common_of c) 0 (map strand_of c.strands) = r ∙ ap (λ ns. c.ready.items ++ ns) same in
    λ i. record (common_of c) { strands = all i; ready = rs i }

pub ruleset listed = (stays-listed, is-listed, is-unlisted, stays-unlisted, blocked-stands, blocked-same, blocked-push, ended-push, ended-stands, ended-same)
