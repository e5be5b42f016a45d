-- Lists in which one place is set, and activations that change in one channel.
use Rattle.std.proofs.Common.{◌≡◌, ◌≢◌, ◌≤◌, ◌<◌, ◌+◌, ◌∙◌, ℕ, zero, suc, List, [], ◌∷◌, ◌++◌, Some, inl, inr, length, refl, sym, ap, subst, arith}
use Rattle.std.proofs.lemmas.List.Elements.{All-head, All-tail}
use Rattle.std.specs.Prelude.{◌⊎◌, All, get_or, slice_get, slice_set}
use Rattle.op_model.specs.Common.{Activation, Channel}
use Rattle.op_model.specs.Strands.{no_channel}
use Rattle.machine_model.proofs.Once.{some-same}
use Rattle.stack_code.specs.Frames.{channel_in}

-- ---- numbers

pub same-or-not : (n m : ℕ) → (n ≡ m) ⊎ (n ≢ m)
same-or-not zero zero = inl refl
same-or-not zero (suc m) = inr (λ e. absurd (omega (arith, e)))
same-or-not (suc n) zero = inr (λ e. absurd (omega (arith, e)))
same-or-not (suc n) (suc m) = by (same-or-not n m)
  where
    by : (n ≡ m) ⊎ (n ≢ m) → (suc n ≡ suc m) ⊎ (suc n ≢ suc m)
    by (inl e) = inl (ap suc e)
    by (inr d) = inr (λ e. d (omega (arith, e)))

pub below-or-not : (n m : ℕ) → (n < m) ⊎ (m ≤ n)
below-or-not n zero = inr (omega arith)
below-or-not zero (suc m) = inl (omega arith)
below-or-not (suc n) (suc m) = by (below-or-not n m)
  where
    by : (n < m) ⊎ (m ≤ n) → (suc n < suc m) ⊎ (suc m ≤ suc n)
    by (inl l) = inl (omega (arith, l))
    by (inr l) = inr (omega (arith, l))

-- ---- lists

pub get-set-same : {A : Type 0} (xs : List A) (i : ℕ) (x y : A) → slice_get xs i ≡ Some y → slice_get (slice_set xs i x) i ≡ Some x
get-set-same [] i x y e = absurd (let q : ⊥ = cc in q)
get-set-same (z ∷ xs) zero x y e = refl
get-set-same (z ∷ xs) (suc i) x y e = get-set-same xs i x y e

pub get-set-other : {A : Type 0} (xs : List A) (i j : ℕ) (x : A) → i ≢ j → slice_get (slice_set xs i x) j ≡ slice_get xs j
get-set-other [] i j x ne = refl
get-set-other (y ∷ xs) zero zero x ne = absurd (ne refl)
get-set-other (y ∷ xs) zero (suc j) x ne = refl
get-set-other (y ∷ xs) (suc i) zero x ne = refl
get-set-other (y ∷ xs) (suc i) (suc j) x ne = get-set-other xs i j x (λ e. ne (ap suc e))

pub or-set-same : {A : Type 0} (xs : List A) (i : ℕ) (x d : A) → i < length xs → get_or (slice_set xs i x) i d ≡ x
or-set-same [] i x d l = absurd (omega (arith, l))
or-set-same (y ∷ xs) zero x d l = refl
or-set-same (y ∷ xs) (suc i) x d l = or-set-same xs i x d (omega (arith, l))

pub or-set-other : {A : Type 0} (xs : List A) (i j : ℕ) (x d : A) → i ≢ j → get_or (slice_set xs i x) j d ≡ get_or xs j d
or-set-other [] i j x d ne = refl
or-set-other (y ∷ xs) zero zero x d ne = absurd (ne refl)
or-set-other (y ∷ xs) zero (suc j) x d ne = refl
or-set-other (y ∷ xs) (suc i) zero x d ne = refl
or-set-other (y ∷ xs) (suc i) (suc j) x d ne = or-set-other xs i j x d (λ e. ne (ap suc e))

pub length-set : {A : Type 0} (xs : List A) (i : ℕ) (x : A) → length (slice_set xs i x) ≡ length xs
length-set [] i x = refl
length-set (y ∷ xs) zero x = refl
length-set (y ∷ xs) (suc i) x = ap suc (length-set xs i x)

pub all-set : {A : Type 0} (P : A → Type 0) (xs : List A) (i : ℕ) (x : A) → All P xs → P x → All P (slice_set xs i x)
all-set P [] i x h p = h
all-set P (y ∷ xs) zero x h p = more x xs p (All-tail P y xs h)
  where
    more : (x : _) (xs : _) → P x → All P xs → All P (x ∷ xs)
    more x xs p h zero d l = p
    more x xs p h (suc k) d l = h k d (omega (arith, l))
all-set P (y ∷ xs) (suc i) x h p = more y (slice_set xs i x) (All-head P y xs h) (all-set P xs i x (All-tail P y xs h) p)
  where
    more : (x : _) (xs : _) → P x → All P xs → All P (x ∷ xs)
    more x xs p h zero d l = p
    more x xs p h (suc k) d l = h k d (omega (arith, l))

pub all-or : {A : Type 0} (P : A → Type 0) (xs : List A) (i : ℕ) (d : A) → All P xs → i < length xs → P (get_or xs i d)
all-or P [] i d h l = absurd (omega (arith, l))
all-or P (x ∷ xs) zero d h l = All-head P x xs h
all-or P (x ∷ xs) (suc i) d h l = all-or P xs i d (All-tail P x xs h) (omega (arith, l))

pub or-there : {A : Type 0} (xs : List A) (i : ℕ) (x d : A) → slice_get xs i ≡ Some x → get_or xs i d ≡ x
or-there [] i x d e = absurd (let q : ⊥ = cc in q)
or-there (y ∷ xs) zero x d e = some-same y x e
or-there (y ∷ xs) (suc i) x d e = or-there xs i x d e

pub within : {A : Type 0} (xs : List A) (i : ℕ) (x : A) → slice_get xs i ≡ Some x → i < length xs
within [] i x e = absurd (let q : ⊥ = cc in q)
within (y ∷ xs) zero x e = omega arith
within (y ∷ xs) (suc i) x e = let l : i < length xs = within xs i x e in omega (arith, l)

pub list-same : {A : Type 0} (xs ys : List A) → length xs ≡ length ys → ((k : ℕ) → k < length xs → slice_get xs k ≡ slice_get ys k) → xs ≡ ys
list-same [] [] e h = refl
list-same [] (y ∷ ys) e h = absurd (omega (arith, e))
list-same (x ∷ xs) [] e h = absurd (omega (arith, e))
list-same (x ∷ xs) (y ∷ ys) e h =
    let heads : x ≡ y = some-same x y (h 0 (omega arith)) in
    let tails : xs ≡ ys = list-same xs ys (omega (arith, e)) (λ k l. h (suc k) (omega (arith, l))) in
    ap (λ z. z ∷ xs) heads ∙ ap (λ zs. y ∷ zs) tails

-- the list of the numbers that a function gives
pub listed : (n : ℕ) (g : ℕ → ℕ) → (ns : List ℕ) × (length ns ≡ n) × ((w : ℕ) → w < length ns → slice_get ns w ≡ Some (g w))
listed zero g = ([], refl, λ w l. absurd (omega (arith, l)))
listed (suc n) g =
    let (ns, e, h) = listed n (λ k. g (suc k)) in
    (g 0 ∷ ns, ap suc e, at ns h)
  where
    at : (ns : List ℕ) → ((w : ℕ) → w < length ns → slice_get ns w ≡ Some (g (suc w))) → (w : ℕ) → w < length (g 0 ∷ ns) → slice_get (g 0 ∷ ns) w ≡ Some (g w)
    at ns h zero l = refl
    at ns h (suc w) l = h w (omega (arith, l))

-- ---- queues: each message fits by its number

abbrev pub FitFrom : {A : Type 0} → (A → ℕ → Type 0) → ℕ → List A → Type 0
FitFrom P r queue = (k : ℕ) (m : _) → slice_get queue k ≡ Some m → P m (r + k)

pub sent-fits : {A : Type 0} (P : A → ℕ → Type 0) (r : ℕ) (queue : List A) (v : A) → FitFrom P r queue → P v (r + length queue) → FitFrom P r (queue ++ v ∷ [])
sent-fits P r [] v h p zero m e = subst (λ x. P x (r + 0)) (some-same v m e) p
sent-fits P r [] v h p (suc k) m e = absurd (let q : ⊥ = cc in q)
sent-fits P r (x ∷ queue) v h p zero m e = h 0 m e
sent-fits P r (x ∷ queue) v h p (suc k) m e =
    subst (λ n. P m n) (omega arith) (sent-fits P (suc r) queue v (λ j y d. subst (λ n. P y n) (omega arith) (h (suc j) y d)) (subst (λ n. P v n) (omega arith) p) k m e)

pub received-fits : {A : Type 0} (P : A → ℕ → Type 0) (r : ℕ) (v : A) (queue : List A) → FitFrom P r (v ∷ queue) → P v r × FitFrom P (r + 1) queue
received-fits P r v queue h = (subst (λ n. P v n) (omega arith) (h 0 v refl), (λ k m e. subst (λ n. P m n) (omega arith) (h (suc k) m e)))

-- ---- one channel of all

abbrev pub with_channel_in : Activation → ℕ → ℕ → Channel → Activation
with_channel_in x from to ch = record { unit = x.unit; strands = x.strands; ends = x.ends; channels = slice_set x.channels from (slice_set (get_or x.channels from []) to ch) }

module _ (x : Activation) (from to : ℕ) (ch : Channel) (row : from < length x.channels) where
  pub channel-here : to < length (get_or x.channels from []) → channel_in (with_channel_in x from to ch) from to ≡ ch
  channel-here l =
      ap (λ r. get_or r to no_channel) (or-set-same x.channels from (slice_set (get_or x.channels from []) to ch) [] row) ∙ or-set-same (get_or x.channels from []) to ch no_channel l

  channel-row : (w : ℕ) → to ≢ w → channel_in (with_channel_in x from to ch) from w ≡ channel_in x from w
  channel-row w ne =
      ap (λ r. get_or r w no_channel) (or-set-same x.channels from (slice_set (get_or x.channels from []) to ch) [] row) ∙ or-set-other (get_or x.channels from []) to w ch no_channel ne

  channel-rows : (v w : ℕ) → from ≢ v → channel_in (with_channel_in x from to ch) v w ≡ channel_in x v w
  channel-rows v w ne = ap (λ r. get_or r w no_channel) (or-set-other x.channels from v (slice_set (get_or x.channels from []) to ch) [] ne)

  -- each channel is the one that was set, or is as it was
  pub channel-cases : (P : ℕ → ℕ → Channel → Type 0) → to < length (get_or x.channels from []) → P from to ch → ((v w : ℕ) → (from ≢ v) ⊎ (to ≢ w) → P v w (channel_in x v w)) → (v w : ℕ) → P v w (channel_in (with_channel_in x from to ch) v w)
  channel-cases P l here other v w = by (same-or-not from v) (same-or-not to w)
    where
      by : (from ≡ v) ⊎ (from ≢ v) → (to ≡ w) ⊎ (to ≢ w) → P v w (channel_in (with_channel_in x from to ch) v w)
      by (inr ne) b = subst (λ c. P v w c) (sym (channel-rows v w ne)) (other v w (inl ne))
      by (inl e) (inr ne) = subst (λ k. P k w (channel_in (with_channel_in x from to ch) k w)) e (subst (λ c. P from w c) (sym (channel-row w ne)) (other from w (inr ne)))
      by (inl e) (inl d) = subst (λ k. P k w (channel_in (with_channel_in x from to ch) k w)) e (subst (λ k. P from k (channel_in (with_channel_in x from to ch) from k)) d (subst (λ c. P from to c) (sym (channel-here l)) here))
