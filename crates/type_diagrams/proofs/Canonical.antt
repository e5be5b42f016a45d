-- Decisions in order that come to the same are one tree.
use Rattle.std.proofs.Common.{◌≡◌, ℕ, zero, suc, ◌<◌, ◌+◌, ◌==◌, Bool, true, false, if◌then◌else◌, ⊎_elim, ◌⊎◌, refl, sym, subst, ◌∙◌, ap, arith}
use Rattle.std.proofs.lemmas.Bool.{false≢true, eq-eqb, eqb-true}
use Rattle.type_diagrams.specs.Trees.{Tree, No, Yes, By, eval, rank, RisesFrom, IsReduced, IsOrdered}
use Rattle.type_diagrams.proofs.Literals.{by_rank}

pub by_same : (l m : ℕ) (s t u w : Tree) → l ≡ m → s ≡ u → t ≡ w → By l s t ≡ By m u w
by_same l m s t u w e f g = cc

abbrev pub Same : Tree → Tree → Type 0
Same s t = (v : ℕ → Bool) → eval s v ≡ eval t v

-- the assignment with another value for one literal
abbrev pub set : (ℕ → Bool) → ℕ → Bool → ℕ → Bool
set v l b m = if m == l then b else v m

pub by_bool : (x : Bool) → (x ≡ true → ⊥) → x ≡ false
by_bool true f = absurd (f refl)
by_bool false f = refl

pub same_if : (x p q r s : Bool) → p ≡ q → r ≡ s → (if x then p else r) ≡ (if x then q else s)
same_if true p q r s e f = e
same_if false p q r s e f = f

set_at : (v : ℕ → Bool) (l : ℕ) (b : Bool) → set v l b l ≡ b
set_at v l b = ap (λ x. if x then b else v l) (eq-eqb l l refl)

set_off : (v : ℕ → Bool) (l : ℕ) (b : Bool) (m : ℕ) → rank l < rank m → set v l b m ≡ v m
set_off v l b m lt = ap (λ x. if x then b else v m) (by_bool (m == l) (λ e. omega (arith, lt, ap rank (eqb-true m l e))))

-- a tree does not see a literal that comes before its own
ignores : (n : ℕ) (t : Tree) (v : ℕ → Bool) (l : ℕ) (b : Bool) → RisesFrom n t → rank l < n → eval t (set v l b) ≡ eval t v
ignores n No v l b h lt = refl
ignores n Yes v l b h lt = refl
ignores n (By m s t) v l b h lt =
    ap (λ x. if x then eval s (set v l b) else eval t (set v l b)) (set_off v l b m (omega (arith, lt, h.0)))
    ∙ same_if (v m) (eval s (set v l b)) (eval s v) (eval t (set v l b)) (eval t v) (ignores (rank m + 1) s v l b h.1 (omega (arith, lt, h.0))) (ignores (rank m + 1) t v l b h.2 (omega (arith, lt, h.0)))

pub left : (l : ℕ) (s t : Tree) (v : ℕ → Bool) → RisesFrom (rank l + 1) s → eval (By l s t) (set v l true) ≡ eval s v
left l s t v h = ap (λ x. if x then eval s (set v l true) else eval t (set v l true)) (set_at v l true) ∙ ignores (rank l + 1) s v l true h (omega arith)

pub right : (l : ℕ) (s t : Tree) (v : ℕ → Bool) → RisesFrom (rank l + 1) t → eval (By l s t) (set v l false) ≡ eval t v
right l s t v h = ap (λ x. if x then eval s (set v l false) else eval t (set v l false)) (set_at v l false) ∙ ignores (rank l + 1) t v l false h (omega arith)

-- where the whole does not depend on its literal, both sides are the same
no_use : (l : ℕ) (s t u : Tree) → RisesFrom (rank l + 1) s → RisesFrom (rank l + 1) t → RisesFrom (rank l + 1) u → Same (By l s t) u → Same s t
no_use l s t u hs ht hu e v =
    sym (left l s t v hs) ∙ e (set v l true) ∙ ignores (rank l + 1) u v l true hu (omega arith) ∙ sym (ignores (rank l + 1) u v l false hu (omega arith)) ∙ sym (e (set v l false)) ∙ right l s t v ht

abbrev size : Tree → ℕ
size No = 1
size Yes = 1
size (By l s t) = 1 + size s + size t

canonical_to : (k m n : ℕ) (s t : Tree) → size s + size t < k → RisesFrom m s → RisesFrom n t → IsReduced s → IsReduced t → Same s t → s ≡ t
canonical_to zero m n s t lt fs ft rs rt e = absurd (omega (arith, lt))
canonical_to (suc k) m n No No lt fs ft rs rt e = refl
canonical_to (suc k) m n No Yes lt fs ft rs rt e = absurd (false≢true (e (λ _. false)))
canonical_to (suc k) m n Yes No lt fs ft rs rt e = absurd (false≢true (sym (e (λ _. false))))
canonical_to (suc k) m n Yes Yes lt fs ft rs rt e = refl
canonical_to (suc k) m n No (By b u w) lt fs ft rs rt e =
    absurd (rt.0 (canonical_to k (rank b + 1) (rank b + 1) u w (omega (arith, lt)) ft.1 ft.2 rt.1 rt.2 (no_use b u w No ft.1 ft.2 tt (λ v. sym (e v)))))
canonical_to (suc k) m n Yes (By b u w) lt fs ft rs rt e =
    absurd (rt.0 (canonical_to k (rank b + 1) (rank b + 1) u w (omega (arith, lt)) ft.1 ft.2 rt.1 rt.2 (no_use b u w Yes ft.1 ft.2 tt (λ v. sym (e v)))))
canonical_to (suc k) m n (By a s t) No lt fs ft rs rt e =
    absurd (rs.0 (canonical_to k (rank a + 1) (rank a + 1) s t (omega (arith, lt)) fs.1 fs.2 rs.1 rs.2 (no_use a s t No fs.1 fs.2 tt e)))
canonical_to (suc k) m n (By a s t) Yes lt fs ft rs rt e =
    absurd (rs.0 (canonical_to k (rank a + 1) (rank a + 1) s t (omega (arith, lt)) fs.1 fs.2 rs.1 rs.2 (no_use a s t Yes fs.1 fs.2 tt e)))
canonical_to (suc k) m n (By a s t) (By b u w) lt fs ft rs rt e =
    ⊎_elim
    (λ (is : a ≡ b). by_same a b s t u w is
    (canonical_to k (rank a + 1) (rank b + 1) s u (omega (arith, lt)) fs.1 ft.1 rs.1 rt.1
    (λ v. sym (left a s t v fs.1) ∙ e (set v a true) ∙ subst (λ c. eval (By b u w) (set v c true) ≡ eval u v) (sym is) (left b u w v ft.1)))
    (canonical_to k (rank a + 1) (rank b + 1) t w (omega (arith, lt)) fs.2 ft.2 rs.2 rt.2
    (λ v. sym (right a s t v fs.2) ∙ e (set v a false) ∙ subst (λ c. eval (By b u w) (set v c false) ≡ eval w v) (sym is) (right b u w v ft.2))))
    (λ (o : (rank a < rank b) ⊎ (rank b < rank a)). ⊎_elim
    (λ (l : rank a < rank b). absurd (rs.0 (canonical_to k (rank a + 1) (rank a + 1) s t (omega (arith, lt)) fs.1 fs.2 rs.1 rs.2
    (no_use a s t (By b u w) fs.1 fs.2 (omega (arith, l), ft.1, ft.2) e))))
    (λ (g : rank b < rank a). absurd (rt.0 (canonical_to k (rank b + 1) (rank b + 1) u w (omega (arith, lt)) ft.1 ft.2 rt.1 rt.2
    (no_use b u w (By a s t) ft.1 ft.2 (omega (arith, g), fs.1, fs.2) (λ v. sym (e v))))))
    o)
    (by_rank a b)

pub canonical : (s t : Tree) → IsOrdered s → IsOrdered t → ((v : ℕ → Bool) → eval s v ≡ eval t v) → s ≡ t
canonical s t a b e = canonical_to (size s + size t + 1) 0 0 s t (omega arith) a.rises b.rises a.reduced b.reduced e
