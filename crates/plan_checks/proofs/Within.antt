-- A number that is given only where it is no more than another one.
use Rattle.std.proofs.Common.{◌≡◌, ◌∙◌, ◌<◌, ◌≤◌, ◌+◌, ◌-◌, ◌↔◌, ℕ, suc, Bool, true, false, Option, Some, None, IsTrue, length, refl, sym, ap, arith}
use Rattle.std.specs.Prelude.{if◌then◌else◌, List, nat_le}
use Rattle.std.proofs.lemmas.Bool.{false_from_ne_true, false≢true, le-leb, leb-false, leb-true}
use Rattle.std.proofs.lemmas.List.{get_or_past}
use Rattle.worker_pairing.specs.Faults.{kinds_of, rank_in, start_of}
use Rattle.worker_pairing.specs.Marks.{Members, in_text}
use Rattle.plan_checks.proofs.Counting.{start-all, start-more, start-next}

-- ---- what is given so

abbrev pub within : ℕ → ℕ → ℕ → Option ℕ
within n m x = if nat_le n m then Some x else None

module _ (n m x : ℕ) where
  pub is-within : (y : ℕ) → Some y ≡ within n m x → (n ≤ m) × (y ≡ x)
  is-within y e = by (nat_le n m) refl e
    where
      by : (b : Bool) → nat_le n m ≡ b → Some y ≡ (if b then Some x else None) → (n ≤ m) × (y ≡ x)
      by true is e = (leb-true n m is, (grind (arith, e)))
      by false is e = absurd (grind (arith, e))

  pub is-past : None ≡ within n m x → m < n
  is-past e = by (nat_le n m) refl e
    where
      by : (b : Bool) → nat_le n m ≡ b → None ≡ (if b then Some x else None) → m < n
      by true is e = absurd (grind (arith, e))
      by false is e = leb-false n m is

  pub within-so : (y : ℕ) → n ≤ m → y ≡ x → Some y ≡ within n m x
  within-so y le same = ap Some same ∙ sym (ap (λ b. if b then Some x else None) (le-leb n m le))

  pub past-so : m < n → None ≡ within n m x
  past-so lt = sym (ap (λ b. if b then Some x else None) (false_from_ne_true (nat_le n m) (λ is. let le : n ≤ m = leb-true n m is in omega (arith, le, lt))))

-- ---- events counted down, worker by worker

module _ (ms : Members) (many : ℕ) where
  abbrev pub LeftAt : ℕ → ℕ → Type 0
  LeftAt w left = left + start_of ms w ≡ many

  pub left-next : (w left y : ℕ) → LeftAt w left → Some y ≡ within (length (kinds_of ms w)) left (left - length (kinds_of ms w)) → LeftAt (w + 1) y
  left-next w left y so e =
      let is = is-within (length (kinds_of ms w)) left (left - length (kinds_of ms w)) y e in
      let less = is.0 in
      let same = is.1 in
      let place : w + 1 ≡ suc w = omega arith in
      let next = ap (start_of ms) place ∙ start-next ms w in
      omega (arith, so, less, same, next)

  pub left-none : (w left end x : ℕ) → w < end → LeftAt w left → None ≡ within (length (kinds_of ms w)) left x → None ≡ within (start_of ms end) many (many - start_of ms end)
  left-none w left end x lt so e =
      let more = is-past (length (kinds_of ms w)) left x e in
      let next = start-next ms w in
      let most = start-more ms (suc w) end (omega (arith, lt)) in
      past-so (start_of ms end) many (many - start_of ms end) (omega (arith, more, next, most, so))

  pub left-all : (w left end : ℕ) → w ≡ end → LeftAt w left → Some left ≡ within (start_of ms end) many (many - start_of ms end)
  left-all w left end same so =
      let place = ap (start_of ms) same in
      within-so (start_of ms end) many (many - start_of ms end) left (omega (arith, place, so)) (omega (arith, place, so))

  -- ---- all events

  module _ (all : ℕ) (workers : all ≡ length ms) where
    whole : start_of ms all ≡ length (in_text ms)
    whole = ap (start_of ms) workers ∙ start-all ms

    pub as-many : (left : ℕ) (b : Bool) → Some left ≡ within (start_of ms all) many (many - start_of ms all) → IsTrue b ↔ left ≡ 0 → IsTrue b ↔ many ≡ length (in_text ms)
    as-many left b e both =
        let is = is-within (start_of ms all) many (many - start_of ms all) left e in
        let less = is.0 in
        let same = is.1 in
        let text = whole in (
          λ h. let none = both.0 h in omega (arith, none, less, same, text),
          λ h. both.1 (omega (arith, h, same, text)),
        )

    pub not-as-many : None ≡ within (start_of ms all) many (many - start_of ms all) → IsTrue false ↔ many ≡ length (in_text ms)
    not-as-many e =
        let more = is-past (start_of ms all) many (many - start_of ms all) e in
        let text = whole in
        (λ h. absurd (false≢true h), λ h. absurd (omega (arith, h, more, text)))

-- ---- ranks

module _ (ms : Members) (ranks : List ℕ) (w i : ℕ) where
  pub rank-past : (many : ℕ) → many ≡ length ranks → None ≡ within (start_of ms w) many (start_of ms w) → 0 ≡ rank_in ms ranks w i
  rank-past many long e =
      let more = is-past (start_of ms w) many (start_of ms w) e in
      sym (get_or_past ranks (start_of ms w + i) 0 (omega (arith, more, long)))
