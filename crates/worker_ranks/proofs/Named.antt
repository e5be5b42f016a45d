-- Names of workers, one after another.
use Rattle.std.proofs.Common.{◌≡◌, ◌∙◌, ◌<◌, ◌≤◌, ◌⊎◌, ◌+◌, ◌-◌, ◌==◌, ℕ, Bool, true, false, List, ◌∷◌, Option, Some, None, drop, get_or, length, refl, sym, ap, inl, inr, arith}
use Rattle.std.specs.Prelude.{◌||◌}
use Rattle.std.proofs.lemmas.Bool.{cases_eq, eq-eqb, false≢true, ne_eqb}
use Rattle.graphs.proofs.Rows.{drop-more}
use Rattle.operations.specs.Talk.{workers_in}
use Rattle.worker_pairing.specs.Events.{is_peer}
use Rattle.worker_ranks.specs.inner.Vertices.{is_among}

other-name : (name : Option ℕ) (rest : List (Option ℕ)) (w : ℕ) → is_peer w name ≡ false → is_among (workers_in (name ∷ rest)) w ≡ is_among (workers_in rest) w
other-name (Some n) rest w off = ap (λ b. b || is_among (workers_in rest) w) off
other-name None rest w off = refl

this-name : (name : Option ℕ) (rest : List (Option ℕ)) (w : ℕ) → is_peer w name ≡ true → is_among (workers_in (name ∷ rest)) w ≡ true
this-name (Some n) rest w is = ap (λ b. b || is_among (workers_in rest) w) is
this-name None rest w is = absurd (false≢true is)

module _ (names : List (Option ℕ)) (w i : ℕ) (name : Option ℕ) (b : Bool) (lt : i < length names) (at : name ≡ get_or names i name) where
  pub name-next : is_peer w name ≡ false → is_among (workers_in (drop i names)) w ≡ b → is_among (workers_in (drop (i + 1) names)) w ≡ b
  name-next off before = sym (other-name name (drop (i + 1) names) w off) ∙ ap (λ l. is_among (workers_in l) w) (sym (drop-more names i name lt at)) ∙ before

  pub name-is : is_peer w name ≡ true → is_among (workers_in (drop i names)) w ≡ b → true ≡ b
  name-is is before = sym (this-name name (drop (i + 1) names) w is) ∙ ap (λ l. is_among (workers_in l) w) (sym (drop-more names i name lt at)) ∙ before

-- ---- the next number

pub next-never : (a b : ℕ) → b ≤ a → false ≡ (a + 1 == b)
next-never a b le = sym (ne_eqb (a + 1) b (λ e. omega (arith, e, le)))

pub next-so : (a b : ℕ) → a < b → (a == b - 1) ≡ (a + 1 == b)
next-so a b lt = by (cases_eq a (b - 1))
  where
    by : (a ≡ b - 1) ⊎ (a ≡ b - 1 → ⊥) → (a == b - 1) ≡ (a + 1 == b)
    by (inl e) = eq-eqb a (b - 1) e ∙ sym (eq-eqb (a + 1) b (omega (arith, e, lt)))
    by (inr apart) = ne_eqb a (b - 1) apart ∙ sym (ne_eqb (a + 1) b (λ e. apart (omega (arith, e))))
