-- What is reached, by how many steps lead back from it.
use Rattle.std.proofs.Common.{◌≡◌, ℕ, zero, suc, ◌⊎◌, inl, inr, ◌↔◌, true, false, List, [], ◌∷◌, ◌++◌, get_or, refl, ap, subst, Option, None, Some, Result, Ok, Err, IfOk}
use Rattle.std.specs.Option.{is_some}
use Rattle.std.proofs.lemmas.Bool.{false≢true}
use Rattle.graphs.specs.Cycles.{Follows, IsWay}
use Rattle.graphs.specs.Distances.{AreAway, IsReversed, Leads}
use Rattle.graphs.specs.Ordering.{IsInside}
use Rattle.name_resolution.specs.Reached.{is_reached}

-- what was answered without a stop
pub if-ok : {T E : Type 0} (P Q : T → Type 0) (r : Result T E) → ((t : T) → P t → Q t) → IfOk r P → IfOk r Q
if-ok P Q (Ok t) f h = f t h
if-ok P Q (Err e) f h = tt

-- a way that goes on
way-on : (next : List (List ℕ)) (i : ℕ) (between : List ℕ) (j k : ℕ) → IsWay next i between j → Follows next j k → IsWay next i (between ++ j ∷ []) k
way-on next i [] j k w f = (w, f)
way-on next i (x ∷ xs) j k w f = (w.0, way-on next x xs j k w.1 f)

there : (o : Option ℕ) → is_some o ≡ true → (d : ℕ) × (o ≡ Some d)
there (Some d) h = (d, refl)
there None h = absurd (false≢true h)

module _ (next back : List (List ℕ)) (inside : IsInside next) (r : IsReversed next back) (m : ℕ) where
  abbrev IsFrom : ℕ → Type 0
  IsFrom i = (between : List ℕ) × IsWay next m between i

  onward : (i j : ℕ) → Follows next j i → Follows back i j
  onward i j f = r.known j i (inside j i f) f

  leads-from : (d i : ℕ) → Leads back m d i → (i ≡ m) ⊎ IsFrom i
  leads-from zero i e = inl e
  leads-from (suc d) i (j, f, l) = by (leads-from d j l)
    where
      by : (j ≡ m) ⊎ IsFrom j → (i ≡ m) ⊎ IsFrom i
      by (inl e) = inr ([], subst (λ x. Follows next x i) e (r.follows j i f))
      by (inr (between, w)) = inr (between ++ j ∷ [], way-on next m between j i w (r.follows j i f))

  leads-to : (between : List ℕ) (k i s : ℕ) → Leads back m s k → IsWay next k between i → (d : ℕ) × Leads back m d i
  leads-to [] k i s l w = (suc s, (k, onward i k w, l))
  leads-to (x ∷ xs) k i s l w = leads-to xs x i (suc s) (k, onward x k w.0, l) w.1

  pub are-reached : (away : List (Option ℕ)) → AreAway back m away → (k : ℕ) → (is_reached away k ≡ true) ↔ ((k ≡ m) ⊎ IsFrom k)
  are-reached away a k = (λ h. let d = there (get_or away k None) h in leads-from d.0 k (a.leads k d.0 d.1), by)
    where
      known : (s : ℕ) → Leads back m s k → is_reached away k ≡ true
      known s l = ap is_some (a.least k s l).2

      by : (k ≡ m) ⊎ IsFrom k → is_reached away k ≡ true
      by (inl e) = known 0 e
      by (inr (between, w)) = let l = leads-to between m k 0 refl w in known l.0 l.1
