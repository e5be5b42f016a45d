-- Workers behind the first one.
use Rattle.std.proofs.Common.{◌≡◌, ◌∙◌, ◌≤◌, ◌-◌, ℕ, zero, suc, List, ◌∷◌, map, option_map, slice_get, sym, ap, arith}
use Rattle.std.proofs.lemmas.Option.{slice_get-map}
use Rattle.stack_code.specs.declared.code.Spawn.{Spawn}

pub worker-behind : (own : ℕ) (ws : List Spawn) (n : ℕ) → 1 ≤ n → option_map (λ w. w.unit) (slice_get ws (n - 1)) ≡ slice_get (own ∷ map (λ w. w.unit) ws) n
worker-behind own ws zero le = absurd (omega (arith, le))
worker-behind own ws (suc m) le =
    let less : suc m - 1 ≡ m = omega arith in
    ap (λ k. option_map (λ w. w.unit) (slice_get ws k)) less ∙ sym (slice_get-map (λ w. w.unit) ws m)
