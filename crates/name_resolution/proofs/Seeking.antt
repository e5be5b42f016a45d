-- A loop that seeks the first member at which a test passes, from a place on.
use Rattle.std.proofs.Common.{◌≡◌, ℕ, ◌+◌, ◌<◌, ◌≤◌, Bool, true, false, List, length, get_or, drop, sym, ap, ◌∙◌, Option, None, Some, cond}
use Rattle.std.specs.List.{position_from}
use Rattle.std.proofs.lemmas.List.{drop_all}
use Rattle.graphs.proofs.Rows.{drop-more}

module _ {X : Type 0} (test : X → Bool) (xs : List X) (r : Option ℕ) where
  -- what is sought from the place on is what is sought
  abbrev pub Sought : ℕ → Type 0
  Sought i = position_from test i (drop i xs) ≡ r

  next : (i : ℕ) (x : X) (b : Bool) → i < length xs → x ≡ get_or xs i x → test x ≡ b → Sought i → cond b (Some i) (position_from test (i + 1) (drop (i + 1) xs)) ≡ r
  next i x b lt is e h = ap (λ c. cond c (Some i) (position_from test (i + 1) (drop (i + 1) xs))) (sym e) ∙ ap (position_from test i) (sym (drop-more xs i x lt is)) ∙ h

  pub seek-on : (i : ℕ) (x : X) → i < length xs → x ≡ get_or xs i x → test x ≡ false → Sought i → Sought (i + 1)
  seek-on i x lt is fails h = next i x false lt is fails h

  pub found-here : (i : ℕ) (x : X) → i < length xs → x ≡ get_or xs i x → test x ≡ true → Sought i → Some i ≡ r
  found-here i x lt is passes h = next i x true lt is passes h

  pub found-nowhere : (i : ℕ) → length xs ≤ i → Sought i → None ≡ r
  found-nowhere i le h = ap (position_from test i) (sym (drop_all i xs le)) ∙ h
