-- The values that named workers capture, of slots that hold them.
use Rattle.std.proofs.Common.{◌≡◌, ℕ, List, [], ◌∷◌, ◌++◌, Option, Some, length, map, sym, subst}
use Rattle.std.specs.Prelude.{All, IsSomeAnd, drop, slice_get, take, ⊤}
use Rattle.std.specs.List.{AllZip, concat}
use Rattle.type_model.specs.declared.basic.SemType.{SemType}
use Rattle.type_model.specs.Membership.{In}
use Rattle.operations.specs.Rows.{IsWithin}
use Rattle.value_model.specs.declared.value.Value.{Value}
use Rattle.op_model.specs.Common.{Common}
use Rattle.stack_code.specs.declared.code.Code.{Code}
use Rattle.stack_code.specs.declared.code.Spawn.{Spawn}
use Rattle.stack_code.specs.declared.code.Unit.{Unit as CodeUnit}
use Rattle.stack_code.specs.Tables.{CapturesWell, UnitAt}
use Rattle.stack_code.specs.Values.{AllFit, Fits, HeldFits}
use Rattle.std.proofs.lemmas.List.Elements.{All-head, All-tail}
use Rattle.code_keeping.proofs.Lists.{some-there}
use Rattle.code_keeping.proofs.Moving.{loaded-fits}

-- the slots hold these values, one by one
abbrev pub AreHeld : List (Option Value) → List ℕ → List Value → Type 0
AreHeld slots = AllZip (λ s v. slice_get slots s ≡ Some (Some v))

module _ (code : Code) (c : Common) (u : CodeUnit) (slots : List (Option Value)) (held : AllZip (HeldFits code c) slots u.slots) where
  abbrev Captures : List ℕ → List SemType → Type 0
  Captures = AllZip (λ slot t. IsSomeAnd (slice_get u.slots slot) (λ s. IsWithin code.atoms (λ y. In code.atoms y t) s))

  -- what the slots of one worker hold fits what its unit captures
  one-fits : (ns : List ℕ) (ts : List SemType) (vs : List Value) (more : List ℕ) → Captures ns ts → AreHeld slots (ns ++ more) vs → AllFit code c (take (length ns) vs) ts × AreHeld slots more (drop (length ns) vs)
  one-fits [] [] vs more h k = (tt, k)
  one-fits [] (t ∷ ts) vs more h k = absurd h
  one-fits (n ∷ ns) [] vs more h k = absurd h
  one-fits (n ∷ ns) (t ∷ ts) [] more h k = absurd k
  one-fits (n ∷ ns) (t ∷ ts) (v ∷ vs) more (h, hs) (k, ks) =
      let (s, e, below) = some-there (λ s. IsWithin code.atoms (λ y. In code.atoms y t) s) (slice_get u.slots n) h in
      let fits = of-slot s e (loaded-fits code c slots u.slots n v held k) in
      let (a, b) = one-fits ns ts vs more hs ks in
      (((fits.0, fits.1, (λ x valid stands. below x (valid, fits.2 x valid stands))), a), b)
    where
      of-slot : (s : SemType) → slice_get u.slots n ≡ Some s → IsSomeAnd (slice_get u.slots n) (λ t. Fits code c v t) → Fits code c v s
      of-slot s e h = subst (λ o. IsSomeAnd o (λ t. Fits code c v t)) e h

  -- what each worker captures fits its unit
  abbrev pub AllCaptured : List Spawn → List Value → Type 0
  AllCaptured [] vs = ⊤
  AllCaptured (w ∷ ws) vs = UnitAt code w.unit (λ g. AllFit code c (take (length w.slots) vs) g.captured) × AllCaptured ws (drop (length w.slots) vs)

  pub all-captured : (ws : List Spawn) (vs : List Value) → All (CapturesWell code u) ws → AreHeld slots (concat (map (λ w. w.slots) ws)) vs → AllCaptured ws vs
  all-captured [] vs h k = tt
  all-captured (w ∷ ws) vs h k =
      let (g, eg, captures) = some-there (λ g. Captures w.slots g.captured) (slice_get code.units w.unit) (All-head (CapturesWell code u) w ws h) in
      let (a, b) = one-fits w.slots g.captured vs (concat (map (λ w. w.slots) ws)) captures k in
      (subst (λ o. IsSomeAnd o (λ g. AllFit code c (take (length w.slots) vs) g.captured)) (sym eg) a, all-captured ws (drop (length w.slots) vs) (All-tail (CapturesWell code u) w ws h) b)
