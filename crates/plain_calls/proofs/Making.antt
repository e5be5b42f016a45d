-- What is made behind what is there.
use Rattle.std.proofs.Common.{◌≡◌, ◌+◌, ◌≤◌, ◌<◌, ℕ, Bool, true, false, List, [], ◌∷◌, ◌++◌, Option, Some, None, length, replicate, refl, sym, ap, arith}
use Rattle.std.specs.Prelude.{nat_le, nat_lt, if◌then◌else◌}
use Rattle.std.proofs.lemmas.Bool.{le-leb, leb-true, lt-ltb, ltb-true}
use Rattle.std.proofs.lemmas.List.{append_assoc, length-map, map-append, replicate-append-replicate, take_all}
use Rattle.std.proofs.lemmas.Option.{slice_get-map}
use Rattle.bal_base.specs.declared.fault.LimitKind.TheVariants.{Strands}
use Rattle.value_model.specs.declared.value.Value.{Value}
use Rattle.value_model.specs.declared.value.Value.TheVariants.{Future}
use Rattle.op_model.specs.CallRows.{new_activation, starts, starts_workers, strands_made, workers_from}
use Rattle.op_model.specs.Common.{Common, Role}
use Rattle.op_model.specs.Effects.{Effect, Beyond, Spawns}
use Rattle.op_model.specs.ProgramFacts.{WorkerFacts}
use Rattle.op_model.specs.Limits.{most_strands}
use Rattle.op_model.specs.Strands.{strand_made}
use Rattle.plain_run.proofs.Lists.{append-one, replicate-more}
use Rattle.plain_calls.specs.Making.{with_another}

not-less : (a b : ℕ) → b ≤ a → nat_lt a b ≡ false
not-less a b le = by (nat_lt a b) refl
  where
    by : (x : Bool) → nat_lt a b ≡ x → nat_lt a b ≡ false
    by true e = absurd (let l = ltb-true a b e in omega (arith, l, le))
    by false e = e

not-at-most : (a b : ℕ) → b < a → nat_le a b ≡ false
not-at-most a b lt = by (nat_le a b) refl
  where
    by : (x : Bool) → nat_le a b ≡ x → nat_le a b ≡ false
    by true e = absurd (let l = leb-true a b e in omega (arith, l, lt))
    by false e = e

-- ---- one strand, unless there are too many

module _ (c : Common) (role : Option Role) (unit : ℕ) (args : List Value) where
  pub starts-there : length c.strands < most_strands → Spawns (record { unit = unit; args = args; role = None } ∷ []) role (Future (length c.strands) unit ∷ []) (strand_made unit None c) ≡ starts c role unit args
  starts-there lt =
      sym (ap (λ b. if b then Spawns (record { unit = unit; args = args; role = None } ∷ []) role (Future (length c.strands) unit ∷ []) (strand_made unit None c) else Beyond Strands) (lt-ltb (length c.strands) most_strands lt))

  pub starts-past : most_strands ≤ length c.strands → Beyond Strands ≡ starts c role unit args
  starts-past le =
      sym (ap (λ b. if b then Spawns (record { unit = unit; args = args; role = None } ∷ []) role (Future (length c.strands) unit ∷ []) (strand_made unit None c) else Beyond Strands) (not-less (length c.strands) most_strands le))

-- ---- the workers of a function

module _ (c : Common) (unit : ℕ) (ws : List WorkerFacts) (vs : List Value) where
  abbrev started : Bool → Effect
  started b =
      let ss = workers_from (length c.activations) 1 ws vs in
      if b then Spawns ss (Some (record { activation = length c.activations; worker = 0 })) [] (strands_made ss (with_another c (new_activation c unit (length ws)))) else Beyond Strands

  pub workers-there : length c.strands + length ws ≤ most_strands → (let ss = workers_from (length c.activations) 1 ws vs in Spawns ss (Some (record { activation = length c.activations; worker = 0 })) [] (strands_made ss (with_another c (new_activation c unit (length ws))))) ≡ starts_workers c unit ws vs
  workers-there le = sym (ap started (le-leb (length c.strands + length ws) most_strands le))

  pub workers-past : most_strands < length c.strands + length ws → Beyond Strands ≡ starts_workers c unit ws vs
  workers-past lt = sym (ap started (not-at-most (length c.strands + length ws) most_strands lt))

pub ruleset making = (length-map, map-append, append-one, replicate-more, slice_get-map, take_all)
