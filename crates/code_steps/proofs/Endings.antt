-- What strand 0 ended with, as an ending.
use Rattle.std.proofs.Common.{◌≡◌, ◌+◌, ◌<◌, ℕ, List, Option, Some, None, refl, subst, arith}
use Rattle.std.specs.Prelude.{IsSomeAnd, option_map, slice_get}
use Rattle.std.proofs.lemmas.Option.{slice_get-map}
use Rattle.bal_base.specs.declared.text.Text.{Text}
use Rattle.value_model.specs.declared.value.Value.TheVariants.{Error}
use Rattle.value_model.specs.Heap.{ErrorObject}
use Rattle.op_model.specs.Common.{Common, Returned, Panicked}
use Rattle.machine_model.specs.Outcomes.{ComesTo, Ending, IsEnding, IsMainEnd, Outcome, ReturnsError, Panics}
use Rattle.machine_model.specs.Runs.{Stop}

some-same : (s t : Text) → Some s ≡ Some t → s ≡ t
some-same s t e = let q : s ≡ t = cc in q

some-none : (t : Text) → Some t ≡ None → ⊥
some-none t e = cc

none-some : (t : Text) → None ≡ Some t → ⊥
none-some t e = cc

-- the error that is there, or that isn't
there : (P : Text → Type 0) (t : Text) (o : Option ErrorObject) → Some t ≡ option_map (λ e. e.message) o → P t → IsSomeAnd o (λ e. P e.message)
there P t (Some e) is h = let same : t ≡ e.message = some-same t e.message is in subst P same h
there P t None is h = absurd (some-none t is)

missing : (P : Text → Type 0) (o : Option ErrorObject) → None ≡ option_map (λ e. e.message) o → ¬ (IsSomeAnd o (λ e. P e.message))
missing P (Some e) is h = none-some e.message is
missing P None is h = h

module _ (c : Common) (n : ℕ) where
  pub returns-error : (t : Text) → Some t ≡ option_map (λ e. e.message) (slice_get c.world.heap.errors n) → IsMainEnd c (Some (Returned (Error n))) (ReturnsError t)
  returns-error t is = there (λ m. ReturnsError t ≡ ReturnsError m) t (slice_get c.world.heap.errors n) is refl

  pub panics-so : (t : Text) → Some t ≡ option_map (λ e. e.message) (slice_get c.world.heap.errors n) → IsMainEnd c (Some (Panicked (Error n))) (Panics t)
  panics-so t is = there (λ m. Panics t ≡ Panics m) t (slice_get c.world.heap.errors n) is refl

  pub returns-none : None ≡ option_map (λ e. e.message) (slice_get c.world.heap.errors n) → (ending : Ending) → ¬ (IsMainEnd c (Some (Returned (Error n))) ending)
  returns-none is ending = missing (λ m. ending ≡ ReturnsError m) (slice_get c.world.heap.errors n) is

  pub panics-none : None ≡ option_map (λ e. e.message) (slice_get c.world.heap.errors n) → (ending : Ending) → ¬ (IsMainEnd c (Some (Panicked (Error n))) ending)
  panics-none is ending = missing (λ m. ending ≡ Panics m) (slice_get c.world.heap.errors n) is

-- no outcome
pub no-ending : (ticks : ℕ) (stop : Stop) (c : Common) → ((e : Ending) → ¬ (IsEnding stop c e)) → (o : Outcome) → ¬ (ComesTo ticks stop c o)
no-ending ticks stop c none o h = none o.ending h.ending

pub more-ticks : (ticks : ℕ) (stop : Stop) (c : Common) → ticks < c.ticks → (o : Outcome) → ¬ (ComesTo ticks stop c o)
more-ticks ticks stop c less o h = let spent = h.spent in omega (arith, less, spent)

-- the outcome
pub comes-so : (ticks : ℕ) (stop : Stop) (c : Common) (ending : Ending) (output rest : List ℕ) (spent picks : ℕ) → IsEnding stop c ending → output ≡ c.world.output → rest ≡ c.world.input → spent + c.ticks ≡ ticks → picks ≡ c.picks → ComesTo ticks stop c (record { ending = ending; output = output; rest = rest; spent = spent; picks = picks })
comes-so ticks stop c ending output rest spent picks e out left s k = record { ending = e; output = out; rest = left; spent = s; picks = k }

pub ruleset endings = (returns-error, panics-so, returns-none, panics-none, no-ending, more-ticks, comes-so, slice_get-map)
