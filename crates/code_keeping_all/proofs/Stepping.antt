-- What comes of a frame's asking is carried to a next state, and a run begins: the units of all that begins are there.
use Rattle.std.proofs.Common.{◌≡◌, ◌∙◌, ◌++◌, ℕ, Bool, true, false, List, [], ◌∷◌, Option, Some, None, map, refl, sym, ap, subst}
use Rattle.std.proofs.lemmas.List.Elements.{All-head, All-nil, All-tail}
use Rattle.std.specs.Prelude.{◌==◌, ◌&&◌, All, if◌then◌else◌, option_map, slice_get, ⊤}
use Rattle.bal_base.specs.declared.text.Text.{Text}
use Rattle.value_model.specs.declared.filler.Filler.{Filler}
use Rattle.value_model.specs.declared.value.Value.{Value}
use Rattle.op_model.specs.Common.{Common, End, Panicked, Returned, Role}
use Rattle.op_model.specs.Effects.{Beyond, Effect, Enters, Fails, Gives, Leaves, NoTick, Spawned, Spawns, Waits}
use Rattle.op_model.specs.Strands.{is_success, settled, worker_ended, workers_ended}
use Rattle.value_model.specs.Meaning.{Answers}
use Rattle.machine_model.specs.Keeping.{EffectFits}
use Rattle.machine_model.specs.Machine.{Frame, Machine, Moved, Next, State, all_begun, begun, carried, given, goes_on, goes_to, left_with, next_units, put, roles_left, unwound, with_begun}
use Rattle.machine_model.specs.Runs.{Running, begins_with, first_common, main_arguments, start}
use Rattle.stack_code.specs.declared.code.Code.{Code}
use Rattle.stack_code.specs.declared.code.Unit.{Unit as CodeUnit}
use Rattle.stack_code.specs.CodeMachine.{Standing, code_launch, codes, entry}
use Rattle.stack_code.specs.Good.{IsToRun, NearlyCommon, code_invariant}
use Rattle.stack_code.specs.Tables.{IsInitialiserWell, IsMain, UnitAt}
use Rattle.stack_code.specs.WellTyped.{WellTyped}
use Rattle.code_keeping.proofs.Lists.{at-some, some-there, some-to}
use Rattle.code_keeping.proofs.Serving.{all-to}
use Rattle.code_keeping_all.proofs.Spawning.{HasUnits, IsUnit}

-- panics that end frames leave what is to be run
still-to-run : (end : End) (role : Option Role) (c : Common) → (worker_ended end role c).to_run ≡ c.to_run
still-to-run end (Some r) c = refl
still-to-run end None c = refl

all-to-run : (end : End) (roles : List (Option Role)) (c : Common) → (workers_ended end roles c).to_run ≡ c.to_run
all-to-run end [] c = refl
all-to-run end (r ∷ roles) c = all-to-run end roles (worker_ended end r c) ∙ still-to-run end r c

module _ (fillers : ℕ → List Filler) (natives : Answers) (code : Code) where
  abbrev M : Machine Standing
  M = codes fillers code

  abbrev Comes : Option (Next Standing) → Type 0
  Comes o = (next : Next Standing) × (o ≡ Some next)

  -- a unit of the code begins
  unit-begins : (unit : ℕ) (args : List Value) (role : Option Role) → IsUnit code unit → (f : Frame Standing) × (begun M unit args role ≡ Some f)
  unit-begins unit args role there =
      let (u, e, h) = some-there (λ (u : CodeUnit). ⊤) (slice_get code.units unit) there in
      (record { unit = unit; role = role; control = entry args u }, ap (λ o. option_map (λ k. let f : Frame Standing = record { unit = unit; role = role; control = k } in f) (option_map (entry args) o)) e)

  -- the next unit, or the end of the strand
  left-comes : (s : State Standing) (c : Common) (end : End) (us : List (ℕ × List Value)) → All (λ u. IsUnit code u.0) us → Comes (left_with M s c end us)
  left-comes s c end [] there = (_, refl)
  left-comes s c end (u ∷ us) there =
      let (f, e) = unit-begins u.0 u.1 None (All-head (λ (u : ℕ × List Value). IsUnit code u.0) u us there) in
      let then_is : Frame Standing → Next Standing = λ f. Moved (put s (settled (record c { to_run = us })) (f ∷ [])) in
      (then_is f, ap (option_map then_is) e)

  units-to-run : (c : Common) (end : End) → All (λ u. IsUnit code u.0) c.to_run → All (λ u. IsUnit code u.0) (next_units c end)
  units-to-run c end h = by ((c.running == 0) && is_success (Some end))
    where
      by : (b : Bool) → All (λ u. IsUnit code u.0) (if b then c.to_run else [])
      by true = h
      by false = All-nil _

  goes-on-comes : (s : State Standing) (c : Common) (end : End) (fs : List (Frame Standing)) → All (λ u. IsUnit code u.0) c.to_run → Comes (goes_on M s c end fs)
  goes-on-comes s c end [] h = left-comes s c end (next_units c end) (units-to-run c end h)
  goes-on-comes s c end (f ∷ fs) h = (_, refl)

  all-begin : (ss : List Spawned) → All (λ s. IsUnit code s.unit) ss → (fs : List (List (Frame Standing))) × (all_begun M ss ≡ Some fs)
  all-begin [] h = ([], refl)
  all-begin (s ∷ ss) h =
      let (f, e) = unit-begins s.unit s.args s.role (All-head (λ (s : Spawned). IsUnit code s.unit) s ss h) in
      let (fs, more) = all-begin ss (All-tail (λ (s : Spawned). IsUnit code s.unit) s ss h) in
      ((f ∷ []) ∷ fs, (λ i. with_begun M (e i) (more i)))

  to-run-there : (c : Common) → NearlyCommon code c Running → All (λ u. IsUnit code u.0) c.to_run
  to-run-there c nearly = all-to (IsToRun code c) (λ (u : ℕ × List Value). IsUnit code u.0) (λ u h. some-to _ (λ (u : CodeUnit). ⊤) (slice_get code.units u.0) (λ x k. tt) h.1) c.to_run nearly.to_run

  -- where what comes fits, it is carried
  pub is-carried : (s : State Standing) (f : Frame Standing) (k : Standing) (fs : List (Frame Standing)) (depth : ℕ) (effect : Effect) → HasUnits code effect → EffectFits natives M (code_invariant code) s.common depth f k effect → Comes (carried M s f k fs effect)
  is-carried s f k fs depth (Gives vs d) units fits = (_, refl)
  is-carried s f k fs depth (Fails e d) units fits =
      let roles = roles_left M e (goes_to f k ∷ fs) in
      goes-on-comes s (workers_ended (Panicked e) roles d) (Panicked e) (unwound M e (goes_to f k ∷ fs)) (subst (All (λ u. IsUnit code u.0)) (sym (all-to-run (Panicked e) roles d)) (to-run-there d fits.0))
  is-carried s f k fs depth (Waits need) units fits = (_, refl)
  is-carried s f k fs depth (Enters unit args d) units (good, keeps, later, begins, awaits) =
      let (u, e, h) = some-there _ (slice_get code.units unit) awaits.below in
      let (g, begun-is) = unit-begins unit args None (at-some (λ (u : CodeUnit). ⊤) (slice_get code.units unit) u e tt) in
      let then_is : Frame Standing → Next Standing = λ g. Moved (put s d (g ∷ goes_to f k ∷ fs)) in
      (then_is g, ap (option_map then_is) begun-is)
  is-carried s f k fs depth (Leaves v) units fits = goes-on-comes s (worker_ended (Returned v) f.role s.common) (Returned v) (given M v fs) (to-run-there (worker_ended (Returned v) f.role s.common) fits.0)
  is-carried s f k fs depth (Spawns ss role vs d) units fits =
      let (more, e) = all-begin ss units in
      let g : Frame Standing = record { unit = f.unit; role = role; control = (codes fillers code).resume k vs } in
      let then_is : List (List (Frame Standing)) → Next Standing = λ more. Moved (record { common = d; frames = g ∷ fs; others = s.others ++ more }) in
      (then_is more, ap (option_map then_is) e)
  is-carried s f k fs depth NoTick units fits = (_, refl)
  is-carried s f k fs depth (Beyond limit) units fits = (_, refl)

  -- ---- a run begins

  module _ (t : WellTyped code) (words : List Text) (input : List ℕ) (ticks : ℕ) where
    abbrev first : Common
    first = first_common (code_launch code) words input ticks

    abbrev main_unit : ℕ × List Value
    main_unit = (code.start, main_arguments (code_launch code).words)

    abbrev with_nothing : ℕ → ℕ × List Value
    with_nothing n = (n, [])

    abbrev Begins : List (ℕ × List Value) → Type 0
    Begins us = (s : State Standing) × (begins_with M first us ≡ Some s)

    begins-from : (u : ℕ × List Value) (us : List (ℕ × List Value)) → IsUnit code u.0 → Begins (u ∷ us)
    begins-from u us there =
        let (f, e) = unit-begins u.0 u.1 None there in
        let begun_is : Frame Standing → State Standing = λ f. record { common = record first { to_run = us }; frames = []; others = (f ∷ []) ∷ [] } in
        (begun_is f, ap (option_map begun_is) e)

    units-begin : (ns : List ℕ) → All (λ n. UnitAt code n (IsInitialiserWell code n)) ns → Begins (map with_nothing ns ++ main_unit ∷ [])
    units-begin [] h = begins-from main_unit [] (some-to (IsMain code) (λ (u : CodeUnit). ⊤) (slice_get code.units code.start) (λ u k. tt) t.fields.main)
    units-begin (n ∷ ns) h =
        begins-from (with_nothing n) (map with_nothing ns ++ main_unit ∷ [])
        (some-to (IsInitialiserWell code n) (λ (u : CodeUnit). ⊤) (slice_get code.units n) (λ u k. tt) (All-head (λ n. UnitAt code n (IsInitialiserWell code n)) n ns h))

    pub start-is-there : (s : State Standing) × (start M words input ticks ≡ Some s)
    start-is-there = units-begin code.initialisers t.fields.initialisers
