-- Where states are reached alike and outcomes are the same, runs by a seed are alike.
use Rattle.std.proofs.Common.{◌≡◌, ℕ, List, [], ◌++◌, Option, Some, None, sym, subst, ap, ◌∙◌, inl, inr}
use Rattle.std.specs.Prelude.{length, slice_get, take}
use Rattle.bal_base.specs.declared.text.Text.{Text}
use Rattle.bal_io.specs.Content.{Appends, IsPrefixOf, Told}
use Rattle.value_model.specs.Meaning.{Answers}
use Rattle.op_model.specs.Common.{Common}
use Rattle.machine_model.specs.Following.{AreFine, FramesFollow, Settles}
use Rattle.machine_model.specs.Machine.{Machine}
use Rattle.machine_model.specs.Outcomes.{Outcome}
use Rattle.machine_model.specs.Runs.{AreWords, Phase, Picking}
use Rattle.machine_model.proofs.SameOutcomes.{followers-do-the-same}
use Rattle.seeded_runs.specs.Laws.{EndsAlike, FollowersRunAlike, ReachesAlike, RunsAlike}
use Rattle.seeded_runs.specs.Runs.{AppendsFrontOfRun, Comes, HasOutcome, IsCut, IsFrontOfRun, IsWrittenByThen, RunsTo}
use Rattle.seeded_runs.specs.Seeds.{IsBySeed, IsPickedAt, place_named}
use Rattle.seeded_runs.proofs.Beside.{followers-reach-alike}

told-to : (P Q : List ℕ → List ℕ → Type 0) → ((old new : List ℕ) → P old new → Q old new) → (old new : Option (List ℕ)) → Told P old new → Told Q old new
told-to P Q f (Some old) (Some new) h = f old new h
told-to P Q f None None h = tt
told-to P Q f (Some old) None h = absurd h
told-to P Q f None (Some new) h = absurd h

module _ {A B : Type 0} (natives : Answers) (M : Machine A) (N : Machine B) (alike : ReachesAlike natives M N) (same : EndsAlike natives M N) where
  module _ (words : List Text) (input : List ℕ) (ticks seed : ℕ) (texts : AreWords words) where
    picked-alike : (order : List ℕ) (turn place : ℕ) → IsPickedAt natives N words input ticks seed order turn place → IsPickedAt natives M words input ticks seed order turn place
    picked-alike order turn place h =
        let b = alike words input ticks Picking h.steps (take turn order) h.state texts h.came in
        record { steps = b.steps; state = b.state; came = b.came; named = h.named ∙ ap (λ c. place_named seed turn (length c.ready)) (sym b.same) }

    seed-alike : (order : List ℕ) → IsBySeed natives N words input ticks seed order → IsBySeed natives M words input ticks seed order
    seed-alike order h turn place e = picked-alike order turn place (h turn place e)

    outcome-alike : (o : Outcome) → HasOutcome natives N words input ticks seed o → HasOutcome natives M words input ticks seed o
    outcome-alike o h = record { order = h.order; picks = seed-alike h.order h.picks; allowed = same words input h.order ticks o texts h.allowed }

    written-alike : (front : List ℕ) → IsWrittenByThen natives N words input ticks seed front → IsWrittenByThen natives M words input ticks seed front
    written-alike front h =
        let b = alike words input ticks h.phase h.came.steps h.order h.state texts h.came.came in
        record {
          phase = h.phase;
          order = h.order;
          state = b.state;
          came = record { picks = seed-alike h.order h.came.picks; steps = b.steps; came = b.came };
          written = subst (λ c. IsPrefixOf front c.world.output) (sym b.same) h.written;
        }

    front-alike : (front : List ℕ) → IsFrontOfRun natives N words input ticks seed front → IsFrontOfRun natives M words input ticks seed front
    front-alike front (inl e) = inl e
    front-alike front (inr h) = inr (written-alike front h)

    appends-alike : (old new : List ℕ) → AppendsFrontOfRun natives N words input ticks seed old new → AppendsFrontOfRun natives M words input ticks seed old new
    appends-alike old new h = record { front = h.front; part = front-alike h.front h.part; appended = h.appended }

  pub runs-alike : RunsAlike natives M N
  runs-alike =
      record {
        runs = λ words input ticks seed o old new texts h. (outcome-alike words input ticks seed texts o h.0, h.1);
        cut = λ words input ticks seed old new texts h.
            told-to (AppendsFrontOfRun natives N words input ticks seed) (AppendsFrontOfRun natives M words input ticks seed) (appends-alike words input ticks seed texts) old new h;
      }

pub followers-run-alike : {A B : Type 0} (natives : Answers) (M : Machine A) (N : Machine B) (Follows : A → B → Type 0) (Fine : Common → A → Type 0) → FollowersRunAlike natives M N Follows Fine
followers-run-alike natives M N Follows Fine sim fine settle =
    runs-alike natives M N (followers-reach-alike natives M N Follows Fine sim fine settle)
    (λ words input order ticks o texts. (followers-do-the-same natives M N Follows Fine sim fine settle words input order ticks o texts).1)
