-- A unit begins, and what it tells is played.
use Rattle.std.proofs.Common.{◌≡◌, ◌∙◌, ◌++◌, ℕ, List, [], ◌∷◌, arith, map, refl, subst, sym, take, ap}
use Rattle.std.specs.List.{AllZip}
use Rattle.typed_tree.specs.Units.{UnitBody}
use Rattle.stack_code.specs.Commands.{Command}
use Rattle.lower_expr.specs.declared.draft.Draft.{Draft}
use Rattle.lower_expr.specs.declared.draft.Step.{Step}
use Rattle.lower_expr.specs.Drafts.{making_of, step_of}
use Rattle.lower_model.specs.Making.{unit_made, unmade}
use Rattle.map_model.specs.Whole.{IsMapOf, Point, begins_with, points, tallies}
use Rattle.map_traces.specs.declared.trace.Event.{Event}
use Rattle.map_traces.specs.declared.trace.Trace.{Trace}
use Rattle.map_traces.specs.Constructs.{Known}
use Rattle.map_traces.specs.Events.{all_traced, tracing_of, type_of}
use Rattle.map_traces.specs.Tracing.{untraced}
use Rattle.map_traces.specs.Trees.{unit_traced}
use Rattle.code_maps.specs.declared.player.Player.{Player}
use Rattle.code_maps.specs.Counted.{tally_along, tally_in}
use Rattle.code_maps.specs.Given.{Adds, known_points}
use Rattle.code_maps.specs.Played.{Goes, IsPlayed}

append-none : {X : Type 0} (xs : List X) → xs ++ [] ≡ xs
append-none [] = refl
append-none (x ∷ xs) = ap (λ l. x ∷ l) (append-none xs)

begun : (workers : ℕ) (body : UnitBody) (commands : List Command) (before : List Point) (old new : Player) → AllZip IsMapOf old.maps.items before
    → new.maps.items ≡ old.maps.items → new.waiting.items ≡ [] → new.next ≡ 0 → tally_in new.exchanged ≡ begins_with workers body
    → IsPlayed workers (begins_with workers body) commands before untraced new
begun workers body commands before old new is maps waiting next tally =
    record {
      waiting = sym (ap (map type_of) waiting);
      maps = subst (λ ms. AllZip IsMapOf ms (before ++ [])) (sym maps) (subst (AllZip IsMapOf old.maps.items) (sym (append-none before)) is);
      next = sym next;
      within = omega (arith, next);
      tally = tally ∙ ap (λ n. tally_along workers (begins_with workers body) (take n commands)) (sym next);
    }

-- what was told, with these commands
pub played-adds : (workers : ℕ) (body : UnitBody) (trace : Trace) (draft : Draft) (played : List Event) (steps : List Step) (old mid new : Player) → steps ≡ draft.steps.items → played ≡ trace.events.items
    → mid.maps.items ≡ old.maps.items → mid.waiting.items ≡ [] → mid.next ≡ 0 → tally_in mid.exchanged ≡ begins_with workers body
    → Goes workers (map step_of steps) (all_traced played) mid new → Adds (points (tracing_of trace).places (tallies workers (begins_with workers body) (making_of draft).steps)) old new
played-adds workers body trace draft played steps old mid new laid same maps waiting next tally goes before is =
    subst (λ cs. AllZip IsMapOf new.maps.items (before ++ points (tracing_of trace).places (tallies workers (begins_with workers body) cs))) (ap (map step_of) laid)
    (subst (λ s. AllZip IsMapOf new.maps.items (before ++ points s.places (tallies workers (begins_with workers body) (map step_of steps)))) (ap (λ es. all_traced es untraced) same)
    (goes (begins_with workers body) before untraced (begun workers body (map step_of steps) before old mid is maps waiting next tally)).maps)

-- what a unit tells, with its commands
pub unit-told : (known : Known) (workers : ℕ) (body : UnitBody) (trace : Trace) (draft : Draft) (P : List Point → Type 0) → tracing_of trace ≡ unit_traced known body untraced → making_of draft ≡ unit_made body unmade
    → P (points (tracing_of trace).places (tallies workers (begins_with workers body) (making_of draft).steps)) → P (known_points known workers body)
unit-told known workers body trace draft P told made is =
    subst (λ m. P (points (unit_traced known body untraced).places (tallies workers (begins_with workers body) m.steps))) made (subst (λ s. P (points s.places (tallies workers (begins_with workers body) (making_of draft).steps))) told is)
