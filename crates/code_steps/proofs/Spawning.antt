-- The frames of strands that are made, one after another.
use Rattle.std.proofs.Common.{◌≡◌, ◌<◌, ◌+◌, ℕ, List, [], ◌∷◌, ◌++◌, Option, Some, None, drop, get_or, length, map, refl, sym, ap, ◌∙◌}
use Rattle.std.specs.Prelude.{option_map}
use Rattle.std.proofs.lemmas.List.{drop_more}
use Rattle.plain_run.proofs.Lists.{append-one}
use Rattle.machine_model.specs.Machine.{Frame, Machine, all_begun, begun, with_begun}
use Rattle.stack_code.specs.CodeMachine.{Standing}
use Rattle.plain_run.specs.Effects.{spawned_of}
use Rattle.plain_run.specs.Held.{role_of}
use Rattle.plain_run.specs.declared.effect.Spawned.{Spawned}

pub begun-more : (M : Machine Standing) (others : List (List (Frame Standing))) (g : Frame Standing) (r : Option (List (List (Frame Standing)))) → option_map (λ more. others ++ more) (with_begun M (Some g) r) ≡ option_map (λ more. (others ++ (g ∷ []) ∷ []) ++ more) r
begun-more M others g None = refl
begun-more M others g (Some more) = ap Some (sym (append-one others (g ∷ []) more))

-- the next of them begins, and then the others
module _ (M : Machine Standing) (spawned : List Spawned) (k : ℕ) (s : Spawned) (lt : k < length spawned) (at : s ≡ get_or spawned k s) (others : List (List (Frame Standing))) where
  next : all_begun M (map spawned_of (drop k spawned)) ≡ with_begun M (begun M s.unit s.args.items (option_map role_of s.role)) (all_begun M (map spawned_of (drop (k + 1) spawned)))
  next = ap (λ l. all_begun M (map spawned_of l)) (drop_more spawned k s lt) ∙ ap (λ x. all_begun M (map spawned_of (x ∷ drop (k + 1) spawned))) (sym at)

  pub begun-next : (r : Option (List (List (Frame Standing)))) (g : Frame Standing) (new : List (List (Frame Standing))) → r ≡ option_map (λ more. others ++ more) (all_begun M (map spawned_of (drop k spawned))) → Some g ≡ begun M s.unit s.args.items (option_map role_of s.role) → new ≡ others ++ (g ∷ []) ∷ [] → r ≡ option_map (λ more. new ++ more) (all_begun M (map spawned_of (drop (k + 1) spawned)))
  begun-next r g new is b added =
      is ∙ ap (option_map (λ more. others ++ more)) (next ∙ ap (λ o. with_begun M o (all_begun M (map spawned_of (drop (k + 1) spawned)))) (sym b))
      ∙ begun-more M others g (all_begun M (map spawned_of (drop (k + 1) spawned)))
      ∙ ap (λ l. option_map (λ more. l ++ more) (all_begun M (map spawned_of (drop (k + 1) spawned)))) (sym added)

  pub begun-none : (r : Option (List (List (Frame Standing)))) → r ≡ option_map (λ more. others ++ more) (all_begun M (map spawned_of (drop k spawned))) → None ≡ begun M s.unit s.args.items (option_map role_of s.role) → r ≡ None
  begun-none r is b =
      is ∙ ap (option_map (λ more. others ++ more)) (next ∙ ap (λ o. with_begun M o (all_begun M (map spawned_of (drop (k + 1) spawned)))) (sym b))

pub ruleset spawning = (begun-more)
