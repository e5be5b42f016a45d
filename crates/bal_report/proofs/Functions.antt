-- The last function that begins at a place or before it, as a loop finds it.
use Rattle.std.proofs.Common.{◌≡◌, ℕ, ◌+◌, ◌<◌, ◌++◌, List, [], ◌∷◌, true, false, Some, cond, find, get_or, length, reverse, take, ap, sym, ◌∙◌}
use Rattle.std.proofs.lemmas.List.{reverse-append, take_more}
use Rattle.bal_tree.specs.declared.def.Def.{Def}
use Rattle.bal_report.specs.EventText.{begins_by, definition_around}

module _ (at : ℕ) (defs : List Def) (i : ℕ) (d : Def) (lt : i < length defs) (is : d ≡ get_or defs i d) where
  one-more : definition_around (take (i + 1) defs) at ≡ find (begins_by at) (d ∷ reverse (take i defs))
  one-more =
      ap (λ ds. find (begins_by at) (reverse ds)) (take_more defs i d lt ∙ ap (λ e. take i defs ++ e ∷ []) (sym is))
      ∙ ap (find (begins_by at)) (reverse-append (take i defs) (d ∷ []))

  pub around-here : begins_by at d ≡ true → definition_around (take (i + 1) defs) at ≡ Some d
  around-here h = one-more ∙ ap (λ b. cond b (Some d) (find (begins_by at) (reverse (take i defs)))) h

  pub around-before : begins_by at d ≡ false → definition_around (take (i + 1) defs) at ≡ definition_around (take i defs) at
  around-before h = one-more ∙ ap (λ b. cond b (Some d) (find (begins_by at) (reverse (take i defs)))) h
