-- What names stand for that may be assigned.
use Rattle.std.proofs.Common.{All, ap, subst, sym, ◌∙◌, ◌≡◌}
use Rattle.bal_tree.specs.declared.name.QualifiedName.{QualifiedName}
use Rattle.check_words.specs.Seen.{Seen, looks_up, seen_as}
use Rattle.check_words.specs.State.{IsLast, Site, State, UnitAtWork}
use Rattle.check_words.specs.Statements.{Assigned, IsAssigned, assigned_by}
use Rattle.checks.specs.Checks.{Gives, gives_some, ◌▷◌}
use Rattle.descriptors.specs.declared.names.Names.{Names}
use Rattle.operations.specs.Rows.{Surroundings}
use Rattle.typed_needs.proofs.Naming.{StandsFor, seen-stands}
use Rattle.typed_needs.proofs.Placed.{last-same}
use Rattle.typed_needs.specs.Placing.{AreStored, IsStored}
use Rattle.typed_stmts.specs.Assigned.{Sees}

-- ---- what is looked up

module _ (names : Names) where
  pub looked-up : (q : QualifiedName) (seen : Seen) (old new : State) → looks_up names q old (Gives seen) new → Sees names old q seen × (new ≡ old)
  unfolding ◌▷◌ gives_some
  looked-up q seen old new (u, a, (last, e1), (is, e2)) = ((u, last, is ∙ ap (λ (s : State). seen_as names s.site u.flow.variables q) e1), e2 ∙ e1)

  pub sees-from : (old mid : State) (q : QualifiedName) (seen : Seen) → mid.units ≡ old.units → mid.site ≡ old.site → Sees names mid q seen → Sees names old q seen
  sees-from old mid q seen units site (u, last, is) =
      (u, subst (λ us. IsLast us u) units last, is ∙ ap (λ (x : Site). seen_as names x u.flow.variables q) site)

  pub sees-one : (s : State) (q : QualifiedName) (x y : Seen) → Sees names s q x → Sees names s q y → x ≡ y
  sees-one s q x y (u, l, is) (v, m, are) =
      is ∙ ap (λ (w : UnitAtWork). seen_as names s.site w.flow.variables q) (last-same s.units u v l m) ∙ sym are

  pub sees-stored : (place : Surroundings) (s : State) (q : QualifiedName) (x : Seen) → AreStored place s → Sees names s q x → StandsFor names s.site place q x
  sees-stored place s q x stored (u, last, is) =
      let one : stored.unit ≡ u = last-same s.units stored.unit u stored.at_hand last in
      subst (λ y. StandsFor names s.site place q y) (sym is)
      (seen-stands names s.site place q u.flow.variables (subst (λ (w : UnitAtWork). All (IsStored place) w.flow.variables) one stored.variables))

  pub assigned-opened : (q : QualifiedName) (a : Assigned) (old new : State) → assigned_by names q old (Gives a) new
      → (seen : Seen) × Sees names old q seen × IsAssigned seen a × (new ≡ old)
  unfolding ◌▷◌ gives_some
  assigned-opened q a old new (seen, b, looked, (is, e)) = let (sees, same) = looked-up q seen old b looked in (seen, sees, is, e ∙ same)
