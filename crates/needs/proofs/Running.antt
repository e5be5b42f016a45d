-- Needs that are met one behind another.
use Rattle.std.proofs.Common.{ℕ, ◌<◌, ◌+◌, length, map, take, get_or, ◌≡◌, List, [], ◌∷◌, ◌++◌, Option, Some, None, Result, Ok, Err, IsSome, rules, refl, sym, subst, ap, ◌∙◌}
use Rattle.std.proofs.lemmas.List.{length-map, map_more}
use Rattle.std.proofs.lemmas.List.Sums.{fold-append}
use Rattle.bal_base.specs.declared.fault.Fault.{Fault}
use Rattle.bal_base.specs.declared.stop.Stop.{Stop}
use Rattle.bal_base.specs.declared.stop.Stop.TheVariants.{Memory, Fault as OwnFault}
use Rattle.type_model.specs.declared.atoms.AtomDef.{AtomDef}
use Rattle.checks.specs.Checks.{Check, Comes, gives}
use Rattle.checks.proofs.Steps.{goes_on, stops, some_is, ran_out}
use Rattle.typed_tree.specs.Listed.{Listed, nothing, one, ◌&◌}
use Rattle.needs.specs.Needs.{Going, all_met, answer, asks, does, in_turn_from, Runs}

-- the state became so
pub does-comes : {S : Type 0} (P : S → S → Type 0) (old new : S) → P old new → Comes (does P) old (Ok tt) new
unfolding Comes does
does-comes P old new h = h

-- a question over the atoms of a state
pub asks-comes : {S A : Type 0} (atoms_of : S → List AtomDef) (over : List AtomDef → S → S) (question : Check (List AtomDef) A) (old new : S) (r : Result A (Stop Fault))
    → Comes question (atoms_of old) r (atoms_of new) → new ≡ over (atoms_of new) old → Comes (asks atoms_of over question) old r new
unfolding Comes asks
asks-comes atoms_of over question old new (Ok a) h e = (h, e)
asks-comes atoms_of over question old new (Err (OwnFault f)) h e = (h, e)
asks-comes atoms_of over question old new (Err Memory) h e = tt

module _ {S N : Type 0} (meets : N → Check S (Unit {0})) where
  pub runs-nothing : (s : Going S) → Runs meets nothing s s
  unfolding Runs
  runs-nothing (s, None) = some_is _ s s tt refl refl
  runs-nothing (s, Some stop) = refl

  both-from : (p q : Listed N) (s m : S) (stop : Option (Stop Fault)) (new : Going S)
      → Comes (all_met meets p) s (answer stop) m → Runs meets q (m, stop) new
      → Comes (all_met meets (p & q)) s (answer new.1) new.0
  unfolding Runs
  both-from p q s m None new h k = goes_on _ _ s m new.0 tt (answer new.1) h k
  both-from p q s m (Some stop) new h k =
      subst (λ (g : Going S). Comes (all_met meets (p & q)) s (answer g.1) g.0) (sym k) (stops _ _ s m stop h)

  stays : (q : Listed N) (old mid new : Going S) (stop : Stop Fault) → old.1 ≡ Some stop → mid ≡ old → Runs meets q mid new → new ≡ old
  unfolding Runs
  stays q old (m, Some x) new stop e h k = k ∙ h
  stays q old (m, None) new stop e h k = let d : None ≡ Some stop = ap (λ (g : Going S). g.1) h ∙ e in absurd (cc)

  pub runs-both : (p q : Listed N) (old mid new : Going S) → Runs meets p old mid → Runs meets q mid new → Runs meets (p & q) old new
  unfolding Runs
  runs-both p q (s, None) (m, stop) new h k = both-from p q s m stop new h k
  runs-both p q (s, Some stop) mid new h k = stays q (s, Some stop) mid new stop refl h k

  -- what a call answered, where the work went on
  pub runs-one : (need : N) (old new : Going S) → old.1 ≡ None → Comes (meets need) old.0 (answer new.1) new.0 → Runs meets (one need) old new
  unfolding Runs
  runs-one need (s, None) new e h = h
  runs-one need (s, Some stop) new e h = absurd (cc)

  -- there was no memory
  pub runs-out : (q : Listed N) (old new : Going S) → old.1 ≡ None → new.1 ≡ Some Memory → Runs meets q old new
  unfolding Runs
  runs-out q (s, None) new e f = subst (λ a. Comes (all_met meets q) s (answer a) new.0) (sym f) (ran_out _ s new.0)
  runs-out q (s, Some x) new e f = absurd (cc)

  -- what has stopped stays
  pub runs-some : (q : Listed N) (s : Going S) → IsSome s.1 → Runs meets q s s
  unfolding Runs
  runs-some q (s, Some x) e = refl
  runs-some q (s, None) e = absurd (search rules)

  pub runs-stopped : (q : Listed N) (stop : Stop Fault) (s : Going S) → s.1 ≡ Some stop → Runs meets q s s
  unfolding Runs
  runs-stopped q stop (s, Some x) e = refl
  runs-stopped q stop (s, None) e = absurd (cc)

  -- one more of a list, met in turn
  pub runs-more : {X Y : Type 0} (start : Listed N) (read : X → Y) (f : Y → Listed N) (xs : List X) (i : ℕ) (x : X) (old mid new : Going S)
      → i < length xs → x ≡ get_or xs i x
      → Runs meets (in_turn_from start f (map read (take i xs))) old mid → Runs meets (f (read x)) mid new
      → Runs meets (in_turn_from start f (map read (take (i + 1) xs))) old new
  runs-more start read f xs i x old mid new lt e h k =
      subst (λ rs. Runs meets (in_turn_from start f rs) old new) (sym (map_more read xs i x lt ∙ ap (λ y. map read (take i xs) ++ read y ∷ []) (sym e)))
      (subst (λ l. Runs meets l old new) (sym (fold-append (λ l y. l & f y) start (map read (take i xs)) (read x ∷ []))) (runs-both _ _ old mid new h k))

pub ruleset running = (runs-both, runs-nothing, runs-stopped, runs-out, length-map)

-- for a call of one need
pub ruleset sticky = (runs-one, runs-some)
