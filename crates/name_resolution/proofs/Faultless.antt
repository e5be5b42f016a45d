-- What the check of all names says of definitions where it finds no fault.
use Rattle.std.proofs.Common.{◌≡◌, ℕ, zero, suc, ◌+◌, ◌<◌, length, true, List, [], ◌∷◌, Option, None, Some, refl, sym, ap, subst, ◌∙◌, arith}
use Rattle.std.specs.Prelude.{slice_get}
use Rattle.std.specs.Option.{is_some}
use Rattle.std.proofs.lemmas.List.{length-map}
use Rattle.std.proofs.lemmas.Bool.{false≢true}
use Rattle.bal_base.specs.declared.fault.Fault.{Fault}
use Rattle.checks.specs.Checks.{Gives, refuses, ◌▷◌}
use Rattle.name_resolution.specs.declared.outlines.Outline.{Outline}
use Rattle.graphs.specs.Cycles.{IsOnCycle, IsWay}
use Rattle.name_resolution.specs.Faults.{AreNamed, all_named, definition_fault, definition_named, definitions_named, form_fault, no_cycle, unless}
use Rattle.name_resolution.specs.Resolved.{first_fault, parts, parts_of}
use Rattle.name_resolution.proofs.Known.{either-none}
use Rattle.graphs.proofs.Levels.{follows-place}

is-there : {X : Type 0} (xs : List X) (n : ℕ) → n < length xs → is_some (slice_get xs n) ≡ true
is-there [] n lt = absurd (omega (arith, lt))
is-there (x ∷ xs) zero lt = refl
is-there (x ∷ xs) (suc n) lt = is-there xs n (omega (arith, lt))

module _ (home : ℕ) (outlines : List Outline) where
  -- what is so of the definition with this number
  abbrev pub IsFine : ℕ → Outline → Type 0
  IsFine n d = (¬ IsOnCycle (parts outlines) n) × (first_fault outlines n d d.mentions ≡ None)

  not-refused : {S : Type 0} (o : Option Fault) (s t : S) (u : Unit {0}) → unless o s (Gives u) t → o ≡ None
  unfolding refuses
  not-refused None s t u h = refl
  not-refused (Some f) s t u h = absurd h

  one-fine : {S : Type 0} (n : ℕ) (d : Outline) (s t : S) (u : Unit {0}) → definition_named outlines home n d s (Gives u) t → IsFine n d
  unfolding ◌▷◌ no_cycle
  one-fine n d s t u (v, mid, free, un) = (free.0, (either-none (first_fault outlines n d d.mentions) (form_fault home d) (not-refused (definition_fault outlines home n d) mid t u un)).0)

  pub each-fine : {S : Type 0} (n : ℕ) (ds : List Outline) (s t : S) (u : Unit {0}) → definitions_named outlines home n ds s (Gives u) t → (k : ℕ) (d : Outline) → slice_get ds k ≡ Some d → IsFine (k + n) d
  unfolding ◌▷◌
  each-fine n [] s t u h k d e = absurd (not-there k d e)
    where
      not-there : (i : ℕ) (x : Outline) → slice_get [] i ≡ Some x → ⊥
      not-there i x f = false≢true (ap is_some f)
  each-fine n (x ∷ ds) s t u (v, mid, h, j) zero d e = let same : x ≡ d = cc in let none : n ≡ 0 + n = omega arith in subst (λ i. IsFine i d) none (subst (IsFine n) same (one-fine n x s mid v h))
  each-fine n (x ∷ ds) s t u (v, mid, h, j) (suc k) d e =
      let turn : k + suc n ≡ suc k + n = omega arith in subst (λ i. IsFine i d) turn (each-fine (suc n) ds mid t u j k d e)

  -- and so all of it
  pub are-named : {S : Type 0} (s t : S) (u : Unit {0}) → all_named outlines home s (Gives u) t → AreNamed outlines
  are-named s t u h = record { faultless = λ n d is. (fine n d is).1; acyclic = λ n cycle. on-none n (slice_get outlines n) refl cycle }
    where
      fine : (n : ℕ) (d : Outline) → slice_get outlines n ≡ Some d → IsFine n d
      fine n d is = let same : n + 0 ≡ n = omega arith in subst (λ i. IsFine i d) same (each-fine 0 outlines s t u h n d is)

      on-none : (n : ℕ) (o : Option Outline) → slice_get outlines n ≡ o → IsOnCycle (parts outlines) n → ⊥
      on-none n (Some d) is cycle = (fine n d is).0 cycle
      on-none n None is cycle = absurd (past (begins cycle.0 cycle.1))
        where
          begins : (others : List ℕ) → IsWay (parts outlines) n others n → n < length outlines
          begins [] w = subst (λ l. n < l) (length-map outlines (parts_of outlines)) (follows-place (parts outlines) n n w)
          begins (k ∷ ks) w = subst (λ l. n < l) (length-map outlines (parts_of outlines)) (follows-place (parts outlines) n k w.0)

          past : n < length outlines → ⊥
          past lt = false≢true (sym (ap is_some is) ∙ is-there outlines n lt)
