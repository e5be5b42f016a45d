-- What the steps to an excerpt tell.
use Rattle.std.proofs.Common.{◌≡◌, inr, ℕ, Bool, true, false, List, [], subst, sym, Option, None, Some, Result, Ok, Err, IfOk}
use Rattle.std.proofs.lemmas.Bool.{false≢true}
use Rattle.bal_base.specs.declared.fault.Fault.{Fault}
use Rattle.bal_base.specs.declared.stop.Memory.{Memory as NoMemory}
use Rattle.bal_base.specs.declared.stop.Stop.{Stop}
use Rattle.bal_base.specs.declared.stop.Stop.TheVariants.{Memory, Fault as OwnFault}
use Rattle.checks.specs.Checks.{Check, Comes}
use Rattle.descriptors.specs.Described.{Atoms}
use Rattle.name_resolution.specs.Excerpts.{picked}
use Rattle.name_resolution.specs.Faults.{AreNamed, all_named, definitions_named}
use Rattle.name_resolution.specs.MainExcerpt.{FindsFault, FindsNothing, IsMain, IsMainExcerpt, IsOrdered, IsWhether, TellsOf, named_up_to}
use Rattle.graphs.specs.Ordering.{IsOrder}
use Rattle.name_resolution.specs.Reached.{AreReached, is_reached}
use Rattle.name_resolution.specs.Resolved.{parts}
use Rattle.name_resolution.specs.declared.excerpts.Excerpt.{Excerpt}
use Rattle.name_resolution.specs.declared.outlines.Outline.{Outline}
use Rattle.name_resolution.proofs.Faultless.{are-named}

pub whether : (check : Check Atoms (Unit {0})) (r : Result (Unit {0}) (Stop Fault)) (told : Result Bool NoMemory) → ((env : Atoms) → Comes check env r env) → IsWhether r told → IfOk told (TellsOf check)
unfolding Comes
whether check (Ok u) told h e = subst (λ t. IfOk t (TellsOf check)) (sym e) h
whether check (Err (OwnFault f)) told h e = subst (λ t. IfOk t (TellsOf check)) (sym e) (f, h)
whether check (Err Memory) told h e = subst (λ t. IfOk t (TellsOf check)) (sym e.1) tt

free : (check : Check Atoms (Unit {0})) (b : Bool) → b ≡ true → TellsOf check b → FindsNothing check
free check true e h = h
free check false e h = absurd (false≢true e)

faulty : (check : Check Atoms (Unit {0})) (b : Bool) → b ≡ false → TellsOf check b → FindsFault check
faulty check false e h = h
faulty check true e h = absurd (false≢true (sym e))

-- of definitions, and of some at their front, as the calls had them
module _ (home : ℕ) (outlines front xs ys : List Outline) (b : Bool) (same : xs ≡ outlines) (same_front : ys ≡ front) (told : TellsOf (definitions_named xs home 0 ys) b) where
  here : TellsOf (definitions_named outlines home 0 front) b
  here = subst (λ os. TellsOf (definitions_named outlines home 0 os) b) same_front (subst (λ os. TellsOf (definitions_named os home 0 ys) b) same told)

  pub free-front : b ≡ true → FindsNothing (definitions_named outlines home 0 front)
  free-front e = free (definitions_named outlines home 0 front) b e here

  pub faulty-front : b ≡ false → FindsFault (definitions_named outlines home 0 front)
  faulty-front e = faulty (definitions_named outlines home 0 front) b e here

pub named-front : (home : ℕ) (outlines : List Outline) → FindsNothing (all_named outlines home) → AreNamed outlines
named-front home outlines f = are-named home outlines [] [] tt (f [])

-- what was found of what is reached is what the whole answers
pub excerpt-made : (outlines : List Outline) (home m : ℕ) (away : List (Option ℕ)) (chosen : List Outline) → IsMain outlines home m → FindsNothing (named_up_to outlines home m)
    → AreReached outlines m (is_reached away) → chosen ≡ picked (is_reached away) 0 outlines → (o : Option Excerpt) → IsOrdered chosen home away o → IsMainExcerpt outlines home o
excerpt-made outlines home m away chosen main before reached is None h =
    inr (m, ((main, before), (is_reached away, reached, subst (λ os. FindsFault (all_named os home)) is h)))
excerpt-made outlines home m away chosen main before reached is (Some e) h =
    let far = sym h.far in (
      m,
      record {
        before = (main, before);
        reached = subst (λ a. AreReached outlines m (is_reached a)) far reached;
        named = subst (λ a. FindsNothing (all_named (picked (is_reached a) 0 outlines) home)) far (subst (λ os. FindsNothing (all_named os home)) is h.named);
        order = subst (λ a. IsOrder (parts (picked (is_reached a) 0 outlines)) e.order.items) far (subst (λ os. IsOrder (parts os) e.order.items) is h.order);
      },
    )
