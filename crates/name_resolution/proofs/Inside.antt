-- The parts of a package's types are definitions of the package, and so is what definitions use.
use Rattle.std.proofs.Common.{◌≡◌, ◌==◌, ◌||◌, ℕ, ◌<◌, ◌⊎◌, inl, inr, Bool, true, false, List, [], ◌∷◌, length, map, refl, sym, ap, subst, ◌∙◌, Option, None, Some, Result, Ok, Err, cond}
use Rattle.std.specs.Prelude.{slice_get}
use Rattle.std.specs.List.{Contains, flat_map}
use Rattle.std.specs.Option.{option_map}
use Rattle.std.proofs.lemmas.List.{length-map}
use Rattle.std.proofs.lemmas.List.Elements.{Contains-append_cases}
use Rattle.std.proofs.lemmas.Option.{get_or_from_slice_get, slice_get-get_or, slice_get-map, slice_get_within}
use Rattle.bal_base.specs.declared.fault.FaultCode.{FaultCode}
use Rattle.bal_base.specs.declared.fault.FaultCode.TheVariants.{NotPublic, Unknown}
use Rattle.bal_base.specs.declared.text.Name.{Name}
use Rattle.graphs.specs.Ordering.{IsInside}
use Rattle.name_resolution.specs.Reached.{used_by, uses, uses_of}
use Rattle.name_resolution.specs.Resolved.{first_defined, if_defined, if_seen, if_stands, is_type, part, parts, parts_of, parts_of_kind, resolved}
use Rattle.name_resolution.specs.declared.mentions.Mention.{Mention}
use Rattle.name_resolution.specs.declared.mentions.Mention.TheVariants.{Use, Again, Own}
use Rattle.name_resolution.specs.declared.outlines.Kind.{Kind}
use Rattle.name_resolution.specs.declared.outlines.Kind.TheVariants.{TypeName, Constant, Variable, Function}
use Rattle.name_resolution.specs.declared.outlines.Outline.{Outline}
use Rattle.name_resolution.proofs.Known.{one-of}
use Rattle.graphs.proofs.Levels.{follows-place}
use Rattle.graphs.proofs.Noting.{none-among, none-some}
use Rattle.name_resolution.proofs.Standing.{found, wrong-ok}

module _ (outlines : List Outline) where
  seen-within : (from n k : ℕ) (o : Option Outline) → slice_get outlines n ≡ o → if_seen from n o ≡ Ok k → k < length outlines
  seen-within from n k None is h = absurd (wrong-ok h)
  seen-within from n k (Some d) is h = by (from == d.«module» || d.public) (is_type d.kind) h
    where
      by : (visible of : Bool) → cond visible (cond of (Ok n) (Err Unknown)) (Err NotPublic) ≡ Ok k → k < length outlines
      by true true h = subst (λ i. i < length outlines) (ap found h) (slice_get_within outlines n d is)
      by true false h = absurd (wrong-ok h)
      by false of h = absurd (wrong-ok h)

  first-within : (from k : ℕ) (o : Option ℕ) → if_defined outlines from o ≡ Ok k → k < length outlines
  first-within from k None h = absurd (wrong-ok h)
  first-within from k (Some n) h = seen-within from n k (slice_get outlines n) refl h

  -- what a name stands for is one of the definitions
  pub resolved-within : (from : ℕ) (home : Option ℕ) (name : Name) (k : ℕ) → resolved outlines from home name ≡ Ok k → k < length outlines
  resolved-within from None name k h = absurd (wrong-ok h)
  resolved-within from (Some home) name k h = first-within from k (first_defined outlines home name) h

  stands-within : (from : ℕ) (home : Option ℕ) (name : Name) (k : ℕ) (r : Result ℕ FaultCode) → resolved outlines from home name ≡ r → Contains (if_stands r) k → k < length outlines
  stands-within from home name k (Ok n) is c = one-of n [] k (k < length outlines) c (λ e. resolved-within from home name k (is ∙ ap Ok e)) (λ c. absurd (none-among k c))
  stands-within from home name k (Err code) is c = absurd (none-among k c)

  part-within : (from k : ℕ) (x : Mention) → Contains (part outlines from x) k → k < length outlines
  part-within from k (Use home name at true) c = absurd (none-among k c)
  part-within from k (Use home name at false) c = stands-within from home name k (resolved outlines from home name) refl c
  part-within from k (Again at) c = absurd (none-among k c)
  part-within from k (Own at) c = absurd (none-among k c)

  all-within : (k : ℕ) (f : Mention → List ℕ) → ((x : Mention) → Contains (f x) k → k < length outlines) → (ms : List Mention) → Contains (flat_map f ms) k → k < length outlines
  all-within k f each [] c = absurd (none-among k c)
  all-within k f each (m ∷ ms) c = by (Contains-append_cases (f m) (flat_map f ms) k c) (all-within k f each ms)
    where
      by : Contains (f m) k ⊎ Contains (flat_map f ms) k → (Contains (flat_map f ms) k → k < length outlines) → k < length outlines
      by (inl first) rest = each m first
      by (inr c) rest = rest c

  kind-within : (kind : Kind) (d : Outline) (k : ℕ) → Contains (parts_of_kind outlines kind d) k → k < length outlines
  kind-within TypeName d k c = all-within k (part outlines d.«module») (part-within d.«module» k) d.mentions c
  kind-within Constant d k c = absurd (none-among k c)
  kind-within Variable d k c = absurd (none-among k c)
  kind-within Function d k c = absurd (none-among k c)

  -- a graph whose numbers follow one another by definitions
  graph-inside : (f : Outline → List ℕ) → ((d : Outline) (k : ℕ) → Contains (f d) k → k < length outlines) → IsInside (map f outlines)
  graph-inside f each i j c = subst (λ n. j < n) (sym (length-map outlines f)) (by (slice_get outlines i) refl)
    where
      lt : i < length (map f outlines)
      lt = follows-place (map f outlines) i j c

      by : (o : Option Outline) → slice_get outlines i ≡ o → j < length outlines
      by (Some d) is = each d j (subst (λ xs. Contains xs j) (get_or_from_slice_get (map f outlines) i (f d) [] (slice_get-map f outlines i ∙ ap (option_map f) is)) c)
      by None is = absurd (none-some (sym (slice_get-map f outlines i ∙ ap (option_map f) is) ∙ slice_get-get_or (map f outlines) i [] lt))

  pub parts-inside : IsInside (parts outlines)
  parts-inside = graph-inside (parts_of outlines) (λ d. kind-within d.kind d)

  used-within : (from k : ℕ) (x : Mention) → Contains (used_by outlines from x) k → k < length outlines
  used-within from k (Use home name at inside) c = stands-within from home name k (resolved outlines from home name) refl c
  used-within from k (Again at) c = absurd (none-among k c)
  used-within from k (Own at) c = absurd (none-among k c)

  pub uses-inside : IsInside (uses outlines)
  uses-inside = graph-inside (uses_of outlines) (λ d k. all-within k (used_by outlines d.«module») (used-within d.«module» k) d.mentions)
