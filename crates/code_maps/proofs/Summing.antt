-- Maps of units, one after another, are those of the package.
use Rattle.std.proofs.Common.{◌≡◌, ◌∙◌, ◌<◌, ◌+◌, ◌++◌, ℕ, suc, List, [], ◌∷◌, Option, Some, None, arith, get_or, length, map, refl, subst, sym, take, ap}
use Rattle.std.specs.List.{AllZip, find, flat_map}
use Rattle.std.specs.Global.{Vec}
use Rattle.std.specs.Prelude.{IfOk, Result, Ok, Err, Bool, true, false, cond, option_map, slice_get, ◌==◌}
use Rattle.std.proofs.lemmas.List.{flat_map_more, map-append, take_more}
use Rattle.bal_base.specs.declared.stop.Memory.{Memory}
use Rattle.stack_code.specs.declared.code.StackMap.{StackMap}
use Rattle.typed_tree.specs.declared.package.TypedPackage.{TypedPackage}
use Rattle.typed_tree.specs.Units.{UnitBody, UnitTree, OfAnonymous, OfFunction, OfInitialiser, OfWorker, unit_at}
use Rattle.op_model.specs.Levels.{numbers_from}
use Rattle.lower_model.specs.Assembled.{HasUnits}
use Rattle.lower_model.specs.Making.{unit_made, unmade}
use Rattle.tree_promises.specs.Placed.{Placed, placed_at, surroundings}
use Rattle.unit_crews.specs.Crews.{Crewed, crewed, crewed_units}
use Rattle.unit_crews.specs.Noted.{Counts, Each, HasCrews, IsCounted}
use Rattle.unit_crews.proofs.Crewing.{placed-are-units, placed-have-crews}
use Rattle.map_model.specs.Points.{PlainTypes}
use Rattle.map_model.specs.Whole.{IsMapOf, Point, begins_with, package_points, points, points_at, tallies, unit_points}
use Rattle.map_traces.specs.Constructs.{Known}
use Rattle.map_traces.proofs.UnitsTold.{units-are-traced}
use Rattle.package_units.specs.declared.held.HeldUnit.{HeldUnit}
use Rattle.package_units.specs.Held.{tree_of}
use Rattle.code_maps.specs.declared.player.Player.{Player}
use Rattle.code_maps.specs.Given.{Adds, AreMapsOf, ArePlain, crew_in, crew_of, known_by, known_points, noted_count, tree_points}

-- ---- one unit more

pub adds-both : (xs ys : List Point) (a b c : Player) → Adds xs a b → Adds ys b c → Adds (xs ++ ys) a c
adds-both xs ys a b c first next before is =
    subst (λ ps. AllZip IsMapOf c.maps.items ps) (assoc before xs ys) (next (before ++ xs) (first before is))
  where
    assoc : (xs ys zs : List Point) → (xs ++ ys) ++ zs ≡ xs ++ (ys ++ zs)
    assoc [] ys zs = refl
    assoc (x ∷ xs) ys zs = ap (λ l. x ∷ l) (assoc xs ys zs)

pub adds-none : (a b : Player) → b ≡ a → Adds [] a b
adds-none a b same before is = subst (λ p. AllZip IsMapOf p.maps.items (before ++ [])) (sym same) (subst (λ ps. AllZip IsMapOf a.maps.items ps) (sym (none before)) is)
  where
    none : (xs : List Point) → xs ++ [] ≡ xs
    none [] = refl
    none (x ∷ xs) = ap (λ l. x ∷ l) (none xs)

pub adds-more : (f : UnitTree → List Point) (us : List HeldUnit) (i : ℕ) (u : HeldUnit) (old mid new : Player) → i < length us → u ≡ get_or us i u
    → Adds (flat_map f (map tree_of (take i us))) old mid → Adds (f (tree_of u)) mid new → Adds (flat_map f (map tree_of (take (i + 1) us))) old new
adds-more f us i u old mid new lt at first next =
    subst (λ ps. Adds ps old new) one-more (adds-both (flat_map f (map tree_of (take i us))) (f (tree_of u)) old mid new first next)
  where
    one-more : flat_map f (map tree_of (take i us)) ++ f (tree_of u) ≡ flat_map f (map tree_of (take (i + 1) us))
    one-more =
        flat_map_more f [] (map tree_of (take i us)) (tree_of u)
        ∙ ap (flat_map f) (sym (map-append tree_of (take i us) (u ∷ [])))
        ∙ ap (λ l. flat_map f (map tree_of l)) (sym (take_more us i u lt ∙ ap (λ y. take i us ++ y ∷ []) (sym at)))

-- of what is equal
pub adds-so : (known known' : Known) (workers workers' : ℕ) (body : UnitBody) (old new : Player) → known' ≡ known → workers' ≡ workers → Adds (known_points known' workers' body) old new → Adds (known_points known workers body) old new
adds-so known known' workers workers' body old new same many adds =
    subst (λ w. Adds (known_points known w body) old new) many (subst (λ k. Adds (known_points k workers' body) old new) same adds)

-- ---- a unit where it stands

module _ (counts : Counts) where
  crew-noted : (number : ℕ) (u : Crewed) (body : UnitBody) → u.tree.unit.number ≡ number → IsCounted counts u body → crew_of counts number body ≡ u.workers
  crew-noted number u (OfFunction body) same is = sym is
  crew-noted number u (OfWorker stmts ends) same is = noted (slice_get counts number) u.workers (ap (slice_get counts) (sym same) ∙ is)
    where
      noted : (o : Option (Option ℕ)) (k : ℕ) → o ≡ Some (Some k) → noted_count o ≡ k
      noted o k e = ap noted_count e
  crew-noted number u (OfAnonymous value) same is = sym is
  crew-noted number u (OfInitialiser values) same is = sym is

found-of : {X : Type 0} (P : X → Type 0) (test : X → Bool) (xs : List X) (x : X) → Each P xs → find test xs ≡ Some x → P x
found-of P test [] x all is = absurd (let bad : ⊥ = cc in bad)
found-of P test (y ∷ xs) x all is = by-test (test y) refl (found-of P test xs x all.1)
  where
    some-same : Some y ≡ Some x → y ≡ x
    some-same e = cc

    by-test : (b : Bool) → test y ≡ b → (find test xs ≡ Some x → P x) → P x
    by-test true e behind = subst P (some-same (sym (ap (λ b. cond b (Some y) (find test xs)) e) ∙ is)) all.0
    by-test false e behind = behind (sym (ap (λ b. cond b (Some y) (find test xs)) e) ∙ is)

module _ (plain : PlainTypes) (p : TypedPackage) (counts : Counts) (crews : HasCrews p counts) where
  -- the maps of what its tree tells are those of the unit
  told : (u : Placed) → crew_in counts u.tree ≡ length u.crew → tree_points plain p counts u.tree ≡ unit_points plain p u
  told u crew =
      ap (λ w. known_points (known_by plain p u.tree) w u.tree.body) crew
      ∙ ap (λ s. points s.places (tallies (length u.crew) (begins_with (length u.crew) u.tree.body) (unit_made u.tree.body unmade).steps)) (units-are-traced plain (surroundings p u) u.tree.body [])

  counted : (n : ℕ) (u : Placed) → placed_at p n ≡ Some u → crew_in counts u.tree ≡ length u.crew
  counted n u at =
      crew-noted counts u.tree.unit.number (crewed u) u.tree.body refl
      (found-of (λ c. IsCounted counts c c.tree.body) (λ c. c.tree.unit.number == n) (crewed_units p) (crewed u) crews (sym (placed-have-crews p n) ∙ ap (option_map crewed) at))

  stands : (n : ℕ) (t : UnitTree) (o : Option Placed) → placed_at p n ≡ o → option_map (λ u. u.tree) o ≡ Some t → tree_points plain p counts t ≡ points_at plain p o
  stands n t (Some u) at is = subst (λ x. tree_points plain p counts x ≡ unit_points plain p u) (same is) (told u (counted n u at))
    where
      same : Some u.tree ≡ Some t → u.tree ≡ t
      same e = cc
  stands n t None at is = absurd (let bad : ⊥ = cc in bad)

  -- ---- all units

  all-stand : (k : ℕ) (us : List UnitTree) → ((n : ℕ) → unit_at p (k + n) ≡ slice_get us n) → flat_map (tree_points plain p counts) us ≡ flat_map (λ n. points_at plain p (placed_at p n)) (numbers_from k (length us))
  all-stand k [] at = refl
  all-stand k (t ∷ us) at =
      ap (λ l. l ++ flat_map (tree_points plain p counts) us) (stands k t (placed_at p k) refl (placed-are-units p k ∙ ap (unit_at p) here ∙ at 0))
      ∙ ap (λ l. points_at plain p (placed_at p k) ++ l) (all-stand (k + 1) us (λ n. ap (unit_at p) (next n) ∙ at (suc n)))
    where
      here : k ≡ k + 0
      here = omega arith

      next : (n : ℕ) → (k + 1) + n ≡ k + suc n
      next n = omega arith

  pub all-points : (us : List UnitTree) → HasUnits p us → flat_map (tree_points plain p counts) us ≡ package_points plain p
  all-points us has = all-stand 0 us (λ n. ap (unit_at p) (omega arith) ∙ has.units n) ∙ ap (λ n. flat_map (λ n. points_at plain p (placed_at p n)) (numbers_from 0 n)) has.count

-- the maps that are given when all was played
pub from-none : (points : List Point) (old new : Player) → old.maps.items ≡ [] → Adds points old new → AllZip IsMapOf new.maps.items points
from-none points old new none adds = adds [] (subst (λ ms. AllZip IsMapOf ms []) (sym none) tt)

pub maps-given : (plain : PlainTypes) (p : TypedPackage) (r : Result (Vec StackMap) Memory) → ArePlain plain → IfOk r (λ ms. AllZip IsMapOf ms.items (package_points plain p)) → IfOk r (λ ms. AreMapsOf p ms.items)
maps-given plain p (Ok ms) are h = (plain, are, h)
maps-given plain p (Err e) are h = tt
