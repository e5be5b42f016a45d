-- Steps of a walk as it is held.
use Rattle.std.proofs.Common.{◌≡◌, ◌∙◌, ◌<◌, ◌≤◌, ◌+◌, ◌*◌, ◌++◌, ℕ, zero, suc, List, [], ◌∷◌, Option, Some, true, false, length, drop, get_or, sym, subst, ap, arith}
use Rattle.std.specs.Prelude.{Bool, set, slice_get}
use Rattle.std.specs.Option.{option_to_list}
use Rattle.std.proofs.lemmas.List.{at_drop_all, at_drop_more}
use Rattle.std.proofs.lemmas.List.Concat.{flat_map-append}
use Rattle.bal_base.specs.declared.text.Name.{Name}
use Rattle.isolation_check.specs.inner.Opened.{left, unentered}
use Rattle.isolation_check.specs.inner.Views.{part_of, parts_of}
use Rattle.isolation_check.specs.declared.parts.HeldPart.{HeldPart}
use Rattle.isolation_check.specs.Parts.{Part}
use Rattle.isolation_check.specs.Walk.{Open, body, path}

-- which parts are left says nothing of the names
pub path-same : (around : List Open) (name : Option Name) (xs ys : List Part) → path (around ++ body name xs ∷ []) ≡ path (around ++ body name ys ∷ [])
path-same around name xs ys =
    flat_map-append (λ o. option_to_list o.name) around (body name xs ∷ []) ∙ sym (flat_map-append (λ o. option_to_list o.name) around (body name ys ∷ []))

-- the next part, and none
pub next-part : (parts : List HeldPart) (i : ℕ) (part : HeldPart) → i < length parts → part ≡ get_or parts i part → parts_of (drop i parts) ≡ part_of part ∷ parts_of (drop (i + 1) parts)
next-part parts i part lt is = at_drop_more parts_of parts i part lt ∙ ap (λ h. part_of h ∷ parts_of (drop (i + 1) parts)) (sym is)

pub no-part : (parts : List HeldPart) (i : ℕ) → length parts ≤ i → parts_of (drop i parts) ≡ []
no-part parts i le = at_drop_all parts_of parts i le

-- ---- how many steps are left

entered-less : (bs : List Bool) (u : ℕ) → slice_get bs u ≡ Some false → unentered (set bs u true) + 1 ≡ unentered bs
entered-less [] u at = absurd (cc)
entered-less (true ∷ bs) zero at = absurd (cc)
entered-less (false ∷ bs) zero at = omega arith
entered-less (true ∷ bs) (suc u) at = entered-less bs u at
entered-less (false ∷ bs) (suc u) at = let h = entered-less bs u at in omega (arith, h)

pub fewer-entered : (bs : List Bool) (u n : ℕ) → slice_get bs u ≡ Some false → left (set bs u true) (n + 2) + 1 ≡ left bs (n + 1)
fewer-entered bs u n at = twice (unentered (set bs u true)) (unentered bs) n (entered-less bs u at)
  where
    twice : (a b m : ℕ) → a + 1 ≡ b → 2 * a + (m + 2) + 1 ≡ 2 * b + (m + 1)
    twice a b m e = subst (λ k. 2 * a + (m + 2) + 1 ≡ 2 * k + (m + 1)) e (omega arith)
