-- A decision in order decides by no literal on which it does not depend: the literals of paths are of their
-- kind.
use Rattle.std.proofs.Common.{◌≡◌, ◌≢◌, ⊎_elim, inl, inr, ℕ, ◌+◌, ◌==◌, List, [], map, Bool, true, false, if◌then◌else◌, slice_get, refl, sym, subst, ◌∙◌, ap, arith}
use Rattle.std.specs.Prelude.{⊤}
use Rattle.std.specs.List.{All}
use Rattle.std.proofs.lemmas.Bool.{false≢true, eqb-true, eq-eqb}
use Rattle.std.proofs.lemmas.List.Elements.{All-nil, All-cons, All-append, All-map}
use Rattle.type_model.proofs.Decided.{Decided}
use Rattle.type_model.specs.declared.atoms.AtomDef.{AtomDef}
use Rattle.type_diagrams.specs.declared.kind.Kind.{Kind}
use Rattle.type_diagrams.specs.declared.path.Path.{Path}
use Rattle.type_diagrams.specs.Kinds.{the_mark}
use Rattle.type_diagrams.specs.Trees.{Tree, No, Yes, By, eval, rank, RisesFrom, IsReduced, IsOrdered}
use Rattle.type_diagrams.specs.Paths.{paths_of, with_pos, with_neg}
use Rattle.type_diagrams.specs.Conditions.{Condition, IsLiteralOf, LooksAtKinds, is_def_of}
use Rattle.type_diagrams.specs.Questions.{HasPaths}
use Rattle.type_diagrams.specs.Turns.{HasLiteralsOf}
use Rattle.type_diagrams.proofs.Canonical.{Same, set, left, right, same_if, by_bool, canonical}
use Rattle.type_diagrams.proofs.NewNodes.{rises-weaken}

module _ (env : List AtomDef) (k : Kind) where
  abbrev Agree : (ℕ → Bool) → (ℕ → Bool) → Type 0
  Agree v w = (l : ℕ) → IsLiteralOf env k l → v l ≡ w l

  abbrev Depends : Tree → Type 0
  Depends t = (v w : ℕ → Bool) → Agree v w → eval t v ≡ eval t w

  -- each literal of the tree is one of the kind
  abbrev AllLiterals : Tree → Type 0
  AllLiterals No = ⊤
  AllLiterals Yes = ⊤
  AllLiterals (By l s t) = IsLiteralOf env k l × AllLiterals s × AllLiterals t

  decided : (l : ℕ) → Decided (IsLiteralOf env k l)
  decided l = by_mark (l == the_mark) refl
    where
      by_def : (b : Bool) → l ≢ the_mark → is_def_of k (slice_get env l) ≡ b → Decided (IsLiteralOf env k l)
      by_def true ne e = inl (λ _. e)
      by_def false ne e = inr (λ h. false≢true (sym e ∙ h ne))

      by_mark : (b : Bool) → l == the_mark ≡ b → Decided (IsLiteralOf env k l)
      by_mark true e = inl (λ ne. absurd (ne (eqb-true l the_mark e)))
      by_mark false e = by_def (is_def_of k (slice_get env l)) (λ q. false≢true (sym e ∙ eq-eqb l the_mark q)) refl

  set_same : (v w : ℕ → Bool) (l : ℕ) (b : Bool) → Agree v w → Agree (set v l b) (set w l b)
  set_same v w l b agree m is = same_if (m == l) b b (v m) (w m) refl (agree m is)

  set_other : (v : ℕ → Bool) (l : ℕ) (b c : Bool) → ¬ IsLiteralOf env k l → Agree (set v l b) (set v l c)
  set_other v l b c none m is =
      let off = by_bool (m == l) (λ e. none (subst (IsLiteralOf env k) (eqb-true m l e) is)) in
      ap (λ x. if x then b else v m) off ∙ sym (ap (λ x. if x then c else v m) off)

  all_literals : (n : ℕ) (t : Tree) → RisesFrom n t → IsReduced t → Depends t → AllLiterals t
  all_literals n No rises reduced depends = tt
  all_literals n Yes rises reduced depends = tt
  all_literals n (By l s t) rises reduced depends = (
    ⊎_elim (λ (is : IsLiteralOf env k l). is) (λ (none : ¬ IsLiteralOf env k l). absurd (reduced.0 (canonical s t (ordered s rises.1 reduced.1) (ordered t rises.2 reduced.2) (same none)))) (decided l),
    all_literals (rank l + 1) s rises.1 reduced.1 (λ v w agree. sym (left l s t v rises.1) ∙ depends (set v l true) (set w l true) (set_same v w l true agree) ∙ left l s t w rises.1),
    all_literals (rank l + 1) t rises.2 reduced.2 (λ v w agree. sym (right l s t v rises.2) ∙ depends (set v l false) (set w l false) (set_same v w l false agree) ∙ right l s t w rises.2),
  )
    where
      ordered : (u : Tree) → RisesFrom (rank l + 1) u → IsReduced u → IsOrdered u
      ordered u r d = record { rises = rises-weaken 0 (rank l + 1) u (omega arith) r; reduced = d }

      same : ¬ IsLiteralOf env k l → Same s t
      same none v = sym (left l s t v rises.1) ∙ depends (set v l true) (set v l false) (set_other v l true false none) ∙ right l s t v rises.2

  paths-HasLiteralsOf : (t : Tree) → AllLiterals t → All (HasLiteralsOf env k) (paths_of t)
  paths-HasLiteralsOf No h = All-nil (HasLiteralsOf env k)
  paths-HasLiteralsOf Yes h =
      All-cons (HasLiteralsOf env k) (record { pos = []; neg = [] }) [] (record { holding = All-nil (IsLiteralOf env k); failing = All-nil (IsLiteralOf env k) }) (All-nil (HasLiteralsOf env k))
  paths-HasLiteralsOf (By l s t) h =
      All-append (HasLiteralsOf env k) (map (with_pos l) (paths_of s)) (map (with_neg l) (paths_of t))
      (All-map (HasLiteralsOf env k) (with_pos l) (paths_of s) (λ i d lt. let p = paths-HasLiteralsOf s h.1 i d lt in record { holding = All-cons (IsLiteralOf env k) l _ h.0 p.holding; failing = p.failing }))
      (All-map (HasLiteralsOf env k) (with_neg l) (paths_of t) (λ i d lt. let p = paths-HasLiteralsOf t h.2 i d lt in record { holding = p.holding; failing = All-cons (IsLiteralOf env k) l _ h.0 p.failing }))

-- the paths of a condition that looks at atoms of a kind alone
pub HasPaths-HasLiteralsOf : (env : List AtomDef) (c : Condition) (k : Kind) (paths : List Path) → LooksAtKinds env c → HasPaths c k paths → All (HasLiteralsOf env k) paths
HasPaths-HasLiteralsOf env c k paths looks (t, is, e) =
    subst (All (HasLiteralsOf env k)) (sym e)
    (paths-HasLiteralsOf env k t (all_literals env k 0 t is.ordered.rises is.ordered.reduced (λ v w agree. is.same v ∙ looks k v w agree ∙ sym (is.same w))))
