-- Elements, by an index or a key.
use Rattle.std.proofs.Common.{◌≡◌, ◌∙◌, ◌++◌, Bool, List, [], ◌∷◌, arith, refl, sym, subst, ap}
use Rattle.bal_base.specs.declared.place.Place.{Place}
use Rattle.descriptors.specs.declared.names.Names.{Names}
use Rattle.type_model.specs.declared.answers.TypeLimit.{TypeLimit}
use Rattle.type_model.specs.declared.atoms.AtomDef.{AtomDef}
use Rattle.type_model.specs.Calls.{Asked}
use Rattle.typed_tree.specs.Listed.{one, ◌&◌}
use Rattle.expr_needs.specs.declared.expected.Expected.TheVariants as expected
use Rattle.expr_needs.specs.ExprTable.{Reading, accessed_needs, element_needs, freely, index_needs}
use Rattle.expr_needs.specs.Needs.{IsAccessed, IsIndex, ReadsElement}
use Rattle.check_words.specs.State.{IsLast, State}
use Rattle.check_laws.specs.Laws.{IsReady}
use Rattle.typed_needs.specs.Asked.{AllIsAsked}
use Rattle.typed_needs.specs.MemberReads.{ReadsAreTyped}
use Rattle.typed_needs.proofs.Asking.{all-is-asked}
use Rattle.typed_needs.proofs.MemberReads.{reads-are-typed}
use Rattle.calm_needs.specs.Calm.{AllNeedsAreCalm, NeedsAreCalm}
use Rattle.typed_exprs.specs.Elements.{AllElementsAreTyped}
use Rattle.typed_exprs.specs.Lines.{Claim, Knows}
use Rattle.typed_exprs.proofs.Operands.{two-found, two-units}
use Rattle.typed_exprs.proofs.Operators.{calm-so, lasts, made-step, step-path}
use Rattle.typed_exprs.proofs.Plain.{none-ready}
use Rattle.typed_exprs.proofs.Steps.{before, calm-keeps, parted, so-far}

module _ (passes : List AtomDef → Asked → TypeLimit → Type 0) (names : Names) (env : List AtomDef) (calm : NeedsAreCalm passes names) where
  element : (texts : Bool) (a i : Reading) (at : Place) → Knows passes names env a → Knows passes names env i → Claim passes names env (λ e. element_needs texts a i & one (ReadsElement at))
  element texts a i at ka ki e place old new ready run kept far named =
      let (n, re, s) = parted passes names env (element_needs texts a i) (one (ReadsElement at)) old new run in
      let (m, rx, ry) = parted passes names env (accessed_needs texts a) (index_needs i) old n re in
      let (k, ra, sa) = parted passes names env (freely a) (one (IsAccessed texts a.at)) old m rx in
      let (l, ri, si) = parted passes names env (i.needs expected.Immutable) (one (IsIndex i.at)) m n ry in
      let ready-a = none-ready passes names env calm e old ready in
      let left-a = ka.leaves expected.Nothing old k ready-a ra in
      let path-m = step-path passes names env calm (IsAccessed texts a.at) tt k m sa in
      let ready-i : IsReady expected.Immutable m = record { unit = (let u = ready.unit in let p = left-a.path.many in let q = path-m.many in omega (arith, u, p, q)); wants = tt } in
      let left-i = ki.leaves expected.Immutable m l ready-i ri in
      let far-n = so-far env place n new (step-path passes names env calm (ReadsElement at) tt n new s) far in
      let far-l = so-far env place l n (step-path passes names env calm (IsIndex i.at) tt l n si) far-n in
      let far-m = so-far env place m l left-i.path far-l in
      let far-k = so-far env place k m path-m far-m in
      let x = ka.claim expected.Nothing place old k ready-a ra kept far-k named in
      let all : AllIsAsked passes names env = all-is-asked passes names env in
      let (access, is, of-a) = all.accesses texts a.at k m x.part (before env place k x.kept far-k) sa.0 (record { kept = old.found; is = x.found }) in
      let kept-m = calm-keeps place k m (calm-so passes names env calm (IsAccessed texts a.at) tt k m sa) sa.1 x.kept in
      let y = ki.claim expected.Immutable place m l ready-i ri kept-m far-l named in
      let access-m : IsLast m.accesses access = record { kept = k.accesses; is = ap (λ (t : State). t.accesses) is } in
      let access-l : IsLast l.accesses access = subst (λ xs. IsLast xs access) (sym left-i.more.same.accesses) access-m in
      let (of-i, same) = all.indexes i.at l n y.part access (before env place l y.kept far-l) si.0 access-l (record { kept = m.found; is = y.found }) in
      let access-n : IsLast n.accesses access = subst (λ (t : State). IsLast t.accesses access) (sym same) access-l in
      let found-m : m.found ≡ old.found ++ x.part ∷ [] = ap (λ (t : State). t.found) is ∙ x.found in
      let found-n : n.found ≡ m.found ++ y.part ∷ [] = ap (λ (t : State). t.found) same ∙ y.found in
      let kept-n = calm-keeps place l n (calm-so passes names env calm (IsIndex i.at) tt l n si) si.1 y.kept in
      let found = two-found passes names env old m n x.part y.part found-m found-n in
      let kept-new = calm-keeps place n new (calm-so passes names env calm (ReadsElement at) tt n new s) s.1 kept-n in
      let reads : ReadsAreTyped passes names env place = reads-are-typed passes names env place in
      made-step passes names env calm (ReadsElement at) tt place 2 (x.part ∷ y.part ∷ []) old n new found refl (two-units passes names env place x.part y.part x.units y.units) kept-n s
      (reads.elements at n new x.part y.part access (before env place n kept-n far-n) (before env place new kept-new far) s.0 access-n
      (lasts passes names env calm old n (x.part ∷ y.part ∷ []) 2 found refl) x.typed y.typed of-a of-i)

pub all-elements-are-typed : (passes : List AtomDef → Asked → TypeLimit → Type 0) → AllNeedsAreCalm passes → AllElementsAreTyped passes
all-elements-are-typed passes calm names env texts a i at ka ki = element passes names env (calm names) texts a i at ka ki
