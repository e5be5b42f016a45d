-- Atoms that are added in two runs.
use Rattle.std.proofs.Common.{◌≡◌, ◌++◌, ℕ, List, length, Option, inl, inr, sym, ◌∙◌}
use Rattle.std.specs.List.{AllZip}
use Rattle.bal_base.specs.declared.place.Place.{Place}
use Rattle.checks.specs.Agreement.{Alike, Corresponds}
use Rattle.checks.specs.Checks.{Check, Gives, Refuses}
use Rattle.checks.specs.Questions.{adds}
use Rattle.type_model.specs.declared.atoms.AtomDef.{AtomDef}
use Rattle.type_model.specs.declared.atoms.AtomDef.TheVariants.{List as ListAtom, Mapping as MappingAtom, Arrow, Error as ErrorAtom, Future as FutureAtom}
use Rattle.type_model.specs.declared.atoms.FieldDef.{FieldDef}
use Rattle.type_model.specs.declared.basic.Ty.{Ty}
use Rattle.type_model.specs.Defined.{DefBelow, IsClosed, TyBelow}
use Rattle.check_words.specs.State.{State}
use Rattle.check_words.specs.Words.{Atoms, asking}
use Rattle.check_answers.specs.Answers.{TwinsOver}
use Rattle.check_answers.specs.TwinStates.{StateTwins}
use Rattle.check_answers.specs.TwinTypes.{SettledTwins, TwinAtoms, TwinDefs, TwinFields, TwinTypes}
use Rattle.check_answers.proofs.Agreeing.{behind-over}
use Rattle.check_answers.proofs.Growing.{sem-later, settled-later}
use Rattle.check_answers.proofs.Leading.{Leads, Pairs, leads-asks, leads-to}
use Rattle.check_answers.proofs.Mapping.{state-map}
use Rattle.check_answers.proofs.Questions.{Before, Behind, D, Equal, before-atoms}
use Rattle.check_answers.proofs.Setting.{with-atoms}
use Rattle.check_answers.proofs.Settling.{option-both, zip-both}
use Rattle.check_answers.proofs.Zips.{zip-append, zip-long}

module _ (m n more others : Atoms) (first : IsClosed m) (second : IsClosed n) where
  abbrev M : Atoms
  M = m ++ more

  abbrev N : Atoms
  N = n ++ others

  type-later : (s t : Ty) → TwinTypes m n s t → TyBelow (length m) s → TyBelow (length n) t → TwinTypes M N s t
  type-later s t h p q =
      let r = settled-later m n more others first second s t (record { twins = h; first = p; second = q }) in r.twins

  field-later : (f g : FieldDef) → TwinFields m n f g → TyBelow (length m) f.ty → TyBelow (length n) g.ty → TwinFields M N f g
  field-later f g h p q = record { name = h.name; ty = type-later f.ty g.ty h.ty p q; optional = h.optional }

  def-later : (d e : AtomDef) → TwinDefs m n d e → DefBelow (length m) d → DefBelow (length n) e → TwinDefs M N d e
  def-later (ListAtom fixed rest) (ListAtom gs s) h p q = (zip-both _ _ _ _ type-later fixed gs h.0 p.0 q.0, option-both _ _ _ _ type-later rest s h.1 p.1 q.1)
  def-later (MappingAtom fields rest) (MappingAtom gs s) h p q =
      (zip-both _ _ _ _ field-later fields gs h.0 p.0 q.0, option-both _ _ _ _ type-later rest s h.1 p.1 q.1)
  def-later (Arrow args result isolated) (Arrow gs s alone) h p q =
      (sem-later m n more others first second args gs p.0 q.0 h.0, sem-later m n more others first second result s p.1 q.1 h.1, h.2)
  def-later (ErrorAtom detail) (ErrorAtom e) h p q = sem-later m n more others first second detail e p q h
  def-later (FutureAtom result) (FutureAtom e) h p q = sem-later m n more others first second result e p q h
  def-later _ _ h p q = absurd h

  -- those that are there, and with the atoms that are added
  pub defs-later : TwinAtoms m n → AllZip (TwinDefs M N) m n
  defs-later h = zip-both _ _ _ _ def-later m n h first second

  pub atoms-later : TwinAtoms m n → AllZip (TwinDefs M N) more others → TwinAtoms M N
  atoms-later h k = zip-append (TwinDefs M N) m more n others (defs-later h) k

-- behind some that were added
pub record Grown (m n : Atoms) (s t : State) : Type 0 where
  pub more : Atoms
  pub others : Atoms
  pub first : s.atoms ≡ m ++ more
  pub second : t.atoms ≡ n ++ others
  pub atoms : TwinAtoms (m ++ more) (n ++ others)
  pub states : StateTwins (SettledTwins (m ++ more) (n ++ others)) (SettledTwins (m ++ more) (n ++ others)) s t

module _ (m n : Atoms) (first : IsClosed m) (second : IsClosed n) (twins : TwinAtoms m n) where
  -- the number of the first, and the atoms behind
  abbrev AddedSo : Corresponds Atoms ℕ ℕ
  AddedSo k a l b = (b ≡ a) × (d : Atoms) × (e : Atoms) × (k ≡ m ++ d) × (l ≡ n ++ e) × AllZip (TwinDefs (m ++ d) (n ++ e)) d e

  adds-alike-so : (P R : Atoms → List AtomDef → Type 0) (at : Option Place) → ((d e : List AtomDef) → P m d → R n e → AllZip (TwinDefs (m ++ d) (n ++ e)) d e)
      → Alike AddedSo m n (adds P at) (adds R at)
  unfolding adds
  adds-alike-so P R at same (Gives a) (Gives b) k l (d, p, x, i) (e, r, y, j) = (y ∙ sym (zip-long (TwinDefs m n) m n twins) ∙ sym x, d, e, i, j, same d e p r)
  adds-alike-so P R at same (Gives a) (Refuses g) k l x (e, r, full, y, j) = inr y.has_code
  adds-alike-so P R at same (Refuses f) (Gives b) k l (d, p, full, x, i) y = inr x.has_code
  adds-alike-so P R at same (Refuses f) (Refuses g) k l (d, p, full, x, i) y = inl (inr x.has_code)

  grows : (s t : State) (k l : Atoms) (a b : ℕ) → Before m n s t → AddedSo k a l b → Grown m n (record s { atoms = k }) (record t { atoms = l }) × Equal a b
  grows s t k l a b p (e, d, f, i, j, same) = (
    record {
      more = d;
      others = f;
      first = i;
      second = j;
      atoms = atoms-later m n d f first second twins same;
      states = with-atoms _ _ s t (state-map (D m n) (D m n) (SettledTwins (m ++ d) (n ++ f)) (SettledTwins (m ++ d) (n ++ f)) (settled-later m n d f first second)
          (settled-later m n d f first second) s t p.states) k l;
    },
    e,
  )

  pub adds-leads : (P R : Atoms → List AtomDef → Type 0) (at : Option Place) → ((d e : List AtomDef) → P m d → R n e → AllZip (TwinDefs (m ++ d) (n ++ e)) d e)
      → Leads (Before m n) (Grown m n) Equal (asking (adds P at)) (asking (adds R at))
  adds-leads P R at same = leads-asks m n (Before m n) (Grown m n) Equal AddedSo (adds P at) (adds R at) (before-atoms m n) grows (adds-alike-so P R at same)

-- what follows where atoms were added
module _ {A B : Type 0} (m n : Atoms) where
  pub grown-leads : (G : Pairs) (Q : A → B → Type 0) (c : Check State A) (d : Check State B)
      → ((more others : Atoms) → TwinAtoms (m ++ more) (n ++ others) → Leads (Before (m ++ more) (n ++ others)) G Q c d) → Leads (Grown m n) G Q c d
  grown-leads G Q c d f s t p = f p.more p.others p.atoms s t (record { first = p.first; second = p.second; states = p.states })

  -- to the end of a need
  pub grown-ends : (Q : A → B → Type 0) (c : Check State A) (d : Check State B)
      → ((more others : Atoms) → TwinAtoms (m ++ more) (n ++ others) → Leads (Before (m ++ more) (n ++ others)) (Behind (m ++ more) (n ++ others)) Q c d)
      → Leads (Grown m n) TwinsOver Q c d
  grown-ends Q c d f =
      grown-leads TwinsOver Q c d
      (λ more others twins. leads-to _ _ TwinsOver Q Q c d (λ s t a b h q. (behind-over (m ++ more) (n ++ others) s t twins h, q)) (f more others twins))
