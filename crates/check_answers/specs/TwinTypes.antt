-- Types and atoms of two runs that mean the same. A type may be written in more than one way, so two runs of a check may have other types
-- that are the same sets of shapes, with the same constructor choices; and an atom of the one run has the number of one of the other.
use Rattle.std.specs.Prelude.{◌≡◌, List, length}
use Rattle.std.specs.List.{AllZip}
use Rattle.checks.specs.Agreement.{AreTwins}
use Rattle.type_model.specs.declared.atoms.AtomDef.{AtomDef}
use Rattle.type_model.specs.declared.atoms.AtomDef.TheVariants.{List as ListAtom, Mapping as MappingAtom, Arrow, Error as ErrorAtom, Future as FutureAtom}
use Rattle.type_model.specs.declared.atoms.FieldDef.{FieldDef}
use Rattle.type_model.specs.declared.basic.Ty.{Ty}
use Rattle.type_model.specs.Defined.{TyBelow}
use Rattle.check_words.specs.Sharing.{SameOption}

-- `m`, `n`: the atoms of the two runs
module _ (m n : List AtomDef) where
  -- the same shapes, and the same choices
  pub record TwinTypes (s t : Ty) : Type 0 where
    pub shapes : AreTwins m s.sem n t.sem
    pub lists : t.lists ≡ s.lists
    pub maps : t.maps ≡ s.maps

  pub record TwinFields (f g : FieldDef) : Type 0 where
    pub name : g.name ≡ f.name
    pub ty : TwinTypes f.ty g.ty
    pub optional : g.optional ≡ f.optional

  -- atoms of one kind whose types are twins, one by one
  abbrev pub TwinDefs : AtomDef → AtomDef → Type 0
  TwinDefs (ListAtom fixed rest) (ListAtom others more) = AllZip TwinTypes fixed others × SameOption TwinTypes rest more
  TwinDefs (ListAtom fixed rest) _ = ⊥
  TwinDefs (MappingAtom fields rest) (MappingAtom others more) = AllZip TwinFields fields others × SameOption TwinTypes rest more
  TwinDefs (MappingAtom fields rest) _ = ⊥
  TwinDefs (Arrow args result isolated) (Arrow others outcome alone) = AreTwins m args n others × AreTwins m result n outcome × (alone ≡ isolated)
  TwinDefs (Arrow args result isolated) _ = ⊥
  TwinDefs (ErrorAtom detail) (ErrorAtom other) = AreTwins m detail n other
  TwinDefs (ErrorAtom detail) _ = ⊥
  TwinDefs (FutureAtom result) (FutureAtom other) = AreTwins m result n other
  TwinDefs (FutureAtom result) _ = ⊥

  -- twins that name only atoms that are there, so that they stay twins where atoms are added
  pub record SettledTwins (s t : Ty) : Type 0 where
    pub twins : TwinTypes s t
    pub first : TyBelow (length m) s
    pub second : TyBelow (length n) t

-- as many atoms, of which those with one number are twins
abbrev pub TwinAtoms : List AtomDef → List AtomDef → Type 0
TwinAtoms m n = AllZip (TwinDefs m n) m n
