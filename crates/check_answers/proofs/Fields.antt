-- Reads of fields, which add an atom: two runs of each need agree.
use Rattle.std.proofs.Common.{◌≡◌, ◌++◌, ℕ, false, List, [], ◌∷◌, Some, refl, sym, subst}
use Rattle.std.specs.List.{AllZip}
use Rattle.bal_base.specs.declared.fault.FaultCode.TheVariants.{NoField}
use Rattle.bal_base.specs.declared.place.Place.{Place}
use Rattle.bal_base.specs.declared.text.Text.{Text}
use Rattle.bal_tree.specs.declared.name.Word.{Word}
use Rattle.checks.specs.Agreement.{AreTwins}
use Rattle.checks.specs.Questions.{is_below}
use Rattle.type_model.specs.declared.answers.Keys.TheVariants.{Field}
use Rattle.type_model.specs.declared.answers.TypeLimit.{TypeLimit}
use Rattle.type_model.specs.declared.atoms.AtomDef.{AtomDef}
use Rattle.type_model.specs.declared.atoms.AtomDef.TheVariants.{Mapping as MappingAtom}
use Rattle.type_model.specs.declared.atoms.FieldDef.{FieldDef}
use Rattle.type_model.specs.declared.basic.SemType.{Atom}
use Rattle.type_model.specs.declared.basic.Ty.{Ty}
use Rattle.type_model.specs.Calls.{Asked}
use Rattle.type_model.specs.Defined.{IsClosed}
use Rattle.type_model.proofs.Same.{itself}
use Rattle.typed_tree.specs.Exprs.{type_of}
use Rattle.check_words.specs.Members.{HaveField, has_key, reads_field, reads_stored_field}
use Rattle.check_words.specs.Words.{Atoms, asking, sem}
use Rattle.check_answers.specs.Answers.{TwinsOver}
use Rattle.check_answers.specs.TwinTypes.{SettledTwins, TwinAtoms, TwinDefs, TwinFields, TwinTypes}
use Rattle.check_answers.proofs.Adding.{Grown, adds-leads, grown-ends}
use Rattle.check_answers.proofs.Growing.{settled-later}
use Rattle.check_answers.proofs.Leading.{Any2, Leads, Pairs, leads-regroup, leads-then, leads-to, leads-unless}
use Rattle.check_answers.proofs.Meanings.{plain-twin}
use Rattle.check_answers.proofs.Members.{self-twins}
use Rattle.check_answers.proofs.Questions.{Before, D, Equal, before-atoms, is-below-leads, strict-leads}
use Rattle.check_answers.proofs.MemberReads.{member-at-leads, plain-twins}
use Rattle.check_answers.proofs.Values.{wants-some-weak}
use Rattle.check_answers.proofs.Words.{part-leads, two-leads}

module _ (passes : List AtomDef → Asked → TypeLimit → Type 0) (m n : Atoms) (first : IsClosed m) (second : IsClosed n) (twins : TwinAtoms m n) where
  abbrev B : Pairs
  B = Before m n

  abbrev G : Pairs
  G = Grown m n

  abbrev field : Text → Ty → FieldDef
  field name t = record { name = name; ty = t; optional = false }

  having-field : (name : Text) (d e : List AtomDef) → HaveField name d → HaveField name e → AllZip (TwinDefs (m ++ d) (n ++ e)) d e
  having-field name d e (t, r, every, all, x) (u, q, some, others, y) =
      let fields : TwinFields (m ++ d) (n ++ e) (field name t) (field name u) =
      record { name = refl; ty = plain-twin (m ++ d) (n ++ e) _ _ t u (λ i v. itself) (every (m ++ d)) (some (n ++ e)); optional = refl } in
      let rest : TwinTypes (m ++ d) (n ++ e) r q = plain-twin (m ++ d) (n ++ e) _ _ r q (λ i v. itself) (all (m ++ d)) (others (n ++ e)) in
      subst (λ k. AllZip (TwinDefs (m ++ d) (n ++ e)) k e) (sym x)
      (subst (λ k. AllZip (TwinDefs (m ++ d) (n ++ e)) (MappingAtom (field name t ∷ []) (Some r) ∷ []) k) (sym y) (((fields, tt), rest), tt))

  -- the field's type in what follows, where the atom was added
  module _ (s u : Ty) (h : SettledTwins m n s u) (name : Text) (at : Place) where
    later : (more others : Atoms) → SettledTwins (m ++ more) (n ++ others) s u
    later more others = settled-later m n more others first second s u h

    same-atom : (a b : ℕ) (more others : Atoms) → b ≡ a → TwinAtoms (m ++ more) (n ++ others) → AreTwins (m ++ more) (Atom a) (n ++ others) (Atom b)
    same-atom a b more others e t = subst (λ k. AreTwins (m ++ more) (Atom a) (n ++ others) (Atom k)) (sym e) (self-twins (m ++ more) (n ++ others) t (Atom a))

    pub has-key-leads : Leads B G Any2 (has_key passes name s.sem at) (has_key passes name u.sem at)
    has-key-leads =
        leads-then B G G Equal Any2 _ _ _ _ (adds-leads m n first second twins _ _ (Some at) (having-field name))
        (λ a b e. leads-then G G G Equal Any2 _ _ _ _ (asked a b e) (λ b1 b2 o. leads-unless G b1 b2 NoField at o))
      where
        asked : (a b : ℕ) → b ≡ a → Leads G G Equal (asking (is_below passes s.sem (Atom a) (Some at))) (asking (is_below passes u.sem (Atom b) (Some at)))
        asked a b e i j p =
            leads-to (Before (m ++ p.more) (n ++ p.others)) (Before (m ++ p.more) (n ++ p.others)) G Equal Equal _ _
            (λ x y c d k q. (record { more = p.more; others = p.others; first = k.first; second = k.second; atoms = p.atoms; states = k.states }, q))
            (is-below-leads passes (m ++ p.more) (n ++ p.others) (Before (m ++ p.more) (n ++ p.others)) (before-atoms (m ++ p.more) (n ++ p.others)) s.sem (Atom a) u.sem (Atom b)
            (Some at) (later p.more p.others).twins.shapes (same-atom a b p.more p.others e p.atoms)) i j (record { first = p.first; second = p.second; states = p.states })

  pub reads-field-leads : (w : Word) (at : Place) → Leads B TwinsOver Any2 (reads_field passes w at) (reads_field passes w at)
  reads-field-leads w at =
      leads-then B B TwinsOver _ Any2 _ _ _ _ (part-leads m n (D m n) (D m n))
      (λ e f h. leads-regroup B TwinsOver Any2 _ _ _ _ _ _
      (leads-then B G TwinsOver Any2 Any2 _ _ _ _ (has-key-leads (type_of e).value (type_of f).value h.ty w.name at)
      (λ x y k. grown-ends m n Any2 _ _ (λ more others t. leads-then _ _ _ _ Any2 _ _ _ _
      (member-at-leads (m ++ more) (n ++ others) passes (sem e) (sem f) (Field w.name) (Field w.name) at refl
      (later (type_of e).value (type_of f).value h.ty w.name at more others).twins.shapes)
      (λ a b i. strict-leads (m ++ more) (n ++ others) 1 _ _ _ _ at refl (λ t u x y. plain-twins (m ++ more) (n ++ others) a b t u i x y))))))

  pub reads-stored-field-leads : (w : Word) (at : Place) → Leads B TwinsOver Any2 (reads_stored_field passes w at) (reads_stored_field passes w at)
  reads-stored-field-leads w at =
      leads-then B B TwinsOver _ Any2 _ _ _ _ (two-leads m n (D m n) (D m n))
      (λ p q h. leads-regroup B TwinsOver Any2 _ _ _ _ _ _
      (leads-then B G TwinsOver Any2 Any2 _ _ _ _ (has-key-leads (type_of p.0).value (type_of q.0).value h.0.ty w.name at)
      (λ x y k. grown-ends m n Any2 _ _ (λ more others t. leads-then _ _ _ _ Any2 _ _ _ _
      (member-at-leads (m ++ more) (n ++ others) passes (sem p.0) (sem q.0) (Field w.name) (Field w.name) at refl
      (later (type_of p.0).value (type_of q.0).value h.0.ty w.name at more others).twins.shapes)
      (λ a b i. wants-some-weak (m ++ more) (n ++ others) _ _ (λ t u x y. plain-twins (m ++ more) (n ++ others) a b t u i x y))))))
