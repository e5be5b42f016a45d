-- Names of fields that are there already.
use Rattle.std.proofs.Common.{◌≡◌, ◌≢◌, ℕ, ◌+◌, ◌<◌, ◌⊎◌, ⊎_elim, List, length, get_or, take, Bool, true, false, sym, ap, ◌∙◌, arith}
use Rattle.std.proofs.Common.{length-take}
use Rattle.std.proofs.lemmas.List.{get_or-take, get_or_default}
use Rattle.std.specs.List.{list_any}
use Rattle.std.specs.Cmp.Lexicographic.{bytes_decides}
use Rattle.std.proofs.lemmas.Bool.{false≢true}
use Rattle.std.proofs.lemmas.List.Folds.{Any-from_list_any, list_any-from_Any}
use Rattle.type_model.specs.declared.atoms.FieldDef.{FieldDef}
use Rattle.type_model.specs.Places.{is_same_text}

module _ (fields : List FieldDef) (i : ℕ) (f : FieldDef) (lt : i < length fields) (is : f ≡ get_or fields i f) where
  abbrev IsNamed : FieldDef → Bool
  IsNamed g = is_same_text g.name f.name

  -- a field before it has the name of the field at i
  pub named_before : list_any IsNamed (take i fields) ≡ true → (k : ℕ) × (k < i) × ((get_or fields k f).name ≡ f.name)
  named_before h =
      let a = Any-from_list_any IsNamed (take i fields) h in
      let below : a.0 < i = omega (arith, length-take {A = FieldDef}, a.2) in
      let same : get_or fields a.0 f ≡ a.1 = get_or_default fields a.0 f a.1 (omega arith) ∙ sym (get_or-take i fields a.0 a.1 below) ∙ a.3 in
      (a.0, below, ap (λ (g : FieldDef). g.name) same ∙ (bytes_decides a.1.name f.name).0 a.4)

  -- no field before it has the name of the field at i
  pub not_named_before : list_any IsNamed (take i fields) ≡ false → (k : ℕ) (d : FieldDef) → k < i → (get_or fields k d).name ≢ f.name
  not_named_before h k d l e =
      let within : k < length (take i fields) = omega (arith, length-take {A = FieldDef}) in
      let here = get_or-take i fields k d l in
      let x = get_or fields k d in
      let at : get_or (take i fields) k x ≡ x = get_or_default (take i fields) k x d within ∙ here in
      false≢true (sym h ∙ list_any-from_Any IsNamed (take i fields) (k, x, within, at, (bytes_decides x.name f.name).1 e))

  below_or : (b : ℕ) → b < i + 1 → (b < i) ⊎ (b ≡ i)
  below_or b l = grind (arith, l)

  -- the fields up to the one at i have different names
  pub distinct_more : ((a b : ℕ) (d : FieldDef) → a < b → b < i → (get_or fields a d).name ≢ (get_or fields b d).name) → list_any IsNamed (take i fields) ≡ false → (a b : ℕ) (d : FieldDef) → a < b → b < i + 1 → (get_or fields a d).name ≢ (get_or fields b d).name
  distinct_more all h a b d l le e =
      let here : get_or fields i d ≡ f = get_or_default fields i d f lt ∙ sym is in
      ⊎_elim (λ (m : b < i). all a b d l m e) (λ (m : b ≡ i). not_named_before h a d (omega arith) (e ∙ ap (λ j. (get_or fields j d).name) m ∙ ap (λ (g : FieldDef). g.name) here)) (below_or b le)
