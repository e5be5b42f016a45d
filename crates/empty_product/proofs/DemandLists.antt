-- What atoms ask at the first places, place by place and atom by atom.
use Rattle.std.proofs.Common.{◌≡◌, ⊎_elim, ℕ, ◌+◌, ◌<◌, List, [], ◌∷◌, ◌++◌, take, length, get_or, false, All, Contains, Some, slice_get, refl, sym, subst, ◌∙◌, arith}
use Rattle.std.proofs.lemmas.List.{length_push, take_more}
use Rattle.std.proofs.lemmas.List.Elements.{All-nil, All-push, All-weaker, Contains-push, Contains-append_left}
use Rattle.type_model.specs.declared.atoms.AtomDef.{AtomDef}
use Rattle.type_diagrams.specs.Members.{item_of}
use Rattle.type_diagrams.specs.Tables.{Table, IsDiagram}
use Rattle.type_diagrams.specs.Whole.{Keeps, Gives}
use Rattle.type_diagrams.proofs.Keeping.{length-grows}
use Rattle.type_diagrams.proofs.Shapes.{gives-keeps}
use Rattle.empty_product.specs.declared.slots.Demand.{Demand}
use Rattle.empty_product.specs.declared.slots.Unwanted.{Unwanted}
use Rattle.empty_product.specs.declared.further.RestDemand.{RestDemand}
use Rattle.empty_product.specs.Lists.{AreDemandsOf, IsDemandOf}
use Rattle.empty_product.specs.Products.{AreUnwanted}
use Rattle.empty_product.proofs.ItemPlaces.{at_push, none_some}
use Rattle.std.proofs.lemmas.Option.{slice_get-get_or}

pub diagrams-keep : (old new : Table) (qs : List ℕ) → Keeps old new → All (IsDiagram old) qs → All (IsDiagram new) qs
diagrams-keep old new qs keeps h = All-weaker (IsDiagram old) (IsDiagram new) (λ q is. length-grows old.diagrams new.diagrams q keeps.diagrams is) qs h

module _ (env : List AtomDef) where
  pub IsDemandOf-none : (t : Table) (a : ℕ) → IsDemandOf env t 0 a []
  IsDemandOf-none t a = record { count = refl; each = λ k d is. absurd (none_some d is) }

  pub IsDemandOf-keeps : (old new : Table) (n a : ℕ) (ds : List Demand) → Keeps old new → IsDemandOf env old n a ds → IsDemandOf env new n a ds
  IsDemandOf-keeps old new n a ds keeps h = record {
    count = h.count;
    each = λ k d is. let g = h.each k d is in (gives-keeps old new (item_of env k a) d.question keeps g.0, g.1);
  }

  pub IsDemandOf-push : (old new : Table) (n a : ℕ) (ds : List Demand) (d : Demand) → Keeps old new → IsDemandOf env old n a ds → Gives new (item_of env n a) d.question → d.required ≡ false → IsDemandOf env new (n + 1) a (ds ++ d ∷ [])
  IsDemandOf-push old new n a ds d keeps h gives optional = record {
    count = let long = length_push ds d in let same = h.count in omega (arith, long, same);
    each = λ k e is. ⊎_elim
        (λ (f : slice_get ds k ≡ Some e). let g = h.each k e f in (gives-keeps old new (item_of env k a) e.question keeps g.0, g.1))
        (λ (f : (k ≡ length ds) × (d ≡ e)). subst (λ b. Gives new (item_of env k a) b.question × (b.required ≡ false)) f.1
        (subst (λ m. Gives new (item_of env m a) d.question) (sym (f.0 ∙ h.count)) gives, optional))
        (at_push ds d k e is);
  }

  pub AreDemandsOf-none : (t : Table) (n : ℕ) → AreDemandsOf env t n [] []
  AreDemandsOf-none t n = record { all = All-nil _; only = All-nil _ }

  pub AreDemandsOf-push : (old new : Table) (n : ℕ) (atoms : List ℕ) (us : List Unwanted) (a : ℕ) (u : Unwanted) → Keeps old new → AreDemandsOf env old n atoms us → IsDemandOf env new n a u.demands.items → AreDemandsOf env new n (atoms ++ a ∷ []) (us ++ u ∷ [])
  AreDemandsOf-push old new n atoms us a u keeps h of = record {
    all = All-push (λ b. (w : Unwanted) × Contains (us ++ u ∷ []) w × IsDemandOf env new n b w.demands.items) atoms a
        (All-weaker (λ b. (w : Unwanted) × Contains us w × IsDemandOf env old n b w.demands.items) (λ b. (w : Unwanted) × Contains (us ++ u ∷ []) w × IsDemandOf env new n b w.demands.items) (λ b f. (f.0, Contains-append_left us (u ∷ []) f.0 f.1, IsDemandOf-keeps old new n b f.0.demands.items keeps f.2)) atoms h.all)
        (u, Contains-push us u, of);
    only = All-push (λ w. (b : ℕ) × Contains (atoms ++ a ∷ []) b × IsDemandOf env new n b w.demands.items) us u
        (All-weaker (λ w. (b : ℕ) × Contains atoms b × IsDemandOf env old n b w.demands.items) (λ w. (b : ℕ) × Contains (atoms ++ a ∷ []) b × IsDemandOf env new n b w.demands.items) (λ w f. (f.0, Contains-append_left atoms (a ∷ []) f.0 f.1, IsDemandOf-keeps old new n f.0 w.demands.items keeps f.2)) us h.only)
        (a, Contains-push atoms a, of);
  }

  pub AreDemandsOf-more : (old new : Table) (n : ℕ) (atoms : List ℕ) (i : ℕ) (us : List Unwanted) (u : Unwanted) → i < length atoms → Keeps old new → AreDemandsOf env old n (take i atoms) us → IsDemandOf env new n (get_or atoms i 0) u.demands.items → AreDemandsOf env new n (take (i + 1) atoms) (us ++ u ∷ [])
  AreDemandsOf-more old new n atoms i us u lt keeps h of =
      subst (λ xs. AreDemandsOf env new n xs (us ++ u ∷ [])) (sym (take_more atoms i 0 lt)) (AreDemandsOf-push old new n (take i atoms) us (get_or atoms i 0) u keeps h of)

  -- what avoid asks of them
  pub AreDemandsOf-AreUnwanted : (t : Table) (n : ℕ) (atoms : List ℕ) (us : List Unwanted) → AreDemandsOf env t n atoms us → AreUnwanted t n us
  AreDemandsOf-AreUnwanted t n atoms us h k e lt =
      let f = h.only k e lt in
      (λ j d less. (f.2.each j (get_or (get_or us k e).demands.items j d) (slice_get-get_or (get_or us k e).demands.items j d less)).0.diagram, f.2.count)

  pub rest-demands-keep : (old new : Table) (n : ℕ) (ds : List RestDemand) → Keeps old new → All (λ d. Gives old (item_of env n d.atom) d.question) ds → All (λ d. Gives new (item_of env n d.atom) d.question) ds
  rest-demands-keep old new n ds keeps h = All-weaker (λ d. Gives old (item_of env n d.atom) d.question) (λ d. Gives new (item_of env n d.atom) d.question) (λ d g. gives-keeps old new (item_of env n d.atom) d.question keeps g) ds h
