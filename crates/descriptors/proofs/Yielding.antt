-- How checks in which atoms are added stand one behind another.
use Rattle.std.proofs.Common.{◌≡◌, ℕ, zero, suc, ◌<◌, ◌≤◌, List, [], length, Result, Ok, Err, IfOk, IfSome, IsErr, IsErrAnd, Option, None, Some, refl, sym, subst, ◌∙◌, arith}
use Rattle.std.proofs.lemmas.Bool.{false≢true}
use Rattle.bal_base.specs.declared.fault.Fault.{Fault}
use Rattle.bal_base.specs.declared.shape.Shape.{Shape}
use Rattle.bal_base.specs.declared.stop.Stop.{Stop}
use Rattle.bal_base.specs.declared.stop.Stop.TheVariants.{Memory}
use Rattle.type_model.specs.declared.atoms.AtomDef.{AtomDef}
use Rattle.type_model.specs.declared.basic.Choice.{Choice}
use Rattle.type_model.specs.declared.basic.SemType.{SemType, Atom}
use Rattle.type_model.specs.declared.basic.Ty.{Ty}
use Rattle.type_model.specs.Calls.{KeepsTypes}
use Rattle.type_model.specs.Defined.{NamesBelow, ChoicesBelow, TyBelow}
use Rattle.type_model.proofs.DefinedLaws.{TyBelow-more}
use Rattle.type_model.proofs.Kept.{KeepsTypes-same}
use Rattle.type_model.proofs.SameTypes.{In-same, NamesBelow-same}
use Rattle.std.proofs.lemmas.List.Elements.{All-cons, All-nil, All-weaker}
use Rattle.checks.specs.Checks.{Check, gives_some, ◌▷◌}
use Rattle.checks.proofs.Steps.{goes_on, stops, some_is, ran_out}
use Rattle.descriptors.specs.declared.names.Names.{Names}
use Rattle.descriptors.specs.declared.names.OwnTypes.{OwnTypes}
use Rattle.descriptors.specs.Described.{Atoms, HasMeaning, IsCopy, IsPlain, IsRewritten, choice_of, list_of, mapping_of, plain}
use Rattle.descriptors.specs.Steps.{AreNames, AreOwnTypes, MeaningBelow, Yields}
use Rattle.descriptors.specs.declared.names.Meaning.{Meaning}
use Rattle.descriptors.specs.declared.names.Meaning.TheVariants.{TypeName, Constant, Variable, Function}

-- ---- atoms that are kept

pub kept-then : (a b c : List AtomDef) → KeepsTypes a b → KeepsTypes b c → KeepsTypes a c
kept-then a b c g h = record {
  defined = λ t d. h.defined t (g.defined t d);
  shapes = λ t d x. (
    λ i. (h.shapes t (g.defined t d) x).0 ((g.shapes t d x).0 i),
    λ i. (g.shapes t d x).1 ((h.shapes t (g.defined t d) x).1 i),
  );
}

no_fewer : (m n : ℕ) → ((t : SemType) → NamesBelow m t → NamesBelow n t) → m ≤ n
no_fewer zero n h = omega arith
no_fewer (suc m) n h = let below : m < n = h (Atom m) (omega arith) in omega (arith, below)

pub kept-grows : (old new : List AtomDef) → KeepsTypes old new → length old ≤ length new
kept-grows old new k = no_fewer (length old) (length new) k.defined

meaning-kept : (P : Shape → Type 0) (ls ms : List Choice) (old new : List AtomDef) (t : Ty) → KeepsTypes old new → TyBelow (length old) t
    → HasMeaning P ls ms old t → HasMeaning P ls ms new t
meaning-kept P ls ms old new t k below m = record {
  shapes = λ x valid. (λ i. (m.shapes x valid).0 ((k.shapes t.sem below.0 x).1 i), λ p. (k.shapes t.sem below.0 x).0 ((m.shapes x valid).1 p));
  lists = m.lists;
  maps = m.maps;
}

pub below-kept : (old new : List AtomDef) (t : Ty) → KeepsTypes old new → TyBelow (length old) t → TyBelow (length new) t
below-kept old new t k = TyBelow-more (length old) (length new) (kept-grows old new k) t

pub plain-below : (n : ℕ) (t : SemType) → NamesBelow n t → TyBelow n (plain t)
plain-below n t h = (h, All-nil (λ c. c.atom < n), All-nil (λ c. c.atom < n))

pub list-below : (n atom : ℕ) → atom < n → TyBelow n (list_of atom)
list-below n atom h = (h, All-cons (λ c. c.atom < n) (choice_of atom) [] h (All-nil (λ c. c.atom < n)), All-nil (λ c. c.atom < n))

pub mapping-below : (n atom : ℕ) → atom < n → TyBelow n (mapping_of atom)
mapping-below n atom h = (h, All-nil (λ c. c.atom < n), All-cons (λ c. c.atom < n) (choice_of atom) [] h (All-nil (λ c. c.atom < n)))

-- a type that was written again is so where atoms are added
pub rewritten-kept : (old new : List AtomDef) (t u : Ty) → KeepsTypes old new → TyBelow (length old) t → TyBelow (length old) u → IsRewritten t old u → IsRewritten t new u
rewritten-kept old new t u k below over m = record {
  shapes = λ x valid. (
    λ i. (k.shapes t.sem below.0 x).0 ((m.shapes x valid).0 ((k.shapes u.sem over.0 x).1 i)),
    λ i. (k.shapes u.sem over.0 x).0 ((m.shapes x valid).1 ((k.shapes t.sem below.0 x).1 i)),
  );
  lists = m.lists;
  maps = m.maps;
}

-- ---- copies

pub copy-below : (n : ℕ) (s t : Ty) → IsCopy s t → TyBelow n s → TyBelow n t
copy-below n s t e h = (
  NamesBelow-same n s.sem t.sem e.sem h.0,
  subst (ChoicesBelow n) e.lists h.1,
  subst (ChoicesBelow n) e.maps h.2,
)

pub copy-means : (P : Shape → Type 0) (ls ms : List Choice) (env : List AtomDef) (s t : Ty) → IsCopy s t → HasMeaning P ls ms env s → HasMeaning P ls ms env t
copy-means P ls ms env s t e m = record {
  shapes = λ x valid. let same = In-same env x s.sem t.sem e.sem in (λ i. (m.shapes x valid).0 (same.1 i), λ p. same.0 ((m.shapes x valid).1 p));
  lists = sym e.lists ∙ m.lists;
  maps = sym e.maps ∙ m.maps;
}

atom-kept : (P : Shape → Type 0) (old new : List AtomDef) (atom : ℕ) → KeepsTypes old new → atom < length old → IsPlain P old (plain (Atom atom)) → IsPlain P new (plain (Atom atom))
atom-kept P old new atom k below = meaning-kept P [] [] old new (plain (Atom atom)) k (plain-below (length old) (Atom atom) below)

pub own-kept : (old new : List AtomDef) (own : OwnTypes) → KeepsTypes old new → AreOwnTypes old own → AreOwnTypes new own
own-kept old new own k a =
    let le : length old ≤ length new = kept-grows old new k in record {
      anydata = meaning-kept _ _ _ old new own.anydata k a.anydata_defined a.anydata;
      anydata_defined = below-kept old new own.anydata k a.anydata_defined;
      any_members = atom-kept _ old new own.any_members k a.any_members_defined a.any_members;
      any_members_defined = omega (arith, a.any_members_defined, le);
      any_fields = atom-kept _ old new own.any_fields k a.any_fields_defined a.any_fields;
      any_fields_defined = omega (arith, a.any_fields_defined, le);
      isolated = atom-kept _ old new own.isolated k a.isolated_defined a.isolated;
      isolated_defined = omega (arith, a.isolated_defined, le);
    }

-- ---- names that are kept

number-kept : (old new : List AtomDef) (n : ℕ) → KeepsTypes old new → n < length old → n < length new
number-kept old new n k h = let le : length old ≤ length new = kept-grows old new k in omega (arith, h, le)

rest-kept : (old new : List AtomDef) (rest : Option Ty) → KeepsTypes old new → IfSome rest (TyBelow (length old)) → IfSome rest (TyBelow (length new))
rest-kept old new None k h = tt
rest-kept old new (Some t) k h = below-kept old new t k h

said-kept : (old new : List AtomDef) (m : Meaning) → KeepsTypes old new → MeaningBelow (length old) m → MeaningBelow (length new) m
said-kept old new (TypeName t) k h = below-kept old new t k h
said-kept old new (Constant t) k h = below-kept old new t k h
said-kept old new (Variable number final t) k h = below-kept old new t k h
said-kept old new (Function s) k h = (
  All-weaker (TyBelow (length old)) (TyBelow (length new)) (λ t. below-kept old new t k) s.params h.0,
  rest-kept old new s.rest k h.1,
  below-kept old new s.result k h.2,
  number-kept old new s.arrow k h.3,
  number-kept old new s.lists k h.4,
  number-kept old new s.future k h.5,
)

pub names-kept : (old new : List AtomDef) (names : Names) → KeepsTypes old new → AreNames old names → AreNames new names
names-kept old new names k a = record {
  types = λ scope name t e. below-kept old new t k (a.types scope name t e);
  meanings = λ m name e at. said-kept old new e.meaning k (a.meanings m name e at);
  own = own-kept old new names.own k a.own;
}

-- ---- checks

pub weaker : {A E : Type 0} (r : Result A E) (P Q : A → Type 0) → IfOk r P → ((a : A) → P a → Q a) → IfOk r Q
weaker (Ok a) P Q h f = f a h
weaker (Err e) P Q h f = tt

module _ {A : Type 0} (P : ℕ → A → Type 0) where
  -- something that is so is given
  pub yields-given : (S : Atoms → A → Type 0) (env : List AtomDef) (a : A) → S env a → P (length env) a → Yields P (gives_some S) env (Ok a) env
  yields-given S env a s p = record { comes = some_is S env env a refl s; kept = KeepsTypes-same env; over = p }

  pub yields-ran_out : (m : Check Atoms A) (env : List AtomDef) → Yields P m env (Err Memory) env
  yields-ran_out m env = record { comes = ran_out m env env; kept = KeepsTypes-same env; over = tt }

module _ {A B : Type 0} (P : ℕ → A → Type 0) (Q : ℕ → B → Type 0) (m : Check Atoms A) (next : A → Check Atoms B) where
  -- the first gave something, and then this came
  pub yields-on : (old mid new : List AtomDef) (a : A) (r : Result B (Stop Fault)) → Yields P m old (Ok a) mid → Yields Q (next a) mid r new → Yields Q (m ▷ next) old r new
  yields-on old mid new a r g h = record {
    comes = goes_on m next old mid new a r g.comes h.comes;
    kept = kept-then old mid new g.kept h.kept;
    over = h.over;
  }

  -- the first stopped
  pub yields-stops : (old new : List AtomDef) (stop : Stop Fault) → Yields P m old (Err stop) new → Yields Q (m ▷ next) old (Err stop) new
  yields-stops old new stop h = record { comes = stops m next old new stop h.comes; kept = h.kept; over = tt }

-- what stopped a call is handed on by `?`
pub handed-on : {B : Type 0} (Q : ℕ → B → Type 0) (m : Check Atoms B) (old new : List AtomDef) (stop : Stop Fault) (r : Result B (Stop Fault))
    → IsErr r × IsErrAnd r (λ e. e ≡ stop) → Yields Q m old (Err stop) new → Yields Q m old r new
handed-on Q m old new stop (Ok b) h y = absurd (false≢true h.0)
handed-on Q m old new stop (Err s) h y = subst (λ e. Yields Q m old (Err e) new) (sym h.1) y
