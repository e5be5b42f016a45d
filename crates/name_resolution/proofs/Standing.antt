-- What a name stands for, by the definitions of a package with where they stand.
use Rattle.std.proofs.Common.{◌≡◌, ◌==◌, ◌||◌, ℕ, Bool, true, false, List, refl, sym, ap, ◌∙◌, Option, None, Some, Result, Ok, Err, cond}
use Rattle.std.specs.Prelude.{slice_get}
use Rattle.std.specs.Option.{option_map}
use Rattle.std.specs.Result.{is_ok}
use Rattle.std.proofs.lemmas.Bool.{false≢true}
use Rattle.std.proofs.lemmas.Option.{slice_get-map}
use Rattle.bal_base.specs.declared.fault.FaultCode.{FaultCode}
use Rattle.bal_base.specs.declared.fault.FaultCode.TheVariants.{NotPublic, Unknown}
use Rattle.bal_base.specs.declared.text.Name.{Name}
use Rattle.bal_tree.specs.declared.def.Def.{Def}
use Rattle.bal_tree.specs.declared.def.Def.TheVariants.{«Type» as TypeOf, Const, Variable as VariableOf, Function as FunctionOf}
use Rattle.bal_tree.specs.declared.package.Package.{Package}
use Rattle.name_resolution.specs.Definitions.{Placed, definitions_of, is_public, placed}
use Rattle.name_resolution.specs.Named.{IsFor, gives_type}
use Rattle.name_resolution.specs.Outlines.{outlines_of}
use Rattle.name_resolution.specs.Resolved.{first_defined, if_defined, if_seen, is_type, resolved}
use Rattle.name_resolution.specs.declared.outlines.Outline.{Outline}
use Rattle.name_resolution.proofs.Known.{first-placed}
use Rattle.name_resolution.proofs.Placed.{outline_at, outlines-placed}

abbrev pub found : Result ℕ FaultCode → ℕ
found (Ok n) = n
found (Err code) = 0

pub wrong-ok : {code : FaultCode} {k : ℕ} → Err code ≡ Ok k → ⊥
wrong-ok h = false≢true (ap is_ok h)

module _ (p : Package) (from : ℕ) (name : Name) (k : ℕ) where
  abbrev ps : List Placed
  ps = definitions_of p

  module-at : (m file : ℕ) (def : Def) → (outline_at p (placed m file def)).«module» ≡ m
  module-at m file (TypeOf d) = refl
  module-at m file (Const d) = refl
  module-at m file (VariableOf d) = refl
  module-at m file (FunctionOf d) = refl

  public-at : (m file : ℕ) (def : Def) → (outline_at p (placed m file def)).public ≡ is_public def
  public-at m file (TypeOf d) = refl
  public-at m file (Const d) = refl
  public-at m file (VariableOf d) = refl
  public-at m file (FunctionOf d) = refl

  type-at : (m file : ℕ) (def : Def) → is_type (outline_at p (placed m file def)).kind ≡ gives_type def
  type-at m file (TypeOf d) = refl
  type-at m file (Const d) = refl
  type-at m file (VariableOf d) = refl
  type-at m file (FunctionOf d) = refl

  seen : (home n : ℕ) (q : Placed) (visible of : Bool) → slice_get ps n ≡ Some q → first_defined (outlines_of p) home name ≡ Some n
      → (from == q.«module» || is_public q.def) ≡ visible → gives_type q.def ≡ of → cond visible (cond of (Ok n) (Err Unknown)) (Err NotPublic) ≡ Ok k → IsFor ps from (Some home) name k
  seen home n q true true is first v t h = let same : n ≡ k = ap found h in record {
    home = home;
    home_is = refl;
    definition = q;
    is = ap (slice_get ps) (sym same) ∙ is;
    first = sym (first-placed p home name) ∙ first ∙ ap Some same;
    seen = v;
    of = t;
  }
  seen home n q true false is first v t h = absurd (wrong-ok h)
  seen home n q false of is first v t h = absurd (wrong-ok h)

  defined : (home n : ℕ) (o : Option Placed) → slice_get ps n ≡ o → first_defined (outlines_of p) home name ≡ Some n → if_seen from n (option_map (outline_at p) o) ≡ Ok k
      → IsFor ps from (Some home) name k
  defined home n None is first h = absurd (wrong-ok h)
  defined home n (Some q) is first h =
      seen home n q (from == q.«module» || is_public q.def) (gives_type q.def) is first refl refl
      (sym (ap (λ m. cond (from == m || d.public) (cond (is_type d.kind) (Ok n) (Err Unknown)) (Err NotPublic)) (module-at q.«module» q.file q.def)
      ∙ ap (λ b. cond (from == q.«module» || b) (cond (is_type d.kind) (Ok n) (Err Unknown)) (Err NotPublic)) (public-at q.«module» q.file q.def)
      ∙ ap (λ b. cond (from == q.«module» || is_public q.def) (cond b (Ok n) (Err Unknown)) (Err NotPublic)) (type-at q.«module» q.file q.def)) ∙ h)
    where
      d : Outline
      d = outline_at p q

  first-is : (home : ℕ) (o : Option ℕ) → first_defined (outlines_of p) home name ≡ o → if_defined (outlines_of p) from o ≡ Ok k → IsFor ps from (Some home) name k
  first-is home None first h = absurd (wrong-ok h)
  first-is home (Some n) first h =
      defined home n (slice_get ps n) refl first
      (ap (if_seen from n) (sym (ap (λ xs. slice_get xs n) (outlines-placed p) ∙ slice_get-map (outline_at p) ps n)) ∙ h)

  -- what a name stands for is a type or a constant that is seen, the first of its name
  pub stands-for : (home : Option ℕ) → resolved (outlines_of p) from home name ≡ Ok k → IsFor ps from home name k
  stands-for None h = absurd (wrong-ok h)
  stands-for (Some home) h = first-is home (first_defined (outlines_of p) home name) refl h
