-- The questions to which a question leads: those about the parts of the shapes of its paths.
use Rattle.std.specs.Prelude.{◌≡◌, ◌≢◌, ◌↔◌, ℕ, List, [], ◌∷◌, ◌++◌, map, filter, not, Bool, ◌⊎◌, Contains, All, Any, ◌==◌, if◌then◌else◌}
use Rattle.std.specs.List.{list_any}
use Rattle.bal_base.specs.declared.text.Text.{Text}
use Rattle.bal_base.specs.declared.shape.Shape.{Shape}
use Rattle.type_model.specs.declared.basic.SemType.{Basic}
use Rattle.type_model.specs.declared.basic.BasicSet.TheVariants.{ListAll, MappingAll, Readonly}
use Rattle.type_model.specs.declared.atoms.AtomDef.{AtomDef}
use Rattle.type_diagrams.specs.declared.kind.Kind.{Kind}
use Rattle.type_diagrams.specs.declared.kind.Kind.TheVariants.{List as Lists, Mapping as Mappings, Error as Errors, Function as Functions, Future as Futures}
use Rattle.type_diagrams.specs.declared.path.Path.{Path}
use Rattle.type_diagrams.specs.Kinds.{the_mark, IsOfKind}
use Rattle.type_diagrams.specs.Trees.{Tree, eval, IsOrdered}
use Rattle.type_diagrams.specs.Paths.{paths_of, IsOnPath}
use Rattle.type_diagrams.specs.Conditions.{Condition, AreOne, Meets, condition_of, frozen, asks}
use Rattle.type_diagrams.specs.Members.{atoms_in, item_of, member_of, detail_of, arguments_of, outcome_of, results_of, IsListOutOfPlay, IsMappingOutOfPlay}

-- the ordered decision of a condition for a kind; there is one
pub record IsTreeOf (c : Condition) (k : Kind) (t : Tree) : Type 0 where
  pub ordered : IsOrdered t
  pub same : (v : ℕ → Bool) → eval t v ≡ c.by_kind k v

-- all paths of a condition for a kind, in order
abbrev pub HasPaths : Condition → Kind → List Path → Type 0
HasPaths c k paths = (t : Tree) × IsTreeOf c k t × (paths ≡ paths_of t)

-- over all atoms, the shapes of the kind that meet the condition are those of the paths
abbrev pub IsUnionOf : Condition → Kind → List Path → Type 0
IsUnionOf c k paths =
    (env : List AtomDef) (x : Shape) → IsOfKind k x → Meets env c x ↔ Any (λ p. IsOnPath env k p x) paths

-- the path is one of them
abbrev pub IsPathOf : Condition → Kind → Path → Type 0
IsPathOf c k p = (t : Tree) × IsTreeOf c k t × Contains (paths_of t) p

-- what may stand in the shapes of the path, where these are marked
abbrev pub frozen_if_marked : Path → List Condition
frozen_if_marked p = if list_any (λ l. l == the_mark) p.pos then frozen ∷ [] else []

-- what is wanted of a part of a list or mapping: what each wanted atom asks of it
abbrev pub wanted_parts : (ℕ → Condition) → Path → List Condition
wanted_parts asked p = map asked (atoms_in p.pos) ++ frozen_if_marked p

-- A question about a part of the shapes of a list or mapping path, where `asked` is what atoms ask of the
-- part. Unwanted are the parts of some of the unwanted atoms in play, none of which counts as one that is
-- wanted.
pub record IsPartQuestion (asked : ℕ → Condition) (IsOut : ℕ → Type 0) (p : Path) (d : Condition) : Type 0 where
  pub avoided : List ℕ
  pub unwanted : All (λ a. Contains (atoms_in p.neg) a × ¬ IsOut a) avoided
  pub apart : All (λ a. ¬ Any (AreOne (asked a)) (wanted_parts asked p)) avoided
  pub question : AreOne d (asks (wanted_parts asked p) (map asked avoided))

module _ (env : List AtomDef) where
  abbrev pub lists : Condition
  lists = condition_of env (Basic ListAll)

  abbrev pub mappings : Condition
  mappings = condition_of env (Basic MappingAll)

  abbrev pub readonly : Condition
  readonly = condition_of env (Basic Readonly)

  -- whether unmarked lists of the first arguments are outside those of all these arrows
  abbrev pub asks_arguments : Condition → List ℕ → Condition
  asks_arguments arguments arrows = asks (arguments ∷ lists ∷ []) (readonly ∷ map (arguments_of env) arrows)

  -- for some of the wanted arrows, chosen by a test: arguments of the unwanted arrow that none of these
  -- takes; and, where some are left, results of those that are left that aren't among the unwanted ones
  abbrev pub IsArrowQuestion : List ℕ → ℕ → Condition → Type 0
  IsArrowQuestion wanted a d =
      (chosen : ℕ → Bool)
      × (AreOne d (asks_arguments (arguments_of env a) (filter chosen wanted))
      ⊎ ((filter (λ b. not (chosen b)) wanted ≢ [])
      × AreOne d (asks (map (outcome_of env) (filter (λ b. not (chosen b)) wanted)) (outcome_of env a ∷ []))))

  -- the member questions of a path
  abbrev pub IsMemberQuestion : Kind → Path → Condition → Type 0
  IsMemberQuestion Lists p d =
      (place : ℕ) × IsPartQuestion (item_of env place) (IsListOutOfPlay env (atoms_in p.pos)) p d
  IsMemberQuestion Mappings p d =
      (key : Text) × IsPartQuestion (member_of env key) (IsMappingOutOfPlay env (atoms_in p.pos)) p d
  IsMemberQuestion Errors p d =
      AreOne d (asks (map (detail_of env) (atoms_in p.pos) ++ mappings ∷ readonly ∷ []) (map (detail_of env) (atoms_in p.neg)))
  IsMemberQuestion Functions p d =
      (a : ℕ) × Contains (atoms_in p.neg) a × IsArrowQuestion (atoms_in p.pos) a d
  IsMemberQuestion Futures p d =
      (a : ℕ) × Contains (atoms_in p.neg) a × AreOne d (asks (map (results_of env) (atoms_in p.pos)) (results_of env a ∷ []))
