-- What is asked of the paths of functions, and where it leads.
use Rattle.std.proofs.Common.{◌≡◌, inl, inr, ℕ, ◌≤◌, List, [], ◌∷◌, map, length, All, Contains, sym, subst, ◌∙◌}
use Rattle.std.proofs.lemmas.List.Elements.{All-weaker, All-contains, All-contains_itself}
use Rattle.type_model.specs.declared.basic.SemType.{SemType}
use Rattle.type_model.specs.declared.atoms.AtomDef.{AtomDef}
use Rattle.type_model.specs.declared.answers.TypeLimit.{TypeLimit}
use Rattle.type_model.specs.declared.answers.TypeLimit.TheVariants.{Arrows}
use Rattle.type_model.specs.Calls.{Asked, Applied}
use Rattle.type_diagrams.specs.declared.kind.Kind.TheVariants.{Function as Functions}
use Rattle.type_diagrams.specs.declared.path.Path.{Path}
use Rattle.type_diagrams.specs.Kinds.{the_mark}
use Rattle.type_diagrams.specs.Conditions.{Condition, AreOne, LooksAtKinds, condition_of, and_of, without, asks}
use Rattle.type_diagrams.specs.Members.{atoms_in, arguments_of}
use Rattle.type_diagrams.specs.Questions.{HasPaths, IsPathOf, IsMemberQuestion, lists, readonly}
use Rattle.type_diagrams.specs.Reach.{Reached, first, next, IsFirst, Passes, alone}
use Rattle.type_diagrams.specs.Tables.{Table as Diagrams, condition}
use Rattle.type_diagrams.specs.Turns.{HasLiteralsOf, IsReady, IsSound}
use Rattle.type_diagrams.specs.Whole.{Gives, Keeps}
use Rattle.type_diagrams.proofs.AskedDiagrams.{and_Gives, gives_as}
use Rattle.type_diagrams.proofs.Asking.{asks_itself, asks_along, asks_one_more, asks_one_less}
use Rattle.type_diagrams.proofs.PathLiterals.{HasPaths-HasLiteralsOf}
use Rattle.type_diagrams.proofs.Shapes.{one-further}
use Rattle.empty_arrow.specs.Giving.{IsShort}
use Rattle.empty_arrow.proofs.ChosenArrows.{is_in, arguments-question}
use Rattle.empty_arrow.proofs.PathLengths.{few_literals}
use Rattle.subtype_decider.specs.declared.questions.Questions.{Questions}
use Rattle.subtype_decider.specs.Closed.{IsRight}
use Rattle.subtype_decider.specs.Leads.{LeadsToPath, WantsTooMany}
use Rattle.subtype_decider.specs.Working.{IsAtRest}
use Rattle.subtype_decider.proofs.Ends.{right-IsSound}

module _ (env : List AtomDef) (p : Path) where
  pub path-IsReady : (q : Questions) → IsAtRest env q → HasLiteralsOf env Functions p → IsReady env q.diagrams q.table Functions p
  path-IsReady q r literals = record {
    literals = literals;
    defined = r.defined;
    sound = All-weaker (IsRight env q.diagrams) (IsSound env q.diagrams) (right-IsSound env q.diagrams) q.table r.closed.right;
  }

  module _ (asked : Asked) (question : Condition) (reached : Reached env (IsFirst env asked) question) (path : IsPathOf question Functions p) where
    pub too_many-Passes : (limit : TypeLimit) → (limit ≡ Arrows) × WantsTooMany Functions p → Passes env asked limit
    too_many-Passes limit (is, wants) = subst (Passes env asked) (sym is) (question, p, reached, path, wants.1)

    pub member-Reached : (d : Condition) → IsMemberQuestion env Functions p d → Reached env (IsFirst env asked) d
    member-Reached d member = next question d Functions p reached path member

-- ---- the paths of a type of functions

module _ (env : List AtomDef) (small : length env ≤ the_mark) (f args : SemType) (of of_args : Condition) (one : AreOne of (condition_of env f))
    (one_args : AreOne of_args (asks (condition_of env args ∷ lists env ∷ []) (readonly env ∷ []))) (looks : LooksAtKinds env of) (paths : List Path) (has : HasPaths of Functions paths) where
  of_alone : AreOne of (alone env f)
  of_alone = one-further of (condition_of env f) (alone env f) one (asks_itself (condition_of env f))

  path-of : (p : Path) → Contains paths p → IsPathOf of Functions p
  path-of p among = (has.0, has.1, subst (λ ps. Contains ps p) has.2 among)

  alone-path : (p : Path) → Contains paths p → IsPathOf (alone env f) Functions p
  alone-path p among =
      let is = path-of p among in
      (is.0, record { ordered = is.1.ordered; same = λ v. is.1.same v ∙ of_alone.by_kind Functions v }, is.2)

  path-LeadsToPath : (p : Path) → Contains paths p → LeadsToPath env (Applied f args) of_args p
  path-LeadsToPath p among = record {
    question = of;
    reached = first of (inl of_alone);
    path = path-of p among;
    arguments = λ d a.
        let asked = one-further d _ _ a.asked (asks_along of_args (asks (condition_of env args ∷ lists env ∷ []) (readonly env ∷ [])) (map (arguments_of env) a.left) one_args) in
        first d (inr (p, is_in a.left, alone-path p among, one-further d _ _ asked (arguments-question env (atoms_in p.pos) a.left a.among (condition_of env args))));
  }

  pub paths-LeadsToPath : All (LeadsToPath env (Applied f args) of_args) paths
  paths-LeadsToPath = All-weaker (Contains paths) (LeadsToPath env (Applied f args) of_args) path-LeadsToPath paths (All-contains_itself paths)

  pub paths-literals : All (HasLiteralsOf env Functions) paths
  paths-literals = HasPaths-HasLiteralsOf env of Functions paths looks has

  pub paths-IsShort : All IsShort paths
  paths-IsShort = All-weaker (Contains paths) IsShort
      (λ p among. few_literals env small Functions of p (path-of p among) (All-contains (HasLiteralsOf env Functions) paths p paths-literals among)) paths (All-contains_itself paths)

-- ---- the unmarked lists of a type

pub arguments-Gives : (env : List AtomDef) (args : SemType) (one two three four : Diagrams) (a l n r : ℕ) → Gives one (condition_of env args) a → Gives two (lists env) l → Keeps one two → Gives three (and_of (condition two a) (condition two l)) n → Gives four (without (condition three n) (readonly env)) r
    → Gives four (asks (condition_of env args ∷ lists env ∷ []) (readonly env ∷ [])) r
arguments-Gives env args one two three four a l n r of_args of_lists keeps both plain =
    let alone = one-further (condition one a) (condition_of env args) _ of_args.condition (asks_itself (condition_of env args)) in
    let within = gives_as three _ _ n (asks_one_more (condition one a) (condition_of env args ∷ []) (lists env) alone) (and_Gives one two three (lists env) a l n of_args.diagram keeps of_lists both) in
    gives_as four _ _ r (asks_one_less (condition three n) (condition_of env args ∷ lists env ∷ []) [] (readonly env) within.condition) plain
