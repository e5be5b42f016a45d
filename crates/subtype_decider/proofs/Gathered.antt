-- The paths of a question, gathered kind by kind.
use Rattle.std.proofs.Common.{◌≡◌, ⊎_elim, List, [], map, All, Any, Contains, refl, sym, subst, ◌∙◌, ap, arith}
use Rattle.std.proofs.lemmas.List.Elements.{All-nil, All-append, All-map}
use Rattle.bal_base.specs.declared.shape.Shape.{Shape}
use Rattle.type_model.specs.declared.atoms.AtomDef.{AtomDef}
use Rattle.type_diagrams.specs.declared.kind.Kind.{Kind}
use Rattle.type_diagrams.specs.declared.kind.Kind.TheVariants.{List as Lists, Mapping as Mappings, Error as Errors, Function as Functions, Future as Futures}
use Rattle.type_diagrams.specs.declared.path.Path.{Path}
use Rattle.type_diagrams.specs.Kinds.{IsOfKind}
use Rattle.type_diagrams.specs.Paths.{IsOnPath}
use Rattle.type_diagrams.specs.Conditions.{Condition, Meets}
use Rattle.type_diagrams.specs.Questions.{IsPathOf}
use Rattle.subtype_decider.specs.declared.way.Way.{Way}
use Rattle.subtype_decider.specs.Paths.{way, GainsWays}
use Rattle.subtype_decider.specs.Working.{HasWays}
use Rattle.subtype_decider.proofs.Members.{Any-Contains, Contains-Any, All-from_Contains, Any-left, Any-right, Any-append_cases, map-Contains, Contains-map}

module _ (c : Condition) where
  abbrev IsWay : Way → Type 0
  IsWay w = IsPathOf c w.kind w.path

  abbrev On : List AtomDef → Kind → Shape → Way → Type 0
  On env k x w = (w.kind ≡ k) × IsOnPath env k w.path x

  abbrev Covers : Kind → List Way → Type 0
  Covers k ways = (env : List AtomDef) (x : Shape) → IsOfKind k x → Meets env c x → Any (On env k x) ways

  abbrev AreWithin : List Way → Type 0
  AreWithin ways = (env : List AtomDef) (k : Kind) (x : Shape) → IsOfKind k x → Any (On env k x) ways → Meets env c x

  module _ (j : Kind) (old new : List Way) (g : GainsWays c j old new) where
    more-IsWay : All IsWay old → All IsWay new
    more-IsWay all =
        subst (All IsWay) (sym g.now)
        (All-append IsWay old (map (way j) g.paths) all
        (All-map IsWay (way j) g.paths (All-from_Contains (λ p. IsPathOf c j p) g.paths (λ p m. (g.ordered.0, g.ordered.1, subst (λ ps. Contains ps p) g.ordered.2 m)))))

    more-Covers : (k : Kind) → Covers k old → Covers k new
    more-Covers k covers env x of_kind meets = subst (Any (On env k x)) (sym g.now) (Any-left (On env k x) old (map (way j) g.paths) (covers env x of_kind meets))

    own-Covers : Covers j new
    own-Covers env x of_kind meets =
        let on = Any-Contains (λ p. IsOnPath env j p x) g.paths ((g.shapes env x of_kind).0 meets) in
        subst (Any (On env j x)) (sym g.now)
        (Any-right (On env j x) old (map (way j) g.paths) (Contains-Any (On env j x) (map (way j) g.paths) (way j on.0) (Contains-map (way j) g.paths on.0 on.1) (refl, on.2)))

    more-AreWithin : AreWithin old → AreWithin new
    more-AreWithin within env k x of_kind any =
        ⊎_elim
        (λ (a : Any (On env k x) old). within env k x of_kind a)
        (λ (b : Any (On env k x) (map (way j) g.paths)).
        let w = Any-Contains (On env k x) (map (way j) g.paths) b in
        let p = map-Contains (way j) g.paths w.0 w.1 in
        let is : j ≡ k = ap (λ v. v.kind) p.2 ∙ w.2.0 in
        let on : IsOnPath env k p.0 x = subst (λ (q : Path). IsOnPath env k q x) (sym (ap (λ v. v.path) p.2)) w.2.1 in
        (g.shapes env x (subst (λ n. IsOfKind n x) (sym is) of_kind)).1 (Contains-Any (λ q. IsOnPath env j q x) g.paths p.0 p.1 (subst (λ n. IsOnPath env n p.0 x) (sym is) on)))
        (Any-append_cases (On env k x) old (map (way j) g.paths) (subst (Any (On env k x)) g.now any))

  pub gathered-HasWays : (a b d e f : List Way) → GainsWays c Lists [] a → GainsWays c Mappings a b → GainsWays c Errors b d → GainsWays c Functions d e → GainsWays c Futures e f → HasWays c f
  gathered-HasWays a b d e f ga gb gd ge gf = record {
    each = more-IsWay Futures e f gf (more-IsWay Functions d e ge (more-IsWay Errors b d gd (more-IsWay Mappings a b gb (more-IsWay Lists [] a ga (All-nil IsWay)))));
    all = λ env k x of_kind. (covers k env x of_kind, within env k x of_kind);
  }
    where
      within : AreWithin f
      within =
          more-AreWithin Futures e f gf (more-AreWithin Functions d e ge (more-AreWithin Errors b d gd (more-AreWithin Mappings a b gb (more-AreWithin Lists [] a ga (λ env k x of_kind any. absurd (omega (arith, any.2)))))))

      covers : (k : Kind) → Covers k f
      covers Lists = more-Covers Futures e f gf Lists (more-Covers Functions d e ge Lists (more-Covers Errors b d gd Lists (more-Covers Mappings a b gb Lists (own-Covers Lists [] a ga))))
      covers Mappings = more-Covers Futures e f gf Mappings (more-Covers Functions d e ge Mappings (more-Covers Errors b d gd Mappings (own-Covers Mappings a b gb)))
      covers Errors = more-Covers Futures e f gf Errors (more-Covers Functions d e ge Errors (own-Covers Errors b d gd))
      covers Functions = more-Covers Futures e f gf Functions (own-Covers Functions d e ge)
      covers Futures = own-Covers Futures e f gf
