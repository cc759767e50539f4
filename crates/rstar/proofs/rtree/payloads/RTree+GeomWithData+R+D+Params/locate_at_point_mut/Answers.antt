use Rattle.std.proofs.Common.{◌≡◌, ◌∙◌, ◌<◌, ◌≤◌, ◌∷◌, ◌++◌, true, ap, sym, subst, arith, length, refl}
use Rattle.std.proofs.lemmas.Bool.{lt-ltb, le-ltb}
use Rattle.rstar_base.specs.laws.CarrierLaws.{carried_laws}
use Rattle.rstar_base.specs.Points.{table}
use Rattle.rstar_base.specs.Elements.{carried_distances, carried_objects}
use Rattle.rstar.specs.Nodes.{layer_of, children_of}
use Rattle.rstar.specs.inside.WaysDown.{first_at, way_to, child_at}
use Rattle.rstar.specs.Payloads.{with_data, put_payload}
use Rattle.rstar.specs.Trees.{IsWholeTree}
use Rattle.rstar.specs.Changes.{KeepsBox, IsChangedTree}
use Rattle.rstar.proofs.visiting.Changes.{whole-kept, same-outline}
use Rattle.rstar.proofs.visiting.FoundElements.{found-in, changed-in, at-same, search-is-scan}
use Rattle.rstar.proofs.rtree.payloads.RTree+GeomWithData+R+D+Params.locate_at_point_mut.Goals as goal

pub payload_below-requires-clause-begins : goal.payload_below-requires-clause-begins
payload_below-requires-clause-begins g c = c.first_finding-index.ensures ∙ ap (first_at g.R.Envelope.Envelope.boxes (carried_distances g.R.PointDistance.distances (λ t. t.0)) (table g.R.Envelope.Point.Point.DIMENSIONS (g.R.Envelope.Point.Point.coord c.args.point))) c.as_slice.ensures.value

pub payload_below-requires-clause-leads : goal.payload_below-requires-clause-leads
unfolding IsWholeTree
payload_below-requires-clause-leads g c =
    let v = g.R.Envelope.Envelope.boxes in
    let d = carried_distances g.R.PointDistance.distances (λ t. t.0) in
    let p = table g.R.Envelope.Point.Point.DIMENSIONS (g.R.Envelope.Point.Point.coord c.args.point) in
    let root = c.args.self.now.root in
    let first = c.first_finding-index.ensures ∙ ap (first_at v d p) c.as_slice.ensures.value in
    let fits : way_to v d p root < length (children_of root) = let same = ap length c.as_slice.ensures.value in omega (arith, first, c.if-index-len.true, c.len.ensures, c.as_slice.ensures.len) in
    (found-in (λ e. v.contains_point e p) (λ t. d.contains_point t p) c.args.self.now c.requires fits).leads

pub returns-then-index-len : goal.returns-then-index-len
unfolding IsWholeTree
returns-then-index-len g c =
    let v = g.R.Envelope.Envelope.boxes in
    let d = carried_distances g.R.PointDistance.distances (λ t. t.0) in
    let o = carried_objects g.R.RTreeObject.object (λ t. t.0) in
    let p = table g.R.Envelope.Point.Point.DIMENSIONS (g.R.Envelope.Point.Point.coord c.args.point) in
    let tree = c.args.self.now in
    let root = tree.root in
    let whole = c.requires.root_whole in
    let way = way_to v d p in
    let first = c.first_finding-index.ensures ∙ ap (first_at v d p) c.as_slice.ensures.value in
    let fits : way root < length (children_of root) = let same = ap length c.as_slice.ensures.value in omega (arith, first, c.if-index-len.true, c.len.ensures, c.as_slice.ensures.len) in
    let b = found-in (λ e. v.contains_point e p) (λ t. d.contains_point t p) tree c.requires fits in
    let value = c.payload_below.ensures.value in
    let slot = c.payload_below.result.now in
    let is : b.found ≡ (value.0, slot) = at-same way tree.levels (layer_of (child_at root (way root))) b.found (value.0, slot) b.at value.1 in
    let changed : (w : _) → IsChangedTree (KeepsBox o) whole.height tree (put_payload v d p tree w) =
    λ w. changed-in (λ e. v.contains_point e p) (λ t. d.contains_point t p) tree c.requires fits (with_data w) (λ t. (refl, λ is. is)) in (
      refl,
      record {
        writes_back = tt;
        some = sym (lt-ltb (way root) (length (children_of root)) fits)
            ∙ search-is-scan {o = o} {d = d} g.met.R.Envelope.Envelope.envelope_laws (λ t. g.met.R.RTreeObject.object_law t.0) (carried_laws v g.R.RTreeObject.object g.R.PointDistance.distances (λ t. t.0) g.met.R.PointDistance.distance_laws) p c.known.ensures.range whole.height (children_of root) whole.below;
        found = record {
          before = b.before;
          geom = value.0;
          after = b.after;
          contains = subst (λ t. d.contains_point t p ≡ true) is b.selected;
          elements = b.elements_are ∙ ap (λ t. b.before ++ t ∷ b.after) is;
          written = λ w. b.changed (with_data w) ∙ ap (λ t. b.before ++ (t.0, w) ∷ b.after) is;
          outline = λ w. same-outline v o whole.height tree _ (changed w);
          whole = λ w. whole-kept v o _ tree _ c.requires (changed w);
        };
      },
    )

pub returns : goal.returns
unfolding IsWholeTree
returns g c =
    let v = g.R.Envelope.Envelope.boxes in
    let d = carried_distances g.R.PointDistance.distances (λ t. t.0) in
    let o = carried_objects g.R.RTreeObject.object (λ t. t.0) in
    let p = table g.R.Envelope.Point.Point.DIMENSIONS (g.R.Envelope.Point.Point.coord c.args.point) in
    let root = c.args.self.now.root in
    let whole = c.requires.root_whole in
    let first = c.first_finding-index.ensures ∙ ap (first_at v d p) c.as_slice.ensures.value in
    let over : length (children_of root) ≤ way_to v d p root = let same = ap length c.as_slice.ensures.value in omega (arith, first, c.if-index-len.false, c.len.ensures, c.as_slice.ensures.len) in (
      refl,
      record {
        writes_back = tt;
        some = sym (le-ltb (way_to v d p root) (length (children_of root)) over)
            ∙ search-is-scan {o = o} {d = d} g.met.R.Envelope.Envelope.envelope_laws (λ t. g.met.R.RTreeObject.object_law t.0) (carried_laws v g.R.RTreeObject.object g.R.PointDistance.distances (λ t. t.0) g.met.R.PointDistance.distance_laws) p c.known.ensures.range whole.height (children_of root) whole.below;
        found = tt;
      },
    )
