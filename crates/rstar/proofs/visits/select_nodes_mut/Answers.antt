use Rattle.std.proofs.Common.{refl}
use Rattle.rstar.specs.Nodes.{children_of}
use Rattle.rstar.proofs.visiting.Changes.{root-kept}
use Rattle.rstar.proofs.inserting.Insertion.{trees_map}
use Rattle.rstar.proofs.visiting.Writing.{refilled, passed-writes, unchanged, within-root}
use Rattle.rstar.proofs.visits.select_nodes_mut.Goals as goal

-- ---- an empty root, or one that is refused

pub returns-then-not-enters : goal.returns-then-not-enters
returns-then-not-enters g c =
    let o = g.T.RTreeObject.object in let accepts = g.F.SelectionFunction.accepts c.args.func.now in
    let selects = g.F.SelectionFunction.selects c.args.func.now in let root = c.args.root.now in
    record {
      written = within-root g.met.T.Envelope.Envelope.envelope_laws g.met.T.RTreeObject.object_law accepts selects (goal.V-step g) root
          (passed-writes o accepts selects (goal.V-step g) c.args.visitor.now root (c.enters.ensures.refused c.if-not-enters.true));
      whole = λ whole. whole;
      changed = λ h w. record { envelope = refl; children = unchanged o accepts selects (goal.V-step g) h (children_of root) w };
    }

-- ---- its children

pub returns-clause-written : goal.returns-clause-written
returns-clause-written g c =
    let o = g.T.RTreeObject.object in let accepts = g.F.SelectionFunction.accepts c.args.func.now in
    let selects = g.F.SelectionFunction.selects c.args.func.now in let root = c.args.root.now in
    let below = refilled o accepts selects (goal.V-step g) root.children c.as_mut_slice.result.now c.visit_nodes_mut.new.nodes c.args.visitor.now c.visit_nodes_mut.result c.visit_nodes_mut.new.visitor
    c.as_mut_slice.ensures.value c.visit_nodes_mut.auto.nodes c.visit_nodes_mut.ensures in
    within-root g.met.T.Envelope.Envelope.envelope_laws g.met.T.RTreeObject.object_law accepts selects (goal.V-step g) root
    (rw (c.enters.ensures.entered c.if-not-enters.false).1 below.written)

pub returns-clause-changed : goal.returns-clause-changed
returns-clause-changed g c = λ h w.
    let below = refilled g.T.RTreeObject.object (g.F.SelectionFunction.accepts c.args.func.now) (g.F.SelectionFunction.selects c.args.func.now) (goal.V-step g) c.args.root.now.children c.as_mut_slice.result.now c.visit_nodes_mut.new.nodes
    c.args.visitor.now c.visit_nodes_mut.result c.visit_nodes_mut.new.visitor c.as_mut_slice.ensures.value c.visit_nodes_mut.auto.nodes c.visit_nodes_mut.ensures in
    record { envelope = refl; children = below.changed c.requires.keeps h w }

pub returns-clause-whole : goal.returns-clause-whole
returns-clause-whole g c = λ whole.
    root-kept g.T.Envelope.Envelope.boxes g.T.RTreeObject.object c.args.root.now _ whole
    (returns-clause-changed g c whole.height (trees_map (λ p k. tt) (λ t k. tt) whole.height (children_of c.args.root.now) whole.below))
