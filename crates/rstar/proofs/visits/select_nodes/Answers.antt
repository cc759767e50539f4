use Rattle.std.proofs.Common.{ap, sym, ◌∙◌, subst}
use Rattle.rstar.specs.Nodes.{all_given, given_of}
use Rattle.rstar.specs.Visits.{Visits}
use Rattle.rstar.proofs.selecting.Complete.{part-root, all-root, gives_none, gives_below}
use Rattle.rstar.proofs.visiting.Visits.{visits_none}
use Rattle.rstar.proofs.visits.select_nodes.Goals as goal

-- an empty root, or one that is refused
pub returns-then-not-enters : goal.returns-then-not-enters
returns-then-not-enters g c =
    let accepts = g.F.SelectionFunction.accepts c.args.func.now in
    let selects = g.F.SelectionFunction.selects c.args.func.now in let root = c.args.root.now in
    record {
      visited = given_of accepts selects root;
      part = part-root accepts selects root;
      complete = λ both. all-root g.met.T.Envelope.Envelope.envelope_laws g.met.T.RTreeObject.object_law accepts selects both.1 root both.0;
      visits = visits_none (λ t. t.now) (goal.V-step g) c.args.visitor.now _ (gives_none accepts selects root (c.enters.ensures.refused c.if-not-enters.true));
    }

pub returns : goal.returns
returns g c =
    let accepts = g.F.SelectionFunction.accepts c.args.func.now in
    let selects = g.F.SelectionFunction.selects c.args.func.now in let root = c.args.root.now in
    let same = gives_below accepts selects root (c.enters.ensures.entered c.if-not-enters.false).1 ∙ ap (all_given accepts selects) (sym c.as_slice.ensures.value) in
    record {
      visited = given_of accepts selects root;
      part = part-root accepts selects root;
      complete = λ both. all-root g.met.T.Envelope.Envelope.envelope_laws g.met.T.RTreeObject.object_law accepts selects both.1 root both.0;
      visits = subst (λ l. Visits (λ t. t.now) (goal.V-step g) c.args.visitor.now l c.visit_nodes.result c.visit_nodes.new.visitor) (sym same) c.visit_nodes.ensures;
    }
