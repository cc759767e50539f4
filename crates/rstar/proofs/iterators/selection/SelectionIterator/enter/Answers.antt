use Rattle.std.proofs.Common.{◌∙◌, sym, refl, arith, inl, inr}
use Rattle.rstar.proofs.selecting.Traversals.{no-items, room-opened, refused-moved, opened-moved, stepped}
use Rattle.rstar.proofs.iterators.selection.SelectionIterator.enter.Goals as goal
use Rattle.rstar.proofs.iterators.selection.SelectionIterator.enter.Goals.{then-not-is_empty, else-not-is_empty}

pub returns-then-not-should_unpack_parent : goal.returns-then-not-should_unpack_parent
returns-then-not-should_unpack_parent g c =
    let it = c.args.self.now in let refused = sym c.should_unpack_parent.ensures ∙ c.if-not-should_unpack_parent.true in
    let moved = refused-moved (g.Func.Question.accepts it.func) (g.Func.Question.selects it.func) it.path.items it.nodes c.args.rest c.args.parent.now c.requires.first refused in
    stepped g.Func.Question.accepts g.Func.Question.selects it it.path c.args.rest it.opened moved refl (omega (arith, c.requires.way.counted)) c.requires.way

pub push_reserved-requires : goal.push_reserved-requires
push_reserved-requires g c =
    let it = c.args.self.now in
    room-opened (g.Func.Question.accepts it.func) it.root.now it.path.items it.nodes c.args.rest c.args.parent.now c.requires.first c.requires.way

pub returns : goal.returns
returns g c =
    let it = c.args.self.now in let children = c.as_slice-self.result in let count = c.saturating_add-self in
    let accepted = sym c.should_unpack_parent.ensures ∙ c.if-not-should_unpack_parent.false in
    let moved = opened-moved (g.Func.Question.accepts it.func) (g.Func.Question.selects it.func) it.path.items it.nodes c.args.rest children c.args.parent.now c.requires.first accepted c.as_slice-self.ensures.value in
    elim c.if-not-is_empty.branch [
      | then-not-is_empty w ↦
          let path = w.push_reserved.new.self in
          rw w.self-is (stepped g.Func.Question.accepts g.Func.Question.selects it path children count.result (moved path.items (inl w.push_reserved.ensures.items)) w.push_reserved.ensures.capacity (omega (arith, count.ensures)) c.requires.way)
      | else-not-is_empty w ↦
          rw w.self-is (stepped g.Func.Question.accepts g.Func.Question.selects it it.path children count.result (moved it.path.items (inr (refl, no-items _ _ _ c.is_empty.ensures w.if-not-is_empty.false refl))) refl (omega (arith, count.ensures)) c.requires.way)
    ]
